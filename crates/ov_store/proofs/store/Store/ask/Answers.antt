use Rattle.std.proofs.Common.{rules, ◌≡◌, ◌∙◌, ℕ, List, length, sym, subst}
use Rattle.std.specs.List.{All}
use Rattle.ov_value.specs.Shapes.{Shape}
use Rattle.ov_value.specs.Spelling.{IsRow}
use Rattle.ov_catalog.specs.Reached.{AreParents}
use Rattle.ov_catalog.specs.Sets as sets
use Rattle.ov_store.specs.Committing.{commit_off}
use Rattle.ov_store.specs.Unready.{IsRefused}
use Rattle.ov_store.proofs.Asking.{parents_first}
use Rattle.ov_store.proofs.Fitting.{rows_sorted}
use Rattle.ov_store.proofs.Versions.{are_parents}
use Rattle.ov_store.proofs.Widening.{made_for}
use Rattle.ov_store.proofs.store.Store.ask.Goals as goal

pub returns-in_err-d-clause-why : goal.returns-in_err-d-clause-why
returns-in_err-d-clause-why c =
    let fact : IsRefused (commit_off c.args.self.now.held c.args.name.now c.args.parents.now c.args.added.now c.args.rows) c.in_err-d.field-0.0
    = parents_first c.args.self.now.held c.args.name.now c.args.parents.now c.args.added.now c.args.rows c.in_err-d.field-0.0 c.in_err-d.ensures.why
    in search (rules, fact)

pub returns-clause-parents : goal.returns-clause-parents
returns-clause-parents c =
    let passed = c.in_ok-d.ensures.listed
    in subst (λ (xs : List ℕ). AreParents (length c.in_ok-d.field-0.d.now.versions.items) xs) (sym passed.listed_are)
    (are_parents (length c.in_ok-d.field-0.d.now.versions.items) c.args.parents.now c.requires.some passed.passed)

pub returns-clause-fit : goal.returns-clause-fit
returns-clause-fit c =
    let takes = c.requires.fit (sets.set_in c.in_ok-d.field-0.d.now) c.in_ok-d.ensures.found
    in let same : takes.wider ≡ c.in-Ok.schema = sym (made_for c.in_ok-d.field-0.d.now.schema takes.wider c.args.added.now takes.with) ∙ made_for c.in_ok-d.field-0.d.now.schema c.in-Ok.schema c.args.added.now c.in-Ok.ensures.ok
    in rows_sorted c.in-Ok.schema c.args.rows c.in_ok-rows.rows c.in_ok-rows.ensures.kept c.in_ok-rows.ensures.rise c.in_ok-rows.ensures.few
    (subst (λ (s : Shape). All (IsRow s) c.args.rows) same takes.fit) c.requires.short
