use Rattle.std.proofs.Common.{◌≡◌, ℕ, List, Some, sym, ◌∙◌, ap}
use Rattle.std.specs.Prelude.{find, is_some, option_map, option_copied}
use Rattle.ov_catalog.specs.Applying.{is_named}
use Rattle.ov_catalog.specs.Sets.{set_in}
use Rattle.ov_migrate.proofs.Replayed.{Set, first_found, named_again}
use Rattle.law_steps.specs.Turns.{running}
use Rattle.ov_migrate.proofs.running.running_of.Goals as goal

pub returns-in-Some-clause-first : goal.returns-in-Some-clause-first
returns-in-Some-clause-first c =
    let n = c.args.catalog.now.numbers in
    let s : Set = set_in c.in-Some.d.now in
    let first : running n ≡ Some s =
    ap (λ (sets : List Set). find (λ x. is_some x.plan) sets) (sym c.cvds.ensures.sets)
    ∙ sym c.first_running.ensures
    ∙ ap (λ o. option_map set_in (option_copied o)) c.in-Some.is in
    c.cvd.ensures.found
    ∙ ap (λ (name : List ℕ). find (is_named name) n.sets) c.as_str.ensures.text
    ∙ named_again n s c.requires (first_found (λ x. is_some x.plan) n.sets s first)
    ∙ sym first
