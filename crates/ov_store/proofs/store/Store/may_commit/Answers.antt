use Rattle.std.proofs.Common.{rules, ◌≡◌, ◌∙◌, length, sym, ap}
use Rattle.std.specs.Prelude.{None}
use Rattle.std.proofs.lemmas.List.{length-map}
use Rattle.ov_model.specs.World.{set_named}
use Rattle.ov_catalog.specs.Sets as sets
use Rattle.ov_new_version.proofs.Answering.{err_match}
use Rattle.ov_store.specs.Committing.{parents_off, parents_off_in}
use Rattle.ov_store.specs.Refusals.{refused}
use Rattle.ov_store.specs.Scanning.{set_in}
use Rattle.ov_store.specs.Worlds.{HasSchema, IsByNumbers, IsRefusedAs, parents_refusal}
use Rattle.ov_store.proofs.Asking.{parents_none, refused_by_numbers}
use Rattle.ov_store.proofs.Deciding.{parents_in_world, parents_world, schema_world}
use Rattle.ov_store.proofs.Lacking.{numbers_refuse}
use Rattle.ov_store.proofs.store.Store.may_commit.Goals as goal

pub returns-in_err-d-clause-world : goal.returns-in_err-d-clause-world
returns-in_err-d-clause-world c = λ w s at.
    let off = parents_off_in (set_in c.args.self.now.held.numbers c.args.name.now) c.args.parents.now
    in let world = parents_refusal w c.args.name.now c.args.parents.now
    in err_match (λ d. (world ≡ None) × HasSchema d.now.schema (set_named w c.args.name.now)) (IsRefusedAs c.args.name.now world) c.from_residual.result c.in_err-d.field-0.0 c.from_residual.ensures
    (numbers_refuse c.args.name.now off world c.in_err-d.field-0.0 (parents_in_world w c.args.self.now.held s at c.args.name.now c.args.parents.now) c.in_err-d.ensures.why)

pub returns-in_err-d-clause-why : goal.returns-in_err-d-clause-why
returns-in_err-d-clause-why c =
    let off = parents_off_in (set_in c.args.self.now.held.numbers c.args.name.now) c.args.parents.now
    in let fact : IsByNumbers c.in_err-d.field-0.0 = refused_by_numbers off c.in_err-d.field-0.0 c.in_err-d.ensures.why
    in search (rules, fact)

pub returns-clause-world : goal.returns-clause-world
returns-clause-world c = λ w s at.
    let d = c.in_ok-d.field-0.d.now
    in let none : parents_off (sets.set_in d) c.args.parents.now ≡ None
    = parents_none (sets.set_in d) (length d.versions.items) c.args.parents.now c.in_ok-d.field-0.vids.items c.in_ok-d.ensures.listed (sym (length-map d.versions.items sets.version_in)) c.in_ok-d.ensures.few
    in (
      sym (parents_world w c.args.self.now.held s at c.args.name.now (sets.set_in d) c.in_ok-d.ensures.found c.args.parents.now) ∙ ap (refused c.args.name.now) none,
      schema_world w c.args.self.now.held s at c.args.name.now (sets.set_in d) c.in_ok-d.ensures.found,
    )
