use Rattle.std.proofs.Common.{rules, ◌≡◌, ◌∙◌, ℕ, length, map, sym, ap, subst}
use Rattle.std.specs.Prelude.{Some}
use Rattle.std.proofs.lemmas.List.{length-map}
use Rattle.ov_host.specs.declared.area.Extent.{Extent}
use Rattle.ov_catalog.specs.Numbers.{Numbers}
use Rattle.ov_catalog.specs.Sets as sets
use Rattle.ov_store.specs.Refusals.{IsVidOff}
use Rattle.ov_store.specs.Scanning.{IsUndamaged, IsUnscanned, scan_off, set_in}
use Rattle.ov_store.proofs.Versions.{vids_undamaged, vids_unscanned}
use Rattle.ov_store.proofs.store.Store.may_scan.Goals as goal

pub returns-in_err-_listed-clause-why : goal.returns-in_err-_listed-clause-why
returns-in_err-_listed-clause-why c = λ s.
    let found : set_in c.args.self.now.held.numbers c.args.name.now ≡ Some (sets.set_in c.in-Some.d.now)
    = subst (λ (n : Numbers Extent Extent). set_in n c.args.name.now ≡ Some (sets.set_in c.in-Some.d.now)) (c.catalog.ensures ∙ ap (λ kept. kept.held.numbers) c.self.view_is) (sym c.in-Some.ensures.found)
    in let count : c.len.result ≡ length (map sets.version_in c.in-Some.d.now.versions.items) = search (rules, length-map c.in-Some.d.now.versions.items sets.version_in)
    in let fact : IsUnscanned (scan_off c.args.self.now.held.numbers c.args.name.now c.args.vids.now) (set_in c.args.self.now.held.numbers c.args.name.now) c.args.vids.now s s c.in_err-_listed.field-0.0
    = vids_unscanned c.args.self.now.held.numbers c.args.name.now (sets.set_in c.in-Some.d.now) c.args.vids.now s c.in_err-_listed.field-0.0 found
    (subst (λ (n : ℕ). IsVidOff n c.args.vids.now c.in_err-_listed.field-0.0) count c.in_err-_listed.ensures)
    in search (rules, fact)

pub returns-in_err-_listed-clause-undamaged : goal.returns-in_err-_listed-clause-undamaged
returns-in_err-_listed-clause-undamaged c =
    let fact : IsUndamaged c.in_err-_listed.field-0.0 = vids_undamaged c.len.result c.args.vids.now c.in_err-_listed.field-0.0 c.in_err-_listed.ensures
    in search (rules, fact)
