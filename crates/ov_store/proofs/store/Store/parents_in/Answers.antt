use Rattle.std.proofs.Common.{rules, ◌≡◌, ◌∙◌, ℕ, nat_le, length, map, sym, ap, subst}
use Rattle.std.specs.Prelude.{Option, Some}
use Rattle.std.specs.Option.{option_or}
use Rattle.std.proofs.lemmas.List.{length-map}
use Rattle.ov_host.specs.declared.area.Extent.{Extent}
use Rattle.ov_catalog.specs.Numbers.{Numbers}
use Rattle.ov_catalog.specs.Sets as sets
use Rattle.ov_store.specs.declared.errors.StoreErr.{StoreErr}
use Rattle.ov_store.specs.declared.errors.StoreErr.TheVariants as why
use Rattle.ov_store.specs.Committing.{Set, parents_off_in}
use Rattle.ov_store.specs.Refusals.{IsVidOff, off_if}
use Rattle.ov_store.specs.Scanning.{set_in}
use Rattle.ov_store.specs.Unready.{IsRefused}
use Rattle.ov_store.proofs.Versions.{vids_refuse}
use Rattle.ov_store.proofs.store.Store.parents_in.Goals as goal

pub returns-in_err-vids-clause-why : goal.returns-in_err-vids-clause-why
returns-in_err-vids-clause-why c =
    let set : Set = sets.set_in c.in-Some.d.now
    in let found : set_in c.args.self.now.held.numbers c.args.name.now ≡ Some set
    = subst (λ (n : Numbers Extent Extent). set_in n c.args.name.now ≡ Some set) (c.catalog.ensures ∙ ap (λ kept. kept.held.numbers) c.self.view_is) (sym c.in-Some.ensures.found)
    in let count : c.len.result ≡ length (map sets.version_in c.in-Some.d.now.versions.items) = search (rules, length-map c.in-Some.d.now.versions.items sets.version_in)
    in let fact : IsRefused (parents_off_in (set_in c.args.self.now.held.numbers c.args.name.now) c.args.parents.now) c.in_err-vids.field-0.0
    = vids_refuse (parents_off_in (set_in c.args.self.now.held.numbers c.args.name.now) c.args.parents.now) (length set.versions) c.args.parents.now c.in_err-vids.field-0.0
    (subst (λ (n : ℕ). IsVidOff n c.args.parents.now c.in_err-vids.field-0.0) count c.in_err-vids.ensures)
    (λ x is. ap (λ o. parents_off_in o c.args.parents.now) found ∙ ap (λ (o : Option StoreErr). option_or o (off_if (nat_le 65535 (length set.versions)) why.TooManyVersions)) is)
    in search (rules, fact)
