use Rattle.std.proofs.Common.{◌≡◌, ◌<◌, ◌-◌, [], ◌∷◌, length, sym, ◌∙◌, ap, subst}
use Rattle.std.specs.Prelude.{Some}
use Rattle.ov_host.specs.declared.area.Extent.{Extent}
use Rattle.ov_catalog.specs.Numbers.{Numbers}
use Rattle.ov_catalog.specs.Sets as sets
use Rattle.ov_read.specs.Agreement.{IsThere, list_of}
use Rattle.ov_read.proofs.Numbered.{list_is, there as there_in}
use Rattle.ov_store.specs.Committing.{Set}
use Rattle.ov_store.specs.Scanning.{set_in, versions_off}
use Rattle.ov_generate.proofs.Reading.{set_same, vid_there}
use Rattle.ov_generate.proofs.parent.list_page.Goals as goal

pub returns : goal.returns
returns c = λ set named.
    let d = c.in-Some.d.now
    in let found : Some (sets.set_in d) ≡ set_in c.args.store.now.held.numbers c.args.cvd.now
    = subst (λ (n : Numbers Extent Extent). Some (sets.set_in d) ≡ set_in n c.args.cvd.now) c.catalog.ensures c.in-Some.ensures.found
    in let same : sets.set_in d ≡ set = set_same (sets.set_in d) set (set_in c.args.store.now.held.numbers c.args.cvd.now) found named
    in let there = vid_there (length set.versions) c.args.vid (sym (ap (λ o. versions_off o (c.args.vid ∷ [])) named) ∙ c.requires.there)
    in let within : c.args.vid - 1 < length d.versions.items = there_in d c.args.vid (subst (λ (x : Set). IsThere x c.args.vid) (sym same) there)
    in sym (ap (λ (e : Extent). e.page) (list_is d c.args.vid c.index.result.now within c.index.ensures)) ∙ ap (λ (x : Set). (list_of x c.args.vid).page) same
