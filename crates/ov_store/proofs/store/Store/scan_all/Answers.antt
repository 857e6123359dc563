use Rattle.std.proofs.Common.{rules, ◌≡◌, ◌≤◌, ◌∙◌, ℕ, List, length, slice_index_or, sym, ap, subst, map}
use Rattle.std.specs.Prelude.{Some}
use Rattle.std.specs.List.{All, AllZip}
use Rattle.std.proofs.lemmas.List.{length-map}
use Rattle.ov_host.specs.declared.area.Extent.{Extent}
use Rattle.ov_fetch.specs.Extents.{page_bytes}
use Rattle.ov_fetch.specs.Scans.{rows_at}
use Rattle.ov_model.specs.Placed.{times}
use Rattle.ov_model.specs.Records.{counted, rows_at as rows_of}
use Rattle.ov_catalog.specs.Numbers.{Numbers, SetNumbers}
use Rattle.ov_catalog.specs.Sets as sets
use Rattle.ov_read.specs.Agreement.{IsThere}
use Rattle.ov_read.specs.Damages.{IsDamage, RefusesScan}
use Rattle.ov_read.specs.Found.{IsScanned}
use Rattle.ov_read.specs.OfWorld.{IsSetOf}
use Rattle.law_reads.proofs.Counted.{numbers}
use Rattle.law_reads.proofs.Served.{scan_spared}
use Rattle.law_reads.proofs.Scanned.{have_rows}
use Rattle.law_reads.proofs.Undamaged.{scan_finds_none}
use Rattle.ov_store.specs.Errors.{of_fetch}
use Rattle.ov_store.specs.Scanning.{IsUndamaged, set_in, vids_in}
use Rattle.ov_store.proofs.Seeing.{found_set, spared}
use Rattle.ov_store.proofs.Versions.{served_there}
use Rattle.ov_store.proofs.Whole.{all_there_in, all_once_in, the_set, vids_are}
use Rattle.ov_store.proofs.store.Store.scan_all.Goals as goal

pub scan_versions-requires-clause-there : goal.scan_versions-requires-clause-there
scan_versions-requires-clause-there g c =
    let are : c.in_ok-vids.vids.items ≡ vids_in (sets.set_in c.in-Some.d.now) = vids_are c.in-Some.d.now c.len.result c.in_ok-vids.vids.items (search rules) c.in_ok-vids.ensures
    in subst (All (IsThere (sets.set_in c.in-Some.d.now))) (sym are) (all_there_in (sets.set_in c.in-Some.d.now))

pub scan_versions-requires-clause-once : goal.scan_versions-requires-clause-once
scan_versions-requires-clause-once g c = λ vid.
    let are : c.in_ok-vids.vids.items ≡ vids_in (sets.set_in c.in-Some.d.now) = vids_are c.in-Some.d.now c.len.result c.in_ok-vids.vids.items (search rules) c.in_ok-vids.ensures
    in subst (λ (xs : List ℕ). times xs vid ≤ 1) (sym are) (all_once_in (sets.set_in c.in-Some.d.now) vid)

pub scan_versions-requires-clause-placed : goal.scan_versions-requires-clause-placed
scan_versions-requires-clause-placed g c = λ k d below.
    let are : c.in_ok-vids.vids.items ≡ vids_in (sets.set_in c.in-Some.d.now) = vids_are c.in-Some.d.now c.len.result c.in_ok-vids.vids.items (search rules) c.in_ok-vids.ensures
    in let there : All (IsThere (sets.set_in c.in-Some.d.now)) c.in_ok-vids.vids.items = subst (All (IsThere (sets.set_in c.in-Some.d.now))) (sym are) (all_there_in (sets.set_in c.in-Some.d.now))
    in let most : slice_index_or c.in_ok-vids.vids.items k d ≤ length c.in-Some.d.now.versions.items
    = subst (λ (n : ℕ). slice_index_or c.in_ok-vids.vids.items k d ≤ n) (length-map c.in-Some.d.now.versions.items sets.version_in) (there k d below).1
    in served_there c.in-Some.d.now (slice_index_or c.in_ok-vids.vids.items k d) c.in-Some.ensures.sound (there k d below).0 most

pub returns-in_err-scan_versions-clause-world : goal.returns-in_err-scan_versions-clause-world
returns-in_err-scan_versions-clause-world g c = λ w d at named.
    let found : set_in c.args.self.now.held.numbers c.args.name.now ≡ Some (sets.set_in c.in-Some.d.now)
    = subst (λ (n : Numbers Extent Extent). set_in n c.args.name.now ≡ Some (sets.set_in c.in-Some.d.now)) (c.catalog.ensures ∙ ap (λ kept. kept.held.numbers) c.self.view_is) (sym c.in-Some.ensures.found)
    in let are : c.in_ok-vids.vids.items ≡ vids_in (sets.set_in c.in-Some.d.now) = vids_are c.in-Some.d.now c.len.result c.in_ok-vids.vids.items (search rules) c.in_ok-vids.ensures
    in let area : List ℕ = page_bytes (g.H.Host.state c.args.host.now)
    in let is : IsSetOf w d area (sets.set_in c.in-Some.d.now)
    = found_set w c.args.self.now.held (g.H.Host.state c.args.host.now) at c.args.name.now (sets.set_in c.in-Some.d.now) d found named
    in let fact : IsUndamaged (of_fetch c.in_err-scan_versions.field-0.0)
    = spared c.in_err-scan_versions.field-0.0 (scan_spared w area (sets.set_in c.in-Some.d.now) d (vids_in (sets.set_in c.in-Some.d.now)) c.in_err-scan_versions.field-0.0 is
    (all_there_in (sets.set_in c.in-Some.d.now))
    (subst (λ (xs : List ℕ). RefusesScan c.in_err-scan_versions.field-0.0 area (sets.set_in c.in-Some.d.now) xs) are (c.in_err-scan_versions.ensures.answer at.at.told)))
    in search (rules, fact)

pub returns-clause-world : goal.returns-clause-world
returns-clause-world g c = λ w d at named.
    let found : set_in c.args.self.now.held.numbers c.args.name.now ≡ Some (sets.set_in c.in-Some.d.now)
    = subst (λ (n : Numbers Extent Extent). set_in n c.args.name.now ≡ Some (sets.set_in c.in-Some.d.now)) (c.catalog.ensures ∙ ap (λ kept. kept.held.numbers) c.self.view_is) (sym c.in-Some.ensures.found)
    in let are : c.in_ok-vids.vids.items ≡ vids_in (sets.set_in c.in-Some.d.now) = vids_are c.in-Some.d.now c.len.result c.in_ok-vids.vids.items (search rules) c.in_ok-vids.ensures
    in let area : List ℕ = page_bytes (g.H.Host.state c.args.host.now)
    in let is : IsSetOf w d area (sets.set_in c.in-Some.d.now)
    = found_set w c.args.self.now.held (g.H.Host.state c.args.host.now) at c.args.name.now (sets.set_in c.in-Some.d.now) d found named
    in let same : vids_in (sets.set_in c.in-Some.d.now) ≡ counted 1 (length d.cvd.versions) = ap (counted 1) (numbers w area (sets.set_in c.in-Some.d.now) d is).versions
    in let rows : map (rows_at c.in_ok-scan_versions.field-0.records) c.in_ok-scan_versions.field-0.picks ≡ map (rows_of d.cvd.versions) (vids_in (sets.set_in c.in-Some.d.now))
    = have_rows w area (sets.set_in c.in-Some.d.now) d c.in_ok-scan_versions.field-0.records (vids_in (sets.set_in c.in-Some.d.now)) c.in_ok-scan_versions.field-0.picks is
    (all_there_in (sets.set_in c.in-Some.d.now))
    (subst (λ (xs : List ℕ). AllZip (IsScanned area (sets.set_in c.in-Some.d.now) c.in_ok-scan_versions.field-0.records) xs c.in_ok-scan_versions.field-0.picks)
    are (c.in_ok-scan_versions.ensures.answer at.at.told))
    in (c.in_ok-scan_versions.ensures.vids ∙ are ∙ same, rows ∙ ap (map (rows_of d.cvd.versions)) same)

pub returns-clause-undamaged : goal.returns-clause-undamaged
returns-clause-undamaged g c = λ s told named page.
    let found : set_in c.args.self.now.held.numbers c.args.name.now ≡ Some (sets.set_in c.in-Some.d.now)
    = subst (λ (n : Numbers Extent Extent). set_in n c.args.name.now ≡ Some (sets.set_in c.in-Some.d.now)) (c.catalog.ensures ∙ ap (λ kept. kept.held.numbers) c.self.view_is) (sym c.in-Some.ensures.found)
    in let are : c.in_ok-vids.vids.items ≡ vids_in (sets.set_in c.in-Some.d.now) = vids_are c.in-Some.d.now c.len.result c.in_ok-vids.vids.items (search rules) c.in_ok-vids.ensures
    in let area : List ℕ = page_bytes (g.H.Host.state c.args.host.now)
    in let is : sets.set_in c.in-Some.d.now ≡ s = the_set (sets.set_in c.in-Some.d.now) s (sym found ∙ named)
    in subst (λ (x : SetNumbers Extent Extent). IsDamage area x (vids_in x) page → ⊥) is
    (scan_finds_none area (sets.set_in c.in-Some.d.now) c.in_ok-scan_versions.field-0.records (vids_in (sets.set_in c.in-Some.d.now)) c.in_ok-scan_versions.field-0.picks page
    (subst (λ (xs : List ℕ). AllZip (IsScanned area (sets.set_in c.in-Some.d.now) c.in_ok-scan_versions.field-0.records) xs c.in_ok-scan_versions.field-0.picks)
    are (c.in_ok-scan_versions.ensures.answer told)))
