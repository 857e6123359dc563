use Rattle.std.proofs.Common.{rules, ◌≡◌, ◌≤◌, ◌∙◌, ℕ, List, [], slice_index_or, length, map, sym, ap, subst}
use Rattle.std.specs.Prelude.{None, Some}
use Rattle.std.specs.List.{All, AllZip}
use Rattle.std.proofs.lemmas.List.{length-map}
use Rattle.ov_host.specs.declared.area.Extent.{Extent}
use Rattle.ov_fetch.specs.Extents.{page_bytes}
use Rattle.ov_model.specs.Placed.{times}
use Rattle.ov_catalog.specs.Numbers.{Numbers, SetNumbers}
use Rattle.ov_catalog.specs.Sets as sets
use Rattle.ov_read.specs.Agreement.{IsThere}
use Rattle.ov_read.specs.Damages.{IsDamage, RefusesScan}
use Rattle.ov_read.specs.Found.{IsScanned}
use Rattle.ov_read.specs.OfWorld.{IsSetOf}
use Rattle.law_reads.proofs.Served.{scan_spared}
use Rattle.law_reads.proofs.Scanned.{have_rows}
use Rattle.law_reads.proofs.Undamaged.{scan_finds_none}
use Rattle.ov_store.specs.declared.errors.StoreErr.TheVariants.{Memory}
use Rattle.ov_store.specs.Errors.{of_fetch}
use Rattle.ov_store.specs.Listing.{IsListed}
use Rattle.ov_store.specs.Refusals.{IsVidOff, vids_off}
use Rattle.ov_store.specs.Scanning.{IsUndamaged, IsUnscanned, scan_off, set_in}
use Rattle.ov_store.proofs.Versions.{all_there, listed_once, no_vids, not_off, served_there, vids_undamaged, vids_unscanned}
use Rattle.ov_store.proofs.Seeing.{found_set, spared}
use Rattle.ov_store.proofs.store.Store.scan.Goals as goal

pub returns-in_err-vids-clause-why : goal.returns-in_err-vids-clause-why
returns-in_err-vids-clause-why g c =
    let found : set_in c.args.self.now.held.numbers c.args.name.now ≡ Some (sets.set_in c.in-Some.d.now)
    = subst (λ (n : Numbers Extent Extent). set_in n c.args.name.now ≡ Some (sets.set_in c.in-Some.d.now)) (c.catalog.ensures ∙ ap (λ kept. kept.held.numbers) c.self.view_is) (sym c.in-Some.ensures.found)
    in let count : c.len.result ≡ length (map sets.version_in c.in-Some.d.now.versions.items) = search (rules, length-map c.in-Some.d.now.versions.items sets.version_in)
    in let fact : IsUnscanned (scan_off c.args.self.now.held.numbers c.args.name.now c.args.vids.now) (set_in c.args.self.now.held.numbers c.args.name.now) c.args.vids.now
    (g.H.Host.state c.args.host.now) (g.H.Host.state c.args.host.now) c.in_err-vids.field-0.0
    = vids_unscanned c.args.self.now.held.numbers c.args.name.now (sets.set_in c.in-Some.d.now) c.args.vids.now (g.H.Host.state c.args.host.now) c.in_err-vids.field-0.0 found
    (subst (λ (n : ℕ). IsVidOff n c.args.vids.now c.in_err-vids.field-0.0) count c.in_err-vids.ensures)
    in search (rules, fact)

pub scan_versions-requires-clause-there : goal.scan_versions-requires-clause-there
scan_versions-requires-clause-there g c =
    let listed : IsListed c.len.result c.args.vids.now c.in_ok-vids.vids.items = c.in_ok-vids.ensures
    in let count : c.len.result ≡ length (map sets.version_in c.in-Some.d.now.versions.items) = search (rules, length-map c.in-Some.d.now.versions.items sets.version_in)
    in subst (λ (xs : List ℕ). All (λ vid. (1 ≤ vid) × (vid ≤ length (map sets.version_in c.in-Some.d.now.versions.items))) xs) (sym listed.listed_are)
    (subst (λ (n : ℕ). All (λ vid. (1 ≤ vid) × (vid ≤ n)) c.args.vids.now) count (all_there c.len.result [] c.args.vids.now listed.passed))

pub scan_versions-requires-clause-once : goal.scan_versions-requires-clause-once
scan_versions-requires-clause-once g c = λ vid.
    let listed : IsListed c.len.result c.args.vids.now c.in_ok-vids.vids.items = c.in_ok-vids.ensures
    in subst (λ (xs : List ℕ). times xs vid ≤ 1) (sym listed.listed_are) (listed_once c.len.result c.args.vids.now listed.passed vid)

pub scan_versions-requires-clause-placed : goal.scan_versions-requires-clause-placed
scan_versions-requires-clause-placed g c = λ k d below.
    let listed : IsListed c.len.result c.args.vids.now c.in_ok-vids.vids.items = c.in_ok-vids.ensures
    in let count : c.len.result ≡ length c.in-Some.d.now.versions.items = search rules
    in let there : All (λ vid. (1 ≤ vid) × (vid ≤ length c.in-Some.d.now.versions.items)) c.in_ok-vids.vids.items
    = subst (λ (xs : List ℕ). All (λ vid. (1 ≤ vid) × (vid ≤ length c.in-Some.d.now.versions.items)) xs) (sym listed.listed_are)
    (subst (λ (n : ℕ). All (λ vid. (1 ≤ vid) × (vid ≤ n)) c.args.vids.now) count (all_there c.len.result [] c.args.vids.now listed.passed))
    in served_there c.in-Some.d.now (slice_index_or c.in_ok-vids.vids.items k d) c.in-Some.ensures.sound (there k d below).0 (there k d below).1

pub returns-in_err-vids-clause-world : goal.returns-in_err-vids-clause-world
returns-in_err-vids-clause-world g c = λ w d at named.
    let fact : IsUndamaged c.in_err-vids.field-0.0 = vids_undamaged c.len.result c.args.vids.now c.in_err-vids.field-0.0 c.in_err-vids.ensures
    in search (rules, fact)

pub returns-in_err-scan_versions-clause-world : goal.returns-in_err-scan_versions-clause-world
returns-in_err-scan_versions-clause-world g c = λ w d at named.
    let found : set_in c.args.self.now.held.numbers c.args.name.now ≡ Some (sets.set_in c.in-Some.d.now)
    = subst (λ (n : Numbers Extent Extent). set_in n c.args.name.now ≡ Some (sets.set_in c.in-Some.d.now)) (c.catalog.ensures ∙ ap (λ kept. kept.held.numbers) c.self.view_is) (sym c.in-Some.ensures.found)
    in let listed : IsListed c.len.result c.args.vids.now c.in_ok-vids.vids.items = c.in_ok-vids.ensures
    in let count : c.len.result ≡ length (map sets.version_in c.in-Some.d.now.versions.items) = search (rules, length-map c.in-Some.d.now.versions.items sets.version_in)
    in let there : All (IsThere (sets.set_in c.in-Some.d.now)) c.args.vids.now
    = subst (λ (n : ℕ). All (λ vid. (1 ≤ vid) × (vid ≤ n)) c.args.vids.now) count (all_there c.len.result [] c.args.vids.now listed.passed)
    in let is : IsSetOf w d (page_bytes (g.H.Host.state c.args.host.now)) (sets.set_in c.in-Some.d.now)
    = found_set w c.args.self.now.held (g.H.Host.state c.args.host.now) at c.args.name.now (sets.set_in c.in-Some.d.now) d found named
    in let fact : IsUndamaged (of_fetch c.in_err-scan_versions.field-0.0)
    = spared c.in_err-scan_versions.field-0.0 (scan_spared w (page_bytes (g.H.Host.state c.args.host.now)) (sets.set_in c.in-Some.d.now) d c.args.vids.now c.in_err-scan_versions.field-0.0 is there
    (subst (λ (xs : List ℕ). RefusesScan c.in_err-scan_versions.field-0.0 (page_bytes (g.H.Host.state c.args.host.now)) (sets.set_in c.in-Some.d.now) xs) listed.listed_are (c.in_err-scan_versions.ensures.answer at.at.told)))
    in search (rules, fact)

pub returns-clause-world : goal.returns-clause-world
returns-clause-world g c = λ w d at named.
    let found : set_in c.args.self.now.held.numbers c.args.name.now ≡ Some (sets.set_in c.in-Some.d.now)
    = subst (λ (n : Numbers Extent Extent). set_in n c.args.name.now ≡ Some (sets.set_in c.in-Some.d.now)) (c.catalog.ensures ∙ ap (λ kept. kept.held.numbers) c.self.view_is) (sym c.in-Some.ensures.found)
    in let listed : IsListed c.len.result c.args.vids.now c.in_ok-vids.vids.items = c.in_ok-vids.ensures
    in let count : c.len.result ≡ length (map sets.version_in c.in-Some.d.now.versions.items) = search (rules, length-map c.in-Some.d.now.versions.items sets.version_in)
    in let there : All (IsThere (sets.set_in c.in-Some.d.now)) c.args.vids.now
    = subst (λ (n : ℕ). All (λ vid. (1 ≤ vid) × (vid ≤ n)) c.args.vids.now) count (all_there c.len.result [] c.args.vids.now listed.passed)
    in let is : IsSetOf w d (page_bytes (g.H.Host.state c.args.host.now)) (sets.set_in c.in-Some.d.now)
    = found_set w c.args.self.now.held (g.H.Host.state c.args.host.now) at c.args.name.now (sets.set_in c.in-Some.d.now) d found named
    in have_rows w (page_bytes (g.H.Host.state c.args.host.now)) (sets.set_in c.in-Some.d.now) d c.in_ok-scan_versions.field-0.records c.args.vids.now c.in_ok-scan_versions.field-0.picks is there
    (subst (λ (xs : List ℕ). AllZip (IsScanned (page_bytes (g.H.Host.state c.args.host.now)) (sets.set_in c.in-Some.d.now) c.in_ok-scan_versions.field-0.records) xs c.in_ok-scan_versions.field-0.picks)
    listed.listed_are (c.in_ok-scan_versions.ensures.answer at.at.told))

pub returns-clause-undamaged : goal.returns-clause-undamaged
returns-clause-undamaged g c = λ s told named page.
    let found : set_in c.args.self.now.held.numbers c.args.name.now ≡ Some (sets.set_in c.in-Some.d.now)
    = subst (λ (n : Numbers Extent Extent). set_in n c.args.name.now ≡ Some (sets.set_in c.in-Some.d.now)) (c.catalog.ensures ∙ ap (λ kept. kept.held.numbers) c.self.view_is) (sym c.in-Some.ensures.found)
    in let listed : IsListed c.len.result c.args.vids.now c.in_ok-vids.vids.items = c.in_ok-vids.ensures
    in let area : List ℕ = page_bytes (g.H.Host.state c.args.host.now)
    in let is : sets.set_in c.in-Some.d.now ≡ s = ap (λ o. elim o as (λ _. SetNumbers Extent Extent) [ None ↦ sets.set_in c.in-Some.d.now | Some x ↦ x ]) (sym found ∙ named)
    in subst (λ (x : SetNumbers Extent Extent). IsDamage area x c.args.vids.now page → ⊥) is
    (scan_finds_none area (sets.set_in c.in-Some.d.now) c.in_ok-scan_versions.field-0.records c.args.vids.now c.in_ok-scan_versions.field-0.picks page
    (subst (λ (xs : List ℕ). AllZip (IsScanned area (sets.set_in c.in-Some.d.now) c.in_ok-scan_versions.field-0.records) xs c.in_ok-scan_versions.field-0.picks)
    listed.listed_are (c.in_ok-scan_versions.ensures.answer told)))

pub returns-in_err-scan_versions-clause-still : goal.returns-in_err-scan_versions-clause-still
returns-in_err-scan_versions-clause-still g c = λ none. c.in_err-scan_versions.ensures.still (c.in_ok-vids.ensures.listed_are ∙ none)

pub returns-clause-still : goal.returns-clause-still
returns-clause-still g c = λ none. c.in_ok-scan_versions.ensures.still (c.in_ok-vids.ensures.listed_are ∙ none)

pub returns-in_err-vids-clause-idle : goal.returns-in_err-vids-clause-idle
returns-in_err-vids-clause-idle g c = λ s named none.
    let fact : c.in_err-vids.field-0.0 ≡ Memory = no_vids c.len.result c.in_err-vids.field-0.0 (subst (λ (xs : List ℕ). IsVidOff c.len.result xs c.in_err-vids.field-0.0) none c.in_err-vids.ensures)
    in search (rules, fact)

pub returns-in_err-scan_versions-clause-idle : goal.returns-in_err-scan_versions-clause-idle
returns-in_err-scan_versions-clause-idle g c = λ s named none.
    let idle = c.in_err-scan_versions.ensures.idle (c.in_ok-vids.ensures.listed_are ∙ none)
    in let fact : of_fetch c.in_err-scan_versions.field-0.0 ≡ Memory = ap of_fetch idle
    in search (rules, fact)

pub returns-in_err-scan_versions-clause-unread : goal.returns-in_err-scan_versions-clause-unread
returns-in_err-scan_versions-clause-unread g c = λ off is.
    let found : set_in c.args.self.now.held.numbers c.args.name.now ≡ Some (sets.set_in c.in-Some.d.now)
    = subst (λ (n : Numbers Extent Extent). set_in n c.args.name.now ≡ Some (sets.set_in c.in-Some.d.now)) (c.catalog.ensures ∙ ap (λ kept. kept.held.numbers) c.self.view_is) (sym c.in-Some.ensures.found)
    in let count : c.len.result ≡ length (map sets.version_in c.in-Some.d.now.versions.items) = search (rules, length-map c.in-Some.d.now.versions.items sets.version_in)
    in absurd (not_off c.args.self.now.held.numbers c.args.name.now (sets.set_in c.in-Some.d.now) c.args.vids.now off found
    (subst (λ (n : ℕ). vids_off n [] c.args.vids.now ≡ None) count c.in_ok-vids.ensures.passed) is)

pub returns-clause-unread : goal.returns-clause-unread
returns-clause-unread g c = λ off is.
    let found : set_in c.args.self.now.held.numbers c.args.name.now ≡ Some (sets.set_in c.in-Some.d.now)
    = subst (λ (n : Numbers Extent Extent). set_in n c.args.name.now ≡ Some (sets.set_in c.in-Some.d.now)) (c.catalog.ensures ∙ ap (λ kept. kept.held.numbers) c.self.view_is) (sym c.in-Some.ensures.found)
    in let count : c.len.result ≡ length (map sets.version_in c.in-Some.d.now.versions.items) = search (rules, length-map c.in-Some.d.now.versions.items sets.version_in)
    in absurd (not_off c.args.self.now.held.numbers c.args.name.now (sets.set_in c.in-Some.d.now) c.args.vids.now off found
    (subst (λ (n : ℕ). vids_off n [] c.args.vids.now ≡ None) count c.in_ok-vids.ensures.passed) is)
