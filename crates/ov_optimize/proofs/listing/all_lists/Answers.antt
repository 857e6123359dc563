use Rattle.std.proofs.Common.{◌≡◌, ◌<◌, ◌≤◌, ℕ, List, [], length, get_or, refl, sym, ◌∙◌, subst, arith}
use Rattle.std.specs.List.{All, AllZip}
use Rattle.std.proofs.lemmas.List.{length-map}
use Rattle.ov_member.specs.Rids.{AreRids}
use Rattle.ov_catalog.specs.Sets.{set_in, version_in}
use Rattle.ov_fetch.specs.Extents.{IsList, page_bytes}
use Rattle.ov_read.specs.Agreement.{Agrees, IsThere, list_of}
use Rattle.ov_optimize.specs.Reading.{IsListOf, all_vids}
use Rattle.ov_optimize.proofs.VersionLists.{all_there, are_at, are_listed, high_one, lists_count, vids_of_set}
use Rattle.ov_optimize.proofs.listing.all_lists.Goals as goal

pub lists_of-requires : goal.lists_of-requires
lists_of-requires g c =
    let d = c.args.d.now in
    let same : c.deref.result.now ≡ all_vids (set_in c.args.d.now) = c.deref.ensures.value ∙ c.in_ok-vids.ensures ∙ vids_of_set d c.len.result (omega (arith, c.len.ensures)) in
    subst (All (IsThere (set_in d))) (sym same) (all_there (set_in d))

pub returns-in-None-clause-listed : goal.returns-in-None-clause-listed
returns-in-None-clause-listed g c =
    let d = c.args.d.now in
    let lists : List (List ℕ) = c.in_ok-lists.lists.items in
    let same : c.deref.result.now ≡ all_vids (set_in c.args.d.now) = c.deref.ensures.value ∙ c.in_ok-vids.ensures ∙ vids_of_set d c.len.result (omega (arith, c.len.ensures)) in
    are_listed (set_in d) (all_vids (set_in d)) lists (subst (λ vs. AllZip (Agrees (set_in d)) vs lists) same c.in_ok-lists.ensures.agree)
    (subst (All AreRids) c.deref-2.ensures.value (c.in-None.ensures.sets refl))
    (subst (All (λ rids. All (λ rid. rid ≤ d.records) rids)) c.deref-2.ensures.value c.in-None.ensures.found)

pub returns-in-None-clause-answer : goal.returns-in-None-clause-answer
returns-in-None-clause-answer g c told =
    let d = c.args.d.now in
    let area : List ℕ = page_bytes (g.H.Host.state c.args.host.now) in
    let lists : List (List ℕ) = c.in_ok-lists.lists.items in
    let same : c.deref.result.now ≡ all_vids (set_in c.args.d.now) = c.deref.ensures.value ∙ c.in_ok-vids.ensures ∙ vids_of_set d c.len.result (omega (arith, c.len.ensures)) in
    let is : AllZip (IsListOf (set_in c.args.d.now)) (all_vids (set_in c.args.d.now)) c.in_ok-lists.lists.items =
    are_listed (set_in d) (all_vids (set_in d)) lists (subst (λ vs. AllZip (Agrees (set_in d)) vs lists) same c.in_ok-lists.ensures.agree)
    (subst (All AreRids) c.deref-2.ensures.value (c.in-None.ensures.sets refl))
    (subst (All (λ rids. All (λ rid. rid ≤ d.records) rids)) c.deref-2.ensures.value c.in-None.ensures.found) in
    are_at area (set_in d) (all_vids (set_in d)) lists
    (subst (λ vs. AllZip (λ vid. IsList area (list_of (set_in d) vid)) vs lists) same (c.in_ok-lists.ensures.answer told)) is

pub index-requires : goal.index-requires
index-requires g c =
    let d = c.args.d.now in
    let lists : List (List ℕ) = c.in_ok-lists.lists.items in
    let same : c.deref.result.now ≡ all_vids (set_in c.args.d.now) = c.deref.ensures.value ∙ c.in_ok-vids.ensures ∙ vids_of_set d c.len.result (omega (arith, c.len.ensures)) in
    let low : c.in-Some.at < length c.in_ok-lists.lists.items = subst (λ ls. c.in-Some.at < length ls) c.deref-2.ensures.value c.in-Some.ensures.found.0 in
    omega (
      arith,
      low,
      lists_count (set_in d) lists (subst (λ vs. AllZip (Agrees (set_in d)) vs lists) same c.in_ok-lists.ensures.agree),
      length-map d.versions.items version_in,
    )

pub returns-clause-answer : goal.returns-clause-answer
returns-clause-answer g c told =
    let d = c.args.d.now in
    let area : List ℕ = page_bytes (g.H.Host.state c.args.host.now) in
    let lists : List (List ℕ) = c.in_ok-lists.lists.items in
    let at : ℕ = c.in-Some.at in
    let same : c.deref.result.now ≡ all_vids (set_in c.args.d.now) = c.deref.ensures.value ∙ c.in_ok-vids.ensures ∙ vids_of_set d c.len.result (omega (arith, c.len.ensures)) in
    let found = subst (λ (ls : List (List ℕ)). (at < length ls) × (All (λ rid. rid ≤ d.records) (get_or ls at []) → ⊥)) c.deref-2.ensures.value c.in-Some.ensures.found in
    let low : c.in-Some.at < length c.args.d.now.versions.items =
    omega (
      arith,
      found.0,
      lists_count (set_in d) lists (subst (λ vs. AllZip (Agrees (set_in d)) vs lists) same c.in_ok-lists.ensures.agree),
      length-map d.versions.items version_in,
    ) in
    high_one area d lists at c.index.result.now
    (subst (λ vs. AllZip (λ vid. IsList area (list_of (set_in d) vid)) vs lists) same (c.in_ok-lists.ensures.answer told)) found.1 low c.index.ensures
