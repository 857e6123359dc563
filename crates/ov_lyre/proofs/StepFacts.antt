-- One more cut of few versions, or one key less.
use Rattle.std.proofs.Common.{◌≡◌, ℕ, ◌+◌, ◌-◌, ◌≤◌, true, false, not, Some, List, [], ◌∷◌, ◌++◌, length, refl, sym, ◌∙◌, ap, subst, inl, inr, arith}
use Rattle.std.specs.BTreeSet.{UpdatesBy}
use Rattle.std.specs.List.{slice_index}
use Rattle.ov_graph.specs.Trees.{VersionTree, tree_of, total, fresh}
use Rattle.ov_graph.specs.Splits.{Has, IsPart, edges, is_under, lower, upper, records, members, stops, may_cut, versions_apart, next_cut_of}
use Rattle.ov_lyre.specs.declared.peeling.Key.{Key}
use Rattle.ov_lyre.specs.declared.peeling.Summed.{Summed}
use Rattle.ov_lyre.specs.declared.peeling.Peeling.{Peeling}
use Rattle.ov_lyre.specs.Sides.{left, AreNext}
use Rattle.ov_lyre.specs.Peeling.{key_cmp, IsAmong, IsNearest, IsLight, IsOfFew, IsSummed, IsPeeling}
use Rattle.ov_lyre.proofs.PartFacts.{Lies, lies, edge-has, filter-has, part-long, total-ones}
use Rattle.ov_lyre.proofs.NodeFacts.{sound-tree}
use Rattle.ov_lyre.proofs.UnderFacts.{IsSoundTree}
use Rattle.std.proofs.lemmas.Bool.{cases_lt}
use Rattle.ov_lyre.proofs.CutFacts.{sides}
use Rattle.ov_lyre.proofs.EdgeFacts.{cut-at}
use Rattle.ov_lyre.proofs.LineFacts.{least-is-next}
use Rattle.ov_lyre.proofs.PeelingFacts.{nearest-least, without-heavy, after-cut}

module _ (tree : VersionTree) where
  pub left-push : (part cuts : List ℕ) (cut : ℕ) → left tree part (cuts ++ cut ∷ []) ≡ upper tree cut (left tree part cuts)
  left-push part [] cut = refl
  left-push part (first ∷ cuts) cut = left-push (upper tree first part) cuts cut

  pub next-push : (p q : ℕ) (part cuts : List ℕ) (cut : ℕ) → AreNext tree p q part cuts → next_cut_of tree p q (left tree part cuts) ≡ Some cut → AreNext tree p q part (cuts ++ cut ∷ [])
  next-push p q part [] cut are next = (next, tt)
  next-push p q part (first ∷ cuts) cut are next = (are.0, next-push p q (upper tree first part) cuts cut are.1 next)

  -- what is left was there
  pub left-has : (part cuts : List ℕ) (vid : ℕ) → Has (left tree part cuts) vid → Has part vid
  left-has part [] vid has = has
  left-has part (cut ∷ cuts) vid has = (filter-has (λ version. not (is_under tree cut version)) part vid (left-has (upper tree cut part) cuts vid has)).has

module _ (s : Summed) (p q : ℕ) (le : p ≤ q) (summed : IsSummed s) (peeling : Peeling) (is : IsPeeling s p q peeling) where
  abbrev tree : VersionTree
  tree = tree_of s.nodes.now

  sound : IsSoundTree tree
  sound = sound-tree s.nodes.now summed.sound

  abbrev count : ℕ
  count = length s.nodes.now

  abbrev rest : List ℕ
  rest = left tree s.part.now peeling.cuts.items

  pub few-left : peeling.versions ≤ 65535
  few-left = let long = part-long tree count rest is.is in let few = summed.sound.few in let n = is.versions_is in omega arith

  module _ (key : Key) (among : IsAmong peeling.keys key) where
    inside : Has (edges rest) key.vid
    inside = (is.keys_are.keyed key among).inside

    pub key-lies : Lies 0 count key.vid
    key-lies = lies 0 count rest key.vid is.is.ascends (edge-has rest key.vid inside)

    there : Has s.part.now key.vid
    there = left-has tree s.part.now peeling.cuts.items key.vid (edge-has rest key.vid inside)

    counted : slice_index s.counts.now key.vid ≡ length (lower tree key.vid s.part.now)
    counted = summed.counts key.vid there ∙ total-ones (lower tree key.vid s.part.now)

    module _ (own : slice_index s.counts.now key.vid ≡ peeling.few) where
      -- a key whose edge has few versions under it
      light : IsLight tree peeling.few s.part.now rest key
      light = elim (is.keys_are.keyed key among).side [
        | inl own_side ↦ own_side
        | inr top ↦ absurd (top.isnt_light (sym counted ∙ own))
      ]

      -- what the cut takes off
      pub record Taken : Type 0 where
        pub versions : length (upper tree key.vid rest) + peeling.few ≡ length rest
        pub fresh_records : records tree (upper tree key.vid rest) + slice_index s.fresh.now key.vid ≡ records tree rest
        pub members_of : members tree (upper tree key.vid rest) + slice_index s.members.now key.vid ≡ members tree rest

      pub taken : Taken
      taken =
          let two = sides tree sound count rest key.vid is.is inside in
          let long = two.lengths in
          let sum = two.record_sum in
          let low = two.lower_records in
          let all = two.member_sum in
          let n = light.count in
          let fresh_is : slice_index s.fresh.now key.vid ≡ total (fresh tree) (lower tree key.vid rest) = summed.fresh_is key.vid there ∙ ap (total (fresh tree)) (sym light.same) in
          let under : slice_index s.members.now key.vid ≡ members tree (lower tree key.vid rest) = summed.under key.vid there ∙ ap (total tree.records) (sym light.same) in
          record { versions = omega arith; fresh_records = omega arith; members_of = omega arith }

      module _ (nearest : (other : Key) → IsAmong peeling.keys other → IsNearest peeling.totals.records key other) (goes_on : stops tree p q rest ≡ false) (half : peeling.few + peeling.few ≤ length rest) (may : may_cut tree p q rest key.vid ≡ true) where
        next : next_cut_of tree p q rest ≡ Some key.vid
        next =
            let near : (other : Key) → IsAmong peeling.keys other → IsNearest (records tree rest) key other = subst (λ (r : ℕ). (other : Key) → IsAmong peeling.keys other → IsNearest r key other) is.records_is nearest in
            least-is-next tree sound q count rest is.is p le key.vid goes_on (record {
              inside = inside;
              light = may;
              least = nearest-least tree sound count p q peeling.few s.part.now rest peeling.keys is.is half is.keys_are key among near;
            })

        pub peel-cut : (after : Peeling) → after.few ≡ peeling.few → UpdatesBy key_cmp (key_cmp key) peeling.keys after.keys false → after.cuts.items ≡ peeling.cuts.items ++ key.vid ∷ [] → after.versions ≡ peeling.versions - peeling.few → after.totals.records ≡ peeling.totals.records - slice_index s.fresh.now key.vid → after.totals.members ≡ peeling.totals.members - slice_index s.members.now key.vid → IsPeeling s p q after
        peel-cut after few gone pushed versions fewer_records fewer_members =
            let off = taken in
            let v = off.versions in
            let r = off.fresh_records in
            let e = off.members_of in
            let v0 = is.versions_is in
            let r0 = is.records_is in
            let e0 = is.members_is in
            let f0 = is.few_is in
            let r1 = is.few_records in
            let e1 = is.few_members in
            let left_is : left tree s.part.now after.cuts.items ≡ upper tree key.vid rest = ap (left tree s.part.now) pushed ∙ left-push tree s.part.now peeling.cuts.items key.vid in
            let keys_are = after-cut tree sound count p q peeling.few s.part.now rest peeling.keys is.is half is.keys_are key among light after.keys gone in
            record {
              next = rw pushed (next-push tree p q s.part.now peeling.cuts.items key.vid is.next next);
              is = rw left_is (sides tree sound count rest key.vid is.is inside).upper_part;
              keys_are = rw (left_is, few) keys_are;
              few_is = omega arith;
              versions_is = rw left_is (omega arith);
              records_is = rw left_is (omega arith);
              members_is = rw left_is (omega arith);
              few_records = omega arith;
              few_members = omega arith;
            }

    pub peel-heavy : may_cut tree p q rest key.vid ≡ false → peeling.few + peeling.few ≤ length rest → (after : Peeling) → after.few ≡ peeling.few → UpdatesBy key_cmp (key_cmp key) peeling.keys after.keys false → after.cuts ≡ peeling.cuts → after.versions ≡ peeling.versions → after.totals ≡ peeling.totals → IsPeeling s p q after
    peel-heavy heavy half after few gone cuts versions totals =
        let keys_are = without-heavy tree sound count p q peeling.few s.part.now rest peeling.keys is.is half is.keys_are key after.keys gone heavy in
        let f0 = is.few_is in
        record {
          next = rw cuts is.next;
          is = rw cuts is.is;
          keys_are = rw (cuts, few) keys_are;
          few_is = omega arith;
          versions_is = rw (cuts, versions) is.versions_is;
          records_is = rw (cuts, totals) is.records_is;
          members_is = rw (cuts, totals) is.members_is;
          few_records = rw totals is.few_records;
          few_members = rw totals is.few_members;
        }

-- Where the least edge has few versions under it, each edge that may be cut has at most as many on one side.
module _ (tree : VersionTree) (sound : IsSoundTree tree) (p q count few : ℕ) (le : p ≤ q) (part : List ℕ) (child : ℕ) (is : IsPart tree count part) (next : next_cut_of tree p q part ≡ Some child) (under : length (lower tree child part) ≡ few) (half : few + few ≤ length part) where
  pub of-few : (vid : ℕ) → Has (edges part) vid → may_cut tree p q part vid ≡ true → IsOfFew tree few part vid
  unfolding versions_apart
  of-few vid has may =
      let at = cut-at tree sound p q le count part child is next in
      let near = (at.least vid has may).versions in
      let own = (sides tree sound count part child is at.inside).lengths in
      let long = (sides tree sound count part vid is has).lengths in
      elim (cases_lt (length (lower tree vid part)) (length (upper tree vid part))) [
        | inl less ↦ inl (omega arith)
        | inr more ↦ inr (omega arith)
      ]
