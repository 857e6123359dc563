-- What is so of the rids of a dataset's records is so of the records.
use Rattle.std.proofs.Common.{◌≡◌, ◌≤◌, ◌^◌, ℕ, zero, suc, ◌+◌, ◌-◌, Bool, true, false, ◌&&◌, ◌||◌, ◌==◌, List, [], ◌∷◌, ◌++◌, length, get_or, map, refl, sym, ◌∙◌, ap, subst, inl, inr, arith}
use Rattle.std.specs.Prelude.{not, nat_le, filter, if◌then◌else◌}
use Rattle.std.specs.List.{list_all, list_any}
use Rattle.std.proofs.lemmas.Bool.{cases_Bool, eqb-true, eq-eqb, ne_eqb}
use Rattle.std.proofs.lemmas.List.{length-append, length-map, map-append}
use Rattle.std.proofs.lemmas.List.Elements.{filter-append}
use Rattle.ov_event.specs.declared.event.PlanTarget.{PlanTarget}
use Rattle.ov_match.specs.Matching as matching
use Rattle.ov_match.specs.Naming.{Names}
use Rattle.ov_match.proofs.Named.{costs_named}
use Rattle.ov_member.specs.Rids.{RiseFrom, has}
use Rattle.ov_member.proofs.RidLemmas.{has-append, same_from}
use Rattle.ov_model.specs.Lists.{IsIn, joined}
use Rattle.ov_model.specs.Plans as plans
use Rattle.ov_model.specs.Plans.{records_in, pieces_of, pieces_at, cheaper, source_of}
use Rattle.ov_model.specs.Placed.{times}
use Rattle.ov_model.specs.Records.{Rec, is_same_rec, is_among, recs, of_version, order_of, rid_in}
use Rattle.ov_model.specs.World.{Part, Dataset, held}
use Rattle.ov_model.proofs.Counting.{one_if, times-append, not_listed}
use Rattle.ov_model.proofs.Growing.{same_rec-refl}
use Rattle.ov_model.proofs.Holds.{same_recs, at_known}
use Rattle.ov_model.proofs.Ordering.{of_filter}
use Rattle.ov_model.proofs.Origins.{all_known}
use Rattle.law_partitions.specs.Pieces.{rec_times, NoTwice, HasPieces, PartsArePieces, IsOfOne, AreOf}
use Rattle.law_partitions.proofs.PieceTimes.{all_once}
use Rattle.ov_catalog.specs.Shown.{list_of, said_of, shown_target}
use Rattle.ov_catalog.proofs.Members.{left_in, right_in, of_append}
use Rattle.ov_catalog.proofs.Ranking.{are_in_at, place_same}
use Rattle.ov_catalog.proofs.Rising as rising
use Rattle.ov_targets.specs.declared.candidates.Partition.{Partition}
use Rattle.ov_targets.specs.Telling.{AllApart, HasApart, AreParts, AreOfSet, targets_said}
use Rattle.ov_targets.specs.Targets.{IsWanted, IsTarget, AreTargets, candidate_in, empties, emptied_by, list_at, segments_of}
use Rattle.ov_targets.proofs.Sorting.{or_right, put, rids_climb, rise_of, same_filter, sorted, sorted_all, sorted_counted, sorted_has}

-- ---- a dataset

module _ (d : Dataset) (known : HasPieces d) where
  abbrev all : List Rec
  all = order_of d.cvd.versions

  abbrev rid : Rec → ℕ
  rid r = rid_in all r

  abbrev rids : List Rec → List ℕ
  rids rs = list_of all rs

  abbrev done : List (List Rec)
  done = recs d.cvd.versions []

  tell : (r s : Rec) → IsIn all r → IsIn all s → (rid s == rid r) ≡ is_same_rec r s
  tell r s is also = elim (cases_Bool (is_same_rec r s)) [
    | inl same ↦ eq-eqb (rid s) (rid r) (ap rid (sym (same_recs r s same))) ∙ sym same
    | inr other ↦ ne_eqb (rid s) (rid r) (λ e. clash (sym (ap (λ x. is_same_rec r x) (place_same all s r also is e) ∙ same_rec-refl r) ∙ other)) ∙ sym other
  ]
    where
      clash : true ≡ false → ⊥
      clash e = cc

  abbrev Known : List Rec → Type 0
  Known rs = (r : Rec) → IsIn rs r → IsIn all r

  has_named : (r : Rec) (rs : List Rec) → IsIn all r → Known rs → has (map rid rs) (rid r) ≡ is_among rs r
  has_named r [] is there = refl
  has_named r (s ∷ rs) is there = rw (tell r s is (there s (inl refl)), has_named r rs is (λ x here. there x (inr here))) refl

  has_rids : (r : Rec) (rs : List Rec) → IsIn all r → Known rs → has (rids rs) (rid r) ≡ is_among rs r
  has_rids r rs is there = sorted_has (map rid rs) (rid r) ∙ has_named r rs is there

  version_known : (vid : ℕ) → Known (of_version done vid)
  version_known vid r is = are_in_at (of_version done vid) all r (at_known done (vid - 1) all (all_known d.cvd.versions)) is

  has_some : (rs : List Rec) (n : ℕ) → has (map rid rs) n ≡ true → (r : Rec) × (IsIn rs r × (n ≡ rid r))
  has_some [] n e = cc
  has_some (r ∷ rs) n e = elim (cases_Bool (rid r == n)) [
    | inl here ↦ (r, (inl refl, sym (eqb-true (rid r) n here)))
    | inr other ↦ let rest = has_some rs n (ap (λ b. b || has (map rid rs) n) (sym other) ∙ e) in (rest.0, (inr rest.1.0, rest.1.1))
  ]

  some_has : (rs : List Rec) (r : Rec) → IsIn rs r → has (map rid rs) (rid r) ≡ true
  some_has [] r is = absurd is
  some_has (x ∷ rs) r (inl same) = ap (λ b. b || has (map rid rs) (rid r)) (eq-eqb (rid x) (rid r) (ap rid (sym same)))
  some_has (x ∷ rs) r (inr later) = or_right (rid x == rid r) (has (map rid rs) (rid r)) (some_has rs r later)

  -- ---- what a target wants

  module _ (lists : List (List ℕ)) (are : lists ≡ map rids done) where
    list_is : (vid : ℕ) → list_at lists vid ≡ rids (of_version done vid)
    list_is vid = ap (λ ls. get_or ls (vid - 1) []) are ∙ by done (vid - 1)
      where
        by : (rss : List (List Rec)) (k : ℕ) → get_or (map rids rss) k [] ≡ rids (get_or rss k [])
        by [] k = refl
        by (rs ∷ rss) zero = refl
        by (rs ∷ rss) (suc k) = by rss k

    abbrev asked : List ℕ → ℕ → Bool
    asked vids n = list_any (λ vid. has (list_at lists vid) n) vids

    abbrev has_it : List ℕ → Rec → Bool
    has_it vids r = list_any (λ vid. is_among (of_version done vid) r) vids

    asked_is : (vids : List ℕ) (r : Rec) → IsIn all r → asked vids (rid r) ≡ has_it vids r
    asked_is [] r is = refl
    asked_is (vid ∷ vids) r is = rw (ap (λ l. has l (rid r)) (list_is vid) ∙ has_rids r (of_version done vid) is (version_known vid), asked_is vids r is) refl

    asked_some : (vids : List ℕ) (n : ℕ) → asked vids n ≡ true → (r : Rec) × (IsIn all r × (n ≡ rid r))
    asked_some [] n e = cc
    asked_some (vid ∷ vids) n e = elim (cases_Bool (has (list_at lists vid) n)) [
      | inl here ↦
          let one = has_some (of_version done vid) n (sym (sorted_has (map rid (of_version done vid)) n) ∙ ap (λ l. has l n) (sym (list_is vid)) ∙ here) in
          (one.0, (version_known vid one.0 one.1.0, one.1.1))
      | inr other ↦ asked_some vids n (ap (λ b. b || asked vids n) (sym other) ∙ e)
    ]

    in_chosen : (p : Rec → Bool) (rs : List Rec) (r : Rec) → IsIn rs r → p r ≡ true → IsIn (filter p rs) r
    in_chosen p [] r is passes = absurd is
    in_chosen p (x ∷ rs) r is passes = by (p x) refl (λ later. in_chosen p rs r later passes) is
      where
        clash : true ≡ false → ⊥
        clash c = cc

        by : (b : Bool) → p x ≡ b → (IsIn rs r → IsIn (filter p rs) r) → IsIn (x ∷ rs) r → IsIn (if b then x ∷ filter p rs else filter p rs) r
        by true e rest (inl same) = inl same
        by true e rest (inr later) = inr (rest later)
        by false e rest (inl same) = absurd (clash (sym passes ∙ ap p same ∙ e))
        by false e rest (inr later) = rest later

    abbrev chosen : List ℕ → List Rec
    chosen vids = records_in d.cvd vids

    chosen_known : (vids : List ℕ) → Known (chosen vids)
    chosen_known vids r is = (of_filter (has_it vids) all r is).0

    same_has : (vids : List ℕ) (n : ℕ) → asked vids n ≡ has (map rid (chosen vids)) n
    same_has vids n = by (asked vids n) (has (map rid (chosen vids)) n) forth back
      where
        forth : asked vids n ≡ true → has (map rid (chosen vids)) n ≡ true
        forth e =
            let one = asked_some vids n e in
            let passes : has_it vids one.0 ≡ true = sym (asked_is vids one.0 one.1.0) ∙ ap (asked vids) (sym one.1.1) ∙ e in
            ap (has (map rid (chosen vids))) one.1.1 ∙ some_has (chosen vids) one.0 (in_chosen (has_it vids) all one.0 one.1.0 passes)

        back : has (map rid (chosen vids)) n ≡ true → asked vids n ≡ true
        back e =
            let one = has_some (chosen vids) n e in
            let both = of_filter (has_it vids) all one.0 one.1.0 in
            ap (asked vids) one.1.1 ∙ asked_is vids one.0 both.0 ∙ both.1

        by : (a b : Bool) → (a ≡ true → b ≡ true) → (b ≡ true → a ≡ true) → a ≡ b
        by true b f g = sym (f refl)
        by false true f g = g refl
        by false false f g = refl

    rid_low : (ns : List ℕ) (n : ℕ) (least : ℕ) → RiseFrom least ns → has ns n ≡ true → n ≤ 2 ^ 31
    rid_low [] n least rise e = cc
    rid_low (m ∷ ns) n least rise e = elim (cases_Bool (m == n)) [
      | inl same ↦ subst (λ k. k ≤ 2 ^ 31) (eqb-true m n same) rise.1
      | inr other ↦ rid_low ns n (suc m) rise.2 (ap (λ b. b || has ns n) (sym other) ∙ e)
    ]

    wanted_is : (vids wanted : List ℕ) → IsWanted lists vids wanted → wanted ≡ map rid (chosen vids)
    wanted_is vids wanted is =
        same_from 1 1 wanted (map rid (chosen vids)) is.rids
        (rise_of 1 (map rid (chosen vids)) (rids_climb (has_it vids) all (all_once d.cvd.versions known.rows))
        (λ n there. rid_low wanted n 1 is.rids (is.together n ∙ same_has vids n ∙ there)))
        (λ n. is.together n ∙ same_has vids n)

  -- ---- costs and kept pieces

  joined_counted : (p : ℕ → Bool) (pieces : List (List Rec)) → length (filter p (joined (map rids pieces))) ≡ length (filter p (joined (map (map rid) pieces)))
  joined_counted p [] = refl
  joined_counted p (piece ∷ pieces) =
      let here = sorted_counted p (map rid piece) in
      let later = joined_counted p pieces in
      ap length (filter-append p (rids piece) (joined (map rids pieces))) ∙ length-append (filter p (rids piece)) (filter p (joined (map rids pieces)))
      ∙ omega (arith, here, later)
      ∙ sym (ap length (filter-append p (map rid piece) (joined (map (map rid) pieces))) ∙ length-append (filter p (map rid piece)) (filter p (joined (map (map rid) pieces))))

  joined_has : (pieces : List (List Rec)) (n : ℕ) → has (joined (map rids pieces)) n ≡ has (joined (map (map rid) pieces)) n
  joined_has [] n = refl
  joined_has (piece ∷ pieces) n =
      has-append (rids piece) (joined (map rids pieces)) n ∙ ap (λ b. b || has (joined (map rids pieces)) n) (sorted_has (map rid piece) n)
      ∙ ap (λ b. has (map rid piece) n || b) (joined_has pieces n) ∙ sym (has-append (map rid piece) (joined (map (map rid) pieces)) n)

  cost_listed : (wanted : List ℕ) (pieces : List (List Rec)) → matching.modification wanted (map rids pieces) ≡ matching.modification wanted (map (map rid) pieces)
  cost_listed wanted pieces =
      omega (
        arith,
        ap length (same_filter (λ n. not (has (joined (map rids pieces)) n)) (λ n. not (has (joined (map (map rid) pieces)) n)) wanted (λ n. ap not (joined_has pieces n))),
        joined_counted (λ n. not (has wanted n)) pieces,
      )

  names_both : (a b : List Rec) → Known a → Known b → Names rid (a ++ b)
  names_both a b here there r s is also = tell r s (either r is) (either s also)
    where
      either : (x : Rec) → IsIn (a ++ b) x → IsIn all x
      either x is = elim (of_append a b x is) [
        | inl e ↦ here x e
        | inr e ↦ there x e
      ]

  cost_is : (wanted : List Rec) (part : Part) → Known wanted → Known (held part)
      → matching.modification (map rid wanted) (map rids part.pieces) ≡ plans.modification wanted part
  cost_is wanted part here there = cost_listed (map rid wanted) part.pieces ∙ costs_named rid wanted part (names_both wanted (held part) here there)

  within_is : (wanted piece : List Rec) → Known wanted → Known piece → list_all (has (map rid wanted)) (rids piece) ≡ list_all (is_among wanted) piece
  within_is wanted piece here there = sorted_all (has (map rid wanted)) (map rid piece) ∙ by piece there
    where
      by : (rs : List Rec) → Known rs → list_all (has (map rid wanted)) (map rid rs) ≡ list_all (is_among wanted) rs
      by [] know = refl
      by (r ∷ rs) know = rw (has_named r wanted (know r (inl refl)) here, by rs (λ s is. know s (inr is))) refl

  places_are : (wanted : List Rec) (at : ℕ) (pieces : List (List Rec)) → Known wanted → Known (joined pieces)
      → matching.places_within at (map rid wanted) (map rids pieces) ≡ plans.places_within at wanted pieces
  places_are wanted at [] here there = refl
  places_are wanted at (piece ∷ pieces) here there =
      rw (within_is wanted piece here (λ r is. there r (left_in piece (joined pieces) r is)), places_are wanted (at + 1) pieces here (λ r is. there r (right_in piece (joined pieces) r is))) refl

  kept_long : (wanted : List Rec) (pieces : List (List Rec)) → Known wanted → Known (joined pieces)
      → length (joined (matching.kept_of (map rid wanted) (map rids pieces))) ≡ length (joined (filter (list_all (is_among wanted)) pieces))
  kept_long wanted [] here there = refl
  kept_long wanted (piece ∷ pieces) here there =
      rw (within_is wanted piece here (λ r is. there r (left_in piece (joined pieces) r is)))
      (by (list_all (is_among wanted) piece) (kept_long wanted pieces here (λ r is. there r (right_in piece (joined pieces) r is))))
    where
      long : length (rids piece) ≡ length piece
      long = rising.sorted_long (λ n. n) (map rid piece) ∙ length-map piece rid

      by : (b : Bool) → length (joined (matching.kept_of (map rid wanted) (map rids pieces))) ≡ length (joined (filter (list_all (is_among wanted)) pieces))
          → length (joined (if b then rids piece ∷ matching.kept_of (map rid wanted) (map rids pieces) else matching.kept_of (map rid wanted) (map rids pieces)))
          ≡ length (joined (if b then piece ∷ filter (list_all (is_among wanted)) pieces else filter (list_all (is_among wanted)) pieces))
      by true rest =
          length-append (rids piece) (joined (matching.kept_of (map rid wanted) (map rids pieces))) ∙ omega (arith, long, rest)
          ∙ sym (length-append piece (joined (filter (list_all (is_among wanted)) pieces)))
      by false rest = rest

  picked : (wanted : List Rec) (whole : List (List Rec)) (at : ℕ) (pieces : List (List Rec)) → ((k : ℕ) → get_or whole (at + k) [] ≡ get_or pieces k [])
      → pieces_at whole (plans.places_within at wanted pieces) ≡ filter (list_all (is_among wanted)) pieces
  picked wanted whole at [] are = refl
  picked wanted whole at (piece ∷ pieces) are =
      by (list_all (is_among wanted) piece)
      (picked wanted whole (at + 1) pieces (λ k. ap (λ n. get_or whole n []) (next k) ∙ are (suc k)))
    where
      next : (k : ℕ) → at + 1 + k ≡ at + suc k
      next k = omega arith

      first : get_or whole at [] ≡ piece
      first = ap (λ n. get_or whole n []) (nothing at) ∙ are 0
        where
          nothing : (n : ℕ) → n ≡ n + 0
          nothing n = omega arith

      by : (b : Bool) → pieces_at whole (plans.places_within (at + 1) wanted pieces) ≡ filter (list_all (is_among wanted)) pieces
          → pieces_at whole (if b then at ∷ plans.places_within (at + 1) wanted pieces else plans.places_within (at + 1) wanted pieces)
          ≡ (if b then piece ∷ filter (list_all (is_among wanted)) pieces else filter (list_all (is_among wanted)) pieces)
      by true rest = λ i. first i ∷ rest i
      by false rest = rest

  -- ---- the partitions

  abbrev KnownParts : List Part → Type 0
  KnownParts [] = Unit {0}
  KnownParts (part ∷ parts) = Known (held part) × KnownParts parts

  one_known : (vids : List ℕ) (r : Rec) → IsOfOne done vids r → IsIn all r
  one_known [] r is = absurd is
  one_known (vid ∷ vids) r (inl here) = version_known vid r here
  one_known (vid ∷ vids) r (inr later) = one_known vids r later

  of_known : (vids : List ℕ) (rs : List Rec) → AreOf done vids rs → Known rs
  of_known vids [] are r is = absurd is
  of_known vids (x ∷ rs) are r (inl same) = subst (IsIn all) (sym same) (one_known vids x are.0)
  of_known vids (x ∷ rs) are r (inr later) = of_known vids rs are.1 r later

  parts_known : (parts : List Part) → PartsArePieces done parts → KnownParts parts
  parts_known [] are = tt
  parts_known (part ∷ parts) are = (of_known part.holds (held part) are.0.only, parts_known parts are.1)

  pieces_known : (parts : List Part) (id : ℕ) → KnownParts parts → Known (joined (pieces_of parts id))
  pieces_known [] id are r is = absurd is
  pieces_known (part ∷ parts) id are r is = by (part.id == id) (pieces_known parts id are.1 r) is
    where
      by : (b : Bool) → (IsIn (joined (pieces_of parts id)) r → IsIn all r) → IsIn (joined (if b then part.pieces else pieces_of parts id)) r → IsIn all r
      by true rest is = are.0 r is
      by false rest is = rest is

  segments_are : (parts : List Part) (partitions : List Partition) (id : ℕ) → AreParts all parts partitions
      → segments_of (map candidate_in partitions) id ≡ map rids (pieces_of parts id)
  segments_are [] [] id are = refl
  segments_are [] (p ∷ partitions) id are = absurd are
  segments_are (part ∷ parts) [] id are = absurd are
  segments_are (part ∷ parts) (p ∷ partitions) id are =
      ap (λ n. if n == id then p.segments.items else segments_of (map candidate_in partitions) id) are.0.id
      ∙ by (part.id == id) (segments_are parts partitions id are.1)
    where
      by : (b : Bool) → segments_of (map candidate_in partitions) id ≡ map rids (pieces_of parts id)
          → (if b then p.segments.items else segments_of (map candidate_in partitions) id) ≡ map rids (if b then part.pieces else pieces_of parts id)
      by true rest = are.0.segments
      by false rest = rest

  cheapest_is : (wanted : List Rec) (versions : List ℕ) (later : List (List ℕ)) (parts : List Part) (partitions : List Partition) → Known wanted → KnownParts parts
      → AreParts all parts partitions → matching.cheapest (map rid wanted) (emptied_by versions later partitions) ≡ plans.cheapest wanted versions later parts
  cheapest_is wanted versions later [] [] here there are = refl
  cheapest_is wanted versions later [] (p ∷ partitions) here there are = absurd are
  cheapest_is wanted versions later (part ∷ parts) [] here there are = absurd are
  cheapest_is wanted versions later (part ∷ parts) (p ∷ partitions) here there are =
      by (empties versions later p) (plans.empties versions later part) (ap (λ vs. plans.meets versions vs && not (list_any (λ other. plans.meets other vs) later)) are.0.versions)
      (cheapest_is wanted versions later parts partitions here there.1 are.1)
    where
      cost : matching.modification (map rid wanted) p.segments.items ≡ plans.modification wanted part
      cost = ap (matching.modification (map rid wanted)) are.0.segments ∙ cost_is wanted part here there.0

      by : (a b : Bool) → a ≡ b → matching.cheapest (map rid wanted) (emptied_by versions later partitions) ≡ plans.cheapest wanted versions later parts
          → matching.cheapest (map rid wanted) (map candidate_in (if a then p ∷ filter (empties versions later) partitions else filter (empties versions later) partitions))
          ≡ (if b then cheaper (part.id, plans.modification wanted part) (plans.cheapest wanted versions later parts) else plans.cheapest wanted versions later parts)
      by true true e rest = λ i. cheaper (are.0.id i, cost i) (rest i)
      by true false e rest = cc
      by false true e rest = cc
      by false false e rest = rest

  -- ---- the targets

  module _ (lists : List (List ℕ)) (partitions : List Partition) (are : AreOfSet d lists partitions) where
    one_is : (versions : List ℕ) (later : List (List ℕ)) (t : PlanTarget) → IsTarget lists partitions versions later t
        → t ≡ said_of (shown_target d (plans.target_of d versions later))
    one_is versions later t is = λ i. record { size = size i; source = source i; kept = kept i; kept_records = records i }
      where
        wanted : List Rec
        wanted = records_in d.cvd versions

        here : Known wanted
        here = chosen_known lists are.versions versions

        parts : KnownParts d.parts
        parts = parts_known d.parts known.parts

        same : is.wanted ≡ map rid wanted
        same = wanted_is lists are.versions versions is.wanted is.together

        long : length is.wanted ≡ length wanted
        long = ap length same ∙ length-map wanted rid

        id : ℕ
        id = source_of (length wanted) (plans.cheapest wanted versions later d.parts)

        size : t.size ≡ length wanted
        size = is.said.size ∙ long

        source : t.source ≡ id
        source =
            is.said.source ∙ ap (λ n. source_of n (matching.cheapest is.wanted (emptied_by versions later partitions))) long
            ∙ ap (λ w. source_of (length wanted) (matching.cheapest w (emptied_by versions later partitions))) same
            ∙ ap (source_of (length wanted)) (cheapest_is wanted versions later d.parts partitions here parts are.parts)

        segments : segments_of (map candidate_in partitions) t.source ≡ map rids (pieces_of d.parts id)
        segments = ap (segments_of (map candidate_in partitions)) source ∙ segments_are d.parts partitions id are.parts

        kept : t.kept ≡ plans.places_within 0 wanted (pieces_of d.parts id)
        kept =
            is.said.kept ∙ ap (matching.places_within 0 is.wanted) segments ∙ ap (λ w. matching.places_within 0 w (map rids (pieces_of d.parts id))) same
            ∙ places_are wanted 0 (pieces_of d.parts id) here (pieces_known d.parts id parts)

        records : t.kept_records ≡ length (joined (pieces_at (pieces_of d.parts id) (plans.places_within 0 wanted (pieces_of d.parts id))))
        records =
            is.said.kept_records ∙ ap (λ ss. length (joined (matching.kept_of is.wanted ss))) segments
            ∙ ap (λ w. length (joined (matching.kept_of w (map rids (pieces_of d.parts id))))) same
            ∙ kept_long wanted (pieces_of d.parts id) here (pieces_known d.parts id parts)
            ∙ ap (λ ps. length (joined ps)) (sym (picked wanted (pieces_of d.parts id) 0 (pieces_of d.parts id) (λ k. ap (λ n. get_or (pieces_of d.parts id) n []) (nothing k))))
          where
            nothing : (n : ℕ) → 0 + n ≡ n
            nothing n = omega arith

    pub all_are : (parts : List (List ℕ)) (ts : List PlanTarget) → AreTargets lists partitions parts ts → ts ≡ targets_said d parts
    all_are [] [] is = refl
    all_are [] (t ∷ ts) is = absurd is
    all_are (versions ∷ later) [] is = absurd is
    all_are (versions ∷ later) (t ∷ ts) is = λ i. one_is versions later t is.0 i ∷ all_are later ts is.1 i

  -- ---- segments share no rid

  times_put : (x : ℕ) (xs : List ℕ) (n : ℕ) → times (put x xs) n ≡ one_if (x == n) + times xs n
  times_put x [] n = refl
  times_put x (y ∷ ys) n = by (nat_le x y) (times_put x ys n)
    where
      by : (b : Bool) → times (put x ys) n ≡ one_if (x == n) + times ys n
          → times (if b then x ∷ y ∷ ys else y ∷ put x ys) n ≡ one_if (x == n) + (one_if (y == n) + times ys n)
      by true rest = refl
      by false rest = omega (arith, rest)

  times_sorted : (xs : List ℕ) (n : ℕ) → times (sorted xs) n ≡ times xs n
  times_sorted [] n = refl
  times_sorted (x ∷ xs) n = times_put x (sorted xs) n ∙ ap (λ m. one_if (x == n) + m) (times_sorted xs n)

  times_joined : (pieces : List (List Rec)) (n : ℕ) → times (joined (map rids pieces)) n ≡ times (map rid (joined pieces)) n
  times_joined [] n = refl
  times_joined (piece ∷ pieces) n =
      omega (
        arith,
        times-append (rids piece) (joined (map rids pieces)) n,
        times_sorted (map rid piece) n,
        times_joined pieces n,
        times-append (map rid piece) (map rid (joined pieces)) n,
        ap (λ l. times l n) (map-append rid piece (joined pieces)),
      )

  times_named : (r : Rec) (rs : List Rec) → IsIn all r → Known rs → times (map rid rs) (rid r) ≡ rec_times rs r
  times_named r [] is there = refl
  times_named r (s ∷ rs) is there = rw (tell r s is (there s (inl refl)), times_named r rs is (λ x here. there x (inr here))) refl

  times_once : (rs : List Rec) (n : ℕ) → Known rs → NoTwice rs → times (map rid rs) n ≤ 1
  times_once rs n there once = elim (cases_Bool (has (map rid rs) n)) [
    | inl here ↦
        let one = has_some rs n here in
        omega (arith, once one.0, ap (times (map rid rs)) one.1.1, times_named one.0 rs (there one.0 one.1.0) there)
    | inr other ↦ omega (arith, not_listed (map rid rs) n other)
  ]

  pub parts_apart : (parts : List Part) (partitions : List Partition) → PartsArePieces done parts → AreParts all parts partitions → AllApart partitions
  parts_apart [] [] are of = tt
  parts_apart [] (p ∷ partitions) are of = absurd of
  parts_apart (part ∷ parts) [] are of = absurd of
  parts_apart (part ∷ parts) (p ∷ partitions) are of = (
    λ n. subst (λ ss. times (joined ss) n ≤ 1) (sym of.0.segments)
        (omega (arith, times_joined part.pieces n, times_once (held part) n (of_known part.holds (held part) are.0.only) are.0.once)),
    parts_apart parts partitions are.1 of.1,
  )

pub segments_apart : (d : Dataset) → HasPieces d → HasApart d
segments_apart d known lists partitions are = parts_apart d known d.parts partitions known.parts are.parts

pub targets_are : (d : Dataset) (lists : List (List ℕ)) (partitions : List Partition) (parts : List (List ℕ)) (ts : List PlanTarget) → HasPieces d
    → AreOfSet d lists partitions → AreTargets lists partitions parts ts → ts ≡ targets_said d parts
targets_are d lists partitions parts ts known are is = all_are d known lists partitions are parts ts is
