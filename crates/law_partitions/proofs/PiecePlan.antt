-- What a plan's targets keep when it begins.
use Rattle.std.proofs.Common.{◌≡◌, ◌≤◌, ◌<◌, ℕ, suc, ◌+◌, Bool, true, false, ◌==◌, List, [], ◌∷◌, ◌++◌, length, filter, get_or, refl, sym, ◌∙◌, ap, subst, inl, inr, arith}
use Rattle.std.specs.Prelude.{◌⊎◌, if◌then◌else◌, not, nat_lt, nat_le, Option, Some, None}
use Rattle.std.specs.List.{list_all, list_any}
use Rattle.std.proofs.lemmas.Bool.{cond-false}
use Rattle.std.proofs.lemmas.List.{append-nil}
use Rattle.ov_graph.specs.Trees.{vids}
use Rattle.ov_model.specs.Lists.{IsIn, joined}
use Rattle.ov_model.specs.Placed.{times, id_times, IsPlaced}
use Rattle.ov_model.specs.Plans.{parts_at, records_in, meets, empties, modification, cheaper, cheapest, source_of, pieces_of, places_within, target_of, targets_of, planned, kept_pieces, current}
use Rattle.ov_model.specs.Records.{Rec, is_among, recs, order_of}
use Rattle.ov_model.specs.World.{Part, Target, Plan, Dataset, targets_from}
use Rattle.ov_model.proofs.Counting.{one_if, one_same, range_versions}
use Rattle.law_partitions.specs.Pieces.{rec_times, NoTwice, AllFull, IsOfOne, AreOf, PartsArePieces, versions_of, AreBelow, IsKept, AllKept, target_times, HasPieces}
use Rattle.law_partitions.proofs.PlanParts.{list_times, parts_times}
use Rattle.law_partitions.proofs.CountRuns.{all_from}
use Rattle.law_partitions.proofs.PieceFlip.{picked}
use Rattle.law_partitions.proofs.PieceLists.{among_in, in_filtered, of_any, of-append}
use Rattle.law_partitions.proofs.PieceMore.{current_kept}
use Rattle.law_partitions.proofs.PieceTimes.{left_true, right_true, times-append}

-- the records of some versions together are records of them
pub records_of_some : (d : Dataset) (vids : List ℕ) (r : Rec) → IsIn (records_in d.cvd vids) r → IsOfOne (recs d.cvd.versions []) vids r
records_of_some d vids r is = of_any (recs d.cvd.versions []) vids r (in_filtered _ (order_of d.cvd.versions) r is).1

-- ---- the pieces that lie within

module _ (wanted : List Rec) where
  abbrev within : List Rec → Bool
  within piece = list_all (is_among wanted) piece

  below_if : (t : Bool) (most at : ℕ) (rest : List ℕ) → at < most → AreBelow most rest → AreBelow most (if t then at ∷ rest else rest)
  below_if true most at rest low are = (low, are)
  below_if false most at rest low are = are

  places_below : (most at : ℕ) (pieces : List (List Rec)) → at + length pieces ≤ most → AreBelow most (places_within at wanted pieces)
  places_below most at [] low = tt
  places_below most at (piece ∷ pieces) low =
      below_if (within piece) most at (places_within (at + 1) wanted pieces) (omega (arith, low)) (places_below most (at + 1) pieces (omega (arith, low)))

  picked_if : (t : Bool) (all : List (List Rec)) (at : ℕ) (rest : List ℕ) (piece : List Rec) (later : List (List Rec)) → get_or all at [] ≡ piece → picked all rest ≡ later
      → picked all (if t then at ∷ rest else rest) ≡ (if t then piece ∷ later else later)
  picked_if true all at rest piece later here are = λ i. here i ∷ are i
  picked_if false all at rest piece later here are = are

  picked_within : (all : List (List Rec)) (at : ℕ) (pieces : List (List Rec)) → ((k : ℕ) → get_or all (at + k) [] ≡ get_or pieces k [])
      → picked all (places_within at wanted pieces) ≡ filter within pieces
  picked_within all at [] are = refl
  picked_within all at (piece ∷ pieces) are =
      let here : at + 0 ≡ at = omega arith
      in picked_if (within piece) all at (places_within (at + 1) wanted pieces) piece (filter within pieces)
      (sym (ap (λ k. get_or all k []) here) ∙ are 0)
      (picked_within all (at + 1) pieces (λ k. ap (λ n. get_or all n []) (next k) ∙ are (suc k)))
    where
      next : (k : ℕ) → at + 1 + k ≡ at + suc k
      next k = omega arith

  full_if : (t : Bool) (piece : List Rec) (pieces : List (List Rec)) → 0 < length piece → AllFull pieces → AllFull (if t then piece ∷ pieces else pieces)
  full_if true piece pieces is are = (is, are)
  full_if false piece pieces is are = are

  full_within : (pieces : List (List Rec)) → AllFull pieces → AllFull (filter within pieces)
  full_within [] full = tt
  full_within (piece ∷ pieces) full = full_if (within piece) piece (filter within pieces) full.0 (full_within pieces full.1)

  times_if : (t : Bool) (piece : List Rec) (rest : List (List Rec)) (r : Rec) → rec_times (joined (if t then piece ∷ rest else rest)) r ≤ rec_times piece r + rec_times (joined rest) r
  times_if true piece rest r = omega (arith, times-append piece (joined rest) r)
  times_if false piece rest r = omega arith

  times_within : (pieces : List (List Rec)) (r : Rec) → rec_times (joined (filter within pieces)) r ≤ rec_times (joined pieces) r
  times_within [] r = omega arith
  times_within (piece ∷ pieces) r =
      omega (arith, times_if (within piece) piece (filter within pieces) r, times_within pieces r, times-append piece (joined pieces) r)

  module _ (done : List (List Rec)) (vids : List ℕ) (of : (r : Rec) → IsIn wanted r → IsOfOne done vids r) where
    piece_of_versions : (piece : List Rec) → within piece ≡ true → AreOf done vids piece
    piece_of_versions [] e = tt
    piece_of_versions (r ∷ piece) e =
        (of r (among_in wanted r (left_true (is_among wanted r) (within piece) e)), piece_of_versions piece (right_true (is_among wanted r) (within piece) e))

    of_if : (t : Bool) (piece : List Rec) (rest : List (List Rec)) → (t ≡ true → AreOf done vids piece) → AreOf done vids (joined rest) → AreOf done vids (joined (if t then piece ∷ rest else rest))
    of_if true piece rest is are = of-append done vids piece (joined rest) (is refl) are
    of_if false piece rest is are = are

    all_within : (pieces : List (List Rec)) → AreOf done vids (joined (filter within pieces))
    all_within [] = tt
    all_within (piece ∷ pieces) = of_if (within piece) piece (filter within pieces) (piece_of_versions piece) (all_within pieces)

-- ---- the source

abbrev Serves : List ℕ → List Part → ℕ → Type 0
Serves versions parts id = (meets versions (versions_of parts id) ≡ true) × (1 ≤ id_times parts id)

some_same : (a b : ℕ × ℕ) → Some a ≡ Some b → a ≡ b
some_same a b e = cc

none_some : (b : ℕ × ℕ) → None ≡ Some b → ⊥
none_some b e = cc

first_serves : (versions : List ℕ) (part : Part) (parts : List Part) → meets versions part.versions ≡ true → Serves versions (part ∷ parts) part.id
first_serves versions part parts e = (
  ap (λ b. meets versions (if b then part.versions else versions_of parts part.id)) (same part.id) ∙ e,
  omega (arith, one_same part.id part.id refl),
)
  where
    same : (n : ℕ) → (n == n) ≡ true
    same n = is (n == n) (one_same n n refl)
      where
        is : (t : Bool) → one_if t ≡ 1 → t ≡ true
        is true f = refl
        is false f = cc

later_serves : (versions : List ℕ) (part : Part) (parts : List Part) (id : ℕ) → id_times (part ∷ parts) id ≤ 1 → Serves versions parts id → Serves versions (part ∷ parts) id
later_serves versions part parts id once serves = (
  ap (λ b. meets versions (if b then part.versions else versions_of parts id)) (other (part.id == id) refl) ∙ serves.0,
  omega (arith, serves.1),
)
  where
    other : (t : Bool) → (part.id == id) ≡ t → t ≡ false
    other false e = refl
    other true e = absurd (omega (arith, once, serves.1, ap one_if e))

-- no partition has the number 0
pub no_pieces : (parts : List Part) → id_times parts 0 ≡ 0 → pieces_of parts 0 ≡ []
no_pieces [] none = refl
no_pieces (part ∷ parts) none = cond-false (part.id == 0) part.pieces (pieces_of parts 0) (other (part.id == 0) refl) ∙ no_pieces parts (omega (arith, none))
  where
    other : (t : Bool) → (part.id == 0) ≡ t → t ≡ false
    other false e = refl
    other true e = absurd (omega (arith, none, ap one_if e))

module _ (wanted : List Rec) (versions : List ℕ) (later : List (List ℕ)) where
  cheaper_serves : (part : Part) (parts : List Part) (a : ℕ × ℕ) (rest : Option (ℕ × ℕ)) (best : ℕ × ℕ) → a.0 ≡ part.id → meets versions part.versions ≡ true
      → ((id : ℕ) → id_times (part ∷ parts) id ≤ 1) → ((b : ℕ × ℕ) → rest ≡ Some b → Serves versions parts b.0) → cheaper a rest ≡ Some best → Serves versions (part ∷ parts) best.0
  cheaper_serves part parts a None best is met once serves e =
      subst (Serves versions (part ∷ parts)) (sym is ∙ ap (λ p. p.0) (some_same a best e)) (first_serves versions part parts met)
  cheaper_serves part parts a (Some b) best is met once serves e = by (nat_le a.1 b.1) e
    where
      by : (t : Bool) → (if t then Some a else Some b) ≡ Some best → Serves versions (part ∷ parts) best.0
      by true f = subst (Serves versions (part ∷ parts)) (sym is ∙ ap (λ p. p.0) (some_same a best f)) (first_serves versions part parts met)
      by false f =
          subst (λ p. Serves versions (part ∷ parts) p.0) (some_same b best f) (later_serves versions part parts b.0 (once b.0) (serves b refl))

  cheapest_if : (t : Bool) (part : Part) (parts : List Part) (best : ℕ × ℕ) → empties versions later part ≡ t → ((id : ℕ) → id_times (part ∷ parts) id ≤ 1)
      → ((b : ℕ × ℕ) → cheapest wanted versions later parts ≡ Some b → Serves versions parts b.0)
      → (if t then cheaper (part.id, modification wanted part) (cheapest wanted versions later parts) else cheapest wanted versions later parts) ≡ Some best
      → Serves versions (part ∷ parts) best.0
  cheapest_if true part parts best is once serves e =
      cheaper_serves part parts (part.id, modification wanted part) (cheapest wanted versions later parts) best refl
      (left_true (meets versions part.versions) (not (list_any (λ other. meets other part.versions) later)) is) once serves e
  cheapest_if false part parts best is once serves e = later_serves versions part parts best.0 (once best.0) (serves best e)

  cheapest_serves : (parts : List Part) (best : ℕ × ℕ) → ((id : ℕ) → id_times parts id ≤ 1) → cheapest wanted versions later parts ≡ Some best → Serves versions parts best.0
  cheapest_serves [] best once e = absurd (none_some best e)
  cheapest_serves (part ∷ parts) best once e =
      cheapest_if (empties versions later part) part parts best refl once
      (λ b f. cheapest_serves parts b (λ id. omega (arith, once id)) f) e

  -- where the source is none, no piece is kept
  source_serves : (parts : List Part) → id_times parts 0 ≡ 0 → ((id : ℕ) → id_times parts id ≤ 1) → (size : ℕ) (best : Option (ℕ × ℕ)) → cheapest wanted versions later parts ≡ best
      → (places_within 0 wanted (pieces_of parts (source_of size best)) ≡ []) ⊎ (meets versions (versions_of parts (source_of size best)) ≡ true)
  source_serves parts none once size None e = inl (ap (places_within 0 wanted) (no_pieces parts none))
  source_serves parts none once size (Some best) e = by (nat_lt best.1 size)
    where
      by : (t : Bool) → (places_within 0 wanted (pieces_of parts (if t then best.0 else 0)) ≡ []) ⊎ (meets versions (versions_of parts (if t then best.0 else 0)) ≡ true)
      by true = inr (cheapest_serves parts best once e).0
      by false = inl (ap (places_within 0 wanted) (no_pieces parts none))

-- ---- the pieces of a partition by its number

found_if : (t : Bool) (P : List (List Rec) → Type 0) (pieces rest : List (List Rec)) → P pieces → P rest → P (if t then pieces else rest)
found_if true P pieces rest is other = is
found_if false P pieces rest is other = other

found_full : (done : List (List Rec)) (parts : List Part) (id : ℕ) → PartsArePieces done parts → AllFull (pieces_of parts id)
found_full done [] id are = tt
found_full done (part ∷ parts) id are = found_if (part.id == id) AllFull part.pieces (pieces_of parts id) are.0.full (found_full done parts id are.1)

found_once : (done : List (List Rec)) (parts : List Part) (id : ℕ) → PartsArePieces done parts → NoTwice (joined (pieces_of parts id))
found_once done [] id are = λ r. omega arith
found_once done (part ∷ parts) id are = found_if (part.id == id) (λ pieces. NoTwice (joined pieces)) part.pieces (pieces_of parts id) are.0.once (found_once done parts id are.1)

-- ---- the targets

module _ (d : Dataset) (is : HasPieces d) (placed : IsPlaced d) where
  abbrev done : List (List Rec)
  done = recs d.cvd.versions []

  pub target_kept : (versions : List ℕ) (later : List (List ℕ)) → IsKept d (target_of d versions later)
  target_kept versions later =
      let wanted : List Rec = records_in d.cvd versions
      in let source : ℕ = source_of (length wanted) (cheapest wanted versions later d.parts)
      in let pieces : List (List Rec) = pieces_of d.parts source
      in let all : filter (within wanted) pieces ≡ kept_pieces d (target_of d versions later) = sym (picked_within wanted pieces 0 pieces (λ k. ap (λ n. get_or pieces n []) (plain k)))
      in record {
        there = places_below wanted (length pieces) 0 pieces (omega arith);
        serves = source_serves wanted versions later d.parts is.no_zero placed.ids_once (length wanted) (cheapest wanted versions later d.parts) refl;
        once = subst (λ ps. NoTwice (joined ps)) all (λ r. omega (arith, times_within wanted pieces r, found_once done d.parts source is.parts r));
        full = subst AllFull all (full_within wanted pieces (found_full done d.parts source is.parts));
        only = subst (λ ps. AreOf done versions (joined ps)) all (all_within wanted done versions (records_of_some d versions) pieces);
        count = refl;
      }
    where
      plain : (k : ℕ) → 0 + k ≡ k
      plain k = omega arith

  targets_kept : (parts : List (List ℕ)) → AllKept d (targets_of d parts)
  targets_kept [] = tt
  targets_kept (versions ∷ parts) = (target_kept versions parts, targets_kept parts)

targets_times : (d : Dataset) (parts : List (List ℕ)) (vid : ℕ) → target_times (targets_of d parts) vid ≡ list_times parts vid
targets_times d [] vid = refl
targets_times d (versions ∷ parts) vid = ap (λ n. times versions vid + n) (targets_times d parts vid)

-- the plan and the threshold have no part in what is kept
pub same_kept : (d after : Dataset) → after.cvd ≡ d.cvd → after.parts ≡ d.parts → (ts : List Target) → AllKept d ts → AllKept after ts
same_kept d after cvd parts [] are = tt
same_kept d after cvd parts (t ∷ ts) are = (one, same_kept d after cvd parts ts are.1)
  where
    pieces : kept_pieces d t ≡ kept_pieces after t
    pieces = ap (λ ps. picked (pieces_of ps t.source) t.kept) (sym parts)

    one : IsKept after t
    one = record {
      there = subst (λ ps. AreBelow (length (pieces_of ps t.source)) t.kept) (sym parts) are.0.there;
      serves = subst (λ ps. (t.kept ≡ []) ⊎ (meets t.versions (versions_of ps t.source) ≡ true)) (sym parts) are.0.serves;
      once = subst (λ ps. NoTwice (joined ps)) pieces are.0.once;
      full = subst AllFull pieces are.0.full;
      only = subst (λ c. AreOf (recs c.versions []) t.versions (joined (kept_pieces after t))) (sym cvd)
          (subst (λ ps. AreOf (recs d.cvd.versions []) t.versions (joined ps)) pieces are.0.only);
      count = are.0.count ∙ ap (λ ps. length (joined ps)) pieces;
    }

-- a target for which nothing was copied yet
pub nothing_copied : (d : Dataset) (plan : Plan) → AllKept d (targets_from plan.at plan.targets) → NoTwice (joined (kept_pieces d (current plan)) ++ [])
nothing_copied d plan kept = subst NoTwice (sym (append-nil (joined (kept_pieces d (current plan))))) (current_kept d plan kept).once

pub planned_pieces : (p q : ℕ) (d : Dataset) → HasPieces d → IsPlaced d → HasPieces (planned p q d)
planned_pieces p q d is placed =
    let ts : List Target = targets_of d (parts_at d p q)
    in let after : Dataset = planned p q d
    in let kept : AllKept after (targets_from 0 ts) = subst (AllKept after) (sym (all_from ts)) (same_kept d after refl refl ts (targets_kept d is placed (parts_at d p q)))
    in record {
      parts = is.parts;
      plan = record {
        apart = λ vid. omega (
          arith,
          ap (λ l. target_times l vid) (all_from ts),
          targets_times d (parts_at d p q) vid,
          parts_times d p q vid,
          (range_versions (length d.cvd.versions)).once vid,
        );
        kept = kept;
        once = nothing_copied after (record { p = p; q = q; targets = ts; at = 0; copied = [] }) kept;
        full = tt;
        only = tt;
      };
      rows = is.rows;
      no_zero = is.no_zero;
      next = is.next;
    }
