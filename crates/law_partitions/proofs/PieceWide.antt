-- Columns more: pieces stay disjoint and together the records.
use Rattle.std.proofs.Common.{◌≡◌, ◌≤◌, ℕ, zero, suc, ◌+◌, Bool, true, false, ◌==◌, List, [], ◌∷◌, ◌++◌, length, map, refl, sym, ◌∙◌, ap, subst, inl, inr, arith}
use Rattle.std.specs.Prelude.{◌⊎◌, ◌&&◌, if◌then◌else◌, replicate, Option, Some, None}
use Rattle.std.proofs.lemmas.Bool.{cases_Bool}
use Rattle.std.proofs.lemmas.List.{length-map, append_cancel_right, map-append}
use Rattle.std.proofs.Math.ListN.{get_or-map}
use Rattle.ov_value.specs.declared.column.Column.{Column}
use Rattle.ov_value.specs.declared.value.Value.TheVariants.{Null}
use Rattle.ov_model.specs.Book.{Row, Version, extended}
use Rattle.ov_model.specs.Holding.{VersionsAreIn}
use Rattle.ov_model.specs.Lists.{IsIn, AreIn, joined}
use Rattle.ov_model.specs.Moves.{wide, wide_rec, wide_version, wide_part, wide_plan}
use Rattle.ov_model.specs.Placed.{id_times}
use Rattle.ov_model.specs.Plans.{pieces_of, meets, kept_pieces, current}
use Rattle.ov_model.specs.Records.{Rec, is_same_row, is_same_rec, recs, of_version}
use Rattle.ov_model.specs.World.{Part, Target, Plan, Dataset, held, targets_from}
use Rattle.ov_model.proofs.Counting.{one_if}
use Rattle.ov_model.proofs.Growing.{same_row-refl}
use Rattle.ov_model.proofs.Holds.{same_recs}
use Rattle.ov_model.proofs.Widening.{same_bool, same_rows, map_are_in, joined_map, wide_version_recs, wide_recs}
use Rattle.law_partitions.specs.Pieces.{rec_times, NoTwice, AllFull, IsOfOne, AreOf, IsPieces, PartsArePieces, versions_of, AreBelow, IsKept, AllKept, IsUnderWay, PlanIsUnderWay, row_times, HaveNoRowTwice, HasPieces}
use Rattle.law_partitions.proofs.PieceFlip.{picked}

module _ (n : ℕ) where
  abbrev longer : Rec → Rec
  longer r = wide_rec n r

  -- ---- how often rows and records stand

  same_wide : (a b : Row) → is_same_row (extended n a) (extended n b) ≡ is_same_row a b
  same_wide a b =
      same_bool (is_same_row (extended n a) (extended n b)) (is_same_row a b)
      (λ e. ap (is_same_row a) (sym (append_cancel_right a b (replicate n Null) (same_rows (extended n a) (extended n b) e))) ∙ same_row-refl a)
      (λ e. ap (λ x. is_same_row (extended n a) (extended n x)) (sym (same_rows a b e)) ∙ same_row-refl (extended n a))

  wide_times : (rs : List Rec) (r : Rec) → rec_times (map longer rs) (longer r) ≡ rec_times rs r
  wide_times [] r = refl
  wide_times (x ∷ rs) r = λ i. one_if (r.origin == x.origin && same_wide r.row x.row i) + wide_times rs r i

  came_from : (rs : List Rec) (r : Rec) → 1 ≤ rec_times (map longer rs) r → (x : Rec) × (r ≡ longer x)
  came_from [] r some = absurd (omega (arith, some))
  came_from (x ∷ rs) r some =
      elim (cases_Bool (is_same_rec r (longer x))) [
        | inl same ↦ (x, same_recs r (longer x) same)
        | inr other ↦ came_from rs r (omega (arith, some, ap one_if other))
      ]

  none_or_some : (k : ℕ) → (k ≡ 0) ⊎ (1 ≤ k)
  none_or_some zero = inl refl
  none_or_some (suc k) = inr (omega arith)

  once_wide : (rs : List Rec) → NoTwice rs → NoTwice (map longer rs)
  once_wide rs once r =
      elim (none_or_some (rec_times (map longer rs) r)) [
        | inl none ↦ omega (arith, none)
        | inr some ↦
            let from = came_from rs r some
            in omega (arith, ap (rec_times (map longer rs)) from.1, wide_times rs from.0, once from.0)
      ]

  wide_rows : (rows : List Row) (row : Row) → row_times (map (extended n) rows) (extended n row) ≡ row_times rows row
  wide_rows [] row = refl
  wide_rows (x ∷ rows) row = λ i. one_if (same_wide row x i) + wide_rows rows row i

  row_from : (rows : List Row) (row : Row) → 1 ≤ row_times (map (extended n) rows) row → (x : Row) × (row ≡ extended n x)
  row_from [] row some = absurd (omega (arith, some))
  row_from (x ∷ rows) row some =
      elim (cases_Bool (is_same_row row (extended n x))) [
        | inl same ↦ (x, same_rows row (extended n x) same)
        | inr other ↦ row_from rows row (omega (arith, some, ap one_if other))
      ]

  rows_once : (rows : List Row) → ((row : Row) → row_times rows row ≤ 1) → (row : Row) → row_times (map (extended n) rows) row ≤ 1
  rows_once rows once row =
      elim (none_or_some (row_times (map (extended n) rows) row)) [
        | inl none ↦ omega (arith, none)
        | inr some ↦
            let from = row_from rows row some
            in omega (arith, ap (row_times (map (extended n) rows)) from.1, wide_rows rows from.0, once from.0)
      ]

  have_wide : (vs : List Version) → HaveNoRowTwice vs → HaveNoRowTwice (map (wide_version n) vs)
  have_wide [] have = tt
  have_wide (v ∷ vs) have = (rows_once v.rows have.0, have_wide vs have.1)

  -- ---- pieces

  full_wide : (pieces : List (List Rec)) → AllFull pieces → AllFull (map (map longer) pieces)
  full_wide [] full = tt
  full_wide (piece ∷ pieces) full = (omega (arith, length-map piece longer, full.0), full_wide pieces full.1)

  in_wide : (rs : List Rec) (r : Rec) → IsIn rs r → IsIn (map longer rs) (longer r)
  in_wide [] r is = absurd is
  in_wide (x ∷ rs) r (inl same) = inl (ap longer same)
  in_wide (x ∷ rs) r (inr later) = inr (in_wide rs r later)

  abbrev all_wide : List (List Rec) → List (List Rec)
  all_wide done = map (map longer) done

  of_wide : (done : List (List Rec)) (vids : List ℕ) (r : Rec) → IsOfOne done vids r → IsOfOne (all_wide done) vids (longer r)
  of_wide done [] r is = is
  of_wide done (vid ∷ vids) r (inl here) =
      inl (subst (λ rs. IsIn rs (longer r)) (sym (wide_version_recs n done vid)) (in_wide (of_version done vid) r here))
  of_wide done (vid ∷ vids) r (inr later) = inr (of_wide done vids r later)

  are_wide : (done : List (List Rec)) (vids : List ℕ) (rs : List Rec) → AreOf done vids rs → AreOf (all_wide done) vids (map longer rs)
  are_wide done vids [] are = tt
  are_wide done vids (r ∷ rs) are = (of_wide done vids r are.0, are_wide done vids rs are.1)

  versions_wide : (done : List (List Rec)) (vids : List ℕ) (all : List Rec) → VersionsAreIn done vids all → VersionsAreIn (all_wide done) vids (map longer all)
  versions_wide done [] all are = tt
  versions_wide done (vid ∷ vids) all are = (
    (
      (are.0.0.0, omega (arith, length-map done (map longer), are.0.0.1)),
      subst (λ rs. AreIn rs (map longer all)) (sym (wide_version_recs n done vid)) (map_are_in longer (of_version done vid) all are.0.1),
    ),
    versions_wide done vids all are.1,
  )

  part_wide : (done : List (List Rec)) (part : Part) → IsPieces done part → IsPieces (all_wide done) (wide_part n part)
  part_wide done part is =
      let all : map longer (held part) ≡ held (wide_part n part) = sym (joined_map longer part.pieces)
      in record {
        once = subst NoTwice all (once_wide (held part) is.once);
        full = full_wide part.pieces is.full;
        all = subst (VersionsAreIn (all_wide done) part.holds) all (versions_wide done part.holds (held part) is.all);
        only = subst (AreOf (all_wide done) part.holds) all (are_wide done part.holds (held part) is.only);
      }

  parts_wide : (done : List (List Rec)) (parts : List Part) → PartsArePieces done parts → PartsArePieces (all_wide done) (map (wide_part n) parts)
  parts_wide done [] are = tt
  parts_wide done (part ∷ parts) are = (part_wide done part are.0, parts_wide done parts are.1)

  -- ---- what targets keep

  wide_if : (t : Bool) (pieces rest : List (List Rec)) (after : List (List Rec)) → after ≡ all_wide rest
      → (if t then all_wide pieces else after) ≡ all_wide (if t then pieces else rest)
  wide_if true pieces rest after e = refl
  wide_if false pieces rest after e = e

  pieces_wide : (parts : List Part) (id : ℕ) → pieces_of (map (wide_part n) parts) id ≡ all_wide (pieces_of parts id)
  pieces_wide [] id = refl
  pieces_wide (part ∷ parts) id = wide_if (part.id == id) part.pieces (pieces_of parts id) (pieces_of (map (wide_part n) parts) id) (pieces_wide parts id)

  same_versions : (parts : List Part) (id : ℕ) → versions_of (map (wide_part n) parts) id ≡ versions_of parts id
  same_versions [] id = refl
  same_versions (part ∷ parts) id = ap (λ vids. if part.id == id then part.versions else vids) (same_versions parts id)

  picked_wide : (pieces : List (List Rec)) (places : List ℕ) → picked (all_wide pieces) places ≡ all_wide (picked pieces places)
  picked_wide pieces [] = refl
  picked_wide pieces (k ∷ places) = λ i. get_or-map (map longer) pieces k [] i ∷ picked_wide pieces places i

  kept_all : (parts : List Part) (t : Target) → picked (pieces_of (map (wide_part n) parts) t.source) t.kept ≡ all_wide (picked (pieces_of parts t.source) t.kept)
  kept_all parts t = ap (λ pieces. picked pieces t.kept) (pieces_wide parts t.source) ∙ picked_wide (pieces_of parts t.source) t.kept

  -- a dataset whose partitions and records are wide
  module _ (d after : Dataset) (parts_are : after.parts ≡ map (wide_part n) d.parts) (recs_are : recs after.cvd.versions [] ≡ all_wide (recs d.cvd.versions [])) where
    pub kept_are : (t : Target) → kept_pieces after t ≡ all_wide (kept_pieces d t)
    kept_are t = ap (λ parts. picked (pieces_of parts t.source) t.kept) parts_are ∙ kept_all d.parts t

    kept_wide : (t : Target) → IsKept d t → IsKept after t
    kept_wide t is =
        let done : List (List Rec) = recs d.cvd.versions []
        in let pieces : all_wide (kept_pieces d t) ≡ kept_pieces after t = sym (kept_are t)
        in let all : map longer (joined (kept_pieces d t)) ≡ joined (kept_pieces after t) = sym (joined_map longer (kept_pieces d t)) ∙ ap joined pieces
        in let long : length (pieces_of d.parts t.source) ≡ length (pieces_of after.parts t.source) =
        sym (length-map (pieces_of d.parts t.source) (map longer)) ∙ sym (ap length (ap (λ parts. pieces_of parts t.source) parts_are ∙ pieces_wide d.parts t.source))
        in record {
          there = subst (λ k. AreBelow k t.kept) long is.there;
          serves = subst (λ vids. (t.kept ≡ []) ⊎ (meets t.versions vids ≡ true)) (sym (ap (λ parts. versions_of parts t.source) parts_are ∙ same_versions d.parts t.source)) is.serves;
          once = subst NoTwice all (once_wide (joined (kept_pieces d t)) is.once);
          full = subst AllFull pieces (full_wide (kept_pieces d t) is.full);
          only = subst (λ rss. AreOf rss t.versions (joined (kept_pieces after t))) (sym recs_are)
              (subst (AreOf (all_wide done) t.versions) all (are_wide done t.versions (joined (kept_pieces d t)) is.only));
          count = is.count ∙ sym (length-map (joined (kept_pieces d t)) longer) ∙ ap length all;
        }

    all_kept : (ts : List Target) → AllKept d ts → AllKept after ts
    all_kept [] are = tt
    all_kept (t ∷ ts) are = (kept_wide t are.0, all_kept ts are.1)

    way_wide : (plan : Plan) → IsUnderWay d plan → IsUnderWay after (record plan { copied = all_wide plan.copied })
    way_wide plan way =
        let kept : List Rec = joined (kept_pieces d (current plan))
        in let copied : List Rec = joined plan.copied
        in let all : map longer (kept ++ copied) ≡ joined (kept_pieces after (current plan)) ++ joined (all_wide plan.copied) =
        map-append longer kept copied
        ∙ ap (λ l. l ++ map longer copied) (sym (joined_map longer (kept_pieces d (current plan))) ∙ ap joined (sym (kept_are (current plan))))
        ∙ ap (λ l. joined (kept_pieces after (current plan)) ++ l) (sym (joined_map longer plan.copied))
        in record {
          apart = way.apart;
          kept = all_kept (targets_from plan.at plan.targets) way.kept;
          once = subst NoTwice all (once_wide (kept ++ copied) way.once);
          full = full_wide plan.copied way.full;
          only = subst (λ rss. AreOf rss (current plan).versions (joined (all_wide plan.copied))) (sym recs_are)
              (subst (AreOf (all_wide (recs d.cvd.versions [])) (current plan).versions) (sym (joined_map longer plan.copied))
              (are_wide (recs d.cvd.versions []) (current plan).versions copied way.only));
        }

    plan_wide : (plan : Option Plan) → PlanIsUnderWay d plan → PlanIsUnderWay after (wide_plan n plan)
    plan_wide None way = tt
    plan_wide (Some plan) way = way_wide plan way

  wide_ids : (parts : List Part) (id : ℕ) → id_times (map (wide_part n) parts) id ≡ id_times parts id
  wide_ids [] id = refl
  wide_ids (part ∷ parts) id = ap (λ k. one_if (part.id == id) + k) (wide_ids parts id)

pub wide_pieces : (added : List Column) (d : Dataset) → HasPieces d → HasPieces (wide added d)
wide_pieces [] d is = is
wide_pieces (column ∷ added) d is =
    let n : ℕ = length (column ∷ added)
    in let all : recs (map (wide_version n) d.cvd.versions) [] ≡ map (map (wide_rec n)) (recs d.cvd.versions []) = wide_recs n d.cvd.versions []
    in record {
      parts = subst (λ rss. PartsArePieces rss (map (wide_part n) d.parts)) (sym all) (parts_wide n (recs d.cvd.versions []) d.parts is.parts);
      plan = plan_wide n d (wide (column ∷ added) d) refl all d.plan is.plan;
      rows = have_wide n d.cvd.versions is.rows;
      no_zero = wide_ids n d.parts 0 ∙ is.no_zero;
      next = is.next;
    }
