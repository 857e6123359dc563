-- Places in a buffer: more bytes behind change no record, and one more place is one more record.
use Rattle.std.proofs.Common.{◌≡◌, ◌<◌, ◌≤◌, ◌+◌, ◌-◌, ◌/◌, ◌%◌, ◌==◌, ℕ, suc, Bool, true, false, List, [], ◌∷◌, ◌++◌, length, map, take, drop, get_or, refl, sym, ◌∙◌, ap, subst, arith}
use Rattle.std.specs.List.{All}
use Rattle.std.proofs.lemmas.List.{take-append-le, drop-append-le, drop_at, take_all, length-drop, length-append, take-append-drop, map_push, get_or-map}
use Rattle.std.proofs.lemmas.List.Elements.{All-head, All-tail, All-push}
use Rattle.ov_value.specs.declared.column.Column.{Column}
use Rattle.ov_value.specs.declared.value.Value.{Value}
use Rattle.ov_value.specs.Shapes.{Shape}
use Rattle.ov_value.specs.Spelling.{IsRow, row_spelling}
use Rattle.ov_value.specs.Decoding.{body_of, decoded, nulls_of, row_of, step_rest, AreRow}
use Rattle.ov_value.proofs.Longer.{row_longer}
use Rattle.ov_value.proofs.MarkLemmas.{row_spelled}
use Rattle.ov_value.proofs.Standing.{row_is, are_row}
use Rattle.ov_segment.specs.declared.numbered.Record.{Record}
use Rattle.ov_segment.specs.declared.place.Place.{Place}
use Rattle.ov_segment.specs.Tables.{longer, piece, record_at, records_at, IsAt, AreAt}

piece_more : (bytes more : List ℕ) (p : Place) → p.start ≤ p.end → p.end ≤ length bytes → piece (bytes ++ more) p ≡ piece bytes p
piece_more bytes more p order within =
    ap (λ (l : List ℕ). take (p.end - p.start) l) (drop-append-le p.start bytes more (omega arith))
    ∙ take-append-le (p.end - p.start) (drop p.start bytes) more (omega (arith, length-drop p.start bytes))

is_more : (columns : List Column) (bytes more : List ℕ) (p : Place) → IsAt columns bytes p → IsAt columns (bytes ++ more) p
is_more columns bytes more p h = record {
  order = h.order;
  within = omega (arith, h.within, length-append bytes more);
  spelled = subst (λ (l : List ℕ). AreRow columns p.marked l) (sym (piece_more bytes more p h.order h.within)) h.spelled;
}

-- the records of all places, where more bytes stand behind
pub are_more : (columns : List Column) (bytes more : List ℕ) (places : List Place) → AreAt columns bytes places → AreAt columns (bytes ++ more) places
are_more columns bytes more places h = record { few = h.few; at = λ k d lt. is_more columns bytes more (get_or places k d) (h.at k d lt) }

same_more : (columns : List Column) (bytes more : List ℕ) (places : List Place) → All (IsAt columns bytes) places → records_at columns (bytes ++ more) places ≡ records_at columns bytes places
same_more columns bytes more [] h = refl
same_more columns bytes more (p ∷ places) h =
    let here = All-head (IsAt columns bytes) p places h in
    let one : record_at columns (bytes ++ more) p ≡ record_at columns bytes p = ap (λ (l : List ℕ). record { rid = p.rid; row = row_of columns p.marked l }) (piece_more bytes more p here.order here.within) in
    let others = same_more columns bytes more places (All-tail (IsAt columns bytes) p places h) in
    λ i. one i ∷ others i

pub records_more : (columns : List Column) (bytes more : List ℕ) (places : List Place) → AreAt columns bytes places → records_at columns (bytes ++ more) places ≡ records_at columns bytes places
records_more columns bytes more places h = same_more columns bytes more places h.at

-- a place of the bytes that were added
piece_new : (bytes added : List ℕ) (p : Place) → p.start ≡ length bytes → p.end ≡ length bytes + length added → piece (bytes ++ added) p ≡ added
piece_new bytes added p from to =
    ap (λ (l : List ℕ). take (p.end - p.start) l) (drop_at bytes added p.start (sym from)) ∙ take_all (p.end - p.start) added (omega arith)

-- one more place, of bytes that spell a row
pub record Added (columns : List Column) (bytes added : List ℕ) (places : List Place) (p : Place) : Type 0 where
  pub are : AreAt columns (bytes ++ added) (places ++ p ∷ [])
  pub records_are : records_at columns (bytes ++ added) (places ++ p ∷ []) ≡ records_at columns bytes places ++ record { rid = p.rid; row = row_of columns p.marked added } ∷ []

pub added_at : (columns : List Column) (bytes added : List ℕ) (places : List Place) (p : Place) → AreAt columns bytes places → p.start ≡ length bytes → p.end ≡ length bytes + length added
    → AreRow columns p.marked added → Added columns bytes added places p
added_at columns bytes added places p h from to row =
    let is : piece (bytes ++ added) p ≡ added = piece_new bytes added p from to in
    record {
      are = record {
        few = h.few;
        at = All-push (IsAt columns (bytes ++ added)) places p (are_more columns bytes added places h).at
            (record {
              order = omega arith;
              within = omega (arith, length-append bytes added);
              spelled = subst (λ (l : List ℕ). AreRow columns p.marked l) (sym is) row;
            });
      };
      records_are =
          map_push (record_at columns (bytes ++ added)) places p
          ∙ (λ i. records_more columns bytes added places h i ++ record { rid = p.rid; row = row_of columns p.marked (is i) } ∷ []);
    }

-- the record at a position is that of the place there
pub record_there : (columns : List Column) (bytes : List ℕ) (places : List Place) (i : ℕ) (p : Place) (none : Record) → p ≡ get_or places i p → i < length places
    → get_or (records_at columns bytes places) i none ≡ record_at columns bytes p
record_there columns bytes places i p none is lt = get_or-map (record_at columns bytes) places i p none lt ∙ ap (record_at columns bytes) (sym is)

-- and its bytes spell a row
pub row_there : (columns : List Column) (bytes : List ℕ) (places : List Place) (i : ℕ) (p : Place) → AreAt columns bytes places → p ≡ get_or places i p → i < length places → IsAt columns bytes p
row_there columns bytes places i p h is lt = subst (IsAt columns bytes) (sym is) (h.at i p lt)

-- what stays in front stands before what came behind it
pub front_split : (old new : List ℕ) → take (length old) new ≡ old → new ≡ old ++ drop (length old) new
front_split old new e = sym (take-append-drop (length old) new) ∙ ap (λ (l : List ℕ). l ++ drop (length old) new) e

-- the bytes of a row of a schema
pub row_spelled_here : (schema : Shape) (row : List Value) → IsRow schema row
    → AreRow schema.columns (row_spelling row).marked (row_spelling row).bytes × (row ≡ row_of schema.columns (row_spelling row).marked (row_spelling row).bytes)
row_spelled_here schema row is =
    let spelled = row_spelled schema (row_spelling row).marked (row_spelling row).bytes row is (refl, refl) in
    (are_row schema.columns (row_spelling row).marked (row_spelling row).bytes row spelled, row_is schema.columns (row_spelling row).marked (row_spelling row).bytes row spelled)

-- ---- columns more

decoded_long : (columns : List Column) (nulls : ℕ) (bytes : List ℕ) → length (decoded columns nulls bytes) ≡ length columns
decoded_long [] nulls bytes = refl
decoded_long (column ∷ columns) nulls bytes = ap (λ n. suc n) (decoded_long columns (nulls / 2) (step_rest column.kind (nulls % 2 == 1) bytes))

module _ (columns added : List Column) (bytes : List ℕ) where
  is_longer : (p : Place) → IsAt columns bytes p → IsAt (columns ++ added) bytes p
  is_longer p h = record { order = h.order; within = h.within; spelled = (row_longer columns added p.marked (piece bytes p) h.spelled).0 }

  -- of at least one record
  pub are_longer : (p : Place) (places : List Place) → AreAt columns bytes (p ∷ places)
      → All (λ r. length r.row + length added ≤ 64) (records_at columns bytes (p ∷ places)) → AreAt (columns ++ added) bytes (p ∷ places)
  are_longer p places h short =
      let first = All-head (λ (r : Record). length r.row + length added ≤ 64) (record_at columns bytes p) (records_at columns bytes places) short in record {
        few = omega (arith, length-append columns added, first, decoded_long columns (nulls_of p.marked (piece bytes p)) (body_of p.marked (piece bytes p)));
        at = λ k d lt. is_longer (get_or (p ∷ places) k d) (h.at k d lt);
      }

  pub records_longer : (places : List Place) → All (IsAt columns bytes) places → records_at (columns ++ added) bytes places ≡ map (longer (length added)) (records_at columns bytes places)
  records_longer [] h = refl
  records_longer (p ∷ places) h =
      let here = All-head (IsAt columns bytes) p places h in
      let row = (row_longer columns added p.marked (piece bytes p) here.spelled).1 in
      let others = records_longer places (All-tail (IsAt columns bytes) p places h) in
      λ i. record { rid = p.rid; row = row i } ∷ others i

pub some_longer : (columns added : List Column) (bytes : List ℕ) (places : List Place) → (length places == 0) ≡ false → AreAt columns bytes places
    → All (λ r. length r.row + length added ≤ 64) (records_at columns bytes places) → AreAt (columns ++ added) bytes places
some_longer columns added bytes [] some h short = absurd (clash some)
  where
    clash : true ≡ false → ⊥
    clash e = cc
some_longer columns added bytes (p ∷ places) some h short = are_longer columns added bytes p places h short
