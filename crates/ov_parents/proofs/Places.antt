-- Records at the positions of a scan.
use Rattle.std.proofs.Common.{◌≡◌, ◌+◌, ℕ, zero, suc, Some, List, [], ◌∷◌, length, map, get_or, refl, sym, ◌∙◌, ap, subst, arith}
use Rattle.std.specs.Prelude.{slice_get}
use Rattle.std.specs.Ordering.{is_lt}
use Rattle.std.proofs.lemmas.List.{get_or-map, length-map}
use Rattle.std.proofs.lemmas.List.Elements.{All-nil, All-cons, All-head, All-tail}
use Rattle.std.proofs.lemmas.Option.{same_Some}
use Rattle.ov_value.specs.declared.value.Value.{Value}
use Rattle.ov_value.specs.Shapes.{Shape}
use Rattle.ov_value.specs.Rows.{Fits, key_cmp}
use Rattle.ov_segment.specs.declared.numbered.Record.{Record}
use Rattle.ov_catalog.proofs.Members.{heads, tails}
use Rattle.ov_fetch.specs.Scans.{AllFit, AllStand, InKeyOrder as RowsInOrder, row_at, rows_at, rows_of}
use Rattle.ov_fetch.proofs.Lacking.{get_at}
use Rattle.ov_records.specs.Records.{InKeyOrder}
use Rattle.ov_parents.specs.Taking.{StandAt}

stand_map : (records : List Record) (pick : List ℕ) (d : Record) → AllStand records pick → map (slice_get records) pick ≡ map Some (map (λ i. get_or records i d) pick)
stand_map records [] d stand = refl
stand_map records (p ∷ pick) d stand = λ i. get_at records p d (stand 0 0 (omega arith)) i ∷ stand_map records pick d (λ k e low. stand (suc k) e (omega (arith, low))) i

pub stand_at : (records : List Record) (pick : List ℕ) (found : List Record) → AllStand records pick → ((none : Record) → found ≡ map (λ i. get_or records i none) pick) → StandAt records pick found
stand_at records pick found stand are =
    let none : Record = record { rid = 0; row = [] } in
    stand_map records pick none stand ∙ ap (map Some) (sym (are none))

pub same_found : (found other : List Record) → map Some found ≡ map Some other → found ≡ other
same_found [] [] e = refl
same_found [] (r ∷ other) e = cc
same_found (r ∷ found) [] e = cc
same_found (r ∷ found) (x ∷ other) e =
    ap (λ (y : Record). y ∷ found) (same_Some r x (heads (Some r) (Some x) (map Some found) (map Some other) e))
    ∙ ap (λ (l : List Record). x ∷ l) (same_found found other (tails (Some r) (Some x) (map Some found) (map Some other) e))

pub count_is : (records : List Record) (pick : List ℕ) (found : List Record) → StandAt records pick found → length found ≡ length pick
count_is records pick found at = sym (length-map found Some) ∙ (sym (ap length at) ∙ length-map pick (slice_get records))

-- ---- rows at positions

row_is : (records : List Record) (place : ℕ) (r : Record) → slice_get records place ≡ Some r → row_at records place ≡ r.row
row_is [] place r e = cc
row_is (x ∷ records) zero r e = cc
row_is (x ∷ records) (suc place) r e = row_is records place r e

rows_are : (records : List Record) (pick : List ℕ) (found : List Record) → StandAt records pick found → rows_at records pick ≡ rows_of found
rows_are records [] [] e = refl
rows_are records [] (r ∷ found) e = cc
rows_are records (p ∷ pick) [] e = cc
rows_are records (p ∷ pick) (r ∷ found) e =
    ap (λ (row : List Value). row ∷ rows_at records pick) (row_is records p r (heads (slice_get records p) (Some r) (map (slice_get records) pick) (map Some found) e))
    ∙ ap (λ (l : List (List Value)). r.row ∷ l) (rows_are records pick found (tails (slice_get records p) (Some r) (map (slice_get records) pick) (map Some found) e))

pub in_order : (schema : Shape) (records : List Record) (pick : List ℕ) (found : List Record) → StandAt records pick found → RowsInOrder schema (rows_at records pick) → InKeyOrder schema found
in_order schema records pick found at sorted k d low high =
    let rows = subst (RowsInOrder schema) (rows_are records pick found at) sorted in
    let after = get_or-map (λ (r : Record). r.row) found (k + 1) d d.row high in
    let before = get_or-map (λ (r : Record). r.row) found k d d.row (omega (arith, high)) in
    let below = rows k d.row low (omega (arith, high, length-map found (λ (r : Record). r.row))) in
    ap (λ (x : List Value). is_lt (key_cmp schema x (get_or found k d).row)) (sym after)
    ∙ (ap (λ (y : List Value). is_lt (key_cmp schema (get_or (rows_of found) (k + 1) d.row) y)) (sym before) ∙ below)

row_fits : (schema : Shape) (records : List Record) (place : ℕ) (r : Record) → AllFit schema records → slice_get records place ≡ Some r → Fits schema r.row
row_fits schema [] place r all e = cc
row_fits schema (x ∷ records) zero r all e = subst (λ (y : Record). Fits schema y.row) (same_Some x r e) (All-head (Fits schema) x.row (rows_of records) all)
row_fits schema (x ∷ records) (suc place) r all e = row_fits schema records place r (All-tail (Fits schema) x.row (rows_of records) all) e

pub all_fit : (schema : Shape) (records : List Record) (pick : List ℕ) (found : List Record) → AllFit schema records → StandAt records pick found → AllFit schema found
all_fit schema records [] [] all e = All-nil (Fits schema)
all_fit schema records [] (r ∷ found) all e = cc
all_fit schema records (p ∷ pick) [] all e = cc
all_fit schema records (p ∷ pick) (r ∷ found) all e =
    All-cons (Fits schema) r.row (rows_of found) (row_fits schema records p r all (heads (slice_get records p) (Some r) (map (slice_get records) pick) (map Some found) e))
    (all_fit schema records pick found all (tails (slice_get records p) (Some r) (map (slice_get records) pick) (map Some found) e))
