-- Places that are moved, chosen or left out, and the records there.
use Rattle.std.proofs.Common.{◌≡◌, ◌<◌, ◌≤◌, ◌+◌, ◌-◌, ◌==◌, ℕ, true, false, cond, List, [], ◌∷◌, ◌++◌, length, map, take, drop, get_or, refl, sym, ◌∙◌, ap, subst, arith}
use Rattle.std.specs.List.{All, dedup, dedup_from}
use Rattle.std.proofs.lemmas.List.{get_or-map, length-map, length-append, map-append}
use Rattle.std.proofs.lemmas.List.Elements.{All-head, All-tail, All-append}
use Rattle.std.proofs.lemmas.List.Filters.{All-dedup}
use Rattle.std.proofs.Math.Seq.{drop-append-add}
use Rattle.ov_value.specs.declared.column.Column.{Column}
use Rattle.ov_value.specs.Decoding.{row_of, AreRow}
use Rattle.ov_segment.specs.declared.numbered.Record.{Record}
use Rattle.ov_segment.specs.declared.place.Place.{Place}
use Rattle.ov_segment.specs.Tables.{piece, record_at, records_at, moved_by, no_place, places_in, IsAt, AreAt}
use Rattle.ov_segment.proofs.TableLemmas.{are_more, records_more}

---- left out

dedup_from-map : (columns : List Column) (bytes : List ℕ) (k : Place) (ps : List Place)
    → dedup_from (λ (x y : Record). x.rid == y.rid) (record_at columns bytes k) (records_at columns bytes ps) ≡ records_at columns bytes (dedup_from (λ (x y : Place). x.rid == y.rid) k ps)
dedup_from-map columns bytes k [] = refl
dedup_from-map columns bytes k (p ∷ ps) = elim (p.rid == k.rid) as
    (λ b. cond b (dedup_from (λ (x y : Record). x.rid == y.rid) (record_at columns bytes k) (records_at columns bytes ps)) (record_at columns bytes k ∷ dedup_from (λ (x y : Record). x.rid == y.rid) (record_at columns bytes p) (records_at columns bytes ps))
    ≡ records_at columns bytes (cond b (dedup_from (λ (x y : Place). x.rid == y.rid) k ps) (k ∷ dedup_from (λ (x y : Place). x.rid == y.rid) p ps))) [
      | true ↦ dedup_from-map columns bytes k ps
      | false ↦ ap (λ (l : List Record). record_at columns bytes k ∷ l) (dedup_from-map columns bytes p ps)
    ]

pub records_dedup : (columns : List Column) (bytes : List ℕ) (ps : List Place)
    → dedup (λ (x y : Record). x.rid == y.rid) (records_at columns bytes ps) ≡ records_at columns bytes (dedup (λ (x y : Place). x.rid == y.rid) ps)
records_dedup columns bytes [] = refl
records_dedup columns bytes (p ∷ ps) = dedup_from-map columns bytes p ps

pub are_dedup : (columns : List Column) (bytes : List ℕ) (ps : List Place) → AreAt columns bytes ps → AreAt columns bytes (dedup (λ (x y : Place). x.rid == y.rid) ps)
are_dedup columns bytes ps h = record { few = h.few; at = All-dedup (λ (x y : Place). x.rid == y.rid) (IsAt columns bytes) ps h.at }

---- chosen

pub are_chosen : (columns : List Column) (bytes : List ℕ) (ps : List Place) (order : List ℕ) → AreAt columns bytes ps → All (λ i. i < length ps) order
    → AreAt columns bytes (places_in ps order)
are_chosen columns bytes ps order h there = record {
  few = h.few;
  at = λ k d lt.
      let k_there : k < length order = subst (λ n. k < n) (length-map order (λ i. get_or ps i no_place)) lt in
      let is = get_or-map (λ i. get_or ps i no_place) order k 0 d k_there in
      subst (IsAt columns bytes) (sym is) (h.at (get_or order k 0) no_place (there k 0 k_there));
}

pub records_chosen : (columns : List Column) (bytes : List ℕ) (ps : List Place) (other : Record) (order : List ℕ) → All (λ i. i < length ps) order
    → records_at columns bytes (places_in ps order) ≡ map (λ i. get_or (records_at columns bytes ps) i other) order
records_chosen columns bytes ps other [] there = refl
records_chosen columns bytes ps other (i ∷ order) there =
    let one = sym (get_or-map (record_at columns bytes) ps i no_place other (All-head (λ i. i < length ps) i order there)) in
    let others = records_chosen columns bytes ps other order (All-tail (λ i. i < length ps) i order there) in
    λ k. one k ∷ others k

---- moved behind other bytes

piece_moved : (before bytes : List ℕ) (p : Place) → p.start ≤ p.end → piece (before ++ bytes) (moved_by (length before) p) ≡ piece bytes p
piece_moved before bytes p order =
    let shorter : (length before + p.end) - (length before + p.start) ≡ p.end - p.start = omega (arith, order) in
    (λ i. take (shorter i) (drop (length before + p.start) (before ++ bytes))) ∙ ap (λ (l : List ℕ). take (p.end - p.start) l) (drop-append-add before bytes p.start)

pub is_moved : (columns : List Column) (before bytes : List ℕ) (p : Place) → IsAt columns bytes p → IsAt columns (before ++ bytes) (moved_by (length before) p)
is_moved columns before bytes p h = record {
  order = omega (arith, h.order);
  within = omega (arith, h.within, length-append before bytes);
  spelled = subst (λ (l : List ℕ). AreRow columns p.marked l) (sym (piece_moved before bytes p h.order)) h.spelled;
}

pub records_moved : (columns : List Column) (before bytes : List ℕ) (ps : List Place) → All (IsAt columns bytes) ps
    → records_at columns (before ++ bytes) (map (moved_by (length before)) ps) ≡ records_at columns bytes ps
records_moved columns before bytes [] h = refl
records_moved columns before bytes (p ∷ ps) h =
    let here = All-head (IsAt columns bytes) p ps h in
    let one : record_at columns (before ++ bytes) (moved_by (length before) p) ≡ record_at columns bytes p = ap (λ (l : List ℕ). record { rid = p.rid; row = row_of columns p.marked l }) (piece_moved before bytes p here.order) in
    let others = records_moved columns before bytes ps (All-tail (IsAt columns bytes) p ps h) in
    λ i. one i ∷ others i

all_moved : (columns : List Column) (before bytes : List ℕ) (ps : List Place) → All (IsAt columns bytes) ps → All (IsAt columns (before ++ bytes)) (map (moved_by (length before)) ps)
all_moved columns before bytes ps h k d lt =
    let k_there : k < length ps = subst (λ n. k < n) (length-map ps (moved_by (length before))) lt in
    subst (IsAt columns (before ++ bytes)) (sym (get_or-map (moved_by (length before)) ps k no_place d k_there)) (is_moved columns before bytes (get_or ps k no_place) (h k no_place k_there))

-- both tables as one
pub are_joined : (columns : List Column) (before bytes : List ℕ) (ps qs : List Place) → AreAt columns before ps → AreAt columns bytes qs
    → AreAt columns (before ++ bytes) (ps ++ map (moved_by (length before)) qs)
are_joined columns before bytes ps qs h others = record {
  few = h.few;
  at = All-append (IsAt columns (before ++ bytes)) ps (map (moved_by (length before)) qs) (are_more columns before bytes ps h).at (all_moved columns before bytes qs others.at);
}

pub records_joined : (columns : List Column) (before bytes : List ℕ) (ps qs : List Place) → AreAt columns before ps → AreAt columns bytes qs
    → records_at columns (before ++ bytes) (ps ++ map (moved_by (length before)) qs) ≡ records_at columns before ps ++ records_at columns bytes qs
records_joined columns before bytes ps qs h others =
    map-append (record_at columns (before ++ bytes)) ps (map (moved_by (length before)) qs)
    ∙ (λ i. records_more columns before bytes ps h i ++ records_moved columns before bytes qs others.at i)

---- rows alone

pub rows_chosen : (records : List Record) (order : List ℕ) → All (λ i. i < length (map (λ (r : Record). r.row) records)) order
    → map (λ (r : Record). r.row) (map (λ i. get_or records i (record { rid = 0; row = [] })) order) ≡ map (λ i. get_or (map (λ (r : Record). r.row) records) i []) order
rows_chosen records [] there = refl
rows_chosen records (i ∷ order) there =
    let here = All-head (λ i. i < length (map (λ (r : Record). r.row) records)) i order there in
    let one = sym (get_or-map (λ (r : Record). r.row) records i (record { rid = 0; row = [] }) [] (subst (λ n. i < n) (length-map records (λ (r : Record). r.row)) here)) in
    let others = rows_chosen records order (All-tail (λ i. i < length (map (λ (r : Record). r.row) records)) i order there) in
    λ k. one k ∷ others k
