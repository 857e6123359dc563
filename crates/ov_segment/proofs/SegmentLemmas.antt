-- What holds in the course of reading a segment.
use Rattle.std.proofs.Common.{inl, inr, ◌≡◌, ◌<◌, ◌≤◌, ◌-◌, ◌^◌, ℕ, List, [], ◌∷◌, ◌++◌, length, take, drop, refl, sym, ◌∙◌, ap, subst, arith, append_assoc}
use Rattle.std.proofs.lemmas.Grind.{flat_map-append}
use Rattle.std.proofs.lemmas.List.{append-nil, take_at, drop_at, length-drop}
use Rattle.std.proofs.Math.Seq.{take-length}
use Rattle.ov_value.specs.Shapes.{Shape}
use Rattle.ov_value.specs.Spelling.{row_spelling}
use Rattle.ov_value.proofs.MarkLemmas.{rows_same}
use Rattle.ov_segment.specs.declared.numbered.Record.{Record}
use Rattle.ov_segment.specs.Segments.{record_bytes, segment_spelling, IsNext, AreRecords, last_of}
use Rattle.ov_segment.specs.Reading.{len_at, InBounds, WantsMore, IsOff, Begins}
use Rattle.ov_segment.proofs.RecordLemmas.{front}

-- one record stands in front
pub begins_same : (schema : Shape) (last : ℕ) (held : List ℕ) (r s : Record) (x y : List ℕ) → Begins schema last held r x → Begins schema last held s y → (r ≡ s) × (x ≡ y)
begins_same schema last held r s x y b c =
    let p = front schema last held r x b in
    let q = front schema last held s y c in
    let rid : r.rid ≡ s.rid = sym p.rid ∙ q.rid in
    let len : length (row_spelling r.row).bytes ≡ length (row_spelling s.row).bytes = sym p.len ∙ q.len in
    let marked : (row_spelling r.row).marked ≡ (row_spelling s.row).marked = sym p.marked ∙ q.marked in
    let behind : (row_spelling r.row).bytes ++ x ≡ (row_spelling s.row).bytes ++ y = sym p.behind ∙ q.behind in
    let bytes : (row_spelling r.row).bytes ≡ (row_spelling s.row).bytes =
    sym (take_at (row_spelling r.row).bytes x (length (row_spelling r.row).bytes) refl)
    ∙ (λ i. take (len i) (behind i)) ∙ take_at (row_spelling s.row).bytes y (length (row_spelling s.row).bytes) refl in
    let rests : x ≡ y =
    sym (drop_at (row_spelling r.row).bytes x (length (row_spelling r.row).bytes) refl)
    ∙ (λ i. drop (len i) (behind i)) ∙ drop_at (row_spelling s.row).bytes y (length (row_spelling s.row).bytes) refl in
    let same : row_spelling r.row ≡ row_spelling s.row = λ i. record { marked = marked i; bytes = bytes i } in
    let row = rows_same schema r.row s.row b.next.row c.next.row same in
    (λ i. record { rid = rid i; row = row i }, rests)

-- a record in front wants no more bytes, and its bytes are not off
pub begins_whole : (schema : Shape) (last : ℕ) (held : List ℕ) (r : Record) (rest : List ℕ) → Begins schema last held r rest → WantsMore last held → ⊥
begins_whole schema last held r rest b wants =
    let p = front schema last held r rest b in
    elim wants [
      | inl few ↦ omega (arith, p.whole, few)
      | inr short ↦ omega (arith, p.whole, p.len, short.1)
    ]

pub begins_good : (schema : Shape) (last : ℕ) (held : List ℕ) (r : Record) (rest : List ℕ) → Begins schema last held r rest → IsOff schema last held → ⊥
begins_good schema last held r rest b off =
    let p = front schema last held r rest b in
    let bounds : InBounds last held = record {
      above = subst (λ n. last < n) (sym p.rid) b.next.above;
      below = subst (λ n. n ≤ 2 ^ 31) (sym p.rid) b.next.below;
      small = subst (λ n. n ≤ 65536) (sym p.len) b.next.small;
    } in
    let bytes : take (len_at held) (drop 8 held) ≡ (row_spelling r.row).bytes =
    (λ i. take (p.len i) (p.behind i)) ∙ take_at (row_spelling r.row).bytes rest (length (row_spelling r.row).bytes) refl in
    elim off.1 [
      | inl out ↦ out bounds
      | inr none ↦ none.none r.row b.next.row (p.marked, bytes)
    ]

pub records-push : (schema : Shape) (last : ℕ) (rs : List Record) (r : Record) → AreRecords schema last rs → IsNext schema (last_of last rs) r → AreRecords schema last (rs ++ r ∷ [])
records-push schema last [] r h n = (n, tt)
records-push schema last (x ∷ rs) r h n = (h.0, records-push schema x.rid rs r h.1 n)

pub last_of-push : (last : ℕ) (rs : List Record) (r : Record) → last_of last (rs ++ r ∷ []) ≡ r.rid
last_of-push last [] r = refl
last_of-push last (x ∷ rs) r = last_of-push x.rid rs r

pub records-append : (schema : Shape) (last : ℕ) (rs ss : List Record) → AreRecords schema last rs → AreRecords schema (last_of last rs) ss → AreRecords schema last (rs ++ ss)
records-append schema last [] ss h k = k
records-append schema last (r ∷ rs) ss h k = (h.0, records-append schema r.rid rs ss h.1 k)

pub last_of-append : (last : ℕ) (rs ss : List Record) → last_of last (rs ++ ss) ≡ last_of (last_of last rs) ss
last_of-append last [] ss = refl
last_of-append last (r ∷ rs) ss = last_of-append r.rid rs ss

-- the last rid isn't below the one before the records
pub last_of-rises : (schema : Shape) (last : ℕ) (rs : List Record) → AreRecords schema last rs → last ≤ last_of last rs
last_of-rises schema last [] h = omega arith
last_of-rises schema last (r ∷ rs) h = omega (arith, h.0.above, last_of-rises schema r.rid rs h.1)

-- what is left of the records whose front has been read
pub record Left (schema : Shape) (records : List Record) (last : ℕ) (rest : List ℕ) (all : List Record) : Type 0 where
  pub tail : List Record
  pub all_is : all ≡ records ++ tail
  pub follow : AreRecords schema last tail
  pub rest_is : rest ≡ segment_spelling tail

pub record HasRead (schema : Shape) (bytes : List ℕ) (records : List Record) (last : ℕ) (rest : List ℕ) : Type 0 where
  pub are : AreRecords schema 0 records
  pub last_is : last_of 0 records ≡ last
  pub bytes_are : bytes ≡ segment_spelling records ++ rest
  pub only : (all : List Record) → AreRecords schema 0 all → bytes ≡ segment_spelling all → Left schema records last rest all

-- what is in front of the bytes of records
pub tail_front : (schema : Shape) (last : ℕ) (rest : List ℕ) (r : Record) (tail : List Record) → AreRecords schema last (r ∷ tail) → rest ≡ segment_spelling (r ∷ tail) → Begins schema last rest r (segment_spelling tail)
tail_front schema last rest r tail h e = record { next = h.0; held_is = e }

-- the first of the records that are left is the one in front
pub next_is : (schema : Shape) (last : ℕ) (rest : List ℕ) (r : Record) (after : List ℕ) → Begins schema last rest r after → (tail : List Record) → AreRecords schema last tail → rest ≡ segment_spelling tail
    → (xs : List Record) × (tail ≡ r ∷ xs) × AreRecords schema r.rid xs × (after ≡ segment_spelling xs)
next_is schema last rest r after b [] h e =
    let p = front schema last rest r after b in
    absurd (omega (arith, p.whole, ap length e))
next_is schema last rest r after b (x ∷ xs) h e =
    let same = begins_same schema last rest x r (segment_spelling xs) after (tail_front schema last rest x xs h e) b in
    (xs, (λ i. same.0 i ∷ xs), subst (λ (y : Record). AreRecords schema y.rid xs) same.0 h.1, sym same.1)

pub read_next : (schema : Shape) (bytes : List ℕ) (records : List Record) (last : ℕ) (rest : List ℕ) (r : Record) (after : List ℕ)
    → HasRead schema bytes records last rest → Begins schema last rest r after → HasRead schema bytes (records ++ r ∷ []) r.rid after
read_next schema bytes records last rest r after h b =
    let one : segment_spelling (records ++ r ∷ []) ≡ segment_spelling records ++ record_bytes r =
    flat_map-append record_bytes records (r ∷ []) ∙ ap (λ (l : List ℕ). segment_spelling records ++ l) (append-nil (record_bytes r)) in
    record {
      are = records-push schema 0 records r h.are (subst (λ n. IsNext schema n r) (sym h.last_is) b.next);
      last_is = last_of-push 0 records r;
      bytes_are = h.bytes_are ∙ ap (λ (l : List ℕ). segment_spelling records ++ l) b.held_is
          ∙ sym (append_assoc (segment_spelling records) (record_bytes r) after) ∙ ap (λ (l : List ℕ). l ++ after) (sym one);
      only = λ all are e.
          let left = h.only all are e in
          let next = next_is schema last rest r after b left.tail left.follow left.rest_is in
          record {
            tail = next.0;
            all_is = left.all_is ∙ ap (λ (l : List Record). records ++ l) next.1 ∙ sym (append_assoc records (r ∷ []) next.0);
            follow = next.2;
            rest_is = next.3;
          };
    }

-- the same of some records
pub read_all : (schema : Shape) (bytes : List ℕ) (records : List Record) (last : ℕ) (rest : List ℕ) (more : List Record) (after : List ℕ)
    → HasRead schema bytes records last rest → AreRecords schema last more → rest ≡ segment_spelling more ++ after → HasRead schema bytes (records ++ more) (last_of last more) after
read_all schema bytes records last rest [] after h are e =
    subst (λ (l : List Record). HasRead schema bytes l last after) (sym (append-nil records)) (subst (HasRead schema bytes records last) e h)
read_all schema bytes records last rest (r ∷ more) after h are e =
    let front : Begins schema last rest r (segment_spelling more ++ after) = record {
      next = are.0;
      held_is = e ∙ append_assoc (record_bytes r) (segment_spelling more) after;
    } in
    subst (λ (l : List Record). HasRead schema bytes l (last_of r.rid more) after) (append_assoc records (r ∷ []) more)
    (read_all schema bytes (records ++ r ∷ []) r.rid (segment_spelling more ++ after) more after (read_next schema bytes records last rest r (segment_spelling more ++ after) h front) are.1 refl)

-- where no record is in front, no records have these bytes
pub read_none : (schema : Shape) (bytes : List ℕ) (records : List Record) (last : ℕ) (rest : List ℕ) → HasRead schema bytes records last rest → 0 < length rest
    → ((r : Record) (after : List ℕ) → Begins schema last rest r after → ⊥) → (all : List Record) → AreRecords schema 0 all → bytes ≡ segment_spelling all → ⊥
read_none schema bytes records last rest h some none all are e =
    let left = h.only all are e in
    by left.tail left.follow left.rest_is
  where
    by : (tail : List Record) → AreRecords schema last tail → rest ≡ segment_spelling tail → ⊥
    by [] f is = omega (arith, some, ap length is)
    by (x ∷ xs) f is = none x (segment_spelling xs) (tail_front schema last rest x xs f is)

-- all bytes have been read
pub read_only : (schema : Shape) (bytes : List ℕ) (records : List Record) (last : ℕ) (rest : List ℕ) → HasRead schema bytes records last rest → length rest ≡ 0
    → (all : List Record) → AreRecords schema 0 all → bytes ≡ segment_spelling all → records ≡ all
read_only schema bytes records last rest h ended all are e =
    let left = h.only all are e in
    sym (left.all_is ∙ ap (λ (l : List Record). records ++ l) (by left.tail left.follow left.rest_is) ∙ append-nil records)
  where
    by : (tail : List Record) → AreRecords schema last tail → rest ≡ segment_spelling tail → tail ≡ []
    by [] f is = refl
    by (x ∷ xs) f is =
        let p = front schema last rest x (segment_spelling xs) (tail_front schema last rest x xs f is) in
        absurd (omega (arith, p.whole, ended))

-- what stands behind the first n bytes
pub tail_slice : (xs : List ℕ) (n : ℕ) → take (length xs - n) (drop n xs) ≡ drop n xs
tail_slice xs n = subst (λ m. take m (drop n xs) ≡ drop n xs) (length-drop n xs) (take-length (drop n xs))
