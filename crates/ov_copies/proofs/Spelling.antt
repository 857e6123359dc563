-- The bytes of a copy's segment.
use Rattle.std.proofs.Common.{◌≡◌, ◌<◌, ◌≤◌, ◌+◌, ◌*◌, ◌^◌, ◌==◌, ℕ, true, not, ◌&&◌, List, [], ◌∷◌, ◌++◌, length, take, get_or, refl, sym, ◌∙◌, ap, subst, inl, inr, arith, length-append}
use Rattle.std.specs.List.{All}
use Rattle.std.specs.Int.{w32, to_be_bytes}
use Rattle.std.proofs.lemmas.Bool.Decides.{nat_tests}
use Rattle.std.proofs.lemmas.Grind.{flat_map-append}
use Rattle.std.proofs.lemmas.List.{append-nil, length-map, take_more}
use Rattle.ov_event.specs.declared.event.Event.TheVariants as says
use Rattle.ov_event.specs.Fields.{IsExtent}
use Rattle.ov_event.specs.Spelling.{IsEvent}
use Rattle.ov_host.specs.declared.area.Extent.{Extent}
use Rattle.ov_value.specs.Shapes.{Shape}
use Rattle.ov_value.specs.declared.value.Value.{Value}
use Rattle.ov_value.specs.Spelling.{row_spelling}
use Rattle.ov_segment.specs.declared.numbered.Record.{Record}
use Rattle.ov_segment.specs.Segments.{AreRecords, record_bytes, segment_spelling, with_mark}
use Rattle.ov_model.specs.Lists.{IsIn}
use Rattle.ov_catalog.specs.Testing.{is_extent}
use Rattle.ov_fetch.specs.Extents.{rids_of}
use Rattle.ov_core.specs.Brought.{extent_at}
use Rattle.law_reads.proofs.Orders.{all_of}

-- ---- how long they are

record_long : (r : Record) → length (record_bytes r) ≡ 8 + length (row_spelling r.row).bytes
unfolding record_bytes
record_long r =
    let row : List ℕ = (row_spelling r.row).bytes
    in let number : List ℕ = to_be_bytes w32 (with_mark (row_spelling r.row).marked (length row))
    in omega (arith, length-append number row, length-append (to_be_bytes w32 r.rid) (number ++ row))

-- eight bytes and the row's for each record
pub record IsSized (records : List Record) : Type 0 where
  pub least : 8 * length records ≤ length (segment_spelling records)
  pub most : length (segment_spelling records) ≤ 65544 * length records

pub sized : (schema : Shape) (last : ℕ) (rs : List Record) → AreRecords schema last rs → IsSized rs
sized schema last [] are = record { least = omega arith; most = omega arith }
sized schema last (r ∷ rs) are =
    let rest = sized schema r.rid rs are.1
    in let whole : length (segment_spelling (r ∷ rs)) ≡ length (record_bytes r) + length (segment_spelling rs) = length-append (record_bytes r) (segment_spelling rs)
    in let here = record_long r
    in record { least = omega (arith, whole, here, rest.least); most = omega (arith, whole, here, rest.most, are.0.small) }

-- those of one record at least and of 256 at most
pub bounded : (schema : Shape) (records : List Record) (rids bytes : List ℕ) → AreRecords schema 0 records → rids_of records ≡ rids → 1 ≤ length rids → length rids ≤ 256
    → bytes ≡ segment_spelling records → (0 < length bytes) × (length bytes < 2 ^ 25)
bounded schema records rids bytes are rids_are some few is =
    let count : length records ≡ length rids = sym (length-map records (λ (r : Record). r.rid)) ∙ ap length rids_are
    in let size = sized schema 0 records are
    in let long : length bytes ≡ length (segment_spelling records) = ap length is
    in (omega (arith, count, long, some, size.least), omega (arith, count, long, few, size.most))

small_in : (schema : Shape) (last : ℕ) (rs : List Record) (r : Record) → AreRecords schema last rs → IsIn rs r → length (row_spelling r.row).bytes ≤ 65536
small_in schema last [] r are is = absurd is
small_in schema last (x ∷ rs) r are (inl same) = subst (λ q. length (row_spelling q.row).bytes ≤ 65536) (sym same) are.0.small
small_in schema last (x ∷ rs) r are (inr later) = small_in schema x.rid rs r are.1 later

pub small : (schema : Shape) (rs : List Record) → AreRecords schema 0 rs → All (λ r. length (row_spelling r.row).bytes ≤ 65536) rs
small schema rs are = all_of (λ r. length (row_spelling r.row).bytes ≤ 65536) rs (λ r is. small_in schema 0 rs r are is)

-- ---- one record more

pub none : Record
none = record { rid = 0; row = [] }

pub one_of : (rid : ℕ) (row : List Value) (r : Record) → rid ≡ r.rid → row ≡ r.row → ◌≡◌ {A = Record} (record { rid = rid; row = row }) r
one_of rid row r same rows = λ i. record { rid = same i; row = rows i }

pub spelled_more : (rs : List Record) (i : ℕ) → i < length rs → segment_spelling (take (i + 1) rs) ≡ segment_spelling (take i rs) ++ record_bytes (get_or rs i none)
spelled_more rs i low =
    ap segment_spelling (take_more rs i none low) ∙ flat_map-append record_bytes (take i rs) (get_or rs i none ∷ [])
    ∙ ap (λ bytes. segment_spelling (take i rs) ++ bytes) (append-nil (record_bytes (get_or rs i none)))

-- ---- their extent

pub extent_is : (bytes : List ℕ) → extent_at 0 bytes ≡ record { page = 0; bytes = length bytes }
extent_is [] = refl
extent_is (byte ∷ bytes) = refl

pub extent_fits : (bytes : List ℕ) → length bytes < 2 ^ 32 → IsExtent (extent_at 0 bytes)
extent_fits bytes low = subst IsExtent (sym (extent_is bytes)) (omega arith, low)

sound_extent : (n : ℕ) → 0 < n → n < 2 ^ 25 → (not (n == 0) && is_extent (record { page = 0; bytes = n })) ≡ true
sound_extent n some low = grind (arith, nat_tests)

pub extent_sound : (bytes : List ℕ) → 0 < length bytes → length bytes < 2 ^ 25 → (not ((extent_at 0 bytes).bytes == 0) && is_extent (extent_at 0 bytes)) ≡ true
extent_sound bytes some low = ap (λ (e : Extent). not (e.bytes == 0) && is_extent e) (extent_is bytes) ∙ sound_extent (length bytes) some low

-- ---- their event

pub copy_spelled : (cvd count : ℕ) (segment : Extent) → cvd < 2 ^ 32 → count < 2 ^ 32 → IsExtent segment → IsEvent (says.Copy cvd count segment)
unfolding IsEvent
copy_spelled cvd count segment low few fits = (low, few, fits)
