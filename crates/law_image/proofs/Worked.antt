-- The bytes of one store, and the World that they stand for.
use Rattle.std.proofs.Common.{◌≡◌, ◌≢◌, ◌<◌, ◌≤◌, ◌+◌, ◌^◌, inr, ℕ, zero, suc, true, false, if◌then◌else◌, List, [], ◌∷◌, length, refl, sym, subst, arith}
use Rattle.std.specs.Prelude.{pos, nat_lt, codes, IsTrue, IsUtf8}
use Rattle.std.specs.Int.{w64}
use Rattle.std.specs.List.{AllByRecursion, IsDistinct, list_all}
use Rattle.std.specs.Str.{IsAscii}
use Rattle.std.proofs.lemmas.Int.{fits_signed_from_abs}
use Rattle.std.proofs.lemmas.List.Elements.{All-from_recursion}
use Rattle.std.proofs.lemmas.Str.{IsUtf8-from_ascii}
use Rattle.std.proofs.lemmas.Str.Ascii.{IsAscii-nil, IsAscii-cons}
use Rattle.std.proofs.lemmas.Bool.{ltb-true}
use Rattle.std.proofs.lemmas.Bool.Decides.{nat_tests}
use Rattle.ov_host.specs.declared.area.Extent.{Extent}
use Rattle.ov_host.specs.Extent.{pages_of}
use Rattle.ov_event.specs.Fields.{text, u32, extent, counted}
use Rattle.ov_event.specs.Spelling.{IsColumn, IsEvent, spelling, schema, column}
use Rattle.ov_value.specs.declared.value.Value.TheVariants.{Int, Text, Null}
use Rattle.ov_value.specs.Making.{column_refusal, name_refusal, key_refusal}
use Rattle.ov_value.specs.Naming.{is_name, is_vid, is_column_name}
use Rattle.ov_value.specs.Rows.{value_at}
use Rattle.ov_value.specs.Shapes.{IsSound, names}
use Rattle.ov_value.specs.Spelling.{IsRow, IsTyped, IsShort, row_spelling}
use Rattle.ov_member.specs.Lists.{run}
use Rattle.ov_journal.specs.Journal.{IsFront, IsJournal}
use Rattle.ov_model.specs.Book.{Row}
use Rattle.ov_model.specs.World.{empty_world}
use Rattle.ov_catalog.specs.Extents.{covers, has_page}
use Rattle.ov_catalog.specs.Reached.{AreRows, ByMove, Fits}
use Rattle.ov_catalog.specs.Stands.{StandsFor}
use Rattle.law_image.proofs.Readers.{both_true}
use Rattle.law_image.specs.Pages.{pages_in, readings_of}
use Rattle.law_image.specs.Images.{StandsAs}
use Rattle.law_image.specs.Worked.{the_columns, the_schema, the_rows, the_move, the_world, the_event, the_payload, the_front, the_pages, the_image, the_kept}

-- ---- the journal

front_is : IsFront the_kept the_front
front_is = record {
  place = 12;
  header = record { opened = refl; text = refl; live = refl; fields = refl };
  known = inr refl;
  low = omega arith;
  start = omega arith;
  records = refl;
  fits = omega arith;
}

journal_is : IsJournal the_kept the_image.journal
journal_is = record { front = the_front; gate = 0; rest = []; closed = λ e. absurd cc; whole = refl; begins = front_is }

-- ---- the event

ascii_of : (bytes : List ℕ) → list_all (λ b. nat_lt b 128) bytes ≡ true → IsAscii bytes
ascii_of [] all = IsAscii-nil
ascii_of (b ∷ bytes) all =
    let two = both_true (nat_lt b 128) (list_all (λ b. nat_lt b 128) bytes) all
    in IsAscii-cons b bytes (ltb-true b 128 two.0) (ascii_of bytes two.1)

utf8_of : (bytes : List ℕ) → list_all (λ b. nat_lt b 128) bytes ≡ true → IsUtf8 bytes
utf8_of bytes all = IsUtf8-from_ascii bytes (ascii_of bytes all)

columns_are : AllByRecursion IsColumn the_columns
columns_are = (
  (utf8_of (codes "id") refl, omega arith),
  (
    (utf8_of (codes "name") refl, omega arith),
    ((utf8_of (codes "score") refl, omega arith), tt),
  ),
)

event_is : IsEvent the_event
unfolding IsEvent
event_is = (
  (utf8_of (codes "people") refl, omega arith),
  ((omega arith, columns_are), (omega arith, (omega arith, tt))),
  omega arith,
  (omega arith, omega arith),
  (omega arith, omega arith),
)

payload_is : the_payload ≡ spelling the_event
unfolding spelling text u32 extent counted schema column
payload_is = refl

-- ---- the move

row_is : (id score : ℕ) (name : List ℕ) → list_all (λ b. nat_lt b 128) name ≡ true → length name < 2 ^ 32 → id < 2 ^ 63 → score < 2 ^ 63
    → IsRow the_schema (Int (pos id) ∷ Text name ∷ Int (pos score) ∷ [])
row_is id score name utf8 short id_fits score_fits =
    let row : Row = Int (pos id) ∷ Text name ∷ Int (pos score) ∷ []
    in record {
      fits = record { kinds = (tt, (tt, (tt, tt))); keyed = All-from_recursion (λ place. value_at row place ≢ Null) (0 ∷ []) ((λ e. absurd cc), tt) };
      typed = All-from_recursion IsTyped row (fits_signed_from_abs w64 (pos id) id_fits, (utf8_of name utf8, (fits_signed_from_abs w64 (pos score) score_fits, tt)));
      short = All-from_recursion IsShort row (tt, (short, (tt, tt)));
    }

rows_are : AreRows the_schema the_rows
unfolding row_spelling
rows_are = record {
  rise = ((refl, tt), (tt, tt));
  few = omega arith;
  fit = All-from_recursion (IsRow the_schema) the_rows (row_is 1 10 (codes "ann") refl (omega arith) (omega arith) (omega arith), (row_is 2 20 (codes "bob") refl (omega arith) (omega arith) (omega arith), tt));
  short = All-from_recursion (λ row. length (row_spelling row).bytes ≤ 65536) the_rows (omega arith, (omega arith, tt));
}

schema_is : IsSound the_schema
unfolding is_name is_vid is_column_name IsDistinct
schema_is = record {
  some_column = omega arith;
  few_columns = omega arith;
  named = All-from_recursion (λ name. IsTrue (is_column_name name)) (names the_columns) (refl, (refl, (refl, tt)));
  names_once = ((refl, (refl, tt)), ((refl, tt), (tt, tt)));
  some_key = omega arith;
  key_placed = All-from_recursion (λ place. place < 3) (0 ∷ []) (omega arith, tt);
  key_once = (tt, tt);
}

move_fits : Fits the_move empty_world
unfolding is_name
move_fits = record {
  numbers = omega arith;
  named = refl;
  new = refl;
  few = omega arith;
  sound = schema_is;
  sorted = rows_are;
  plain = λ one. absurd (omega (arith, one));
}

-- ---- the pages

pages_are : pages_in the_pages ≡ 2
pages_are = refl

-- no page is covered twice, and none from the third on
abbrev the_extents : List Extent
the_extents = record { page = 0; bytes = 8 } ∷ record { page = 1; bytes = 62 } ∷ []

past : (e : Extent) (page : ℕ) → e.page + pages_of e ≤ page → has_page e page ≡ false
past e page high = grind (arith, nat_tests)

none_past : (page : ℕ) → 2 ≤ page → covers the_extents page ≡ 0
none_past page high =
    let first : has_page (record { page = 0; bytes = 8 }) page ≡ false = past (record { page = 0; bytes = 8 }) page (omega (arith, high))
    in let second : has_page (record { page = 1; bytes = 62 }) page ≡ false = past (record { page = 1; bytes = 62 }) page (omega (arith, high))
    in λ i. (if first i then 1 else 0) + ((if second i then 1 else 0) + 0)

once : (page : ℕ) → covers the_extents page ≤ 1
once zero = omega arith
once (suc zero) = omega arith
once (suc (suc page)) = omega (arith, none_past (suc (suc page)) (omega arith))

inside : (page : ℕ) → 1 ≤ covers the_extents page → page < 2
inside zero some = omega arith
inside (suc zero) some = omega arith
inside (suc (suc page)) some = absurd (omega (arith, some, none_past (suc (suc page)) (omega arith)))

stands_for : StandsFor 2 (the_event ∷ []) (readings_of the_pages) the_world
unfolding is_name is_vid is_column_name row_spelling column_refusal name_refusal key_refusal run
stands_for = record {
  reached = (2, inr refl, ByMove the_move ∷ [], (move_fits, refl));
  follow = (refl, tt);
  shows = refl;
  apart = record { once = once; inside = λ page some. subst (λ (n : ℕ). page < n) (sym pages_are) (inside page some) };
}

pub the_image_stands : StandsAs the_world the_image
the_image_stands = inr (record {
  kept = the_kept;
  events = the_event ∷ [];
  by = record {
    journal = journal_is;
    spell = record { are = (event_is, tt); written = λ i. payload_is i ∷ [] };
    stands = stands_for;
    epoch = refl;
    format = refl;
    records = refl;
  };
})
