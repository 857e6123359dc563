-- What a reader answers that holds some bytes of a segment.
--     Answers s old next new      from old it answers next, and then is new
use Rattle.std.specs.Prelude.{◌≡◌, ◌⊎◌, ℕ, ◌+◌, ◌%◌, ◌^◌, ◌<◌, ◌≤◌, nat_le, Bool, true, false, List, [], ◌++◌, length, take, drop}
use Rattle.std.specs.Int.{w32, from_be_bytes}
use Rattle.ov_value.specs.declared.value.Value.{Value}
use Rattle.ov_value.specs.Shapes.{Shape}
use Rattle.ov_value.specs.Spelling.{IsSpelling, IsRow}
use Rattle.ov_segment.specs.declared.numbered.Record.{Record}
use Rattle.ov_segment.specs.declared.next.Next.{Next}
use Rattle.ov_segment.specs.declared.next.Next.TheVariants as next
use Rattle.ov_segment.specs.Segments.{record_bytes, IsNext}
use Rattle.ov_segment.specs.Held.{Reader}

-- nothing held, nothing given
abbrev pub fresh : Reader
fresh = record { held = []; last = 0; over = false }

-- these bytes are held behind those that were
abbrev pub after_feed : Reader → List ℕ → Reader
after_feed old bytes = record old { held = old.held ++ bytes }

-- the first eight bytes are a rid and a length with a mark
abbrev pub rid_at : List ℕ → ℕ
rid_at held = from_be_bytes w32 (take 4 held)

abbrev pub number_at : List ℕ → ℕ
number_at held = from_be_bytes w32 (take 4 (drop 4 held))

abbrev pub len_at : List ℕ → ℕ
len_at held = number_at held % 2 ^ 31

abbrev pub marked_at : List ℕ → Bool
marked_at held = nat_le (2 ^ 31) (number_at held)

-- both may be those of the next record
pub record InBounds (last : ℕ) (held : List ℕ) : Type 0 where
  pub above : last < rid_at held
  pub below : rid_at held ≤ 2 ^ 31
  pub small : len_at held ≤ 65536

-- fewer than eight bytes, or both are in bounds and fewer bytes than the length says
abbrev pub WantsMore : ℕ → List ℕ → Type 0
WantsMore last held = (length held < 8) ⊎ (InBounds last held × (length held < 8 + len_at held))

-- the bytes of the row, as many as the length says, spell none
pub record SpellsNone (schema : Shape) (held : List ℕ) : Type 0 where
  pub whole : 8 + len_at held ≤ length held
  pub none : (row : List Value) → IsRow schema row → IsSpelling row (marked_at held) (take (len_at held) (drop 8 held)) → ⊥

-- eight bytes of which one of the two numbers is out of bounds, or bytes of a row that spell none
abbrev pub IsOff : Shape → ℕ → List ℕ → Type 0
IsOff schema last held = (8 ≤ length held) × ((InBounds last held → ⊥) ⊎ SpellsNone schema held)

-- the record is the next, and its bytes stand before the rest
pub record Begins (schema : Shape) (last : ℕ) (held : List ℕ) (r : Record) (rest : List ℕ) : Type 0 where
  pub next : IsNext schema last r
  pub held_is : held ≡ record_bytes r ++ rest

abbrev pub Answers : Shape → Reader → Next → Reader → Type 0
Answers schema old (next.Record r) new =
    (old.over ≡ false) × Begins schema old.last old.held r new.held × (new.last ≡ r.rid) × (new.over ≡ false)
Answers schema old next.More new = (old.over ≡ false) × WantsMore old.last old.held × (new ≡ old)
Answers schema old next.Bad new =
    ((old.over ≡ true) ⊎ IsOff schema old.last old.held) × (new ≡ record old { over = true })

-- what is read at the front of bytes, and how many it takes
abbrev pub Reads : Shape → ℕ → List ℕ → Next → ℕ → Type 0
Reads schema last bytes (next.Record r) n = Begins schema last bytes r (drop n bytes) × (0 < n) × (n ≤ length bytes)
Reads schema last bytes next.More n = WantsMore last bytes
Reads schema last bytes next.Bad n = IsOff schema last bytes
