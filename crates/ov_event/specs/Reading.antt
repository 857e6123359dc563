-- Reading from left to right: a value and the bytes after it, or nothing.
use Rattle.std.specs.Prelude.{◌≡◌, ℕ, zero, suc, List, [], ◌∷◌, length, take, drop, Option, Some, None, Result, Ok, Err, nat_lt, if◌then◌else◌}
use Rattle.std.specs.Str.{is_utf8}
use Rattle.std.specs.Int.{Width, w16, w32, byte_len, from_be_bytes}
use Rattle.ov_host.specs.declared.area.Extent.{Extent}
use Rattle.ov_event.specs.declared.stop.Stop.{Stop}
use Rattle.ov_event.specs.declared.stop.Stop.TheVariants.{Memory, Unspelled}

-- what is read at the front of bytes
abbrev pub Reading : Type 0 → Type 0
Reading A = List ℕ → Option (A × List ℕ)

infixl 10 ◌>>=◌
abbrev pub ◌>>=◌ : {A B : Type 0} → Option A → (A → Option B) → Option B
(Some x) >>= f = f x
None >>= f = None

-- What a function returned, seen by view, is what reading gives, unless memory ran out.
abbrev pub Fails : {Y : Type 0} → Stop → Option Y → Type 0
Fails Memory read = Unit {0}
Fails Unspelled read = read ≡ None

abbrev pub Gives : {X Y : Type 0} → (X → Y) → Result X Stop → Option Y → Type 0
Gives view (Ok x) read = read ≡ Some (view x)
Gives view (Err e) read = Fails e read

-- ---- fields

abbrev pub u8_at : Reading ℕ
u8_at [] = None
u8_at (b ∷ bytes) = Some (b, bytes)

abbrev pub number_at : Width → Reading ℕ
number_at w bytes = if nat_lt (length bytes) (byte_len w) then None else Some (from_be_bytes w (take (byte_len w) bytes), drop (byte_len w) bytes)

unfoldable pub u16_at : Reading ℕ
u16_at = number_at w16

unfoldable pub u32_at : Reading ℕ
u32_at = number_at w32

abbrev pub front_at : ℕ → Reading (List ℕ)
front_at n bytes = if nat_lt (length bytes) n then None else Some (take n bytes, drop n bytes)

unfoldable pub text_at : Reading (List ℕ)
text_at bytes = do
  n ← u32_at bytes
  t ← front_at n.0 n.1
  if is_utf8 t.0 then Some (t.0, t.1) else None

-- ---- fields one after the other

abbrev pub end_at : Reading (Unit {0})
end_at bytes = Some (tt, bytes)

infixr 12 ◌then◌
abbrev pub ◌then◌ : {A B : Type 0} → Reading A → Reading B → Reading (A × B)
(a then b) bytes = do
  x ← a bytes
  y ← b x.1
  Some ((x.0, y.0), y.1)

-- what is made of the fields
abbrev pub made_at : {A B : Type 0} → (A → B) → Reading A → Reading B
made_at make a bytes = do
  x ← a bytes
  Some (make x.0, x.1)

unfoldable pub items_at : {A : Type 0} → Reading A → ℕ → Reading (List A)
items_at item zero bytes = Some ([], bytes)
items_at item (suc n) bytes = do
  first ← item bytes
  others ← items_at item n first.1
  Some (first.0 ∷ others.0, others.1)

unfoldable pub counted_at : {A : Type 0} → Reading ℕ → Reading A → Reading (List A)
counted_at count item bytes = do
  n ← count bytes
  items_at item n.0 n.1

unfoldable pub extent_at : Reading Extent
extent_at = made_at (λ t. record { page = t.0; bytes = t.1.0 }) (u32_at then u32_at then end_at)
