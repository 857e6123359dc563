-- The bytes of fields, and which values have any.
--     u8 n, u16 n, u32 n, text t, extent e      the bytes of a field
--     counted count item xs      the number of items, and then each
--     fields fs      fields one after the other
--     IsU8, IsU16, IsU32, IsText, IsExtent      what has a spelling
--     AreFew bits IsItem xs      few enough for a number of so many bits, and each has a spelling
use Rattle.std.specs.Prelude.{ℕ, ◌<◌, ◌^◌, List, [], ◌∷◌, ◌++◌, length, IsUtf8}
use Rattle.std.specs.List.{flat_map, AllByRecursion}
use Rattle.std.specs.Int.{w16, w32, to_be_bytes}
use Rattle.ov_host.specs.declared.area.Extent.{Extent}

abbrev pub fields : List (List ℕ) → List ℕ
fields [] = []
fields (f ∷ fs) = f ++ fields fs

abbrev pub u8 : ℕ → List ℕ
u8 n = n ∷ []

-- the high byte first
unfoldable pub u16 : ℕ → List ℕ
u16 n = to_be_bytes w16 n

unfoldable pub u32 : ℕ → List ℕ
u32 n = to_be_bytes w32 n

unfoldable pub text : List ℕ → List ℕ
text t = u32 (length t) ++ t

unfoldable pub extent : Extent → List ℕ
extent e = fields (u32 e.page ∷ u32 e.bytes ∷ [])

unfoldable pub counted : {A : Type 0} → (ℕ → List ℕ) → (A → List ℕ) → List A → List ℕ
counted count item xs = count (length xs) ++ flat_map item xs

-- ---- what has a spelling

abbrev pub IsU8 : ℕ → Type 0
IsU8 n = n < 2 ^ 8

abbrev pub IsU32 : ℕ → Type 0
IsU32 n = n < 2 ^ 32

abbrev pub IsText : List ℕ → Type 0
IsText t = IsUtf8 t × (length t < 2 ^ 32)

abbrev pub IsExtent : Extent → Type 0
IsExtent e = IsU32 e.page × IsU32 e.bytes

-- a number of so many bits says how many there are, and each has a spelling
abbrev pub AreFew : {A : Type 0} → ℕ → (A → Type 0) → List A → Type 0
AreFew bits IsItem xs = (length xs < 2 ^ bits) × AllByRecursion IsItem xs
