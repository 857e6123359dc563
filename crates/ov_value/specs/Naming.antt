-- What may name a dataset, a user or a column. A name is its bytes.
--     is_name n      an ASCII letter or an underscore, then letters, digits or underscores, 1 to 63 bytes in all
--     is_vid n       it spells `vid` in any case of letters
--     is_column_name n      a name, and no `vid`
use Rattle.std.specs.Prelude.{ℕ, Bool, false, not, ◌||◌, ◌&&◌, ◌==◌, nat_eq, nat_le, List, [], ◌∷◌, length, map, codes}
use Rattle.std.specs.List.{list_all}
use Rattle.std.specs.Char.{is_ascii_alphabetic, is_ascii_alphanumeric, to_ascii_lowercase}
use Rattle.std.specs.Cmp.Lexicographic.{pointwise}

-- an ASCII letter or an underscore
abbrev pub may_begin : ℕ → Bool
may_begin b = is_ascii_alphabetic b || b == 95

-- an ASCII letter, a digit or an underscore
abbrev pub may_follow : ℕ → Bool
may_follow b = is_ascii_alphanumeric b || b == 95

unfoldable pub is_name : List ℕ → Bool
is_name [] = false
is_name (b ∷ bs) = may_begin b && (list_all may_follow bs && nat_le (length bs) 62)

-- a version's number is named so in queries, and no column may be
unfoldable pub is_vid : List ℕ → Bool
is_vid name = pointwise nat_eq (map to_ascii_lowercase name) (codes "vid")

unfoldable pub is_column_name : List ℕ → Bool
is_column_name name = is_name name && not (is_vid name)
