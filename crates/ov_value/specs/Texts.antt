-- The bytes of a text, wherever they stand.
use Rattle.std.specs.Prelude.{ℕ, List, string_bytes}
use Rattle.ov_value.specs.declared.txt.Kept.{Kept}
use Rattle.ov_value.specs.declared.txt.Kept.TheVariants.{Short, Long}

abbrev pub bytes_of : Kept → List ℕ
bytes_of (Short text) = text
bytes_of (Long text) = string_bytes text.value
