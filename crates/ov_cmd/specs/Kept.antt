-- What the parts of a line are kept in.
--     kept_text k      the text of a word
--     next_of n      the next word and what stands behind it, as the definition has them
use Rattle.std.specs.Prelude.{ℕ, List}
use Rattle.ov_cmd.specs.declared.word.Kept.{Kept}
use Rattle.ov_cmd.specs.declared.word.Kept.TheVariants as kept

abbrev pub kept_text : Kept → List ℕ
kept_text (kept.Slice text) = text.now
kept_text (kept.Own text) = text
