-- The next word of a text, as the code has it.
--     next_of n      that of the definition
--     IsCut n      what stands behind a word is text
use Rattle.std.specs.Prelude.{IsUtf8}
use Rattle.ov_model.specs.Words as line
use Rattle.ov_cmd.specs.declared.next.Next.{Next}
use Rattle.ov_cmd.specs.declared.next.Next.TheVariants as next

abbrev pub next_of : Next → line.Next
next_of next.NoWord = line.NoWord
next_of (next.Word word behind) = line.Word word behind.now
next_of next.Unclosed = line.Unclosed

abbrev pub IsCut : Next → Type 0
IsCut next.NoWord = Unit {0}
IsCut (next.Word word behind) = IsUtf8 behind.now
IsCut next.Unclosed = Unit {0}
