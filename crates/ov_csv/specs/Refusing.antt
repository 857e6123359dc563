-- The refusals of a command that the errors of reading stand for.
--     refusal_of schema why      the refusal; want of memory stands for none
--     StandsFor schema why answer      the answer is this refusal
use Rattle.std.specs.Prelude.{◌≡◌, length, Option, Some, None, IfSome}
use Rattle.ov_csv.specs.declared.csv_err.CsvErr.{CsvErr}
use Rattle.ov_csv.specs.declared.csv_err.CsvErr.TheVariants as why
use Rattle.ov_value.specs.Shapes.{Shape}
use Rattle.ov_model.specs.declared.refusal.Refusal.{Refusal}
use Rattle.ov_model.specs.declared.refusal.Refusal.TheVariants.{BadHeader, Width, BadField, NotText, LongFile, LongRow, NullKey}

abbrev pub refusal_of : Shape → CsvErr → Option Refusal
refusal_of schema why.TooLong = Some LongFile
refusal_of schema why.BadHeader = Some BadHeader
refusal_of schema (why.Width row found) = Some (Width row found (length schema.columns))
refusal_of schema (why.NotText row) = Some (NotText row)
refusal_of schema (why.BadField row column kind) = Some (BadField row column kind)
refusal_of schema (why.NullKey row column) = Some (NullKey row column)
refusal_of schema (why.LongRow row) = Some (LongRow row)
refusal_of schema why.Memory = None

abbrev pub StandsFor : Shape → CsvErr → Option Refusal → Type 0
StandsFor schema why answer = IfSome (refusal_of schema why) (λ refusal. answer ≡ Some refusal)
