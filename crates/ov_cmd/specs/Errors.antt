-- The errors of reading a line, as refusals.
--     refusal_of e      the refusal; want of memory is none, and has a place here alone
use Rattle.std.specs.Prelude.{◌≡◌, ◌≢◌, Result, Err}
use Rattle.ov_value.specs.declared.schema_err.SchemaErr.{SchemaErr}
use Rattle.ov_value.specs.declared.schema_err.SchemaErr.TheVariants as bad
use Rattle.ov_model.specs.declared.refusal.Refusal.{Refusal}
use Rattle.ov_model.specs.declared.refusal.Refusal.TheVariants as no
use Rattle.ov_cmd.specs.declared.line_err.LineErr.{LineErr}
use Rattle.ov_cmd.specs.declared.line_err.LineErr.TheVariants as why

abbrev pub refusal_of : LineErr → Refusal
refusal_of why.UnknownCommand = no.UnknownCommand
refusal_of (why.Missing what) = no.Missing what
refusal_of (why.UnexpectedWord nth) = no.UnexpectedWord nth
refusal_of why.BadNumber = no.BadNumber
refusal_of why.LongLine = no.LongLine
refusal_of (why.BadKind column) = no.BadKind column
refusal_of why.NotUtf8 = no.NotUtf8
refusal_of why.OpenQuote = no.OpenQuote
refusal_of why.NoColumns = no.NoColumns
refusal_of why.TooManyColumns = no.TooManyColumns
refusal_of (why.BadName name) = no.BadName name
refusal_of (why.RepeatedName name) = no.RepeatedName name
refusal_of why.NoKey = no.NoKey
refusal_of (why.UnknownKey name) = no.UnknownKey name
refusal_of (why.RepeatedKey name) = no.RepeatedKey name
refusal_of why.Memory = no.NoColumns

abbrev pub schema_err : SchemaErr → LineErr
schema_err bad.NoColumns = why.NoColumns
schema_err bad.TooManyColumns = why.TooManyColumns
schema_err (bad.BadName name) = why.BadName name
schema_err (bad.RepeatedName name) = why.RepeatedName name
schema_err bad.NoKey = why.NoKey
schema_err (bad.UnknownKey name) = why.UnknownKey name
schema_err (bad.RepeatedKey name) = why.RepeatedKey name
schema_err bad.Memory = why.Memory

-- what is read is refused so, but for want of memory
abbrev pub Refuses : {X : Type 0} → Result X Refusal → LineErr → Type 0
Refuses reading e = e ≢ why.Memory → reading ≡ Err (refusal_of e)
