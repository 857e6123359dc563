-- How a call answers for an event.
--     Answers result off      by the part of the event that is off, None where it applies
use Rattle.std.specs.Prelude.{◌≡◌, Option, Some, None, Result, Ok, Err}
use Rattle.ov_catalog.specs.declared.error.ApplyErr.{ApplyErr}
use Rattle.ov_catalog.specs.declared.error.ApplyErr.TheVariants.{NotNext, Memory}
use Rattle.ov_catalog.specs.declared.field.Field.{Field}

-- why an event is refused; want of memory may come at any time
abbrev pub IsWhy : ApplyErr → Option Field → Type 0
IsWhy (NotNext field) off = off ≡ Some field
IsWhy Memory off = Unit {0}

abbrev pub Answers : {T : Type 0} → Result T ApplyErr → Option Field → Type 0
Answers (Ok value) off = off ≡ None
Answers (Err why) off = IsWhy why off
