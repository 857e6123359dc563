-- What a change answers where its record wasn't appended.
use Rattle.ov_journal.specs.declared.errors.AppendErr.{AppendErr}
use Rattle.ov_journal.specs.declared.errors.AppendErr.TheVariants as appending
use Rattle.ov_core.specs.declared.errors.ChangeErr.{ChangeErr}
use Rattle.ov_core.specs.declared.errors.ChangeErr.TheVariants as errors

abbrev pub change_for : AppendErr → ChangeErr
change_for appending.JournalFull = errors.JournalFull
change_for appending.Host = errors.Host
