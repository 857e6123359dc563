-- What ends a run, by what ended a part of it.
use Rattle.ov_session.specs.declared.errors.EndErr.{EndErr}
use Rattle.ov_session.specs.declared.errors.EndErr.TheVariants as ending
use Rattle.ov_script.specs.declared.reader.ReadErr.{ReadErr}
use Rattle.ov_script.specs.declared.reader.ReadErr.TheVariants as reading
use Rattle.ov_top.specs.declared.errors.RunErr.{RunErr}
use Rattle.ov_top.specs.declared.errors.RunErr.TheVariants as running

abbrev pub by_reading : ReadErr → RunErr
by_reading reading.Input = running.Input
by_reading reading.Memory = running.Memory
by_reading reading.TooLong = running.TooLong

abbrev pub by_serving : EndErr → RunErr
by_serving ending.Host = running.Host
by_serving ending.Stage = running.Input
by_serving ending.Memory = running.Memory
by_serving (ending.Damaged area at) = running.Damaged area at
