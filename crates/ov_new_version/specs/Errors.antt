-- Errors of the crates below as a commit has them.
use Rattle.ov_records.specs.declared.outcome.AssignErr.{AssignErr}
use Rattle.ov_records.specs.declared.outcome.AssignErr.TheVariants as assign
use Rattle.ov_version_bytes.specs.declared.write_err.WriteErr.{WriteErr}
use Rattle.ov_version_bytes.specs.declared.write_err.WriteErr.TheVariants as write
use Rattle.ov_new_version.specs.declared.errors.CommitErr.{CommitErr}
use Rattle.ov_new_version.specs.declared.errors.CommitErr.TheVariants.{Memory, TooManyRecords, TooLong}

abbrev pub of_assign : AssignErr → CommitErr
of_assign assign.TooManyRecords = TooManyRecords
of_assign assign.Memory = Memory

abbrev pub of_write : WriteErr → CommitErr
of_write write.Memory = Memory
of_write (write.TooLong list_pages segment_pages) = TooLong list_pages segment_pages
