-- Why a part of a call isn't done, as the store's call answers it.
use Rattle.std.specs.Prelude.{Bool, true, false}
use Rattle.ov_new_version.specs.declared.errors.CommitErr.{CommitErr}
use Rattle.ov_new_version.specs.declared.errors.CommitErr.TheVariants as commit
use Rattle.ov_core.specs.declared.errors.ChangeErr.{ChangeErr}
use Rattle.ov_core.specs.declared.errors.ChangeErr.TheVariants as change
use Rattle.ov_fetch.specs.declared.errors.FetchErr.{FetchErr}
use Rattle.ov_fetch.specs.declared.errors.FetchErr.TheVariants as fetch
use Rattle.ov_host.specs.declared.area.Area.TheVariants.{Pages}
use Rattle.ov_rows.specs.declared.rows_err.RowsErr.{RowsErr}
use Rattle.ov_rows.specs.declared.rows_err.RowsErr.TheVariants as rows
use Rattle.ov_version_bytes.specs.declared.write_err.WriteErr.{WriteErr}
use Rattle.ov_version_bytes.specs.declared.write_err.WriteErr.TheVariants as write
use Rattle.ov_store.specs.declared.errors.StoreErr.{StoreErr}
use Rattle.ov_store.specs.declared.errors.StoreErr.TheVariants as why
use Rattle.ov_store.specs.declared.unready.Unready.{Unready}
use Rattle.ov_store.specs.declared.unready.Unready.TheVariants as unready

abbrev pub of_rows : RowsErr → StoreErr
of_rows rows.TooManyRows = why.TooManyRows
of_rows (rows.DuplicateKey row) = why.DuplicateKey row
of_rows (rows.FormatOne row) = why.FormatOne row
of_rows rows.Memory = why.Memory

abbrev pub of_change : ChangeErr → StoreErr
of_change change.Host = why.Host
of_change change.Memory = why.Memory
of_change (change.Full pages) = why.Full pages
of_change change.JournalFull = why.JournalFull

abbrev pub is_host : ChangeErr → Bool
is_host change.Host = true
is_host _ = false

abbrev pub unready_of : WriteErr → Unready
unready_of write.Memory = unready.Off why.Memory
unready_of (write.TooLong list_pages segment_pages) = unready.TooLong list_pages segment_pages

abbrev pub of_fetch : FetchErr → StoreErr
of_fetch fetch.Host = why.Host
of_fetch fetch.Memory = why.Memory
of_fetch (fetch.Damaged page) = why.Damaged Pages page

abbrev pub of_commit : CommitErr → Unready
of_commit commit.Memory = unready.Off why.Memory
of_commit (commit.Damaged page) = unready.Off (why.Damaged Pages page)
of_commit commit.TooManyRecords = unready.Off why.TooManyRecords
of_commit (commit.TooLong list_pages segment_pages) = unready.TooLong list_pages segment_pages
