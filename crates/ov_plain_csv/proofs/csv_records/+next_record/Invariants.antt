use Rattle.std.proofs.Common.{length}
use Rattle.ov_plain_csv.proofs.csv_records.+next_record.Given as goal

abbrev pub decreases-next_record : goal.decreases-next_record
decreases-next_record l = length l.bytes.now
