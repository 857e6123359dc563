use Rattle.std.proofs.Common.{◌≡◌, ℕ, true, false, take}
use Rattle.ov_member.specs.Rids.{has}
use Rattle.ov_fetch.specs.Rows.{is_asked}
use Rattle.ov_fetch.proofs.union.place_lacking.Given as goal

abbrev pub invariant-loop-place : goal.invariant-loop-place
invariant-loop-place l = (rid : ℕ) → is_asked (take l.place l.members) rid ≡ true → has l.missing rid ≡ false
