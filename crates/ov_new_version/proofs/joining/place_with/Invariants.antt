use Rattle.ov_new_version.proofs.Finding.{AreOthers}
use Rattle.ov_new_version.proofs.joining.place_with.Given as goal

abbrev pub invariant-loop-place : goal.invariant-loop-place
invariant-loop-place l = AreOthers l.id l.parts l.place
