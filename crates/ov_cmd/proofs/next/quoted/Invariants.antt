use Rattle.std.proofs.Common.{◌≡◌, [], false, drop}
use Rattle.ov_model.specs.Words.{quoted}
use Rattle.ov_cmd.proofs.next.quoted.Given as goal

abbrev pub invariant-loop-i : goal.invariant-loop-i
invariant-loop-i l = quoted l.escaped l.word.items (drop l.i l.text) ≡ quoted false [] l.text
