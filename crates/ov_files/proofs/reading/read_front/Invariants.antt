use Rattle.std.proofs.Common.{◌≡◌, ◌≤◌, ◌-◌, ◌++◌, true, vec_len}
use Rattle.ov_files.specs.Files.{Looks}
use Rattle.ov_files.proofs.reading.read_front.Given as goal

abbrev pub invariant-front : goal.invariant-front
invariant-front g l =
    let staged = g.T.Stage.staged
    in record {
      looks : Looks (staged l.fn.stage) (staged l.stage);
      reading : (staged l.stage).reading ≡ true;
      room : vec_len l.piece ≡ 65536;
      few : vec_len l.out ≤ 67108865;
      read : (staged l.fn.stage).tells ≡ true → (staged l.fn.stage).left ≡ l.out.items ++ (staged l.stage).left;
    }

abbrev pub decreases-front : goal.decreases-front
decreases-front g l = 67108865 - vec_len l.out
