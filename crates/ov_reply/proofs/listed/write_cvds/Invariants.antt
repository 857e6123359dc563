use Rattle.std.proofs.Common.{◌≡◌, ◌++◌, take}
use Rattle.std.specs.List.{flat_map}
use Rattle.ov_model.specs.Replies.{cvd_line}
use Rattle.ov_reply.proofs.listed.write_cvds.Given as goal

abbrev pub invariant-loop-cvd : goal.invariant-loop-cvd
invariant-loop-cvd l = l.out.items ≡ l.initial.out.items ++ flat_map cvd_line (take l.cvd-index l.cvds)
