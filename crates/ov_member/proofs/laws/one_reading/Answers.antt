use Rattle.std.proofs.Common.{sym, ap, ◌∙◌}
use Rattle.ov_member.specs.Lists.{rids_of}
use Rattle.ov_member.proofs.RangeLemmas.{ranges-same}
use Rattle.ov_member.proofs.laws.one_reading.Goals as goal

pub returns : goal.returns
returns c = λ bytes xs ys h k. h.listed ∙ ap rids_of (ranges-same 0 0 h.ranges k.ranges h.apart k.apart (sym h.written ∙ k.written)) ∙ sym k.listed
