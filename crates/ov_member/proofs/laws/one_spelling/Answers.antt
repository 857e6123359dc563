use Rattle.std.proofs.Common.{refl, sym, ap, subst, ◌∙◌}
use Rattle.ov_member.specs.Rids.{AreRids}
use Rattle.ov_member.specs.Lists.{bytes_of, ranges_of}
use Rattle.ov_member.proofs.RangeLemmas.{RiseFrom-apart, ranges_of-apart, rids_of-ranges_of, ranges_of-rids_of}
use Rattle.ov_member.proofs.laws.one_spelling.Goals as goal

pub returns-clause-spelled : goal.returns-clause-spelled
returns-clause-spelled c = λ rids h. record { ranges = ranges_of rids; apart = ranges_of-apart 0 rids h; written = refl; listed = sym (rids_of-ranges_of rids) }

pub returns-clause-only : goal.returns-clause-only
returns-clause-only c = λ bytes rids h.
    let ranges = ap ranges_of h.listed ∙ ranges_of-rids_of 0 h.ranges h.apart in
    (subst AreRids (sym h.listed) (RiseFrom-apart 0 h.ranges h.apart), h.written ∙ ap bytes_of (sym ranges))
