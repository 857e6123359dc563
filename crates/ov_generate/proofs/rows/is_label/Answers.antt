use Rattle.std.proofs.Common.{get_or, inl, inr}
use Rattle.std.proofs.lemmas.Bool.{false≢true}
use Rattle.ov_generate.proofs.Labels.{label_long, label_three, label_two, three_are, three_label, two_are, two_label}
use Rattle.ov_generate.proofs.rows.is_label.Goals as goal

pub returns-then-bytes-eq2 : goal.returns-then-bytes-eq2
returns-then-bytes-eq2 c =
    let text = c.args.bytes.now
    in let are = two_are text c.if-bytes-eq2.true
    in (
      λ yes. label_two text (get_or text 0 0) (get_or text 1 0) are (c.is_short_label.ensures.0 yes),
      λ is. c.is_short_label.ensures.1 (two_label text (get_or text 0 0) (get_or text 1 0) are is),
    )

pub returns-then-bytes-eq3 : goal.returns-then-bytes-eq3
returns-then-bytes-eq3 c =
    let text = c.args.bytes.now
    in let are = three_are text c.if-bytes-eq3.true
    in (
      λ yes. label_three text (get_or text 0 0) (get_or text 1 0) (get_or text 2 0) are (c.is_long_label.ensures.0 yes),
      λ is. c.is_long_label.ensures.1 (three_label text (get_or text 0 0) (get_or text 1 0) (get_or text 2 0) are is),
    )

pub returns : goal.returns
returns c = (
  λ no. absurd (false≢true no),
  λ is. elim (label_long c.args.bytes.now is) [ inl two ↦ absurd (c.if-bytes-eq2.false two) | inr three ↦ absurd (c.if-bytes-eq3.false three) ],
)
