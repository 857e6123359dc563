use Rattle.std.proofs.Common.{◌++◌, ◌∷◌, ◌∙◌, [], ap, get_or}
use Rattle.ov_csv.proofs.QuoteLemmas.{quoted_none, quoted_more, quoted_twice}
use Rattle.ov_csv.proofs.field_line.push_quoted.Goals.{then-byte-eq34+in_ok-push-2, else-byte-eq34}
use Rattle.ov_csv.proofs.field_line.push_quoted.Goals as goal

pub loop-byte-init : goal.loop-byte-init
loop-byte-init c = quoted_none c.args.text.now.items c.push.new.self.items c.in_ok-push.ensures.items

pub loop-byte-preserved : goal.loop-byte-preserved
loop-byte-preserved c = elim c.if-byte-eq34.branch [
  | then-byte-eq34+in_ok-push-2 w ↦
      quoted_twice c.args.text.now.items c.loop-byte.text.items w.push-then-byte-eq34.new.self.items c.push-in-loop-byte.new.self.items c.args.field.now c.loop-byte.byte-index c.loop-byte-test.true c.loop-byte.invariant
      w.if-byte-eq34.true w.in_ok-push-2.ensures.items (c.in_ok-push-3.ensures.items ∙ ap (λ t. t.items ++ get_or c.args.field.now c.loop-byte.byte-index 0 ∷ []) w.text-is)
  | else-byte-eq34 w ↦
      quoted_more c.args.text.now.items c.loop-byte.text.items c.push-in-loop-byte.new.self.items c.args.field.now c.loop-byte.byte-index c.loop-byte-test.true c.loop-byte.invariant
      w.if-byte-eq34.false (c.in_ok-push-3.ensures.items ∙ ap (λ t. t.items ++ get_or c.args.field.now c.loop-byte.byte-index 0 ∷ []) w.text-is)
]
