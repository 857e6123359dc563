use Rattle.std.proofs.Common.{List, ℕ, ◌∙◌, ap, length, take}
use Rattle.std.proofs.Math.Seq.{take-append_seam}
use Rattle.ov_csv.proofs.field_line.put_rest.Goals as goal

pub returns-then-marks_alone-clause-stays : goal.returns-then-marks_alone-clause-stays
returns-then-marks_alone-clause-stays c =
    ap (λ (l : List ℕ). take (length c.args.text.now.items) l) c.loop-byte.invariant.0 ∙ take-append_seam c.args.text.now.items (take c.loop-byte.byte-index c.args.field.now)

pub returns-clause-stays : goal.returns-clause-stays
returns-clause-stays c =
    ap (λ (l : List ℕ). take (length c.args.text.now.items) l) c.loop-byte.invariant.0 ∙ take-append_seam c.args.text.now.items (take c.loop-byte.byte-index c.args.field.now)
