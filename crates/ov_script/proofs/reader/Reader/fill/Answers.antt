use Rattle.std.proofs.Common.{◌≡◌, ◌≤◌, length, arith}
use Rattle.std.proofs.lemmas.Grind.{common_steps}
use Rattle.ov_script.proofs.Readers.{front_of, fills}
use Rattle.ov_script.proofs.reader.Reader.fill.Goals as goal

pub returns-clause-filled : goal.returns-clause-filled
returns-clause-filled g c =
    λ told at_end.
    let script = g.S.Source.script
    in let n = c.in_ok-taken.taken
    in let buffer = c.read_piece.new.buffer
    in let size : length buffer ≡ c.self.inside.buffer.len = grind (arith, common_steps)
    in let fits : n ≤ length buffer = grind (arith, common_steps)
    in fills n (script c.args.source.now).left (script c.read_piece.new.source).left buffer _
    (front_of n c.self.inside.buffer.len buffer c.self.inside.buffer.items fits (omega (arith, size)))
    fits c.if-taken-eq0.false (c.in_ok-taken.ensures.bytes told)
