use Rattle.std.proofs.Common.{◌≡◌, ◌≤◌, ◌+◌, ◌-◌, ◌^◌, true, length}
use Rattle.ov_script.specs.Reader.{left_of, Took, IsAtEnd, IsPart, room_of}
use Rattle.ov_script.proofs.reader.Reader.next_line.Given as goal

abbrev pub invariant-pieces : goal.invariant-pieces
invariant-pieces g l =
    let script = g.S.Source.script
    in record {
      ended : l.self.ended ≡ l.fn.self.ended;
      at_end : (script l.fn.source).tells ≡ true → IsAtEnd l.fn.self (script l.fn.source) → IsAtEnd l.self (script l.source);
      took : Took l.fn.self l.self (script l.fn.source) (script l.source);
      within : length l.line.items ≤ 65537;
      fewer : room_of l.self + length l.line.items ≤ room_of l.fn.self;
      part : (script l.fn.source).tells ≡ true → IsPart (left_of l.fn.self (script l.fn.source)) (left_of l.self (script l.source)) l.line.items;
    }

abbrev pub decreases-pieces : goal.decreases-pieces
decreases-pieces g l = 2 ^ 32 - l.self.count
