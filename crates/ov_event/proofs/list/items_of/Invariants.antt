use Rattle.std.proofs.Common.{◌≡◌, ◌-◌}
use Rattle.ov_event.specs.Reading.{items_at}
use Rattle.ov_event.proofs.Loop.{with_front}
use Rattle.ov_event.proofs.list.items_of.Given as goal

abbrev pub invariant-loop : goal.invariant-loop
invariant-loop g l = with_front l.items.items (items_at g.T.Field.at (l.count - l.counter) l.rest) ≡ items_at g.T.Field.at l.count l.bytes
