use Rattle.std.proofs.Common.{◌≡◌, map, take}
use Rattle.std.specs.List.{All}
use Rattle.ov_event.specs.Spelling.{IsEvent, spelling}
use Rattle.ov_core.proofs.checkpoints.payloads_of.Given as goal

abbrev pub invariant-loop-event : goal.invariant-loop-event
invariant-loop-event l = record {
  said : l.payloads.items ≡ map spelling (take l.event-index l.events);
  are : All IsEvent (take l.event-index l.events);
}
