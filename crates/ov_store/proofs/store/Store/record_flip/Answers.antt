use Rattle.std.proofs.Common.{arith}
use Rattle.ov_store.proofs.Migrating.{flip_event}
use Rattle.ov_store.proofs.store.Store.record_flip.Goals as goal

pub record_bare-requires-clause-event : goal.record_bare-requires-clause-event
record_bare-requires-clause-event g c = flip_event c.args.cvd (omega arith)
