use Rattle.std.proofs.Common.{true, false}
use Rattle.ov_journal.proofs.Synced.{first, both}
use Rattle.ov_journal.proofs.writing.write_synced.Goals as goal

pub returns-in_err-write-clause-stops : goal.returns-in_err-write-clause-stops
returns-in_err-write-clause-stops g c =
    first (g.H.Host.state c.args.host.now) (g.H.Host.state c.write.new.self) c.args.at c.args.bytes.now c.requires c.in_err-write.ensures.call

pub returns-in_err-sync-clause-stops : goal.returns-in_err-sync-clause-stops
returns-in_err-sync-clause-stops g c =
    both (g.H.Host.state c.args.host.now) (g.H.Host.state c.write.new.self) (g.H.Host.state c.sync.new.self) c.args.at c.args.bytes.now false c.requires c.in_ok-write.ensures.call c.in_err-sync.ensures.call

pub returns-clause-stops : goal.returns-clause-stops
returns-clause-stops g c =
    both (g.H.Host.state c.args.host.now) (g.H.Host.state c.write.new.self) (g.H.Host.state c.sync.new.self) c.args.at c.args.bytes.now true c.requires c.in_ok-write.ensures.call c.in_ok-sync.ensures.call
