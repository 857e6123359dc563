use Rattle.std.proofs.Common.{true, false}
use Rattle.ov_journal.proofs.Staged.{first, second, third}
use Rattle.ov_journal.proofs.staging.write_both_synced.Goals as goal

pub returns-in_err-write-clause-stops : goal.returns-in_err-write-clause-stops
returns-in_err-write-clause-stops g c =
    first (g.H.Host.state c.args.host.now) c.args.at c.args.place c.args.bytes.now c.args.fields.now c.requires.first c.requires.second (g.H.Host.state c.write.new.self) false c.in_err-write.ensures.call

pub returns-in_err-write-2-clause-stops : goal.returns-in_err-write-2-clause-stops
returns-in_err-write-2-clause-stops g c =
    second (g.H.Host.state c.args.host.now) c.args.at c.args.place c.args.bytes.now c.args.fields.now c.requires.first c.requires.second
    (g.H.Host.state c.write.new.self) c.in_ok-write.ensures.call (g.H.Host.state c.write-2.new.self) false c.in_err-write-2.ensures.call

pub returns-in_err-sync-clause-stops : goal.returns-in_err-sync-clause-stops
returns-in_err-sync-clause-stops g c =
    third (g.H.Host.state c.args.host.now) c.args.at c.args.place c.args.bytes.now c.args.fields.now c.requires.first c.requires.second
    (g.H.Host.state c.write.new.self) c.in_ok-write.ensures.call (g.H.Host.state c.write-2.new.self) (g.H.Host.state c.sync.new.self) false c.in_ok-write-2.ensures.call c.in_err-sync.ensures.call

pub returns-clause-stops : goal.returns-clause-stops
returns-clause-stops g c =
    third (g.H.Host.state c.args.host.now) c.args.at c.args.place c.args.bytes.now c.args.fields.now c.requires.first c.requires.second
    (g.H.Host.state c.write.new.self) c.in_ok-write.ensures.call (g.H.Host.state c.write-2.new.self) (g.H.Host.state c.sync.new.self) true c.in_ok-write-2.ensures.call c.in_ok-sync.ensures.call
