use Rattle.std.proofs.Common.{is_ok}
use Rattle.ov_publish.specs.Pages.{range_of}
use Rattle.ov_publish.proofs.Settling.{second_stops, third_stops}
use Rattle.ov_publish.proofs.put.put_both.Goals as goal

pub returns-in_err-put-2-clause-stops : goal.returns-in_err-put-2-clause-stops
returns-in_err-put-2-clause-stops g c =
    second_stops (range_of c.args.list.page c.args.list.bytes.now) (range_of c.args.segment.page c.args.segment.bytes.now) (g.H.Host.state c.args.host.now) (g.H.Host.state c.put.new.host) c.in_ok-put.ensures.puts (g.H.Host.state c.put-2.new.host) c.in_err-put-2.ensures.puts

pub returns-clause-stops : goal.returns-clause-stops
returns-clause-stops g c =
    third_stops (range_of c.args.list.page c.args.list.bytes.now) (range_of c.args.segment.page c.args.segment.bytes.now) (g.H.Host.state c.args.host.now) (g.H.Host.state c.put.new.host) c.in_ok-put.ensures.puts (g.H.Host.state c.put-2.new.host) c.in_ok-put-2.ensures.puts (g.H.Host.state c.sync.new.self) (is_ok c.sync.result) c.sync.ensures.call
