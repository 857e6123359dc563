use Rattle.std.proofs.Common.{◌≡◌, ◌∙◌, ap, slice_index}
use Rattle.ov_memhost.specs.Done.{kept_in, contents}
use Rattle.ov_memhost.specs.Host.{kept_by, start_of, image_of}
use Rattle.ov_memhost.specs.Replica.{disk_of}
use Rattle.ov_memhost.specs.Stopped.{stopped}
use Rattle.ov_memhost.proofs.Crashed.{crash_named, crash_last, crash_stop, crash_left}
use Rattle.ov_memhost.proofs.host.MemHost.crash_at.Goals as goal

pub returns-clause-named : goal.returns-clause-named
returns-clause-named c =
    let is : disk_of c.stop.new.self ≡ stopped (kept_by c.args.self.now) c.args.call (slice_index c.args.pick.now 0) (start_of c.args.self.now) =
    c.in_ok-stop.ensures
    ∙ ap (λ ps. stopped (kept_in ps) c.args.call (slice_index c.args.pick.now 0) (disk_of c.in_ok-disk.disk)) c.past.ensures
    ∙ ap (stopped (kept_by c.args.self.now) c.args.call (slice_index c.args.pick.now 0)) c.in_ok-disk.ensures
    in crash_named c.settled.result (contents c.new-areas.result) (disk_of c.stop.new.self) (kept_by c.args.self.now) c.args.call
    (slice_index c.args.pick.now 0) (start_of c.args.self.now) c.args.pages c.args.journal c.in_ok-pages.pages.next c.args.pick.now
    c.in_ok-pages.pages.bytes.items c.in_ok-journal.journal.bytes.items is c.in_ok-pages.ensures.picked c.in_ok-pages.ensures.next
    c.in_ok-journal.ensures.picked c.new-areas.ensures c.settled.ensures.state

pub returns-clause-stop : goal.returns-clause-stop
returns-clause-stop c =
    crash_stop c.args.self.now c.args.call (slice_index c.args.pick.now 0) c.args.pages c.args.journal c.args.pick.now
    (image_of c.settled.result) (returns-clause-named c)

pub returns-clause-left : goal.returns-clause-left
returns-clause-left c moment le = crash_left c.args.self.now c.args.call moment (image_of c.settled.result) (returns-clause-stop c) le

pub returns-clause-last : goal.returns-clause-last
returns-clause-last c is small =
    crash_last c.args.self.now c.args.call (slice_index c.args.pick.now 0) c.args.pages c.args.journal c.args.pick.now
    (image_of c.settled.result) is small (returns-clause-named c)
