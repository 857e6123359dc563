use Rattle.std.proofs.Common.{◌<◌, ap, arith}
use Rattle.ov_host.specs.Extent.{pages_of}
use Rattle.ov_pages.specs.Sets.{Reserved}
use Rattle.ov_pages.proofs.FreeLemmas.{free_limit, freed}
use Rattle.ov_pages.proofs.pages.Pages.free.Goals as goal

pub overflow_add-extent : goal.overflow_add-extent
overflow_add-extent c =
    let some : 0 < pages_of c.args.extent = omega (arith, c.pages-pages.ensures) in
    omega (arith, c.pages-pages.ensures, free_limit _ _ _ (pages_of c.args.extent) c.self.invariant.0 (ap (λ (v : Reserved). v.pages) c.self.view_is) c.requires.reserved some)

pub turn_run-requires-clause-limit : goal.turn_run-requires-clause-limit
turn_run-requires-clause-limit c =
    let some : 0 < pages_of c.args.extent = omega (arith, c.pages-pages.ensures) in
    omega (arith, c.pages-pages.ensures, free_limit _ _ _ (pages_of c.args.extent) c.self.invariant.0 (ap (λ (v : Reserved). v.pages) c.self.view_is) c.requires.reserved some)

pub invariant_of-self : goal.invariant_of-self
invariant_of-self c =
    let some : 0 < pages_of c.args.extent = omega (arith, c.pages-pages.ensures) in
    let done = freed _ _ _ _ (pages_of c.args.extent) c.self.invariant.0 (ap (λ (v : Reserved). v.pages) c.self.view_is) c.requires.reserved some (rw c.pages-pages.ensures at c.turn_run.ensures.turned) in
    let room = ap (λ (v : Reserved). v.room) c.self.view_is in
    (done.turns.sound, omega (arith, done.turns.longer, c.turn_run.ensures.capacity, c.self.invariant.1, room, c.requires.room some))

pub returns-then-pages-gt0-clause-gone : goal.returns-then-pages-gt0-clause-gone
returns-then-pages-gt0-clause-gone c =
    let some : 0 < pages_of c.args.extent = omega (arith, c.pages-pages.ensures) in
    (freed _ _ _ _ (pages_of c.args.extent) c.self.invariant.0 (ap (λ (v : Reserved). v.pages) c.self.view_is) c.requires.reserved some (rw c.pages-pages.ensures at c.turn_run.ensures.turned)).gone
