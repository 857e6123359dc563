use Rattle.std.proofs.Common.{ℕ, List, refl, take, arith}
use Rattle.ov_host.specs.Tape.{Syncs}
use Rattle.ov_memhost.specs.Done.{contents, kept_in}
use Rattle.ov_memhost.specs.Host.{tape_of, kept_by}
use Rattle.ov_memhost.proofs.Grown.{does_more, kept_more, tape_more, agrees_synced}
use Rattle.ov_memhost.proofs.Numbers.{numbered_more}
use Rattle.ov_memhost.proofs.host.MemHost.settle.Goals as goal

pub invariant_of-self-2 : goal.invariant_of-self-2
invariant_of-self-2 c =
    let text : List ℕ = take c.args.self.now.before c.args.self.now.printed.items
    in let tape =
    tape_more c.args.self.now.history c.make_room.new.self c.keep.new.self (contents c.args.self.now.areas) c.args.number
    (Syncs c.args.area) c.make_room.ensures.same c.keep.ensures.kept c.in_ok-make_room.ensures.first c.keep.ensures.first
    (contents c.args.self.now.areas) text text refl
    in record {
      had = omega arith;
      numbered =
          numbered_more (kept_by c.args.self.now) (kept_in c.keep.new.self.past.items) c.args.number c.args.self.now.counts.calls
          (Syncs c.args.area)
          (kept_more c.args.self.now.history c.make_room.new.self c.keep.new.self (contents c.args.self.now.areas) c.args.number
          (Syncs c.args.area) c.make_room.ensures.same c.keep.ensures.kept c.in_ok-make_room.ensures.first c.keep.ensures.first)
          c.requires.numbered c.requires.counted;
      agrees =
          agrees_synced (tape_of c.args.self.now) _ c.args.area (contents c.args.self.now.areas)
          c.args.self.now.printed.items tape c.args.self.now.agrees;
    }

pub returns-clause-ok : goal.returns-clause-ok
returns-clause-ok c =
    does_more c.args.self.now _ c.make_room.new.self c.args.number (Syncs c.args.area)
    c.make_room.ensures.same c.keep.ensures.kept c.in_ok-make_room.ensures.first c.keep.ensures.first refl
