use Rattle.std.proofs.Common.{ℕ, List, [], ◌∷◌, ◌++◌, refl, ◌∙◌, ap, take, arith}
use Rattle.ov_host.specs.Tape.{Writes}
use Rattle.ov_memhost.specs.Done.{contents, kept_in}
use Rattle.ov_memhost.specs.Host.{tape_of, kept_by}
use Rattle.ov_memhost.proofs.Grown.{does_more, kept_more, tape_more, agrees_wrote}
use Rattle.ov_memhost.proofs.Numbers.{numbered_more}
use Rattle.ov_memhost.proofs.host.MemHost.put.Goals as goal

pub invariant_of-self-2 : goal.invariant_of-self-2
invariant_of-self-2 c =
    let text : List ℕ = take c.args.self.now.before c.args.self.now.printed.items
    in let kept = c.keep.ensures.kept ∙ ap (λ call. kept_in c.make_room.new.self.past.items ++ record { number = c.args.number; call = call } ∷ []) c.in_ok-write.ensures
    in let tape =
    tape_more c.args.self.now.history c.make_room.new.self c.keep.new.self (contents c.args.self.now.areas) c.args.number
    (Writes c.args.area c.args.at c.args.bytes.now) c.make_room.ensures.same kept c.in_ok-make_room.ensures.first c.keep.ensures.first
    (contents c.overwrite.new.self) text text refl
    in record {
      had = omega arith;
      numbered =
          numbered_more (kept_by c.args.self.now) (kept_in c.keep.new.self.past.items) c.args.number c.args.self.now.counts.calls
          (Writes c.args.area c.args.at c.args.bytes.now)
          (kept_more c.args.self.now.history c.make_room.new.self c.keep.new.self (contents c.args.self.now.areas) c.args.number
          (Writes c.args.area c.args.at c.args.bytes.now) c.make_room.ensures.same kept c.in_ok-make_room.ensures.first c.keep.ensures.first)
          c.requires.numbered c.requires.counted;
      agrees =
          agrees_wrote (tape_of c.args.self.now) _ c.args.area c.args.at c.args.bytes.now (contents c.args.self.now.areas)
          (contents c.overwrite.new.self) c.args.self.now.printed.items tape c.in_ok-overwrite.ensures.ok c.args.self.now.agrees;
    }

pub returns-clause-ok : goal.returns-clause-ok
returns-clause-ok c =
    let kept = c.keep.ensures.kept ∙ ap (λ call. kept_in c.make_room.new.self.past.items ++ record { number = c.args.number; call = call } ∷ []) c.in_ok-write.ensures
    in does_more c.args.self.now _ c.make_room.new.self c.args.number (Writes c.args.area c.args.at c.args.bytes.now)
    c.make_room.ensures.same kept c.in_ok-make_room.ensures.first c.keep.ensures.first refl
