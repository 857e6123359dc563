use Rattle.std.proofs.Common.{◌≡◌, ℕ, List, [], ◌∷◌, ◌++◌, ◌∙◌, ap, take, arith}
use Rattle.std.proofs.lemmas.List.{take-append-le}
use Rattle.ov_host.specs.Tape.{Prints}
use Rattle.ov_memhost.specs.Done.{contents, kept_in}
use Rattle.ov_memhost.specs.Host.{tape_of, kept_by}
use Rattle.ov_memhost.proofs.Grown.{does_more, kept_more, tape_more, agrees_printed}
use Rattle.ov_memhost.proofs.Numbers.{numbered_more}
use Rattle.ov_memhost.proofs.host.MemHost.say.Goals as goal

text_same : (c : goal.After-keep) → take c.args.self.now.before c.extend_from_slice.new.self.items ≡ take c.args.self.now.before c.args.self.now.printed.items
text_same c =
    ap (take c.args.self.now.before) c.in_ok-extend_from_slice.ensures.items
    ∙ take-append-le c.args.self.now.before c.args.self.now.printed.items c.args.bytes.now (omega (arith, c.args.self.now.had))

pub invariant_of-self-2 : goal.invariant_of-self-2
invariant_of-self-2 c =
    let text : List ℕ = take c.args.self.now.before c.args.self.now.printed.items
    in let kept = c.keep.ensures.kept ∙ ap (λ bytes. kept_in c.make_room.new.self.past.items ++ record { number = c.args.number; call = Prints bytes } ∷ []) c.in_ok-copy.ensures.items
    in let tape =
    tape_more c.args.self.now.history c.make_room.new.self c.keep.new.self (contents c.args.self.now.areas) c.args.number
    (Prints c.args.bytes.now) c.make_room.ensures.same kept c.in_ok-make_room.ensures.first c.keep.ensures.first
    (contents c.args.self.now.areas) text (take c.args.self.now.before c.extend_from_slice.new.self.items) (text_same c)
    in record {
      had = omega (arith, c.args.self.now.had, c.in_ok-extend_from_slice.ensures.len);
      numbered =
          numbered_more (kept_by c.args.self.now) (kept_in c.keep.new.self.past.items) c.args.number c.args.self.now.counts.calls
          (Prints c.args.bytes.now)
          (kept_more c.args.self.now.history c.make_room.new.self c.keep.new.self (contents c.args.self.now.areas) c.args.number
          (Prints c.args.bytes.now) c.make_room.ensures.same kept c.in_ok-make_room.ensures.first c.keep.ensures.first)
          c.requires.numbered c.requires.counted;
      agrees =
          agrees_printed (tape_of c.args.self.now) _ c.args.bytes.now (contents c.args.self.now.areas)
          c.args.self.now.printed.items c.extend_from_slice.new.self.items tape c.in_ok-extend_from_slice.ensures.items c.args.self.now.agrees;
    }

pub returns-clause-ok : goal.returns-clause-ok
returns-clause-ok c =
    let kept = c.keep.ensures.kept ∙ ap (λ bytes. kept_in c.make_room.new.self.past.items ++ record { number = c.args.number; call = Prints bytes } ∷ []) c.in_ok-copy.ensures.items
    in does_more c.args.self.now _ c.make_room.new.self c.args.number (Prints c.args.bytes.now)
    c.make_room.ensures.same kept c.in_ok-make_room.ensures.first c.keep.ensures.first
    (ap (take c.args.self.now.before) c.in_ok-extend_from_slice.ensures.items
    ∙ take-append-le c.args.self.now.before c.args.self.now.printed.items c.args.bytes.now (omega (arith, c.args.self.now.had)))
