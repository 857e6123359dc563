use Rattle.std.proofs.Common.{◌∙◌, ap, sym, ◌-◌, ◌+◌, ◌++◌, ◌∷◌, [], take, drop, false, arith}
use Rattle.std.proofs.lemmas.Grind.{common_steps}
use Rattle.ov_script.specs.Reader.{TakesLine}
use Rattle.ov_script.proofs.Readers.{cut_part, shorter_true, shorter_false}
use Rattle.ov_script.proofs.reader.Reader.take_line.Goals as goal

pub returns-in_ok-keep-in-Some-clause-taken : goal.returns-in_ok-keep-in-Some-clause-taken
returns-in_ok-keep-in-Some-clause-taken c =
    let at = c.self.inside.at
    in let end = c.self.inside.end
    in let bytes = c.deref.result.now
    in let piece = take c.in-Some.place (take (end - at) (drop at bytes))
    in (
      piece,
      c.in-Some.ensures.first,
      sym (ap (λ t. t.unread) c.self.view_is)
          ∙ ap (λ b. take (end - at) (drop at b)) (sym c.deref.ensures.value)
          ∙ cut_part at end c.in-Some.place bytes c.in-Some.ensures.within c.in-Some.ensures.there
          ∙ ap (λ b. piece ++ 10 ∷ take (end - (at + (c.in-Some.place + 1))) (drop (at + (c.in-Some.place + 1)) b)) c.deref.ensures.value,
      c.in_ok-keep-in-Some.ensures.kept,
    )

pub returns-in_ok-keep-in-Some-clause-fewer : goal.returns-in_ok-keep-in-Some-clause-fewer
returns-in_ok-keep-in-Some-clause-fewer c =
    shorter_true c.args.self.now.unread _ c.args.line.now.items c.keep.new.line.items (returns-in_ok-keep-in-Some-clause-taken c)

pub returns-in_ok-keep-in-None-clause-fewer : goal.returns-in_ok-keep-in-None-clause-fewer
returns-in_ok-keep-in-None-clause-fewer c =
    let taken : TakesLine false c.args.self.now.unread [] c.args.line.now.items c.keep-in-None.new.line.items = grind (arith, common_steps)
    in let short = shorter_false c.args.self.now.unread [] c.args.line.now.items c.keep-in-None.new.line.items taken
    in grind (arith, common_steps)
