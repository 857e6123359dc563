use Rattle.std.proofs.Common.{refl, sym, ap, ◌∙◌, subst}
use Rattle.std.specs.Option.{IfSome}
use Rattle.ov_match.specs.Matching.{IsChoice, number_of}
use Rattle.ov_targets.proofs.Said.{none_said, some_said}
use Rattle.ov_targets.proofs.targets.target_of.Goals as goal

pub returns-in-None : goal.returns-in-None
returns-in-None c =
    let wanted = c.in_ok-wanted.wanted in
    let none = ap number_of (sym c.in-None.is) ∙ c.in_ok-choose.ensures.source in
    record {
      wanted = wanted;
      together = c.in_ok-wanted.ensures;
      said = λ all ascend known. none_said wanted c.args.candidates.now all _ ascend c.len-size.ensures.count none refl (c.new-in-None.ensures ∙ c.new.ensures.items) refl;
    }

pub returns : goal.returns
returns c =
    let wanted = c.in_ok-wanted.wanted in
    let is = subst (λ found. IfSome found (IsChoice wanted c.args.candidates.now)) c.in-Some.is c.in_ok-choose.ensures.choice in
    let best = ap number_of (sym c.in-Some.is) ∙ c.in_ok-choose.ensures.source in
    record {
      wanted = wanted;
      together = c.in_ok-wanted.ensures;
      said = λ all ascend known.
          some_said wanted c.args.candidates.now all _ c.in-Some.choice ascend known c.len-size.ensures.count is best refl c.new-in-Some.ensures refl;
    }
