use Rattle.std.proofs.Common.{◌∙◌, arith}
use Rattle.ov_files.proofs.Fronts.{after_more}
use Rattle.ov_files.proofs.reading.read_front.Goals as goal

pub returns-then-branch-eq0-clause-front : goal.returns-then-branch-eq0-clause-front
returns-then-branch-eq0-clause-front g c tells =
    let told = c.front.invariant.looks.told ∙ tells
    in record {
      rest = (g.T.Stage.staged c.read_more.new.stage).left;
      whole = c.front.invariant.read tells ∙ c.in_ok-read_more.ensures.read told;
      ends = λ _. c.in_ok-read_more.ensures.ended told c.if-branch-eq0.true;
    }

pub front-preserved : goal.front-preserved
front-preserved g c =
    let old = c.front.invariant
    in let more = c.in_ok-read_more.ensures
    in record {
      looks = after_more old.looks more.looks;
      reading = more.reading;
      room = old.room;
      few = omega arith;
      read = λ tells. old.read tells ∙ more.read (old.looks.told ∙ tells);
    }

pub returns-clause-front : goal.returns-clause-front
returns-clause-front g c tells = record {
  rest = (g.T.Stage.staged c.front.stage).left;
  whole = c.front.invariant.read tells;
  ends = λ few. absurd (omega arith);
}
