use Rattle.std.specs.Prelude.{Bool, Err, IfErr, Result}
use Rattle.ov_script.specs.declared.reader.ReadErr.{ReadErr}
use Rattle.std.proofs.Common.{◌≡◌, ◌∙◌, refl, sym, subst, not, ◌==◌, length, true, arith}
use Rattle.std.proofs.lemmas.Grind.{common_steps}
use Rattle.ov_script.specs.Reader.{IsCutOff, left_of, IsPart, GivesLine, Took, room_of}
use Rattle.ov_script.proofs.Readers.{ends_now, more_open, not_both, cut_off, err_is, line_given, part_more, last_given, taken_true, taken_false, filled_true, filled_false, part_filled, part_ended, left_ended, is_shorter, room_left}
use Rattle.ov_script.proofs.reader.Reader.next_line.Goals as goal

pub returns-then-branch-clause-given : goal.returns-then-branch-clause-given
returns-then-branch-clause-given g c =
    λ told at_end.
    line_given _ _ c.pieces.self.unread c.take_line.new.self.unread (g.S.Source.script c.pieces.source).left c.pieces.line.items c.take_line.new.line.items
    (c.pieces.invariant.part told)
    (taken_true _ _ _ _ _ c.if-branch.true c.in_ok-take_line.ensures.taken)

pub returns-then-not-branch-clause-given : goal.returns-then-not-branch-clause-given
returns-then-not-branch-clause-given g c =
    λ told at_end.
    let script = g.S.Source.script
    in let all = left_of c.args.self.now (script c.args.source.now)
    in let kept = c.take_line.new.line.items
    in let there : (script c.pieces.source).tells ≡ true = c.pieces.invariant.took.told ∙ told
    in let filled = filled_false _ c.take_line.new.self c.fill.new.self (script c.pieces.source) (script c.fill.new.source) c.if-not-branch.true (c.in_ok-fill.ensures.filled there (λ is. c.pieces.invariant.at_end told at_end (sym c.take_line.ensures.ended ∙ is)))
    in let part : IsPart all (script c.pieces.source).left kept =
    part_more all c.pieces.self.unread c.take_line.new.self.unread (script c.pieces.source).left c.pieces.line.items kept
    (c.pieces.invariant.part told)
    (taken_false _ _ _ _ _ c.if-branch.false c.in_ok-take_line.ensures.taken)
    in let is : c.is_empty.result ≡ (length kept == 0) = grind (arith, common_steps)
    in subst (λ now. GivesLine c.fill.new.self.ended (not c.is_empty.result) all now kept) (sym (left_ended c.take_line.new.self c.fill.new.self (script c.pieces.source) (script c.fill.new.source) filled))
    (last_given c.fill.new.self.ended all kept c.is_empty.result (ends_now _ _ _ c.if-not-branch.true c.in_ok-fill.ensures.ended) is (part_ended all kept c.take_line.new.self c.fill.new.self (script c.pieces.source) (script c.fill.new.source) part filled))

pub pieces-preserved : goal.pieces-preserved
pieces-preserved g c =
    let script = g.S.Source.script
    in let all = left_of c.args.self.now (script c.args.source.now)
    in let kept = c.take_line.new.line.items
    in let took : Took c.args.self.now c.fill.new.self (script c.args.source.now) (script c.fill.new.source) = record {
      told = c.fill.ensures.took.told ∙ c.pieces.invariant.took.told;
      faults = omega (arith, c.fill.ensures.took.faults, c.pieces.invariant.took.faults);
      counted = λ told.
          let before = c.pieces.invariant.took.counted told
          in let after = c.fill.ensures.took.counted (c.pieces.invariant.took.told ∙ told)
          in omega (arith, before, after, c.take_line.ensures.counted);
    }
    in let open_ = more_open _ _ _ c.if-not-branch.false c.in_ok-fill.ensures.ended
    in record {
      ended = open_.1 ∙ sym open_.0 ∙ c.take_line.ensures.ended ∙ c.pieces.invariant.ended;
      at_end = λ told at_end now. not_both c.fill.new.self.ended _ now open_.1;
      took = took;
      within = c.in_ok-take_line.ensures.within;
      fewer =
          room_left c.pieces.self c.take_line.new.self c.fill.new.self (length c.pieces.line.items) (length kept) (room_of c.args.self.now)
          c.pieces.invariant.fewer
          (is_shorter _ _ _ _ _ c.if-branch.false c.in_ok-take_line.ensures.fewer)
          c.take_line.ensures.counted c.in_ok-fill.ensures.unread c.fill.ensures.bounded;
      part = λ told.
          let there : (script c.pieces.source).tells ≡ true = c.pieces.invariant.took.told ∙ told
          in part_filled all kept c.take_line.new.self c.fill.new.self (script c.pieces.source) (script c.fill.new.source)
          (part_more all c.pieces.self.unread c.take_line.new.self.unread (script c.pieces.source).left c.pieces.line.items kept
          (c.pieces.invariant.part told)
          (taken_false _ _ _ _ _ c.if-branch.false c.in_ok-take_line.ensures.taken))
          (filled_true _ c.take_line.new.self c.fill.new.self (script c.pieces.source) (script c.fill.new.source) c.if-not-branch.false (c.in_ok-fill.ensures.filled there (λ is. not_both c.take_line.new.self.ended _ is open_.0)));
    }

pub returns-then-not-branch-clause-at_end : goal.returns-then-not-branch-clause-at_end
returns-then-not-branch-clause-at_end g c =
    λ told at_end now.
    let script = g.S.Source.script
    in let there : (script c.pieces.source).tells ≡ true = c.pieces.invariant.took.told ∙ told
    in (filled_false _ c.take_line.new.self c.fill.new.self (script c.pieces.source) (script c.fill.new.source) c.if-not-branch.true
    (c.in_ok-fill.ensures.filled there (λ is. c.pieces.invariant.at_end told at_end (sym c.take_line.ensures.ended ∙ is)))).1

pub returns-in_err-fill-clause-cut_off : goal.returns-in_err-fill-clause-cut_off
returns-in_err-fill-clause-cut_off g c =
    λ told.
    let script = g.S.Source.script
    in let all = left_of c.args.self.now (script c.args.source.now)
    in let there : (script c.pieces.source).tells ≡ true = c.pieces.invariant.took.told ∙ told
    in let is : c.from_residual-in_err-fill.result ≡ Err c.in_err-fill.field-0.0
    = err_is c.from_residual-in_err-fill.result c.in_err-fill.field-0.0 c.from_residual-in_err-fill.ensures.0 c.from_residual-in_err-fill.ensures.1
    in subst (λ (r : Result Bool ReadErr). IfErr r (λ e. IsCutOff e c.args.self.now all (script c.fill.new.source))) (sym is)
    (cut_off c.in_err-fill.field-0.0 all c.pieces.self.unread c.take_line.new.self.unread c.pieces.line.items c.take_line.new.line.items c.args.self.now c.take_line.new.self
    (script c.pieces.source) (script c.fill.new.source) (c.pieces.invariant.part told) (taken_false _ _ _ _ _ c.if-branch.false c.in_ok-take_line.ensures.taken)
    (c.take_line.ensures.ended ∙ c.pieces.invariant.ended) (c.in_err-fill.ensures.unfilled there refl))
