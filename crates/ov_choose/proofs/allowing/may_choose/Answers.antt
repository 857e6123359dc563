use Rattle.std.proofs.Common.{◌∙◌, sym, ap, subst, arith}
use Rattle.std.specs.Prelude.{Some}
use Rattle.ov_store.specs.Scanning.{set_in}
use Rattle.ov_choose.specs.Worlds.{IsRefusedTo, within_refused}
use Rattle.ov_choose.proofs.Numbers.{none_plan, none_within, some_within}
use Rattle.ov_choose.proofs.Refused.{may_begin, within_refused_to}
use Rattle.ov_choose.proofs.allowing.may_choose.Goals as goal

pub returns-in-Ok-clause-allowed : goal.returns-in-Ok-clause-allowed
returns-in-Ok-clause-allowed c = none_within (set_in c.args.store.now.held.numbers c.args.name.now) 1 (omega arith) (omega arith) c.in-Ok.ensures.answer

pub returns-in-Ok-clause-any : goal.returns-in-Ok-clause-any
returns-in-Ok-clause-any c = λ p some most.
    let o = set_in c.args.store.now.held.numbers c.args.name.now
    in none_plan o p some most (none_within o 1 (omega arith) (omega arith) c.in-Ok.ensures.answer)

pub returns-in-Ok-clause-world : goal.returns-in-Ok-clause-world
returns-in-Ok-clause-world c = λ w t budget at. may_begin w c.args.name.now (c.in-Ok.ensures.world w t at)

pub returns-in-Err-clause-why : goal.returns-in-Err-clause-why
returns-in-Err-clause-why c =
    some_within (set_in c.args.store.now.held.numbers c.args.name.now) 1 (omega arith) (omega arith) c.in-Err.off c.in-Err.ensures.answer ∙ ap Some (sym c.unbegun.ensures)

pub returns-in-Err-clause-world : goal.returns-in-Err-clause-world
returns-in-Err-clause-world c = λ w t budget at.
    subst (IsRefusedTo c.args.name.now budget (within_refused w c.args.name.now budget)) (sym c.unbegun.ensures)
    (within_refused_to w c.args.name.now budget (set_in c.args.store.now.held.numbers c.args.name.now) c.in-Err.off c.in-Err.ensures.answer (c.in-Err.ensures.world w t at))
