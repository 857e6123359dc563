use Rattle.std.proofs.Common.{◌∙◌, ap, map, rules, subst}
use Rattle.std.specs.Prelude.{Option}
use Rattle.law_budget.specs.Told.{told}
use Rattle.ov_budget.specs.Choices.{line_in}
use Rattle.ov_model.specs.declared.refusal.Refusal.{Refusal}
use Rattle.ov_choose.specs.Worlds.{IsRefusedTo, within_refused}
use Rattle.ov_choose.proofs.Refused.{by_table}
use Rattle.ov_choose.proofs.choosing.choose.Goals as goal

pub returns-in_err-may_choose-clause-world : goal.returns-in_err-may_choose-clause-world
returns-in_err-may_choose-clause-world g c = λ w at.
    let fact : IsRefusedTo c.args.name.now c.args.budget (within_refused w c.args.name.now c.args.budget) c.in_err-may_choose.field-0.0
    = c.in_err-may_choose.ensures.world w (g.H.Host.state c.args.host.now) c.args.budget at
    in search (rules, fact)

pub returns-in_err-lists-clause-world : goal.returns-in_err-lists-clause-world
returns-in_err-lists-clause-world g c = λ w at.
    let begins = c.in_ok-may_choose.ensures.world w (g.H.Host.state c.args.host.now) c.args.budget at
    in let fact : IsRefusedTo c.args.name.now c.args.budget (within_refused w c.args.name.now c.args.budget) c.in_err-lists.field-0.0
    = subst (λ (r : Option Refusal). IsRefusedTo c.args.name.now c.args.budget r c.in_err-lists.field-0.0) (by_table w c.args.name.now c.args.budget begins)
    (c.in_err-lists.ensures.world w begins.d at begins.named)
    in search (rules, fact)

pub returns-clause-chosen : goal.returns-clause-chosen
returns-clause-chosen g c = λ s named. record {
  lines = c.in_ok-lists.field-0.lines.items;
  choice = c.in_ok-lists.ensures.chosen s named;
  shown_are = c.in_ok-lines.ensures ∙ ap (map told) c.deref.ensures.value;
}

pub returns-clause-world : goal.returns-clause-world
returns-clause-world g c = λ w at.
    let begins = c.in_ok-may_choose.ensures.world w (g.H.Host.state c.args.host.now) c.args.budget at
    in let is = c.in_ok-lists.ensures.world w begins.d at begins.named
    in record {
      d = begins.d;
      named = begins.named;
      allowed = begins.allowed;
      shown_are = c.in_ok-lines.ensures ∙ ap (map told) c.deref.ensures.value ∙ is.0;
      line = told (line_in c.in_ok-lists.field-0.lines.items c.in_ok-lists.field-0.p);
      best = is.1;
    }
