use Rattle.std.proofs.Common.{◌≡◌, ◌∙◌, ap, arith, rules, subst, sym}
use Rattle.std.specs.Prelude.{Option}
use Rattle.std.proofs.lemmas.List.{get_or_read}
use Rattle.law_budget.specs.Told.{told}
use Rattle.ov_budget.specs.Choices.{is_worth, line_in, no_line}
use Rattle.ov_budget.specs.declared.thresholds.Line.{Line}
use Rattle.ov_model.specs.declared.refusal.Refusal.{Refusal}
use Rattle.ov_choose.specs.Worlds.{IsRefusedTo, advise_refused, over_budget}
use Rattle.ov_choose.proofs.Refused.{advise_refused_to, advised_by_table, advised_there}
use Rattle.ov_choose.proofs.Tables.{lines_whole}
use Rattle.ov_choose.proofs.advising.advise.Goals as goal

pub returns-in_err-cost-clause-refused : goal.returns-in_err-cost-clause-refused
returns-in_err-cost-clause-refused g c = λ w at.
    let fact : IsRefusedTo c.args.name.now c.args.budget (advise_refused w c.args.name.now c.args.budget c.args.a c.args.b) c.in_err-cost.field-0.0
    = advise_refused_to w c.args.store.now.held (g.H.Host.state c.args.host.now) at c.args.name.now c.args.budget c.args.a c.args.b c.in_err-cost.field-0.0 c.in_err-cost.ensures.why
    in search (rules, fact)

pub returns-in_err-lines-clause-refused : goal.returns-in_err-lines-clause-refused
returns-in_err-lines-clause-refused g c = λ w at.
    let there = advised_there w c.args.store.now.held (g.H.Host.state c.args.host.now) at c.args.name.now c.args.budget c.args.a c.args.b c.in_ok-cost.ensures.allowed
    in let fact : IsRefusedTo c.args.name.now c.args.budget (advise_refused w c.args.name.now c.args.budget c.args.a c.args.b) c.in_err-lines.field-0.0
    = subst (λ (r : Option Refusal). IsRefusedTo c.args.name.now c.args.budget r c.in_err-lines.field-0.0)
    (advised_by_table w c.args.store.now.held (g.H.Host.state c.args.host.now) at c.args.name.now c.args.budget c.args.a c.args.b c.in_ok-cost.ensures.allowed there.0 there.1)
    (c.in_err-lines.ensures.world w there.0 at there.1)
    in search (rules, fact)

pub returns-clause-done : goal.returns-clause-done
returns-clause-done g c = λ s named.
    let among = c.in_ok-lines.ensures.among
    in let is : c.index.result.now ≡ line_in c.in_ok-lines.field-0.lines.items c.in_ok-lines.field-0.p
    = get_or_read c.in_ok-lines.field-0.lines.items _ _ (omega (arith, among.0, among.1, among.2)) c.index.ensures no_line
    in let best = ap (λ (l : Line). l.cost) is
    in let cost = c.in_ok-cost.ensures.cost s named
    in record {
      lines = c.in_ok-lines.field-0.lines.items;
      p = c.in_ok-lines.field-0.p;
      choice = c.in_ok-lines.ensures.chosen s named;
      cost_is = cost;
      best_is = best;
      worth_is = c.is_worth.ensures ∙ (λ i. is_worth c.args.a c.args.b (cost i) (best i));
    }

pub returns-clause-undamaged : goal.returns-clause-undamaged
returns-clause-undamaged g c = λ s told named page.
    let picked = c.in_ok-lines.ensures.chosen s named
    in lines_whole s (g.H.Host.state c.args.host.now) c.in_ok-lines.field-0.lines.items told picked.are page

pub returns-clause-shown : goal.returns-clause-shown
returns-clause-shown g c = λ w d at named.
    let among = c.in_ok-lines.ensures.among
    in let is : c.index.result.now ≡ line_in c.in_ok-lines.field-0.lines.items c.in_ok-lines.field-0.p
    = get_or_read c.in_ok-lines.field-0.lines.items _ _ (omega (arith, among.0, among.1, among.2)) c.index.ensures no_line
    in let best = ap (λ (l : Line). l.cost) is
    in let cost = c.in_ok-cost.ensures.world w d (g.H.Host.state c.args.host.now) at named
    in let world = c.in_ok-lines.ensures.world w d at named
    in record {
      best = (c.in_ok-lines.field-0.p, told (line_in c.in_ok-lines.field-0.lines.items c.in_ok-lines.field-0.p));
      best_is = world.1;
      cost_is = cost;
      least_is = best;
      worth_is = c.is_worth.ensures ∙ (λ i. is_worth c.args.a c.args.b (cost i) (best i));
    }

pub returns-clause-refused : goal.returns-clause-refused
returns-clause-refused g c = λ w at.
    let there = advised_there w c.args.store.now.held (g.H.Host.state c.args.host.now) at c.args.name.now c.args.budget c.args.a c.args.b c.in_ok-cost.ensures.allowed
    in sym (advised_by_table w c.args.store.now.held (g.H.Host.state c.args.host.now) at c.args.name.now c.args.budget c.args.a c.args.b c.in_ok-cost.ensures.allowed there.0 there.1)
    ∙ ap (over_budget c.args.budget there.0) (c.in_ok-lines.ensures.world w there.0 at there.1).1
