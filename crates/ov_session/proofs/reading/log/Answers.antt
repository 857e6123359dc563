use Rattle.std.proofs.Common.{rules, ◌≡◌, ◌∙◌, ℕ, List, sym, ap, subst}
use Rattle.std.specs.Prelude.{Some, None}
use Rattle.ov_host.specs.declared.area.Extent.{Extent}
use Rattle.ov_catalog.specs.Numbers.{Numbers}
use Rattle.ov_catalog.specs.Sets as sets
use Rattle.ov_model.specs.Act.{tells}
use Rattle.ov_model.specs.declared.reply.Reply.TheVariants as says
use Rattle.ov_store.specs.Scanning.{set_in}
use Rattle.ov_session.proofs.Lookups.{log_of_none, log_told}
use Rattle.ov_session.proofs.reading.log.Goals as goal

pub returns-in_ok-log_lines-in-Some : goal.returns-in_ok-log_lines-in-Some
returns-in_ok-log_lines-in-Some c = record {
  told = λ w s t at.
      let same : c.as_str.result.now ≡ c.args.cvd = search rules
      in let seen : set_in c.args.store.now.held.numbers c.as_str.result.now ≡ Some (sets.set_in c.in-Some.d.now)
      = subst (λ (n : Numbers Extent Extent). set_in n c.as_str.result.now ≡ Some (sets.set_in c.in-Some.d.now)) c.catalog.ensures (sym c.in-Some.ensures.found)
      in let found : set_in c.args.store.now.held.numbers c.args.cvd ≡ Some (sets.set_in c.in-Some.d.now)
      = subst (λ (name : List ℕ). set_in c.args.store.now.held.numbers name ≡ Some (sets.set_in c.in-Some.d.now)) same seen
      in log_told w c.args.store.now.held t at s c.args.cvd (sets.set_in c.in-Some.d.now) found
      ∙ ap (λ lines. tells s (says.Log lines)) (sym c.in_ok-log_lines-in-Some.ensures);
  seen = λ name is. cc;
  memory = tt;
}

pub returns-in-None : goal.returns-in-None
returns-in-None c = record {
  told = λ w s t at.
      let same : c.as_str.result.now ≡ c.args.cvd = search rules
      in let seen : set_in c.args.store.now.held.numbers c.as_str.result.now ≡ None
      = subst (λ (n : Numbers Extent Extent). set_in n c.as_str.result.now ≡ None) c.catalog.ensures (sym c.in-None.ensures.found)
      in let none : set_in c.args.store.now.held.numbers c.args.cvd ≡ None
      = subst (λ (name : List ℕ). set_in c.args.store.now.held.numbers name ≡ None) same seen
      in log_of_none w c.args.store.now.held t at s c.args.cvd none;
  seen = λ name is. cc;
  memory = tt;
}
