-- What is chosen in a World, and what that means for its next World.
use Rattle.std.proofs.Common.{◌≡◌, ◌∙◌, ℕ, List, sym, ap, subst}
use Rattle.std.specs.Prelude.{Some, None}
use Rattle.std.specs.Option.{option_or}
use Rattle.ov_model.specs.Budget.{table}
use Rattle.ov_model.specs.World.{Dataset, World, set_named}
use Rattle.ov_model.specs.declared.refusal.Refusal.{Refusal}
use Rattle.ov_model.specs.declared.reply.BudgetLine.{BudgetLine}
use Rattle.ov_optimize.specs.Planned.{IsReport}
use Rattle.ov_optimize.specs.declared.report.Report.{Report}
use Rattle.ov_store.specs.Planning.{begun_in, with_plan}
use Rattle.ov_choose.specs.Worlds.{IsShownTo, IsToldOf, best_of, over_budget, within_in, within_of, within_refused, within_refused_of, with_best}

the_dataset : (d e : Dataset) → Some d ≡ Some e → d ≡ e
the_dataset d e is = ap (λ o. elim o as (λ _. Dataset) [ None ↦ d | Some x ↦ x ]) is

the_best : (a b : ℕ × BudgetLine) → Some a ≡ Some b → a ≡ b
the_best a b is = ap (λ o. elim o as (λ _. ℕ × BudgetLine) [ None ↦ a | Some x ↦ x ]) is

module _ (w : World) (name : List ℕ) (budget : ℕ) (shown : List BudgetLine) (p : ℕ) (is : IsShownTo w name budget shown p) where
  -- the World refuses nothing
  pub shown_allowed : within_refused w name budget ≡ None
  shown_allowed =
      ap (within_refused_of name budget) is.named
      ∙ ap (λ x. option_or x (over_budget budget is.d (best_of budget is.d))) is.allowed
      ∙ ap (over_budget budget is.d) is.best

  pub never_refused : (refusal : Refusal) → within_refused w name budget ≡ Some refusal → ⊥
  never_refused refusal refused = let clash : None ≡ Some refusal = sym shown_allowed ∙ refused in cc

  -- and its plan is the one that begins
  pub next_world : begun_in name p 100 w ≡ within_in name budget w
  next_world =
      ap (λ o. with_plan o p 100 w) is.named
      ∙ sym (ap (λ o. within_of budget o w) is.named ∙ ap (λ o. with_best is.d o w) is.best)

  module _ (d : Dataset) (named : set_named w name ≡ Some d) where
    same_set : is.d ≡ d
    same_set = the_dataset is.d d (sym is.named ∙ named)

    best_at : best_of budget d ≡ Some (p, is.line)
    best_at = subst (λ (x : Dataset). best_of budget x ≡ Some (p, is.line)) same_set is.best

    pub same_best : (best : ℕ × BudgetLine) → best_of budget d ≡ Some best → p ≡ best.0
    same_best best this = ap (λ (x : ℕ × BudgetLine). x.0) (the_best (p, is.line) best (sym best_at ∙ this))

    pub told_of : (report : Report) → IsReport d p 100 report → IsToldOf d budget (record { lines = shown; p = p; report = report })
    told_of report reports = record {
      lines_are = subst (λ (x : Dataset). shown ≡ table x) same_set is.shown_are;
      line = is.line;
      best = best_at;
      report = reports;
    }
