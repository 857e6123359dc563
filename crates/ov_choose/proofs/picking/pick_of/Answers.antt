use Rattle.std.proofs.Common.{◌≡◌, ◌∙◌, ℕ, List, length, refl, sym, ap, rules, subst, arith}
use Rattle.std.specs.Prelude.{Option, None, Some, Result, Ok, Err, IfOk, MatchResult}
use Rattle.std.specs.Option.{option_map}
use Rattle.ov_budget.specs.Choices.{IsLeast, choice, least_of}
use Rattle.ov_budget.specs.Offers.{numbered}
use Rattle.ov_budget.specs.declared.choosing.NoThreshold.{NoThreshold}
use Rattle.ov_budget.specs.declared.offers.Offer.{Offer}
use Rattle.ov_budget.specs.declared.thresholds.Line.{Line}
use Rattle.ov_budget.proofs.Chosen.{chosen_at, chosen_best, chosen_line, least_is, none_is}
use Rattle.ov_optimize.specs.Planned.{IsSplitFor}
use Rattle.ov_store.specs.Committing.{IfSet, Set}
use Rattle.ov_choose.specs.Choices.{HasNoThreshold, there_off}
use Rattle.law_budget.specs.Told.{told_best}
use Rattle.ov_store.specs.Scanning.{set_in}
use Rattle.ov_store.proofs.Deciding.{none_named}
use Rattle.ov_choose.specs.Worlds.{IsRefusedTo, best_of, over_budget}
use Rattle.ov_choose.proofs.Tables.{best_shown, named_there, over_shown, unread_spared}
use Rattle.ov_choose.proofs.picking.pick_of.Goals as goal

-- what the table offers, by its answer
picked_at : (budget : ℕ) (lines : List Line) (best : Result Offer NoThreshold) (offer : Offer) → best ≡ Ok offer
    → MatchResult best (λ x. choice budget lines ≡ Some (numbered x)) (λ none. (choice budget lines ≡ None) × (none.least ≡ least_of lines))
    → choice budget lines ≡ Some (numbered offer)
picked_at budget lines best offer is says =
    subst (λ (r : Result Offer NoThreshold). MatchResult r (λ x. choice budget lines ≡ Some (numbered x)) (λ none. (choice budget lines ≡ None) × (none.least ≡ least_of lines))) is says

over_at : (budget : ℕ) (lines : List Line) (best : Result Offer NoThreshold) (none : NoThreshold) → best ≡ Err none
    → MatchResult best (λ x. choice budget lines ≡ Some (numbered x)) (λ n. (choice budget lines ≡ None) × (n.least ≡ least_of lines))
    → (choice budget lines ≡ None) × (none.least ≡ least_of lines)
over_at budget lines best none is says =
    subst (λ (r : Result Offer NoThreshold). MatchResult r (λ x. choice budget lines ≡ Some (numbered x)) (λ n. (choice budget lines ≡ None) × (n.least ≡ least_of lines))) is says

if_there : (P : Set → Type 0) (o : Option Set) → there_off o ≡ None → ((s : Set) → o ≡ Some s → P s) → IfSet P o
if_there P None there each = absurd cc
if_there P (Some s) there each = each s refl

pub returns-in_err-lists-clause-world : goal.returns-in_err-lists-clause-world
returns-in_err-lists-clause-world g c = λ w d at named.
    let name = c.args.name.now
    in let budget = c.args.budget
    in let o = set_in c.args.store.now.held.numbers name
    in let fact : IsRefusedTo c.args.name.now c.args.budget (over_budget c.args.budget d (best_of c.args.budget d)) c.in_err-lists.field-0.0
    = unread_spared o (g.H.Host.state c.args.host.now) (g.H.Host.state c.table_of.new.host) name budget (over_budget budget d (best_of budget d)) c.in_err-lists.field-0.0
    (λ none. named_there w d name named (none_named w c.args.store.now.held (g.H.Host.state c.args.host.now) at name none))
    c.in_err-lists.ensures.why (c.in_err-lists.ensures.world w d at named)
    in search (rules, fact)

-- ---- a threshold is picked

pub returns-in-Ok-clause-among : goal.returns-in-Ok-clause-among
returns-in-Ok-clause-among g c =
    let offers = c.in_ok-lists.field-0.offers
    in let offer = c.in-Ok.field-0
    in let at = chosen_at c.args.budget offers.lines.items offer.p offer.line (picked_at c.args.budget offers.lines.items offers.best offer c.in-Ok.is c.in_ok-lists.ensures.best)
    in let hundred = c.in_ok-lists.ensures.hundred
    in (at.0, omega (arith, at.1, hundred), hundred)

pub returns-in-Ok-clause-chosen : goal.returns-in-Ok-clause-chosen
returns-in-Ok-clause-chosen g c = λ s named.
    let offers = c.in_ok-lists.field-0.offers
    in let offer = c.in-Ok.field-0
    in record {
      are = record { lists = c.in_ok-lists.field-0.lists.items; is = c.in_ok-lists.ensures.table s named };
      best = chosen_best c.args.budget offers.lines.items offer.p offer.line (picked_at c.args.budget offers.lines.items offers.best offer c.in-Ok.is c.in_ok-lists.ensures.best);
    }

pub returns-in-Ok-clause-split : goal.returns-in-Ok-clause-split
returns-in-Ok-clause-split g c = λ s named.
    subst (λ (r : Result Offer NoThreshold). IfOk r (λ offer. IsSplitFor s offer.p 100 offer.split)) c.in-Ok.is (c.in_ok-lists.ensures.split s named)

pub returns-in-Ok-clause-world : goal.returns-in-Ok-clause-world
returns-in-Ok-clause-world g c = λ w d at named.
    let offers = c.in_ok-lists.field-0.offers
    in let offer = c.in-Ok.field-0
    in let same = c.in_ok-lists.ensures.world w d at named
    in (
      same,
      best_shown c.args.budget d offers.lines.items same
          ∙ ap (option_map told_best) (chosen_line c.args.budget offers.lines.items offer.p offer.line (picked_at c.args.budget offers.lines.items offers.best offer c.in-Ok.is c.in_ok-lists.ensures.best)),
    )

-- ---- all lines store more

pub returns-in-Err-clause-why : goal.returns-in-Err-clause-why
returns-in-Err-clause-why g c =
    let offers = c.in_ok-lists.field-0.offers
    in let over = over_at c.args.budget offers.lines.items offers.best c.in-Err.none c.in-Err.is c.in_ok-lists.ensures.best
    in let hundred = c.in_ok-lists.ensures.hundred
    in (
      c.in_ok-lists.ensures.there,
      if_there (λ s. HasNoThreshold s c.args.budget (g.H.Host.state c.args.host.now) c.in-Err.none.least) (set_in c.args.store.now.held.numbers c.args.name.now)
          c.in_ok-lists.ensures.there (λ s named. record {
            lines = offers.lines.items;
            are = record { lists = c.in_ok-lists.field-0.lists.items; is = c.in_ok-lists.ensures.table s named };
            over = none_is c.args.budget offers.lines.items over.0;
            least_is = subst (IsLeast offers.lines.items) (sym over.1) (least_is offers.lines.items (λ none. omega (arith, ap length none, hundred)));
          }),
    )

pub returns-in-Err-clause-world : goal.returns-in-Err-clause-world
returns-in-Err-clause-world g c = λ w d at named.
    let offers = c.in_ok-lists.field-0.offers
    in let over = over_at c.args.budget offers.lines.items offers.best c.in-Err.none c.in-Err.is c.in_ok-lists.ensures.best
    in over_shown c.args.budget d offers.lines.items c.in-Err.none.least (c.in_ok-lists.ensures.world w d at named) over.0 over.1
