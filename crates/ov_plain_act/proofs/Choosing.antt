-- What comes of the lines of a storage budget, made once, is what the definitions say.
use Rattle.std.proofs.Common.{◌≡◌, ℕ, zero, suc, ◌+◌, ◌-◌, ◌<◌, List, ◌∷◌, refl, sym, ◌∙◌, ap, arith}
use Rattle.std.specs.Prelude.{Option, Some, None}
use Rattle.ov_model.specs.Act.{Session, Deed, refuses, unless}
use Rattle.ov_model.specs.Budget.{advise_by, advise_deed, choice, table, within_by, within_deed, within_refusal}
use Rattle.ov_model.specs.Records.{counted}
use Rattle.ov_model.specs.World.{Dataset}
use Rattle.ov_model.specs.declared.refusal.Refusal.{Refusal}
use Rattle.ov_model.specs.declared.reply.BudgetLine.{BudgetLine}
use Rattle.ov_plain_act.specs.Lines.{advise_from, advise_of, lines_of, ratio_off, within_from, within_of}

pub counted_more : (p count : ℕ) → 0 < count → counted p count ≡ p ∷ counted (p + 1) (count - 1)
counted_more p zero h = absurd (omega (arith, h))
counted_more p (suc count) h = ap (λ (n : ℕ). p ∷ counted (p + 1) n) (omega arith)

-- a refusal, or what comes where there is none
refused : (s : Session) (o : Option Refusal) (r : Refusal) (d : Deed) → o ≡ Some r → refuses s r ≡ unless s o d
refused s o r d e = ap (λ (k : Option Refusal). unless s k d) (sym e)

allowed : (s : Session) (o : Option Refusal) (d : Deed) → o ≡ None → d ≡ unless s o d
allowed s o d e = ap (λ (k : Option Refusal). unless s k d) (sym e)

from_table : (s : Session) (d : Dataset) (budget : ℕ) (best : Option (ℕ × BudgetLine)) → within_from s d budget (table d) best ≡ within_by s d budget best
from_table s d budget None = refl
from_table s d budget (Some best) = refl

pub within_chosen : (s : Session) (name : List ℕ) (budget : ℕ) (d : Dataset) (lines : List BudgetLine) → within_refusal d ≡ None → lines ≡ lines_of d
    → within_from s d budget lines (choice budget lines) ≡ within_of s name budget d
unfolding within_of lines_of
within_chosen s name budget d lines e f =
    ap (λ (ls : List BudgetLine). within_from s d budget ls (choice budget ls)) f
    ∙ from_table s d budget (choice budget (table d))
    ∙ allowed s (within_refusal d) (within_by s d budget (choice budget (table d))) e

pub within_refused : (s : Session) (name : List ℕ) (budget : ℕ) (d : Dataset) (r : Refusal) → within_refusal d ≡ Some r → refuses s r ≡ within_of s name budget d
unfolding within_of
within_refused s name budget d r e = refused s (within_refusal d) r (within_by s d budget (choice budget (table d))) e

pub within_found : (s : Session) (name : List ℕ) (budget : ℕ) (d : Dataset) (o : Option Dataset) → o ≡ Some d → within_of s name budget d ≡ within_deed s name budget o
unfolding within_of
within_found s name budget d o e = ap (within_deed s name budget) (sym e)

advised_table : (s : Session) (d : Dataset) (budget a b : ℕ) (best : Option (ℕ × BudgetLine)) → advise_from s d budget a b (table d) best ≡ advise_by s d budget a b best
advised_table s d budget a b None = refl
advised_table s d budget a b (Some best) = refl

pub advise_chosen : (s : Session) (name : List ℕ) (budget a b : ℕ) (d : Dataset) (lines : List BudgetLine) → ratio_off a b ≡ None → lines ≡ lines_of d
    → advise_from s d budget a b lines (choice budget lines) ≡ advise_of s name budget a b d
unfolding advise_of lines_of
advise_chosen s name budget a b d lines e f =
    ap (λ (ls : List BudgetLine). advise_from s d budget a b ls (choice budget ls)) f
    ∙ advised_table s d budget a b (choice budget (table d))
    ∙ allowed s (ratio_off a b) (advise_by s d budget a b (choice budget (table d))) e

pub advise_refused : (s : Session) (name : List ℕ) (budget a b : ℕ) (d : Dataset) (r : Refusal) → ratio_off a b ≡ Some r → refuses s r ≡ advise_of s name budget a b d
unfolding advise_of
advise_refused s name budget a b d r e = refused s (ratio_off a b) r (advise_by s d budget a b (choice budget (table d))) e

pub advise_found : (s : Session) (name : List ℕ) (budget a b : ℕ) (d : Dataset) (o : Option Dataset) → o ≡ Some d → advise_of s name budget a b d ≡ advise_deed s name budget a b o
unfolding advise_of
advise_found s name budget a b d o e = ap (advise_deed s name budget a b) (sym e)
