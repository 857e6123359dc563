use Rattle.std.proofs.Common.{ℕ, List, length, inr, refl, ap, subst, sym, ◌∙◌, arith}
use Rattle.std.proofs.lemmas.Result.{err_from_is_err_and}
use Rattle.ov_pages.specs.Sets.{Reserved, IsRefused, IsLowestRun}
use Rattle.ov_pages.proofs.RunLemmas.{none_from}
use Rattle.ov_pages.proofs.FreeLemmas.{not_refused, taken, lowest_at_most}
use Rattle.ov_pages.proofs.pages.Pages.reserve.Goals as goal

pub returns-in_default-clause-full : goal.returns-in_default-clause-full
returns-in_default-clause-full c =
    let none = rw (none_from c.lowest_run.result c.in_default.not-Some, c.deref.ensures.value) at c.lowest_run.ensures in
    (λ e. inr (rw (← c.self.view_is) none), λ refused. refl)

pub returns-in_err-reserve-clause-full : goal.returns-in_err-reserve-clause-full
returns-in_err-reserve-clause-full c =
    let lowest = rw c.deref.ensures.value at c.in-Some.ensures in
    let view = ap (λ (v : Reserved). v.pages) c.self.view_is in
    let p = err_from_is_err_and c.from_residual.result c.from_residual.ensures.1 in
    let is = p.1 in
    let memory = p.2 in
    (λ e. absurd cc, λ refused. absurd (not_refused _ c.args.n _ lowest (omega arith) (subst (λ (pages : List ℕ). IsRefused pages c.args.n) (sym view) refused)))

pub invariant_of-self-2 : goal.invariant_of-self-2
invariant_of-self-2 c =
    let lowest = rw c.deref.ensures.value at c.in-Some.ensures in
    let done = taken _ _ _ _ _ c.self.invariant.0 (ap (λ (v : Reserved). v.pages) c.self.view_is) lowest c.requires (rw c.in_ok-reserve.ensures.items at c.turn_run.ensures.turned) in
    let len = sym c.deref.ensures.len ∙ ap (λ (xs : List ℕ). length xs) c.deref.ensures.value in
    (done.turns.sound, omega (arith, done.turns.longer, c.turn_run.ensures.capacity, c.in_ok-reserve.ensures.ok, c.in_ok-reserve.ensures.len, len))

pub returns-clause-at_most : goal.returns-clause-at_most
returns-clause-at_most c =
    let lowest : IsLowestRun c.args.self.now.pages c.args.n c.in-Some.first = rw (← c.self.view_is) (rw c.deref.ensures.value at c.in-Some.ensures) in
    lowest_at_most c.args.self.now.pages c.args.n c.in-Some.first lowest

pub returns-clause-grown : goal.returns-clause-grown
returns-clause-grown c =
    let lowest = rw c.deref.ensures.value at c.in-Some.ensures in
    (taken _ _ _ _ _ c.self.invariant.0 (ap (λ (v : Reserved). v.pages) c.self.view_is) lowest c.requires (rw c.in_ok-reserve.ensures.items at c.turn_run.ensures.turned)).grown

pub returns-clause-full : goal.returns-clause-full
returns-clause-full c =
    let lowest = rw c.deref.ensures.value at c.in-Some.ensures in
    let view = ap (λ (v : Reserved). v.pages) c.self.view_is in
    (λ e. absurd cc, λ refused. absurd (not_refused _ c.args.n _ lowest (omega arith) (subst (λ (pages : List ℕ). IsRefused pages c.args.n) (sym view) refused)))
