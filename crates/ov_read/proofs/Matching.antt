-- What is known of a result, put in other words.
use Rattle.std.proofs.Common.{◌≡◌, Result, Ok, Err, Option, Some, None, sym, subst}
use mathlib.Core.Bool.{true≢false}
use Rattle.std.specs.Prelude.{MatchResult, MatchOption, IfOk, IfErr, IsErr, IsErrAnd}

pub match_weaker : {X E : Type 0} (r : Result X E) (P P2 : X → Type 0) (Q Q2 : E → Type 0) → ((x : X) → P x → P2 x) → ((e : E) → Q e → Q2 e) → MatchResult r P Q → MatchResult r P2 Q2
match_weaker (Ok x) P P2 Q Q2 f g h = f x h
match_weaker (Err e) P P2 Q Q2 f g h = g e h

pub ok_option : {X E : Type 0} (r : Result (Option X) E) (N N2 : Type 0) (P P2 : X → Type 0) → (N → N2) → ((x : X) → P x → P2 x) → IfOk r (λ found. MatchOption found N P) → IfOk r (λ found. MatchOption found N2 P2)
ok_option (Ok None) N N2 P P2 f g h = f h
ok_option (Ok (Some x)) N N2 P P2 f g h = g x h
ok_option (Err e) N N2 P P2 f g h = h

-- an error is passed on
pub err_on : {X E : Type 0} (Q : E → Type 0) (r : Result X E) (e : E) → IsErr r × IsErrAnd r (λ x. x ≡ e) → Q e → IfErr r Q
err_on Q (Ok x) e h q = absurd (true≢false (sym h.0))
err_on Q (Err x) e h q = subst Q (sym h.1) q
