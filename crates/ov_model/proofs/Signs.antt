-- Each sign is in the table.
use Rattle.std.proofs.Common.{◌≡◌, inl, inr, ℕ, nat_eq, true, ◌&&◌, ◌==◌, List, [], ◌∷◌, refl, sym, subst, codes}
use Rattle.std.specs.Option.{IsSome}
use Rattle.std.specs.List.{list_any, AllByRecursion}
use Rattle.std.proofs.lemmas.Bool.{or_cases, and_parts, eqb-true, false≢true}
use Rattle.ov_lex.specs.Spellings.{is_short_sign, is_long_sign, IsSign}
use Rattle.ov_model.specs.Grammar.{found_in, signs}

abbrev IsKnown : List ℕ → Type 0
IsKnown bytes = IsSome (found_in signs bytes)

any-known : (ss : List ℕ) (b : ℕ) → list_any (λ s. nat_eq s b) ss ≡ true → AllByRecursion (λ s. IsKnown (s ∷ [])) ss → IsKnown (b ∷ [])
any-known [] b e h = absurd (false≢true e)
any-known (s ∷ ss) b e h = elim (or_cases (nat_eq s b) (list_any (λ t. nat_eq t b) ss) e) [
  | inl t ↦ subst (λ (k : ℕ). IsKnown (k ∷ [])) (eqb-true s b t) h.0
  | inr t ↦ any-known ss b t h.1
]

short-known : (b : ℕ) → is_short_sign b ≡ true → IsKnown (b ∷ [])
unfolding found_in
short-known b e = any-known (codes "*,();.=<>") b e (refl, (refl, (refl, (refl, (refl, (refl, (refl, (refl, (refl, tt)))))))))

two : (s t b c : ℕ) → (b == s && c == t) ≡ true → IsKnown (s ∷ t ∷ []) → IsKnown (b ∷ c ∷ [])
two s t b c e h =
    let p = and_parts (b == s) (c == t) e in
    subst (λ (k : ℕ). IsKnown (b ∷ k ∷ [])) (sym (eqb-true c t p.1)) (subst (λ (k : ℕ). IsKnown (k ∷ t ∷ [])) (sym (eqb-true b s p.0)) h)

long-known : (b c : ℕ) → is_long_sign b c ≡ true → IsKnown (b ∷ c ∷ [])
unfolding found_in
long-known b c e = elim (or_cases _ (b == 62 && c == 61) e) [
  | inr q ↦ two 62 61 b c q refl
  | inl p ↦ elim (or_cases _ (b == 60 && c == 61) p) [
    | inr q ↦ two 60 61 b c q refl
    | inl r ↦ elim (or_cases (b == 60 && c == 62) (b == 33 && c == 61) r) [
      | inl q ↦ two 60 62 b c q refl
      | inr q ↦ two 33 61 b c q refl
    ]
  ]
]

pub is_known : (bytes : List ℕ) → IsSign bytes → IsSome (found_in signs bytes)
is_known [] s = absurd s
is_known (b ∷ []) s = short-known b s
is_known (b ∷ c ∷ []) s = long-known b c s
is_known (b ∷ c ∷ d ∷ bytes) s = absurd s
