-- The cheapest threshold within a budget.
use Rattle.std.proofs.Common.{◌≡◌, ◌≤◌, ◌<◌, ◌⊎◌, ℕ, suc, ◌+◌, ◌-◌, true, false, List, [], ◌∷◌, length, refl, sym, ◌∙◌, ap, subst, inl, inr, arith}
use Rattle.std.proofs.lemmas.Bool.{cases_lt, cases_eq, cases_Bool, eq-eqb, ne_eqb, lt-ltb, le-ltb, leb-true, leb-false}
use Rattle.std.specs.Prelude.{◌≢◌, nat_le, slice_index_or, Option, Some, None}
use Rattle.ov_budget.specs.Choices.{IsLine, IsBest, IsLeast, is_better, better_of, best_from, choice, least_stored, least_of, line_in, no_line}
use Rattle.ov_budget.specs.declared.thresholds.Line.{Line}

-- the first one costs less, or as much and stores less; or it doesn't
abbrev pub Wins : Line → Line → Type 0
Wins a b = (a.cost < b.cost) ⊎ ((a.cost ≡ b.cost) × (a.stored < b.stored))

abbrev pub Yields : Line → Line → Type 0
Yields a b = (b.cost ≤ a.cost) × (a.cost ≡ b.cost → b.stored ≤ a.stored)

decide : (a b : Line) → ((is_better a b ≡ true) × Wins a b) ⊎ ((is_better a b ≡ false) × Yields a b)
decide a b = elim (cases_lt a.cost b.cost) [
  | inl less ↦ inl (rw (lt-ltb a.cost b.cost less) refl, inl less)
  | inr dear ↦ elim (cases_eq a.cost b.cost) [
    | inl same ↦ elim (cases_lt a.stored b.stored) [
      | inl smaller ↦ inl (rw (le-ltb a.cost b.cost dear, eq-eqb a.cost b.cost same, lt-ltb a.stored b.stored smaller) refl, inr (same, smaller))
      | inr larger ↦ inr (rw (le-ltb a.cost b.cost dear, eq-eqb a.cost b.cost same, le-ltb a.stored b.stored larger) refl, (dear, λ e. larger))
    ]
    | inr other ↦ inr (rw (le-ltb a.cost b.cost dear, ne_eqb a.cost b.cost other) refl, (dear, λ e. absurd (other e)))
  ]
]

-- what is known of the best of the lines ahead, none being within the budget where there is none
abbrev pub IsSome : ℕ → ℕ → List Line → Option (ℕ × Line) → Type 0
IsSome budget n lines None = (k : ℕ) (other : Line) → IsLine n lines k other → budget < other.stored
IsSome budget n lines (Some best) = IsBest budget n lines best.0 best.1

behind : (n : ℕ) (lines : List Line) (k : ℕ) (line : Line) → IsLine n lines k line → n ≤ k
behind n [] k line is = absurd is
behind n (x ∷ lines) k line (inl is) = omega (arith, is.0)
behind n (x ∷ lines) k line (inr more) = omega (arith, behind (n + 1) lines k line more)

-- the line at hand isn't within the budget
skipped : (budget n : ℕ) (x : Line) (lines : List Line) (best : Option (ℕ × Line)) → budget < x.stored
    → IsSome budget (n + 1) lines best → IsSome budget n (x ∷ lines) best
skipped budget n x lines None over ahead = λ k other is. elim is [
  | inl here ↦ subst (λ (line : Line). budget < line.stored) (sym here.1) over
  | inr more ↦ ahead k other more
]
skipped budget n x lines (Some best) over ahead = record {
  there = inr ahead.there;
  within = ahead.within;
  cheapest = λ k other is within. elim is [ inl here ↦ absurd (no other here.1 within) | inr more ↦ ahead.cheapest k other more within ];
  smallest = λ k other is within same. elim is [ inl here ↦ absurd (no other here.1 within) | inr more ↦ ahead.smallest k other more within same ];
  first = λ k other is within same stored. elim is [ inl here ↦ absurd (no other here.1 within) | inr more ↦ ahead.first k other more within same stored ];
}
  where
    no : (other : Line) → other ≡ x → other.stored ≤ budget → ⊥
    no other is within = omega (arith, ap (λ (line : Line). line.stored) is, over, within)

-- it is the only one within it
alone : (budget n : ℕ) (x : Line) (lines : List Line) → x.stored ≤ budget → IsSome budget (n + 1) lines None → IsBest budget n (x ∷ lines) n x
alone budget n x lines within ahead = record {
  there = inl (refl, refl);
  within = within;
  cheapest = λ k other is fits. elim is [ inl here ↦ omega (arith, ap (λ (line : Line). line.cost) here.1) | inr more ↦ absurd (omega (arith, ahead k other more, fits)) ];
  smallest = λ k other is fits same. elim is [ inl here ↦ omega (arith, ap (λ (line : Line). line.stored) here.1) | inr more ↦ absurd (omega (arith, ahead k other more, fits)) ];
  first = λ k other is fits same stored. elim is [ inl here ↦ omega (arith, here.0) | inr more ↦ absurd (omega (arith, ahead k other more, fits)) ];
}

-- it is the best, as no line ahead beats it
kept : (budget n : ℕ) (x : Line) (lines : List Line) (b : ℕ × Line) → x.stored ≤ budget → Yields b.1 x
    → IsBest budget (n + 1) lines b.0 b.1 → IsBest budget n (x ∷ lines) n x
kept budget n x lines b within yields ahead = record {
  there = inl (refl, refl);
  within = within;
  cheapest = λ k other is fits. elim is [
    | inl here ↦ omega (arith, ap (λ (line : Line). line.cost) here.1)
    | inr more ↦ omega (arith, yields.0, ahead.cheapest k other more fits)
  ];
  smallest = λ k other is fits same. elim is [
    | inl here ↦ omega (arith, ap (λ (line : Line). line.stored) here.1)
    | inr more ↦ smaller k other more fits same (omega (arith, yields.0, ahead.cheapest k other more fits, same))
  ];
  first = λ k other is fits same stored. elim is [ inl here ↦ omega (arith, here.0) | inr more ↦ omega (arith, behind (n + 1) lines k other more) ];
}
  where
    smaller : (k : ℕ) (other : Line) → IsLine (n + 1) lines k other → other.stored ≤ budget → other.cost ≡ x.cost → b.1.cost ≡ x.cost → x.stored ≤ other.stored
    smaller k other more fits same costs = omega (arith, yields.1 costs, ahead.smallest k other more fits (same ∙ sym costs))

-- the best of those ahead beats it
beaten : (budget n : ℕ) (x : Line) (lines : List Line) (b : ℕ × Line) → Wins b.1 x
    → IsBest budget (n + 1) lines b.0 b.1 → IsBest budget n (x ∷ lines) b.0 b.1
beaten budget n x lines b wins ahead = record {
  there = inr ahead.there;
  within = ahead.within;
  cheapest = λ k other is fits. elim is [
    | inl here ↦ elim wins [
      | inl less ↦ omega (arith, ap (λ (line : Line). line.cost) here.1, less)
      | inr tie ↦ omega (arith, ap (λ (line : Line). line.cost) here.1, tie.0)
    ]
    | inr more ↦ ahead.cheapest k other more fits
  ];
  smallest = λ k other is fits same. elim is [
    | inl here ↦ elim wins [
      | inl less ↦ absurd (omega (arith, ap (λ (line : Line). line.cost) here.1, less, same))
      | inr tie ↦ omega (arith, ap (λ (line : Line). line.stored) here.1, tie.1)
    ]
    | inr more ↦ ahead.smallest k other more fits same
  ];
  first = λ k other is fits same stored. elim is [
    | inl here ↦ elim wins [
      | inl less ↦ absurd (omega (arith, ap (λ (line : Line). line.cost) here.1, less, same))
      | inr tie ↦ absurd (omega (arith, ap (λ (line : Line). line.stored) here.1, tie.1, stored))
    ]
    | inr more ↦ ahead.first k other more fits same stored
  ];
}

joined_with : (budget n : ℕ) (x : Line) (lines : List Line) (best : Option (ℕ × Line)) → x.stored ≤ budget
    → IsSome budget (n + 1) lines best → IsSome budget n (x ∷ lines) (Some (better_of (n, x) best))
joined_with budget n x lines None within ahead = alone budget n x lines within ahead
joined_with budget n x lines (Some b) within ahead = elim (decide b.1 x) [
  | inl wins ↦ rw (wins.0) (beaten budget n x lines b wins.1 ahead)
  | inr yields ↦ rw (yields.0) (kept budget n x lines b within yields.1 ahead)
]

best_is : (budget n : ℕ) (lines : List Line) → IsSome budget n lines (best_from budget n lines)
best_is budget n [] = λ k other is. absurd is
best_is budget n (x ∷ lines) =
    let ahead : IsSome budget (n + 1) lines (best_from budget (n + 1) lines) = best_is budget (n + 1) lines
    in elim (cases_Bool (nat_le x.stored budget)) [
      | inl within ↦ rw (within) (joined_with budget n x lines (best_from budget (n + 1) lines) (leb-true x.stored budget within) ahead)
      | inr over ↦ rw (over) (skipped budget n x lines (best_from budget (n + 1) lines) (leb-false x.stored budget over) ahead)
    ]

pub chosen_is : (budget : ℕ) (lines : List Line) (p : ℕ) (line : Line) → choice budget lines ≡ Some (p, line) → IsBest budget 1 lines p line
chosen_is budget lines p line e = subst (IsSome budget 1 lines) e (best_is budget 1 lines)

pub none_is : (budget : ℕ) (lines : List Line) → choice budget lines ≡ None → (k : ℕ) (other : Line) → IsLine 1 lines k other → budget < other.stored
none_is budget lines e = subst (IsSome budget 1 lines) e (best_is budget 1 lines)

-- the number of a line is its place
placed : (n : ℕ) (lines : List Line) (p : ℕ) (line : Line) → IsLine n lines p line → ((n ≤ p) × (p < n + length lines)) × (line ≡ slice_index_or lines (p - n) no_line)
placed n [] p line is = absurd is
placed n (x ∷ lines) p line (inl here) =
    let first : p - n ≡ 0 = omega (arith, here.0) in
    ((omega (arith, here.0), omega (arith, here.0)), here.1 ∙ ap (λ k. slice_index_or (x ∷ lines) k no_line) (sym first))
placed n (x ∷ lines) p line (inr more) =
    let rest = placed (n + 1) lines p line more in
    let later : p - n ≡ suc (p - (n + 1)) = omega (arith, rest.0.0) in
    ((omega (arith, rest.0.0), omega (arith, rest.0.1)), rest.1 ∙ ap (λ k. slice_index_or (x ∷ lines) k no_line) (sym later))

module _ (budget : ℕ) (lines : List Line) (p : ℕ) (line : Line) (e : choice budget lines ≡ Some (p, line)) where
  at : ((1 ≤ p) × (p < 1 + length lines)) × (line ≡ slice_index_or lines (p - 1) no_line)
  at = placed 1 lines p line (chosen_is budget lines p line e).there

  pub chosen_at : (1 ≤ p) × (p ≤ length lines)
  chosen_at = (at.0.0, omega (arith, at.0.1))

  pub chosen_line : choice budget lines ≡ Some (p, line_in lines p)
  chosen_line = e ∙ ap (λ (x : Line). Some (p, x)) at.1

  pub chosen_best : IsBest budget 1 lines p (line_in lines p)
  chosen_best = chosen_is budget lines p (line_in lines p) chosen_line

-- ---- the least that one stores

-- so far this is the least, and these lines come
record IsLeastOf (n so_far : ℕ) (lines : List Line) (least : ℕ) : Type 0 where
  to_it : least ≤ so_far
  below : (k : ℕ) (other : Line) → IsLine n lines k other → least ≤ other.stored
  which : (least ≡ so_far) ⊎ ((k : ℕ) × (line : Line) × IsLine n lines k line × (line.stored ≡ least))

later : (n least x_stored : ℕ) (x : Line) (lines : List Line) (r : ℕ) → IsLeastOf (n + 1) x_stored lines r → x.stored ≡ x_stored
    → x_stored ≤ least → IsLeastOf n least (x ∷ lines) r
later n least x_stored x lines r h is le = record {
  to_it = omega (arith, h.to_it);
  below = λ k other line. elim line [ inl here ↦ omega (arith, h.to_it, is, ap (λ (l : Line). l.stored) here.1) | inr more ↦ h.below k other more ];
  which = elim h.which [ inl same ↦ inr (n, x, inl (refl, refl), is ∙ sym same) | inr some ↦ inr (some.0, some.1, inr some.2, some.3) ];
}

stays : (n least : ℕ) (x : Line) (lines : List Line) (r : ℕ) → IsLeastOf (n + 1) least lines r → least ≤ x.stored → IsLeastOf n least (x ∷ lines) r
stays n least x lines r h le = record {
  to_it = h.to_it;
  below = λ k other line. elim line [ inl here ↦ omega (arith, h.to_it, le, ap (λ (l : Line). l.stored) here.1) | inr more ↦ h.below k other more ];
  which = elim h.which [ inl same ↦ inl same | inr some ↦ inr (some.0, some.1, inr some.2, some.3) ];
}

least_from : (n least : ℕ) (lines : List Line) → IsLeastOf n least lines (least_stored least lines)
least_from n least [] = record { to_it = omega arith; below = λ k other line. absurd line; which = inl refl }
least_from n least (x ∷ lines) = elim (cases_lt x.stored least) [
  | inl less ↦ rw (lt-ltb x.stored least less) (later n least x.stored x lines _ (least_from (n + 1) x.stored lines) refl (omega (arith, less)))
  | inr more ↦ rw (le-ltb x.stored least more) (stays n least x lines _ (least_from (n + 1) least lines) more)
]

pub least_is : (lines : List Line) → lines ≢ [] → IsLeast lines (least_of lines)
least_is [] some = absurd (some refl)
least_is (x ∷ lines) some =
    let h : IsLeastOf 2 x.stored lines (least_stored x.stored lines) = least_from 2 x.stored lines
    in elim h.which [
      | inl same ↦ record { below = below_all h; which = 1; line = x; there = inl (refl, refl); is = sym same }
      | inr found ↦ record { below = below_all h; which = found.0; line = found.1; there = inr found.2; is = found.3 }
    ]
  where
    below_all : IsLeastOf 2 x.stored lines (least_stored x.stored lines) → (k : ℕ) (other : Line) → IsLine 1 (x ∷ lines) k other → least_stored x.stored lines ≤ other.stored
    below_all h k other (inl here) = omega (arith, h.to_it, ap (λ (l : Line). l.stored) here.1)
    below_all h k other (inr more) = h.below k other more
