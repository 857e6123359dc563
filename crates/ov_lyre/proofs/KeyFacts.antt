-- The order of keys, and which key is nearer to a number.
use Rattle.std.proofs.Common.{◌≡◌, ℕ, ◌<◌, ◌≤◌, ◌⊎◌, true, false, refl, inl, inr, arith}
use Rattle.std.specs.Ordering.{is_lt, is_gt, nat_cmp}
use Rattle.std.specs.declared.cmp.Ordering.TheVariants.{Less, Equal, Greater}
use Rattle.std.proofs.lemmas.Bool.{cases_lt, cases_eq, lt-ltb, le-ltb, eq-eqb, ne_eqb}
use Rattle.ov_lyre.specs.declared.peeling.Key.{Key}
use Rattle.ov_lyre.specs.Peeling.{key_cmp, IsNearest}

module _ (a b : ℕ) where
  pub less : a < b → nat_cmp a b ≡ Less
  less lt = rw (lt-ltb a b lt) refl

  pub same : a ≡ b → nat_cmp a b ≡ Equal
  same is = rw (le-ltb a b (omega arith), eq-eqb a b is) refl

  pub more : b < a → nat_cmp a b ≡ Greater
  more lt = rw (le-ltb a b (omega arith), ne_eqb a b (λ e. absurd (omega arith))) refl

-- a key comes before another one, or is it
abbrev pub IsUpTo : Key → Key → Type 0
IsUpTo a b = (a.balance < b.balance) ⊎ ((a.balance ≡ b.balance) × (a.vid ≤ b.vid))

module _ (a b : Key) where
  pub up-to : is_gt (key_cmp a b) ≡ false → IsUpTo a b
  up-to said =
      elim (cases_lt a.balance b.balance) [
        | inl lt ↦ inl lt
        | inr le ↦ elim (cases_eq a.balance b.balance) [
          | inl is ↦ elim (cases_lt b.vid a.vid) [
            | inl after ↦ let h = rw (same a.balance b.balance is, more a.vid b.vid after) at said in cc
            | inr up ↦ inr (is, up)
          ]
          | inr other ↦ let h = rw (more a.balance b.balance (omega arith)) at said in cc
        ]
      ]

  pub is-up-to : IsUpTo a b → is_gt (key_cmp a b) ≡ false
  is-up-to (inl lt) = rw (less a.balance b.balance lt) refl
  is-up-to (inr (is, le)) =
      elim (cases_eq a.vid b.vid) [
        | inl tie ↦ rw (same a.balance b.balance is, same a.vid b.vid tie) refl
        | inr other ↦ rw (same a.balance b.balance is, less a.vid b.vid (omega arith)) refl
      ]

  pub before : is_lt (key_cmp a b) ≡ true → (a.balance < b.balance) ⊎ ((a.balance ≡ b.balance) × (a.vid < b.vid))
  before said =
      elim (cases_lt a.balance b.balance) [
        | inl lt ↦ inl lt
        | inr le ↦ elim (cases_eq a.balance b.balance) [
          | inl is ↦ elim (cases_lt a.vid b.vid) [
            | inl up ↦ inr (is, up)
            | inr after ↦ elim (cases_eq a.vid b.vid) [
              | inl tie ↦ let h = rw (same a.balance b.balance is, same a.vid b.vid tie) at said in cc
              | inr apart ↦ let h = rw (same a.balance b.balance is, more a.vid b.vid (omega arith)) at said in cc
            ]
          ]
          | inr other ↦ let h = rw (more a.balance b.balance (omega arith)) at said in cc
        ]
      ]

  pub is-before : a.balance < b.balance → is_lt (key_cmp a b) ≡ true
  is-before lt = rw (less a.balance b.balance lt) refl

pub nearest-through : (r : ℕ) (a b c : Key) → IsNearest r a b → IsNearest r b c → IsNearest r a c
nearest-through r a b c near far =
    let x = near.apart in
    let y = far.apart in
    record {
      apart = omega arith;
      vids = λ tie.
          let v = near.vids (omega arith) in
          let w = far.vids (omega arith) in
          omega arith;
    }
