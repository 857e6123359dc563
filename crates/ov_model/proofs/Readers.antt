-- Reading and the grammar: what is read is spelled so, and what is spelled so is read, whatever may follow it.
use Rattle.std.proofs.Common.{◌≡◌, ◌⊎◌, inl, inr, ℕ, zero, suc, ◌≤◌, Bool, true, false, cond, List, [], ◌∷◌, ◌++◌, length, Option, Some, None, refl, sym, ap, subst, ◌∙◌, append_assoc, arith}
use Rattle.std.proofs.lemmas.List.{append-nil, length-append}
use Rattle.ov_model.specs.declared.query.Fixed.{Fixed}
use Rattle.ov_model.specs.declared.query.Symbol.{Symbol}
use Rattle.ov_model.specs.declared.query.Symbol.TheVariants.{Fixed as fixed}
use Rattle.ov_model.specs.Grammar.{Joined}
use Rattle.ov_model.specs.Reading.{◌>>=◌, Reading, or_else, eaten, more_at, list_at}
use Rattle.ov_model.proofs.Eaten.{eaten-some, eaten-there}

-- the value of a step that did not fail
pub bind_some : {A B : Type 0} (r : Option A) (g : A → Option B) (y : B) → (r >>= g) ≡ Some y → (x : A) × (r ≡ Some x) × (g x ≡ Some y)
bind_some (Some x) g y e = (x, refl, e)
bind_some None g y e = absurd cc

-- which way a choice went
pub chosen : {A B : Type 0} (o : Option A) (g : A → Option B) (other : Option B) (y : B) → or_else o g other ≡ Some y → ((x : A) × (o ≡ Some x) × (g x ≡ Some y)) ⊎ ((o ≡ None) × (other ≡ Some y))
chosen (Some x) g other y e = inl (x, refl, e)
chosen None g other y e = inr (refl, e)

pub guard_kept : {A : Type 0} (b : Bool) (x y : A) → cond b (Some x) None ≡ Some y → (b ≡ true) × (x ≡ y)
guard_kept true x y e = (refl, cc)
guard_kept false x y e = absurd cc

-- a part was read from the front: it is spelled there, before the rest
pub record Took {A : Type 0} (R : List Symbol → A → Type 0) (symbols : List Symbol) (x : A × List Symbol) : Type 0 where
  pub used : List Symbol
  pub parts : symbols ≡ used ++ x.1
  pub spelled : R used x.0

-- none of the words stands next
abbrev pub Avoids : List Fixed → List Symbol → Type 0
Avoids [] rest = Unit {0}
Avoids (word ∷ words) rest = (eaten word rest ≡ None) × Avoids words rest

-- What is read is spelled so. What is spelled so is read, whatever follows but for some words.
pub record IsReader {A : Type 0} (words : List Fixed) (R : List Symbol → A → Type 0) (at : Reading A) : Type 0 where
  pub takes : (symbols : List Symbol) (x : A × List Symbol) → at symbols ≡ Some x → Took R symbols x
  pub again : (used rest : List Symbol) (a : A) → R used a → Avoids words rest → at (used ++ rest) ≡ Some (a, rest)

-- ---- lists

-- items behind a separator each
abbrev pub Tail : {A : Type 0} → Fixed → (List Symbol → A → Type 0) → List Symbol → List A → Type 0
Tail between R symbols [] = symbols ≡ []
Tail between R symbols (x ∷ xs) = (first : List Symbol) × (others : List Symbol) × (symbols ≡ fixed between ∷ (first ++ others)) × R first x × Tail between R others xs

tail-joined : {A : Type 0} (between : Fixed) (R : List Symbol → A → Type 0) (first others : List Symbol) (x : A) (xs : List A) → R first x → Tail between R others xs → Joined between R (first ++ others) (x ∷ xs)
tail-joined between R first others x [] h t = subst (λ (ss : List Symbol). R ss x) (sym (rw t (append-nil first))) h
tail-joined between R first others x (y ∷ ys) h t = (first, t.0 ++ t.1, ap (λ (ss : List Symbol). first ++ ss) t.2, h, tail-joined between R t.0 t.1 y ys t.3 t.4)

pub record HasTail {A : Type 0} (between : Fixed) (R : List Symbol → A → Type 0) (symbols : List Symbol) (x : A) (xs : List A) : Type 0 where
  pub first : List Symbol
  pub others : List Symbol
  pub symbols_are : symbols ≡ first ++ others
  pub first_is : R first x
  pub tail_is : Tail between R others xs

pub joined-tail : {A : Type 0} (between : Fixed) (R : List Symbol → A → Type 0) (symbols : List Symbol) (x : A) (xs : List A) → Joined between R symbols (x ∷ xs) → HasTail between R symbols x xs
joined-tail between R symbols x [] j = record { first = symbols; others = []; symbols_are = sym (append-nil symbols); first_is = j; tail_is = refl }
joined-tail between R symbols x (y ∷ ys) j =
    let t = joined-tail between R j.1 y ys j.4 in
    record { first = j.0; others = fixed between ∷ j.1; symbols_are = j.2; first_is = j.3; tail_is = (t.first, t.others, ap (λ (ss : List Symbol). fixed between ∷ ss) t.symbols_are, t.first_is, t.tail_is) }

-- an item may be followed by a separator
abbrev pub MayFollow : Fixed → List Fixed → Type 0
MayFollow between words = (others : List Symbol) → Avoids words (fixed between ∷ others)

module _ {A : Type 0} (between : Fixed) (words : List Fixed) (R : List Symbol → A → Type 0) (at : Reading A) (item : IsReader words R at) (follows : MayFollow between words) where
  more-takes : (n : ℕ) (symbols : List Symbol) (x : List A × List Symbol) → more_at between at n symbols ≡ Some x → Took (Tail between R) symbols x
  unfolding more_at
  more-takes zero symbols x e = let same : ([], symbols) ≡ x = cc in subst (λ (y : List A × List Symbol). Took (Tail between R) symbols y) same (record { used = []; parts = refl; spelled = refl })
  more-takes (suc n) symbols x e = elim (chosen (eaten between symbols) _ _ x e) [
    | inl go ↦
        let i = bind_some (at go.0) _ x go.2 in
        let m = bind_some (more_at between at n i.0.1) _ x i.2 in
        let took = item.takes go.0 i.0 i.1 in
        let rest = more-takes n i.0.1 m.0 m.1 in
        let same : (i.0.0 ∷ m.0.0, m.0.1) ≡ x = cc (m.2) in
        subst (λ (y : List A × List Symbol). Took (Tail between R) symbols y) same (record {
          used = fixed between ∷ (took.used ++ rest.used);
          parts = eaten-some between symbols go.0 go.1 ∙ ap (λ (ss : List Symbol). fixed between ∷ ss) (took.parts ∙ (ap (λ (ss : List Symbol). took.used ++ ss) rest.parts ∙ sym (append_assoc took.used rest.used m.0.1)));
          spelled = (took.used, rest.used, refl, took.spelled, rest.spelled);
        })
    | inr stop ↦ let same : ([], symbols) ≡ x = cc (stop.1) in subst (λ (y : List A × List Symbol). Took (Tail between R) symbols y) same (record { used = []; parts = refl; spelled = refl })
  ]

  tail-follows : (others rest : List Symbol) (xs : List A) → Tail between R others xs → Avoids words rest → Avoids words (others ++ rest)
  tail-follows others rest [] t h = rw t h
  tail-follows others rest (x ∷ xs) t h = rw t.2 (follows ((t.0 ++ t.1) ++ rest))

  more-again : (n : ℕ) (used rest : List Symbol) (xs : List A) → Tail between R used xs → length used ≤ n → eaten between rest ≡ None → Avoids words rest → more_at between at n (used ++ rest) ≡ Some (xs, rest)
  unfolding more_at
  more-again zero used rest [] t le e h = rw t refl
  more-again zero used rest (x ∷ xs) t le e h = absurd (omega (arith, ap length t.2))
  more-again (suc n) used rest [] t le e h = rw (t, e) refl
  more-again (suc n) used rest (x ∷ xs) t le e h =
      let one : at ((t.0 ++ t.1) ++ rest) ≡ Some (x, t.1 ++ rest) = rw append_assoc (item.again t.0 (t.1 ++ rest) x t.3 (tail-follows t.1 rest xs t.4 h)) in
      let short : length t.1 ≤ n = omega (arith, ap length t.2, length-append t.0 t.1) in
      rw (t.2, eaten-there between ((t.0 ++ t.1) ++ rest), one, more-again n t.1 rest xs t.4 short e h) refl

  list-takes : (symbols : List Symbol) (x : List A × List Symbol) → list_at between at symbols ≡ Some x → Took (Joined between R) symbols x
  unfolding list_at
  list-takes symbols x e =
      let i = bind_some (at symbols) _ x e in
      let m = bind_some (more_at between at (length i.0.1) i.0.1) _ x i.2 in
      let took = item.takes symbols i.0 i.1 in
      let rest = more-takes (length i.0.1) i.0.1 m.0 m.1 in
      let same : (i.0.0 ∷ m.0.0, m.0.1) ≡ x = cc (m.2) in
      subst (λ (y : List A × List Symbol). Took (Joined between R) symbols y) same (record {
        used = took.used ++ rest.used;
        parts = took.parts ∙ (ap (λ (ss : List Symbol). took.used ++ ss) rest.parts ∙ sym (append_assoc took.used rest.used m.0.1));
        spelled = tail-joined between R took.used rest.used i.0.0 m.0.0 took.spelled rest.spelled;
      })

  list-again : (used rest : List Symbol) (xs : List A) → Joined between R used xs → Avoids (between ∷ words) rest → list_at between at (used ++ rest) ≡ Some (xs, rest)
  unfolding list_at
  list-again used rest [] j h = absurd j
  list-again used rest (x ∷ xs) j h =
      let t = joined-tail between R used x xs j in
      let one : at (used ++ rest) ≡ Some (x, t.others ++ rest) = ap at (ap (λ (ss : List Symbol). ss ++ rest) t.symbols_are ∙ append_assoc t.first t.others rest) ∙ item.again t.first (t.others ++ rest) x t.first_is (tail-follows t.others rest xs t.tail_is h.1) in
      let more = more-again (length (t.others ++ rest)) t.others rest xs t.tail_is (omega (arith, length-append t.others rest)) h.0 h.1 in
      rw (one, more) refl

  pub list_reader : IsReader (between ∷ words) (Joined between R) (list_at between at)
  list_reader = record { takes = list-takes; again = list-again }
