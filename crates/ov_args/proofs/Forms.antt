-- `options_of` and the five forms: the one says what the others write out.
use Rattle.std.proofs.Common.{◌≡◌, ◌⊎◌, ℕ, ◌==◌, ◌&&◌, Bool, true, false, List, [], ◌∷◌, ◌++◌, Option, Some, None, codes, take, drop, length, cond, refl, sym, ◌∙◌, ap, ap₂, subst, inl, inr}
use Rattle.std.specs.Prelude.{nat_le}
use Rattle.std.specs.Option.{option_or}
use Rattle.std.specs.List.{list_all}
use Rattle.std.specs.Char.{is_ascii_digit}
use Rattle.std.specs.Str.{bytes_eq}
use Rattle.std.specs.Str.Parse.{digits_value}
use Rattle.std.proofs.lemmas.List.{take-append-drop}
use Rattle.std.proofs.lemmas.Bool.{eqb-true}
use Rattle.std.proofs.lemmas.Slice.Eq.{bytes_eq-Decides}
use Rattle.ov_args.specs.Words.{folder_of, number_of, joined_number, number_after, asked, options_of}
use Rattle.ov_args.specs.Forms.{HasForm, alone, then_number, after_number, then_joined, after_joined}

-- ---- from a form to `options_of`

pub options_of_form : (words : List (List ℕ)) (f : List ℕ) (n : ℕ) → HasForm words f n → options_of words ≡ Some (f, n)
options_of_form _ _ _ (alone f h) = rw h refl
options_of_form _ _ _ (then_number f d n h k) = rw (h, k) refl
options_of_form _ _ _ (after_number f d n h k) = rw (h, k) refl
options_of_form _ _ _ (then_joined f d n h k) = rw (h, k) refl
options_of_form _ _ _ (after_joined f d n h k) = rw (h, k) refl

-- ---- from `options_of` to a form

asked_is : (o : Option (List ℕ)) (s : Option ℕ) (f : List ℕ) (n : ℕ) → asked o s ≡ Some (f, n) → (o ≡ Some f) × (s ≡ Some n)
asked_is (Some g) (Some m) f n e =
    let pair : (g, m) ≡ (f, n) = cc in
    (ap (λ (p : List ℕ × ℕ). Some p.0) pair, ap (λ (p : List ℕ × ℕ). Some p.1) pair)
asked_is (Some g) None f n e = absurd cc
asked_is None s f n e = absurd cc

either : (o p : Option (List ℕ × ℕ)) (x : List ℕ × ℕ) → option_or o p ≡ Some x → (o ≡ Some x) ⊎ (p ≡ Some x)
either (Some y) p x e = inl e
either None p x e = inr e

folder_is : (a f : List ℕ) → folder_of a ≡ Some f → a ≡ f
folder_is [] f e = absurd cc
folder_is (b ∷ bs) f e = by (b == 45) e
  where
    by : (t : Bool) → cond t None (Some (b ∷ bs)) ≡ Some f → b ∷ bs ≡ f
    by true e = absurd cc
    by false e = cc

-- where the test fails there is nothing
passes : (t : Bool) (o : Option ℕ) (n : ℕ) → cond t o None ≡ Some n → (t ≡ true) × (o ≡ Some n)
passes true o n e = (refl, e)
passes false o n e = absurd cc

joined_is : (b : List ℕ) (n : ℕ) → joined_number b ≡ Some n → (b ≡ codes "--steps=" ++ drop 8 b) × (number_of (drop 8 b) ≡ Some n)
joined_is b n e =
    let p = passes (bytes_eq (take 8 b) (codes "--steps=")) (number_of (drop 8 b)) n e in
    (sym (take-append-drop 8 b) ∙ ap (λ front. front ++ drop 8 b) ((bytes_eq-Decides (take 8 b) (codes "--steps=")).0 p.0), p.1)

after_is : (a b : List ℕ) (n : ℕ) → number_after a b ≡ Some n → (a ≡ codes "--steps") × (number_of b ≡ Some n)
after_is a b n e =
    let p = passes (bytes_eq a (codes "--steps")) (number_of b) n e in
    ((bytes_eq-Decides a (codes "--steps")).0 p.0, p.1)

-- a folder is named as it stands
named : (a f : List ℕ) → folder_of a ≡ Some f → folder_of f ≡ Some f
named a f e = subst (λ w. folder_of w ≡ Some f) (folder_is a f e) e

module _ (a : List ℕ) (f : List ℕ) (n : ℕ) where
  alone_is : asked (folder_of a) (Some 0) ≡ Some (f, n) → HasForm (a ∷ []) f n
  alone_is e =
      let p = asked_is (folder_of a) (Some 0) f n e in
      let none : 0 ≡ n = cc p.1 in
      subst (λ m. HasForm (a ∷ []) f m) none (subst (λ w. HasForm (w ∷ []) f 0) (sym (folder_is a f p.0)) (alone f (named a f p.0)))

  then_joined_is : (b : List ℕ) → asked (folder_of a) (joined_number b) ≡ Some (f, n) → HasForm (a ∷ b ∷ []) f n
  then_joined_is b e =
      let p = asked_is (folder_of a) (joined_number b) f n e in
      let q = joined_is b n p.1 in
      subst (λ words. HasForm words f n) (sym (ap₂ (λ v w. v ∷ w ∷ []) (folder_is a f p.0) q.0)) (then_joined f (drop 8 b) n (named a f p.0) q.1)

  after_joined_is : (b : List ℕ) → asked (folder_of a) (joined_number b) ≡ Some (f, n) → HasForm (b ∷ a ∷ []) f n
  after_joined_is b e =
      let p = asked_is (folder_of a) (joined_number b) f n e in
      let q = joined_is b n p.1 in
      subst (λ words. HasForm words f n) (sym (ap₂ (λ v w. w ∷ v ∷ []) (folder_is a f p.0) q.0)) (after_joined f (drop 8 b) n (named a f p.0) q.1)

  then_number_is : (b c : List ℕ) → asked (folder_of a) (number_after b c) ≡ Some (f, n) → HasForm (a ∷ b ∷ c ∷ []) f n
  then_number_is b c e =
      let p = asked_is (folder_of a) (number_after b c) f n e in
      let q = after_is b c n p.1 in
      subst (λ words. HasForm words f n) (sym (ap₂ (λ v w. v ∷ w ∷ c ∷ []) (folder_is a f p.0) q.0)) (then_number f c n (named a f p.0) q.1)

  after_number_is : (b c : List ℕ) → asked (folder_of a) (number_after b c) ≡ Some (f, n) → HasForm (b ∷ c ∷ a ∷ []) f n
  after_number_is b c e =
      let p = asked_is (folder_of a) (number_after b c) f n e in
      let q = after_is b c n p.1 in
      subst (λ words. HasForm words f n) (sym (ap₂ (λ v w. w ∷ c ∷ v ∷ []) (folder_is a f p.0) q.0)) (after_number f c n (named a f p.0) q.1)

pub form_of_options : (words : List (List ℕ)) (f : List ℕ) (n : ℕ) → options_of words ≡ Some (f, n) → HasForm words f n
form_of_options [] f n e = absurd cc
form_of_options (a ∷ []) f n e = alone_is a f n e
form_of_options (a ∷ b ∷ []) f n e = elim (either (asked (folder_of a) (joined_number b)) (asked (folder_of b) (joined_number a)) (f, n) e) [
  | inl h ↦ then_joined_is a f n b h
  | inr h ↦ after_joined_is b f n a h
]
form_of_options (a ∷ b ∷ c ∷ []) f n e = elim (either (asked (folder_of a) (number_after b c)) (asked (folder_of c) (number_after a b)) (f, n) e) [
  | inl h ↦ then_number_is a f n b c h
  | inr h ↦ after_number_is c f n a b h
]
form_of_options (a ∷ b ∷ c ∷ d ∷ rest) f n e = absurd cc

-- ---- how folders and numbers begin

pub no_hyphen : (x : ℕ) (xs f : List ℕ) → folder_of (x ∷ xs) ≡ Some f → (x == 45) ≡ false
no_hyphen x xs f e = by (x == 45) e
  where
    by : (t : Bool) → cond t None (Some (x ∷ xs)) ≡ Some f → t ≡ false
    by true e = absurd cc
    by false e = refl

and_parts : (a b : Bool) → (a && b) ≡ true → (a ≡ true) × (b ≡ true)
and_parts true b e = (refl, e)
and_parts false b e = absurd cc

digits_alone : (word : List ℕ) (n : ℕ) → number_of word ≡ Some n → list_all is_ascii_digit word ≡ true
digits_alone word n e =
    let p = passes (nat_le 1 (length word) && (nat_le (length word) 4 && (list_all is_ascii_digit word && nat_le (digits_value 10 word) 1000))) (Some (digits_value 10 word)) n e in
    let q = and_parts (nat_le 1 (length word)) _ p.0 in
    let r = and_parts (nat_le (length word) 4) _ q.1 in
    (and_parts (list_all is_ascii_digit word) _ r.1).0

-- a number begins with a digit
pub digit_first : (y : ℕ) (ys : List ℕ) (n : ℕ) → number_of (y ∷ ys) ≡ Some n → (y == 45) ≡ false
digit_first y ys n e = by (y == 45) refl
  where
    digit : is_ascii_digit y ≡ true
    digit = (and_parts (is_ascii_digit y) (list_all is_ascii_digit ys) (digits_alone (y ∷ ys) n e)).0

    by : (t : Bool) → (y == 45) ≡ t → t ≡ false
    by false h = refl
    by true h =
        let bad : is_ascii_digit 45 ≡ true = subst (λ b. is_ascii_digit b ≡ true) (eqb-true y 45 h) digit in
        absurd cc
