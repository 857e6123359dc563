-- What is read is spelled so, and what is spelled so is read: for each field, and for fields one after the other.
use Rattle.std.proofs.Common.{◌≡◌, ℕ, zero, suc, ◌+◌, ◌^◌, ◌<◌, ◌≤◌, Bool, true, false, cond, ltb, List, [], ◌∷◌, ◌++◌, length, get_or, take, drop, Option, Some, None, refl, sym, ap, subst, ◌∙◌, append_assoc, arith, inl, inr}
use Rattle.std.specs.List.{flat_map, AllByRecursion}
use Rattle.std.specs.Str.{is_utf8}
use Rattle.std.specs.Int.{Width, w16, w32, byte_len, from_be_bytes, to_be_bytes}
use Rattle.std.proofs.lemmas.Bool.{cases_lt, ltb-false, le-ltb}
use Rattle.std.proofs.lemmas.List.{take_at, drop_at, take-append-drop, length-append, length-take, get_or-drop, get_or-take, get_or_past}
use Rattle.std.proofs.lemmas.List.Concat.{flat_map-cons}
use Rattle.std.proofs.lemmas.Nat.{be_bytes_2, be_bytes_4, from_be_bytes-to_be_bytes_2, from_be_bytes-to_be_bytes_4}
use Rattle.std.proofs.lemmas.Str.{IsUtf8-from_is_utf8, is_utf8-from_IsUtf8}
use Rattle.ov_event.specs.Fields.{u8, u16, u32, text, counted, IsU8, IsU32, IsText, AreFew}
use Rattle.ov_event.specs.Reading.{Reading, ◌>>=◌, u8_at, number_at, u16_at, u32_at, front_at, text_at, end_at, ◌then◌, made_at, items_at, counted_at}

abbrev pub IsBytes : List ℕ → Type 0
IsBytes bytes = (i : ℕ) → get_or bytes i 0 < 256

IsBytes-drop : (n : ℕ) (bytes : List ℕ) → IsBytes bytes → IsBytes (drop n bytes)
IsBytes-drop n bytes h i = rw get_or-drop (h (n + i))

IsBytes-take : (n : ℕ) (bytes : List ℕ) → IsBytes bytes → IsBytes (take n bytes)
IsBytes-take n bytes h i =
    elim (cases_lt i n) [
      | inl lt ↦ rw (get_or-take n bytes i 0 lt) (h i)
      | inr le ↦ rw (get_or_past (take n bytes) i 0 (omega (arith, length-take n bytes))) (omega arith)
    ]

pub IsBytes-rest : (b : ℕ) (bytes : List ℕ) → IsBytes (b ∷ bytes) → IsBytes bytes
IsBytes-rest b bytes h i = let e : get_or (b ∷ bytes) (i + 1) 0 ≡ get_or bytes i 0 = grind (arith) in rw (← e) (h (i + 1))

-- the value of a step that did not fail
pub bind_some : {A B : Type 0} (r : Option A) (f : A → Option B) (y : B) → (r >>= f) ≡ Some y → (x : A) × (r ≡ Some x) × (f x ≡ Some y)
bind_some (Some x) f y e = (x, refl, e)
bind_some None f y e = absurd cc

-- a test that did not fail
guard_some : {A : Type 0} (b : Bool) (x y : A) → cond b None (Some x) ≡ Some y → (b ≡ false) × (x ≡ y)
guard_some true x y e = absurd cc
guard_some false x y e = (refl, cc)

guard_kept : {A : Type 0} (b : Bool) (x y : A) → cond b (Some x) None ≡ Some y → (b ≡ true) × (x ≡ y)
guard_kept true x y e = (refl, cc)
guard_kept false x y e = absurd cc

-- a value was read from the front: it has a spelling, which stands there before the rest
pub record Takes {A : Type 0} (spelled : A → List ℕ) (IsGood : A → Type 0) (bytes : List ℕ) (x : A × List ℕ) : Type 0 where
  pub parts : bytes ≡ spelled x.0 ++ x.1
  pub good : IsGood x.0
  pub rest_fits : IsBytes x.1

-- What is read is spelled so. What is spelled so is read, whatever follows.
pub record IsFormat {A : Type 0} (at : Reading A) (spelled : A → List ℕ) (IsGood : A → Type 0) : Type 0 where
  pub takes : (bytes : List ℕ) (x : A × List ℕ) → IsBytes bytes → at bytes ≡ Some x → Takes spelled IsGood bytes x
  pub again : (a : A) (rest : List ℕ) → IsGood a → at (spelled a ++ rest) ≡ Some (a, rest)

abbrev pub some_value : {A : Type 0} → A → Option A
some_value x = Some x

pub some_is : {A : Type 0} (x y : A) → some_value x ≡ Some y → x ≡ y
some_is x y e = cc

-- ---- numbers

u8_takes : (bytes : List ℕ) (x : ℕ × List ℕ) → IsBytes bytes → u8_at bytes ≡ Some x → Takes u8 IsU8 bytes x
u8_takes [] x fits e = absurd cc
u8_takes (b ∷ bytes) x fits e =
    let is : (b, bytes) ≡ x = cc in
    subst (Takes u8 IsU8 (b ∷ bytes)) is (record { parts = refl; good = fits 0; rest_fits = IsBytes-rest b bytes fits })

pub u8_format : IsFormat u8_at u8 IsU8
u8_format = record { takes = u8_takes; again = λ a rest h. refl }

record IsWide (w : Width) (limit : ℕ) : Type 0 where
  len : (n : ℕ) → length (to_be_bytes w n) ≡ byte_len w
  back : (bytes : List ℕ) → length bytes ≡ byte_len w → IsBytes bytes → to_be_bytes w (from_be_bytes w bytes) ≡ bytes
  again : (n : ℕ) → n < limit → from_be_bytes w (to_be_bytes w n) ≡ n
  below : (bytes : List ℕ) → IsBytes bytes → from_be_bytes w bytes < limit

wide16 : IsWide w16 (2 ^ 16)
wide16 = record {
  len = λ n. refl;
  back = λ bytes len fits. be_bytes_2 bytes _ len fits refl;
  again = λ n lt. from_be_bytes-to_be_bytes_2 n lt;
  below = λ bytes fits. omega (arith, fits 0, fits 1);
}

wide32 : IsWide w32 (2 ^ 32)
wide32 = record {
  len = λ n. refl;
  back = λ bytes len fits. be_bytes_4 bytes _ len fits refl;
  again = λ n lt. from_be_bytes-to_be_bytes_4 n lt;
  below = λ bytes fits. omega (arith, fits 0, fits 1, fits 2, fits 3);
}

number_takes : (w : Width) (limit : ℕ) (wide : IsWide w limit) (bytes : List ℕ) (x : ℕ × List ℕ) → IsBytes bytes → number_at w bytes ≡ Some x → Takes (to_be_bytes w) (λ n. n < limit) bytes x
number_takes w limit wide bytes x fits e =
    let g = guard_some (ltb (length bytes) (byte_len w)) (from_be_bytes w (take (byte_len w) bytes), drop (byte_len w) bytes) x e in
    let long : byte_len w ≤ length bytes = ltb-false _ _ g.0 in
    let front : to_be_bytes w (from_be_bytes w (take (byte_len w) bytes)) ≡ take (byte_len w) bytes = wide.back (take (byte_len w) bytes) (omega (arith, length-take (byte_len w) bytes)) (IsBytes-take (byte_len w) bytes fits) in
    subst (Takes (to_be_bytes w) (λ n. n < limit) bytes) g.1 (record {
      parts = rw front (sym (take-append-drop (byte_len w) bytes));
      good = wide.below (take (byte_len w) bytes) (IsBytes-take (byte_len w) bytes fits);
      rest_fits = IsBytes-drop (byte_len w) bytes fits;
    })

number_again : (w : Width) (limit : ℕ) (wide : IsWide w limit) (n : ℕ) (rest : List ℕ) → n < limit → number_at w (to_be_bytes w n ++ rest) ≡ Some (n, rest)
number_again w limit wide n rest lt =
    let len = wide.len n in
    let long : ltb (length (to_be_bytes w n ++ rest)) (byte_len w) ≡ false = le-ltb _ _ (omega (arith, length-append (to_be_bytes w n) rest)) in
    rw (long, take_at (to_be_bytes w n) rest (byte_len w) len, drop_at (to_be_bytes w n) rest (byte_len w) len, wide.again n lt) refl

pub u16_format : IsFormat u16_at u16 (λ n. n < 2 ^ 16)
unfolding u16_at u16
u16_format = record { takes = number_takes w16 (2 ^ 16) wide16; again = number_again w16 (2 ^ 16) wide16 }

pub u32_format : IsFormat u32_at u32 IsU32
unfolding u32_at u32
u32_format = record { takes = number_takes w32 (2 ^ 32) wide32; again = number_again w32 (2 ^ 32) wide32 }

-- ---- texts

front_takes : (n : ℕ) (bytes : List ℕ) (x : List ℕ × List ℕ) → IsBytes bytes → front_at n bytes ≡ Some x → (bytes ≡ x.0 ++ x.1) × (length x.0 ≡ n) × IsBytes x.1
front_takes n bytes x fits e =
    let g = guard_some (ltb (length bytes) n) (take n bytes, drop n bytes) x e in
    let long : n ≤ length bytes = ltb-false _ _ g.0 in
    subst (λ (y : List ℕ × List ℕ). (bytes ≡ y.0 ++ y.1) × (length y.0 ≡ n) × IsBytes y.1) g.1 (sym (take-append-drop n bytes), omega (arith, length-take n bytes), IsBytes-drop n bytes fits)

front_again : (t rest : List ℕ) → front_at (length t) (t ++ rest) ≡ Some (t, rest)
front_again t rest =
    let long : ltb (length (t ++ rest)) (length t) ≡ false = le-ltb _ _ (omega (arith, length-append t rest)) in
    rw (long, take_at t rest (length t) refl, drop_at t rest (length t) refl) refl

text_takes : (bytes : List ℕ) (x : List ℕ × List ℕ) → IsBytes bytes → text_at bytes ≡ Some x → Takes text IsText bytes x
unfolding text_at text
text_takes bytes x fits e =
    let a = bind_some (u32_at bytes) (λ n. front_at n.0 n.1 >>= λ t. cond (is_utf8 t.0) (Some (t.0, t.1)) None) x e in
    let b = bind_some (front_at a.0.0 a.0.1) (λ t. cond (is_utf8 t.0) (Some (t.0, t.1)) None) x a.2 in
    let g = guard_kept (is_utf8 b.0.0) (b.0.0, b.0.1) x b.2 in
    let len = u32_format.takes bytes a.0 fits a.1 in
    let front = front_takes a.0.0 a.0.1 b.0 len.rest_fits b.1 in
    let parts : bytes ≡ (u32 (length b.0.0) ++ b.0.0) ++ b.0.1 = rw front.1 (len.parts ∙ ap (λ (r : List ℕ). u32 a.0.0 ++ r) front.0 ∙ sym (append_assoc (u32 a.0.0) b.0.0 b.0.1)) in
    subst (Takes text IsText bytes) g.1 (record { parts = parts; good = (IsUtf8-from_is_utf8 b.0.0 g.0, rw front.1 len.good); rest_fits = front.2 })

text_again : (t rest : List ℕ) → IsText t → text_at (text t ++ rest) ≡ Some (t, rest)
unfolding text_at text
text_again t rest h = rw (append_assoc (u32 (length t)) t rest, u32_format.again (length t) (t ++ rest) h.1, front_again t rest, is_utf8-from_IsUtf8 t h.0) refl

pub text_format : IsFormat text_at text IsText
text_format = record { takes = text_takes; again = text_again }

-- ---- fields one after the other

pub end_format : IsFormat end_at (λ _. []) (λ _. Unit {0})
end_format = record {
  takes = λ bytes x fits e. let is : (tt, bytes) ≡ x = cc in subst (Takes (λ _. []) (λ _. Unit {0}) bytes) is (record { parts = refl; good = tt; rest_fits = fits });
  again = λ a rest h. refl;
}

-- one field and those behind it
pub and_then : {A B : Type 0} {a : Reading A} {s : A → List ℕ} {P : A → Type 0} {b : Reading B} {t : B → List ℕ} {Q : B → Type 0}
    → IsFormat a s P → IsFormat b t Q → IsFormat (a then b) (λ p. s p.0 ++ t p.1) (λ p. P p.0 × Q p.1)
and_then {A} {B} {a} {s} {P} {b} {t} {Q} f g = record {
  takes = λ bytes x fits e.
      let c = bind_some (a bytes) (λ y. b y.1 >>= λ z. Some ((y.0, z.0), z.1)) x e in
      let d = bind_some (b c.0.1) (λ z. Some ((c.0.0, z.0), z.1)) x c.2 in
      let first = f.takes bytes c.0 fits c.1 in
      let second = g.takes c.0.1 d.0 first.rest_fits d.1 in
      let is : ((c.0.0, d.0.0), d.0.1) ≡ x = some_is ((c.0.0, d.0.0), d.0.1) x d.2 in
      subst (Takes (λ p. s p.0 ++ t p.1) (λ p. P p.0 × Q p.1) bytes) is (record {
        parts = first.parts ∙ ap (λ (r : List ℕ). s c.0.0 ++ r) second.parts ∙ sym (append_assoc (s c.0.0) (t d.0.0) d.0.1);
        good = (first.good, second.good);
        rest_fits = second.rest_fits;
      });
  again = λ p rest h.
      ap (a then b) (append_assoc (s p.0) (t p.1) rest) ∙ rw (f.again p.0 (t p.1 ++ rest) h.0, g.again p.1 rest h.1) refl;
}

-- what is made of fields, and gives them back
pub making : {A B : Type 0} {a : Reading A} {s : A → List ℕ} {P : A → Type 0} (make : A → B) (back : B → A) {Q : B → Type 0}
    → ((b : B) → make (back b) ≡ b) → ((x : A) → back (make x) ≡ x) → ((b : B) → P (back b) → Q b) → ((b : B) → Q b → P (back b))
    → IsFormat a s P → IsFormat (made_at make a) (λ b. s (back b)) Q
making {A} {B} {a} {s} {P} make back {Q} there here good bad f = record {
  takes = λ bytes x fits e.
      let c = bind_some (a bytes) (λ y. Some (make y.0, y.1)) x e in
      let first = f.takes bytes c.0 fits c.1 in
      let is : (make c.0.0, c.0.1) ≡ x = some_is (make c.0.0, c.0.1) x c.2 in
      let same : c.0.0 ≡ back (make c.0.0) = sym (here c.0.0) in
      subst (Takes (λ b. s (back b)) Q bytes) is (record {
        parts = first.parts ∙ ap (λ (y : A). s y ++ c.0.1) same;
        good = good (make c.0.0) (subst P same first.good);
        rest_fits = first.rest_fits;
      });
  again = λ b rest h. rw (f.again (back b) rest (bad b h), there b) refl;
}

-- ---- lists

record TakesItems {A : Type 0} (s : A → List ℕ) (P : A → Type 0) (n : ℕ) (bytes : List ℕ) (x : List A × List ℕ) : Type 0 where
  parts : bytes ≡ flat_map s x.0 ++ x.1
  len : length x.0 ≡ n
  good : AllByRecursion P x.0
  rest_fits : IsBytes x.1

items_take : {A : Type 0} {a : Reading A} {s : A → List ℕ} {P : A → Type 0} → IsFormat a s P → (n : ℕ) (bytes : List ℕ) (x : List A × List ℕ) → IsBytes bytes → items_at a n bytes ≡ Some x → TakesItems s P n bytes x
unfolding items_at
items_take {A} {a} {s} {P} f zero bytes x fits e =
    subst (TakesItems s P 0 bytes) (some_is ([], bytes) x e) (record { parts = refl; len = refl; good = tt; rest_fits = fits })
items_take {A} {a} {s} {P} f (suc n) bytes x fits e =
    let c = bind_some (a bytes) (λ first. items_at a n first.1 >>= λ others. Some (first.0 ∷ others.0, others.1)) x e in
    let d = bind_some (items_at a n c.0.1) (λ others. Some (c.0.0 ∷ others.0, others.1)) x c.2 in
    let first = f.takes bytes c.0 fits c.1 in
    let others = items_take f n c.0.1 d.0 first.rest_fits d.1 in
    subst (TakesItems s P (suc n) bytes) (some_is (c.0.0 ∷ d.0.0, d.0.1) x d.2) (record {
      parts = rw flat_map-cons (first.parts ∙ ap (λ (r : List ℕ). s c.0.0 ++ r) others.parts ∙ sym (append_assoc (s c.0.0) (flat_map s d.0.0) d.0.1));
      len = ap suc others.len;
      good = (first.good, others.good);
      rest_fits = others.rest_fits;
    })

items_again : {A : Type 0} {a : Reading A} {s : A → List ℕ} {P : A → Type 0} → IsFormat a s P → (xs : List A) (rest : List ℕ) → AllByRecursion P xs → items_at a (length xs) (flat_map s xs ++ rest) ≡ Some (xs, rest)
unfolding items_at
items_again f [] rest h = refl
items_again {A} {a} {s} {P} f (x ∷ xs) rest h =
    let regrouped : flat_map s (x ∷ xs) ++ rest ≡ s x ++ (flat_map s xs ++ rest) = ap (λ (y : List ℕ). y ++ rest) (flat_map-cons s x xs) ∙ append_assoc (s x) (flat_map s xs) rest in
    ap (items_at a (suc (length xs))) regrouped ∙ rw (f.again x (flat_map s xs ++ rest) h.0, items_again f xs rest h.1) refl

pub counting : {A : Type 0} {count : Reading ℕ} {number : ℕ → List ℕ} (bits : ℕ) {a : Reading A} {s : A → List ℕ} {P : A → Type 0}
    → IsFormat count number (λ n. n < 2 ^ bits) → IsFormat a s P → IsFormat (counted_at count a) (counted number s) (AreFew bits P)
unfolding counted_at counted
counting {A} {count} {number} bits {a} {s} {P} f g = record {
  takes = λ bytes x fits e.
      let c = bind_some (count bytes) (λ n. items_at a n.0 n.1) x e in
      let first = f.takes bytes c.0 fits c.1 in
      let items = items_take g c.0.0 c.0.1 x first.rest_fits c.2 in
      record {
        parts = rw items.len (first.parts ∙ ap (λ (r : List ℕ). number c.0.0 ++ r) items.parts ∙ sym (append_assoc (number c.0.0) (flat_map s x.0) x.1));
        good = (rw items.len first.good, items.good);
        rest_fits = items.rest_fits;
      };
  again = λ xs rest h.
      rw (append_assoc (number (length xs)) (flat_map s xs) rest, f.again (length xs) (flat_map s xs ++ rest) h.0) (items_again g xs rest h.1);
}
