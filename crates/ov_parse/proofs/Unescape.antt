-- Taking the quotes of a text in twos.
use Rattle.std.proofs.Common.{◌≡◌, inl, inr, ℕ, ◌+◌, ◌<◌, ◌≤◌, true, ◌==◌, List, [], ◌∷◌, ◌++◌, length, take, drop, get_or, refl, sym, ap, subst, ◌∙◌, append_assoc, arith}
use Rattle.std.specs.List.{flat_map}
use Rattle.std.specs.Str.{IsUtf8, IsCharBoundary}
use Rattle.std.proofs.lemmas.Bool.{cases_Bool, eqb-true}
use Rattle.std.proofs.lemmas.List.{append-nil, drop_more, drop_all, take_all, take_more}
use Rattle.std.proofs.lemmas.Str.{IsCharBoundary-after_ascii, IsUtf8-drop}
use Rattle.ov_lex.specs.Spellings.{escaped}

-- a text's spelling of which a part was read: what is left spells the rest of the text
pub record Left (inner text rest : List ℕ) (at : ℕ) : Type 0 where
  pub whole : List ℕ
  pub others : List ℕ
  pub inner_is : inner ≡ flat_map escaped whole
  pub within : at ≤ length rest
  pub behind : drop at rest ≡ flat_map escaped others
  pub whole_is : whole ≡ (text ++ take at rest) ++ others

pub left_none : (inner whole text : List ℕ) → inner ≡ flat_map escaped whole → text ≡ [] → Left inner text inner 0
left_none inner whole text h e = record { whole = whole; others = whole; inner_is = h; within = omega arith; behind = h; whole_is = rw e refl }

-- the next byte is no quote
record Plain (b : ℕ) (bytes others : List ℕ) : Type 0 where
  more : List ℕ
  others_are : others ≡ b ∷ more
  bytes_are : bytes ≡ flat_map escaped more

plain : (b : ℕ) (bytes others : List ℕ) → (b ≡ 39 → ⊥) → b ∷ bytes ≡ flat_map escaped others → Plain b bytes others
plain b bytes [] other e = absurd cc
plain b bytes (o ∷ os) other e = elim (cases_Bool (o == 39)) [
  | inl t ↦ let same : b ∷ bytes ≡ 39 ∷ 39 ∷ flat_map escaped os = rw t at e in let first : b ≡ 39 = cc in absurd (other first)
  | inr t ↦ let same : b ∷ bytes ≡ o ∷ flat_map escaped os = rw t at e in let first : o ≡ b = cc in let more : bytes ≡ flat_map escaped os = cc in
      record { more = os; others_are = ap (λ (x : ℕ). x ∷ os) first; bytes_are = more }
]

pub left_more : (inner text rest : List ℕ) (at : ℕ) → Left inner text rest at → at < length rest → (get_or rest at 0 ≡ 39 → ⊥) → Left inner text rest (at + 1)
left_more inner text rest at h lt other =
    let p = plain (get_or rest at 0) (drop (at + 1) rest) h.others other (sym (drop_more rest at 0 lt) ∙ h.behind) in
    let read : (text ++ take (at + 1) rest) ++ p.more ≡ (text ++ take at rest) ++ get_or rest at 0 ∷ p.more = rw (take_more rest at 0 lt) (simp append_assoc) in
    record { whole = h.whole; others = p.more; inner_is = h.inner_is; within = omega arith; behind = p.bytes_are; whole_is = h.whole_is ∙ (ap (λ (ss : List ℕ). (text ++ take at rest) ++ ss) p.others_are ∙ sym read) }

-- the next two bytes are quotes
pub record Pair (bytes others : List ℕ) : Type 0 where
  pub more : List ℕ
  pub others_are : others ≡ 39 ∷ more
  pub bytes_are : bytes ≡ 39 ∷ flat_map escaped more

pair : (b : ℕ) (bytes others : List ℕ) → b ≡ 39 → b ∷ bytes ≡ flat_map escaped others → Pair bytes others
pair b bytes [] quote e = absurd cc
pair b bytes (o ∷ os) quote e = elim (cases_Bool (o == 39)) [
  | inl t ↦ let same : b ∷ bytes ≡ 39 ∷ 39 ∷ flat_map escaped os = rw t at e in let more : bytes ≡ 39 ∷ flat_map escaped os = cc in
      record { more = os; others_are = ap (λ (x : ℕ). x ∷ os) (eqb-true o 39 t); bytes_are = more }
  | inr t ↦ let same : b ∷ bytes ≡ o ∷ flat_map escaped os = rw t at e in let first : o ≡ 39 = cc in let is : (o == 39) ≡ true = rw first refl in absurd cc
]

pub pair_at : (inner text rest : List ℕ) (at : ℕ) (h : Left inner text rest at) → at < length rest → get_or rest at 0 ≡ 39 → Pair (drop (at + 1) rest) h.others
pair_at inner text rest at h lt quote = pair (get_or rest at 0) (drop (at + 1) rest) h.others quote (sym (drop_more rest at 0 lt) ∙ h.behind)

pub left_pair : (inner text rest new behind : List ℕ) (at : ℕ) → Left inner text rest at → at < length rest → get_or rest at 0 ≡ 39 → new ≡ text ++ take (at + 1) rest → behind ≡ drop 1 (drop (at + 1) rest) → Left inner new behind 0
left_pair inner text rest new behind at h lt quote e d =
    let p = pair_at inner text rest at h lt quote in
    let is : behind ≡ flat_map escaped p.more = d ∙ ap (drop 1) p.bytes_are in
    let read : new ++ p.more ≡ (text ++ take at rest) ++ 39 ∷ p.more = rw (e, take_more rest at 0 lt, quote) (simp append_assoc) in
    let none : (new ++ []) ++ p.more ≡ new ++ p.more = rw append-nil refl in
    record { whole = h.whole; others = p.more; inner_is = h.inner_is; within = omega arith; behind = is; whole_is = h.whole_is ∙ (ap (λ (ss : List ℕ). (text ++ take at rest) ++ ss) p.others_are ∙ (sym read ∙ sym none)) }

pub after_pair : (inner text rest : List ℕ) (at : ℕ) → IsUtf8 rest → Left inner text rest at → at < length rest → get_or rest at 0 ≡ 39 → IsCharBoundary (drop (at + 1) rest) 1
after_pair inner text rest at u h lt quote =
    let p = pair_at inner text rest at h lt quote in
    let utf8 : IsUtf8 (drop (at + 1) rest) = IsUtf8-drop rest (at + 1) u (IsCharBoundary-after_ascii rest at u lt (omega arith)) in
    let first : get_or (drop (at + 1) rest) 0 0 ≡ 39 = ap (λ (ss : List ℕ). get_or ss 0 0) p.bytes_are in
    let some : 0 < length (drop (at + 1) rest) = omega (arith, ap length p.bytes_are) in
    IsCharBoundary-after_ascii (drop (at + 1) rest) 0 utf8 some (omega arith)

nothing_left : (others : List ℕ) → [] ≡ flat_map escaped others → others ≡ []
nothing_left [] e = refl
nothing_left (o ∷ os) e = elim (cases_Bool (o == 39)) [
  | inl t ↦ let same : [] ≡ 39 ∷ 39 ∷ flat_map escaped os = rw t at e in absurd cc
  | inr t ↦ let same : [] ≡ o ∷ flat_map escaped os = rw t at e in absurd cc
]

pub left_all : (inner text rest new : List ℕ) (at : ℕ) → Left inner text rest at → length rest ≤ at → new ≡ text ++ rest → inner ≡ flat_map escaped new
left_all inner text rest new at h le e =
    let none : h.others ≡ [] = nothing_left h.others (sym (drop_all at rest le) ∙ h.behind) in
    let whole : h.whole ≡ new = h.whole_is ∙ (rw (none, take_all at rest le, append-nil) (sym e)) in
    h.inner_is ∙ ap (flat_map escaped) whole

pub cut_pair : (rest : List ℕ) (at : ℕ) → IsUtf8 rest → at < length rest → get_or rest at 0 ≡ 39 → IsCharBoundary rest (at + 1)
cut_pair rest at u lt quote = IsCharBoundary-after_ascii rest at u lt (omega arith)

pub behind_utf8 : (inner text rest behind : List ℕ) (at : ℕ) → IsUtf8 rest → Left inner text rest at → at < length rest → get_or rest at 0 ≡ 39 → behind ≡ drop 1 (drop (at + 1) rest) → IsUtf8 behind
behind_utf8 inner text rest behind at u h lt quote d =
    let utf8 : IsUtf8 (drop (at + 1) rest) = IsUtf8-drop rest (at + 1) u (cut_pair rest at u lt quote) in
    subst (λ (ss : List ℕ). IsUtf8 ss) (sym d) (IsUtf8-drop (drop (at + 1) rest) 1 utf8 (after_pair inner text rest at u h lt quote))
