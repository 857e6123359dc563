-- The scan of a text, byte by byte.
use Rattle.std.proofs.Common.{◌≡◌, inl, inr, ℕ, ◌+◌, ◌<◌, ◌≤◌, List, [], ◌∷◌, length, drop, get_or, Option, Some, None, refl, sym, ap, ◌∙◌, arith}
use Rattle.std.specs.Option.{option_map, unwrap_or}
use Rattle.std.proofs.lemmas.Bool.{ne_eqb, cases_lt}
use Rattle.std.proofs.lemmas.List.{drop_more, drop_all, get_or-drop, get_or_past}
use Rattle.ov_lex.specs.Scans.{closing}
use Rattle.ov_lex.proofs.Fronts.{closing_other, closing_pair}

get_or-drop-0 : (bytes : List ℕ) (i : ℕ) → get_or (drop i bytes) 0 0 ≡ get_or bytes i 0
get_or-drop-0 bytes i = rw get_or-drop (ap (λ (k : ℕ). get_or bytes k 0) (omega arith))

-- what is found from a place on, or else what was found before
abbrev pub later : ℕ → Option ℕ → Option ℕ → Option ℕ
later at last None = last
later at last (Some n) = Some (at + n)

later_other : (at : ℕ) (last found : Option ℕ) → later at last (option_map (λ n. 1 + n) found) ≡ later (at + 1) last found
later_other at last None = refl
later_other at last (Some n) = ap (λ (m : ℕ). Some m) (omega arith)

pub goes_past : (bytes : List ℕ) (at : ℕ) (last : Option ℕ) → at < length bytes → (get_or bytes at 0 ≡ 39 → ⊥) → later (at + 1) last (closing (drop (at + 1) bytes)) ≡ later at last (closing (drop at bytes))
goes_past bytes at last lt other =
    let e : closing (drop at bytes) ≡ option_map (λ n. 1 + n) (closing (drop (at + 1) bytes)) =
    ap closing (drop_more bytes at 0 lt) ∙ closing_other (get_or bytes at 0) (drop (at + 1) bytes) (ne_eqb (get_or bytes at 0) 39 other) in
    rw e (sym (later_other at last (closing (drop (at + 1) bytes))))

later_pair : (at : ℕ) (last found : Option ℕ) → later at last (Some (unwrap_or (option_map (λ n. 2 + n) found) 1)) ≡ later (at + 2) (Some (at + 1)) found
later_pair at last None = refl
later_pair at last (Some n) = ap (λ (m : ℕ). Some m) (omega arith)

pub goes_past_pair : (bytes : List ℕ) (at : ℕ) (last : Option ℕ) → at + 1 < length bytes → get_or bytes at 0 ≡ 39 → get_or bytes (at + 1) 0 ≡ 39 → later (at + 2) (Some (at + 1)) (closing (drop (at + 2) bytes)) ≡ later at last (closing (drop at bytes))
goes_past_pair bytes at last lt one two =
    let next : (at + 1) + 1 ≡ at + 2 = omega arith in
    let rest : drop at bytes ≡ 39 ∷ 39 ∷ drop (at + 2) bytes =
    drop_more bytes at 0 (omega arith) ∙ (rw (one, drop_more bytes (at + 1) 0 lt, two, next) refl) in
    let e : closing (drop at bytes) ≡ Some (unwrap_or (option_map (λ n. 2 + n) (closing (drop (at + 2) bytes))) 1) = ap closing rest ∙ closing_pair (drop (at + 2) bytes) in
    rw e (sym (later_pair at last (closing (drop (at + 2) bytes))))

closing_single : (bytes : List ℕ) → (get_or bytes 0 0 ≡ 39 → ⊥) → closing (39 ∷ bytes) ≡ Some 1
unfolding closing
closing_single [] other = refl
closing_single (c ∷ bytes) other = rw (ne_eqb c 39 other) refl

no_quote : (bytes : List ℕ) (i : ℕ) → (i < length bytes → get_or bytes i 0 ≡ 39 → ⊥) → get_or (drop i bytes) 0 0 ≡ 39 → ⊥
no_quote bytes i other e =
    let there : get_or bytes i 0 ≡ 39 = sym (get_or-drop-0 bytes i) ∙ e in
    elim (cases_lt i (length bytes)) [
      | inl lt ↦ other lt there
      | inr le ↦ let past = get_or_past bytes i 0 le in omega arith
    ]

pub closes_here : (bytes : List ℕ) (at : ℕ) (last : Option ℕ) → at < length bytes → get_or bytes at 0 ≡ 39 → (at + 1 < length bytes → get_or bytes (at + 1) 0 ≡ 39 → ⊥) → later at last (closing (drop at bytes)) ≡ Some (at + 1)
closes_here bytes at last lt one other =
    let next : closing (drop at bytes) ≡ closing (39 ∷ drop (at + 1) bytes) = ap closing (drop_more bytes at 0 lt ∙ rw one refl) in
    let single : closing (39 ∷ drop (at + 1) bytes) ≡ Some 1 = closing_single (drop (at + 1) bytes) (no_quote bytes (at + 1) other) in
    rw (next ∙ single) refl

pub finds_no_more : (bytes : List ℕ) (at : ℕ) (last : Option ℕ) → length bytes ≤ at → later at last (closing (drop at bytes)) ≡ last
unfolding closing
finds_no_more bytes at last le = rw (drop_all at bytes le) refl
