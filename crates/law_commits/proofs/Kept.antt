-- Parents looked through in order: the first that clashes with those before it.
use Rattle.std.proofs.Common.{◌≡◌, ◌≤◌, ◌<◌, ℕ, zero, suc, ◌+◌, Bool, true, false, List, [], ◌∷◌, ◌++◌, length, get_or, take, refl, sym, ◌∙◌, ap, subst, inl, inr, arith}
use Rattle.std.specs.Prelude.{Option, Some, None}
use Rattle.std.proofs.lemmas.Bool.{cases_lt}
use Rattle.std.proofs.lemmas.List.{take_more, take_all, append-nil, get_or-map, length-map}
use Rattle.std.proofs.lemmas.List.Concat.{flat_map-append}
use Rattle.ov_segment.specs.declared.numbered.Record.{Record}
use Rattle.ov_model.specs.Book.{Row}
use Rattle.ov_model.specs.Lists.{IsIn, joined}
use Rattle.ov_model.specs.Records.{is_same_row}
use Rattle.ov_catalog.proofs.Members.{left_in, right_in, of_append}
use Rattle.ov_records.specs.Records.{pairs_of, lists_of}
use Rattle.law_commits.specs.Differing.{NoneDiffer, Clash, Disagrees, IsFirstDisagreeing}

none_clash : (earlier later : List (ℕ × Row)) → NoneDiffer (earlier ++ later) → Clash earlier later → ⊥
none_clash earlier later agree c =
    clash (is_same_row c.before c.after)
    (agree (c.rid, c.before) (c.rid, c.after) (left_in earlier later (c.rid, c.before) c.was) (right_in earlier later (c.rid, c.after) c.is) refl)
    c.differ
  where
    clash : (b : Bool) → b ≡ true → b ≡ false → ⊥
    clash true e f = cc
    clash false e f = cc

-- none of the parents before a place disagrees
abbrev pub NoneBefore : List (List (ℕ × Row)) → ℕ → Type 0
NoneBefore parents place = (earlier : ℕ) → earlier < place → Disagrees parents earlier → ⊥

module _ (parents : List (List Record)) (place : ℕ) (p : List Record) (low : place < length parents) (is : p ≡ get_or parents place p) where
  here_is : get_or (lists_of parents) place [] ≡ pairs_of p
  here_is = get_or-map pairs_of parents place p [] low ∙ ap pairs_of (sym is)

  low_there : place < length (lists_of parents)
  low_there = omega (arith, low, length-map parents pairs_of)

  pub joined_more : joined (take place (lists_of parents)) ++ pairs_of p ≡ joined (take (place + 1) (lists_of parents))
  joined_more =
      sym (ap joined (take_more (lists_of parents) place [] low_there)
      ∙ flat_map-append (λ xs. xs) (take place (lists_of parents)) (get_or (lists_of parents) place [] ∷ [])
      ∙ ap (λ l. joined (take place (lists_of parents)) ++ l) (append-nil (get_or (lists_of parents) place []) ∙ here_is))

  pub none_more : NoneBefore (lists_of parents) place → NoneDiffer (joined (take place (lists_of parents)) ++ pairs_of p) → NoneBefore (lists_of parents) (place + 1)
  none_more none agree = λ earlier before dis.
      elim (cases_lt earlier place) [
        | inl less ↦ none earlier less dis
        | inr last ↦ let same : earlier ≡ place = omega (arith, before, last) in not_here (subst (Disagrees (lists_of parents)) same dis)
      ]
    where
      not_here : Disagrees (lists_of parents) place → ⊥
      not_here dis = none_clash (joined (take place (lists_of parents))) (pairs_of p) agree (subst (Clash (joined (take place (lists_of parents)))) here_is dis.1)

  pub is_first : NoneBefore (lists_of parents) place → Clash (joined (take place (lists_of parents))) (pairs_of p) → IsFirstDisagreeing (lists_of parents) (Some place)
  is_first none c = ((low_there, subst (Clash (joined (take place (lists_of parents)))) (sym here_is) c), none)

pub is_none : (parents : List (List Record)) (place : ℕ) → length parents ≤ place → NoneDiffer (joined (take place (lists_of parents))) → IsFirstDisagreeing (lists_of parents) None
is_none parents place past agree = subst (λ ls. NoneDiffer (joined ls)) (take_all place (lists_of parents) (omega (arith, past, length-map parents pairs_of))) agree

-- ---- where no rid has different rows, no parent disagrees

taken_in : (n : ℕ) (parents : List (List (ℕ × Row))) (p : ℕ × Row) → IsIn (joined (take n parents) ++ get_or parents n []) p → IsIn (joined parents) p
taken_in n [] p is = absurd (none n is)
  where
    none : (n : ℕ) → IsIn (joined (take n []) ++ get_or [] n []) p → ⊥
    none zero is = is
    none (suc n) is = is
taken_in zero (l ∷ parents) p is = left_in l (joined parents) p is
taken_in (suc n) (l ∷ parents) p is =
    elim (of_append (l ++ joined (take n parents)) (get_or parents n []) p is) [
      | inl before ↦
          elim (of_append l (joined (take n parents)) p before) [
            | inl here ↦ left_in l (joined parents) p here
            | inr later ↦ right_in l (joined parents) p (taken_in n parents p (left_in (joined (take n parents)) (get_or parents n []) p later))
          ]
      | inr last ↦ right_in l (joined parents) p (taken_in n parents p (right_in (joined (take n parents)) (get_or parents n []) p last))
    ]

pub none_disagrees : (parents : List (List (ℕ × Row))) (found : Option ℕ) → NoneDiffer (joined parents) → IsFirstDisagreeing parents found → found ≡ None
none_disagrees parents None agree is = refl
none_disagrees parents (Some place) agree is =
    absurd (none_clash (joined (take place parents)) (get_or parents place [])
    (λ a b in_a in_b same. agree a b (taken_in place parents a in_a) (taken_in place parents b in_b) same) is.0.1)
