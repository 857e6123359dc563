-- Pages that extents cover, and the least that isn't there.
use Rattle.std.proofs.Common.{◌≡◌, ◌≤◌, ◌<◌, ◌⊎◌, inl, inr, ℕ, zero, suc, ◌+◌, min, max, Bool, true, false, if◌then◌else◌, List, [], ◌∷◌, ◌++◌, Option, Some, None, refl, sym, ◌∙◌, ap, subst, arith}
use Rattle.std.proofs.lemmas.Bool.Decides.{nat_tests}
use Rattle.std.proofs.lemmas.Bool.{cases_lt}
use Rattle.std.proofs.lemmas.List.Sums.{sum_by-cons}
use Rattle.ov_host.specs.declared.area.Extent.{Extent}
use Rattle.ov_host.specs.Extent.{pages_of}
use Rattle.ov_pages.specs.Sets.{is_in_run, one_if}
use Rattle.ov_pages.specs.Live.{times_covered, IsLeastOverlap}
use Rattle.ov_catalog.specs.Extents.{has_page, covers}
use Rattle.ov_open.specs.Refusing.{IsMissing, IsTwice}
use Rattle.ov_open.specs.Building.{AreThere, FirstIs, lesser}

covers-append : (a b : List Extent) (page : ℕ) → covers (a ++ b) page ≡ covers a page + covers b page
covers-append [] b page = omega arith
covers-append (e ∷ a) b page = omega (arith, covers-append a b page)

-- ---- two ways to count

pub counted : (es : List Extent) (page : ℕ) → times_covered es page ≡ covers es page
counted [] page = refl
counted (e ∷ es) page =
    sum_by-cons (λ (x : Extent). one_if (is_in_run x.page (pages_of x) page)) e es
    ∙ (λ i. one (has_page e page) i + counted es page i)
  where
    one : (b : Bool) → one_if b ≡ (if b then 1 else 0)
    one true = refl
    one false = refl

-- ---- one extent

pub has : (e : Extent) (page : ℕ) → e.page ≤ page → page < e.page + pages_of e → 1 ≤ covers (e ∷ []) page
has e page low high =
    let is : has_page e page ≡ true = grind (arith, nat_tests)
    in let count : ℕ = if has_page e page then 1 else 0
    in let one : count ≡ 1 = ap (λ (b : Bool). let n : ℕ = (if b then 1 else 0) in n) is
    in omega (arith, one)

is_had : (e : Extent) (page : ℕ) → 1 ≤ covers (e ∷ []) page → has_page e page ≡ true
is_had e page some = by (has_page e page) some
  where
    by : (b : Bool) → 1 ≤ (if b then 1 else 0) + 0 → b ≡ true
    by true more = refl
    by false more = absurd (omega arith)

pub within : (e : Extent) (page : ℕ) → 1 ≤ covers (e ∷ []) page → (e.page ≤ page) × (page < e.page + pages_of e)
within e page some =
    let is : has_page e page ≡ true = is_had e page some
    in grind (arith, nat_tests)

-- ---- one extent more

either : (m n : ℕ) → 1 ≤ m + n → (1 ≤ m) ⊎ (1 ≤ n)
either zero n more = inr (omega arith)
either (suc m) n more = inl (omega arith)

some_of : (es : List Extent) (e : Extent) (page : ℕ) → 1 ≤ covers (es ++ e ∷ []) page → (1 ≤ covers es page) ⊎ (1 ≤ covers (e ∷ []) page)
some_of es e page some = either (covers es page) (covers (e ∷ []) page) (omega (arith, covers-append es (e ∷ []) page))

pub first_more : (es : List Extent) (e : Extent) (there : ℕ) (a b : Option ℕ) → FirstIs a es there → FirstIs b (e ∷ []) there → FirstIs (lesser a b) (es ++ e ∷ []) there
first_more es e there None None old new = λ page some.
    elim (some_of es e page some) [
      | inl one ↦ old page one
      | inr one ↦ new page one
    ]
first_more es e there None (Some q) old new = record {
  covered = omega (arith, covers-append es (e ∷ []) q, new.covered);
  beyond = new.beyond;
  least = λ other some from.
      elim (some_of es e other some) [
        | inl one ↦ let before : other < there = old other one in absurd (omega (arith, before, from))
        | inr one ↦ new.least other one from
      ];
}
first_more es e there (Some p) None old new = record {
  covered = omega (arith, covers-append es (e ∷ []) p, old.covered);
  beyond = old.beyond;
  least = λ other some from.
      elim (some_of es e other some) [
        | inl one ↦ old.least other one from
        | inr one ↦ let before : other < there = new other one in absurd (omega (arith, before, from))
      ];
}
first_more es e there (Some p) (Some q) old new =
    elim (cases_lt p q) [
      | inl lt ↦ let is : min p q ≡ p = omega (arith, lt) in subst (λ n. IsMissing (es ++ e ∷ []) there n) (sym is) (left lt)
      | inr ge ↦ let is : min p q ≡ q = omega (arith, ge) in subst (λ n. IsMissing (es ++ e ∷ []) there n) (sym is) (right ge)
    ]
  where
    left : p < q → IsMissing (es ++ e ∷ []) there p
    left lt = record {
      covered = omega (arith, covers-append es (e ∷ []) p, old.covered);
      beyond = old.beyond;
      least = λ other some from.
          elim (some_of es e other some) [
            | inl one ↦ old.least other one from
            | inr one ↦ let least : q ≤ other = new.least other one from in omega (arith, least, lt)
          ];
    }

    right : q ≤ p → IsMissing (es ++ e ∷ []) there q
    right ge = record {
      covered = omega (arith, covers-append es (e ∷ []) q, new.covered);
      beyond = new.beyond;
      least = λ other some from.
          elim (some_of es e other some) [
            | inl one ↦ let least : p ≤ other = old.least other one from in omega (arith, least, ge)
            | inr one ↦ new.least other one from
          ];
    }

pub none_there : (there : ℕ) → FirstIs None [] there
none_there there = λ page some. absurd (omega (arith, some))

-- ---- the first page of one extent

pub one_missing : (e : Extent) (there page : ℕ) → page ≡ max e.page there → page < e.page + pages_of e → IsMissing (e ∷ []) there page
one_missing e there page is past = record {
  covered = has e page (omega (arith, is)) past;
  beyond = omega (arith, is);
  least = λ other some from. let at = within e other some in omega (arith, is, at.0, from);
}

pub one_there : (e : Extent) (there page : ℕ) → page ≡ max e.page there → e.page + pages_of e ≤ page → AreThere (e ∷ []) there
one_there e there page is past = λ other some.
    let at = within e other some in omega (arith, is, at.0, at.1, past)

-- ---- pages covered twice

pub least_twice : (es : List Extent) (page : ℕ) → IsLeastOverlap es page → IsTwice es page
least_twice es page is = record {
  twice = let same : times_covered es page ≡ covers es page = counted es page in omega (arith, same, is.twice);
  least = λ other low. let same : times_covered es other ≡ covers es other = counted es other in omega (arith, same, is.least other low);
}
