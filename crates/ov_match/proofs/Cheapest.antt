-- The candidate that costs least.
use Rattle.std.proofs.Common.{◌≡◌, ◌≤◌, ◌<◌, ℕ, zero, suc, ◌+◌, List, [], ◌∷◌, length, get_or, drop, Option, Some, None, refl, sym, ◌∙◌, ap, subst, inl, inr, arith}
use Rattle.std.proofs.lemmas.Bool.{cases_lt, lt-ltb, le-ltb, le-leb, lt-leb}
use Rattle.ov_model.specs.Lists.{IsIn}
use Rattle.ov_model.specs.Plans.{cheaper, source_of}
use Rattle.ov_match.specs.declared.choosing.Candidate.{Candidate}
use Rattle.ov_match.specs.Matching.{NumbersAscend, AreSegments, AllSound, cost, cheapest, below, IsBest, NoneIsCheap, IsCheapest}
use Rattle.ov_match.proofs.Counts.{front_of}

-- the best so far, and then the best of those ahead
abbrev pub and_then : Option (ℕ × ℕ) → Option (ℕ × ℕ) → Option (ℕ × ℕ)
and_then None later = later
and_then (Some a) later = cheaper a later

cheaper_first : (a b : ℕ × ℕ) → a.1 ≤ b.1 → cheaper a (Some b) ≡ Some a
cheaper_first a b le = rw (le-leb a.1 b.1 le) refl

cheaper_later : (a b : ℕ × ℕ) → b.1 < a.1 → cheaper a (Some b) ≡ Some b
cheaper_later a b lt = rw (lt-leb a.1 b.1 lt) refl

below_some : (size : ℕ) (a : ℕ × ℕ) → a.1 < size → below size (Some a) ≡ Some a
below_some size a lt = rw (lt-ltb a.1 size lt) refl

below_none : (size : ℕ) (a : ℕ × ℕ) → size ≤ a.1 → below size (Some a) ≡ None
below_none size a le = rw (le-ltb a.1 size le) refl

-- what is the same pair has the same number and the same cost
some_parts : (a b : ℕ × ℕ) → Some a ≡ Some b → (a.0 ≡ b.0) × (a.1 ≡ b.1)
some_parts a b e = (ap (λ (o : Option (ℕ × ℕ)). first_in o) e, ap (λ (o : Option (ℕ × ℕ)). second_in o) e)
  where
    first_in : Option (ℕ × ℕ) → ℕ
    first_in None = 0
    first_in (Some x) = x.0

    second_in : Option (ℕ × ℕ) → ℕ
    second_in None = 0
    second_in (Some x) = x.1

none_some : (a : ℕ × ℕ) → None ≡ Some a → ⊥
none_some a e = cc

some_none : (a : ℕ × ℕ) → Some a ≡ None → ⊥
some_none a e = cc

-- one that isn't below the size adds nothing
pub too_dear : (size : ℕ) (a : ℕ × ℕ) (later : Option (ℕ × ℕ)) → size ≤ a.1 → below size (cheaper a later) ≡ below size later
too_dear size a None dear = below_none size a dear
too_dear size a (Some b) dear = elim (cases_lt b.1 a.1) [
  | inl lt ↦ ap (below size) (cheaper_later a b lt)
  | inr le ↦ ap (below size) (cheaper_first a b le) ∙ below_none size a dear ∙ sym (below_none size b (omega arith))
]

-- nor does one that costs no less than the best so far
pub no_better : (best a : ℕ × ℕ) (later : Option (ℕ × ℕ)) → best.1 ≤ a.1 → cheaper best (cheaper a later) ≡ cheaper best later
no_better best a None le = cheaper_first best a le
no_better best a (Some b) le = elim (cases_lt b.1 a.1) [
  | inl lt ↦ ap (cheaper best) (cheaper_later a b lt)
  | inr most ↦ ap (cheaper best) (cheaper_first a b most) ∙ cheaper_first best a le ∙ sym (cheaper_first best b (omega arith))
]

-- one that costs less takes the place of the best so far
pub better : (best a : ℕ × ℕ) (later : Option (ℕ × ℕ)) → a.1 < best.1 → cheaper best (cheaper a later) ≡ cheaper a later
better best a None lt = cheaper_later best a lt
better best a (Some b) lt = elim (cases_lt b.1 a.1) [
  | inl less ↦ ap (cheaper best) (cheaper_later a b less) ∙ cheaper_later best b (omega arith) ∙ sym (cheaper_later a b less)
  | inr most ↦ ap (cheaper best) (cheaper_first a b most) ∙ cheaper_later best a lt ∙ sym (cheaper_first a b most)
]

-- ---- what was found so far

abbrev pub pair_of : List ℕ → Option Candidate → Option (ℕ × ℕ)
pair_of wanted None = None
pair_of wanted (Some found) = Some (found.part, cost wanted found)

abbrev pub least_of : List ℕ → Option Candidate → ℕ
least_of wanted None = length wanted
least_of wanted (Some found) = cost wanted found

abbrev pub IsFound : List ℕ → List Candidate → Option Candidate → Type 0
IsFound wanted candidates None = Unit {0}
IsFound wanted candidates (Some found) = IsIn candidates found × (cost wanted found < length wanted)

-- the best one so far, and what it costs; where there is none, as much as to build anew
pub record SoFar (wanted : List ℕ) (candidates ahead : List Candidate) (best : Option Candidate) (least : ℕ) : Type 0 where
  pub least_is : least ≡ least_of wanted best
  pub found : IsFound wanted candidates best
  pub same : below (length wanted) (and_then (pair_of wanted best) (cheapest wanted ahead)) ≡ below (length wanted) (cheapest wanted candidates)

pub none_yet : (wanted : List ℕ) (candidates : List Candidate) (least : ℕ) → least ≡ length wanted → SoFar wanted candidates candidates None least
none_yet wanted candidates least e = record { least_is = e; found = tt; same = refl }

least_most : (wanted : List ℕ) (candidates : List Candidate) (best : Option Candidate) → IsFound wanted candidates best → least_of wanted best ≤ length wanted
least_most wanted candidates None found = omega arith
least_most wanted candidates (Some best) found = omega (arith, found.1)

-- one candidate more
pub found_better : (wanted : List ℕ) (candidates ahead : List Candidate) (best : Option Candidate) (least : ℕ) (one : Candidate)
    → IsIn candidates one → cost wanted one < least → SoFar wanted candidates (one ∷ ahead) best least → SoFar wanted candidates ahead (Some one) (cost wanted one)
found_better wanted candidates ahead best least one is lt before = record {
  least_is = refl;
  found = (is, omega (arith, lt, before.least_is, least_most wanted candidates best before.found));
  same = sym (ap (below (length wanted)) (by best (omega (arith, lt, before.least_is)))) ∙ before.same;
}
  where
    here : ℕ × ℕ
    here = (one.part, cost wanted one)

    by : (b : Option Candidate) → cost wanted one < least_of wanted b → and_then (pair_of wanted b) (cheaper here (cheapest wanted ahead)) ≡ cheaper here (cheapest wanted ahead)
    by None less = refl
    by (Some found) less = better (found.part, cost wanted found) here (cheapest wanted ahead) less

pub found_no_better : (wanted : List ℕ) (candidates ahead : List Candidate) (best : Option Candidate) (least : ℕ) (one : Candidate)
    → least ≤ cost wanted one → SoFar wanted candidates (one ∷ ahead) best least → SoFar wanted candidates ahead best least
found_no_better wanted candidates ahead best least one le before = record {
  least_is = before.least_is;
  found = before.found;
  same = sym (by best (omega (arith, le, before.least_is))) ∙ before.same;
}
  where
    here : ℕ × ℕ
    here = (one.part, cost wanted one)

    by : (b : Option Candidate) → least_of wanted b ≤ cost wanted one
        → below (length wanted) (and_then (pair_of wanted b) (cheaper here (cheapest wanted ahead))) ≡ below (length wanted) (and_then (pair_of wanted b) (cheapest wanted ahead))
    by None dear = too_dear (length wanted) here (cheapest wanted ahead) dear
    by (Some found) dear = ap (below (length wanted)) (no_better (found.part, cost wanted found) here (cheapest wanted ahead) dear)

pub found_none : (wanted : List ℕ) (candidates : List Candidate) (least : ℕ) → SoFar wanted candidates [] None least → below (length wanted) (cheapest wanted candidates) ≡ None
found_none wanted candidates least far = sym far.same

pub found_best : (wanted : List ℕ) (candidates : List Candidate) (best : Candidate) (least : ℕ) → SoFar wanted candidates [] (Some best) least → IsBest wanted candidates best
found_best wanted candidates best least far = record {
  listed = far.found.0;
  best = sym far.same ∙ below_some (length wanted) (best.part, cost wanted best) far.found.1;
}

-- ---- among all

in_drop : (one : Candidate) (cs rest : List Candidate) (k : ℕ) → drop k cs ≡ one ∷ rest → IsIn cs one
in_drop one [] rest zero e = cc
in_drop one [] rest (suc k) e = cc
in_drop one (c ∷ cs) rest zero e = inl (same e)
  where
    same : c ∷ cs ≡ one ∷ rest → one ≡ c
    same e = cc
in_drop one (c ∷ cs) rest (suc k) e = inr (in_drop one cs rest k e)

pub in_at : (candidates : List Candidate) (i : ℕ) (one : Candidate) → i < length candidates → one ≡ get_or candidates i one → IsIn candidates one
in_at candidates i one lt is = in_drop one candidates (drop (i + 1) candidates) i (front_of candidates i one lt is)

pub sound_at : (candidates : List Candidate) (one : Candidate) → AllSound candidates → IsIn candidates one → AreSegments one.segments.items
sound_at [] one sound is = absurd is
sound_at (c ∷ cs) one sound (inl same) = rw same sound.0
sound_at (c ∷ cs) one sound (inr later) = sound_at cs one sound.1 later

numbers_above : (low : ℕ) (candidates : List Candidate) (one : Candidate) → NumbersAscend low candidates → IsIn candidates one → low < one.part
numbers_above low [] one ascend is = absurd is
numbers_above low (c ∷ cs) one ascend (inl same) = rw same ascend.0
numbers_above low (c ∷ cs) one ascend (inr later) = omega (arith, ascend.0, numbers_above c.part cs one ascend.1 later)

-- what the cheapest one's number and cost say of all
pub record Leads (wanted : List ℕ) (candidates : List Candidate) (best : ℕ × ℕ) : Type 0 where
  pub least : (other : Candidate) → IsIn candidates other → best.1 ≤ cost wanted other
  pub first : (other : Candidate) → IsIn candidates other → other.part < best.0 → best.1 < cost wanted other

abbrev pub LeadsOrNone : List ℕ → List Candidate → Option (ℕ × ℕ) → Type 0
LeadsOrNone wanted candidates None = candidates ≡ []
LeadsOrNone wanted candidates (Some best) = Leads wanted candidates best

pub leads : (wanted : List ℕ) (low : ℕ) (candidates : List Candidate) → NumbersAscend low candidates → LeadsOrNone wanted candidates (cheapest wanted candidates)
leads wanted low [] ascend = refl
leads wanted low (c ∷ cs) ascend = by (cheapest wanted cs) (leads wanted c.part cs ascend.1)
  where
    here : ℕ × ℕ
    here = (c.part, cost wanted c)

    by : (b : Option (ℕ × ℕ)) → LeadsOrNone wanted cs b → LeadsOrNone wanted (c ∷ cs) (cheaper here b)
    by None none = record { least = least; first = first }
      where
        least : (other : Candidate) → IsIn (c ∷ cs) other → cost wanted c ≤ cost wanted other
        least other (inl same) = rw same (omega arith)
        least other (inr later) = absurd (subst (λ xs. IsIn xs other) none later)

        first : (other : Candidate) → IsIn (c ∷ cs) other → other.part < c.part → cost wanted c < cost wanted other
        first other (inl same) lt = absurd (omega (arith, lt, ap (λ x. x.part) same))
        first other (inr later) lt = absurd (subst (λ xs. IsIn xs other) none later)
    by (Some b) rest = elim (cases_lt b.1 (cost wanted c)) [
      | inl lt ↦ rw (lt-leb (cost wanted c) b.1 lt) (record { least = least lt; first = first lt })
      | inr le ↦ rw (le-leb (cost wanted c) b.1 le) (record { least = least' le; first = first' })
    ]
      where
        least : b.1 < cost wanted c → (other : Candidate) → IsIn (c ∷ cs) other → b.1 ≤ cost wanted other
        least lt other (inl same) = rw same (omega (arith, lt))
        least lt other (inr later) = rest.least other later

        first : b.1 < cost wanted c → (other : Candidate) → IsIn (c ∷ cs) other → other.part < b.0 → b.1 < cost wanted other
        first lt other (inl same) less = rw same lt
        first lt other (inr later) less = rest.first other later less

        least' : cost wanted c ≤ b.1 → (other : Candidate) → IsIn (c ∷ cs) other → cost wanted c ≤ cost wanted other
        least' le other (inl same) = rw same (omega arith)
        least' le other (inr later) = omega (arith, le, rest.least other later)

        first' : (other : Candidate) → IsIn (c ∷ cs) other → other.part < c.part → cost wanted c < cost wanted other
        first' other (inl same) less = absurd (omega (arith, less, ap (λ x. x.part) same))
        first' other (inr later) less = absurd (omega (arith, less, numbers_above c.part cs other ascend.1 later))

-- the best one is the cheapest among all
pub is_cheapest : (wanted : List ℕ) (low : ℕ) (candidates : List Candidate) (best : Candidate) → NumbersAscend low candidates → IsBest wanted candidates best → IsCheapest wanted candidates best
is_cheapest wanted low candidates best ascend is = by (cheapest wanted candidates) is.best (leads wanted low candidates ascend)
  where
    size : ℕ
    size = length wanted

    here : ℕ × ℕ
    here = (best.part, cost wanted best)

    by : (b : Option (ℕ × ℕ)) → below size b ≡ Some here → LeadsOrNone wanted candidates b → IsCheapest wanted candidates best
    by None e all = absurd (none_some here e)
    by (Some b) e all = elim (cases_lt b.1 size) [
      | inl lt ↦ it lt (some_parts b here (sym (below_some size b lt) ∙ e))
      | inr le ↦ absurd (none_some here (sym (below_none size b le) ∙ e))
    ]
      where
        it : b.1 < size → (b.0 ≡ best.part) × (b.1 ≡ cost wanted best) → IsCheapest wanted candidates best
        it lt same = record {
          listed = is.listed;
          cheap = omega (arith, lt, same.1);
          least = λ other there. omega (arith, all.least other there, same.1);
          first = λ other there less. omega (arith, all.first other there (omega (arith, less, same.0)), same.1);
        }

-- where nothing is below the size, no candidate is
pub none_is_cheap : (wanted : List ℕ) (low : ℕ) (candidates : List Candidate) → NumbersAscend low candidates → below (length wanted) (cheapest wanted candidates) ≡ None → NoneIsCheap wanted candidates
none_is_cheap wanted low candidates ascend e = by (cheapest wanted candidates) e (leads wanted low candidates ascend)
  where
    size : ℕ
    size = length wanted

    by : (b : Option (ℕ × ℕ)) → below size b ≡ None → LeadsOrNone wanted candidates b → NoneIsCheap wanted candidates
    by None e all = λ other there. absurd (subst (λ xs. IsIn xs other) all there)
    by (Some b) e all = elim (cases_lt b.1 size) [
      | inl lt ↦ absurd (some_none b (sym (below_some size b lt) ∙ e))
      | inr le ↦ λ other there. omega (arith, le, all.least other there)
    ]

pub none_cheap_not : (wanted : List ℕ) (candidates : List Candidate) (best : Candidate) → IsCheapest wanted candidates best → NoneIsCheap wanted candidates → ⊥
none_cheap_not wanted candidates best is none = absurd (omega (arith, is.cheap, none best is.listed))

-- ---- the source in the words of plans

pub source_none : (size : ℕ) (best : Option (ℕ × ℕ)) → below size best ≡ None → source_of size best ≡ 0
source_none size None e = refl
source_none size (Some b) e = elim (cases_lt b.1 size) [
  | inl lt ↦ absurd (some_none b (sym (below_some size b lt) ∙ e))
  | inr le ↦ rw (le-ltb b.1 size le) refl
]

pub source_some : (size : ℕ) (a : ℕ × ℕ) (best : Option (ℕ × ℕ)) → below size best ≡ Some a → source_of size best ≡ a.0
source_some size a None e = absurd (none_some a e)
source_some size a (Some b) e = elim (cases_lt b.1 size) [
  | inl lt ↦ rw (lt-ltb b.1 size lt) (some_parts b a (sym (below_some size b lt) ∙ e)).0
  | inr le ↦ absurd (none_some a (sym (below_none size b le) ∙ e))
]
