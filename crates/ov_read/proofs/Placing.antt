-- Where versions stand among those that were asked for.
use Rattle.std.proofs.Common.{◌≡◌, ◌<◌, ◌≤◌, ◌+◌, ℕ, zero, suc, Bool, true, false, Option, Some, None, List, [], ◌∷◌, length, set, get_or, refl, sym, ◌∙◌, ap, subst, inl, inr, arith}
use Rattle.std.specs.Prelude.{if◌then◌else◌, replicate, ◌==◌, ◌||◌}
use Rattle.std.specs.List.{All, filter_map, cons_option}
use Rattle.std.proofs.lemmas.Bool.{cases_eq, eq-eqb}
use Rattle.std.proofs.lemmas.Grind.{get_or-set_at}
use Rattle.std.proofs.lemmas.List.{get_or-set_other}
use Rattle.std.proofs.lemmas.List.Elements.{All-nil, All-cons, All-head}
use Rattle.ov_member.specs.Rids.{has}
use Rattle.ov_member.proofs.RidLemmas.{has-head, has-tail}
use Rattle.ov_model.specs.Placed.{times}
use Rattle.ov_read.specs.Gathering.{place_at, ArePlaces, IsGroup}

some_is : (a b : ℕ) → Some a ≡ Some b → a ≡ b
some_is a b e = cc

-- a version that stands at two places is there twice
there_once : (vids : List ℕ) (k : ℕ) → k < length vids → 1 ≤ times vids (get_or vids k 0)
there_once [] k low = absurd (omega (arith, low))
there_once (v ∷ vids) zero low = rw (eq-eqb v v refl) (omega arith)
there_once (v ∷ vids) (suc k) low =
    let rest = there_once vids k (omega (arith, low)) in omega (arith, rest)

pub not_twice : (vids : List ℕ) (i j : ℕ) → i < j → j < length vids → get_or vids i 0 ≡ get_or vids j 0 → times vids (get_or vids j 0) ≤ 1 → ⊥
not_twice [] i j before low same once = omega (arith, low)
not_twice (v ∷ vids) i zero before low same once = omega (arith, before)
not_twice (v ∷ vids) zero (suc j) before low same once =
    let rest = there_once vids j (omega (arith, low)) in
    let first : ◌≡◌ {A = ℕ} (if v == get_or vids j 0 then 1 else 0) 1 = rw (eq-eqb v (get_or vids j 0) same) refl in
    omega (arith, rest, first, once)
not_twice (v ∷ vids) (suc i) (suc j) before low same once =
    not_twice vids i j (omega (arith, before)) (omega (arith, low)) same (omega (arith, once))

-- the group of a partition
has_in : (places : List (Option ℕ)) (versions : List ℕ) (place vid : ℕ) → has versions vid ≡ true → place_at places vid ≡ Some place → has (filter_map (place_at places) versions) place ≡ true
has_in places [] place vid member is = cc
has_in places (v ∷ versions) place vid member is =
    elim (cases_eq v vid) [
      | inl e ↦ first (place_at places v) (ap (place_at places) e ∙ is)
      | inr ne ↦ later (place_at places v) (has_in places versions place vid (sym (has-tail v versions vid ne) ∙ member) is)
    ]
  where
    first : (o : Option ℕ) → o ≡ Some place → has (cons_option o (filter_map (place_at places) versions)) place ≡ true
    first None e = cc
    first (Some p) e = let same : p ≡ place = some_is p place e in rw (eq-eqb p place same) refl

    either : (b : Bool) → has (filter_map (place_at places) versions) place ≡ true → (b || has (filter_map (place_at places) versions) place) ≡ true
    either true h = refl
    either false h = h

    later : (o : Option ℕ) → has (filter_map (place_at places) versions) place ≡ true → has (cons_option o (filter_map (place_at places) versions)) place ≡ true
    later None h = h
    later (Some p) h = either (p == place) h

weaker_member : (versions vs : List ℕ) (v : ℕ) → ((w : ℕ) → has (v ∷ vs) w ≡ true → has versions w ≡ true) → (w : ℕ) → has vs w ≡ true → has versions w ≡ true
weaker_member versions vs v h w member = h w (by (v == w) member)
  where
    by : (b : Bool) → has vs w ≡ true → (b || has vs w) ≡ true
    by true m = refl
    by false m = m

only_group : (vids : List ℕ) (places : List (Option ℕ)) (versions vs : List ℕ) → ArePlaces vids places → ((w : ℕ) → has vs w ≡ true → has versions w ≡ true)
    → All (λ place. (place < length vids) × (has versions (get_or vids place 0) ≡ true)) (filter_map (place_at places) vs)
only_group vids places versions [] are within = All-nil (λ place. (place < length vids) × (has versions (get_or vids place 0) ≡ true))
only_group vids places versions (v ∷ vs) are within =
    by (place_at places v) refl (only_group vids places versions vs are (weaker_member versions vs v within))
  where
    by : (o : Option ℕ) → place_at places v ≡ o → All (λ place. (place < length vids) × (has versions (get_or vids place 0) ≡ true)) (filter_map (place_at places) vs)
        → All (λ place. (place < length vids) × (has versions (get_or vids place 0) ≡ true)) (cons_option o (filter_map (place_at places) vs))
    by None is rest = rest
    by (Some place) is rest =
        let at = are.only v place is in
        All-cons (λ p. (p < length vids) × (has versions (get_or vids p 0) ≡ true)) place (filter_map (place_at places) vs)
        (at.0, ap (has versions) at.1 ∙ within v (has-head v vs)) rest

pub is_group : (vids : List ℕ) (places : List (Option ℕ)) (versions group : List ℕ) → ArePlaces vids places → group ≡ filter_map (place_at places) versions → IsGroup vids versions group
is_group vids places versions group are is = record {
  only = subst (All (λ place. (place < length vids) × (has versions (get_or vids place 0) ≡ true))) (sym is) (only_group vids places versions versions are (λ w member. member));
  all = λ place low member. ap (λ (g : List ℕ). has g place) is ∙ has_in places versions place (get_or vids place 0) member (are.all place low);
}

-- where no versions are asked for, a partition serves none of them
pub none_served : (vids versions group : List ℕ) → IsGroup vids versions group → vids ≡ [] → group ≡ []
none_served vids versions [] is none = refl
none_served vids versions (place ∷ group) is none =
    let low : place < length vids = (All-head (λ p. (p < length vids) × (has versions (get_or vids p 0) ≡ true)) place group is.only).0
    in absurd (omega (arith, low, ap length none))

-- ---- the places, one more at a time

pub record PlacesTo (n : ℕ) (vids : List ℕ) (places : List (Option ℕ)) : Type 0 where
  pub only : (vid place : ℕ) → place_at places vid ≡ Some place → (place < n) × (get_or vids place 0 ≡ vid)
  pub all : (place : ℕ) → place < n → place_at places (get_or vids place 0) ≡ Some place

abbrev pub no_vid : Option ℕ
no_vid = None

no_place : (n vid : ℕ) → get_or (replicate n no_vid) vid None ≡ None
no_place zero vid = refl
no_place (suc n) zero = refl
no_place (suc n) (suc vid) = no_place n vid

none_some : (place : ℕ) → None ≡ Some place → ⊥
none_some place e = cc

pub starts : (vids : List ℕ) (places : List (Option ℕ)) (n : ℕ) → places ≡ replicate n no_vid → PlacesTo 0 vids places
starts vids places n is = record {
  only = λ vid place e. absurd (none_some place (sym (no_place n vid) ∙ (sym (ap (λ (l : List (Option ℕ)). get_or l vid None) is) ∙ e)));
  all = λ place low. absurd (omega (arith, low));
}

pub goes_on : (vids : List ℕ) (places : List (Option ℕ)) (k : ℕ) → k < length vids → get_or vids k 0 < length places → ((vid : ℕ) → times vids vid ≤ 1) → PlacesTo k vids places
    → PlacesTo (k + 1) vids (set places (get_or vids k 0) (Some k))
goes_on vids places k low fits once h = record { only = only; all = all }
  where
    only : (vid place : ℕ) → place_at (set places (get_or vids k 0) (Some k)) vid ≡ Some place → (place < k + 1) × (get_or vids place 0 ≡ vid)
    only vid place e =
        elim (cases_eq vid (get_or vids k 0)) [
          | inl same ↦
              let is : k ≡ place = some_is k place (sym (get_or-set_at places (get_or vids k 0) vid (Some k) None same fits) ∙ e) in
              (omega (arith, is), ap (λ n. get_or vids n 0) (sym is) ∙ sym same)
          | inr other ↦
              let old = h.only vid place (sym (get_or-set_other places (get_or vids k 0) vid (Some k) None other) ∙ e) in
              (omega (arith, old.0), old.1)
        ]

    all : (place : ℕ) → place < k + 1 → place_at (set places (get_or vids k 0) (Some k)) (get_or vids place 0) ≡ Some place
    all place below =
        elim (cases_eq place k) [
          | inl same ↦ get_or-set_at places (get_or vids k 0) (get_or vids place 0) (Some k) None (ap (λ n. get_or vids n 0) same) fits ∙ ap Some (sym same)
          | inr other ↦
              get_or-set_other places (get_or vids k 0) (get_or vids place 0) (Some k) None (λ twice. not_twice vids place k (omega (arith, below, other)) low twice (once (get_or vids k 0)))
              ∙ h.all place (omega (arith, below, other))
        ]
