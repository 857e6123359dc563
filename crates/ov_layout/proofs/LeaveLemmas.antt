-- Versions that leave their partitions.
use Rattle.std.proofs.Common.{◌≡◌, ℕ, zero, suc, ◌+◌, ◌*◌, ◌<◌, ◌≤◌, Bool, true, false, not, ◌||◌, eqb, List, [], ◌∷◌, length, get_or, set, take, map, refl, sym, ap, subst, ◌∙◌, inl, inr, arith}
use Rattle.std.specs.Prelude.{All, filter}
use Rattle.std.proofs.Math.Seq.{map-set_same}
use Rattle.std.proofs.lemmas.Bool.{cases_Bool, or_parts, eq-eqb, ne_eqb, eqb-true}
use Rattle.std.proofs.lemmas.List.{get_or-set_same, length-set}
use Rattle.std.proofs.lemmas.List.Elements.{All-set}
use Rattle.std.proofs.lemmas.List.Sums.{sum_by-set, sum_by_more_le}
use Rattle.ov_layout.specs.declared.part.Part.{Part}
use Rattle.ov_layout.specs.Parts.{has, serves, Ascend, cost_of}
use Rattle.ov_layout.specs.Index.{numbers_of}
use Rattle.ov_layout.specs.Flips.{leaving, is_empty}
use Rattle.ov_layout.specs.Leaving.{IsOwned, VersionsAscend}
use Rattle.ov_layout.proofs.VidLemmas.{Ascend-weaker, has-more, has-get, keys-one}

abbrev pub stays : List ℕ → ℕ → Bool
stays versions vid = not (has versions vid)

filter-twice : (test : ℕ → Bool) (ns : List ℕ) → filter test (filter test ns) ≡ filter test ns
filter-twice test [] = refl
filter-twice test (n ∷ ns) =
    elim (cases_Bool (test n)) [
      | inl e ↦ rw (e, e) (ap (λ (xs : List ℕ). n ∷ xs) (filter-twice test ns))
      | inr e ↦ rw e (filter-twice test ns)
    ]

pub leaving-twice : (versions : List ℕ) (part : Part) → leaving versions (leaving versions part) ≡ leaving versions part
leaving-twice versions part = ap (λ (ns : List ℕ). record part { versions = ns }) (filter-twice (stays versions) part.versions)

pub Ascend-filter : (least : ℕ) (test : ℕ → Bool) (ns : List ℕ) → Ascend least ns → Ascend least (filter test ns)
Ascend-filter least test [] h = tt
Ascend-filter least test (n ∷ ns) h =
    elim (cases_Bool (test n)) [
      | inl e ↦ rw e (h.0, Ascend-filter (suc n) test ns h.1)
      | inr e ↦ rw e (Ascend-weaker least (suc n) (filter test ns) (let le = h.0 in omega arith) (Ascend-filter (suc n) test ns h.1))
    ]

-- a version that is left was there, and didn't leave
pub has-filter : (test : ℕ → Bool) (ns : List ℕ) (n : ℕ) → has (filter test ns) n ≡ true → has ns n ≡ true
has-filter test [] n h = h
has-filter test (m ∷ ns) n h =
    elim (cases_Bool (eqb m n)) [
      | inl e ↦ rw e refl
      | inr e ↦ elim (cases_Bool (test m)) [
        | inl is ↦ rw e (has-filter test ns n (rw (is, e) at h))
        | inr not_so ↦ rw e (has-filter test ns n (rw not_so at h))
      ]
    ]

pub filter-out : (test : ℕ → Bool) (ns : List ℕ) (n : ℕ) → test n ≡ false → has (filter test ns) n ≡ false
filter-out test [] n out = refl
filter-out test (m ∷ ns) n out =
    elim (cases_Bool (test m)) [
      | inl is ↦
          let ne : eqb m n ≡ false = ne_eqb m n (λ same. let both : true ≡ false = sym is ∙ ap test same ∙ out in absurd cc) in
          rw (is, ne) (filter-out test ns n out)
      | inr not_so ↦ rw not_so (filter-out test ns n out)
    ]

pub leaving-out : (versions : List ℕ) (part : Part) (vid : ℕ) → has versions vid ≡ true → serves vid (leaving versions part) ≡ false
leaving-out versions part vid there = filter-out (stays versions) part.versions vid (ap (λ (b : Bool). not b) there)

-- none of these versions is in the partition
abbrev pub IsFree : List ℕ → Part → Type 0
IsFree versions part = (vid : ℕ) → has versions vid ≡ true → serves vid part ≡ false

pub IsFree-leaving : (versions others : List ℕ) (part : Part) → IsFree others part → IsFree others (leaving versions part)
IsFree-leaving versions others part free vid there =
    elim (cases_Bool (serves vid (leaving versions part))) [
      | inl e ↦ let was = has-filter (stays versions) part.versions vid e in let no = free vid there in absurd cc
      | inr e ↦ e
    ]

pub IsOwned-leaving : (number : ℕ → ℕ) (versions : List ℕ) (part : Part) → IsOwned number part → IsOwned number (leaving versions part)
IsOwned-leaving number versions part owned vid there = owned vid (has-filter (stays versions) part.versions vid there)

-- a place within a list has one element
pub get_or-any : (parts : List Part) (k : ℕ) (d e : Part) → k < length parts → get_or parts k d ≡ get_or parts k e
get_or-any [] k d e lt = absurd (omega arith)
get_or-any (part ∷ parts) zero d e lt = refl
get_or-any (part ∷ parts) (suc k) d e lt = get_or-any parts k d e (omega arith)

or-right : (a b : Bool) → (a || b) ≡ false → b ≡ false
or-right true b h = absurd cc
or-right false b h = h

take-all-le : (k : ℕ) (ns : List ℕ) → length ns ≤ k → take k ns ≡ ns
take-all-le zero [] le = refl
take-all-le (suc k) [] le = refl
take-all-le zero (n ∷ ns) le = absurd (omega arith)
take-all-le (suc k) (n ∷ ns) le = ap (λ (xs : List ℕ). n ∷ xs) (take-all-le k ns (omega arith))

-- one version more isn't in any partition
pub free-more : (number : ℕ → ℕ) (parts : List Part) (versions : List ℕ) (k at : ℕ) (d : Part) → Ascend 0 (numbers_of parts) → All (IsOwned number) parts → k < length versions → at < length parts → (get_or parts at d).id ≡ number (get_or versions k 0) → serves (get_or versions k 0) (get_or parts at d) ≡ false → All (IsFree (take k versions)) parts → All (IsFree (take (k + 1) versions)) parts
free-more number parts versions k at d ascend owned lt within id out free j e in_j vid there =
    let v = get_or versions k 0 in
    let was : (has (take k versions) vid || eqb v vid) ≡ true = sym (has-more versions k vid lt) ∙ there in
    elim (cases_Bool (has (take k versions) vid)) [
      | inl before ↦ free j e in_j vid before
      | inr none ↦
          let same : v ≡ vid = eqb-true _ _ (rw none at was) in
          subst (λ (n : ℕ). serves n (get_or parts j e) ≡ false) same (elim (cases_Bool (serves v (get_or parts j e))) [
            | inl is ↦
                let own : number v ≡ (get_or parts j e).id = owned j e in_j v is in
                let first : (get_or parts at e).id ≡ (get_or parts at d).id = ap (λ (part : Part). part.id) (get_or-any parts at e d within) in
                let place : at ≡ j = keys-one (λ (part : Part). part.id) parts e 0 at j ascend within in_j (first ∙ id ∙ own) in
                let here : serves v (get_or parts j e) ≡ false = subst (λ (i : ℕ). serves v (get_or parts i e) ≡ false) place (ap (serves v) (get_or-any parts at e d within) ∙ out) in
                absurd cc
            | inr not_so ↦ not_so
          ])
    ]

-- where none of the versions is in a partition, it stays as it is
free-filter : (versions ns : List ℕ) → ((vid : ℕ) → has versions vid ≡ true → has ns vid ≡ false) → filter (stays versions) ns ≡ ns
free-filter versions [] free = refl
free-filter versions (n ∷ ns) free =
    elim (cases_Bool (has versions n)) [
      | inl is ↦ let no : has (n ∷ ns) n ≡ false = free n is in let here : has (n ∷ ns) n ≡ true = rw (eq-eqb n n refl) refl in absurd cc
      | inr not_so ↦ rw not_so (ap (λ (xs : List ℕ). n ∷ xs) (free-filter versions ns (λ vid there. or-right (eqb n vid) (has ns vid) (free vid there))))
    ]

pub leaving-free : (versions : List ℕ) (part : Part) → IsFree versions part → leaving versions part ≡ part
leaving-free versions part free = ap (λ (ns : List ℕ). record part { versions = ns }) (free-filter versions part.versions free)

pub map-free : (versions : List ℕ) (parts : List Part) → All (IsFree versions) parts → map (leaving versions) parts ≡ parts
map-free versions [] free = refl
map-free versions (part ∷ parts) free =
    rw (leaving-free versions part (free 0 part (omega arith))) (ap (λ (ps : List Part). part ∷ ps) (map-free versions parts (λ k d lt. free (suc k) d (omega arith))))

-- what is true before a version is gone through, of the partitions as they were and as they are
pub record HasLeft (number : ℕ → ℕ) (versions : List ℕ) (k : ℕ) (old now : List Part) : Type 0 where
  pub left : map (leaving versions) now ≡ map (leaving versions) old
  pub numbers : numbers_of now ≡ numbers_of old
  pub owned : All (IsOwned number) now
  pub ascend : All VersionsAscend now
  pub free : All (IsFree (take k versions)) now

-- a partition that doesn't serve it
pub left-none : (number : ℕ → ℕ) (versions : List ℕ) (k : ℕ) (old now : List Part) (at : ℕ) (d : Part) → Ascend 0 (numbers_of old) → HasLeft number versions k old now → k < length versions → at < length now → (get_or now at d).id ≡ number (get_or versions k 0) → serves (get_or versions k 0) (get_or now at d) ≡ false → HasLeft number versions (k + 1) old now
left-none number versions k old now at d ascend h lt within id out = record {
  left = h.left;
  numbers = h.numbers;
  owned = h.owned;
  ascend = h.ascend;
  free = free-more number now versions k at d (rw h.numbers ascend) h.owned lt within id out h.free;
}

-- a partition from which all leave
pub left-one : (number : ℕ → ℕ) (versions : List ℕ) (k : ℕ) (old now : List Part) (at : ℕ) (d : Part) → Ascend 0 (numbers_of old) → HasLeft number versions k old now → k < length versions → at < length now → (get_or now at d).id ≡ number (get_or versions k 0) → HasLeft number versions (k + 1) old (set now at (leaving versions (get_or now at d)))
left-one number versions k old now at d ascend h lt within id =
    let part = get_or now at d in
    let new = set now at (leaving versions part) in
    let here : get_or new at d ≡ leaving versions part = get_or-set_same now at (leaving versions part) d within in
    let numbers : numbers_of new ≡ numbers_of old = map-set_same (λ (p : Part). p.id) now at (leaving versions part) d refl ∙ h.numbers in
    let step : HasLeft number versions k old new = record {
      left = map-set_same (leaving versions) now at (leaving versions part) d (leaving-twice versions part) ∙ h.left;
      numbers = numbers;
      owned = All-set (IsOwned number) now at (leaving versions part) (IsOwned-leaving number versions part (h.owned at d within)) h.owned;
      ascend = All-set VersionsAscend now at (leaving versions part) (Ascend-filter 0 (stays versions) part.versions (h.ascend at d within)) h.ascend;
      free = All-set (IsFree (take k versions)) now at (leaving versions part) (IsFree-leaving versions (take k versions) part (h.free at d within)) h.free;
    } in
    left-none number versions k old new at d ascend step lt (rw (length-set now at (leaving versions part)) within) (rw here id) (rw here (leaving-out versions part (get_or versions k 0) (has-get versions k 0 lt)))

-- after the last version
pub left-all : (number : ℕ → ℕ) (versions : List ℕ) (k : ℕ) (old now : List Part) → HasLeft number versions k old now → length versions ≤ k → now ≡ map (leaving versions) old
left-all number versions k old now h le =
    let free : All (IsFree versions) now = subst (λ (vs : List ℕ). All (IsFree vs) now) (take-all-le k versions le) h.free in
    sym (map-free versions now free) ∙ h.left

-- what the cost loses
pub cost-left : (now : List Part) (at : ℕ) (part d : Part) (saved : ℕ) → at < length now → saved + length part.versions * part.records ≡ length (get_or now at d).versions * (get_or now at d).records → saved + cost_of (set now at part) ≡ cost_of now
cost-left now at part d saved lt e =
    let sum = sum_by-set (λ (p : Part). length p.versions * p.records) now at part d lt in
    let total : cost_of (set now at part) + length (get_or now at d).versions * (get_or now at d).records ≡ cost_of now + length part.versions * part.records = sum in
    omega (arith, total, e)

pub cost-one : (now : List Part) (at : ℕ) (d : Part) → at < length now → length (get_or now at d).versions * (get_or now at d).records ≤ cost_of now
cost-one now at d lt =
    let more = sum_by_more_le (λ (p : Part). length p.versions * p.records) now at d lt in
    let total : cost_of (take at now) + length (get_or now at d).versions * (get_or now at d).records ≤ cost_of now = more in
    omega (arith, total)

-- no partition is empty, where none was and the one that was left isn't
pub some-left : (now : List Part) (at : ℕ) (part : Part) (was is : Bool) → (was ≡ false → All (λ p. is_empty p ≡ false) now) → is ≡ is_empty part → (was || is) ≡ false → All (λ p. is_empty p ≡ false) (set now at part)
some-left now at part was is before said none =
    let both = or_parts was is none in
    All-set (λ (p : Part). is_empty p ≡ false) now at part (sym said ∙ both.1) (before both.0)
