-- What a plan asks of the partitions stays true while it runs.
use Rattle.std.proofs.Common.{◌≡◌, ℕ, zero, suc, ◌<◌, ◌≤◌, Bool, true, false, not, ◌||◌, eqb, List, [], ◌∷◌, ◌++◌, length, refl, sym, ap, subst, ◌∙◌, inl, inr, arith, append_assoc}
use Rattle.std.specs.Prelude.{Option, Some, None, All, filter}
use Rattle.std.proofs.lemmas.Bool.{cases_Bool, eq-eqb, ne_eqb, eqb-true}
use Rattle.ov_layout.specs.declared.part.Part.{Part}
use Rattle.ov_layout.specs.Parts.{has, serves, is_placed, part_numbered, Ascend}
use Rattle.ov_layout.specs.Changes.{IsNew, IsAbove}
use Rattle.ov_layout.specs.Flips.{leaving, is_empty, left_parts}
use Rattle.ov_layout.proofs.LeaveLemmas.{stays, has-filter, filter-out}
use Rattle.ov_layout.proofs.VidLemmas.{has-append}
use Rattle.ov_catalog.specs.declared.cvd.Target.{Target}
use Rattle.ov_catalog.specs.Running.{AreTargets, IsKept, IsTarget, is_in_target}

or-true : (b : Bool) → (b || true) ≡ true
or-true true = refl
or-true false = refl

or-none-left : (a b : Bool) → (a || b) ≡ false → a ≡ false
or-none-left true b h = absurd cc
or-none-left false b h = refl

or-none-right : (a b : Bool) → (a || b) ≡ false → b ≡ false
or-none-right true b h = absurd cc
or-none-right false b h = h

or-either : (a b : Bool) → (a || b) ≡ true → a ≡ false → b ≡ true
or-either true b h out = absurd cc
or-either false b h out = h

-- ---- versions that leave

has-kept : (versions ns : List ℕ) (n : ℕ) → has versions n ≡ false → has ns n ≡ true → has (filter (stays versions) ns) n ≡ true
has-kept versions [] n out there = absurd cc
has-kept versions (m ∷ ns) n out there =
    elim (cases_Bool (eqb m n)) [
      | inl e ↦
          let same : m ≡ n = eqb-true m n e in
          let stay : has versions m ≡ false = ap (has versions) same ∙ out in
          rw (stay, e) refl
      | inr e ↦
          let rest = has-kept versions ns n out (rw e at there) in
          elim (cases_Bool (has versions m)) [
            | inl gone ↦ rw gone rest
            | inr here ↦ rw (here, e) rest
          ]
    ]

some-left : (versions : List ℕ) (n : ℕ) → has versions n ≡ true → eqb (length versions) 0 ≡ false
some-left [] n h = absurd cc
some-left (v ∷ versions) n h = ne_eqb (length (v ∷ versions)) 0 (λ e. absurd (omega (arith, e)))

-- a version that stays is still placed
pub left-placed : (versions : List ℕ) (vid : ℕ) (parts : List Part) → has versions vid ≡ false → is_placed parts vid ≡ true → is_placed (left_parts versions parts) vid ≡ true
left-placed versions vid [] out h = absurd cc
left-placed versions vid (part ∷ parts) out h =
    elim (cases_Bool (serves vid part)) [
      | inl e ↦
          let stay = has-kept versions part.versions vid out e in
          let some = some-left (filter (stays versions) part.versions) vid stay in
          rw (some, stay) refl
      | inr e ↦
          let rest = left-placed versions vid parts out (rw e at h) in
          elim (cases_Bool (is_empty (leaving versions part))) [
            | inl gone ↦ rw gone rest
            | inr here ↦ rw (here, rest) (or-true _)
          ]
    ]

-- and no other one is
pub left-none : (versions : List ℕ) (vid : ℕ) (parts : List Part) → is_placed parts vid ≡ false → is_placed (left_parts versions parts) vid ≡ false
left-none versions vid [] h = refl
left-none versions vid (part ∷ parts) h =
    elim (cases_Bool (serves vid part)) [
      | inl e ↦ let no = rw e at h in absurd cc
      | inr e ↦
          let rest = left-none versions vid parts (rw e at h) in
          elim (cases_Bool (is_empty (leaving versions part))) [
            | inl gone ↦ rw gone rest
            | inr here ↦
                let out : has (filter (stays versions) part.versions) vid ≡ false = elim (cases_Bool (has (filter (stays versions) part.versions) vid)) [
                  | inl is ↦ let was = has-filter (stays versions) part.versions vid is in absurd cc
                  | inr not_so ↦ not_so
                ] in
                rw (here, out) rest
          ]
    ]

pub left-new : (n : ℕ) (versions : List ℕ) (parts : List Part) → IsNew n parts → IsNew n (left_parts versions parts)
left-new n versions [] h = tt
left-new n versions (part ∷ parts) h =
    let rest = left-new n versions parts h.1 in
    elim (cases_Bool (is_empty (leaving versions part))) [
      | inl gone ↦ rw gone rest
      | inr here ↦ rw here (h.0, rest)
    ]

pub above-all : (n : ℕ) (versions : List ℕ) → ((vid : ℕ) → has versions vid ≡ true → vid < n) → IsAbove n versions
above-all n [] h = tt
above-all n (v ∷ versions) h = (h v (rw (eq-eqb v v refl) refl), above-all n versions (λ vid there. h vid (rw there (or-true (eqb v vid)))))

pub new-push : (n : ℕ) (parts : List Part) (part : Part) → IsNew n parts → IsAbove n part.holds → IsNew n (parts ++ part ∷ [])
new-push n [] part h above = (above, tt)
new-push n (p ∷ parts) part h above = (h.0, new-push n parts part h.1 above)

-- ---- partitions by their numbers

pub numbered-push : (id : ℕ) (parts : List Part) (last part : Part) → part_numbered id parts ≡ Some part → part_numbered id (parts ++ last ∷ []) ≡ Some part
numbered-push id [] last part h = absurd cc
numbered-push id (p ∷ parts) last part h =
    elim (cases_Bool (eqb p.id id)) [
      | inl e ↦ rw e (rw e at h)
      | inr e ↦ rw e (numbered-push id parts last part (rw e at h))
    ]

numbered-left : (versions : List ℕ) (id : ℕ) (parts : List Part) (part : Part) → part_numbered id parts ≡ Some part → is_empty (leaving versions part) ≡ false → part_numbered id (left_parts versions parts) ≡ Some (leaving versions part)
numbered-left versions id [] part h some = absurd cc
numbered-left versions id (p ∷ parts) part h some =
    elim (cases_Bool (eqb p.id id)) [
      | inl e ↦
          let first : Some p ≡ Some part = rw e at h in
          let same : p ≡ part = cc in
          let left : is_empty (leaving versions p) ≡ false = ap (λ (x : Part). is_empty (leaving versions x)) same ∙ some in
          rw (left, e) (ap (λ (x : Part). Some (leaving versions x)) same)
      | inr e ↦
          let rest = numbered-left versions id parts part (rw e at h) some in
          elim (cases_Bool (is_empty (leaving versions p))) [
            | inl gone ↦ rw gone rest
            | inr here ↦ rw (here, e) rest
          ]
    ]

-- each target's versions ascend
pub targets-ascend : (count : ℕ) (parts : List Part) (before : List ℕ) (ts : List Target) → AreTargets count parts before ts → All (λ t. Ascend 0 t.versions) ts
targets-ascend count parts before [] h k d lt = absurd (omega arith)
targets-ascend count parts before (t ∷ ts) h zero d lt = h.0.ascend
targets-ascend count parts before (t ∷ ts) h (suc k) d lt = targets-ascend count parts (before ++ t.versions) ts h.3 k d (omega arith)

-- ---- after a flip

-- what the lemma says of the partition after it: it has no version of those that left
has-apart : (versions before ns : List ℕ) (vid : ℕ) → has versions vid ≡ false → has ((versions ++ before) ++ ns) vid ≡ true → has (before ++ ns) vid ≡ true
has-apart versions before ns vid out there =
    let all : has (versions ++ (before ++ ns)) vid ≡ true = rw (← append_assoc versions before ns) there in
    or-either (has versions vid) (has (before ++ ns) vid) (sym (has-append versions (before ++ ns) vid) ∙ all) out

left-out : (versions ns : List ℕ) (vid : ℕ) → has (filter (stays versions) ns) vid ≡ true → has versions vid ≡ false
left-out versions ns vid there =
    elim (cases_Bool (has versions vid)) [
      | inl is ↦ let gone = filter-out (stays versions) ns vid (ap (λ (b : Bool). not b) is) in absurd cc
      | inr not_so ↦ not_so
    ]

module _ (versions : List ℕ) (parts : List Part) (last : Part) (zero_none : part_numbered 0 (left_parts versions parts ++ last ∷ []) ≡ None) where
  kept-after : (before : List ℕ) (t : Target) (o : Option Part) → part_numbered t.source parts ≡ o → ((vid : ℕ) → has versions vid ≡ true → has t.versions vid ≡ false)
      → IsKept (versions ++ before) t o → IsKept before t (part_numbered t.source (left_parts versions parts ++ last ∷ []))
  kept-after before t None found apart h =
      let none : part_numbered t.source (left_parts versions parts ++ last ∷ []) ≡ None = ap (λ (id : ℕ). part_numbered id (left_parts versions parts ++ last ∷ [])) h.0 ∙ zero_none in
      rw none (h.0, h.1)
  kept-after before t (Some part) found apart h =
      let stay : has versions h.shared ≡ false = elim (cases_Bool (has versions h.shared)) [
        | inl is ↦ let no = apart h.shared is in let yes = h.of_target in absurd cc
        | inr not_so ↦ not_so
      ] in
      let there : has (filter (stays versions) part.versions) h.shared ≡ true = has-kept versions part.versions h.shared stay h.of_part in
      let some : is_empty (leaving versions part) ≡ false = some-left (filter (stays versions) part.versions) h.shared there in
      let now = numbered-push t.source (left_parts versions parts) last (leaving versions part) (numbered-left versions t.source parts part found some) in
      rw now (record {
        within = h.within;
        shared = h.shared;
        of_target = h.of_target;
        of_part = there;
        emptied = λ vid is. has-apart versions before t.versions vid (left-out versions part.versions vid is) (h.emptied vid (has-filter (stays versions) part.versions vid is));
      })

  pub targets-after : (count : ℕ) (before : List ℕ) (ts : List Target) → ((vid : ℕ) → has versions vid ≡ true → is_in_target ts vid ≡ false)
      → AreTargets count parts (versions ++ before) ts → AreTargets count (left_parts versions parts ++ last ∷ []) before ts
  targets-after count before [] apart h = tt
  targets-after count before (t ∷ ts) apart h =
      let own : (vid : ℕ) → has versions vid ≡ true → has t.versions vid ≡ false = λ vid is. or-none-left (has t.versions vid) (is_in_target ts vid) (apart vid is) in
      let others : (vid : ℕ) → has versions vid ≡ true → is_in_target ts vid ≡ false = λ vid is. or-none-right (has t.versions vid) (is_in_target ts vid) (apart vid is) in
      let rest : AreTargets count parts (versions ++ (before ++ t.versions)) ts = subst (λ (vs : List ℕ). AreTargets count parts vs ts) (append_assoc versions before t.versions) h.3 in
      (h.0, kept-after before t (part_numbered t.source parts) refl own h.1, h.2, targets-after count (before ++ t.versions) ts others rest)

-- ---- where the partitions that targets keep of stay as they are

module _ (unmoved : ℕ → Bool) (count more : ℕ) (parts now : List Part) (up : count ≤ more) (zero_none : part_numbered 0 now ≡ None)
    (same : (id : ℕ) (part : Part) → part_numbered id parts ≡ Some part → ((vid : ℕ) → has part.versions vid ≡ true → unmoved vid ≡ true) → part_numbered id now ≡ Some part) where
  kept-now : (before : List ℕ) (t : Target) (o : Option Part) → part_numbered t.source parts ≡ o → ((vid : ℕ) → has (before ++ t.versions) vid ≡ true → unmoved vid ≡ true)
      → IsKept before t o → IsKept before t (part_numbered t.source now)
  kept-now before t None found inside h =
      let none : part_numbered t.source now ≡ None = ap (λ (id : ℕ). part_numbered id now) h.0 ∙ zero_none in
      rw none (h.0, h.1)
  kept-now before t (Some part) found inside h =
      let here = same t.source part found (λ vid is. inside vid (h.emptied vid is)) in
      rw here h

  pub targets-now : (before : List ℕ) (ts : List Target) → ((vid : ℕ) → has before vid ≡ true → unmoved vid ≡ true) → ((vid : ℕ) → is_in_target ts vid ≡ true → unmoved vid ≡ true)
      → AreTargets count parts before ts → AreTargets more now before ts
  targets-now before [] earlier later h = tt
  targets-now before (t ∷ ts) earlier later h =
      let own : IsTarget count t = h.0 in
      let wide : IsTarget more t = record {
        some = own.some;
        ascend = own.ascend;
        there = λ vid is. (let pair = own.there vid is in (pair.0, (let le = pair.1 in omega (arith, le, up))));
        kept = own.kept;
        few = own.few;
      } in
      let inside : (vid : ℕ) → has (before ++ t.versions) vid ≡ true → unmoved vid ≡ true = λ vid is.
      elim (cases_Bool (has before vid)) [
        | inl e ↦ earlier vid e
        | inr e ↦ later vid (rw (or-either (has before vid) (has t.versions vid) (sym (has-append before t.versions vid) ∙ is) e) refl)
      ]
      in
      (wide, kept-now before t (part_numbered t.source parts) refl inside h.1, h.2, targets-now (before ++ t.versions) ts inside (λ vid is. later vid (rw is (or-true (has t.versions vid)))) h.3)
