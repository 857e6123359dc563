-- Targets of a plan gone through from the last one on, with marks at the versions of later ones.
use Rattle.std.proofs.Common.{◌≡◌, ℕ, zero, suc, ◌+◌, ◌-◌, ◌<◌, ◌≤◌, Bool, true, false, ◌||◌, ◌&&◌, eqb, List, [], ◌∷◌, length, get_or, set, take, drop, map, refl, sym, ap, subst, ◌∙◌, inl, inr, arith}
use Rattle.std.specs.Prelude.{Option, Some, None, nat_le}
use Rattle.std.specs.List.{list_all, list_any}
use Rattle.std.proofs.lemmas.Bool.{cases_Bool, or_left, or_right, eq-eqb, ne_eqb, eqb-true, le-leb, leb-true}
use Rattle.std.proofs.lemmas.List.{drop_more, get_or-set_same, get_or-set_other}
use Rattle.ov_host.specs.declared.area.Extent.{Extent}
use Rattle.ov_layout.specs.declared.part.Part.{Part}
use Rattle.ov_layout.specs.Changes.{IsNew}
use Rattle.ov_layout.specs.Index.{numbers_of}
use Rattle.ov_layout.specs.Parts.{ArePartsFrom, has, is_placed, part_numbered, serves}
use Rattle.ov_layout.proofs.PlacedLemmas.{ids-ascend, versions-ascend}
use Rattle.ov_layout.proofs.VidLemmas.{Ascend-weaker, has-more}
use Rattle.ov_catalog.specs.declared.cvd.Target.{Target}
use Rattle.ov_catalog.specs.declared.cvd.Version.{Version}
use Rattle.ov_catalog.specs.Applying.{rows_at, part_numbered as number_in}
use Rattle.ov_catalog.specs.Numbers.{PartNumbers, SetNumbers, TargetNumbers}
use Rattle.ov_catalog.specs.Planning.{are_targets, is_kept, is_size, is_source, meets}
use Rattle.ov_catalog.specs.Running.{is_in_target}
use Rattle.ov_catalog.specs.Seen.{AscendWithin, is_kept_by, is_source_by}
use Rattle.ov_catalog.specs.Sets.{part_in, target_in, version_in}
use Rattle.ov_catalog.proofs.CommitLemmas.{rows-in}
use Rattle.ov_catalog.proofs.TargetLemmas.{above-one, numbered-in}

-- ---- one version of many

pub all-more : (p : ℕ → Bool) (xs : List ℕ) (k : ℕ) → k < length xs → list_all p (drop k xs) ≡ (p (get_or xs k 0) && list_all p (drop (k + 1) xs))
all-more p xs k lt = ap (λ (ys : List ℕ). list_all p ys) (drop_more xs k 0 lt)

rows-are : (versions : List Version) (vid : ℕ) (d : Version) → 1 ≤ vid → vid ≤ length versions → rows_at (map version_in versions) vid ≡ (get_or versions (vid - 1) d).rows
rows-are versions vid d one le = rows-in versions (vid - 1) d (omega (arith, one, le))

pub rows-over : (versions : List Version) (vid size : ℕ) (d : Version) → 1 ≤ vid → vid ≤ length versions → size < (get_or versions (vid - 1) d).rows → nat_le (rows_at (map version_in versions) vid) size ≡ false
rows-over versions vid size d one le more =
    let is = rows-are versions vid d one le in
    elim (cases_Bool (nat_le (rows_at (map version_in versions) vid) size)) [
      | inl e ↦ let few = leb-true _ _ e in absurd (omega (arith, is, few, more))
      | inr e ↦ e
    ]

pub rows-within : (versions : List Version) (vid size : ℕ) (d : Version) → 1 ≤ vid → vid ≤ length versions → (get_or versions (vid - 1) d).rows ≤ size → nat_le (rows_at (map version_in versions) vid) size ≡ true
rows-within versions vid size d one le few =
    let is = rows-are versions vid d one le in
    le-leb _ _ (omega (arith, is, few))

-- ---- marks

mark-or : (a b : Bool) → (a || (b || true)) ≡ true
mark-or true b = refl
mark-or false true = refl
mark-or false false = refl

mark-same : (a b : Bool) → (a || (b || false)) ≡ (a || b)
mark-same true b = refl
mark-same false true = refl
mark-same false false = refl

pub mark-more : (seen old : List Bool) (vids : List ℕ) (k : ℕ) → k < length vids → get_or vids k 0 < length seen → ((n : ℕ) → get_or seen n false ≡ (get_or old n false || has (take k vids) n))
    → (n : ℕ) → get_or (set seen (get_or vids k 0) true) n false ≡ (get_or old n false || has (take (k + 1) vids) n)
mark-more seen old vids k lt low so_far n =
    let vid = get_or vids k 0 in
    let more : (get_or old n false || has (take (k + 1) vids) n) ≡ (get_or old n false || (has (take k vids) n || eqb vid n)) = ap (λ (b : Bool). get_or old n false || b) (has-more vids k n lt) in
    elim (cases_Bool (eqb vid n)) [
      | inl e ↦
          let same : vid ≡ n = eqb-true vid n e in
          let here : get_or (set seen vid true) n false ≡ true = subst (λ (m : ℕ). get_or (set seen vid true) m false ≡ true) same (get_or-set_same seen vid true false low) in
          here ∙ sym (more ∙ (rw e (mark-or (get_or old n false) (has (take k vids) n))))
      | inr e ↦
          let other : n ≡ vid → ⊥ = λ same. (let yes = eq-eqb vid n (sym same) in absurd cc) in
          get_or-set_other seen vid n true false other ∙ so_far n ∙ sym (more ∙ (rw e (mark-same (get_or old n false) (has (take k vids) n))))
    ]

-- ---- meeting, and marks

eqb-sym : (a b : ℕ) → eqb a b ≡ eqb b a
eqb-sym a b =
    elim (cases_Bool (eqb a b)) [
      | inl e ↦ let same = eqb-true a b e in e ∙ sym (eq-eqb b a (sym same))
      | inr e ↦ e ∙ sym (ne_eqb b a (λ same. let yes = eq-eqb a b (sym same) in absurd cc))
    ]

or-swap : (a b p q : Bool) → ((a || b) || (p || q)) ≡ ((a || p) || (b || q))
or-swap true b p q = refl
or-swap false true true q = refl
or-swap false true false q = refl
or-swap false false p q = refl

any-or : (p q : ℕ → Bool) (xs : List ℕ) → list_any (λ x. p x || q x) xs ≡ (list_any p xs || list_any q xs)
any-or p q [] = refl
any-or p q (x ∷ xs) = ap (λ (b : Bool). (p x || q x) || b) (any-or p q xs) ∙ or-swap (p x) (q x) (list_any p xs) (list_any q xs)

any-same : (p q : ℕ → Bool) (xs : List ℕ) → ((x : ℕ) → p x ≡ q x) → list_any p xs ≡ list_any q xs
any-same p q [] same = refl
any-same p q (x ∷ xs) same = λ i. same x i || any-same p q xs same i

any-none : (xs : List ℕ) → list_any (λ x. false) xs ≡ false
any-none [] = refl
any-none (x ∷ xs) = any-none xs

meets-sym : (a b : List ℕ) → list_any (has a) b ≡ meets a b
meets-sym [] b = any-none b
meets-sym (x ∷ a) b =
    any-or (λ v. eqb x v) (has a) b
    ∙ (λ i. any-same (λ v. eqb x v) (λ v. eqb v x) b (λ v. eqb-sym x v) i || meets-sym a b i)

pub seen-meets : (f : ℕ → Bool) (rest : List Target) (vids : List ℕ) → ((vid : ℕ) → f vid ≡ is_in_target rest vid)
    → list_any f vids ≡ list_any (λ other. meets other vids) (map (λ (u : TargetNumbers). u.versions) (map target_in rest))
seen-meets f rest vids same = any-same f (is_in_target rest) vids same ∙ by rest
  where
    by : (ts : List Target) → list_any (is_in_target ts) vids ≡ list_any (λ other. meets other vids) (map (λ (u : TargetNumbers). u.versions) (map target_in ts))
    by [] = any-none vids
    by (t ∷ ts) = any-or (has t.versions) (is_in_target ts) vids ∙ (λ i. meets-sym t.versions vids i || by ts i)

kept-same : (f : ℕ → Bool) (t : TargetNumbers) (rest : List Target) (o : Option (PartNumbers Extent)) → ((vid : ℕ) → f vid ≡ is_in_target rest vid)
    → is_kept_by f t o ≡ is_kept t (map (λ (u : TargetNumbers). u.versions) (map target_in rest)) o
kept-same f t rest None same = refl
kept-same f t rest (Some part) same =
    let later = map (λ (u : TargetNumbers). u.versions) (map target_in rest) in
    let whole : is_kept t later (Some part) ≡ is_kept t later (Some part) = refl in
    rw (seen-meets f rest part.versions same) refl

pub source-same : (f : ℕ → Bool) (parts : List (PartNumbers Extent)) (t : TargetNumbers) (rest : List Target) → ((vid : ℕ) → f vid ≡ is_in_target rest vid)
    → is_source_by f parts t ≡ is_source parts t (map (λ (u : TargetNumbers). u.versions) (map target_in rest))
source-same f parts t rest same = rw (kept-same f t rest (number_in parts t.source) same) refl

-- ---- partitions whose versions can be marked

pub placed-at : (parts : List Part) (at vid : ℕ) (d : Part) → at < length parts → has (get_or parts at d).versions vid ≡ true → is_placed parts vid ≡ true
placed-at [] at vid d lt there = absurd (omega arith)
placed-at (part ∷ parts) zero vid d lt there = or_left (serves vid part) (is_placed parts vid) there
placed-at (part ∷ parts) (suc at) vid d lt there = or_right (serves vid part) (is_placed parts vid) (placed-at parts at vid d (omega arith) there)

placed-below : (limit least next : ℕ) (parts : List Part) → ArePartsFrom least next parts → IsNew limit parts → (vid : ℕ) → is_placed parts vid ≡ true → vid < limit
placed-below limit least next [] sound new vid there = absurd cc
placed-below limit least next (part ∷ parts) sound new vid there =
    elim (cases_Bool (serves vid part)) [
      | inl e ↦ above-one limit part.holds vid new.0 (sound.1.held vid e)
      | inr e ↦ placed-below limit (suc part.id) next parts sound.2 new.1 vid (rw e at there)
    ]

pub set-within : (limit next : ℕ) (parts : List Part) → ArePartsFrom 1 next parts → IsNew limit parts → AscendWithin limit parts
set-within limit next parts sound new = record {
  numbers = Ascend-weaker 0 1 (numbers_of parts) (omega arith) (ids-ascend 1 next parts sound);
  versions = versions-ascend 1 next parts sound;
  below = placed-below limit 1 next parts sound new;
}

-- ---- a source by its number

pub source-none : (f : ℕ → Bool) (parts : List Part) (t : TargetNumbers) → (t.source ≡ 0 → ⊥) → part_numbered t.source parts ≡ None → is_source_by f (map part_in parts) t ≡ false
source-none f parts t some none = rw (ne_eqb t.source 0 some, numbered-in t.source parts, none) refl

pub source-some : (f : ℕ → Bool) (parts : List Part) (t : TargetNumbers) (part : Part) → (t.source ≡ 0 → ⊥) → part_numbered t.source parts ≡ Some part → is_source_by f (map part_in parts) t ≡ is_kept_by f t (Some (part_in part))
source-some f parts t part some found = rw (ne_eqb t.source 0 some, numbered-in t.source parts, found) refl

-- ---- one target of many

and-false : (a b : Bool) → b ≡ false → (a && b) ≡ false
and-false true b h = h
and-false false b h = refl

pub are-not : (d : SetNumbers Extent Extent) (k : ℕ) (ts : List Target) → are_targets d (map target_in (drop k ts)) ≡ false → are_targets d (map target_in ts) ≡ false
are-not d zero ts h = h
are-not d (suc k) [] h = h
are-not d (suc k) (t ∷ ts) h = and-false _ _ (are-not d k ts h)

pub are-one : (d : SetNumbers Extent Extent) (f : ℕ → Bool) (ts : List Target) (k : ℕ) (e : Target) → k < length ts → ((vid : ℕ) → f vid ≡ is_in_target (drop (k + 1) ts) vid)
    → are_targets d (map target_in (drop (k + 1) ts)) ≡ true
    → are_targets d (map target_in (drop k ts)) ≡ (is_size d (target_in (get_or ts k e)) && is_source_by f d.parts (target_in (get_or ts k e)))
are-one d f ts k e lt marks later =
    let t = get_or ts k e in
    let rest = drop (k + 1) ts in
    ap (λ (xs : List Target). are_targets d (map target_in xs)) (drop_more ts k e lt)
    ∙ (λ i. (is_size d (target_in t) && sym (source-same f d.parts (target_in t) rest marks) i) && later i)
    ∙ and-true _
  where
    and-true : (b : Bool) → (b && true) ≡ b
    and-true true = refl
    and-true false = refl

or-comm : (a b : Bool) → (a || b) ≡ (b || a)
or-comm true true = refl
or-comm true false = refl
or-comm false true = refl
or-comm false false = refl

pub marks-one : (seen now : List Bool) (ts : List Target) (k : ℕ) (e : Target) → k < length ts → ((vid : ℕ) → get_or seen vid false ≡ is_in_target (drop (k + 1) ts) vid)
    → ((vid : ℕ) → get_or now vid false ≡ (get_or seen vid false || has (get_or ts k e).versions vid)) → (vid : ℕ) → get_or now vid false ≡ is_in_target (drop k ts) vid
marks-one seen now ts k e lt was marked vid =
    marked vid ∙ ap (λ (b : Bool). b || has (get_or ts k e).versions vid) (was vid) ∙ or-comm (is_in_target (drop (k + 1) ts) vid) (has (get_or ts k e).versions vid)
    ∙ sym (ap (λ (xs : List Target). is_in_target xs vid) (drop_more ts k e lt))
