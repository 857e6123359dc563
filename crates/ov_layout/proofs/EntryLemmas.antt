-- The entries of partitions, sorted.
use Rattle.std.proofs.Common.{◌≡◌, ℕ, zero, suc, ◌+◌, ◌^◌, ◌<◌, ◌≤◌, Bool, false, cond, eqb, List, [], ◌∷◌, length, get_or, map, refl, sym, ap, ◌∙◌, inl, inr, arith}
use Rattle.std.specs.Prelude.{All, flat_map, sum_by}
use Rattle.std.specs.List.Sorted.{IsNonDecreasingBy, IsPermutation}
use Rattle.std.proofs.lemmas.Bool.{cases_Bool, cases_lt, eq-eqb, eqb-true}
use Rattle.std.proofs.lemmas.List.{length-append, length-map}
use Rattle.std.proofs.lemmas.List.Sums.{sum_by-cons, sum_by-append}
use Rattle.std.proofs.lemmas.List.Sorted.{sum_by-IsPermutation, All-permutation}
use Rattle.std.proofs.lemmas.List.Concat.{flat_map-cons}
use Rattle.ov_layout.specs.declared.index.Entry.{Entry}
use Rattle.ov_layout.specs.declared.part.Part.{Part}
use Rattle.ov_layout.specs.Parts.{has, serves, Ascend, AreParts, ArePartsFrom, times_placed}
use Rattle.ov_layout.specs.Index.{AreEntries, IsIndex, FitsEntry, entries_for, entry_times, number_at, number_of, versions_in}
use Rattle.ov_layout.proofs.SumLemmas.{entry_for}
use Rattle.ov_layout.proofs.VidLemmas.{has-below}

abbrev pub made_entry : ℕ → ℕ → Entry
made_entry id vid = record { vid = vid; part = id }

-- a sum over the entries of versions that ascend: the value where a version is there
sum-made : (id value vid least : ℕ) (f : Entry → ℕ) → ((v : ℕ) → f (made_entry id v) ≡ cond (eqb v vid) value 0) → (vids : List ℕ) → Ascend least vids → sum_by f (map (made_entry id) vids) ≡ cond (has vids vid) value 0
sum-made id value vid least f is [] h = refl
sum-made id value vid least f is (v ∷ vids) h =
    let rest = sum-made id value vid (suc v) f is vids h.1 in
    let step = sum_by-cons f (made_entry id v) (map (made_entry id) vids) in
    elim (cases_Bool (eqb v vid)) [
      | inl e ↦
          let same : v ≡ vid = eqb-true _ _ e in
          let none : has vids vid ≡ false = has-below (suc v) vids vid h.1 (omega arith) in
          let own : f (made_entry id v) ≡ value = rw e at (is v) in
          let after : sum_by f (map (made_entry id) vids) ≡ 0 = rw none at rest in
          step ∙ rw e (omega (arith, own, after))
      | inr e ↦
          let own : f (made_entry id v) ≡ 0 = rw e at (is v) in
          step ∙ rw e (omega (arith, own, rest))
    ]

times-made : (vid least next : ℕ) (parts : List Part) → ArePartsFrom least next parts → entry_times vid (flat_map entries_for parts) ≡ times_placed vid parts
times-made vid least next [] h = refl
times-made vid least next (part ∷ parts) h =
    let f : Entry → ℕ = λ entry. cond (eqb entry.vid vid) 1 0 in
    let rest = times-made vid (suc part.id) next parts h.2 in
    let own = sum-made part.id 1 vid 0 f (λ v. refl) part.versions h.1.versions in
    let split = sum_by-append f (entries_for part) (flat_map entries_for parts) in
    let all = ap (λ (es : List Entry). sum_by f es) (flat_map-cons entries_for part parts) in
    let right = sum_by-cons (λ (p : Part). cond (serves vid p) 1 0) part parts in
    all ∙ split ∙ rw (own, rest) (sym right)

numbers-made : (vid least next : ℕ) (parts : List Part) → ArePartsFrom least next parts → number_at vid (flat_map entries_for parts) ≡ number_of vid parts
numbers-made vid least next [] h = refl
numbers-made vid least next (part ∷ parts) h =
    let f : Entry → ℕ = λ entry. cond (eqb entry.vid vid) entry.part 0 in
    let rest = numbers-made vid (suc part.id) next parts h.2 in
    let own = sum-made part.id part.id vid 0 f (λ v. refl) part.versions h.1.versions in
    let split = sum_by-append f (entries_for part) (flat_map entries_for parts) in
    let all = ap (λ (es : List Entry). sum_by f es) (flat_map-cons entries_for part parts) in
    let right = sum_by-cons (λ (p : Part). cond (serves vid p) p.id 0) part parts in
    all ∙ split ∙ rw (own, rest) (sym right)

count-made : (parts : List Part) → length (flat_map entries_for parts) ≡ versions_in parts
count-made [] = refl
count-made (part ∷ parts) =
    let all = ap (λ (es : List Entry). length es) (flat_map-cons entries_for part parts) in
    let right = sum_by-cons (λ (p : Part). length p.versions) part parts in
    all ∙ length-append (entries_for part) (flat_map entries_for parts) ∙ rw (count-made parts, length-map part.versions (made_entry part.id)) (sym right)

-- where a version has no entry
times-cons : (vid : ℕ) (entry : Entry) (index : List Entry) → entry_times vid (entry ∷ index) ≡ cond (eqb entry.vid vid) 1 0 + entry_times vid index
times-cons vid entry index = sum_by-cons (λ (x : Entry). cond (eqb x.vid vid) 1 0) entry index

times-none : (vid : ℕ) (index : List Entry) → entry_times vid index ≡ 0 → (k : ℕ) (d : Entry) → k < length index → (get_or index k d).vid ≡ vid → ⊥
times-none vid [] h k d lt e = absurd (omega arith)
times-none vid (entry ∷ index) h zero d lt e =
    let step = times-cons vid entry index in
    let head = ap {B = ℕ} (λ (b : Bool). cond b 1 0) (eq-eqb entry.vid vid e) in
    absurd (omega (arith, step, head, h))
times-none vid (entry ∷ index) h (suc k) d lt e =
    let step = times-cons vid entry index in
    times-none vid index (let zero : entry_times vid index ≡ 0 = omega (arith, step, h) in zero) k d (omega arith) e

-- entries by their vids, each vid once
sorted-entries : (least : ℕ) (index : List Entry) → least ≤ 2 ^ 32 → IsNonDecreasingBy (λ entry. entry.vid) index → ((vid : ℕ) → entry_times vid index ≤ 1) → All FitsEntry index → ((k : ℕ) (d : Entry) → k < length index → least ≤ (get_or index k d).vid) → AreEntries least index
sorted-entries least [] le order once fit above = le
sorted-entries least (entry ∷ index) le order once fit above =
    let step = times-cons entry.vid entry index in
    let head = ap {B = ℕ} (λ (b : Bool). cond b 1 0) (eq-eqb entry.vid entry.vid refl) in
    let most = once entry.vid in
    let none : entry_times entry.vid index ≡ 0 = omega (arith, step, head, most) in
    let own = fit 0 entry (omega arith) in (
      above 0 entry (omega arith),
      own.1,
      sorted-entries (suc entry.vid) index (let lt = own.0 in omega arith) (λ i j d le' lt. order (suc i) (suc j) d (omega arith) (omega arith)) (λ vid. let part = times-cons vid entry index in let all = once vid in omega (arith, part, all)) (λ k d lt. fit (suc k) d (omega arith)) (λ k d lt.
          let from = order 0 (suc k) d (omega arith) (omega arith) in
          let differs : (get_or index k d).vid ≡ entry.vid → ⊥ = times-none entry.vid index none k d lt in
          elim (cases_lt entry.vid (get_or index k d).vid) [
            | inl more ↦ omega arith
            | inr le'' ↦ absurd (differs (omega arith))
          ]),
    )

once-le : {m n : ℕ} → m ≡ n → n ≤ 1 → m ≤ 1
once-le e le = omega arith

pub ids-some : (least next : ℕ) (parts : List Part) → 1 ≤ least → ArePartsFrom least next parts → All (λ part. 1 ≤ part.id) parts
ids-some least next [] some h k d lt = absurd (omega arith)
ids-some least next (part ∷ parts) some h zero d lt = let le = h.0 in omega arith
ids-some least next (part ∷ parts) some h (suc k) d lt = ids-some (suc part.id) next parts (omega arith) h.2 k d (omega arith)

-- the sorted entries of the partitions are their index
pub sorted-index : (next : ℕ) (parts : List Part) (entries index : List Entry) → AreParts parts next → entries ≡ flat_map entries_for parts → All FitsEntry entries → IsPermutation entries index → length index ≡ length entries → IsNonDecreasingBy (λ entry. entry.vid) index → IsIndex index parts
sorted-index next parts entries index sound made fit moved len order =
    let times : (vid : ℕ) → entry_times vid index ≡ times_placed vid parts = λ vid. sum_by-IsPermutation (λ (x : Entry). cond (eqb x.vid vid) 1 0) entries index moved ∙ ap (λ (es : List Entry). entry_times vid es) made ∙ times-made vid 1 next parts sound.sound in
    record {
      entries = sorted-entries 0 index (omega arith) order (λ vid. let e = times vid in let le = sound.once vid in once-le e le) (All-permutation FitsEntry entries index moved fit) (λ k d lt. omega arith);
      numbers = λ vid. sum_by-IsPermutation (entry_for vid) entries index moved ∙ ap (λ (es : List Entry). number_at vid es) made ∙ numbers-made vid 1 next parts sound.sound;
      count = len ∙ ap (λ (es : List Entry). length es) made ∙ count-made parts;
    }
