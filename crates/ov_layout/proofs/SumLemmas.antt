-- Sums over entries and partitions.
use Rattle.std.proofs.Common.{◌≡◌, ℕ, zero, suc, ◌+◌, ◌*◌, ◌^◌, ◌<◌, ◌≤◌, Bool, true, false, cond, ◌||◌, eqb, List, [], ◌∷◌, length, get_or, set, take, refl, sym, ap, subst, ◌∙◌, inl, inr, arith, zero-add, add-zero}
use Rattle.std.proofs.lemmas.Bool.{cases_Bool, eq-eqb, ne_eqb, eqb-true}
use Rattle.std.proofs.lemmas.List.Sums.{sum_by-cons, sum_by-set}
use Rattle.ov_layout.specs.declared.index.Entry.{Entry}
use Rattle.ov_layout.specs.declared.part.Part.{Part}
use Rattle.std.proofs.Math.Nat.{mul-le-mul_left}
use Rattle.std.specs.Prelude.{◌-◌, All}
use Rattle.ov_layout.specs.Kept.{HasFewRecords}
use Rattle.ov_layout.specs.Parts.{has, Ascend, ArePartsFrom, cost_of, stored_of}
use Rattle.ov_layout.specs.Index.{AreEntries, number_at, versions_in, vids_of}
use Rattle.std.proofs.lemmas.List.{get_or-set_same, length-set}
use Rattle.ov_layout.proofs.VidLemmas.{has-more}

-- the term of one entry
abbrev pub entry_for : ℕ → Entry → ℕ
entry_for vid entry = cond (eqb entry.vid vid) entry.part 0

pub number_at-skip : (entry : Entry) (index : List Entry) (vid : ℕ) → eqb entry.vid vid ≡ false → number_at vid (entry ∷ index) ≡ number_at vid index
number_at-skip entry index vid ne = sum_by-cons (entry_for vid) entry index ∙ rw ne (zero-add _)

pub number_at-take : (entry : Entry) (index : List Entry) (vid : ℕ) → eqb entry.vid vid ≡ true → number_at vid (entry ∷ index) ≡ entry.part + number_at vid index
number_at-take entry index vid e = sum_by-cons (entry_for vid) entry index ∙ rw e refl

pub entries-ascend : (least : ℕ) (index : List Entry) → AreEntries least index → Ascend least (vids_of index)
entries-ascend least [] h = tt
entries-ascend least (entry ∷ index) h = (h.0, entries-ascend (suc entry.vid) index h.2)

pub entries-few : (least : ℕ) (index : List Entry) → AreEntries least index → length index + least ≤ 2 ^ 32
entries-few least [] h = omega (arith, h)
entries-few least (entry ∷ index) h = let rest = entries-few (suc entry.vid) index h.2 in let le = h.0 in omega arith

pub number_at-below : (least : ℕ) (index : List Entry) (vid : ℕ) → AreEntries least index → vid < least → number_at vid index ≡ 0
number_at-below least [] vid h lt = refl
number_at-below least (entry ∷ index) vid h lt =
    let rest = number_at-below (suc entry.vid) index vid h.2 (let le = h.0 in omega arith) in
    let ne : eqb entry.vid vid ≡ false = ne_eqb _ _ (λ e. let le = h.0 in absurd (omega arith)) in
    number_at-skip entry index vid ne ∙ rest

pub entry-least : (least : ℕ) (index : List Entry) (at : ℕ) (d : Entry) → AreEntries least index → at < length index → least ≤ (get_or index at d).vid
entry-least least [] at d h lt = absurd (omega arith)
entry-least least (entry ∷ index) zero d h lt = h.0
entry-least least (entry ∷ index) (suc at) d h lt = let rest = entry-least (suc entry.vid) index at d h.2 (omega arith) in let le = h.0 in omega arith

-- the entry of a vid says its number
pub number_at-here : (least : ℕ) (index : List Entry) (at : ℕ) (d : Entry) → AreEntries least index → at < length index → number_at (get_or index at d).vid index ≡ (get_or index at d).part
number_at-here least [] at d h lt = absurd (omega arith)
number_at-here least (entry ∷ index) zero d h lt =
    let rest = number_at-below (suc entry.vid) index entry.vid h.2 (omega arith) in
    number_at-take entry index entry.vid (eq-eqb entry.vid entry.vid refl) ∙ rw rest (add-zero _)
number_at-here least (entry ∷ index) (suc at) d h lt =
    let vid = (get_or index at d).vid in
    let above : suc entry.vid ≤ vid = entry-least (suc entry.vid) index at d h.2 (omega arith) in
    let ne : eqb entry.vid vid ≡ false = ne_eqb _ _ (λ e. absurd (omega arith)) in
    number_at-skip entry index vid ne ∙ number_at-here (suc entry.vid) index at d h.2 (omega arith)

-- a vid without an entry has no number
pub number_at-none : (index : List Entry) (vid : ℕ) → has (vids_of index) vid ≡ false → number_at vid index ≡ 0
number_at-none [] vid h = refl
number_at-none (entry ∷ index) vid h =
    elim (cases_Bool (eqb entry.vid vid)) [
      | inl e ↦ let no = rw e at h in absurd cc
      | inr e ↦ number_at-skip entry index vid e ∙ number_at-none index vid (rw e at h)
    ]

-- the cost is below the number of versions times the bound of the records
pub cost-bound : (parts : List Part) → All HasFewRecords parts → cost_of parts ≤ versions_in parts * (2 ^ 32 - 1)
cost-bound [] few = omega arith
cost-bound (part ∷ parts) few =
    let rest = cost-bound parts (λ k d lt. few (suc k) d (omega arith)) in
    let first = few 0 part (omega arith) in
    let own = mul-le-mul_left (length part.versions) (let le : part.records ≤ 2 ^ 32 - 1 = omega arith in le) in
    let cost = sum_by-cons (λ (part : Part). length part.versions * part.records) part parts in
    let versions = sum_by-cons (λ (part : Part). length part.versions) part parts in
    omega (arith, rest, own, cost, versions)

-- and the stored records below the number of partitions times it
pub stored-bound : (parts : List Part) → All HasFewRecords parts → stored_of parts ≤ length parts * (2 ^ 32 - 1)
stored-bound [] few = omega arith
stored-bound (part ∷ parts) few =
    let rest = stored-bound parts (λ k d lt. few (suc k) d (omega arith)) in
    let first = few 0 part (omega arith) in
    let stored = sum_by-cons (λ (part : Part). part.records) part parts in
    omega (arith, rest, stored)

pub cost-fits : (parts : List Part) → All HasFewRecords parts → versions_in parts ≤ 2 ^ 32 → cost_of parts < 2 ^ 64
cost-fits parts few le = let bound = cost-bound parts few in omega (arith, bound)

-- there are no more partitions than versions
pub parts-few : (least next : ℕ) (parts : List Part) → ArePartsFrom least next parts → length parts ≤ versions_in parts
parts-few least next [] sound = omega arith
parts-few least next (part ∷ parts) sound =
    let rest = parts-few (suc part.id) next parts sound.2 in
    let some = sound.1.some in
    let versions = sum_by-cons (λ (part : Part). length part.versions) part parts in
    omega (arith, rest, versions)

pub stored-fits : (least next : ℕ) (parts : List Part) → ArePartsFrom least next parts → All HasFewRecords parts → versions_in parts ≤ 2 ^ 32 → stored_of parts < 2 ^ 64
stored-fits least next parts sound few le = let bound = stored-bound parts few in let count = parts-few least next parts sound in omega (arith, bound, count)

-- the entry at a place with another partition's number
abbrev pub moved_entry : List Entry → ℕ → ℕ → Entry → Entry
moved_entry index at id d = record { vid = (get_or index at d).vid; part = id }

entries-set : (least : ℕ) (index : List Entry) (at id : ℕ) (d : Entry) → AreEntries least index → 1 ≤ id → AreEntries least (set index at (moved_entry index at id d))
entries-set least [] at id d h some = h
entries-set least (entry ∷ index) zero id d h some = (h.0, some, h.2)
entries-set least (entry ∷ index) (suc at) id d h some = (h.0, h.1, entries-set (suc entry.vid) index at id d h.2 some)

pub record HasMoved (index new : List Entry) (vid id : ℕ) : Type 0 where
  pub entries : AreEntries 0 new
  pub numbers : (v : ℕ) → number_at v new ≡ cond (eqb vid v) id (number_at v index)

pub entry-moved : (index : List Entry) (at id vid : ℕ) (d : Entry) → AreEntries 0 index → at < length index → (get_or index at d).vid ≡ vid → 1 ≤ id → HasMoved index (set index at (moved_entry index at id d)) vid id
entry-moved index at id vid d h lt here some =
    let new = set index at (moved_entry index at id d) in
    let sound : AreEntries 0 new = entries-set 0 index at id d h some in
    let at_new : get_or new at d ≡ moved_entry index at id d = get_or-set_same index at (moved_entry index at id d) d lt in
    let within : at < length new = rw (length-set index at (moved_entry index at id d)) lt in
    record {
      entries = sound;
      numbers = λ v. elim (cases_Bool (eqb vid v)) [
        | inl e ↦
            let same : vid ≡ v = eqb-true _ _ e in
            let own = rw at_new at (number_at-here 0 new at d sound within) in
            rw e (subst (λ (n : ℕ). number_at n new ≡ id) (here ∙ same) own)
        | inr e ↦
            let sum = sum_by-set (entry_for v) index at (moved_entry index at id d) d lt in
            let old : entry_for v (get_or index at d) ≡ 0 = rw (here, e) refl in
            let fresh : entry_for v (moved_entry index at id d) ≡ 0 = rw (here, e) refl in
            rw e (let total : number_at v new + entry_for v (get_or index at d) ≡ number_at v index + entry_for v (moved_entry index at id d) = sum in omega (arith, total, old, fresh))
      ];
    }

or-cond : (a b : Bool) (m n : ℕ) → cond b m (cond a m n) ≡ cond (a || b) m n
or-cond true true m n = refl
or-cond true false m n = refl
or-cond false true m n = refl
or-cond false false m n = refl

pub moved-more : (index new old : List Entry) (vids : List ℕ) (k id : ℕ) → k < length vids → HasMoved index new (get_or vids k 0) id → ((v : ℕ) → number_at v index ≡ cond (has (take k vids) v) id (number_at v old)) → (v : ℕ) → number_at v new ≡ cond (has (take (k + 1) vids) v) id (number_at v old)
moved-more index new old vids k id lt moved before v =
    moved.numbers v ∙ ap (λ (n : ℕ). cond (eqb (get_or vids k 0) v) id n) (before v) ∙ or-cond (has (take k vids) v) (eqb (get_or vids k 0) v) id (number_at v old) ∙ ap (λ (b : Bool). cond b id (number_at v old)) (sym (has-more vids k v lt))

pub cond-some : (b : Bool) (m n : ℕ) → 1 ≤ m → 1 ≤ n → 1 ≤ cond b m n
cond-some true m n a b = a
cond-some false m n a b = b
