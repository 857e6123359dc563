-- A version more.
use Rattle.std.proofs.Common.{◌≡◌, ℕ, zero, suc, ◌+◌, ◌*◌, ◌^◌, ◌<◌, ◌≤◌, Bool, true, false, cond, ◌||◌, eqb, List, [], ◌∷◌, ◌++◌, length, get_or, refl, sym, ap, ◌∙◌, inl, inr, arith}
use Rattle.std.proofs.lemmas.Bool.{cases_Bool, cases_lt, eqb-true}
use Rattle.std.proofs.lemmas.List.{length-append}
use Rattle.std.proofs.lemmas.List.Elements.{All-append}
use Rattle.std.proofs.lemmas.List.Sums.{sum_by_push}
use Rattle.ov_host.specs.declared.area.Extent.{Extent}
use Rattle.ov_layout.specs.declared.index.Entry.{Entry}
use Rattle.ov_layout.specs.declared.part.Part.{Part}
use Rattle.ov_layout.specs.Parts.{serves, IsPart, AreParts, ArePartsFrom, times_placed, cost_of}
use Rattle.ov_layout.specs.Index.{AreEntries, IsIndex, number_at, number_of}
use Rattle.ov_layout.specs.Changes.{IsNew, own_part}
use Rattle.ov_layout.specs.Kept.{AreNumbers, HasFewRecords}
use Rattle.ov_layout.proofs.SumLemmas.{entry_for, number_at-here}
use Rattle.ov_layout.proofs.PlacedLemmas.{one-yes, one-no, times-none, new-unplaced}

pub sound-push : (least next : ℕ) (parts : List Part) (part : Part) → ArePartsFrom least next parts → IsPart part → part.id ≡ next → ArePartsFrom least (next + 1) (parts ++ part ∷ [])
sound-push least next [] part h own e = (omega (arith, h, e), own, omega (arith, e))
sound-push least next (first ∷ parts) part h own e = (h.0, h.1, sound-push (suc first.id) next parts part h.2 own e)

pub entries-push : (least : ℕ) (index : List Entry) (vid id : ℕ) → AreEntries least index → least ≤ vid → ((k : ℕ) (d : Entry) → k < length index → (get_or index k d).vid < vid) → vid < 2 ^ 32 → 1 ≤ id → AreEntries least (index ++ record { vid = vid; part = id } ∷ [])
entries-push least [] vid id h le above fits some = (le, some, omega (arith, fits))
entries-push least (entry ∷ index) vid id h le above fits some =
    (h.0, h.1, entries-push (suc entry.vid) index vid id h.2 (let lt = above 0 entry (omega arith) in omega (arith, lt)) (λ k d lt. above (suc k) d (omega arith)) fits some)

entry-some : (least : ℕ) (index : List Entry) (k : ℕ) (d : Entry) → AreEntries least index → k < length index → 1 ≤ (get_or index k d).part
entry-some least [] k d h lt = absurd (omega arith)
entry-some least (entry ∷ index) zero d h lt = h.1
entry-some least (entry ∷ index) (suc k) d h lt = entry-some (suc entry.vid) index k d h.2 (omega arith)

-- a new version's vid is above all entries
pub entries-below : (vid next : ℕ) (index : List Entry) (parts : List Part) → AreParts parts next → IsIndex index parts → IsNew vid parts → (k : ℕ) (d : Entry) → k < length index → (get_or index k d).vid < vid
entries-below vid next index parts sound is new k d lt =
    let entry = get_or index k d in
    elim (cases_lt entry.vid vid) [
      | inl below ↦ below
      | inr le ↦
          let here = number_at-here 0 index k d is.entries lt in
          let some = entry-some 0 index k d is.entries lt in
          let none = times-none entry.vid parts (new-unplaced vid entry.vid 1 next parts sound.sound new le) in
          let same = is.numbers entry.vid in
          absurd (omega (arith, here, some, none, same))
    ]

pub number_at-push : (v vid id : ℕ) (index : List Entry) → number_at v (index ++ record { vid = vid; part = id } ∷ []) ≡ number_at v index + cond (eqb vid v) id 0
number_at-push v vid id index = sum_by_push (entry_for v) index (record { vid = vid; part = id })

own-IsPart : (id vid records : ℕ) (segment : Extent) → IsPart (own_part id vid records segment)
own-IsPart id vid records segment = record { versions = (omega arith, tt); some = omega arith; holds = (omega arith, tt); held = λ v there. there }

pub or-false : (b : Bool) → (b || false) ≡ b
or-false true = refl
or-false false = refl

pub next-some : (least next : ℕ) (parts : List Part) → ArePartsFrom least next parts → least ≤ next
next-some least next [] h = h
next-some least next (part ∷ parts) h = let rest = next-some (suc part.id) next parts h.2 in let le = h.0 in omega (arith, rest, le)

-- a new version is in one partition then, the others in as many as before
pub once-more : (vid v next : ℕ) (parts new : List Part) → AreParts parts next → IsNew vid parts → times_placed v new ≡ times_placed v parts + cond (eqb vid v) 1 0 → times_placed v new ≤ 1
once-more vid v next parts new sound h times =
    elim (cases_Bool (eqb vid v)) [
      | inl e ↦
          let same : vid ≡ v = eqb-true _ _ e in
          let none = new-unplaced vid v 1 next parts sound.sound h (omega (arith, same)) in
          let one = one-yes (eqb vid v) 1 e in
          omega (arith, times, none, one)
      | inr e ↦ let zero = one-no (eqb vid v) 1 e in let most = sound.once v in omega (arith, times, zero, most)
    ]

pub one-few : (part : Part) → part.records < 2 ^ 32 → (k : ℕ) (d : Part) → k < length (part ∷ []) → HasFewRecords (get_or (part ∷ []) k d)
one-few part few zero d lt = few
one-few part few (suc k) d lt = absurd (omega (arith, lt))

pub own-numbers : (index : List Entry) (parts : List Part) (next stored cost vid records : ℕ) (segment : Extent) → AreNumbers index parts next stored cost → IsNew vid parts → records < 2 ^ 32 → vid < 2 ^ 32 → AreNumbers (index ++ record { vid = vid; part = next } ∷ []) (parts ++ own_part next vid records segment ∷ []) (next + 1) (stored + records) (cost + records)
own-numbers index parts next stored cost vid records segment h new few fits =
    let part = own_part next vid records segment in
    let times : (v : ℕ) → times_placed v (parts ++ part ∷ []) ≡ times_placed v parts + cond (eqb vid v) 1 0 = λ v. sum_by_push (λ (p : Part). cond (serves v p) 1 0) parts part ∙ ap (λ (b : Bool). times_placed v parts + cond b 1 0) (or-false (eqb vid v)) in
    let numbers : (v : ℕ) → number_of v (parts ++ part ∷ []) ≡ number_of v parts + cond (eqb vid v) next 0 = λ v. sum_by_push (λ (p : Part). cond (serves v p) p.id 0) parts part ∙ ap (λ (b : Bool). number_of v parts + cond b next 0) (or-false (eqb vid v)) in
    let some : 1 ≤ next = next-some 1 next parts h.sound.sound in
    record {
      sound = record {
        sound = sound-push 1 next parts part h.sound.sound (own-IsPart next vid records segment) refl;
        once = λ v. once-more vid v next parts (parts ++ part ∷ []) h.sound new (times v);
      };
      index_is = record {
        entries = entries-push 0 index vid next h.index_is.entries (omega arith) (entries-below vid next index parts h.sound h.index_is new) fits some;
        numbers = λ v. number_at-push v vid next index ∙ ap (λ (n : ℕ). n + cond (eqb vid v) next 0) (h.index_is.numbers v) ∙ sym (numbers v);
        count = length-append index (record { vid = vid; part = next } ∷ []) ∙ ap (λ (n : ℕ). n + 1) h.index_is.count ∙ sym (sum_by_push (λ (p : Part). length p.versions) parts part);
      };
      few = All-append HasFewRecords parts (part ∷ []) h.few (λ k d lt. one-few part few k d lt);
      stored_is = ap (λ (n : ℕ). n + records) h.stored_is ∙ sym (sum_by_push (λ (p : Part). p.records) parts part);
      cost_is = ap (λ (n : ℕ). n + records) h.cost_is ∙ (let one : cost_of parts + records ≡ cost_of parts + 1 * records = omega arith in one) ∙ sym (sum_by_push (λ (p : Part). length p.versions * p.records) parts part);
    }
