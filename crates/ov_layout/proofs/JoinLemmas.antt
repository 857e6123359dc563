-- A version that joins a partition.
use Rattle.std.proofs.Common.{◌≡◌, ℕ, zero, suc, ◌+◌, ◌-◌, ◌*◌, ◌^◌, ◌<◌, ◌≤◌, Bool, true, false, cond, ◌||◌, eqb, List, [], ◌∷◌, ◌++◌, length, get_or, set, refl, sym, ap, subst, ◌∙◌, inl, inr, arith}
use Rattle.std.proofs.lemmas.Bool.{cases_Bool, eq-eqb, ne_eqb, eqb-true}
use Rattle.std.proofs.lemmas.List.{length-append, length-set, get_or-set_same}
use Rattle.std.proofs.lemmas.List.Elements.{All-set}
use Rattle.std.proofs.lemmas.List.Sums.{sum_by-set}
use Rattle.ov_host.specs.declared.area.Extent.{Extent}
use Rattle.ov_layout.specs.declared.index.Entry.{Entry}
use Rattle.ov_layout.specs.declared.part.Part.{Part}
use Rattle.ov_layout.specs.Parts.{has, serves, Ascend, IsPart, ArePartsFrom, times_placed, stored_of, cost_of, records_at, records_in}
use Rattle.ov_layout.specs.Index.{number_of, numbers_of, versions_in}
use Rattle.ov_layout.specs.Changes.{IsNew, IsAbove, joined_part, joined_at}
use Rattle.ov_layout.specs.Kept.{AreNumbers, HasFewRecords}
use Rattle.ov_layout.proofs.VidLemmas.{has-append, keys-strict}
use Rattle.ov_layout.proofs.PlacedLemmas.{new-unplaced, placed-somewhere}
use Rattle.ov_layout.proofs.AddLemmas.{entries-push, entries-below, number_at-push, once-more, or-false}
use Rattle.ov_layout.proofs.FlipLemmas.{numbered-here}
use Rattle.ov_layout.proofs.LeaveLemmas.{cost-one}

map-others : (vid added id : ℕ) (segment : Extent) (least : ℕ) (parts : List Part) → Ascend least (numbers_of parts) → id < least → joined_at vid id added segment parts ≡ parts
map-others vid added id segment least [] h lt = refl
map-others vid added id segment least (part ∷ parts) h lt =
    let le = h.0 in
    rw (ne_eqb part.id id (λ e. absurd (omega (arith, e, le)))) (ap (λ (ps : List Part). part ∷ ps) (map-others vid added id segment (suc part.id) parts h.1 (omega (arith, le))))

-- the one partition with the number is changed
pub joined-set : (vid added id : ℕ) (segment : Extent) (least : ℕ) (parts : List Part) (at : ℕ) (d : Part) → Ascend least (numbers_of parts) → at < length parts → (get_or parts at d).id ≡ id → joined_at vid id added segment parts ≡ set parts at (joined_part vid added segment (get_or parts at d))
joined-set vid added id segment least [] at d h lt e = absurd (omega arith)
joined-set vid added id segment least (part ∷ parts) zero d h lt e =
    rw (eq-eqb part.id id e) (ap (λ (ps : List Part). joined_part vid added segment part ∷ ps) (map-others vid added id segment (suc part.id) parts h.1 (omega (arith, e))))
joined-set vid added id segment least (part ∷ parts) (suc at) d h lt e =
    let above = keys-strict (λ (p : Part). p.id) (part ∷ parts) d least 0 (suc at) h (omega arith) lt in
    rw (ne_eqb part.id id (λ same. absurd (omega (arith, above, same, e)))) (ap (λ (ps : List Part). part ∷ ps) (joined-set vid added id segment (suc part.id) parts at d h.1 (omega arith) e))

pub ascend-push : (least vid : ℕ) (vids : List ℕ) → Ascend least vids → least ≤ vid → IsAbove vid vids → Ascend least (vids ++ vid ∷ [])
ascend-push least vid [] h le above = (le, tt)
ascend-push least vid (v ∷ vids) h le above = (h.0, ascend-push (suc v) vid vids h.1 above.0 above.1)

or-true : (b : Bool) → (b || true) ≡ true
or-true true = refl
or-true false = refl

pub above-one : (vid v : ℕ) (held : List ℕ) → IsAbove vid held → has held v ≡ true → v < vid
above-one vid v [] above there = absurd cc
above-one vid v (w ∷ held) above there =
    elim (cases_Bool (eqb w v)) [
      | inl e ↦ let same : w ≡ v = eqb-true _ _ e in let lt = above.0 in omega (arith, same, lt)
      | inr e ↦ above-one vid v held above.1 (rw e at there)
    ]

held-push : (vids held : List ℕ) (vid v : ℕ) → (has vids v ≡ true → has held v ≡ true) → has (vids ++ vid ∷ []) v ≡ true → has (held ++ vid ∷ []) v ≡ true
held-push vids held vid v within there =
    let was : (has vids v || (eqb vid v || false)) ≡ true = sym (has-append vids (vid ∷ []) v) ∙ there in
    has-append held (vid ∷ []) v ∙ (elim (cases_Bool (eqb vid v)) [
      | inl e ↦ rw e (or-true (has held v))
      | inr e ↦
          let old : has vids v ≡ true = sym (or-false (has vids v)) ∙ (rw e at was) in
          rw (within old) refl
    ])

above-held : (vid : ℕ) (vids held : List ℕ) → ((v : ℕ) → has vids v ≡ true → has held v ≡ true) → IsAbove vid held → IsAbove vid vids
above-held vid [] held within above = tt
above-held vid (v ∷ vids) held within above =
    (above-one vid v held above (within v (rw (eq-eqb v v refl) refl)), above-held vid vids held (λ w there. within w (rw there (or-true (eqb v w)))) above)

join-IsPart : (vid added : ℕ) (segment : Extent) (part : Part) → IsPart part → IsAbove vid part.holds → IsPart (joined_part vid added segment part)
join-IsPart vid added segment part h above =
    let size = length-append part.versions (vid ∷ []) in
    record {
      versions = ascend-push 0 vid part.versions h.versions (omega arith) (above-held vid part.versions part.holds h.held above);
      some = omega (arith, size);
      holds = ascend-push 0 vid part.holds h.holds (omega arith) above;
      held = λ v there. held-push part.versions part.holds vid v (h.held v) there;
    }

sound-set : (least next : ℕ) (parts : List Part) (at : ℕ) (d part : Part) → ArePartsFrom least next parts → part.id ≡ (get_or parts at d).id → IsPart part → ArePartsFrom least next (set parts at part)
sound-set least next [] at d part h e own = h
sound-set least next (first ∷ parts) zero d part h e own = (omega (arith, e, h.0), own, subst (λ (n : ℕ). ArePartsFrom (suc n) next parts) (sym e) h.2)
sound-set least next (first ∷ parts) (suc at) d part h e own = (h.0, h.1, sound-set (suc first.id) next parts at d part h.2 e own)

part-sound : (least next : ℕ) (parts : List Part) (at : ℕ) (d : Part) → ArePartsFrom least next parts → at < length parts → IsPart (get_or parts at d)
part-sound least next [] at d h lt = absurd (omega arith)
part-sound least next (first ∷ parts) zero d h lt = h.1
part-sound least next (first ∷ parts) (suc at) d h lt = part-sound (suc first.id) next parts at d h.2 (omega arith)

part-new : (vid : ℕ) (parts : List Part) (at : ℕ) (d : Part) → IsNew vid parts → at < length parts → IsAbove vid (get_or parts at d).holds
part-new vid [] at d h lt = absurd (omega arith)
part-new vid (first ∷ parts) zero d h lt = h.0
part-new vid (first ∷ parts) (suc at) d h lt = part-new vid parts at d h.1 (omega arith)

-- a term of a sum with the new version
term-more : (a b : Bool) (n : ℕ) → (b ≡ true → a ≡ false) → cond (a || (b || false)) n 0 ≡ cond a n 0 + cond b n 0
term-more true true n out = let no = out refl in absurd cc
term-more true false n out = omega arith
term-more false true n out = omega arith
term-more false false n out = omega arith

sum-more : (after before old new more : ℕ) → after + old ≡ before + new → new ≡ old + more → after ≡ before + more
sum-more after before old new more e f = omega (arith, e, f)

unserved : (vid v least next : ℕ) (parts : List Part) (at : ℕ) (d : Part) → ArePartsFrom least next parts → IsNew vid parts → at < length parts → vid ≤ v → serves v (get_or parts at d) ≡ false
unserved vid v least next parts at d sound new lt le =
    elim (cases_Bool (serves v (get_or parts at d))) [
      | inl e ↦ absurd (placed-somewhere v parts at d lt e (new-unplaced vid v least next parts sound new le))
      | inr e ↦ e
    ]

id-least : (least next : ℕ) (parts : List Part) (at : ℕ) (d : Part) → ArePartsFrom least next parts → at < length parts → least ≤ (get_or parts at d).id
id-least least next [] at d h lt = absurd (omega arith)
id-least least next (first ∷ parts) zero d h lt = h.0
id-least least next (first ∷ parts) (suc at) d h lt = let rest = id-least (suc first.id) next parts at d h.2 (omega arith) in let le = h.0 in omega (arith, rest, le)

pub join-numbers : (index : List Entry) (parts : List Part) (next stored cost vid added at id : ℕ) (segment : Extent) (d : Part) → AreNumbers index parts next stored cost → IsNew vid parts → at < length parts → (get_or parts at d).id ≡ id → (get_or parts at d).records + added < 2 ^ 32 → vid < 2 ^ 32 → AreNumbers (index ++ record { vid = vid; part = id } ∷ []) (set parts at (joined_part vid added segment (get_or parts at d))) next (stored + added) (cost_of (set parts at (joined_part vid added segment (get_or parts at d))))
join-numbers index parts next stored cost vid added at id segment d h new within here few fits =
    let part = get_or parts at d in
    let joined = joined_part vid added segment part in
    let after = set parts at joined in
    let out : (v : ℕ) → eqb vid v ≡ true → serves v part ≡ false = λ v e. unserved vid v 1 next parts at d h.sound.sound new within (let same : vid ≡ v = eqb-true _ _ e in omega (arith, same)) in
    let term : (v n : ℕ) → cond (serves v joined) n 0 ≡ cond (serves v part) n 0 + cond (eqb vid v) n 0 = λ v n. ap (λ (b : Bool). cond b n 0) (has-append part.versions (vid ∷ []) v) ∙ term-more (serves v part) (eqb vid v) n (out v) in
    let times : (v : ℕ) → times_placed v after ≡ times_placed v parts + cond (eqb vid v) 1 0 = λ v. sum-more (times_placed v after) _ _ _ _ (sum_by-set (λ (p : Part). cond (serves v p) 1 0) parts at joined d within) (term v 1) in
    let numbers : (v : ℕ) → number_of v after ≡ number_of v parts + cond (eqb vid v) id 0 = λ v. sum-more (number_of v after) _ _ _ _ (sum_by-set (λ (p : Part). cond (serves v p) p.id 0) parts at joined d within) (subst (λ (n : ℕ). cond (serves v joined) part.id 0 ≡ cond (serves v part) part.id 0 + cond (eqb vid v) n 0) here (term v part.id)) in
    let sound = part-sound 1 next parts at d h.sound.sound within in
    record {
      sound = record {
        sound = sound-set 1 next parts at d joined h.sound.sound refl (join-IsPart vid added segment part sound (part-new vid parts at d new within));
        once = λ v. once-more vid v next parts after h.sound new (times v);
      };
      index_is = record {
        entries = entries-push 0 index vid id h.index_is.entries (omega arith) (entries-below vid next index parts h.sound h.index_is new) fits (let le = id-least 1 next parts at d h.sound.sound within in omega (arith, le, here));
        numbers = λ v. number_at-push v vid id index ∙ ap (λ (n : ℕ). n + cond (eqb vid v) id 0) (h.index_is.numbers v) ∙ sym (numbers v);
        count =
            let sum = sum_by-set (λ (p : Part). length p.versions) parts at joined d within in
            let size = length-append part.versions (vid ∷ []) in
            let total : versions_in after + length part.versions ≡ versions_in parts + length joined.versions = sum in
            let all : versions_in after ≡ versions_in parts + 1 = omega (arith, total, size) in
            length-append index (record { vid = vid; part = id } ∷ []) ∙ ap (λ (n : ℕ). n + 1) h.index_is.count ∙ sym all;
      };
      few = All-set HasFewRecords parts at joined few h.few;
      stored_is =
          let sum = sum_by-set (λ (p : Part). p.records) parts at joined d within in
          let total : stored_of after + part.records ≡ stored_of parts + (part.records + added) = sum in
          let was = h.stored_is in
          omega (arith, total, was);
      cost_is = refl;
    }

-- the cost with one partition's cost taken off and the new one put on
pub cost-set : (parts : List Part) (cost at : ℕ) (part d : Part) → cost ≡ cost_of parts → at < length parts → cost - length (get_or parts at d).versions * (get_or parts at d).records + length part.versions * part.records ≡ cost_of (set parts at part)
cost-set parts cost at part d is lt =
    let sum = sum_by-set (λ (p : Part). length p.versions * p.records) parts at part d lt in
    let total : cost_of (set parts at part) + length (get_or parts at d).versions * (get_or parts at d).records ≡ cost_of parts + length part.versions * part.records = sum in
    let le = cost-one parts at d lt in
    omega (arith, total, is, le)

-- a join's part has few enough records
pub records-here : (parts : List Part) (at id added : ℕ) (d : Part) → Ascend 0 (numbers_of parts) → at < length parts → (get_or parts at d).id ≡ id → records_at id parts + added ≤ 2 ^ 31 → (get_or parts at d).records + added < 2 ^ 32
records-here parts at id added d ascend lt e le =
    let here = ap records_in (numbered-here 0 parts at id d ascend lt e) in
    omega (arith, here, le)

-- one partition's cost fits, where all fit
pub set-cost : (parts : List Part) (at : ℕ) (part d : Part) → at < length parts → length part.versions * part.records ≤ cost_of (set parts at part)
set-cost parts at part d lt =
    let one = cost-one (set parts at part) at d (rw (length-set parts at part) lt) in
    rw (get_or-set_same parts at part d lt) at one
