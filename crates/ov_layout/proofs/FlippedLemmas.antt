-- What a flip leaves.
use Rattle.std.proofs.Common.{◌≡◌, ℕ, zero, suc, ◌+◌, ◌-◌, ◌*◌, ◌^◌, ◌<◌, ◌≤◌, Bool, true, false, not, cond, ◌||◌, eqb, List, [], ◌∷◌, ◌++◌, length, take, drop, map, refl, sym, ap, subst, ◌∙◌, inl, inr, arith}
use Rattle.std.specs.Prelude.{All, filter, sum_by}
use Rattle.std.proofs.lemmas.Bool.{cases_Bool, cases_lt, ne_eqb, eqb-true}
use Rattle.std.proofs.lemmas.List.Elements.{All-append}
use Rattle.std.proofs.lemmas.List.Sums.{sum_by-cons, sum_by_push}
use Rattle.ov_host.specs.declared.area.Extent.{Extent}
use Rattle.ov_layout.specs.declared.index.Entry.{Entry}
use Rattle.ov_layout.specs.declared.part.Part.{Part}
use Rattle.ov_layout.specs.Parts.{has, serves, IsPart, AreParts, ArePartsFrom, times_placed, stored_of, cost_of, is_placed}
use Rattle.ov_layout.specs.Index.{AreEntries, IsIndex, number_at, number_of, numbers_of}
use Rattle.ov_layout.specs.Flips.{Flip, MayFlip, ArePlaced, leaving, is_empty, left_parts, flipped_part, given_up}
use Rattle.ov_layout.specs.Leaving.{IsOwned, gone_of, gone_from}
use Rattle.ov_layout.specs.Kept.{AreNumbers, HasFewRecords}
use Rattle.ov_layout.proofs.LeaveLemmas.{stays, Ascend-filter, filter-out, has-filter}
use Rattle.ov_layout.proofs.PlacedLemmas.{times-none, one-no, ids-ascend, versions-ascend, placed-number, number-there, owned-by-number}
use Rattle.ov_layout.proofs.AddLemmas.{sound-push, one-few}
use Rattle.ov_layout.proofs.CountLemmas.{sum-same, sum-map, sum-left, count-left}

-- what goes by the partitions that were left is what a flip gives up
pub gone-given : (flip : Flip) (parts : List Part) → gone_from flip.source flip.kept (map (leaving flip.versions) parts) ≡ given_up flip parts
gone-given flip [] = refl
gone-given flip (part ∷ parts) =
    let rest = gone-given flip parts in
    elim (cases_Bool (is_empty (leaving flip.versions part))) [
      | inl e ↦ rw e (ap (λ (es : List Extent). gone_of flip.source flip.kept part ++ es) rest)
      | inr e ↦ rw e rest
    ]

pub stored-left : (versions : List ℕ) (parts : List Part) → stored_of (map (leaving versions) parts) ≡ stored_of parts
stored-left versions parts = sum-map (λ (p : Part). p.records) (leaving versions) parts

-- a version that leaves is placed, each in one partition
pub placed-one : (parts : List Part) (versions : List ℕ) (vid : ℕ) → ArePlaced parts versions → has versions vid ≡ true → is_placed parts vid ≡ true
placed-one parts [] vid h there = absurd cc
placed-one parts (v ∷ versions) vid h there =
    elim (cases_Bool (eqb v vid)) [
      | inl e ↦ subst (λ (n : ℕ). is_placed parts n ≡ true) (eqb-true _ _ e) h.0
      | inr e ↦ placed-one parts versions vid h.1 (rw e at there)
    ]

pub has-number : (next : ℕ) (parts : List Part) (versions : List ℕ) (vid : ℕ) → AreParts parts next → ArePlaced parts versions → has versions vid ≡ true → 1 ≤ number_of vid parts
has-number next parts versions vid sound placed there = placed-number 1 vid parts (omega arith) (ids-ascend 1 next parts sound.sound) (placed-one parts versions vid placed there)

times-one : (next : ℕ) (parts : List Part) (versions : List ℕ) (vid : ℕ) → AreParts parts next → ArePlaced parts versions → has versions vid ≡ true → times_placed vid parts ≡ 1
times-one next parts versions vid sound placed there =
    let some = has-number next parts versions vid sound placed there in
    let most = sound.once vid in
    elim (cases_lt 0 (times_placed vid parts)) [
      | inl lt ↦ omega (arith, lt, most)
      | inr le ↦ let none = times-none vid parts (let z : times_placed vid parts ≡ 0 = omega (arith, le) in z) in absurd (omega (arith, some, none))
    ]

kept-in : (test : ℕ → Bool) (ns : List ℕ) (n : ℕ) → test n ≡ true → has (filter test ns) n ≡ has ns n
kept-in test [] n stay = refl
kept-in test (m ∷ ns) n stay =
    elim (cases_Bool (test m)) [
      | inl e ↦ rw e (ap (λ (b : Bool). eqb m n || b) (kept-in test ns n stay))
      | inr e ↦
          let ne : eqb m n ≡ false = ne_eqb m n (λ same. let both : true ≡ false = sym stay ∙ ap test (sym same) ∙ e in absurd cc) in
          rw (e, ne) (kept-in test ns n stay)
    ]

empty-serves : (vid : ℕ) (versions : List ℕ) → eqb (length versions) 0 ≡ true → has versions vid ≡ false
empty-serves vid [] e = refl
empty-serves vid (v ∷ versions) e = let none : length (v ∷ versions) ≡ 0 = eqb-true _ _ e in absurd (omega (arith, none))

empty-long : (versions : List ℕ) → eqb (length versions) 0 ≡ true → length versions ≡ 0
empty-long [] e = refl
empty-long (v ∷ versions) e = eqb-true _ _ e

not-empty : (versions : List ℕ) → eqb (length versions) 0 ≡ false → 0 < length versions
not-empty [] e = absurd cc
not-empty (v ∷ versions) e = omega arith

empty-cost : (part : Part) → is_empty part ≡ true → length part.versions * part.records ≡ 0
empty-cost part e = ap (λ (n : ℕ). n * part.records) (empty-long part.versions e) ∙ (let z : 0 * part.records ≡ 0 = omega arith in z)

sum-zero : (parts : List Part) → sum_by (λ (p : Part). 0) parts ≡ 0
sum-zero [] = refl
sum-zero (part ∷ parts) = let step = sum_by-cons (λ (p : Part). 0) part parts in let rest = sum-zero parts in omega (arith, step, rest)

sum-cond : (gone : Bool) (f : Part → ℕ) (parts : List Part) → sum_by (λ p. cond gone 0 (f p)) parts ≡ cond gone 0 (sum_by f parts)
sum-cond true f parts = sum-zero parts
sum-cond false f parts = refl

all-cons : (part : Part) (parts : List Part) → HasFewRecords part → All HasFewRecords parts → All HasFewRecords (part ∷ parts)
all-cons part parts own rest zero d lt = own
all-cons part parts own rest (suc k) d lt = rest k d (omega arith)

once-flipped : (gone : Bool) (before after : ℕ) → after ≡ cond gone 0 before + cond gone 1 0 → before ≤ 1 → after ≤ 1
once-flipped true before after e most = omega (arith, e)
once-flipped false before after e most = omega (arith, e, most)

sum-of-both : (gone : Bool) (next before : ℕ) → cond gone next before ≡ cond gone 0 before + cond gone next 0
sum-of-both true next before = omega arith
sum-of-both false next before = omega arith

-- whether a partition still serves a version
serves-left : (versions : List ℕ) (vid : ℕ) (part : Part) → serves vid (leaving versions part) ≡ cond (has versions vid) false (serves vid part)
serves-left versions vid part =
    elim (cases_Bool (has versions vid)) [
      | inl e ↦ filter-out (stays versions) part.versions vid (ap (λ (b : Bool). not b) e) ∙ rw e refl
      | inr e ↦ kept-in (stays versions) part.versions vid (ap (λ (b : Bool). not b) e) ∙ rw e refl
    ]

left-term : (here gone : Bool) (n : ℕ) → cond (cond gone false here) n 0 ≡ cond gone 0 (cond here n 0)
left-term here true n = refl
left-term here false n = refl

empty-term : (vid n : ℕ) (part : Part) → is_empty part ≡ true → cond (serves vid part) n 0 ≡ 0
empty-term vid n part e = one-no (serves vid part) n (empty-serves vid part.versions e)

pub times-left : (versions : List ℕ) (vid : ℕ) (parts : List Part) → times_placed vid (left_parts versions parts) ≡ cond (has versions vid) 0 (times_placed vid parts)
times-left versions vid parts =
    let terms : (part : Part) → cond (serves vid (leaving versions part)) 1 0 ≡ cond (has versions vid) 0 (cond (serves vid part) 1 0) = λ part. ap (λ (b : Bool). cond b 1 0) (serves-left versions vid part) ∙ left-term (serves vid part) (has versions vid) 1 in
    sum-left (λ (p : Part). cond (serves vid p) 1 0) versions (λ p e. empty-term vid 1 p e) parts ∙ sum-same (λ (p : Part). cond (serves vid (leaving versions p)) 1 0) (λ (p : Part). cond (has versions vid) 0 (cond (serves vid p) 1 0)) terms parts ∙ sum-cond (has versions vid) (λ (p : Part). cond (serves vid p) 1 0) parts

pub number-left : (versions : List ℕ) (vid : ℕ) (parts : List Part) → number_of vid (left_parts versions parts) ≡ cond (has versions vid) 0 (number_of vid parts)
number-left versions vid parts =
    let terms : (part : Part) → cond (serves vid (leaving versions part)) part.id 0 ≡ cond (has versions vid) 0 (cond (serves vid part) part.id 0) = λ part. ap (λ (b : Bool). cond b part.id 0) (serves-left versions vid part) ∙ left-term (serves vid part) (has versions vid) part.id in
    sum-left (λ (p : Part). cond (serves vid p) p.id 0) versions (λ p e. empty-term vid p.id p e) parts ∙ sum-same (λ (p : Part). cond (serves vid (leaving versions p)) p.id 0) (λ (p : Part). cond (has versions vid) 0 (cond (serves vid p) p.id 0)) terms parts ∙ sum-cond (has versions vid) (λ (p : Part). cond (serves vid p) p.id 0) parts

sound-weaker : (low least next : ℕ) (parts : List Part) → low ≤ least → ArePartsFrom least next parts → ArePartsFrom low next parts
sound-weaker low least next [] le h = omega (arith, le, h)
sound-weaker low least next (part ∷ parts) le h = (omega (arith, le, h.0), h.1, h.2)

left-IsPart : (versions : List ℕ) (part : Part) → IsPart part → is_empty (leaving versions part) ≡ false → IsPart (leaving versions part)
left-IsPart versions part h e = record {
  versions = Ascend-filter 0 (stays versions) part.versions h.versions;
  some = not-empty (leaving versions part).versions e;
  holds = h.holds;
  held = λ v there. h.held v (has-filter (stays versions) part.versions v there);
}

pub sound-left : (versions : List ℕ) (least next : ℕ) (parts : List Part) → ArePartsFrom least next parts → ArePartsFrom least next (left_parts versions parts)
sound-left versions least next [] h = h
sound-left versions least next (part ∷ parts) h =
    let rest = sound-left versions (suc part.id) next parts h.2 in
    let le = h.0 in
    elim (cases_Bool (is_empty (leaving versions part))) [
      | inl e ↦ rw e (sound-weaker least (suc part.id) next (left_parts versions parts) (omega (arith, le)) rest)
      | inr e ↦ rw e (le, left-IsPart versions part h.1 e, rest)
    ]

few-left : (versions : List ℕ) (parts : List Part) → All HasFewRecords parts → All HasFewRecords (left_parts versions parts)
few-left versions [] few = few
few-left versions (part ∷ parts) few =
    let rest = few-left versions parts (λ k d lt. few (suc k) d (omega arith)) in
    elim (cases_Bool (is_empty (leaving versions part))) [
      | inl e ↦ rw e rest
      | inr e ↦ rw e (all-cons (leaving versions part) (left_parts versions parts) (few 0 part (omega arith)) rest)
    ]

-- the index after a flip
pub record HasFlipped (old new : List Entry) (versions : List ℕ) (next : ℕ) : Type 0 where
  pub entries : AreEntries 0 new
  pub numbers : (vid : ℕ) → number_at vid new ≡ cond (has versions vid) next (number_at vid old)
  pub count : length new ≡ length old

pub flip-numbers : (index new : List Entry) (parts : List Part) (next stored cost left_stored left_cost : ℕ) (flip : Flip) → AreNumbers index parts next stored cost → MayFlip flip parts → HasFlipped index new flip.versions next → flip.records < 2 ^ 32 → left_stored ≡ stored_of (left_parts flip.versions parts) → left_cost ≡ cost_of (left_parts flip.versions parts) → AreNumbers new (left_parts flip.versions parts ++ flipped_part next flip parts ∷ []) (next + 1) (left_stored + flip.records) (left_cost + length flip.versions * flip.records)
flip-numbers index new parts next stored cost left_stored left_cost flip h may moved few stored_is cost_is =
    let part = flipped_part next flip parts in
    let left = left_parts flip.versions parts in
    let own : IsPart part = record { versions = may.ascend; some = may.some; holds = may.ascend; held = λ v there. there } in
    let times : (v : ℕ) → times_placed v (left ++ part ∷ []) ≡ cond (has flip.versions v) 0 (times_placed v parts) + cond (has flip.versions v) 1 0 = λ v. sum_by_push (λ (p : Part). cond (serves v p) 1 0) left part ∙ ap (λ (n : ℕ). n + cond (has flip.versions v) 1 0) (times-left flip.versions v parts) in
    let numbers : (v : ℕ) → number_of v (left ++ part ∷ []) ≡ cond (has flip.versions v) 0 (number_of v parts) + cond (has flip.versions v) next 0 = λ v. sum_by_push (λ (p : Part). cond (serves v p) p.id 0) left part ∙ ap (λ (n : ℕ). n + cond (has flip.versions v) next 0) (number-left flip.versions v parts) in
    record {
      sound = record {
        sound = sound-push 1 next left part (sound-left flip.versions 1 next parts h.sound.sound) own refl;
        once = λ v. once-flipped (has flip.versions v) (times_placed v parts) _ (times v) (h.sound.once v);
      };
      index_is = record {
        entries = moved.entries;
        numbers = λ v. moved.numbers v ∙ ap (λ (n : ℕ). cond (has flip.versions v) next n) (h.index_is.numbers v) ∙ sum-of-both (has flip.versions v) next (number_of v parts) ∙ sym (numbers v);
        count =
            let push = sum_by_push (λ (p : Part). length p.versions) left part in
            let left_sum = sum-left (λ (p : Part). length p.versions) flip.versions (λ p e. empty-long p.versions e) parts in
            let went = count-left 0 flip.versions parts may.ascend (versions-ascend 1 next parts h.sound.sound) (λ vid there. times-one next parts flip.versions vid h.sound may.placed there) in
            let was = h.index_is.count in
            let same = moved.count in
            omega (arith, push, left_sum, went, was, same);
      };
      few = All-append HasFewRecords left (part ∷ []) (few-left flip.versions parts h.few) (one-few part few);
      stored_is = ap (λ (n : ℕ). n + flip.records) stored_is ∙ sym (sum_by_push (λ (p : Part). p.records) left part);
      cost_is = ap (λ (n : ℕ). n + length flip.versions * flip.records) cost_is ∙ sym (sum_by_push (λ (p : Part). length p.versions * p.records) left part);
    }

-- the cost after the versions left, with the empty partitions and without
pub cost-filled : (versions : List ℕ) (parts : List Part) → cost_of (left_parts versions parts) ≡ cost_of (map (leaving versions) parts)
cost-filled versions parts = sum-left (λ (p : Part). length p.versions * p.records) versions (λ p e. empty-cost p e) parts ∙ sym (sum-map (λ (p : Part). length p.versions * p.records) (leaving versions) parts)

-- each partition has its versions' number, by the index
pub owned-index : (index : List Entry) (parts : List Part) (next : ℕ) → AreParts parts next → IsIndex index parts → All (IsOwned (λ vid. number_at vid index)) parts
owned-index index parts next sound is k d lt vid there = is.numbers vid ∙ owned-by-number parts sound.once k d lt vid there

pub placed-index : (index : List Entry) (parts : List Part) (next : ℕ) (versions : List ℕ) → AreParts parts next → IsIndex index parts → ArePlaced parts versions → (vid : ℕ) → has versions vid ≡ true → has (numbers_of parts) (number_at vid index) ≡ true
placed-index index parts next versions sound is placed vid there =
    let some = has-number next parts versions vid sound placed there in
    rw (is.numbers vid) (number-there vid parts (sound.once vid) some)

pub some-index : (index : List Entry) (parts : List Part) (next : ℕ) (versions : List ℕ) → AreParts parts next → IsIndex index parts → ArePlaced parts versions → (vid : ℕ) → has versions vid ≡ true → 1 ≤ number_at vid index
some-index index parts next versions sound is placed vid there =
    let some = has-number next parts versions vid sound placed there in
    let same = is.numbers vid in
    omega (arith, some, same)

-- all that a flip does to the numbers
pub flip-all : (index new : List Entry) (parts : List Part) (next stored cost saved gone : ℕ) (flip : Flip) → AreNumbers index parts next stored cost → MayFlip flip parts → HasFlipped index new flip.versions next → flip.records < 2 ^ 32 → saved + cost_of (map (leaving flip.versions) parts) ≡ cost_of parts → gone + stored_of (left_parts flip.versions parts) ≡ stored_of (map (leaving flip.versions) parts) → AreNumbers new (left_parts flip.versions parts ++ flipped_part next flip parts ∷ []) (next + 1) (stored - gone + flip.records) (cost - saved + length flip.versions * flip.records)
flip-all index new parts next stored cost saved gone flip h may moved few saved_is gone_is =
    let stored_was = h.stored_is in
    let cost_was = h.cost_is in
    let same = stored-left flip.versions parts in
    let filled = cost-filled flip.versions parts in
    flip-numbers index new parts next stored cost (stored - gone) (cost - saved) flip h may moved few (omega (arith, stored_was, same, gone_is)) (omega (arith, cost_was, filled, saved_is))

drop-past : {X : Type 0} (n : ℕ) (xs : List X) → length xs ≤ n → drop n xs ≡ []
drop-past zero [] le = refl
drop-past (suc n) [] le = refl
drop-past zero (x ∷ xs) le = absurd (omega arith)
drop-past (suc n) (x ∷ xs) le = drop-past n xs (omega arith)

append-nil : {X : Type 0} (xs : List X) → xs ++ [] ≡ xs
append-nil [] = refl
append-nil (x ∷ xs) = ap (λ ys. x ∷ ys) (append-nil xs)

take-length : {X : Type 0} (xs : List X) → take (length xs) xs ≡ xs
take-length [] = refl
take-length (x ∷ xs) = ap (λ ys. x ∷ ys) (take-length xs)

-- a whole slice is written back
pub whole : {X : Type 0} (new old : List X) (n : ℕ) → length new ≡ length old → n ≡ length old → take n (new ++ drop (length new) old) ≡ new
whole new old n same all =
    let none : drop (length new) old ≡ [] = drop-past (length new) old (omega (arith, same)) in
    let size : n ≡ length new = omega (arith, same, all) in
    rw (none, append-nil new, size) (take-length new)

pub length-left : (versions : List ℕ) (parts : List Part) → length (left_parts versions parts) ≤ length parts
length-left versions [] = omega arith
length-left versions (part ∷ parts) =
    let rest = length-left versions parts in
    elim (cases_Bool (is_empty (leaving versions part))) [
      | inl e ↦ rw e (omega (arith, rest))
      | inr e ↦ rw e (omega (arith, rest))
    ]
