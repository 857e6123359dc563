-- What is said of a target, and the list of all.
use Rattle.std.proofs.Common.{◌≡◌, ◌≤◌, ◌<◌, ℕ, zero, suc, ◌==◌, List, [], ◌∷◌, ◌++◌, length, map, get_or, drop, refl, sym, ◌∙◌, ap, subst, inl, inr, arith}
use Rattle.std.specs.Prelude.{if◌then◌else◌}
use Rattle.std.proofs.lemmas.Bool.{cases_Bool, eqb-true, eq-eqb}
use Rattle.ov_event.specs.declared.event.PlanTarget.{PlanTarget}
use Rattle.ov_match.specs.declared.choosing.Candidate.{Candidate}
use Rattle.ov_match.specs.declared.choosing.Choice.{Choice}
use Rattle.ov_match.specs.Matching.{NumbersAscend, IsChoice, cheapest, kept_of, places_within}
use Rattle.ov_model.specs.Lists.{IsIn, joined}
use Rattle.ov_model.specs.Plans.{source_of}
use Rattle.ov_targets.specs.declared.candidates.Partition.{Partition}
use Rattle.ov_targets.specs.Emptying.{IsBegun}
use Rattle.ov_targets.specs.Targets.{AreVids, IsWanted, IsSaid, IsTarget, AreTargets, candidate_in, emptied_by, empties, segments_of}
use Rattle.ov_targets.proofs.Buckets.{some_in}

pub vids_at : (count : ℕ) (vids : List ℕ) (k d : ℕ) → AreVids count vids → k < length vids → (1 ≤ get_or vids k d) × (get_or vids k d ≤ count)
vids_at count [] k d are lt = absurd (omega (arith, lt))
vids_at count (v ∷ vids) zero d are lt = are.0
vids_at count (v ∷ vids) (suc k) d are lt = vids_at count vids k d are.1 (omega (arith, lt))

pub vids_left : (count : ℕ) (xs ys : List ℕ) → AreVids count (xs ++ ys) → AreVids count xs
vids_left count [] ys are = tt
vids_left count (x ∷ xs) ys are = (are.0, vids_left count xs ys are.1)

pub vids_right : (count : ℕ) (xs ys : List ℕ) → AreVids count (xs ++ ys) → AreVids count ys
vids_right count [] ys are = are
vids_right count (x ∷ xs) ys are = vids_right count xs ys are.1

-- ---- the partition of a number

above_in : (low : ℕ) (cs : List Candidate) (one : Candidate) → NumbersAscend low cs → IsIn cs one → low < one.part
above_in low [] one ascend is = absurd is
above_in low (c ∷ cs) one ascend (inl same) = omega (arith, ascend.0, ap (λ x. x.part) same)
above_in low (c ∷ cs) one ascend (inr later) = omega (arith, ascend.0, above_in c.part cs one ascend.1 later)

pub segments_here : (low : ℕ) (cs : List Candidate) (one : Candidate) → NumbersAscend low cs → IsIn cs one → segments_of cs one.part ≡ one.segments.items
segments_here low [] one ascend is = absurd is
segments_here low (c ∷ cs) one ascend (inl same) =
    ap (λ b. if b then c.segments.items else segments_of cs one.part) (eq-eqb c.part one.part (ap (λ x. x.part) (sym same))) ∙ ap (λ x. x.segments.items) (sym same)
segments_here low (c ∷ cs) one ascend (inr later) = elim (cases_Bool (c.part == one.part)) [
  | inl e ↦ absurd (omega (arith, eqb-true c.part one.part e, above_in c.part cs one ascend.1 later))
  | inr e ↦ ap (λ b. if b then c.segments.items else segments_of cs one.part) e ∙ segments_here c.part cs one ascend.1 later
]

pub no_segments : (low : ℕ) (cs : List Candidate) → NumbersAscend low cs → segments_of cs 0 ≡ []
no_segments low [] ascend = refl
no_segments low (c ∷ cs) ascend = elim (cases_Bool (c.part == 0)) [
  | inl e ↦ absurd (omega (arith, eqb-true c.part 0 e, ascend.0))
  | inr e ↦ ap (λ b. if b then c.segments.items else segments_of cs 0) e ∙ no_segments c.part cs ascend.1
]

-- ---- what is said where there is a source, and where there is none

pub none_said : (wanted : List ℕ) (emptied all : List Candidate) (t : PlanTarget) → NumbersAscend 0 all → t.size ≡ length wanted
    → 0 ≡ source_of (length wanted) (cheapest wanted emptied) → t.source ≡ 0 → t.kept ≡ [] → t.kept_records ≡ 0 → IsSaid wanted emptied all t
none_said wanted emptied all t ascend size none source kept records = record {
  size = size;
  source = source ∙ none;
  kept = kept ∙ ap (places_within 0 wanted) (sym own);
  kept_records = records ∙ ap (λ segments. length (joined (kept_of wanted segments))) (sym own);
}
  where
    own : segments_of all t.source ≡ []
    own = ap (segments_of all) source ∙ no_segments 0 all ascend

pub some_said : (wanted : List ℕ) (emptied all : List Candidate) (t : PlanTarget) (choice : Choice) → NumbersAscend 0 all
    → ((one : Candidate) → IsIn emptied one → IsIn all one) → t.size ≡ length wanted → IsChoice wanted emptied choice
    → choice.part ≡ source_of (length wanted) (cheapest wanted emptied) → t.source ≡ choice.part → t.kept ≡ choice.kept.items → t.kept_records ≡ choice.records
    → IsSaid wanted emptied all t
some_said wanted emptied all t choice ascend known size is best source kept records = record {
  size = size;
  source = source ∙ best;
  kept = kept ∙ is.kept ∙ ap (places_within 0 wanted) (sym own);
  kept_records = records ∙ is.records ∙ ap (λ segments. length (joined (kept_of wanted segments))) (sym own);
}
  where
    own : segments_of all t.source ≡ is.from.segments.items
    own = ap (segments_of all) (source ∙ is.numbered) ∙ segments_here 0 all is.from ascend (known is.from is.cheapest.listed)

-- ---- one after another

-- the targets of the first parts
abbrev pub AreFirst : List (List ℕ) → List Partition → List (List ℕ) → List PlanTarget → Type 0
AreFirst lists partitions parts [] = Unit {0}
AreFirst lists partitions [] (t ∷ ts) = ⊥
AreFirst lists partitions (versions ∷ later) (t ∷ ts) = IsTarget lists partitions versions later t × AreFirst lists partitions later ts

pub first_more : (lists : List (List ℕ)) (partitions : List Partition) (parts : List (List ℕ)) (ts : List PlanTarget) (n : ℕ) (t : PlanTarget) → length ts ≡ n → n < length parts
    → AreFirst lists partitions parts ts → IsTarget lists partitions (get_or parts n []) (drop (suc n) parts) t → AreFirst lists partitions parts (ts ++ t ∷ [])
first_more lists partitions [] ts n t long lt first is = absurd (omega (arith, lt))
first_more lists partitions (p ∷ parts) [] zero t long lt first is = (is, tt)
first_more lists partitions (p ∷ parts) [] (suc n) t long lt first is = absurd (omega (arith, long))
first_more lists partitions (p ∷ parts) (x ∷ ts) zero t long lt first is = absurd (omega (arith, long))
first_more lists partitions (p ∷ parts) (x ∷ ts) (suc n) t long lt first is =
    (first.0, first_more lists partitions parts ts n t (omega (arith, long)) (omega (arith, lt)) first.1 is)

pub first_all : (lists : List (List ℕ)) (partitions : List Partition) (parts : List (List ℕ)) (ts : List PlanTarget) → length ts ≡ length parts
    → AreFirst lists partitions parts ts → AreTargets lists partitions parts ts
first_all lists partitions [] [] long first = tt
first_all lists partitions [] (t ∷ ts) long first = first
first_all lists partitions (p ∷ parts) [] long first = absurd (omega (arith, long))
first_all lists partitions (p ∷ parts) (t ∷ ts) long first = (first.0, first_all lists partitions parts ts (omega (arith, long)) first.1)

-- what is said of a target whose partitions are some of all
pub begun_is : (lists : List (List ℕ)) (partitions : List Partition) (versions : List ℕ) (later : List (List ℕ)) (own : List ℕ) (emptied : List Candidate) (t : PlanTarget)
    → own ≡ versions → emptied ≡ emptied_by versions later partitions → NumbersAscend 0 (map candidate_in partitions) → IsBegun lists own emptied t
    → IsTarget lists partitions versions later t
begun_is lists partitions versions later own emptied t mine some ascend begun = record {
  wanted = begun.wanted;
  together = subst (λ vids. IsWanted lists vids begun.wanted) mine begun.together;
  said = subst (λ cs. IsSaid begun.wanted cs (map candidate_in partitions) t) some
      (begun.said (map candidate_in partitions) ascend (λ one is. some_in (empties versions later) partitions one (subst (λ cs. IsIn cs one) some is)));
}
