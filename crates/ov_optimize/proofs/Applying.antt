-- The event of a plan applies to its dataset: the sizes and sources of its targets are such as the catalog asks for.
use Rattle.std.proofs.Common.{◌≡◌, ◌<◌, ◌≤◌, ◌⊎◌, ◌^◌, ℕ, zero, suc, ◌+◌, ◌-◌, Bool, true, false, not, ◌||◌, ◌&&◌, ◌==◌, List, [], ◌∷◌, length, get_or, map, refl, sym, ◌∙◌, ap, subst, inl, inr, arith}
use Rattle.std.specs.Prelude.{Option, Some, None, filter, nat_le, nat_lt, if◌then◌else◌}
use Rattle.std.specs.List.{AllByRecursion, AllZip, list_all, list_any, range_with_len}
use Rattle.std.proofs.lemmas.Bool.{and_from, cases_Bool, cond-false, cond-true, eq-eqb, eqb-true, le-leb, ne_eqb, or_cases, true≢false}
use Rattle.std.proofs.lemmas.List.FromFn.{length-range_with_len}
use Rattle.ov_event.specs.declared.event.PlanTarget.{PlanTarget}
use Rattle.ov_event.specs.Fields.{IsU32}
use Rattle.ov_event.specs.Spelling.{IsTarget as IsSpelledTarget}
use Rattle.ov_host.specs.declared.area.Extent.{Extent}
use Rattle.ov_match.specs.declared.choosing.Candidate.{Candidate}
use Rattle.ov_match.specs.Matching.{NumbersAscend, cheapest, cost, kept_of, places_within}
use Rattle.ov_match.proofs.Counts.{rise_once}
use Rattle.ov_member.specs.Rids.{AreRids, has}
use Rattle.ov_model.specs.Lists.{IsIn, joined}
use Rattle.ov_model.specs.Plans.{cheaper, source_of}
use Rattle.ov_catalog.specs.Applying.{is_same, part_numbered, rows_at}
use Rattle.ov_catalog.specs.Events.{target_of, targets_of}
use Rattle.ov_catalog.specs.Numbers.{PartNumbers, TargetNumbers}
use Rattle.ov_catalog.specs.Planning.{are_below, are_targets, ascend_from, empties, is_kept, is_size, is_source, meets}
use Rattle.ov_catalog.proofs.TargetLemmas.{versions-of}
use Rattle.ov_read.specs.Agreement.{Numbers}
use Rattle.ov_read.proofs.Gatherings.{zip_at, zip_length}
use Rattle.ov_targets.specs.declared.candidates.Partition.{Partition}
use Rattle.ov_targets.specs.Targets as targets
use Rattle.ov_targets.specs.Targets.{AreTargets, AreVids, IsSaid, IsTarget, IsWanted, candidate_in, emptied_by, list_at, segments_of}
use Rattle.ov_targets.proofs.Said.{no_segments, segments_here}
use Rattle.ov_optimize.specs.Reading.{IsListOf, IsPartitionOf, all_vids}
use Rattle.ov_optimize.proofs.Kept.{kept_both, kept_most, places_ascend, places_below, places_few, places_fit}
use Rattle.ov_optimize.proofs.RidSets.{few_of, no_longer, or_right, up_to}

or_left : (a b : Bool) → a ≡ true → (a || b) ≡ true
or_left true b e = refl
or_left false b e = cc

-- the k-th of the numbers from one on
pub vid_at : (from count k d : ℕ) → k < count → get_or (range_with_len from count) k d ≡ from + k
vid_at from zero k d low = absurd (omega (arith, low))
vid_at from (suc count) zero d low = omega arith
vid_at from (suc count) (suc k) d low = vid_at (from + 1) count k d (omega (arith, low)) ∙ omega arith

-- ---- candidates

cheapest_in : (wanted : List ℕ) (cs : List Candidate) (best : ℕ × ℕ) → cheapest wanted cs ≡ Some best → (one : Candidate) × (IsIn cs one × (one.part ≡ best.0))
cheapest_in wanted [] best e = cc
cheapest_in wanted (c ∷ cs) best e = by (cheapest wanted cs) (cheapest_in wanted cs) e
  where
    here : ℕ × ℕ
    here = (c.part, cost wanted c)

    first : (a : ℕ × ℕ) → Some (c.part, cost wanted c) ≡ Some a → c.part ≡ a.0
    first a e = cc

    same : (a b : ℕ × ℕ) → Some a ≡ Some b → a ≡ b
    same a b e = cc

    by : (o : Option (ℕ × ℕ)) → ((b : ℕ × ℕ) → o ≡ Some b → (one : Candidate) × (IsIn cs one × (one.part ≡ b.0))) → cheaper here o ≡ Some best
        → (one : Candidate) × (IsIn (c ∷ cs) one × (one.part ≡ best.0))
    by None rest e = (c, (inl refl, first best e))
    by (Some b) rest e = pick (nat_le here.1 b.1) e
      where
        pick : (t : Bool) → (if t then Some here else Some b) ≡ Some best → (one : Candidate) × (IsIn (c ∷ cs) one × (one.part ≡ best.0))
        pick true e = (c, (inl refl, first best e))
        pick false e = let it = rest best e in (it.0, (inr it.1.0, it.1.1))

-- a source is none, or one of the candidates
source_in : (wanted : List ℕ) (cs : List Candidate) (size : ℕ) → (source_of size (cheapest wanted cs) ≡ 0)
    ⊎ ((one : Candidate) × (IsIn cs one × (one.part ≡ source_of size (cheapest wanted cs))))
source_in wanted cs size = by (cheapest wanted cs) (cheapest_in wanted cs)
  where
    by : (o : Option (ℕ × ℕ)) → ((b : ℕ × ℕ) → o ≡ Some b → (one : Candidate) × (IsIn cs one × (one.part ≡ b.0)))
        → (source_of size o ≡ 0) ⊎ ((one : Candidate) × (IsIn cs one × (one.part ≡ source_of size o)))
    by None found = inl refl
    by (Some b) found = pick (nat_lt b.1 size)
      where
        pick : (t : Bool) → ((if t then b.0 else 0) ≡ 0) ⊎ ((one : Candidate) × (IsIn cs one × (one.part ≡ (if t then b.0 else 0))))
        pick true = inr (found b refl)
        pick false = inl refl

-- the partition that a candidate is
pub record IsOf (p : Partition → Bool) (partitions : List Partition) (one : Candidate) : Type 0 where
  pub partition : Partition
  pub listed : IsIn partitions partition
  pub passes : p partition ≡ true
  pub is : one ≡ candidate_in partition

candidate_of : (p : Partition → Bool) (partitions : List Partition) (one : Candidate) → IsIn (map candidate_in (filter p partitions)) one → IsOf p partitions one
candidate_of p [] one is = absurd is
candidate_of p (r ∷ rs) one is = by (p r) refl (candidate_of p rs one) is
  where
    more : IsOf p rs one → IsOf p (r ∷ rs) one
    more of = record { partition = of.partition; listed = inr of.listed; passes = of.passes; is = of.is }

    by : (b : Bool) → p r ≡ b → (IsIn (map candidate_in (filter p rs)) one → IsOf p rs one)
        → IsIn (map candidate_in (if b then r ∷ filter p rs else filter p rs)) one → IsOf p (r ∷ rs) one
    by true e rest (inl same) = record { partition = r; listed = inl refl; passes = e; is = same }
    by true e rest (inr later) = more (rest later)
    by false e rest later = more (rest later)

in_all : (partitions : List Partition) (r : Partition) → IsIn partitions r → IsIn (map candidate_in partitions) (candidate_in r)
in_all [] r is = absurd is
in_all (x ∷ rs) r (inl same) = inl (ap candidate_in same)
in_all (x ∷ rs) r (inr later) = inr (in_all rs r later)

-- the numbers of a partition that was read
pub record HasNumbers (records : ℕ) (parts : List (PartNumbers Extent)) (r : Partition) : Type 0 where
  pub part : PartNumbers Extent
  pub found : part_numbered parts r.id ≡ Some part
  pub is : IsPartitionOf records part r

above : (low : ℕ) (partitions : List Partition) (r : Partition) → NumbersAscend low (map candidate_in partitions) → IsIn partitions r → low < r.id
above low [] r up is = absurd is
above low (x ∷ rs) r up (inl same) = omega (arith, up.0, ap (λ (y : Partition). y.id) same)
above low (x ∷ rs) r up (inr later) = omega (arith, up.0, above x.id rs r up.1 later)

numbers_of : (records low : ℕ) (parts : List (PartNumbers Extent)) (partitions : List Partition) (r : Partition) → AllZip (IsPartitionOf records) parts partitions
    → NumbersAscend low (map candidate_in partitions) → IsIn partitions r → HasNumbers records parts r
numbers_of records low [] [] r are up is = absurd is
numbers_of records low [] (x ∷ rs) r are up is = absurd are
numbers_of records low (p ∷ parts) [] r are up is = absurd are
numbers_of records low (p ∷ parts) (x ∷ rs) r are up (inl same) = record {
  part = p;
  found = cond-true (p.id == r.id) (Some p) (part_numbered parts r.id) (eq-eqb p.id r.id (sym are.0.id ∙ ap (λ (y : Partition). y.id) (sym same)));
  is = subst (IsPartitionOf records p) (sym same) are.0;
}
numbers_of records low (p ∷ parts) (x ∷ rs) r are up (inr later) =
    let rest = numbers_of records x.id parts rs r are.1 up.1 later in
    record {
      part = rest.part;
      found = cond-false (p.id == r.id) (Some p) (part_numbered parts r.id)
          (ne_eqb p.id r.id (λ e. absurd (omega (arith, e, are.0.id, above x.id rs r up.1 later)))) ∙ rest.found;
      is = rest.is;
    }

module _ (s : Numbers) (lists : List (List ℕ)) (partitions : List Partition) (listed : AllZip (IsListOf s) (all_vids s) lists)
    (parted : AllZip (IsPartitionOf s.records) s.parts partitions) (up : NumbersAscend 0 (map candidate_in partitions)) where
  -- ---- sizes

  pub lists_long : length lists ≡ length s.versions
  lists_long = zip_length (IsListOf s) (all_vids s) lists listed ∙ length-range_with_len 1 (length s.versions)

  list_here : (vid : ℕ) → 1 ≤ vid → vid ≤ length lists → IsListOf s vid (list_at lists vid)
  list_here vid some most =
      let low : vid - 1 < length s.versions = omega (arith, some, most, lists_long) in
      let here : get_or (all_vids s) (vid - 1) 0 ≡ vid = vid_at 1 (length s.versions) (vid - 1) 0 low ∙ omega (arith, some) in
      subst (λ n. IsListOf s n (list_at lists vid)) here
      (zip_at (IsListOf s) (all_vids s) lists (vid - 1) 0 [] listed (omega (arith, low, length-range_with_len 1 (length s.versions))))

  abbrev asked : List ℕ → ℕ → Bool
  asked vids rid = list_any (λ vid. has (list_at lists vid) rid) vids

  -- each version has no more rows than all of them together have records
  rows_within : (wanted vids : List ℕ) → AreRids wanted → AreVids (length lists) vids → ((rid : ℕ) → asked vids rid ≡ true → has wanted rid ≡ true)
      → list_all (λ vid. nat_le (rows_at s.versions vid) (length wanted)) vids ≡ true
  rows_within wanted [] rids are within = refl
  rows_within wanted (vid ∷ vids) rids are within =
      let own : IsListOf s vid (list_at lists vid) = list_here vid are.0.0 are.0.1 in
      let count : length (list_at lists vid) ≡ rows_at s.versions vid = own.agrees.count_is in
      let less : length (list_at lists vid) ≤ length wanted =
      no_longer (list_at lists vid) wanted (λ n. rise_once 1 (list_at lists vid) n own.set) (λ n. rise_once 1 wanted n rids)
      (λ n e. within n (or_left (has (list_at lists vid) n) (asked vids n) e)) in
      and_from (nat_le (rows_at s.versions vid) (length wanted)) (list_all (λ v. nat_le (rows_at s.versions v) (length wanted)) vids)
      (le-leb (rows_at s.versions vid) (length wanted) (omega (arith, count, less)))
      (rows_within wanted vids rids are.1 (λ n e. within n (or_right (has (list_at lists vid) n) (asked vids n) e)))

  rid_low : (vids : List ℕ) (rid : ℕ) → AreVids (length lists) vids → asked vids rid ≡ true → rid ≤ s.records
  rid_low [] rid are is = absurd cc
  rid_low (vid ∷ vids) rid are is = elim (or_cases (has (list_at lists vid) rid) (asked vids rid) is) [
    | inl here ↦ up_to (list_at lists vid) rid s.records (list_here vid are.0.0 are.0.1).within here
    | inr later ↦ rid_low vids rid are.1 later
  ]

  module _ (versions wanted : List ℕ) (vids : AreVids (length lists) versions) (together : IsWanted lists versions wanted) where
    size_low : length wanted ≤ s.records
    size_low = omega (arith, few_of s.records 1 wanted together.rids (λ n e. rid_low versions n vids (sym (together.together n) ∙ e)))

    size_fits : (list_all (λ vid. nat_le (rows_at s.versions vid) (length wanted)) versions && nat_le (length wanted) s.records) ≡ true
    size_fits =
        and_from (list_all (λ vid. nat_le (rows_at s.versions vid) (length wanted)) versions) (nat_le (length wanted) s.records)
        (rows_within wanted versions together.rids vids (λ n e. together.together n ∙ e))
        (le-leb (length wanted) s.records size_low)

    -- ---- a source

    abbrev all : List Candidate
    all = map candidate_in partitions

    module _ (later : List (List ℕ)) (t : PlanTarget) (said : IsSaid wanted (emptied_by versions later partitions) (map candidate_in partitions) t) where
      abbrev keeps : List ℕ → ℕ → ℕ → ℕ → Bool
      keeps kept records size count = (ascend_from 0 kept && are_below count kept) && (is_same (length kept == 0) (records == 0) && nat_le records size)

      -- what it keeps of no source, and of a partition
      pub record Keeps (segments : List (List ℕ)) : Type 0 where
        pub kept : t.kept ≡ places_within 0 wanted segments
        pub records : t.kept_records ≡ length (joined (kept_of wanted segments))

      keeps_of : (segments : List (List ℕ)) → segments_of (map candidate_in partitions) t.source ≡ segments → Keeps segments
      keeps_of segments is = record {
        kept = said.kept ∙ ap (places_within 0 wanted) is;
        records = said.kept_records ∙ ap (λ ss. length (joined (kept_of wanted ss))) is;
      }

      none_kept : t.source ≡ 0 → Keeps []
      none_kept nil = keeps_of [] (ap (segments_of (map candidate_in partitions)) nil ∙ no_segments 0 (map candidate_in partitions) up)

      nothing : t.source ≡ 0 → (length t.kept == 0 && t.kept_records == 0) ≡ true
      nothing nil = let k = none_kept nil in λ i. length (k.kept i) == 0 && k.records i == 0

      -- the partition that is its source
      pub record HasSource : Type 0 where
        pub partition : Partition
        pub among : IsIn partitions partition
        pub source : t.source ≡ partition.id
        pub passes : targets.empties versions later partition ≡ true
        pub numbers : HasNumbers s.records s.parts partition
        pub kept : Keeps partition.segments.items

      has_source : (t.source == 0) ≡ false → HasSource
      has_source some = elim (source_in wanted (emptied_by versions later partitions) (length wanted)) [
        | inl nil ↦ absurd (true≢false (sym (eq-eqb t.source 0 (said.source ∙ nil)) ∙ some))
        | inr one ↦
            let of = candidate_of (targets.empties versions later) partitions one.0 one.1.0 in
            let source : t.source ≡ of.partition.id = said.source ∙ sym one.1.1 ∙ ap (λ (c : Candidate). c.part) of.is in
            record {
              partition = of.partition;
              among = of.listed;
              source = source;
              passes = of.passes;
              numbers = numbers_of s.records 0 s.parts partitions of.partition parted up of.listed;
              kept = keeps_of of.partition.segments.items (ap (segments_of (map candidate_in partitions)) source
                  ∙ segments_here 0 (map candidate_in partitions) (candidate_in of.partition) up (in_all partitions of.partition of.listed));
            }
      ]

      source_kept : (from : HasSource) → is_kept (target_of versions t) later (part_numbered s.parts t.source) ≡ true
      source_kept from =
          let r : Partition = from.partition in
          let part : PartNumbers Extent = from.numbers.part in
          let is : IsPartitionOf s.records part r = from.numbers.is in
          let segments : List (List ℕ) = r.segments.items in
          let kept : List ℕ = places_within 0 wanted r.segments.items in
          let records : ℕ = length (joined (kept_of wanted r.segments.items)) in
          let count : ℕ = length part.segments in
          ap (is_kept (target_of versions t) later) (ap (part_numbered s.parts) from.source ∙ from.numbers.found)
          ∙ and_from (empties versions later part) (keeps t.kept t.kept_records t.size (length part.segments))
          (ap (λ vs. meets versions vs && not (list_any (λ other. meets other vs) later)) (sym is.versions) ∙ from.passes)
          ((λ i. keeps (from.kept.kept i) (from.kept.records i) (said.size i) (length part.segments))
          ∙ and_from (ascend_from 0 kept && are_below count kept) (is_same (length kept == 0) (records == 0) && nat_le records (length wanted))
          (and_from (ascend_from 0 kept) (are_below count kept) (places_ascend wanted 0 0 segments (omega arith))
          (places_below wanted 0 count segments (omega (arith, is.count))))
          (and_from (is_same (length kept == 0) (records == 0)) (nat_le records (length wanted)) (kept_both wanted 0 segments is.filled)
          (le-leb records (length wanted) (kept_most wanted segments together.rids is.sound.apart))))

      source_fits : is_source s.parts (target_of versions t) later ≡ true
      source_fits = elim (cases_Bool (t.source == 0)) [
        | inl nil ↦ cond-true (t.source == 0) (length t.kept == 0 && t.kept_records == 0) (is_kept (target_of versions t) later (part_numbered s.parts t.source)) nil
            ∙ nothing (eqb-true t.source 0 nil)
        | inr some ↦ cond-false (t.source == 0) (length t.kept == 0 && t.kept_records == 0) (is_kept (target_of versions t) later (part_numbered s.parts t.source)) some
            ∙ source_kept (has_source some)
      ]

      -- ---- its spelling

      kept_low : (segments : List (List ℕ)) → Keeps segments → length (joined (kept_of wanted segments)) ≤ length wanted → length segments < 2 ^ 32 → s.records < 2 ^ 32 → IsU32 t.source
          → IsSpelledTarget t
      kept_low segments k most few low source = (
        omega (arith, said.size, size_low, low),
        source,
        (
          omega (arith, ap length k.kept, places_few wanted 0 segments, few),
          subst (AllByRecursion IsU32) (sym k.kept) (places_fit wanted 0 segments (omega (arith, few))),
        ),
        omega (arith, k.records, most, size_low, low),
      )

      spelled : s.records < 2 ^ 32 → ((r : Partition) → IsIn partitions r → r.id < 2 ^ 32) → IsSpelledTarget t
      spelled low ids = elim (cases_Bool (t.source == 0)) [
        | inl nil ↦
            let none : t.source ≡ 0 = eqb-true t.source 0 nil in
            kept_low [] (none_kept none) (omega arith) (omega arith) low (omega (arith, none))
        | inr some ↦
            let from = has_source some in
            let is : IsPartitionOf s.records from.numbers.part from.partition = from.numbers.is in
            kept_low from.partition.segments.items from.kept (kept_most wanted from.partition.segments.items together.rids is.sound.apart) is.sound.few low
            (omega (arith, from.source, ids from.partition from.among))
      ]

  -- ---- all targets

  pub targets_long : (parts : List (List ℕ)) (ts : List PlanTarget) → AreTargets lists partitions parts ts → length ts ≡ length parts
  targets_long [] [] are = refl
  targets_long [] (t ∷ ts) are = absurd are
  targets_long (part ∷ parts) [] are = absurd are
  targets_long (part ∷ parts) (t ∷ ts) are = ap suc (targets_long parts ts are.1)

  pub targets_fit : (parts : List (List ℕ)) (ts : List PlanTarget) → AllByRecursion (AreVids (length lists)) parts → AreTargets lists partitions parts ts
      → are_targets s (targets_of parts ts) ≡ true
  targets_fit [] [] vids are = refl
  targets_fit [] (t ∷ ts) vids are = absurd are
  targets_fit (versions ∷ later) [] vids are = absurd are
  targets_fit (versions ∷ later) (t ∷ ts) vids are =
      let is : IsTarget lists partitions versions later t = are.0 in
      let behind : List TargetNumbers = targets_of later ts in
      let source : Bool = is_source s.parts (target_of versions t) (map (λ (u : TargetNumbers). u.versions) (targets_of later ts)) in
      and_from (is_size s (target_of versions t) && source) (are_targets s behind)
      (and_from (is_size s (target_of versions t)) source
      (ap (λ n. list_all (λ vid. nat_le (rows_at s.versions vid) n) versions && nat_le n s.records) is.said.size ∙ size_fits versions is.wanted vids.0 is.together)
      (ap (is_source s.parts (target_of versions t)) (versions-of later ts (targets_long later ts are.1)) ∙ source_fits versions is.wanted vids.0 is.together later t is.said))
      (targets_fit later ts vids.1 are.1)

  pub all_spelled : (parts : List (List ℕ)) (ts : List PlanTarget) → AllByRecursion (AreVids (length lists)) parts → AreTargets lists partitions parts ts
      → s.records < 2 ^ 32 → ((r : Partition) → IsIn partitions r → r.id < 2 ^ 32) → AllByRecursion IsSpelledTarget ts
  all_spelled [] [] vids are low ids = tt
  all_spelled [] (t ∷ ts) vids are low ids = absurd are
  all_spelled (versions ∷ later) [] vids are low ids = absurd are
  all_spelled (versions ∷ later) (t ∷ ts) vids are low ids =
      let is : IsTarget lists partitions versions later t = are.0 in
      (spelled versions is.wanted vids.0 is.together later t is.said low ids, all_spelled later ts vids.1 are.1 low ids)
