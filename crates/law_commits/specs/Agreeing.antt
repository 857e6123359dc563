-- What was read of a commit's parents, and of the partition that it joins, beside the catalog's numbers.
--     AreRids count most rids      so many different rids, from 1 to the most
--     ParentsAgree d vids parents      what was read of these versions, the records of each
--     HeldAgrees d id held      what was read of a partition, its rids
use Rattle.std.specs.Prelude.{◌≡◌, ◌≤◌, ℕ, List, [], ◌∷◌, length}
use Rattle.ov_segment.specs.declared.numbered.Record.{Record}
use Rattle.ov_model.specs.Lists.{IsIn, joined}
use Rattle.ov_model.specs.Placed.{times}
use Rattle.ov_records.specs.Records.{lists_of}
use Rattle.ov_catalog.specs.Applying.{rows_at, part_numbered, records_in}
use Rattle.ov_catalog.specs.Numbers.{SetNumbers}
use Rattle.law_commits.specs.Differing.{rids_of, NoneDiffer}

pub record AreRids (count most : ℕ) (rids : List ℕ) : Type 0 where
  pub all : length rids ≡ count
  pub once : (rid : ℕ) → times rids rid ≤ 1
  pub from_one : (rid : ℕ) → IsIn rids rid → 1 ≤ rid
  pub there : (rid : ℕ) → IsIn rids rid → rid ≤ most

-- each version has as many records as rows, and there are the records of each version
abbrev pub EachAgrees : {L S : Type 0} → SetNumbers L S → List ℕ → List (List Record) → Type 0
EachAgrees d [] [] = Unit {0}
EachAgrees d [] (records ∷ parents) = ⊥
EachAgrees d (vid ∷ vids) [] = ⊥
EachAgrees d (vid ∷ vids) (records ∷ parents) = AreRids (rows_at d.versions vid) d.records (rids_of records) × EachAgrees d vids parents

pub record ParentsAgree {L S : Type 0} (d : SetNumbers L S) (vids : List ℕ) (parents : List (List Record)) : Type 0 where
  pub each : EachAgrees d vids parents
  pub none_differ : NoneDiffer (joined (lists_of parents))

abbrev pub HeldAgrees : {L S : Type 0} → SetNumbers L S → ℕ → List ℕ → Type 0
HeldAgrees d id held = AreRids (records_in (part_numbered d.parts id)) d.records held
