-- The event that a commit writes, from what was read of its parents and of the partition that it joins.
--     MayCommit d schema vids message rows parents      what a commit asks, beside that what was read agrees
--     MayAdd format columns d      in a store of this format the dataset takes these columns
--     rids_for d rows parents      the rids of its rows
--     edges_for d vids rows parents      its parents with the weights of their edges
--     place_for d vids rows parents      where it goes
--     added_for place rows rids held      how many records its partition takes
use Rattle.std.specs.Prelude.{◌≡◌, ◌+◌, ◌≤◌, ◌<◌, ◌^◌, ℕ, not, List, [], ◌∷◌, length, map, filter, IsTrue, is_ok}
use Rattle.std.specs.List.{zip}
use Rattle.ov_graph.specs.Versions.{heaviest}
use Rattle.ov_place.specs.Placement.{placed}
use Rattle.ov_place.specs.declared.place_facts.Place.{Place}
use Rattle.ov_place.specs.declared.place_facts.Place.TheVariants.{Own, Join}
use Rattle.ov_segment.specs.declared.numbered.Record.{Record}
use Rattle.ov_value.specs.Making.{widened}
use Rattle.ov_value.specs.Rows.{key_cmp}
use Rattle.ov_value.specs.Shapes.{Shape}
use Rattle.ov_value.specs.declared.column.Column.{Column}
use Rattle.ov_model.specs.Assigned.{assigned, fresh_rows}
use Rattle.ov_model.specs.Book.{Row}
use Rattle.ov_model.specs.Lists.{Rises}
use Rattle.ov_model.specs.World.{is_one}
use Rattle.ov_records.specs.Records.{lists_of, shared}
use Rattle.ov_catalog.specs.Applying.{facts_of}
use Rattle.ov_catalog.specs.Numbers.{SetNumbers}
use Rattle.ov_catalog.specs.Reached.{AreParents}
use Rattle.law_commits.specs.Agreeing.{HeldAgrees}

-- parents that are there, none twice; a vid that is left; a short message; rows in key order, no key twice, and not too
-- many; and a rid that is left for each new record
pub record MayCommit {L S : Type 0} (d : SetNumbers L S) (schema : Shape) (vids message : List ℕ) (rows : List Row) (parents : List (List Record)) : Type 0 where
  pub named : AreParents (length d.versions) vids
  pub left : length d.versions < 65535
  pub short : length message ≤ 1024
  pub rise : Rises (key_cmp schema) rows
  pub few : length rows ≤ 1000000
  pub room : d.records + fresh_rows rows (lists_of parents) ≤ 2 ^ 31

-- only a store of format 2 takes columns, and none is no change
abbrev pub MayAdd : {L S : Type 0} → ℕ → List Column → SetNumbers L S → Type 0
MayAdd format [] d = Unit {0}
MayAdd format (column ∷ added) d = (format ≡ 2) × IsTrue (is_ok (widened d.schema (column ∷ added)))

abbrev pub rids_for : {L S : Type 0} → SetNumbers L S → List Row → List (List Record) → List ℕ
rids_for d rows parents = assigned rows (lists_of parents) (d.records + 1)

abbrev pub edges_for : {L S : Type 0} → SetNumbers L S → List ℕ → List Row → List (List Record) → List (ℕ × ℕ)
edges_for d vids rows parents = zip vids (map (shared (zip (rids_for d rows parents) rows)) (lists_of parents))

abbrev pub place_for : {L S : Type 0} → SetNumbers L S → List ℕ → List Row → List (List Record) → Place
place_for d vids rows parents = placed (facts_of d (heaviest (edges_for d vids rows parents)))

-- those of these rids that aren't held
abbrev pub lacking_of : List ℕ → List ℕ → List ℕ
lacking_of rids held = filter (λ rid. not (is_one held rid)) rids

-- all rows, or of the version's rids those that the partition lacks
abbrev pub added_for : Place → List Row → List ℕ → List ℕ → ℕ
added_for Own rows rids held = length rows
added_for (Join id) rows rids held = length (lacking_of rids held)

-- what was read of the partition that is joined agrees
abbrev pub JoinedAgrees : {L S : Type 0} → SetNumbers L S → Place → List ℕ → Type 0
JoinedAgrees d Own held = Unit {0}
JoinedAgrees d (Join id) held = HeldAgrees d id held
