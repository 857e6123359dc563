-- A dataset while it is generated, version by version.
--     Grown      what the generator draws from next, and the rows of the versions that are there
--     begun seed count      after version 1
--     grown_more count g, move_next number count g      after one version more; the move that commits it
--     HasGrown w name number count g      so it stands in a World
use Rattle.std.specs.Prelude.{◌≡◌, ◌≤◌, ◌<◌, ℕ, ◌+◌, ◌-◌, ◌*◌, ◌/◌, List, [], ◌∷◌, ◌++◌, length, map, slice_index_or, Some, codes}
use Rattle.ov_gen.specs.Versions.{IsGrown}
use Rattle.ov_model.specs.Book.{Row, Version}
use Rattle.ov_model.specs.Generator.{Drawn, child_of, fresh_rows, generated_schema, parent_drawn}
use Rattle.ov_model.specs.Moves.{Move, Commit}
use Rattle.ov_model.specs.Records.{order_of}
use Rattle.ov_model.specs.World.{Dataset, World, set_named}

pub record Grown : Type 0 where
  pub state : ℕ
  pub done : List (List Row)

abbrev pub begun : ℕ → ℕ → Grown
begun seed count = record { state = (fresh_rows count 1 seed).state; done = (fresh_rows count 1 seed).is ∷ [] }

-- the parent of the next version, and its rows
abbrev pub parent_next : Grown → Drawn ℕ
parent_next g = parent_drawn (length g.done) g.state

abbrev pub rows_of_parent : Grown → List Row
rows_of_parent g = slice_index_or g.done ((parent_next g).is - 1) []

abbrev pub rows_next : ℕ → Grown → Drawn (List Row)
rows_next count g = child_of count (length g.done + 1) (parent_next g).state (rows_of_parent g)

abbrev pub grown_more : ℕ → Grown → Grown
grown_more count g = record { state = (rows_next count g).state; done = g.done ++ (rows_next count g).is ∷ [] }

abbrev pub move_next : ℕ → ℕ → Grown → Move
move_next number count g = Commit number ((parent_next g).is ∷ []) (codes "gen") [] (rows_next count g).is

-- each version's rows are as those of a version before this one
abbrev pub AllGrown : ℕ → ℕ → List (List Row) → Type 0
AllGrown count vid [] = Unit {0}
AllGrown count vid (rows ∷ done) = IsGrown count vid rows × AllGrown count vid done

-- A version brings at most this many records that its parent doesn't have: one row and one for each hundred get another number,
-- and one is fresh.
abbrev pub fresh_most : ℕ → ℕ
fresh_most count = 2 + count / 100

-- the dataset has these versions, and no more records than they bring
pub record HasGrown (w : World) (name : List ℕ) (number count : ℕ) (g : Grown) : Type 0 where
  pub set : Dataset
  pub named : set_named w name ≡ Some set
  pub number_is : set.cvd.number ≡ number
  pub schema_is : set.cvd.schema ≡ generated_schema
  pub rows_are : map (λ (v : Version). v.rows) set.cvd.versions ≡ g.done
  pub some : 0 < length g.done
  pub grown : AllGrown count (length g.done + 1) g.done
  pub few : length (order_of set.cvd.versions) + fresh_most count ≤ count + length g.done * fresh_most count
