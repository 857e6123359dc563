-- Each piece has its records in the order of their rids.
--     HaveOrder sets      so it is in partitions, and among what was copied for plans
use Rattle.std.specs.Prelude.{◌≡◌, List, [], ◌∷◌, Option, Some, None}
use Rattle.ov_model.specs.Records.{Rec, in_order, order_of}
use Rattle.ov_model.specs.World.{Part, Plan, Dataset}

-- its records are some of all, in the order of all
abbrev pub IsInOrder : List Rec → List Rec → Type 0
IsInOrder all piece = piece ≡ in_order all piece

abbrev pub AreInOrder : List Rec → List (List Rec) → Type 0
AreInOrder all [] = Unit {0}
AreInOrder all (piece ∷ pieces) = IsInOrder all piece × AreInOrder all pieces

abbrev pub PartsAreInOrder : List Rec → List Part → Type 0
PartsAreInOrder all [] = Unit {0}
PartsAreInOrder all (part ∷ parts) = AreInOrder all part.pieces × PartsAreInOrder all parts

abbrev pub CopiesAreInOrder : List Rec → Option Plan → Type 0
CopiesAreInOrder all None = Unit {0}
CopiesAreInOrder all (Some plan) = AreInOrder all plan.copied

pub record HasOrder (d : Dataset) : Type 0 where
  pub parts : PartsAreInOrder (order_of d.cvd.versions) d.parts
  pub plan : CopiesAreInOrder (order_of d.cvd.versions) d.plan

abbrev pub HaveOrder : List Dataset → Type 0
HaveOrder [] = Unit {0}
HaveOrder (d ∷ sets) = HasOrder d × HaveOrder sets
