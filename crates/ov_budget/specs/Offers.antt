-- A threshold that a budget chooses, with its split.
--     numbered offer      its line with its number
--     IsSplitAt nodes p depth parts      the split at p / 100 has this depth and these parts, and p is from 1 to 100
--     IsOffer nodes offer      of an offer
use Rattle.std.specs.Prelude.{◌≡◌, ◌≤◌, ℕ, List}
use Rattle.ov_graph.specs.declared.nodes.Node.{Node}
use Rattle.ov_graph.specs.Splits.{IsDivision, depth_of, parts_of}
use Rattle.ov_lyre.specs.Parts.{lists_of}
use Rattle.ov_budget.specs.declared.offers.Offer.{Offer}
use Rattle.ov_budget.specs.declared.thresholds.Line.{Line}

abbrev pub numbered : Offer → ℕ × Line
numbered offer = (offer.p, offer.line)

-- the split at p / 100 has this depth and these parts, and it divides the versions
pub record IsSplitAt (nodes : List Node) (p depth : ℕ) (parts : List (List ℕ)) : Type 0 where
  pub least : 1 ≤ p
  pub most : p ≤ 100
  pub parts_are : parts ≡ parts_of nodes p 100
  pub depth_is : depth ≡ depth_of nodes p 100
  pub division : IsDivision nodes p 100 parts

abbrev pub IsOffer : List Node → Offer → Type 0
IsOffer nodes offer = IsSplitAt nodes offer.p offer.split.depth (lists_of offer.split.parts.items)
