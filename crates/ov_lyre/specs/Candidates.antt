-- Candidates, and what they say of a cut.
use Rattle.std.specs.Prelude.{◌≡◌, ℕ, Option, Some, None, if◌then◌else◌, List}
use Rattle.ov_graph.specs.Trees.{VersionTree}
use Rattle.ov_graph.specs.Splits.{versions_apart, records_apart, comes_first}
use Rattle.ov_lyre.specs.declared.choice.Candidate.{Candidate}

pub record IsCandidate (tree : VersionTree) (part : List ℕ) (candidate : Candidate) : Type 0 where
  pub versions : candidate.versions_apart ≡ versions_apart tree part candidate.child
  pub records : candidate.records_apart ≡ records_apart tree part candidate.child

abbrev pub better_of : Candidate → Option Candidate → Candidate
better_of candidate None = candidate
better_of candidate (Some other) = if comes_first candidate.versions_apart candidate.records_apart other.versions_apart other.records_apart then candidate else other

-- the best candidate so far is that of this choice
abbrev pub IsBest : VersionTree → List ℕ → Option Candidate → Option ℕ → Type 0
IsBest tree part None o = o ≡ None
IsBest tree part (Some candidate) o = (o ≡ Some candidate.child) × IsCandidate tree part candidate
