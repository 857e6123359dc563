-- A reader that is fed and asked in turn.
--     Step      some bytes are taken, or an answer is given
--     Run s old steps new      these steps lead from old to new
use Rattle.std.specs.Prelude.{◌≡◌, ℕ, List, [], ◌∷◌, ◌++◌}
use Rattle.ov_value.specs.Shapes.{Shape}
use Rattle.ov_segment.specs.declared.numbered.Record.{Record}
use Rattle.ov_segment.specs.declared.next.Next.{Next}
use Rattle.ov_segment.specs.declared.next.Next.TheVariants as next
use Rattle.ov_segment.specs.Segments.{AreRecords, segment_spelling}
use Rattle.ov_segment.specs.Held.{Reader}
use Rattle.ov_segment.specs.Reading.{after_feed, Answers}

pub data Step : Type 0 where
  Feed : List ℕ → Step
  Ask : Next → Step

abbrev pub Goes : Shape → Reader → Step → Reader → Type 0
Goes schema old (Feed bytes) new = new ≡ after_feed old bytes
Goes schema old (Ask answer) new = Answers schema old answer new

abbrev pub Run : Shape → Reader → List Step → Reader → Type 0
Run schema old [] new = new ≡ old
Run schema old (step ∷ steps) new = (mid : Reader) × Goes schema old step mid × Run schema mid steps new

-- all bytes that were fed
abbrev pub fed : List Step → List ℕ
fed [] = []
fed (Feed bytes ∷ steps) = bytes ++ fed steps
fed (Ask _ ∷ steps) = fed steps

-- the records of one answer, and of all
abbrev pub record_of : Next → List Record
record_of (next.Record r) = r ∷ []
record_of next.More = []
record_of next.Bad = []

abbrev pub given : List Step → List Record
given [] = []
given (Feed _ ∷ steps) = given steps
given (Ask answer ∷ steps) = record_of answer ++ given steps

abbrev pub IsBad : Next → Type 0
IsBad (next.Record _) = ⊥
IsBad next.More = ⊥
IsBad next.Bad = Unit {0}

-- no answer is Bad
abbrev pub NoneBad : List Step → Type 0
NoneBad [] = Unit {0}
NoneBad (Feed _ ∷ steps) = NoneBad steps
NoneBad (Ask answer ∷ steps) = (IsBad answer → ⊥) × NoneBad steps

-- the answers gave the first of the records, none was Bad, and what is held and more are the bytes of the others
pub record Gives (schema : Shape) (steps : List Step) (new : Reader) (more : List ℕ) (records : List Record) : Type 0 where
  pub others : List Record
  pub records_are : records ≡ given steps ++ others
  pub follow : AreRecords schema new.last others
  pub none_bad : NoneBad steps
  pub held_is : new.held ++ more ≡ segment_spelling others
