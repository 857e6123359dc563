use Rattle.std.proofs.Common.{◌≡◌, ◌+◌, ◌++◌, length, drop}
use Rattle.ov_model.specs.Lists.{joined}
use Rattle.ov_match.specs.Matching.{places_within, kept_of}
use Rattle.ov_match.proofs.keeping.keep.Given as goal

abbrev pub invariant-loop-place : goal.invariant-loop-place
invariant-loop-place l = record {
  places : l.places.items ++ places_within l.place l.target (drop l.place l.segments) ≡ places_within 0 l.target l.segments;
  records : l.records + length (joined (kept_of l.target (drop l.place l.segments))) ≡ length (joined (kept_of l.target l.segments));
}
