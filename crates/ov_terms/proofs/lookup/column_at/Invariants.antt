use Rattle.std.proofs.Common.{◌≡◌, ◌+◌, drop}
use Rattle.std.specs.List.{position_or_len}
use Rattle.std.specs.Str.{bytes_eq}
use Rattle.ov_terms.proofs.lookup.column_at.Given as goal

-- no column before has the name
abbrev pub invariant-loop-place : goal.invariant-loop-place
invariant-loop-place l = position_or_len (λ c. bytes_eq c.name l.name) l.columns ≡ l.place + position_or_len (λ c. bytes_eq c.name l.name) (drop l.place l.columns)
