use Rattle.std.proofs.Common.{◌≡◌, drop}
use Rattle.std.specs.List.{list_all}
use Rattle.std.specs.Str.{is_utf8}
use Rattle.ov_csv.proofs.texts.are_each_text.Given as goal

-- the fields before the place are texts, so the answer is that of the others
abbrev pub invariant-loop-place : goal.invariant-loop-place
invariant-loop-place l = list_all is_utf8 l.line ≡ list_all is_utf8 (drop l.place l.line)
