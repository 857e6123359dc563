use Rattle.std.proofs.Common.{◌-◌, length, string_bytes}
use denote.Text.{Utf8}
use denote.Shadow.{shadow}
use Rattle.ov_parse.proofs.Unescape.{Left}
use Rattle.ov_parse.proofs.say.unescaped.Given as goal

abbrev pub invariant-loop-at : goal.invariant-loop-at
invariant-loop-at l = record { utf8 : shadow (Utf8 l.rest); left : Left l.fn.inner (string_bytes l.text) l.rest l.at }

abbrev pub decreases-loop-at : goal.decreases-loop-at
decreases-loop-at l = length l.rest - l.at
