use Rattle.std.proofs.Common.{◌≡◌, ◌+◌, ◌-◌, length}
use Rattle.std.specs.Str.{IsUtf8}
use Rattle.ov_model.specs.Words.{words_of, words_up_to}
use Rattle.ov_cmd.proofs.Splitting.{and_more}
use Rattle.ov_cmd.proofs.words.words_of.Given as goal

abbrev pub invariant-loop : goal.invariant-loop
invariant-loop l = record {
  text : IsUtf8 l.rest;
  words : and_more l.words.items (words_up_to (length l.fn.text + 1 - l.counter) l.rest) ≡ words_of l.fn.text;
}
