use Rattle.std.proofs.Common.{◌+◌, ◌∙◌, sym, ap, subst, length}
use Rattle.ov_model.specs.Words.{words_of}
use Rattle.ov_cmd.specs.Following.{next_of, IsCut}
use Rattle.ov_cmd.proofs.Splitting.{one_more, no_more, not_closed}
use Rattle.ov_cmd.proofs.words.words_of.Goals as goal

pub next_word-requires-text-text : goal.next_word-requires-text-text
next_word-requires-text-text c = λ _. c.loop.invariant.text

pub returns-in-NoWord : goal.returns-in-NoWord
returns-in-NoWord c =
    no_more (length c.args.text.now + 1) c.loop.counter c.loop.words.items c.loop.rest.now (words_of c.args.text.now) c.loop-test.true
    (ap next_of (sym c.in-NoWord.is) ∙ c.in_ok-next_word.ensures.is) c.loop.invariant.words

pub returns-in-Unclosed : goal.returns-in-Unclosed
returns-in-Unclosed c =
    not_closed (length c.args.text.now + 1) c.loop.counter c.loop.words.items c.loop.rest.now (words_of c.args.text.now) c.loop-test.true
    (ap next_of (sym c.in-Unclosed.is) ∙ c.in_ok-next_word.ensures.is) c.loop.invariant.words

pub loop-preserved : goal.loop-preserved
loop-preserved c = record {
  text = subst IsCut c.in-Word.is c.in_ok-next_word.ensures.cut;
  words = rw c.in_ok-push-in-Word.ensures.items
      (one_more (length c.args.text.now + 1) c.loop.counter c.loop.words.items c.loop.rest.now c.in-Word.word c.in-Word.behind.now (words_of c.args.text.now) c.loop-test.true
      (ap next_of (sym c.in-Word.is) ∙ c.in_ok-next_word.ensures.is) c.loop.invariant.words);
}
