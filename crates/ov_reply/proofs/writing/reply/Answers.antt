use Rattle.std.proofs.Common.{◌≡◌, sym, ◌∙◌}
use Rattle.ov_model.specs.Replies.{reply_text}
use Rattle.ov_model.proofs.Replying.{text_some}
use Rattle.ov_reply.proofs.writing.reply.Goals as goal

pub returns-clause-some : goal.returns-clause-some
returns-clause-some c = λ some none.
    text_some c.args.answer.now some
    (let made : c.write_reply.new.out.items ≡ reply_text c.args.answer.now = (rw c.new-out.ensures.items at c.in_ok-write_reply.ensures) in sym made ∙ none)
