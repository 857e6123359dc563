use Rattle.ov_model.proofs.Signs.{is_known}
use Rattle.ov_parse.proofs.say.said_by.Goals as goal

pub unwrap-requires : goal.unwrap-requires
unwrap-requires c = rw c.sign.ensures (is_known c.args.spelling.now (rw c.in-Sign.is at c.requires.spelled))
