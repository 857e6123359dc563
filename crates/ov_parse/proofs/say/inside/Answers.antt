use Rattle.ov_parse.proofs.Slices.{after_first, inside_is}
use Rattle.ov_parse.proofs.say.inside.Goals as goal

pub split_at-requires-2 : goal.split_at-requires-2
split_at-requires-2 c = after_first c.args.spelling.now c.split_at.result.0.now c.utf8.spelling c.requires c.split_at.ensures.front

pub returns : goal.returns
returns c = λ quote inner h. inside_is c.args.spelling.now c.split_at.result.0.now c.split_at-2.result.1.now quote inner h c.split_at.ensures.front c.split_at-2.ensures.back
