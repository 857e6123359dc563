use Rattle.ov_parse.proofs.Parsed.{is_parsed}
use Rattle.ov_parse.proofs.say.number.Goals as goal

pub unwrap-value-requires : goal.unwrap-value-requires
unwrap-value-requires c = is_parsed c.args.spelling.now c.parse.result c.requires.spelled c.requires.in_range c.parse.ensures.value.0
