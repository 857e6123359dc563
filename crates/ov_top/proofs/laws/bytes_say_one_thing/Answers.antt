use Rattle.ov_top.proofs.Opened.{says_one}
use Rattle.ov_top.proofs.laws.bytes_say_one_thing.Goals as goal

pub returns : goal.returns
returns c = says_one
