-- One key more has a kind.
use Rattle.ov_typing.proofs.Lists.{keys-more}
use Rattle.ov_typing.proofs.typing.take_keys.Goals as goal

pub loop-key-preserved : goal.loop-key-preserved
loop-key-preserved c =
    let before = c.loop-key.invariant in
    (_, keys-more c.args.place.now _ _ _ _ before.0 c.loop-key-test.true c.key-item.is c.in_ok-term_kind.ensures before.1)
