use Rattle.std.proofs.Common.{arith, ◌∙◌}
use Rattle.ov_layout.proofs.VidLemmas.{Ascend-weaker}
use Rattle.ov_layout.proofs.PlacedLemmas.{ids-ascend}
use Rattle.ov_catalog.proofs.CommitLemmas.{count-join}
use Rattle.ov_catalog.proofs.commit.is_count.Goals as goal

pub records_at-held-requires : goal.records_at-held-requires
records_at-held-requires c = rw c.parts.ensures.parts (Ascend-weaker 0 1 _ (omega arith) (ids-ascend 1 _ _ c.parts.ensures.sound.sound))

pub returns-in-Join : goal.returns-in-Join
returns-in-Join c =
    let held = rw c.parts.ensures.parts at c.records_at-held.ensures in
    let new = c.args.new.now in
    c.may_join.ensures ∙ (rw c.in-Join.is (count-join c.args.d.now new.rows new.fresh new.added c.in-Join.id c.records_at-held.result held))
