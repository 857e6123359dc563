use Rattle.std.proofs.Common.{◌++◌, [], ◌∷◌, sym, ◌∙◌, ap, subst, take}
use Rattle.std.proofs.lemmas.List.{take_more}
use Rattle.std.proofs.lemmas.List.Elements.{All-push}
use Rattle.ov_segment.proofs.WrittenLemmas.{records_ascend}
use Rattle.ov_fetch.specs.Scans.{AllStand}
use Rattle.ov_read.specs.Picking.{ArePicks}
use Rattle.ov_read.proofs.PickFacts.{all_fit, picks_more}
use Rattle.ov_read.proofs.scanning.picks_of.Goals as goal

pub loop-rids-preserved : goal.loop-rids-preserved
loop-rids-preserved c =
    let schema = c.args.schema.now in
    let records = c.args.records.now.records in
    let members = c.args.members.now in
    let k = c.loop-rids.rids-index in
    let picks = c.loop-rids.picks.items in
    let taken = take_more members k c.rids-item.result c.loop-rids-test.true in
    rw c.in_ok-push.ensures.items (
      subst (λ ms. ArePicks schema records ms (picks ++ c.in_ok-pick_of.field-0 ∷ [])) (sym (taken ∙ ap (λ m. take k members ++ m ∷ []) (sym c.rids-item.is)))
          (picks_more schema records (take k members) picks c.rids-item.result c.in_ok-pick_of.field-0 c.loop-rids.invariant.0 c.in_ok-pick_of.ensures.pick),
      All-push (AllStand records) picks _ c.loop-rids.invariant.1 c.in_ok-pick_of.ensures.stand,
    )

pub pick_of-requires-clause-ascend : goal.pick_of-requires-clause-ascend
pick_of-requires-clause-ascend c = records_ascend c.args.schema.now 0 c.args.records.now.records c.requires

pub pick_of-requires-clause-fit : goal.pick_of-requires-clause-fit
pick_of-requires-clause-fit c = all_fit c.args.schema.now 0 c.args.records.now.records c.requires
