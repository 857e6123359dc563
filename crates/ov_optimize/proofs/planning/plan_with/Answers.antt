use Rattle.ov_optimize.proofs.planning.plan_with.Goals as goal

pub returns-clause-says : goal.returns-clause-says
returns-clause-says g c told listed = record {
  lists = c.args.lists.now;
  listed = listed;
  partitions = c.in_ok-partitions.partitions.items;
  parted = c.in_ok-partitions.ensures.answer told;
  says = c.in_ok-made.ensures.says;
}
