use Rattle.test_ends.proofs.pages.scripts.Goals as goal

pub take-requires-clause-kept : goal.take-requires-clause-kept
take-requires-clause-kept g c = c.loop.invariant

pub give-freed-requires-clause-kept : goal.give-freed-requires-clause-kept
give-freed-requires-clause-kept g c = c.loop.invariant
