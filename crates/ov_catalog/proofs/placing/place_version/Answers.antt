use Rattle.ov_catalog.proofs.placing.place_version.Goals as goal

pub returns-in-Join-clause-numbered : goal.returns-in-Join-clause-numbered
returns-in-Join-clause-numbered c id part other h = c.join.ensures.numbered id part (rw c.in-Join.is at other) h
