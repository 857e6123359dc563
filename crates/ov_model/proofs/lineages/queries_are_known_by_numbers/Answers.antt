use Rattle.ov_model.proofs.KnownBy.{query-refused, query-answered, reads-known, join-refused, join-taken}
use Rattle.ov_model.proofs.lineages.queries_are_known_by_numbers.Goals as goal

pub returns-clause-refused : goal.returns-clause-refused
returns-clause-refused c = query-refused

pub returns-clause-answered : goal.returns-clause-answered
returns-clause-answered c = query-answered

pub returns-clause-read : goal.returns-clause-read
returns-clause-read c = reads-known

pub returns-clause-join_refused : goal.returns-clause-join_refused
returns-clause-join_refused c = join-refused

pub returns-clause-joined : goal.returns-clause-joined
returns-clause-joined c = join-taken
