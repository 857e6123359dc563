use Rattle.ov_catalog.proofs.Only.{shown_once}
use Rattle.ov_catalog.proofs.ToldMoves.{empty_told, moved_told}
use Rattle.ov_catalog.proofs.telling.numbers_tell_worlds_apart.Goals as goal

pub returns-clause-start : goal.returns-clause-start
returns-clause-start c = empty_told

pub returns-clause-kept : goal.returns-clause-kept
returns-clause-kept c = moved_told

pub returns-clause-told : goal.returns-clause-told
returns-clause-told c = shown_once
