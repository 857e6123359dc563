use Rattle.law_moves.proofs.Doing.{breaks_next, does_all, doing_more, doing_none}
use Rattle.law_moves.proofs.laws.moves_make_a_deed.Goals as goal

pub returns-clause-none : goal.returns-clause-none
returns-clause-none c = λ d w held s at. doing_none d w held s at

pub returns-clause-more : goal.returns-clause-more
returns-clause-more c = λ d w v m left before now later old mid new is step. doing_more d w v m left before now old mid is later new step

pub returns-clause-all : goal.returns-clause-all
returns-clause-all c = λ d s w v before now old new is. does_all d w v s before now old new is

pub returns-clause-broken : goal.returns-clause-broken
returns-clause-broken c = λ d s w v m left before now old mid new is either. breaks_next d w v m left before now old mid is s new either
