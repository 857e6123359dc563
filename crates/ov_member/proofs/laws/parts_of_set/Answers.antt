use Rattle.std.proofs.Common.{not}
use Rattle.ov_member.specs.Rids.{has}
use Rattle.ov_member.proofs.RidLemmas.{RiseFrom-filter, has-filter}
use Rattle.ov_member.proofs.laws.parts_of_set.Goals as goal

pub returns-clause-shared_set : goal.returns-clause-shared_set
returns-clause-shared_set c = λ xs ys h. RiseFrom-filter (has ys) 1 xs h

pub returns-clause-left_out_set : goal.returns-clause-left_out_set
returns-clause-left_out_set c = λ xs ys h. RiseFrom-filter (λ rid. not (has ys rid)) 1 xs h

pub returns-clause-in_shared : goal.returns-clause-in_shared
returns-clause-in_shared c = λ xs ys rid. has-filter (has ys) xs rid

pub returns-clause-in_left_out : goal.returns-clause-in_left_out
returns-clause-in_left_out c = λ xs ys rid. has-filter (λ rid. not (has ys rid)) xs rid
