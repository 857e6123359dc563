use Rattle.ov_model.proofs.Merging.{merged_rises, merged_is_first, first_is_merged, merged_alone}
use Rattle.ov_model.proofs.merge.merge_takes_the_first_of_each_key.Goals as goal

pub returns-clause-order : goal.returns-clause-order
returns-clause-order c = merged_rises

pub returns-clause-first : goal.returns-clause-first
returns-clause-first c = merged_is_first

pub returns-clause-all : goal.returns-clause-all
returns-clause-all c = first_is_merged

pub returns-clause-alone : goal.returns-clause-alone
returns-clause-alone c = merged_alone
