use Rattle.law_users.proofs.Owned.{tables_keep}
use Rattle.law_users.proofs.owners.only_the_owner_changes_his_tables.Goals as goal

pub returns : goal.returns
returns c = λ w s command user k kept differ. tables_keep w s user k kept command differ
