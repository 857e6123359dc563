use Rattle.ov_model.proofs.Joining.{join_of_book}
use Rattle.ov_model.proofs.join_laws.a_join_is_of_the_book.Goals as goal

pub returns : goal.returns
returns c = join_of_book
