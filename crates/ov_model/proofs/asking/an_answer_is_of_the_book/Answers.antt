use Rattle.ov_model.proofs.Asked.{run_of_book}
use Rattle.ov_model.proofs.asking.an_answer_is_of_the_book.Goals as goal

pub returns : goal.returns
returns c = run_of_book
