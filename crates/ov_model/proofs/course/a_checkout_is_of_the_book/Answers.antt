use Rattle.ov_model.proofs.Alike.{checkout_same}
use Rattle.ov_model.proofs.course.a_checkout_is_of_the_book.Goals as goal

pub returns : goal.returns
returns c = checkout_same
