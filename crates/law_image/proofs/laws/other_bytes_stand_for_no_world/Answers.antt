use Rattle.law_image.proofs.Standing.{no_pages, not_foreign, not_of_format, not_damaged}
use Rattle.law_image.proofs.laws.other_bytes_stand_for_no_world.Goals as goal

pub returns-clause-unmade : goal.returns-clause-unmade
returns-clause-unmade c = no_pages

pub returns-clause-foreign : goal.returns-clause-foreign
returns-clause-foreign c = not_foreign

pub returns-clause-format : goal.returns-clause-format
returns-clause-format c = not_of_format

pub returns-clause-damaged : goal.returns-clause-damaged
returns-clause-damaged c = not_damaged
