use Rattle.law_image.proofs.Readers.{list_read, list_all}
use Rattle.law_image.proofs.reading.lists_are_read.Goals as goal

pub returns-clause-read : goal.returns-clause-read
returns-clause-read c = list_read

pub returns-clause-all : goal.returns-clause-all
returns-clause-all c = list_all
