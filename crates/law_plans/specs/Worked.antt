-- A run on the store with one dataset of the worked image: its script begins a plan, and the step behind the reply ends it.
--     the_items      what it does and says
--     the_set, the_plan      the dataset and its plan before that step
use Rattle.std.specs.Prelude.{List, [], None, codes}
use Rattle.ov_model.specs.Act.{Session}
use Rattle.ov_model.specs.Course.{Item, course}
use Rattle.ov_model.specs.Forms.{all_forms}
use Rattle.ov_model.specs.Moves.{new_set}
use Rattle.ov_model.specs.Plans.{parts_at, planned, targets_of}
use Rattle.ov_model.specs.Words.{lines_of}
use Rattle.ov_model.specs.World.{Plan, Dataset}
use Rattle.law_image.specs.Worked.{the_rows, the_schema, the_world}

-- no files, and the first user
abbrev pub the_session : Session
the_session = record { files = λ name. None; user = codes "admin" }

abbrev pub the_items : List Item
the_items = (course all_forms 1 the_world the_session (lines_of (codes "optimize people -d 1/2\n")) []).items

-- the dataset of the_world
abbrev pub the_people : Dataset
the_people = new_set 1 (codes "people") the_schema the_rows

abbrev pub the_set : Dataset
the_set = planned 1 2 the_people

abbrev pub the_plan : Plan
the_plan = record { p = 1; q = 2; targets = targets_of the_people (parts_at the_people 1 2); at = 0; copied = [] }
