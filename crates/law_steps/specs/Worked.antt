-- A store in which one dataset was made and then its plan began.
--     the_planned      the World; its pages are those of the dataset, since a plan brings none
use Rattle.ov_model.specs.Moves.{BeginPlan, moved}
use Rattle.ov_model.specs.World.{World}
use Rattle.law_image.specs.Worked.{the_world}

abbrev pub the_planned : World
the_planned = moved (BeginPlan 1 1 2) the_world
