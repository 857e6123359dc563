-- A worked plan: its first target keeps a piece of a partition that the target's own flip takes away.
--     second_plan      the plan of this script, as it was worked out by hand
use Rattle.std.specs.Prelude.{ℕ, List, [], ◌∷◌, ◌++◌, Option, None, codes}
use Rattle.ov_model.specs.Act.{Files, Session, put}
use Rattle.ov_model.specs.Course.{course}
use Rattle.ov_model.specs.Examples.{no_files}
use Rattle.ov_model.specs.Forms.{all_forms}
use Rattle.ov_model.specs.Words.{lines_of}
use Rattle.ov_model.specs.World.{Target, Plan, Dataset, empty_world}

abbrev pub plan_files : Files
plan_files =
    put (put (put no_files
    (codes "two.csv") (codes "k,x\n1,1\n2,1\n"))
    (codes "three.csv") (codes "k,x\n1,1\n2,1\n3,1\n"))
    (codes "nine.csv") (codes "k,x\n9,1\n")

abbrev pub plan_session : Session
plan_session = record { files = plan_files; user = codes "admin" }

-- a plan over three versions to its end, and the first step of a second one, which is a flip
abbrev pub two_plans : List ℕ
two_plans =
    (codes "init k -s k:int,x:int -k k -f two.csv\ncommit k -v 1 -f three.csv -m more\ncommit k -v 1 -f nine.csv -m other\n")
    ++ (codes "optimize k -d 1/1\nmigrate 99\noptimize k -d 1/1\nmigrate 1\n")

-- the plan of the first dataset
abbrev pub plan_of : List Dataset → Option Plan
plan_of [] = None
plan_of (d ∷ sets) = d.plan

-- the plan that a script leaves on an empty store
abbrev pub plan_behind : List ℕ → Option Plan
plan_behind script = plan_of (course all_forms 0 empty_world plan_session (lines_of script) []).world.sets

-- of a version alone, from a partition whose only piece it keeps
abbrev pub kept_whole : ℕ → ℕ → ℕ → Target
kept_whole vid source count = record { versions = vid ∷ []; source = source; kept = 0 ∷ []; kept_records = count }

-- The first plan left partitions 2, 3 and 4, of 2, 3 and 1 records. The second one's first target is flipped: partition 2, its
-- source, is gone.
abbrev pub second_targets : List Target
second_targets = kept_whole 1 2 2 ∷ kept_whole 2 3 3 ∷ kept_whole 3 4 1 ∷ []

abbrev pub second_plan : Plan
second_plan = record { p = 1; q = 1; targets = second_targets; at = 1; copied = [] }
