-- Worked examples of added columns, and of a store of format 1: what is printed, as it was worked out by hand. That it is is proved by
-- computing it.
--     AllWiden      columns that are added while a plan runs, and what their names are refused for
--     AllOld      in a store of format 1
use Rattle.std.specs.Prelude.{◌≡◌, ℕ, ◌++◌, List, [], ◌∷◌, codes, replicate}
use Rattle.ov_value.specs.declared.column.Kind.TheVariants as kind
use Rattle.ov_model.specs.Act.{Files, Session, commit_deed, put}
use Rattle.ov_model.specs.BudgetExamples.{chain}
use Rattle.ov_model.specs.Course.{Served, course, play}
use Rattle.ov_model.specs.Examples.{files, people}
use Rattle.ov_model.specs.Forms.{all_forms}
use Rattle.ov_model.specs.Registry.{column}
use Rattle.ov_model.specs.Replies.{reply_text}
use Rattle.ov_model.specs.Words.{lines_of}
use Rattle.ov_model.specs.World.{empty_world_of, set_named}

abbrev pub more_files : Files
more_files =
    put (put (put (put files
    (codes "y.csv") (codes "k,x,y\n1,1,\n5,1,2\n"))
    (codes "full.csv") (codes "id,name,score,team\n1,ann,10,blue\n2,bob,25,red\n"))
    (codes "full_twice.csv") (codes "id,name,score,team\n1,ann,10,blue\n1,bob,25,red\n"))
    (codes "full_null.csv") (codes "id,name,score,team\n1,ann,10,blue\n2,bob,25,\\N\n2,bob,20,red\n")

abbrev pub column_session : Session
column_session = record { files = more_files; user = codes "admin" }

-- what a script comes to on an empty store of this format
abbrev pub served_in : ℕ → List ℕ → Served
served_in format script = course all_forms 0 (empty_world_of format) column_session (lines_of script) []

abbrev pub prints_in : ℕ → List ℕ → List ℕ
prints_in format script = play (served_in format script).items

-- what comes of adding so many columns of one name to those of `people`, with a file that isn't there
abbrev pub adding : ℕ → List ℕ
adding count =
    reply_text (commit_deed (served_in 2 people).world column_session (codes "people") (1 ∷ []) [] (replicate count (column (codes "x") kind.Int)) (codes "z.csv")
    (set_named (served_in 2 people).world (codes "people"))).reply

abbrev pub chain_printed : List ℕ
chain_printed = codes "chain: version 1 (4 rows)\nchain: version 2 (4 rows, 3 new)\nchain: version 3 (5 rows, 1 new)\n"

abbrev pub people_printed : List ℕ
people_printed = codes "people: version 1 (2 rows)\npeople: version 2 (3 rows, 2 new)\n"

-- Records that were copied for a target count as copied once columns are added, and those of partitions as kept. Of the names the
-- line's refusals come first, then those of the dataset, and then the schema's, before the file is looked for.
pub record AllWiden : Type 0 where
  pub plan : prints_in 2 (chain ++ codes "optimize chain -d 3/4\nmigrate 1\ncommit chain -v 3 -f y.csv -m wide -a y:int\nlayout chain\nmigrate 2\nlayout chain\nmigrate 9\nlayout chain\ncheckout chain -v 4,3\n")
      ≡ chain_printed ++ codes "depth 1, partitions 2, stored 9, records 8, members 13, cost 14, steps 4\nsteps 1 left 3\nchain: version 4 (2 rows, 1 new)\npartition 1: records 8, versions 1,2,3\npartition 2: records 2, versions 4\nplan 3/4: target 1 of 2, copied 4 of 4, steps 3\nstored 14, cost 26\nsteps 2 left 1\npartition 1: records 8, versions 2,3\npartition 2: records 2, versions 4\npartition 3: records 4, versions 1\nplan 3/4: target 2 of 2, copied 1 of 1, steps 1\nstored 15, cost 22\nsteps 1 left 0\npartition 2: records 2, versions 4\npartition 3: records 4, versions 1\npartition 4: records 5, versions 2,3\nstored 11, cost 16\nk,x,y\n1,1,\n5,1,2\n6,1,\n7,1,\n8,1,\n"
  pub names : prints_in 2 (people ++ codes "commit people -v 2 -f b.csv -m m -a \"\"\ncommit people -v 2 -f b.csv -a \"\"\ncommit orpheus_x -v 2 -f b.csv -m m -a \"\"\ncommit towns -v 1 -f z.csv -m m -a 9x:int\ncommit people -v 9 -f z.csv -m m -a 9x:int\ncommit people -v 2 -f z.csv -m m -a 9x:int\ncommit people -v 2 -f z.csv -m m -a id:int\ncommit people -v 2 -f z.csv -m m -a team:text\ncommit people -v 2 -f z.csv -m m -a team:real\n")
      ≡ people_printed ++ codes "error 61: no columns\nerror 52: missing -m\nerror 61: no columns\nerror 10: no dataset towns\nerror 12: no version 9\nerror 63: bad name 9x\nerror 64: column id is repeated\nerror 70: no file z.csv\nerror 56: column 1 has a bad kind\n"
  pub too_many : adding 62 ≡ codes "error 62: over 64 columns\n"
  pub repeated : adding 61 ≡ codes "error 64: column x is repeated\n"
  pub one : adding 1 ≡ codes "error 70: no file z.csv\n"

-- NULL and added columns are refused there, behind a key that is repeated; a checkpoint leaves the format.
pub record AllOld : Type 0 where
  pub null : prints_in 1 (codes "init p -s id:int,name:text,score:int -k id -f n.csv\ninit p -s id:int,name:text,score:int -k id -f twice.csv\ncheckpoint\ninit p -s id:int,name:text,score:int -k id -f n.csv\n")
      ≡ codes "error 23: row 1 has NULL in a format 1 store\nerror 14: row 2 repeats a key\ncheckpoint: 0 datasets\np: version 1 (3 rows)\n"
  pub added : prints_in 1 (people ++ codes "commit people -v 2 -f full.csv -m m -a team:text\ncommit people -v 2 -f full_twice.csv -m m -a team:text\ncommit people -v 2 -f full_null.csv -m m -a team:text\ncommit people -v 2 -f wide.csv -m m -a team:text\ncommit people -v 2 -f full.csv -m m -a name:text\ncheckpoint\ncommit people -v 2 -f full.csv -m m -a team:text\n")
      ≡ people_printed ++ codes "error 23: row 0 has NULL in a format 1 store\nerror 14: row 2 repeats a key\nerror 14: row 3 repeats a key\nerror 23: row 1 has NULL in a format 1 store\nerror 64: column name is repeated\ncheckpoint: 1 datasets\npeople: version 3 (2 rows, 2 new)\n"
