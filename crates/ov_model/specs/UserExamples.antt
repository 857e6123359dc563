-- Worked examples of users and staged tables: scripts and what they print, as it was worked out by hand.
--     user_examples, query_examples      scripts on an empty store, and what each prints
--     AllStaged      what the files of staged tables have
use Rattle.std.specs.Prelude.{◌≡◌, ℕ, List, [], ◌∷◌, ◌++◌, Option, Some, None, codes}
use Rattle.ov_model.specs.Examples.{people, served_all}

-- a script of these lines
abbrev pub script : List (List ℕ) → List ℕ
script [] = []
script (line ∷ lines) = line ++ 10 ∷ script lines

abbrev pub behind : List (List ℕ) → List ℕ
behind lines = people ++ script lines

abbrev pub printed_of : List (List ℕ) → List ℕ
printed_of lines = codes "people: version 1 (2 rows)\npeople: version 2 (3 rows, 2 new)\n" ++ script lines

-- a user is made and staged a table
abbrev pub ann_stages : List (List ℕ)
ann_stages = codes "create_user ann" ∷ codes "config ann" ∷ codes "checkout people -v 2 -t work" ∷ []

abbrev pub ann_staged : List (List ℕ)
ann_staged = codes "user ann" ∷ codes "user ann" ∷ codes "people: 3 rows to ann.work.staged" ∷ []

abbrev pub user_examples : List (List ℕ × List ℕ)
user_examples =
    -- a table is staged, committed by its user alone, and taken off
    (
      behind (ann_stages ++ codes "tables" ∷ codes "create_user bob" ∷ codes "config admin" ∷ codes "commit -t ann.work -m x" ∷ codes "tables"
          ∷ codes "config ann" ∷ codes "commit -t ann.work -m x" ∷ codes "unstage ann.work" ∷ codes "tables" ∷ codes "unstage work"
          ∷ codes "drop orpheus_stage" ∷ []),
      printed_of (ann_staged ++ codes "ann.work: people 2" ∷ codes "(1 tables)" ∷ codes "error 71: denied by rule 1" ∷ codes "user admin"
          ∷ codes "error 71: denied by rule 2" ∷ codes "(0 tables)" ∷ codes "user ann" ∷ codes "people: version 3 (3 rows, 0 new)"
          ∷ codes "ann.work: unstaged" ∷ codes "(0 tables)" ∷ codes "error 53: unexpected word 2" ∷ codes "error 71: denied by rule 4" ∷ []),
    ) ∷
    -- the least rule, before what the store has; and what `admin` may do
    (
      script (codes "log orpheus_x" ∷ codes "drop orpheus_x" ∷ codes "init orpheus_x -s a:int -k a -f x.staged" ∷ codes "checkout x -v 1 -f x.staged"
          ∷ codes "commit x -v 1 -f .staged -m m" ∷ codes "checkout x -v 1 -f x.staged.csv" ∷ codes "log orpheus" ∷ codes "generate orpheus_ 1 1 1"
          ∷ codes "checkout orpheus_x -v 1 -t t" ∷ codes "unstage bob.work" ∷ codes "unstage admin.work" ∷ codes "commit -t admin.work -m m"
          ∷ codes "config ann" ∷ codes "create_user 9x" ∷ codes "create_user admin" ∷ codes "whoami" ∷ codes "tables" ∷ []),
      script (codes "error 10: no dataset orpheus_x" ∷ codes "error 71: denied by rule 4" ∷ codes "error 71: denied by rule 3"
          ∷ codes "error 71: denied by rule 3" ∷ codes "error 71: denied by rule 3" ∷ codes "error 10: no dataset x" ∷ codes "error 10: no dataset orpheus"
          ∷ codes "error 71: denied by rule 4" ∷ codes "error 71: denied by rule 4" ∷ codes "error 71: denied by rule 2"
          ∷ codes "error 74: no table admin.work" ∷ codes "error 74: no table admin.work" ∷ codes "error 72: no user ann" ∷ codes "error 63: bad name 9x"
          ∷ codes "error 73: user admin exists" ∷ codes "admin" ∷ codes "(0 tables)" ∷ []),
    ) ∷
    -- a user who isn't `admin`; the registry is read by `admin`; a table is staged once; and its dataset goes
    (
      behind (ann_stages ++ codes "log orpheus_users" ∷ codes "layout orpheus_x" ∷ codes "checkout orpheus_stage -v 1" ∷ codes "checkout people -v 1 -t work"
          ∷ codes "checkout people -v 1,1 -t work" ∷ codes "checkout people -v 2,1 -t more" ∷ codes "checkout people -v 1 -t 9x" ∷ codes "checkout x -v 1 -t t"
          ∷ codes "tables" ∷ codes "drop people" ∷ codes "commit -t ann.work -m x" ∷ codes "config admin" ∷ codes "log orpheus_stage"
          ∷ codes "checkout orpheus_stage -v 2" ∷ codes "create_user ann" ∷ []),
      printed_of (ann_staged ++ codes "error 71: denied by rule 4" ∷ codes "error 71: denied by rule 4" ∷ codes "error 71: denied by rule 4" ∷ codes "error 75: table ann.work is staged"
          ∷ codes "error 13: version 1 is repeated" ∷ codes "people: 3 rows to ann.more.staged" ∷ codes "error 63: bad name 9x" ∷ codes "error 10: no dataset x"
          ∷ codes "ann.more: people 2,1" ∷ codes "ann.work: people 2" ∷ codes "(2 tables)" ∷ codes "people: dropped" ∷ codes "error 74: no table ann.work"
          ∷ codes "user admin" ∷ codes "version 1: 1 rows, 1 new, parents none, init" ∷ codes "version 2: 2 rows, 1 new, parents 1, stage"
          ∷ codes "owner,name,cvd,made,vids" ∷ codes "ann,more,people,1,\"2,1\"" ∷ codes "ann,work,people,1,2" ∷ codes "error 73: user ann exists" ∷ []),
    ) ∷
    -- the store's own datasets are split and read by `admin` alone
    (
      script (codes "create_user ann" ∷ codes "advise orpheus_users -s 9 -m 1/1" ∷ codes "optimize orpheus_users -d 1/1" ∷ codes "config ann"
          ∷ codes "optimize orpheus_users -d 1/1" ∷ codes "optimize orpheus_users -s 9" ∷ codes "advise orpheus_users -s 9 -m 1/1"
          ∷ codes "advise orpheus_x -s 9 -m 1/2" ∷ codes "whoami" ∷ []),
      script (codes "user ann" ∷ codes "cost 1, best 1: keep" ∷ codes "depth 0, partitions 1, stored 1, records 1, members 1, cost 1, steps 1" ∷ codes "user ann"
          ∷ codes "error 71: denied by rule 4" ∷ codes "error 71: denied by rule 4" ∷ codes "error 71: denied by rule 4"
          ∷ codes "error 71: denied by rule 4" ∷ codes "ann" ∷ []),
    ) ∷
    []

-- A text's own refusals come first, then rule 4 of the datasets that a query or join names, whichever side it is on, and then what
-- the store has.
abbrev pub query_examples : List (List ℕ × List ℕ)
query_examples = (
  script (codes "create_user ann" ∷ codes "run SELECT * FROM CVD orpheus_users" ∷ codes "config ann" ∷ codes "run SELECT * FROM CVD orpheus_users"
      ∷ codes "run SELECT * FROM CVD orpheus_users '" ∷ codes "run SELECT * FROM CVD orpheus_users users" ∷ codes "run SELECT * FROM CVD users" ∷ []),
  script (codes "user ann" ∷ codes "ann" ∷ codes "(1 rows)" ∷ codes "user ann" ∷ codes "error 71: denied by rule 4"
      ∷ codes "error 40: byte 32 begins no token" ∷ codes "error 41: not a query" ∷ codes "error 10: no dataset users" ∷ []),
) ∷ (
  script (codes "create_user ann" ∷ codes "config ann"
      ∷ codes "run SELECT * FROM VERSION 1 OF CVD users JOIN VERSION 9 OF CVD orpheus_users ON LEFT.id = RIGHT.id"
      ∷ codes "run SELECT * FROM VERSION 1 OF CVD orpheus_users JOIN VERSION 9 OF CVD users ON LEFT.id = RIGHT.id"
      ∷ codes "config admin" ∷ codes "run SELECT * FROM VERSION 1 OF CVD orpheus_users JOIN VERSION 1 OF CVD orpheus_users ON LEFT.name = RIGHT.name" ∷ []),
  script (codes "user ann" ∷ codes "user ann" ∷ codes "error 71: denied by rule 4" ∷ codes "error 71: denied by rule 4"
      ∷ codes "user admin" ∷ codes "ann,ann" ∷ codes "(1 rows)" ∷ []),
) ∷
    []

-- what a script leaves in a file
abbrev pub left_in : List ℕ → List ℕ → Option (List ℕ)
left_in text file = (served_all text).session.files file

-- The file of a staged table has the merge of its versions in the order in which they were listed.
pub record AllStaged : Type 0 where
  pub last_first : left_in (behind (codes "checkout people -v 2,1 -t work" ∷ [])) (codes "admin.work.staged")
      ≡ Some (codes "id,name,score\n1,ann,10\n2,bob,25\n3,cy,30\n")
  pub first_first : left_in (behind (codes "checkout people -v 1,2 -t work" ∷ [])) (codes "admin.work.staged")
      ≡ Some (codes "id,name,score\n1,ann,10\n2,bob,20\n3,cy,30\n")
  pub refused : left_in (behind (codes "checkout people -v 3 -t work" ∷ [])) (codes "admin.work.staged") ≡ None
