-- Worked examples: scripts over a few files, and what they print, as it was worked out by hand. That the course prints just
-- this is proved by computing it.
--     AllPrint examples      each of these scripts prints this on an empty store
use Rattle.std.specs.Prelude.{◌≡◌, ℕ, List, [], ◌∷◌, ◌++◌, None, codes}
use Rattle.ov_model.specs.Act.{Files, Session, put}
use Rattle.ov_model.specs.Course.{Served, course, line_served, play}
use Rattle.ov_model.specs.Forms.{all_forms}
use Rattle.ov_model.specs.Line.{line_of}
use Rattle.ov_model.specs.Words.{lines_of}
use Rattle.ov_model.specs.World.{empty_world}

abbrev pub no_files : Files
no_files = λ name. None

-- a mark of byte order, CR LF, a plus, a flag of one letter, an empty line, a zero in front, and a last line without an end
abbrev pub marked : List ℕ
marked = 239 ∷ 187 ∷ 191 ∷ (codes "id,ok\r\n+7,t\r\n\r\n08,false")

abbrev pub files : Files
files =
    put (put (put (put (put (put (put (put (put (put (put (put (put (put (put (put (put (put (put (put no_files
    (codes "a.csv") (codes "id,name,score\n1,ann,10\n2,bob,20\n"))
    (codes "b.csv") (codes "id,name,score\n1,ann,10\n2,bob,25\n3,cy,30\n"))
    (codes "h.csv") (codes "id,name,score\n"))
    (codes "n.csv") (codes "id,name,score\n1,ann,\n2,\\N,20\n3,\\\\N,5\n"))
    (codes "twice.csv") (codes "id,name,score\n2,bob,20\n2,bob,21\n"))
    (codes "over.csv") (codes "id,name,score\n1,ann,9223372036854775808\n"))
    (codes "least.csv") (codes "id,name,score\n1,ann,-9223372036854775808\n"))
    (codes "short.csv") (codes "id,name,score\n1,ann\n"))
    (codes "comma.csv") (codes "id,name,score\n1,\"a,b\",1\n"))
    (codes "null.csv") (codes "id,name,score\n,x,1\n"))
    (codes "both.csv") (codes "id,name,score\n1,ann,10\n2,bob,20\n3,cy,30\n"))
    (codes "c1.csv") (codes "k,x\n1,1\n2,1\n3,1\n4,1\n"))
    (codes "c2.csv") (codes "k,x\n1,1\n5,1\n6,1\n7,1\n"))
    (codes "c3.csv") (codes "k,x\n1,1\n5,1\n6,1\n7,1\n8,1\n"))
    (codes "c4.csv") (codes "k,x\n1,1\n5,1\n6,1\n7,1\n8,1\n9,1\n"))
    (codes "c5.csv") (codes "k,x\n1,1\n20,1\n"))
    (codes "wide.csv") (codes "id,name,score,team\n1,ann,10,\\N\n2,bob,25,red\n3,cy,30,\n"))
    (codes "bytes.csv") ((codes "id,name,score\n1,") ++ 255 ∷ (codes ",1\n")))
    (codes "marked.csv") marked)
    (codes "twice_marked.csv") (239 ∷ 187 ∷ 191 ∷ marked)

abbrev pub session : Session
session = record { files = files; user = codes "admin" }

-- what a script on an empty store comes to, with room for all of it and no steps
abbrev pub served_all : List ℕ → Served
served_all script = course all_forms 0 empty_world session (lines_of script) []

abbrev pub printed : List ℕ → List ℕ
printed script = play (served_all script).items

-- what a line prints behind such a script, whether its command is built or not
abbrev pub printed_behind : List ℕ → List ℕ → List ℕ
printed_behind script line = play (line_served 0 (served_all script).world session [] (line_of all_forms line)).items

-- scripts, and what each prints
abbrev pub AllPrint : List (List ℕ × List ℕ) → Type 0
AllPrint [] = Unit {0}
AllPrint (example ∷ examples) = (printed example.0 ≡ example.1) × AllPrint examples

abbrev pub people : List ℕ
people = codes "init people -s id:int,name:text,score:int -k id -f a.csv\ncommit people -v 1 -f b.csv -m raise\n"

abbrev pub examples : List (List ℕ × List ℕ)
examples =
    -- a first version, and the same again
    (
      codes "init people -s id:int,name:text,score:int -k id -f a.csv\ninit people -s id:int,name:text,score:int -k id -f a.csv\n",
      codes "people: version 1 (2 rows)\nerror 11: people exists\n",
    ) ∷
    -- no rows
    (
      codes "init none -s id:int,name:text,score:int -k id -f h.csv\ncheckout none -v 1\n",
      codes "none: version 1 (0 rows)\nid,name,score\n",
    ) ∷
    -- a second version, and merges of both
    (
      codes "init people -s id:int,name:text,score:int -k id -f a.csv\ncommit people -v 1 -f b.csv -m raise\ncheckout people -v 1,2\ncheckout people -v 2,1\ncheckout people -v 1,2 -f out.csv\n",
      codes "people: version 1 (2 rows)\npeople: version 2 (3 rows, 2 new)\nid,name,score\n1,ann,10\n2,bob,20\n3,cy,30\nid,name,score\n1,ann,10\n2,bob,25\n3,cy,30\npeople: 3 rows to out.csv\n",
    ) ∷
    -- versions that are listed twice or not there
    (
      codes "init people -s id:int,name:text,score:int -k id -f a.csv\ncommit people -v 1 -f b.csv -m raise\ncheckout people -v 1,1\ncheckout people -v 9\ncheckout x -v 1\n",
      codes "people: version 1 (2 rows)\npeople: version 2 (3 rows, 2 new)\nerror 13: version 1 is repeated\nerror 12: no version 9\nerror 10: no dataset x\n",
    ) ∷
    -- a row that only an older version has is new, and two parents
    (
      codes "init people -s id:int,name:text,score:int -k id -f a.csv\ncommit people -v 1 -f b.csv -m raise\ncommit people -v 2 -f a.csv -m back\ncommit people -v 1,2 -f both.csv -m both\n",
      codes "people: version 1 (2 rows)\npeople: version 2 (3 rows, 2 new)\npeople: version 3 (2 rows, 1 new)\npeople: version 4 (3 rows, 0 new)\n",
    ) ∷
    -- files that are refused
    (
      codes "init p -s id:int,name:text,score:int -k id -f twice.csv\ninit p -s id:int,name:text,score:int -k id -f over.csv\ninit p -s id:int,name:text,score:int -k id -f short.csv\ninit p -s id:int,name:text,score:int -k id -f z.csv\ninit p -s id:int,name:text,score:int -k id -f null.csv\n",
      codes "error 14: row 2 repeats a key\nerror 33: row 1, column score: not int\nerror 32: row 1 has 2 fields, not 3\nerror 70: no file z.csv\nerror 37: row 1, column id: the key is NULL\n",
    ) ∷
    -- the least int, and a field in quotes
    (
      codes "init p -s id:int,name:text,score:int -k id -f least.csv\ncheckout p -v 1\ninit q -s id:int,name:text,score:int -k id -f comma.csv\ncheckout q -v 1\n",
      codes "p: version 1 (1 rows)\nid,name,score\n1,ann,-9223372036854775808\nq: version 1 (1 rows)\nid,name,score\n1,\"a,b\",1\n",
    ) ∷
    -- a field that is no text
    (
      codes "init p -s id:int,name:text,score:int -k id -f bytes.csv\n",
      codes "error 34: row 1 is not UTF-8\n",
    ) ∷
    -- marks of byte order, signs, and all ends of a line
    (
      codes "init f -s id:int,ok:flag -k id -f marked.csv\ncheckout f -v 1\ninit g -s id:int,ok:flag -k id -f twice_marked.csv\n",
      codes "f: version 1 (2 rows)\nid,ok\n7,true\n8,false\nerror 31: the header differs from the schema\n",
    ) ∷
    -- lines
    (
      codes "init people -s id:int,name:text,score:int -k id -f a.csv\n# note\n\n \t\nfrob\ncheckout people\nls x\n\"ls\" \nls",
      codes "people: version 1 (2 rows)\nerror 51: unknown command\nerror 52: missing -v\nerror 53: unexpected word 2\npeople: 1 versions, 2 records\n(1 datasets)\npeople: 1 versions, 2 records\n(1 datasets)\n",
    ) ∷
    -- a dataset that goes
    (
      codes "init people -s id:int,name:text,score:int -k id -f a.csv\ndrop people\nls\ninit people -s id:int,name:text,score:int -k id -f a.csv\n",
      codes "people: version 1 (2 rows)\npeople: dropped\n(0 datasets)\npeople: version 1 (2 rows)\n",
    ) ∷
    -- log and ls
    (
      codes "init people -s id:int,name:text,score:int -k id -f a.csv\ncommit people -v 1 -f b.csv -m raise\nlog people\nls\n",
      codes "people: version 1 (2 rows)\npeople: version 2 (3 rows, 2 new)\nversion 1: 2 rows, 2 new, parents none, init\nversion 2: 3 rows, 2 new, parents 1, raise\npeople: 2 versions, 4 records\n(1 datasets)\n",
    ) ∷
    -- schemas that are refused
    (
      codes "init p -s \"\" -k a -f a.csv\ninit p -s a:int,a:int -k a -f a.csv\ninit p -s a:int -k b -f a.csv\ninit 9x -s a:int -k a -f a.csv\ninit p -s a:real -k a -f a.csv\ninit p -s a:int -k \"\" -f a.csv\n",
      codes "error 61: no columns\nerror 64: column a is repeated\nerror 66: no key column b\nerror 63: bad name 9x\nerror 56: column 1 has a bad kind\nerror 65: no key\n",
    ) ∷
    -- NULL
    (
      codes "init p -s id:int,name:text,score:int -k id -f n.csv\ncheckout p -v 1\n",
      codes "p: version 1 (3 rows)\nid,name,score\n1,ann,\n2,\\N,20\n3,\\\\N,5\n",
    ) ∷
    -- words in quotes
    (
      codes "log \"a b\\\"c\\\\d\\e\"\n",
      codes "error 10: no dataset a b\"c\\d\\e\n",
    ) ∷
    -- lines that are refused
    (
      codes "commit people -v 1, -m x -f b.csv\ncommit people -v 1 -v 1\ncommit people -m \"open\ncheckout people -v 1234567890123456789\ncommit people -v 1 -f \"\" -m x\n",
      codes "error 54: bad number\nerror 53: unexpected word 5\nerror 58: a quote is not closed\nerror 54: bad number\nerror 53: unexpected word 6\n",
    ) ∷
    []

-- the same of plans and what comes of them
abbrev pub plan_examples : List (List ℕ × List ℕ)
plan_examples =
    -- a part that stops keeps all its segments
    (
      codes "init chain -s k:int,x:int -k k -f c1.csv\ncommit chain -v 1 -f c2.csv -m two\ncommit chain -v 2 -f c3.csv -m three\noptimize chain -d 1/2\nmigrate 5\nlayout chain\n",
      codes "chain: version 1 (4 rows)\nchain: version 2 (4 rows, 3 new)\nchain: version 3 (5 rows, 1 new)\ndepth 0, partitions 1, stored 8, records 8, members 13, cost 24, steps 1\nsteps 1 left 0\npartition 2: records 8, versions 1,2,3\nstored 8, cost 24\n",
    ) ∷
    -- a cut, its steps and the layout between them
    (
      codes "init chain -s k:int,x:int -k k -f c1.csv\ncommit chain -v 1 -f c2.csv -m two\ncommit chain -v 2 -f c3.csv -m three\noptimize chain -d 3/4\nmigrate 1\nlayout chain\nmigrate 9\nlayout chain\n",
      codes "chain: version 1 (4 rows)\nchain: version 2 (4 rows, 3 new)\nchain: version 3 (5 rows, 1 new)\ndepth 1, partitions 2, stored 9, records 8, members 13, cost 14, steps 4\nsteps 1 left 3\npartition 1: records 8, versions 1,2,3\nplan 3/4: target 1 of 2, copied 4 of 4, steps 3\nstored 12, cost 24\nsteps 3 left 0\npartition 2: records 4, versions 1\npartition 3: records 5, versions 2,3\nstored 9, cost 14\n",
    ) ∷
    -- a commit while a plan runs
    (
      codes "init chain -s k:int,x:int -k k -f c1.csv\ncommit chain -v 1 -f c2.csv -m two\ncommit chain -v 2 -f c3.csv -m three\noptimize chain -d 3/4\nmigrate 2\ncommit chain -v 3 -f c4.csv -m four\nmigrate 9\nlayout chain\n",
      codes "chain: version 1 (4 rows)\nchain: version 2 (4 rows, 3 new)\nchain: version 3 (5 rows, 1 new)\ndepth 1, partitions 2, stored 9, records 8, members 13, cost 14, steps 4\nsteps 2 left 2\nchain: version 4 (6 rows, 1 new)\nsteps 2 left 0\npartition 2: records 4, versions 1\npartition 3: records 6, versions 4\npartition 4: records 5, versions 2,3\nstored 15, cost 20\n",
    ) ∷
    -- a commit that gets a partition of its own
    (
      codes "init chain -s k:int,x:int -k k -f c1.csv\ncommit chain -v 1 -f c2.csv -m two\ncommit chain -v 2 -f c3.csv -m three\noptimize chain -d 3/4\nmigrate 9\ncommit chain -v 3 -f c5.csv -m own\nlayout chain\n",
      codes "chain: version 1 (4 rows)\nchain: version 2 (4 rows, 3 new)\nchain: version 3 (5 rows, 1 new)\ndepth 1, partitions 2, stored 9, records 8, members 13, cost 14, steps 4\nsteps 4 left 0\nchain: version 4 (2 rows, 1 new)\npartition 2: records 4, versions 1\npartition 3: records 5, versions 2,3\npartition 4: records 2, versions 4\nstored 11, cost 16\n",
    ) ∷
    -- segments that a target keeps
    (
      codes "init chain -s k:int,x:int -k k -f c1.csv\ncommit chain -v 1 -f c2.csv -m two\ncommit chain -v 2 -f c3.csv -m three\noptimize chain -d 3/4\nmigrate 3\nlayout chain\n",
      codes "chain: version 1 (4 rows)\nchain: version 2 (4 rows, 3 new)\nchain: version 3 (5 rows, 1 new)\ndepth 1, partitions 2, stored 9, records 8, members 13, cost 14, steps 4\nsteps 3 left 1\npartition 1: records 8, versions 2,3\npartition 2: records 4, versions 1\nplan 3/4: target 2 of 2, copied 1 of 1, steps 1\nstored 13, cost 20\n",
    ) ∷
    -- plans that are refused
    (
      codes "init chain -s k:int,x:int -k k -f c1.csv\ncommit chain -v 1 -f c2.csv -m two\ncommit chain -v 2 -f c3.csv -m three\noptimize chain -d 5/4\noptimize chain -d 0/1\noptimize chain -d half\noptimize chain -d 3/4\noptimize chain -d 1/2\n",
      codes "chain: version 1 (4 rows)\nchain: version 2 (4 rows, 3 new)\nchain: version 3 (5 rows, 1 new)\nerror 17: threshold out of range\nerror 17: threshold out of range\nerror 54: bad number\ndepth 1, partitions 2, stored 9, records 8, members 13, cost 14, steps 4\nerror 18: chain is migrating\n",
    ) ∷
    -- a split with two parents of one weight
    (
      codes "init people -s id:int,name:text,score:int -k id -f a.csv\ncommit people -v 1 -f b.csv -m raise\ncommit people -v 2 -f a.csv -m back\ncommit people -v 1,2 -f both.csv -m both\noptimize people -d 1/1\n",
      codes "people: version 1 (2 rows)\npeople: version 2 (3 rows, 2 new)\npeople: version 3 (2 rows, 1 new)\npeople: version 4 (3 rows, 0 new)\ndepth 2, partitions 4, stored 10, records 6, members 10, cost 10, steps 8\n",
    ) ∷
    -- the layout of a chain, a checkpoint, and no steps
    (
      codes "init people -s id:int,name:text,score:int -k id -f a.csv\ncommit people -v 1 -f b.csv -m raise\nlayout people\ncheckpoint\nmigrate 5\n",
      codes "people: version 1 (2 rows)\npeople: version 2 (3 rows, 2 new)\npartition 1: records 4, versions 1,2\nstored 4, cost 8\ncheckpoint: 1 datasets\nsteps 0 left 0\n",
    ) ∷
    -- the least that is generated
    (
      codes "generate tiny 0 1 1\ngenerate tiny 0 1 1\ngenerate x 0 0 1\n",
      codes "tiny: 1 versions, 1 records, 1 members\nerror 11: tiny exists\nerror 54: bad number\n",
    ) ∷
    -- four versions from a seed
    (
      codes "generate g 7 3 4\nlog g\ncheckout g -v 4\n",
      codes "g: 4 versions, 9 records, 16 members\nversion 1: 3 rows, 3 new, parents none, init\nversion 2: 4 rows, 2 new, parents 1, gen\nversion 3: 4 rows, 2 new, parents 1, gen\nversion 4: 5 rows, 2 new, parents 3, gen\nid,a,b\n1,962,t31\n2,793,t73\n3,545,t19\n6,405,t99\n7,654,t98\n",
    ) ∷
    -- a column that is added at the right
    (
      codes "init people -s id:int,name:text,score:int -k id -f a.csv\ncommit people -v 1 -f b.csv -m raise\ncommit people -v 2 -f wide.csv -m wide -a team:text\ncheckout people -v 1\ncheckout people -v 3,1\ncommit people -v 3 -f a.csv -m narrow\n",
      codes "people: version 1 (2 rows)\npeople: version 2 (3 rows, 2 new)\npeople: version 3 (3 rows, 2 new)\nid,name,score,team\n1,ann,10,\\N\n2,bob,20,\\N\nid,name,score,team\n1,ann,10,\\N\n2,bob,25,red\n3,cy,30,\nerror 31: the header differs from the schema\n",
    ) ∷
    []
