-- Worked examples of stores whose registry somebody made by hand, or that are full: what a line says there, as it was worked out by
-- hand. That it does is proved by computing it.
--     AllForeign      the registry's datasets have another schema
--     AllByHand      staged tables that name what isn't there
--     AllFull      no dataset more has room, or none has a number
use Rattle.std.specs.Prelude.{◌≡◌, ℕ, pos, List, [], ◌∷◌, None, Some, codes, replicate}
use Rattle.ov_value.specs.declared.column.Kind.TheVariants as kind
use Rattle.ov_value.specs.declared.value.Value.{Value}
use Rattle.ov_value.specs.declared.value.Value.TheVariants.{Int, Text, Null}
use Rattle.ov_value.specs.Shapes.{Shape}
use Rattle.ov_model.specs.Book.{Row}
use Rattle.ov_model.specs.Course.{line_served, play}
use Rattle.ov_model.specs.Deed.{deed}
use Rattle.ov_model.specs.Examples.{people, served_all, session}
use Rattle.ov_model.specs.Forms.{all_forms}
use Rattle.ov_model.specs.Line.{line_of}
use Rattle.ov_model.specs.Moves.{Init, moved, new_set}
use Rattle.ov_model.specs.Registry.{column, stage_name, stage_schema, users_name, users_schema}
use Rattle.ov_model.specs.Replies.{reply_text}
use Rattle.ov_model.specs.World.{World}
use Rattle.ov_model.specs.declared.command.Command.TheVariants.{Checkout}

-- what a line of a user prints in a World
abbrev pub said_by : List ℕ → World → List ℕ → List ℕ
said_by user w line = play (line_served 0 w (record session { user = user }) [] (line_of all_forms line)).items

abbrev pub said_in : World → List ℕ → List ℕ
said_in w line = said_by (codes "admin") w line

-- what comes of staging version 1 listed so often
abbrev pub staging : World → List ℕ → ℕ → List ℕ
staging w cvd times = reply_text (deed w session (Checkout cvd (replicate times 1) None (Some (codes "t")))).reply

abbrev pub two_people : World
two_people = (served_all people).world

-- ---- another schema

abbrev pub other_schema : Shape
other_schema = record { columns = column (codes "name") kind.Int ∷ []; key = 0 ∷ [] }

abbrev pub foreign : World
foreign = moved (Init stage_name other_schema []) (moved (Init users_name other_schema []) two_people)

-- 63 comes before 76, and 76 before all that the store says
pub record AllForeign : Type 0 where
  pub create : said_in foreign (codes "create_user admin") ≡ codes "error 76: the registry is foreign\n"
  pub create_bad : said_in foreign (codes "create_user 9x") ≡ codes "error 63: bad name 9x\n"
  pub config : said_in foreign (codes "config ann") ≡ codes "error 76: the registry is foreign\n"
  pub config_bad : said_in foreign (codes "config 9x") ≡ codes "error 76: the registry is foreign\n"
  pub stage : said_in foreign (codes "checkout towns -v 9 -t t") ≡ codes "error 76: the registry is foreign\n"
  pub stage_bad : said_in foreign (codes "checkout people -v 1 -t 9x") ≡ codes "error 63: bad name 9x\n"
  pub stage_many : staging foreign (codes "people") 1001 ≡ codes "error 76: the registry is foreign\n"
  pub commit : said_in foreign (codes "commit -t admin.t -m m") ≡ codes "error 76: the registry is foreign\n"
  pub commit_denied : said_in foreign (codes "commit -t ann.t -m m") ≡ codes "error 71: denied by rule 2\n"
  pub unstage : said_in foreign (codes "unstage admin.t") ≡ codes "error 76: the registry is foreign\n"
  pub unstage_denied : said_in foreign (codes "unstage ann.t") ≡ codes "error 71: denied by rule 2\n"
  pub tables : said_in foreign (codes "tables") ≡ codes "error 76: the registry is foreign\n"
  pub whoami : said_in foreign (codes "whoami") ≡ codes "admin\n"

-- ---- rows that lie

abbrev pub text : List ℕ → Value
text t = Text t

-- a table of `admin`
abbrev pub of_admin : List ℕ → Value → Value → Value → Row
of_admin table cvd made vids = text (codes "admin") ∷ text table ∷ cvd ∷ made ∷ vids ∷ []

-- `people` has number 1
abbrev pub lies : List Row
lies =
    of_admin (codes "9x") (text (codes "people")) (Int (pos 1)) (text (codes "2"))
    ∷ of_admin (codes "good") (text (codes "people")) (Int (pos 1)) (text (codes "2"))
    ∷ of_admin (codes "late") (text (codes "people")) (Int (pos 9)) (text (codes "2"))
    ∷ of_admin (codes "later") (text (codes "people")) (Int (pos 1)) (text (codes "9"))
    ∷ of_admin (codes "made") (text (codes "people")) Null (text (codes "2"))
    ∷ of_admin (codes "none") Null (Int (pos 1)) (text (codes "2"))
    ∷ of_admin (codes "own") (text stage_name) (Int (pos 2)) (text (codes "1"))
    ∷ of_admin (codes "vids") (text (codes "people")) (Int (pos 1)) (text (codes "2,"))
    ∷ of_admin (codes "void") (text (codes "people")) (Int (pos 1)) Null ∷ []

abbrev pub by_hand : World
by_hand = moved (Init users_name users_schema ((text (codes "9x") ∷ []) ∷ [])) (moved (Init stage_name stage_schema lies) two_people)

-- A table is committed where a dataset lives under its name and number and is none of the store's own, and its text is a list of
-- versions; what these are is another matter. A user has a name.
pub record AllByHand : Type 0 where
  pub good : said_in by_hand (codes "commit -t admin.good -m m") ≡ codes "error 70: no file admin.good.staged\n"
  pub no_name : said_in by_hand (codes "commit -t admin.9x -m m") ≡ codes "error 70: no file admin.9x.staged\n"
  pub other_number : said_in by_hand (codes "commit -t admin.late -m m") ≡ codes "error 74: no table admin.late\n"
  pub other_version : said_in by_hand (codes "commit -t admin.later -m m") ≡ codes "error 12: no version 9\n"
  pub no_number : said_in by_hand (codes "commit -t admin.made -m m") ≡ codes "error 74: no table admin.made\n"
  pub no_dataset : said_in by_hand (codes "commit -t admin.none -m m") ≡ codes "error 74: no table admin.none\n"
  pub stores_own : said_in by_hand (codes "commit -t admin.own -m m") ≡ codes "error 74: no table admin.own\n"
  pub no_list : said_in by_hand (codes "commit -t admin.vids -m m") ≡ codes "error 74: no table admin.vids\n"
  pub no_text : said_in by_hand (codes "commit -t admin.void -m m") ≡ codes "error 74: no table admin.void\n"
  pub unstaged : said_in by_hand (codes "unstage admin.own") ≡ codes "admin.own: unstaged\n"
  pub config_bad : said_in by_hand (codes "config 9x") ≡ codes "error 72: no user 9x\n"
  pub config_other : said_in by_hand (codes "config ann") ≡ codes "error 72: no user ann\n"
  pub others : said_by (codes "ann") by_hand (codes "tables") ≡ codes "(0 tables)\n"
  pub all : said_in by_hand (codes "tables")
      ≡ codes "admin.9x: people 2\nadmin.good: people 2\nadmin.late: people 2\nadmin.later: people 9\nadmin.made: people 2\nadmin.none:  2\nadmin.own: orpheus_stage 1\nadmin.vids: people 2,\nadmin.void: people \n(9 tables)\n"

-- ---- no room among the datasets

-- 1,024 datasets of one name
abbrev pub crowded : World
crowded = record two_people { sets = replicate 1024 (new_set 1 (codes "people") other_schema []) }

abbrev pub numbered_out : World
numbered_out = record two_people { next = 4294967295 }

-- A registry's first change makes a dataset, and a later one doesn't; 77 comes at 1,001 versions, whether the dataset is there or not.
pub record AllFull : Type 0 where
  pub create : said_in crowded (codes "create_user ann") ≡ codes "error 20: 1024 datasets already\n"
  pub stage : said_in crowded (codes "checkout people -v 1 -t t") ≡ codes "error 20: 1024 datasets already\n"
  pub create_both : said_in (record crowded { next = 4294967295 }) (codes "create_user ann") ≡ codes "error 20: 1024 datasets already\n"
  pub create_number : said_in numbered_out (codes "create_user ann") ≡ codes "error 22: no numbers left for orpheus_users\n"
  pub stage_number : said_in numbered_out (codes "checkout people -v 1 -t t") ≡ codes "error 22: no numbers left for orpheus_stage\n"
  pub later : said_in (record by_hand { next = 4294967295 }) (codes "create_user ann") ≡ codes "user ann\n"
  pub many : staging two_people (codes "people") 1000 ≡ codes "error 13: version 1 is repeated\n"
  pub too_many : staging two_people (codes "people") 1001 ≡ codes "error 77: over 1000 versions\n"
  pub many_of_none : staging two_people (codes "towns") 1000 ≡ codes "error 10: no dataset towns\n"
  pub too_many_of_none : staging two_people (codes "towns") 1001 ≡ codes "error 77: over 1000 versions\n"
