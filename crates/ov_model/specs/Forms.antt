-- The forms of the commands: one row for each.
--     Form      a command's name, its words in order, its options, and the command that their values make
--     all_forms      of every command of the product
-- A command is added by adding its row.
use Rattle.std.specs.Prelude.{ℕ, Bool, true, false, ◌==◌, if◌then◌else◌, List, [], ◌∷◌, ◌^◌, length, Option, Some, None, Result, Ok, Err, slice_get, codes}
use Rattle.std.specs.Option.{option_map}
use Rattle.std.specs.Str.{bytes_eq}
use Rattle.ov_value.specs.declared.column.Column.{Column}
use Rattle.ov_value.specs.declared.schema_err.SchemaErr.{SchemaErr}
use Rattle.ov_value.specs.declared.schema_err.SchemaErr.TheVariants as bad
use Rattle.ov_value.specs.Making.{schema_of}
use Rattle.ov_value.specs.Naming.{is_name}
use Rattle.ov_value.specs.Shapes.{Shape}
use Rattle.ov_model.specs.declared.command.Command.{Command}
use Rattle.ov_model.specs.declared.command.Command.TheVariants as asks
use Rattle.ov_model.specs.declared.refusal.Refusal.{Refusal}
use Rattle.ov_model.specs.declared.refusal.Refusal.TheVariants as no
use Rattle.ov_model.specs.Values.{number_from}
use Rattle.ov_model.specs.declared.given.Given.{Given}
use Rattle.ov_model.specs.declared.given.Given.TheVariants.{Text, Count, Both, Vids, Ratio, Names, Columns, Table}
use Rattle.ov_model.specs.declared.given.Reading.{Reading}
use Rattle.ov_model.specs.declared.given.Reading.TheVariants.{AnyText, FileName, Message, NumberFrom, CountTo, NumberWith, ListOfVids, TwoNumbers, ListOfNames, SchemaItems, StagedTable}

-- A word in order: what it is called where it is missing, and how it is read.
pub record Param : Type 0 where
  pub what : List ℕ
  pub reads : Reading

-- An option: how it is written, how its value is read, whether it is needed, and the option that excludes it and does in its
-- place, empty for none.
pub record Choice : Type 0 where
  pub letter : List ℕ
  pub reads : Reading
  pub needed : Bool
  pub rival : List ℕ

-- the values of the words in order, and those of the options by their letters
pub record Values : Type 0 where
  pub words : List Given
  pub options : List (List ℕ × Given)

-- A form: the command's name, the word 2 that sets it apart from another form of that name, whether all that stands behind
-- the name is one text, its words, its options, and what their values make: a command, or the last refusals of a line.
pub record Form : Type 0 where
  pub name : List ℕ
  pub second : Option (List ℕ)
  pub whole : Bool
  pub params : List Param
  pub choices : List Choice
  pub make : Values → Result Command Refusal

-- the value of an option; None where it wasn't given
abbrev pub option_in : List (List ℕ × Given) → List ℕ → Option Given
option_in [] letter = None
option_in (o ∷ os) letter = if bytes_eq o.0 letter then Some o.1 else option_in os letter

-- The parts of a value. A value is read by the form, so that each is there where it is asked for.
abbrev pub text_in : Option Given → List ℕ
text_in (Some (Text text)) = text
text_in _ = []

abbrev pub vids_in : Option Given → List ℕ
vids_in (Some (Vids vids)) = vids
vids_in _ = []

abbrev pub count_in : Option Given → ℕ
count_in (Some (Count n)) = n
count_in _ = 0

-- the number of the word before, and the word's own
abbrev pub before_in : Option Given → ℕ
before_in (Some (Both before own)) = before
before_in _ = 0

abbrev pub own_in : Option Given → ℕ
own_in (Some (Both before own)) = own
own_in _ = 0

abbrev pub over_in : Option Given → ℕ
over_in (Some (Ratio over under)) = over
over_in _ = 0

abbrev pub under_in : Option Given → ℕ
under_in (Some (Ratio over under)) = under
under_in _ = 0

abbrev pub names_in : Option Given → List (List ℕ)
names_in (Some (Names names)) = names
names_in _ = []

abbrev pub columns_in : Option Given → List Column
columns_in (Some (Columns columns)) = columns
columns_in _ = []

abbrev pub user_in : Option Given → List ℕ
user_in (Some (Table user table)) = user
user_in _ = []

abbrev pub table_in : Option Given → List ℕ
table_in (Some (Table user table)) = table
table_in _ = []

abbrev pub word_of : Values → ℕ → Option Given
word_of v place = slice_get v.words place

abbrev pub choice : Values → List ℕ → Option Given
choice v letter = option_in v.options letter

-- a refusal of a schema as that of the line
abbrev pub schema_refusal : SchemaErr → Refusal
schema_refusal bad.NoColumns = no.NoColumns
schema_refusal bad.TooManyColumns = no.TooManyColumns
schema_refusal (bad.BadName name) = no.BadName name
schema_refusal (bad.RepeatedName name) = no.RepeatedName name
schema_refusal bad.NoKey = no.NoKey
schema_refusal (bad.UnknownKey name) = no.UnknownKey name
schema_refusal (bad.RepeatedKey name) = no.RepeatedKey name
schema_refusal bad.Memory = no.NoColumns

abbrev pub or_schema_refusal : Result Shape SchemaErr → Result Shape Refusal
or_schema_refusal (Ok schema) = Ok schema
or_schema_refusal (Err refusal) = Err (schema_refusal refusal)

abbrev pub init_with : List ℕ → List ℕ → Result Shape Refusal → Result Command Refusal
init_with cvd file (Ok schema) = Ok (asks.Init cvd schema file)
init_with cvd file (Err refusal) = Err refusal

-- the dataset's name is one, and then the schema is accepted
abbrev pub make_init : Values → Result Command Refusal
make_init v =
    if is_name (text_in (word_of v 0))
    then init_with (text_in (word_of v 0)) (text_in (choice v (codes "-f"))) (or_schema_refusal (schema_of (columns_in (choice v (codes "-s"))) (names_in (choice v (codes "-k")))))
    else Err (no.BadName (text_in (word_of v 0)))

-- there is a column to add, where any are to be added
abbrev pub some_columns : Option Given → Result (Option (List Column)) Refusal
some_columns None = Ok None
some_columns (Some given) = if length (columns_in (Some given)) == 0 then Err no.NoColumns else Ok (Some (columns_in (Some given)))

abbrev pub commit_with : Values → Result (Option (List Column)) Refusal → Result Command Refusal
commit_with v (Ok added) =
    Ok (asks.Commit (text_in (word_of v 0)) (vids_in (choice v (codes "-v"))) (text_in (choice v (codes "-f"))) (text_in (choice v (codes "-m"))) added)
commit_with v (Err refusal) = Err refusal

abbrev pub make_commit : Values → Result Command Refusal
make_commit v = commit_with v (some_columns (choice v (codes "-a")))

abbrev pub make_checkout : Values → Result Command Refusal
make_checkout v = Ok (asks.Checkout (text_in (word_of v 0)) (vids_in (choice v (codes "-v")))
    (option_map (λ given. text_in (Some given)) (choice v (codes "-f"))) (option_map (λ given. text_in (Some given)) (choice v (codes "-t"))))

abbrev pub make_commit_staged : Values → Result Command Refusal
make_commit_staged v =
    Ok (asks.CommitStaged (user_in (choice v (codes "-t"))) (table_in (choice v (codes "-t"))) (text_in (choice v (codes "-m"))))

-- by the one of the two options that was given
abbrev pub optimize_by : List ℕ → Option Given → Option Given → Command
optimize_by cvd (Some ratio) budget = asks.Optimize cvd (over_in (Some ratio)) (under_in (Some ratio))
optimize_by cvd None budget = asks.OptimizeWithin cvd (number_from budget)

abbrev pub make_optimize : Values → Result Command Refusal
make_optimize v = Ok (optimize_by (text_in (word_of v 0)) (choice v (codes "-d")) (choice v (codes "-s")))

abbrev pub make_advise : Values → Result Command Refusal
make_advise v = Ok (asks.Advise (text_in (word_of v 0)) (number_from (choice v (codes "-s"))) (over_in (choice v (codes "-m"))) (under_in (choice v (codes "-m"))))

-- the dataset's name is one
abbrev pub make_generate : Values → Result Command Refusal
make_generate v =
    if is_name (text_in (word_of v 0))
    then Ok (asks.Generate (text_in (word_of v 0)) (number_from (word_of v 1)) (before_in (word_of v 3)) (own_in (word_of v 3)))
    else Err (no.BadName (text_in (word_of v 0)))

abbrev pub word : List ℕ → Param
word what = record { what = what; reads = AnyText }

abbrev pub number : List ℕ → Reading → Param
number what reads = record { what = what; reads = reads }

abbrev pub needs : List ℕ → Reading → Choice
needs letter reads = record { letter = letter; reads = reads; needed = true; rival = [] }

abbrev pub may_have : List ℕ → Reading → Choice
may_have letter reads = record { letter = letter; reads = reads; needed = false; rival = [] }

-- one that excludes another
abbrev pub either : Bool → List ℕ → List ℕ → Reading → Choice
either needed rival letter reads = record { letter = letter; reads = reads; needed = needed; rival = rival }

abbrev pub form : List ℕ → List Param → List Choice → (Values → Result Command Refusal) → Form
form name params choices make = record { name = name; second = None; whole = false; params = params; choices = choices; make = make }

-- a command of one dataset and nothing else
abbrev pub of_cvd : List ℕ → (List ℕ → Command) → Form
of_cvd name ask = form name (word (codes "cvd") ∷ []) [] (λ v. Ok (ask (text_in (word_of v 0))))

-- a command of one word that is a name
abbrev pub of_name : List ℕ → (List ℕ → Command) → Form
of_name name ask = form name (word (codes "name") ∷ []) [] (λ v. Ok (ask (text_in (word_of v 0))))

abbrev pub alone : List ℕ → Command → Form
alone name ask = form name [] [] (λ v. Ok ask)

abbrev pub init_form : Form
init_form =
    form (codes "init") (word (codes "cvd") ∷ [])
    (needs (codes "-s") SchemaItems ∷ needs (codes "-k") ListOfNames ∷ needs (codes "-f") FileName ∷ []) make_init

-- with these options more
abbrev pub checkout_form : List Choice → Form
checkout_form more = form (codes "checkout") (word (codes "cvd") ∷ []) (needs (codes "-v") ListOfVids ∷ more) make_checkout

abbrev pub commit_form : List Choice → Form
commit_form more =
    form (codes "commit") (word (codes "cvd") ∷ [])
    (needs (codes "-v") ListOfVids ∷ needs (codes "-f") FileName ∷ needs (codes "-m") Message ∷ more) make_commit

-- word 2 is the option `-t` itself
abbrev pub commit_staged_form : Form
commit_staged_form = record {
  name = codes "commit";
  second = Some (codes "-t");
  whole = false;
  params = [];
  choices = needs (codes "-t") StagedTable ∷ needs (codes "-m") Message ∷ [];
  make = make_commit_staged;
}

abbrev pub run_form : Form
run_form = record { name = codes "run"; second = None; whole = true; params = []; choices = []; make = λ v. Ok (asks.Run (text_in (word_of v 0))) }

-- with these options
abbrev pub optimize_form : List Choice → Form
optimize_form choices = form (codes "optimize") (word (codes "cvd") ∷ []) choices make_optimize

abbrev pub advise_form : Form
advise_form =
    form (codes "advise") (word (codes "cvd") ∷ []) (needs (codes "-s") (NumberFrom 0 (10 ^ 18)) ∷ needs (codes "-m") TwoNumbers ∷ []) make_advise

abbrev pub migrate_form : Form
migrate_form = form (codes "migrate") (number (codes "n") (CountTo 1000000) ∷ []) [] (λ v. Ok (asks.Migrate (count_in (word_of v 0))))

abbrev pub generate_form : Form
generate_form =
    form (codes "generate")
    (word (codes "cvd") ∷ number (codes "seed") (NumberFrom 0 (10 ^ 18)) ∷ number (codes "rows") (NumberFrom 1 (10 ^ 18))
    ∷ number (codes "versions") (NumberWith 65535 1000000) ∷ [])
    [] make_generate

abbrev pub unstage_form : Form
unstage_form =
    form (codes "unstage") (number (codes "user.table") StagedTable ∷ []) []
    (λ v. Ok (asks.Unstage (user_in (word_of v 0)) (table_in (word_of v 0))))

abbrev pub file_or_table : List Choice
file_or_table = either false (codes "-t") (codes "-f") FileName ∷ either false (codes "-f") (codes "-t") AnyText ∷ []

abbrev pub threshold_or_budget : List Choice
threshold_or_budget = either true (codes "-s") (codes "-d") TwoNumbers ∷ either false (codes "-d") (codes "-s") (NumberFrom 0 (10 ^ 18)) ∷ []

abbrev pub all_forms : List Form
all_forms =
    init_form ∷ checkout_form file_or_table ∷ commit_staged_form ∷ commit_form (may_have (codes "-a") SchemaItems ∷ []) ∷ run_form
    ∷ optimize_form threshold_or_budget ∷ advise_form ∷ migrate_form ∷ of_cvd (codes "layout") asks.Layout ∷ of_cvd (codes "log") asks.Log
    ∷ of_cvd (codes "drop") asks.DropCvd ∷ alone (codes "ls") asks.Ls ∷ alone (codes "checkpoint") asks.Checkpoint
    ∷ alone (codes "whoami") asks.Whoami ∷ alone (codes "tables") asks.Tables ∷ generate_form
    ∷ of_name (codes "create_user") asks.CreateUser ∷ of_name (codes "config") asks.Config ∷ unstage_form ∷ []
