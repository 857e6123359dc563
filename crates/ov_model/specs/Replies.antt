-- The texts of the replies.
--     refusal_text r      of a refusal, without its number
--     reply_text r      of a reply: lines, each ended by a line feed; the words rows, versions, records and so on are plural always
use Rattle.std.specs.Prelude.{ℕ, ◌+◌, Bool, true, false, if◌then◌else◌, List, [], ◌∷◌, ◌++◌, length, Option, Some, None, codes}
use Rattle.std.specs.List.{flat_map, concat, join_by}
use Rattle.std.specs.Fmt.{decimal}
use Rattle.ov_value.specs.declared.column.Kind.{Kind}
use Rattle.ov_value.specs.declared.column.Kind.TheVariants as kind
use Rattle.ov_model.specs.declared.refusal.Refusal.{Refusal}
use Rattle.ov_model.specs.declared.refusal.Refusal.TheVariants as no
use Rattle.ov_model.specs.declared.reply.PartLine.{PartLine}
use Rattle.ov_model.specs.declared.reply.PlanLine.{PlanLine}
use Rattle.ov_model.specs.declared.reply.LogLine.{LogLine}
use Rattle.ov_model.specs.declared.reply.CvdLine.{CvdLine}
use Rattle.ov_model.specs.declared.reply.BudgetLine.{BudgetLine}
use Rattle.ov_model.specs.declared.reply.TableLine.{TableLine}
use Rattle.ov_model.specs.declared.reply.Reply.{Reply}
use Rattle.ov_model.specs.declared.reply.Reply.TheVariants as says

-- these texts one after another, and a line feed
unfoldable pub line : List (List ℕ) → List ℕ
line texts = concat texts ++ 10 ∷ []

abbrev pub kind_text : Kind → List ℕ
kind_text kind.Int = codes "int"
kind_text kind.Text = codes "text"
kind_text kind.Flag = codes "flag"

-- numbers with commas between them
abbrev pub numbers : List ℕ → List ℕ
numbers ns = join_by decimal (codes ",") ns

-- what a `migrate` that was refused has done
abbrev pub so_far : Option (ℕ × ℕ) → List ℕ
so_far None = []
so_far (Some steps) = concat (codes ", steps " ∷ decimal steps.0 ∷ codes " left " ∷ decimal steps.1 ∷ [])

abbrev pub refusal_number : Refusal → ℕ
refusal_number (no.NoRun pages steps) = 4
refusal_number (no.JournalFull steps) = 5
refusal_number (no.NoCvd cvd) = 10
refusal_number (no.CvdExists cvd) = 11
refusal_number (no.NoVersion vid) = 12
refusal_number (no.RepeatedVersion vid) = 13
refusal_number (no.DuplicateKey row) = 14
refusal_number (no.TooManyVersions cvd) = 15
refusal_number (no.TooManyRecords cvd) = 16
refusal_number no.BadThreshold = 17
refusal_number (no.Migrating cvd) = 18
refusal_number no.TooManyRows = 19
refusal_number no.TooManyCvds = 20
refusal_number (no.NoThreshold budget least) = 21
refusal_number (no.NoNumbers cvd) = 22
refusal_number (no.FormatOne row) = 23
refusal_number no.BadHeader = 31
refusal_number (no.Width row found columns) = 32
refusal_number (no.BadField row column kind) = 33
refusal_number (no.NotText row) = 34
refusal_number no.LongFile = 35
refusal_number (no.LongRow row) = 36
refusal_number (no.NullKey row column) = 37
refusal_number (no.BadByte at) = 40
refusal_number no.NotAQuery = 41
refusal_number (no.UnknownColumn name) = 42
refusal_number (no.TypeMismatch nth left right) = 43
refusal_number (no.NotGrouped name) = 44
refusal_number (no.NeedsInt name) = 45
refusal_number no.TooManyJoined = 46
refusal_number no.UnknownCommand = 51
refusal_number (no.Missing what) = 52
refusal_number (no.UnexpectedWord nth) = 53
refusal_number no.BadNumber = 54
refusal_number no.LongLine = 55
refusal_number (no.BadKind column) = 56
refusal_number no.NotUtf8 = 57
refusal_number no.OpenQuote = 58
refusal_number no.NoColumns = 61
refusal_number no.TooManyColumns = 62
refusal_number (no.BadName name) = 63
refusal_number (no.RepeatedName name) = 64
refusal_number no.NoKey = 65
refusal_number (no.UnknownKey name) = 66
refusal_number (no.RepeatedKey name) = 67
refusal_number (no.NoFile name) = 70
refusal_number (no.Denied rule) = 71
refusal_number (no.NoUser name) = 72
refusal_number (no.UserExists name) = 73
refusal_number (no.NoTable table) = 74
refusal_number (no.TableStaged table) = 75
refusal_number no.ForeignRegistry = 76
refusal_number no.TooManyListed = 77

abbrev pub refusal_text : Refusal → List ℕ
refusal_text (no.NoRun pages steps) = concat (codes "no free run of " ∷ decimal pages ∷ codes " pages" ∷ so_far steps ∷ [])
refusal_text (no.JournalFull steps) = codes "the journal is full" ++ so_far steps
refusal_text (no.NoCvd cvd) = codes "no dataset " ++ cvd
refusal_text (no.CvdExists cvd) = cvd ++ codes " exists"
refusal_text (no.NoVersion vid) = codes "no version " ++ decimal vid
refusal_text (no.RepeatedVersion vid) = concat (codes "version " ∷ decimal vid ∷ codes " is repeated" ∷ [])
refusal_text (no.DuplicateKey row) = concat (codes "row " ∷ decimal row ∷ codes " repeats a key" ∷ [])
refusal_text (no.TooManyVersions cvd) = cvd ++ codes " has 65535 versions"
refusal_text (no.TooManyRecords cvd) = cvd ++ codes " would pass 2147483648 records"
refusal_text no.BadThreshold = codes "threshold out of range"
refusal_text (no.Migrating cvd) = cvd ++ codes " is migrating"
refusal_text no.TooManyRows = codes "over 1000000 rows"
refusal_text no.TooManyCvds = codes "1024 datasets already"
refusal_text (no.NoThreshold budget least) = concat (codes "no threshold stores at most " ∷ decimal budget ∷ codes "; the least is " ∷ decimal least ∷ [])
refusal_text (no.NoNumbers cvd) = codes "no numbers left for " ++ cvd
refusal_text (no.FormatOne row) = concat (codes "row " ∷ decimal row ∷ codes " has NULL in a format 1 store" ∷ [])
refusal_text no.BadHeader = codes "the header differs from the schema"
refusal_text (no.Width row found columns) = concat (codes "row " ∷ decimal row ∷ codes " has " ∷ decimal found ∷ codes " fields, not " ∷ decimal columns ∷ [])
refusal_text (no.BadField row column kind) = concat (codes "row " ∷ decimal row ∷ codes ", column " ∷ column ∷ codes ": not " ∷ kind_text kind ∷ [])
refusal_text (no.NotText row) = concat (codes "row " ∷ decimal row ∷ codes " is not UTF-8" ∷ [])
refusal_text no.LongFile = codes "file over 67108864 bytes"
refusal_text (no.LongRow row) = concat (codes "row " ∷ decimal row ∷ codes " is over 65536 bytes" ∷ [])
refusal_text (no.NullKey row column) = concat (codes "row " ∷ decimal row ∷ codes ", column " ∷ column ∷ codes ": the key is NULL" ∷ [])
refusal_text (no.BadByte at) = concat (codes "byte " ∷ decimal at ∷ codes " begins no token" ∷ [])
refusal_text no.NotAQuery = codes "not a query"
refusal_text (no.UnknownColumn name) = codes "no column " ++ name
refusal_text (no.TypeMismatch nth left right) = concat (codes "comparison " ∷ decimal nth ∷ codes " compares " ∷ kind_text left ∷ codes " with " ∷ kind_text right ∷ [])
refusal_text (no.NotGrouped name) = name ++ codes " is not grouped"
refusal_text (no.NeedsInt name) = name ++ codes " is not int"
refusal_text no.TooManyJoined = codes "over 1000000 joined rows"
refusal_text no.UnknownCommand = codes "unknown command"
refusal_text (no.Missing what) = codes "missing " ++ what
refusal_text (no.UnexpectedWord nth) = codes "unexpected word " ++ decimal nth
refusal_text no.BadNumber = codes "bad number"
refusal_text no.LongLine = codes "line over 65536 bytes"
refusal_text (no.BadKind column) = concat (codes "column " ∷ decimal column ∷ codes " has a bad kind" ∷ [])
refusal_text no.NotUtf8 = codes "line is not UTF-8"
refusal_text no.OpenQuote = codes "a quote is not closed"
refusal_text no.NoColumns = codes "no columns"
refusal_text no.TooManyColumns = codes "over 64 columns"
refusal_text (no.BadName name) = codes "bad name " ++ name
refusal_text (no.RepeatedName name) = concat (codes "column " ∷ name ∷ codes " is repeated" ∷ [])
refusal_text no.NoKey = codes "no key"
refusal_text (no.UnknownKey name) = codes "no key column " ++ name
refusal_text (no.RepeatedKey name) = concat (codes "key column " ∷ name ∷ codes " is repeated" ∷ [])
refusal_text (no.NoFile name) = codes "no file " ++ name
refusal_text (no.Denied rule) = codes "denied by rule " ++ decimal rule
refusal_text (no.NoUser name) = codes "no user " ++ name
refusal_text (no.UserExists name) = concat (codes "user " ∷ name ∷ codes " exists" ∷ [])
refusal_text (no.NoTable table) = codes "no table " ++ table
refusal_text (no.TableStaged table) = concat (codes "table " ∷ table ∷ codes " is staged" ∷ [])
refusal_text no.ForeignRegistry = codes "the registry is foreign"
refusal_text no.TooManyListed = codes "over 1000 versions"

-- a version's parents
abbrev pub parents_text : List ℕ → List ℕ
parents_text [] = codes "none"
parents_text (p ∷ ps) = numbers (p ∷ ps)

abbrev pub part_line : PartLine → List ℕ
part_line part = line (codes "partition " ∷ decimal part.id ∷ codes ": records " ∷ decimal part.records ∷ codes ", versions " ∷ numbers part.versions ∷ [])

abbrev pub running_line : PlanLine → List ℕ
running_line plan =
    line (codes "plan " ∷ decimal plan.p ∷ codes "/" ∷ decimal plan.q
    ∷ codes ": target " ∷ decimal plan.target ∷ codes " of " ∷ decimal plan.targets
    ∷ codes ", copied " ∷ decimal plan.copied ∷ codes " of " ∷ decimal plan.size
    ∷ codes ", steps " ∷ decimal plan.steps ∷ [])

-- of the plan that runs, where one does
abbrev pub plan_line : Option PlanLine → List ℕ
plan_line None = []
plan_line (Some plan) = running_line plan

abbrev pub log_line : LogLine → List ℕ
log_line v =
    line (codes "version " ∷ decimal v.vid ∷ codes ": " ∷ decimal v.rows ∷ codes " rows, " ∷ decimal v.fresh
    ∷ codes " new, parents " ∷ parents_text v.parents ∷ codes ", " ∷ v.message ∷ [])

abbrev pub cvd_line : CvdLine → List ℕ
cvd_line cvd = line (cvd.name ∷ codes ": " ∷ decimal cvd.versions ∷ codes " versions, " ∷ decimal cvd.records ∷ codes " records" ∷ [])

abbrev pub table_line : TableLine → List ℕ
table_line t = line (t.user ∷ codes "." ∷ t.table ∷ codes ": " ∷ t.cvd ∷ codes " " ∷ t.vids ∷ [])

abbrev pub budget_line : ℕ → BudgetLine → List ℕ
budget_line p b =
    line (codes "p " ∷ decimal p ∷ codes ": depth " ∷ decimal b.depth ∷ codes ", partitions " ∷ decimal b.partitions
    ∷ codes ", stored " ∷ decimal b.stored ∷ codes ", cost " ∷ decimal b.cost ∷ [])

-- of each threshold from p / 100 on
abbrev pub budget_lines : ℕ → List BudgetLine → List ℕ
budget_lines p [] = []
budget_lines p (b ∷ bs) = budget_line p b ++ budget_lines (p + 1) bs

abbrev pub optimize_line : ℕ → ℕ → ℕ → ℕ → ℕ → ℕ → ℕ → List ℕ
optimize_line depth partitions stored records members cost steps =
    line (codes "depth " ∷ decimal depth ∷ codes ", partitions " ∷ decimal partitions ∷ codes ", stored " ∷ decimal stored
    ∷ codes ", records " ∷ decimal records ∷ codes ", members " ∷ decimal members ∷ codes ", cost " ∷ decimal cost
    ∷ codes ", steps " ∷ decimal steps ∷ [])

abbrev pub chosen_line : ℕ → List ℕ
chosen_line chosen = line (codes "chosen " ∷ decimal chosen ∷ codes "/100" ∷ [])

abbrev pub stored_line : ℕ → ℕ → List ℕ
stored_line stored cost = line (codes "stored " ∷ decimal stored ∷ codes ", cost " ∷ decimal cost ∷ [])

-- how many of them there are
abbrev pub count_line : ℕ → List ℕ → List ℕ
count_line n what = line (codes "(" ∷ decimal n ∷ codes " " ∷ what ∷ codes ")" ∷ [])

abbrev pub reply_text : Reply → List ℕ
reply_text (says.Init cvd rows) = line (cvd ∷ codes ": version 1 (" ∷ decimal rows ∷ codes " rows)" ∷ [])
reply_text (says.Csv text) = text
reply_text (says.ToFile cvd rows file) = line (cvd ∷ codes ": " ∷ decimal rows ∷ codes " rows to " ∷ file ∷ [])
reply_text (says.Commit cvd vid rows fresh) =
    line (cvd ∷ codes ": version " ∷ decimal vid ∷ codes " (" ∷ decimal rows ∷ codes " rows, " ∷ decimal fresh ∷ codes " new)" ∷ [])
reply_text (says.Answer text rows) = text ++ count_line rows (codes "rows")
reply_text (says.Optimize depth partitions stored records members cost steps) = optimize_line depth partitions stored records members cost steps
reply_text (says.Within lines chosen depth partitions stored records members cost steps) =
    budget_lines 1 lines
    ++ (chosen_line chosen ++ optimize_line depth partitions stored records members cost steps)
reply_text (says.Advise cost best optimize) =
    line (codes "cost " ∷ decimal cost ∷ codes ", best " ∷ decimal best ∷ (if optimize then codes ": optimize" else codes ": keep") ∷ [])
reply_text (says.Migrate taken left) = line (codes "steps " ∷ decimal taken ∷ codes " left " ∷ decimal left ∷ [])
reply_text (says.Layout parts plan stored cost) =
    flat_map part_line parts ++ (plan_line plan ++ stored_line stored cost)
reply_text (says.Log versions) = flat_map log_line versions
reply_text (says.Ls cvds) = flat_map cvd_line cvds ++ count_line (length cvds) (codes "datasets")
reply_text (says.Dropped cvd) = line (cvd ∷ codes ": dropped" ∷ [])
reply_text (says.Checkpoint datasets) = line (codes "checkpoint: " ∷ decimal datasets ∷ codes " datasets" ∷ [])
reply_text (says.Generate cvd versions records members) =
    line (cvd ∷ codes ": " ∷ decimal versions ∷ codes " versions, " ∷ decimal records ∷ codes " records, " ∷ decimal members ∷ codes " members" ∷ [])
reply_text (says.User name) = line (codes "user " ∷ name ∷ [])
reply_text (says.Whoami name) = line (name ∷ [])
reply_text (says.Unstaged user table) = line (user ∷ codes "." ∷ table ∷ codes ": unstaged" ∷ [])
reply_text (says.Tables tables) = flat_map table_line tables ++ count_line (length tables) (codes "tables")
reply_text (says.Refused refusal) = line (codes "error " ∷ decimal (refusal_number refusal) ∷ codes ": " ∷ refusal_text refusal ∷ [])

-- whether a reply is an error
abbrev pub is_error : Reply → Bool
is_error (says.Refused refusal) = true
is_error _ = false

-- whether a reply has a text: that of a checkout has a header, and a dataset has a version
abbrev pub has_text : Reply → Bool
has_text (says.Csv []) = false
has_text (says.Log []) = false
has_text _ = true
