-- Each move of a course is due at its World.
use Rattle.std.proofs.Common.{◌≡◌, ◌≤◌, ◌<◌, ℕ, zero, suc, ◌+◌, ◌-◌, ◌%◌, Bool, true, false, ◌==◌, List, [], ◌∷◌, ◌++◌, length, map, filter, refl, sym, ◌∙◌, ap, subst, inl, inr, arith, mod-lt}
use Rattle.std.specs.Prelude.{◌≢◌, ◌^◌, ◌/◌, not, ◌||◌, ◌&&◌, nat_le, nat_lt, codes, is_some, slice_index_or, if◌then◌else◌, Option, Some, None, Result, Ok, Err}
use Rattle.std.specs.Option.{option_or, option_and_then}
use Rattle.std.proofs.lemmas.List.{length-append, length-map}
use Rattle.std.proofs.lemmas.Bool.{eqb-true, ltb-false, leb-true, eq-eqb}
use Rattle.ov_value.specs.Naming.{is_name}
use Rattle.ov_value.specs.Rows.{key_cmp, value_at}
use Rattle.ov_value.specs.Shapes.{Shape}
use Rattle.ov_value.specs.declared.column.Column.{Column}
use Rattle.ov_value.specs.declared.schema_err.SchemaErr.{SchemaErr}
use Rattle.ov_value.specs.declared.value.Value.{Value}
use Rattle.ov_model.specs.Act.{Session, Deed, does, refuses, tells, unless, if_so, vids_refusal, repeated_key, format_one, with_rows, with_file, from_file, rows_refusal, init_refusal, init_deed, checkout_deed, gives, merge_of, columns_of, fresh_of, records_refusal, commit_rows, schema_with, commit_under, commit_refusal, commit_deed, log_deed, drop_deed, is_threshold, optimize_refusal, optimized, optimize_deed, layout_deed, generate_by}
use Rattle.ov_model.specs.Deed.{changes, create_refusal, create_user_deed, config_refusal, config_deed, table_named, file_of_table, stage_refusal, staged_refusal, with_staged, staged, stage_of, stage_deed, commit_from, staged_by, commit_staged_deed, unstage_refusal, unstage_deed, is_own, table_shown, tables_deed, permitted, deed}
use Rattle.ov_model.specs.Asking.{answered, name_read, query_by, query_refusal, run_deed}
use Rattle.ov_model.specs.Book.{Row, Cvd}
use Rattle.ov_model.specs.Budget.{IsLine, advise_by, advise_deed, choice, table, within_by, within_deed, within_refusal}
use Rattle.ov_model.specs.Joins.{join_answer, join_by, join_deed, join_kinds, join_over, joined_rows, side_of, told}
use Rattle.ov_model.specs.Kinds.{kinds}
use Rattle.ov_model.specs.QueryTexts.{Asked, AsksJoin, AsksQuery, BadByte, NoQuery, asked_of}
use Rattle.ov_model.specs.declared.query.JoinQuery.{JoinQuery}
use Rattle.ov_model.specs.declared.query.Query.{Query}
use Rattle.ov_model.specs.declared.reply.BudgetLine.{BudgetLine}
use Rattle.ov_value.specs.declared.column.Kind.{Kind}
use Rattle.ov_model.proofs.Choosing.{chosen_is}
use Rattle.ov_model.specs.Csv.{rows_of}
use Rattle.ov_model.specs.Course.{Item, Makes, Says, Room, Enough, NoRun, Full, Space, first, rest, Served, after, replied, steps_then, attempt, attempts, try_step, step_by, steps, and_steps, line_served, served, course, world_after, world_at}
use Rattle.ov_model.specs.Forms.{Form}
use Rattle.ov_model.specs.Generator.{Drawn, draw, next_state, parent_drawn, child_of, commits, generated, generated_schema, fresh_rows}
use Rattle.ov_model.specs.Holding.{HasAll, AllHaveAll}
use Rattle.ov_model.specs.Line.{Line, Comment, Asks, Refused, line_of}
use Rattle.ov_model.specs.Lists.{IsIn, Rises}
use Rattle.ov_model.specs.Merge.{in_key_order}
use Rattle.ov_model.specs.Moves.{Move, Init, Commit, BeginPlan, Copy, Flip, Drop, Checkpoint, accepted_or, moved, change, numbered, committed, wide, wide_version, version_of, new_set}
use Rattle.ov_model.specs.Placed.{AreThere, HasParents, AllHaveParents}
use Rattle.ov_model.specs.Plans.{missing, parts_at}
use Rattle.ov_model.specs.Registry.{users_name, users_schema, user_row, is_user, stage_name, stage_schema, is_foreign, last_rows, version_rows, with_row, without_row, table_row, table_in, as_text, is_number, unreserved, made_as, set_staged, vids_staged, both, last_alone, change_refusal, change_of}
use Rattle.ov_model.specs.Steps.{step_of, step_or, first_step, next_step, and_after, next_steps}
use Rattle.ov_model.specs.Users.{is_reserved, permit, permit_names}
use Rattle.ov_model.specs.Values.{vids_of}
use Rattle.ov_model.specs.World.{Plan, Dataset, World, AllBegun, cvd_in, set_named, is_one}
use Rattle.ov_model.specs.declared.command.Command.{Command}
use Rattle.ov_model.specs.declared.command.Command.TheVariants as asks
use Rattle.ov_model.specs.declared.refusal.Refusal.{Refusal}
use Rattle.ov_model.specs.declared.refusal.Refusal.TheVariants as no
use Rattle.ov_model.specs.declared.reply.Reply.{Reply}
use Rattle.ov_model.specs.declared.reply.Reply.TheVariants as says
use Rattle.ov_model.proofs.Courses.{world_append}
use Rattle.ov_model.proofs.Merging.{merged_rises}
use Rattle.ov_model.proofs.Replying.{begun_moved}
use Rattle.ov_model.proofs.Ruling.{foreign-is}
use Rattle.ov_model.proofs.Placing.{moved_placed}
use Rattle.ov_model.proofs.Holds.{moved_held}
use Rattle.law_partitions.specs.Courses.{AllDue, AllIdle, HasPartitions, IsBegun, IsDue}
use Rattle.law_partitions.proofs.CourseRows.{Up, file_rises, up_child, up_fresh, up_more, up_rises}
use Rattle.law_partitions.proofs.CountRuns.{moved_numbered}
use Rattle.law_partitions.proofs.CourseNumbers.{named_in, one_dataset, some_number, committed_number}
use Rattle.ov_model.proofs.FormValues.{vids_some}
use Rattle.law_partitions.specs.Countdown.{AreNumbered, number_times}
use Rattle.law_partitions.specs.Pieces.{AllLackSome, AllRiseWith, LacksSome}
use Rattle.law_partitions.specs.Sound.{AllNameVersions, LineNames, NamesVersions}

-- ---- a list of moves, each due where it is made

abbrev pub AreDue : World → List Move → Type 0
AreDue w [] = Unit {0}
AreDue w (m ∷ ms) = IsDue m w × AreDue (moved m w) ms

drop_due : (cvd : ℕ) (w : World) → IsDue (Drop cvd) w
drop_due cvd w = record { may = record { parents = tt; rows = tt; copy = tt; flip = tt }; begins = tt }

checkpoint_due : (w : World) → IsDue Checkpoint w
checkpoint_due w = record { may = record { parents = tt; rows = tt; copy = tt; flip = tt }; begins = tt }

init_made : (name : List ℕ) (schema : Shape) (rows : List Row) (w : World) → Rises (key_cmp schema) rows → IsDue (Init name schema rows) w
init_made name schema rows w rise = record { may = record { parents = tt; rows = rise; copy = tt; flip = tt }; begins = tt }

-- ---- what is asked of all datasets of a number

all_parents : (cvd : ℕ) (parents : List ℕ) (sets : List Dataset) → ((d : Dataset) → IsIn sets d → d.cvd.number ≡ cvd → HasParents parents d) → AllHaveParents cvd parents sets
all_parents cvd parents [] each = tt
all_parents cvd parents (d ∷ sets) each = (λ same. each d (inl refl) same, all_parents cvd parents sets (λ e is same. each e (inr is) same))

all_have : (cvd : ℕ) (sets : List Dataset) → ((d : Dataset) → IsIn sets d → d.cvd.number ≡ cvd → HasAll d d.plan) → AllHaveAll cvd sets
all_have cvd [] each = tt
all_have cvd (d ∷ sets) each = (λ same. each d (inl refl) same, all_have cvd sets (λ e is same. each e (inr is) same))

all_lack : (cvd : ℕ) (sets : List Dataset) → ((d : Dataset) → IsIn sets d → d.cvd.number ≡ cvd → LacksSome d d.plan) → AllLackSome cvd sets
all_lack cvd [] each = tt
all_lack cvd (d ∷ sets) each = (λ same. each d (inl refl) same, all_lack cvd sets (λ e is same. each e (inr is) same))

all_rise : (cvd : ℕ) (added : List Column) (rows : List Row) (sets : List Dataset) → ((d : Dataset) → IsIn sets d → d.cvd.number ≡ cvd → Rises (key_cmp (wide added d).cvd.schema) rows)
    → AllRiseWith cvd added rows sets
all_rise cvd added rows [] each = tt
all_rise cvd added rows (d ∷ sets) each = (λ same. each d (inl refl) same, all_rise cvd added rows sets (λ e is same. each e (inr is) same))

all_idle : (cvd : ℕ) (sets : List Dataset) → ((d : Dataset) → IsIn sets d → d.cvd.number ≡ cvd → d.plan ≡ None) → AllIdle cvd sets
all_idle cvd [] each = tt
all_idle cvd (d ∷ sets) each = (λ same. each d (inl refl) same, all_idle cvd sets (λ e is same. each e (inr is) same))

-- what holds of one dataset holds of all that have its number
only : (P : Dataset → Type 0) (w : World) (d : Dataset) → AreNumbered w → IsIn w.sets d → P d → (e : Dataset) → IsIn w.sets e → e.cvd.number ≡ d.cvd.number → P e
only P w d numbers is holds e is_e same = subst P (sym (one_dataset w.sets d e (numbers.once d.cvd.number) is is_e same)) holds

-- ---- refusals

unless_due : (w : World) (s : Session) (refusal : Option Refusal) (d : Deed) → (refusal ≡ None → AreDue w d.moves) → AreDue w (unless s refusal d).moves
unless_due w s None d due = due refl
unless_due w s (Some refusal) d due = tt

first_none : {X : Type 0} (a b : Option X) → option_or a b ≡ None → a ≡ None
first_none None b e = refl
first_none (Some x) b e = cc

second_none : {X : Type 0} (a b : Option X) → option_or a b ≡ None → b ≡ None
second_none None b e = e
second_none (Some x) b e = cc

not_so : (t : Bool) (refusal : Refusal) → if_so t refusal ≡ None → t ≡ false
not_so true refusal e = cc
not_so false refusal e = refl

either_false : (a b : Bool) → (a || b) ≡ false → (a ≡ false) × (b ≡ false)
either_false true b e = cc
either_false false b e = (refl, e)

both_true : (a b : Bool) → (a && b) ≡ true → (a ≡ true) × (b ≡ true)
both_true true b e = (refl, e)
both_true false b e = cc

next_none : (t : Bool) (refusal : Refusal) (rest : Option Refusal) → (if t then Some refusal else rest) ≡ None → (t ≡ false) × (rest ≡ None)
next_none true refusal rest e = cc
next_none false refusal rest e = (refl, e)

from_one : (vid : ℕ) → (vid == 0) ≡ false → 1 ≤ vid
from_one zero e = absurd (clash (sym (eq-eqb 0 0 refl) ∙ e))
  where
    clash : true ≡ false → ⊥
    clash e = cc
from_one (suc vid) e = omega arith

vids_there : (count : ℕ) (before vids : List ℕ) → vids_refusal count before vids ≡ None → AreThere count vids
vids_there count before [] e = tt
vids_there count before (vid ∷ vids) e =
    let here = next_none (vid == 0 || nat_lt count vid) (no.NoVersion vid) (if is_one before vid then Some (no.RepeatedVersion vid) else vids_refusal count (vid ∷ before) vids) e
    in let there = either_false (vid == 0) (nat_lt count vid) here.0
    in let more = next_none (is_one before vid) (no.RepeatedVersion vid) (vids_refusal count (vid ∷ before) vids) here.1
    in ((from_one vid there.0, ltb-false count vid there.1), vids_there count (vid ∷ before) vids more.1)

-- ---- a file's rows

no_repeat : (w : World) (schema : Shape) (adds : Bool) (rows : List Row) → rows_refusal w schema adds rows ≡ None → repeated_key schema [] 1 rows ≡ None
no_repeat w schema adds rows none =
    first_none (repeated_key schema [] 1 rows) (format_one w.format adds rows)
    (second_none (if_so (nat_lt 1000000 (length rows)) no.TooManyRows) (option_or (repeated_key schema [] 1 rows) (format_one w.format adds rows)) none)

rows_due : (w : World) (s : Session) (schema : Shape) (adds : Bool) (next : List Row → Deed) (given : Result (List Row) Refusal) → ((rows : List Row) → Rises (key_cmp schema) rows → AreDue w (next rows).moves)
    → AreDue w (with_rows w s schema adds next given).moves
rows_due w s schema adds next (Err refusal) due = tt
rows_due w s schema adds next (Ok rows) due =
    unless_due w s (rows_refusal w schema adds rows) (next (in_key_order schema rows))
    (λ none. due (in_key_order schema rows) (file_rises schema rows (no_repeat w schema adds rows none)))

file_due : (w : World) (s : Session) (schema : Shape) (adds : Bool) (name : List ℕ) (next : List Row → Deed) (file : Option (List ℕ)) → ((rows : List Row) → Rises (key_cmp schema) rows → AreDue w (next rows).moves)
    → AreDue w (with_file w s schema adds name next file).moves
file_due w s schema adds name next None due = tt
file_due w s schema adds name next (Some bytes) due = rows_due w s schema adds next (rows_of schema bytes) due

-- ---- commands

init_due : (w : World) (s : Session) (cvd : List ℕ) (schema : Shape) (file : List ℕ) → AreDue w (init_deed w s cvd schema file).moves
init_due w s cvd schema file =
    unless_due w s (init_refusal w cvd) (from_file w s schema false file (λ rows. does s (Init cvd schema rows) (says.Init cvd (length rows))))
    (λ none. file_due w s schema false file (λ rows. does s (Init cvd schema rows) (says.Init cvd (length rows))) (s.files file)
    (λ rows rise. (init_made cvd schema rows w rise, tt)))

gives_due : (w : World) (s : Session) (d : Dataset) (rows : List Row) (file : Option (List ℕ)) → AreDue w (gives s d.cvd rows file).moves
gives_due w s d rows None = tt
gives_due w s d rows (Some file) = tt

checkout_due : (w : World) (s : Session) (vids : List ℕ) (file : Option (List ℕ)) (name : List ℕ) (found : Option Dataset) → AreDue w (checkout_deed s vids file name found).moves
checkout_due w s vids file name None = tt
checkout_due w s vids file name (Some d) =
    unless_due w s (vids_refusal (length d.cvd.versions) [] vids) (gives s d.cvd (merge_of d.cvd vids) file) (λ none. gives_due w s d (merge_of d.cvd vids) file)

commit_made : (w : World) (d : Dataset) (parents message : List ℕ) (added : List Column) (rows : List Row) → AreNumbered w → IsIn w.sets d → parents ≢ [] → AreThere (length d.cvd.versions) parents
    → Rises (key_cmp (wide added d).cvd.schema) rows → IsDue (Commit d.cvd.number parents message added rows) w
commit_made w d parents message added rows numbers is some there rise = record {
  may = record { parents = all_parents d.cvd.number parents w.sets (only (HasParents parents) w d numbers is (some, there)); rows = all_rise d.cvd.number added rows w.sets (only (λ x. Rises (key_cmp (wide added x).cvd.schema) rows) w d numbers is rise); copy = tt; flip = tt };
  begins = tt;
}

same_ok : (a b : Shape) → (let one : Result Shape SchemaErr = Ok a in one) ≡ Ok b → a ≡ b
same_ok a b e = cc

-- the rows are those of the schema with the added columns
wide_schema_is : (added : List Column) (d : Dataset) (schema : Shape) → schema_with d.cvd.schema added ≡ Ok schema → schema ≡ (wide added d).cvd.schema
wide_schema_is [] d schema e = sym (same_ok d.cvd.schema schema e)
wide_schema_is (column ∷ added) d schema e = sym (ap (accepted_or d.cvd.schema) e)

under_due : (w : World) (s : Session) (d : Dataset) (parents message : List ℕ) (added : List Column) (file : List ℕ) (schema : Result Shape SchemaErr) → schema_with d.cvd.schema added ≡ schema
    → ((rows : List Row) → Rises (key_cmp (wide added d).cvd.schema) rows → IsDue (Commit d.cvd.number parents message added rows) w) → AreDue w (commit_under w s d parents message added file schema).moves
under_due w s d parents message added file (Err refusal) e due = tt
under_due w s d parents message added file (Ok schema) e due =
    file_due w s schema (not (length added == 0)) file (commit_rows s d parents message added) (s.files file)
    (λ rows rise. unless_due w s (records_refusal (wide added d) (fresh_of (wide added d) parents message rows))
    (does s (Commit d.cvd.number parents message added rows)
    (says.Commit d.cvd.name (length d.cvd.versions + 1) (length rows) (fresh_of (wide added d) parents message rows)))
    (λ none. (due rows (subst (λ x. Rises (key_cmp x) rows) (wide_schema_is added d schema e) rise), tt)))

commit_due_in : (w : World) (s : Session) (name parents message : List ℕ) (added : List Column) (file : List ℕ) (d : Dataset) → IsIn w.sets d → AreNumbered w → parents ≢ []
    → AreDue w (commit_deed w s name parents message added file (Some d)).moves
commit_due_in w s name parents message added file d there numbers some =
    let count : ℕ = length d.cvd.versions
    in unless_due w s (commit_refusal d parents) (commit_under w s d parents message added file (schema_with d.cvd.schema added))
    (λ none. under_due w s d parents message added file (schema_with d.cvd.schema added) refl
    (λ rows rise. commit_made w d parents message added rows numbers there some
    (vids_there count [] parents (first_none (vids_refusal count [] parents) (if_so (nat_le 65535 count) (no.TooManyVersions d.cvd.name)) none)) rise))

commit_due : (w : World) (s : Session) (name parents message : List ℕ) (added : List Column) (file : List ℕ) (found : Option Dataset) → set_named w name ≡ found → AreNumbered w → parents ≢ []
    → AreDue w (commit_deed w s name parents message added file found).moves
commit_due w s name parents message added file None e numbers some = tt
commit_due w s name parents message added file (Some d) e numbers some = commit_due_in w s name parents message added file d (named_in w name d e) numbers some

log_due : (w : World) (s : Session) (name : List ℕ) (found : Option Dataset) → AreDue w (log_deed s name found).moves
log_due w s name None = tt
log_due w s name (Some d) = tt

layout_due : (w : World) (s : Session) (name : List ℕ) (found : Option Dataset) → AreDue w (layout_deed s name found).moves
layout_due w s name None = tt
layout_due w s name (Some d) = tt

dropped_due : (w : World) (s : Session) (name : List ℕ) (found : Option Dataset) → AreDue w (drop_deed s name found).moves
dropped_due w s name None = tt
dropped_due w s name (Some d) = (drop_due d.cvd.number w, tt)

no_plan : (plan : Option Plan) → is_some plan ≡ false → plan ≡ None
no_plan None e = refl
no_plan (Some plan) e = cc

not_false : (t : Bool) → not t ≡ false → t ≡ true
not_false true e = refl
not_false false e = cc

optimize_due : (w : World) (s : Session) (name : List ℕ) (p q : ℕ) (found : Option Dataset) → set_named w name ≡ found → AreNumbered w → AreDue w (optimize_deed s name p q found).moves
optimize_due w s name p q None e numbers = tt
optimize_due w s name p q (Some d) e numbers =
    unless_due w s (optimize_refusal d p q) (does s (BeginPlan d.cvd.number p q) (optimized d p q (parts_at d p q)))
    (λ none.
    let first : Option Refusal = if_so (not (is_threshold p q)) no.BadThreshold
    in let second : Option Refusal = if_so (is_some d.plan) (no.Migrating d.cvd.name)
    in let third : Option Refusal = if_so (nat_lt 4294000000 d.next_part) (no.NoNumbers d.cvd.name)
    in let threshold : is_threshold p q ≡ true = not_false (is_threshold p q) (not_so (not (is_threshold p q)) no.BadThreshold (first_none first (option_or second third) none))
    in let idle : d.plan ≡ None = no_plan d.plan (not_so (is_some d.plan) (no.Migrating d.cvd.name) (first_none second third (second_none first (option_or second third) none)))
    in let bounds = both_true (nat_le 1 p) (nat_le p q && nat_le q 1000000) threshold
    in let upper = both_true (nat_le p q) (nat_le q 1000000) bounds.1
    in (
      record {
        may = record { parents = tt; rows = tt; copy = tt; flip = tt };
        begins = ((leb-true 1 p bounds.0, leb-true p q upper.0), all_idle d.cvd.number w.sets (only (λ x. x.plan ≡ None) w d numbers (named_in w name d e) idle));
      },
      tt,
    ))

-- a line's number is one of theirs
in_lines : (n : ℕ) (lines : List BudgetLine) (p : ℕ) (line : BudgetLine) → IsLine n lines p line → (n ≤ p) × (p < n + length lines)
in_lines n [] p line is = absurd is
in_lines n (x ∷ lines) p line (inl is) = (omega (arith, is.0), omega (arith, is.0))
in_lines n (x ∷ lines) p line (inr more) =
    let rest = in_lines (n + 1) lines p line more
    in (omega (arith, rest.0), omega (arith, rest.1))

chosen_bounds : (d : Dataset) (budget : ℕ) (best : ℕ × BudgetLine) → choice budget (table d) ≡ Some best → (1 ≤ best.0) × (best.0 ≤ 100)
chosen_bounds d budget best e =
    let is = in_lines 1 (table d) best.0 best.1 (chosen_is budget (table d) best.0 best.1 e).there
    in let hundred : length (table d) ≡ 100 = refl
    in (is.0, omega (arith, is.1, hundred))

within_by_due : (w : World) (s : Session) (d : Dataset) (budget : ℕ) (found : Option (ℕ × BudgetLine)) → choice budget (table d) ≡ found → AllIdle d.cvd.number w.sets
    → AreDue w (within_by s d budget found).moves
within_by_due w s d budget None e idle = tt
within_by_due w s d budget (Some best) e idle =
    (record { may = record { parents = tt; rows = tt; copy = tt; flip = tt }; begins = (chosen_bounds d budget best e, idle) }, tt)

within_due : (w : World) (s : Session) (name : List ℕ) (budget : ℕ) (found : Option Dataset) → set_named w name ≡ found → AreNumbered w → AreDue w (within_deed s name budget found).moves
within_due w s name budget None e numbers = tt
within_due w s name budget (Some d) e numbers =
    unless_due w s (within_refusal d) (within_by s d budget (choice budget (table d)))
    (λ none.
    let first : Option Refusal = if_so (is_some d.plan) (no.Migrating d.cvd.name)
    in let second : Option Refusal = if_so (nat_lt 4294000000 d.next_part) (no.NoNumbers d.cvd.name)
    in let idle : d.plan ≡ None = no_plan d.plan (not_so (is_some d.plan) (no.Migrating d.cvd.name) (first_none first second none))
    in within_by_due w s d budget (choice budget (table d)) refl
    (all_idle d.cvd.number w.sets (only (λ x. x.plan ≡ None) w d numbers (named_in w name d e) idle)))

advise_due : (w : World) (s : Session) (name : List ℕ) (budget a b : ℕ) (found : Option Dataset) → AreDue w (advise_deed s name budget a b found).moves
advise_due w s name budget a b None = tt
advise_due w s name budget a b (Some d) =
    unless_due w s (if_so (not (is_threshold b a)) no.BadThreshold) (advise_by s d budget a b (choice budget (table d))) (λ none. by (choice budget (table d)))
  where
    by : (found : Option (ℕ × BudgetLine)) → AreDue w (advise_by s d budget a b found).moves
    by None = tt
    by (Some best) = tt

-- ---- a run changes nothing

answered_due : (w : World) (s : Session) (query : Query) (cvd : Cvd) (of : Result (List Kind) Refusal) → AreDue w (answered s query cvd of).moves
answered_due w s query cvd (Err refusal) = tt
answered_due w s query cvd (Ok kinds) = tt

query_due : (w : World) (s : Session) (query : Query) (found : Option Cvd) → AreDue w (query_by s query found).moves
query_due w s query None = tt
query_due w s query (Some cvd) = unless_due w s (query_refusal (length cvd.versions) query) (answered s query cvd (kinds query cvd.schema)) (λ none. answered_due w s query cvd (kinds query cvd.schema))

join_due : (w : World) (s : Session) (join : JoinQuery) (left right : Result Cvd Refusal) → AreDue w (join_over s join left right).moves
join_due w s join (Err refusal) right = tt
join_due w s join (Ok left) (Err refusal) = tt
join_due w s join (Ok left) (Ok right) = by (join_kinds join left.schema right.schema)
  where
    many : (over : Bool) (of : List Kind) → AreDue w (if over then refuses s no.TooManyJoined else told s of (join_answer join left.schema right.schema (joined_rows join left right))).moves
    many true of = tt
    many false of = tt

    by : (of : Result (List Kind) Refusal) → AreDue w (join_by s join left right of).moves
    by (Err refusal) = tt
    by (Ok of) = many (nat_lt 1000000 (length (joined_rows join left right))) of

run_due : (w : World) (s : Session) (asked : Asked) → AreDue w (run_deed w s asked).moves
run_due w s (BadByte at) = tt
run_due w s NoQuery = tt
run_due w s (AsksQuery query) =
    let found : Option Cvd = cvd_in (set_named w (name_read query.source))
    in unless_due w s (permit_names s.user (name_read query.source ∷ [])) (query_by s query found) (λ none. query_due w s query found)
run_due w s (AsksJoin join) =
    unless_due w s (permit_names s.user (join.left.cvd ∷ join.right.cvd ∷ [])) (join_deed w s join) (λ none. join_due w s join (side_of w join.left) (side_of w join.right))

-- ---- steps

empty_if : (rs : ℕ) → (rs == 0) ≡ true → rs ≡ 0
empty_if rs e = eqb-true rs 0 e

none_long : {X : Type 0} (xs : List X) → length xs ≡ 0 → xs ≡ []
none_long [] e = refl
none_long (x ∷ xs) e = absurd (omega (arith, e))

some_left : (n : ℕ) → (n == 0) ≡ false → 0 < n
some_left zero e = absurd (clash (sym (eq-eqb 0 0 refl) ∙ e))
  where
    clash : true ≡ false → ⊥
    clash e = cc
some_left (suc n) e = omega arith

step_made : (t : Bool) (w : World) (d : Dataset) (plan : Plan) → d.plan ≡ Some plan → (t ≡ true → missing d plan ≡ []) → (t ≡ false → 0 < length (missing d plan)) → AreNumbered w → IsIn w.sets d
    → IsDue (if t then Flip d.cvd.number else Copy d.cvd.number) w
step_made true w d plan e nothing_left some numbers is = record {
  may = record { parents = tt; rows = tt; copy = tt; flip = all_have d.cvd.number w.sets (only (λ x. HasAll x x.plan) w d numbers is (subst (HasAll d) (sym e) (nothing_left refl))) };
  begins = tt;
}
step_made false w d plan e nothing_left some numbers is = record {
  may = record { parents = tt; rows = tt; copy = all_lack d.cvd.number w.sets (only (λ x. LacksSome x x.plan) w d numbers is (subst (LacksSome d) (sym e) (some refl))); flip = tt };
  begins = tt;
}

some_move : (a b : Move) → Some a ≡ Some b → a ≡ b
some_move a b e = cc

step_due : (w : World) (sets : List Dataset) (d : Dataset) (plan : Option Plan) (m : Move) → d.plan ≡ plan → AreNumbered w → IsIn w.sets d → (first_step sets ≡ Some m → IsDue m w)
    → step_or d plan (first_step sets) ≡ Some m → IsDue m w
step_due w sets d None m e numbers is later same = later same
step_due w sets d (Some plan) m e numbers is later same =
    subst (λ x. IsDue x w) (some_move (step_of d plan) m same)
    (step_made (length (missing d plan) == 0) w d plan e (λ t. none_long (missing d plan) (empty_if (length (missing d plan)) t))
    (some_left (length (missing d plan))) numbers is)

first_due : (w : World) (sets : List Dataset) (m : Move) → AreNumbered w → ((d : Dataset) → IsIn sets d → IsIn w.sets d) → first_step sets ≡ Some m → IsDue m w
first_due w [] m numbers within e = cc
first_due w (d ∷ sets) m numbers within e =
    step_due w sets d d.plan m refl numbers (within d (inl refl)) (first_due w sets m numbers (λ x is. within x (inr is))) e

next_due : (w : World) (m : Move) → AreNumbered w → next_step w ≡ Some m → IsDue m w
next_due w m numbers e = first_due w w.sets m numbers (λ d is. is) e

and_after_due : (more : World → List Move) (w : World) (next : Option Move) → AreNumbered w → ((m : Move) → next ≡ Some m → IsDue m w) → ((v : World) → AreNumbered v → AreDue v (more v)) → AreDue w (and_after more w next)
and_after_due more w None numbers due later = tt
and_after_due more w (Some m) numbers due later = (due m refl, later (moved m w) (moved_numbered m w numbers))

next_steps_due : (n : ℕ) (w : World) → AreNumbered w → AreDue w (next_steps n w)
next_steps_due zero w numbers = tt
next_steps_due (suc n) w numbers = and_after_due (next_steps n) w (next_step w) numbers (λ m e. next_due w m numbers e) (next_steps_due n)

-- ---- the generator

-- each dataset of a number has so many versions, of the generator's schema
abbrev AllLong : ℕ → ℕ → List Dataset → Type 0
AllLong cvd count [] = Unit {0}
AllLong cvd count (d ∷ sets) = (d.cvd.number ≡ cvd → (length d.cvd.versions ≡ count) × (d.cvd.schema ≡ generated_schema)) × AllLong cvd count sets

pub wide_long : (added : List Column) (d : Dataset) → length (wide added d).cvd.versions ≡ length d.cvd.versions
wide_long [] d = refl
wide_long (column ∷ added) d = length-map d.cvd.versions (wide_version (length (column ∷ added)))

committed_long : (parents message : List ℕ) (added : List Column) (rows : List Row) (d : Dataset) → length (committed parents message added rows d).cvd.versions ≡ length d.cvd.versions + 1
committed_long parents message added rows d = omega (arith, length-append (wide added d).cvd.versions (version_of parents message rows ∷ []), wide_long added d)

long_if : (t : Bool) (f : Dataset → Dataset) (d : Dataset) (cvd count : ℕ) → (t ≡ false → d.cvd.number ≢ cvd) → (f d).cvd.number ≡ d.cvd.number → length (f d).cvd.versions ≡ length d.cvd.versions + 1
    → (f d).cvd.schema ≡ d.cvd.schema → (d.cvd.number ≡ cvd → (length d.cvd.versions ≡ count) × (d.cvd.schema ≡ generated_schema)) → (if t then f d else d).cvd.number ≡ cvd
    → (length (if t then f d else d).cvd.versions ≡ count + 1) × ((if t then f d else d).cvd.schema ≡ generated_schema)
long_if true f d cvd count off same more kept long e = let was = long (sym same ∙ e) in (omega (arith, more, was.0), kept ∙ was.1)
long_if false f d cvd count off same more kept long e = absurd (off refl e)

long_changed : (cvd count : ℕ) (f : Dataset → Dataset) (sets : List Dataset) → ((d : Dataset) → (f d).cvd.number ≡ d.cvd.number) → ((d : Dataset) → length (f d).cvd.versions ≡ length d.cvd.versions + 1)
    → ((d : Dataset) → (f d).cvd.schema ≡ d.cvd.schema) → AllLong cvd count sets → AllLong cvd (count + 1) (change cvd f sets)
long_changed cvd count f [] same more kept long = tt
long_changed cvd count f (d ∷ sets) same more kept long = (
  long_if (numbered cvd d) f d cvd count (λ off e. clash (sym (eq-eqb d.cvd.number cvd e) ∙ off)) (same d) (more d) (kept d) long.0,
  long_changed cvd count f sets same more kept long.1,
)
  where
    clash : true ≡ false → ⊥
    clash e = cc

long_rise : (cvd count : ℕ) (rows : List Row) (sets : List Dataset) → Rises (key_cmp generated_schema) rows → AllLong cvd count sets → AllRiseWith cvd [] rows sets
long_rise cvd count rows [] rise long = tt
long_rise cvd count rows (d ∷ sets) rise long =
    (λ same. subst (λ schema. Rises (key_cmp schema) rows) (sym (long.0 same).1) rise, long_rise cvd count rows sets rise long.1)

long_parents : (cvd count p : ℕ) (sets : List Dataset) → 1 ≤ p → p ≤ count → AllLong cvd count sets → AllHaveParents cvd (p ∷ []) sets
long_parents cvd count p [] from to long = tt
long_parents cvd count p (d ∷ sets) from to long = (
  λ same. (some, ((from, omega (arith, to, (long.0 same).0)), tt)),
  long_parents cvd count p sets from to long.1,
)
  where
    some : (p ∷ []) ≢ []
    some e = cc

parent_there_if : (t : Bool) (before x : ℕ) → 1 ≤ before → (1 ≤ (if t then 1 + (draw before x).is else before)) × ((if t then 1 + (draw before x).is else before) ≤ before)
parent_there_if true before x some =
    let filled : 0 < before = omega (arith, some)
    in let below : (next_state x / 2 ^ 33) % before < before = mod-lt (next_state x / 2 ^ 33) filled
    in (omega arith, omega (arith, below))
parent_there_if false before x some = (some, omega arith)

parent_is : (t : Bool) (before : ℕ) (c : Drawn ℕ) → (if t then (let yes : Drawn ℕ = record { state = (draw before c.state).state; is = 1 + (draw before c.state).is } in yes) else (let no : Drawn ℕ = record { state = c.state; is = before } in no)).is ≡ (if t then 1 + (draw before c.state).is else before)
parent_is true before c = refl
parent_is false before c = refl

parent_there : (before x : ℕ) → 1 ≤ before → (1 ≤ (parent_drawn before x).is) × ((parent_drawn before x).is ≤ before)
parent_there before x some =
    let c : Drawn ℕ = draw 4 x
    in subst (λ n. (1 ≤ n) × (n ≤ before)) (sym (parent_is (c.is == 0) before c)) (parent_there_if (c.is == 0) before c.state some)

-- the rows of each version, with ids that rise up to a bound
abbrev AllUp : ℕ → List (List Row) → Type 0
AllUp bound [] = Unit {0}
AllUp bound (rows ∷ done) = Up 0 bound rows × AllUp bound done

up_at : (bound : ℕ) (done : List (List Row)) (k : ℕ) → AllUp bound done → Up 0 bound (slice_index_or done k [])
up_at bound [] k up = tt
up_at bound (rows ∷ done) zero up = up.0
up_at bound (rows ∷ done) (suc k) up = up_at bound done k up.1

all_up : (bound more : ℕ) (done : List (List Row)) (rows : List Row) → bound ≤ more → AllUp bound done → Up 0 more rows → AllUp more (done ++ rows ∷ [])
all_up bound more [] rows le up next = (next, tt)
all_up bound more (first ∷ done) rows le up next = (up_more 0 bound more first le up.0, all_up bound more done rows le up.1 next)

commits_due : (left number count x : ℕ) (done : List (List Row)) (w : World) → 1 ≤ length done → AllUp (count + length done) done → AllLong number (length done) w.sets → AreDue w (commits left number count x done)
commits_due zero number count x done w some up long = tt
commits_due (suc left) number count x done w some up long =
    let parent : Drawn ℕ = parent_drawn (length done) x
    in let rows : Drawn (List Row) = child_of count (length done + 1) parent.state (slice_index_or done (parent.is - 1) [])
    in let there = parent_there (length done) x some
    in let longer : length (done ++ rows.is ∷ []) ≡ length done + 1 = length-append done (rows.is ∷ [])
    in let ours : Up 0 (count + (length done + 1)) rows.is =
    up_child count (length done + 1) (count + length done) parent.state (slice_index_or done (parent.is - 1) []) (omega arith) (up_at (count + length done) done (parent.is - 1) up)
    in (
      record {
        may = record { parents = long_parents number (length done) parent.is w.sets there.0 there.1 long; rows = long_rise number (length done) rows.is w.sets (up_rises 0 (count + (length done + 1)) rows.is ours) long; copy = tt; flip = tt };
        begins = tt;
      },
      commits_due left number count rows.state (done ++ rows.is ∷ []) (moved (Commit number (parent.is ∷ []) (codes "gen") [] rows.is) w)
          (omega (arith, longer))
          (subst (λ n. AllUp (count + n) (done ++ rows.is ∷ [])) (sym longer) (all_up (count + length done) (count + (length done + 1)) done rows.is (omega arith) up ours))
          (subst (λ n. AllLong number n (change number (committed (parent.is ∷ []) (codes "gen") [] rows.is) w.sets)) (sym longer)
          (long_changed number (length done) (committed (parent.is ∷ []) (codes "gen") [] rows.is) w.sets
          (committed_number (parent.is ∷ []) (codes "gen") [] rows.is) (committed_long (parent.is ∷ []) (codes "gen") [] rows.is) (λ d. refl) long)),
    )

-- a dataset more is alone of its number
long-append : (cvd count : ℕ) (a b : List Dataset) → AllLong cvd count a → AllLong cvd count b → AllLong cvd count (a ++ b)
long-append cvd count [] b long more = more
long-append cvd count (d ∷ a) b long more = (long.0, long-append cvd count a b long.1 more)

long_none : (cvd count : ℕ) (sets : List Dataset) → ((d : Dataset) → IsIn sets d → d.cvd.number ≢ cvd) → AllLong cvd count sets
long_none cvd count [] other = tt
long_none cvd count (d ∷ sets) other = (λ same. absurd (other d (inl refl) same), long_none cvd count sets (λ e is. other e (inr is)))

generated_due : (w : World) (name : List ℕ) (seed count versions : ℕ) → AreNumbered w → AreDue w (generated w.next name seed count versions)
generated_due w name seed count versions numbers =
    let first : Drawn (List Row) = fresh_rows count 1 seed
    in let set : Dataset = new_set w.next name generated_schema first.is
    in let ours : Up 0 (count + 1) first.is = up_fresh count 1 seed 0 (count + 1) (omega arith) (omega arith)
    in (
      init_made name generated_schema first.is w (up_rises 0 (count + 1) first.is ours),
      commits_due (versions - 1) w.next count first.state (first.is ∷ []) (moved (Init name generated_schema first.is) w) (omega arith) (ours, tt)
          (long-append w.next 1 w.sets (set ∷ [])
          (long_none w.next 1 w.sets (λ d is same. omega (arith, some_number w.sets d is, ap (number_times w.sets) same, numbers.below w.next (omega arith))))
          (λ same. (refl, refl), tt)),
    )

-- ---- the registry

begun_in : (sets : List Dataset) (d : Dataset) → AllBegun sets → IsIn sets d → 0 < length d.cvd.versions
begun_in [] d are is = absurd is
begun_in (x ∷ sets) d are (inl same) = subst (λ y. 0 < length y.cvd.versions) (sym same) are.0
begun_in (x ∷ sets) d are (inr later) = begun_in sets d are.1 later

some_one : (vid : ℕ) → (vid ∷ []) ≢ []
some_one vid e = cc

change_due : (w : World) (name : List ℕ) (schema : Shape) (rows : List Row) (found : Option Dataset) → set_named w name ≡ found → IsBegun w → is_foreign schema found ≡ false
    → IsDue (change_of name schema (version_rows schema rows) found) w
change_due w name schema rows None e begun known = init_made name schema (version_rows schema rows) w (merged_rises schema (rows ∷ []))
change_due w name schema rows (Some d) e begun known =
    let there : IsIn w.sets d = named_in w name d e
    in commit_made w d (last_alone d) (codes "stage") [] (version_rows schema rows) begun.numbered there (some_one (length d.cvd.versions))
    ((begun_in w.sets d begun.begun there, omega arith), tt)
    (subst (λ x. Rises (key_cmp x) (version_rows schema rows)) (sym ((foreign-is schema d).0 known)) (merged_rises schema (rows ∷ [])))

changes_due : (w : World) (s t : Session) (name : List ℕ) (schema : Shape) (rows : List Row) (reply : Reply) (found : Option Dataset) → set_named w name ≡ found → IsBegun w → is_foreign schema found ≡ false
    → AreDue w (changes w s t name schema rows reply found).moves
changes_due w s t name schema rows reply found e begun known =
    unless_due w s (change_refusal w name (version_rows schema rows) found) (does t (change_of name schema (version_rows schema rows) found) reply)
    (λ none. (change_due w name schema rows found e begun known, tt))

create_due : (w : World) (s : Session) (name : List ℕ) → IsBegun w → AreDue w (create_user_deed w s name (set_named w users_name)).moves
create_due w s name begun =
    let users : Option Dataset = set_named w users_name
    in let foreign : Option Refusal = if_so (is_foreign users_schema users) no.ForeignRegistry
    in let known : Option Refusal = if_so (is_user (last_rows users) name) (no.UserExists name)
    in unless_due w s (create_refusal name users) (changes w s s users_name users_schema (with_row (last_rows users) (user_row name)) (says.User name) users)
    (λ none. changes_due w s s users_name users_schema (with_row (last_rows users) (user_row name)) (says.User name) users refl begun
    (not_so (is_foreign users_schema users) no.ForeignRegistry
    (first_none foreign known (second_none (if_so (not (is_name name)) (no.BadName name)) (option_or foreign known) none))))

config_due : (w : World) (s : Session) (name : List ℕ) (users : Option Dataset) → AreDue w (config_deed s name users).moves
config_due w s name users = unless_due w s (config_refusal name users) (tells (record s { user = name }) (says.User name)) (λ none. tt)

stage_of_due : (w : World) (s : Session) (cvd table vids : List ℕ) (found : Option Dataset) → IsBegun w → is_foreign stage_schema (set_named w stage_name) ≡ false
    → AreDue w (stage_of w s cvd table vids (set_named w stage_name) found).moves
stage_of_due w s cvd table vids None begun known = tt
stage_of_due w s cvd table vids (Some d) begun known =
    let stage : Option Dataset = set_named w stage_name
    in let row : Row = table_row s.user table d.cvd.name d.cvd.number vids
    in let reply : Reply = says.ToFile d.cvd.name (length (merge_of d.cvd vids)) (file_of_table s.user table)
    in unless_due w s (staged_refusal s table vids d stage) (staged w s table vids d stage)
    (λ none. changes_due w s (with_staged s table vids d) stage_name stage_schema (with_row (last_rows stage) row) reply stage refl begun known)

stage_due : (w : World) (s : Session) (cvd table vids : List ℕ) → IsBegun w → AreDue w (stage_deed w s cvd table vids (set_named w stage_name) (set_named w cvd)).moves
stage_due w s cvd table vids begun =
    let stage : Option Dataset = set_named w stage_name
    in let foreign : Option Refusal = if_so (is_foreign stage_schema stage) no.ForeignRegistry
    in let listed : Option Refusal = if_so (nat_lt 1000 (length vids)) no.TooManyListed
    in unless_due w s (stage_refusal table vids stage) (stage_of w s cvd table vids stage (set_named w cvd))
    (λ none. stage_of_due w s cvd table vids (set_named w cvd) begun
    (not_so (is_foreign stage_schema stage) no.ForeignRegistry
    (first_none foreign listed (second_none (if_so (not (is_name table)) (no.BadName table)) (option_or foreign listed) none))))

unstage_due : (w : World) (s : Session) (user table : List ℕ) → IsBegun w → AreDue w (unstage_deed w s user table (set_named w stage_name)).moves
unstage_due w s user table begun =
    let stage : Option Dataset = set_named w stage_name
    in let foreign : Option Refusal = if_so (is_foreign stage_schema stage) no.ForeignRegistry
    in let absent : Option Refusal = if_so (not (is_some (table_in (last_rows stage) user table))) (no.NoTable (table_named user table))
    in unless_due w s (unstage_refusal user table stage) (changes w s s stage_name stage_schema (without_row (last_rows stage) user table) (says.Unstaged user table) stage)
    (λ none. changes_due w s s stage_name stage_schema (without_row (last_rows stage) user table) (says.Unstaged user table) stage refl begun
    (not_so (is_foreign stage_schema stage) no.ForeignRegistry (first_none foreign absent none)))

-- the dataset of a staged table is there, and a version is listed
abbrev IsFrom : World → Option (Dataset × List ℕ) → Type 0
IsFrom w None = Unit {0}
IsFrom w (Some from) = IsIn w.sets from.0 × (from.1 ≢ [])

set_if : (t : Bool) (w : World) (name : List ℕ) (d : Dataset) → (if t then None else set_named w name) ≡ Some d → IsIn w.sets d
set_if true w name d e = absurd cc
set_if false w name d e = named_in w name d e

made_if : (t : Bool) (d e : Dataset) → (if t then Some d else None) ≡ Some e → d ≡ e
made_if true d e is = some_same d e is
  where
    some_same : (a b : Dataset) → Some a ≡ Some b → a ≡ b
    some_same a b e = cc
made_if false d e is = absurd cc

made_in : (w : World) (made : Value) (found : Option Dataset) (d : Dataset) → ((x : Dataset) → found ≡ Some x → IsIn w.sets x) → option_and_then (made_as made) found ≡ Some d → IsIn w.sets d
made_in w made None d there e = absurd cc
made_in w made (Some x) d there e = subst (IsIn w.sets) (made_if (is_number made x.cvd.number) x d e) (there x refl)

name_in : (w : World) (name : Option (List ℕ)) (d : Dataset) → option_and_then (unreserved w) name ≡ Some d → IsIn w.sets d
name_in w None d e = absurd cc
name_in w (Some name) d e = set_if (is_reserved name) w name d e

listed_some : (text : Option (List ℕ)) (vids : List ℕ) → option_and_then vids_of text ≡ Some vids → vids ≢ []
listed_some None vids e = absurd cc
listed_some (Some text) vids e = vids_some text vids e

both_from : (w : World) (found : Option Dataset) (vids : Option (List ℕ)) → ((d : Dataset) → found ≡ Some d → IsIn w.sets d) → ((l : List ℕ) → vids ≡ Some l → l ≢ []) → IsFrom w (both found vids)
both_from w None vids there some = tt
both_from w (Some d) None there some = tt
both_from w (Some d) (Some l) there some = (there d refl, some l refl)

from_is : (w : World) (row : Option Row) → IsFrom w (staged_by w row)
from_is w None = tt
from_is w (Some row) =
    both_from w (set_staged w row) (vids_staged row)
    (λ d e. made_in w (value_at row 3) (option_and_then (unreserved w) (as_text (value_at row 2))) d (λ x is. name_in w (as_text (value_at row 2)) x is) e)
    (λ l e. listed_some (as_text (value_at row 4)) l e)

from_due : (w : World) (s : Session) (user table message : List ℕ) (from : Option (Dataset × List ℕ)) → AreNumbered w → IsFrom w from → AreDue w (commit_from w s user table message from).moves
from_due w s user table message None numbers is = tt
from_due w s user table message (Some from) numbers is =
    commit_due_in w s from.0.cvd.name from.1 message [] (file_of_table user table) from.0 is.0 numbers is.1

commit_staged_due : (w : World) (s : Session) (user table message : List ℕ) (stage : Option Dataset) → AreNumbered w → AreDue w (commit_staged_deed w s user table message stage).moves
commit_staged_due w s user table message stage numbers =
    unless_due w s (if_so (is_foreign stage_schema stage) no.ForeignRegistry) (commit_from w s user table message (staged_by w (table_in (last_rows stage) user table)))
    (λ none. from_due w s user table message (staged_by w (table_in (last_rows stage) user table)) numbers (from_is w (table_in (last_rows stage) user table)))

tables_due : (w : World) (s : Session) (stage : Option Dataset) → AreDue w (tables_deed s stage).moves
tables_due w s stage =
    unless_due w s (if_so (is_foreign stage_schema stage) no.ForeignRegistry)
    (tells s (says.Tables (map table_shown (filter (is_own s.user) (last_rows stage))))) (λ none. tt)

-- ---- a command

permitted_due : (w : World) (s : Session) (command : Command) → IsBegun w → NamesVersions command → AreDue w (permitted w s command).moves
permitted_due w s (asks.Init cvd schema file) begun has = init_due w s cvd schema file
permitted_due w s (asks.Checkout cvd vids file None) begun has = checkout_due w s vids file cvd (set_named w cvd)
permitted_due w s (asks.Checkout cvd vids file (Some table)) begun has = stage_due w s cvd table vids begun
permitted_due w s (asks.Commit cvd vids file message added) begun has = commit_due w s cvd vids message (columns_of added) file (set_named w cvd) refl begun.numbered has
permitted_due w s (asks.CommitStaged user table message) begun has = commit_staged_due w s user table message (set_named w stage_name) begun.numbered
permitted_due w s (asks.Run text) begun has = run_due w s (asked_of text)
permitted_due w s (asks.Optimize cvd p q) begun has = optimize_due w s cvd p q (set_named w cvd) refl begun.numbered
permitted_due w s (asks.OptimizeWithin cvd budget) begun has = within_due w s cvd budget (set_named w cvd) refl begun.numbered
permitted_due w s (asks.Advise cvd budget a b) begun has = advise_due w s cvd budget a b (set_named w cvd)
permitted_due w s (asks.Migrate count) begun has = next_steps_due count w begun.numbered
permitted_due w s (asks.Layout cvd) begun has = layout_due w s cvd (set_named w cvd)
permitted_due w s (asks.Log cvd) begun has = log_due w s cvd (set_named w cvd)
permitted_due w s asks.Ls begun has = tt
permitted_due w s (asks.DropCvd cvd) begun has = dropped_due w s cvd (set_named w cvd)
permitted_due w s asks.Checkpoint begun has = (checkpoint_due w, tt)
permitted_due w s (asks.Generate cvd seed rows versions) begun has =
    unless_due w s (init_refusal w cvd) (generate_by w s cvd (generated w.next cvd seed rows versions)) (λ none. generated_due w cvd seed rows versions begun.numbered)
permitted_due w s (asks.CreateUser name) begun has = create_due w s name begun
permitted_due w s (asks.Config name) begun has = config_due w s name (set_named w users_name)
permitted_due w s asks.Whoami begun has = tt
permitted_due w s (asks.Unstage user table) begun has = unstage_due w s user table begun
permitted_due w s asks.Tables begun has = tables_due w s (set_named w stage_name)

pub deed_due : (w : World) (s : Session) (command : Command) → IsBegun w → NamesVersions command → AreDue w (deed w s command).moves
deed_due w s command begun has = unless_due w s (permit s.user command) (permitted w s command) (λ none. permitted_due w s command begun has)

-- ---- what is served

move_begun : (m : Move) (w : World) → IsBegun w → IsBegun (moved m w)
move_begun m w begun = record { numbered = moved_numbered m w begun.numbered; begun = begun_moved w m begun.begun }

-- its moves are due, and it leaves what follows of them
abbrev IsServed : World → Served → Type 0
IsServed w s = AllDue w s.items × (s.world ≡ world_after w s.items)

due_append : (w : World) (a b : List Item) → AllDue w a → AllDue (world_after w a) b → AllDue w (a ++ b)
due_append w [] b due more = more
due_append w (Makes m ∷ a) b due more = (due.0, due_append (moved m w) a b due.1 more)
due_append w (Says reply ∷ a) b due more = due_append w a b due more

begun_after : (w : World) (items : List Item) → IsBegun w → IsBegun (world_after w items)
begun_after w [] begun = begun
begun_after w (Makes m ∷ items) begun = begun_after (moved m w) items (move_begun m w begun)
begun_after w (Says reply ∷ items) begun = begun_after w items begun

attempt_due : (room : Room) (taken : Option (ℕ × ℕ)) (w : World) (s : Session) (space : Space) (more : Served) → IsServed w more → IsServed w (attempt room taken w s space more)
attempt_due Enough taken w s space more due = due
attempt_due (NoRun pages) taken w s space more due = (tt, refl)
attempt_due Full taken w s space more due = (tt, refl)

attempts_due : (d : Deed) (s : Session) (taken : ℕ) (ms : List Move) (w : World) (space : Space) → AreDue w ms → IsServed w (attempts d s taken ms w space)
attempts_due d s taken [] w space due = (tt, refl)
attempts_due d s taken (m ∷ ms) w space due =
    let more = attempts_due d s (taken + 1) ms (moved m w) (rest space) due.1
    in attempt_due (first space) (steps_then d.counts_steps taken w) w s (rest space) (after (Makes m ∷ []) (attempts d s (taken + 1) ms (moved m w) (rest space)))
    ((due.0, more.0), more.1)

try_due : (room : Room) (w : World) (s : Session) (space : Space) (more : Served) → IsServed w more → IsServed w (try_step room w s space more)
try_due Enough w s space more due = due
try_due (NoRun pages) w s space more due = (tt, refl)
try_due Full w s space more due = (tt, refl)

step_by_due : (more : World → Space → Served) (w : World) (s : Session) (space : Space) (next : Option Move) → ((m : Move) → next ≡ Some m → IsDue m w) → IsBegun w
    → ((v : World) (left : Space) → IsBegun v → IsServed v (more v left)) → IsServed w (step_by more w s space next)
step_by_due more w s space None due begun later = (tt, refl)
step_by_due more w s space (Some m) due begun later =
    let behind = later (moved m w) (rest space) (move_begun m w begun)
    in try_due (first space) w s (rest space) (after (Makes m ∷ []) (more (moved m w) (rest space))) ((due m refl, behind.0), behind.1)

steps_due : (n : ℕ) (s : Session) (w : World) (space : Space) → IsBegun w → IsServed w (steps n s w space)
steps_due zero s w space begun = (tt, refl)
steps_due (suc n) s w space begun = step_by_due (steps n s) w s space (next_step w) (λ m e. next_due w m begun.numbered e) begun (λ v left. steps_due n s v left)

-- one after another
both_due : (w : World) (a b : Served) → IsBegun w → IsServed w a → (IsBegun a.world → IsServed a.world b) → IsServed w (after a.items b)
both_due w a b begun one more =
    let later = more (subst IsBegun (sym one.1) (begun_after w a.items begun))
    in (
      due_append w a.items b.items one.0 (subst (λ v. AllDue v b.items) one.1 later.0),
      later.1 ∙ ap (λ v. world_after v b.items) one.1 ∙ sym (world_append w a.items b.items),
    )

then_due : (n : ℕ) (w : World) (a : Served) → IsBegun w → IsServed w a → IsServed w (and_steps n a)
then_due n w a begun due = both_due w a (steps n a.session a.world a.left) begun due (steps_due n a.session a.world a.left)

line_due : (n : ℕ) (w : World) (s : Session) (space : Space) (line : Line) → LineNames line → IsBegun w → IsServed w (line_served n w s space line)
line_due n w s space Comment names begun = (tt, refl)
line_due n w s space (Asks command) names begun =
    then_due n w (attempts (deed w s command) s 0 (deed w s command).moves w space) begun
    (attempts_due (deed w s command) s 0 (deed w s command).moves w space (deed_due w s command begun names))
line_due n w s space (Refused refusal) names begun = then_due n w (replied (says.Refused refusal) w s space) begun (tt, refl)

course_served : (forms : List Form) (n : ℕ) (w : World) (s : Session) (lines : List (List ℕ)) (space : Space) → AllNameVersions forms lines → IsBegun w → IsServed w (course forms n w s lines space)
course_served forms n w s [] space has begun = (tt, refl)
course_served forms n w s (line ∷ lines) space has begun =
    let one = served forms n w s line space
    in both_due w one (course forms n one.world one.session lines one.left) begun
    (line_due n w s space (line_of forms line) has.0 begun)
    (course_served forms n one.world one.session lines one.left has.1)

pub course_due : (forms : List Form) (n : ℕ) (w : World) (s : Session) (lines : List (List ℕ)) (space : Space) → AllNameVersions forms lines → IsBegun w → AllDue w (course forms n w s lines space).items
course_due forms n w s lines space has begun = (course_served forms n w s lines space has begun).0

-- ---- what every move keeps holds in every World

pub due_at : (P : World → Type 0) → ((m : Move) (w : World) → IsDue m w → P w → P (moved m w)) → (w : World) (items : List Item) (k : ℕ) → AllDue w items → P w → P (world_at w items k)
due_at P kept w items zero due holds = holds
due_at P kept w [] (suc k) due holds = holds
due_at P kept w (Makes m ∷ items) (suc k) due holds = due_at P kept (moved m w) items k due.1 (kept m w due.0 holds)
due_at P kept w (Says reply ∷ items) (suc k) due holds = due_at P kept w items (suc k) due holds

pub partitions_kept : (m : Move) (w : World) → IsDue m w → HasPartitions w → HasPartitions (moved m w)
partitions_kept m w due has = record {
  begun = move_begun m w has.begun;
  placed = moved_placed m w due.may.parents has.placed;
  held = moved_held m w due.may.flip has.placed has.held;
}

pub partitions_at : (forms : List Form) (n : ℕ) (w : World) (s : Session) (lines : List (List ℕ)) (space : Space) → AllNameVersions forms lines → HasPartitions w → (k : ℕ)
    → HasPartitions (world_at w (course forms n w s lines space).items k)
partitions_at forms n w s lines space names has k =
    due_at HasPartitions partitions_kept w (course forms n w s lines space).items k (course_due forms n w s lines space names has.begun) has
