-- Commands that stage nothing and take nothing off leave the dataset of the staged tables as it is.
use Rattle.std.proofs.Common.{◌≡◌, ℕ, zero, suc, ◌==◌, Bool, true, false, List, [], ◌∷◌, filter, map, if◌then◌else◌, refl, sym, ◌∙◌, ap}
use Rattle.std.specs.Prelude.{◌&&◌, ◌||◌, not, nat_lt, length, Option, Some, None, Result, Ok, Err}
use Rattle.std.specs.Option.{option_and_then}
use Rattle.std.specs.Str.{bytes_eq}
use Rattle.std.proofs.lemmas.Slice.Eq.{bytes_eq-Decides}
use Rattle.ov_value.specs.declared.column.Column.{Column}
use Rattle.ov_value.specs.declared.column.Kind.{Kind}
use Rattle.ov_value.specs.declared.schema_err.SchemaErr.{SchemaErr}
use Rattle.ov_value.specs.declared.value.Value.{Value}
use Rattle.ov_value.specs.Rows.{value_at}
use Rattle.ov_value.specs.Shapes.{Shape}
use Rattle.ov_model.specs.Act.{Session, Deed, checkout_deed, commit_deed, commit_refusal, commit_rows, commit_under, columns_of, does, drop_deed, gives, if_so, tells, init_deed, init_refusal, layout_deed, log_deed, merge_of, optimize_deed, optimize_refusal, rows_refusal, schema_with, unless, vids_refusal, with_file, with_rows}
use Rattle.ov_model.specs.Asking.{answered, name_read, query_by, query_refusal, run_deed}
use Rattle.ov_model.specs.Book.{Row, Cvd}
use Rattle.ov_model.specs.Budget.{advise_by, advise_deed, choice, table, within_by, within_deed, within_refusal}
use Rattle.ov_model.specs.Csv.{rows_of}
use Rattle.ov_model.specs.Deed.{commit_from, config_refusal, create_refusal, deed, file_of_table, is_own, permitted, staged_by, table_shown}
use Rattle.ov_model.specs.Generator.{commits}
use Rattle.ov_model.specs.Joins.{join_by, join_kinds, join_over, joined_rows, side_of}
use Rattle.ov_model.specs.Kinds.{kinds}
use Rattle.ov_model.specs.Merge.{in_key_order}
use Rattle.ov_model.specs.Moves.{Move, Init, Commit, Copy, Flip}
use Rattle.ov_model.specs.Plans.{missing}
use Rattle.ov_model.specs.QueryTexts.{Asked, BadByte, NoQuery, AsksQuery, AsksJoin, asked_of}
use Rattle.ov_model.specs.Registry.{as_text, both, change_of, is_foreign, is_number, last_rows, made_as, set_staged, stage_name, stage_schema, staged_of, table_in, unreserved, user_row, users_name, users_schema, version_rows, vids_staged, with_row}
use Rattle.ov_model.specs.Steps.{and_after, first_step, next_step, next_steps, step_or}
use Rattle.ov_model.specs.Users.{is_admin, is_reserved, permit, permit_names}
use Rattle.ov_model.specs.World.{Plan, Dataset, World, cvd_in, set_named}
use Rattle.ov_model.specs.declared.command.Command.{Command}
use Rattle.ov_model.specs.declared.command.Command.TheVariants as asks
use Rattle.ov_model.specs.declared.query.JoinQuery.{JoinQuery}
use Rattle.ov_model.specs.declared.query.Query.{Query}
use Rattle.ov_model.specs.declared.refusal.Refusal.{Refusal}
use Rattle.ov_model.specs.declared.refusal.Refusal.TheVariants as no
use Rattle.ov_model.specs.declared.reply.BudgetLine.{BudgetLine}
use Rattle.ov_model.specs.declared.reply.Reply.{Reply}
use Rattle.ov_model.specs.declared.reply.Reply.TheVariants as says
use Rattle.ov_model.proofs.Ruling.{silent-permits}
use Rattle.law_users.proofs.Sparing.{AllSpare, IsOther, Spares, next_is_other, other_named, stage_of}
use Rattle.law_users.specs.Owners.{AreApart, HaveNumbersBelow, IsStaging}

-- ---- names

a_false : true ≡ false → ⊥
a_false e = cc

-- a dataset that isn't the store's own isn't that of the staged tables
unreserved_other : (name : List ℕ) → is_reserved name ≡ false → bytes_eq name stage_name ≡ false
unreserved_other name isnt = by (bytes_eq name stage_name) refl
  where
    by : (t : Bool) → bytes_eq name stage_name ≡ t → t ≡ false
    by false e = refl
    by true e =
        let same : name ≡ stage_name = (bytes_eq-Decides name stage_name).0 e
        in absurd (a_false (ap is_reserved (sym same) ∙ isnt))

for_nobody : (a b : Bool) → (a && (b || true)) ≡ false → a ≡ false
for_nobody false b e = refl
for_nobody true false e = e
for_nobody true true e = e

-- ---- deeds

module _ (w : World) (s : Session) (apart : AreApart w.sets) (below : HaveNumbersBelow w.next w.sets) where
  abbrev Quiet : Deed → Type 0
  Quiet d = AllSpare d.moves (stage_of w)

  quiet_unless : (refusal : Option Refusal) (d : Deed) → (refusal ≡ None → Quiet d) → Quiet (unless s refusal d)
  quiet_unless None d more = more refl
  quiet_unless (Some refusal) d more = tt

  does_quiet : (refusal : Option Refusal) (m : Move) (reply : Reply) → Spares m (stage_of w) → Quiet (unless s refusal (does s m reply))
  does_quiet refusal m reply spares = quiet_unless refusal (does s m reply) (λ e. (spares, tt))

  rows_quiet : (schema : Shape) (adds : Bool) (next : List Row → Deed) (rows : Result (List Row) Refusal) → ((rows : List Row) → Quiet (next rows))
      → Quiet (with_rows w s schema adds next rows)
  rows_quiet schema adds next (Err refusal) more = tt
  rows_quiet schema adds next (Ok rows) more = quiet_unless (rows_refusal w schema adds rows) (next (in_key_order schema rows)) (λ e. more (in_key_order schema rows))

  bytes_quiet : (schema : Shape) (adds : Bool) (name : List ℕ) (next : List Row → Deed) (bytes : Option (List ℕ)) → ((rows : List Row) → Quiet (next rows))
      → Quiet (with_file w s schema adds name next bytes)
  bytes_quiet schema adds name next None more = tt
  bytes_quiet schema adds name next (Some bytes) more = rows_quiet schema adds next (rows_of schema bytes) more

  init_quiet : (cvd : List ℕ) (schema : Shape) (file : List ℕ) → bytes_eq cvd stage_name ≡ false → Quiet (init_deed w s cvd schema file)
  init_quiet cvd schema file isnt =
      quiet_unless (init_refusal w cvd) _
      (λ e. bytes_quiet schema false file (λ rows. does s (Init cvd schema rows) (says.Init cvd (length rows))) (s.files file) (λ rows. (isnt, tt)))

  under_quiet : (d : Dataset) (parents message : List ℕ) (added : List Column) (file : List ℕ) (schema : Result Shape SchemaErr) → IsOther d.cvd.number (stage_of w)
      → Quiet (commit_under w s d parents message added file schema)
  under_quiet d parents message added file (Err why) other = tt
  under_quiet d parents message added file (Ok schema) other =
      bytes_quiet schema _ file (commit_rows s d parents message added) (s.files file) (λ rows. does_quiet _ (Commit d.cvd.number parents message added rows) _ other)

  commit_quiet : (name parents message : List ℕ) (added : List Column) (file : List ℕ) (d : Dataset) → IsOther d.cvd.number (stage_of w)
      → Quiet (commit_deed w s name parents message added file (Some d))
  commit_quiet name parents message added file d other =
      quiet_unless (commit_refusal d parents) _ (λ e. under_quiet d parents message added file (schema_with d.cvd.schema added) other)

  found_quiet : (name parents message : List ℕ) (added : List Column) (file : List ℕ) (o : Option Dataset) → set_named w name ≡ o → bytes_eq name stage_name ≡ false
      → Quiet (commit_deed w s name parents message added file o)
  found_quiet name parents message added file None found isnt = tt
  found_quiet name parents message added file (Some d) found isnt = commit_quiet name parents message added file d (other_named w name d apart found isnt)

  drop_quiet : (name : List ℕ) (o : Option Dataset) → set_named w name ≡ o → bytes_eq name stage_name ≡ false → Quiet (drop_deed s name o)
  drop_quiet name None found isnt = tt
  drop_quiet name (Some d) found isnt = (other_named w name d apart found isnt, tt)

  -- ---- of a staged table

  both_first : {X Y : Type 0} (a : Option X) (b : Option Y) (x : X × Y) → both a b ≡ Some x → a ≡ Some x.0
  both_first None b x e = absurd cc
  both_first (Some a) None x e = absurd cc
  both_first (Some a) (Some b) x e = let same : (a, b) ≡ x = cc in ap (λ (p : _ × _). Some p.0) same

  made_first : (made : Value) (o : Option Dataset) (d : Dataset) → option_and_then (made_as made) o ≡ Some d → o ≡ Some d
  made_first made None d e = absurd cc
  made_first made (Some x) d e = by (is_number made x.cvd.number) e
    where
      by : (t : Bool) → (if t then Some x else None) ≡ Some d → Some x ≡ Some d
      by true e = e
      by false e = absurd cc

  named_other : (name : List ℕ) (t : Bool) (d : Dataset) → is_reserved name ≡ t → (if t then None else set_named w name) ≡ Some d → IsOther d.cvd.number (stage_of w)
  named_other name true d is e = absurd cc
  named_other name false d is e = other_named w name d apart e (unreserved_other name is)

  text_other : (text : Option (List ℕ)) (d : Dataset) → option_and_then (unreserved w) text ≡ Some d → IsOther d.cvd.number (stage_of w)
  text_other None d e = absurd cc
  text_other (Some name) d e = named_other name (is_reserved name) d refl e

  staged_other : (row : Row) (from : Dataset × List ℕ) → staged_of w row ≡ Some from → IsOther from.0.cvd.number (stage_of w)
  staged_other row from e =
      text_other (as_text (value_at row 2)) from.0
      (made_first (value_at row 3) (option_and_then (unreserved w) (as_text (value_at row 2))) from.0 (both_first (set_staged w row) (vids_staged row) from e))

  from_quiet : (owner table message : List ℕ) (row : Row) (from : Option (Dataset × List ℕ)) → staged_of w row ≡ from → Quiet (commit_from w s owner table message from)
  from_quiet owner table message row None e = tt
  from_quiet owner table message row (Some from) e =
      commit_quiet from.0.cvd.name from.1 message [] (file_of_table owner table) from.0 (staged_other row from e)

  row_quiet : (owner table message : List ℕ) (row : Option Row) → Quiet (commit_from w s owner table message (staged_by w row))
  row_quiet owner table message None = tt
  row_quiet owner table message (Some row) = from_quiet owner table message row (staged_of w row) refl

  -- ---- the others

  given_quiet : (cvd : Cvd) (rows : List Row) (file : Option (List ℕ)) → Quiet (gives s cvd rows file)
  given_quiet cvd rows None = tt
  given_quiet cvd rows (Some file) = tt

  checkout_quiet : (vids : List ℕ) (file : Option (List ℕ)) (name : List ℕ) (o : Option Dataset) → Quiet (checkout_deed s vids file name o)
  checkout_quiet vids file name None = tt
  checkout_quiet vids file name (Some d) = quiet_unless (vids_refusal (length d.cvd.versions) [] vids) _ (λ e. given_quiet d.cvd (merge_of d.cvd vids) file)

  answer_quiet : (query : Query) (cvd : Cvd) (of : Result (List Kind) Refusal) → Quiet (answered s query cvd of)
  answer_quiet query cvd (Err refusal) = tt
  answer_quiet query cvd (Ok of) = tt

  query_quiet : (query : Query) (o : Option Cvd) → Quiet (query_by s query o)
  query_quiet query None = tt
  query_quiet query (Some cvd) = quiet_unless (query_refusal (length cvd.versions) query) _ (λ e. answer_quiet query cvd (kinds query cvd.schema))

  pairs_quiet : (t : Bool) (a b : Deed) → Quiet a → Quiet b → Quiet (if t then a else b)
  pairs_quiet true a b one other = one
  pairs_quiet false a b one other = other

  kinds_quiet : (join : JoinQuery) (left right : Cvd) (of : Result (List Kind) Refusal) → Quiet (join_by s join left right of)
  kinds_quiet join left right (Err refusal) = tt
  kinds_quiet join left right (Ok of) = pairs_quiet (nat_lt 1000000 (length (joined_rows join left right))) _ _ tt tt

  sides_quiet : (join : JoinQuery) (left right : Result Cvd Refusal) → Quiet (join_over s join left right)
  sides_quiet join (Err refusal) right = tt
  sides_quiet join (Ok left) (Err refusal) = tt
  sides_quiet join (Ok left) (Ok right) = kinds_quiet join left right (join_kinds join left.schema right.schema)

  run_quiet : (asked : Asked) → Quiet (run_deed w s asked)
  run_quiet (BadByte at) = tt
  run_quiet NoQuery = tt
  run_quiet (AsksQuery query) =
      quiet_unless (permit_names s.user (name_read query.source ∷ [])) _ (λ e. query_quiet query (cvd_in (set_named w (name_read query.source))))
  run_quiet (AsksJoin join) =
      quiet_unless (permit_names s.user (join.left.cvd ∷ join.right.cvd ∷ [])) _ (λ e. sides_quiet join (side_of w join.left) (side_of w join.right))

  optimize_quiet : (name : List ℕ) (p q : ℕ) (o : Option Dataset) → Quiet (optimize_deed s name p q o)
  optimize_quiet name p q None = tt
  optimize_quiet name p q (Some d) = quiet_unless (optimize_refusal d p q) _ (λ e. (tt, tt))

  choice_quiet : (d : Dataset) (budget : ℕ) (best : Option (ℕ × BudgetLine)) → Quiet (within_by s d budget best)
  choice_quiet d budget None = tt
  choice_quiet d budget (Some best) = (tt, tt)

  within_quiet : (name : List ℕ) (budget : ℕ) (o : Option Dataset) → Quiet (within_deed s name budget o)
  within_quiet name budget None = tt
  within_quiet name budget (Some d) = quiet_unless (within_refusal d) _ (λ e. choice_quiet d budget (choice budget (table d)))

  best_quiet : (d : Dataset) (budget a b : ℕ) (best : Option (ℕ × BudgetLine)) → Quiet (advise_by s d budget a b best)
  best_quiet d budget a b None = tt
  best_quiet d budget a b (Some best) = tt

  advise_quiet : (name : List ℕ) (budget a b : ℕ) (o : Option Dataset) → Quiet (advise_deed s name budget a b o)
  advise_quiet name budget a b None = tt
  advise_quiet name budget a b (Some d) = quiet_unless _ _ (λ e. best_quiet d budget a b (choice budget (table d)))

  layout_quiet : (name : List ℕ) (o : Option Dataset) → Quiet (layout_deed s name o)
  layout_quiet name None = tt
  layout_quiet name (Some d) = tt

  log_quiet : (name : List ℕ) (o : Option Dataset) → Quiet (log_deed s name o)
  log_quiet name None = tt
  log_quiet name (Some d) = tt

  -- a copy or a flip
  abbrev MaySpare : Option Move → Type 0
  MaySpare None = Unit {0}
  MaySpare (Some m) = Spares m (stage_of w)

  step_if : (t : Bool) (a b : Move) → Spares a (stage_of w) → Spares b (stage_of w) → Spares (if t then a else b) (stage_of w)
  step_if true a b one other = one
  step_if false a b one other = other

  step_by : (d : Dataset) (plan : Option Plan) (later : Option Move) → MaySpare later → MaySpare (step_or d plan later)
  step_by d None later more = more
  step_by d (Some plan) later more = step_if (length (missing d plan) == 0) (Flip d.cvd.number) (Copy d.cvd.number) tt tt

  step_spares : (sets : List Dataset) → MaySpare (first_step sets)
  step_spares [] = tt
  step_spares (d ∷ sets) = step_by d d.plan (first_step sets) (step_spares sets)

  steps_then : (n : ℕ) (u : World) (step : Option Move) → MaySpare step → ((v : World) → AllSpare (next_steps n v) (stage_of w))
      → AllSpare (and_after (next_steps n) u step) (stage_of w)
  steps_then n u None spares more = tt
  steps_then n u (Some step) spares more = (spares, more _)

  steps_spare : (n : ℕ) (u : World) → AllSpare (next_steps n u) (stage_of w)
  steps_spare zero u = tt
  steps_spare (suc n) u = steps_then n u (next_step u) (step_spares u.sets) (steps_spare n)

  commits_spare : (left number count x : ℕ) (done : List (List Row)) → IsOther number (stage_of w) → AllSpare (commits left number count x done) (stage_of w)
  commits_spare zero number count x done other = tt
  commits_spare (suc left) number count x done other = (other, commits_spare left number count _ _ other)

  change_quiet : (rows : List Row) (o : Option Dataset) → set_named w users_name ≡ o → Spares (change_of users_name users_schema rows o) (stage_of w)
  change_quiet rows None found = refl
  change_quiet rows (Some d) found = other_named w users_name d apart found refl

  -- ---- a command

  kept_name : (name : List ℕ) → (is_reserved name && (not (is_admin s.user) || true)) ≡ false → bytes_eq name stage_name ≡ false
  kept_name name e = unreserved_other name (for_nobody (is_reserved name) (not (is_admin s.user)) e)

  quiet : (command : Command) → (IsStaging command → ⊥) → permit s.user command ≡ None → Quiet (permitted w s command)
  quiet (asks.Init cvd schema file) other free =
      let silent = (silent-permits s.user (asks.Init cvd schema file)).0 free
      in init_quiet cvd schema file (kept_name cvd silent.1.1.1.0)
  quiet (asks.Checkout cvd vids file None) other free = checkout_quiet vids file cvd (set_named w cvd)
  quiet (asks.Checkout cvd vids file (Some table)) other free = absurd (other tt)
  quiet (asks.Commit cvd vids file message added) other free =
      let silent = (silent-permits s.user (asks.Commit cvd vids file message added)).0 free
      in found_quiet cvd vids message (columns_of added) file (set_named w cvd) refl (kept_name cvd silent.1.1.1.0)
  quiet (asks.CommitStaged owner table message) other free =
      quiet_unless _ _ (λ e. row_quiet owner table message (table_in (last_rows (set_named w stage_name)) owner table))
  quiet (asks.Optimize cvd p q) other free = optimize_quiet cvd p q (set_named w cvd)
  quiet (asks.OptimizeWithin cvd budget) other free = within_quiet cvd budget (set_named w cvd)
  quiet (asks.Advise cvd budget a b) other free = advise_quiet cvd budget a b (set_named w cvd)
  quiet (asks.Migrate count) other free = steps_spare count w
  quiet (asks.Layout cvd) other free = layout_quiet cvd (set_named w cvd)
  quiet (asks.Log cvd) other free = log_quiet cvd (set_named w cvd)
  quiet asks.Ls other free = tt
  quiet (asks.DropCvd cvd) other free =
      let silent = (silent-permits s.user (asks.DropCvd cvd)).0 free
      in drop_quiet cvd (set_named w cvd) refl (kept_name cvd silent.1.1.1.0)
  quiet asks.Checkpoint other free = (tt, tt)
  quiet (asks.Generate cvd seed rows versions) other free =
      let silent = (silent-permits s.user (asks.Generate cvd seed rows versions)).0 free
      in quiet_unless (init_refusal w cvd) _
      (λ e. (kept_name cvd silent.1.1.1.0, commits_spare _ w.next rows _ _ (next_is_other w below)))
  quiet (asks.CreateUser name) other free =
      quiet_unless (create_refusal name (set_named w users_name)) _
      (λ e. does_quiet _ (change_of users_name users_schema (version_rows users_schema (with_row (last_rows (set_named w users_name)) (user_row name))) (set_named w users_name)) _
      (change_quiet _ (set_named w users_name) refl))
  quiet (asks.Config name) other free = quiet_unless (config_refusal name (set_named w users_name)) _ (λ e. tt)
  quiet asks.Whoami other free = tt
  quiet (asks.Unstage owner table) other free = absurd (other tt)
  quiet asks.Tables other free =
      quiet_unless (if_so (is_foreign stage_schema (set_named w stage_name)) no.ForeignRegistry)
      (tells s (says.Tables (map table_shown (filter (is_own s.user) (last_rows (set_named w stage_name)))))) (λ e. tt)
  quiet (asks.Run text) other free = run_quiet (asked_of text)

  pub deed_quiet : (command : Command) → (IsStaging command → ⊥) → Quiet (deed w s command)
  deed_quiet command other = quiet_unless (permit s.user command) (permitted w s command) (λ free. quiet command other free)
