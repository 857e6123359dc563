-- What the rows of the commands say, as the calls that serve them do.
use Rattle.std.proofs.Common.{◌≡◌, ◌∙◌, ◌≤◌, ◌+◌, inl, inr, ℕ, Bool, true, false, List, [], ◌∷◌, ◌++◌, refl, sym, ap, arith}
use Rattle.std.specs.Prelude.{IfErr, OnOk, ◌||◌, ◌==◌, nat_lt, not, is_some, if◌then◌else◌, length, Option, Some, None, Result, Ok, Err}
use Rattle.std.specs.Option.{option_or}
use Rattle.ov_host.specs.declared.area.Extent.{Extent}
use Rattle.ov_host.specs.Host.{State}
use Rattle.ov_host.specs.Stage.{Staged}
use Rattle.ov_catalog.specs.Numbers.{Numbers}
use Rattle.ov_core.specs.Held.{Held}
use Rattle.ov_model.specs.Act.{is_threshold}
use Rattle.ov_model.specs.Book.{Row}
use Rattle.ov_model.specs.World.{is_one}
use Rattle.ov_model.specs.declared.command.Command.TheVariants as asks
use Rattle.ov_model.specs.declared.refusal.Refusal.{Refusal}
use Rattle.ov_query.specs.Queries.{AreDamaged, IsQueryDamaged, Reading, bytes_read, query_fetch, query_off, query_reads}
use Rattle.ov_query.specs.Queries as queries
use Rattle.ov_session.proofs.Bounds.{fetched_allowed}
use Rattle.ov_session.specs.Bounds.{bytes_in, bytes_of_all, command_fetch, if_allowed, is_command_off}
use Rattle.ov_session.specs.Commands.{AreBad, IsDamaged, IsPlanDamaged, IsScanDamaged, MeetsDamage}
use Rattle.ov_model.specs.declared.reply.Reply.{Reply}
use Rattle.ov_session.specs.Commands.{IsDamageOf}
use Rattle.ov_session.specs.Standing.{IsIdle, IsIdleBy}
use Rattle.ov_session.specs.declared.errors.EndErr.{EndErr}
use Rattle.ov_session.specs.declared.errors.EndErr.TheVariants as ending
use Rattle.ov_store.specs.Kept.{Kept}
use Rattle.ov_session.specs.Reads.{columns_off, commit_row_off, plan_refused, rows_read, schema_off}
use Rattle.ov_store.specs.Committing.{Set, TakesRows, parents_off, parents_off_in, to_off}
use Rattle.ov_value.specs.declared.column.Column.{Column}
use Rattle.ov_store.specs.Planning.{optimize_off, plan_off}
use Rattle.ov_store.specs.Planning as planning
use Rattle.ov_store.specs.Refusals.{refusal_of, refused, vids_off}
use Rattle.ov_store.specs.Scanning.{scan_off, set_in, versions_off}
use Rattle.ov_store.specs.declared.errors.StoreErr.{StoreErr}
use Rattle.ov_store.specs.declared.errors.StoreErr.TheVariants as why
use Rattle.ov_store.specs.declared.plan_errors.PlanErr.{PlanErr}
use Rattle.ov_store.specs.declared.plan_errors.PlanErr.TheVariants as plan

-- ---- refusals by numbers have a number

pub refused_some : (name : List ℕ) (o : Option StoreErr) (r : Refusal) → refused name o ≡ Some r → (off : StoreErr) × (o ≡ Some off)
refused_some name None r e = absurd cc
refused_some name (Some off) r e = (off, refl)

pub refused_there : (name : List ℕ) (o : Option StoreErr) → is_some (refused name o) ≡ true → (off : StoreErr) × (o ≡ Some off)
refused_there name None e = absurd cc
refused_there name (Some off) e = (off, refl)

abbrev IsNamed : List ℕ → Option StoreErr → Type 0
IsNamed name None = Unit {0}
IsNamed name (Some off) = is_some (refusal_of name off) ≡ true

none_by : (o : Option Refusal) → is_some o ≡ true → o ≡ None → ⊥
none_by None some none = cc
none_by (Some r) some none = cc

none_named : (name : List ℕ) (o : Option StoreErr) → IsNamed name o → refused name o ≡ None → o ≡ None
none_named name None is e = refl
none_named name (Some off) is e = absurd (none_by (refusal_of name off) is e)

named_if : (name : List ℕ) (t : Bool) (a b : Option StoreErr) → IsNamed name a → IsNamed name b → IsNamed name (if t then a else b)
named_if name true a b one other = one
named_if name false a b one other = other

vids_named : (name : List ℕ) (count : ℕ) (before vids : List ℕ) → IsNamed name (vids_off count before vids)
vids_named name count before [] = tt
vids_named name count before (vid ∷ vids) =
    named_if name (vid == 0 || nat_lt count vid) (Some (why.NoVersion vid)) (if is_one before vid then Some (why.RepeatedVersion vid) else vids_off count (vid ∷ before) vids) refl
    (named_if name (is_one before vid) (Some (why.RepeatedVersion vid)) (vids_off count (vid ∷ before) vids) refl (vids_named name count (vid ∷ before) vids))

scan_named : (name : List ℕ) (set : Option Set) (vids : List ℕ) → IsNamed name (versions_off set vids)
scan_named name None vids = refl
scan_named name (Some set) vids = vids_named name (length set.versions) [] vids

-- ---- of a plan

pub plan_there : (name : List ℕ) (o : Option PlanErr) → is_some (plan_refused name o) ≡ true → (off : PlanErr) × (o ≡ Some off)
plan_there name None e = absurd cc
plan_there name (Some off) e = (off, refl)

plan_some : (name : List ℕ) (o : Option PlanErr) (r : Refusal) → plan_refused name o ≡ Some r → (off : PlanErr) × (o ≡ Some off)
plan_some name None r e = absurd cc
plan_some name (Some off) r e = (off, refl)

tests_none : (name : List ℕ) (a b c : Bool)
    → plan_refused name (option_or (planning.off_if a plan.BadThreshold) (option_or (planning.off_if b plan.Migrating) (planning.off_if c plan.NoNumbers))) ≡ None
    → option_or (planning.off_if a plan.BadThreshold) (option_or (planning.off_if b plan.Migrating) (planning.off_if c plan.NoNumbers)) ≡ None
tests_none name true b c e = absurd cc
tests_none name false true c e = absurd cc
tests_none name false false true e = absurd cc
tests_none name false false false e = refl

plan_none : (name : List ℕ) (set : Option Set) (p q : ℕ) → plan_refused name (plan_off set p q) ≡ None → plan_off set p q ≡ None
plan_none name None p q e = absurd cc
plan_none name (Some set) p q e = tests_none name (not (is_threshold p q)) (is_some set.plan) (nat_lt 4294000000 set.next_part) e

-- ---- a checkout

module _ (user cvd vids : List ℕ) (file : Option (List ℕ)) (stage : Staged) (held now : Held) (s : State) (page : ℕ) where
  pub checkout_damaged : IsScanDamaged cvd vids held s page → IsDamaged user (asks.Checkout cvd vids file None) stage held now s page
  checkout_damaged is = (ap (refused cvd) is.0, is.1)

  pub checkout_met : MeetsDamage user (asks.Checkout cvd vids file None) stage held s page → IsScanDamaged cvd vids held s page
  checkout_met is = (none_named cvd (scan_off held.numbers cvd vids) (scan_named cvd (set_in held.numbers cvd) vids) is.0, is.1)

-- what is refused so reads nothing
pub fetched_refused : (name : List ℕ) (o : Option StoreErr) (n a b : ℕ) → b ≤ a + n → ((off : StoreErr) → o ≡ Some off → b ≡ a) → b ≤ a + if_allowed (refused name o) n
fetched_refused name o n a b within none =
    fetched_allowed (refused name o) n a b within (λ r is. let there = refused_some name o r is in none there.0 there.1)

-- ---- a commit

first_none : (a b : Option StoreErr) → option_or a b ≡ None → a ≡ None
first_none None b e = refl
first_none (Some off) b e = absurd cc

parents_none : (format : ℕ) (set : Option Set) (vids : List ℕ) (added : List Column) (rows : List Row) → to_off format set vids added rows ≡ None
    → parents_off_in set vids ≡ None
parents_none format None vids added rows e = absurd cc
parents_none format (Some set) vids added rows e = first_none (parents_off set vids) _ e

-- the schema takes the columns
columns_none : (o : Option Set) (added : List Column) (rows : List Row) → ((set : Set) → o ≡ Some set → TakesRows set.schema added rows) → columns_off added o ≡ None
columns_none None added rows takes = refl
columns_none (Some set) added rows takes = ap schema_off (takes set refl).with

module _ (n : Numbers Extent Extent) (cvd vids : List ℕ) (added : List Column) (rows : List Row)
    (takes : (set : Set) → set_in n cvd ≡ Some set → TakesRows set.schema added rows) where
  -- so what is refused by numbers is so for its parents
  commit_row_is : commit_row_off n cvd vids added ≡ refused cvd (parents_off_in (set_in n cvd) vids)
  commit_row_is =
      ap (option_or (refused cvd (parents_off_in (set_in n cvd) vids))) (columns_none (set_in n cvd) added rows takes)
      ∙ or_none (refused cvd (parents_off_in (set_in n cvd) vids))
    where
      or_none : (o : Option Refusal) → option_or o None ≡ o
      or_none None = refl
      or_none (Some r) = refl

  pub row_refused : (off : Refusal) → commit_row_off n cvd vids added ≡ Some off → (e : StoreErr) × (parents_off_in (set_in n cvd) vids ≡ Some e)
  row_refused off is = refused_some cvd (parents_off_in (set_in n cvd) vids) off (sym commit_row_is ∙ is)

  pub row_none : (format : ℕ) → to_off format (set_in n cvd) vids added rows ≡ None → commit_row_off n cvd vids added ≡ None
  row_none format none = commit_row_is ∙ ap (refused cvd) (parents_none format (set_in n cvd) vids added rows none)

-- ---- a plan

module _ (user cvd : List ℕ) (p q : ℕ) (stage : Staged) (held now : Held) (s : State) (page : ℕ) where
  pub plan_damaged : IsPlanDamaged cvd p q held s page → IsDamaged user (asks.Optimize cvd p q) stage held now s page
  plan_damaged is = (ap (plan_refused cvd) is.0, is.1)

  pub plan_met : MeetsDamage user (asks.Optimize cvd p q) stage held s page → IsPlanDamaged cvd p q held s page
  plan_met is = (plan_none cvd (set_in held.numbers cvd) p q is.0, is.1)

pub plan_fetched : (n : Numbers Extent Extent) (user cvd : List ℕ) (p q bytes a b : ℕ) → b ≤ a + if_allowed (optimize_off n cvd p q) bytes
    → b ≤ a + if_allowed (plan_refused cvd (optimize_off n cvd p q)) bytes
plan_fetched n user cvd p q bytes a b within = by (optimize_off n cvd p q) (set_in n cvd) refl within
  where
    by : (o : Option PlanErr) (set : Option Set) → plan_off set p q ≡ o → b ≤ a + if_allowed o bytes → b ≤ a + if_allowed (plan_refused cvd o) bytes
    by None set is within = within
    by (Some off) set is within = none (plan_refused cvd (Some off)) within
      where
        none : (o : Option Refusal) → b ≤ a + 0 → b ≤ a + if_allowed o bytes
        none None within = omega (arith, within)
        none (Some r) within = within

-- ---- a run

all_read : (reads : List Reading) → queries.bytes_of_all reads ≡ bytes_of_all (rows_read reads ++ [])
all_read [] = refl
all_read (r ∷ []) = refl
all_read (r ∷ q ∷ reads) = ap (λ (bytes : ℕ). bytes_in r.set r.vids + bytes) (all_read (q ∷ reads))

read_most : (o : Option Refusal) (reads : List Reading) → bytes_read o reads ≤ if_allowed o (bytes_of_all (rows_read reads ++ []))
read_most (Some r) reads = omega arith
read_most None reads = omega (arith, all_read reads)

module _ (n : Numbers Extent Extent) (user text : List ℕ) where
  pub run_fetched : (a b : ℕ) → b ≤ a + query_fetch n user text → b ≤ a + command_fetch n user (asks.Run text)
  run_fetched a b within = omega (arith, within, read_most (query_off n user text) (query_reads n text))

  pub run_refused : is_command_off n user (asks.Run text) ≡ true → is_some (query_off n user text) ≡ true
  run_refused some = some

module _ (stage : Staged) (held : Held) (s : State) (page : ℕ) where
  bad_reads : (reads : List Reading) → AreDamaged reads s page → AreBad (rows_read reads ++ []) stage held s page
  bad_reads [] bad = bad
  bad_reads (r ∷ []) bad = bad
  bad_reads (r ∷ q ∷ reads) (inl first) = inl first
  bad_reads (r ∷ q ∷ reads) (inr later) = inr (later.0, bad_reads (q ∷ reads) later.1)

  met_reads : (reads : List Reading) → AreBad (rows_read reads) stage held s page → AreDamaged reads s page
  met_reads [] bad = bad
  met_reads (r ∷ []) bad = bad
  met_reads (r ∷ q ∷ reads) (inl first) = inl first
  met_reads (r ∷ q ∷ reads) (inr later) = inr (later.0, met_reads (q ∷ reads) later.1)

pub run_damaged : (user text : List ℕ) (stage : Staged) (held now : Held) (s : State) (page : ℕ) → IsQueryDamaged held.numbers user text s page
    → IsDamaged user (asks.Run text) stage held now s page
run_damaged user text stage held now s page bad = (bad.0, bad_reads stage held s page (query_reads held.numbers text) bad.1)

pub run_met : (user text : List ℕ) (stage : Staged) (held : Held) (s : State) (page : ℕ) → MeetsDamage user (asks.Run text) stage held s page
    → IsQueryDamaged held.numbers user text s page
run_met user text stage held s page bad = (bad.0, met_reads stage held s page (query_reads held.numbers text) bad.1)

-- ---- results

pub map_ok : {A B : Type 0} (P Q : Type 0) (result : Result A B) → (P → Q) → OnOk result P → OnOk result Q
map_ok P Q (Ok a) to p = to p
map_ok P Q (Err e) to p = tt

pub damages_wider : {A : Type 0} (P Q : ℕ → Type 0) (result : Result A EndErr) → ((page : ℕ) → P page → Q page) → IfErr result (IsDamageOf P) → IfErr result (IsDamageOf Q)
damages_wider P Q (Ok a) wider is = tt
damages_wider P Q (Err ending.Host) wider is = tt
damages_wider P Q (Err ending.Stage) wider is = tt
damages_wider P Q (Err ending.Memory) wider is = tt
damages_wider P Q (Err (ending.Damaged area at)) wider is = (is.0, wider at is.1)

-- a checkout, into a file or not
pub checkout_idle : (cvd vids : List ℕ) (file : Option (List ℕ)) (kept : Kept) (stage staged : Staged) (old new : State) (result : Result Reply EndErr)
    → IfErr result (λ e. IsIdle e kept kept stage staged old new) → IfErr result (λ e. IsIdleBy (asks.Checkout cvd vids file None) e kept kept stage staged old new)
checkout_idle cvd vids None kept stage staged old new result idle = idle
checkout_idle cvd vids (Some file) kept stage staged old new result idle = idle
