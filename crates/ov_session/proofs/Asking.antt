-- A command before its rows are stored: from the catalog and its file.
use Rattle.std.proofs.Common.{◌≡◌, ◌∙◌, ◌==◌, ℕ, Bool, true, false, List, [], ◌∷◌, length, Some, None, refl, sym, ap, subst}
use Rattle.std.specs.Prelude.{IfOk, Option, Ok, Err, Result, nat_le}
use Rattle.std.specs.Option.{option_or}
use Rattle.std.specs.FinMap.{get}
use Rattle.ov_host.specs.Host.{State}
use Rattle.ov_host.specs.Stage.{Files as Map}
use Rattle.ov_catalog.specs.Reached.{IfThere}
use Rattle.ov_core.specs.AtWorld.{IsAtWorld}
use Rattle.ov_core.specs.Held.{Held}
use Rattle.law_runs.proofs.Doing.{breaks_looked, does_told}
use Rattle.law_runs.specs.Serving.{Does, files_of}
use Rattle.ov_files.specs.Files.{file_rows}
use Rattle.ov_model.specs.Act.{Deed, Session, commit_deed, commit_refusal, commit_rows, commit_under, from_file, init_deed, init_refusal, refuses, schema_with, unless, with_file, with_rows}
use Rattle.ov_model.specs.Forms.{schema_refusal}
use Rattle.ov_model.specs.Moves.{accepted_or, wide}
use Rattle.ov_model.specs.Book.{Row}
use Rattle.ov_model.specs.World.{Dataset, World, set_named}
use Rattle.ov_model.specs.declared.refusal.Refusal.{Refusal}
use Rattle.ov_model.specs.declared.refusal.Refusal.TheVariants as no
use Rattle.ov_model.specs.declared.reply.Reply.{Reply}
use Rattle.ov_model.specs.declared.reply.Reply.TheVariants as says
use Rattle.ov_session.proofs.Calls.{acts_by}
use Rattle.ov_session.specs.Commands.{Acts, IsAskedOf, IsFoundBy, begun}
use Rattle.ov_session.specs.declared.changing.Asked.{Asked}
use Rattle.ov_session.specs.declared.changing.Asked.TheVariants as asked
use Rattle.ov_store.specs.Committing.{adds}
use Rattle.ov_value.specs.declared.column.Column.{Column}
use Rattle.ov_value.specs.declared.schema_err.SchemaErr.{SchemaErr}
use Rattle.ov_session.specs.Errors.{reply_of}
use Rattle.ov_session.specs.declared.errors.EndErr.{EndErr}
use Rattle.std.specs.List.{list_any}
use Rattle.ov_catalog.specs.Applying.{is_named}
use Rattle.ov_catalog.specs.Numbers.{Numbers}
use Rattle.ov_host.specs.declared.area.Extent.{Extent}
use Rattle.ov_store.specs.Refusals.{new_off, off_if}
use Rattle.ov_store.specs.Worlds.{HasSchema, IsByNumbers, IsRefusedAs, parents_of_set, parents_refusal}
use Rattle.ov_store.specs.declared.errors.StoreErr.{StoreErr}
use Rattle.ov_store.specs.declared.errors.StoreErr.TheVariants as why
use Rattle.ov_value.specs.Shapes.{Shape}

-- ---- refusals by numbers

-- a reply to an error that the numbers are the cause of is the World's refusal
pub refused_as : (name : List ℕ) (off : Option Refusal) (e : StoreErr) (r : Reply) → IsByNumbers e → IsRefusedAs name off e → reply_of name e ≡ Some r
    → (x : Refusal) × (r ≡ says.Refused x) × (off ≡ Some x)
refused_as name off why.Host r by_ is said = absurd by_
refused_as name off why.Memory r by_ is said = absurd cc
refused_as name off (why.Damaged area at) r by_ is said = absurd by_
refused_as name off (why.Full pages) r by_ is said = absurd by_
refused_as name off why.JournalFull r by_ is said = absurd by_
refused_as name off why.NoCvd r by_ is said = (no.NoCvd name, cc, is)
refused_as name off why.CvdExists r by_ is said = (no.CvdExists name, cc, is)
refused_as name off (why.NoVersion vid) r by_ is said = (no.NoVersion vid, cc, is)
refused_as name off (why.RepeatedVersion vid) r by_ is said = (no.RepeatedVersion vid, cc, is)
refused_as name off (why.DuplicateKey row) r by_ is said = (no.DuplicateKey row, cc, is)
refused_as name off why.TooManyVersions r by_ is said = (no.TooManyVersions name, cc, is)
refused_as name off why.TooManyRecords r by_ is said = (no.TooManyRecords name, cc, is)
refused_as name off why.TooManyRows r by_ is said = (no.TooManyRows, cc, is)
refused_as name off why.TooManyCvds r by_ is said = (no.TooManyCvds, cc, is)
refused_as name off why.NoNumbers r by_ is said = (no.NoNumbers name, cc, is)
refused_as name off (why.FormatOne row) r by_ is said = (no.FormatOne row, cc, is)

some_off : (P : StoreErr → Type 0) (a e : StoreErr) → Some a ≡ Some e → P a → P e
some_off P a e is has = subst P (ap (λ o. elim o as (λ _. StoreErr) [ None ↦ a | Some x ↦ x ]) is) has

-- that a dataset may not begin is by numbers
pub new_by : (a b c : Bool) (e : StoreErr) → option_or (off_if a why.CvdExists) (option_or (off_if b why.TooManyCvds) (off_if c why.NoNumbers)) ≡ Some e → IsByNumbers e
new_by true b c e is = some_off IsByNumbers why.CvdExists e is tt
new_by false true c e is = some_off IsByNumbers why.TooManyCvds e is tt
new_by false false true e is = some_off IsByNumbers why.NoNumbers e is tt
new_by false false false e is = absurd cc

-- ---- the rows of a file

file_is : (w : World) (s : Session) (schema : Shape) (adds : Bool) (name : List ℕ) (next : List Row → Deed) (o : Option (List ℕ))
    → with_file w s schema adds name next o ≡ with_rows w s schema adds next (file_rows schema name o)
file_is w s schema adds name next None = refl
file_is w s schema adds name next (Some bytes) = refl

pub from_file_is : (w : World) (s : Session) (schema : Shape) (adds : Bool) (name : List ℕ) (next : List Row → Deed) (files : Map) (found : Result (List Row) Refusal)
    → s.files ≡ files_of files → found ≡ file_rows schema name (get files name) → from_file w s schema adds name next ≡ with_rows w s schema adds next found
from_file_is w s schema adds name next files found same is =
    ap (λ (f : List ℕ → Option (List ℕ)). with_file w s schema adds name next (f name)) same
    ∙ file_is w s schema adds name next (get files name) ∙ ap (with_rows w s schema adds next) (sym is)

-- ---- a dataset

module _ (w : World) (s : Session) (cvd : List ℕ) (schema : Shape) (file : List ℕ) (files : Map) (same : s.files ≡ files_of files) where
  pub init_by : (found : Result (List Row) Refusal) → init_refusal w cvd ≡ None → found ≡ file_rows schema file (get files file)
      → init_deed w s cvd schema file ≡ with_rows w s schema false (begun s cvd schema) found
  init_by found none is =
      ap (λ o. unless s o (from_file w s schema false file (begun s cvd schema))) none
      ∙ from_file_is w s schema false file (begun s cvd schema) files found same is

  pub init_off : (refusal : Refusal) → init_refusal w cvd ≡ Some refusal → init_deed w s cvd schema file ≡ refuses s refusal
  init_off refusal is = ap (λ o. unless s o (from_file w s schema false file (begun s cvd schema))) is

-- ---- a version

ok_is : (a b : Shape) → (let one : Result Shape SchemaErr = Ok a in one) ≡ Ok b → a ≡ b
ok_is a b e = cc

-- the dataset's schema with the columns is the one that they are accepted by
wide_is : (added : List Column) (d : Dataset) (schema : Shape) → schema_with d.cvd.schema added ≡ Ok schema → (wide added d).cvd.schema ≡ schema
wide_is [] d schema is = ok_is d.cvd.schema schema is
wide_is (column ∷ added) d schema is = ap (accepted_or d.cvd.schema) is

module _ (w : World) (s : Session) (name cvd vids message : List ℕ) (added : List Column) (file : List ℕ) (same : name ≡ cvd) where
  abbrev deed_under : Dataset → Result Shape SchemaErr → Deed
  deed_under d schema = commit_under w s d vids message added file schema

  abbrev deed_by : Dataset → Result (List Row) Refusal → Deed
  deed_by d found = with_rows w s (wide added d).cvd.schema (adds added) (commit_rows s d vids message added) found

  commit_is : (d : Dataset) (schema : Result Shape SchemaErr) → schema_with d.cvd.schema added ≡ schema → commit_refusal d vids ≡ None
      → commit_deed w s cvd vids message added file (Some d) ≡ deed_under d schema
  commit_is d schema is none = ap (λ (o : Option Refusal). unless s o (deed_under d (schema_with d.cvd.schema added))) none ∙ ap (deed_under d) is

  commit_by : (d : Dataset) (schema : Shape) (files : Map) (found : Result (List Row) Refusal) → s.files ≡ files_of files → schema_with d.cvd.schema added ≡ Ok schema
      → commit_refusal d vids ≡ None → found ≡ file_rows schema file (get files file) → commit_deed w s cvd vids message added file (Some d) ≡ deed_by d found
  commit_by d schema files found are with none is =
      commit_is d (Ok schema) with none
      ∙ from_file_is w s schema (adds added) file (commit_rows s d vids message added) files found are is
      ∙ ap (λ (x : Shape). with_rows w s x (adds added) (commit_rows s d vids message added) found) (sym (wide_is added d schema with))

  -- what was asked, of a dataset that is there or isn't
  abbrev AskedIn : Option Dataset → Asked → Type 0
  AskedIn o (asked.Rows rows) = IfThere (λ d. (commit_refusal d vids ≡ None) × (commit_deed w s cvd vids message added file (Some d) ≡ deed_by d (Ok rows))) o
  AskedIn o (asked.Said reply) = (refusal : Refusal) × (reply ≡ says.Refused refusal) × (commit_deed w s cvd vids message added file o ≡ refuses s refusal)

  asked_of : (o : Option Dataset) (found : Asked) → set_named w cvd ≡ o → AskedIn o found → IsAskedOf w s cvd vids message added file found
  asked_of o (asked.Rows rows) is so =
      subst (λ (x : Option Dataset). IfThere (λ d. (commit_refusal d vids ≡ None) × (commit_deed w s cvd vids message added file (Some d) ≡ deed_by d (Ok rows))) x) (sym is) so
  asked_of o (asked.Said reply) is so = (so.0, so.1, ap (commit_deed w s cvd vids message added file) is ∙ so.2)

  module _ (files : Map) (are : s.files ≡ files_of files) where
    found_by : (d : Dataset) (schema : Result Shape SchemaErr) (found : Asked) → schema_with d.cvd.schema added ≡ schema → commit_refusal d vids ≡ None
        → IsFoundBy schema file files found → AskedIn (Some d) found
    found_by d (Ok schema) (asked.Rows rows) is none so = (none, commit_by d schema files (Ok rows) are is none (sym so))
    found_by d (Ok schema) (asked.Said reply) is none so = (so.0, so.1, commit_by d schema files (Err so.0) are is none (sym so.2))
    found_by d (Err why) (asked.Rows rows) is none so = absurd so
    found_by d (Err why) (asked.Said reply) is none so = (schema_refusal why, so, commit_is d (Err why) is none)

    pub asked_found : (schema : Shape) (found : Asked) → parents_refusal w name vids ≡ None → HasSchema schema (set_named w name)
        → IsFoundBy (schema_with schema added) file files found → IsAskedOf w s cvd vids message added file found
    asked_found schema found none has so = by (set_named w name) (sym (ap (set_named w) same)) none has
      where
        by : (o : Option Dataset) → set_named w cvd ≡ o → parents_of_set name vids o ≡ None → HasSchema schema o → IsAskedOf w s cvd vids message added file found
        by None is none has = absurd has
        by (Some d) is none has =
            asked_of (Some d) found is
            (found_by d (schema_with d.cvd.schema added) found refl none (subst (λ (x : Shape). IsFoundBy (schema_with x added) file files found) has so))

  pub asked_off : (refusal : Refusal) → parents_refusal w name vids ≡ Some refusal → commit_deed w s cvd vids message added file (set_named w cvd) ≡ refuses s refusal
  asked_off refusal is =
      subst (λ (n : List ℕ). commit_deed w s cvd vids message added file (set_named w n) ≡ refuses s refusal) same (by (set_named w name) (subst (λ (n : List ℕ). parents_of_set n vids (set_named w name) ≡ Some refusal) same is))
    where
      by : (o : Option Dataset) → parents_of_set cvd vids o ≡ Some refusal → commit_deed w s cvd vids message added file o ≡ refuses s refusal
      by None is = ap (refuses s) (cc)
      by (Some d) is = ap (λ (o : Option Refusal). unless s o (deed_under d (schema_with d.cvd.schema added))) is

-- ---- the host wasn't called

pub told_still : (d : Deed) (s t : Session) (w : World) (refusal : Refusal) (held : Held) (st : State) → d ≡ refuses s refusal → s ≡ t → IsAtWorld w held st
    → Does d s t w (says.Refused refusal) held held st st
told_still d s t w refusal held st is same at =
    subst (λ (u : Session). Does d s u w (says.Refused refusal) held held st st) same (does_told d s s w (says.Refused refusal) held st st is at refl refl)

-- ---- a commit, from what came before its rows were stored

module _ (w : World) (s t : Session) (cvd vids message : List ℕ) (added : List Column) (file : List ℕ) (before now : Held) (old new : State) (same : s ≡ t) where
  pub commit_acts : (rows : List Row) (result : Result Reply EndErr)
      → IfThere (λ d. (commit_refusal d vids ≡ None) × (commit_deed w s cvd vids message added file (Some d) ≡ with_rows w s (wide added d).cvd.schema (adds added) (commit_rows s d vids message added) (Ok rows))) (set_named w cvd)
      → ((d : Dataset) → set_named w cvd ≡ Some d → commit_refusal d vids ≡ None
      → Acts (with_rows w s (wide added d).cvd.schema (adds added) (commit_rows s d vids message added) (Ok rows)) s s w result before now old new)
      → Acts (commit_deed w s cvd vids message added file (set_named w cvd)) s t w result before now old new
  commit_acts rows result there acts =
      subst (λ (u : Session). Acts (commit_deed w s cvd vids message added file (set_named w cvd)) s u w result before now old new) same (by (set_named w cvd) refl there)
    where
      by : (o : Option Dataset) → set_named w cvd ≡ o
          → IfThere (λ d. (commit_refusal d vids ≡ None) × (commit_deed w s cvd vids message added file (Some d) ≡ with_rows w s (wide added d).cvd.schema (adds added) (commit_rows s d vids message added) (Ok rows))) o
          → Acts (commit_deed w s cvd vids message added file (set_named w cvd)) s s w result before now old new
      by None is there = absurd there
      by (Some d) is there =
          subst (λ (e : Deed). Acts e s s w result before now old new) (sym (ap (commit_deed w s cvd vids message added file) is ∙ there.1)) (acts d is there.0)

pub said_still : (d : Deed) (s t : Session) (w : World) (reply : Reply) (held : Held) (st : State) → s ≡ t → IsAtWorld w held st
    → (refusal : Refusal) × (reply ≡ says.Refused refusal) × (d ≡ refuses s refusal) → Does d s t w reply held held st st
said_still d s t w reply held st same at is =
    subst (λ (r : Reply). Does d s t w r held held st st) (sym is.1) (told_still d s t w is.0 held st is.2 same at)

-- ---- an init, before its rows are stored

module _ (w : World) (s t : Session) (cvd : List ℕ) (schema : Shape) (file : List ℕ) (files : Map) (are : s.files ≡ files_of files) (same : s ≡ t)
    (before now : Held) (old new : State) where
  pub init_acts : (rows : List Row) (result : Result Reply EndErr) → init_refusal w cvd ≡ None → Ok rows ≡ file_rows schema file (get files file)
      → Acts (with_rows w s schema false (begun s cvd schema) (Ok rows)) s s w result before now old new → Acts (init_deed w s cvd schema file) s t w result before now old new
  init_acts rows result none is acts =
      subst (λ (u : Session). Acts (init_deed w s cvd schema file) s u w result before now old new) same
      (subst (λ (d : Deed). Acts d s s w result before now old new) (sym (init_by w s cvd schema file files are (Ok rows) none is)) acts)

module _ (w : World) (s : Session) (name cvd : List ℕ) (same : name ≡ cvd) (schema : Shape) (file : List ℕ) (files : Map) (are : s.files ≡ files_of files)
    (held : Held) (st : State) (at : IsAtWorld w held st) where
  pub init_refused : (result : Result Reply EndErr) (e : StoreErr) → IfOk result (λ r. reply_of cvd e ≡ Some r) → IsByNumbers e → IsRefusedAs name (init_refusal w name) e
      → Acts (init_deed w s cvd schema file) s s w result held held st st
  init_refused result e said by_ is =
      acts_by (init_deed w s cvd schema file) s s w result cvd e held held st st said
      (λ r reply. let off = refused_as cvd (init_refusal w cvd) e r by_ (subst (λ (n : List ℕ). IsRefusedAs n (init_refusal w n) e) same is) reply
      in subst (λ (x : Reply). Does (init_deed w s cvd schema file) s s w x held held st st) (sym off.1)
      (told_still (init_deed w s cvd schema file) s s w off.0 held st (init_off w s cvd schema file files are off.0 off.2) refl at))
      (breaks_looked (init_deed w s cvd schema file) s w held st st at refl)

pub began_by : (n : Numbers Extent Extent) (name : List ℕ) (e : StoreErr) → new_off n name ≡ Some e → IsByNumbers e
began_by n name e is = new_by (list_any (is_named name) n.sets) (nat_le 1024 (length n.sets)) (n.next == 4294967295) e is
