-- A file's rows by the schema with the added columns.
use Rattle.std.proofs.Common.{◌≡◌, List, sym, ap, subst}
use Rattle.std.specs.Prelude.{ℕ, true, IfOk, Option, Some, Ok, Err, Result}
use Rattle.ov_host.specs.Stage.{Files, Staged}
use Rattle.ov_files.specs.Files.{file_rows}
use Rattle.std.specs.FinMap.{get}
use Rattle.ov_model.specs.Act.{schema_with}
use Rattle.ov_model.specs.Forms.{schema_refusal}
use Rattle.ov_model.specs.Moves.{accepted_or}
use Rattle.ov_model.specs.declared.refusal.Refusal.{Refusal}
use Rattle.ov_model.specs.declared.reply.Reply.TheVariants as says
use Rattle.ov_store.specs.Committing.{Set}
use Rattle.ov_value.specs.Shapes.{Shape}
use Rattle.ov_value.specs.declared.column.Column.{Column}
use Rattle.ov_value.specs.declared.schema_err.SchemaErr.{SchemaErr}
use Rattle.ov_session.specs.Commands.{HasFileRows, HasRowsOf, HasSet, HasWideRows, IsFoundAs, IsFoundBy}
use Rattle.ov_session.specs.declared.changing.Asked.{Asked}
use Rattle.ov_session.specs.declared.changing.Asked.TheVariants as asked
use Rattle.ov_session.specs.declared.errors.EndErr.{EndErr}

-- ---- the schema takes them

module _ (schema wide : Shape) (added : List Column) (with : schema_with schema added ≡ Ok wide) where
  pub wide_taken : (found : Asked) → HasRowsOf wide found → HasWideRows schema added found
  wide_taken (asked.Rows rows) fit = record { wider = wide; with = with; fit = fit }
  wide_taken (asked.Said reply) fit = tt

  pub wide_found : (file : List ℕ) (files : Files) (found : Asked) → IsFoundAs (file_rows wide file (get files file)) found
      → IsFoundBy (schema_with schema added) file files found
  wide_found file files found so = subst (λ (r : Result Shape SchemaErr). IsFoundBy r file files found) (sym with) so

-- ---- it doesn't

pub off_found : (schema : Shape) (added : List Column) (why : SchemaErr) (refusal : Refusal) (file : List ℕ) (files : Files) → schema_with schema added ≡ Err why
    → refusal ≡ schema_refusal why → IsFoundBy (schema_with schema added) file files (asked.Said (says.Refused refusal))
off_found schema added why refusal file files is same =
    subst (λ (r : Result Shape SchemaErr). IsFoundBy r file files (asked.Said (says.Refused refusal))) (sym is) (ap says.Refused same)

-- ---- what was found

pub read_by : (r : Result Shape SchemaErr) (schema : Shape) (file : List ℕ) (stage : Staged) (found : Asked) → (stage.tells ≡ true → IsFoundBy r file stage.files found)
    → HasFileRows (accepted_or schema r) file stage found
read_by (Ok wide) schema file stage (asked.Rows rows) so = so
read_by (Err why) schema file stage (asked.Rows rows) so = λ told. absurd (so told)
read_by r schema file stage (asked.Said reply) so = tt

pub set_of : (o : Option Set) (set : Set) (found : Asked) → o ≡ Some set → HasSet o found
set_of o set (asked.Rows rows) is = (set, is)
set_of o set (asked.Said reply) is = tt

pub each_found : (P : Asked → Type 0) (r : Result Asked EndErr) → ((found : Asked) → P found) → IfOk r P
each_found P (Ok found) all = all found
each_found P (Err why) all = tt

pub found_when : (T : Type 0) (P Q : Asked → Type 0) (r : Result Asked EndErr) → (T → IfOk r P) → ((found : Asked) → (T → P found) → Q found) → IfOk r Q
found_when T P Q (Ok found) so to = to found so
found_when T P Q (Err why) so to = tt
