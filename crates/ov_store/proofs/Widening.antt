-- A dataset with columns more.
use Rattle.std.proofs.Common.{◌≡◌, ◌∙◌, ◌==◌, ◌++◌, ◌≤◌, ◌+◌, ℕ, Bool, true, false, List, [], ◌∷◌, length, refl, sym, ap, subst, inl, inr, arith}
use Rattle.std.specs.Prelude.{◌≢◌, ◌⊎◌, IsTrue, if◌then◌else◌, is_ok, Option, Some, None, Result, Ok, Err}
use Rattle.std.specs.Option.{option_or}
use Rattle.std.proofs.lemmas.Bool.{eq-eqb}
use Rattle.std.proofs.lemmas.List.{length-append, length-map}
use Rattle.ov_value.specs.declared.column.Column.{Column}
use Rattle.ov_value.specs.declared.schema_err.SchemaErr.{SchemaErr}
use Rattle.ov_value.specs.declared.schema_err.SchemaErr.TheVariants.{NoColumns}
use Rattle.ov_value.specs.Making.{answer_of, column_refusal, widened}
use Rattle.ov_value.specs.Shapes.{IsSound, Shape}
use Rattle.ov_model.specs.Act.{schema_with}
use Rattle.ov_model.specs.Book.{Row}
use Rattle.ov_model.specs.Moves.{Commit, accepted_or, numbered, version_of, wide, wide_version}
use Rattle.ov_model.specs.World.{Dataset, World, first_set}
use Rattle.ov_catalog.specs.Reached.{CommitFits, Fits, IfThere, TakesColumns}
use Rattle.ov_journal.specs.Journal.{IsKnown}
use Rattle.law_commits.specs.Committing.{MayAdd}
use Rattle.ov_read.specs.Agreement.{Numbers}
use Rattle.ov_version_bytes.specs.Next.{AreLast}
use Rattle.ov_store.specs.Committing.{Set, schema_for}

-- ---- its parts

pub wide_schema_is : (added : List Column) (d : Dataset) → (wide added d).cvd.schema ≡ schema_for d.cvd.schema added
wide_schema_is [] d = refl
wide_schema_is (column ∷ added) d = refl

pub wide_name : (added : List Column) (d : Dataset) → (wide added d).cvd.name ≡ d.cvd.name
wide_name [] d = refl
wide_name (column ∷ added) d = refl

pub wide_count : (added : List Column) (d : Dataset) → length (wide added d).cvd.versions ≡ length d.cvd.versions
wide_count [] d = refl
wide_count (column ∷ added) d = length-map d.cvd.versions (wide_version (length (column ∷ added)))

-- ---- its schema

pub made_for : (schema wider : Shape) (added : List Column) → schema_with schema added ≡ Ok wider → schema_for schema added ≡ wider
made_for schema wider added with = ap (accepted_or schema) with

abbrev done : Shape → Result Shape SchemaErr
done s = Ok s

inside : (a b : Shape) → done a ≡ done b → a ≡ b
inside a b e = ap (λ r. elim r as (λ _. Shape) [ Ok x ↦ x | Err why ↦ a ]) e

answer_is : (o : Option SchemaErr) (s wider : Shape) → answer_of o s ≡ Ok wider → s ≡ wider
answer_is None s wider is = inside s wider is
answer_is (Some why) s wider is = absurd cc

none_more : (columns : List Column) → columns ++ [] ≡ columns
none_more [] = refl
none_more (column ∷ columns) = ap (λ cs. column ∷ cs) (none_more columns)

pub wider_is : (schema wider : Shape) (added : List Column) → schema_with schema added ≡ Ok wider → record { columns = schema.columns ++ added; key = schema.key } ≡ wider
wider_is schema wider [] with = (λ i. record { columns = none_more schema.columns i; key = schema.key }) ∙ inside schema wider with
wider_is schema wider (column ∷ added) with =
    answer_is (if length (column ∷ added) == 0 then Some NoColumns else column_refusal (schema.columns ++ column ∷ added))
    (record { columns = schema.columns ++ column ∷ added; key = schema.key }) wider with

pub last_ones : (schema wider : Shape) (added : List Column) → IsSound wider → schema_with schema added ≡ Ok wider → (added ≡ []) ⊎ AreLast added
last_ones schema wider [] sound with = inl refl
last_ones schema wider (column ∷ added) sound with =
    inr (record { schema = wider; front = schema.columns; sound = sound; columns_are = sym (ap (λ (s : Shape). s.columns) (wider_is schema wider (column ∷ added) with)) })

pub room_for : (schema wider : Shape) (added : List Column) → length wider.columns ≤ 64 → schema_with schema added ≡ Ok wider → length schema.columns + length added ≤ 64
room_for schema wider added few with =
    omega (arith, few, ap (λ (s : Shape). length s.columns) (wider_is schema wider added with), length-append schema.columns added)

-- ---- what may be added

is_well : (r : Result Shape SchemaErr) (s : Shape) → r ≡ Ok s → IsTrue (is_ok r)
is_well r s e = subst (λ x. IsTrue (is_ok x)) (sym e) refl

pub may_add : (format : ℕ) (set : Set) (wider : Shape) (added : List Column) → IsKnown format → (added ≢ [] → format ≢ 1) → schema_with set.schema added ≡ Ok wider → MayAdd format added set
may_add format set wider [] known other with = tt
may_add format set wider (column ∷ added) known other with = (by known, is_well (widened set.schema (column ∷ added)) wider with)
  where
    by : IsKnown format → format ≡ 2
    by (inl one) = absurd (other (λ e. cc) one)
    by (inr two) = two

abbrev pub TakesAll : World → Dataset → List Column → Type 0
TakesAll w d [] = Unit {0}
TakesAll w d (column ∷ added) = TakesColumns w d (column ∷ added)

pub takes_all : (w : World) (d : Dataset) (schema wider : Shape) (added : List Column) → (added ≢ [] → w.format ≢ 1) → schema ≡ d.cvd.schema → schema_with schema added ≡ Ok wider → TakesAll w d added
takes_all w d schema wider [] other same with = tt
takes_all w d schema wider (column ∷ added) other same with = record {
  format = other (λ e. cc);
  accepted = subst (λ s. IsTrue (is_ok (widened s (column ∷ added)))) same (is_well (widened schema (column ∷ added)) wider with);
}

-- ---- a commit that fits

pub fits_of : (w : World) (d : Dataset) (vids message : List ℕ) (added : List Column) (rows : List Row) → first_set (numbered d.cvd.number) w.sets ≡ Some d
    → Fits (Commit d.cvd.number vids message added rows) w → CommitFits w (wide added d) (version_of vids message rows)
fits_of w d vids message [] rows among fits = subst (IfThere (λ x. CommitFits w x (version_of vids message rows))) among fits
fits_of w d vids message (column ∷ added) rows among fits =
    (subst (IfThere (λ x. TakesColumns w x (column ∷ added) × CommitFits w (wide (column ∷ added) x) (version_of vids message rows))) among fits).1

pub fits_by : (w : World) (d : Dataset) (number : ℕ) (vids message : List ℕ) (added : List Column) (rows : List Row) → first_set (numbered number) w.sets ≡ Some d
    → TakesAll w d added → CommitFits w (wide added d) (version_of vids message rows) → Fits (Commit number vids message added rows) w
fits_by w d number vids message [] rows among takes fits = subst (IfThere (λ x. CommitFits w x (version_of vids message rows))) (sym among) fits
fits_by w d number vids message (column ∷ added) rows among takes fits =
    subst (IfThere (λ x. TakesColumns w x (column ∷ added) × CommitFits w (wide (column ∷ added) x) (version_of vids message rows))) (sym among) (takes, fits)
