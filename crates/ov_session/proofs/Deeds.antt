-- What a command of a file's rows does, by what refuses it.
use Rattle.std.proofs.Common.{◌≡◌, ◌+◌, is_lt, suc, ℕ, true, false, Bool, List, [], ◌∷◌, length, refl, ◌∙◌, ap}
use Rattle.std.specs.Prelude.{Option, Some, None, Ok, if◌then◌else◌}
use Rattle.std.specs.Option.{option_or}
use Rattle.ov_model.specs.Act.{Session, commit_rows, does, records_refusal, refuses, rows_refusal, unless, with_rows}
use Rattle.ov_model.specs.Book.{Row}
use Rattle.ov_model.specs.Merge.{in_key_order, placed}
use Rattle.ov_model.specs.Moves.{wide}
use Rattle.ov_model.specs.World.{Dataset, World}
use Rattle.ov_model.specs.declared.refusal.Refusal.{Refusal}
use Rattle.ov_model.specs.declared.reply.Reply.TheVariants as says
use Rattle.ov_session.specs.Commands.{begun}
use Rattle.ov_store.specs.Beginning.{first_move}
use Rattle.ov_store.specs.Committing.{Wish, adds, commit_move, fresh_in_world}
use Rattle.ov_store.specs.Worlds.{content_refusal}
use Rattle.ov_value.specs.Shapes.{Shape}
use Rattle.ov_value.specs.Rows.{key_cmp}

-- ---- rows in key order are as many

module _ (schema : Shape) where
  length_placed : (row : Row) (rows : List Row) → length (placed schema row rows) ≡ suc (length rows)
  length_placed row [] = refl
  length_placed row (r ∷ rows) = by (is_lt (key_cmp schema row r)) (length_placed row rows)
    where
      by : (b : Bool) → length (placed schema row rows) ≡ suc (length rows) → length (if b then row ∷ r ∷ rows else r ∷ placed schema row rows) ≡ suc (length (r ∷ rows))
      by true e = refl
      by false e = ap suc e

  pub length_in_order : (rows : List Row) → length (in_key_order schema rows) ≡ length rows
  length_in_order [] = refl
  length_in_order (row ∷ rows) = length_placed row (in_key_order schema rows) ∙ ap suc (length_in_order rows)

-- ---- a dataset

module _ (w : World) (s : Session) (cvd : List ℕ) (schema : Shape) (rows : List Row) where
  pub begin_refused : (refusal : Refusal) → rows_refusal w schema false rows ≡ Some refusal → with_rows w s schema false (begun s cvd schema) (Ok rows) ≡ refuses s refusal
  begin_refused refusal e = ap (λ o. unless s o (begun s cvd schema (in_key_order schema rows))) e

  pub begin_done : rows_refusal w schema false rows ≡ None
      → with_rows w s schema false (begun s cvd schema) (Ok rows) ≡ does s (first_move cvd schema rows) (says.Init cvd (length rows))
  begin_done e =
      ap (λ o. unless s o (begun s cvd schema (in_key_order schema rows))) e
      ∙ ap (λ n. does s (first_move cvd schema rows) (says.Init cvd n)) (length_in_order schema rows)

-- ---- a version

module _ (w : World) (s : Session) (d : Dataset) (wish : Wish) where
  pub commit_refused : (refusal : Refusal) → content_refusal w d wish ≡ Some refusal
      → with_rows w s (wide wish.added d).cvd.schema (adds wish.added) (commit_rows s d wish.vids wish.message wish.added) (Ok wish.rows) ≡ refuses s refusal
  commit_refused = by (rows_refusal w (wide wish.added d).cvd.schema (adds wish.added) wish.rows)
    where
      by : (o : Option Refusal) (refusal : Refusal) → option_or o (records_refusal (wide wish.added d) (fresh_in_world d wish)) ≡ Some refusal
          → unless s o (commit_rows s d wish.vids wish.message wish.added (in_key_order (wide wish.added d).cvd.schema wish.rows)) ≡ refuses s refusal
      by None refusal e =
          ap (λ o. unless s o (does s (commit_move d wish.vids wish.message wish.added wish.rows)
          (says.Commit d.cvd.name (length d.cvd.versions + 1) (length (in_key_order (wide wish.added d).cvd.schema wish.rows)) (fresh_in_world d wish)))) e
      by (Some other) refusal e = ap (λ o. unless s o (commit_rows s d wish.vids wish.message wish.added (in_key_order (wide wish.added d).cvd.schema wish.rows))) e

  pub commit_done : content_refusal w d wish ≡ None
      → with_rows w s (wide wish.added d).cvd.schema (adds wish.added) (commit_rows s d wish.vids wish.message wish.added) (Ok wish.rows)
      ≡ does s (commit_move d wish.vids wish.message wish.added wish.rows) (says.Commit d.cvd.name (length d.cvd.versions + 1) (length wish.rows) (fresh_in_world d wish))
  commit_done = by (rows_refusal w (wide wish.added d).cvd.schema (adds wish.added) wish.rows)
    where
      by : (o : Option Refusal) → option_or o (records_refusal (wide wish.added d) (fresh_in_world d wish)) ≡ None
          → unless s o (commit_rows s d wish.vids wish.message wish.added (in_key_order (wide wish.added d).cvd.schema wish.rows))
          ≡ does s (commit_move d wish.vids wish.message wish.added wish.rows) (says.Commit d.cvd.name (length d.cvd.versions + 1) (length wish.rows) (fresh_in_world d wish))
      by None e =
          ap (λ o. unless s o (does s (commit_move d wish.vids wish.message wish.added wish.rows)
          (says.Commit d.cvd.name (length d.cvd.versions + 1) (length (in_key_order (wide wish.added d).cvd.schema wish.rows)) (fresh_in_world d wish)))) e
          ∙ ap (λ n. does s (commit_move d wish.vids wish.message wish.added wish.rows) (says.Commit d.cvd.name (length d.cvd.versions + 1) n (fresh_in_world d wish)))
          (length_in_order (wide wish.added d).cvd.schema wish.rows)
      by (Some other) e = absurd cc
