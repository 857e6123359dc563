use Rattle.std.proofs.Common.{rules, ◌≡◌, ◌∙◌, ℕ, false, List, ap, subst}
use Rattle.std.specs.Prelude.{Some, None}
use Rattle.std.specs.Option.{option_map, option_or}
use Rattle.ov_model.specs.Book.{Row}
use Rattle.ov_model.specs.Merge.{in_key_order}
use Rattle.ov_model.specs.Moves.{Init}
use Rattle.ov_catalog.specs.Raw.{event_in}
use Rattle.ov_catalog.specs.Reached.{AreRows}
use Rattle.ov_catalog.specs.Stands.{asked_event}
use Rattle.ov_core.specs.Brought.{content}
use Rattle.ov_store.specs.Beginning.{first_move, first_of, init_off}
use Rattle.ov_rows.specs.Refusing.{rows_off}
use Rattle.ov_store.specs.Errors.{of_rows, unready_of}
use Rattle.ov_store.specs.Refusals.{new_off}
use Rattle.ov_store.specs.Unready.{IfTooLong, IsUnready}
use Rattle.ov_store.proofs.Unreadying.{first_long, first_unready}
use Rattle.ov_store.proofs.Fitting.{init_fits, plain_rows, rows_sorted}
use Rattle.ov_store.proofs.store.Store.first.Goals as goal

pub first_version-requires-clause-rows : goal.first_version-requires-clause-rows
first_version-requires-clause-rows c =
    rows_sorted c.args.schema.now c.args.rows c.in_ok-rows.rows c.in_ok-rows.ensures.kept c.in_ok-rows.ensures.rise c.in_ok-rows.ensures.few c.requires.fit c.requires.short

pub returns-in_err-first_version-clause-why : goal.returns-in_err-first_version-clause-why
returns-in_err-first_version-clause-why c =
    let format : c.format-format.result ≡ c.args.self.now.held.journal.format
    = c.format-format.ensures ∙ ap (λ j. j.format) c.journal.ensures ∙ ap (λ kept. kept.held.journal.format) c.self.view_is
    in let none : rows_off c.args.self.now.held.journal.format c.args.schema.now false c.args.rows ≡ None
    = subst (λ (n : ℕ). rows_off n c.args.schema.now false c.args.rows ≡ None) format c.in_ok-rows.ensures.answer
    in
    let off : init_off c.args.self.now.held c.args.name.now c.args.schema.now c.args.rows ≡ None
    = λ i. option_or (subst (λ (n : List ℕ). new_off c.args.self.now.held.numbers n ≡ None) c.as_str.ensures.text c.in_ok-may_begin.ensures.answer i) (option_map of_rows (none i))
    in let fact : IsUnready (init_off c.args.self.now.held c.args.name.now c.args.schema.now c.args.rows) (first_of c.args.name.now c.args.schema.now c.args.rows)
    (unready_of c.in_err-first_version.field-0.0)
    = first_unready (init_off c.args.self.now.held c.args.name.now c.args.schema.now c.args.rows) c.args.name.now c.args.schema.now c.args.rows c.in_ok-rows.rows
    c.in_err-first_version.field-0.0 c.in_ok-rows.ensures.rows c.in_ok-rows.ensures.count c.in_ok-rows.ensures.few off c.in_err-first_version.ensures.cause
    in search (rules, fact)

pub returns-clause-brings : goal.returns-clause-brings
returns-clause-brings c = λ w s at.
    let b : _ = c.in_ok-first_version.field-0
    in let format : c.format-format.result ≡ c.args.self.now.held.journal.format
    = c.format-format.ensures ∙ ap (λ j. j.format) c.journal.ensures ∙ ap (λ kept. kept.held.journal.format) c.self.view_is
    in let none : rows_off c.args.self.now.held.journal.format c.args.schema.now false c.args.rows ≡ None
    = subst (λ (n : ℕ). rows_off n c.args.schema.now false c.args.rows ≡ None) format c.in_ok-rows.ensures.answer
    in record {
      fits = init_fits w c.args.self.now.held s at c.args.name.now
          (subst (λ (n : List ℕ). new_off c.args.self.now.held.numbers n ≡ None) c.as_str.ensures.text c.in_ok-may_begin.ensures.answer) c.args.schema.now (in_key_order c.args.schema.now c.args.rows)
          c.in_ok-may_begin.ensures.numbers c.requires.name c.requires.sound (subst (AreRows c.args.schema.now) c.in_ok-rows.ensures.rows
          (rows_sorted c.args.schema.now c.args.rows c.in_ok-rows.rows c.in_ok-rows.ensures.kept c.in_ok-rows.ensures.rise c.in_ok-rows.ensures.few c.requires.fit c.requires.short))
          (plain_rows w c.args.self.now.held.journal.format c.args.schema.now false c.args.rows at.stands.format none);
      says = subst (λ (rows : List Row). Some (content (event_in b.event) b.list.items b.segment.items) ≡ asked_event (Init c.args.name.now c.args.schema.now rows) w)
          c.in_ok-rows.ensures.rows (c.in_ok-first_version.ensures.says w);
    }

pub returns-in_err-first_version-clause-long : goal.returns-in_err-first_version-clause-long
returns-in_err-first_version-clause-long c = λ w.
    let are : AreRows c.args.schema.now c.in_ok-rows.rows
    = rows_sorted c.args.schema.now c.args.rows c.in_ok-rows.rows c.in_ok-rows.ensures.kept c.in_ok-rows.ensures.rise c.in_ok-rows.ensures.few c.requires.fit c.requires.short
    in let fact : IfTooLong (first_move c.args.name.now c.args.schema.now c.args.rows) w (unready_of c.in_err-first_version.field-0.0)
    = first_long w c.args.name.now c.args.schema.now c.args.rows c.in_ok-rows.rows c.in_err-first_version.field-0.0 c.in_ok-rows.ensures.rows are c.in_err-first_version.ensures.cause
    in search (rules, fact)
