-- The pairs that were found are those of the definition.
use Rattle.std.proofs.Common.{◌≡◌, ◌<◌, ◌≤◌, ◌∙◌, [], ℕ, List, ap, ap₂, length, map, subst, sym}
use Rattle.std.specs.List.{All}
use Rattle.std.proofs.lemmas.List.{length-map}
use Rattle.std.proofs.lemmas.Result.{err_from_is_err_and}
use Rattle.ov_value.specs.Rows.{Fits}
use Rattle.ov_value.specs.Shapes.{Shape}
use Rattle.ov_model.specs.Answers.{answer}
use Rattle.ov_model.specs.Joins.{as_query, side_by_side, unrelated}
use Rattle.ov_terms.specs.Finding.{in_version}
use Rattle.ov_terms.specs.Standing.{Stands}
use Rattle.ov_terms.specs.declared.matches.Match.{Match}
use Rattle.ov_join.specs.Fitting.{Fitting}
use Rattle.ov_join.specs.Partnering.{told}
use Rattle.ov_join.proofs.Answering.{count-is, fit-is, rows-are, stand-is}
use Rattle.ov_join.proofs.Fitted.{are-wide}
use Rattle.ov_join.proofs.run.run_join.Goals as goal

pub partners-requires-clause-same : goal.partners-requires-clause-same
partners-requires-clause-same c =
    let pair = in_version 0 [] in
    sym (length-map c.in_ok-ls.ls.cols.items _) ∙ ap length (c.in_ok-ls.ensures.cols pair) ∙ length-map c.args.typed.now.join.on _
    ∙ sym (length-map c.args.typed.now.join.on _) ∙ sym (ap length (c.in_ok-rs.ensures.cols pair)) ∙ length-map c.in_ok-rs.rs.cols.items _

pub returns-in_err-found-clause-err : goal.returns-in_err-found-clause-err
returns-in_err-found-clause-err c =
    let p = err_from_is_err_and c.from_residual-in_err-found.result c.from_residual-in_err-found.ensures.1 in
    let count = count-is c.in_ok-ls.ls c.in_ok-rs.rs c.args.typed.now c.args.left.now c.args.right.now c.as_slice.result.now c.requires.left c.requires.right
    (record { table = c.in_ok-ls.ensures.rows; places = c.in_ok-ls.ensures.places; one = c.requires.left_once })
    (record { table = c.in_ok-rs.ensures.rows; places = c.in_ok-rs.ensures.places; one = c.requires.right_once })
    c.in_ok-ls.ensures.cols c.in_ok-rs.ensures.cols (c.as_slice.ensures.value ∙ c.in_ok-sorted.ensures) in
    rw (p.1, p.2) (λ other. subst (λ n. 1000000 < n) count (c.in_err-found.ensures.err other))

pub of-joined-requires-clause-wide : goal.of-joined-requires-clause-wide
of-joined-requires-clause-wide c = λ k d lt.
    are-wide c.args.typed.now.left c.args.left.now.records c.requires.left.fit k d lt
    ∙ sym (ap length (c.columns.ensures.columns ∙ ap (λ (t : Fitting). t.left.columns) c.typed.view_is))

pub of-joined-requires-clause-stand : goal.of-joined-requires-clause-stand
of-joined-requires-clause-stand c =
    subst (All (Stands c.args.left.now.records c.args.right.now.records)) (sym c.as_slice-3.ensures.value)
    (stand-is c.in_ok-ls.ls c.in_ok-rs.rs c.args.typed.now c.args.left.now c.args.right.now c.as_slice.result.now c.requires.left c.requires.right
    (record { table = c.in_ok-ls.ensures.rows; places = c.in_ok-ls.ensures.places; one = c.requires.left_once })
    (record { table = c.in_ok-rs.ensures.rows; places = c.in_ok-rs.ensures.places; one = c.requires.right_once })
    c.in_ok-ls.ensures.cols c.in_ok-rs.ensures.cols (c.as_slice.ensures.value ∙ c.in_ok-sorted.ensures)
    (map told c.in_ok-found.found.items) c.in_ok-matches.matches.items c.in_ok-found.ensures.ok (rw c.as_slice-2.ensures.value at c.in_ok-matches.ensures))

pub rows_over-requires-clause-fit : goal.rows_over-requires-clause-fit
rows_over-requires-clause-fit c =
    let fit = fit-is c.in_ok-ls.ls c.in_ok-rs.rs c.args.typed.now c.args.left.now c.args.right.now c.as_slice.result.now c.requires.left c.requires.right
    (record { table = c.in_ok-ls.ensures.rows; places = c.in_ok-ls.ensures.places; one = c.requires.left_once })
    (record { table = c.in_ok-rs.ensures.rows; places = c.in_ok-rs.ensures.places; one = c.requires.right_once })
    c.in_ok-ls.ensures.cols c.in_ok-rs.ensures.cols (c.as_slice.ensures.value ∙ c.in_ok-sorted.ensures)
    (map told c.in_ok-found.found.items) c.as_slice-3.result.now c.in_ok-found.ensures.ok
    (c.as_slice-3.ensures.value ∙ (rw c.as_slice-2.ensures.value at c.in_ok-matches.ensures)) in
    let columns : c.as_slice-4.result.now ≡ (side_by_side c.args.typed.now.left c.args.typed.now.right).columns =
    c.as_slice-4.ensures.value ∙ c.typed.invariant.1 ∙ ap (λ (t : Fitting). (side_by_side t.left t.right).columns) c.typed.view_is in
    rw (columns, c.of-joined.ensures) fit

pub returns-clause-few : goal.returns-clause-few
returns-clause-few c =
    let count = count-is c.in_ok-ls.ls c.in_ok-rs.rs c.args.typed.now c.args.left.now c.args.right.now c.as_slice.result.now c.requires.left c.requires.right
    (record { table = c.in_ok-ls.ensures.rows; places = c.in_ok-ls.ensures.places; one = c.requires.left_once })
    (record { table = c.in_ok-rs.ensures.rows; places = c.in_ok-rs.ensures.places; one = c.requires.right_once })
    c.in_ok-ls.ensures.cols c.in_ok-rs.ensures.cols (c.as_slice.ensures.value ∙ c.in_ok-sorted.ensures) in
    subst (λ n. n ≤ 1000000) count c.in_ok-found.ensures.few

pub returns-clause-rows : goal.returns-clause-rows
returns-clause-rows c =
    let same = rows-are c.in_ok-ls.ls c.in_ok-rs.rs c.args.typed.now c.args.left.now c.args.right.now c.as_slice.result.now c.requires.left c.requires.right
    (record { table = c.in_ok-ls.ensures.rows; places = c.in_ok-ls.ensures.places; one = c.requires.left_once })
    (record { table = c.in_ok-rs.ensures.rows; places = c.in_ok-rs.ensures.places; one = c.requires.right_once })
    c.in_ok-ls.ensures.cols c.in_ok-rs.ensures.cols (c.as_slice.ensures.value ∙ c.in_ok-sorted.ensures)
    (map told c.in_ok-found.found.items) c.as_slice-3.result.now c.in_ok-found.ensures.ok
    (c.as_slice-3.ensures.value ∙ (rw c.as_slice-2.ensures.value at c.in_ok-matches.ensures)) in
    let columns : c.as_slice-4.result.now ≡ (side_by_side c.args.typed.now.left c.args.typed.now.right).columns =
    c.as_slice-4.ensures.value ∙ c.typed.invariant.1 ∙ ap (λ (t : Fitting). (side_by_side t.left t.right).columns) c.typed.view_is in
    let query : c.typed.inside.wide ≡ as_query c.args.typed.now.join = c.typed.invariant.0 ∙ ap (λ (t : Fitting). as_query t.join) c.typed.view_is in
    c.in_ok-rows.ensures unrelated
    ∙ ap₂ (λ q cs. answer q (record { columns = cs; key = [] }) unrelated (map (in_version 0) c.of-joined.result)) query columns
    ∙ ap (answer (as_query c.args.typed.now.join) (side_by_side c.args.typed.now.left c.args.typed.now.right) unrelated) (ap (map (in_version 0)) c.of-joined.ensures ∙ same)
