-- The source's lineages stand first, then WHERE's, then HAVING's.
use Rattle.std.proofs.Common.{◌∙◌, ◌++◌, length}
use Rattle.ov_model.specs.Asking.{guard_lineages, source_lineages}
use Rattle.ov_lineage.specs.Resolved.{refusal_of}
use Rattle.ov_lineage.proofs.Saying.{IfSome-weaker, refuses-by, missing-behind, missing-front, resolved-is}
use Rattle.ov_lineage.proofs.resolving.resolve.Goals as goal

pub returns-in_err-filter-clause-refused : goal.returns-in_err-filter-clause-refused
returns-in_err-filter-clause-refused c =
    let query = c.args.query.now in
    let count = length c.args.lineage.now in
    refuses-by c.from_residual-in_err-filter.result c.in_err-filter.field-0.0 _ c.from_residual-in_err-filter.ensures.1
    (IfSome-weaker (refusal_of c.in_err-filter.field-0.0) _ _
    (λ first here.
    missing-behind count (source_lineages query.source) (guard_lineages query.filter ++ guard_lineages query.having) c.in_ok-source.ensures.refused
    ∙ missing-front count (guard_lineages query.filter) (guard_lineages query.having) first here)
    c.in_err-filter.ensures.refused)

pub returns-in_err-having-clause-refused : goal.returns-in_err-having-clause-refused
returns-in_err-having-clause-refused c =
    let query = c.args.query.now in
    let count = length c.args.lineage.now in
    refuses-by c.from_residual-in_err-having.result c.in_err-having.field-0.0 _ c.from_residual-in_err-having.ensures.1
    (IfSome-weaker (refusal_of c.in_err-having.field-0.0) _ _
    (λ first here.
    missing-behind count (source_lineages query.source) (guard_lineages query.filter ++ guard_lineages query.having) c.in_ok-source.ensures.refused
    ∙ missing-behind count (guard_lineages query.filter) (guard_lineages query.having) c.in_ok-filter.ensures.refused ∙ here)
    c.in_err-having.ensures.refused)

pub returns-clause-resolved : goal.returns-clause-resolved
returns-clause-resolved c =
    rw (c.in_ok-items.ensures, c.in_ok-groups.ensures, c.as_slice.ensures, c.in_ok-order.ensures, c.as_slice-2.ensures)
    (resolved-is c.args.lineage.now c.args.query.now c.in_ok-source.source c.in_ok-filter.filter c.in_ok-having.having
    c.in_ok-source.ensures.said c.in_ok-filter.ensures.said c.in_ok-having.ensures.said)

pub returns-clause-refused : goal.returns-clause-refused
returns-clause-refused c =
    let query = c.args.query.now in
    let count = length c.args.lineage.now in
    missing-behind count (source_lineages query.source) (guard_lineages query.filter ++ guard_lineages query.having) c.in_ok-source.ensures.refused
    ∙ missing-behind count (guard_lineages query.filter) (guard_lineages query.having) c.in_ok-filter.ensures.refused ∙ c.in_ok-having.ensures.refused
