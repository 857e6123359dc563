-- What is refused over rows side by side is the join's refusal.
use Rattle.std.proofs.Common.{◌≡◌, ◌∙◌, [], List, ap, ap₂, subst, sym}
use Rattle.std.specs.Prelude.{Result, IfSome, Err}
use Rattle.std.proofs.lemmas.Result.{err_from_is_err_and}
use Rattle.ov_value.specs.Shapes.{Shape}
use Rattle.ov_value.specs.declared.column.Kind.{Kind}
use Rattle.ov_model.specs.Joins.{join_kinds, kinds_in, side_by_side}
use Rattle.ov_model.specs.Kinds.{plain_place}
use Rattle.ov_model.specs.declared.refusal.Refusal.{Refusal}
use Rattle.ov_typing.specs.Refusing.{refusal_of}
use Rattle.ov_join.proofs.Refused.{join-fine, of-joins}
use Rattle.ov_join.proofs.Unrelated.{guard-free}
use Rattle.ov_join.proofs.typing.typed_join.Goals as goal

pub returns-in_err-kinds-clause-err : goal.returns-in_err-kinds-clause-err
returns-in_err-kinds-clause-err c =
    let p = err_from_is_err_and c.from_residual-in_err-kinds.result c.from_residual-in_err-kinds.ensures.1 in
    let same : kinds_in (plain_place c.without_key.result) c.args.query.now c.in_ok-wide.wide ≡ join_kinds c.args.query.now c.args.left.now c.args.right.now =
    ap₂ (λ (s : Shape) q. kinds_in (plain_place s) c.args.query.now q)
    (c.without_key.ensures ∙ ap (λ cs. record { columns = cs; key = [] }) (c.as_slice.ensures.value ∙ c.in_ok-columns.ensures)) c.in_ok-wide.ensures in
    rw (p.1, p.2) (subst (λ (k : Result (List Kind) Refusal). IfSome (refusal_of c.in_err-kinds.field-0.0) (λ refusal. k ≡ Err refusal)) same c.in_err-kinds.ensures)

pub returns-in_err-kinds-clause-of_joins : goal.returns-in_err-kinds-clause-of_joins
returns-in_err-kinds-clause-of_joins c =
    let p = err_from_is_err_and c.from_residual-in_err-kinds.result c.from_residual-in_err-kinds.ensures.1 in
    let same : kinds_in (plain_place c.without_key.result) c.args.query.now c.in_ok-wide.wide ≡ join_kinds c.args.query.now c.args.left.now c.args.right.now =
    ap₂ (λ (s : Shape) q. kinds_in (plain_place s) c.args.query.now q)
    (c.without_key.ensures ∙ ap (λ cs. record { columns = cs; key = [] }) (c.as_slice.ensures.value ∙ c.in_ok-columns.ensures)) c.in_ok-wide.ensures in
    rw (p.1, p.2)
    (of-joins c.in_err-kinds.field-0.0 (join_kinds c.args.query.now c.args.left.now c.args.right.now)
    (join-fine c.requires.0 c.args.query.now (side_by_side c.args.left.now c.args.right.now) c.requires.1)
    (subst (λ (k : Result (List Kind) Refusal). IfSome (refusal_of c.in_err-kinds.field-0.0) (λ refusal. k ≡ Err refusal)) same c.in_err-kinds.ensures))

pub invariant_of-result : goal.invariant_of-result
invariant_of-result c =
    let same : kinds_in (plain_place c.without_key.result) c.args.query.now c.in_ok-wide.wide ≡ join_kinds c.args.query.now c.args.left.now c.args.right.now =
    ap₂ (λ (s : Shape) q. kinds_in (plain_place s) c.args.query.now q)
    (c.without_key.ensures ∙ ap (λ cs. record { columns = cs; key = [] }) (c.as_slice.ensures.value ∙ c.in_ok-columns.ensures)) c.in_ok-wide.ensures in (
      c.in_ok-wide.ensures,
      c.in_ok-columns.ensures,
      sym same ∙ c.in_ok-kinds.ensures,
      guard-free _ c.requires.1.kept c.args.query.now.filter c.requires.1.filter_is,
    )
