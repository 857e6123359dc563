use Rattle.std.proofs.Common.{◌++◌, Some, sym, subst, take, arith}
use Rattle.ov_model.specs.Lists.{joined}
use Rattle.ov_records.specs.Records.{pairs_of, lists_of, RowsFit}
use Rattle.ov_parents.specs.Seeing.{Maps}
use Rattle.law_commits.proofs.Kept.{joined_more, none_more, is_first, is_none, none_disagrees}
use Rattle.law_commits.proofs.Same.{versions_agree}
use Rattle.ov_parents.proofs.Seen.{few_agree, joined_fit, one_row}
use Rattle.ov_parents.proofs.disagreeing.first_disagreeing.Goals as goal

pub returns-then-parents-lt2-clause-exactly : goal.returns-then-parents-lt2-clause-exactly
returns-then-parents-lt2-clause-exactly c = few_agree c.args.parents.now (omega (arith, c.if-parents-lt2.true)) c.requires.once

pub returns-then-branch-clause-exactly : goal.returns-then-branch-clause-exactly
returns-then-branch-clause-exactly c =
    let schema = c.requires.fit.0 in
    let parents = c.args.parents.now in
    let place = c.loop-place.place in
    let before = joined (take place (lists_of parents)) in
    is_first parents place c.index-parents-place.result c.loop-place-test.true c.index-parents-place.is c.loop-place.invariant.1
    (c.in_ok-see.ensures.clash schema before c.loop-place.invariant.0 (joined_fit schema place parents c.requires.fit.1)
    (subst (RowsFit schema) (sym c.index-parents-place.is) (c.requires.fit.1 place c.index-parents-place.result c.loop-place-test.true)) c.if-branch.true)

pub returns-then-branch-clause-versions : goal.returns-then-branch-clause-versions
returns-then-branch-clause-versions c = λ versions vids are.
    let schema = c.requires.fit.0 in
    let parents = c.args.parents.now in
    let place = c.loop-place.place in
    let before = joined (take place (lists_of parents)) in
    none_disagrees (lists_of parents) (Some place) (versions_agree versions vids parents are)
    (is_first parents place c.index-parents-place.result c.loop-place-test.true c.index-parents-place.is c.loop-place.invariant.1
    (c.in_ok-see.ensures.clash schema before c.loop-place.invariant.0 (joined_fit schema place parents c.requires.fit.1)
    (subst (RowsFit schema) (sym c.index-parents-place.is) (c.requires.fit.1 place c.index-parents-place.result c.loop-place-test.true)) c.if-branch.true))

pub loop-place-preserved : goal.loop-place-preserved
loop-place-preserved c =
    let schema = c.requires.fit.0 in
    let parents = c.args.parents.now in
    let place = c.loop-place.place in
    let p = c.index-parents-place.result in
    let low = c.loop-place-test.true in
    let is = c.index-parents-place.is in
    let before = joined (take place (lists_of parents)) in
    let maps : Maps (λ r. r) c.see.new.seen (before ++ pairs_of p) =
    c.in_ok-see.ensures.seen schema before c.loop-place.invariant.0 (joined_fit schema place parents c.requires.fit.1) (subst (RowsFit schema) (sym is) (c.requires.fit.1 place p low)) c.if-branch.false in (
      subst (Maps (λ r. r) c.see.new.seen) (joined_more parents place p low is) maps,
      none_more parents place p low is c.loop-place.invariant.1 (one_row (λ r. r) c.see.new.seen (before ++ pairs_of p) maps),
    )

pub returns-clause-exactly : goal.returns-clause-exactly
returns-clause-exactly c =
    let parents = c.args.parents.now in
    let place = c.loop-place.place in
    is_none parents place (omega (arith, c.loop-place-test.false)) (one_row (λ r. r) c.loop-place.seen (joined (take place (lists_of parents))) c.loop-place.invariant.0)
