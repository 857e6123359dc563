use Rattle.std.proofs.Common.{◌≤◌, ◌<◌, ◌+◌, ◌^◌, ℕ, List, drop, sym, ◌∙◌, subst, inl, inr, arith}
use Rattle.std.proofs.lemmas.Bool.{false≢true, le-ltb, lt-ltb}
use Rattle.ov_gen.specs.Versions.{Begin}
use Rattle.ov_model.specs.Book.{Row}
use Rattle.ov_generate.specs.Rows.{IsNextRow}
use Rattle.ov_generate.proofs.Growing.{Rest, either, end_past, none_at, rest_end, rest_more, rest_none, rest_same, row_at}
use Rattle.ov_generate.proofs.rows.are_grown.Goals as goal

pub returns-in-None : goal.returns-in-None
returns-in-None c =
    let rows = c.args.rows.now
    in let end = c.from-count.result + c.from.result
    in let at = row_at rows c.loop-row.row-index c.row-item.result c.loop-row-test.true c.row-item.is
    in let low : c.args.count < end = omega (arith, c.loop-row.invariant.end_is, c.requires.later)
    in let high : end ≤ 2 ^ 63 = omega (arith, c.loop-row.invariant.end_is, c.ranges.count.fits, c.ranges.vid.fits)
    in let none : (id : ℕ) → IsNextRow c.args.count c.loop-row.next end id c.row-item.result → ⊥
    = subst (λ n. (id : ℕ) → IsNextRow n c.loop-row.next end id c.row-item.result → ⊥) c.from-count.ensures c.in-None.ensures
    in (
      λ no. absurd (false≢true no),
      λ grown.
          let all : Begin c.args.count 1 end rows = subst (λ n. Begin c.args.count 1 n rows) (sym c.loop-row.invariant.end_is) grown
          in absurd (rest_none c.args.count c.loop-row.next end c.row-item.result (drop (c.loop-row.row-index + 1) rows) low high none
          (subst (λ (l : List Row). Rest c.args.count c.loop-row.next end l) at (c.loop-row.invariant.to all))),
    )

pub loop-row-preserved : goal.loop-row-preserved
loop-row-preserved c =
    let rows = c.args.rows.now
    in let end = c.from-count.result + c.from.result
    in let at = row_at rows c.loop-row.row-index c.row-item.result c.loop-row-test.true c.row-item.is
    in let low : c.args.count < end = omega (arith, c.loop-row.invariant.end_is, c.requires.later)
    in let high : end ≤ 2 ^ 63 = omega (arith, c.loop-row.invariant.end_is, c.ranges.count.fits, c.ranges.vid.fits)
    in let is : IsNextRow c.args.count c.loop-row.next end c.in-Some.id c.row-item.result
    = subst (λ n. IsNextRow n c.loop-row.next end c.in-Some.id c.row-item.result) c.from-count.ensures c.in-Some.ensures
    in record {
      some = omega arith;
      low = omega (arith, is.follows.below);
      end_is = c.loop-row.invariant.end_is;
      to = λ all.
          rest_same c.args.count c.loop-row.next end c.in-Some.id c.row-item.result (drop (c.loop-row.row-index + 1) rows) low high is
          (subst (λ (l : List Row). Rest c.args.count c.loop-row.next end l) at (c.loop-row.invariant.to all));
      back = λ rest.
          c.loop-row.invariant.back (subst (λ (l : List Row). Rest c.args.count c.loop-row.next end l) (sym at)
          (rest_more c.args.count c.loop-row.next end c.in-Some.id c.row-item.result (drop (c.loop-row.row-index + 1) rows) is rest));
    }

pub returns : goal.returns
returns c =
    let rows = c.args.rows.now
    in let end = c.from-count.result + c.from.result
    in let none = none_at rows c.loop-row.row-index c.loop-row-test.false
    in (
      λ yes.
          let past : c.args.count < c.loop-row.next
          = elim (either c.args.count c.loop-row.next) [
            | inl within ↦ absurd (false≢true (sym (le-ltb c.from-count.result c.loop-row.next (omega (arith, within, c.from-count.ensures))) ∙ yes))
            | inr past ↦ past
          ]
          in subst (λ n. Begin c.args.count 1 n rows) c.loop-row.invariant.end_is
          (c.loop-row.invariant.back (subst (λ (l : List Row). Rest c.args.count c.loop-row.next end l) (sym none) (rest_end c.args.count c.loop-row.next end past))),
      λ grown.
          let all : Begin c.args.count 1 end rows = subst (λ n. Begin c.args.count 1 n rows) (sym c.loop-row.invariant.end_is) grown
          in let past : c.args.count < c.loop-row.next
          = end_past c.args.count c.loop-row.next end (subst (λ (l : List Row). Rest c.args.count c.loop-row.next end l) none (c.loop-row.invariant.to all))
          in lt-ltb c.from-count.result c.loop-row.next (omega (arith, past, c.from-count.ensures)),
    )
