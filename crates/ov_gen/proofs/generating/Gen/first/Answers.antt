use Rattle.std.proofs.Common.{◌≡◌, ◌+◌, arith, sym, ap}
use Rattle.ov_gen.specs.Versions.{Source}
use Rattle.ov_gen.proofs.Growing.{begin-fresh}
use Rattle.ov_gen.proofs.Fitting.{begin-fits, begin-ordered, begin-short}
use Rattle.ov_gen.proofs.generating.Gen.first.Goals as goal

pub returns-clause-grown : goal.returns-clause-grown
returns-clause-grown c =
    let same : c.args.self.now.rows ≡ c.self.inside.rows = sym (ap (λ (s : Source). s.rows) c.self.view_is) in
    rw (c.in_ok-rows.ensures.rows, same) (begin-fresh c.self.inside.rows 1 (c.self.inside.rows + 2) c.self.inside.state)

pub returns-clause-fit : goal.returns-clause-fit
returns-clause-fit c = begin-fits c.args.self.now.rows 1 (c.args.self.now.rows + 2) c.in_ok-rows.rows.items (omega (arith, c.self.ranges, ap (λ (s : Source). s.rows) c.self.view_is)) (omega (arith, c.self.ranges, ap (λ (s : Source). s.rows) c.self.view_is)) (returns-clause-grown c)

pub returns-clause-short : goal.returns-clause-short
returns-clause-short c = begin-short c.args.self.now.rows 1 (c.args.self.now.rows + 2) c.in_ok-rows.rows.items (omega (arith, c.self.ranges, ap (λ (s : Source). s.rows) c.self.view_is)) (omega (arith, c.self.ranges, ap (λ (s : Source). s.rows) c.self.view_is)) (returns-clause-grown c)

pub returns-clause-ordered : goal.returns-clause-ordered
returns-clause-ordered c = begin-ordered c.args.self.now.rows 1 (c.args.self.now.rows + 2) c.in_ok-rows.rows.items (returns-clause-grown c)
