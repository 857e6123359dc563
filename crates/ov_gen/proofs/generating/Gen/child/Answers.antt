use Rattle.std.proofs.Common.{◌≡◌, ◌+◌, ◌++◌, ◌∷◌, [], arith, sym, subst, ap, ◌∙◌}
use Rattle.ov_model.specs.Generator.{fresh_row}
use Rattle.ov_gen.specs.Versions.{Begin, IsRowOf, Source}
use Rattle.ov_gen.proofs.Growing.{begin-push, row-fresh}
use Rattle.ov_gen.proofs.Fitting.{begin-fits, begin-ordered, begin-short}
use Rattle.ov_gen.proofs.generating.Gen.child.Goals as goal

pub returns-clause-grown : goal.returns-clause-grown
returns-clause-grown c =
    let same : c.args.self.now.rows ≡ c.self.inside.rows = sym (ap (λ (s : Source). s.rows) c.self.view_is) in
    let count = c.args.self.now.rows in
    let end = count + c.args.vid in
    let kept : Begin count 1 end c.change_rows.new.rows.items = rw same (c.change_rows.ensures.kept (c.self.inside.rows + c.args.vid) (subst (λ n. Begin n 1 (n + c.args.vid) c.args.parent.items) same c.requires.parent)) in
    let id_is : c.from.result + c.from-2.result ≡ end = omega (arith, c.from.ensures, c.from-2.ensures, same) in
    let fresh : IsRowOf end c.in_ok-fresh_row.field-0 = subst (IsRowOf end) (sym (c.in_ok-fresh_row.ensures.row ∙ ap (λ n. (fresh_row n c.change_rows.new.state).is) id_is)) (row-fresh end c.change_rows.new.state) in
    let grown = begin-push count 1 end c.change_rows.new.rows.items c.in_ok-fresh_row.field-0 (omega (arith, c.requires.later)) kept fresh in
    let next : end + 1 ≡ count + (c.args.vid + 1) = omega arith in
    rw c.in_ok-push.ensures.items (subst (λ n. Begin count 1 n (c.change_rows.new.rows.items ++ c.in_ok-fresh_row.field-0 ∷ [])) next grown)

pub returns-clause-fit : goal.returns-clause-fit
returns-clause-fit c = begin-fits c.args.self.now.rows 1 (c.args.self.now.rows + (c.args.vid + 1)) c.push.new.self.items (omega (arith, c.self.ranges, ap (λ (s : Source). s.rows) c.self.view_is, c.ranges.vid.fits)) (omega (arith, c.self.ranges, ap (λ (s : Source). s.rows) c.self.view_is)) (returns-clause-grown c)

pub returns-clause-short : goal.returns-clause-short
returns-clause-short c = begin-short c.args.self.now.rows 1 (c.args.self.now.rows + (c.args.vid + 1)) c.push.new.self.items (omega (arith, c.self.ranges, ap (λ (s : Source). s.rows) c.self.view_is, c.ranges.vid.fits)) (omega (arith, c.self.ranges, ap (λ (s : Source). s.rows) c.self.view_is)) (returns-clause-grown c)

pub returns-clause-ordered : goal.returns-clause-ordered
returns-clause-ordered c = begin-ordered c.args.self.now.rows 1 (c.args.self.now.rows + (c.args.vid + 1)) c.push.new.self.items (returns-clause-grown c)
