use Rattle.std.proofs.Common.{◌≡◌, ◌*◌, Bool, is_ok, subst, arith}
use Rattle.ov_host.specs.declared.area.Area.TheVariants.{Pages}
use Rattle.ov_host.specs.Tape.{Plays, Writes}
use Rattle.ov_pages.proofs.WriteLemmas.{write_stops, write_grows, on_ok}
use Rattle.ov_pages.proofs.pages.Pages.put.Goals as goal

pub returns-clause-stops : goal.returns-clause-stops
returns-clause-stops g c = λ tells free d grows within.
    let place : c.from.result * 4096 ≡ 4096 * c.args.page = omega (arith, c.from.ensures) in
    let old = (g.H.Host.state c.args.host.now).tape in
    let new = (g.H.Host.state c.write.new.self).tape in
    write_stops free d (is_ok c.write.result) old new (4096 * c.args.page) c.args.bytes.now (c.requires.there tells) grows within (rw place at (c.write.ensures.call.plays tells))

pub returns-clause-grows : goal.returns-clause-grows
returns-clause-grows g c = on_ok c.write.result _ (λ ok tells free d grows within.
    let place : c.from.result * 4096 ≡ 4096 * c.args.page = omega (arith, c.from.ensures) in
    let old = (g.H.Host.state c.args.host.now).tape in
    let new = (g.H.Host.state c.write.new.self).tape in
    write_grows free d old new (4096 * c.args.page) c.args.bytes.now (c.requires.there tells) grows within (subst (λ (b : Bool). Plays (Writes Pages (4096 * c.args.page) c.args.bytes.now) b old new) ok (rw place at (c.write.ensures.call.plays tells))))
