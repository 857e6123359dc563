use Rattle.std.proofs.Common.{ℕ, List, is_ok, subst}
use Rattle.std.proofs.lemmas.List.{take-replicate}
use Rattle.ov_host.specs.declared.area.Area.TheVariants.{Pages}
use Rattle.ov_host.specs.Host.{Calls}
use Rattle.ov_host.specs.Tape.{Writes}
use Rattle.ov_publish.proofs.put.write_zeros.Goals as goal

pub returns-clause-call : goal.returns-clause-call
returns-clause-call g c =
    let C : List ℕ → Type 0 = λ x. Calls (Writes Pages c.args.at x) (is_ok c.write.result) (g.H.Host.state c.args.host.now) (g.H.Host.state c.write.new.self)
    in subst C (take-replicate c.args.count 4096 0 c.requires.few) c.write.ensures.call
