use Rattle.std.proofs.Common.{sym, ◌∙◌, ap}
use Rattle.ov_host.specs.Disk.{Stored, settled}
use Rattle.ov_publish.proofs.laws.a_step_may_follow.Goals as goal

pub returns-clause-rest : goal.returns-clause-rest
returns-clause-rest c payloads final printed numbers s is =
    record { told = is.at.told; rest = is.rest ∙ ap settled (sym (ap (λ (a : Stored). a.bytes) is.rest)) }

pub returns-clause-pages : goal.returns-clause-pages
returns-clause-pages c payloads final printed numbers s is = ap (λ (a : Stored). a.bytes) is.rest
