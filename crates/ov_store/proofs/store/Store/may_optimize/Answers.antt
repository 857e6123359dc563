use Rattle.std.proofs.Common.{rules}
use Rattle.ov_store.specs.Planning.{IsPlanRefused, optimize_refused}
use Rattle.ov_store.proofs.Plans.{world_allows, world_refuses}
use Rattle.ov_store.proofs.store.Store.may_optimize.Goals as goal

pub returns-in_err-_d-clause-world : goal.returns-in_err-_d-clause-world
returns-in_err-_d-clause-world c = λ w s at.
    let fact : IsPlanRefused c.args.name.now (optimize_refused w c.args.name.now c.args.p c.args.q) c.in_err-_d.field-0.0
    = world_refuses w c.args.self.now.held s at c.args.name.now c.args.p c.args.q c.in_err-_d.field-0.0 c.in_err-_d.ensures.why
    in search (rules, fact)

pub returns-clause-world : goal.returns-clause-world
returns-clause-world c = λ w s at. world_allows w c.args.self.now.held s at c.args.name.now c.args.p c.args.q c.in_ok-_d.ensures.allowed
