use Rattle.std.proofs.Common.{rules}
use Rattle.ov_open.specs.Opening.{IsOutside}
use Rattle.ov_store.proofs.store.Store.open.Goals as goal

pub returns-in_err-open-clause-world : goal.returns-in_err-open-clause-world
returns-in_err-open-clause-world g c = λ w tells stands.
    let fact : IsOutside c.in_err-open.field-0.0 = c.in_err-open.ensures.world w tells stands
    in search (rules, fact)
