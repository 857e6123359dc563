use Rattle.ov_model.specs.Registry.{users_name}
use Rattle.ov_model.specs.World.{set_named}
use Rattle.ov_store.specs.Scanning.{set_in}
use Rattle.std.proofs.Common.{◌≡◌, ◌∙◌, true, sym, ap}
use Rattle.ov_value.specs.Naming.{is_name}
use Rattle.ov_staging.proofs.Told.{configured_by, configured_told, first_none, match_of, own_so}
use Rattle.ov_staging.proofs.users.config.Goals as goal

pub returns-then-not-is_name-clause-world : goal.returns-then-not-is_name-clause-world
returns-then-not-is_name-clause-world g c = λ w at.
    match_of _ c.unnamed.result (c.unnamed.ensures.world w (g.H.Host.state c.args.host.now) at) c.unnamed.ensures.memory

pub returns-in-Ok-clause-reply : goal.returns-in-Ok-clause-reply
returns-in-Ok-clause-reply g c =
    let named : is_name c.args.name ≡ true = ap is_name (sym c.as_str.ensures.text) ∙ sym c.is_name.ensures ∙ c.if-not-is_name.false
    in configured_by c.args.name (set_in c.args.store.now.held.numbers users_name) (g.H.Host.state c.args.host.now) c.in-Ok.found c.configured.result named c.configured.ensures
    c.in-Ok.ensures.own c.in-Ok.ensures.last

pub returns-in-Ok-clause-whole : goal.returns-in-Ok-clause-whole
returns-in-Ok-clause-whole g c = λ page told none. c.in-Ok.ensures.whole page told (own_so _ (first_none _ _ none))

pub returns-in-Ok-clause-world : goal.returns-in-Ok-clause-world
returns-in-Ok-clause-world g c = λ w at.
    let named : is_name c.args.name ≡ true = ap is_name (sym c.as_str.ensures.text) ∙ sym c.is_name.ensures ∙ c.if-not-is_name.false
    in configured_told c.args.name (set_named w users_name) c.in-Ok.found c.configured.result named c.configured.ensures (c.in-Ok.ensures.world w at)
