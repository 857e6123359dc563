use Rattle.std.proofs.Common.{◌≡◌, ◌∙◌, true, false, sym, ap, refl, subst}
use Rattle.law_runs.proofs.Doing.{does_told}
use Rattle.ov_model.specs.Deed.{create_user_deed}
use Rattle.ov_model.specs.Registry.{users_name}
use Rattle.ov_model.specs.World.{set_named}
use Rattle.ov_model.specs.declared.refusal.Refusal.TheVariants as no
use Rattle.ov_model.specs.declared.reply.Reply.TheVariants as says
use Rattle.ov_store.specs.Scanning.{set_in}
use Rattle.ov_value.specs.Naming.{is_name}
use Rattle.ov_staging.specs.Errors.{Acts}
use Rattle.ov_staging.proofs.Acted.{create_is, unnamed_is}
use Rattle.ov_staging.proofs.Looks.{map_ok}
use Rattle.ov_staging.proofs.Told.{named_off}
use Rattle.ov_staging.proofs.users.create_user.Goals as goal

pub returns-then-is_name-clause-unread : goal.returns-then-is_name-clause-unread
returns-then-is_name-clause-unread g c = λ refusal is.
    let named : is_name c.args.name ≡ true = ap is_name (sym c.as_str.ensures.text) ∙ sym c.is_name.ensures ∙ c.if-is_name.true
    in c.changed.ensures.unread refusal (sym (named_off c.args.name (set_in c.args.store.now.held.numbers users_name) named) ∙ is)

pub returns-then-is_name-clause-whole : goal.returns-then-is_name-clause-whole
returns-then-is_name-clause-whole g c = λ page told.
    let named : is_name c.args.name ≡ true = ap is_name (sym c.as_str.ensures.text) ∙ sym c.is_name.ensures ∙ c.if-is_name.true
    in map_ok _ _ c.changed.result (λ clear none. clear (sym (named_off c.args.name (set_in c.args.store.now.held.numbers users_name) named) ∙ none))
    (c.changed.ensures.whole page told)

pub returns-then-is_name-clause-acts : goal.returns-then-is_name-clause-acts
returns-then-is_name-clause-acts g c = λ w s at.
    let named : is_name c.args.name ≡ true = ap is_name (sym c.as_str.ensures.text) ∙ sym c.is_name.ensures ∙ c.if-is_name.true
    in subst (λ d. Acts d s w c.changed.result c.args.store.now.held c.changed.new.store.held (g.H.Host.state c.args.host.now) (g.H.Host.state c.changed.new.host))
    (create_is w s c.args.name (set_named w users_name) named) (c.changed.ensures.acts w s at)

pub returns-clause-acts : goal.returns-clause-acts
returns-clause-acts g c = λ w s at.
    let old = g.H.Host.state c.args.host.now
    in let bad : is_name c.args.name ≡ false = ap is_name (sym c.as_str.ensures.text) ∙ sym c.is_name.ensures ∙ c.if-is_name.false
    in does_told (create_user_deed w s c.args.name (set_named w users_name)) s s w (says.Refused (no.BadName c.args.name)) c.args.store.now.held old old
    (unnamed_is w s c.args.name (set_named w users_name) bad) at refl refl
