use Rattle.std.proofs.Common.{◌∙◌, inl, subst}
use Rattle.std.specs.Prelude.{IfOk}
use Rattle.law_runs.proofs.Doing.{breaks_looked}
use Rattle.ov_model.specs.World.{set_named}
use Rattle.ov_model.specs.declared.reply.Reply.{Reply}
use Rattle.ov_registry.specs.Last.{name_of}
use Rattle.ov_store.proofs.Finishing.{may_call_later}
use Rattle.ov_store.proofs.Journals.{looked_by}
use Rattle.ov_store.proofs.Looking.{looked_at}
use Rattle.ov_store.specs.Scanning.{set_in}
use Rattle.ov_staging.specs.Changing.{IsKeptBy, change_deed, next_deed}
use Rattle.ov_staging.specs.Deciding.{change_of, said_of}
use Rattle.ov_staging.specs.Errors.{Acts}
use Rattle.ov_staging.proofs.Acted.{acts_behind, next_is}
use Rattle.ov_staging.proofs.Behind.{answered_as, is_said, kept_ends}
use Rattle.ov_staging.proofs.Looks.{end_wider, looked_stays, map_err, on_any, stays_later}
use Rattle.ov_staging.proofs.answering.changed.Goals as goal

pub keep-requires-clause-call : goal.keep-requires-clause-call
keep-requires-clause-call g c =
    may_call_later c.args.store.now (g.H.Host.state c.args.host.now) (g.H.Host.state c.next_of.new.host) c.next_of.ensures.looked c.requires.call

pub returns-in-Ok-clause-unread : goal.returns-in-Ok-clause-unread
returns-in-Ok-clause-unread g c = λ refusal is.
    let read = c.in-Ok.ensures.unread refusal is
    in let kept = c.keep.ensures.unread refusal read.1
    in (kept.0 ∙ read.0, is_said c.keep.result refusal kept.1)

pub returns-in-Ok-clause-done : goal.returns-in-Ok-clause-done
returns-in-Ok-clause-done g c =
    let set = set_in c.args.store.now.held.numbers (name_of c.args.which)
    in let old = g.H.Host.state c.args.host.now
    in let mid = g.H.Host.state c.next_of.new.host
    in let new = g.H.Host.state c.keep.new.host
    in let said = said_of c.args.asked
    in let kept : IfOk c.keep.result (λ reply. IsKeptBy c.args.which set c.in-Ok.next said reply c.args.store.now c.keep.new.store mid new)
    = subst (λ (x : Reply). IfOk c.keep.result (λ reply. IsKeptBy c.args.which set c.in-Ok.next x reply c.args.store.now c.keep.new.store mid new)) c.said_of.ensures c.keep.ensures.done
    in answered_as c.args.which (change_of c.args.asked) c.args.store.now c.keep.new.store old mid new c.next_of.ensures.looked set said c.in-Ok.next c.keep.result c.in-Ok.ensures.next kept

pub returns-in-Ok-clause-why : goal.returns-in-Ok-clause-why
returns-in-Ok-clause-why g c =
    kept_ends c.args.which (change_of c.args.asked) c.args.store.now c.keep.new.store (g.H.Host.state c.args.host.now) (g.H.Host.state c.next_of.new.host)
    (g.H.Host.state c.keep.new.host) c.next_of.ensures.looked (set_in c.args.store.now.held.numbers (name_of c.args.which)) c.in-Ok.ensures.whole
    c.in-Ok.next c.keep.result c.in-Ok.ensures.next c.keep.ensures.stays c.keep.ensures.why

pub returns-in-Ok-clause-whole : goal.returns-in-Ok-clause-whole
returns-in-Ok-clause-whole g c = λ page told. on_any _ c.keep.result (c.in-Ok.ensures.whole page told)

pub returns-in-Ok-clause-stays : goal.returns-in-Ok-clause-stays
returns-in-Ok-clause-stays g c =
    map_err _ _ c.keep.result
    (λ e is. stays_later e c.args.store.now c.keep.new.store (g.H.Host.state c.args.host.now) (g.H.Host.state c.next_of.new.host) (g.H.Host.state c.keep.new.host)
    c.next_of.ensures.looked is)
    c.keep.ensures.stays

pub returns-in-Ok-clause-by_journal : goal.returns-in-Ok-clause-by_journal
returns-in-Ok-clause-by_journal g c = λ by.
    c.keep.ensures.by_journal
    (looked_by c.args.store.now.held (g.H.Host.state c.args.host.now) (g.H.Host.state c.next_of.new.host) c.next_of.ensures.looked by)

pub returns-in-Ok-clause-undamaged : goal.returns-in-Ok-clause-undamaged
returns-in-Ok-clause-undamaged g c = λ w at.
    c.keep.ensures.undamaged w
    (looked_at w c.args.store.now.held (g.H.Host.state c.args.host.now) (g.H.Host.state c.next_of.new.host) c.next_of.ensures.looked at)

pub returns-in-Ok-clause-acts : goal.returns-in-Ok-clause-acts
returns-in-Ok-clause-acts g c = λ w s at.
    let old = g.H.Host.state c.args.host.now
    in let mid = g.H.Host.state c.next_of.new.host
    in let new = g.H.Host.state c.keep.new.host
    in let before = c.args.store.now.held
    in let now = c.keep.new.store.held
    in let said = said_of c.args.asked
    in let change = change_of c.args.asked
    in let there = looked_at w before old mid c.next_of.ensures.looked at
    in let made = subst (λ (x : Reply). Acts (next_deed w s c.args.which c.in-Ok.next x) s w c.keep.result before now mid new) c.said_of.ensures (c.keep.ensures.acts w s there)
    in acts_behind (change_deed w s c.args.which change said (set_named w (name_of c.args.which))) s w before now old mid new (c.next_of.ensures.looked.tape at.at.told) c.keep.result
    (subst (λ d. Acts d s w c.keep.result before now mid new) (next_is w s c.args.which change said c.in-Ok.next (c.in-Ok.ensures.world w at)) made)

pub returns-in-Err-clause-why : goal.returns-in-Err-clause-why
returns-in-Err-clause-why g c =
    end_wider _ _ (g.H.Host.state c.args.host.now) (g.H.Host.state c.next_of.new.host) c.in-Err.off (λ page is. (is.0, inl is.1)) c.in-Err.ensures.why

pub returns-in-Err-clause-stays : goal.returns-in-Err-clause-stays
returns-in-Err-clause-stays g c =
    looked_stays c.in-Err.off c.args.store.now (g.H.Host.state c.args.host.now) (g.H.Host.state c.next_of.new.host) c.next_of.ensures.looked

pub returns-in-Err-clause-acts : goal.returns-in-Err-clause-acts
returns-in-Err-clause-acts g c = λ w s at.
    breaks_looked (change_deed w s c.args.which (change_of c.args.asked) (said_of c.args.asked) (set_named w (name_of c.args.which))) s w c.args.store.now.held
    (g.H.Host.state c.args.host.now) (g.H.Host.state c.next_of.new.host) at (c.next_of.ensures.looked.tape at.at.told)
