use Rattle.std.proofs.Common.{◌≡◌, ◌∙◌, ◌+◌, ℕ, List, [], None, Some, true, false, refl, sym, subst, arith}
use Rattle.std.specs.Prelude.{IfErr, Result}
use Rattle.law_runs.specs.Serving.{session_of}
use Rattle.ov_model.specs.Act.{Deed, repeated_key}
use Rattle.ov_model.specs.Book.{Row}
use Rattle.ov_model.specs.Deed.{permitted}
use Rattle.ov_model.specs.Registry.{stage_name, stage_schema}
use Rattle.ov_model.specs.declared.command.Command.TheVariants as asks
use Rattle.ov_registry.specs.Last.{IsLastDamaged, bytes_in, is_foreign_in, last_vid}
use Rattle.ov_staging.specs.Changing.{IfNext}
use Rattle.ov_staging.specs.Taking.{IsTakenBy, IsTakenIn, stage_change, stage_off, staged_row}
use Rattle.ov_store.proofs.Finishing.{may_call_later}
use Rattle.ov_store.proofs.Looking.{looked_at}
use Rattle.ov_store.specs.Scanning.{set_in}
use Rattle.ov_session.proofs.Bounds.{fetched_allowed, off_there}
use Rattle.ov_session.proofs.Keeping.{acts_later}
use Rattle.ov_session.proofs.Numbering.{journal_looked}
use Rattle.ov_session.proofs.Putting.{at_then, behind_then, listed_none, look_ended, look_forgot, look_refused, rose_then, taken_damaged, taken_fileless, taken_look}
use Rattle.ov_session.proofs.Replying.{seen_missed}
use Rattle.ov_session.proofs.Standing.{on_any}
use Rattle.ov_model.specs.declared.reply.Reply.{Reply}
use Rattle.ov_session.specs.Commands.{Acts, IsDamageOf}
use Rattle.ov_session.specs.Serving.{IsServed}
use Rattle.ov_session.specs.declared.errors.EndErr.{EndErr}
use Rattle.ov_session.specs.Staging.{IsPutDamaged, keeps}
use Rattle.ov_session.proofs.staging.stage_table.Goals as goal

pub put_table-requires-clause-call : goal.put_table-requires-clause-call
put_table-requires-clause-call g c =
    may_call_later c.args.store.now (g.H.Host.state c.args.host.now) (g.H.Host.state c.may_stage.new.host) c.may_stage.ensures.looked c.requires.call

pub put_table-requires-clause-own : goal.put_table-requires-clause-own
put_table-requires-clause-own g c =
    subst (IfNext (λ rows. is_foreign_in stage_schema (set_in c.args.store.now.held.numbers stage_name) ≡ false)) c.in-Ok-Rows.field-0-is c.in-Ok-Rows.ensures.own

pub put_table-requires-clause-once : goal.put_table-requires-clause-once
put_table-requires-clause-once g c =
    subst (λ (l : List Row). repeated_key stage_schema [] 1 l ≡ None) (sym c.as_slice.ensures.value)
    (subst (IfNext (λ rows. repeated_key stage_schema [] 1 rows ≡ None)) c.in-Ok-Rows.field-0-is c.in-Ok-Rows.ensures.once)

pub put_table-requires-clause-listed : goal.put_table-requires-clause-listed
put_table-requires-clause-listed g c =
    let n = c.args.store.now.held.numbers
    in let by = subst (IsTakenBy (stage_off n c.args.cvd c.args.vids.now c.args.table.now)
    (stage_change c.args.user.now c.args.table.now (staged_row n c.args.user.now c.args.cvd c.args.vids.now c.args.table.now)) (set_in n stage_name)
    (g.H.Host.state c.args.host.now)) c.in-Ok-Rows.field-0-is c.in-Ok-Rows.ensures.next
    in listed_none n c.args.cvd c.args.vids.now c.args.table.now by.0

pub returns-in-Ok : goal.returns-in-Ok
returns-in-Ok g c = λ named.
    let user = c.args.user.now
    in let cvd = c.args.cvd
    in let vids = c.args.vids.now
    in let table = c.args.table.now
    in let before = c.args.store.now
    in let now = c.put_table.new.store
    in let n = before.held.numbers
    in let set = set_in n stage_name
    in let old = g.H.Host.state c.args.host.now
    in let mid = g.H.Host.state c.may_stage.new.host
    in let new = g.H.Host.state c.put_table.new.host
    in let stage = g.T.Stage.staged c.args.stage.now
    in let staged = g.T.Stage.staged c.put_table.new.stage
    in let r = c.put_table.result
    in let f = c.put_table.ensures
    in let looked = c.may_stage.ensures.looked
    in let rows = c.in-Ok-Rows.rows.items
    in let by = subst (IsTakenBy (stage_off n cvd vids table) (stage_change user table (staged_row n user cvd vids table)) set old) c.in-Ok-Rows.field-0-is c.in-Ok-Rows.ensures.next
    in let none : stage_off n cvd vids table ≡ None = by.0
    in let whole : (page : ℕ) → old.tells ≡ true → IsLastDamaged set old page → ⊥ = λ page told. c.in-Ok-Rows.ensures.whole page told none
    in let bytes = bytes_in set (last_vid set) + (bytes_in (set_in n cvd) vids + bytes_in set (last_vid set))
    in record {
      goes = record {
        told = f.goes.told ∙ looked.told;
        kept = f.goes.kept ∙ looked.kept;
        faults = omega (arith, looked.faults, f.goes.faults);
        fetched = omega (arith, looked.fetched, f.goes.fetched);
      };
      attended = f.attended;
      still = λ reads. absurd reads;
      fetched = fetched_allowed (stage_off n cvd vids table) bytes old.fetched new.fetched (omega (arith, c.may_stage.ensures.fetched, f.fetched))
          (λ refusal is. let two : None ≡ Some refusal = sym none ∙ is in absurd cc);
      unread = λ is. let there = off_there (stage_off n cvd vids table) is in let two : None ≡ Some there.0 = sym none ∙ there.1 in absurd cc;
      cause = λ is. rose_then old.faults mid.faults new.faults looked.faults (f.cause is);
      stage_cause = f.stage;
      damaged = taken_damaged cvd vids table named user stage before.held now.held rows by.1 before now stage staged old mid new r none looked whole by.2 by.4 f.idle
          (subst (λ (l : List Row). IfErr r (IsDamageOf (IsPutDamaged (set_in n cvd) vids set l before.held new))) c.as_slice.ensures.value f.damaged);
      undamaged = λ w at. f.undamaged w (looked_at w before.held old mid looked at);
      whole = λ page told. on_any _ r (λ met. whole page told met.1);
      missed = seen_missed _ r f.seen;
      idle = behind_then before now stage staged old mid new r looked f.idle;
      begins_none = λ quiet plain. f.begins_none plain;
      usable = f.usable;
      by_journal = λ byj fine. f.by_journal (journal_looked before.held old mid looked byj) fine;
      at = λ w at. at_then now.held old mid new r (looked.tape at.at.told) (f.at w (looked_at w before.held old mid looked at));
      acts = λ w told at.
          let s = session_of stage.files user
          in let t = session_of staged.files user
          in let there = subst (IsTakenIn w user cvd vids table) c.in-Ok-Rows.field-0-is (c.in-Ok-Rows.ensures.world w at)
          in let d = there.0
          in let same : keeps w s c.as_slice.result.now d vids c.in-Ok.file ≡ permitted w s (asks.Checkout cvd vids named (Some table))
          = (λ i. keeps w s (c.as_slice.ensures.value i) d vids (c.in-Ok.ensures i)) ∙ sym (there.2 s refl)
          in subst (λ (e : Deed). Acts e s t w r before.held now.held old new) same
          (acts_later (keeps w s c.as_slice.result.now d vids c.in-Ok.file) s t w r before.held now.held old mid new (looked.tape at.at.told)
          (f.acts w user d told (looked_at w before.held old mid looked at) there.1));
    }

pub returns-in-Err-file_of_table : goal.returns-in-Err-file_of_table
returns-in-Err-file_of_table g c = λ named.
    let user = c.args.user.now
    in let before = c.args.store.now
    in let old = g.H.Host.state c.args.host.now
    in let mid = g.H.Host.state c.may_stage.new.host
    in let stage = g.T.Stage.staged c.args.stage.now
    in let looked = c.may_stage.ensures.looked
    in look_forgot user (asks.Checkout c.args.cvd c.args.vids.now named (Some c.args.table.now)) before old mid looked stage
    (stage_off before.held.numbers c.args.cvd c.args.vids.now c.args.table.now) (taken_look user c.args.cvd c.args.vids.now c.args.table.now named before old mid looked stage)
    c.requires.call c.may_stage.ensures.fetched (λ refusal is. (c.may_stage.ensures.unread refusal is).0)

pub returns-in-Ok-Refused : goal.returns-in-Ok-Refused
returns-in-Ok-Refused g c = λ named.
    let user = c.args.user.now
    in let cvd = c.args.cvd
    in let vids = c.args.vids.now
    in let table = c.args.table.now
    in let before = c.args.store.now
    in let n = before.held.numbers
    in let old = g.H.Host.state c.args.host.now
    in let mid = g.H.Host.state c.may_stage.new.host
    in let stage = g.T.Stage.staged c.args.stage.now
    in let looked = c.may_stage.ensures.looked
    in let row = staged_row n user cvd vids table
    in let by = subst (IsTakenBy (stage_off n cvd vids table) (stage_change user table row) (set_in n stage_name) old) c.in-Ok-Refused.field-0-is c.in-Ok-Refused.ensures.next
    in look_refused user (asks.Checkout cvd vids named (Some table)) before old mid looked stage (stage_off n cvd vids table)
    (taken_look user cvd vids table named before old mid looked stage) c.requires.call c.may_stage.ensures.fetched (λ refusal is. (c.may_stage.ensures.unread refusal is).0)
    c.in-Ok-Refused.refusal (λ page told none. c.in-Ok-Refused.ensures.whole page told none)
    (taken_fileless n cvd vids table user row (set_in n stage_name) old c.in-Ok-Refused.refusal by)
    (λ w at. (subst (IsTakenIn w user cvd vids table) c.in-Ok-Refused.field-0-is (c.in-Ok-Refused.ensures.world w at)) (session_of stage.files user) refl)

pub returns-in-Err : goal.returns-in-Err
returns-in-Err g c = λ named.
    let user = c.args.user.now
    in let before = c.args.store.now
    in let old = g.H.Host.state c.args.host.now
    in let mid = g.H.Host.state c.may_stage.new.host
    in let stage = g.T.Stage.staged c.args.stage.now
    in let looked = c.may_stage.ensures.looked
    in subst (λ (r : Result Reply EndErr). IsServed user user (asks.Checkout c.args.cvd c.args.vids.now named (Some c.args.table.now)) r before before stage stage old mid)
    (sym c.ended.ensures)
    (look_ended user (asks.Checkout c.args.cvd c.args.vids.now named (Some c.args.table.now)) before old mid looked stage
    (stage_off before.held.numbers c.args.cvd c.args.vids.now c.args.table.now) (taken_look user c.args.cvd c.args.vids.now c.args.table.now named before old mid looked stage)
    c.requires.call c.may_stage.ensures.fetched (λ refusal is. (c.may_stage.ensures.unread refusal is).0) c.in-Err.off c.in-Err.ensures.why (λ w at. c.in-Err.ensures.world w at))
