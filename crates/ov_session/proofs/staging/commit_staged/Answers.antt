use Rattle.std.proofs.Common.{◌≡◌, ◌∙◌, ◌≤◌, ◌+◌, ℕ, List, [], None, Some, sym, subst, arith}
use Rattle.std.specs.Prelude.{IfErr, IsErrOf, Result}
use Rattle.law_runs.specs.Serving.{session_of}
use Rattle.ov_model.specs.Act.{Deed, commit_deed}
use Rattle.ov_model.specs.Deed.{file_of_table, permitted}
use Rattle.ov_model.specs.Registry.{stage_name, stage_schema}
use Rattle.ov_model.specs.World.{set_named}
use Rattle.ov_model.specs.declared.command.Command.TheVariants as asks
use Rattle.ov_model.specs.declared.reply.Reply.{Reply}
use Rattle.ov_staging.specs.Origins.{HasVersions, IsOriginBy, IsOriginIn}
use Rattle.ov_staging.specs.Reading.{foreign_off}
use Rattle.ov_store.proofs.Finishing.{may_call_later}
use Rattle.ov_store.proofs.Looking.{looked_at}
use Rattle.ov_store.specs.Scanning.{set_in}
use Rattle.ov_session.proofs.Bounds.{off_there}
use Rattle.ov_session.proofs.Keeping.{acts_later}
use Rattle.ov_session.proofs.Numbering.{journal_looked}
use Rattle.ov_session.proofs.Putting.{at_then, came_damaged, came_fetched, came_fileless, came_look, came_rows, idle_then, look_ended, look_forgot, look_refused, rose_then}
use Rattle.ov_session.proofs.Standing.{on_any}
use Rattle.ov_session.specs.Bounds.{bytes_in}
use Rattle.ov_session.specs.Commands.{Acts, IsCommitDamaged, IsDamageOf}
use Rattle.ov_session.specs.Reads.{commit_row_off}
use Rattle.ov_session.specs.Serving.{IsServed}
use Rattle.ov_session.specs.declared.errors.EndErr.{EndErr}
use Rattle.ov_session.specs.declared.errors.EndErr.TheVariants as ending
use Rattle.ov_session.proofs.staging.commit_staged.Goals as goal

pub commit-requires-clause-call : goal.commit-requires-clause-call
commit-requires-clause-call g c =
    may_call_later c.args.store.now (g.H.Host.state c.args.host.now) (g.H.Host.state c.origin_of.new.host) c.origin_of.ensures.looked c.requires.call

pub commit-requires-clause-some : goal.commit-requires-clause-some
commit-requires-clause-some g c = λ none.
    (subst HasVersions c.in-Ok-From.field-0-is c.in-Ok-From.ensures.some) (sym c.as_slice.ensures ∙ none)

pub returns-in-Ok : goal.returns-in-Ok
returns-in-Ok g c = λ user.
    let owner = c.args.owner.now
    in let table = c.args.table.now
    in let message = c.args.message.now
    in let cvd = c.in-Ok-From.cvd
    in let vids = c.in-Ok-From.vids
    in let before = c.args.store.now
    in let now = c.commit.new.store
    in let n = before.held.numbers
    in let set = set_in n stage_name
    in let old = g.H.Host.state c.args.host.now
    in let mid = g.H.Host.state c.origin_of.new.host
    in let new = g.H.Host.state c.commit.new.host
    in let stage = g.T.Stage.staged c.args.stage.now
    in let staged = g.T.Stage.staged c.commit.new.stage
    in let r = c.commit.result
    in let f = c.commit.ensures
    in let looked = c.origin_of.ensures.looked
    in let listed : c.as_slice.result.now ≡ vids = c.as_slice.ensures
    in let file : c.in-Ok.file ≡ file_of_table owner table = c.in-Ok.ensures
    in let rows = came_rows n owner table cvd vids old (subst (IsOriginBy n owner table old) c.in-Ok-From.field-0-is c.in-Ok-From.ensures.from)
    in record {
      goes = record {
        told = f.goes.told ∙ looked.told;
        kept = f.goes.kept ∙ looked.kept;
        faults = omega (arith, looked.faults, f.goes.faults);
        fetched = omega (arith, looked.fetched, f.goes.fetched);
      };
      attended = f.attended;
      still = λ reads. absurd reads;
      fetched = came_fetched owner table message user stage before.held now.held rows.last rows.set vids cvd rows.own rows.is rows.named (IsErrOf r ending.Host) old mid new rows.are
          c.origin_of.ensures.fetched (subst (λ (l : List ℕ). new.fetched ≤ mid.fetched + bytes_in (set_in n cvd) l) listed f.fetched);
      unread = λ is. let there = off_there (foreign_off stage_schema set) is in let two : None ≡ Some there.0 = sym rows.own ∙ there.1 in absurd cc;
      cause = λ is. rose_then old.faults mid.faults new.faults looked.faults (f.cause is);
      stage_cause = f.stage;
      damaged = came_damaged owner table message user stage before.held now.held rows.last rows.set vids cvd rows.own rows.is rows.named (commit_row_off n cvd vids []) before now stage staged
          old mid new r looked rows.are f.idle
          (subst (λ (l : List ℕ). IfErr r (IsDamageOf (λ page. (commit_row_off n cvd l [] ≡ None) × IsCommitDamaged cvd l [] (file_of_table owner table) message stage before.held new page))) listed
          (subst (λ (name : List ℕ). IfErr r (IsDamageOf (λ page. (commit_row_off n cvd c.as_slice.result.now [] ≡ None)
          × IsCommitDamaged cvd c.as_slice.result.now [] name message stage before.held new page))) file f.damaged));
      undamaged = λ w at. f.undamaged w (looked_at w before.held old mid looked at);
      whole = λ page told. on_any _ r (λ met. c.in-Ok-From.ensures.whole page told met.0 met.1);
      missed = f.missed;
      idle = idle_then before now stage staged old mid new r looked f.idle;
      begins_none = λ quiet plain. f.begins_none plain;
      usable = f.usable;
      by_journal = λ byj fine. f.by_journal (journal_looked before.held old mid looked byj) fine;
      at = λ w at. at_then now.held old mid new r (looked.tape at.at.told) (f.at w (looked_at w before.held old mid looked at));
      acts = λ w told at.
          let s = session_of stage.files user
          in let t = session_of staged.files user
          in let there = subst (IsOriginIn w owner table) c.in-Ok-From.field-0-is (c.in-Ok-From.ensures.world w at)
          in let same : commit_deed w s cvd c.as_slice.result.now message [] c.in-Ok.file (set_named w cvd) ≡ permitted w s (asks.CommitStaged owner table message)
          = (λ i. commit_deed w s cvd (listed i) message [] (file i) (set_named w cvd)) ∙ sym (there s message)
          in subst (λ (e : Deed). Acts e s t w r before.held now.held old new) same
          (acts_later (commit_deed w s cvd c.as_slice.result.now message [] c.in-Ok.file (set_named w cvd)) s t w r before.held now.held old mid new (looked.tape at.at.told)
          (f.acts w user told (looked_at w before.held old mid looked at)));
    }

pub returns-in-Err-file_of_table : goal.returns-in-Err-file_of_table
returns-in-Err-file_of_table g c = λ user.
    let before = c.args.store.now
    in let old = g.H.Host.state c.args.host.now
    in let mid = g.H.Host.state c.origin_of.new.host
    in let stage = g.T.Stage.staged c.args.stage.now
    in let looked = c.origin_of.ensures.looked
    in look_forgot user (asks.CommitStaged c.args.owner.now c.args.table.now c.args.message.now) before old mid looked stage (foreign_off stage_schema (set_in before.held.numbers stage_name))
    (came_look user c.args.owner.now c.args.table.now c.args.message.now before old mid looked stage)
    c.requires.call c.origin_of.ensures.fetched (λ refusal is. (c.origin_of.ensures.unread refusal is).0)

pub returns-in-Ok-Refused : goal.returns-in-Ok-Refused
returns-in-Ok-Refused g c = λ user.
    let owner = c.args.owner.now
    in let table = c.args.table.now
    in let message = c.args.message.now
    in let before = c.args.store.now
    in let n = before.held.numbers
    in let old = g.H.Host.state c.args.host.now
    in let mid = g.H.Host.state c.origin_of.new.host
    in let stage = g.T.Stage.staged c.args.stage.now
    in let looked = c.origin_of.ensures.looked
    in look_refused user (asks.CommitStaged owner table message) before old mid looked stage (foreign_off stage_schema (set_in n stage_name))
    (came_look user owner table message before old mid looked stage) c.requires.call c.origin_of.ensures.fetched (λ refusal is. (c.origin_of.ensures.unread refusal is).0)
    c.in-Ok-Refused.refusal (λ page told none. c.in-Ok-Refused.ensures.whole page told none)
    (came_fileless n owner table old c.in-Ok-Refused.refusal (subst (IsOriginBy n owner table old) c.in-Ok-Refused.field-0-is c.in-Ok-Refused.ensures.from))
    (λ w at. (subst (IsOriginIn w owner table) c.in-Ok-Refused.field-0-is (c.in-Ok-Refused.ensures.world w at)) (session_of stage.files user) message)

pub returns-in-Err : goal.returns-in-Err
returns-in-Err g c = λ user.
    let owner = c.args.owner.now
    in let table = c.args.table.now
    in let message = c.args.message.now
    in let before = c.args.store.now
    in let old = g.H.Host.state c.args.host.now
    in let mid = g.H.Host.state c.origin_of.new.host
    in let stage = g.T.Stage.staged c.args.stage.now
    in let looked = c.origin_of.ensures.looked
    in subst (λ (r : Result Reply EndErr). IsServed user user (asks.CommitStaged owner table message) r before before stage stage old mid) (sym c.ended.ensures)
    (look_ended user (asks.CommitStaged owner table message) before old mid looked stage (foreign_off stage_schema (set_in before.held.numbers stage_name))
    (came_look user owner table message before old mid looked stage) c.requires.call c.origin_of.ensures.fetched (λ refusal is. (c.origin_of.ensures.unread refusal is).0)
    c.in-Err.off c.in-Err.ensures.why (λ w at. c.in-Err.ensures.world w at))
