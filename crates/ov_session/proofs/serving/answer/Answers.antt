use Rattle.std.proofs.Common.{◌≡◌, ◌∙◌, ℕ, List, None, sym, ap, subst}
use Rattle.std.specs.Prelude.{◌≤◌, ◌+◌, IfErr, Option}
use Rattle.law_runs.specs.Serving.{session_of}
use Rattle.ov_model.specs.Act.{columns_of, commit_deed}
use Rattle.ov_model.specs.World.{set_named}
use Rattle.ov_model.specs.declared.refusal.Refusal.{Refusal}
use Rattle.ov_value.specs.declared.column.Column.{Column}
use Rattle.ov_host.specs.Host.{State}
use Rattle.ov_model.specs.declared.command.Command.{Command}
use Rattle.ov_model.specs.declared.command.Command.TheVariants as asks
use Rattle.ov_store.specs.Scanning.{set_in}
use Rattle.ov_session.proofs.Answered.{spared_damage}
use Rattle.ov_session.proofs.Bounds.{fetched_allowed, fetched_still, off_there}
use Rattle.ov_session.proofs.Standing.{on_any}
use Rattle.ov_session.specs.Bounds.{bytes_in}
use Rattle.ov_session.specs.Commands.{Acts, IsCommitDamaged, IsDamageOf}
use Rattle.ov_session.specs.Reads.{commit_row_off}
use Rattle.ov_session.specs.Serving.{IsServed}
use Rattle.ov_session.proofs.serving.answer.Goals as goal

pub returns-in-Init : goal.returns-in-Init
returns-in-Init g c =
    let user = c.args.user.now
    in let before = c.args.store.now
    in let now = c.init.new.store
    in let stage = g.T.Stage.staged c.args.stage.now
    in let staged = g.T.Stage.staged c.init.new.stage
    in let old = g.H.Host.state c.args.host.now
    in let new = g.H.Host.state c.init.new.host
    in let r = c.init.result
    in let f = c.init.ensures
    in subst (λ (command : Command). IsServed user user command r before now stage staged old new) (sym c.in-Init.is)
    (record {
      goes = f.goes;
      attended = f.attended;
      still = λ is. absurd is;
      fetched = fetched_still old new _ f.fetched;
      unread = λ is. f.fetched;
      cause = f.cause;
      stage_cause = f.stage;
      damaged = spared_damage _ r f.undamaged;
      undamaged = λ w at. f.undamaged;
      whole = λ page told. on_any _ r (λ met. met.1);
      missed = f.missed;
      idle = f.idle;
      begins_none = λ quiet none. f.begins_none none;
      usable = f.usable;
      by_journal = f.by_journal;
      at = f.at;
      acts = λ w told at. f.acts w user told at;
    })

pub returns-in-Checkout : goal.returns-in-Checkout
returns-in-Checkout g c =
    let user = c.args.user.now
    in let stage = g.T.Stage.staged c.args.stage.now
    in let staged = g.T.Stage.staged c.check_out.new.stage
    in subst (λ (command : Command). IsServed user user command c.check_out.result c.args.store.now c.check_out.new.store stage staged
    (g.H.Host.state c.args.host.now) (g.H.Host.state c.check_out.new.host))
    (ap (λ (v : List ℕ). asks.Checkout c.in-Checkout.cvd v c.in-Checkout.file c.in-Checkout.table) c.as_slice-in-Checkout.ensures ∙ sym c.in-Checkout.is) c.check_out.ensures

pub returns-in-Commit : goal.returns-in-Commit
returns-in-Commit g c =
    let user = c.args.user.now
    in let before = c.args.store.now
    in let now = c.commit.new.store
    in let stage = g.T.Stage.staged c.args.stage.now
    in let staged = g.T.Stage.staged c.commit.new.stage
    in let old = g.H.Host.state c.args.host.now
    in let new = g.H.Host.state c.commit.new.host
    in let cvd = c.in-Commit.cvd
    in let vids = c.in-Commit.vids
    in let added = columns_of c.in-Commit.added
    in let file = c.in-Commit.file
    in let message = c.in-Commit.message
    in let r = c.commit.result
    in let f = c.commit.ensures
    in let set = set_in before.held.numbers cvd
    in let off : Option Refusal = commit_row_off before.held.numbers cvd vids added
    in let same : commit_row_off before.held.numbers cvd c.as_slice.result.now c.columns_of.result.now ≡ off
    = ap (commit_row_off before.held.numbers cvd c.as_slice.result.now) c.columns_of.ensures ∙ ap (λ (v : List ℕ). commit_row_off before.held.numbers cvd v added) c.as_slice.ensures
    in let IsDamage : List ℕ → List Column → ℕ → Type 0
    = λ v x page. (commit_row_off before.held.numbers cvd v x ≡ None) × IsCommitDamaged cvd v x file message stage before.held new page
    in subst (λ (command : Command). IsServed user user command r before now stage staged old new) (sym c.in-Commit.is)
    (record {
      goes = f.goes;
      attended = f.attended;
      still = λ is. absurd is;
      fetched = fetched_allowed off (bytes_in set vids) old.fetched new.fetched
          (subst (λ (v : List ℕ). new.fetched ≤ old.fetched + bytes_in set v) c.as_slice.ensures f.fetched)
          (λ refusal is. ap (λ (s : State). s.fetched) (f.unread refusal (same ∙ is)));
      unread = λ is. let there = off_there off is in ap (λ (s : State). s.fetched) (f.unread there.0 (same ∙ there.1));
      cause = f.cause;
      stage_cause = f.stage;
      damaged = subst (λ (v : List ℕ). IfErr r (IsDamageOf (IsDamage v added))) c.as_slice.ensures
          (subst (λ (x : List Column). IfErr r (IsDamageOf (IsDamage c.as_slice.result.now x))) c.columns_of.ensures f.damaged);
      undamaged = f.undamaged;
      whole = λ page told. on_any _ r (λ met. met.1);
      missed = f.missed;
      idle = f.idle;
      begins_none = λ quiet none. f.begins_none none;
      usable = f.usable;
      by_journal = f.by_journal;
      at = f.at;
      acts = λ w told at.
          let s = session_of stage.files user
          in let t = session_of staged.files user
          in let Is : List ℕ → List Column → Type 0 = λ v x. Acts (commit_deed w s cvd v message x file (set_named w cvd)) s t w r before.held now.held old new
          in subst (λ (v : List ℕ). Is v added) c.as_slice.ensures (subst (λ (x : List Column). Is c.as_slice.result.now x) c.columns_of.ensures (f.acts w user told at));
    })

pub returns-in-CommitStaged : goal.returns-in-CommitStaged
returns-in-CommitStaged g c =
    let user = c.args.user.now
    in let stage = g.T.Stage.staged c.args.stage.now
    in let staged = g.T.Stage.staged c.commit_staged.new.stage
    in subst (λ (command : Command). IsServed user user command c.commit_staged.result c.args.store.now c.commit_staged.new.store stage staged
    (g.H.Host.state c.args.host.now) (g.H.Host.state c.commit_staged.new.host)) (sym c.in-CommitStaged.is) (c.commit_staged.ensures user)

pub returns-in_default : goal.returns-in_default
returns-in_default g c = c.answer_by_store.ensures (g.T.Stage.staged c.args.stage.now)
