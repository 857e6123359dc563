use Rattle.std.proofs.Common.{◌≡◌, None, refl, sym, ap, subst}
use Rattle.std.proofs.lemmas.Bool.{not-false}
use Rattle.ov_host.specs.Host.{State}
use Rattle.law_runs.specs.Serving.{session_of}
use Rattle.law_steps.specs.Turns.{running}
use Rattle.ov_model.specs.Formed.{IsAsked}
use Rattle.ov_model.specs.declared.command.Command.{Command}
use Rattle.ov_model.specs.declared.command.Command.TheVariants as asks
use Rattle.ov_store.specs.Kept.{Kept}
use Rattle.ov_store.specs.Planning.{optimize_off}
use Rattle.ov_store.specs.Refusals.{new_off}
use Rattle.ov_store.specs.Scanning.{set_in}
use Rattle.ov_session.proofs.Answered.{registered_served, same_stage, spared_damage}
use Rattle.ov_session.proofs.Bounds.{fetched_still}
use Rattle.ov_session.proofs.Choices.{within_refuses, within_there}
use Rattle.ov_session.proofs.Migrating.{fetched_same, none_to_take}
use Rattle.ov_session.proofs.Plans.{refused_none}
use Rattle.ov_session.proofs.Replying.{seen_missed}
use Rattle.ov_session.proofs.Rows.{damages_wider, map_ok, plan_damaged, plan_fetched, plan_met, plan_there, refused_there}
use Rattle.ov_session.proofs.Standing.{idle_spared, idle_stored, idle_unstaged, on_any}
use Rattle.ov_session.specs.Serving.{IsServed, IsServedAlone}
use Rattle.ov_session.proofs.serving.answer_by_store.Goals as goal

-- ---- plans

pub returns-in-Optimize : goal.returns-in-Optimize
returns-in-Optimize g c = λ stage.
    let user = c.args.user.now
    in let before = c.args.store.now
    in let now = c.optimize.new.store
    in let old = g.H.Host.state c.args.host.now
    in let new = g.H.Host.state c.optimize.new.host
    in let cvd = c.in-Optimize.cvd
    in let p = c.in-Optimize.p
    in let q = c.in-Optimize.q
    in let r = c.optimize.result
    in let f = c.optimize.ensures
    in subst (λ (command : Command). IsServed user user command r before now stage stage old new) (sym c.in-Optimize.is)
    (record {
      goes = f.goes;
      attended = same_stage stage;
      still = λ is. absurd is;
      fetched = plan_fetched before.held.numbers user cvd p q _ old.fetched new.fetched f.fetched;
      unread = λ is.
          let there = plan_there cvd (optimize_off before.held.numbers cvd p q) is
          in ap (λ (s : State). s.fetched) (f.unread there.0 there.1);
      cause = f.cause;
      stage_cause = λ is. absurd (f.host_alone is);
      damaged = damages_wider _ _ r (plan_damaged user cvd p q stage before.held now.held new) f.damaged;
      undamaged = f.undamaged;
      whole = λ page told. map_ok _ _ r (λ clear met. clear (plan_met user cvd p q stage before.held before.held old page met)) (f.whole page told);
      missed = seen_missed _ r f.seen;
      idle = idle_stored before now stage stage old new r f.host_alone f.idle refl;
      begins_none = λ quiet none. refused_none r before now (f.begins_none (not-false _ quiet)) none;
      usable = f.usable;
      by_journal = f.by_journal;
      at = f.at;
      acts = λ w told at. f.acts w (session_of stage.files user) at;
    })

pub returns-in-OptimizeWithin : goal.returns-in-OptimizeWithin
returns-in-OptimizeWithin g c = λ stage.
    let user = c.args.user.now
    in let before = c.args.store.now
    in let now = c.optimize_within.new.store
    in let old = g.H.Host.state c.args.host.now
    in let new = g.H.Host.state c.optimize_within.new.host
    in let cvd = c.in-OptimizeWithin.cvd
    in let set = set_in before.held.numbers cvd
    in let r = c.optimize_within.result
    in let f = c.optimize_within.ensures
    in subst (λ (command : Command). IsServed user user command r before now stage stage old new) (sym c.in-OptimizeWithin.is)
    (record {
      goes = f.goes;
      attended = same_stage stage;
      still = λ is. absurd is;
      fetched = f.fetched;
      unread = λ is. let there = within_there cvd set is in ap (λ (s : State). s.fetched) (f.unread there.0 there.1);
      cause = f.cause;
      stage_cause = λ is. absurd (f.host_alone is);
      damaged = f.damaged;
      undamaged = f.undamaged;
      whole = f.whole;
      missed = seen_missed _ r f.seen;
      idle = idle_stored before now stage stage old new r f.host_alone f.idle refl;
      begins_none = λ quiet none.
          let there = within_there cvd set (not-false _ quiet)
          in refused_none r before now (f.begins_none (within_refuses set there.0 there.1)) none;
      usable = f.usable;
      by_journal = f.by_journal;
      at = f.at;
      acts = λ w told at. f.acts w (session_of stage.files user) at;
    })

pub returns-in-Migrate : goal.returns-in-Migrate
returns-in-Migrate g c = λ stage.
    let user = c.args.user.now
    in let before = c.args.store.now
    in let now = c.migrate.new.store
    in let old = g.H.Host.state c.args.host.now
    in let new = g.H.Host.state c.migrate.new.host
    in let count = c.in-Migrate.count
    in let r = c.migrate.result
    in let f = c.migrate.ensures
    in subst (λ (command : Command). IsServed user user command r before now stage stage old new) (sym c.in-Migrate.is)
    (record {
      goes = f.goes;
      attended = same_stage stage;
      still = λ is. absurd is;
      fetched = λ none. fetched_same old new (f.none none).2;
      unread = λ is. ap (λ (s : State). s.fetched) (f.unread (none_to_take count before.held.numbers is));
      cause = f.cause;
      stage_cause = λ is. absurd (f.host_alone is);
      damaged = f.damaged;
      undamaged = f.undamaged;
      whole = λ page told. on_any _ r (λ met. met.1);
      missed = seen_missed _ r f.seen;
      idle = idle_unstaged before now stage stage old new r f.host_alone refl;
      begins_none = λ quiet none. on_any _ r (subst (λ (k : Kept). running k.held.numbers ≡ None) (sym (f.none none).1) none);
      usable = f.usable;
      by_journal = f.by_journal;
      at = f.at;
      acts = λ w told at. f.acts w (session_of stage.files user) at;
    })

-- ---- datasets

pub returns-in-DropCvd : goal.returns-in-DropCvd
returns-in-DropCvd g c = λ stage.
    let user = c.args.user.now
    in let before = c.args.store.now
    in let now = c.drop_cvd.new.store
    in let old = g.H.Host.state c.args.host.now
    in let new = g.H.Host.state c.drop_cvd.new.host
    in let r = c.drop_cvd.result
    in let f = c.drop_cvd.ensures
    in subst (λ (command : Command). IsServed user user command r before now stage stage old new) (sym c.in-DropCvd.is)
    (record {
      goes = f.goes;
      attended = same_stage stage;
      still = λ is. absurd is;
      fetched = fetched_still old new _ f.fetched;
      unread = λ is. f.fetched;
      cause = f.cause;
      stage_cause = λ is. absurd (f.host_alone is);
      damaged = spared_damage _ r f.undamaged;
      undamaged = λ w at. f.undamaged;
      whole = λ page told. on_any _ r (λ met. met.1);
      missed = seen_missed _ r f.seen;
      idle = idle_spared before now stage stage old new r f.host_alone f.undamaged;
      begins_none = λ quiet none. f.begins_none none;
      usable = f.usable;
      by_journal = f.by_journal;
      at = f.at;
      acts = λ w told at. f.acts w (session_of stage.files user) at;
    })

pub returns-in-Checkpoint : goal.returns-in-Checkpoint
returns-in-Checkpoint g c = λ stage.
    let user = c.args.user.now
    in let before = c.args.store.now
    in let now = c.checkpoint.new.store
    in let old = g.H.Host.state c.args.host.now
    in let new = g.H.Host.state c.checkpoint.new.host
    in let r = c.checkpoint.result
    in let f = c.checkpoint.ensures
    in subst (λ (command : Command). IsServed user user command r before now stage stage old new) (sym c.in-Checkpoint.is)
    (record {
      goes = f.goes;
      attended = same_stage stage;
      still = λ is. absurd is;
      fetched = fetched_still old new _ f.fetched;
      unread = λ is. f.fetched;
      cause = f.cause;
      stage_cause = λ is. absurd (f.host_alone is);
      damaged = spared_damage _ r f.undamaged;
      undamaged = λ w at. f.undamaged;
      whole = λ page told. on_any _ r (λ met. met.1);
      missed = seen_missed _ r f.seen;
      idle = idle_spared before now stage stage old new r f.host_alone f.undamaged;
      begins_none = λ quiet none. f.begins_none none;
      usable = f.usable;
      by_journal = f.by_journal;
      at = f.at;
      acts = λ w told at. f.acts w (session_of stage.files user) at;
    })

pub make_versions-requires-clause-name : goal.make_versions-requires-clause-name
make_versions-requires-clause-name g c = (subst IsAsked c.in-Generate.is c.requires.asked).0

pub make_versions-requires-clause-wanted : goal.make_versions-requires-clause-wanted
make_versions-requires-clause-wanted g c =
    let asked = subst IsAsked c.in-Generate.is c.requires.asked
    in record { some_rows = asked.1; some_versions = asked.2; few_versions = asked.3; few = asked.4 }

pub returns-in-Generate : goal.returns-in-Generate
returns-in-Generate g c = λ stage.
    let user = c.args.user.now
    in let before = c.args.store.now
    in let now = c.make_versions.new.store
    in let old = g.H.Host.state c.args.host.now
    in let new = g.H.Host.state c.make_versions.new.host
    in let cvd = c.in-Generate.cvd
    in let r = c.make_versions.result
    in let f = c.make_versions.ensures
    in subst (λ (command : Command). IsServed user user command r before now stage stage old new) (sym c.in-Generate.is)
    (record {
      goes = f.goes;
      attended = same_stage stage;
      still = λ is. absurd is;
      fetched = f.fetched;
      unread = λ is. let there = refused_there cvd (new_off before.held.numbers cvd) is in ap (λ (s : State). s.fetched) (f.unread there.0 there.1);
      cause = f.cause;
      stage_cause = λ is. absurd (f.host_alone is);
      damaged = f.damaged;
      undamaged = f.undamaged;
      whole = λ page told. on_any _ r (λ met. met.1);
      missed = seen_missed _ r f.seen;
      idle = idle_unstaged before now stage stage old new r f.host_alone refl;
      begins_none = λ quiet none. f.begins_none none;
      usable = f.usable;
      by_journal = f.by_journal;
      at = f.at;
      acts = λ w told at. f.acts w (session_of stage.files user) at;
    })

-- ---- users and staged tables

pub returns-in-CreateUser : goal.returns-in-CreateUser
returns-in-CreateUser g c =
    let user = c.args.user.now
    in let before = c.args.store.now
    in let now = c.create_user.new.store
    in let old = g.H.Host.state c.args.host.now
    in let new = g.H.Host.state c.create_user.new.host
    in subst (λ (command : Command). IsServedAlone user user command c.create_user.result before now old new) (sym c.in-CreateUser.is)
    (registered_served user user (asks.CreateUser c.in-CreateUser.name) c.create_user.result before now old new (λ stage idle. idle) (c.create_user.ensures user))

pub returns-in-Unstage : goal.returns-in-Unstage
returns-in-Unstage g c =
    let user = c.args.user.now
    in let before = c.args.store.now
    in let now = c.unstage.new.store
    in let old = g.H.Host.state c.args.host.now
    in let new = g.H.Host.state c.unstage.new.host
    in subst (λ (command : Command). IsServedAlone user user command c.unstage.result before now old new) (sym c.in-Unstage.is)
    (registered_served user user (asks.Unstage c.in-Unstage.owner c.in-Unstage.table) c.unstage.result before now old new (λ stage idle. idle) (c.unstage.ensures user))
