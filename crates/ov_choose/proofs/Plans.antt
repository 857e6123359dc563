-- A plan that begins from what was chosen, and why none does.
use Rattle.std.proofs.Common.{◌≡◌, ◌∙◌, ℕ, true, List, inl, inr, sym, ap, subst}
use Rattle.std.specs.Prelude.{Option, Some, None}
use Rattle.ov_host.specs.Host.{State}
use Rattle.ov_host.specs.Stops.{Only}
use Rattle.ov_host.specs.Tape.{Tape}
use Rattle.ov_core.specs.AtWorld.{IsAtNext, IsAtWorld, IsEither}
use Rattle.ov_core.specs.Held.{GoesOn, Held}
use Rattle.ov_fetch.specs.Extents.{Looked, page_bytes}
use Rattle.ov_fetch.proofs.Looks.{same_pages}
use Rattle.law_room.specs.Room.{Entry, Made}
use Rattle.ov_model.specs.Moves.{Move}
use Rattle.ov_model.specs.World.{World}
use Rattle.ov_model.specs.declared.refusal.Refusal.{Refusal}
use Rattle.ov_model.specs.declared.reply.BudgetLine.{BudgetLine}
use Rattle.ov_open.specs.Opening.{IsWorld}
use Rattle.ov_optimize.specs.Damages.{HasBadPart}
use Rattle.ov_optimize.specs.Planned.{IsPlanned}
use Rattle.ov_optimize.specs.declared.planning.Planned.{Planned}
use Rattle.ov_optimize.specs.declared.report.Report.{Report}
use Rattle.ov_store.specs.Committing.{IfSet, Set}
use Rattle.ov_store.specs.Kept.{Kept, MayCall}
use Rattle.ov_store.specs.Planning.{FindsNoPlace, IsBegun, IsPlanBy, IsPlanLack, IsPlanRefused}
use Rattle.ov_store.specs.Thresholds.{IsListsDamage, IsPartsDamage, IsUnbegunWith}
use Rattle.ov_store.specs.declared.plan_errors.PlanErr.{PlanErr}
use Rattle.ov_store.specs.declared.plan_errors.PlanErr.TheVariants as plan
use Rattle.ov_store.proofs.Readying.{rose_later}
use Rattle.ov_store.proofs.Still.{still, still_world}
use Rattle.ov_choose.specs.Choices.{FindsNoPlaceWithin, IsDamagedWithin, IsNoThreshold, IsPicked, IsUnchosen, IsUnpicked, within_off}
use Rattle.ov_choose.specs.Errors.{of_plan}
use Rattle.ov_choose.specs.Worlds.{IsPlanLackOf, IsRefusedTo}
use Rattle.ov_choose.specs.declared.errors.ChooseErr.{ChooseErr}
use Rattle.ov_choose.specs.declared.errors.ChooseErr.TheVariants as why

-- ---- nothing is chosen

damaged_wider : (o : Option Set) (budget : ℕ) (s : State) (page : ℕ) → IfSet (λ x. IsListsDamage x s page) o → IfSet (λ x. IsDamagedWithin x budget s page) o
damaged_wider None budget s page is = is
damaged_wider (Some x) budget s page is = λ told. inl (is told)

pub unpicked_unchosen : (o : Option Set) (budget : ℕ) (held : Held) (s t : State) (e : ChooseErr) → IsUnpicked (within_off o) o budget s t e → IsUnchosen o budget held s t e
unpicked_unchosen o budget held s t why.Host is = is
unpicked_unchosen o budget held s t why.Memory is = is
unpicked_unchosen o budget held s t (why.Damaged area at) is = (is.0, is.1, damaged_wider o budget s at is.2)
unpicked_unchosen o budget held s t why.JournalFull is = absurd is
unpicked_unchosen o budget held s t why.NoCvd is = is
unpicked_unchosen o budget held s t why.BadThreshold is = is
unpicked_unchosen o budget held s t why.Migrating is = is
unpicked_unchosen o budget held s t (why.NoThreshold least) is = is
unpicked_unchosen o budget held s t why.NoNumbers is = is

pub unpicked_lacks : (off : Option ChooseErr) (o : Option Set) (budget : ℕ) (s t : State) (entry : Entry) (past : List Made) (m : Move) (w : World) (e : ChooseErr)
    → IsUnpicked off o budget s t e → IsPlanLackOf entry past m w e
unpicked_lacks off o budget s t entry past m w why.JournalFull is = absurd is
unpicked_lacks off o budget s t entry past m w why.Host is = tt
unpicked_lacks off o budget s t entry past m w why.Memory is = tt
unpicked_lacks off o budget s t entry past m w (why.Damaged area at) is = tt
unpicked_lacks off o budget s t entry past m w why.NoCvd is = tt
unpicked_lacks off o budget s t entry past m w why.BadThreshold is = tt
unpicked_lacks off o budget s t entry past m w why.Migrating is = tt
unpicked_lacks off o budget s t entry past m w (why.NoThreshold least) is = tt
unpicked_lacks off o budget s t entry past m w why.NoNumbers is = tt

-- ---- a host that was only looked at

pub may_still : (store : Kept) (s t : State) → Looked s t → MayCall store s → MayCall store t
may_still store s t looked may = record {
  usable = may.usable;
  goes_on = λ told.
      let before : s.tells ≡ true = sym looked.told ∙ told
      in subst (λ (x : Tape). GoesOn store.held (record t { tape = x })) (sym (looked.tape before)) (may.goes_on before);
}

module _ (w v : World) (held : Held) (s t : State) (looked : Looked s t) (at : IsAtWorld w held s) where
  pub still_looked : Only s.tape t.tape (IsEither w v s.tape.disk.printed)
  still_looked = subst (λ (x : Tape). Only s.tape x (IsEither w v s.tape.disk.printed)) (sym (looked.tape at.at.told)) (still w v held s at)

  pub still_world_looked : Only s.tape t.tape (IsWorld w s.tape.disk.printed)
  still_world_looked = subst (λ (x : Tape). Only s.tape x (IsWorld w s.tape.disk.printed)) (sym (looked.tape at.at.told)) (still_world w held s at)

  -- what a stop leaves of a call behind it
  pub stops_before : (u : State) → Only t.tape u.tape (IsEither w v t.tape.disk.printed) → Only s.tape u.tape (IsEither w v s.tape.disk.printed)
  stops_before u stops = subst (λ (x : Tape). Only x u.tape (IsEither w v x.disk.printed)) (looked.tape at.at.told) stops

  pub next_before : (now : Held) (u : State) → IsAtNext v now t u → IsAtNext v now s u
  next_before now u next =
      record { at = next.at; printed_same = next.printed_same ∙ ap (λ (x : Tape). x.disk.printed) (looked.tape at.at.told) }

module _ (s t : State) (looked : Looked s t) (set : Set) (p : ℕ) where
  plan_before : (planned : Planned) → IsPlanBy set p 100 t planned → IsPlanBy set p 100 s planned
  plan_before planned by = record {
    made = by.made;
    read = λ told. subst (λ area. IsPlanned area set p 100 planned.event) (same_pages s t looked told) (by.read (looked.told ∙ told));
  }

  pub begun_before : (held now : Held) (report : Report) → IsBegun set p 100 t held now report → IsBegun set p 100 s held now report
  begun_before held now report begun = record {
    planned = begun.planned;
    by = plan_before begun.planned begun.by;
    recorded = begun.recorded;
    report_is = begun.report_is;
  }

  pub part_before : (page : ℕ) → s.tells ≡ true → HasBadPart (page_bytes s) set page → HasBadPart (page_bytes t) set page
  part_before page told bad = subst (λ area. HasBadPart area set page) (sym (same_pages s t looked told)) bad

  part_after : (page : ℕ) → s.tells ≡ true → HasBadPart (page_bytes t) set page → HasBadPart (page_bytes s) set page
  part_after page told bad = subst (λ area. HasBadPart area set page) (same_pages s t looked told) bad

  module _ (budget : ℕ) (shown : List BudgetLine) (picked : IsPicked set budget s shown p) where
    within_damage : (page : ℕ) → IsPartsDamage set t page → IsDamagedWithin set budget s page
    within_damage page is = λ told. inr (record {
      lines = picked.lines;
      p = p;
      choice = picked.choice;
      bad = part_after page told (is (looked.told ∙ told));
    })

    within_full : (held : Held) → FindsNoPlace set p 100 t held → FindsNoPlaceWithin set budget s held
    within_full held full = record {
      lines = picked.lines;
      p = p;
      choice = picked.choice;
      full = record { planned = full.planned; by = plan_before full.planned full.by; passes = full.passes };
    }

    -- ---- the plan didn't begin
    pub unbegun_unchosen : (o : Option Set) (held : Held) (u : State) (e : PlanErr) → o ≡ Some set → within_off o ≡ None → IsUnbegunWith o p 100 t u held e
        → IsUnchosen o budget held s u (of_plan e)
    unbegun_unchosen o held u plan.Host there none is = rose_later s.faults t.faults u.faults looked.faults is
    unbegun_unchosen o held u plan.Memory there none is = tt
    unbegun_unchosen o held u (plan.Damaged area at) there none is = (
      is.0,
      none,
      subst (IfSet (λ x. IsDamagedWithin x budget s at)) (sym there) (within_damage at (subst (IfSet (λ x. IsPartsDamage x t at)) there is.1)),
    )
    unbegun_unchosen o held u plan.JournalFull there none is = (
      none,
      subst (IfSet (λ x. FindsNoPlaceWithin x budget s held)) (sym there) (within_full held (subst (IfSet (λ x. FindsNoPlace x p 100 t held)) there is)),
    )
    unbegun_unchosen o held u plan.NoCvd there none is = absurd is
    unbegun_unchosen o held u plan.BadThreshold there none is = absurd is
    unbegun_unchosen o held u plan.Migrating there none is = absurd is
    unbegun_unchosen o held u plan.NoNumbers there none is = absurd is

pub plan_refused_to : (name : List ℕ) (budget : ℕ) (off : Option Refusal) (e : PlanErr) → off ≡ None → IsPlanRefused name None e → IsRefusedTo name budget off (of_plan e)
plan_refused_to name budget off plan.Host none is = tt
plan_refused_to name budget off plan.Memory none is = tt
plan_refused_to name budget off (plan.Damaged area at) none is = absurd is
plan_refused_to name budget off plan.JournalFull none is = none
plan_refused_to name budget off plan.NoCvd none is = absurd cc
plan_refused_to name budget off plan.BadThreshold none is = absurd cc
plan_refused_to name budget off plan.Migrating none is = absurd cc
plan_refused_to name budget off plan.NoNumbers none is = absurd cc

pub plan_lacks : (entry : Entry) (past : List Made) (m : Move) (w : World) (e : PlanErr) → IsPlanLack entry past m w e → IsPlanLackOf entry past m w (of_plan e)
plan_lacks entry past m w plan.Host is = tt
plan_lacks entry past m w plan.Memory is = tt
plan_lacks entry past m w (plan.Damaged area at) is = tt
plan_lacks entry past m w plan.JournalFull is = is
plan_lacks entry past m w plan.NoCvd is = tt
plan_lacks entry past m w plan.BadThreshold is = tt
plan_lacks entry past m w plan.Migrating is = tt
plan_lacks entry past m w plan.NoNumbers is = tt

-- nor is it one of the table
pub plan_no_threshold : (e : PlanErr) → IsNoThreshold (of_plan e) → ⊥
plan_no_threshold plan.Host is = is
plan_no_threshold plan.Memory is = is
plan_no_threshold (plan.Damaged area at) is = is
plan_no_threshold plan.JournalFull is = is
plan_no_threshold plan.NoCvd is = is
plan_no_threshold plan.BadThreshold is = is
plan_no_threshold plan.Migrating is = is
plan_no_threshold plan.NoNumbers is = is
