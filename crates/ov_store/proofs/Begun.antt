-- Why no plan began, out of why its parts weren't done.
use Rattle.std.proofs.Common.{◌≡◌, ◌≤◌, ℕ, true, List, refl, sym, ◌∙◌, ap, subst}
use Rattle.std.specs.Prelude.{Option, Some, None}
use Rattle.ov_event.specs.declared.event.Event as raw
use Rattle.ov_host.specs.Host.{Rose, State}
use Rattle.ov_model.specs.Moves.{Move}
use Rattle.ov_model.specs.World.{World}
use Rattle.ov_model.specs.declared.refusal.Refusal.{Refusal}
use Rattle.ov_core.specs.declared.errors.ChangeErr.{ChangeErr}
use Rattle.ov_core.specs.declared.errors.ChangeErr.TheVariants as change
use Rattle.ov_core.specs.Brought.{Asks, IsBare}
use Rattle.ov_core.specs.Held.{Held}
use Rattle.ov_core.specs.Rooms.{IsWhyNotRecorded, PassesJournal}
use Rattle.ov_fetch.specs.declared.errors.FetchErr.{FetchErr}
use Rattle.ov_fetch.specs.declared.errors.FetchErr.TheVariants as fetch
use Rattle.ov_fetch.specs.Extents.{page_bytes}
use Rattle.ov_read.specs.OfWorld.{IsSpared}
use Rattle.law_room.specs.Room.{Entry, IsWithin, Made}
use Rattle.law_room.proofs.Room.{bare_is_licensed}
use Rattle.ov_optimize.specs.declared.planning.Planned.{Planned}
use Rattle.ov_optimize.specs.Damages.{RefusesPlan}
use Rattle.ov_store.specs.declared.plan_errors.PlanErr.{PlanErr}
use Rattle.ov_store.specs.declared.plan_errors.PlanErr.TheVariants as why
use Rattle.ov_store.specs.Committing.{IfSet, Set}
use Rattle.ov_store.specs.Planning.{FindsNoPlace, IsDamagedFor, IsPlanBy, IsPlanLack, IsPlanRefused, IsUnbegun, IsUnplanned, IsUnrecorded, of_read, optimize_off, plan_off}
use Rattle.ov_store.specs.Scanning.{set_in}
use Rattle.ov_store.proofs.Plans.{IsEarly}
use Rattle.ov_store.proofs.Readying.{rose_later}

-- ---- before anything is recorded

pub early_unplanned : (name : List ℕ) (p q : ℕ) (held : Held) (s : State) (e : PlanErr) → IsEarly e → optimize_off held.numbers name p q ≡ Some e
    → IsUnplanned name p q held s s e
early_unplanned name p q held s why.Host early off = absurd early
early_unplanned name p q held s why.Memory early off = absurd early
early_unplanned name p q held s (why.Damaged area at) early off = absurd early
early_unplanned name p q held s why.JournalFull early off = absurd early
early_unplanned name p q held s why.NoCvd early off = (off, refl)
early_unplanned name p q held s why.BadThreshold early off = (off, refl)
early_unplanned name p q held s why.Migrating early off = (off, refl)
early_unplanned name p q held s why.NoNumbers early off = (off, refl)

pub read_unplanned : (name : List ℕ) (p q : ℕ) (held : Held) (s t : State) (set : Set) (e : FetchErr) → set_in held.numbers name ≡ Some set
    → optimize_off held.numbers name p q ≡ None → (e ≡ fetch.Host → Rose s.faults t.faults) → (s.tells ≡ true → RefusesPlan e (page_bytes s) set)
    → IsUnplanned name p q held s t (of_read e)
read_unplanned name p q held s t set fetch.Host found off rose refuses = rose refl
read_unplanned name p q held s t set fetch.Memory found off rose refuses = tt
read_unplanned name p q held s t set (fetch.Damaged page) found off rose refuses =
    (refl, off, subst (IfSet (λ x. IsDamagedFor x s page)) (sym found) refuses)

pub read_refused : (name : List ℕ) (off : Option Refusal) (e : FetchErr) → IsSpared e → IsPlanRefused name off (of_read e)
read_refused name off fetch.Host spared = tt
read_refused name off fetch.Memory spared = tt
read_refused name off (fetch.Damaged page) spared = absurd spared

pub unplanned_unbegun : (name : List ℕ) (p q : ℕ) (held : Held) (s t : State) (e : PlanErr) → IsUnplanned name p q held s t e → IsUnbegun name p q held s t e
unplanned_unbegun name p q held s t why.Host is = is
unplanned_unbegun name p q held s t why.Memory is = is
unplanned_unbegun name p q held s t (why.Damaged area at) is = is
unplanned_unbegun name p q held s t why.JournalFull is = absurd is
unplanned_unbegun name p q held s t why.NoCvd is = is
unplanned_unbegun name p q held s t why.BadThreshold is = is
unplanned_unbegun name p q held s t why.Migrating is = is
unplanned_unbegun name p q held s t why.NoNumbers is = is

pub unplanned_lacks : (name : List ℕ) (p q : ℕ) (held : Held) (s t : State) (entry : Entry) (past : List Made) (m : Move) (w : World) (e : PlanErr)
    → IsUnplanned name p q held s t e → IsPlanLack entry past m w e
unplanned_lacks name p q held s t entry past m w why.Host is = tt
unplanned_lacks name p q held s t entry past m w why.Memory is = tt
unplanned_lacks name p q held s t entry past m w (why.Damaged area at) is = tt
unplanned_lacks name p q held s t entry past m w why.JournalFull is = absurd is
unplanned_lacks name p q held s t entry past m w why.NoCvd is = tt
unplanned_lacks name p q held s t entry past m w why.BadThreshold is = tt
unplanned_lacks name p q held s t entry past m w why.Migrating is = tt
unplanned_lacks name p q held s t entry past m w why.NoNumbers is = tt

-- ---- not recorded

plan_there : (o : Option Set) (p q : ℕ) → plan_off o p q ≡ None → (set : Set) × (o ≡ Some set)
plan_there None p q none = absurd cc
plan_there (Some set) p q none = (set, refl)

pub set_there : (held : Held) (name : List ℕ) (p q : ℕ) → optimize_off held.numbers name p q ≡ None → (set : Set) × (set_in held.numbers name ≡ Some set)
set_there held name p q none = plan_there (set_in held.numbers name) p q none

pub host_recorded : (off : ChangeErr) (e : PlanErr) → IsUnrecorded off e → off ≡ change.Host → e ≡ why.Host
host_recorded off e is host = subst (λ x. IsUnrecorded x e) host is

pub unrecorded_host : (off : ChangeErr) (e : PlanErr) → IsUnrecorded off e → e ≡ why.Host → off ≡ change.Host
unrecorded_host change.Host e is host = refl
unrecorded_host change.Memory e is host = let clash : why.Memory ≡ why.Host = sym is ∙ host in absurd cc
unrecorded_host (change.Full pages) e is host = absurd is
unrecorded_host change.JournalFull e is host = let clash : why.JournalFull ≡ why.Host = sym is ∙ host in absurd cc

module _ (held : Held) (event : raw.Event) (t u : State) (e : PlanErr) where
  pub unrecorded_unbegun : (name : List ℕ) (p q : ℕ) (s : State) (set : Set) (planned : Planned) (off : ChangeErr) → set_in held.numbers name ≡ Some set
      → optimize_off held.numbers name p q ≡ None → IsPlanBy set p q s planned → planned.event ≡ event → s.faults ≤ t.faults
      → IsWhyNotRecorded off held event t u → IsUnrecorded off e → IsUnbegun name p q held s u e
  unrecorded_unbegun name p q s set planned change.Host found none by same kept is answered =
      subst (IsUnbegun name p q held s u) (sym answered) (rose_later s.faults t.faults u.faults kept is)
  unrecorded_unbegun name p q s set planned change.Memory found none by same kept is answered = subst (IsUnbegun name p q held s u) (sym answered) tt
  unrecorded_unbegun name p q s set planned (change.Full pages) found none by same kept is answered = absurd is
  unrecorded_unbegun name p q s set planned change.JournalFull found none by same kept is answered =
      subst (IsUnbegun name p q held s u) (sym answered) (
        none,
        subst (IfSet (λ x. FindsNoPlace x p q s held)) (sym found) (record {
          planned = planned;
          by = by;
          passes = subst (PassesJournal held) (sym same) is;
        }),
      )

  pub unrecorded_refused : (name : List ℕ) (world : Option Refusal) (off : ChangeErr) → world ≡ None → IsWhyNotRecorded off held event t u → IsUnrecorded off e
      → IsPlanRefused name world e
  unrecorded_refused name world change.Host none is answered = subst (IsPlanRefused name world) (sym answered) tt
  unrecorded_refused name world change.Memory none is answered = subst (IsPlanRefused name world) (sym answered) tt
  unrecorded_refused name world (change.Full pages) none is answered = absurd is
  unrecorded_refused name world change.JournalFull none is answered = subst (IsPlanRefused name world) (sym answered) none

  pub unrecorded_lacks : (entry : Entry) (past : List Made) (m : Move) (w : World) (off : ChangeErr) → IsWithin entry past held → IsBare event → Asks m w event
      → IsWhyNotRecorded off held event t u → IsUnrecorded off e → IsPlanLack entry past m w e
  unrecorded_lacks entry past m w change.Host within bare asks is answered = subst (IsPlanLack entry past m w) (sym answered) tt
  unrecorded_lacks entry past m w change.Memory within bare asks is answered = subst (IsPlanLack entry past m w) (sym answered) tt
  unrecorded_lacks entry past m w (change.Full pages) within bare asks is answered = absurd is
  unrecorded_lacks entry past m w change.JournalFull within bare asks is answered =
      subst (IsPlanLack entry past m w) (sym answered) (bare_is_licensed entry past held m w event within bare asks is)
