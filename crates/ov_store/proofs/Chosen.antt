-- Why lists weren't read, or no plan began from them, out of why its parts weren't done.
use Rattle.std.proofs.Common.{◌≡◌, ◌≤◌, ◌∙◌, ℕ, true, List, refl, sym, ap, subst}
use Rattle.std.specs.Prelude.{Option, Some, None}
use Rattle.ov_event.specs.declared.event.Event as raw
use Rattle.ov_host.specs.Host.{Rose, State}
use Rattle.ov_model.specs.Moves.{Move}
use Rattle.ov_model.specs.World.{World}
use Rattle.ov_core.specs.declared.errors.ChangeErr.{ChangeErr}
use Rattle.ov_core.specs.declared.errors.ChangeErr.TheVariants as change
use Rattle.ov_core.specs.Held.{Held}
use Rattle.ov_core.specs.Rooms.{IsWhyNotRecorded, PassesJournal}
use Rattle.ov_fetch.specs.declared.errors.FetchErr.{FetchErr}
use Rattle.ov_fetch.specs.declared.errors.FetchErr.TheVariants as fetch
use Rattle.ov_fetch.specs.Extents.{page_bytes}
use Rattle.law_room.specs.Room.{Entry, Made}
use Rattle.ov_optimize.specs.declared.planning.Planned.{Planned}
use Rattle.ov_optimize.specs.Damages.{RefusesAllLists, RefusesParts}
use Rattle.ov_store.specs.declared.plan_errors.PlanErr.{PlanErr}
use Rattle.ov_store.specs.declared.plan_errors.PlanErr.TheVariants as why
use Rattle.ov_store.specs.Committing.{IfSet, Set}
use Rattle.ov_store.specs.Errors.{of_fetch}
use Rattle.ov_store.specs.Planning.{FindsNoPlace, IsPlanBy, IsPlanLack, IsUnrecorded, of_read}
use Rattle.ov_store.specs.Thresholds.{IsListsDamage, IsPartsDamage, IsUnbegunWith, IsUnlisted, IsUnreadied}
use Rattle.ov_store.proofs.Readying.{rose_later}

-- ---- lists

pub read_unlisted : (o : Option Set) (set : Set) (s t : State) (e : FetchErr) → o ≡ Some set → (e ≡ fetch.Host → Rose s.faults t.faults)
    → (s.tells ≡ true → RefusesAllLists e (page_bytes s) set) → IsUnlisted o s t (of_fetch e)
read_unlisted o set s t fetch.Host found rose refuses = rose refl
read_unlisted o set s t fetch.Memory found rose refuses = tt
read_unlisted o set s t (fetch.Damaged page) found rose refuses = (refl, subst (IfSet (λ x. IsListsDamage x s page)) (sym found) refuses)

-- ---- nothing is ready

pub read_unreadied : (o : Option Set) (set : Set) (s t : State) (e : FetchErr) → o ≡ Some set → (e ≡ fetch.Host → Rose s.faults t.faults)
    → (s.tells ≡ true → RefusesParts e (page_bytes s) set) → IsUnreadied s t o (of_read e)
read_unreadied o set s t fetch.Host found rose refuses = rose refl
read_unreadied o set s t fetch.Memory found rose refuses = tt
read_unreadied o set s t (fetch.Damaged page) found rose refuses = (refl, subst (IfSet (λ x. IsPartsDamage x s page)) (sym found) refuses)

pub unreadied_unbegun : (o : Option Set) (p q : ℕ) (s t : State) (held : Held) (e : PlanErr) → IsUnreadied s t o e → IsUnbegunWith o p q s t held e
unreadied_unbegun o p q s t held why.Host is = is
unreadied_unbegun o p q s t held why.Memory is = is
unreadied_unbegun o p q s t held (why.Damaged area at) is = is
unreadied_unbegun o p q s t held why.JournalFull is = absurd is
unreadied_unbegun o p q s t held why.NoCvd is = is
unreadied_unbegun o p q s t held why.BadThreshold is = is
unreadied_unbegun o p q s t held why.Migrating is = is
unreadied_unbegun o p q s t held why.NoNumbers is = is

pub unreadied_lacks : (o : Option Set) (s t : State) (entry : Entry) (past : List Made) (m : Move) (w : World) (e : PlanErr) → IsUnreadied s t o e
    → IsPlanLack entry past m w e
unreadied_lacks o s t entry past m w why.Host is = tt
unreadied_lacks o s t entry past m w why.Memory is = tt
unreadied_lacks o s t entry past m w (why.Damaged area at) is = tt
unreadied_lacks o s t entry past m w why.JournalFull is = absurd is
unreadied_lacks o s t entry past m w why.NoCvd is = tt
unreadied_lacks o s t entry past m w why.BadThreshold is = tt
unreadied_lacks o s t entry past m w why.Migrating is = tt
unreadied_lacks o s t entry past m w why.NoNumbers is = tt

-- ---- not recorded

pub unrecorded_with : (held : Held) (event : raw.Event) (t u : State) (e : PlanErr) (o : Option Set) (p q : ℕ) (s : State) (set : Set) (planned : Planned) (off : ChangeErr)
    → o ≡ Some set → IsPlanBy set p q s planned → planned.event ≡ event → s.faults ≤ t.faults → IsWhyNotRecorded off held event t u → IsUnrecorded off e
    → IsUnbegunWith o p q s u held e
unrecorded_with held event t u e o p q s set planned change.Host found by same kept is answered =
    subst (IsUnbegunWith o p q s u held) (sym answered) (rose_later s.faults t.faults u.faults kept is)
unrecorded_with held event t u e o p q s set planned change.Memory found by same kept is answered = subst (IsUnbegunWith o p q s u held) (sym answered) tt
unrecorded_with held event t u e o p q s set planned (change.Full pages) found by same kept is answered = absurd is
unrecorded_with held event t u e o p q s set planned change.JournalFull found by same kept is answered =
    let lacks : FindsNoPlace set p q s held = record { planned = planned; by = by; passes = subst (PassesJournal held) (sym same) is }
    in subst (IsUnbegunWith o p q s u held) (sym answered) (subst (IfSet (λ x. FindsNoPlace x p q s held)) (sym found) lacks)
