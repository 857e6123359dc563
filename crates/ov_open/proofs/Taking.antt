-- One payload more.
use Rattle.std.proofs.Common.{◌≡◌, ◌<◌, ℕ, ◌+◌, List, [], ◌∷◌, ◌++◌, None, length, map, take, get_or, refl, sym, ◌∙◌, ap, subst}
use Rattle.std.specs.List.{AllByRecursion}
use Rattle.std.proofs.lemmas.List.{map-append, take_more}
use Rattle.ov_event.specs.declared.event.Event.{Event}
use Rattle.ov_event.specs.Spelling.{IsEvent, spelling}
use Rattle.ov_host.specs.declared.area.Extent.{Extent}
use Rattle.ov_catalog.specs.Applying.{AllFollow, Reach, Stage, AtStart, off_at, reach_after, reach_behind, stage_after, start_of}
use Rattle.ov_catalog.specs.Events.{applied, replayed}
use Rattle.ov_catalog.specs.Numbers.{Numbers, nothing_yet}
use Rattle.ov_catalog.specs.Raw.{event_in}
use Rattle.ov_catalog.proofs.Serving.{numbers_more}
use Rattle.ov_open.specs.declared.replaying.ReplayErr.{ReplayErr}
use Rattle.ov_open.specs.declared.replaying.ReplayErr.TheVariants.{Damaged, Memory}
use Rattle.ov_open.specs.Replaying.{HasCome, IsStopped, IsTaken, IsLeft, Follows, RefusesPayloads}

pub start : (format : ℕ) → HasCome format [] AtStart nothing_yet
start format = record { replayed = record { events = []; are = tt; written = refl; follow = tt; end = refl }; reach_is = refl }

-- ---- one event more behind those of a half

are_more : (events : List Event) (e : Event) → AllByRecursion IsEvent events → IsEvent e → AllByRecursion IsEvent (events ++ e ∷ [])
are_more [] e are is = (is, tt)
are_more (x ∷ events) e are is = (are.0, are_more events e are.1 is)

follow_next : (stage : Stage) (events : List Event) (e : Event) (n : Numbers Extent Extent) → AllFollow stage events n
    → off_at (record { format = stage.format; reach = reach_behind stage.reach events }) e (replayed (map event_in events) n) ≡ None → AllFollow stage (events ++ e ∷ []) n
follow_next stage [] e n follow is = (is, tt)
follow_next stage (x ∷ events) e n follow is = (follow.0, follow_next (stage_after x stage) events e (applied (event_in x) n) follow.1 is)

behind_more : (reach : Reach) (events : List Event) (e : Event) → reach_behind reach (events ++ e ∷ []) ≡ reach_after e (reach_behind reach events)
behind_more reach [] e = refl
behind_more reach (x ∷ events) e = behind_more (reach_after x reach) events e

come_next : (format : ℕ) (payloads : List (List ℕ)) (payload : List ℕ) (reach later : Reach) (old new : Numbers Extent Extent) → HasCome format payloads reach old
    → (one : IsTaken payload format reach old new later) → HasCome format (payloads ++ spelling one.event ∷ []) later new
come_next format payloads payload reach later old new come one = record {
  replayed = record {
    events = come.replayed.events ++ one.event ∷ [];
    are = are_more come.replayed.events one.event come.replayed.are one.is;
    written = ap (λ (l : List (List ℕ)). l ++ spelling one.event ∷ []) come.replayed.written ∙ sym (map-append spelling come.replayed.events (one.event ∷ []));
    follow = follow_next (start_of format) come.replayed.events one.event nothing_yet come.replayed.follow
        (subst (λ (r : Reach). off_at (record { format = format; reach = r }) one.event (replayed (map event_in come.replayed.events) nothing_yet) ≡ None) come.reach_is
        (subst (λ (n : Numbers Extent Extent). off_at (record { format = format; reach = reach }) one.event n ≡ None) come.replayed.end one.applies));
    end = one.numbers ∙ ap (applied (event_in one.event)) come.replayed.end ∙ sym (numbers_more come.replayed.events one.event);
  };
  reach_is = one.reach_is ∙ ap (reach_after one.event) come.reach_is ∙ sym (behind_more AtStart come.replayed.events one.event);
}

-- ---- the payload at a place

pub more : (format : ℕ) (payloads : List (List ℕ)) (k : ℕ) (payload : List ℕ) (reach later : Reach) (old new : Numbers Extent Extent) → k < length payloads
    → payload ≡ get_or payloads k payload → HasCome format (take k payloads) reach old → IsTaken payload format reach old new later → HasCome format (take (k + 1) payloads) later new
more format payloads k payload reach later old new low there come one =
    let same : take (k + 1) payloads ≡ take k payloads ++ spelling one.event ∷ [] =
    take_more payloads k payload low ∙ ap (λ p. take k payloads ++ p ∷ []) (sym there ∙ one.written)
    in subst (λ (ps : List (List ℕ)). HasCome format ps later new) (sym same) (come_next format (take k payloads) payload reach later old new come one)

stopped : (format : ℕ) (payloads : List (List ℕ)) (k : ℕ) (payload : List ℕ) (reach : Reach) (old : Numbers Extent Extent) → k < length payloads
    → payload ≡ get_or payloads k [] → HasCome format (take k payloads) reach old → (Follows payload (record { format = format; reach = reach }) old → ⊥) → IsStopped format payloads k
stopped format payloads k payload reach old low there come off = record {
  there = low;
  before = old;
  replayed = come.replayed;
  stops =
      subst (λ (r : Reach). Follows (get_or payloads k []) (record { format = format; reach = r }) old → ⊥) come.reach_is
      (subst (λ p. Follows p (record { format = format; reach = reach }) old → ⊥) there off);
}

pub refused : (format : ℕ) (payloads : List (List ℕ)) (k : ℕ) (payload : List ℕ) (reach : Reach) (old : Numbers Extent Extent) (why : ReplayErr) → k < length payloads
    → payload ≡ get_or payloads k [] → HasCome format (take k payloads) reach old → IsLeft payload k (record { format = format; reach = reach }) old why → RefusesPayloads format payloads why
refused format payloads k payload reach old (Damaged at) low there come left =
    subst (λ n. IsStopped format payloads n) (sym left.0) (stopped format payloads k payload reach old low there come left.1)
refused format payloads k payload reach old Memory low there come left = tt
