-- Payloads that replay to their end are stopped at nowhere.
use Rattle.std.proofs.Common.{◌≡◌, ◌<◌, ℕ, zero, suc, List, [], ◌∷◌, length, map, take, slice_index_or, refl, sym, ◌∙◌, ap, subst, arith}
use Rattle.std.specs.List.{AllByRecursion}
use Rattle.ov_host.specs.declared.area.Extent.{Extent}
use Rattle.ov_event.specs.declared.event.Event.{Event}
use Rattle.ov_event.specs.Spelling.{IsEvent, spelling}
use Rattle.ov_event.proofs.Events.{spelled_once}
use Rattle.ov_catalog.specs.Applying.{AllFollow, Stage, AtStart, reach_behind, stage_after, start_of}
use Rattle.ov_catalog.specs.Events.{applied, replayed}
use Rattle.ov_catalog.specs.Numbers.{Numbers, nothing_yet}
use Rattle.ov_catalog.specs.Raw.{event_in, numbers_in}
use Rattle.ov_core.specs.Held.{IsReplay}
use Rattle.ov_open.specs.Replaying.{IsStopped, Follows}

pub head_is : {X : Type 0} (x y : X) (xs ys : List X) → x ∷ xs ≡ y ∷ ys → x ≡ y
head_is x y xs ys e = cc

pub tail_is : {X : Type 0} (x y : X) (xs ys : List X) → x ∷ xs ≡ y ∷ ys → xs ≡ ys
tail_is x y xs ys e = cc

-- the payload at a place spells the event that follows those before it, which `front` are
follows : (events front : List Event) (nth : ℕ) (stage : Stage) (n : Numbers Extent Extent) → AllByRecursion IsEvent events → AllFollow stage events n
    → AllByRecursion IsEvent front → take nth (map spelling events) ≡ map spelling front → nth < length (map spelling events)
    → Follows (slice_index_or (map spelling events) nth []) (record { format = stage.format; reach = reach_behind stage.reach front }) (replayed (map event_in front) n)
follows [] front nth stage n are all fronts written low = absurd (omega (arith, low))
follows (e ∷ es) [] zero stage n are all fronts written low = (e, are.0, refl, all.0)
follows (e ∷ es) [] (suc nth) stage n are all fronts written low = absurd cc
follows (e ∷ es) (x ∷ front) zero stage n are all fronts written low = absurd cc
follows (e ∷ es) (x ∷ front) (suc nth) stage n are all fronts written low =
    let same : e ≡ x = spelled_once e x are.0 fronts.0 (head_is (spelling e) (spelling x) (take nth (map spelling es)) (map spelling front) written)
    in let rest : Follows (slice_index_or (map spelling es) nth []) (record { format = stage.format; reach = reach_behind (stage_after e stage).reach front }) (replayed (map event_in front) (applied (event_in e) n)) =
    follows es front nth (stage_after e stage) (applied (event_in e) n) are.1 all.1 fronts.1
    (tail_is (spelling e) (spelling x) (take nth (map spelling es)) (map spelling front) written) (omega (arith, low))
    in subst (λ (y : Event). Follows (slice_index_or (map spelling es) nth []) (record { format = stage.format; reach = reach_behind (stage_after y stage).reach front }) (replayed (map event_in front) (applied (event_in y) n)))
    same rest

pub not_stopped : (format : ℕ) (payloads : List (List ℕ)) (n : Numbers Extent Extent) (nth : ℕ) → IsReplay format payloads n → IsStopped format payloads nth → ⊥
not_stopped format payloads n nth is stopped =
    let front : List Event = stopped.replayed.events
    in let written : take nth (map spelling is.events) ≡ map spelling front = ap (take nth) (sym is.written) ∙ stopped.replayed.written
    in let next : Follows (slice_index_or (map spelling is.events) nth []) (record { format = format; reach = reach_behind AtStart front }) (numbers_in front) =
    follows is.events front nth (start_of format) nothing_yet is.are is.follow stopped.replayed.are written (subst (λ (ps : List (List ℕ)). nth < length ps) is.written stopped.there)
    in let here : Follows (slice_index_or payloads nth []) (record { format = format; reach = reach_behind AtStart front }) (numbers_in front) =
    subst (λ (ps : List (List ℕ)). Follows (slice_index_or ps nth []) (record { format = format; reach = reach_behind AtStart front }) (numbers_in front)) (sym is.written) next
    in stopped.stops (subst (λ (m : Numbers Extent Extent). Follows (slice_index_or payloads nth []) (record { format = format; reach = reach_behind AtStart front }) m) (sym stopped.replayed.end) here)
