-- No plan runs where none ran, behind a command that begins none.
use Rattle.std.proofs.Common.{◌≡◌, ◌∙◌, ◌⊎◌, inl, inr, ℕ, Bool, true, false, List, [], ◌∷◌, ◌++◌, filter, map, refl, sym, ap, subst}
use Rattle.std.specs.Prelude.{IfOk, OnOk, Option, Some, None, Ok, Err, Result, find, if◌then◌else◌, is_some, not}
use Rattle.ov_host.specs.declared.area.Extent.{Extent}
use Rattle.ov_host.specs.Host.{State}
use Rattle.ov_event.specs.declared.event.Event as raw
use Rattle.ov_event.specs.declared.event.Event.TheVariants as says
use Rattle.ov_catalog.specs.Events.{applied, change, numbered}
use Rattle.ov_catalog.specs.Numbers.{Numbers, PlanNumbers, SetNumbers, each_plan, each_set}
use Rattle.ov_catalog.specs.Raw.{adding, event_in}
use Rattle.ov_catalog.specs.Shown.{Records, Rids, shown_plan, shown_set}
use Rattle.ov_catalog.specs.Stands.{Readings}
use Rattle.ov_core.specs.AtWorld.{IsAtWorld}
use Rattle.ov_core.specs.Brought.{with_extents}
use Rattle.ov_core.specs.Held.{Held}
use Rattle.law_image.specs.Pages.{readings_of}
use Rattle.ov_fetch.specs.Extents.{page_bytes}
use Rattle.ov_generate.specs.Reads.{AreBegun, Begun, HasFetched, IsAfter, IsFound}
use Rattle.law_steps.specs.Turns.{running}
use Rattle.ov_value.specs.declared.column.Column.{Column}
use Rattle.ov_model.specs.Moves.{Move}
use Rattle.ov_model.specs.Steps.{first_step, next_step, step_or}
use Rattle.ov_model.specs.World.{Dataset, Plan, World}
use Rattle.ov_model.specs.declared.reply.Reply.{Reply}
use Rattle.ov_store.proofs.Fitting.{sees}
use Rattle.ov_store.specs.Changes.{Bringing, IsDone}
use Rattle.ov_store.specs.Committing.{IsCommitted, Set, Wish}
use Rattle.ov_store.specs.Dropping.{IsDropped}
use Rattle.ov_store.specs.Kept.{Kept, Stays}
use Rattle.ov_store.specs.declared.errors.StoreErr.{StoreErr}
use Rattle.ov_store.specs.declared.store.Committed.{Committed}
use Rattle.ov_session.proofs.Calls.{stays_still}
use Rattle.ov_session.specs.Errors.{reply_of}
use Rattle.ov_session.specs.declared.errors.EndErr.{EndErr}

abbrev has_plan : Set → Bool
has_plan s = is_some s.plan

-- no plan of these runs
abbrev pub AreIdle : List Set → Type 0
AreIdle [] = Unit {0}
AreIdle (s ∷ sets) = (s.plan ≡ None) × AreIdle sets

none_found : (sets : List Set) → AreIdle sets → find has_plan sets ≡ None
none_found [] idle = refl
none_found (s ∷ sets) idle =
    ap (λ (o : Option (PlanNumbers Extent)). if is_some o then Some s else find has_plan sets) idle.0 ∙ none_found sets idle.1

first_none : (s : Set) (sets : List Set) (plan : Option (PlanNumbers Extent)) → (if is_some plan then Some s else find has_plan sets) ≡ None
    → (plan ≡ None) × (find has_plan sets ≡ None)
first_none s sets None e = (refl, e)
first_none s sets (Some plan) e = cc

pub are_idle : (sets : List Set) → find has_plan sets ≡ None → AreIdle sets
are_idle [] e = tt
are_idle (s ∷ sets) e = let both = first_none s sets s.plan e in (both.0, are_idle sets both.1)

-- ---- events that begin none

idle_append : (a b : List Set) → AreIdle a → AreIdle b → AreIdle (a ++ b)
idle_append [] b one other = other
idle_append (s ∷ a) b one other = (one.0, idle_append a b one.1 other)

idle_filter : (test : Set → Bool) (sets : List Set) → AreIdle sets → AreIdle (filter test sets)
idle_filter test [] idle = tt
idle_filter test (s ∷ sets) idle = by (test s) (idle_filter test sets idle.1)
  where
    by : (b : Bool) → AreIdle (filter test sets) → AreIdle (if b then s ∷ filter test sets else filter test sets)
    by true rest = (idle.0, rest)
    by false rest = rest

idle_change : (number : ℕ) (f : Set → Set) → ((s : Set) → (f s).plan ≡ s.plan) → (sets : List Set) → AreIdle sets → AreIdle (change number f sets)
idle_change number f keeps [] idle = tt
idle_change number f keeps (s ∷ sets) idle = by (numbered number s) (idle_change number f keeps sets idle.1)
  where
    by : (b : Bool) → AreIdle (change number f sets) → AreIdle (if b then f s ∷ sets else s ∷ change number f sets)
    by true rest = (keeps s ∙ idle.0, idle.1)
    by false rest = (idle.0, rest)

-- of an Init, a Commit, one with added columns, and a Drop
abbrev IsQuiet : raw.Event → Type 0
IsQuiet (says.Init name schema rows list segment) = Unit {0}
IsQuiet (says.Commit cvd vid message parents rows fresh place added list segment) = Unit {0}
IsQuiet (says.Drop cvd) = Unit {0}
IsQuiet (says.Wide cvd vid message columns parents rows fresh place added list segment) = Unit {0}
IsQuiet e = ⊥

quiet_idle : (e : raw.Event) (n : Numbers Extent Extent) → IsQuiet e → AreIdle n.sets → AreIdle (applied (event_in e) n).sets
quiet_idle (says.Init name schema rows list segment) n quiet idle = idle_append n.sets _ idle (refl, tt)
quiet_idle (says.Commit cvd vid message parents rows fresh place added list segment) n quiet idle = idle_change cvd _ (λ s. refl) n.sets idle
quiet_idle (says.Plan cvd p q targets) n quiet idle = absurd quiet
quiet_idle (says.Copy cvd count segment) n quiet idle = absurd quiet
quiet_idle (says.Flip cvd) n quiet idle = absurd quiet
quiet_idle (says.Drop cvd) n quiet idle = idle_filter (λ s. not (numbered cvd s)) n.sets idle
quiet_idle (says.Base next) n quiet idle = absurd quiet
quiet_idle (says.Whole said) n quiet idle = absurd quiet
quiet_idle (says.Wide cvd vid message columns parents rows fresh place added list segment) n quiet idle = idle_change cvd _ (λ s. refl) n.sets idle

-- with or without added columns
adding_quiet : (added : List Column) (e : raw.Event) → IsQuiet e → IsQuiet (adding added e)
adding_quiet [] e quiet = quiet
adding_quiet (column ∷ added) (says.Init name schema rows list segment) quiet = tt
adding_quiet (column ∷ added) (says.Commit cvd vid message parents rows fresh place more list segment) quiet = tt
adding_quiet (column ∷ added) (says.Plan cvd p q targets) quiet = quiet
adding_quiet (column ∷ added) (says.Copy cvd count segment) quiet = quiet
adding_quiet (column ∷ added) (says.Flip cvd) quiet = quiet
adding_quiet (column ∷ added) (says.Drop cvd) quiet = tt
adding_quiet (column ∷ added) (says.Base next) quiet = quiet
adding_quiet (column ∷ added) (says.Whole said) quiet = quiet
adding_quiet (column ∷ added) (says.Wide cvd vid message columns parents rows fresh place more list segment) quiet = tt

placed_quiet : (l s : Extent) (e : raw.Event) → IsQuiet e → IsQuiet (with_extents l s e)
placed_quiet l s (says.Init name schema rows list segment) quiet = tt
placed_quiet l s (says.Commit cvd vid message parents rows fresh place added list segment) quiet = tt
placed_quiet l s (says.Plan cvd p q targets) quiet = quiet
placed_quiet l s (says.Copy cvd count segment) quiet = quiet
placed_quiet l s (says.Flip cvd) quiet = quiet
placed_quiet l s (says.Drop cvd) quiet = tt
placed_quiet l s (says.Base next) quiet = quiet
placed_quiet l s (says.Whole said) quiet = quiet
placed_quiet l s (says.Wide cvd vid message columns parents rows fresh place added list segment) quiet = tt

applied_none : (e : raw.Event) (old new : Held) → IsQuiet e → new.numbers ≡ applied (event_in e) old.numbers → running old.numbers ≡ None → running new.numbers ≡ None
applied_none e old new quiet is none =
    ap running is ∙ none_found (applied (event_in e) old.numbers).sets (quiet_idle e old.numbers quiet (are_idle old.numbers.sets none))

pub done_none : (b : Bringing) (old new : Held) → IsQuiet b.event → IsDone b old new → running old.numbers ≡ None → running new.numbers ≡ None
done_none b old new quiet done none = applied_none (with_extents done.l done.s b.event) old new (placed_quiet done.l done.s b.event quiet) done.applied_is none

pub committed_none : (s : Set) (wish : Wish) (t : State) (old new : Held) (made : Committed) → IsCommitted s wish t old new made → running old.numbers ≡ None
    → running new.numbers ≡ None
committed_none s wish t old new made is none = done_none is.brought old new (subst IsQuiet (sym is.by.commit.event_is) (adding_quiet wish.added _ tt)) is.done none

pub dropped_none : (name : List ℕ) (old new : Held) → IsDropped name old new → running old.numbers ≡ None → running new.numbers ≡ None
dropped_none name old new is none = applied_none (says.Drop is.cvd) old new tt is.gone none

-- ---- a call of the store that was refused changed nothing

pub refused_none : (name : List ℕ) (e : StoreErr) (result : Result Reply EndErr) (before now : Kept) (old new : State) → IfOk result (λ r. reply_of name e ≡ Some r)
    → Stays e before now old new → running before.held.numbers ≡ None → OnOk result (running now.held.numbers ≡ None)
refused_none name e (Err why) before now old new said stays none = tt
refused_none name e (Ok r) before now old new said stays none =
    let still = stays_still name e r before now old new said stays in subst (λ (k : Kept). running k.held.numbers ≡ None) (sym still.0) none

-- ---- versions that were generated

after_none : (name : List ℕ) (seed count : ℕ) (before : Held) (begun : List Begun) (now : Held) → AreBegun name seed count before begun → IsAfter name seed count before begun now
    → running before.numbers ≡ None → running now.numbers ≡ None
after_none name seed count before [] now are after none = done_none _ before now tt after none
after_none name seed count before (b ∷ begun) now are after none =
    committed_none after.set after.wish after.read b.held now after.made after.committed
    (after_none name seed count before begun b.held are.2 are.1 none)

found_none : (name : List ℕ) (seed count : ℕ) (before : Held) (begun : List Begun) (now : Held) → AreBegun name seed count before begun → IsFound before begun now
    → running before.numbers ≡ None → running now.numbers ≡ None
found_none name seed count before [] now are found none = subst (λ (h : Held). running h.numbers ≡ None) (sym found) none
found_none name seed count before (b ∷ begun) now are found none =
    subst (λ (h : Held). running h.numbers ≡ None) (sym found) (after_none name seed count before begun b.held are.2 are.1 none)

pub generated_none : (name : List ℕ) (seed count versions : ℕ) (before now : Held) (fault : Type 0) (old new : State) → HasFetched name seed count versions before now fault old new
    → (fault → ⊥) → running before.numbers ≡ None → running now.numbers ≡ None
generated_none name seed count versions before now fault old new is fine none = by (is.last fine)
  where
    by : IsAfter name seed count before is.begun now ⊎ IsFound before is.begun now → running now.numbers ≡ None
    by (inl after) = after_none name seed count before is.begun now is.are after none
    by (inr found) = found_none name seed count before is.begun now is.are found none

-- ---- at a World where no step is next

step_none : (d : Dataset) (plan : Option Plan) (later : Option Move) → step_or d plan later ≡ None → (plan ≡ None) × (later ≡ None)
step_none d None later e = (refl, e)
step_none d (Some plan) later e = cc

plan_none : (g : Extent → Option Records) (plan : Option (PlanNumbers Extent)) → each_plan g plan ≡ None → plan ≡ None
plan_none g None e = refl
plan_none g (Some plan) e = cc

abbrev asked_sets : List Dataset → List (SetNumbers (Option Rids) (Option Records))
asked_sets ds = map (each_set Some Some) (map shown_set ds)

abbrev seen_sets : Readings → List Set → List (SetNumbers (Option Rids) (Option Records))
seen_sets r sets = map (each_set r.list r.segment) sets

head_is : {X : Type 0} (x y : X) (xs ys : List X) → x ∷ xs ≡ y ∷ ys → x ≡ y
head_is x y xs ys e = cc

tail_is : {X : Type 0} (x y : X) (xs ys : List X) → x ∷ xs ≡ y ∷ ys → xs ≡ ys
tail_is x y xs ys e = cc

sets_idle : (r : Readings) (sets : List Set) (ds : List Dataset) → seen_sets r sets ≡ asked_sets ds → first_step ds ≡ None → AreIdle sets
sets_idle r [] ds same none = tt
sets_idle r (s ∷ sets) [] same none = absurd cc
sets_idle r (s ∷ sets) (d ∷ ds) same none =
    let both = step_none d d.plan (first_step ds) none
    in let plan : each_plan r.segment s.plan ≡ each_plan Some (shown_plan d d.plan) =
    ap (λ (x : SetNumbers (Option Rids) (Option Records)). x.plan) (head_is _ _ (seen_sets r sets) (asked_sets ds) same)
    in let rest : seen_sets r sets ≡ asked_sets ds = tail_is _ _ (seen_sets r sets) (asked_sets ds) same
    in (
      plan_none r.segment s.plan (plan ∙ ap (λ (o : Option Plan). each_plan Some (shown_plan d o)) both.0),
      sets_idle r sets ds rest both.1,
    )

-- no plan runs in the numbers either
pub at_idle : (w : World) (held : Held) (s : State) → IsAtWorld w held s → next_step w ≡ None → running held.numbers ≡ None
at_idle w held s at none =
    none_found held.numbers.sets
    (sets_idle (readings_of (page_bytes s)) held.numbers.sets w.sets (ap (λ (n : Numbers (Option Rids) (Option Records)). n.sets) (sees w held s at)) none)
