-- Events that follow one another.
--     by_next      what applies is of a snapshot, or the event of a move
--     along      what each event keeps is so behind all of them
--     follow_more      one more behind all of them
--     follow_in_two      what follows in a store of some format follows in one of format 2
use Rattle.std.proofs.Common.{◌≡◌, ℕ, ◌==◌, Bool, true, false, List, [], ◌∷◌, ◌++◌, map}
use Rattle.std.specs.Prelude.{Option, Some, None}
use Rattle.std.specs.Option.{option_or}
use Rattle.ov_event.specs.declared.event.Event as raw
use Rattle.ov_event.specs.declared.event.Event.TheVariants as says
use Rattle.ov_event.specs.declared.whole.Whole.{Whole}
use Rattle.ov_host.specs.declared.area.Extent.{Extent}
use Rattle.ov_catalog.specs.Applying.{AllFollow, Stage, first_off, number_off, of_live, off_at, off_unless, set_numbered, stage_after, wide_off}
use Rattle.ov_catalog.specs.Events.{applied, replayed}
use Rattle.ov_catalog.specs.declared.field.Field.{Field}
use Rattle.ov_catalog.specs.declared.field.Field.TheVariants as off
use Rattle.ov_catalog.specs.Numbers.{Numbers}
use Rattle.ov_catalog.specs.Raw.{event_in, place_in, whole_in}
use Rattle.ov_catalog.specs.Wholes.{whole_off}

-- what applies behind so much of a half is a Base, a Whole that its tests pass, or the event of a move
pub by_next : (P : raw.Event → Type 0) (stage : Stage) (e : raw.Event) (n : Numbers Extent Extent) → off_at stage e n ≡ None
    → ((next : ℕ) → P (says.Base next)) → ((said : Whole) → whole_off said (whole_in said) n ≡ None → P (says.Whole said))
    → (first_off stage.format e n ≡ None → P e) → P e
by_next P stage (says.Init name schema rows list segment) n applies base whole other = other applies
by_next P stage (says.Commit cvd vid message parents rows fresh place added list segment) n applies base whole other = other applies
by_next P stage (says.Plan cvd p q targets) n applies base whole other = other applies
by_next P stage (says.Copy cvd count segment) n applies base whole other = other applies
by_next P stage (says.Flip cvd) n applies base whole other = other applies
by_next P stage (says.Drop cvd) n applies base whole other = other applies
by_next P stage (says.Base next) n applies base whole other = base next
by_next P stage (says.Whole said) n applies base whole other =
    whole said (later (number_off said.number stage.reach) (whole_off said (whole_in said) n) applies)
  where
    later : (o rest : Option Field) → option_or o rest ≡ None → rest ≡ None
    later None rest none = none
    later (Some field) rest none = absurd cc
by_next P stage (says.Wide cvd vid message columns parents rows fresh place added list segment) n applies base whole other = other applies

-- what each event that applies keeps is so behind all of them
pub along : (P : Numbers Extent Extent → Type 0)
    → ((stage : Stage) (e : raw.Event) (n : Numbers Extent Extent) → off_at stage e n ≡ None → P n → P (applied (event_in e) n))
    → (stage : Stage) (events : List raw.Event) (n : Numbers Extent Extent) → AllFollow stage events n → P n → P (replayed (map event_in events) n)
along P keeps stage [] n follow is = is
along P keeps stage (e ∷ events) n follow is =
    along P keeps (stage_after e stage) events (applied (event_in e) n) follow.1 (keeps stage e n follow.0 is)

-- the event of a move follows wherever the half has come
pub follows_next : (stage : Stage) (e : raw.Event) (n : Numbers Extent Extent) → first_off stage.format e n ≡ None → off_at stage e n ≡ None
follows_next stage (says.Init name schema rows list segment) n applies = applies
follows_next stage (says.Commit cvd vid message parents rows fresh place added list segment) n applies = applies
follows_next stage (says.Plan cvd p q targets) n applies = applies
follows_next stage (says.Copy cvd count segment) n applies = applies
follows_next stage (says.Flip cvd) n applies = applies
follows_next stage (says.Drop cvd) n applies = applies
follows_next stage (says.Base next) n applies = absurd cc
follows_next stage (says.Whole said) n applies = absurd cc
follows_next stage (says.Wide cvd vid message columns parents rows fresh place added list segment) n applies = applies

-- and one more behind all of them
pub follow_more : (stage : Stage) (events : List raw.Event) (e : raw.Event) (n : Numbers Extent Extent) → AllFollow stage events n
    → first_off stage.format e (replayed (map event_in events) n) ≡ None → AllFollow stage (events ++ e ∷ []) n
follow_more stage [] e n follow is = (follows_next stage e n is, tt)
follow_more stage (x ∷ events) e n follow is = (follow.0, follow_more (stage_after x stage) events e (applied (event_in x) n) follow.1 is)

-- ---- format 2 takes what any takes

behind_columns : (takes : Bool) (field : Field) (rest : Option Field) → option_or (off_unless takes field) rest ≡ None → rest ≡ None
behind_columns true field rest h = h
behind_columns false field rest h = absurd cc

pub next_in_two : (stage : Stage) (e : raw.Event) (n : Numbers Extent Extent) → off_at stage e n ≡ None → off_at (record { format = 2; reach = stage.reach }) e n ≡ None
next_in_two stage (says.Init name schema rows list segment) n applies = applies
next_in_two stage (says.Commit cvd vid message parents rows fresh place added list segment) n applies = applies
next_in_two stage (says.Plan cvd p q targets) n applies = applies
next_in_two stage (says.Copy cvd count segment) n applies = applies
next_in_two stage (says.Flip cvd) n applies = applies
next_in_two stage (says.Drop cvd) n applies = applies
next_in_two stage (says.Base next) n applies = applies
next_in_two stage (says.Whole said) n applies = applies
next_in_two stage (says.Wide cvd vid message columns parents rows fresh place added list segment) n applies =
    behind_columns (stage.format == 2) off.Number
    (of_live (wide_off vid message columns parents rows fresh (place_in place) added list segment) (set_numbered cvd n)) applies

pub follow_in_two : (stage : Stage) (events : List raw.Event) (n : Numbers Extent Extent) → AllFollow stage events n → AllFollow (record { format = 2; reach = stage.reach }) events n
follow_in_two stage [] n follow = tt
follow_in_two stage (e ∷ events) n follow = (next_in_two stage e n follow.0, follow_in_two (stage_after e stage) events (applied (event_in e) n) follow.1)
