-- The event of a move that fits applies.
use Rattle.std.proofs.Common.{◌≡◌, ◌<◌, ◌≤◌, ◌+◌, ℕ, List, [], ◌∷◌, sym, subst}
use Rattle.std.specs.Prelude.{Some, None}
use Rattle.ov_event.specs.declared.event.Event as raw
use Rattle.ov_model.specs.Moves.{Move, Init, Commit, BeginPlan, Copy, Flip, Drop, Checkpoint}
use Rattle.ov_model.specs.World.{World}
use Rattle.ov_catalog.specs.Applying.{first_off}
use Rattle.ov_catalog.specs.Extents.{covers, brought, live}
use Rattle.ov_catalog.specs.Raw.{event_in, numbers_in}
use Rattle.ov_catalog.specs.Reached.{Fits}
use Rattle.ov_catalog.specs.Stands.{Readings, StandsFor, IsMove, seen_event, asked_event}
use Rattle.law_events.specs.Fitting.{IsSoundEvent}
use Rattle.law_events.proofs.Beginning.{drop_applies, init_applies}
use Rattle.law_events.proofs.Committing.{commit_applies}
use Rattle.law_events.proofs.Planning.{plan_applies}
use Rattle.law_events.proofs.Stepping.{copy_applies, flip_applies}
use Rattle.law_events.proofs.Wide.{wide_applies}

pub move_applies : (events : List raw.Event) (r : Readings) (w : World) (e : raw.Event) (m : Move) → StandsFor w.format events r w → Fits m w → IsSoundEvent e → Some (seen_event r e) ≡ asked_event m w
    → first_off w.format e (numbers_in events) ≡ None
move_applies events r w e (Init name schema rows) stands fits sound spells = init_applies events r w e name schema rows stands fits sound spells
move_applies events r w e (Commit cvd parents message [] rows) stands fits sound spells = commit_applies events r w e cvd parents message rows stands fits sound spells
move_applies events r w e (Commit cvd parents message (column ∷ added) rows) stands fits sound spells =
    wide_applies events r w e cvd parents message column added rows stands fits sound spells
move_applies events r w e (BeginPlan cvd p q) stands fits sound spells = plan_applies events r w e cvd p q stands fits spells
move_applies events r w e (Copy cvd) stands fits sound spells = copy_applies events r w e cvd stands fits sound spells
move_applies events r w e (Flip cvd) stands fits sound spells = flip_applies events r w e cvd stands fits spells
move_applies events r w e (Drop cvd) stands fits sound spells = drop_applies events r w e cvd stands fits spells
move_applies events r w e Checkpoint stands fits sound spells = absurd cc

pub is_move : (events : List raw.Event) (r : Readings) (w : World) (e : raw.Event) (m : Move) → StandsFor w.format events r w → Fits m w → IsSoundEvent e → Some (seen_event r e) ≡ asked_event m w
    → ((page : ℕ) → covers (brought (event_in e)) page + covers (live (numbers_in events)) page ≤ 1) → ((page : ℕ) → 1 ≤ covers (brought (event_in e)) page → page < r.pages)
    → IsMove w.format e m w (numbers_in events) r
is_move events r w e m stands fits sound spells apart inside = record {
  fits = fits;
  applies = move_applies events r w e m stands fits sound spells;
  spells = spells;
  apart = apart;
  inside = inside;
}

-- the same in a store whose format number is known to be the World's
pub is_move_in : (format : ℕ) (events : List raw.Event) (r : Readings) (w : World) (e : raw.Event) (m : Move) → StandsFor format events r w → w.format ≡ format → Fits m w
    → IsSoundEvent e → Some (seen_event r e) ≡ asked_event m w
    → ((page : ℕ) → covers (brought (event_in e)) page + covers (live (numbers_in events)) page ≤ 1) → ((page : ℕ) → 1 ≤ covers (brought (event_in e)) page → page < r.pages)
    → IsMove format e m w (numbers_in events) r
is_move_in format events r w e m stands same fits sound spells apart inside =
    subst (λ (f : ℕ). IsMove f e m w (numbers_in events) r) same
    (is_move events r w e m (subst (λ (f : ℕ). StandsFor f events r w) (sym same) stands) fits sound spells apart inside)
