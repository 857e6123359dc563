-- A `migrate`: steps, one after another, and then how many were taken and how many are left.
use Rattle.std.proofs.Common.{◌≡◌, ◌+◌, ◌⊎◌, inl, inr, ℕ, suc, List, [], ◌∷◌, ◌++◌, length, refl, sym, ◌∙◌, ap, subst, append-nil, arith}
use Rattle.std.specs.Prelude.{Some, None}
use Rattle.ov_host.specs.Host.{State}
use Rattle.ov_host.specs.Stops.{Only}
use Rattle.ov_model.specs.Act.{Deed, Session, migrate_by}
use Rattle.ov_model.specs.Moves.{Move, moved}
use Rattle.ov_model.specs.Steps.{all_moved, next_step, next_steps, steps_left}
use Rattle.ov_model.specs.World.{World}
use Rattle.ov_model.specs.declared.refusal.Refusal.TheVariants as no
use Rattle.ov_model.specs.declared.reply.Reply.{Reply}
use Rattle.ov_model.specs.declared.reply.Reply.TheVariants as says
use Rattle.ov_core.specs.AtWorld.{IsEither}
use Rattle.ov_core.specs.Held.{Held}
use Rattle.law_room.specs.Room.{Entry, IsWithin, LacksRecord, LacksRun, Made}
use Rattle.law_runs.specs.Serving.{Breaks, Does}
use Rattle.law_runs.specs.Stepping.{IsStepping}
use Rattle.law_runs.specs.Stops.{printed_of}
use Rattle.law_runs.proofs.Moving.{after_all}
use Rattle.law_runs.proofs.Stepping.{none_next, one_next}
use Rattle.law_moves.specs.Doing.{IsDoing}
use Rattle.law_moves.proofs.Doing.{breaks_at, breaks_next, does_all, does_full_counted, does_no_run_counted}

-- no step comes where none is asked for, or no plan runs
pub over_next : (n : ℕ) (w : World) → (n ≡ 0) ⊎ (next_step w ≡ None) → next_steps n w ≡ []
over_next n w (inl zero_is) = ap (λ (k : ℕ). next_steps k w) zero_is
over_next n w (inr none) = none_next n w none

module _ (n : ℕ) (s : Session) (w v : World) (before now : Held) (old mid : State) where
  abbrev migrate : Deed
  migrate = migrate_by w s (next_steps n w)

  -- once all are made
  pub does_migrate : (is : IsDoing migrate w v [] before now old mid) → Does migrate s s w (says.Migrate (length is.moves) (steps_left v)) before now old mid
  does_migrate is =
      let moves_are : next_steps n w ≡ is.moves = is.split ∙ append-nil is.moves
      in subst (λ (reply : Reply). Does migrate s s w reply before now old mid)
      (ap (λ (ms : List Move). says.Migrate (length ms) (steps_left (all_moved ms w))) moves_are
      ∙ ap (λ (u : World). says.Migrate (length is.moves) (steps_left u)) (after_all is.moves w ∙ sym is.world_is))
      (does_all migrate w v s before now old mid is)

  module _ (left : ℕ) (is : IsStepping n left w v before now old mid) where
    -- steps that were taken are moves of it, and those that come next are left
    abbrev pub steps_do : (more : List Move) → next_steps left v ≡ more → IsDoing migrate w v more before now old mid
    steps_do more next = record {
      moves = is.moves;
      split = is.split ∙ ap (λ (ms : List Move). is.moves ++ ms) next;
      world_is = is.world_is;
      within = is.within;
      stops = is.stops;
      at = is.at;
      printed = is.printed;
    }

    -- broken off between two of them, or in a call that at most looked at the host
    pub migrate_off : (new : State) → new.tape ≡ mid.tape → Breaks migrate s w old new
    migrate_off new tape = breaks_at migrate w v (next_steps left v) before now old mid (steps_do (next_steps left v) refl) s new tape

    module _ (taken : ℕ) (count : taken + left ≡ n) where
      taken_is : length is.moves ≡ taken
      taken_is = omega (arith, is.count, count)

      -- no step comes any more
      pub migrate_all : (left ≡ 0) ⊎ (next_step v ≡ None) → Does migrate s s w (says.Migrate taken (steps_left v)) before now old mid
      migrate_all over =
          subst (λ (k : ℕ). Does migrate s s w (says.Migrate k (steps_left v)) before now old mid) taken_is
          (does_migrate (steps_do [] (over_next left v over)))

-- the next step
module _ (n left : ℕ) (s : Session) (w v : World) (m : Move) (before now : Held) (old mid : State) (is : IsStepping n (suc left) w v before now old mid) (next : next_step v ≡ Some m) where
  abbrev deed_is : Deed
  deed_is = migrate_by w s (next_steps n w)

  abbrev more : List Move
  more = next_steps left (moved m v)

  abbrev doing : IsDoing deed_is w v (m ∷ more) before now old mid
  doing = steps_do n s w v before now old mid (suc left) is (m ∷ more) (one_next left v m next)

  -- it was broken off
  pub migrate_broken : (new : State) → Only mid.tape new.tape (IsEither v (moved m v) (printed_of mid)) → Breaks deed_is s w old new
  migrate_broken new either = breaks_next deed_is w v m more before now old mid doing s new either

  module _ (taken : ℕ) (count : taken + suc left ≡ n) where
    -- no run was free for it
    pub migrate_no_run : (pages : ℕ) → ((entry : Entry) (past : List Made) → IsWithin entry past now → LacksRun entry past m v pages)
        → Does deed_is s s w (says.Refused (no.NoRun pages (Some (taken, steps_left v)))) before now old mid
    migrate_no_run pages lacks =
        subst (λ (k : ℕ). Does deed_is s s w (says.Refused (no.NoRun pages (Some (k, steps_left v)))) before now old mid)
        (taken_is n s w v before now old mid (suc left) is taken count)
        (does_no_run_counted deed_is w v m more before now old mid doing s pages refl lacks)

    -- the journal had no room for its record
    pub migrate_full : ((entry : Entry) (past : List Made) → IsWithin entry past now → LacksRecord entry past m v)
        → Does deed_is s s w (says.Refused (no.JournalFull (Some (taken, steps_left v)))) before now old mid
    migrate_full lacks =
        subst (λ (k : ℕ). Does deed_is s s w (says.Refused (no.JournalFull (Some (k, steps_left v)))) before now old mid)
        (taken_is n s w v before now old mid (suc left) is taken count)
        (does_full_counted deed_is w v m more before now old mid doing s refl lacks)
