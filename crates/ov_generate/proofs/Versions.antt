-- One version, out of the answers of the calls that make it.
use Rattle.std.proofs.Common.{◌≡◌, ◌≤◌, ◌+◌, ◌-◌, ◌∙◌, ℕ, List, [], ◌∷◌, codes, length, sym, ap, subst, arith}
use Rattle.std.specs.Prelude.{Err, IfOk, MatchResult, None, Ok, OnOk, Result}
use Rattle.ov_host.specs.Host.{State}
use Rattle.ov_host.specs.Stops.{Only}
use Rattle.ov_core.specs.AtWorld.{IsAtNext, IsAtWorld, IsEither}
use Rattle.ov_core.specs.Held.{Held}
use Rattle.ov_fetch.specs.Extents.{Looked}
use Rattle.ov_gen.specs.Versions.{IsGrown}
use Rattle.ov_model.specs.Book.{Row}
use Rattle.ov_model.specs.Generator.{child_of, parent_drawn}
use Rattle.ov_model.specs.Records.{rows_at}
use Rattle.ov_model.specs.World.{World}
use Rattle.ov_store.specs.Committing.{IsCommitted, Set, Wish, commit_move, committed}
use Rattle.ov_store.specs.Worlds.{IsLack, IsRefusedAs, and_made, version_refusal}
use Rattle.ov_store.specs.declared.errors.StoreErr.{StoreErr}
use Rattle.ov_store.specs.declared.store.Committed.{Committed}
use Rattle.law_room.specs.Room.{Entry, IsWithin, Made}
use Rattle.law_runs.specs.Stops.{printed_of}
use Rattle.law_moves.specs.Doing.{IsMoved}
use Rattle.law_generated.specs.Grown.{Grown, HasGrown, grown_more, move_next, parent_next, rows_next, rows_of_parent}
use Rattle.law_generated.proofs.Steps.{parent_grown, parent_rows}
use Rattle.ov_generate.specs.Making.{IsKnown, IsUnmoved}
use Rattle.ov_generate.proofs.Making.{is_moved, un_moved}
use Rattle.ov_generate.proofs.Numbers.{known_more}

pub parent_is : (g : Grown) (vid state result : ℕ) → length g.done + 1 ≡ vid → state ≡ g.state → result ≡ (parent_drawn (vid - 1) state).is → result ≡ (parent_next g).is
parent_is g vid state result long same drawn =
    let before : vid - 1 ≡ length g.done = omega (arith, long)
    in drawn ∙ (λ i. (parent_drawn (before i) (same i)).is)

pub state_is : (g : Grown) (vid state : ℕ) → length g.done + 1 ≡ vid → state ≡ g.state → (parent_drawn (vid - 1) state).state ≡ (parent_next g).state
state_is g vid state long same =
    let before : vid - 1 ≡ length g.done = omega (arith, long)
    in λ i. (parent_drawn (before i) (same i)).state

pub world_rows : (w : World) (name : List ℕ) (number count : ℕ) (g : Grown) (h : HasGrown w name number count g) (vid parent : ℕ) → length g.done + 1 ≡ vid → parent ≡ (parent_next g).is
    → IsGrown count vid (rows_at h.set.cvd.versions parent)
world_rows w name number count g h vid parent long drawn =
    subst (λ n. IsGrown count n (rows_at h.set.cvd.versions parent)) long
    (subst (λ (l : List Row). IsGrown count (length g.done + 1) l)
    (sym (parent_rows w name number count g h) ∙ ap (rows_at h.set.cvd.versions) (sym drawn))
    (parent_grown count g h.some h.grown))

pub child_is : (g : Grown) (count vid rows state : ℕ) (parent : List Row) → rows ≡ count → length g.done + 1 ≡ vid → state ≡ (parent_next g).state → parent ≡ rows_of_parent g
    → child_of rows vid state parent ≡ rows_next count g
child_is g count vid rows state parent r long s p = λ i. child_of (r i) (sym long i) (s i) (p i)

pub known_ok : (r : Result Committed StoreErr) (name : List ℕ) (old new : Held) (k : IsKnown old.numbers name) (wish : Wish) (t : State) → wish.added ≡ [] → IfOk r (IsCommitted k.set wish t old new)
    → IfOk r (λ made. IsKnown new.numbers name)
known_ok (Ok made) name old new k wish t none done = known_more name old new k wish t made none done
known_ok (Err off) name old new k wish t none done = tt

pub rows_ok : (r : Result Committed StoreErr) (s : Set) (wish : Wish) (t : State) (old new : Held) → IfOk r (IsCommitted s wish t old new) → length wish.rows ≤ 1000000
    → IfOk r (λ made. made.rows ≤ 1000000)
rows_ok (Ok made) s wish t old new done few = omega (arith, done.rows_is, few)
rows_ok (Err off) s wish t old new done few = tt

module _ (w : World) (name : List ℕ) (number count : ℕ) (g : Grown) (h : HasGrown w name number count g) (wish : Wish) (vids_are : wish.vids ≡ (parent_next g).is ∷ []) (message_is : wish.message ≡ codes "gen") (none_added : wish.added ≡ [])
    (rows_are : wish.rows ≡ (rows_next count g).is) (versions : length g.done + 1 ≤ 65535) (most : count + (length g.done + 1) ≤ 1000000)
    (before after : Held) (old mid new : State) (at : IsAtWorld w before old) (looked : Looked old mid) (stops : Only mid.tape new.tape (IsEither w (committed name wish w) (printed_of mid)))
    (drawn : ℕ) (drawn_is : drawn ≡ (grown_more count g).state) where
  pub version_made : (r : Result Committed StoreErr) (s : Set) (t : State) → OnOk r (IsAtNext (committed name wish w) after mid new)
      → MatchResult r (λ made. version_refusal w h.set wish ≡ None) (IsRefusedAs name (version_refusal w h.set wish))
      → ((entry : Entry) (past : List Made) → IsWithin entry past before
      → MatchResult r (λ made. IsWithin entry (and_made past (commit_move h.set wish.vids wish.message wish.added wish.rows) w) after) (IsLack entry past (commit_move h.set wish.vids wish.message wish.added wish.rows) w))
      → IfOk r (IsCommitted s wish t before after)
      → MatchResult r (λ made. IsMoved (move_next number count g) w before after old new × (drawn ≡ (grown_more count g).state) × (made.rows ≡ length (rows_next count g).is))
      (IsUnmoved (move_next number count g) w before old new)
  version_made (Ok made) s t moves refused room done = (
    is_moved w name number count g h wish vids_are message_is none_added rows_are versions most before old mid new at looked after stops moves room,
    drawn_is,
    done.rows_is ∙ ap (λ (l : List Row). length l) rows_are,
  )
  version_made (Err off) s t moves refused room done =
      un_moved w name number count g h wish vids_are message_is none_added rows_are versions most before old mid new at looked off stops refused room
