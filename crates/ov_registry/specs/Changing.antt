-- A change of one of the two datasets: one Init or one Commit.
--     IsOrdered schema rows made      these rows in the order of their keys; more than a version may have stay as they are
--     IsChanged, IsUnchanged      it was made, or why it wasn't
--     changes_to w s t name schema rows reply d      what it means over a World
--     Ends name d s w ..      a command that isn't done is refused, or broken off
use Rattle.std.specs.Prelude.{◌≡◌, ◌⊎◌, ◌<◌, ◌≤◌, ℕ, List, [], ◌∷◌, length, Option, Some, None, codes}
use Rattle.std.specs.List.Sorted.{IsPermutation}
use Rattle.ov_core.specs.Held.{Held}
use Rattle.ov_host.specs.Host.{State}
use Rattle.ov_model.specs.Act.{Deed, Session, does, repeated_key, unless}
use Rattle.ov_model.specs.Book.{Row}
use Rattle.ov_model.specs.Lists.{Rises}
use Rattle.ov_model.specs.Merge.{in_key_order}
use Rattle.ov_model.specs.Registry.{change_of, change_refusal}
use Rattle.ov_model.specs.World.{Dataset, World}
use Rattle.ov_model.specs.declared.refusal.Refusal.{Refusal}
use Rattle.ov_model.specs.declared.reply.Reply.{Reply}
use Rattle.ov_model.specs.declared.reply.Reply.TheVariants as says
use Rattle.ov_store.specs.Beginning.{first_of, init_off}
use Rattle.ov_store.specs.Changes.{IsDone, IsWhy}
use Rattle.ov_store.specs.Committing.{IsCommitted, IsUncommitted, Set, Wish, commit_off}
use Rattle.ov_store.specs.Refusals.{refusal_of}
use Rattle.ov_store.specs.declared.errors.StoreErr.{StoreErr}
use Rattle.ov_store.specs.declared.errors.StoreErr.TheVariants as why
use Rattle.ov_store.specs.declared.store.Committed.{Committed}
use Rattle.ov_value.specs.Rows.{key_cmp}
use Rattle.ov_value.specs.Shapes.{Shape}
use Rattle.law_runs.specs.Serving.{Breaks, Does}

pub record IsOrdered (schema : Shape) (rows made : List Row) : Type 0 where
  pub kept : IsPermutation rows made
  pub once : repeated_key schema [] 1 made ≡ None
  pub ordered : length rows ≤ 1000000 → made ≡ in_key_order schema rows
  pub rises : length rows ≤ 1000000 → Rises (key_cmp schema) made
  pub many : 1000000 < length rows → made ≡ rows

-- ---- by the numbers

-- a version of these rows, whose one parent is the last one
abbrev pub wish_of : Set → List Row → Wish
wish_of set rows = record { vids = length set.versions ∷ []; message = codes "stage"; added = []; rows = rows }

-- nothing refused it
abbrev pub IsMade : Option Set → List ℕ → Shape → List Row → State → Held → Held → Type 0
IsMade None name schema rows old before now = (init_off before name schema rows ≡ None) × IsDone (first_of name schema rows) before now
IsMade (Some set) name schema rows old before now =
    (commit_off before name (length set.versions ∷ []) [] rows ≡ None) × ((made : Committed) × IsCommitted set (wish_of set rows) old before now made)

abbrev pub IsUnmade : Option Set → List ℕ → Shape → List Row → State → State → Held → StoreErr → Type 0
IsUnmade None name schema rows old new held off = IsWhy (init_off held name schema rows) (first_of name schema rows) held old new off
IsUnmade (Some set) name schema rows old new held off = IsUncommitted held name (wish_of set rows) old new off

pub record IsChanged (set : Option Set) (name : List ℕ) (schema : Shape) (rows : List Row) (old : State) (before now : Held) : Type 0 where
  pub made : List Row
  pub ordered : IsOrdered schema rows made
  pub is : IsMade set name schema made old before now

pub record IsRefused (set : Option Set) (name : List ℕ) (schema : Shape) (rows : List Row) (old new : State) (held : Held) (off : StoreErr) : Type 0 where
  pub made : List Row
  pub ordered : IsOrdered schema rows made
  pub is : IsUnmade set name schema made old new held off

-- or there was no memory for it
abbrev pub IsUnchanged : Option Set → List ℕ → Shape → List Row → State → State → Held → StoreErr → Type 0
IsUnchanged set name schema rows old new held off = (off ≡ why.Memory) ⊎ IsRefused set name schema rows old new held off

-- ---- at a World

-- one move, after which `t` is the session; or its refusal
abbrev pub changes_to : World → Session → Session → List ℕ → Shape → List Row → Reply → Option Dataset → Deed
changes_to w s t name schema rows reply d = unless s (change_refusal w name rows d) (does t (change_of name schema rows d) reply)

abbrev pub EndsBy : Option Refusal → Deed → Session → World → Held → Held → State → State → Type 0
EndsBy None d s w before now old new = Breaks d s w old new
EndsBy (Some refusal) d s w before now old new = Does d s s w (says.Refused refusal) before now old new

abbrev pub Ends : List ℕ → Deed → Session → World → Held → Held → State → State → StoreErr → Type 0
Ends name d s w before now old new off = EndsBy (refusal_of name off) d s w before now old new
