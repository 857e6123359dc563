-- What was fetched while the versions were made.
use Rattle.std.proofs.Common.{◌≡◌, ◌≤◌, ◌<◌, ◌+◌, ◌-◌, ◌*◌, ◌∙◌, inl, inr, ℕ, List, [], ◌∷◌, length, refl, sym, ap, subst, arith}
use Rattle.std.specs.Prelude.{Err, IfOk, Ok, OnOk, Option, Result, Some}
use Rattle.ov_host.specs.Host.{State}
use Rattle.ov_core.specs.Held.{Held}
use Rattle.ov_gen.specs.Versions.{IsGrown}
use Rattle.ov_read.specs.Sizes.{bytes_for}
use Rattle.ov_store.specs.Committing.{IsCommitted, Set, Wish}
use Rattle.ov_store.specs.Scanning.{set_in}
use Rattle.ov_store.specs.declared.errors.StoreErr.{StoreErr}
use Rattle.ov_store.specs.declared.store.Committed.{Committed}
use Rattle.ov_generate.specs.Making.{IsKnown}
use Rattle.ov_generate.specs.Reads.{AreBegun, Begun, HasFetched, IsAfter, IsFirstMade, IsVersionMade, begun_fetch, bytes_of, state_behind}
use Rattle.ov_model.specs.Generator.{parent_drawn}

pub bytes_there : (o : Option Set) (set : Set) (vid parent : ℕ) → o ≡ Some set → vid ≡ parent → bytes_for set (vid ∷ []) ≡ bytes_of o parent
bytes_there o set vid parent is same = ap (λ p. bytes_for set (p ∷ [])) same ∙ sym (ap (λ x. bytes_of x parent) is)

pub version_is_made : (r : Result Committed StoreErr) (name : List ℕ) (count vid parent : ℕ) (old new : Held) (k : IsKnown old.numbers name) (wish : Wish) (t : State) → wish.vids ≡ parent ∷ [] → wish.added ≡ []
    → IsGrown count (vid + 1) wish.rows → IfOk r (IsCommitted k.set wish t old new) → OnOk r (IsVersionMade name count vid parent old new)
version_is_made (Ok made) name count vid parent old new k wish t vids none grown is =
    record { set = k.set; named = k.named; wish = wish; vids_are = vids; none_added = none; grown = grown; read = t; made = made; committed = is }
version_is_made (Err off) name count vid parent old new k wish t vids none grown is = tt

module _ (name : List ℕ) (seed count : ℕ) (before : Held) (old : State) where
  -- so many versions were made
  pub record IsFetching (made : ℕ) (now : Held) (new : State) : Type 0 where
    pub begun : List Begun
    pub are : AreBegun name seed count before begun
    pub after_ : IsAfter name seed count before begun now
    pub long : length begun + 1 ≡ made
    pub fetched : new.fetched ≤ old.fetched + begun_fetch name begun

  pub fetching_first : (now : Held) (new : State) → IsFirstMade name seed count before now → new.fetched ≡ old.fetched → IsFetching 1 now new
  fetching_first now new first same = record { begun = []; are = tt; after_ = first; long = refl; fetched = omega (arith, same) }

  module _ (made parent x : ℕ) (held : Held) (mid new : State) (f : IsFetching made held mid) (state_is : x ≡ state_behind seed count (made - 1))
      (parent_is : parent ≡ (parent_drawn made x).is) (fetched : new.fetched ≤ mid.fetched + 2 * bytes_of (set_in held.numbers name) parent) where
    abbrev more : List Begun
    more = record { held = held; parent = parent } ∷ f.begun

    are_more : AreBegun name seed count before more
    are_more = (drawn, f.after_, f.are)
      where
        long : made ≡ length f.begun + 1
        long = sym f.long

        behind : made - 1 ≡ length f.begun
        behind = omega (arith, f.long)

        drawn : parent ≡ (parent_drawn (length f.begun + 1) (state_behind seed count (length f.begun))).is
        drawn = parent_is ∙ (λ i. (parent_drawn (long i) (state_is i)).is) ∙ (λ i. (parent_drawn (length f.begun + 1) (state_behind seed count (behind i))).is)

    pub fetching_more : (now : Held) → IsVersionMade name count (made + 1) parent held now → IsFetching (made + 1) now new
    fetching_more now is = record {
      begun = more;
      are = are_more;
      after_ = subst (λ n. IsVersionMade name count n parent held now) (let same : made + 1 ≡ length f.begun + 2 = omega (arith, f.long) in same) is;
      long = omega (arith, f.long);
      fetched = omega (arith, fetched, f.fetched);
    }

    -- the next one wasn't
    pub fetched_off : (versions : ℕ) (now : Held) (fault : Type 0) → made < versions → ((fault → ⊥) → now ≡ held) → HasFetched name seed count versions before now fault old new
    fetched_off versions now fault few same = record {
      begun = more;
      are = are_more;
      few = omega (arith, few, f.long);
      last = λ fine. inr (same fine);
      fetched = omega (arith, fetched, f.fetched);
    }

  pub fetched_none : (versions : ℕ) (now : Held) (fault : Type 0) (new : State) → 1 ≤ versions → ((fault → ⊥) → now ≡ before) → new.fetched ≡ old.fetched
      → HasFetched name seed count versions before now fault old new
  fetched_none versions now fault new some same fetched = record { begun = []; are = tt; few = omega (arith, some); last = λ fine. inr (same fine); fetched = omega (arith, fetched) }

  pub fetched_all : (cvd : List ℕ) (versions : ℕ) (now : Held) (fault : Type 0) (new : State) → name ≡ cvd → IsFetching versions now new → HasFetched cvd seed count versions before now fault old new
  fetched_all cvd versions now fault new same f =
      subst (λ (n : List ℕ). HasFetched n seed count versions before now fault old new) same
      (record { begun = f.begun; are = f.are; few = omega (arith, f.long); last = λ fine. inl f.after_; fetched = f.fetched })
