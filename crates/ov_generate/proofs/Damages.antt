-- Which answers are damage, and of what.
use Rattle.std.proofs.Common.{◌≡◌, ◌<◌, ◌+◌, ◌-◌, ◌∙◌, ℕ, List, length, refl, sym, subst, ap, arith}
use Rattle.std.specs.Prelude.{None}
use Rattle.ov_host.specs.Host.{State}
use Rattle.ov_host.specs.declared.area.Area.{Area}
use Rattle.ov_core.specs.Held.{Held}
use Rattle.ov_model.specs.Moves.{Move}
use Rattle.ov_model.specs.World.{World}
use Rattle.ov_store.specs.Kept.{Kept, Stays}
use Rattle.ov_store.specs.Refusals.{new_off}
use Rattle.ov_store.specs.Scanning.{IsUndamaged}
use Rattle.ov_store.specs.declared.errors.StoreErr.{StoreErr}
use Rattle.ov_store.specs.declared.errors.StoreErr.TheVariants as why
use Rattle.ov_generate.specs.Making.{HasDamage, IsDamageOf, IsUnmoved}
use Rattle.ov_generate.specs.Reads.{AreBegun, Begun, HasDamagedVersion, IsAfter, state_behind}

pub undamaged_of : (off : StoreErr) → ((area : Area) (at : ℕ) → off ≡ why.Damaged area at → ⊥) → IsUndamaged off
undamaged_of (why.Damaged area at) none = none area at refl
undamaged_of why.Host none = tt
undamaged_of why.Memory none = tt
undamaged_of (why.Full pages) none = tt
undamaged_of why.JournalFull none = tt
undamaged_of why.NoCvd none = tt
undamaged_of why.CvdExists none = tt
undamaged_of (why.NoVersion vid) none = tt
undamaged_of (why.RepeatedVersion vid) none = tt
undamaged_of (why.DuplicateKey row) none = tt
undamaged_of why.TooManyVersions none = tt
undamaged_of why.TooManyRecords none = tt
undamaged_of why.TooManyRows none = tt
undamaged_of why.TooManyCvds none = tt
undamaged_of why.NoNumbers none = tt
undamaged_of (why.FormatOne row) none = tt

pub unmoved_none : (m : Move) (w : World) (held : Held) (old new : State) (off : StoreErr) → IsUnmoved m w held old new off → (area : Area) (at : ℕ) → off ≡ why.Damaged area at → ⊥
unmoved_none m w held old new off is area at same = subst (IsUnmoved m w held old new) same is

-- the next version's damage, of those that are asked for
pub version_damage : (k l : Kept) (name cvd : List ℕ) (seed count versions made x : ℕ) (before : Held) (begun : List Begun) (mid new : State) (off : StoreErr) → name ≡ cvd
    → new_off before.numbers name ≡ None → AreBegun name seed count before begun → IsAfter name seed count before begun k.held → length begun + 1 ≡ made → made < versions
    → x ≡ state_behind seed count (made - 1) → Stays off k l mid new → IsDamageOf (HasDamage k.held name x count (made + 1) new) off
    → IsDamageOf (HasDamagedVersion cvd seed count versions before l.held new) off
version_damage k l name cvd seed count versions made x before begun mid new off same allowed are after_ long few drawn stays is = by off stays is
  where
    state_is : x ≡ state_behind seed count (length begun)
    state_is = drawn ∙ ap (state_behind seed count) (let one : made - 1 ≡ length begun = omega (arith, long) in one)

    vid_is : made + 1 ≡ length begun + 2
    vid_is = omega (arith, long)

    by : (e : StoreErr) → Stays e k l mid new → IsDamageOf (HasDamage k.held name x count (made + 1) new) e → IsDamageOf (HasDamagedVersion cvd seed count versions before l.held new) e
    by (why.Damaged area at) st d = (
      d.0,
      subst (λ (n : List ℕ). HasDamagedVersion n seed count versions before l.held new at) same
          (subst (λ (y : Kept). HasDamagedVersion name seed count versions before y.held new at) (sym st.0)
          (record {
            allowed = allowed;
            begun = begun;
            are = are;
            made = after_;
            few = omega (arith, few, long);
            damage = subst (λ (n : ℕ). HasDamage k.held name (state_behind seed count (length begun)) count n new at) vid_is
                (subst (λ (n : ℕ). HasDamage k.held name n count (made + 1) new at) state_is d.1);
          })),
    )
    by why.Host st d = tt
    by why.Memory st d = tt
    by (why.Full pages) st d = tt
    by why.JournalFull st d = tt
    by why.NoCvd st d = tt
    by why.CvdExists st d = tt
    by (why.NoVersion v) st d = tt
    by (why.RepeatedVersion v) st d = tt
    by (why.DuplicateKey row) st d = tt
    by why.TooManyVersions st d = tt
    by why.TooManyRecords st d = tt
    by why.TooManyRows st d = tt
    by why.TooManyCvds st d = tt
    by why.NoNumbers st d = tt
    by (why.FormatOne row) st d = tt
