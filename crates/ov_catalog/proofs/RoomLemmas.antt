-- Room in one dataset of many.
use Rattle.std.proofs.Common.{◌≡◌, ℕ, zero, suc, ◌+◌, ◌<◌, ◌≤◌, eqb, List, [], ◌∷◌, ◌++◌, length, get_or, set, refl, sym, ap, subst, ◌∙◌, inl, inr, arith}
use Rattle.std.specs.Prelude.{All, Vec, vec_capacity, Bool, Option, Some, not, ◌&&◌, nat_lt, None, filter, Result, Ok, Err, OnOk, IfOk}
use Rattle.std.specs.declared.alloc.Global.{Global}
use Rattle.std.specs.List.{list_any}
use Rattle.std.specs.Option.{option_or}
use Rattle.ov_layout.specs.Parts.{Ascend}
use Rattle.std.proofs.lemmas.Bool.{cases_Bool, leb-true, ltb-true}
use Rattle.std.proofs.lemmas.List.{length-append, length-map}
use Rattle.std.proofs.lemmas.List.Elements.{All-push, All-cons}
use Rattle.ov_layout.specs.Changes.{IsAbove}
use Rattle.ov_layout.proofs.JoinLemmas.{ascend-push}
use Rattle.ov_layout.proofs.NewLemmas.{above-later, above-push}
use Rattle.ov_layout.proofs.VidLemmas.{keys-strict}
use Rattle.ov_place.specs.declared.place_facts.Place.{Place}
use Rattle.ov_value.specs.Shapes.{Shape}
use Rattle.ov_catalog.specs.declared.cvd.Cvd.{Cvd}
use Rattle.ov_catalog.specs.declared.room.Room.{Room}
use Rattle.ov_catalog.specs.declared.room.Room.TheVariants as kept_for
use Rattle.ov_catalog.specs.Raw.{place_in}
use Rattle.ov_catalog.specs.declared.reach.Reach.{Reach}
use Rattle.ov_catalog.specs.declared.reach.Reach.TheVariants.{AtStart, InSnapshot, Beyond}
use Rattle.ov_catalog.specs.Ready.{CanBeginIn, FitsVersion, FitsNumbered, HasSegmentIn, HasSpace, MayFlipIn, IsSet, AreSets, AreUpTo, ForInit, reach_in}
use Rattle.ov_catalog.specs.Sets.{numbers_of, stays}
use Rattle.ov_catalog.specs.declared.error.ApplyErr.{ApplyErr}
use Rattle.ov_catalog.specs.declared.field.Field.{Field}
use Rattle.ov_catalog.specs.declared.field.Field.TheVariants as off
use Rattle.ov_catalog.specs.Answers.{IsWhy}
use Rattle.ov_catalog.specs.Applying.{base_off, init_off, is_named, number_off, reach_with}
use Rattle.ov_catalog.specs.Applying as applying
use Rattle.ov_catalog.specs.Numbers.{Numbers, SetNumbers}
use Rattle.ov_catalog.specs.Wholes.{whole_off}
use Rattle.ov_event.specs.declared.whole.Whole as raw
use Rattle.ov_catalog.proofs.CommitLemmas.{and-both, off-none, off-true}
use Rattle.ov_event.specs.declared.event.RawSchema.{RawSchema}
use Rattle.ov_host.specs.declared.area.Extent.{Extent}
use Rattle.ov_value.specs.Naming.{is_name}
use Rattle.ov_catalog.proofs.SetLemmas.{number_of, push-numbers, stay-ascend, stay-below}

pub on-ok : {T E : Type 0} (r : Result T E) (A B : Type 0) → (A → B) → OnOk r A → OnOk r B
on-ok (Ok v) A B f h = f h
on-ok (Err e) A B f h = tt

number-least : (least k : ℕ) (sets : List Cvd) (d : Cvd) → Ascend least (numbers_of sets) → k < length sets → least ≤ (get_or sets k d).number
number-least least k [] d h lt = absurd (omega arith)
number-least least zero (s ∷ sets) d h lt = h.0
number-least least (suc k) (s ∷ sets) d h lt =
    let rest = number-least (suc s.number) k sets d h.1 (omega arith) in
    let le = h.0 in
    omega (arith, rest, le)

-- where one dataset has a number, what holds of it holds of each dataset with the number
pub only-at : (P : Cvd → Type 0) (cvd least : ℕ) (sets : List Cvd) (at : ℕ) (d : Cvd) → Ascend least (numbers_of sets) → at < length sets → (get_or sets at d).number ≡ cvd → P (get_or sets at d) → All (λ x. x.number ≡ cvd → P x) sets
only-at P cvd least [] at d h lt e is k x within same = absurd (omega arith)
only-at P cvd least (s ∷ sets) zero d h lt e is zero x within same = is
only-at P cvd least (s ∷ sets) zero d h lt e is (suc k) x within same =
    let le = number-least (suc s.number) k sets x h.1 (omega arith) in
    absurd (omega (arith, le, same, e))
only-at P cvd least (s ∷ sets) (suc at) d h lt e is zero x within same =
    let above = keys-strict number_of (s ∷ sets) d least 0 (suc at) h (omega arith) lt in
    absurd (omega (arith, above, same, e))
only-at P cvd least (s ∷ sets) (suc at) d h lt e is (suc k) x within same =
    only-at P cvd (suc s.number) sets at d h.1 (omega arith) e is k x (omega arith) same

pub only-set : (P : Cvd → Type 0) (cvd least : ℕ) (sets : List Cvd) (at : ℕ) (d new : Cvd) → Ascend least (numbers_of sets) → at < length sets → (get_or sets at d).number ≡ cvd → new.number ≡ cvd → P new → All (λ x. x.number ≡ cvd → P x) (set sets at new)
only-set P cvd least [] at d new h lt e own is k x within same = absurd (omega arith)
only-set P cvd least (s ∷ sets) zero d new h lt e own is zero x within same = is
only-set P cvd least (s ∷ sets) zero d new h lt e own is (suc k) x within same =
    let le = number-least (suc s.number) k sets x h.1 (omega arith) in
    absurd (omega (arith, le, same, e))
only-set P cvd least (s ∷ sets) (suc at) d new h lt e own is zero x within same =
    let above = keys-strict number_of (s ∷ sets) d least 0 (suc at) h (omega arith) lt in
    absurd (omega (arith, above, same, e))
only-set P cvd least (s ∷ sets) (suc at) d new h lt e own is (suc k) x within same =
    only-set P cvd (suc s.number) sets at d new h.1 (omega arith) e own is k x (omega arith) same

pub fits-set : (cvd : ℕ) (p : Place) (least : ℕ) (sets : List Cvd) (at : ℕ) (d new : Cvd) → Ascend least (numbers_of sets) → at < length sets → (get_or sets at d).number ≡ cvd → new.number ≡ cvd → FitsVersion p new → All (FitsNumbered cvd p) (set sets at new)
fits-set cvd p least sets at d new h lt e own fit = only-set (FitsVersion p) cvd least sets at d new h lt e own fit

pub if-ok : {T E : Type 0} (r : Result T E) (P Q : T → Type 0) → ((v : T) → P v → Q v) → IfOk r P → IfOk r Q
if-ok (Ok v) P Q f h = f v h
if-ok (Err e) P Q f h = tt

-- what an event of a snapshot asks of how far the half has come
pub base-room : (n next : ℕ) (reach : Reach) → base_off next (reach_in n reach) ≡ None → 1 ≤ next
base-room n next AtStart h = leb-true 1 next (off-true _ _ h)
base-room n next (InSnapshot last) h = absurd cc
base-room n next Beyond h = absurd cc

-- the number of a dataset in it is behind those before it, and below the next one
pub record IsNumber (next number : ℕ) (reach : Reach) (numbers : List ℕ) : Type 0 where
  pub above : IsAbove number numbers
  pub low : number < next
  pub goes_on : reach_with number (reach_in next reach) ≡ applying.InSnapshot next number

pub number-is : (next number : ℕ) (reach : Reach) (numbers : List ℕ) → number_off number (reach_in next reach) ≡ None → AreUpTo reach numbers → IsNumber next number reach numbers
number-is next number AtStart numbers h up = absurd cc
number-is next number (InSnapshot last) numbers h up =
    let both = and-both (nat_lt last number) (nat_lt number next) (off-true _ _ h) in
    let behind = ltb-true last number both.0 in
    record { above = above-later (last + 1) number numbers up (omega (arith, behind)); low = ltb-true number next both.1; goes_on = refl }
number-is next number Beyond numbers h up = absurd cc

pub up-to-same : (reach : Reach) (old new : List Cvd) → numbers_of new ≡ numbers_of old → AreUpTo reach (numbers_of old) → AreUpTo reach (numbers_of new)
up-to-same reach old new e up = subst (AreUpTo reach) (sym e) up

pub up-to-push : (number : ℕ) (sets : List Cvd) (d : Cvd) → IsAbove number (numbers_of sets) → d.number ≡ number → IsAbove (number + 1) (numbers_of (sets ++ d ∷ []))
up-to-push number sets d above own =
    subst (IsAbove (number + 1)) (sym (push-numbers sets d ∙ ap (λ (n : ℕ). numbers_of sets ++ n ∷ []) own)) (above-push number number (numbers_of sets) above (omega arith))

-- more capacity leaves the room that there was
pub space-stays : (room : Room) (old new : Vec Cvd Global) → new.items ≡ old.items → vec_capacity old ≤ vec_capacity new → HasSpace room old → HasSpace room new
space-stays kept_for.Nothing old new same more h = tt
space-stays (kept_for.Init spare) old new same more h =
    let long = ap (λ (ds : List Cvd). length ds) same in
    let fits = h.1 in
    let few = h.2 in
    (h.0, omega (arith, long, more, fits), omega (arith, long, few))
space-stays (kept_for.Commit cvd place) old new same more h = subst (λ (ds : List Cvd). All (FitsNumbered cvd (place_in place)) ds) (sym same) h
space-stays (kept_for.Wide cvd place schema) old new same more h = subst (λ (ds : List Cvd). All (FitsNumbered cvd (place_in place)) ds) (sym same) h
space-stays (kept_for.Plan cvd plan) old new same more h = subst (λ (ds : List Cvd). All (CanBeginIn cvd plan) ds) (sym same) h
space-stays (kept_for.Copy cvd) old new same more h = subst (λ (ds : List Cvd). All (HasSegmentIn cvd) ds) (sym same) h
space-stays (kept_for.Flip cvd versions) old new same more h = subst (λ (ds : List Cvd). All (MayFlipIn cvd versions.items) ds) (sym same) h

-- the datasets after a change
pub are-same : (next : ℕ) (old new : List Cvd) → numbers_of new ≡ numbers_of old → All IsSet new → AreSets next old → AreSets next new
are-same next old new e sound h =
    let long : length new ≡ length old = sym (length-map new number_of) ∙ ap (λ (ns : List ℕ). length ns) e ∙ length-map old number_of in
    let few = h.few in
    record { few = omega (arith, long, few); ascend = subst (Ascend 0) (sym e) h.ascend; below = subst (IsAbove next) (sym e) h.below; sound = sound }

-- those of a snapshot, where a dataset comes behind them
pub sets-more : (next : ℕ) (sets : List Cvd) (d : Cvd) → AreSets next sets → length sets < 1024 → IsAbove d.number (numbers_of sets) → d.number < next → IsSet d → AreSets next (sets ++ d ∷ [])
sets-more next sets d h few above low is =
    let long = length-append sets (d ∷ []) in
    record {
      few = omega (arith, long, few);
      ascend = subst (Ascend 0) (sym (push-numbers sets d)) (ascend-push 0 d.number (numbers_of sets) h.ascend (omega arith) above);
      below = above-later (d.number + 1) next (numbers_of (sets ++ d ∷ [])) (up-to-push d.number sets d above refl) (omega (arith, low));
      sound = All-push IsSet sets d h.sound is;
    }

-- and where it gets the next number
pub sets-push : (next : ℕ) (sets : List Cvd) (d : Cvd) → AreSets next sets → length sets < 1024 → d.number ≡ next → IsSet d → AreSets (next + 1) (sets ++ d ∷ [])
sets-push next sets d h few own is =
    let wide : AreSets (next + 1) sets = record { few = h.few; ascend = h.ascend; below = above-later next (next + 1) (numbers_of sets) h.below (omega arith); sound = h.sound } in
    let above : IsAbove d.number (numbers_of sets) = subst (λ (n : ℕ). IsAbove n (numbers_of sets)) (sym own) h.below in
    sets-more (next + 1) sets d wide few above (omega (arith, own)) is

pub no-sets : (next : ℕ) → AreSets next []
no-sets next = record { few = omega arith; ascend = tt; below = tt; sound = λ k d lt. absurd (omega arith) }

sound-stay : (n : ℕ) (sets : List Cvd) → All IsSet sets → All IsSet (filter (stays n) sets)
sound-stay n [] h = λ k d lt. absurd (omega arith)
sound-stay n (s ∷ sets) h =
    let first : IsSet s = h 0 s (omega arith) in
    let rest : All IsSet (filter (stays n) sets) = sound-stay n sets (λ k d lt. h (suc k) d (omega arith)) in
    elim (cases_Bool (eqb s.number n)) [
      | inl e ↦ rw e rest
      | inr e ↦ rw e (All-cons IsSet s (filter (stays n) sets) first rest)
    ]

stay-few : (n : ℕ) (sets : List Cvd) → length (filter (stays n) sets) ≤ length sets
stay-few n [] = omega arith
stay-few n (s ∷ sets) =
    let rest = stay-few n sets in
    elim (cases_Bool (eqb s.number n)) [
      | inl e ↦ rw e (omega (arith, rest))
      | inr e ↦ rw e (omega (arith, rest))
    ]

pub sets-stay : (n next : ℕ) (sets : List Cvd) → AreSets next sets → AreSets next (filter (stays n) sets)
sets-stay n next sets h =
    let less = stay-few n sets in
    let few = h.few in
    record { few = omega (arith, less, few); ascend = stay-ascend n 0 sets h.ascend; below = stay-below n next sets h.below; sound = sound-stay n sets h.sound }

pub for-init : (a b : Shape) → ForInit a ≡ ForInit b → a ≡ b
for-init a b e = cc

-- where a dataset may begin, there are fewer than 1,024
pub init-few : (name : List ℕ) (schema : RawSchema) (rows : ℕ) (list segment : Extent) (n : Numbers Extent Extent) → init_off name schema rows list segment n ≡ None → length n.sets < 1024
init-few name schema rows list segment n h =
    let first = off-none (nat_lt n.next 4294967295) off.Number _ h in
    let tests : Bool = is_name name && (not (list_any (is_named name) n.sets) && nat_lt (length n.sets) 1024) in
    let named = off-none tests off.Name _ first.1 in
    let both = and-both (is_name name) _ named.0 in
    ltb-true _ _ (and-both (not (list_any (is_named name) n.sets)) _ both.1).1

-- and where a Whole says one
pub whole-few : (said : raw.Whole) (d : SetNumbers Extent Extent) (n : Numbers Extent Extent) → whole_off said d n ≡ None → length n.sets < 1024
whole-few said d n h =
    let tests : Bool = is_name said.name && (not (list_any (is_named said.name) n.sets) && nat_lt (length n.sets) 1024) in
    let named = off-none tests off.Name _ h in
    let both = and-both (is_name said.name) _ named.0 in
    ltb-true _ _ (and-both (not (list_any (is_named said.name) n.sets)) _ both.1).1

-- two tests one after another
pub none-both : (first second : Option Field) → first ≡ None → second ≡ None → option_or first second ≡ None
none-both None second a b = b
none-both (Some field) second a b = absurd cc

pub why-second : (why : ApplyErr) (first second : Option Field) → first ≡ None → IsWhy why second → IsWhy why (option_or first second)
why-second why None second a b = b
why-second why (Some field) second a b = absurd cc
