-- Versions that were listed without a refusal.
use Rattle.std.proofs.Common.{◌≡◌, ◌≢◌, ◌==◌, ◌||◌, ◌+◌, ◌≤◌, ℕ, Bool, true, false, nat_lt, List, [], ◌∷◌, length, map, refl, ◌∙◌, ap, subst, inl, inr, arith}
use Rattle.std.specs.Prelude.{Option, Some, None, if◌then◌else◌}
use Rattle.std.specs.List.{All, list_any}
use Rattle.std.proofs.lemmas.Bool.{cases_Bool, ltb-false, eqb-false, eqb-true}
use Rattle.std.proofs.lemmas.List.Elements.{All-cons, All-nil}
use Rattle.ov_host.specs.declared.area.Extent.{Extent}
use Rattle.ov_host.specs.Host.{State}
use Rattle.ov_layout.specs.Parts.{is_placed}
use Rattle.ov_layout.specs.declared.part.Part.{Part}
use Rattle.ov_member.specs.Rids.{has}
use Rattle.ov_catalog.specs.declared.cvd.Cvd.{Cvd}
use Rattle.ov_catalog.specs.Numbers.{SetNumbers, Numbers}
use Rattle.ov_catalog.specs.Reached.{AreParents}
use Rattle.ov_catalog.specs.Ready.{IsSet}
use Rattle.ov_catalog.specs.Sets.{part_in}
use Rattle.ov_model.specs.Placed.{AreThere, times}
use Rattle.ov_model.specs.World.{is_one}
use Rattle.ov_store.specs.declared.errors.StoreErr.{StoreErr}
use Rattle.ov_store.specs.declared.errors.StoreErr.TheVariants as why
use Rattle.ov_store.specs.Refusals.{IsVidOff, vids_off}
use Rattle.ov_store.specs.Unready.{IsRefused}
use Rattle.ov_store.specs.Scanning.{IsUndamaged, IsUnscanned, scan_off, set_in, versions_off}

abbrev one_if : Bool → ℕ
one_if b = if b then 1 else 0

module _ (count : ℕ) (before : List ℕ) (vid : ℕ) (vids : List ℕ) (e : vids_off count before (vid ∷ vids) ≡ None) where
  split : (off again : Bool) → (if off then Some (why.NoVersion vid) else if again then Some (why.RepeatedVersion vid) else vids_off count (vid ∷ before) vids) ≡ None
      → (off ≡ false) × (again ≡ false) × (vids_off count (vid ∷ before) vids ≡ None)
  split true again is = absurd cc
  split false true is = absurd cc
  split false false is = (refl, refl, is)

  parts : ((vid == 0 || nat_lt count vid) ≡ false) × (is_one before vid ≡ false) × (vids_off count (vid ∷ before) vids ≡ None)
  parts = split (vid == 0 || nat_lt count vid) (is_one before vid) e

  neither : (a b : Bool) → (a || b) ≡ false → (a ≡ false) × (b ≡ false)
  neither true b is = absurd cc
  neither false b is = (refl, is)

  is_there : (1 ≤ vid) × (vid ≤ count)
  is_there =
      let off = neither (vid == 0) (nat_lt count vid) parts.0
      in let some : vid ≡ 0 → ⊥ = eqb-false vid 0 off.0
      in (omega (arith, some), ltb-false count vid off.1)

pub all_there : (count : ℕ) (before vids : List ℕ) → vids_off count before vids ≡ None → All (λ vid. (1 ≤ vid) × (vid ≤ count)) vids
all_there count before [] e = All-nil (λ vid. (1 ≤ vid) × (vid ≤ count))
all_there count before (vid ∷ vids) e =
    All-cons (λ vid. (1 ≤ vid) × (vid ≤ count)) vid vids (is_there count before vid vids e) (all_there count (vid ∷ before) vids (parts count before vid vids e).2)

once_after : (count : ℕ) (before vids : List ℕ) → vids_off count before vids ≡ None → (n : ℕ) → times vids n + one_if (is_one before n) ≤ 1
once_after count before [] e n = elim (cases_Bool (is_one before n)) [ inl is ↦ rw is (omega arith) | inr is ↦ rw is (omega arith) ]
once_after count before (vid ∷ vids) e n = by (vid == n) refl (once_after count (vid ∷ before) vids (parts count before vid vids e).2 n)
  where
    by : (b : Bool) → (vid == n) ≡ b → times vids n + one_if (b || is_one before n) ≤ 1 → one_if b + times vids n + one_if (is_one before n) ≤ 1
    by true is rest =
        let same : vid ≡ n = eqb-true vid n is
        in let unlisted : is_one before n ≡ false = subst (λ k. is_one before k ≡ false) same (parts count before vid vids e).1
        in rw unlisted (omega (arith, rest))
    by false is rest = omega (arith, rest)

pub listed_once : (count : ℕ) (vids : List ℕ) → vids_off count [] vids ≡ None → (n : ℕ) → times vids n ≤ 1
listed_once count vids e n = omega (arith, once_after count [] vids e n)

-- nothing is allowed and refused
pub never_both : {o : Option StoreErr} (off : StoreErr) → o ≡ None → o ≡ Some off → ⊥
never_both off none is = cc

-- what was listed isn't refused
pub not_off : (n : Numbers Extent Extent) (name : List ℕ) (s : SetNumbers Extent Extent) (vids : List ℕ) (off : StoreErr) → set_in n name ≡ Some s
    → vids_off (length s.versions) [] vids ≡ None → scan_off n name vids ≡ Some off → ⊥
not_off n name s vids off found passed is =
    never_both off (ap (λ o. versions_off o vids) found ∙ passed) is

-- ---- what versions are refused for

abbrev IsVersionErr : StoreErr → Type 0
IsVersionErr (why.NoVersion vid) = Unit {0}
IsVersionErr (why.RepeatedVersion vid) = Unit {0}
IsVersionErr _ = ⊥

vids_only : (count : ℕ) (before vids : List ℕ) (off : StoreErr) → vids_off count before vids ≡ Some off → IsVersionErr off
vids_only count before [] off e = absurd cc
vids_only count before (vid ∷ vids) off e = by (vid == 0 || nat_lt count vid) (is_one before vid) e (vids_only count (vid ∷ before) vids off)
  where
    by : (wrong again : Bool) → (if wrong then Some (why.NoVersion vid) else if again then Some (why.RepeatedVersion vid) else vids_off count (vid ∷ before) vids) ≡ Some off
        → (vids_off count (vid ∷ before) vids ≡ Some off → IsVersionErr off) → IsVersionErr off
    by true again is later = let same : why.NoVersion vid ≡ off = ap (λ o. elim o as (λ _. StoreErr) [ None ↦ why.Memory | Some x ↦ x ]) is in subst IsVersionErr same tt
    by false true is later = let same : why.RepeatedVersion vid ≡ off = ap (λ o. elim o as (λ _. StoreErr) [ None ↦ why.Memory | Some x ↦ x ]) is in subst IsVersionErr same tt
    by false false is later = later is

pub vids_unscanned : (n : Numbers Extent Extent) (name : List ℕ) (s : SetNumbers Extent Extent) (vids : List ℕ) (old : State) (off : StoreErr) → set_in n name ≡ Some s
    → IsVidOff (length s.versions) vids off → IsUnscanned (scan_off n name vids) (set_in n name) vids old old off
vids_unscanned n name s vids old off found is = by off is
  where
    at : (e : StoreErr) → vids_off (length s.versions) [] vids ≡ Some e → scan_off n name vids ≡ Some e
    at e refused = ap (λ set. versions_off set vids) found ∙ refused

    by : (e : StoreErr) → IsVidOff (length s.versions) vids e → IsUnscanned (scan_off n name vids) (set_in n name) vids old old e
    by why.Memory w = tt
    by (why.NoVersion vid) w = (at (why.NoVersion vid) w, refl)
    by (why.RepeatedVersion vid) w = (at (why.RepeatedVersion vid) w, refl)
    by why.Host w = absurd (vids_only (length s.versions) [] vids why.Host w)
    by (why.Damaged area place) w = absurd (vids_only (length s.versions) [] vids (why.Damaged area place) w)
    by (why.Full pages) w = absurd (vids_only (length s.versions) [] vids (why.Full pages) w)
    by why.JournalFull w = absurd (vids_only (length s.versions) [] vids why.JournalFull w)
    by why.NoCvd w = absurd (vids_only (length s.versions) [] vids why.NoCvd w)
    by why.CvdExists w = absurd (vids_only (length s.versions) [] vids why.CvdExists w)
    by (why.DuplicateKey row) w = absurd (vids_only (length s.versions) [] vids (why.DuplicateKey row) w)
    by why.TooManyVersions w = absurd (vids_only (length s.versions) [] vids why.TooManyVersions w)
    by why.TooManyRecords w = absurd (vids_only (length s.versions) [] vids why.TooManyRecords w)
    by why.TooManyRows w = absurd (vids_only (length s.versions) [] vids why.TooManyRows w)
    by why.TooManyCvds w = absurd (vids_only (length s.versions) [] vids why.TooManyCvds w)
    by why.NoNumbers w = absurd (vids_only (length s.versions) [] vids why.NoNumbers w)
    by (why.FormatOne row) w = absurd (vids_only (length s.versions) [] vids (why.FormatOne row) w)

-- ---- partitions

served_map : (vid : ℕ) (parts : List Part) → list_any (λ part. has part.versions vid) (map part_in parts) ≡ is_placed parts vid
served_map vid [] = refl
served_map vid (part ∷ parts) = ap (λ b. has part.versions vid || b) (served_map vid parts)

pub served_there : (d : Cvd) (vid : ℕ) → IsSet d → 1 ≤ vid → vid ≤ length d.versions.items → list_any (λ part. has part.versions vid) (map part_in d.layout.parts) ≡ true
served_there d vid sound some there = served_map vid d.layout.parts ∙ sound.placed vid some there

pub vids_undamaged : (count : ℕ) (vids : List ℕ) (off : StoreErr) → IsVidOff count vids off → IsUndamaged off
vids_undamaged count vids (why.Damaged area place) is = absurd (vids_only count [] vids (why.Damaged area place) is)
vids_undamaged count vids why.Host is = tt
vids_undamaged count vids why.Memory is = tt
vids_undamaged count vids (why.Full pages) is = tt
vids_undamaged count vids why.JournalFull is = tt
vids_undamaged count vids why.NoCvd is = tt
vids_undamaged count vids why.CvdExists is = tt
vids_undamaged count vids (why.NoVersion vid) is = tt
vids_undamaged count vids (why.RepeatedVersion vid) is = tt
vids_undamaged count vids (why.DuplicateKey row) is = tt
vids_undamaged count vids why.TooManyVersions is = tt
vids_undamaged count vids why.TooManyRecords is = tt
vids_undamaged count vids why.TooManyRows is = tt
vids_undamaged count vids why.TooManyCvds is = tt
vids_undamaged count vids why.NoNumbers is = tt
vids_undamaged count vids (why.FormatOne row) is = tt

-- no versions are refused for want of memory alone
pub no_vids : (count : ℕ) (off : StoreErr) → IsVidOff count [] off → off ≡ why.Memory
no_vids count why.Memory is = refl
no_vids count why.Host is = cc
no_vids count (why.Damaged area place) is = cc
no_vids count (why.Full pages) is = cc
no_vids count why.JournalFull is = cc
no_vids count why.NoCvd is = cc
no_vids count why.CvdExists is = cc
no_vids count (why.NoVersion vid) is = cc
no_vids count (why.RepeatedVersion vid) is = cc
no_vids count (why.DuplicateKey row) is = cc
no_vids count why.TooManyVersions is = cc
no_vids count why.TooManyRecords is = cc
no_vids count why.TooManyRows is = cc
no_vids count why.TooManyCvds is = cc
no_vids count why.NoNumbers is = cc
no_vids count (why.FormatOne row) is = cc

-- ---- as parents

are_there : (count : ℕ) (before vids : List ℕ) → vids_off count before vids ≡ None → AreThere count vids
are_there count before [] e = tt
are_there count before (vid ∷ vids) e = (is_there count before vid vids e, are_there count (vid ∷ before) vids (parts count before vid vids e).2)

pub are_parents : (count : ℕ) (vids : List ℕ) → vids ≢ [] → vids_off count [] vids ≡ None → AreParents count vids
are_parents count vids some e = record { some = some; there = are_there count [] vids e; once = listed_once count vids e }

-- a refusal for versions is one of the call, where the call's comes first for them
pub vids_refuse : (off : Option StoreErr) (count : ℕ) (vids : List ℕ) (e : StoreErr) → IsVidOff count vids e → ((x : StoreErr) → vids_off count [] vids ≡ Some x → off ≡ Some x) → IsRefused off e
vids_refuse off count vids why.Memory is first = tt
vids_refuse off count vids why.Host is first = absurd (vids_only count [] vids why.Host is)
vids_refuse off count vids (why.Damaged area place) is first = absurd (vids_only count [] vids (why.Damaged area place) is)
vids_refuse off count vids (why.Full pages) is first = absurd (vids_only count [] vids (why.Full pages) is)
vids_refuse off count vids why.JournalFull is first = absurd (vids_only count [] vids why.JournalFull is)
vids_refuse off count vids why.NoCvd is first = first why.NoCvd is
vids_refuse off count vids why.CvdExists is first = first why.CvdExists is
vids_refuse off count vids (why.NoVersion vid) is first = first (why.NoVersion vid) is
vids_refuse off count vids (why.RepeatedVersion vid) is first = first (why.RepeatedVersion vid) is
vids_refuse off count vids (why.DuplicateKey row) is first = first (why.DuplicateKey row) is
vids_refuse off count vids why.TooManyVersions is first = first why.TooManyVersions is
vids_refuse off count vids why.TooManyRecords is first = first why.TooManyRecords is
vids_refuse off count vids why.TooManyRows is first = first why.TooManyRows is
vids_refuse off count vids why.TooManyCvds is first = first why.TooManyCvds is
vids_refuse off count vids why.NoNumbers is first = first why.NoNumbers is
vids_refuse off count vids (why.FormatOne row) is first = first (why.FormatOne row) is

pub vids_many : (count : ℕ) (before vids : List ℕ) → vids_off count before vids ≡ Some why.TooManyRecords → ⊥
vids_many count before vids e = vids_only count before vids why.TooManyRecords e
