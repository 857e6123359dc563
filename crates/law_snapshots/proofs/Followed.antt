-- A half may begin with the snapshot of numbers whose datasets are as a Whole says them.
use Rattle.std.proofs.Common.{◌≡◌, ◌≤◌, ◌<◌, ℕ, ◌+◌, Bool, true, false, ◌&&◌, ◌||◌, List, [], ◌∷◌, ◌++◌, length, map, refl, sym, ap, subst, ◌∙◌, arith, length-append}
use Rattle.std.specs.Prelude.{nat_le, nat_lt, not, Option, Some, None}
use Rattle.std.specs.List.{list_all, list_any, AllByRecursion}
use Rattle.std.specs.Option.{option_or}
use Rattle.std.specs.Str.{bytes_eq}
use Rattle.std.proofs.lemmas.Bool.{and_from, and_parts, leb-true, le-leb, lt-ltb, ltb-true}
use Rattle.ov_event.specs.declared.event.Event.TheVariants as says
use Rattle.ov_host.specs.declared.area.Extent.{Extent}
use Rattle.ov_value.specs.Naming.{is_name}
use Rattle.ov_catalog.specs.declared.field.Field.{Field}
use Rattle.ov_catalog.specs.declared.field.Field.TheVariants as off
use Rattle.ov_catalog.specs.Applying.{AllFollow, InSnapshot, Stage, number_off, off_at, start_of}
use Rattle.ov_catalog.specs.Numbers.{SetNumbers, Numbers, nothing_yet}
use Rattle.ov_catalog.specs.Planning.{ascend_from}
use Rattle.ov_catalog.specs.Raw.{whole_in}
use Rattle.ov_catalog.specs.Testing.{is_named, is_schema, name_off, off_unless}
use Rattle.ov_catalog.specs.Wholes.{are_versions, are_records, are_parts, is_plan, is_threshold_for, are_placed, whole_off}
use Rattle.law_snapshots.proofs.Saying.{whole_back}
use Rattle.law_snapshots.specs.Said.{said_whole, snapshot_in}
use Rattle.law_snapshots.specs.Whole.{AreNew, AreWhole, IsWhole, names_of, numbers_of, spelled, p_of, q_of}

abbrev Set : Type 0
Set = SetNumbers Extent Extent

-- ---- one Whole

passes : (b : Bool) (f : Field) (rest : Option Field) → b ≡ true → rest ≡ None → option_or (off_unless b f) rest ≡ None
passes true f rest holds more = more
passes false f rest holds more = absurd cc

passes_last : (b : Bool) (f : Field) → b ≡ true → off_unless b f ≡ None
passes_last true f holds = refl
passes_last false f holds = absurd cc

either : (a b : Option Field) → a ≡ None → b ≡ None → option_or a b ≡ None
either None b first second = second
either (Some f) b first second = absurd cc

not_any : (b : Bool) → b ≡ false → not b ≡ true
not_any false e = refl
not_any true e = absurd cc

-- the datasets before it have other names, and there are few
name_passes : (d : Set) (n : Numbers Extent Extent) → is_name d.name ≡ true → list_any (is_named d.name) n.sets ≡ false → length n.sets < 1024 → name_off d.name n ≡ None
name_passes d n named new few =
    passes_last (is_name d.name && (not (list_any (is_named d.name) n.sets) && nat_lt (length n.sets) 1024)) off.Name
    (and_from (is_name d.name) (not (list_any (is_named d.name) n.sets) && nat_lt (length n.sets) 1024) named
    (and_from (not (list_any (is_named d.name) n.sets)) (nat_lt (length n.sets) 1024) (not_any (list_any (is_named d.name) n.sets) new) (lt-ltb (length n.sets) 1024 few)))

whole_passes : (d : Set) (n : Numbers Extent Extent) → IsWhole d → name_off d.name n ≡ None → whole_off (said_whole d) d n ≡ None
whole_passes d n is name =
    either (name_off d.name n) rest name
    (passes (is_schema (spelled d.schema)) off.Schema _ is.schema
    (passes (are_versions d.versions) off.Parent _ is.versions
    (passes (list_all (λ v. nat_le (length v.message) 1024) d.versions) off.Message _ is.messages
    (passes (are_records d) off.Rows _ is.records
    (passes (are_parts d) off.Placing _ is.parts
    (passes (is_threshold_for (p_of d.threshold) (q_of d.threshold) d.plan && is_plan d d.plan) off.Plan _
    (and_from (is_threshold_for (p_of d.threshold) (q_of d.threshold) d.plan) (is_plan d d.plan) is.threshold is.plan)
    (passes_last (are_placed d) off.Place is.placed)))))))
  where
    rest : Option Field
    rest = option_or (off_unless (is_schema (spelled d.schema)) off.Schema)
        (option_or (off_unless (are_versions d.versions) off.Parent)
        (option_or (off_unless (list_all (λ v. nat_le (length v.message) 1024) d.versions) off.Message)
        (option_or (off_unless (are_records d) off.Rows)
        (option_or (off_unless (are_parts d) off.Placing)
        (option_or (off_unless (is_threshold_for (p_of d.threshold) (q_of d.threshold) d.plan && is_plan d d.plan) off.Plan)
        (off_unless (are_placed d) off.Place))))))

-- ---- all of them

abbrev within : ℕ → ℕ → ℕ → Stage
within format next last = record { format = format; reach = InSnapshot next last }

abbrev with_done : ℕ → List Set → Numbers Extent Extent
with_done next done = record { next = next; sets = done }

-- what is left to say behind `done`, the last of which has the number `last`
record AreLeft (next last : ℕ) (done sets : List Set) : Type 0 where
  few : length done + length sets ≤ 1024
  rise : ascend_from (last + 1) (numbers_of sets) ≡ true
  below : list_all (λ number. nat_lt number next) (numbers_of sets) ≡ true
  names : AreNew (names_of done) (names_of sets)
  each : AllByRecursion IsWhole sets

pub any_named : (name : List ℕ) (sets : List Set) → list_any (is_named name) sets ≡ list_any (λ other. bytes_eq other name) (names_of sets)
any_named name [] = refl
any_named name (d ∷ sets) = ap (λ b. bytes_eq d.name name || b) (any_named name sets)

pub names_more : (done : List Set) (d : Set) → names_of (done ++ d ∷ []) ≡ names_of done ++ d.name ∷ []
names_more [] d = refl
names_more (x ∷ done) d = ap (λ names. x.name ∷ names) (names_more done d)

number_passes : (number next last : ℕ) → last < number → number < next → number_off number (InSnapshot next last) ≡ None
number_passes number next last above under =
    passes_last (nat_lt last number && nat_lt number next) off.Number
    (and_from (nat_lt last number) (nat_lt number next) (lt-ltb last number above) (lt-ltb number next under))

one_passes : (format next last : ℕ) (done : List Set) (d : Set) (sets : List Set) → AreLeft next last done (d ∷ sets) → off_at (within format next last) (says.Whole (said_whole d)) (with_done next done) ≡ None
one_passes format next last done d sets left =
    let up = and_parts (nat_le (last + 1) d.number) (ascend_from (d.number + 1) (numbers_of sets)) left.rise
    in let low = and_parts (nat_lt d.number next) (list_all (λ number. nat_lt number next) (numbers_of sets)) left.below
    in let above = leb-true (last + 1) d.number up.0
    in let few = left.few
    in let name : name_off d.name (with_done next done) ≡ None =
    name_passes d (with_done next done) left.each.0.named (any_named d.name done ∙ left.names.0) (omega (arith, few))
    in either (number_off d.number (InSnapshot next last)) (whole_off (said_whole d) (whole_in (said_whole d)) (with_done next done))
    (number_passes d.number next last (omega (arith, above)) (ltb-true d.number next low.0))
    (subst (λ x. whole_off (said_whole d) x (with_done next done) ≡ None) (sym (whole_back d left.each.0)) (whole_passes d (with_done next done) left.each.0 name))

one_less : (next last : ℕ) (done : List Set) (d : Set) (sets : List Set) → AreLeft next last done (d ∷ sets) → AreLeft next d.number (done ++ d ∷ []) sets
one_less next last done d sets left =
    let few = left.few
    in let long = length-append done (d ∷ [])
    in record {
      few = omega (arith, few, long);
      rise = (and_parts (nat_le (last + 1) d.number) (ascend_from (d.number + 1) (numbers_of sets)) left.rise).1;
      below = (and_parts (nat_lt d.number next) (list_all (λ number. nat_lt number next) (numbers_of sets)) left.below).1;
      names = subst (λ before. AreNew before (names_of sets)) (sym (names_more done d)) left.names.1;
      each = left.each.1;
    }

wholes_follow : (format next last : ℕ) (done sets : List Set) → AreLeft next last done sets
    → AllFollow (within format next last) (map (λ d. says.Whole (said_whole d)) sets) (with_done next done)
wholes_follow format next last done [] left = tt
wholes_follow format next last done (d ∷ sets) left = (
  one_passes format next last done d sets left,
  subst (λ x. AllFollow (within format next d.number) (map (λ y. says.Whole (said_whole y)) sets) (with_done next (done ++ x ∷ []))) (sym (whole_back d left.each.0))
      (wholes_follow format next d.number (done ++ d ∷ []) sets (one_less next last done d sets left)),
)

pub snapshot_follows : (format : ℕ) (n : Numbers Extent Extent) → AreWhole n → AllFollow (start_of format) (snapshot_in n) nothing_yet
snapshot_follows format n is = (
  passes_last (nat_le 1 n.next) off.Number (le-leb 1 n.next is.next),
  wholes_follow format n.next 0 [] n.sets (record { few = (let few = is.few in omega (arith, few)); rise = is.rise; below = is.below; names = is.names; each = is.each }),
)
