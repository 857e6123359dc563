-- No live extent of events that apply passes page 2^22: each dataset is as a Whole may say it.
use Rattle.std.proofs.Common.{◌≡◌, ℕ, ◌%◌, ◌*◌, ◌&&◌, ◌==◌, not, nat_le, Bool, true, false, List, [], ◌∷◌, ◌++◌, length, map, flat_map, Option, Some, None, refl, sym, subst, arith}
use Rattle.std.specs.List.{AllByRecursion, list_all}
use Rattle.std.proofs.lemmas.Bool.Decides.{nat_tests}
use Rattle.ov_host.specs.declared.area.Extent.{Extent}
use Rattle.ov_pages.specs.Live.{is_too_high, too_high_page}
use Rattle.ov_catalog.specs.Applying.{is_extent, is_list, is_same}
use Rattle.ov_catalog.specs.Extents.{of_plan, of_set, live}
use Rattle.ov_catalog.specs.Numbers.{VersionNumbers, PartNumbers, PlanNumbers, SetNumbers, Numbers}
use Rattle.ov_catalog.specs.Raw.{numbers_in}
use Rattle.ov_catalog.specs.Wholes.{are_copied, are_placed, are_segments}
use Rattle.law_snapshots.proofs.Carrying.{all_whole}
use Rattle.law_snapshots.specs.Whole.{IsWhole}
use Rattle.ov_core.specs.Held.{IsReplay}

abbrev IsLow : Extent → Type 0
IsLow e = is_too_high e ≡ false

none_high : (es : List Extent) → AllByRecursion IsLow es → too_high_page es ≡ None
none_high [] low = refl
none_high (e ∷ es) low = rw low.0 (none_high es low.1)

joined : (a b : List Extent) → AllByRecursion IsLow a → AllByRecursion IsLow b → AllByRecursion IsLow (a ++ b)
joined [] b low more = more
joined (e ∷ a) b low more = (low.0, joined a b low.1 more)

-- ---- tests

left : (a b : Bool) → (a && b) ≡ true → a ≡ true
left true b both = refl
left false b both = cc

right : (a b : Bool) → (a && b) ≡ true → b ≡ true
right true b both = both
right false b both = cc

extent_low : (e : Extent) → is_extent e ≡ true → IsLow e
extent_low e is = grind (arith, nat_tests)

list_low : (rows : ℕ) (e : Extent) → is_list rows e ≡ true → IsLow e
list_low rows e is =
    let small : Bool = nat_le e.bytes (8 * rows)
    in let same : Bool = is_same (e.bytes == 0) (rows == 0)
    in extent_low e
    (right same (is_extent e) (right small (same && is_extent e) (right (e.bytes % 8 == 0) (small && (same && is_extent e)) is)))

-- ---- what a dataset has

lists_low : (vs : List (VersionNumbers Extent)) → list_all (λ v. is_list v.rows v.list) vs ≡ true → AllByRecursion IsLow (map (λ v. v.list) vs)
lists_low [] are = tt
lists_low (v ∷ vs) are =
    let rest : Bool = list_all (λ u. is_list u.rows u.list) vs
    in (list_low v.rows v.list (left (is_list v.rows v.list) rest are), lists_low vs (right (is_list v.rows v.list) rest are))

some_low : (es : List Extent) → list_all (λ e. not (e.bytes == 0) && is_extent e) es ≡ true → AllByRecursion IsLow es
some_low [] are = tt
some_low (e ∷ es) are =
    let here : Bool = not (e.bytes == 0) && is_extent e
    in let rest : Bool = list_all (λ x. not (x.bytes == 0) && is_extent x) es
    in (extent_low e (right (not (e.bytes == 0)) (is_extent e) (left here rest are)), some_low es (right here rest are))

segments_low : (records : ℕ) (es : List Extent) → are_segments records es ≡ true → AllByRecursion IsLow es
segments_low records es are =
    some_low es (left (list_all (λ e. not (e.bytes == 0) && is_extent e) es) (is_same (length es == 0) (records == 0)) are)

parts_low : (parts : List (PartNumbers Extent)) → list_all (λ part. are_segments part.records part.segments) parts ≡ true
    → AllByRecursion IsLow (flat_map (λ part. part.segments) parts)
parts_low [] are = tt
parts_low (part ∷ parts) are =
    let here : Bool = are_segments part.records part.segments
    in let rest : Bool = list_all (λ x. are_segments x.records x.segments) parts
    in joined part.segments (flat_map (λ x. x.segments) parts)
    (segments_low part.records part.segments (left here rest are)) (parts_low parts (right here rest are))

plan_low : (plan : Option (PlanNumbers Extent)) → are_copied plan ≡ true → AllByRecursion IsLow (of_plan plan)
plan_low None are = tt
plan_low (Some plan) are = segments_low plan.copied plan.segments are

set_low : (d : SetNumbers Extent Extent) → are_placed d ≡ true → AllByRecursion IsLow (of_set d)
set_low d are =
    let lists : Bool = list_all (λ v. is_list v.rows v.list) d.versions
    in let segments : Bool = list_all (λ part. are_segments part.records part.segments) d.parts
    in let later = right lists (segments && are_copied d.plan) are
    in joined (map (λ v. v.list) d.versions) (flat_map (λ part. part.segments) d.parts ++ of_plan d.plan)
    (lists_low d.versions (left lists (segments && are_copied d.plan) are))
    (joined (flat_map (λ part. part.segments) d.parts) (of_plan d.plan)
    (parts_low d.parts (left segments (are_copied d.plan) later)) (plan_low d.plan (right segments (are_copied d.plan) later)))

sets_low : (sets : List (SetNumbers Extent Extent)) → AllByRecursion IsWhole sets → AllByRecursion IsLow (flat_map of_set sets)
sets_low [] whole = tt
sets_low (d ∷ sets) whole = joined (of_set d) (flat_map of_set sets) (set_low d whole.0.placed) (sets_low sets whole.1)

pub never_high : (format : ℕ) (payloads : List (List ℕ)) (n : Numbers Extent Extent) → IsReplay format payloads n → too_high_page (live n) ≡ None
never_high format payloads n is =
    subst (λ (m : Numbers Extent Extent). too_high_page (live m) ≡ None) (sym is.end)
    (none_high (live (numbers_in is.events)) (sets_low (numbers_in is.events).sets (all_whole format is.events is.follow).each))
