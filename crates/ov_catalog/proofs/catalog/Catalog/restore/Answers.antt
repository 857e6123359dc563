use Rattle.std.proofs.Common.{◌≡◌, ◌++◌, [], ◌∷◌, List, None, length, sym, ap, subst, arith}
use Rattle.std.proofs.lemmas.List.{length-map}
use Rattle.std.proofs.lemmas.Result.{err_from_is_err_and}
use Rattle.ov_host.specs.declared.area.Extent.{Extent}
use Rattle.ov_layout.specs.Changes.{IsAbove}
use Rattle.ov_catalog.specs.declared.cvd.Cvd.{Cvd}
use Rattle.ov_catalog.specs.Applying.{number_off}
use Rattle.ov_catalog.specs.Numbers.{Numbers, SetNumbers}
use Rattle.ov_catalog.specs.Raw.{whole_in}
use Rattle.ov_catalog.specs.Ready.{AreSets, AreUpTo, reach_in}
use Rattle.ov_catalog.specs.Sets.{numbers_of, set_in, sets_in}
use Rattle.ov_catalog.specs.Wholes.{whole_off}
use Rattle.ov_catalog.proofs.RoomLemmas.{none-both, number-is, sets-more, space-stays, up-to-push, whole-few, why-second}
use Rattle.ov_catalog.proofs.catalog.Catalog.restore.Goals as goal

pub returns-in_err-d-clause-answer : goal.returns-in_err-d-clause-answer
returns-in_err-d-clause-answer c =
    let inside = c.self.inside in
    let why = rw c.as_slice.ensures.value at (c.in_err-d.ensures.answer inside.next) in
    let is = err_from_is_err_and c.from_residual-in_err-d.result c.from_residual-in_err-d.ensures.1 in
    let off = number_off c.args.said.number (reach_in inside.next inside.reach) in
    rw (← c.self.view_is, is.1, is.2) (why-second c.in_err-d.field-0.0 off _ c.in_ok-check_number.ensures why)

pub invariant_of-self-2 : goal.invariant_of-self-2
invariant_of-self-2 c =
    let inside = c.self.inside in
    let said = c.args.said in
    let d = c.in_ok-d.d in
    let n : Numbers Extent Extent = record { next = inside.next; sets = sets_in inside.sets.items } in
    let number : d.number ≡ said.number = ap (λ (s : SetNumbers Extent Extent). s.number) c.in_ok-d.ensures.made in
    let is = number-is inside.next said.number inside.reach (numbers_of inside.sets.items) c.in_ok-check_number.ensures c.self.invariant.2 in
    let applies : whole_off said (whole_in said) n ≡ None = rw c.as_slice.ensures.value at (c.in_ok-d.ensures.answer inside.next) in
    let few = whole-few said (whole_in said) n applies in
    let size = length-map inside.sets.items set_in in
    let same = c.in_ok-reserve.ensures.items in
    let long = ap (λ (ds : List Cvd). length ds) same in
    let len = c.reserve.new.self.ok.0 in
    let ok = c.in_ok-reserve.ensures.ok in
    let fits = c.push.ensures.succeeds (omega (arith, len, ok, long)) in
    let items : c.push.new.self.items ≡ inside.sets.items ++ d ∷ [] = rw (fits, same) at c.push.ensures.items in
    let above : IsAbove d.number (numbers_of inside.sets.items) = rw number is.above in
    let low = is.low in
    rw items (sets-more inside.next inside.sets.items d c.self.invariant.0 (omega (arith, few, size)) above (omega (arith, number, low)) c.in_ok-d.ensures.set, tt, up-to-push said.number inside.sets.items d is.above number)

pub returns-clause-answer : goal.returns-clause-answer
returns-clause-answer c =
    let inside = c.self.inside in
    let said = c.args.said in
    let n : Numbers Extent Extent = record { next = inside.next; sets = sets_in inside.sets.items } in
    let applies : whole_off said (whole_in said) n ≡ None = rw c.as_slice.ensures.value at (c.in_ok-d.ensures.answer inside.next) in
    rw (← c.self.view_is) (none-both (number_off said.number (reach_in inside.next inside.reach)) (whole_off said (whole_in said) n) c.in_ok-check_number.ensures applies)

pub invariant_of-self : goal.invariant_of-self
invariant_of-self c =
    let inside = c.self.inside in
    let same = c.in_err-reserve.ensures.items in (
      subst (λ (ds : List Cvd). AreSets inside.next ds) (sym same) c.self.invariant.0,
      space-stays inside.room inside.sets c.reserve.new.self same c.in_err-reserve.ensures.capacity c.self.invariant.1,
      subst (λ (ds : List Cvd). AreUpTo inside.reach (numbers_of ds)) (sym same) c.self.invariant.2,
    )

pub returns-clause-reach : goal.returns-clause-reach
returns-clause-reach c =
    let inside = c.self.inside in
    let is = number-is inside.next c.args.said.number inside.reach (numbers_of inside.sets.items) c.in_ok-check_number.ensures c.self.invariant.2 in
    rw (← c.self.view_is) (sym is.goes_on)
