use Rattle.std.proofs.Common.{◌≡◌, ℕ, List, length, sym, ap, subst, ◌∙◌, arith}
use Rattle.std.specs.Prelude.{Option, Some}
use Rattle.ov_host.specs.declared.area.Extent.{Extent}
use Rattle.ov_layout.specs.Parts.{Partitions}
use Rattle.ov_catalog.specs.declared.cvd.Plan.{Plan}
use Rattle.ov_catalog.specs.Running.{IsPlanned}
use Rattle.ov_catalog.proofs.TurnLemmas.{flip_by, given-is, turn-few, turn-of}
use Rattle.ov_catalog.proofs.flips.room_in.Goals as goal

pub overflow_cast-len : goal.overflow_cast-len
overflow_cast-len c =
    let d = c.args.d.now in
    let plan = c.in-Some.plan in
    let is : d.plan ≡ Some plan = c.in-Some.is in
    let runs = subst (λ (o : Option Plan). IsPlanned (length d.versions.items) d.layout.parts o) is c.requires.plan in
    let few = turn-few (length d.versions.items) d.layout.parts plan (turn-of (length d.versions.items) d.layout.parts plan runs) in
    let long = ap (λ (vs : List ℕ). length vs) c.in_ok-versions.ensures.versions in
    let all = c.requires.few in
    let size = c.len.ensures in
    let len = c.in_ok-versions.versions.ok.0 in
    omega (arith, few, long, all, size, len)

pub returns-clause-behind : goal.returns-clause-behind
returns-clause-behind c =
    let d = c.args.d.now in
    let plan = c.in-Some.plan in
    let is : d.plan ≡ Some plan = c.in-Some.is in
    let runs = subst (λ (o : Option Plan). IsPlanned (length d.versions.items) d.layout.parts o) is c.requires.plan in
    let given = ap (λ (es : List Extent). length es) (given-is d plan is runs.at) in
    let versions : (flip_by plan).versions ≡ c.deref.result.now = sym (c.deref.ensures.value ∙ c.in_ok-versions.ensures.versions) in
    let parts = ap (λ (l : Partitions). l.parts) c.in_ok-reserve.ensures.made in
    let most = rw parts at c.in-Some-segments_led.ensures (flip_by plan) versions in
    let len = c.reserve-2.new.self.ok.0 in
    let ok = c.in_ok-reserve-2.ensures.ok in
    omega (arith, given, most, len, ok)
