use Rattle.std.proofs.Common.{◌≡◌, ◌+◌, ◌++◌, List, length, get_or, map, refl, sym, ap, subst, ◌∙◌, arith}
use Rattle.std.specs.Prelude.{Option, Some, None}
use Rattle.ov_host.specs.declared.area.Extent.{Extent}
use Rattle.ov_layout.specs.Flips.{Flip, flip_of, given_up, flipped_part, with_flipped}
use Rattle.ov_layout.specs.Flips as layout
use Rattle.ov_layout.specs.Parts.{Partitions}
use Rattle.ov_catalog.specs.declared.cvd.Plan.{Plan}
use Rattle.ov_catalog.specs.declared.cvd.Target.{Target}
use Rattle.ov_catalog.specs.Extents.{given_by}
use Rattle.ov_catalog.specs.Planning.{flip_off, of_running}
use Rattle.ov_catalog.specs.Ready.{MayFlip}
use Rattle.ov_catalog.specs.Running.{IsPlanned, current, left_of, no_target}
use Rattle.ov_catalog.specs.Sets.{part_in, plan_in, plan_numbers}
use Rattle.ov_catalog.specs.Thresholds.{IsSaid}
use Rattle.ov_catalog.proofs.SetLemmas.{get-any}
use Rattle.ov_catalog.proofs.TargetLemmas.{zero-none}
use Rattle.ov_catalog.proofs.ThresholdLemmas.{said-next}
use Rattle.ov_catalog.proofs.TurnLemmas.{flip_by, flip-fits, flip-set, given-is, may-flip, next-same, set-flipped, turn-of}
use Rattle.ov_catalog.proofs.flips.flip.Goals as goal

pub overflow_add-target : goal.overflow_add-target
overflow_add-target c =
    let d = c.args.d.now in
    let plan = c.in-Some.plan in
    let is : d.plan ≡ Some plan = sym c.in-Some.ensures.value in
    let runs = subst (λ (o : Option Plan). IsPlanned (length d.versions.items) d.layout.parts o) is c.requires.set.plan in
    let slice : c.as_slice.result.now ≡ plan.targets = c.as_slice.ensures in
    let target : c.index-as_slice-plan.result ≡ current plan =
    c.index-as_slice-plan.is ∙ ap (λ (ts : List Target). get_or ts plan.at c.index-as_slice-plan.result) slice ∙ get-any plan.targets plan.at c.index-as_slice-plan.result no_target runs.at in
    let applies = subst (λ (o : Option Plan). of_running flip_off (plan_in o) ≡ None) is c.requires.applies in
    let fits = flip-fits (length d.versions.items) d.layout.parts plan runs applies in
    let own = ap (λ (t : Target). t.kept_records) target in
    omega (arith, fits, own)

pub flip-requires-clause-flip : goal.flip-requires-clause-flip
flip-requires-clause-flip c =
    let d = c.args.d.now in
    let plan = c.in-Some.plan in
    let is : d.plan ≡ Some plan = sym c.in-Some.ensures.value in
    let runs = subst (λ (o : Option Plan). IsPlanned (length d.versions.items) d.layout.parts o) is c.requires.set.plan in
    let slice : c.as_slice.result.now ≡ plan.targets = c.as_slice.ensures in
    let target : c.index-as_slice-plan.result ≡ current plan =
    c.index-as_slice-plan.is ∙ ap (λ (ts : List Target). get_or ts plan.at c.index-as_slice-plan.result) slice ∙ get-any plan.targets plan.at c.index-as_slice-plan.result no_target runs.at in
    let can = subst (λ (o : Option Plan). MayFlip c.args.versions.items d.layout.room o) is c.requires.room in
    let kept : c.as_slice-in-Some.result.now ≡ (current plan).kept = c.as_slice-in-Some.ensures ∙ ap (λ (t : Target). t.kept) target in
    let copied : c.replace-copied.result.items ≡ plan.segments.items = ap (λ v. v.items) c.replace-copied.ensures.value in
    let same : flip_of c.args.versions.items (c.index-as_slice-plan.result.kept_records + plan.copied) c.index-as_slice-plan.result.source c.as_slice-in-Some.result.now c.replace-copied.result.items ≡ flip_by plan =
    λ i. flip_of (can.versions_are i) ((target i).kept_records + plan.copied) (target i).source (kept i) (copied i) in
    let turn = turn-of (length d.versions.items) d.layout.parts plan runs in
    subst (λ (f : Flip). layout.MayFlip f d.layout.parts) (sym same) (may-flip d plan ((current plan).kept_records + plan.copied) plan.segments.items c.requires.set turn)

pub flip-requires-clause-freed : goal.flip-requires-clause-freed
flip-requires-clause-freed c =
    let d = c.args.d.now in
    let plan = c.in-Some.plan in
    let is : d.plan ≡ Some plan = sym c.in-Some.ensures.value in
    let runs = subst (λ (o : Option Plan). IsPlanned (length d.versions.items) d.layout.parts o) is c.requires.set.plan in
    let slice : c.as_slice.result.now ≡ plan.targets = c.as_slice.ensures in
    let target : c.index-as_slice-plan.result ≡ current plan =
    c.index-as_slice-plan.is ∙ ap (λ (ts : List Target). get_or ts plan.at c.index-as_slice-plan.result) slice ∙ get-any plan.targets plan.at c.index-as_slice-plan.result no_target runs.at in
    let can = subst (λ (o : Option Plan). MayFlip c.args.versions.items d.layout.room o) is c.requires.room in
    let kept : c.as_slice-in-Some.result.now ≡ (current plan).kept = c.as_slice-in-Some.ensures ∙ ap (λ (t : Target). t.kept) target in
    let copied : c.replace-copied.result.items ≡ plan.segments.items = ap (λ v. v.items) c.replace-copied.ensures.value in
    let same : flip_of c.args.versions.items (c.index-as_slice-plan.result.kept_records + plan.copied) c.index-as_slice-plan.result.source c.as_slice-in-Some.result.now c.replace-copied.result.items ≡ flip_by plan =
    λ i. flip_of (can.versions_are i) ((target i).kept_records + plan.copied) (target i).source (kept i) (copied i) in
    let all : given_up (flip_of c.args.versions.items (c.index-as_slice-plan.result.kept_records + plan.copied) c.index-as_slice-plan.result.source c.as_slice-in-Some.result.now c.replace-copied.result.items) d.layout.parts ≡ given_by (plan_in d.plan) (map part_in d.layout.parts) =
    ap (λ (f : Flip). given_up f d.layout.parts) same ∙ given-is d plan is runs.at in
    let long = ap (λ (es : List Extent). length es) all in
    let behind = c.requires.behind in
    omega (arith, long, behind)

pub returns-in-Some-clause-flipped : goal.returns-in-Some-clause-flipped
returns-in-Some-clause-flipped c =
    let d = c.args.d.now in
    let plan = c.in-Some.plan in
    let is : d.plan ≡ Some plan = sym c.in-Some.ensures.value in
    let runs = subst (λ (o : Option Plan). IsPlanned (length d.versions.items) d.layout.parts o) is c.requires.set.plan in
    let slice : c.as_slice.result.now ≡ plan.targets = c.as_slice.ensures in
    let target : c.index-as_slice-plan.result ≡ current plan =
    c.index-as_slice-plan.is ∙ ap (λ (ts : List Target). get_or ts plan.at c.index-as_slice-plan.result) slice ∙ get-any plan.targets plan.at c.index-as_slice-plan.result no_target runs.at in
    let can = subst (λ (o : Option Plan). MayFlip c.args.versions.items d.layout.room o) is c.requires.room in
    let kept : c.as_slice-in-Some.result.now ≡ (current plan).kept = c.as_slice-in-Some.ensures ∙ ap (λ (t : Target). t.kept) target in
    let copied : c.replace-copied.result.items ≡ plan.segments.items = ap (λ v. v.items) c.replace-copied.ensures.value in
    let same : flip_of c.args.versions.items (c.index-as_slice-plan.result.kept_records + plan.copied) c.index-as_slice-plan.result.source c.as_slice-in-Some.result.now c.replace-copied.result.items ≡ flip_by plan =
    λ i. flip_of (can.versions_are i) ((target i).kept_records + plan.copied) (target i).source (kept i) (copied i) in
    set-flipped d c.flip.new.self c.next_target.result plan is runs (c.flip.ensures.flipped ∙ ap (λ (f : Flip). with_flipped f d.layout) same) c.next_target.ensures.next

pub returns-in-Some-clause-set : goal.returns-in-Some-clause-set
returns-in-Some-clause-set c =
    let d = c.args.d.now in
    let plan = c.in-Some.plan in
    let is : d.plan ≡ Some plan = sym c.in-Some.ensures.value in
    let runs = subst (λ (o : Option Plan). IsPlanned (length d.versions.items) d.layout.parts o) is c.requires.set.plan in
    let slice : c.as_slice.result.now ≡ plan.targets = c.as_slice.ensures in
    let target : c.index-as_slice-plan.result ≡ current plan =
    c.index-as_slice-plan.is ∙ ap (λ (ts : List Target). get_or ts plan.at c.index-as_slice-plan.result) slice ∙ get-any plan.targets plan.at c.index-as_slice-plan.result no_target runs.at in
    let can = subst (λ (o : Option Plan). MayFlip c.args.versions.items d.layout.room o) is c.requires.room in
    let kept : c.as_slice-in-Some.result.now ≡ (current plan).kept = c.as_slice-in-Some.ensures ∙ ap (λ (t : Target). t.kept) target in
    let copied : c.replace-copied.result.items ≡ plan.segments.items = ap (λ v. v.items) c.replace-copied.ensures.value in
    let same : flip_of c.args.versions.items (c.index-as_slice-plan.result.kept_records + plan.copied) c.index-as_slice-plan.result.source c.as_slice-in-Some.result.now c.replace-copied.result.items ≡ flip_by plan =
    λ i. flip_of (can.versions_are i) ((target i).kept_records + plan.copied) (target i).source (kept i) (copied i) in
    let after : c.flip.new.self ≡ with_flipped (flip_by plan) d.layout = c.flip.ensures.flipped ∙ ap (λ (f : Flip). with_flipped f d.layout) same in
    flip-set d _ plan (flipped_part d.layout.next (flip_by plan) d.layout.parts) c.requires.set runs (ap left_of is) refl refl refl refl
    (ap (λ (l : Partitions). l.parts) after) (ap (λ (l : Partitions). l.next) after) (next-same _ plan c.next_target.result refl refl c.next_target.ensures.targets) (zero-none c.flip.new.self.next c.flip.new.self.parts c.parts.ensures.sound.sound)
    (said-next d.threshold (plan_numbers plan) (plan_in c.next_target.result) (subst (λ (o : Option Plan). IsSaid d.threshold (plan_in o)) is c.requires.set.threshold) c.next_target.ensures.next)

pub returns-in-Some-clause-freed : goal.returns-in-Some-clause-freed
returns-in-Some-clause-freed c =
    let d = c.args.d.now in
    let plan = c.in-Some.plan in
    let is : d.plan ≡ Some plan = sym c.in-Some.ensures.value in
    let runs = subst (λ (o : Option Plan). IsPlanned (length d.versions.items) d.layout.parts o) is c.requires.set.plan in
    let slice : c.as_slice.result.now ≡ plan.targets = c.as_slice.ensures in
    let target : c.index-as_slice-plan.result ≡ current plan =
    c.index-as_slice-plan.is ∙ ap (λ (ts : List Target). get_or ts plan.at c.index-as_slice-plan.result) slice ∙ get-any plan.targets plan.at c.index-as_slice-plan.result no_target runs.at in
    let can = subst (λ (o : Option Plan). MayFlip c.args.versions.items d.layout.room o) is c.requires.room in
    let kept : c.as_slice-in-Some.result.now ≡ (current plan).kept = c.as_slice-in-Some.ensures ∙ ap (λ (t : Target). t.kept) target in
    let copied : c.replace-copied.result.items ≡ plan.segments.items = ap (λ v. v.items) c.replace-copied.ensures.value in
    let same : flip_of c.args.versions.items (c.index-as_slice-plan.result.kept_records + plan.copied) c.index-as_slice-plan.result.source c.as_slice-in-Some.result.now c.replace-copied.result.items ≡ flip_by plan =
    λ i. flip_of (can.versions_are i) ((target i).kept_records + plan.copied) (target i).source (kept i) (copied i) in
    c.flip.ensures.freed ∙ ap (λ (es : List Extent). c.args.freed.now.items ++ es) (ap (λ (f : Flip). given_up f d.layout.parts) same ∙ given-is d plan is runs.at)
