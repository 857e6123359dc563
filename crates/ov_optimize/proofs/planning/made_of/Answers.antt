use Rattle.std.proofs.Common.{◌≡◌, ℕ, List, length, map, Vec, Global, sym, ◌∙◌, ap, subst}
use Rattle.std.specs.Prelude.{None}
use Rattle.std.specs.List.{All}
use Rattle.ov_lyre.specs.Parts.{lists_of}
use Rattle.ov_catalog.specs.Applying.{first_off, of_live}
use Rattle.ov_catalog.specs.Planning.{plan_off}
use Rattle.ov_catalog.specs.Sets.{set_in}
use Rattle.ov_catalog.specs.Splitting.{IsSplitOf}
use Rattle.ov_targets.specs.Targets.{AreTargets, AreVids, versions_in}
use Rattle.ov_optimize.proofs.Making.{IsRead, applies, numbers_ascend, parts_count, parts_short, parts_there, segments_sound, spelled, targets_paired, versions_there}
use Rattle.ov_optimize.proofs.planning.made_of.Goals as goal

pub targets_of-requires-clause-parts : goal.targets_of-requires-clause-parts
targets_of-requires-clause-parts c =
    let d = c.args.d.now in
    let p = c.args.p in
    let q = c.args.q in
    let lists = c.args.lists.now in
    let partitions = c.args.partitions.items in
    let read : IsRead c.args.d.now c.args.lists.now c.args.partitions.items =
    record { set = c.requires.sound; sound = c.parts.ensures.sound; listed = c.requires.lists; parted = c.requires.parted } in
    let parts : List (Vec ℕ Global) = c.args.split.now.parts.items in
    let split : IsSplitOf (set_in c.args.d.now) c.args.p c.args.q (lists_of c.args.split.now.parts.items) = c.requires.split.parts in
    subst (All (λ part. AreVids (length lists) part.items)) (sym c.deref-2.ensures.value) (parts_there d lists partitions read p q parts split)

pub targets_of-requires-clause-versions : goal.targets_of-requires-clause-versions
targets_of-requires-clause-versions c =
    let read : IsRead c.args.d.now c.args.lists.now c.args.partitions.items =
    record { set = c.requires.sound; sound = c.parts.ensures.sound; listed = c.requires.lists; parted = c.requires.parted } in
    versions_there c.args.d.now c.args.lists.now c.args.partitions.items read

pub targets_of-requires-clause-numbers : goal.targets_of-requires-clause-numbers
targets_of-requires-clause-numbers c =
    let read : IsRead c.args.d.now c.args.lists.now c.args.partitions.items =
    record { set = c.requires.sound; sound = c.parts.ensures.sound; listed = c.requires.lists; parted = c.requires.parted } in
    numbers_ascend c.args.d.now c.args.lists.now c.args.partitions.items read

pub targets_of-requires-clause-segments : goal.targets_of-requires-clause-segments
targets_of-requires-clause-segments c =
    let read : IsRead c.args.d.now c.args.lists.now c.args.partitions.items =
    record { set = c.requires.sound; sound = c.parts.ensures.sound; listed = c.requires.lists; parted = c.requires.parted } in
    segments_sound c.args.d.now c.args.lists.now c.args.partitions.items read

pub report_of-report-requires-clause-few : goal.report_of-report-requires-clause-few
report_of-report-requires-clause-few c =
    let d = c.args.d.now in
    let p = c.args.p in
    let q = c.args.q in
    let lists = c.args.lists.now in
    let partitions = c.args.partitions.items in
    let read : IsRead c.args.d.now c.args.lists.now c.args.partitions.items =
    record { set = c.requires.sound; sound = c.parts.ensures.sound; listed = c.requires.lists; parted = c.requires.parted } in
    let parts : List (Vec ℕ Global) = c.args.split.now.parts.items in
    let split : IsSplitOf (set_in c.args.d.now) c.args.p c.args.q (lists_of c.args.split.now.parts.items) = c.requires.split.parts in
    parts_count d lists partitions read p q parts split

pub report_of-report-requires-clause-short : goal.report_of-report-requires-clause-short
report_of-report-requires-clause-short c =
    let d = c.args.d.now in
    let p = c.args.p in
    let q = c.args.q in
    let lists = c.args.lists.now in
    let partitions = c.args.partitions.items in
    let read : IsRead c.args.d.now c.args.lists.now c.args.partitions.items =
    record { set = c.requires.sound; sound = c.parts.ensures.sound; listed = c.requires.lists; parted = c.requires.parted } in
    let parts : List (Vec ℕ Global) = c.args.split.now.parts.items in
    let split : IsSplitOf (set_in c.args.d.now) c.args.p c.args.q (lists_of c.args.split.now.parts.items) = c.requires.split.parts in
    parts_short d lists partitions read p q parts split

pub report_of-report-requires-clause-paired : goal.report_of-report-requires-clause-paired
report_of-report-requires-clause-paired c =
    let d = c.args.d.now in
    let p = c.args.p in
    let q = c.args.q in
    let lists = c.args.lists.now in
    let partitions = c.args.partitions.items in
    let read : IsRead c.args.d.now c.args.lists.now c.args.partitions.items =
    record { set = c.requires.sound; sound = c.parts.ensures.sound; listed = c.requires.lists; parted = c.requires.parted } in
    let parts : List (Vec ℕ Global) = c.args.split.now.parts.items in
    let split : IsSplitOf (set_in c.args.d.now) c.args.p c.args.q (lists_of c.args.split.now.parts.items) = c.requires.split.parts in
    let are : AreTargets c.args.lists.now c.args.partitions.items (lists_of c.args.split.now.parts.items) c.in_ok-targets.targets.items =
    subst (λ ps. AreTargets lists partitions (map versions_in ps) c.in_ok-targets.targets.items) c.deref-2.ensures.value c.in_ok-targets.ensures in
    ap length c.deref-3.ensures.value ∙ targets_paired d lists partitions read p q parts split c.in_ok-targets.targets.items are

pub event_of-event-requires : goal.event_of-event-requires
event_of-event-requires c =
    let d = c.args.d.now in
    let p = c.args.p in
    let q = c.args.q in
    let lists = c.args.lists.now in
    let partitions = c.args.partitions.items in
    let read : IsRead c.args.d.now c.args.lists.now c.args.partitions.items =
    record { set = c.requires.sound; sound = c.parts.ensures.sound; listed = c.requires.lists; parted = c.requires.parted } in
    let parts : List (Vec ℕ Global) = c.args.split.now.parts.items in
    let split : IsSplitOf (set_in c.args.d.now) c.args.p c.args.q (lists_of c.args.split.now.parts.items) = c.requires.split.parts in
    let are : AreTargets c.args.lists.now c.args.partitions.items (lists_of c.args.split.now.parts.items) c.in_ok-targets.targets.items =
    subst (λ ps. AreTargets lists partitions (map versions_in ps) c.in_ok-targets.targets.items) c.deref-2.ensures.value c.in_ok-targets.ensures in
    spelled d lists partitions read p q parts split c.in_ok-targets.targets.items are c.requires.numbers

pub returns-clause-applies : goal.returns-clause-applies
returns-clause-applies c n found format =
    let d = c.args.d.now in
    let p = c.args.p in
    let q = c.args.q in
    let lists = c.args.lists.now in
    let partitions = c.args.partitions.items in
    let read : IsRead c.args.d.now c.args.lists.now c.args.partitions.items =
    record { set = c.requires.sound; sound = c.parts.ensures.sound; listed = c.requires.lists; parted = c.requires.parted } in
    let parts : List (Vec ℕ Global) = c.args.split.now.parts.items in
    let split : IsSplitOf (set_in c.args.d.now) c.args.p c.args.q (lists_of c.args.split.now.parts.items) = c.requires.split.parts in
    let are : AreTargets c.args.lists.now c.args.partitions.items (lists_of c.args.split.now.parts.items) c.in_ok-targets.targets.items =
    subst (λ ps. AreTargets lists partitions (map versions_in ps) c.in_ok-targets.targets.items) c.deref-2.ensures.value c.in_ok-targets.ensures in
    subst (λ e. first_off format e n ≡ None) (sym c.event_of-event.ensures.is)
    (ap (of_live (plan_off p q c.in_ok-targets.targets.items)) found
    ∙ applies d lists partitions read p q parts split c.in_ok-targets.targets.items are c.requires.idle c.requires.threshold c.requires.numbers)
