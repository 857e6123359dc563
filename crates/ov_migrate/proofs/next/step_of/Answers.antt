use Rattle.std.proofs.Common.{◌≡◌, ◌≤◌, ◌<◌, ℕ, List, length, take, drop, refl, sym, ◌∙◌, ap, subst, arith}
use Rattle.std.specs.List.{All}
use Rattle.ov_event.specs.declared.event.Event.TheVariants as says
use Rattle.ov_member.specs.Rids.{has}
use Rattle.ov_catalog.specs.Events.{current}
use Rattle.ov_catalog.specs.Numbers.{TargetNumbers}
use Rattle.ov_catalog.specs.Sets.{plan_in, plan_numbers, set_in, target_in}
use Rattle.ov_core.specs.Brought.{extent_at}
use Rattle.ov_fetch.specs.Extents.{page_bytes}
use Rattle.ov_fetch.specs.Rows.{is_asked}
use Rattle.ov_fetch.proofs.Gathered.{passed_on}
use Rattle.ov_fetch.proofs.Looks.{same_pages}
use Rattle.ov_model.specs.Plans as plans
use Rattle.ov_read.specs.Agreement.{IsThere}
use Rattle.ov_read.specs.OfWorld.{IsSpared}
use Rattle.ov_migrate.specs.Steps.{IsMove, IsTestedBy, RefusesBy}
use Rattle.ov_migrate.specs.Targets.{IsLacking, IsSized}
use Rattle.ov_migrate.proofs.Applied.{copy_applies, flip_applies}
use Rattle.ov_migrate.proofs.Lacked.{has_picked, lacking_listed}
use Rattle.ov_migrate.proofs.Planned.{all_once, all_there, in_numbers}
use Rattle.ov_migrate.proofs.Stepped.{copy_counts, copy_few, copy_some, copy_tested, flip_counts, flip_tested, no_copy, refuses}
use Rattle.ov_migrate.proofs.Worlds.{copy_asked, copy_move, flip_move, target_spared}
use Rattle.ov_migrate.proofs.next.step_of.Goals as goal

pub lacking_of-requires : goal.lacking_of-requires
lacking_of-requires g c =
    let t = c.index-as_slice-plan.result in
    record { there = all_there c.args.d.now c.args.plan.now c.requires.set c.requires.runs c.as_slice.result.now t c.as_slice.ensures c.index-as_slice-plan.is t.versions refl }

pub returns-in_err-lists-clause-answer : goal.returns-in_err-lists-clause-answer
returns-in_err-lists-clause-answer g c told =
    let area = page_bytes (g.H.Host.state c.args.host.now) in
    let s = set_in c.args.d.now in
    let p = plan_numbers c.args.plan.now in
    let t : TargetNumbers = target_in c.index-as_slice-plan.result in
    let same : t ≡ current p = in_numbers c.args.d.now c.args.plan.now c.requires.set c.requires.runs c.as_slice.result.now c.index-as_slice-plan.result c.as_slice.ensures c.index-as_slice-plan.is in
    passed_on (IsTestedBy area s p) (λ e. RefusesBy e area s p) c.from_residual.result c.in_err-lists.field-0.0 c.from_residual.ensures
    (refuses area s p t c.in_err-lists.field-0.0 same (c.in_err-lists.ensures.answer told))

pub returns-in_err-lists-clause-world : goal.returns-in_err-lists-clause-world
returns-in_err-lists-clause-world g c told w turn =
    let area = page_bytes (g.H.Host.state c.args.host.now) in
    let d = c.args.d.now in
    let plan = c.args.plan.now in
    let at = c.index-as_slice-plan.result in
    let s = set_in d in
    let p = plan_numbers plan in
    let t : TargetNumbers = target_in at in
    let same : t ≡ current p = in_numbers d plan c.requires.set c.requires.runs c.as_slice.result.now at c.as_slice.ensures c.index-as_slice-plan.is in
    let there : All (IsThere s) t.versions = all_there d plan c.requires.set c.requires.runs c.as_slice.result.now at c.as_slice.ensures c.index-as_slice-plan.is at.versions refl in
    passed_on (IsMove w) IsSpared c.from_residual.result c.in_err-lists.field-0.0 c.from_residual.ensures
    (target_spared w area s p turn (ap plan_in c.requires.runs) t same there c.in_err-lists.field-0.0 (c.in_err-lists.ensures.answer told))

pub returns-then-plan-len-clause-applies : goal.returns-then-plan-len-clause-applies
returns-then-plan-len-clause-applies g c =
    let s = set_in c.args.d.now in
    let p = plan_numbers c.args.plan.now in
    let t : TargetNumbers = target_in c.index-as_slice-plan.result in
    let lists : List (List ℕ) = c.in_ok-lists.field-0.lists.items in
    let rids : List ℕ = c.in_ok-lists.field-0.rids in
    let same : t ≡ current p = in_numbers c.args.d.now c.args.plan.now c.requires.set c.requires.runs c.as_slice.result.now c.index-as_slice-plan.result c.as_slice.ensures c.index-as_slice-plan.is in
    let sized : IsSized t lists rids = c.in_ok-lists.ensures.sized in
    let lacks : IsLacking (current p) lists sized.sets rids = subst (λ x. IsLacking x lists sized.sets rids) same sized.lacks in
    let few : length rids ≤ p.copied = omega (arith, c.if-plan-len.true, c.len.ensures.count, ap (λ (l : List ℕ). length l) c.in_ok-lists.rids-is) in
    flip_applies s p (ap plan_in c.requires.runs) (flip_counts p lists sized.sets rids lacks c.requires.most few)

pub returns-then-plan-len-clause-answer : goal.returns-then-plan-len-clause-answer
returns-then-plan-len-clause-answer g c told =
    let area = page_bytes (g.H.Host.state c.args.host.now) in
    let s = set_in c.args.d.now in
    let p = plan_numbers c.args.plan.now in
    let t : TargetNumbers = target_in c.index-as_slice-plan.result in
    let lists : List (List ℕ) = c.in_ok-lists.field-0.lists.items in
    let rids : List ℕ = c.in_ok-lists.field-0.rids in
    let same : t ≡ current p = in_numbers c.args.d.now c.args.plan.now c.requires.set c.requires.runs c.as_slice.result.now c.index-as_slice-plan.result c.as_slice.ensures c.index-as_slice-plan.is in
    let few : length rids ≤ p.copied = omega (arith, c.if-plan-len.true, c.len.ensures.count, ap (λ (l : List ℕ). length l) c.in_ok-lists.rids-is) in
    flip_tested area s p t lists rids same (c.in_ok-lists.ensures.answer told) c.requires.most few

pub returns-then-plan-len-clause-world : goal.returns-then-plan-len-clause-world
returns-then-plan-len-clause-world g c told w turn =
    let area = page_bytes (g.H.Host.state c.args.host.now) in
    let d = c.args.d.now in
    let plan = c.args.plan.now in
    let at = c.index-as_slice-plan.result in
    let s = set_in d in
    let p = plan_numbers plan in
    let t : TargetNumbers = target_in at in
    let lists : List (List ℕ) = c.in_ok-lists.field-0.lists.items in
    let rids : List ℕ = c.in_ok-lists.field-0.rids in
    let same : t ≡ current p = in_numbers d plan c.requires.set c.requires.runs c.as_slice.result.now at c.as_slice.ensures c.index-as_slice-plan.is in
    let there : All (IsThere s) t.versions = all_there d plan c.requires.set c.requires.runs c.as_slice.result.now at c.as_slice.ensures c.index-as_slice-plan.is at.versions refl in
    let few : length rids ≤ p.copied = omega (arith, c.if-plan-len.true, c.len.ensures.count, ap (λ (l : List ℕ). length l) c.in_ok-lists.rids-is) in
    flip_move w area s p turn (ap plan_in c.requires.runs) t same there lists rids (c.in_ok-lists.ensures.answer told) few

pub copy_of-requires-clause-there : goal.copy_of-requires-clause-there
copy_of-requires-clause-there g c =
    let at = c.index-as_slice-plan.result in
    all_there c.args.d.now c.args.plan.now c.requires.set c.requires.runs c.as_slice.result.now at c.as_slice.ensures c.index-as_slice-plan.is c.as_slice-2.result.now c.as_slice-2.ensures

pub copy_of-requires-clause-once : goal.copy_of-requires-clause-once
copy_of-requires-clause-once g c =
    let at = c.index-as_slice-plan.result in
    all_once c.args.d.now c.args.plan.now c.requires.set c.requires.runs c.as_slice.result.now at c.as_slice.ensures c.index-as_slice-plan.is c.as_slice-2.result.now c.as_slice-2.ensures

pub copy_of-requires-clause-some : goal.copy_of-requires-clause-some
copy_of-requires-clause-some g c =
    copy_some c.args.plan.now.copied c.in_ok-lists.field-0.rids c.in_ok-next.next c.in_ok-next.ensures
    (omega (arith, c.if-plan-len.false, c.len.ensures.count, ap (λ (l : List ℕ). length l) c.in_ok-lists.rids-is))

pub copy_of-requires-clause-few : goal.copy_of-requires-clause-few
copy_of-requires-clause-few g c = copy_few c.args.plan.now.copied c.in_ok-lists.field-0.rids c.in_ok-next.next c.in_ok-next.ensures

pub copy_of-requires-clause-listed : goal.copy_of-requires-clause-listed
copy_of-requires-clause-listed g c rid there =
    let t : TargetNumbers = target_in c.index-as_slice-plan.result in
    let lists : List (List ℕ) = c.in_ok-lists.field-0.lists.items in
    let rids : List ℕ = c.in_ok-lists.field-0.rids in
    let sized : IsSized t lists rids = c.in_ok-lists.ensures.sized in
    let copied = c.args.plan.now.copied in
    let picked : c.in_ok-next.next ≡ take 256 (drop c.args.plan.now.copied c.in_ok-lists.field-0.rids) = c.in_ok-next.ensures in
    let beside : c.deref.result.now ≡ c.in_ok-lists.field-0.lists.items = c.deref.ensures.value in
    ap (λ (l : List (List ℕ)). is_asked l rid) beside
    ∙ lacking_listed t lists sized.sets rids sized.lacks rid (has_picked 256 copied rids rid (sym (ap (λ (l : List ℕ). has l rid) picked) ∙ there))

pub returns-in_err-copy_of-clause-answer : goal.returns-in_err-copy_of-clause-answer
returns-in_err-copy_of-clause-answer g c told =
    let s0 = g.H.Host.state c.args.host.now in
    let s1 = g.H.Host.state c.lacking_of.new.host in
    let s = set_in c.args.d.now in
    let p = plan_numbers c.args.plan.now in
    let t : TargetNumbers = target_in c.index-as_slice-plan.result in
    let lists : List (List ℕ) = c.in_ok-lists.field-0.lists.items in
    let rids : List ℕ = c.in_ok-lists.field-0.rids in
    let looked = c.in_ok-lists.ensures.looked in
    let same : t ≡ current p = in_numbers c.args.d.now c.args.plan.now c.requires.set c.requires.runs c.as_slice.result.now c.index-as_slice-plan.result c.as_slice.ensures c.index-as_slice-plan.is in
    let picked : c.in_ok-next.next ≡ take 256 (drop p.copied rids) = c.in_ok-next.ensures in
    let beside : c.deref.result.now ≡ lists = c.deref.ensures.value in
    passed_on (IsTestedBy (page_bytes s0) s p) (λ e. RefusesBy e (page_bytes s0) s p) c.from_residual-in_err-copy_of.result c.in_err-copy_of.field-0.0 c.from_residual-in_err-copy_of.ensures
    (no_copy (page_bytes s0) (page_bytes s1) s p t lists c.deref.result.now rids c.in_ok-next.next c.as_slice-2.result.now same (c.in_ok-lists.ensures.answer told)
    (same_pages s0 s1 looked told) c.as_slice-2.ensures beside picked c.in_err-copy_of.field-0.0 (c.in_err-copy_of.ensures.answer (looked.told ∙ told)))

pub returns-in_err-copy_of-clause-world : goal.returns-in_err-copy_of-clause-world
returns-in_err-copy_of-clause-world g c told w turn =
    let s0 = g.H.Host.state c.args.host.now in
    let s1 = g.H.Host.state c.lacking_of.new.host in
    let d = c.args.d.now in
    let plan = c.args.plan.now in
    let at = c.index-as_slice-plan.result in
    let s = set_in d in
    let p = plan_numbers plan in
    let t : TargetNumbers = target_in at in
    let lists : List (List ℕ) = c.in_ok-lists.field-0.lists.items in
    let rids : List ℕ = c.in_ok-lists.field-0.rids in
    let looked = c.in_ok-lists.ensures.looked in
    let same : t ≡ current p = in_numbers d plan c.requires.set c.requires.runs c.as_slice.result.now at c.as_slice.ensures c.index-as_slice-plan.is in
    let there : All (IsThere s) t.versions = all_there d plan c.requires.set c.requires.runs c.as_slice.result.now at c.as_slice.ensures c.index-as_slice-plan.is at.versions refl in
    let picked : c.in_ok-next.next ≡ take 256 (drop p.copied rids) = c.in_ok-next.ensures in
    let beside : c.deref.result.now ≡ lists = c.deref.ensures.value in
    let asks = copy_asked w (page_bytes s0) s p turn (ap plan_in c.requires.runs) t same there lists rids (c.in_ok-lists.ensures.answer told)
    (page_bytes s1) c.deref.result.now c.in_ok-next.next c.as_slice-2.result.now (same_pages s0 s1 looked told) c.as_slice-2.ensures beside picked in
    passed_on (IsMove w) IsSpared c.from_residual-in_err-copy_of.result c.in_err-copy_of.field-0.0 c.from_residual-in_err-copy_of.ensures
    (c.in_err-copy_of.ensures.world (looked.told ∙ told) w turn.set (take 256 (plans.missing turn.set turn.plan)) asks.of_world asks.lists_are asks.next_are asks.known)

pub returns-clause-is : goal.returns-clause-is
returns-clause-is g c =
    let p = plan_numbers c.args.plan.now in
    let t : TargetNumbers = target_in c.index-as_slice-plan.result in
    let lists : List (List ℕ) = c.in_ok-lists.field-0.lists.items in
    let rids : List ℕ = c.in_ok-lists.field-0.rids in
    let b = c.in_ok-copy_of.field-0 in
    let same : t ≡ current p = in_numbers c.args.d.now c.args.plan.now c.requires.set c.requires.runs c.as_slice.result.now c.index-as_slice-plan.result c.as_slice.ensures c.index-as_slice-plan.is in
    let sized : IsSized t lists rids = c.in_ok-lists.ensures.sized in
    let lacks : IsLacking (current p) lists sized.sets rids = subst (λ x. IsLacking x lists sized.sets rids) same sized.lacks in
    let picked : c.in_ok-next.next ≡ take 256 (drop p.copied rids) = c.in_ok-next.ensures in
    record {
      unplaced = c.in_ok-copy_of.ensures.unplaced;
      event = c.in_ok-copy_of.ensures.event;
      is = c.in_ok-copy_of.ensures.is.0 ∙ ap (λ n. says.Copy c.args.d.now.number n (extent_at 0 b.segment.items)) (copy_counts p lists sized.sets rids c.in_ok-next.next lacks picked);
      no_list = c.in_ok-copy_of.ensures.is.1;
    }

pub returns-clause-applies : goal.returns-clause-applies
returns-clause-applies g c =
    let s = set_in c.args.d.now in
    let p = plan_numbers c.args.plan.now in
    let t : TargetNumbers = target_in c.index-as_slice-plan.result in
    let lists : List (List ℕ) = c.in_ok-lists.field-0.lists.items in
    let rids : List ℕ = c.in_ok-lists.field-0.rids in
    let b = c.in_ok-copy_of.field-0 in
    let next : List ℕ = c.in_ok-next.next in
    let same : t ≡ current p = in_numbers c.args.d.now c.args.plan.now c.requires.set c.requires.runs c.as_slice.result.now c.index-as_slice-plan.result c.as_slice.ensures c.index-as_slice-plan.is in
    let sized : IsSized t lists rids = c.in_ok-lists.ensures.sized in
    let lacks : IsLacking (current p) lists sized.sets rids = subst (λ x. IsLacking x lists sized.sets rids) same sized.lacks in
    let picked : c.in_ok-next.next ≡ take 256 (drop p.copied rids) = c.in_ok-next.ensures in
    let some : 1 ≤ length c.in_ok-next.next = copy_some p.copied rids next c.in_ok-next.ensures (omega (arith, c.if-plan-len.false, c.len.ensures.count, ap (λ (l : List ℕ). length l) c.in_ok-lists.rids-is)) in
    copy_applies s p (length next) (extent_at 0 b.segment.items) b.event (ap plan_in c.requires.runs) c.in_ok-copy_of.ensures.is.0 some
    (copy_counts p lists sized.sets rids next lacks picked) c.in_ok-copy_of.ensures.may_be_placed

pub returns-clause-answer : goal.returns-clause-answer
returns-clause-answer g c told =
    let s0 = g.H.Host.state c.args.host.now in
    let s1 = g.H.Host.state c.lacking_of.new.host in
    let s = set_in c.args.d.now in
    let p = plan_numbers c.args.plan.now in
    let t : TargetNumbers = target_in c.index-as_slice-plan.result in
    let lists : List (List ℕ) = c.in_ok-lists.field-0.lists.items in
    let rids : List ℕ = c.in_ok-lists.field-0.rids in
    let looked = c.in_ok-lists.ensures.looked in
    let same : t ≡ current p = in_numbers c.args.d.now c.args.plan.now c.requires.set c.requires.runs c.as_slice.result.now c.index-as_slice-plan.result c.as_slice.ensures c.index-as_slice-plan.is in
    let picked : c.in_ok-next.next ≡ take 256 (drop p.copied rids) = c.in_ok-next.ensures in
    let beside : c.deref.result.now ≡ lists = c.deref.ensures.value in
    copy_tested (page_bytes s0) (page_bytes s1) s p t lists c.deref.result.now rids c.in_ok-next.next c.as_slice-2.result.now same (c.in_ok-lists.ensures.answer told)
    (same_pages s0 s1 looked told) c.as_slice-2.ensures beside picked c.in_ok-copy_of.field-0 (c.in_ok-copy_of.ensures.answer (looked.told ∙ told))

pub returns-clause-world : goal.returns-clause-world
returns-clause-world g c told w turn =
    let s0 = g.H.Host.state c.args.host.now in
    let s1 = g.H.Host.state c.lacking_of.new.host in
    let d = c.args.d.now in
    let plan = c.args.plan.now in
    let at = c.index-as_slice-plan.result in
    let s = set_in d in
    let p = plan_numbers plan in
    let t : TargetNumbers = target_in at in
    let lists : List (List ℕ) = c.in_ok-lists.field-0.lists.items in
    let rids : List ℕ = c.in_ok-lists.field-0.rids in
    let looked = c.in_ok-lists.ensures.looked in
    let same : t ≡ current p = in_numbers d plan c.requires.set c.requires.runs c.as_slice.result.now at c.as_slice.ensures c.index-as_slice-plan.is in
    let there : All (IsThere s) t.versions = all_there d plan c.requires.set c.requires.runs c.as_slice.result.now at c.as_slice.ensures c.index-as_slice-plan.is at.versions refl in
    let picked : c.in_ok-next.next ≡ take 256 (drop p.copied rids) = c.in_ok-next.ensures in
    let beside : c.deref.result.now ≡ lists = c.deref.ensures.value in
    let more : p.copied < length rids = omega (arith, c.if-plan-len.false, c.len.ensures.count, ap (λ (l : List ℕ). length l) c.in_ok-lists.rids-is) in
    let asks = copy_asked w (page_bytes s0) s p turn (ap plan_in c.requires.runs) t same there lists rids (c.in_ok-lists.ensures.answer told)
    (page_bytes s1) c.deref.result.now c.in_ok-next.next c.as_slice-2.result.now (same_pages s0 s1 looked told) c.as_slice-2.ensures beside picked in
    copy_move w (page_bytes s0) s p turn (ap plan_in c.requires.runs) t same there lists rids (c.in_ok-lists.ensures.answer told)
    c.in_ok-copy_of.field-0 (length c.in_ok-next.next) more asks.long c.in_ok-copy_of.ensures.is.0
    (c.in_ok-copy_of.ensures.world (looked.told ∙ told) w turn.set (take 256 (plans.missing turn.set turn.plan)) asks.of_world asks.lists_are asks.next_are asks.known)
