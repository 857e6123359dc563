use Rattle.std.proofs.Common.{ℕ, List, length, inr, ◌∙◌, ap, subst}
use Rattle.std.specs.Prelude.{Option, MatchOption}
use Rattle.ov_catalog.specs.Numbers.{TargetNumbers}
use Rattle.ov_catalog.specs.Sets.{set_in, target_in}
use Rattle.ov_read.specs.Agreement.{Agrees}
use Rattle.ov_migrate.specs.Targets.{IsLacking, IsOff}
use Rattle.ov_migrate.proofs.Lacked.{zip_long}
use Rattle.ov_migrate.proofs.Whole.{is_whole}
use Rattle.ov_migrate.proofs.targets.lacking_of.Goals as goal

abbrev IsFound : TargetNumbers → List (List ℕ) → List (List ℕ) → Option (List ℕ) → Type 0
IsFound t lists sets o = MatchOption o (IsOff t lists sets) (IsLacking t lists sets)

pub returns-in-Some-clause-sized : goal.returns-in-Some-clause-sized
returns-in-Some-clause-sized g c =
    let t : TargetNumbers = target_in c.args.target.now in
    let lists : List (List ℕ) = c.in_ok-lists.lists.items in
    let sets : List (List ℕ) = c.in_ok-sets.sets.items in
    let found : IsFound t lists sets c.in_ok-rids.field-0 =
    subst (λ (l : List (List ℕ)). IsFound t l sets c.in_ok-rids.field-0) c.deref-2.ensures.value
    (subst (λ (l : List (List ℕ)). IsFound t c.deref-2.result.now l c.in_ok-rids.field-0) c.deref-3.ensures.value c.in_ok-rids.ensures) in
    record {
      paired = zip_long (Agrees (set_in c.args.d.now)) c.as_slice.result.now lists c.in_ok-lists.ensures.agree ∙ ap (λ (l : List ℕ). length l) c.as_slice.ensures;
      sets = sets;
      lacks = subst (IsFound t lists sets) c.in-Some.is found;
    }

pub returns-in-None-clause-answer : goal.returns-in-None-clause-answer
returns-in-None-clause-answer g c told =
    let s0 = g.H.Host.state c.args.host.now in
    let s1 = g.H.Host.state c.lists_of.new.host in
    let d = c.args.d.now in
    let t : TargetNumbers = target_in c.args.target.now in
    let lists : List (List ℕ) = c.in_ok-lists.lists.items in
    let sets : List (List ℕ) = c.in_ok-sets.sets.items in
    let found : IsFound t lists sets c.in_ok-rids.field-0 =
    subst (λ (l : List (List ℕ)). IsFound t l sets c.in_ok-rids.field-0) c.deref-2.ensures.value
    (subst (λ (l : List (List ℕ)). IsFound t c.deref-2.result.now l c.in_ok-rids.field-0) c.deref-3.ensures.value c.in_ok-rids.ensures) in
    inr (inr (record {
      lists = lists;
      sets = sets;
      whole =
          is_whole s0 s1 d t c.as_slice.result.now c.parts.result.now c.in_ok-segments.segments.items c.deref.result.now lists sets told c.in_ok-lists.ensures.looked
          c.as_slice.ensures c.parts.ensures.parts c.in_ok-segments.ensures c.deref.ensures.value (c.in_ok-lists.ensures.answer told) c.in_ok-lists.ensures.agree c.in_ok-sets.ensures.answer;
      disagrees = subst (IsFound t lists sets) c.in-None.is found;
      page_is = c.first_page.ensures;
    }))
