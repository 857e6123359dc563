-- A step at a World.
use Rattle.std.proofs.Common.{◌≡◌, ◌≤◌, ◌<◌, ◌-◌, ◌||◌, ℕ, Bool, List, [], ◌∷◌, length, map, take, drop, inl, inr, refl, sym, ◌∙◌, ap, subst, arith}
use Rattle.std.specs.Prelude.{Some, if◌then◌else◌, unwrap_or}
use Rattle.std.specs.List.{All, list_any}
use Rattle.std.specs.Option.{option_map}
use Rattle.std.proofs.lemmas.Bool.{eq-eqb, ne_eqb}
use Rattle.std.proofs.lemmas.List.{length-drop, length-map}
use Rattle.ov_host.specs.declared.area.Extent.{Extent}
use Rattle.ov_event.specs.declared.event.Event.TheVariants as says
use Rattle.ov_segment.specs.declared.numbered.Record.{Record}
use Rattle.ov_member.specs.Rids.{has}
use Rattle.ov_model.specs.Lists.{AreIn, IsIn, joined}
use Rattle.ov_model.specs.Moves as moves
use Rattle.ov_model.specs.Moves.{Move, numbered}
use Rattle.ov_model.specs.Plans as plans
use Rattle.ov_model.specs.Records.{Rec, order_of, rid_in}
use Rattle.ov_model.specs.Steps.{next_step}
use Rattle.ov_model.specs.World.{Dataset, World}
use Rattle.ov_model.specs.World as worlds
use Rattle.ov_catalog.specs.Events.{Copy, current}
use Rattle.ov_catalog.specs.Numbers.{PlanNumbers, TargetNumbers}
use Rattle.ov_catalog.specs.Raw.{event_in}
use Rattle.ov_catalog.specs.Reached.{Reached}
use Rattle.ov_catalog.specs.Shown.{copy_event, copy_for, event_of, in_set, list_of, segment_of, shown_target}
use Rattle.ov_catalog.specs.Stands.{asked_as}
use Rattle.ov_core.specs.Brought.{content, extent_at, segments_in}
use Rattle.ov_core.specs.declared.brought.Brought.{Brought}
use Rattle.ov_fetch.specs.declared.errors.FetchErr.{FetchErr}
use Rattle.ov_fetch.specs.declared.errors.FetchErr.TheVariants.{Host, Memory, Damaged}
use Rattle.ov_fetch.specs.Extents.{rids_of}
use Rattle.ov_fetch.specs.Rows.{AreSegments}
use Rattle.ov_read.specs.Agreement.{AreTogether, IsThere, Numbers}
use Rattle.ov_read.specs.OfWorld.{IsSetOf, IsSpared, rids_in}
use Rattle.ov_read.proofs.Shows.{lists_shown, lists_spared}
use Rattle.ov_read.proofs.Uniting.{only_one}
use Rattle.law_reads.proofs.Counted.{numbers}
use Rattle.law_reads.proofs.Founds.{first_in}
use Rattle.law_reads.proofs.Orders.{sorted_long}
use Rattle.law_reads.proofs.Served.{segments_stand}
use Rattle.law_steps.specs.Targets.{kept_contents, kept_rids, kept_segments, missing_rids, wanted_rids}
use Rattle.law_steps.specs.Turns.{IsPlanSeen, IsSeenTurn}
use Rattle.law_steps.proofs.Finding.{plan_seen}
use Rattle.law_steps.proofs.Firsts.{next_fits}
use Rattle.law_steps.proofs.Kept.{are_read, are_together, kept_long, kept_wanted, only_read, wanted_long}
use Rattle.law_steps.proofs.Lacked.{missing_listed, next_known, next_listed, wanted}
use Rattle.ov_migrate.specs.Picked.{IsUnionOf}
use Rattle.ov_migrate.specs.Steps.{IsMove}
use Rattle.ov_migrate.specs.declared.step.Step.TheVariants as step
use Rattle.ov_migrate.specs.Targets.{IsRead, RefusesTarget}

some_same : {A : Type 0} (a b : A) → Some a ≡ Some b → a ≡ b
some_same a b e = ap (λ o. unwrap_or o a) e

any_map : {A B : Type 0} (f : A → B) (test : B → Bool) (xs : List A) → list_any test (map f xs) ≡ list_any (λ x. test (f x)) xs
any_map f test [] = refl
any_map f test (x ∷ xs) = ap (λ b. test (f x) || b) (any_map f test xs)

pub listed_long : (all rs : List Rec) → length (list_of all rs) ≡ length rs
listed_long all rs = sorted_long (λ (n : ℕ). n) (map (rid_in all) rs) ∙ length-map rs (rid_in all)

-- what is asked of a copy of these records, where the pages stand for the World
pub record CopyAsked (w : World) (d : Dataset) (plan : worlds.Plan) (area : List ℕ) (s : Numbers) (lists : List (List ℕ)) (next vids : List ℕ) : Type 0 where
  pub of_world : IsSetOf w d area s
  pub lists_are : lists ≡ map (rids_in d) vids
  pub next_are : next ≡ list_of (order_of d.cvd.versions) (take 256 (plans.missing d plan))
  pub known : AreIn (take 256 (plans.missing d plan)) (order_of d.cvd.versions)
  pub long : length next ≡ length (take 256 (plans.missing d plan))

module _ (w : World) (area : List ℕ) (s : Numbers) (p : PlanNumbers Extent) (turn : IsSeenTurn w area s) (runs : s.plan ≡ Some p) where
  abbrev d : Dataset
  d = turn.set

  abbrev plan : worlds.Plan
  plan = turn.plan

  of_world : IsSetOf w d area s
  of_world = turn.of_world

  dr : d.plan ≡ Some plan
  dr = turn.turn.runs

  reached : Reached w
  reached = of_world.reached

  is_in : IsIn w.sets d
  is_in = first_in (numbered s.number) w.sets d of_world.among

  seen : IsPlanSeen s d plan
  seen = plan_seen w area s d plan of_world dr

  p_is : p ≡ seen.seen
  p_is = some_same p seen.seen (sym runs ∙ seen.is)

  target_is : current p ≡ shown_target d (plans.current plan)
  target_is = ap (λ (x : PlanNumbers Extent). current x) p_is ∙ seen.current

  copied_is : p.copied ≡ length (joined plan.copied)
  copied_is = ap (λ (x : PlanNumbers Extent). x.copied) p_is ∙ seen.copied

  number_is : s.number ≡ d.cvd.number
  number_is = (numbers w area s d of_world).number

  -- ---- nothing is damaged

  module _ (t : TargetNumbers) (same : t ≡ current p) (there : All (IsThere s) t.versions) where
    shown_is : t ≡ shown_target d (plans.current plan)
    shown_is = same ∙ target_is

    kept_read : AreSegments s.schema area (kept_segments s t) (kept_contents d (plans.current plan))
    kept_read = subst (λ x. AreSegments s.schema area (kept_segments s x) (kept_contents d (plans.current plan))) (sym shown_is) (are_read w area s d plan of_world dr)

    contents_are : (contents : List (List Record)) → AreSegments s.schema area (kept_segments s t) contents → contents ≡ kept_contents d (plans.current plan)
    contents_are contents are =
        only_read w area s d plan of_world dr contents (subst (λ x. AreSegments s.schema area (kept_segments s x) contents) shown_is are)

    lists_wanted : (lists : List (List ℕ)) (rids : List ℕ) → lists ≡ map (rids_in d) t.versions → IsUnionOf lists rids → rids ≡ wanted_rids d (plans.current plan).versions
    lists_wanted lists rids are union =
        wanted w d reached is_in (plans.current plan).versions rids union.set
        (λ rid.
        union.members rid
        ∙ ap (list_any (λ l. has l rid)) (are ∙ ap (λ (x : TargetNumbers). map (rids_in d) x.versions) shown_is)
        ∙ any_map (rids_in d) (λ l. has l rid) (plans.current plan).versions)

    kept_are : (sets : List (List ℕ)) (contents : List (List Record)) → sets ≡ map rids_of contents → AreSegments s.schema area (kept_segments s t) contents
        → AreTogether sets (kept_rids d (plans.current plan))
    kept_are sets contents are read =
        subst (λ (l : List (List ℕ)). AreTogether l (kept_rids d (plans.current plan))) (sym (are ∙ ap (map rids_of) (contents_are contents read)))
        (are_together w area s d plan of_world dr)

    pub target_spared : (e : FetchErr) → RefusesTarget e area s t → IsSpared e
    target_spared Host why = tt
    target_spared Memory why = tt
    target_spared (Damaged page) (inl bad) = lists_spared w d area s t.versions (Damaged page) of_world there bad
    target_spared (Damaged page) (inr (inl bad)) =
        segments_stand s.schema area (kept_segments s t) (kept_contents d (plans.current plan)) page kept_read bad
    target_spared (Damaged page) (inr (inr bad)) =
        let lists = lists_shown w d area s t.versions bad.lists of_world there bad.whole.read
        in let ours : bad.disagrees.wanted ≡ wanted_rids d (plans.current plan).versions = lists_wanted bad.lists bad.disagrees.wanted lists bad.disagrees.union
        in bad.disagrees.off (record {
          size = ap (λ (l : List ℕ). length l) ours ∙ wanted_long d plan ∙ ap (λ (x : TargetNumbers). x.size) (sym shown_is);
          kept = kept_rids d (plans.current plan);
          together = kept_are bad.sets bad.whole.segments.contents bad.whole.segments.sets_are bad.whole.segments.read;
          within = λ rid is. ap (λ (l : List ℕ). has l rid) ours ∙ kept_wanted w area s d plan of_world dr rid is;
          count = kept_long w area s d plan of_world dr ∙ ap (λ (x : TargetNumbers). x.kept_records) (sym shown_is);
        })

    -- ---- what was read is the World's

    module _ (lists : List (List ℕ)) (rids : List ℕ) (is : IsRead area s t lists rids) where
      pub lists_are : lists ≡ map (rids_in d) t.versions
      lists_are = lists_shown w d area s t.versions lists of_world there is.whole.read

      same_kept : is.lacks.borne_out.kept ≡ kept_rids d (plans.current plan)
      same_kept =
          only_one is.sets is.lacks.borne_out.kept (kept_rids d (plans.current plan)) is.lacks.borne_out.together
          (kept_are is.sets is.whole.segments.contents is.whole.segments.sets_are is.whole.segments.read)

      left_are : drop p.copied rids ≡ missing_rids d plan
      left_are =
          ap (λ n. drop n rids) copied_is
          ∙ ap (drop (length (joined plan.copied))) (sym is.lacks.rids_are)
          ∙ missing_listed w d reached is_in plan dr is.lacks.wanted is.lacks.borne_out.kept
          (lists_wanted lists is.lacks.wanted lists_are is.lacks.union) (λ rid. ap (λ (l : List ℕ). has l rid) same_kept)

      missing_long : length (plans.missing d plan) ≡ length rids - p.copied
      missing_long =
          sym (listed_long (order_of d.cvd.versions) (plans.missing d plan))
          ∙ ap (λ (l : List ℕ). length l) (sym left_are)
          ∙ length-drop p.copied rids

      pub next_are : take 256 (drop p.copied rids) ≡ list_of (order_of d.cvd.versions) (take 256 (plans.missing d plan))
      next_are = ap (take 256) left_are ∙ next_listed w d reached is_in plan dr

      pub copy_asked : (other : List ℕ) (as_lists : List (List ℕ)) (next vids : List ℕ) → other ≡ area → vids ≡ t.versions → as_lists ≡ lists → next ≡ take 256 (drop p.copied rids)
          → CopyAsked w d plan other s as_lists next vids
      copy_asked other as_lists next vids pages versions beside picked = record {
        of_world = subst (λ a. IsSetOf w d a s) (sym pages) of_world;
        lists_are = beside ∙ lists_are ∙ ap (map (rids_in d)) (sym versions);
        next_are = picked ∙ next_are;
        known = next_known d plan;
        long = ap (λ (l : List ℕ). length l) (picked ∙ next_are) ∙ listed_long (order_of d.cvd.versions) (take 256 (plans.missing d plan));
      }

      pub flip_move : length rids ≤ p.copied → IsMove w (step.Flip s.number)
      flip_move few =
          let none : length (plans.missing d plan) ≡ 0 = omega (arith, few, missing_long)
          in let next : next_step w ≡ Some (moves.Flip s.number) =
          turn.turn.next
          ∙ ap (λ b. Some (if b then moves.Flip d.cvd.number else moves.Copy d.cvd.number)) (eq-eqb (length (plans.missing d plan)) 0 none)
          ∙ ap (λ n. Some (moves.Flip n)) (sym number_is)
          in record {
            move = moves.Flip s.number;
            next = next;
            means = (refl, record { fits = next_fits w (moves.Flip s.number) reached next; says = refl });
          }

      pub copy_move : (b : Brought) (count : ℕ) → p.copied < length rids → count ≡ length (take 256 (plans.missing d plan)) → b.event ≡ says.Copy s.number count (extent_at 0 b.segment.items)
          → segments_in b.segment.items ≡ Some (segment_of (order_of d.cvd.versions) (take 256 (plans.missing d plan))) ∷ [] → IsMove w (step.Copy b)
      copy_move b count more long is_event segment =
          let n : ℕ = d.cvd.number
          in let piece : List Rec = take 256 (plans.missing d plan)
          in let next : next_step w ≡ Some (moves.Copy d.cvd.number) =
          turn.turn.next
          ∙ ap (λ b. Some (if b then moves.Flip d.cvd.number else moves.Copy d.cvd.number))
          (ne_eqb (length (plans.missing d plan)) 0 (λ none. omega (arith, none, more, missing_long)))
          in let event : event_of (moves.Copy d.cvd.number) w ≡ Some (copy_event d.cvd.number d plan) =
          ap (in_set (λ (x : Dataset). copy_for d.cvd.number x x.plan)) turn.turn.found ∙ ap (copy_for d.cvd.number d) dr
          in let brought : content (event_in b.event) b.list.items b.segment.items ≡ Copy d.cvd.number (length piece) (Some (segment_of (order_of d.cvd.versions) piece) ∷ []) =
          ap (λ e. content (event_in e) b.list.items b.segment.items) is_event
          ∙ ap (λ k. Copy k count (segments_in b.segment.items)) number_is
          ∙ ap (λ k. Copy n k (segments_in b.segment.items)) long
          ∙ ap (Copy n (length piece)) segment
          in record {
            move = moves.Copy n;
            next = next;
            means = (
              tt,
              record {
                fits = next_fits w (moves.Copy n) reached next;
                says = ap (λ e. Some e) brought ∙ sym (ap (option_map asked_as) event);
              },
            );
          }
