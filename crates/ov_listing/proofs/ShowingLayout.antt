-- The layout that the numbers of a World show is the World's.
use Rattle.std.proofs.Common.{◌≡◌, ℕ, ◌+◌, ◌*◌, List, [], ◌∷◌, length, map, refl, sym, ◌∙◌, ap}
use Rattle.std.specs.Prelude.{Option, Some, None, find}
use Rattle.std.specs.List.{sum, sum_by}
use Rattle.std.specs.Option.{option_map}
use Rattle.std.proofs.lemmas.List.{length-map}
use Rattle.std.proofs.lemmas.List.Sums.{sum_by-cons}
use Rattle.ov_host.specs.declared.area.Extent.{Extent}
use Rattle.ov_layout.specs.declared.part.Part as kept
use Rattle.ov_layout.specs.Parts.{cost_of}
use Rattle.ov_model.specs.Act.{Session, layout_deed, part_shown, plan_shown, tells}
use Rattle.ov_model.specs.Lists.{IsIn}
use Rattle.ov_model.specs.Records.{Rec, order_of}
use Rattle.ov_model.specs.World.{Part, Dataset, World, copied_records, held, set_named}
use Rattle.ov_model.specs.World as worlds
use Rattle.ov_model.specs.declared.reply.Reply.TheVariants as says
use Rattle.ov_catalog.specs.Applying.{is_named}
use Rattle.ov_catalog.specs.Numbers.{PartNumbers, PlanNumbers, SetNumbers, Numbers, each_part, each_plan, each_set}
use Rattle.ov_catalog.specs.Reached.{Reached}
use Rattle.ov_catalog.specs.Sets.{part_in}
use Rattle.ov_catalog.specs.Shown.{Records, shown_part, shown_plan, shown_set, shown_target}
use Rattle.ov_catalog.specs.Stands.{Readings, asked, seen}
use Rattle.ov_catalog.specs.Steps.{plan_steps}
use Rattle.ov_catalog.specs.Testing.{copied_in}
use Rattle.ov_catalog.proofs.Migrating.{plan_numbers}
use Rattle.law_partitions.proofs.CourseNumbers.{named_in}
use Rattle.law_events.proofs.Left.{plan_left, plan_wanted}
use Rattle.ov_listing.specs.Listed.{part_line, plan_line, shown_layout}
use Rattle.ov_listing.proofs.Showing.{found_same, sets_same}

-- ---- the partitions that the code keeps

pub lines_of_parts : (parts : List kept.Part) → map part_line (map part_in parts) ≡ map (λ part. part_line (part_in part)) parts
lines_of_parts [] = refl
lines_of_parts (part ∷ parts) = ap (λ lines. part_line (part_in part) ∷ lines) (lines_of_parts parts)

pub read_of_parts : (parts : List kept.Part) → sum_by (λ (part : PartNumbers Extent). length part.versions * part.records) (map part_in parts) ≡ cost_of parts
read_of_parts [] = refl
read_of_parts (part ∷ parts) =
    sum_by-cons (λ (p : PartNumbers Extent). length p.versions * p.records) (part_in part) (map part_in parts)
    ∙ ap (λ n. length part.versions * part.records + n) (read_of_parts parts)
    ∙ sym (sum_by-cons (λ (p : kept.Part). length p.versions * p.records) part parts)

-- ---- what fills the segments isn't shown

module _ {S T : Type 0} (g : S → T) where
  parts_same : (parts : List (PartNumbers S)) → map part_line (map (each_part g) parts) ≡ map part_line parts
  parts_same [] = refl
  parts_same (part ∷ parts) = ap (λ lines. part_line part ∷ lines) (parts_same parts)

  kept_same : (parts : List (PartNumbers S)) → sum_by (λ (part : PartNumbers T). part.records) (map (each_part g) parts) ≡ sum_by (λ (part : PartNumbers S). part.records) parts
  kept_same [] = refl
  kept_same (part ∷ parts) =
      sum_by-cons (λ (p : PartNumbers T). p.records) (each_part g part) (map (each_part g) parts)
      ∙ ap (λ n. part.records + n) (kept_same parts)
      ∙ sym (sum_by-cons (λ (p : PartNumbers S). p.records) part parts)

  read_same : (parts : List (PartNumbers S)) → sum_by (λ (part : PartNumbers T). length part.versions * part.records) (map (each_part g) parts)
      ≡ sum_by (λ (part : PartNumbers S). length part.versions * part.records) parts
  read_same [] = refl
  read_same (part ∷ parts) =
      sum_by-cons (λ (p : PartNumbers T). length p.versions * p.records) (each_part g part) (map (each_part g) parts)
      ∙ ap (λ n. length part.versions * part.records + n) (read_same parts)
      ∙ sym (sum_by-cons (λ (p : PartNumbers S). length p.versions * p.records) part parts)

  plan_same : (plan : Option (PlanNumbers S)) → option_map plan_line (each_plan g plan) ≡ option_map plan_line plan
  plan_same None = refl
  plan_same (Some plan) = refl

  copied_same : (plan : Option (PlanNumbers S)) → copied_in (each_plan g plan) ≡ copied_in plan
  copied_same None = refl
  copied_same (Some plan) = refl

layout_same : {L M S T : Type 0} (f : L → M) (g : S → T) (s : SetNumbers L S) → shown_layout (each_set f g s) ≡ shown_layout s
layout_same f g s = λ i. says.Layout (parts_same g s.parts i) (plan_same g s.plan i) (kept_same g s.parts i + copied_same g s.plan i) (read_same g s.parts i)

-- ---- a dataset of a World

module _ (all : List Rec) where
  parts_told : (parts : List Part) → map part_line (map (shown_part all) parts) ≡ map part_shown parts
  parts_told [] = refl
  parts_told (part ∷ parts) = ap (λ lines. part_shown part ∷ lines) (parts_told parts)

  kept_told : (parts : List Part) → sum_by (λ (part : PartNumbers Records). part.records) (map (shown_part all) parts) ≡ sum (map (λ (part : Part). length (held part)) parts)
  kept_told [] = refl
  kept_told (part ∷ parts) =
      sum_by-cons (λ (p : PartNumbers Records). p.records) (shown_part all part) (map (shown_part all) parts)
      ∙ ap (λ n. length (held part) + n) (kept_told parts)
      ∙ sym (sum_by-cons (λ (n : ℕ). n) (length (held part)) (map (λ (part : Part). length (held part)) parts))

  read_told : (parts : List Part) → sum_by (λ (part : PartNumbers Records). length part.versions * part.records) (map (shown_part all) parts)
      ≡ sum (map (λ (part : Part). length part.versions * length (held part)) parts)
  read_told [] = refl
  read_told (part ∷ parts) =
      sum_by-cons (λ (p : PartNumbers Records). length p.versions * p.records) (shown_part all part) (map (shown_part all) parts)
      ∙ ap (λ n. length part.versions * length (held part) + n) (read_told parts)
      ∙ sym (sum_by-cons (λ (n : ℕ). n) (length part.versions * length (held part)) (map (λ (part : Part). length part.versions * length (held part)) parts))

copied_told : (d : Dataset) (plan : Option worlds.Plan) → copied_in (shown_plan d plan) ≡ copied_records plan
copied_told d None = refl
copied_told d (Some plan) = refl

module _ (w : World) (d : Dataset) (reached : Reached w) (here : IsIn w.sets d) where
  plan_told : (plan : Option worlds.Plan) → d.plan ≡ plan → option_map plan_line (shown_plan d plan) ≡ plan_shown d plan
  plan_told None is = refl
  plan_told (Some plan) is = λ i. Some (record {
    p = plan.p;
    q = plan.q;
    target = plan.at + 1;
    targets = length-map plan.targets (shown_target d) i;
    copied = copied_records (sym is i);
    size = plan_wanted w d plan (plan_numbers d plan) reached here is (ap (shown_plan d) is) i;
    steps = (ap (λ o. plan_steps (shown_plan d o)) (sym is) ∙ plan_left w d reached here) i;
  })

  layout_told : shown_layout (shown_set d) ≡ says.Layout (map part_shown d.parts) (plan_shown d d.plan) (worlds.stored d) (worlds.cost d)
  layout_told = λ i. says.Layout
      (parts_told (order_of d.cvd.versions) d.parts i)
      (plan_told d.plan refl i)
      (kept_told (order_of d.cvd.versions) d.parts i + copied_told d d.plan i)
      (read_told (order_of d.cvd.versions) d.parts i)

-- ---- of a World

pub layout_shown : (r : Readings) (n : Numbers Extent Extent) (w : World) (name : List ℕ) (s : SetNumbers Extent Extent) (t : Session)
    → Reached w → seen r n ≡ asked w → find (is_named name) n.sets ≡ Some s → layout_deed t name (set_named w name) ≡ tells t (shown_layout s)
layout_shown r n w name s t reached same found =
    let of = found_same r name n.sets w.sets s (sets_same r n w same) found
    in ap (layout_deed t name) of.1
    ∙ ap (tells t) (sym (layout_told w of.0 reached (named_in w name of.0 of.1)) ∙ sym (layout_same Some Some (shown_set of.0)) ∙ (sym (ap shown_layout of.2) ∙ layout_same r.list r.segment s))
