-- A finished plan on the disk: from a World's partitions to the numbers of the events and what is read of the pages.
use Rattle.std.proofs.Common.{◌≡◌, ◌≤◌, ◌<◌, ℕ, ◌+◌, ◌*◌, ◌^◌, List, [], ◌∷◌, map, length, refl, sym, ◌∙◌, ap, subst, inl, inr}
use Rattle.std.specs.Prelude.{Option, Some, None}
use Rattle.std.specs.List.{sum}
use Rattle.ov_graph.specs.Trees.{all_records, all_members}
use Rattle.ov_host.specs.Disk.{Image}
use Rattle.ov_host.specs.declared.area.Extent.{Extent}
use Rattle.ov_event.specs.declared.event.Event.{Event}
use Rattle.ov_journal.specs.Journal.{Kept}
use Rattle.ov_model.specs.Course.{Item, world_at}
use Rattle.ov_model.specs.Lists.{IsIn}
use Rattle.ov_model.specs.Plans.{depth_at, flipped, nodes_of_set}
use Rattle.ov_model.specs.Records.{Rec, order_of, recs}
use Rattle.ov_model.specs.World.{Dataset, Part, Plan, World, cost, held, stored}
use Rattle.ov_catalog.specs.Numbers.{PartNumbers, SetNumbers, each_part, each_set}
use Rattle.ov_catalog.specs.Raw.{numbers_in}
use Rattle.ov_catalog.specs.Shown.{Records, segment_of, shown_part, shown_set}
use Rattle.ov_catalog.specs.Stands.{Readings}
use Rattle.law_image.specs.Images.{StandsBy}
use Rattle.law_image.specs.Pages.{readings_of}
use Rattle.law_partitions.specs.Pieces.{AreOf, HasPieces, IsPieces, PartsArePieces}
use Rattle.law_partitions.specs.PlanBounds.{IsBounded}
use Rattle.law_partitions.specs.PlanEnds.{HasAllVersions, IsSplit}
use Rattle.ov_model.specs.Holding.{VersionsAreIn}
use Rattle.law_plans.specs.Ends.{EndsPlan, LeavesParts}
use Rattle.law_plans.specs.Leaves.{IsFinished, StaysSplit}
use Rattle.law_plans.specs.OnDisk.{AreJust, IsSplitOnDisk, SpellsJust}
use Rattle.law_plans.specs.Runs.{Between, IsRun}
use Rattle.law_plans.proofs.Finishing.{ends_finished, finished_at, none_copied, pieces_in, split_stays, stays_from, stored_in}
use Rattle.law_plans.proofs.Walking.{plans_at}

-- ---- lists whose items agree one by one

-- an item of one of two lists, and the item of the other that agrees with it
record Beside {X Y Z : Type 0} (f : X → Z) (g : Y → Z) (xs : List X) (y : Y) : Type 0 where
  at : X
  there : IsIn xs at
  same : f at ≡ g y

beside : {X Y Z : Type 0} (f : X → Z) (g : Y → Z) (xs : List X) (ys : List Y) (y : Y) → map f xs ≡ map g ys → IsIn ys y → Beside f g xs y
beside f g [] [] y same is = absurd is
beside f g [] (z ∷ ys) y same is = cc
beside f g (x ∷ xs) [] y same is = absurd is
beside f g (x ∷ xs) (z ∷ ys) y same (inl first) = record { at = x; there = inl refl; same = heads same ∙ ap g (sym first) }
  where
    heads : f x ∷ map f xs ≡ g z ∷ map g ys → f x ≡ g z
    heads e = cc
beside f g (x ∷ xs) (z ∷ ys) y same (inr later) =
    let found : Beside f g xs y = beside f g xs ys y (tails same) later
    in record { at = found.at; there = inr found.there; same = found.same }
  where
    tails : f x ∷ map f xs ≡ g z ∷ map g ys → map f xs ≡ map g ys
    tails e = cc

map_same : {X Y Z W : Type 0} (f : X → Z) (g : Y → Z) (h : Z → W) (xs : List X) (ys : List Y) → map f xs ≡ map g ys → map (λ x. h (f x)) xs ≡ map (λ y. h (g y)) ys
map_same f g h [] [] same = refl
map_same f g h [] (y ∷ ys) same = cc
map_same f g h (x ∷ xs) [] same = cc
map_same f g h (x ∷ xs) (y ∷ ys) same = λ i. h (heads same i) ∷ map_same f g h xs ys (tails same) i
  where
    heads : f x ∷ map f xs ≡ g y ∷ map g ys → f x ≡ g y
    heads e = cc

    tails : f x ∷ map f xs ≡ g y ∷ map g ys → map f xs ≡ map g ys
    tails e = cc

map_twice : {X Y Z : Type 0} (f : Y → Z) (g : X → Y) (xs : List X) → map f (map g xs) ≡ map (λ x. f (g x)) xs
map_twice f g [] = refl
map_twice f g (x ∷ xs) = ap (λ ys. f (g x) ∷ ys) (map_twice f g xs)

-- ---- a partition

pieces_of : (done : List (List Rec)) (parts : List Part) (part : Part) → PartsArePieces done parts → IsIn parts part → IsPieces done part
pieces_of done [] part are is = absurd is
pieces_of done (x ∷ parts) part are (inl same) = subst (IsPieces done) (sym same) are.0
pieces_of done (x ∷ parts) part are (inr later) = pieces_of done parts part are.1 later

-- a partition of the World, as read and as it is asked for
abbrev read_part : Readings → PartNumbers Extent → PartNumbers (Option Records)
read_part r part = each_part r.segment part

abbrev asked_part : List Rec → Part → PartNumbers (Option Records)
asked_part all part = each_part Some (shown_part all part)

just : (done : List (List Rec)) (vids : List ℕ) (part : Part) → part.holds ≡ vids → IsPieces done part → AreJust done vids (held part)
just done vids part same is = record {
  once = is.once;
  all = subst (λ at. VersionsAreIn done at (held part)) same is.all;
  only = subst (λ at. AreOf done at (held part)) same is.only;
}

spells : (r : Readings) (d : Dataset) (at : PartNumbers Extent) (part : Part) → part.holds ≡ part.versions → IsPieces (recs d.cvd.versions []) part
    → read_part r at ≡ asked_part (order_of d.cvd.versions) part → SpellsJust r d at
spells r d at part tight is same = record {
  pieces = part.pieces;
  read = ap (λ x. x.segments) same ∙ map_twice Some (segment_of (order_of d.cvd.versions)) part.pieces;
  just = just (recs d.cvd.versions []) at.versions part (tight ∙ sym (ap (λ x. x.versions) same)) is;
  count = ap (λ x. x.records) same;
}

-- ---- a dataset

-- `e` is the dataset of the World, and `d` that of which the split and its bounds are said
module _ (events : List Event) (r : Readings) (d e : Dataset) (p q : ℕ) (cvd : e.cvd ≡ d.cvd) (parts : e.parts ≡ d.parts)
    (split : IsSplit d p q) (bounds : IsBounded d p q) (none : stored d ≡ sum (map (λ part. length (held part)) d.parts)) (pieces : HasPieces d)
    (set : SetNumbers Extent Extent) (there : IsIn (numbers_in events).sets set)
    (same : each_set r.list r.segment set ≡ each_set Some Some (shown_set e)) where
  abbrev all : List Rec
  all = order_of d.cvd.versions

  in_parts : map (read_part r) set.parts ≡ map (asked_part all) d.parts
  in_parts =
      ap (λ x. x.parts) same
      ∙ map_twice (each_part Some) (shown_part (order_of e.cvd.versions)) e.parts
      ∙ ap (λ c. map (asked_part (order_of c.versions)) e.parts) cvd
      ∙ ap (λ ps. map (asked_part all) ps) parts

  back : map (asked_part all) d.parts ≡ map (read_part r) set.parts
  back = sym in_parts

  spell : (at : PartNumbers Extent) → IsIn set.parts at → SpellsJust r d at
  spell at is =
      let found : Beside (asked_part all) (read_part r) d.parts at = beside (asked_part all) (read_part r) d.parts set.parts at back is
      in spells r d at found.at (split.tight found.at found.there)
      (pieces_of (recs d.cvd.versions []) d.parts found.at pieces.parts found.there) (sym found.same)

  stored_same : sum (map (λ part. part.records) set.parts) ≡ stored d
  stored_same = ap sum (map_same (read_part r) (asked_part all) (λ x. x.records) set.parts d.parts in_parts) ∙ sym none

  cost_same : sum (map (λ part. length part.versions * part.records) set.parts) ≡ cost d
  cost_same = ap sum (map_same (read_part r) (asked_part all) (λ x. length x.versions * x.records) set.parts d.parts in_parts)

  split_there : IsSplitOnDisk events r d p q
  split_there = record {
    set = set;
    there = there;
    number = ap (λ x. x.number) same ∙ ap (λ c. c.number) cvd;
    versions = map_same (read_part r) (asked_part all) (λ x. x.versions) set.parts d.parts in_parts ∙ split.are;
    spell = spell;
    stored_is = stored_same;
    cost_is = cost_same;
    stored_bound = subst (λ n. q ^ depth_at d p q * n ≤ (p + q) ^ depth_at d p q * all_records (nodes_of_set d)) (sym stored_same) bounds.stored_bound;
    cost_bound = subst (λ n. p * n ≤ q * all_members (nodes_of_set d)) (sym cost_same) bounds.cost_bound;
  }

-- ---- an image

-- one that stands for a World with a dataset of the same versions and partitions
on_disk : (kept : Kept) (events : List Event) (w : World) (c : Image) (d e : Dataset) (p q : ℕ) → StandsBy kept events w c → IsIn w.sets e
    → e.cvd ≡ d.cvd → e.parts ≡ d.parts → IsSplit d p q → IsBounded d p q → d.plan ≡ None → HasPieces d → IsSplitOnDisk events (readings_of c.pages) d p q
on_disk kept events w c d e p q stands is cvd parts split bounds idle pieces =
    split_there events r d e p q cvd parts split bounds (stored_in d (none_copied d idle)) pieces found.at found.there found.same
  where
    r : Readings
    r = readings_of c.pages

    found : Beside (each_set r.list r.segment) (λ x. each_set Some Some (shown_set x)) (numbers_in events).sets e
    found =
        beside (each_set r.list r.segment) (λ x. each_set Some Some (shown_set x)) (numbers_in events).sets w.sets e
        (ap (λ n. n.sets) stands.stands.shows ∙ map_twice (each_set Some Some) shown_set w.sets) is

-- behind the flip that ends a plan, as long as the split stays
pub plan_on_disk : (w : World) (items : List Item) (k j : ℕ) (d : Dataset) (plan : Plan) (c : Image) (kept : Kept) (events : List Event) → IsRun w items → EndsPlan w items k d plan
    → HasAllVersions d plan → k < j → Between items (k + 1) j (LeavesParts d.cvd.number) → StandsBy kept events (world_at w items j) c
    → IsSplitOnDisk events (readings_of c.pages) (flipped d) plan.p plan.q
plan_on_disk w items k j d plan c kept events run ends all later leaves stands =
    let done : IsFinished (world_at w items (k + 1)) (flipped d) plan.p plan.q = ends_finished w items k d plan run ends all
    in let stays : StaysSplit (world_at w items j) (flipped d) plan.p plan.q = split_stays w items k j d plan run ends all later leaves
    in on_disk kept events (world_at w items j) c (flipped d) stays.set plan.p plan.q stands stays.there stays.cvd stays.parts done.split done.bounds done.idle
    (pieces_in (world_at w items (k + 1)).sets (flipped d) (plans_at w items (k + 1) run).sound.pieces done.there)

-- and in a later run, from where it stands at its entry
pub split_on_disk : (w : World) (items : List Item) (j : ℕ) (d : Dataset) (p q : ℕ) (c : Image) (kept : Kept) (events : List Event) → IsRun w items → IsIn w.sets d
    → IsSplit d p q → d.plan ≡ None → Between items 0 j (LeavesParts d.cvd.number) → StandsBy kept events (world_at w items j) c
    → IsSplitOnDisk events (readings_of c.pages) d p q
split_on_disk w items j d p q c kept events run there split idle leaves stands =
    let done : IsFinished w d p q = finished_at w d p q run.plans there split idle
    in let stays : StaysSplit (world_at w items j) d p q = stays_from w items j d p q run done leaves
    in on_disk kept events (world_at w items j) c d stays.set p q stands stays.there stays.cvd stays.parts split done.bounds idle
    (pieces_in w.sets d run.plans.sound.pieces there)
