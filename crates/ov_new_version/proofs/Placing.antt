-- The partition that a version joins is the one that serves its tree parent.
use Rattle.std.proofs.Common.{◌≡◌, ◌≤◌, ℕ, suc, Bool, true, false, ◌==◌, ◌||◌, cond, List, [], ◌∷◌, length, map, refl, sym, ◌∙◌, ap, subst, inl, inr, arith}
use Rattle.std.specs.Prelude.{◌≢◌, if◌then◌else◌, Option, Some, None}
use Rattle.std.specs.List.{zip}
use Rattle.std.proofs.lemmas.Bool.{cases_Bool, eq-eqb, ne_eqb}
use Rattle.ov_graph.specs.Versions.{heaviest}
use Rattle.ov_host.specs.declared.area.Extent.{Extent}
use Rattle.ov_layout.specs.declared.part.Part.{Part}
use Rattle.ov_layout.specs.Index.{numbers_of}
use Rattle.ov_layout.proofs.PlacedLemmas.{ids-ascend}
use Rattle.ov_layout.specs.Parts.{Ascend, AreParts, serves, is_placed, part_numbered, is_number}
use Rattle.ov_place.specs.declared.place_facts.Place.{Place}
use Rattle.ov_place.specs.declared.place_facts.Place.TheVariants.{Own, Join}
use Rattle.std.proofs.lemmas.List.{length-map}
use Rattle.ov_place.specs.Placement.{is_budgeted}
use Rattle.ov_segment.specs.declared.numbered.Record.{Record}
use Rattle.ov_model.specs.Lists.{IsIn}
use Rattle.ov_model.specs.Placed.{AreThere}
use Rattle.ov_records.specs.Records.{lists_of, pairs_of, shared}
use Rattle.ov_catalog.specs.Reached.{AreParents}
use Rattle.ov_catalog.specs.Ready.{IsSet}
use Rattle.law_commits.specs.Agreeing.{EachAgrees}
use Rattle.law_commits.proofs.Same.{tree_parent}
use Rattle.ov_read.specs.Agreement.{Numbers}
use Rattle.ov_catalog.specs.Applying.{facts_of, part_serving, id_in, part_numbered as number_in}
use Rattle.ov_catalog.specs.Numbers.{PartNumbers}
use Rattle.ov_catalog.specs.Sets.{part_in, set_in}
use Rattle.ov_catalog.specs.declared.cvd.Cvd.{Cvd}
use Rattle.ov_new_version.specs.declared.wanted.Wanted.{Wanted}
use Rattle.ov_new_version.specs.Asked.{asked_in, edges_of, place_of, rids_of}
use Rattle.ov_new_version.specs.Joined.{part_at, if_joined, joined_of, IsPlaceThere}
use Rattle.ov_catalog.proofs.PartLemmas.{serving-there}

abbrev pub seen : Option Part → Option (PartNumbers Extent)
seen None = None
seen (Some part) = Some (part_in part)

pub number_seen : (id : ℕ) (parts : List Part) → number_in (map part_in parts) id ≡ seen (part_numbered id parts)
number_seen id [] = refl
number_seen id (part ∷ parts) = by (part.id == id) (number_seen id parts)
  where
    by : (b : Bool) → number_in (map part_in parts) id ≡ seen (part_numbered id parts) → cond b (Some (part_in part)) (number_in (map part_in parts) id) ≡ seen (cond b (Some part) (part_numbered id parts))
    by true rest = refl
    by false rest = rest

pub found_in : (id : ℕ) (parts : List Part) (part : Part) → part_numbered id parts ≡ Some part → number_in (map part_in parts) id ≡ Some (part_in part)
found_in id parts part is = number_seen id parts ∙ ap seen is

-- the partition of the place, as it is kept
pub part_seen : (d : Cvd) (place : Place) (id : ℕ) (parts : List Part) (found : Option Part) → place ≡ Join id → parts ≡ d.layout.parts → found ≡ part_numbered id parts
    → part_at (set_in d) place ≡ seen found
part_seen d place id parts found joins are is =
    ap (part_at (set_in d)) joins ∙ number_seen id d.layout.parts ∙ ap seen (ap (part_numbered id) (sym are) ∙ sym is)

pub none_in : (id : ℕ) (parts : List Part) → part_numbered id parts ≡ None → number_in (map part_in parts) id ≡ None
none_in id parts is = number_seen id parts ∙ ap seen is

-- ---- a placed version's partition is there

there_in : (parts : List Part) (id : ℕ) → is_number parts id ≡ true → number_in (map part_in parts) id ≢ None
there_in [] id is = absurd cc
there_in (part ∷ parts) id is = by (part.id == id) is (there_in parts id)
  where
    by : (b : Bool) → (b || is_number parts id) ≡ true → (is_number parts id ≡ true → number_in (map part_in parts) id ≢ None) → cond b (Some (part_in part)) (number_in (map part_in parts) id) ≢ None
    by true is rest = λ e. cc
    by false is rest = rest is

pub serving_there : (vid : ℕ) (parts : List Part) → is_placed parts vid ≡ true → number_in (map part_in parts) (id_in (part_serving (map part_in parts) vid)) ≢ None
serving_there vid parts placed = there_in parts (id_in (part_serving (map part_in parts) vid)) (serving-there vid parts placed)

-- ---- and has its number alone

serving_least : (vid least : ℕ) (parts : List Part) → Ascend least (numbers_of parts) → is_placed parts vid ≡ true → least ≤ id_in (part_serving (map part_in parts) vid)
serving_least vid least [] ascend placed = absurd cc
serving_least vid least (part ∷ parts) ascend placed =
    elim (cases_Bool (serves vid part)) [
      | inl e ↦ rw e ascend.0
      | inr e ↦
          let rest = serving_least vid (suc part.id) parts ascend.1 (rw e at placed)
          in let low = ascend.0
          in rw e (omega (arith, rest, low))
    ]

pub serving_numbered : (vid least : ℕ) (parts : List Part) → Ascend least (numbers_of parts) → is_placed parts vid ≡ true
    → number_in (map part_in parts) (id_in (part_serving (map part_in parts) vid)) ≡ part_serving (map part_in parts) vid
serving_numbered vid least [] ascend placed = absurd cc
serving_numbered vid least (part ∷ parts) ascend placed = by (serves vid part) placed (serving_numbered vid (suc part.id) parts ascend.1)
  where
    by : (b : Bool) → (b || is_placed parts vid) ≡ true
        → (is_placed parts vid ≡ true → number_in (map part_in parts) (id_in (part_serving (map part_in parts) vid)) ≡ part_serving (map part_in parts) vid)
        → number_in (part_in part ∷ map part_in parts) (id_in (cond b (Some (part_in part)) (part_serving (map part_in parts) vid))) ≡ cond b (Some (part_in part)) (part_serving (map part_in parts) vid)
    by true is rest = ap (λ t. cond t (Some (part_in part)) (number_in (map part_in parts) part.id)) (eq-eqb part.id part.id refl)
    by false is rest =
        let above = serving_least vid (suc part.id) parts ascend.1 is
        in let id : ℕ = id_in (part_serving (map part_in parts) vid)
        in ap (λ t. cond t (Some (part_in part)) (number_in (map part_in parts) id)) (ne_eqb part.id id (λ same. omega (arith, same, above)))
        ∙ rest is

-- ---- the partition of a version's place

joined_by : (s : Numbers) (b : Bool) (id : ℕ) (part : Option (PartNumbers Extent)) → number_in s.parts id ≡ part
    → part_at s (if b then Own else Join id) ≡ if_joined (if b then Own else Join id) part
joined_by s true id part is = refl
joined_by s false id part is = is

there_by : (s : Numbers) (b : Bool) (id : ℕ) → number_in s.parts id ≢ None → IsPlaceThere s (if b then Own else Join id)
there_by s true id there = tt
there_by s false id there = there

pub in_range : (count : ℕ) (vids : List ℕ) (vid : ℕ) → AreThere count vids → IsIn vids vid → (1 ≤ vid) × (vid ≤ count)
in_range count [] vid are is = absurd is
in_range count (v ∷ vids) vid are (inl same) = subst (λ n. (1 ≤ n) × (n ≤ count)) (sym same) are.0
in_range count (v ∷ vids) vid are (inr later) = in_range count vids vid are.1 later

pub as_many : (s : Numbers) (vids : List ℕ) (parents : List (List Record)) → EachAgrees s vids parents → length parents ≡ length vids
as_many s [] [] are = refl
as_many s [] (records ∷ parents) are = absurd are
as_many s (vid ∷ vids) [] are = absurd are
as_many s (vid ∷ vids) (records ∷ parents) are = ap suc (as_many s vids parents are.1)

module _ (d : Cvd) (w : Wanted) (set : IsSet d) (named : AreParents (length d.versions.items) w.vids.now) (agree : EachAgrees (set_in d) w.vids.now w.parents.now) where
  -- its tree parent is there, so it is in a partition
  parent_placed : is_placed d.layout.parts (heaviest (edges_of (asked_in d w))).0 ≡ true
  parent_placed =
      let sharing = shared (zip (rids_of (asked_in d w)) w.rows)
      in let long : length (map sharing (lists_of w.parents.now)) ≡ length w.vids.now =
      length-map (lists_of w.parents.now) sharing ∙ length-map w.parents.now pairs_of ∙ as_many (set_in d) w.vids.now w.parents.now agree
      in let vid : ℕ = (heaviest (edges_of (asked_in d w))).0
      in let there = in_range (length d.versions.items) w.vids.now vid named.there (tree_parent w.vids.now (map sharing (lists_of w.parents.now)) named.some long)
      in set.placed vid there.0 there.1

  pub place_there : IsPlaceThere (set_in d) (place_of (asked_in d w))
  place_there =
      let facts = facts_of (set_in d) (heaviest (edges_of (asked_in d w)))
      in there_by (set_in d) (facts.unmoved || is_budgeted facts.threshold facts.weight facts.records facts.stored) facts.parent
      (serving_there (heaviest (edges_of (asked_in d w))).0 d.layout.parts parent_placed)

  pub joined_is : AreParts d.layout.parts d.layout.next → part_at (set_in d) (place_of (asked_in d w)) ≡ joined_of (asked_in d w)
  joined_is sound =
      let facts = facts_of (set_in d) (heaviest (edges_of (asked_in d w)))
      in let vid : ℕ = (heaviest (edges_of (asked_in d w))).0
      in joined_by (set_in d) (facts.unmoved || is_budgeted facts.threshold facts.weight facts.records facts.stored) facts.parent
      (part_serving (map part_in d.layout.parts) vid)
      (serving_numbered vid 1 d.layout.parts (ids-ascend 1 d.layout.next d.layout.parts sound.sound) parent_placed)
