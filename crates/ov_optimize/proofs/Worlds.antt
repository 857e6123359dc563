-- Where the pages stand for a World: what is read is what the World has, so the event and the report are those that it asks for,
-- and nothing is damaged.
use Rattle.std.proofs.Common.{◌≡◌, ◌<◌, ◌≤◌, ℕ, zero, suc, ◌+◌, ◌-◌, ◌==◌, Bool, true, false, if◌then◌else◌, List, [], ◌∷◌, ◌++◌, length, get_or, map, refl, sym, ◌∙◌, ap, subst, inl, inr, arith}
use Rattle.std.specs.Prelude.{Some}
use Rattle.std.specs.List.{All, AllZip, Contains, range_with_len}
use Rattle.std.proofs.lemmas.Bool.{eq-eqb}
use Rattle.std.proofs.lemmas.List.{length-map}
use Rattle.std.proofs.lemmas.List.Elements.{All-contains}
use Rattle.ov_event.specs.declared.event.Event.{Event}
use Rattle.ov_event.specs.declared.event.Event.TheVariants as says
use Rattle.ov_event.specs.declared.event.PlanTarget.{PlanTarget}
use Rattle.ov_fetch.specs.declared.errors.FetchErr.{FetchErr}
use Rattle.ov_fetch.specs.declared.errors.FetchErr.TheVariants.{Host, Memory, Damaged}
use Rattle.ov_fetch.specs.Extents.{IsList, rids_of}
use Rattle.ov_graph.specs.Splits as splits
use Rattle.ov_graph.specs.Trees.{all_members, all_records}
use Rattle.ov_graph.specs.Versions.{reduced}
use Rattle.ov_host.specs.declared.area.Extent.{Extent}
use Rattle.ov_segment.specs.declared.numbered.Record.{Record}
use Rattle.ov_model.specs.Book.{Version}
use Rattle.ov_model.specs.Lists.{IsIn}
use Rattle.ov_model.specs.Placed.{id_times}
use Rattle.ov_model.specs.Plans as plans
use Rattle.ov_model.specs.Plans.{nodes_of_set, pieces_of, planned, plan_steps, records_in, sizes_of, target_steps}
use Rattle.ov_model.specs.Records.{Rec, of_version, order_of, records_of, recs, rid_in}
use Rattle.ov_model.specs.World.{Dataset, Part, Target, World}
use Rattle.ov_model.specs.World as worlds
use Rattle.ov_model.specs.declared.reply.Reply.TheVariants as reply
use Rattle.ov_model.proofs.Counting.{one_if}
use Rattle.ov_model.proofs.Growing.{length_recs}
use Rattle.ov_model.proofs.Holds.{at_known}
use Rattle.ov_model.proofs.Origins.{all_known}
use Rattle.law_partitions.specs.Pieces.{AllFull, PartsArePieces}
use Rattle.law_partitions.proofs.PiecePlan.{target_kept}
use Rattle.ov_catalog.specs.Events as events
use Rattle.ov_catalog.specs.Numbers.{PartNumbers, VersionNumbers, each_part, each_version}
use Rattle.ov_catalog.specs.Raw.{event_in}
use Rattle.ov_catalog.specs.Shown.{list_of, plan_event, shown_part, shown_versions}
use Rattle.ov_catalog.specs.Stands.{asked_as}
use Rattle.ov_catalog.proofs.Members.{heads, of_map, of_sorted, tails}
use Rattle.ov_catalog.proofs.Ranking.{are_in_at}
use Rattle.ov_core.specs.Brought.{content}
use Rattle.law_events.proofs.Lacks.{new_lacks}
use Rattle.law_image.specs.Pages.{readings_of}
use Rattle.ov_read.specs.Agreement.{IsThere, Numbers}
use Rattle.ov_read.specs.Agreement as agreement
use Rattle.ov_read.specs.OfWorld.{IsSetOf, IsSpared, rids_in}
use Rattle.ov_read.proofs.Shows.{lists_shown, not_bad}
use Rattle.law_reads.specs.Sights.{contents_of, record_in, records_in as kept_in}
use Rattle.law_reads.proofs.Counted.{numbers}
use Rattle.law_reads.proofs.Listed as listed
use Rattle.law_reads.proofs.Orders.{all_of, rid_low, sorted_long}
use Rattle.law_reads.proofs.Parted.{Facts, facts, only, part_at, read}
use Rattle.law_reads.proofs.Served.{no_part_damage, segments_stand}
use Rattle.law_reads.proofs.Together.{rids_listed}
use Rattle.ov_targets.specs.declared.candidates.Partition.{Partition}
use Rattle.ov_targets.specs.Targets.{AreTargets}
use Rattle.ov_targets.specs.Telling.{AreParts, targets_said}
use Rattle.ov_targets.proofs.Agreeing.{targets_are}
use Rattle.ov_optimize.specs.declared.planning.Planned.{Planned}
use Rattle.ov_optimize.specs.declared.report.Report.{Report}
use Rattle.ov_optimize.specs.Counting.{IsCounted, sizes_said, steps_said}
use Rattle.ov_optimize.specs.Damages.{HasBadPart, HasHighRid, IsBadPart, IsPlanDamage, RefusesPlan}
use Rattle.ov_optimize.specs.Planned.{IsMade, IsPlanned, IsReport}
use Rattle.ov_optimize.specs.Reading.{IsListAt, IsPartitionAt, all_vids}
use Rattle.ov_optimize.proofs.VersionLists.{all_there}

-- ---- all versions

map_vids : {X Y : Type 0} (g : ℕ → Y) (f : X → Y) (xs : List X) (from : ℕ) → ((k : ℕ) (d : X) → k < length xs → g (from + k) ≡ f (get_or xs k d))
    → map g (range_with_len from (length xs)) ≡ map f xs
map_vids g f [] from same = refl
map_vids g f (x ∷ xs) from same =
    let first : g from ≡ f x = ap g (plus from) ∙ same 0 x (omega arith) in
    let rest : map g (range_with_len (from + 1) (length xs)) ≡ map f xs =
    map_vids g f xs (from + 1) (λ k d low. ap g (next from k) ∙ same (suc k) d (omega (arith, low))) in
    λ i. first i ∷ rest i
  where
    plus : (n : ℕ) → n ≡ n + 0
    plus n = omega arith

    next : (n k : ℕ) → n + 1 + k ≡ n + suc k
    next n k = omega arith

-- ---- the tree

graph_each : {L M : Type 0} (f : L → M) (vs : List (VersionNumbers L)) → events.graph_of (map (each_version f) vs) ≡ events.graph_of vs
graph_each f [] = refl
graph_each f (v ∷ vs) = ap (λ rest. record { records = v.rows; parents = v.parents } ∷ rest) (graph_each f vs)

graph_shown : (all : List Rec) (done : List (List Rec)) (vs : List Version) → events.graph_of (shown_versions all done vs) ≡ plans.graph_of vs done
graph_shown all done [] = refl
graph_shown all done (v ∷ vs) = ap (λ rest. plans.graph_of (v ∷ []) done ++ rest) (graph_shown all (done ++ records_of v done ∷ []) vs)

-- ---- partitions

pieces_at : (parts : List Part) (q : Part) → ((id : ℕ) → id_times parts id ≤ 1) → IsIn parts q → pieces_of parts q.id ≡ q.pieces
pieces_at [] q once is = absurd is
pieces_at (p ∷ parts) q once is =
    by (p.id == q.id) is (once q.id) (λ same. eq-eqb p.id q.id (ap (λ (x : Part). x.id) (sym same))) (λ later. pieces_at parts q (λ id. omega (arith, once id)) later)
  where
    some : (ps : List Part) → IsIn ps q → 1 ≤ id_times ps q.id
    some [] there = absurd there
    some (x ∷ ps) (inl same) = omega (arith, ap one_if (eq-eqb x.id q.id (ap (λ (y : Part). y.id) (sym same))))
    some (x ∷ ps) (inr later) = omega (arith, some ps later)

    clash : true ≡ false → ⊥
    clash e = cc

    by : (b : Bool) → IsIn (p ∷ parts) q → (if b then 1 else 0) + id_times parts q.id ≤ 1 → (q ≡ p → b ≡ true) → (IsIn parts q → pieces_of parts q.id ≡ q.pieces)
        → (if b then p.pieces else pieces_of parts q.id) ≡ q.pieces
    by true (inl same) one here rest = ap (λ (x : Part). x.pieces) (sym same)
    by true (inr later) one here rest = absurd (omega (arith, one, some parts later))
    by false (inl same) one here rest = absurd (clash (sym (here same)))
    by false (inr later) one here rest = rest later

full_at : (done : List (List Rec)) (parts : List Part) (q : Part) → PartsArePieces done parts → IsIn parts q → AllFull q.pieces
full_at done [] q are is = absurd is
full_at done (p ∷ parts) q are (inl same) = subst (λ (x : Part). AllFull x.pieces) (sym same) are.0.full
full_at done (p ∷ parts) q are (inr later) = full_at done parts q are.1 later

-- what is kept of pieces that have records isn't empty
none_empty : (all : List Rec) (pieces : List (List Rec)) → AllFull pieces → Contains (map (kept_in all) pieces) [] → ⊥
none_empty all pieces full there = at pieces there.0 full there.1 (ap length there.2)
  where
    at : (ps : List (List Rec)) (k : ℕ) → AllFull ps → k < length (map (kept_in all) ps) → length (get_or (map (kept_in all) ps) k []) ≡ 0 → ⊥
    at [] k full low none = omega (arith, low)
    at (p ∷ ps) zero full low none = omega (arith, full.0, none, sorted_long (λ (r : Record). r.rid) (map (record_in all) p), length-map p (record_in all))
    at (p ∷ ps) (suc k) full low none = at ps k full.1 (omega (arith, low)) none

rids_kept : (all : List Rec) (pieces : List (List Rec)) → map rids_of (map (kept_in all) pieces) ≡ map (list_of all) pieces
rids_kept all [] = refl
rids_kept all (piece ∷ pieces) = let first = rids_listed all piece in let rest = rids_kept all pieces in λ i. first i ∷ rest i

module _ (w : World) (ds : Dataset) (area : List ℕ) (s : Numbers) (of : IsSetOf w ds area s) where
  abbrev all : List Rec
  all = order_of ds.cvd.versions

  fact : Facts ds
  fact = facts w area s ds of

  pub graph_same : events.graph_of s.versions ≡ plans.graph_of ds.cvd.versions []
  graph_same =
      sym (graph_each (readings_of area).list s.versions) ∙ ap events.graph_of (ap (λ x. x.versions) of.shows)
      ∙ graph_each Some (shown_versions all [] ds.cvd.versions) ∙ graph_shown all [] ds.cvd.versions

  parts_same : (p q : ℕ) → events.parts_at p q s ≡ plans.parts_at ds p q
  parts_same p q = ap (λ g. splits.parts_of (reduced g) p q) graph_same

  -- ---- what is read

  abbrev PartsShow : List (PartNumbers Extent) → List Part → Type 0
  PartsShow ps qs = map (each_part (readings_of area).segment) ps ≡ map (each_part Some) (map (shown_part (order_of ds.cvd.versions)) qs)

  pub lists_are : (lists : List (List ℕ)) → AllZip (IsListAt area s) (all_vids s) lists → lists ≡ map (list_of all) (recs ds.cvd.versions [])
  lists_are lists are =
      lists_shown w ds area s (all_vids s) lists of (all_there s) (alone (all_vids s) lists are)
      ∙ ap (λ n. map (rids_in ds) (range_with_len 1 n)) count
      ∙ map_vids (rids_in ds) (list_of all) (recs ds.cvd.versions []) 1
      (λ k d low. ap (list_of all) (ap (λ n. get_or (recs ds.cvd.versions []) n []) (back k) ∙ other (recs ds.cvd.versions []) k [] d low))
    where
      alone : (vids : List ℕ) (ls : List (List ℕ)) → AllZip (IsListAt area s) vids ls → AllZip (λ vid. IsList area (agreement.list_of s vid)) vids ls
      alone [] [] is = tt
      alone [] (l ∷ ls) is = absurd is
      alone (vid ∷ vids) [] is = absurd is
      alone (vid ∷ vids) (l ∷ ls) is = (is.0.list, alone vids ls is.1)

      count : length s.versions ≡ length (recs ds.cvd.versions [])
      count = (numbers w area s ds of).versions ∙ sym (length_recs ds.cvd.versions [] ∙ omega arith)

      back : (k : ℕ) → 1 + k - 1 ≡ k
      back k = omega arith

      other : (xs : List (List Rec)) (k : ℕ) (d e : List Rec) → k < length xs → get_or xs k d ≡ get_or xs k e
      other [] k d e low = absurd (omega (arith, low))
      other (x ∷ xs) zero d e low = refl
      other (x ∷ xs) (suc k) d e low = other xs k d e (omega (arith, low))

  parts_are : (ps : List (PartNumbers Extent)) (qs : List Part) (rs : List Partition) → PartsShow ps qs → ((part : PartNumbers Extent) → IsIn ps part → IsIn s.parts part)
      → ((q : Part) → IsIn qs q → IsIn ds.parts q) → AllZip (IsPartitionAt area s) ps rs → AreParts all qs rs
  parts_are [] [] [] same ps_in qs_in are = tt
  parts_are [] [] (r ∷ rs) same ps_in qs_in are = absurd are
  parts_are [] (q ∷ qs) rs same ps_in qs_in are = cc
  parts_are (p ∷ ps) [] rs same ps_in qs_in are = cc
  parts_are (p ∷ ps) (q ∷ qs) [] same ps_in qs_in are = absurd are
  parts_are (p ∷ ps) (q ∷ qs) (r ∷ rs) same ps_in qs_in are =
      let first : each_part (readings_of area).segment p ≡ each_part Some (shown_part all q) = heads _ _ _ _ same in
      let id : p.id ≡ q.id = ap (λ x. x.id) first in
      let pieces : pieces_of ds.parts p.id ≡ q.pieces = ap (pieces_of ds.parts) id ∙ pieces_at ds.parts q fact.placed.ids_once (qs_in q (inl refl)) in (
        record {
          id = are.0.is.id ∙ id;
          versions = are.0.is.versions ∙ ap (λ x. x.versions) first;
          segments = are.0.rids.sets_are ∙ ap (map rids_of) (only w area s ds p are.0.rids.contents of (ps_in p (inl refl)) are.0.rids.read)
              ∙ rids_kept all (pieces_of ds.parts p.id) ∙ ap (map (list_of all)) pieces;
        },
        parts_are ps qs rs (tails _ _ _ _ same) (λ x there. ps_in x (inr there)) (λ x there. qs_in x (inr there)) are.1,
      )

  targets_same : (lists : List (List ℕ)) (partitions : List Partition) (p q : ℕ) (ts : List PlanTarget) → AllZip (IsListAt area s) (all_vids s) lists
      → AllZip (IsPartitionAt area s) s.parts partitions → AreTargets lists partitions (events.parts_at p q s) ts → ts ≡ targets_said ds (plans.parts_at ds p q)
  targets_same lists partitions p q ts listed parted are =
      targets_are ds lists partitions (plans.parts_at ds p q) ts fact.pieces
      (record {
        versions = lists_are lists listed;
        parts = parts_are s.parts ds.parts partitions (ap (λ x. x.parts) of.shows) (λ x there. x_in there) (λ x there. x_in there) parted;
      })
      (subst (λ parts. AreTargets lists partitions parts ts) (parts_same p q) are)
    where
      x_in : {X : Type 0} → X → X
      x_in there = there

  -- ---- the event and the report

  event_is : (p q : ℕ) (e : Event) → IsPlanned area s p q e → content (event_in e) [] [] ≡ asked_as (plan_event ds.cvd.number p q ds)
  event_is p q e is =
      let ts : List PlanTarget = is.says.targets in
      let same : ts ≡ targets_said ds (plans.parts_at ds p q) = targets_same is.lists is.partitions p q is.says.targets is.listed is.parted is.says.are in
      let number : s.number ≡ ds.cvd.number = (numbers w area s ds of).number in
      ap (λ (x : Event). content (event_in x) [] []) is.says.event
      ∙ (λ i. events.Plan (number i) p q (same i))

  sizes_are : (parts : List (List ℕ)) → sizes_said parts (targets_said ds parts) ≡ sizes_of ds parts
  sizes_are [] = refl
  sizes_are (versions ∷ later) = ap (λ rest. (length versions, length (records_in ds.cvd versions)) ∷ rest) (sizes_are later)

  steps_are : (p q : ℕ) (parts : List (List ℕ)) → steps_said (targets_said ds parts) ≡ target_steps (planned p q ds) (plans.targets_of ds parts) []
  steps_are p q [] = refl
  steps_are p q (versions ∷ later) =
      let t : Target = plans.target_of ds versions later in
      let lacks : length (records_in ds.cvd t.versions) - t.kept_records ≡ length (plans.missing_of ds t []) =
      omega (arith, new_lacks ds fact.pieces.rows t (target_kept ds fact.pieces fact.placed versions later)) in
      let rest = steps_are p q later in
      λ i. plans.steps_for (lacks i) + rest i

  from_zero : (ts : List Target) → worlds.targets_from 0 ts ≡ ts
  from_zero [] = refl
  from_zero (t ∷ ts) = refl

  report_is : (p q : ℕ) (ts : List PlanTarget) (r : Report) → ts ≡ targets_said ds (plans.parts_at ds p q)
      → IsCounted (reduced (events.graph_of s.versions)) p q (events.parts_at p q s) ts r → IsReport ds p q r
  report_is p q ts r same is =
      let parts : List (List ℕ) = plans.parts_at ds p q in
      let sizes : sizes_said (events.parts_at p q s) ts ≡ sizes_of ds (plans.parts_at ds p q) =
      (λ i. sizes_said (parts_same p q i) (same i)) ∙ sizes_are (plans.parts_at ds p q) in
      let depth = is.depth ∙ ap (λ g. splits.depth_of (reduced g) p q) graph_same in
      let partitions = is.partitions ∙ ap length (parts_same p q) in
      let stored = is.stored ∙ ap splits.stored sizes in
      let records = is.records ∙ ap (λ g. all_records (reduced g)) graph_same in
      let members = is.members ∙ ap (λ g. all_members (reduced g)) graph_same in
      let cost = is.cost ∙ ap splits.cost sizes in
      let steps : r.steps ≡ plan_steps (planned p q ds) =
      is.steps ∙ ap steps_said same ∙ steps_are p q (plans.parts_at ds p q)
      ∙ ap (λ xs. target_steps (planned p q ds) xs []) (sym (from_zero (plans.targets_of ds (plans.parts_at ds p q)))) in
      λ i. reply.Optimize (depth i) (partitions i) (stored i) (records i) (members i) (cost i) (steps i)

  same_targets : (p q : ℕ) (e : Event) (ts us : List PlanTarget) → e ≡ says.Plan s.number p q ts → e ≡ says.Plan s.number p q us → ts ≡ us
  same_targets p q e ts us is also = plan_of (sym is ∙ also)
    where
      plan_of : says.Plan s.number p q ts ≡ says.Plan s.number p q us → ts ≡ us
      plan_of same = cc

  pub made_is : (p q : ℕ) (made : Planned) → IsMade s p q made → IsPlanned area s p q made.event
      → (Some (content (event_in made.event) [] []) ≡ Some (asked_as (plan_event ds.cvd.number p q ds))) × IsReport ds p q made.report
  made_is p q made is planned =
      let same : is.targets ≡ targets_said ds (plans.parts_at ds p q) =
      same_targets p q made.event is.targets planned.says.targets is.event planned.says.event
      ∙ targets_same planned.lists planned.partitions p q planned.says.targets planned.listed planned.parted planned.says.are in
      (ap Some (event_is p q made.event planned), report_is p q is.targets made.report same is.report)

  -- ---- nothing is damaged

  rids_low : (vid : ℕ) → All (λ rid. rid ≤ s.records) (rids_in ds vid)
  rids_low vid =
      all_of (λ rid. rid ≤ s.records) (rids_in ds vid)
      (λ rid there.
      let one = of_map (rid_in all) (of_version (recs ds.cvd.versions []) vid) rid (of_sorted (λ (n : ℕ). n) (map (rid_in all) (of_version (recs ds.cvd.versions []) vid)) rid there) in
      omega (
        arith,
        one.1.1,
        rid_low all one.0
            (are_in_at (of_version (recs ds.cvd.versions []) vid) all one.0 (at_known (recs ds.cvd.versions []) (vid - 1) all (all_known ds.cvd.versions)) one.1.0),
        (numbers w area s ds of).records,
      ))

  no_high : (page : ℕ) → HasHighRid area s page → ⊥
  no_high page is =
      is.high (subst (λ rids. All (λ rid. rid ≤ s.records) rids) (sym (listed.only w area s ds is.vid is.rids of is.there is.list)) (rids_low is.vid))

  no_bad_part : (page : ℕ) → HasBadPart area s page → ⊥
  no_bad_part page is = by is.bad
    where
      by : IsBadPart area s is.part page → ⊥
      by (inl none) = segments_stand s.schema area is.part.segments (contents_of ds is.part.id) page (read w area s ds is.part of is.among) none
      by (inr off) = elim off.1 [
        | inl disagrees ↦ no_part_damage w area s ds is.part of is.among disagrees
        | inr empty ↦
            let it = part_at w area s ds is.part of is.among in
            let pieces : pieces_of ds.parts is.part.id ≡ it.0.pieces = ap (λ x. pieces_of ds.parts x.id) it.1.1 ∙ pieces_at ds.parts it.0 fact.placed.ids_once it.1.0 in
            none_empty all (pieces_of ds.parts is.part.id)
            (subst AllFull (sym pieces) (full_at (recs ds.cvd.versions []) ds.parts it.0 fact.pieces.parts it.1.0))
            (subst (λ cs. Contains cs []) (only w area s ds is.part empty.contents of is.among empty.read) empty.empty)
      ]

  no_damage : (page : ℕ) → IsPlanDamage area s page → ⊥
  no_damage page (inl list) = not_bad w ds area s list.vid of (All-contains (IsThere s) (all_vids s) list.vid (all_there s) list.among) list.bad
  no_damage page (inr (inl high)) = no_high page high
  no_damage page (inr (inr part)) = no_bad_part page part

  pub spared : (e : FetchErr) → RefusesPlan e area s → IsSpared e
  spared Host why = tt
  spared Memory why = tt
  spared (Damaged page) why = no_damage page why
