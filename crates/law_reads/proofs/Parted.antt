-- The partitions of a dataset, and what is read of them.
use Rattle.std.proofs.Common.{◌≡◌, ◌≤◌, ◌+◌, ◌==◌, ℕ, Bool, true, false, if◌then◌else◌, List, [], ◌∷◌, length, map, refl, sym, ◌∙◌, ap, subst, inl, inr, arith}
use Rattle.std.specs.Prelude.{◌||◌, Some}
use Rattle.std.specs.List.{list_any}
use Rattle.std.proofs.lemmas.Bool.{cases_Bool, eq-eqb}
use Rattle.std.proofs.lemmas.List.{length-map}
use Rattle.ov_host.specs.declared.area.Extent.{Extent}
use Rattle.ov_segment.specs.declared.numbered.Record.{Record}
use Rattle.ov_member.specs.Rids.{has}
use Rattle.ov_fetch.specs.Extents.{rids_of}
use Rattle.ov_fetch.specs.Rows.{AreSegments}
use Rattle.law_events.proofs.Counts.{joined_at}
use Rattle.law_image.specs.Pages.{readings_of}
use Rattle.law_partitions.specs.Pieces.{NoTwice, IsPieces, PartsArePieces, HasPieces, ArePieces}
use Rattle.ov_model.specs.Holding.{VersionsAreIn, PartsHold, IsHeld, AreHeld}
use Rattle.ov_model.specs.Lists.{IsIn, AllAreIn, joined}
use Rattle.ov_model.specs.Moves.{numbered}
use Rattle.ov_model.specs.Placed.{IsPlaced, ArePlaced, id_times, part_times}
use Rattle.ov_model.specs.Plans.{pieces_of}
use Rattle.ov_model.specs.Records.{Rec, recs, order_of, rid_in}
use Rattle.ov_model.specs.World.{Part, Dataset, World, held}
use Rattle.ov_model.proofs.Counting.{one_if, not_listed}
use Rattle.ov_catalog.specs.Numbers.{PartNumbers, each_part}
use Rattle.ov_catalog.specs.Shown.{list_of, held_by, shown_part}
use Rattle.ov_catalog.specs.Told.{IsRowed, AreRowed}
use Rattle.ov_catalog.proofs.Good.{IsKnown, AreKnown, IsGood, good}
use Rattle.ov_catalog.proofs.Members.{heads, tails, of_map, of_sorted}
use Rattle.ov_catalog.proofs.Showing.{PiecesAreIn}
use Rattle.ov_read.specs.Agreement.{Numbers, IsThere, PartAgrees, AreTogether, serves, is_served}
use Rattle.ov_read.specs.Partitions.{IsPartRead}
use Rattle.ov_read.specs.OfWorld.{IsSetOf}
use Rattle.law_reads.specs.Sights.{IsPartOf, records_in, contents_of, part_rids}
use Rattle.law_reads.proofs.Counted.{numbers}
use Rattle.law_reads.proofs.Founds.{first_in}
use Rattle.law_reads.proofs.Orders.{all_of, sorted_long, rid_low}
use Rattle.law_reads.proofs.Rowed.{held_is}
use Rattle.law_reads.proofs.Stored.{segments_are, segments_once, rids_most}
use Rattle.law_reads.proofs.Together.{or_right, together, together_once}

-- ---- what holds of a dataset

pub record Facts (d : Dataset) : Type 0 where
  pub known : IsKnown d
  pub placed : IsPlaced d
  pub hold : IsHeld d
  pub rowed : IsRowed d
  pub pieces : HasPieces d

facts_in : (ds : List Dataset) (d : Dataset) → IsIn ds d → AreKnown ds → ArePlaced ds → AreHeld ds → AreRowed ds → ArePieces ds → Facts d
facts_in [] d is known placed hold rowed pieces = absurd is
facts_in (x ∷ ds) d (inl same) known placed hold rowed pieces =
    subst Facts (sym same) (record { known = known.0; placed = placed.0; hold = hold.0; rowed = rowed.0; pieces = pieces.0 })
facts_in (x ∷ ds) d (inr later) known placed hold rowed pieces = facts_in ds d later known.1 placed.1 hold.1 rowed.1 pieces.1

pub facts : (w : World) (area : List ℕ) (s : Numbers) (d : Dataset) → IsSetOf w d area s → Facts d
facts w area s d of_world =
    let is : IsGood w = good w of_world.reached
    in facts_in w.sets d (first_in (numbered s.number) w.sets d of_world.among) is.known is.sound.placed is.sound.held is.rowed is.sound.pieces

-- ---- its partition of a number

abbrev IsPart : List ℕ → List Rec → PartNumbers Extent → Part → Type 0
IsPart area all part q = each_part (readings_of area).segment part ≡ each_part Some (shown_part all q)

abbrev AreParts : List ℕ → List Rec → List (PartNumbers Extent) → List Part → Type 0
AreParts area all ps qs = map (each_part (readings_of area).segment) ps ≡ map (each_part Some) (map (shown_part all) qs)

part_in : (area : List ℕ) (all : List Rec) (ps : List (PartNumbers Extent)) (qs : List Part) (part : PartNumbers Extent) → AreParts area all ps qs → IsIn ps part
    → (q : Part) × (IsIn qs q × IsPart area all part q)
part_in area all [] qs part same is = absurd is
part_in area all (p ∷ ps) [] part same is = cc
part_in area all (p ∷ ps) (q ∷ qs) part same (inl here) = (q, (inl refl, subst (λ x. IsPart area all x q) (sym here) (heads _ _ _ _ same)))
part_in area all (p ∷ ps) (q ∷ qs) part same (inr later) =
    let it = part_in area all ps qs part (tails _ _ _ _ same) later
    in (it.0, (inr it.1.0, it.1.1))

pub part_at : (w : World) (area : List ℕ) (s : Numbers) (d : Dataset) (part : PartNumbers Extent) → IsSetOf w d area s → IsIn s.parts part
    → (q : Part) × (IsIn d.parts q × IsPart area (order_of d.cvd.versions) part q)
part_at w area s d part of_world is = part_in area (order_of d.cvd.versions) s.parts d.parts part (ap (λ x. x.parts) of_world.shows) is

ids_some : (parts : List Part) (q : Part) → IsIn parts q → 1 ≤ id_times parts q.id
ids_some [] q is = absurd is
ids_some (p ∷ parts) q (inl same) = omega (arith, ap one_if (eq-eqb p.id q.id (ap (λ x. x.id) (sym same))))
ids_some (p ∷ parts) q (inr later) = omega (arith, ids_some parts q later)

clash : true ≡ false → ⊥
clash e = cc

pieces_at : (parts : List Part) (q : Part) → ((id : ℕ) → id_times parts id ≤ 1) → IsIn parts q → pieces_of parts q.id ≡ q.pieces
pieces_at [] q once is = absurd is
pieces_at (p ∷ parts) q once is =
    by (p.id == q.id) is (once q.id) (λ same. eq-eqb p.id q.id (ap (λ x. x.id) (sym same))) (λ later. pieces_at parts q (λ id. omega (arith, once id)) later)
  where
    by : (b : Bool) → IsIn (p ∷ parts) q → (if b then 1 else 0) + id_times parts q.id ≤ 1 → (q ≡ p → b ≡ true) → (IsIn parts q → pieces_of parts q.id ≡ q.pieces)
        → (if b then p.pieces else pieces_of parts q.id) ≡ q.pieces
    by true (inl same) one here rest = ap (λ x. x.pieces) (sym same)
    by true (inr later) one here rest = absurd (omega (arith, one, ids_some parts q later))
    by false (inl same) one here rest = absurd (clash (sym (here same)))
    by false (inr later) one here rest = rest later

pub held_pieces : (parts : List Part) (id : ℕ) → held_by parts id ≡ joined (pieces_of parts id)
held_pieces [] id = refl
held_pieces (p ∷ parts) id = by (p.id == id) (held_pieces parts id)
  where
    by : (b : Bool) → held_by parts id ≡ joined (pieces_of parts id) → (if b then held p else held_by parts id) ≡ joined (if b then p.pieces else pieces_of parts id)
    by true rest = refl
    by false rest = rest

known_at : (all : List Rec) (parts : List Part) (q : Part) → PiecesAreIn all parts → IsIn parts q → AllAreIn q.pieces all
known_at all [] q are is = absurd is
known_at all (p ∷ parts) q are (inl same) = subst (λ x. AllAreIn x.pieces all) (sym same) are.0
known_at all (p ∷ parts) q are (inr later) = known_at all parts q are.1 later

whole_at : (done : List (List Rec)) (parts : List Part) (q : Part) → PartsArePieces done parts → IsIn parts q → IsPieces done q
whole_at done [] q are is = absurd is
whole_at done (p ∷ parts) q are (inl same) = subst (IsPieces done) (sym same) are.0
whole_at done (p ∷ parts) q are (inr later) = whole_at done parts q are.1 later

hold_at : (done : List (List Rec)) (parts : List Part) (q : Part) → PartsHold done parts → IsIn parts q → VersionsAreIn done q.versions (held q)
hold_at done [] q are is = absurd is
hold_at done (p ∷ parts) q are (inl same) = subst (λ x. VersionsAreIn done x.versions (held x)) (sym same) are.0
hold_at done (p ∷ parts) q are (inr later) = hold_at done parts q are.1 later

pub part_of : (w : World) (area : List ℕ) (s : Numbers) (d : Dataset) (part : PartNumbers Extent) → IsSetOf w d area s → IsIn s.parts part → IsPartOf d part
part_of w area s d part of_world is =
    let it = part_at w area s d part of_world is
    in record {
      is = it.0;
      one = it.1.0;
      id = ap (λ x. x.id) it.1.1;
      versions = ap (λ x. x.versions) it.1.1;
      holds = ap (λ x. x.holds) it.1.1;
      found = held_pieces d.parts part.id
          ∙ ap joined (ap (λ x. pieces_of d.parts x.id) it.1.1 ∙ pieces_at d.parts it.0 (facts w area s d of_world).placed.ids_once it.1.0);
    }

-- ---- what is read of it

pub record Read (area : List ℕ) (s : Numbers) (d : Dataset) (part : PartNumbers Extent) (pieces : List (List Rec)) : Type 0 where
  pub read : AreSegments s.schema area part.segments (map (records_in (order_of d.cvd.versions)) pieces)
  pub once : NoTwice (joined pieces)
  pub known : (r : Rec) → IsIn (joined pieces) r → IsIn (order_of d.cvd.versions) r
  pub count : part.records ≡ length (joined pieces)
  pub hold : VersionsAreIn (recs d.cvd.versions []) part.versions (joined pieces)

pub reads : (w : World) (area : List ℕ) (s : Numbers) (d : Dataset) (part : PartNumbers Extent) → IsSetOf w d area s → IsIn s.parts part
    → Read area s d part (pieces_of d.parts part.id)
reads w area s d part of_world is =
    let all : List Rec = order_of d.cvd.versions
    in let fact : Facts d = facts w area s d of_world
    in let it = part_at w area s d part of_world is
    in let q : Part = it.0
    in let same : pieces_of d.parts part.id ≡ q.pieces = ap (λ x. pieces_of d.parts x.id) it.1.1 ∙ pieces_at d.parts q fact.placed.ids_once it.1.0
    in let whole : IsPieces (recs d.cvd.versions []) q = whole_at (recs d.cvd.versions []) d.parts q fact.pieces.parts it.1.0
    in let schema : s.schema ≡ d.cvd.schema = (numbers w area s d of_world).schema
    in subst (Read area s d part) (sym same) (record {
      read = subst (λ shape. AreSegments shape area part.segments (map (records_in all) q.pieces)) (sym schema)
          (segments_are d.cvd.schema area all part.segments q.pieces
          (λ r there. held_is d.cvd.schema d.cvd.versions q.holds (held q) r fact.rowed.rows whole.only there) (ap (λ x. x.segments) it.1.1));
      once = whole.once;
      known = λ r there. joined_at q.pieces all r (known_at all d.parts q fact.known.pieces it.1.0) there;
      count = ap (λ x. x.records) it.1.1;
      hold = subst (λ vids. VersionsAreIn (recs d.cvd.versions []) vids (held q)) (sym (ap (λ x. x.versions) it.1.1)) (hold_at (recs d.cvd.versions []) d.parts q fact.hold it.1.0);
    })

pub read : (w : World) (area : List ℕ) (s : Numbers) (d : Dataset) (part : PartNumbers Extent) → IsSetOf w d area s
    → IsIn s.parts part → AreSegments s.schema area part.segments (contents_of d part.id)
read w area s d part of_world is = (reads w area s d part of_world is).read

pub only : (w : World) (area : List ℕ) (s : Numbers) (d : Dataset) (part : PartNumbers Extent) (contents : List (List Record))
    → IsSetOf w d area s → IsIn s.parts part → AreSegments s.schema area part.segments contents → contents ≡ contents_of d part.id
only w area s d part contents of_world is are = segments_once s.schema area part.segments contents (contents_of d part.id) are (read w area s d part of_world is)

pub records : (w : World) (area : List ℕ) (s : Numbers) (d : Dataset) (part : PartNumbers Extent) → IsSetOf w d area s
    → IsIn s.parts part → part.records ≡ length (held_by d.parts part.id)
records w area s d part of_world is = (reads w area s d part of_world is).count ∙ ap length (sym (held_pieces d.parts part.id))

are_together : (w : World) (area : List ℕ) (s : Numbers) (d : Dataset) (part : PartNumbers Extent) → IsSetOf w d area s → IsIn s.parts part
    → AreTogether (map rids_of (contents_of d part.id)) (list_of (order_of d.cvd.versions) (joined (pieces_of d.parts part.id)))
are_together w area s d part of_world is =
    let it = reads w area s d part of_world is
    in together (order_of d.cvd.versions) (pieces_of d.parts part.id) it.once it.known
    (rids_most s.schema area (order_of d.cvd.versions) part.segments (pieces_of d.parts part.id) it.read)

pub agrees : (w : World) (area : List ℕ) (s : Numbers) (d : Dataset) (part : PartNumbers Extent) → IsSetOf w d area s
    → IsIn s.parts part → PartAgrees part.records s.records (map rids_of (contents_of d part.id))
agrees w area s d part of_world is =
    let all : List Rec = order_of d.cvd.versions
    in let rs : List Rec = joined (pieces_of d.parts part.id)
    in let it = reads w area s d part of_world is
    in record {
      all = list_of all rs;
      together = are_together w area s d part of_world is;
      borne_out = record {
        count_is = sorted_long (λ n. n) (map (rid_in all) rs) ∙ length-map rs (rid_in all) ∙ sym it.count;
        below = all_of (λ rid. rid ≤ s.records) (list_of all rs) (λ rid there.
            let of = of_map (rid_in all) rs rid (of_sorted (λ n. n) (map (rid_in all) rs) rid there)
            in omega (arith, of.1.1, rid_low all of.0 (it.known of.0 of.1.0), (numbers w area s d of_world).records));
      };
    }

pub rids : (w : World) (area : List ℕ) (s : Numbers) (d : Dataset) (part : PartNumbers Extent) (all : List ℕ) → IsSetOf w d area s
    → IsIn s.parts part → IsPartRead s.schema area part.segments all → all ≡ part_rids d part.id
rids w area s d part all of_world is it =
    together_once (map rids_of (contents_of d part.id)) all (list_of (order_of d.cvd.versions) (joined (pieces_of d.parts part.id)))
    (subst (λ cs. AreTogether (map rids_of cs) all) (only w area s d part it.contents of_world is it.read) it.together)
    (are_together w area s d part of_world is)
    ∙ ap (list_of (order_of d.cvd.versions)) (sym (held_pieces d.parts part.id))

-- ---- the partition of a version

or_left : (a b : Bool) → a ≡ true → (a || b) ≡ true
or_left true b e = refl
or_left false b e = cc

served_in : (area : List ℕ) (all : List Rec) (vid : ℕ) (ps : List (PartNumbers Extent)) (qs : List Part) → AreParts area all ps qs → 1 ≤ part_times qs vid
    → list_any (serves vid) ps ≡ true
served_in area all vid [] [] same some = absurd (omega (arith, some))
served_in area all vid [] (q ∷ qs) same some = cc
served_in area all vid (p ∷ ps) [] same some = cc
served_in area all vid (p ∷ ps) (q ∷ qs) same some =
    let first : has p.versions vid ≡ has q.versions vid = ap (λ x. has x.versions vid) (heads _ _ _ _ same)
    in elim (cases_Bool (has q.versions vid)) [
      | inl there ↦ or_left (has p.versions vid) (list_any (serves vid) ps) (first ∙ there)
      | inr none ↦ or_right (has p.versions vid) (list_any (serves vid) ps) (served_in area all vid ps qs (tails _ _ _ _ same) (omega (arith, some, not_listed q.versions vid none)))
    ]

pub served : (w : World) (area : List ℕ) (s : Numbers) (d : Dataset) (vid : ℕ) → IsSetOf w d area s → IsThere s vid → is_served s vid ≡ true
served w area s d vid of_world there =
    let last : vid ≤ length d.cvd.versions = omega (arith, there.1, (numbers w area s d of_world).versions)
    in served_in area (order_of d.cvd.versions) vid s.parts d.parts (ap (λ x. x.parts) of_world.shows)
    (omega (arith, (facts w area s d of_world).placed.each vid there.0 last))
