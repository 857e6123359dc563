-- The partition that serves a version has its records, and so nothing is damaged.
use Rattle.std.proofs.Common.{◌≡◌, ◌<◌, ◌==◌, ℕ, zero, suc, Bool, true, false, cond, List, [], ◌∷◌, ◌++◌, length, map, refl, sym, ◌∙◌, ap, subst, inl, inr, arith}
use Rattle.std.specs.Prelude.{◌⊎◌, ◌||◌, slice_index_or, Some, None}
use Rattle.std.specs.List.{All, find, list_any}
use Rattle.std.proofs.lemmas.Bool.{eqb-true, eq-eqb}
use Rattle.std.proofs.lemmas.List.Elements.{All-contains}
use Rattle.ov_host.specs.declared.area.Extent.{Extent}
use Rattle.ov_value.specs.Shapes.{Shape}
use Rattle.ov_segment.specs.declared.numbered.Record.{Record}
use Rattle.ov_member.specs.Rids.{has}
use Rattle.ov_fetch.specs.declared.errors.FetchErr.{FetchErr}
use Rattle.ov_fetch.specs.declared.errors.FetchErr.TheVariants.{Host, Memory, Damaged}
use Rattle.ov_fetch.specs.Extents.{IsSegment, rids_of}
use Rattle.ov_fetch.specs.Rows.{AreSegments, HasNoSegment, record_of}
use Rattle.law_events.proofs.Counts.{are_at}
use Rattle.ov_model.specs.Holding.{VersionsAreIn}
use Rattle.ov_model.specs.Lists.{IsIn, AreIn, joined}
use Rattle.ov_model.specs.Plans.{pieces_of}
use Rattle.ov_model.specs.Records.{Rec, recs, of_version, order_of, rid_in}
use Rattle.ov_model.specs.World.{Dataset, World}
use Rattle.ov_catalog.specs.Numbers.{PartNumbers}
use Rattle.ov_catalog.proofs.Members.{left_in, right_in, of_append, in_map, of_map, in_sorted, of_sorted}
use Rattle.ov_read.specs.Agreement.{Numbers, IsThere, PartAgrees, serves, segments_in, segments_of}
use Rattle.ov_read.specs.Damages.{LacksMember, IsDamage, RefusesScan, PartDisagrees, RefusesPart}
use Rattle.ov_read.specs.OfWorld.{IsSetOf, IsSpared, rids_in}
use Rattle.law_reads.specs.Sights.{record_in, records_in}
use Rattle.law_reads.proofs.Founds.{some_is}
use Rattle.law_reads.proofs.Listed as listed
use Rattle.law_reads.proofs.Parted.{Read, reads, only, agrees, served}
use Rattle.law_reads.proofs.Stored.{segments_once}
use Rattle.law_reads.proofs.Together.{has_in}

-- ---- the partition of a version

abbrev IsServing : List (PartNumbers Extent) → ℕ → PartNumbers Extent → Type 0
IsServing ps vid part = (find (serves vid) ps ≡ Some part) × IsIn ps part × (has part.versions vid ≡ true)

serving : (vid : ℕ) (ps : List (PartNumbers Extent)) → list_any (serves vid) ps ≡ true → (part : PartNumbers Extent) × IsServing ps vid part
serving vid [] e = cc
serving vid (p ∷ ps) e = by (has p.versions vid) refl e (λ later. serving vid ps later)
  where
    by : (b : Bool) → has p.versions vid ≡ b → (b || list_any (serves vid) ps) ≡ true → (list_any (serves vid) ps ≡ true → (part : PartNumbers Extent) × IsServing ps vid part)
        → (part : PartNumbers Extent) × IsServing (p ∷ ps) vid part
    by true is e rest = (p, (ap (λ (t : Bool). cond t (Some p) (find (serves vid) ps)) is, inl refl, is))
    by false is e rest =
        let it = rest e
        in (it.0, (ap (λ (t : Bool). cond t (Some p) (find (serves vid) ps)) is ∙ it.1.0, inr it.1.1, it.1.2))

are_in : (done : List (List Rec)) (vids : List ℕ) (vid : ℕ) (all : List Rec) → VersionsAreIn done vids all → has vids vid ≡ true → AreIn (of_version done vid) all
are_in done [] vid all are there = cc
are_in done (v ∷ vids) vid all are there = by (v == vid) (λ e. eqb-true v vid e) there (are_in done vids vid all are.1)
  where
    by : (b : Bool) → (b ≡ true → v ≡ vid) → (b || has vids vid) ≡ true → (has vids vid ≡ true → AreIn (of_version done vid) all) → AreIn (of_version done vid) all
    by true is e rest = subst (λ k. AreIn (of_version done k) all) (is refl) are.0.1
    by false is e rest = rest e

-- the segments that serve a version, the pieces that they have, and the version's records among these
pub record Serves (area : List ℕ) (s : Numbers) (d : Dataset) (vid : ℕ) : Type 0 where
  pub pieces : List (List Rec)
  pub read : AreSegments s.schema area (segments_of s vid) (map (records_in (order_of d.cvd.versions)) pieces)
  pub known : (r : Rec) → IsIn (joined pieces) r → IsIn (order_of d.cvd.versions) r
  pub are : (r : Rec) → IsIn (of_version (recs d.cvd.versions []) vid) r → IsIn (joined pieces) r

pub serving_at : (w : World) (area : List ℕ) (s : Numbers) (d : Dataset) (vid : ℕ) → IsSetOf w d area s → IsThere s vid → Serves area s d vid
serving_at w area s d vid of_world there =
    let it = serving vid s.parts (served w area s d vid of_world there)
    in let part : PartNumbers Extent = it.0
    in let has_it : Read area s d part (pieces_of d.parts part.id) = reads w area s d part of_world it.1.1
    in let segments : segments_of s vid ≡ part.segments = ap segments_in it.1.0
    in record {
      pieces = pieces_of d.parts part.id;
      read = subst (λ es. AreSegments s.schema area es (map (records_in (order_of d.cvd.versions)) (pieces_of d.parts part.id))) (sym segments) has_it.read;
      known = has_it.known;
      are = λ r is. are_at (of_version (recs d.cvd.versions []) vid) (joined (pieces_of d.parts part.id)) r
          (are_in (recs d.cvd.versions []) part.versions vid (joined (pieces_of d.parts part.id)) has_it.hold it.1.2) is;
    }

-- ---- records among those of segments

pub to_contents : (all : List Rec) (pieces : List (List Rec)) (r : Rec) → IsIn (joined pieces) r → IsIn (joined (map (records_in all) pieces)) (record_in all r)
to_contents all [] r is = absurd is
to_contents all (piece ∷ pieces) r is =
    elim (of_append piece (joined pieces) r is) [
      | inl here ↦ left_in (records_in all piece) (joined (map (records_in all) pieces)) (record_in all r)
          (in_sorted (λ x. x.rid) (map (record_in all) piece) (record_in all r) (in_map (record_in all) piece r here))
      | inr later ↦ right_in (records_in all piece) (joined (map (records_in all) pieces)) (record_in all r) (to_contents all pieces r later)
    ]

pub from_contents : (all : List Rec) (pieces : List (List Rec)) (x : Record) → IsIn (joined (map (records_in all) pieces)) x
    → (r : Rec) × (IsIn (joined pieces) r × (x ≡ record_in all r))
from_contents all [] x is = absurd is
from_contents all (piece ∷ pieces) x is = by (of_append (records_in all piece) (joined (map (records_in all) pieces)) x is) (λ later. from_contents all pieces x later)
  where
    by : IsIn (records_in all piece) x ⊎ IsIn (joined (map (records_in all) pieces)) x
        → (IsIn (joined (map (records_in all) pieces)) x → (r : Rec) × (IsIn (joined pieces) r × (x ≡ record_in all r)))
        → (r : Rec) × (IsIn (piece ++ joined pieces) r × (x ≡ record_in all r))
    by (inl here) rest =
        let of = of_map (record_in all) piece x (of_sorted (λ y. y.rid) (map (record_in all) piece) x here)
        in (of.0, (left_in piece (joined pieces) of.0 of.1.0, of.1.1))
    by (inr later) rest =
        let it = rest later
        in (it.0, (right_in piece (joined pieces) it.0 it.1.0, it.1.1))

pub record_there : (rs : List Record) (rid : ℕ) (r : Record) → record_of rs rid ≡ Some r → IsIn rs r
record_there [] rid r e = cc
record_there (x ∷ rs) rid r e = by (x.rid == rid) e (λ later. record_there rs rid r later)
  where
    by : (b : Bool) → cond b (Some x) (record_of rs rid) ≡ Some r → (record_of rs rid ≡ Some r → IsIn rs r) → IsIn (x ∷ rs) r
    by true here rest = inl (sym (some_is x r here))
    by false later rest = inr (rest later)

none_lacks : (rs : List Record) (r : Record) → IsIn rs r → record_of rs r.rid ≡ None → ⊥
none_lacks [] r is none = is
none_lacks (x ∷ rs) r is none = by (x.rid == r.rid) is (λ same. eq-eqb x.rid r.rid same) none (λ later. none_lacks rs r later)
  where
    by : (b : Bool) → IsIn (x ∷ rs) r → (x.rid ≡ r.rid → b ≡ true) → cond b (Some x) (record_of rs r.rid) ≡ None → (IsIn rs r → record_of rs r.rid ≡ None → ⊥) → ⊥
    by true here test e rest = cc
    by false (inl same) test e rest = let yes : false ≡ true = test (ap (λ y. y.rid) (sym same)) in cc
    by false (inr later) test e rest = rest later e

-- ---- nothing is damaged

segment_at : (schema : Shape) (area : List ℕ) (es : List Extent) (cs : List (List Record)) (k : ℕ) (e : Extent) → AreSegments schema area es cs → k < length es
    → slice_index_or es k e ≡ e → (rs : List Record) × IsSegment schema area e rs
segment_at schema area [] cs k e are low at = absurd (omega (arith, low))
segment_at schema area (x ∷ es) [] k e are low at = absurd are
segment_at schema area (x ∷ es) (c ∷ cs) zero e are low at = (c, subst (λ y. IsSegment schema area y c) at are.0)
segment_at schema area (x ∷ es) (c ∷ cs) (suc k) e are low at = segment_at schema area es cs k e are.1 (omega (arith, low)) at

pub segments_stand : (schema : Shape) (area : List ℕ) (es : List Extent) (cs : List (List Record)) (page : ℕ) → AreSegments schema area es cs → HasNoSegment schema area es page → ⊥
segments_stand schema area es cs page are bad =
    let it = segment_at schema area es cs bad.among.0 bad.segment are bad.among.1 bad.among.2
    in elim bad.off [
      | inl short ↦ omega (arith, short, it.1.whole)
      | inr none ↦ none it.0 it.1.are it.1.spelled
    ]

member_there : (w : World) (area : List ℕ) (s : Numbers) (d : Dataset) (vids : List ℕ) (page : ℕ) → IsSetOf w d area s → All (IsThere s) vids → LacksMember area s vids page → ⊥
member_there w area s d vids page of_world there lacks =
    let all : List Rec = order_of d.cvd.versions
    in let rs : List Rec = of_version (recs d.cvd.versions []) lacks.vid
    in let here : IsThere s lacks.vid = All-contains (IsThere s) vids lacks.vid there lacks.among
    in let at : Serves area s d lacks.vid = serving_at w area s d lacks.vid of_world here
    in let list : lacks.rids ≡ rids_in d lacks.vid = listed.only w area s d lacks.vid lacks.rids of_world here lacks.list
    in let same : lacks.contents ≡ map (records_in all) at.pieces = segments_once s.schema area (segments_of s lacks.vid) lacks.contents (map (records_in all) at.pieces) lacks.read at.read
    in let of = of_map (rid_in all) rs lacks.rid (of_sorted (λ n. n) (map (rid_in all) rs) lacks.rid (has_in (rids_in d lacks.vid) lacks.rid (ap (λ l. has l lacks.rid) (sym list) ∙ lacks.member)))
    in none_lacks (joined (map (records_in all) at.pieces)) (record_in all of.0) (to_contents all at.pieces of.0 (at.are of.0 of.1.0))
    (ap (record_of (joined (map (records_in all) at.pieces))) (sym of.1.1) ∙ ap (λ cs. record_of (joined cs) lacks.rid) (sym same) ∙ lacks.lacking)

pub no_damage : (w : World) (area : List ℕ) (s : Numbers) (d : Dataset) (vids : List ℕ) (page : ℕ) → IsSetOf w d area s → All (IsThere s) vids → IsDamage area s vids page → ⊥
no_damage w area s d vids page of_world there (inl bad) = listed.not_bad w area s d bad.vid of_world (All-contains (IsThere s) vids bad.vid there bad.among) bad.bad
no_damage w area s d vids page of_world there (inr (inl bad)) =
    let at : Serves area s d bad.vid = serving_at w area s d bad.vid of_world (All-contains (IsThere s) vids bad.vid there bad.among)
    in segments_stand s.schema area (segments_of s bad.vid) (map (records_in (order_of d.cvd.versions)) at.pieces) page at.read bad.bad
no_damage w area s d vids page of_world there (inr (inr lacks)) = member_there w area s d vids page of_world there lacks

pub scan_spared : (w : World) (area : List ℕ) (s : Numbers) (d : Dataset) (vids : List ℕ) (e : FetchErr) → IsSetOf w d area s → All (IsThere s) vids → RefusesScan e area s vids → IsSpared e
scan_spared w area s d vids Host of_world there why = tt
scan_spared w area s d vids Memory of_world there why = tt
scan_spared w area s d vids (Damaged page) of_world there why = no_damage w area s d vids page of_world there why

pub no_part_damage : (w : World) (area : List ℕ) (s : Numbers) (d : Dataset) (part : PartNumbers Extent) → IsSetOf w d area s → IsIn s.parts part
    → PartDisagrees s.schema area part.segments part.records s.records → ⊥
no_part_damage w area s d part of_world is bad =
    bad.off (subst (λ cs. PartAgrees part.records s.records (map rids_of cs)) (sym (only w area s d part bad.contents of_world is bad.read)) (agrees w area s d part of_world is))

pub part_spared : (w : World) (area : List ℕ) (s : Numbers) (d : Dataset) (part : PartNumbers Extent) (e : FetchErr) → IsSetOf w d area s → IsIn s.parts part
    → RefusesPart e s.schema area part.segments part.records s.records → IsSpared e
part_spared w area s d part Host of_world is why = tt
part_spared w area s d part Memory of_world is why = tt
part_spared w area s d part (Damaged page) of_world is bad = no_part_damage w area s d part of_world is bad.1
