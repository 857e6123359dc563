-- The rows of versions, with so many partitions passed.
use Rattle.std.proofs.Common.{◌≡◌, ◌<◌, ◌≤◌, ◌+◌, ◌*◌, ℕ, zero, suc, Bool, true, false, Option, Some, List, [], ◌∷◌, ◌++◌, length, map, take, get_or, refl, sym, ◌∙◌, ap, subst, inl, inr, arith}
use Rattle.std.specs.Prelude.{cond, ◌||◌, find, is_some, slice_get}
use Rattle.std.specs.List.{AllZip, Contains, list_any, sum_by}
use Rattle.std.proofs.lemmas.List.{length-map, get_or-map}
use Rattle.std.proofs.lemmas.List.Elements.{All-nil, Contains-get_or}
use Rattle.std.proofs.lemmas.List.Folds.{list_any-append}
use Rattle.std.proofs.lemmas.List.Sums.{sum_by_push, sum_by-cons, sum_by_more_le, sum_by-take-le}
use Rattle.ov_host.specs.declared.area.Extent.{Extent}
use Rattle.ov_host.specs.Extent.{pages_of}
use Rattle.ov_host.specs.Host.{State}
use Rattle.ov_layout.specs.declared.part.Part.{Part}
use Rattle.ov_layout.specs.Parts.{is_placed, part_with, serves as serves_in, times_placed}
use Rattle.ov_layout.proofs.PlacedLemmas.{times-cons, placed-somewhere, once-rest}
use Rattle.ov_member.specs.Rids.{has}
use Rattle.ov_value.specs.Rows.{Fits}
use Rattle.ov_value.specs.Shapes.{Shape}
use Rattle.ov_segment.specs.declared.numbered.Record.{Record}
use Rattle.ov_catalog.specs.declared.cvd.Cvd.{Cvd}
use Rattle.ov_catalog.specs.Numbers.{PartNumbers}
use Rattle.ov_catalog.specs.Sets.{part_in, set_in}
use Rattle.ov_fetch.specs.declared.errors.FetchErr.{FetchErr}
use Rattle.ov_fetch.specs.declared.errors.FetchErr.TheVariants.{Host, Memory, Damaged}
use Rattle.ov_fetch.specs.Extents.{IsList, Looked, page_bytes}
use Rattle.ov_fetch.specs.Rows.{AreSegments, IsDamage, RefusesRows}
use Rattle.ov_fetch.specs.Scans.{AllFit}
use Rattle.ov_fetch.proofs.Lacking.{get_below}
use Rattle.ov_fetch.proofs.Looks.{looked_at_all, looked_again, same_pages}
use Rattle.ov_read.specs.declared.gathering.Gathered.{Gathered}
use Rattle.ov_read.specs.Agreement.{is_served, list_of, segments_in, segments_of, serves}
use Rattle.ov_read.specs.Damages.{RefusesScan}
use Rattle.ov_read.specs.Found.{AreFirst, IsPicked}
use Rattle.ov_read.specs.Gathered.{AreGathered}
use Rattle.ov_read.specs.Gathering.{IsAdded, IsGroup, IsRowsOf, bytes_if, numbers_at, sets_at}
use Rattle.ov_read.specs.Sizes.{pages_in, segment_bytes_for, serves_one}
use Rattle.ov_read.proofs.Gatherings.{zip_at}
use Rattle.ov_read.proofs.Listing.{bytes_below}

abbrev pub part_pages : List ℕ → Part → ℕ
part_pages vids part = cond (serves_one vids (part_in part)) (pages_in part.segments) 0

pub record HasParts (before now : State) (d : Cvd) (vids : List ℕ) (lists : List (List ℕ)) (parts : List Part) (found : Gathered) : Type 0 where
  pub looked : Looked before now
  pub fetched : now.fetched ≤ before.fetched + 4096 * sum_by (part_pages vids) parts
  pub count : length found.picks.items ≡ length vids
  pub fit : AllFit d.schema found.records.records
  pub each : (place : ℕ) → place < length vids → is_placed parts (get_or vids place 0) ≡ true
      → IsRowsOf d.schema before (segments_of (set_in d) (get_or vids place 0)) found.records.records (get_or lists place []) (get_or found.picks.items place [])

pub starts : (at : State) (d : Cvd) (vids : List ℕ) (lists : List (List ℕ)) (found : Gathered) → found.records.records ≡ [] → length found.picks.items ≡ length vids → HasParts at at d vids lists [] found
starts at d vids lists found none count = record {
  looked = looked_at_all at;
  fetched = omega arith;
  count = count;
  fit = subst (AllFit d.schema) (sym none) (All-nil (Fits d.schema));
  each = λ place low served. cc;
}

-- ---- the partition of a version

times_at : (vid : ℕ) (part : Part) (parts : List Part) → times_placed vid (part ∷ parts) ≡ cond (serves_in vid part) 1 0 + times_placed vid parts
times_at vid part parts = times-cons vid part parts

clash : (b : Bool) → b ≡ false → b ≡ true → ⊥
clash true f t = cc
clash false f t = cc

own : (vid : ℕ) (parts : List Part) (k : ℕ) (part : Part) → k < length parts → part ≡ get_or parts k part → has part.versions vid ≡ true → times_placed vid parts ≤ 1
    → segments_in (find (serves vid) (map part_in parts)) ≡ part.segments
own vid [] k part low is member once = absurd (omega (arith, low))
own vid (p ∷ parts) k part low is member once =
    by (has p.versions vid) refl k low is (λ n less same. own vid parts n part less same member (once-rest vid p parts once))
  where
    by : (b : Bool) → has p.versions vid ≡ b → (n : ℕ) → n < length (p ∷ parts) → part ≡ get_or (p ∷ parts) n part
        → ((m : ℕ) → m < length parts → part ≡ get_or parts m part → segments_in (find (serves vid) (map part_in parts)) ≡ part.segments)
        → segments_in (cond b (Some (part_in p)) (find (serves vid) (map part_in parts))) ≡ part.segments
    by true here zero less same later = ap (λ (x : Part). x.segments) (sym same)
    by true here (suc n) less same later =
        absurd (placed-somewhere vid parts n part (omega (arith, less)) (ap (λ (x : Part). has x.versions vid) (sym same) ∙ member)
        (omega (arith, once, times-cons vid p parts, one_here here)))
      where
        one_here : has p.versions vid ≡ true → ◌≡◌ {A = ℕ} (cond (serves_in vid p) 1 0) 1
        one_here e = rw e refl
    by false here zero less same later = absurd (clash (has part.versions vid) (ap (λ (x : Part). has x.versions vid) same ∙ here) member)
    by false here (suc n) less same later = later n (omega (arith, less)) same

pub own_segments : (d : Cvd) (vid : ℕ) (k : ℕ) (part : Part) → k < length d.layout.parts → part ≡ get_or d.layout.parts k part → has part.versions vid ≡ true → times_placed vid d.layout.parts ≤ 1
    → segments_of (set_in d) vid ≡ part.segments
own_segments d vid k part low is member once = own vid d.layout.parts k part low is member once

-- ---- one partition more

pub rows_now : (schema : Shape) (s0 s1 : State) (old new : List Extent) (records : List Record) (rids pick : List ℕ) → Looked s0 s1 → new ≡ old → IsRowsOf schema s1 old records rids pick → IsRowsOf schema s0 new records rids pick
rows_now schema s0 s1 old new records rids pick looked same h = record {
  set = h.set;
  found = h.found;
  picked = h.picked;
  told = λ told. subst (λ es. AreFirst schema (page_bytes s0) es h.found) (sym same)
      (subst (λ (a : List ℕ). AreFirst schema a old h.found) (same_pages s0 s1 looked told) (h.told (looked.told ∙ told)));
}

rows_kept : (schema : Shape) (s : State) (segments : List Extent) (old new : List Record) (rids before now : List ℕ) → ((found : List Record) → IsPicked schema old rids before found → IsPicked schema new rids now found)
    → IsRowsOf schema s segments old rids before → IsRowsOf schema s segments new rids now
rows_kept schema s segments old new rids before now keeps h = record { set = h.set; found = h.found; picked = keeps h.found h.picked; told = h.told }

serves_some : (vids versions group : List ℕ) (part : Part) → IsGroup vids part.versions group → 0 < length group → serves_one vids (part_in part) ≡ true
serves_some vids versions group part is some =
    let one = is.only 0 0 some in any vids (get_or group 0 0) one.0 one.1
  where
    any : (vs : List ℕ) (k : ℕ) → k < length vs → has part.versions (get_or vs k 0) ≡ true → list_any (λ vid. has part.versions vid) vs ≡ true
    any [] k low member = absurd (omega (arith, low))
    any (v ∷ vs) zero low member = rw member refl
    any (v ∷ vs) (suc k) low member = or_true (has part.versions v) (any vs k (omega (arith, low)) member)
      where
        or_true : (b : Bool) → list_any (λ vid. has part.versions vid) vs ≡ true → (b || list_any (λ vid. has part.versions vid) vs) ≡ true
        or_true true e = refl
        or_true false e = e

bytes_pages : (segments : List Extent) → sum_by (λ e. e.bytes) segments ≤ 4096 * pages_in segments
bytes_pages [] = omega arith
bytes_pages (e ∷ segments) =
    omega (arith, bytes_pages segments, bytes_below e.bytes, sum_by-cons (λ (x : Extent). x.bytes) e segments, sum_by-cons pages_of e segments)

group_bytes : (vids group : List ℕ) (part : Part) → IsGroup vids part.versions group → bytes_if group part.segments ≤ 4096 * part_pages vids part
group_bytes vids [] part is = omega arith
group_bytes vids (place ∷ group) part is = rw (serves_some vids part.versions (place ∷ group) part is (omega arith)) (bytes_pages part.segments)

pub goes_on : (s0 s1 s2 : State) (d : Cvd) (vids : List ℕ) (lists : List (List ℕ)) (parts : List Part) (k : ℕ) (part : Part) (group : List ℕ) (old new : Gathered) → k < length d.layout.parts
    → part ≡ get_or d.layout.parts k part → ((vid : ℕ) → times_placed vid d.layout.parts ≤ 1) → IsGroup vids part.versions group → HasParts s0 s1 d vids lists parts old → Looked s1 s2
    → s2.fetched ≤ s1.fetched + bytes_if group part.segments → IsAdded d.schema s1 part vids lists old new → HasParts s0 s2 d vids lists (parts ++ part ∷ []) new
goes_on s0 s1 s2 d vids lists parts k part group old new low is once grouped h looked fetched added = record {
  looked = looked_again s0 s1 s2 h.looked looked;
  fetched = omega (arith, h.fetched, fetched, group_bytes vids group part grouped, sum_by_push (part_pages vids) parts part);
  count = added.count ∙ h.count;
  fit = added.fit h.fit;
  each = λ place below served. by place below (has part.versions (get_or vids place 0)) refl
      (sym (list_any-append (serves_in (get_or vids place 0)) parts (part ∷ [])) ∙ served);
}
  where
    or_no : (a : Bool) → (a || (false || false)) ≡ true → a ≡ true
    or_no true e = refl
    or_no false e = e

    by : (place : ℕ) → place < length vids → (b : Bool) → has part.versions (get_or vids place 0) ≡ b
        → (is_placed parts (get_or vids place 0) || (has part.versions (get_or vids place 0) || false)) ≡ true
        → IsRowsOf d.schema s0 (segments_of (set_in d) (get_or vids place 0)) new.records.records (get_or lists place []) (get_or new.picks.items place [])
    by place below true member served =
        rows_now d.schema s0 s1 part.segments (segments_of (set_in d) (get_or vids place 0)) new.records.records (get_or lists place []) (get_or new.picks.items place []) h.looked
        (own_segments d (get_or vids place 0) k part low is member (once (get_or vids place 0))) (added.served place below member)
    by place below false other served =
        rows_kept d.schema s0 (segments_of (set_in d) (get_or vids place 0)) old.records.records new.records.records (get_or lists place []) (get_or old.picks.items place []) (get_or new.picks.items place [])
        (λ found picked. added.others place below other (get_or lists place []) found picked)
        (h.each place below (or_no (is_placed parts (get_or vids place 0)) (sym (ap (λ b. is_placed parts (get_or vids place 0) || (b || false)) other) ∙ served)))

-- ---- all partitions

sum_parts : (vids : List ℕ) (parts : List Part) → sum_by (part_pages vids) parts ≡ sum_by (λ (p : PartNumbers Extent). cond (serves_one vids p) (pages_in p.segments) 0) (map part_in parts)
sum_parts vids [] = refl
sum_parts vids (p ∷ parts) =
    sum_by-cons (part_pages vids) p parts
    ∙ (ap (λ n. part_pages vids p + n) (sum_parts vids parts) ∙ sym (sum_by-cons (λ (q : PartNumbers Extent). cond (serves_one vids q) (pages_in q.segments) 0) (part_in p) (map part_in parts)))

any_parts : (vid : ℕ) (parts : List Part) → list_any (serves vid) (map part_in parts) ≡ is_placed parts vid
any_parts vid [] = refl
any_parts vid (p ∷ parts) = ap (λ b. has p.versions vid || b) (any_parts vid parts)

pub all_fetched : (d : Cvd) (vids : List ℕ) (before now : ℕ) → now ≤ before + 4096 * sum_by (part_pages vids) d.layout.parts → now ≤ before + segment_bytes_for (set_in d) vids
all_fetched d vids before now h = omega (arith, h, sum_parts vids d.layout.parts)

pub ends : (s0 s1 : State) (d : Cvd) (vids : List ℕ) (lists : List (List ℕ)) (found : Gathered) → HasParts s0 s1 d vids lists d.layout.parts found → AreGathered s0 (set_in d) vids lists found
ends s0 s1 d vids lists found h = record {
  count = h.count;
  fit = h.fit;
  each = λ place low served. h.each place low (sym (any_parts (get_or vids place 0) d.layout.parts) ∙ served);
}

-- what was fetched for some of the partitions is no more than for all
pub some_fetched : (d : Cvd) (vids group : List ℕ) (k before now more : ℕ) (part : Part) → k < length d.layout.parts → part ≡ get_or d.layout.parts k part → IsGroup vids part.versions group
    → now ≤ before + 4096 * sum_by (part_pages vids) (take k d.layout.parts) → more ≤ now + bytes_if group part.segments → more ≤ before + segment_bytes_for (set_in d) vids
some_fetched d vids group k before now more part low is grouped h one =
    all_fetched d vids before more (omega (arith, h, one, group_bytes vids group part grouped, ap (part_pages vids) is, sum_by_more_le (part_pages vids) d.layout.parts k part low))

pub kept_fetched : (d : Cvd) (vids : List ℕ) (k before now : ℕ) → now ≤ before + 4096 * sum_by (part_pages vids) (take k d.layout.parts) → now ≤ before + segment_bytes_for (set_in d) vids
kept_fetched d vids k before now h = all_fetched d vids before now (omega (arith, h, sum_by-take-le (part_pages vids) d.layout.parts k))

-- ---- a partition that refuses

get_is : {X : Type 0} (xs : List X) (k : ℕ) (x d : X) → slice_get xs k ≡ Some x → get_or xs k d ≡ x
get_is [] k x d e = cc
get_is (y ∷ ys) zero x d e = cc
get_is (y ∷ ys) (suc k) x d e = get_is ys k x d e

among : (vids : List ℕ) (place : ℕ) → place < length vids → Contains vids (get_or vids place 0)
among vids place low = Contains-get_or vids place 0 low

pub stops : (s0 s1 : State) (d : Cvd) (vids : List ℕ) (lists : List (List ℕ)) (k : ℕ) (part : Part) (group : List ℕ) (e : FetchErr) → k < length d.layout.parts → part ≡ get_or d.layout.parts k part
    → ((vid : ℕ) → times_placed vid d.layout.parts ≤ 1) → IsGroup vids part.versions group → Looked s0 s1 → AllZip (λ vid. IsList (page_bytes s0) (list_of (set_in d) vid)) vids lists → s0.tells ≡ true
    → (0 < length group) × RefusesRows e d.schema (page_bytes s1) part.segments (map (list_of (set_in d)) (numbers_at vids group)) (sets_at lists group) → RefusesScan e (page_bytes s0) (set_in d) vids
stops s0 s1 d vids lists k part group Host low is once grouped looked lists_are told why = tt
stops s0 s1 d vids lists k part group Memory low is once grouped looked lists_are told why = tt
stops s0 s1 d vids lists k part group (Damaged page) low is once grouped looked lists_are told why =
    elim damage [
      | inl off ↦
          let one = grouped.only 0 0 why.0 in
          inr (inl (record {
            vid = get_or vids (get_or group 0 0) 0;
            among = among vids (get_or group 0 0) one.0;
            bad = record {
              segment = off.segment;
              among = subst (λ es. Contains es off.segment) (sym (segments (get_or group 0 0) one.1)) off.among;
              off = off.off;
              page_is = off.page_is;
            };
          }))
      | inr lacks ↦
          let below : lacks.place < length group = rw (length-map group (λ (p : ℕ). get_or lists p [])) at (get_below (sets_at lists group) lacks.place lacks.rids lacks.rids_there) in
          let place = get_or group lacks.place 0 in
          let one = grouped.only lacks.place 0 below in
          let rids_are : get_or lists place [] ≡ lacks.rids = sym (get_or-map (λ (p : ℕ). get_or lists p []) group lacks.place 0 [] below) ∙ get_is (sets_at lists group) lacks.place lacks.rids [] lacks.rids_there in
          let list_is : list_of (set_in d) (get_or vids place 0) ≡ lacks.list =
          sym (get_or-map (λ (p : ℕ). list_of (set_in d) (get_or vids p 0)) group lacks.place 0 lacks.list below)
          ∙ get_is (map (λ (p : ℕ). list_of (set_in d) (get_or vids p 0)) group) lacks.place lacks.list lacks.list (sym (ap (λ l. slice_get l lacks.place) (twice group)) ∙ lacks.list_there) in
          inr (inr (record {
            vid = get_or vids place 0;
            among = among vids place one.0;
            rids = lacks.rids;
            list = subst (IsList (page_bytes s0) (list_of (set_in d) (get_or vids place 0))) rids_are
                (zip_at (λ vid. IsList (page_bytes s0) (list_of (set_in d) vid)) vids lists place 0 [] lists_are one.0);
            contents = lacks.contents;
            read = subst (λ es. AreSegments d.schema (page_bytes s0) es lacks.contents) (sym (segments place one.1)) lacks.read;
            rid = lacks.rid;
            member = lacks.member;
            lacking = lacks.lacking;
            page_is = lacks.page_is ∙ sym (ap (λ (e : Extent). e.page) list_is);
          }))
    ]
  where
    damage : IsDamage d.schema (page_bytes s0) part.segments (map (list_of (set_in d)) (numbers_at vids group)) (sets_at lists group) page
    damage = subst (λ (a : List ℕ). IsDamage d.schema a part.segments (map (list_of (set_in d)) (numbers_at vids group)) (sets_at lists group) page) (same_pages s0 s1 looked told) why.1

    segments : (place : ℕ) → has part.versions (get_or vids place 0) ≡ true → segments_of (set_in d) (get_or vids place 0) ≡ part.segments
    segments place member = own_segments d (get_or vids place 0) k part low is member (once (get_or vids place 0))

    twice : (ps : List ℕ) → map (list_of (set_in d)) (numbers_at vids ps) ≡ map (λ (p : ℕ). list_of (set_in d) (get_or vids p 0)) ps
    twice [] = refl
    twice (p ∷ ps) = ap (λ l. list_of (set_in d) (get_or vids p 0) ∷ l) (twice ps)

-- ---- whether a version is placed

found_some : (vid : ℕ) (parts : List Part) → is_some (part_with vid parts) ≡ is_placed parts vid
found_some vid [] = refl
found_some vid (p ∷ parts) = by (has p.versions vid) (found_some vid parts)
  where
    by : (b : Bool) → is_some (part_with vid parts) ≡ is_placed parts vid → is_some (cond b (Some p) (part_with vid parts)) ≡ (b || is_placed parts vid)
    by true e = refl
    by false e = e

pub served_is : (d : Cvd) (vid : ℕ) (found : Option Part) → found ≡ part_with vid d.layout.parts → is_some found ≡ is_served (set_in d) vid
served_is d vid found is = ap is_some is ∙ (found_some vid d.layout.parts ∙ sym (any_parts vid d.layout.parts))
