-- The records of partitions, one partition more.
use Rattle.std.proofs.Common.{◌≡◌, ◌<◌, ◌≤◌, ◌+◌, ◌*◌, ℕ, zero, suc, Bool, true, false, ◌||◌, cond, List, [], ◌∷◌, ◌++◌, length, map, take, get_or, refl, sym, ◌∙◌, ap, subst, arith}
use Rattle.std.specs.List.{All, AllByRecursion, AllZip, list_any, sum_by}
use Rattle.std.proofs.lemmas.List.{get_or-map, length-map, map-append}
use Rattle.std.proofs.lemmas.List.Elements.{All-append, All-nil}
use Rattle.std.proofs.lemmas.List.Folds.{list_any-append}
use Rattle.std.proofs.lemmas.List.Sums.{sum_by-cons, sum_by-take-le, sum_by_more_le, sum_by_push}
use Rattle.ov_host.specs.declared.area.Extent.{Extent}
use Rattle.ov_host.specs.Extent.{pages_of}
use Rattle.ov_host.specs.Host.{State}
use Rattle.ov_layout.specs.declared.part.Part.{Part}
use Rattle.ov_layout.specs.Parts.{is_placed, serves as serves_in, times_placed}
use Rattle.ov_member.specs.Rids.{AreRids, has}
use Rattle.ov_member.proofs.RidLemmas.{has-head}
use Rattle.ov_segment.specs.declared.numbered.Record.{Record}
use Rattle.ov_segment.specs.Tables.{Content}
use Rattle.ov_catalog.specs.declared.cvd.Cvd.{Cvd}
use Rattle.ov_catalog.specs.Numbers.{PartNumbers}
use Rattle.ov_catalog.specs.Ready.{IsSet}
use Rattle.ov_catalog.specs.Sets.{part_in, set_in, version_in}
use Rattle.ov_model.specs.Placed.{times}
use Rattle.ov_fetch.specs.declared.errors.FetchErr.{FetchErr}
use Rattle.ov_fetch.specs.Extents.{Looked, page_bytes, rids_of}
use Rattle.ov_fetch.specs.Firsts.{IsFetchedFirst, RefusesFirstRows}
use Rattle.ov_fetch.specs.Gathering.{IsRecord}
use Rattle.ov_fetch.specs.Rows.{is_asked}
use Rattle.ov_fetch.proofs.Counted.{ascending}
use Rattle.ov_fetch.proofs.Gathered.{append_all, are_records}
use Rattle.ov_fetch.proofs.Looks.{looked_again, looked_at_all, same_pages}
use Rattle.ov_read.specs.Agreement.{IsThere, Numbers, segments_of}
use Rattle.ov_read.specs.Sizes.{pages_in, segment_bytes_for, serves_one}
use Rattle.ov_read.proofs.Listing.{bytes_below}
use Rattle.ov_read.proofs.Passed.{all_fetched, own_segments, part_pages}
use Rattle.law_reads.proofs.Orders.{all_of}
use Rattle.ov_copies.specs.declared.asking.Asked.{Asked}
use Rattle.ov_copies.specs.Asking.{IsAsked, IsPartOf}
use Rattle.ov_copies.specs.Copies.{AllHave, HasRecords, IsFetchedFew, IsFrom, RefusesCopy}
use Rattle.ov_copies.specs.Gathering.{AreFor, AreGathered, IsAdded, bytes_if}
use Rattle.ov_copies.proofs.Added.{from, has_asked, one_of, refuses, suffices}
use Rattle.ov_copies.proofs.Counting.{times_append, times_set}

-- each rid has one record or is left, and no other has one
pub record AreTaken (area : List ℕ) (s : Numbers) (versions : List ℕ) (lists : List (List ℕ)) (rids left : List ℕ) (records : List Record) : Type 0 where
  pub once : (rid : ℕ) → times (rids_of records) rid + cond (has left rid) 1 0 ≡ cond (has rids rid) 1 0
  pub each : All (IsFrom area s versions lists) records

-- the bytes of so many first segments of a partition
abbrev pub first_bytes : (PartNumbers Extent → ℕ) → Part → ℕ
first_bytes count part = sum_by (λ e. e.bytes) (take (count (part_in part)) part.segments)

-- these partitions were passed
pub record HasPassed (before now : State) (d : Cvd) (versions : List ℕ) (lists : List (List ℕ)) (rids : List ℕ) (parts : List Part) (left : List ℕ) (found : Content) : Type 0 where
  pub looked : Looked before now
  pub fetched : now.fetched ≤ before.fetched + 4096 * sum_by (part_pages versions) parts
  pub few : before.tells ≡ true → (count : PartNumbers Extent → ℕ) → AllHave (page_bytes before) (set_in d) versions lists rids count
      → now.fetched ≤ before.fetched + sum_by (first_bytes count) parts
  pub columns : found.columns ≡ d.schema.columns
  pub are : AllByRecursion (IsRecord d.schema) found.records
  pub set : AreRids left
  pub within : (rid : ℕ) → has left rid ≡ true → has rids rid ≡ true
  pub none_left : (place rid : ℕ) → place < length versions → is_placed parts (get_or versions place 0) ≡ true → has (get_or lists place []) rid ≡ true → has left rid ≡ false
  pub told : before.tells ≡ true → AreTaken (page_bytes before) (set_in d) versions lists rids left found.records

no : false ≡ true → ⊥
no e = cc

pub starts : (at : State) (d : Cvd) (versions : List ℕ) (lists : List (List ℕ)) (rids left : List ℕ) (found : Content) → found.columns ≡ d.schema.columns → found.records ≡ []
    → AreRids left → left ≡ rids → HasPassed at at d versions lists rids [] left found
starts at d versions lists rids left found columns none set same = record {
  looked = looked_at_all at;
  fetched = omega arith;
  few = λ told count all. omega arith;
  columns = columns;
  are = subst (AllByRecursion (IsRecord d.schema)) (sym none) tt;
  set = set;
  within = λ rid is. ap (λ (xs : List ℕ). has xs rid) (sym same) ∙ is;
  none_left = λ place rid low is member. absurd (no is);
  told = λ told. record {
    once = λ rid. ap (λ (rs : List Record). times (rids_of rs) rid + cond (has left rid) 1 0) none ∙ ap (λ (xs : List ℕ). 0 + cond (has xs rid) 1 0) same ∙ plain (cond (has rids rid) 1 0);
    each = subst (All (IsFrom (page_bytes at) (set_in d) versions lists)) (sym none) (All-nil (IsFrom (page_bytes at) (set_in d) versions lists));
  };
}
  where
    plain : (n : ℕ) → 0 + n ≡ n
    plain n = omega arith

-- ---- one more

or_yes : (a b : Bool) → a ≡ true → (a || b) ≡ true
or_yes true b e = refl
or_yes false b e = absurd (no e)

or_right : (a b : Bool) → b ≡ true → (a || b) ≡ true
or_right true b e = refl
or_right false b e = e

-- what is left still was left before, and what is asked for too
left_before : (a b c : Bool) → c ≡ (a || b) → b ≡ true → c ≡ true
left_before a b c split e = split ∙ or_right a b e

asked_before : (a b c : Bool) → c ≡ (a || b) → a ≡ true → c ≡ true
asked_before a b c split e = split ∙ or_yes a b e

counts : (a b : Bool) → (a ≡ true → b ≡ false) → cond (a || b) 1 0 ≡ cond a 1 0 + cond b 1 0
counts true b apart = ap (λ x. 1 + cond x 1 0) (sym (apart refl))
counts false b apart = plain (cond b 1 0)
  where
    plain : (n : ℕ) → n ≡ 0 + n
    plain n = omega arith

still_none : (a b c : Bool) → c ≡ (a || b) → c ≡ false → b ≡ false
still_none a b c split e = by a b (sym split ∙ e)
  where
    by : (x y : Bool) → (x || y) ≡ false → y ≡ false
    by true y f = absurd (no (sym f))
    by false y f = f

-- what is asked of a partition is of a version that it serves
serves_some : (s : Numbers) (versions : List ℕ) (lists : List (List ℕ)) (part : Part) (extents : List Extent) (sets : List (List ℕ)) → 0 < length sets
    → AllZip (IsPartOf s versions lists part.versions) extents sets → serves_one versions (part_in part) ≡ true
serves_some s versions lists part extents [] some each = absurd (omega (arith, some))
serves_some s versions lists part [] (set ∷ sets) some each = absurd each
serves_some s versions lists part (e ∷ extents) (set ∷ sets) some each = any versions each.0.place each.0.there each.0.member
  where
    any : (vs : List ℕ) (k : ℕ) → k < length vs → has part.versions (get_or vs k 0) ≡ true → list_any (λ vid. has part.versions vid) vs ≡ true
    any [] k low member = absurd (omega (arith, low))
    any (v ∷ vs) zero low member = or_yes (has part.versions v) (list_any (λ vid. has part.versions vid) vs) member
    any (v ∷ vs) (suc k) low member = or_right (has part.versions v) (list_any (λ vid. has part.versions vid) vs) (any vs k (omega (arith, low)) member)

bytes_pages : (segments : List Extent) → sum_by (λ e. e.bytes) segments ≤ 4096 * pages_in segments
bytes_pages [] = omega arith
bytes_pages (e ∷ segments) =
    omega (arith, bytes_pages segments, bytes_below e.bytes, sum_by-cons (λ (x : Extent). x.bytes) e segments, sum_by-cons pages_of e segments)

asked_bytes : (s : Numbers) (versions : List ℕ) (lists : List (List ℕ)) (part : Part) (extents : List Extent) (sets : List (List ℕ))
    → AllZip (IsPartOf s versions lists part.versions) extents sets → bytes_if sets part.segments ≤ 4096 * part_pages versions part
asked_bytes s versions lists part extents [] each = omega arith
asked_bytes s versions lists part extents (set ∷ sets) each = rw (serves_some s versions lists part extents (set ∷ sets) (omega arith) each) (bytes_pages part.segments)

parts_bytes : (count : PartNumbers Extent → ℕ) (parts : List Part) → sum_by (first_bytes count) parts ≡ sum_by (λ p. sum_by (λ (e : Extent). e.bytes) (take (count p) p.segments)) (map part_in parts)
parts_bytes count [] = refl
parts_bytes count (part ∷ parts) =
    omega (
      arith,
      parts_bytes count parts,
      sum_by-cons (first_bytes count) part parts,
      sum_by-cons (λ (p : PartNumbers Extent). sum_by (λ (e : Extent). e.bytes) (take (count p) p.segments)) (part_in part) (map part_in parts),
    )

-- what was fetched for the first partitions is no more than for all
pub few_for : (s0 s1 : State) (d : Cvd) (versions : List ℕ) (lists : List (List ℕ)) (rids left : List ℕ) (found : Content) (k : ℕ)
    → HasPassed s0 s1 d versions lists rids (take k d.layout.parts) left found → IsFetchedFew s0 s1 (set_in d) versions lists rids
few_for s0 s1 d versions lists rids left found k h told count all =
    omega (arith, h.few told count all, sum_by-take-le (first_bytes count) d.layout.parts k, parts_bytes count d.layout.parts)

module _ (d : Cvd) (versions : List ℕ) (lists : List (List ℕ)) (rids : List ℕ) (paired : length lists ≡ length versions)
    (k : ℕ) (part : Part) (low : k < length d.layout.parts) (is : part ≡ get_or d.layout.parts k part) (once : (vid : ℕ) → times_placed vid d.layout.parts ≤ 1) where
  own : (vid : ℕ) → has part.versions vid ≡ true → segments_of (set_in d) vid ≡ part.segments
  own vid member = own_segments d vid k part low is member (once vid)

  -- and so it was of the bytes of one more
  few_more : (s0 s1 s2 : State) (parts : List Part) (left after : List ℕ) (asked : Asked) (old : Content)
      → HasPassed s0 s1 d versions lists rids parts left old → IsAsked (set_in d) versions lists part.versions part.versions left after asked
      → IsFetchedFirst d.schema s1 s2 part.segments (is_asked asked.sets.items)
      → s0.tells ≡ true → (count : PartNumbers Extent → ℕ) → AllHave (page_bytes s0) (set_in d) versions lists rids count → s2.fetched ≤ s0.fetched + sum_by (first_bytes count) parts + first_bytes count part
  few_more s0 s1 s2 parts left after asked old h asks first told count all =
      omega (
        arith,
        h.few told count all,
        first (h.looked.told ∙ told) (count (part_in part))
            (suffices (set_in d) versions lists part.versions paired (page_bytes s0) (page_bytes s1) rids (part_in part) (take (count (part_in part)) part.segments) asked.lists.items asked.sets.items refl (same_pages s0 s1 h.looked told)
            asks.each (λ rid yes. h.within rid (asked_before (is_asked asked.sets.items rid) (has after rid) (has left rid) (asks.split rid) yes)) have),
      )
    where
      have : HasRecords (page_bytes s0) (set_in d) versions lists rids (part_in part) (take (count (part_in part)) part.segments)
      have =
          subst (λ (p : PartNumbers Extent). HasRecords (page_bytes s0) (set_in d) versions lists rids p (take (count p) p.segments))
          (get_or-map part_in d.layout.parts k part (part_in part) low ∙ ap part_in (sym is))
          (all k (part_in part) (omega (arith, low, length-map d.layout.parts part_in)))

  -- what was fetched for some of the partitions is no more than for all
  pub few_in_all : (s0 s2 : State) (left after : List ℕ) (asked : Asked) (old : Content) (s1 : State)
      → HasPassed s0 s1 d versions lists rids (take k d.layout.parts) left old → IsAsked (set_in d) versions lists part.versions part.versions left after asked
      → IsFetchedFirst d.schema s1 s2 part.segments (is_asked asked.sets.items) → IsFetchedFew s0 s2 (set_in d) versions lists rids
  few_in_all s0 s2 left after asked old s1 h asks first told count all =
      omega (
        arith,
        few_more s0 s1 s2 (take k d.layout.parts) left after asked old h asks first told count all,
        ap (first_bytes count) is,
        sum_by_more_le (first_bytes count) d.layout.parts k part low,
        parts_bytes count d.layout.parts,
      )

  pub goes_on : (s0 s1 s2 : State) (parts : List Part) (left after : List ℕ) (asked : Asked) (old new : Content)
      → HasPassed s0 s1 d versions lists rids parts left old → IsAsked (set_in d) versions lists part.versions part.versions left after asked → Looked s1 s2 → s2.fetched ≤ s1.fetched + bytes_if asked.sets.items part.segments
      → IsFetchedFirst d.schema s1 s2 part.segments (is_asked asked.sets.items) → new.columns ≡ old.columns
      → IsAdded d.schema s1 part.segments asked.sets.items old.records new.records → HasPassed s0 s2 d versions lists rids (parts ++ part ∷ []) after new
  goes_on s0 s1 s2 parts left after asked old new h asks looked fetched first columns added = record {
    looked = looked_again s0 s1 s2 h.looked looked;
    fetched = omega (arith, h.fetched, fetched, asked_bytes (set_in d) versions lists part asked.lists.items asked.sets.items asks.each, sum_by_push (part_pages versions) parts part);
    few = λ told count all. omega (arith, few_more s0 s1 s2 parts left after asked old h asks first told count all, sum_by_push (first_bytes count) parts part);
    columns = columns ∙ h.columns;
    are = subst (AllByRecursion (IsRecord d.schema)) (sym added.new_is)
        (append_all (IsRecord d.schema) old.records added.more h.are (are_records d.schema 0 added.more added.are));
    set = asks.set;
    within = λ rid more. h.within rid (left_before (is_asked asked.sets.items rid) (has after rid) (has left rid) (asks.split rid) more);
    none_left = λ place rid below placed member.
        by place rid below member (is_placed parts (get_or versions place 0)) refl
        (sym (list_any-append (serves_in (get_or versions place 0)) parts (part ∷ [])) ∙ placed);
    told = λ told. let before = h.told told in record {
      once = λ rid.
          let more : times (rids_of added.more) rid ≡ cond (is_asked asked.sets.items rid) 1 0 =
          times_set (rids_of added.more) rid (ascending d.schema added.more added.are)
          ∙ ap (λ b. cond b 1 0) (has_asked d.schema (page_bytes s1) part.segments asked.sets.items added.more rid (added.told (h.looked.told ∙ told)))
          in let both : times (rids_of new.records) rid ≡ times (rids_of old.records) rid + times (rids_of added.more) rid =
          ap (λ (rs : List Record). times (rids_of rs) rid) added.new_is
          ∙ ap (λ (xs : List ℕ). times xs rid) (map-append (λ (r : Record). r.rid) old.records added.more) ∙ times_append (rids_of old.records) (rids_of added.more) rid
          in let split : cond (has left rid) 1 0 ≡ cond (is_asked asked.sets.items rid) 1 0 + cond (has after rid) 1 0 =
          ap (λ b. cond b 1 0) (asks.split rid) ∙ counts (is_asked asked.sets.items rid) (has after rid) (asks.apart rid)
          in let was = before.once rid
          in omega (arith, more, both, split, was);
      each = subst (All (IsFrom (page_bytes s0) (set_in d) versions lists)) (sym added.new_is)
          (All-append (IsFrom (page_bytes s0) (set_in d) versions lists) old.records added.more before.each
          (all_of (IsFrom (page_bytes s0) (set_in d) versions lists) added.more (λ r there.
          from (set_in d) versions lists part.versions paired (page_bytes s0) part.segments asked.lists.items asked.sets.items added.more r own asks.each
          (one_of d.schema (page_bytes s0) part.segments asked.sets.items added.more r added.are
          (subst (λ (a : List ℕ). AreFor d.schema a part.segments asked.sets.items added.more) (same_pages s0 s1 h.looked told) (added.told (h.looked.told ∙ told))) there))));
    };
  }
    where
      by : (place rid : ℕ) → place < length versions → has (get_or lists place []) rid ≡ true → (b : Bool) → is_placed parts (get_or versions place 0) ≡ b
          → (b || (has part.versions (get_or versions place 0) || false)) ≡ true → has after rid ≡ false
      by place rid below member true e placed =
          still_none (is_asked asked.sets.items rid) (has after rid) (has left rid) (asks.split rid) (h.none_left place rid below e member)
      by place rid below member false e placed = asks.none_left place rid below (last (has part.versions (get_or versions place 0)) placed) member
        where
          last : (x : Bool) → (x || false) ≡ true → x ≡ true
          last true f = refl
          last false f = f

  -- what was fetched for some of the partitions is no more than for all
  pub some_fetched : (before now more : ℕ) (left after : List ℕ) (asked : Asked) → now ≤ before + 4096 * sum_by (part_pages versions) (take k d.layout.parts)
      → more ≤ now + bytes_if asked.sets.items part.segments → IsAsked (set_in d) versions lists part.versions part.versions left after asked → more ≤ before + segment_bytes_for (set_in d) versions
  some_fetched before now more left after asked h one asks =
      all_fetched d versions before more
      (omega (arith, h, one, asked_bytes (set_in d) versions lists part asked.lists.items asked.sets.items asks.each, ap (part_pages versions) is, sum_by_more_le (part_pages versions) d.layout.parts k part low))

  pub stops : (s0 s1 : State) (parts : List Part) (left after : List ℕ) (asked : Asked) (old : Content) (e : FetchErr) → HasPassed s0 s1 d versions lists rids parts left old
      → IsAsked (set_in d) versions lists part.versions part.versions left after asked → s0.tells ≡ true → RefusesFirstRows e d.schema (page_bytes s1) part.segments asked.lists.items asked.sets.items
      → RefusesCopy e (page_bytes s0) (set_in d) versions lists rids
  stops s0 s1 parts left after asked old e h asks told why =
      refuses (set_in d) versions lists part.versions paired (page_bytes s0) rids part.segments asked.lists.items asked.sets.items e own asks.each
      (λ rid yes. h.within rid (asked_before (is_asked asked.sets.items rid) (has after rid) (has left rid) (asks.split rid) yes))
      (subst (λ (a : List ℕ). RefusesFirstRows e d.schema a part.segments asked.lists.items asked.sets.items) (same_pages s0 s1 h.looked told) why)

-- ---- all partitions

-- the place of a list that has the rid
pub record IsAt (lists : List (List ℕ)) (rid : ℕ) : Type 0 where
  pub place : ℕ
  pub low : place < length lists
  pub member : has (get_or lists place []) rid ≡ true

listed_at : (lists : List (List ℕ)) (rid : ℕ) → is_asked lists rid ≡ true → IsAt lists rid
listed_at [] rid is = absurd (no is)
listed_at (list ∷ lists) rid is = by (has list rid) refl is (λ later. listed_at lists rid later)
  where
    by : (b : Bool) → has list rid ≡ b → (b || is_asked lists rid) ≡ true → (is_asked lists rid ≡ true → IsAt lists rid) → IsAt (list ∷ lists) rid
    by true e some rest = record { place = 0; low = omega arith; member = e }
    by false e some rest = let at = rest some in record { place = suc at.place; low = omega (arith, at.low); member = at.member }

first_in : (rids : List ℕ) → 1 ≤ length rids → has rids (get_or rids 0 0) ≡ true
first_in [] some = absurd (omega (arith, some))
first_in (rid ∷ rids) some = has-head rid rids

pub some_versions : (versions : List ℕ) (lists : List (List ℕ)) (rids : List ℕ) → 1 ≤ length rids → ((rid : ℕ) → has rids rid ≡ true → is_asked lists rid ≡ true)
    → length lists ≡ length versions → 1 ≤ length versions
some_versions versions lists rids some listed paired =
    let at = listed_at lists (get_or rids 0 0) (listed (get_or rids 0 0) (first_in rids some))
    in omega (arith, at.low, paired)

pub placed_all : (d : Cvd) (vid : ℕ) → IsSet d → IsThere (set_in d) vid → is_placed d.layout.parts vid ≡ true
placed_all d vid sound there = sound.placed vid there.0 (omega (arith, there.1, length-map d.versions.items version_in))

none_is : (s0 s1 : State) (d : Cvd) (versions : List ℕ) (lists : List (List ℕ)) (rids left : List ℕ) (found : Content) → IsSet d → All (IsThere (set_in d)) versions
    → length lists ≡ length versions → ((rid : ℕ) → has rids rid ≡ true → is_asked lists rid ≡ true) → HasPassed s0 s1 d versions lists rids d.layout.parts left found
    → (rid : ℕ) → has left rid ≡ false
none_is s0 s1 d versions lists rids left found sound there paired listed h rid = by (has left rid) refl
  where
    by : (b : Bool) → has left rid ≡ b → b ≡ false
    by false e = refl
    by true e =
        let at = listed_at lists rid (listed rid (h.within rid e))
        in let low : at.place < length versions = omega (arith, at.low, paired)
        in sym e ∙ h.none_left at.place rid low (placed_all d (get_or versions at.place 0) sound (there at.place 0 low)) at.member

pub ends : (s0 s1 : State) (d : Cvd) (versions : List ℕ) (lists : List (List ℕ)) (rids left : List ℕ) (found : Content) → IsSet d → All (IsThere (set_in d)) versions
    → length lists ≡ length versions → ((rid : ℕ) → has rids rid ≡ true → is_asked lists rid ≡ true) → HasPassed s0 s1 d versions lists rids d.layout.parts left found
    → s0.tells ≡ true → AreGathered (page_bytes s0) (set_in d) versions lists rids found.records
ends s0 s1 d versions lists rids left found sound there paired listed h told =
    let taken = h.told told
    in record {
      once = λ rid.
          let out : ◌≡◌ {A = ℕ} (cond (has left rid) 1 0) 0 = ap (λ b. cond b 1 0) (none_is s0 s1 d versions lists rids left found sound there paired listed h rid)
          in let was = taken.once rid
          in omega (arith, out, was);
      each = taken.each;
    }
