-- The wanted records of the first of some segments.
use Rattle.std.proofs.Common.{◌≡◌, ◌<◌, ◌≤◌, ◌+◌, ℕ, zero, suc, Bool, true, false, not, ◌&&◌, ◌||◌, List, [], ◌∷◌, ◌++◌, length, get_or, take, None, refl, sym, ◌∙◌, ap, subst, inl, inr, arith}
use mathlib.Core.Bool.{true≢false}
use Rattle.std.specs.Prelude.{is_some}
use Rattle.std.specs.List.{sum_by}
use Rattle.std.proofs.lemmas.Bool.{cases_eq, cases_lt}
use Rattle.std.proofs.lemmas.List.{map-append, take_more, take_all}
use Rattle.std.proofs.lemmas.List.Sums.{sum_by-cons, sum_by_more}
use Rattle.ov_host.specs.declared.area.Extent.{Extent}
use Rattle.ov_host.specs.Host.{State}
use Rattle.ov_member.specs.Rids.{has, left_out}
use Rattle.ov_member.proofs.RidLemmas.{has-append, has-filter, has-head}
use Rattle.ov_value.specs.Shapes.{Shape}
use Rattle.ov_segment.specs.declared.numbered.Record.{Record}
use Rattle.ov_segment.specs.Segments.{AreRecords, segment_spelling}
use Rattle.ov_segment.proofs.SegmentLemmas.{next_is, tail_front}
use Rattle.ov_fetch.specs.declared.errors.FetchErr.{FetchErr}
use Rattle.ov_fetch.specs.declared.errors.FetchErr.TheVariants.{Host, Memory, Damaged}
use Rattle.ov_fetch.specs.Extents.{Looked, page_bytes, rids_of, RefusesSegment}
use Rattle.ov_fetch.specs.Rows.{AreSegments, is_asked, joined, record_of}
use Rattle.ov_fetch.specs.Gathering.{IsAskedSet, SharesAt, wanted_of, HasKept, AreWanted}
use Rattle.ov_fetch.specs.Firsts.{AreFirstRows, AreFirstWanted, IsFetchedFirst, Lack, RefusesFirstRows, RefusesFirstWanted, Suffice}
use Rattle.ov_fetch.proofs.Asked.{AreSorted, and_true, none_is, not_true, record_lacks, rows_are, same_record}
use Rattle.ov_fetch.proofs.Gathered.{HasGathered, goes_on, starts}
use Rattle.ov_fetch.proofs.Lacking.{get_at}
use Rattle.ov_fetch.proofs.Looks.{same_pages}
use Rattle.ov_fetch.proofs.Ordered.{has_record, others_gone, wanted_there}

-- ---- segments have one content

spelled_once : (schema : Shape) (last : ℕ) (bytes : List ℕ) (a b : List Record) → AreRecords schema last a → AreRecords schema last b → bytes ≡ segment_spelling a → bytes ≡ segment_spelling b → a ≡ b
spelled_once schema last bytes [] [] here there is same = refl
spelled_once schema last bytes [] (y ∷ b) here there is same =
    let next = next_is schema last bytes y (segment_spelling b) (tail_front schema last bytes y b there same) [] here is
    in absurd (no_front y next.0 next.1)
  where
    no_front : (r : Record) (rs : List Record) → [] ≡ r ∷ rs → ⊥
    no_front r rs e = cc
spelled_once schema last bytes (x ∷ a) b here there is same =
    let next = next_is schema last bytes x (segment_spelling a) (tail_front schema last bytes x a here is) b there same
    in ap (λ (l : List Record). x ∷ l) (spelled_once schema x.rid (segment_spelling a) a next.0 here.1 next.2 refl next.3) ∙ sym next.1

contents_once : (schema : Shape) (area : List ℕ) (es : List Extent) (a b : List (List Record)) → AreSegments schema area es a → AreSegments schema area es b → a ≡ b
contents_once schema area [] [] [] here there = refl
contents_once schema area [] [] (y ∷ b) here there = absurd there
contents_once schema area [] (x ∷ a) b here there = absurd here
contents_once schema area (e ∷ es) [] b here there = absurd here
contents_once schema area (e ∷ es) (x ∷ a) [] here there = absurd there
contents_once schema area (e ∷ es) (x ∷ a) (y ∷ b) here there =
    let first : x ≡ y = spelled_once schema 0 _ x y here.0.are there.0.are here.0.spelled there.0.spelled
    in let rest : a ≡ b = contents_once schema area es a b here.1 there.1
    in λ i. first i ∷ rest i

-- segments don't suffice where they lack a record
pub lack_or_suffice : (schema : Shape) (area : List ℕ) (segments : List Extent) (asks : ℕ → Bool) → Lack schema area segments asks → Suffice schema area segments asks → ⊥
lack_or_suffice schema area segments asks lack all =
    let none : record_of (joined all.contents) lack.rid ≡ None =
    ap (λ (cs : List (List Record)). record_of (joined cs) lack.rid) (contents_once schema area segments all.contents lack.contents all.read lack.read) ∙ lack.lacking
    in true≢false (sym (all.there lack.rid lack.asked) ∙ ap is_some none)

-- ---- what is left

abbrev pub LeftOf : List ℕ → List Record → List ℕ → Type 0
LeftOf wanted kept left = (rid : ℕ) → has left rid ≡ (has wanted rid && not (has (rids_of kept) rid))

-- of the wanted records just the wanted rids are there
has_wanted : (wanted : List ℕ) (read : List Record) (rid : ℕ) → has (rids_of (wanted_of wanted read)) rid ≡ (has wanted rid && has (rids_of read) rid)
has_wanted wanted read rid = has_record rid (wanted_of wanted read) ∙ by (has wanted rid) refl
  where
    by : (b : Bool) → has wanted rid ≡ b → is_some (record_of (wanted_of wanted read) rid) ≡ (b && has (rids_of read) rid)
    by true e = ap is_some (wanted_there wanted rid read e) ∙ sym (has_record rid read)
    by false e = ap is_some (others_gone wanted rid read e)

left_more : (a b c : Bool) → ((a && not b) && not c) ≡ (a && not (b || (a && c)))
left_more true true c = refl
left_more true false c = refl
left_more false b c = refl

left_less : (wanted : List ℕ) (kept more read : List Record) (left after rids : List ℕ) → LeftOf wanted kept left → more ≡ kept ++ wanted_of wanted read → rids ≡ rids_of read → after ≡ left_out left rids → LeftOf wanted more after
left_less wanted kept more read left after rids is more_is rids_are after_is rid =
    ap (λ (l : List ℕ). has l rid) after_is ∙ has-filter (λ x. not (has rids x)) left rid
    ∙ ap (λ b. b && not (has rids rid)) (is rid) ∙ ap (λ (l : List ℕ). (has wanted rid && not (has (rids_of kept) rid)) && not (has l rid)) rids_are
    ∙ left_more (has wanted rid) (has (rids_of kept) rid) (has (rids_of read) rid)
    ∙ sym (ap (λ b. has wanted rid && not b) there)
  where
    there : has (rids_of more) rid ≡ (has (rids_of kept) rid || (has wanted rid && has (rids_of read) rid))
    there =
        ap (λ (l : List Record). has (rids_of l) rid) more_is ∙ ap (λ (l : List ℕ). has l rid) (map-append (λ (r : Record). r.rid) kept (wanted_of wanted read))
        ∙ has-append (rids_of kept) (rids_of (wanted_of wanted read)) rid ∙ ap (λ b. has (rids_of kept) rid || b) (has_wanted wanted read rid)

first_in : (rids : List ℕ) → 0 < length rids → has rids (get_or rids 0 0) ≡ true
first_in [] some = absurd (omega (arith, some))
first_in (rid ∷ rids) some = has-head rid rids

-- ---- segment after segment

-- so many segments were read, and no fewer suffice
pub record HasFirst (schema : Shape) (before now : State) (segments : List Extent) (count : ℕ) (wanted : List ℕ) (kept : List Record) (left : List ℕ) : Type 0 where
  pub sets : List (List ℕ)
  pub gathered : HasGathered schema before now (take count segments) wanted kept sets
  pub left_is : LeftOf wanted kept left
  pub fewest : before.tells ≡ true → (fewer : ℕ) → fewer < count → Lack schema (page_bytes before) (take fewer segments) (has wanted)

pub begins : (schema : Shape) (s : State) (segments : List Extent) (wanted : List ℕ) (kept : List Record) (left : List ℕ) → kept ≡ [] → left ≡ wanted → HasFirst schema s s segments 0 wanted kept left
begins schema s segments wanted kept left none same = record {
  sets = [];
  gathered = starts schema s wanted kept [] none refl;
  left_is = λ rid. ap (λ (l : List ℕ). has l rid) same ∙ whole (has wanted rid) ∙ sym (ap (λ (l : List Record). has wanted rid && not (has (rids_of l) rid)) none);
  fewest = λ told fewer below. absurd (omega (arith, below));
}
  where
    whole : (b : Bool) → b ≡ (b && true)
    whole true = refl
    whole false = refl

-- what is left has no record in the segments that were read
pub lacks : (schema : Shape) (s0 s1 : State) (segments : List Extent) (count : ℕ) (wanted : List ℕ) (kept : List Record) (left : List ℕ) → HasFirst schema s0 s1 segments count wanted kept left
    → 0 < length left → s0.tells ≡ true → Lack schema (page_bytes s0) (take count segments) (has wanted)
lacks schema s0 s1 segments count wanted kept left h some told =
    let rid : ℕ = get_or left 0 0
    in let both : (has wanted rid ≡ true) × (not (has (rids_of kept) rid) ≡ true) = and_true (has wanted rid) (not (has (rids_of kept) rid)) (sym (h.left_is rid) ∙ first_in left some)
    in record {
      contents = h.gathered.contents;
      read = h.gathered.told told;
      rid = rid;
      asked = both.0;
      lacking =
          sym (wanted_there wanted rid (joined h.gathered.contents) both.0) ∙ ap (λ (l : List Record). record_of l rid) (sym h.gathered.kept_are)
          ∙ none_is (record_of kept rid) (sym (has_record rid kept) ∙ not_true (has (rids_of kept) rid) both.1);
    }

pub one_more : (schema : Shape) (s0 s1 s2 : State) (segments : List Extent) (count : ℕ) (d : Extent) (wanted : List ℕ) (kept more : List Record) (left after rids : List ℕ)
    → HasFirst schema s0 s1 segments count wanted kept left → count < length segments → 0 < length left → Looked s1 s2 → s2.fetched ≤ s1.fetched + (get_or segments count d).bytes
    → HasKept schema s1 (get_or segments count d) wanted kept more rids → after ≡ left_out left rids → HasFirst schema s0 s2 segments (count + 1) wanted more after
one_more schema s0 s1 s2 segments count d wanted kept more left after rids h low some looked fetched new after_is = record {
  sets = h.sets ++ rids ∷ [];
  gathered = subst (λ (l : List Extent). HasGathered schema s0 s2 l wanted more (h.sets ++ rids ∷ [])) (sym (take_more segments count d low))
      (goes_on schema s0 s1 s2 (take count segments) (get_or segments count d) wanted kept more h.sets rids h.gathered looked fetched new);
  left_is = left_less wanted kept more new.read left after rids h.left_is new.kept_are new.rids_are after_is;
  fewest = λ told fewer below.
      elim (cases_eq fewer count) [
        | inl same ↦ subst (λ n. Lack schema (page_bytes s0) (take n segments) (has wanted)) (sym same) (lacks schema s0 s1 segments count wanted kept left h some told)
        | inr other ↦ h.fewest told fewer (omega (arith, below, other))
      ];
}

-- ---- how much was read

sum_take : (f : Extent → ℕ) (xs : List Extent) (i j : ℕ) → i ≤ j → sum_by f (take i xs) ≤ sum_by f (take j xs)
sum_take f xs zero j le = omega arith
sum_take f [] (suc i) j le = omega arith
sum_take f (x ∷ xs) (suc i) zero le = absurd (omega (arith, le))
sum_take f (x ∷ xs) (suc i) (suc j) le = omega (arith, sum_take f xs i j (omega (arith, le)), sum_by-cons f x (take i xs), sum_by-cons f x (take j xs))

-- as long as something is left, more segments are needed
needed : (schema : Shape) (s0 s1 : State) (segments : List Extent) (read : ℕ) (wanted : List ℕ) (kept : List Record) (left : List ℕ) → HasFirst schema s0 s1 segments read wanted kept left
    → s0.tells ≡ true → (count : ℕ) → Suffice schema (page_bytes s0) (take count segments) (has wanted) → read ≤ count
needed schema s0 s1 segments read wanted kept left h told count all =
    elim (cases_lt count read) [
      | inl below ↦ absurd (lack_or_suffice schema (page_bytes s0) (take count segments) (has wanted) (h.fewest told count below) all)
      | inr le ↦ le
    ]

pub fetched_no_more : (schema : Shape) (s0 s1 : State) (segments : List Extent) (read : ℕ) (wanted : List ℕ) (kept : List Record) (left : List ℕ) → HasFirst schema s0 s1 segments read wanted kept left
    → IsFetchedFirst schema s0 s1 segments (has wanted)
fetched_no_more schema s0 s1 segments read wanted kept left h told count all =
    omega (arith, h.gathered.fetched, sum_take (λ e. e.bytes) segments read count (needed schema s0 s1 segments read wanted kept left h told count all))

-- nor is one segment more, where something was left
pub fetched_next : (schema : Shape) (s0 s1 s2 : State) (segments : List Extent) (read : ℕ) (d : Extent) (wanted : List ℕ) (kept : List Record) (left : List ℕ) → HasFirst schema s0 s1 segments read wanted kept left
    → read < length segments → 0 < length left → s2.fetched ≤ s1.fetched + (get_or segments read d).bytes → IsFetchedFirst schema s0 s2 segments (has wanted)
fetched_next schema s0 s1 s2 segments read d wanted kept left h low some fetched told count all =
    elim (cases_eq count read) [
      | inl same ↦
          absurd (lack_or_suffice schema (page_bytes s0) (take count segments) (has wanted)
          (subst (λ n. Lack schema (page_bytes s0) (take n segments) (has wanted)) (sym same) (lacks schema s0 s1 segments read wanted kept left h some told)) all)
      | inr other ↦
          omega (
            arith,
            h.gathered.fetched,
            fetched,
            sum_by_more (λ (e : Extent). e.bytes) segments read d low,
            sum_take (λ (e : Extent). e.bytes) segments (read + 1) count (omega (arith, other, needed schema s0 s1 segments read wanted kept left h told count all)),
          )
    ]

-- ---- how it ends

pub ends_with_all : (schema : Shape) (s0 s1 : State) (segments : List Extent) (count : ℕ) (wanted : List ℕ) (kept : List Record) (left : List ℕ) → HasFirst schema s0 s1 segments count wanted kept left
    → count ≤ length segments → (0 < length left → count ≡ length segments) → s0.tells ≡ true → AreFirstWanted schema (page_bytes s0) segments wanted kept left
ends_with_all schema s0 s1 segments count wanted kept left h within ended told = record {
  count = count;
  within = within;
  gathered = record { contents = h.gathered.contents; read = h.gathered.told told; kept_are = h.gathered.kept_are };
  left_is = h.left_is;
  fewest = h.fewest told;
  ended = ended;
}

pub ends_off : (schema : Shape) (s0 s1 : State) (segments : List Extent) (count : ℕ) (d : Extent) (wanted : List ℕ) (kept : List Record) (left : List ℕ) (e : FetchErr) → HasFirst schema s0 s1 segments count wanted kept left
    → count < length segments → 0 < length left → (s1.tells ≡ true → RefusesSegment e schema (page_bytes s1) (get_or segments count d)) → s0.tells ≡ true → RefusesFirstWanted e schema (page_bytes s0) segments wanted
ends_off schema s0 s1 segments count d wanted kept left Host h low some refuses told = tt
ends_off schema s0 s1 segments count d wanted kept left Memory h low some refuses told = tt
ends_off schema s0 s1 segments count d wanted kept left (Damaged page) h low some refuses told =
    let why = subst (λ (a : List ℕ). RefusesSegment (Damaged page) schema a (get_or segments count d)) (same_pages s0 s1 h.gathered.looked told) (refuses (h.gathered.looked.told ∙ told)) in
    record {
      count = count;
      before = lacks schema s0 s1 segments count wanted kept left h some told;
      segment = get_or segments count d;
      next = get_at segments count d low;
      off = why.1;
      page_is = why.0;
    }

-- ---- the rids of several sets

abbrev lack_of : (schema : Shape) (area : List ℕ) (segments : List Extent) (members : List (List ℕ)) (wanted : List ℕ) → IsAskedSet members wanted → Lack schema area segments (has wanted) → Lack schema area segments (is_asked members)
lack_of schema area segments members wanted set l = record { contents = l.contents; read = l.read; rid = l.rid; asked = sym (set.members_are l.rid) ∙ l.asked; lacking = l.lacking }

suffice_of : (schema : Shape) (area : List ℕ) (segments : List Extent) (members : List (List ℕ)) (wanted : List ℕ) → IsAskedSet members wanted → Suffice schema area segments (is_asked members) → Suffice schema area segments (has wanted)
suffice_of schema area segments members wanted set s = record { contents = s.contents; read = s.read; there = λ rid asked. s.there rid (sym (set.members_are rid) ∙ asked) }

pub fetched_of : (schema : Shape) (s0 s1 : State) (segments : List Extent) (members : List (List ℕ)) (wanted : List ℕ) → IsAskedSet members wanted → IsFetchedFirst schema s0 s1 segments (has wanted)
    → IsFetchedFirst schema s0 s1 segments (is_asked members)
fetched_of schema s0 s1 segments members wanted set h told count all = h told count (suffice_of schema (page_bytes s0) (take count segments) members wanted set all)

pub refuses_of : (schema : Shape) (area : List ℕ) (segments lists : List Extent) (members : List (List ℕ)) (wanted : List ℕ) (e : FetchErr) → IsAskedSet members wanted → RefusesFirstWanted e schema area segments wanted
    → RefusesFirstRows e schema area segments lists members
refuses_of schema area segments lists members wanted Host set why = tt
refuses_of schema area segments lists members wanted Memory set why = tt
refuses_of schema area segments lists members wanted (Damaged page) set why =
    inl (record {
      count = why.count;
      before = lack_of schema area (take why.count segments) members wanted set why.before;
      segment = why.segment;
      next = why.next;
      off = why.off;
      page_is = why.page_is;
    })

-- what is missing of the records in their order is what is left
still_missing : (wanted left : List ℕ) (kept got : List Record) → LeftOf wanted kept left → AreSorted kept got → (rid : ℕ) → has (left_out wanted (rids_of got)) rid ≡ has left rid
still_missing wanted left kept got is sorted rid =
    has-filter (λ x. not (has (rids_of got) x)) wanted rid
    ∙ ap (λ b. has wanted rid && not b) (has_record rid got ∙ ap is_some (same_record rid kept got sorted) ∙ sym (has_record rid kept)) ∙ sym (is rid)

pub first_rows : (schema : Shape) (area : List ℕ) (segments : List Extent) (members : List (List ℕ)) (wanted left : List ℕ) (kept got : List Record) → IsAskedSet members wanted
    → AreFirstWanted schema area segments wanted kept left → AreSorted kept got → ((rid : ℕ) → is_asked members rid ≡ true → has left rid ≡ false) → AreFirstRows schema area segments members got
first_rows schema area segments members wanted left kept got set first sorted none = record {
  count = first.count;
  within = first.within;
  rows = rows_are schema area (take first.count segments) members wanted kept got (left_out wanted (rids_of got)) set first.gathered sorted refl
      (λ rid asked. still_missing wanted left kept got first.left_is sorted rid ∙ none rid asked);
  fewest = λ fewer below. lack_of schema area (take fewer segments) members wanted set (first.fewest fewer below);
}

some_left : (left : List ℕ) (rid : ℕ) → has left rid ≡ true → 0 < length left
some_left [] rid is = absurd (true≢false (sym is))
some_left (x ∷ left) rid is = omega arith

pub first_rows_lack : (schema : Shape) (area : List ℕ) (segments lists : List Extent) (members : List (List ℕ)) (wanted left : List ℕ) (kept got : List Record) (place : ℕ) (d : Extent) → IsAskedSet members wanted
    → AreFirstWanted schema area segments wanted kept left → AreSorted kept got → SharesAt members left place → length lists ≡ length members
    → RefusesFirstRows (Damaged (get_or lists place d).page) schema area segments lists members
first_rows_lack schema area segments lists members wanted left kept got place d set first sorted shares paired =
    inr (record_lacks schema area segments lists members wanted kept got (left_out wanted (rids_of got)) place d set
    (subst (λ (es : List Extent). AreWanted schema area es wanted kept) all first.gathered) sorted refl
    (record {
      rids = shares.rids;
      there = shares.there;
      rid = shares.rid;
      member = shares.member;
      lacking = still_missing wanted left kept got first.left_is sorted shares.rid ∙ shares.lacking;
    }) paired)
  where
    all : take first.count segments ≡ segments
    all = take_all first.count segments (omega (arith, first.ended (some_left left shares.rid shares.lacking)))
