-- The records of a segment, as many at once as its pieces hold.
use Rattle.std.proofs.Common.{inl, inr, ◌≡◌, ◌<◌, ◌≤◌, ◌+◌, ◌^◌, ℕ, true, false, cond, List, [], ◌∷◌, ◌++◌, length, drop, refl, sym, ◌∙◌, ap, subst, arith, add-one, append_assoc}
use Rattle.std.proofs.lemmas.List.{append-nil, map-append, drop_all}
use Rattle.std.proofs.lemmas.List.Elements.{filter-append}
use Rattle.ov_host.specs.declared.area.Extent.{Extent}
use Rattle.ov_host.specs.Host.{State}
use Rattle.ov_member.specs.Rids.{has, AreRids, RiseFrom}
use Rattle.ov_value.specs.Shapes.{Shape}
use Rattle.ov_segment.specs.declared.numbered.Record.{Record}
use Rattle.ov_segment.specs.Keeping.{Walk, wants, Passes, TakesFrom}
use Rattle.ov_segment.specs.Keeping.{wanted_of as wanted_by}
use Rattle.ov_segment.specs.Reading.{fresh, WantsMore, IsOff}
use Rattle.ov_segment.specs.Segments.{AreRecords, Ascend, segment_spelling, last_of}
use Rattle.ov_segment.specs.Tables.{Content}
use Rattle.ov_segment.proofs.RunLemmas.{front_good}
use Rattle.ov_segment.proofs.SegmentLemmas.{HasRead, records-append, last_of-append, last_of-rises, read_all, begins_whole, tail_front}
use Rattle.ov_fetch.specs.declared.cursor.Cursor.{Cursor}
use Rattle.ov_fetch.specs.Extents.{Looked, page_bytes, extent_bytes, rids_of, IsWhole, IsSegment, IsNoSegment}
use Rattle.ov_fetch.specs.Cursors.{left_of, IsOpen, IsAtFront, Reaches, IsSameWith}
use Rattle.ov_fetch.specs.Gathering.{wanted_of, HasKept}
use Rattle.ov_fetch.proofs.Looks.{looked_at_all, looked_again, same_pages}
use Rattle.ov_fetch.proofs.Pieces.{extent-length}

pub ascend_rise : (least : ℕ) (rids : List ℕ) → Ascend least rids → RiseFrom (least + 1) rids
ascend_rise least [] h = tt
ascend_rise least (n ∷ ns) h = (omega (arith, h.0), h.1, subst (λ k. RiseFrom k ns) (add-one n) (ascend_rise n ns h.2))

-- these records were passed, and the cursor is behind them
pub record HasGone (schema : Shape) (before now : State) (segment : Extent) (c : Cursor) (read : List Record) : Type 0 where
  pub looked : Looked before now
  pub fetched : now.fetched ≤ before.fetched + c.at
  pub still : IsOpen c
  pub place : c.extent ≡ segment
  pub are : AreRecords schema 0 read
  pub last_is : last_of 0 read ≡ c.reader.last
  pub reached : before.tells ≡ true → Reaches (page_bytes before) c
  pub sofar : before.tells ≡ true → HasRead schema (extent_bytes (page_bytes before) segment) read c.reader.last (left_of (page_bytes before) c)

abbrev front_of : Extent → Cursor
front_of segment = record { extent = segment; at = 0; reader = fresh }

begun : (schema : Shape) (s : State) (segment : Extent) → segment.bytes < 2 ^ 32 → HasGone schema s s segment (front_of segment) []
begun schema s segment sized = record {
  looked = looked_at_all s;
  fetched = omega arith;
  still = record { open_still = refl; within = omega arith; sized = sized };
  place = refl;
  are = tt;
  last_is = refl;
  reached = λ told. omega arith;
  sofar = λ told. record {
    are = tt;
    last_is = refl;
    bytes_are = refl;
    only = λ all are e. record { tail = all; all_is = refl; follow = are; rest_is = e };
  };
}

begins : (schema : Shape) (s : State) (segment : Extent) (c : Cursor) → c ≡ front_of segment → segment.bytes < 2 ^ 32 → HasGone schema s s segment c []
begins schema s segment c is sized = subst (λ (d : Cursor). HasGone schema s s segment d []) (sym is) (begun schema s segment sized)

-- the records that are held were passed
pub record IsBehind (schema : Shape) (c d : Cursor) (passed : List Record) : Type 0 where
  pub place : d.extent ≡ c.extent
  pub at_same : d.at ≡ c.at
  pub open_still : d.reader.over ≡ false
  pub are : AreRecords schema c.reader.last passed
  pub held_is : c.reader.held ≡ segment_spelling passed ++ d.reader.held
  pub last_is : d.reader.last ≡ last_of c.reader.last passed

left_behind : (schema : Shape) (area : List ℕ) (c d : Cursor) (passed : List Record) → IsBehind schema c d passed → left_of area c ≡ segment_spelling passed ++ left_of area d
left_behind schema area c d passed h =
    (λ i. h.held_is i ++ drop (sym h.at_same i) (extent_bytes area (sym h.place i)))
    ∙ append_assoc (segment_spelling passed) d.reader.held (drop d.at (extent_bytes area d.extent))

goes_on : (schema : Shape) (s0 s1 : State) (segment : Extent) (c d : Cursor) (read passed : List Record) → HasGone schema s0 s1 segment c read → IsBehind schema c d passed → HasGone schema s0 s1 segment d (read ++ passed)
goes_on schema s0 s1 segment c d read passed gone h =
    let follow : AreRecords schema (last_of 0 read) passed = subst (λ n. AreRecords schema n passed) (sym gone.last_is) h.are in
    record {
      looked = gone.looked;
      fetched = omega (arith, gone.fetched, h.at_same);
      still = record {
        open_still = h.open_still;
        within = omega (arith, gone.still.within, h.at_same, ap (λ (e : Extent). e.bytes) h.place);
        sized = subst (λ (e : Extent). e.bytes < 2 ^ 32) (sym h.place) gone.still.sized;
      };
      place = h.place ∙ gone.place;
      are = records-append schema 0 read passed gone.are follow;
      last_is = last_of-append 0 read passed ∙ ap (λ n. last_of n passed) gone.last_is ∙ sym h.last_is;
      reached = λ told. omega (arith, gone.reached told, h.at_same, ap (λ (e : Extent). length (extent_bytes (page_bytes s0) e)) h.place);
      sofar = λ told.
          let area : List ℕ = page_bytes s0 in
          subst (λ n. HasRead schema (extent_bytes area segment) (read ++ passed) n (left_of area d)) (sym h.last_is)
          (read_all schema (extent_bytes area segment) read c.reader.last (left_of area c) passed (left_of area d) (gone.sofar told) h.are (left_behind schema area c d passed h));
    }

-- a piece more is held
fills : (schema : Shape) (s0 s1 s2 : State) (segment : Extent) (c d : Cursor) (read : List Record) → HasGone schema s0 s1 segment c read → Looked s1 s2 → s2.fetched + c.at ≤ s1.fetched + d.at → IsSameWith c d
    → (s1.tells ≡ true → (left_of (page_bytes s1) d ≡ left_of (page_bytes s1) c) × Reaches (page_bytes s1) d) → HasGone schema s0 s2 segment d read
fills schema s0 s1 s2 segment c d read gone looked fetched same more = record {
  looked = looked_again s0 s1 s2 gone.looked looked;
  fetched = omega (arith, gone.fetched, fetched);
  still = record {
    open_still = same.over_same ∙ gone.still.open_still;
    within = omega (arith, same.within, ap (λ (e : Extent). e.bytes) same.extent_same);
    sized = subst (λ (e : Extent). e.bytes < 2 ^ 32) (sym same.extent_same) gone.still.sized;
  };
  place = same.extent_same ∙ gone.place;
  are = gone.are;
  last_is = gone.last_is ∙ sym same.last_same;
  reached = λ told. subst (λ (a : List ℕ). Reaches a d) (same_pages s0 s1 gone.looked told) (more (gone.looked.told ∙ told)).1;
  sofar = λ told.
      let area : List ℕ = page_bytes s0 in
      let left : left_of area d ≡ left_of area c =
      subst (λ (a : List ℕ). left_of a d ≡ left_of a c) (same_pages s0 s1 gone.looked told) (more (gone.looked.told ∙ told)).0 in
      subst (λ n. HasRead schema (extent_bytes area segment) read n (left_of area d)) (sym same.last_same)
      (subst (HasRead schema (extent_bytes area segment) read c.reader.last) (sym left) (gone.sofar told));
}

-- all of it was read, and nothing is held
ends : (schema : Shape) (s0 s1 : State) (segment : Extent) (c : Cursor) (read : List Record) → HasGone schema s0 s1 segment c read → c.at ≡ c.extent.bytes → c.reader.held ≡ [] → s0.tells ≡ true
    → IsSegment schema (page_bytes s0) segment read
ends schema s0 s1 segment c read gone end none told =
    let area : List ℕ = page_bytes s0 in
    let whole : IsWhole area c.extent = omega (arith, end, gone.reached told, extent-length area c.extent) in
    let left : left_of area c ≡ [] = (λ i. none i ++ drop c.at (extent_bytes area c.extent)) ∙ drop_all c.at (extent_bytes area c.extent) (omega (arith, end, extent-length area c.extent)) in
    record {
      whole = (λ (e : Extent) (p : c.extent ≡ e). subst (λ (e : Extent). IsWhole area e) p whole) segment gone.place;
      are = gone.are;
      spelled = (gone.sofar told).bytes_are ∙ ap (λ (l : List ℕ). segment_spelling read ++ l) left ∙ append-nil (segment_spelling read);
    }

-- all of it was read, and less than a record is held
pub cut_off : (schema : Shape) (s0 s1 : State) (segment : Extent) (c : Cursor) (read : List Record) → HasGone schema s0 s1 segment c read → c.at ≡ c.extent.bytes → WantsMore c.reader.last c.reader.held → 0 < length c.reader.held
    → s0.tells ≡ true → IsNoSegment schema (page_bytes s0) segment
cut_off schema s0 s1 segment c read gone end more some told = inr (λ all are e.
    let left = (gone.sofar told).only all are e in
    by left.tail left.follow (held ∙ left.rest_is))
  where
    area : List ℕ
    area = page_bytes s0

    held : c.reader.held ≡ left_of area c
    held = sym (append-nil c.reader.held) ∙ ap (λ (l : List ℕ). c.reader.held ++ l) (sym (drop_all c.at (extent_bytes area c.extent) (omega (arith, end, extent-length area c.extent))))

    by : (tail : List Record) → AreRecords schema c.reader.last tail → c.reader.held ≡ segment_spelling tail → ⊥
    by [] are e = omega (arith, some, ap length e)
    by (r ∷ rs) are e = begins_whole schema c.reader.last c.reader.held r (segment_spelling rs) (tail_front schema c.reader.last c.reader.held r rs are e) more

-- what is held behind some records is off
pub stops : (schema : Shape) (s0 s1 : State) (segment : Extent) (c : Cursor) (read passed : List Record) (last : ℕ) (rest : List ℕ) → HasGone schema s0 s1 segment c read → AreRecords schema c.reader.last passed
    → c.reader.held ≡ segment_spelling passed ++ rest → last ≡ last_of c.reader.last passed → IsOff schema last rest → s0.tells ≡ true → IsNoSegment schema (page_bytes s0) segment
stops schema s0 s1 segment c read passed last rest gone are held_is last_is off told = inr (λ all all_are e.
    let left = behind.only all all_are e in
    front_good schema (last_of c.reader.last passed) rest unread left.tail left.follow left.rest_is (subst (λ n. IsOff schema n rest) last_is off))
  where
    area : List ℕ
    area = page_bytes s0

    unread : List ℕ
    unread = drop c.at (extent_bytes area c.extent)

    behind : HasRead schema (extent_bytes area segment) (read ++ passed) (last_of c.reader.last passed) (rest ++ unread)
    behind =
        read_all schema (extent_bytes area segment) read c.reader.last (left_of area c) passed (rest ++ unread) (gone.sofar told) are
        (ap (λ (l : List ℕ). l ++ unread) held_is ∙ append_assoc (segment_spelling passed) rest unread)

-- the wanted ones came behind those kept; of the rids behind them the walk says whether they are wanted
pub record KeepsWanted (schema : Shape) (before now : State) (segment : Extent) (c : Cursor) (wanted : List ℕ) (ahead : Walk) (old kept : Content) (rids : List ℕ) : Type 0 where
  pub read : List Record
  pub gone : HasGone schema before now segment c read
  pub columns_are : kept.columns ≡ old.columns
  pub kept_are : kept.records ≡ old.records ++ wanted_of wanted read
  pub rids_are : rids ≡ rids_of read
  pub ahead_is : (n : ℕ) → c.reader.last ≤ n → wants ahead n ≡ has wanted n

at_front : (segment : Extent) (c : Cursor) → c.extent ≡ segment → IsAtFront c → c ≡ front_of segment
at_front segment c same front = λ i. record { extent = same i; at = front.at_front i; reader = front.reader_is i }

pub keeping_begins : (schema : Shape) (s : State) (c : Cursor) (wanted : List ℕ) (ahead : Walk) (old : Content) (rids : List ℕ) → IsAtFront c → ((n : ℕ) → wants ahead n ≡ has wanted n) → rids ≡ []
    → KeepsWanted schema s s c.extent c wanted ahead old old rids
keeping_begins schema s c wanted ahead old rids front all none = record {
  read = [];
  gone = begins schema s c.extent c (at_front c.extent c refl front) front.sized;
  columns_are = refl;
  kept_are = sym (append-nil old.records);
  rids_are = none;
  ahead_is = λ n le. all n;
}

-- rids that ascend from the last record's on may come behind those of the records
pub takes_more : (schema : Shape) (rs : List Record) (last : ℕ) (rids : List ℕ) → AreRecords schema 0 rs → last_of 0 rs ≡ last → rids ≡ rids_of rs → TakesFrom last rids
takes_more schema rs last rids are is rids_are more up =
    subst (λ (l : List ℕ). AreRids (l ++ more)) (sym rids_are) (ascend_rise 0 (rids_of rs ++ more) (on 0 rs are (subst (λ n. Ascend n more) (sym is) up)))
  where
    on : (least : ℕ) (rs : List Record) → AreRecords schema least rs → Ascend (last_of least rs) more → Ascend least (rids_of rs ++ more)
    on least [] are up = up
    on least (r ∷ rs) are up = (are.0.above, are.0.below, on r.rid rs are.1 up)

-- the walk wants the same records as the set
wanted_same : (schema : Shape) (last : ℕ) (rs : List Record) (walk : Walk) (wanted : List ℕ) → AreRecords schema last rs → ((n : ℕ) → last ≤ n → wants walk n ≡ has wanted n) → wanted_by walk rs ≡ wanted_of wanted rs
wanted_same schema last [] walk wanted are same = refl
wanted_same schema last (r ∷ rs) walk wanted are same =
    let low : last ≤ r.rid = omega (arith, are.0.above) in
    let rest : wanted_by walk rs ≡ wanted_of wanted rs = wanted_same schema r.rid rs walk wanted are.1 (λ n le. same n (omega (arith, low, le))) in
    λ i. cond (same r.rid low i) (r ∷ rest i) (rest i)

-- the records that are held were passed
pub keeps_passed : (schema : Shape) (s0 s1 : State) (segment : Extent) (c d : Cursor) (wanted : List ℕ) (ahead : Walk) (old kept : Content) (rids : List ℕ) (after_ahead : Walk) (more : Content) (now : List ℕ)
    → KeepsWanted schema s0 s1 segment c wanted ahead old kept rids → d.extent ≡ c.extent → d.at ≡ c.at → d.reader.over ≡ false
    → Passes schema c.reader.last c.reader.held ahead rids kept d.reader.last d.reader.held after_ahead now more
    → KeepsWanted schema s0 s1 segment d wanted after_ahead old more now
keeps_passed schema s0 s1 segment c d wanted ahead old kept rids after_ahead more now h place at over p =
    let up : c.reader.last ≤ d.reader.last = omega (arith, last_of-rises schema c.reader.last p.passed p.are, p.last_is) in
    record {
      read = h.read ++ p.passed;
      gone = goes_on schema s0 s1 segment c d h.read p.passed h.gone (record { place = place; at_same = at; open_still = over; are = p.are; held_is = p.bytes_are; last_is = p.last_is });
      columns_are = ap (λ (t : Content). t.columns) p.table_is ∙ h.columns_are;
      kept_are =
          ap (λ (t : Content). t.records) p.table_is
          ∙ (λ i. h.kept_are i ++ wanted_same schema c.reader.last p.passed ahead wanted p.are h.ahead_is i)
          ∙ append_assoc old.records (wanted_of wanted h.read) (wanted_of wanted p.passed)
          ∙ ap (λ (l : List Record). old.records ++ l) (sym (filter-append (λ (x : Record). has wanted x.rid) h.read p.passed));
      rids_are = p.rids_are ∙ ap (λ (l : List ℕ). l ++ rids_of p.passed) h.rids_are ∙ sym (map-append (λ (x : Record). x.rid) h.read p.passed);
      ahead_is = λ n le. p.ahead_is n le ∙ h.ahead_is n (omega (arith, up, le));
    }

-- a piece more is held
pub keeps_filled : (schema : Shape) (s0 s1 s2 : State) (segment : Extent) (c d : Cursor) (wanted : List ℕ) (ahead : Walk) (old kept : Content) (rids : List ℕ)
    → KeepsWanted schema s0 s1 segment c wanted ahead old kept rids → Looked s1 s2 → s2.fetched + c.at ≤ s1.fetched + d.at → IsSameWith c d
    → (s1.tells ≡ true → (left_of (page_bytes s1) d ≡ left_of (page_bytes s1) c) × Reaches (page_bytes s1) d) → KeepsWanted schema s0 s2 segment d wanted ahead old kept rids
keeps_filled schema s0 s1 s2 segment c d wanted ahead old kept rids h looked fetched same more = record {
  read = h.read;
  gone = fills schema s0 s1 s2 segment c d h.read h.gone looked fetched same more;
  columns_are = h.columns_are;
  kept_are = h.kept_are;
  rids_are = h.rids_are;
  ahead_is = λ n le. h.ahead_is n (omega (arith, le, same.last_same));
}

pub keeping_ends : (schema : Shape) (s0 s1 : State) (segment : Extent) (c : Cursor) (wanted : List ℕ) (ahead : Walk) (old kept : Content) (rids members : List ℕ)
    → KeepsWanted schema s0 s1 segment c wanted ahead old kept rids → c.at ≡ c.extent.bytes → c.reader.held ≡ [] → members ≡ rids → HasKept schema s0 segment wanted old.records kept.records members
keeping_ends schema s0 s1 segment c wanted ahead old kept rids members h end none same = record {
  read = h.read;
  are = h.gone.are;
  kept_are = h.kept_are;
  rids_are = same ∙ h.rids_are;
  told = λ told. ends schema s0 s1 segment c h.read h.gone end none told;
}

-- while more bytes are wanted there is room for a piece
pub wants_room : (last : ℕ) (held : List ℕ) → WantsMore last held → length held + 61440 ≤ 131072
wants_room last held more = elim more [
  | inl few ↦ omega (arith, few)
  | inr short ↦ omega (arith, short.1, short.0.small)
]
