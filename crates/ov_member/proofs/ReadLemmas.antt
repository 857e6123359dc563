-- Reading ranges one by one.
use Rattle.std.proofs.Common.{◌≡◌, ℕ, ◌+◌, ◌-◌, ◌<◌, ◌≤◌, ◌^◌, false, List, [], ◌∷◌, ◌++◌, length, refl, sym, ap, subst, ◌∙◌, append_assoc, arith}
use Rattle.std.proofs.lemmas.List.{append-nil, length-append}
use Rattle.std.proofs.lemmas.List.Concat.{flat_map-append}
use Rattle.ov_member.specs.Lists.{Range, AreApart, range_bytes, bytes_of, Spells, ranges_of, spelling}
use Rattle.ov_member.specs.Edges.{Ascend, ends, AreEdges, ranges_between, rids_between}
use Rattle.ov_member.proofs.RangeLemmas.{front-same, fits-apart, continues, ranges_of-rids_of}
use Rattle.ov_member.proofs.EdgeLemmas.{AreApart-between}
use Rattle.ov_member.proofs.PutLemmas.{top}

-- one past the last rid of ranges, or the number that they are above
abbrev pub past_all : ℕ → List Range → ℕ
past_all past [] = past
past_all past (range ∷ ranges) = past_all (range.first + range.count) ranges

AreApart-right : (past : ℕ) (xs ys : List Range) → AreApart past (xs ++ ys) → AreApart (past_all past xs) ys
AreApart-right past [] ys h = h
AreApart-right past (x ∷ xs) ys h = AreApart-right (x.first + x.count) xs ys h.3

past_all-between : (low : ℕ) (edges : List ℕ) → Ascend low edges → ends false edges ≡ false → past_all low (ranges_between edges) ≡ top low edges
past_all-between low [] h e = refl
past_all-between low (first ∷ []) h e = absurd cc
past_all-between low (first ∷ past ∷ edges) h e =
    let is : first + (past - first) ≡ past = omega arith in
    rw is (past_all-between past edges h.2.2 e)

-- two more edges at the end
pub record Pushed (low : ℕ) (edges : List ℕ) (first past : ℕ) : Type 0 where
  pub ascend : Ascend low (edges ++ first ∷ past ∷ [])
  pub closed : ends false (edges ++ first ∷ past ∷ []) ≡ false
  pub last : past ≡ top low (edges ++ first ∷ past ∷ [])
  pub ranges : ranges_between (edges ++ first ∷ past ∷ []) ≡ ranges_between edges ++ record { first = first; count = past - first } ∷ []

pub pushed : (low : ℕ) (edges : List ℕ) (first past : ℕ) → Ascend low edges → ends false edges ≡ false → top low edges < first → first < past → past ≤ 2 ^ 31 + 1 → Pushed low edges first past
pushed low [] first past h e above order limit = record { ascend = (above, omega arith, (order, limit, tt)); closed = refl; last = refl; ranges = refl }
pushed low (x ∷ []) first past h e above order limit = absurd cc
pushed low (x ∷ y ∷ edges) first past h e above order limit =
    let rest = pushed y edges first past h.2.2 e above order limit in
    record {
      ascend = (h.0, h.1, (h.2.0, h.2.1, rest.ascend));
      closed = rest.closed;
      last = rest.last;
      ranges = ap (λ (ranges : List Range). record { first = x; count = y - x } ∷ ranges) rest.ranges;
    }

-- what a read so far keeps: the edges of the ranges read, one past the last rid, and the bytes behind them
pub record Reads (bytes : List ℕ) (edges : List ℕ) (past : ℕ) (rest : List ℕ) : Type 0 where
  pub sound : AreEdges edges
  pub last : past ≡ top 0 edges
  pub parts : bytes_of (ranges_between edges) ++ rest ≡ bytes

-- the range that has to be next, where the bytes are a list and there is more
pub record Next (past : ℕ) (rest : List ℕ) : Type 0 where
  pub range : Range
  pub others : List Range
  pub apart : AreApart past (range ∷ others)
  pub written : rest ≡ range_bytes range ++ bytes_of others

next_of : (past : ℕ) (rest : List ℕ) (ranges : List Range) → 0 < length rest → AreApart past ranges → rest ≡ bytes_of ranges → Next past rest
next_of past rest [] lt h e = let none : length rest ≡ 0 = ap (λ (xs : List ℕ). length xs) e in absurd (omega arith)
next_of past rest (range ∷ ranges) lt h e = record { range = range; others = ranges; apart = h; written = e }

pub next_range : (bytes edges rest rids : List ℕ) (past : ℕ) → Reads bytes edges past rest → 0 < length rest → Spells bytes rids → Next past rest
next_range bytes edges rest rids past reads lt spells =
    let read = ranges_between edges in
    let more = continues 0 0 read rest spells.ranges (AreApart-between 0 edges reads.sound.ascend) spells.apart (reads.parts ∙ spells.written) in
    let behind = AreApart-right 0 read more.others (subst (AreApart 0) more.is spells.apart) in
    let at : past_all 0 read ≡ past = past_all-between 0 edges reads.sound.ascend reads.sound.closed ∙ sym reads.last in
    next_of past rest more.others lt (rw at at behind) more.written

pub next_is_long : (past : ℕ) (rest : List ℕ) → Next past rest → 8 ≤ length rest
next_is_long past rest next =
    let len : length rest ≡ 8 + length (bytes_of next.others) = ap (λ (xs : List ℕ). length xs) next.written ∙ length-append (range_bytes next.range) (bytes_of next.others) in
    omega arith

-- the next range is the one that was read
pub next_fits : (past : ℕ) (rest range others : List ℕ) (first count : ℕ) → Next past rest → first < 2 ^ 32 → count < 2 ^ 32 → rest ≡ range ++ others → range ≡ range_bytes (record { first = first; count = count }) → (past < first) × (0 < count) × (first + count ≤ 2 ^ 31 + 1)
next_fits past rest range others first count next fits fits' parts is =
    let here : Range = record { first = first; count = count } in
    let same = front-same next.range here (bytes_of next.others) others (fits-apart past next.range next.others next.apart) (record { first = fits; count = fits' }) (sym next.written ∙ parts ∙ ap (λ (xs : List ℕ). xs ++ others) is) in
    let there = subst (λ (r : Range). (past < r.first) × (0 < r.count) × (r.first + r.count ≤ 2 ^ 31 + 1)) same.0 (next.apart.0, next.apart.1, next.apart.2) in
    there

pub reads_on : (bytes edges rest range others : List ℕ) (past first count : ℕ) → Reads bytes edges past rest → rest ≡ range ++ others → range ≡ range_bytes (record { first = first; count = count }) → past < first → 0 < count → first + count ≤ 2 ^ 31 + 1
    → Reads bytes (edges ++ first ∷ (first + count) ∷ []) (first + count) others
reads_on bytes edges rest range others past first count reads parts is above some limit =
    let at = reads.last in
    let more = pushed 0 edges first (first + count) reads.sound.ascend reads.sound.closed (omega arith) (omega arith) limit in
    let count_is : first + count - first ≡ count = omega arith in
    let here : List Range = record { first = first; count = count } ∷ [] in
    let ranges : ranges_between (edges ++ first ∷ (first + count) ∷ []) ≡ ranges_between edges ++ here = rw count_is at more.ranges in
    let last_bytes : bytes_of here ≡ range = append-nil (range_bytes (record { first = first; count = count })) ∙ sym is in
    let whole : bytes_of (ranges_between (edges ++ first ∷ (first + count) ∷ [])) ≡ bytes_of (ranges_between edges) ++ range = ap bytes_of ranges ∙ flat_map-append range_bytes (ranges_between edges) here ∙ ap (λ (xs : List ℕ). bytes_of (ranges_between edges) ++ xs) last_bytes in
    record {
      sound = record { ascend = more.ascend; closed = more.closed };
      last = more.last;
      parts = ap (λ (xs : List ℕ). xs ++ others) whole ∙ append_assoc (bytes_of (ranges_between edges)) range others ∙ ap (λ (xs : List ℕ). bytes_of (ranges_between edges) ++ xs) (sym parts) ∙ reads.parts;
    }

pub reads_none : (bytes edges : List ℕ) → edges ≡ [] → Reads bytes edges 0 bytes
reads_none bytes edges e = rw e (record { sound = record { ascend = tt; closed = refl }; last = refl; parts = refl })

pub reads_all : (bytes edges : List ℕ) (past : ℕ) → Reads bytes edges past [] → Spells bytes (rids_between edges)
reads_all bytes edges past reads = record {
  ranges = ranges_between edges;
  apart = AreApart-between 0 edges reads.sound.ascend;
  written = sym reads.parts ∙ append-nil (bytes_of (ranges_between edges));
  listed = refl;
}

-- what was written of the edges of a set is its list
pub record Written (rids bytes : List ℕ) : Type 0 where
  pub spells : Spells bytes rids
  pub spelling : bytes ≡ spelling rids

pub is_written : (edges rids bytes : List ℕ) → AreEdges edges → rids_between edges ≡ rids → bytes ≡ bytes_of (ranges_between edges) → Written rids bytes
is_written edges rids bytes h e written =
    let apart = AreApart-between 0 edges h.ascend in
    let ranges : ranges_of rids ≡ ranges_between edges = ap ranges_of (sym e) ∙ ranges_of-rids_of 0 (ranges_between edges) apart in
    record {
      spells = record { ranges = ranges_between edges; apart = apart; written = written; listed = sym e };
      spelling = written ∙ ap bytes_of (sym ranges);
    }
