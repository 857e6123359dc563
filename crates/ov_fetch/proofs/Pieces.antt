-- Reading the bytes of an extent by pieces.
use Rattle.std.proofs.Common.{◌≡◌, ◌<◌, ◌≤◌, ◌+◌, ◌-◌, ◌*◌, ℕ, true, List, [], ◌++◌, length, take, drop, sym, ◌∙◌, ap, arith, append_assoc, length-take, length-drop}
use Rattle.std.proofs.lemmas.List.{take-append-drop, drop-take, take-take, drop-drop, drop_all, append-nil}
use Rattle.ov_host.specs.declared.area.Extent.{Extent}
use Rattle.ov_host.specs.Host.{State}
use Rattle.ov_pages.specs.Area.{Fetches}
use Rattle.ov_fetch.specs.Extents.{Looked, page_bytes, extent_bytes, IsWhole, IsShort}
use Rattle.ov_fetch.proofs.Looks.{looked_again, same_pages}

part : (at n b : ℕ) (ys : List ℕ) → at + n ≤ b → take n (drop at (take b ys)) ≡ take n (drop at ys)
part at n b ys h =
    let m : b ≡ at + (b - at) = omega arith in
    ap (λ k. take n (drop at (take k ys))) m ∙ ap (take n) (drop-take at (b - at) ys) ∙ take-take n (b - at) (drop at ys) (omega arith)

-- a piece is what stands next in the extent
pub record PieceOf (area : List ℕ) (e : Extent) (at n : ℕ) (new : List ℕ) : Type 0 where
  pub next : drop at (extent_bytes area e) ≡ take n new ++ drop (at + n) (extent_bytes area e)
  pub reach : at + n ≤ length (extent_bytes area e)
  pub below : at + n ≤ e.bytes

pub piece_of : (s : State) (e : Extent) (at n : ℕ) (old new : List ℕ) → Fetches e at n s old new → 0 < n → PieceOf (page_bytes s) e at n new
piece_of s e at n old new f some =
    let area : List ℕ = page_bytes s in
    let ys : List ℕ = drop (4096 * e.page) area in
    let below : at + n ≤ e.bytes = omega (arith, f.count) in
    let there : 4096 * e.page + at + n ≤ length area = omega (arith, f.count) in
    let same : take n (drop at (take e.bytes ys)) ≡ take n new = part at n e.bytes ys below ∙ ap (take n) (drop-drop at (4096 * e.page) area) ∙ sym f.bytes in
    record {
      next = sym (take-append-drop n (drop at (extent_bytes area e))) ∙ (λ i. same i ++ drop-drop n at (extent_bytes area e) i);
      reach = omega (arith, length-take e.bytes ys, length-drop (4096 * e.page) area, below, there);
      below = below;
    }

-- where a read gives nothing before the extent's end, the area has ended
pub short_of : (s : State) (e : Extent) (at n : ℕ) (old new : List ℕ) → Fetches e at n s old new → n ≡ 0 → at < e.bytes → 0 < length old → IsShort (page_bytes s) e
short_of s e at n old new f none more room =
    omega (arith, f.count, none, more, room, length-take e.bytes (drop (4096 * e.page) (page_bytes s)), length-drop (4096 * e.page) (page_bytes s))

pub extent-length : (area : List ℕ) (e : Extent) → length (extent_bytes area e) ≤ e.bytes
extent-length area e = omega (arith, length-take e.bytes (drop (4096 * e.page) area))

-- how far the reading of an extent has come
pub record IsReading (before now : State) (e : Extent) (read : ℕ) (bytes : List ℕ) : Type 0 where
  pub looked : Looked before now
  pub fetched : now.fetched ≤ before.fetched + read
  pub below : read ≤ e.bytes
  pub sofar : before.tells ≡ true → extent_bytes (page_bytes before) e ≡ bytes ++ drop read (extent_bytes (page_bytes before) e)
  pub reached : before.tells ≡ true → read ≤ length (extent_bytes (page_bytes before) e)

pub goes_on : (s0 s1 s2 : State) (e : Extent) (read n : ℕ) (bytes old new : List ℕ) → IsReading s0 s1 e read bytes → Looked s1 s2 → s2.fetched ≤ s1.fetched + n → read + n ≤ e.bytes
    → 0 < n → (s1.tells ≡ true → Fetches e read n s1 old new) → IsReading s0 s2 e (read + n) (bytes ++ take n new)
goes_on s0 s1 s2 e read n bytes old new is looked fetched below some fetches = record {
  looked = looked_again s0 s1 s2 is.looked looked;
  fetched = omega (arith, is.fetched, fetched);
  below = below;
  sofar = λ told.
      let area : List ℕ = page_bytes s0 in
      let same : page_bytes s1 ≡ area = same_pages s0 s1 is.looked told in
      let p = piece_of s1 e read n old new (fetches (is.looked.told ∙ told)) some in
      let next : drop read (extent_bytes area e) ≡ take n new ++ drop (read + n) (extent_bytes area e) =
      ap (λ (a : List ℕ). drop read (extent_bytes a e)) (sym same) ∙ p.next ∙ ap (λ (a : List ℕ). take n new ++ drop (read + n) (extent_bytes a e)) same in
      is.sofar told ∙ ap (λ (l : List ℕ). bytes ++ l) next ∙ sym (append_assoc bytes (take n new) (drop (read + n) (extent_bytes area e)));
  reached = λ told.
      let same : page_bytes s1 ≡ page_bytes s0 = same_pages s0 s1 is.looked told in
      let p = piece_of s1 e read n old new (fetches (is.looked.told ∙ told)) some in
      omega (arith, p.reach, ap (λ (a : List ℕ). length (extent_bytes a e)) same);
}

pub record IsRead (area : List ℕ) (e : Extent) (bytes : List ℕ) : Type 0 where
  pub whole : IsWhole area e
  pub all : bytes ≡ extent_bytes area e

-- all of it was read
pub at_end : (s0 s1 : State) (e : Extent) (read : ℕ) (bytes : List ℕ) → IsReading s0 s1 e read bytes → e.bytes ≤ read → s0.tells ≡ true → IsRead (page_bytes s0) e bytes
at_end s0 s1 e read bytes is ended told =
    let area : List ℕ = page_bytes s0 in
    let long : length (extent_bytes area e) ≤ e.bytes = extent-length area e in
    let none : drop read (extent_bytes area e) ≡ [] = drop_all read (extent_bytes area e) (omega (arith, long, ended)) in
    record {
      whole = omega (arith, long, is.reached told, ended);
      all = sym (is.sofar told ∙ ap (λ (l : List ℕ). bytes ++ l) none ∙ append-nil bytes);
    }

-- the area ended before it
pub ends_early : (s0 s1 : State) (e : Extent) (read n : ℕ) (bytes old new : List ℕ) → IsReading s0 s1 e read bytes → (s1.tells ≡ true → Fetches e read n s1 old new) → n ≡ 0 → read < e.bytes
    → 0 < length old → s0.tells ≡ true → IsShort (page_bytes s0) e
ends_early s0 s1 e read n bytes old new is fetches none more room told =
    let same : page_bytes s1 ≡ page_bytes s0 = same_pages s0 s1 is.looked told in
    omega (arith, short_of s1 e read n old new (fetches (is.looked.told ∙ told)) none more room, ap (λ (a : List ℕ). length (extent_bytes a e)) same)
