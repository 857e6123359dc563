-- The wanted records of segments, one segment after the other.
use Rattle.std.proofs.Common.{◌≡◌, ◌<◌, ◌≤◌, ◌+◌, ℕ, zero, suc, Bool, true, false, Result, Ok, Err, cond, List, [], ◌∷◌, ◌++◌, length, get_or, map, refl, sym, ◌∙◌, ap, subst, arith}
use mathlib.Core.Bool.{true≢false}
use Rattle.std.specs.Prelude.{IsErr, IsErrAnd, MatchResult}
use Rattle.std.specs.List.{filter, sum_by, AllByRecursion, Contains}
use Rattle.std.proofs.lemmas.List.{append-nil, map-append}
use Rattle.std.proofs.lemmas.List.Elements.{filter-append}
use Rattle.std.proofs.lemmas.List.Sums.{sum_by-append}
use Rattle.std.proofs.lemmas.Grind.{flat_map-append}
use Rattle.ov_host.specs.declared.area.Extent.{Extent}
use Rattle.ov_host.specs.Host.{State}
use Rattle.ov_member.specs.Rids.{has}
use Rattle.ov_value.specs.Shapes.{Shape}
use Rattle.ov_segment.specs.declared.numbered.Record.{Record}
use Rattle.ov_segment.specs.Segments.{AreRecords}
use Rattle.ov_fetch.specs.declared.errors.FetchErr.{FetchErr}
use Rattle.ov_fetch.specs.declared.errors.FetchErr.TheVariants.{Host, Memory, Damaged}
use Rattle.ov_fetch.specs.Extents.{Looked, page_bytes, rids_of, IsSegment, RefusesSegment}
use Rattle.ov_fetch.specs.Rows.{joined, AreSegments, HaveRids}
use Rattle.ov_fetch.specs.Gathering.{IsRecord, wanted_of, HasKept, AreWanted, RefusesSegments}
use Rattle.ov_fetch.proofs.Looks.{looked_at_all, looked_again, same_pages}

pub append_all : {X : Type 0} (P : X → Type 0) (xs ys : List X) → AllByRecursion P xs → AllByRecursion P ys → AllByRecursion P (xs ++ ys)
append_all P [] ys h k = k
append_all P (x ∷ xs) ys h k = (h.0, append_all P xs ys h.1 k)

pub filter_all : {X : Type 0} (P : X → Type 0) (test : X → Bool) (xs : List X) → AllByRecursion P xs → AllByRecursion P (filter test xs)
filter_all P test [] h = tt
filter_all {X = X} P test (x ∷ xs) h = by (test x) (filter test xs) h.0 (filter_all P test xs h.1)
  where
    by : (b : Bool) (ys : List X) → P x → AllByRecursion P ys → AllByRecursion P (cond b (x ∷ ys) ys)
    by true ys p k = (p, k)
    by false ys p k = k

pub are_records : (schema : Shape) (last : ℕ) (rs : List Record) → AreRecords schema last rs → AllByRecursion (IsRecord schema) rs
are_records schema last [] h = tt
are_records schema last (r ∷ rs) h = (record { above = omega (arith, h.0.above); below = h.0.below; row = h.0.row; small = h.0.small }, are_records schema r.rid rs h.1)

segments-push : (schema : Shape) (area : List ℕ) (segments : List Extent) (contents : List (List Record)) (s : Extent) (rs : List Record) → AreSegments schema area segments contents → IsSegment schema area s rs
    → AreSegments schema area (segments ++ s ∷ []) (contents ++ rs ∷ [])
segments-push schema area [] [] s rs h is = (is, tt)
segments-push schema area (x ∷ xs) (c ∷ cs) s rs h is = (h.0, segments-push schema area xs cs s rs h.1 is)
segments-push schema area [] (c ∷ cs) s rs h is = absurd h
segments-push schema area (x ∷ xs) [] s rs h is = absurd h

-- so many segments were read
pub record HasGathered (schema : Shape) (before now : State) (segments : List Extent) (wanted : List ℕ) (kept : List Record) (sets : List (List ℕ)) : Type 0 where
  pub looked : Looked before now
  pub fetched : now.fetched ≤ before.fetched + sum_by (λ e. e.bytes) segments
  pub sound : AllByRecursion (IsRecord schema) kept
  pub contents : List (List Record)
  pub kept_are : kept ≡ wanted_of wanted (joined contents)
  pub sets_are : sets ≡ map rids_of contents
  pub told : before.tells ≡ true → AreSegments schema (page_bytes before) segments contents

pub starts : (schema : Shape) (s : State) (wanted : List ℕ) (kept : List Record) (sets : List (List ℕ)) → kept ≡ [] → sets ≡ [] → HasGathered schema s s [] wanted kept sets
starts schema s wanted kept sets none no_sets = record {
  looked = looked_at_all s;
  fetched = omega arith;
  sound = subst (AllByRecursion (IsRecord schema)) (sym none) tt;
  contents = [];
  kept_are = none;
  sets_are = no_sets;
  told = λ told. tt;
}

joined-push : (contents : List (List Record)) (rs : List Record) → joined (contents ++ rs ∷ []) ≡ joined contents ++ rs
joined-push contents rs = flat_map-append (λ records. records) contents (rs ∷ []) ∙ ap (λ (l : List Record). joined contents ++ l) (append-nil rs)

pub goes_on : (schema : Shape) (s0 s1 s2 : State) (segments : List Extent) (segment : Extent) (wanted : List ℕ) (kept more : List Record) (sets : List (List ℕ)) (rids : List ℕ)
    → HasGathered schema s0 s1 segments wanted kept sets → Looked s1 s2 → s2.fetched ≤ s1.fetched + segment.bytes → HasKept schema s1 segment wanted kept more rids
    → HasGathered schema s0 s2 (segments ++ segment ∷ []) wanted more (sets ++ rids ∷ [])
goes_on schema s0 s1 s2 segments segment wanted kept more sets rids h looked fetched new = record {
  looked = looked_again s0 s1 s2 h.looked looked;
  fetched = omega (arith, h.fetched, fetched, sums);
  sound = subst (AllByRecursion (IsRecord schema)) (sym new.kept_are)
      (append_all (IsRecord schema) kept (wanted_of wanted new.read) h.sound (filter_all (IsRecord schema) (λ r. has wanted r.rid) new.read (are_records schema 0 new.read new.are)));
  contents = h.contents ++ new.read ∷ [];
  kept_are =
      new.kept_are ∙ ap (λ (l : List Record). l ++ wanted_of wanted new.read) h.kept_are
      ∙ sym (ap (wanted_of wanted) (joined-push h.contents new.read) ∙ filter-append (λ (r : Record). has wanted r.rid) (joined h.contents) new.read);
  sets_are = ap (λ (l : List (List ℕ)). l ++ rids ∷ []) h.sets_are ∙ ap (λ (r : List ℕ). map rids_of h.contents ++ r ∷ []) new.rids_are
      ∙ sym (map-append rids_of h.contents (new.read ∷ []));
  told = λ told. segments-push schema (page_bytes s0) segments h.contents segment new.read (h.told told)
      (subst (λ (a : List ℕ). IsSegment schema a segment new.read) (same_pages s0 s1 h.looked told) (new.told (h.looked.told ∙ told)));
}
  where
    sums : sum_by (λ e. e.bytes) (segments ++ segment ∷ []) ≡ sum_by (λ e. e.bytes) segments + (0 + segment.bytes)
    sums = sum_by-append (λ e. e.bytes) segments (segment ∷ [])

pub ends : (schema : Shape) (s0 s1 : State) (segments : List Extent) (wanted : List ℕ) (kept : List Record) (sets : List (List ℕ)) → HasGathered schema s0 s1 segments wanted kept sets → s0.tells ≡ true
    → AreWanted schema (page_bytes s0) segments wanted kept
ends schema s0 s1 segments wanted kept sets h told = record { contents = h.contents; read = h.told told; kept_are = h.kept_are }

pub all_rids : (schema : Shape) (s0 s1 : State) (segments : List Extent) (wanted : List ℕ) (kept : List Record) (sets : List (List ℕ)) → HasGathered schema s0 s1 segments wanted kept sets → s0.tells ≡ true
    → HaveRids schema (page_bytes s0) segments sets
all_rids schema s0 s1 segments wanted kept sets h told = record { contents = h.contents; read = h.told told; sets_are = h.sets_are }

pub same_default : {X : Type 0} (xs : List X) (i : ℕ) (d e : X) → i < length xs → get_or xs i d ≡ get_or xs i e
same_default [] i d e below = absurd (omega (arith, below))
same_default (x ∷ xs) zero d e below = refl
same_default (x ∷ xs) (suc i) d e below = same_default xs i d e (omega (arith, below))

pub is_among : {X : Type 0} (xs : List X) (i : ℕ) (d : X) → i < length xs → Contains xs (get_or xs i d)
is_among xs i d below = (i, below, same_default xs i (get_or xs i d) d below)

-- an error is passed on
pub passed_on : {X E : Type 0} (P : X → Type 0) (Q : E → Type 0) (r : Result X E) (e : E) → IsErr r × IsErrAnd r (λ x. x ≡ e) → Q e → MatchResult r P Q
passed_on P Q (Ok x) e h q = absurd (true≢false (sym h.0))
passed_on P Q (Err x) e h q = subst Q (sym h.1) q

-- one of them is off
pub stops : (schema : Shape) (s0 s1 : State) (segments some : List Extent) (segment : Extent) (wanted : List ℕ) (kept : List Record) (sets : List (List ℕ)) (e : FetchErr) → HasGathered schema s0 s1 some wanted kept sets → Contains segments segment
    → (s1.tells ≡ true → RefusesSegment e schema (page_bytes s1) segment) → s0.tells ≡ true → RefusesSegments e schema (page_bytes s0) segments
stops schema s0 s1 segments some segment wanted kept sets Host h among refuses told = tt
stops schema s0 s1 segments some segment wanted kept sets Memory h among refuses told = tt
stops schema s0 s1 segments some segment wanted kept sets (Damaged page) h among refuses told =
    let why = subst (λ (a : List ℕ). RefusesSegment (Damaged page) schema a segment) (same_pages s0 s1 h.looked told) (refuses (h.looked.told ∙ told)) in
    record { segment = segment; among = among; off = why.1; page_is = why.0 }
