-- Segments of a partition, one after another, and the partition that they make.
use Rattle.std.proofs.Common.{◌≡◌, ◌<◌, ◌≤◌, ◌+◌, ◌*◌, ◌⊎◌, ℕ, suc, true, List, [], ◌∷◌, ◌++◌, length, take, get_or, map, refl, sym, ◌∙◌, ap, subst, inl, inr, arith}
use Rattle.std.specs.List.{All, Contains}
use Rattle.std.proofs.lemmas.List.{length-append, map-append}
use Rattle.std.proofs.lemmas.List.Elements.{All-cons, All-nil, All-push}
use Rattle.std.proofs.lemmas.List.Sums.{sum_by_more_le, sum_by_push}
use Rattle.ov_fetch.specs.declared.errors.FetchErr.{FetchErr}
use Rattle.ov_fetch.specs.declared.errors.FetchErr.TheVariants.{Host, Memory, Damaged}
use Rattle.ov_fetch.specs.Extents.{HasRids, IsSegment, Looked, RefusesSegment, page_bytes, rids_of}
use Rattle.ov_fetch.specs.Gathering.{RefusesSegments}
use Rattle.ov_fetch.specs.Rows.{AreSegments, HaveRids}
use Rattle.ov_fetch.proofs.Looks.{looked_again, looked_at_all, same_pages}
use Rattle.ov_host.specs.declared.area.Extent.{Extent}
use Rattle.ov_host.specs.Extent.{pages_of}
use Rattle.ov_host.specs.Host.{State}
use Rattle.ov_member.specs.Rids.{AreRids}
use Rattle.ov_segment.specs.declared.numbered.Record.{Record}
use Rattle.ov_value.specs.Shapes.{Shape}
use Rattle.ov_read.specs.Agreement.{PartAgrees}
use Rattle.ov_read.specs.Damages.{PartDisagrees}
use Rattle.ov_read.specs.Sizes.{pages_in}
use Rattle.ov_read.proofs.Listing.{bytes_below}
use Rattle.ov_optimize.specs.Damages.{HasEmptySegment}
use Rattle.ov_optimize.specs.Reading.{AreFilled}

segments_push : (schema : Shape) (area : List ℕ) (segments : List Extent) (contents : List (List Record)) (e : Extent) (rs : List Record) → AreSegments schema area segments contents
    → IsSegment schema area e rs → AreSegments schema area (segments ++ e ∷ []) (contents ++ rs ∷ [])
segments_push schema area [] [] e rs are is = (is, tt)
segments_push schema area (x ∷ xs) (c ∷ cs) e rs are is = (are.0, segments_push schema area xs cs e rs are.1 is)
segments_push schema area [] (c ∷ cs) e rs are is = absurd are
segments_push schema area (x ∷ xs) [] e rs are is = absurd are

-- so many were read
pub record HasSets (before now : State) (schema : Shape) (segments : List Extent) (sets : List (List ℕ)) : Type 0 where
  pub looked : Looked before now
  pub fetched : now.fetched ≤ before.fetched + 4096 * pages_in segments
  pub count : length sets ≡ length segments
  pub rids : All AreRids sets
  pub told : before.tells ≡ true → HaveRids schema (page_bytes before) segments sets

pub starts : (at : State) (schema : Shape) (sets : List (List ℕ)) → sets ≡ [] → HasSets at at schema [] sets
starts at schema sets none = record {
  looked = looked_at_all at;
  fetched = omega arith;
  count = ap length none;
  rids = subst (All AreRids) (sym none) (All-nil AreRids);
  told = λ told. record { contents = []; read = tt; sets_are = none };
}

pub goes_on : (s0 s1 s2 : State) (schema : Shape) (segments : List Extent) (segment : Extent) (sets : List (List ℕ)) (rids : List ℕ) → HasSets s0 s1 schema segments sets
    → Looked s1 s2 → s2.fetched ≤ s1.fetched + segment.bytes → AreRids rids → (s1.tells ≡ true → HasRids schema (page_bytes s1) segment rids)
    → HasSets s0 s2 schema (segments ++ segment ∷ []) (sets ++ rids ∷ [])
goes_on s0 s1 s2 schema segments segment sets rids h looked fetched set has = record {
  looked = looked_again s0 s1 s2 h.looked looked;
  fetched = omega (arith, h.fetched, fetched, sum_by_push pages_of segments segment, bytes_below segment.bytes);
  count = length-append sets (rids ∷ []) ∙ ap (λ n. n + 1) h.count ∙ sym (length-append segments (segment ∷ []));
  rids = All-push AreRids sets rids h.rids set;
  told = λ told.
      let before = h.told told in
      let new = subst (λ (a : List ℕ). HasRids schema a segment rids) (same_pages s0 s1 h.looked told) (has (h.looked.told ∙ told)) in
      record {
        contents = before.contents ++ new.records ∷ [];
        read = segments_push schema (page_bytes s0) segments before.contents segment new.records before.read new.stands;
        sets_are = ap (λ (l : List (List ℕ)). l ++ rids ∷ []) before.sets_are ∙ ap (λ (r : List ℕ). map rids_of before.contents ++ r ∷ []) new.rids_are
            ∙ sym (map-append rids_of before.contents (new.records ∷ []));
      };
}

pub stops : (s0 s1 : State) (schema : Shape) (segments some : List Extent) (segment : Extent) (sets : List (List ℕ)) (e : FetchErr) → HasSets s0 s1 schema some sets → Contains segments segment
    → (s1.tells ≡ true → RefusesSegment e schema (page_bytes s1) segment) → s0.tells ≡ true → RefusesSegments e schema (page_bytes s0) segments
stops s0 s1 schema segments some segment sets Host h among refuses told = tt
stops s0 s1 schema segments some segment sets Memory h among refuses told = tt
stops s0 s1 schema segments some segment sets (Damaged page) h among refuses told =
    let why = subst (λ (a : List ℕ). RefusesSegment (Damaged page) schema a segment) (same_pages s0 s1 h.looked told) (refuses (h.looked.told ∙ told)) in
    record { segment = segment; among = among; off = why.1; page_is = why.0 }

-- what was read so far and one segment more are no more than all of them
pub within : (segments : List Extent) (k before now more : ℕ) (d : Extent) → k < length segments → now ≤ before + 4096 * pages_in (take k segments)
    → more ≤ now + (get_or segments k d).bytes → more ≤ before + 4096 * pages_in segments
within segments k before now more d low h one = omega (arith, h, one, sum_by_more_le pages_of segments k d low, bytes_below (get_or segments k d).bytes)

-- so far no more than all of them
pub so_far : (segments : List Extent) (k before now : ℕ) (d : Extent) → k < length segments → now ≤ before + 4096 * pages_in (take k segments) → now ≤ before + 4096 * pages_in segments
so_far segments k before now d low h = omega (arith, h, sum_by_more_le pages_of segments k d low)

-- ---- sets that are off

abbrev HasSome : List ℕ → Type 0
HasSome rids = 1 ≤ length rids

filled_or_not : (contents : List (List Record)) → AreFilled (map rids_of contents) ⊎ Contains contents []
filled_or_not [] = inl (All-nil HasSome)
filled_or_not ([] ∷ cs) = inr (0, omega arith, refl)
filled_or_not ((r ∷ rs) ∷ cs) = elim (filled_or_not cs) [
  | inl filled ↦ inl (All-cons HasSome (rids_of (r ∷ rs)) (map rids_of cs) (omega arith) filled)
  | inr empty ↦ inr (suc empty.0, omega (arith, empty.1), empty.2)
]

pub sets_off : (schema : Shape) (area : List ℕ) (segments : List Extent) (count last : ℕ) (sets : List (List ℕ)) → HaveRids schema area segments sets
    → ((AreFilled sets × PartAgrees count last sets) → ⊥) → PartDisagrees schema area segments count last ⊎ HasEmptySegment schema area segments
sets_off schema area segments count last sets have not_both = elim (filled_or_not have.contents) [
  | inl filled ↦ inl (record {
    contents = have.contents;
    read = have.read;
    off = λ agrees. not_both (subst AreFilled (sym have.sets_are) filled, subst (PartAgrees count last) (sym have.sets_are) agrees);
  })
  | inr empty ↦ inr (record { contents = have.contents; read = have.read; empty = empty })
]
