-- The records that are asked for, out of those that were gathered.
use Rattle.std.proofs.Common.{inr, ◌≡◌, ◌<◌, ℕ, Bool, true, false, not, ◌&&◌, List, length, get_or, Option, Some, None, refl, sym, ◌∙◌, ap, subst}
use Rattle.std.specs.Prelude.{is_some}
use Rattle.std.specs.List.{dedup, AllByRecursion}
use Rattle.std.specs.List.Sorted.{IsPermutation, IsNonDecreasingBy, IsStableByKey}
use Rattle.std.specs.Ordering.{nat_cmp}
use Rattle.ov_host.specs.declared.area.Extent.{Extent}
use Rattle.ov_member.specs.Rids.{has, left_out}
use Rattle.ov_member.proofs.RidLemmas.{has-filter}
use Rattle.ov_value.specs.Shapes.{Shape}
use Rattle.ov_segment.specs.declared.numbered.Record.{Record}
use Rattle.ov_segment.specs.Segments.{AreRecords}
use Rattle.ov_fetch.specs.Extents.{rids_of}
use Rattle.ov_fetch.specs.Rows.{record_of, is_asked, joined, AreRows, IsDamage, LacksRecord}
use Rattle.ov_fetch.specs.Gathering.{IsAskedSet, IsRecord, AreWanted, SharesAt}
use Rattle.ov_fetch.proofs.Ordered.{is_same, in_order, same_after_dedup, same_after_sort, wanted_there, others_gone, has_record, sorted_all}
use Rattle.ov_fetch.proofs.Lacking.{get_at, get_below}

-- what becomes of gathered records by sorting them and dropping repeats
pub record AreSorted (kept got : List Record) : Type 0 where
  pub sorted : List Record
  pub permutation : IsPermutation kept sorted
  pub rising : IsNonDecreasingBy (λ r. r.rid) sorted
  pub stable : IsStableByKey (λ r. r.rid) nat_cmp kept sorted
  pub got_is : got ≡ dedup is_same sorted

pub sorted_are : (schema : Shape) (kept got : List Record) → AreSorted kept got → AllByRecursion (IsRecord schema) kept → AreRecords schema 0 got
sorted_are schema kept got s all = subst (AreRecords schema 0) (sym s.got_is) (in_order schema s.sorted s.rising (sorted_all schema kept s.sorted s.permutation all))

pub same_record : (rid : ℕ) (kept got : List Record) → AreSorted kept got → record_of got rid ≡ record_of kept rid
same_record rid kept got s = ap (λ (l : List Record). record_of l rid) s.got_is ∙ same_after_dedup rid s.sorted ∙ same_after_sort rid kept s.sorted s.stable

pub and_true : (a b : Bool) → (a && b) ≡ true → (a ≡ true) × (b ≡ true)
and_true true true e = (refl, refl)
and_true true false e = cc
and_true false b e = cc

pub not_false : (b : Bool) → not b ≡ false → b ≡ true
not_false true e = refl
not_false false e = cc

pub not_true : (b : Bool) → not b ≡ true → b ≡ false
not_true true e = cc
not_true false e = refl

both_true : (a b : Bool) → a ≡ true → (a && b) ≡ b
both_true true b e = refl
both_true false b e = cc

pub none_is : (o : Option Record) → is_some o ≡ false → o ≡ None
none_is None e = refl
none_is (Some r) e = cc

pub rows_are : (schema : Shape) (area : List ℕ) (segments : List Extent) (members : List (List ℕ)) (wanted : List ℕ) (kept got : List Record) (missing : List ℕ) → IsAskedSet members wanted → AreWanted schema area segments wanted kept
    → AreSorted kept got → missing ≡ left_out wanted (rids_of got) → ((rid : ℕ) → is_asked members rid ≡ true → has missing rid ≡ false) → AreRows schema area segments members got
rows_are schema area segments members wanted kept got missing set gathered sorted missing_is none = record {
  contents = gathered.contents;
  read = gathered.read;
  rows = record {
    asked = same;
    there = λ rid asked.
        let in_ : has wanted rid ≡ true = set.members_are rid ∙ asked in
        let out : (has wanted rid && not (has (rids_of got) rid)) ≡ false =
        sym (has-filter (λ x. not (has (rids_of got) x)) wanted rid) ∙ ap (λ (l : List ℕ). has l rid) (sym missing_is) ∙ none rid asked in
        let found : has (rids_of got) rid ≡ true = not_false (has (rids_of got) rid) (sym (both_true (has wanted rid) (not (has (rids_of got) rid)) in_) ∙ out) in
        ap is_some (sym (same rid asked)) ∙ sym (has_record rid got) ∙ found;
    others = λ rid other.
        same_record rid kept got sorted ∙ ap (λ (l : List Record). record_of l rid) gathered.kept_are ∙ others_gone wanted rid (joined gathered.contents) (set.members_are rid ∙ other);
  };
}
  where
    same : (rid : ℕ) → is_asked members rid ≡ true → record_of got rid ≡ record_of (joined gathered.contents) rid
    same rid asked =
        same_record rid kept got sorted ∙ ap (λ (l : List Record). record_of l rid) gathered.kept_are
        ∙ wanted_there wanted rid (joined gathered.contents) (set.members_are rid ∙ asked)

pub record_lacks : (schema : Shape) (area : List ℕ) (segments lists : List Extent) (members : List (List ℕ)) (wanted : List ℕ) (kept got : List Record) (missing : List ℕ) (place : ℕ) (d : Extent) → IsAskedSet members wanted
    → AreWanted schema area segments wanted kept → AreSorted kept got → missing ≡ left_out wanted (rids_of got) → SharesAt members missing place → length lists ≡ length members → LacksRecord schema area segments lists members (get_or lists place d).page
record_lacks schema area segments lists members wanted kept got missing place d set gathered sorted missing_is shares same_length =
    let both : (has wanted shares.rid ≡ true) × (not (has (rids_of got) shares.rid) ≡ true) =
    and_true (has wanted shares.rid) (not (has (rids_of got) shares.rid))
    (sym (has-filter (λ x. not (has (rids_of got) x)) wanted shares.rid) ∙ ap (λ (l : List ℕ). has l shares.rid) (sym missing_is) ∙ shares.lacking) in
    let none : record_of got shares.rid ≡ None = none_is (record_of got shares.rid) (sym (has_record shares.rid got) ∙ not_true (has (rids_of got) shares.rid) both.1) in
    let below : place < length lists = subst (λ n. place < n) (sym same_length) (get_below members place shares.rids shares.there) in
    record {
      contents = gathered.contents;
      read = gathered.read;
      place = place;
      list = get_or lists place d;
      rids = shares.rids;
      list_there = get_at lists place d below;
      rids_there = shares.there;
      rid = shares.rid;
      member = shares.member;
      lacking =
          sym (wanted_there wanted shares.rid (joined gathered.contents) both.0)
          ∙ ap (λ (l : List Record). record_of l shares.rid) (sym gathered.kept_are)
          ∙ sym (same_record shares.rid kept got sorted) ∙ none;
      page_is = refl;
    }

pub rows_lack : (schema : Shape) (area : List ℕ) (segments lists : List Extent) (members : List (List ℕ)) (wanted : List ℕ) (kept got : List Record) (missing : List ℕ) (place : ℕ) (d : Extent) → IsAskedSet members wanted
    → AreWanted schema area segments wanted kept → AreSorted kept got → missing ≡ left_out wanted (rids_of got) → SharesAt members missing place → length lists ≡ length members → IsDamage schema area segments lists members (get_or lists place d).page
rows_lack schema area segments lists members wanted kept got missing place d set gathered sorted missing_is shares same_length =
    inr (record_lacks schema area segments lists members wanted kept got missing place d set gathered sorted missing_is shares same_length)
