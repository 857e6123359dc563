-- Where as many records were found as rids are wanted, each of these has its record.
use Rattle.std.proofs.Common.{◌≡◌, ◌≤◌, ℕ, suc, Bool, true, false, not, ◌&&◌, cond, List, [], ◌∷◌, length, refl, sym, ◌∙◌, ap, arith}
use Rattle.std.specs.Prelude.{filter, is_some}
use Rattle.std.proofs.lemmas.List.{length-map}
use Rattle.ov_member.specs.Rids.{AreRids, has, left_out}
use Rattle.ov_member.proofs.RidLemmas.{RiseFrom-filter, has-filter, same_from}
use Rattle.ov_value.specs.Shapes.{Shape}
use Rattle.ov_segment.specs.declared.numbered.Record.{Record}
use Rattle.ov_segment.specs.Segments.{AreRecords}
use Rattle.ov_segment.proofs.WrittenLemmas.{records_ascend}
use Rattle.ov_fetch.specs.Extents.{rids_of}
use Rattle.ov_fetch.specs.Rows.{record_of}
use Rattle.ov_fetch.specs.Gathering.{wanted_of}
use Rattle.ov_fetch.proofs.Asked.{AreSorted, same_record}
use Rattle.ov_fetch.proofs.Ordered.{has_record, others_gone}
use Rattle.ov_fetch.proofs.Running.{ascend_rise}

pub filtered_le : {X : Type 0} (p : X → Bool) (xs : List X) → length (filter p xs) ≤ length xs
filtered_le p [] = omega arith
filtered_le {X = X} p (x ∷ xs) = by (p x) (filter p xs) (filtered_le p xs)
  where
    by : (b : Bool) (ys : List X) → length ys ≤ length xs → length (cond b (x ∷ ys) ys) ≤ suc (length xs)
    by true ys le = omega (arith, le)
    by false ys le = omega (arith, le)

-- a filter that keeps as many keeps all
pub kept_all : {X : Type 0} (p : X → Bool) (xs : List X) → length (filter p xs) ≡ length xs → filter p xs ≡ xs
kept_all p [] e = refl
kept_all {X = X} p (x ∷ xs) e = by (p x) (filter p xs) (filtered_le p xs) (λ same. kept_all p xs same) e
  where
    by : (b : Bool) (ys : List X) → length ys ≤ length xs → (length ys ≡ length xs → ys ≡ xs) → length (cond b (x ∷ ys) ys) ≡ suc (length xs) → cond b (x ∷ ys) ys ≡ x ∷ xs
    by true ys le rest same = ap (λ (l : List X). x ∷ l) (rest (omega (arith, same)))
    by false ys le rest same = absurd (omega (arith, le, same))

and_turned : (a b : Bool) → (a && b) ≡ (b && a)
and_turned true true = refl
and_turned true false = refl
and_turned false true = refl
and_turned false false = refl

-- of two sets, the ones of the first that the second has are the ones of the second that the first has
pub turned : (xs ys : List ℕ) → AreRids xs → AreRids ys → filter (has ys) xs ≡ filter (has xs) ys
turned xs ys h k =
    same_from 1 1 (filter (has ys) xs) (filter (has xs) ys) (RiseFrom-filter (has ys) 1 xs h) (RiseFrom-filter (has xs) 1 ys k)
    (λ n. has-filter (has ys) xs n ∙ (and_turned (has xs n) (has ys n) ∙ sym (has-filter (has xs) ys n)))

pub ascending : (schema : Shape) (got : List Record) → AreRecords schema 0 got → AreRids (rids_of got)
ascending schema got are = ascend_rise 0 (rids_of got) (records_ascend schema 0 got are)

-- a rid that isn't wanted has no record
only_wanted : (wanted : List ℕ) (all kept got : List Record) (rid : ℕ) → AreSorted kept got → kept ≡ wanted_of wanted all → (has (rids_of got) rid && has wanted rid) ≡ has (rids_of got) rid
only_wanted wanted all kept got rid sorted kept_are = by (has wanted rid) refl
  where
    by : (b : Bool) → has wanted rid ≡ b → (has (rids_of got) rid && b) ≡ has (rids_of got) rid
    by true e = whole (has (rids_of got) rid)
      where
        whole : (a : Bool) → (a && true) ≡ a
        whole true = refl
        whole false = refl
    by false e =
        let none : has (rids_of got) rid ≡ false =
        has_record rid got ∙ ap is_some (same_record rid kept got sorted ∙ (ap (λ (l : List Record). record_of l rid) kept_are ∙ others_gone wanted rid all e)) in
        ap (λ (a : Bool). a && false) none ∙ sym none

pub none_missing : (schema : Shape) (wanted : List ℕ) (all kept got : List Record) → AreRids wanted → AreRecords schema 0 got → AreSorted kept got → kept ≡ wanted_of wanted all → length got ≡ length wanted
    → (rid : ℕ) → has wanted rid ≡ true → has (left_out wanted (rids_of got)) rid ≡ false
none_missing schema wanted all kept got set are sorted kept_are count rid asked =
    has-filter (λ x. not (has (rids_of got) x)) wanted rid ∙ ap (λ (b : Bool). has wanted rid && not b) found ∙ ap (λ (b : Bool). b && false) asked
  where
    up : AreRids (rids_of got)
    up = ascending schema got are

    -- each of the records is wanted
    mine : filter (has wanted) (rids_of got) ≡ rids_of got
    mine =
        same_from 1 1 (filter (has wanted) (rids_of got)) (rids_of got) (RiseFrom-filter (has wanted) 1 (rids_of got) up) up
        (λ n. has-filter (has wanted) (rids_of got) n ∙ only_wanted wanted all kept got n sorted kept_are)

    whole : filter (has (rids_of got)) wanted ≡ wanted
    whole =
        kept_all (has (rids_of got)) wanted
        (ap length (sym (turned (rids_of got) wanted up set) ∙ mine) ∙ (length-map got (λ (r : Record). r.rid) ∙ count))

    both : (a b : Bool) → a ≡ true → (a && b) ≡ a → b ≡ true
    both true true e f = refl
    both true false e f = f
    both false b e f = cc

    found : has (rids_of got) rid ≡ true
    found =
        both (has wanted rid) (has (rids_of got) rid) asked (sym (has-filter (has (rids_of got)) wanted rid) ∙ ap (λ (l : List ℕ). has l rid) whole)
