-- Parents' records whose rows have columns more agree as they did.
use Rattle.std.proofs.Common.{◌≡◌, ℕ, List, [], ◌∷◌, ◌++◌, map, refl, sym, ◌∙◌, ap, subst, inl, inr}
use Rattle.std.specs.Prelude.{IsTrue}
use Rattle.ov_segment.specs.Tables.{longer}
use Rattle.ov_segment.specs.declared.numbered.Record.{Record}
use Rattle.ov_model.specs.Book.{Row, extended}
use Rattle.ov_model.specs.Lists.{IsIn, joined}
use Rattle.ov_model.specs.Records.{is_same_row}
use Rattle.ov_model.proofs.Widening.{joined_map, wide_same}
use Rattle.ov_records.specs.Records.{lists_of, pairs_of}
use Rattle.ov_catalog.specs.Applying.{rows_at}
use Rattle.ov_catalog.specs.Numbers.{SetNumbers}
use Rattle.law_commits.specs.Agreeing.{AreRids, EachAgrees, ParentsAgree}
use Rattle.law_commits.specs.Differing.{NoneDiffer, rids_of}

from_map : {A B : Type 0} (f : A → B) (xs : List A) (y : B) → IsIn (map f xs) y → (x : A) × IsIn xs x × (y ≡ f x)
from_map f [] y is = absurd is
from_map f (x ∷ xs) y (inl same) = (x, inl refl, same)
from_map f (x ∷ xs) y (inr later) = let found = from_map f xs y later in (found.0, inr found.1, found.2)

module _ (n : ℕ) where
  abbrev pub pair_longer : ℕ × Row → ℕ × Row
  pair_longer pair = (pair.0, extended n pair.1)

  pub same_rids : (records : List Record) → rids_of (map (longer n) records) ≡ rids_of records
  same_rids [] = refl
  same_rids (r ∷ records) = ap (λ rids. r.rid ∷ rids) (same_rids records)

  pub pairs_longer : (records : List Record) → pairs_of (map (longer n) records) ≡ map pair_longer (pairs_of records)
  pairs_longer [] = refl
  pairs_longer (r ∷ records) = ap (λ pairs. (r.rid, extended n r.row) ∷ pairs) (pairs_longer records)

  pub lists_longer : (parents : List (List Record)) → lists_of (map (map (longer n)) parents) ≡ map (map pair_longer) (lists_of parents)
  lists_longer [] = refl
  lists_longer (records ∷ parents) = λ i. pairs_longer records i ∷ lists_longer parents i

  none_longer : (pairs : List (ℕ × Row)) → NoneDiffer pairs → NoneDiffer (map pair_longer pairs)
  none_longer pairs none a b here there same =
      let x = from_map pair_longer pairs a here
      in let y = from_map pair_longer pairs b there
      in let same_rid : x.0.0 ≡ y.0.0 = sym (ap (λ (p : ℕ × Row). p.0) x.2) ∙ same ∙ ap (λ (p : ℕ × Row). p.0) y.2
      in (λ i. is_same_row (x.2 i).1 (y.2 i).1) ∙ wide_same n x.0.1 y.0.1 ∙ none x.0 y.0 x.1 y.1 same_rid

  each_longer : {L S : Type 0} (d : SetNumbers L S) (vids : List ℕ) (parents : List (List Record)) → EachAgrees d vids parents → EachAgrees d vids (map (map (longer n)) parents)
  each_longer d [] [] agrees = agrees
  each_longer d [] (records ∷ parents) agrees = agrees
  each_longer d (vid ∷ vids) [] agrees = agrees
  each_longer d (vid ∷ vids) (records ∷ parents) agrees =
      (subst (λ (rids : List ℕ). AreRids (rows_at d.versions vid) d.records rids) (sym (same_rids records)) agrees.0, each_longer d vids parents agrees.1)

  pub parents_longer : {L S : Type 0} (d : SetNumbers L S) (vids : List ℕ) (parents : List (List Record)) → ParentsAgree d vids parents → ParentsAgree d vids (map (map (longer n)) parents)
  parents_longer d vids parents agree = record {
    each = each_longer d vids parents agree.each;
    none_differ = subst NoneDiffer (sym (ap joined (lists_longer parents) ∙ joined_map pair_longer (lists_of parents))) (none_longer (joined (lists_of parents)) agree.none_differ);
  }
