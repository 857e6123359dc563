-- The partitions of a plan that no commit came to: first those that wait, and then its flipped targets in order.
use Rattle.std.proofs.Common.{◌≡◌, ◌≤◌, ◌<◌, ℕ, zero, suc, ◌+◌, Bool, true, false, ◌==◌, List, [], ◌∷◌, ◌++◌, length, map, filter, take, refl, sym, ◌∙◌, ap, subst, inl, inr, arith, append_assoc}
use Rattle.std.specs.Prelude.{not, nat_lt, slice_index_or, if◌then◌else◌, Option, Some, None}
use Rattle.std.proofs.lemmas.List.{map-append}
use Rattle.std.proofs.lemmas.List.Elements.{filter-append}
use Rattle.std.proofs.lemmas.Bool.{cond-true, ltb-false, ne_eqb}
use Rattle.ov_model.specs.Lists.{IsIn}
use Rattle.ov_model.specs.Placed.{times}
use Rattle.ov_model.specs.Plans.{parts_at, current, no_target, leaving, left_parts, target_part, next_target, flipped_by}
use Rattle.ov_model.specs.World.{Part, Target, Plan, Dataset}
use Rattle.ov_model.proofs.Counting.{one_same}
use Rattle.law_partitions.specs.OldOrNew.{IsRunning, IsOld, IsNew}
use Rattle.law_partitions.specs.PlanEnds.{versions_of, listed_by, HasAllVersions, AreFlipped, IsSplitting, Splits}
use Rattle.law_partitions.proofs.OldMoves.{left_old, none_left, still_new, target_new}
use Rattle.law_partitions.proofs.OldTight.{in_left}
use Rattle.law_partitions.proofs.OldParts.{in_append, in_map, in_filter}

-- ---- a flip

take_more : (k : ℕ) (ts : List Target) → k < length ts → take (suc k) ts ≡ take k ts ++ slice_index_or ts k no_target ∷ []
take_more k [] low = absurd (omega (arith, low))
take_more zero (t ∷ ts) low = refl
take_more (suc k) (t ∷ ts) low = ap (λ l. t ∷ l) (take_more k ts (omega (arith, low)))

take_whole : (k : ℕ) (ts : List Target) → length ts ≤ k → take k ts ≡ ts
take_whole zero [] past = refl
take_whole (suc k) [] past = refl
take_whole zero (t ∷ ts) past = absurd (omega (arith, past))
take_whole (suc k) (t ∷ ts) past = ap (λ l. t ∷ l) (take_whole k ts (omega (arith, past)))

-- partitions that no version leaves
same_part : (moving : List ℕ) (part : Part) → (leaving moving part).versions ≡ part.versions → leaving moving part ≡ part
same_part moving part same = λ i. record part { versions = same i }

full_if : (versions : List ℕ) → 0 < length versions → not (length versions == 0) ≡ true
full_if [] some = absurd (omega (arith, some))
full_if (v ∷ versions) some = ap not (ne_eqb (length (v ∷ versions)) 0 (λ e. omega (arith, e)))

none_leave : (moving : List ℕ) (parts : List Part) → ((part : Part) → IsIn parts part → (leaving moving part).versions ≡ part.versions) → ((part : Part) → IsIn parts part → 0 < length part.versions)
    → left_parts moving parts ≡ parts
none_leave moving [] same some = refl
none_leave moving (part ∷ parts) same some =
    let here : leaving moving part ≡ part = same_part moving part (same part (inl refl))
    in let full : not (length (leaving moving part).versions == 0) ≡ true =
    ap (λ x. not (length x.versions == 0)) here ∙ full_if part.versions (some part (inl refl))
    in cond-true (not (length (leaving moving part).versions == 0)) (leaving moving part ∷ left_parts moving parts) (left_parts moving parts) full
    ∙ (λ i. here i ∷ none_leave moving parts (λ x is. same x (inr is)) (λ x is. some x (inr is)) i)

left-append : (moving : List ℕ) (a b : List Part) → left_parts moving (a ++ b) ≡ left_parts moving a ++ left_parts moving b
left-append moving a b =
    ap (filter (λ part. not (length part.versions == 0))) (map-append (leaving moving) a b)
    ∙ filter-append (λ part. not (length part.versions == 0)) (map (leaving moving) a) (map (leaving moving) b)

in_right : (a b : List Part) (part : Part) → IsIn b part → IsIn (a ++ b) part
in_right [] b part is = is
in_right (x ∷ a) b part is = inr (in_right a b part is)

module _ (d : Dataset) (plan : Plan) (runs : IsRunning plan) (some : (part : Part) → IsIn d.parts part → 0 < length part.versions) where
  abbrev moving : List ℕ
  moving = (current plan).versions

  pub flip_split : AreFlipped (Some plan) d.parts (listed_by (take plan.at plan.targets)) → AreFlipped (next_target plan) (flipped_by d (Some plan)).parts (listed_by (take (suc plan.at) plan.targets))
  flip_split is = record {
    olds = left_parts moving is.olds;
    news = is.news ++ target_part d plan ∷ [];
    are =
        ap (λ parts. left_parts moving parts ++ target_part d plan ∷ []) is.are
        ∙ ap (λ parts. parts ++ target_part d plan ∷ [])
        (left-append moving is.olds is.news ∙ ap (λ parts. left_parts moving is.olds ++ parts) (none_leave moving is.news (λ part there. none_left d plan runs part (is.new part there)) news_some))
        ∙ append_assoc (left_parts moving is.olds) is.news (target_part d plan ∷ []);
    old = λ part there.
        let full = in_filter (λ x. not (length x.versions == 0)) (map (leaving moving) is.olds) part there
        in let from = in_map (leaving moving) is.olds part full.0
        in subst (IsOld (next_target plan)) (sym from.2) (left_old d plan runs from.0 (is.old from.0 from.1));
    new = λ part there. elim (in_append is.news (target_part d plan ∷ []) part there) [
      | inl before ↦ still_new d plan runs part (is.new part before)
      | inr last ↦
          elim last [
            | inl same ↦ subst (IsNew (next_target plan)) (sym same) (target_new d plan runs)
            | inr none ↦ absurd none
          ]
    ];
    in_order =
        map-append (λ part. part.versions) is.news (target_part d plan ∷ [])
        ∙ ap (λ lists. lists ++ (current plan).versions ∷ []) is.in_order
        ∙ sym (ap listed_by (take_more plan.at plan.targets runs.waits) ∙ map-append (λ t. t.versions) (take plan.at plan.targets) (current plan ∷ []));
  }
    where
      news_some : (part : Part) → IsIn is.news part → 0 < length part.versions
      news_some part there = some part (subst (λ parts. IsIn parts part) (sym is.are) (in_right is.olds is.news part there))

  -- the plan goes on, or it ends
  abbrev next_if : Bool → Option Plan
  next_if t = if t then Some (record plan { at = plan.at + 1; copied = [] }) else None

  next_splits_if : (t : Bool) → (HasAllVersions d plan → IsSplitting d plan) → (HasAllVersions d plan → AreFlipped (next_if t) (flipped_by d (Some plan)).parts (listed_by (take (suc plan.at) plan.targets)))
      → Splits (record d { parts = left_parts moving d.parts ++ target_part d plan ∷ []; next_part = d.next_part + 1; plan = next_if t }) (next_if t)
  next_splits_if true splits flips = λ all. record {
    from_one = (splits all).from_one;
    up_to_q = (splits all).up_to_q;
    targets = (splits all).targets;
    flipped =
        (let one : suc plan.at ≡ plan.at + 1 = omega arith
        in subst (λ k. AreFlipped (next_if true) (flipped_by d (Some plan)).parts (listed_by (take k plan.targets))) one (flips all));
  }
  next_splits_if false splits flips = tt

  pub next_splits : (HasAllVersions d plan → IsSplitting d plan) → Splits (flipped_by d (Some plan)) (next_target plan)
  next_splits splits = next_splits_if (nat_lt (plan.at + 1) (length plan.targets)) splits (λ all. flip_split (splits all).flipped)

  -- after the last one nothing waits
  none_old : (olds : List Part) → ((part : Part) → IsIn olds part → IsOld None part) → ((part : Part) → IsIn olds part → 0 < length part.versions) → olds ≡ []
  none_old [] old full = refl
  none_old (part ∷ olds) old full = absurd (no_old part.versions (full part (inl refl)) (old part (inl refl)))
    where
      no_old : (versions : List ℕ) → 0 < length versions → ((vid : ℕ) → 1 ≤ times versions vid → false ≡ true) → ⊥
      no_old [] filled waits = absurd (omega (arith, filled))
      no_old (v ∷ versions) filled waits = clash (waits v (first v versions))
        where
          clash : false ≡ true → ⊥
          clash e = cc

          first : (v : ℕ) (versions : List ℕ) → 1 ≤ times (v ∷ versions) v
          first v versions = omega (arith, one_same v v refl)

  last_if : (t : Bool) → next_if t ≡ None → t ≡ false
  last_if true e = cc
  last_if false e = refl

  pub last_split : IsSplitting d plan → next_target plan ≡ None → ((part : Part) → IsIn (flipped_by d (Some plan)).parts part → 0 < length part.versions)
      → versions_of (flipped_by d (Some plan)).parts ≡ parts_at d plan.p plan.q
  last_split splits e full =
      let after : AreFlipped (next_target plan) (flipped_by d (Some plan)).parts (listed_by (take (suc plan.at) plan.targets)) = flip_split splits.flipped
      in let past : length plan.targets ≤ plan.at + 1 =
      ltb-false (plan.at + 1) (length plan.targets) (last_if (nat_lt (plan.at + 1) (length plan.targets)) e)
      in let empty : after.olds ≡ [] =
      none_old after.olds (λ part there. subst (λ p. IsOld p part) e (after.old part there))
      (λ part there. full part (subst (λ parts. IsIn parts part) (sym after.are) (in_left after.olds after.news part there)))
      in ap versions_of (after.are ∙ ap (λ olds. olds ++ after.news) empty)
      ∙ after.in_order
      ∙ ap listed_by (take_whole (suc plan.at) plan.targets (omega (arith, past)))
      ∙ splits.targets
