-- What a copy leaves missing.
use Rattle.std.proofs.Common.{◌≡◌, ◌≤◌, ◌<◌, ℕ, suc, ◌+◌, ◌-◌, Bool, true, false, List, [], ◌∷◌, ◌++◌, length, take, drop, refl, sym, ◌∙◌, ap, arith}
use Rattle.std.specs.Prelude.{◌||◌, if◌then◌else◌, not, Option, Some}
use Rattle.std.proofs.lemmas.Bool.{cond-true, cond-false}
use Rattle.std.proofs.lemmas.List.{take-append-drop, length-drop, append-nil}
use Rattle.ov_model.specs.Lists.{joined}
use Rattle.ov_model.specs.Plans.{records_in, kept_pieces, missing_of, missing, current, copied_for, steps_for, target_steps, plan_steps_of}
use Rattle.ov_model.specs.Records.{Rec, is_same_rec, is_among, lacking, order_of}
use Rattle.ov_model.specs.World.{Target, Plan, Dataset, targets_from}
use Rattle.law_partitions.specs.Pieces.{rec_times, NoTwice, HaveNoRowTwice}
use Rattle.law_partitions.proofs.CountRuns.{from_at}
use Rattle.law_partitions.proofs.PieceLists.{append_assoc, joined-append}
use Rattle.law_partitions.proofs.PieceTimes.{times-filter, is_times, not_times, one_self, take_times, all_once}

-- ---- lacking some, and then others

or-assoc : (a b c : Bool) → (a || (b || c)) ≡ ((a || b) || c)
or-assoc true b c = refl
or-assoc false b c = refl

among-append : (a b : List Rec) (r : Rec) → is_among (a ++ b) r ≡ (is_among a r || is_among b r)
among-append [] b r = refl
among-append (x ∷ a) b r = ap (λ t. is_same_rec r x || t) (among-append a b r) ∙ or-assoc (is_same_rec r x) (is_among a r) (is_among b r)

lack_both : (t u s : Bool) (x : Rec) (l m b : List Rec) → is_among b x ≡ u → s ≡ (t || u) → l ≡ lacking m b
    → (if not s then x ∷ l else l) ≡ lacking (if not t then x ∷ m else m) b
lack_both true u s x l m b is e rest = ap (λ k. if not k then x ∷ l else l) e ∙ rest
lack_both false true s x l m b is e rest =
    ap (λ k. if not k then x ∷ l else l) e ∙ rest ∙ sym (cond-false (not (is_among b x)) (x ∷ lacking m b) (lacking m b) (ap not is))
lack_both false false s x l m b is e rest =
    ap (λ k. if not k then x ∷ l else l) e ∙ ap (λ k. x ∷ k) rest ∙ sym (cond-true (not (is_among b x)) (x ∷ lacking m b) (lacking m b) (ap not is))

lacking_both : (rs a b : List Rec) → lacking rs (a ++ b) ≡ lacking (lacking rs a) b
lacking_both [] a b = refl
lacking_both (x ∷ rs) a b =
    lack_both (is_among a x) (is_among b x) (is_among (a ++ b) x) x (lacking rs (a ++ b)) (lacking rs a) b refl (among-append a b x) (lacking_both rs a b)

lacking-append : (a b others : List Rec) → lacking (a ++ b) others ≡ lacking a others ++ lacking b others
lacking-append [] b others = refl
lacking-append (x ∷ a) b others = by (not (is_among others x)) (lacking-append a b others)
  where
    by : (t : Bool) → lacking (a ++ b) others ≡ lacking a others ++ lacking b others
        → (if t then x ∷ lacking (a ++ b) others else lacking (a ++ b) others) ≡ (if t then x ∷ lacking a others else lacking a others) ++ lacking b others
    by true e = ap (λ l. x ∷ l) e
    by false e = e

all_gone : (xs ys : List Rec) → ((r : Rec) → rec_times xs r ≤ rec_times ys r) → lacking xs ys ≡ []
all_gone [] ys within = refl
all_gone (x ∷ xs) ys within =
    cond-false (not (is_among ys x)) (x ∷ lacking xs ys) (lacking xs ys) (ap not (is_times ys x (omega (arith, within x, one_self x))))
    ∙ all_gone xs ys (λ r. omega (arith, within r))

none_gone : (xs ys : List Rec) → ((r : Rec) → rec_times xs r + rec_times ys r ≤ 1) → lacking xs ys ≡ xs
none_gone [] ys apart = refl
none_gone (x ∷ xs) ys apart =
    cond-true (not (is_among ys x)) (x ∷ lacking xs ys) (lacking xs ys) (ap not (not_times ys x (omega (arith, apart x, one_self x))))
    ∙ ap (λ l. x ∷ l) (none_gone xs ys (λ r. omega (arith, apart r)))

-- those that lack the first of them are those behind
lacking_front : (n : ℕ) (rs : List Rec) → NoTwice rs → lacking rs (take n rs) ≡ drop n rs
lacking_front n rs once =
    ap (λ l. lacking l (take n rs)) (sym (take-append-drop n rs))
    ∙ lacking-append (take n rs) (drop n rs) (take n rs)
    ∙ ap (λ l. l ++ lacking (drop n rs) (take n rs)) (all_gone (take n rs) (take n rs) (λ r. omega arith))
    ∙ none_gone (drop n rs) (take n rs) (λ r. omega (arith, take_times n rs r, once r))

joined-last : (a : List (List Rec)) (b : List Rec) → joined (a ++ b ∷ []) ≡ joined a ++ b
joined-last a b = joined-append a (b ∷ []) ∙ ap (λ l. joined a ++ l) (append-nil b)

module _ (d : Dataset) (t : Target) (copied : List (List Rec)) (rows : HaveNoRowTwice d.cvd.versions) where
  abbrev ours : List Rec
  ours = records_in d.cvd t.versions

  abbrev others : List Rec
  others = joined (kept_pieces d t) ++ joined copied

  abbrev lacked : List Rec
  lacked = missing_of d t copied

  pub missing_once : NoTwice lacked
  missing_once r =
      omega (arith, times-filter (λ x. not (is_among others x)) ours r, records_once r, all_once d.cvd.versions rows r)
    where
      records_once : (q : Rec) → rec_times ours q ≤ rec_times (order_of d.cvd.versions) q
      records_once q = times-filter _ (order_of d.cvd.versions) q

  missing_left : missing_of d t (copied ++ take 256 lacked ∷ []) ≡ drop 256 lacked
  missing_left =
      ap (λ l. lacking ours (joined (kept_pieces d t) ++ l)) (joined-last copied (take 256 lacked))
      ∙ ap (lacking ours) (sym (append_assoc (joined (kept_pieces d t)) (joined copied) (take 256 lacked)))
      ∙ lacking_both ours others (take 256 lacked)
      ∙ lacking_front 256 lacked missing_once

  fewer_steps : 0 < length lacked → steps_for (length (missing_of d t (copied ++ take 256 lacked ∷ []))) + 1 ≡ steps_for (length lacked)
  fewer_steps some =
      let left : length (missing_of d t (copied ++ take 256 lacked ∷ [])) ≡ length lacked - 256 = ap length missing_left ∙ length-drop 256 lacked
      in ap (λ n. steps_for n + 1) left ∙ one_less (length lacked) some
    where
      one_less : (n : ℕ) → 0 < n → steps_for (n - 256) + 1 ≡ steps_for n
      one_less n low = omega (arith, low)

same_steps : (d : Dataset) (plan : Option Plan) (ts : List Target) (copied : List (List Rec)) → target_steps (record d { plan = plan }) ts copied ≡ target_steps d ts copied
same_steps d plan [] copied = refl
same_steps d plan (t ∷ ts) copied = ap (λ n. steps_for (length (missing_of d t copied)) + n) (same_steps d plan ts [])

-- a copy is one step less
pub copied_steps : (d : Dataset) (plan : Plan) → plan.at < length plan.targets → HaveNoRowTwice d.cvd.versions → 0 < length (missing d plan)
    → plan_steps_of (record d { plan = copied_for d (Some plan) }) (copied_for d (Some plan)) + 1 ≡ plan_steps_of d (Some plan)
copied_steps d plan low rows some =
    let ts : List Target = targets_from plan.at plan.targets
    in let behind : List Target = targets_from (suc plan.at) plan.targets
    in let more : List (List Rec) = plan.copied ++ take 256 (missing d plan) ∷ []
    in let split : ts ≡ current plan ∷ behind = from_at plan.at plan.targets low
    in omega (
      arith,
      same_steps d (copied_for d (Some plan)) ts more,
      ap (λ l. target_steps d l more) split,
      ap (λ l. target_steps d l plan.copied) split,
      fewer_steps d (current plan) plan.copied rows some,
    )
