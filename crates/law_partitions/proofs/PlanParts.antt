-- The parts of a split have each version once, and none of them is empty.
use Rattle.std.proofs.Common.{◌≡◌, ◌≤◌, ◌<◌, ℕ, zero, suc, ◌+◌, ◌*◌, Bool, true, false, ◌==◌, List, [], ◌∷◌, ◌++◌, length, filter, refl, sym, ◌∙◌, ap, subst, inl, inr, arith, mul-zero}
use Rattle.std.specs.Prelude.{not, if◌then◌else◌, Some, None}
use Rattle.std.specs.List.{range_with_len}
use Rattle.std.proofs.lemmas.Bool.{cases_Bool, eqb-true, eq-eqb}
use Rattle.ov_graph.specs.Splits.{Cuts, whole, cut, cuts_within, cuts_of, leaves, next_cut_of, upper, lower, in_order, first_of, is_under}
use Rattle.ov_graph.specs.Trees.{VersionTree, vids, tree_of}
use Rattle.ov_graph.specs.Versions.{reduced}
use Rattle.ov_model.specs.Book.{Version}
use Rattle.ov_model.specs.Lists.{IsIn}
use Rattle.ov_model.specs.Placed.{times}
use Rattle.ov_model.specs.Plans.{graph_of, nodes_of_set, parts_at, targets_of}
use Rattle.ov_model.specs.Records.{Rec, records_of}
use Rattle.ov_model.specs.World.{Target, Dataset}
use Rattle.ov_model.proofs.Counting.{one_if, one_same, range_versions}
use Rattle.law_partitions.specs.Pieces.{target_times}

-- ---- a sum over lists, in the order of their first versions

pub same_eqb : (a b : ℕ) → (a == b) ≡ (b == a)
same_eqb a b =
    elim (cases_Bool (a == b)) [
      | inl same ↦ same ∙ sym (eq-eqb b a (sym (eqb-true a b same)))
      | inr other ↦
          elim (cases_Bool (b == a)) [
            | inl back ↦ absurd (clash (sym (eq-eqb a b (sym (eqb-true b a back))) ∙ other))
            | inr also ↦ other ∙ sym also
          ]
    ]
  where
    clash : true ≡ false → ⊥
    clash e = cc

abbrev pub total_by : (List ℕ → ℕ) → List (List ℕ) → ℕ
total_by f [] = 0
total_by f (vs ∷ vss) = f vs + total_by f vss

pub total-append : (f : List ℕ → ℕ) (a b : List (List ℕ)) → total_by f (a ++ b) ≡ total_by f a + total_by f b
total-append f [] b = omega arith
total-append f (vs ∷ a) b = omega (arith, total-append f a b)

abbrev pub keyed_by : (List ℕ → ℕ) → List ℕ → List (List ℕ) → ℕ
keyed_by f keys [] = 0
keyed_by f keys (vs ∷ vss) = times keys (first_of vs) * f vs + keyed_by f keys vss

keyed_if : (f : List ℕ → ℕ) (t u : Bool) (n m rest : ℕ) (vs : List ℕ) (vss : List (List ℕ)) → t ≡ u → total_by f vss + rest ≡ m
    → total_by f (if t then vs ∷ vss else vss) + (n * f vs + rest) ≡ (one_if u + n) * f vs + m
keyed_if f true true n m rest vs vss e is = let more : (1 + n) * f vs ≡ f vs + n * f vs = grind arith in omega (arith, is, more)
keyed_if f true false n m rest vs vss e is = cc
keyed_if f false true n m rest vs vss e is = cc
keyed_if f false false n m rest vs vss e is = let more : (0 + n) * f vs ≡ n * f vs = grind arith in omega (arith, is, more)

one_key : (f : List ℕ → ℕ) (k : ℕ) (keys : List ℕ) (vss : List (List ℕ)) → total_by f (filter (λ vs. first_of vs == k) vss) + keyed_by f keys vss ≡ keyed_by f (k ∷ keys) vss
one_key f k keys [] = omega arith
one_key f k keys (vs ∷ vss) =
    keyed_if f (first_of vs == k) (k == first_of vs) (times keys (first_of vs)) (keyed_by f (k ∷ keys) vss) (keyed_by f keys vss) vs (filter (λ x. first_of x == k) vss)
    (same_eqb (first_of vs) k) (one_key f k keys vss)

no_keys : (f : List ℕ → ℕ) (vss : List (List ℕ)) → keyed_by f [] vss ≡ 0
no_keys f [] = refl
no_keys f (vs ∷ vss) = let none : 0 * f vs ≡ 0 = omega arith in omega (arith, none, no_keys f vss)

pub order_total : (f : List ℕ → ℕ) (keys : List ℕ) (vss : List (List ℕ)) → total_by f (in_order first_of keys vss) ≡ keyed_by f keys vss
order_total f [] vss = sym (no_keys f vss)
order_total f (k ∷ keys) vss =
    omega (arith, total-append f (filter (λ vs. first_of vs == k) vss) (in_order first_of keys vss), order_total f keys vss, one_key f k keys vss)

-- how often a version is listed, over lists
abbrev pub list_times : List (List ℕ) → ℕ → ℕ
list_times vss vid = total_by (λ vs. times vs vid) vss

-- ---- a version is on one side of a cut

split_if : (t : Bool) (v vid : ℕ) (above below : List ℕ)
    → times (if not t then v ∷ above else above) vid + times (if t then v ∷ below else below) vid ≡ one_if (v == vid) + (times above vid + times below vid)
split_if true v vid above below = omega arith
split_if false v vid above below = omega arith

split_times : (p : ℕ → Bool) (vs : List ℕ) (vid : ℕ) → times (filter (λ v. not (p v)) vs) vid + times (filter p vs) vid ≡ times vs vid
split_times p [] vid = omega arith
split_times p (v ∷ vs) vid = omega (arith, split_if (p v) v vid (filter (λ x. not (p x)) vs) (filter p vs), split_times p vs vid)

leaves_times : (levels : ℕ) (tree : VersionTree) (p q : ℕ) (part : List ℕ) (vid : ℕ) → list_times (leaves (cuts_within levels tree p q part)) vid ≡ times part vid
unfolding cuts_within
leaves_times zero tree p q part vid = omega arith
leaves_times (suc levels) tree p q part vid =
    elim (next_cut_of tree p q part) as (λ o. list_times (leaves (elim o as (λ _. Cuts) [
      | None ↦ whole part
      | Some at ↦ cut at (cuts_within levels tree p q (upper tree at part)) (cuts_within levels tree p q (lower tree at part))
    ])) vid ≡ times part vid) [
      | None ↦ omega arith
      | Some at ↦ omega (
        arith,
        total-append (λ vs. times vs vid) (leaves (cuts_within levels tree p q (upper tree at part))) (leaves (cuts_within levels tree p q (lower tree at part))),
        leaves_times levels tree p q (upper tree at part) vid,
        leaves_times levels tree p q (lower tree at part) vid,
        split_times (λ version. is_under tree at version) part vid,
      )
    ]

-- where each of their versions is a key once
keyed_all : (keys : List ℕ) (vss : List (List ℕ)) (vid : ℕ) → ((v : ℕ) → 1 ≤ list_times vss v → times keys v ≡ 1) → keyed_by (λ vs. times vs vid) keys vss ≡ list_times vss vid
keyed_all keys [] vid one = refl
keyed_all keys ([] ∷ vss) vid one =
    let none : times keys 0 * 0 ≡ 0 = mul-zero (times keys 0)
    in omega (arith, none, keyed_all keys vss vid (λ v some. one v (omega (arith, some))))
keyed_all keys ((v ∷ vs) ∷ vss) vid one =
    let here : times keys v ≡ 1 = one v (omega (arith, one_same v v refl))
    in let single : times keys v * times (v ∷ vs) vid ≡ times (v ∷ vs) vid = ap (λ n. n * times (v ∷ vs) vid) here ∙ one_mul (times (v ∷ vs) vid)
    in omega (arith, single, keyed_all keys vss vid (λ x some. one x (omega (arith, some))))
  where
    one_mul : (n : ℕ) → 1 * n ≡ n
    one_mul n = omega arith

range_has : (n a vid : ℕ) → a ≤ vid → vid < a + n → 1 ≤ times (range_with_len a n) vid
range_has zero a vid from to = absurd (omega (arith, from, to))
range_has (suc n) a vid from to =
    elim (cases_Bool (a == vid)) [
      | inl same ↦ let one : one_if (a == vid) ≡ 1 = ap one_if same in omega (arith, one)
      | inr other ↦ omega (arith, range_has n (a + 1) vid (past a vid from other) (omega (arith, to)))
    ]
  where
    past : (a vid : ℕ) → a ≤ vid → (a == vid) ≡ false → a + 1 ≤ vid
    past a vid from other = grind (arith, from, other)

reduced_long : (vs : List Version) (done : List (List Rec)) → length (reduced (graph_of vs done)) ≡ length vs
reduced_long [] done = refl
reduced_long (v ∷ vs) done = ap (λ n. suc n) (reduced_long vs (done ++ records_of v done ∷ []))

pub nodes_long : (d : Dataset) → length (nodes_of_set d) ≡ length d.cvd.versions
nodes_long d = reduced_long d.cvd.versions []

pub vid_once : (count vid : ℕ) → 1 ≤ vid → vid ≤ count → times (vids count) vid ≡ 1
vid_once count vid from to = omega (arith, (range_versions count).once vid, range_has count 1 vid from (omega (arith, to)))

pub parts_times : (d : Dataset) (p q vid : ℕ) → list_times (parts_at d p q) vid ≡ times (vids (length d.cvd.versions)) vid
unfolding cuts_of
parts_times d p q vid =
    let size : ℕ = length (nodes_of_set d)
    in let pieces : List (List ℕ) = leaves (cuts_of (tree_of (nodes_of_set d)) p q (vids size))
    in let all : (v : ℕ) → list_times pieces v ≡ times (vids size) v = leaves_times (length (vids size)) (tree_of (nodes_of_set d)) p q (vids size)
    in order_total (λ vs. times vs vid) (vids size) pieces
    ∙ keyed_all (vids size) pieces vid (λ v some. omega (arith, (range_versions size).once v, all v, some))
    ∙ all vid
    ∙ ap (λ n. times (vids n) vid) (nodes_long d)

-- ---- no part is empty

abbrev pub AllFull : List (List ℕ) → Type 0
AllFull [] = Unit {0}
AllFull (vs ∷ vss) = (0 < length vs) × AllFull vss

full-append : (a b : List (List ℕ)) → AllFull a → AllFull b → AllFull (a ++ b)
full-append [] b full more = more
full-append (vs ∷ a) b full more = (full.0, full-append a b full.1 more)

full_if : (t : Bool) (vs : List ℕ) (vss : List (List ℕ)) → (t ≡ true → 0 < length vs) → AllFull vss → AllFull (if t then vs ∷ vss else vss)
full_if true vs vss full more = (full refl, more)
full_if false vs vss full more = more

first_full : (vs : List ℕ) (k : ℕ) → 1 ≤ k → (first_of vs == k) ≡ true → 0 < length vs
first_full [] k some same = absurd (omega (arith, some, eqb-true 0 k same))
first_full (v ∷ vs) k some same = omega arith

full_key : (k : ℕ) (vss : List (List ℕ)) → 1 ≤ k → AllFull (filter (λ vs. first_of vs == k) vss)
full_key k [] some = tt
full_key k (vs ∷ vss) some = full_if (first_of vs == k) vs (filter (λ x. first_of x == k) vss) (first_full vs k some) (full_key k vss some)

full_order : (keys : List ℕ) (vss : List (List ℕ)) → ((k : ℕ) → 1 ≤ times keys k → 1 ≤ k) → AllFull (in_order first_of keys vss)
full_order [] vss some = tt
full_order (k ∷ keys) vss some =
    full-append (filter (λ vs. first_of vs == k) vss) (in_order first_of keys vss)
    (full_key k vss (some k (omega (arith, one_same k k refl)))) (full_order keys vss (λ j listed. some j (omega (arith, listed))))

pub parts_full : (d : Dataset) (p q : ℕ) → AllFull (parts_at d p q)
parts_full d p q =
    let size : ℕ = length (nodes_of_set d)
    in full_order (vids size) (leaves (cuts_of (tree_of (nodes_of_set d)) p q (vids size))) (range_versions size).from_one

-- ---- the targets

pub targets_times : (d : Dataset) (vss : List (List ℕ)) (vid : ℕ) → target_times (targets_of d vss) vid ≡ list_times vss vid
targets_times d [] vid = refl
targets_times d (vs ∷ vss) vid = ap (λ n. times vs vid + n) (targets_times d vss vid)

pub targets_full : (d : Dataset) (vss : List (List ℕ)) → AllFull vss → (t : Target) → IsIn (targets_of d vss) t → 0 < length t.versions
targets_full d [] full t is = absurd is
targets_full d (vs ∷ vss) full t (inl same) = subst (λ l. 0 < length l) (λ i. (sym same i).versions) full.0
targets_full d (vs ∷ vss) full t (inr later) = targets_full d vss full.1 t later
