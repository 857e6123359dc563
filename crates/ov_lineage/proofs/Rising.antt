-- Ascending lists with the same members are the same, and so the relatives that are found are those that are defined.
use Rattle.std.proofs.Common.{◌≡◌, ◌≤◌, ◌<◌, ◌↔◌, ℕ, zero, suc, ◌+◌, ◌-◌, Bool, false, List, [], ◌∷◌, length, filter, if◌then◌else◌, get_or, refl, sym, ◌∙◌, ap, subst, inl, inr, arith}
use Rattle.std.specs.Prelude.{◌==◌, Result, Ok, Err, IfOk, replicate}
use Rattle.std.specs.List.{Contains, list_any, range_with_len}
use Rattle.std.specs.List.Sorted.{IsStrictlyIncreasing}
use Rattle.std.proofs.lemmas.List.{length-map}
use Rattle.ov_graph.specs.Entries.{marked_vids}
use Rattle.ov_graph.specs.Versions as graph
use Rattle.ov_graph.proofs.VidLemmas.{Rises, Rises-filter, increases}
use Rattle.ov_model.specs.Book.{Cvd}
use Rattle.ov_model.specs.Descent.{IsRelated}
use Rattle.ov_model.specs.Known.{version_like}
use Rattle.ov_model.specs.Lineages.{parents_at, is_relative}
use Rattle.ov_model.specs.Lists.{IsIn}
use Rattle.ov_model.specs.Records.{counted}
use Rattle.ov_model.specs.declared.query.LineageKind.{LineageKind}
use Rattle.ov_model.specs.declared.query.LineageKind.TheVariants.{Parents, Ancestors, Descendants}
use Rattle.ov_model.proofs.Descents.{relatives-are}
use Rattle.ov_lineage.specs.Bare.{bare_graph}
use Rattle.ov_lineage.specs.Related.{AreParents, relatives_by, versions_with}
use Rattle.ov_lineage.proofs.Ranges.{in-graph, related-range}

-- ---- ascending lists

above-all : (low : ℕ) (xs : List ℕ) (v : ℕ) → Rises low xs → IsIn xs v → low < v
above-all low [] v rises is = absurd is
above-all low (x ∷ xs) v rises (inl here) = subst (λ (k : ℕ). low < k) (sym here) rises.0
above-all low (x ∷ xs) v rises (inr later) = let more = above-all x xs v rises.1 later in let first = rises.0 in omega arith

first-same : (x y : ℕ) (xs ys : List ℕ) → Rises x xs → Rises y ys → IsIn (y ∷ ys) x → IsIn (x ∷ xs) y → x ≡ y
first-same x y xs ys a b (inl e) back = e
first-same x y xs ys a b (inr later) (inl e) = sym e
first-same x y xs ys a b (inr later) (inr more) = let p = above-all y ys x b later in let q = above-all x xs y a more in absurd (omega arith)

rest-in : (x y : ℕ) (xs ys : List ℕ) (v : ℕ) → x ≡ y → Rises x xs → IsIn xs v → IsIn (y ∷ ys) v → IsIn ys v
rest-in x y xs ys v first a is (inl e) = let p = above-all x xs v a is in absurd (omega arith)
rest-in x y xs ys v first a is (inr later) = later

pub same-rising : (low : ℕ) (xs ys : List ℕ) → Rises low xs → Rises low ys → ((v : ℕ) → IsIn xs v → IsIn ys v) → ((v : ℕ) → IsIn ys v → IsIn xs v) → xs ≡ ys
same-rising low [] [] a b there back = refl
same-rising low [] (y ∷ ys) a b there back = absurd (back y (inl refl))
same-rising low (x ∷ xs) [] a b there back = absurd (there x (inl refl))
same-rising low (x ∷ xs) (y ∷ ys) a b there back =
    let first : x ≡ y = first-same x y xs ys a.1 b.1 (there x (inl refl)) (back y (inl refl)) in
    let rest : xs ≡ ys = same-rising x xs ys a.1 (subst (λ (k : ℕ). Rises k ys) (sym first) b.1)
    (λ v is. rest-in x y xs ys v first a.1 is (there v (inr is)))
    (λ v is. rest-in y x ys xs v (sym first) b.1 is (back v (inr is))) in
    λ i. first i ∷ rest i

contains-in : (xs : List ℕ) (v : ℕ) → Contains xs v → IsIn xs v
contains-in [] v (k, lt, e) = absurd (omega arith)
contains-in (x ∷ xs) v (zero, lt, e) = inl (sym e)
contains-in (x ∷ xs) v (suc k, lt, e) = inr (contains-in xs v (k, omega arith, e))

in-contains : (xs : List ℕ) (v : ℕ) → IsIn xs v → Contains xs v
in-contains [] v is = absurd is
in-contains (x ∷ xs) v (inl here) = (0, omega arith, sym here)
in-contains (x ∷ xs) v (inr later) = let more = in-contains xs v later in (suc more.0, (let lt = more.1 in omega arith), more.2)

rises-next : (x : ℕ) (xs : List ℕ) → IsStrictlyIncreasing (x ∷ xs) → Rises x xs
rises-next x [] up = tt
rises-next x (y ∷ ys) up =
    (up 0 (omega arith), rises-next y ys (λ k lt. let next = up (suc k) (omega arith) in let s : suc k + 1 ≡ suc (k + 1) = omega arith in rw s at next))

rises-all : (xs : List ℕ) → IsStrictlyIncreasing xs → ((v : ℕ) → IsIn xs v → 1 ≤ v) → Rises 0 xs
rises-all [] up one = tt
rises-all (x ∷ xs) up one = (one x (inl refl), rises-next x xs up)

rises-counted : (low from count : ℕ) → low < from → Rises low (counted from count)
rises-counted low from zero lt = tt
rises-counted low from (suc count) lt = (lt, rises-counted from (from + 1) count (omega arith))

pub rises-relatives : (parents : List (List ℕ)) (kind : LineageKind) (vid : ℕ) → Rises 0 (relatives_by parents kind vid)
rises-relatives parents kind vid =
    Rises-filter (is_relative (versions_with parents) kind vid) 0 (counted 1 (length (versions_with parents))) (rises-counted 0 1 (length (versions_with parents)) (omega arith))

pub relatives-ascend : (parents : List (List ℕ)) (kind : LineageKind) (vid : ℕ) → IsStrictlyIncreasing (relatives_by parents kind vid)
relatives-ascend parents kind vid = increases 0 (relatives_by parents kind vid) (rises-relatives parents kind vid)

-- ---- relatives

abbrev cvd_with : List (List ℕ) → Cvd
cvd_with parents = record { number = 0; name = []; schema = record { columns = []; key = [] }; versions = versions_with parents }

related-found : (parents : List (List ℕ)) (kind : LineageKind) (vid : ℕ) (found : List ℕ) → AreParents parents → vid ≤ length parents → IsStrictlyIncreasing found
    → ((other : ℕ) → Contains found other ↔ IsRelated (versions_with parents) kind vid other) → found ≡ relatives_by parents kind vid
related-found parents kind vid found are there up same =
    let long : length (versions_with parents) ≡ length parents = length-map parents version_like in
    let range : (v : ℕ) → IsIn found v → (1 ≤ v) × (v ≤ length parents) = λ v is. related-range parents are.earlier kind vid v there ((same v).0 (in-contains found v is)) in
    same-rising 0 found (relatives_by parents kind vid) (rises-all found up (λ v is. (range v is).0)) (rises-relatives parents kind vid)
    (λ v is. (relatives-are (cvd_with parents) kind vid v are.earlier).1 ((range v is).0, (rw long (range v is).1), (same v).0 (in-contains found v is)))
    (λ v is. contains-in found v ((same v).1 ((relatives-are (cvd_with parents) kind vid v are.earlier).0 is).2))

pub ancestors-found : (parents : List (List ℕ)) (vid : ℕ) (found : List ℕ) → AreParents parents → vid ≤ length parents → IsStrictlyIncreasing found
    → ((other : ℕ) → Contains found other ↔ graph.IsAncestor (bare_graph parents) other vid) → found ≡ relatives_by parents Ancestors vid
ancestors-found parents vid found are there up same =
    related-found parents Ancestors vid found are there up
    (λ other. (λ is. (in-graph parents other vid).0 ((same other).0 is), λ is. (same other).1 ((in-graph parents other vid).1 is)))

pub descendants-found : (parents : List (List ℕ)) (vid : ℕ) (found : List ℕ) → AreParents parents → vid ≤ length parents → IsStrictlyIncreasing found
    → ((other : ℕ) → Contains found other ↔ graph.IsAncestor (bare_graph parents) vid other) → found ≡ relatives_by parents Descendants vid
descendants-found parents vid found are there up same =
    related-found parents Descendants vid found are there up
    (λ other. (λ is. (in-graph parents vid other).0 ((same other).0 is), λ is. (same other).1 ((in-graph parents vid other).1 is)))

-- ---- parents by marks

filter-same : (f g : ℕ → Bool) (low count : ℕ) → 1 ≤ low → ((v : ℕ) → 1 ≤ v → f v ≡ g v) → filter f (range_with_len low count) ≡ filter g (counted low count)
filter-same f g low zero one same = refl
filter-same f g low (suc count) one same =
    let rest : filter f (range_with_len (low + 1) count) ≡ filter g (counted (low + 1) count) = filter-same f g (low + 1) count (omega arith) same in
    λ i. if same low one i then low ∷ rest i else rest i

pub parents-marked : (parents : List (List ℕ)) (vid : ℕ) (marks : List Bool) → length marks ≡ length parents
    → ((k : ℕ) → get_or marks k false ≡ list_any (λ p. p == k + 1) (parents_at (versions_with parents) vid)) → marked_vids marks ≡ relatives_by parents Parents vid
parents-marked parents vid marks long same =
    let count : length marks ≡ length (versions_with parents) = long ∙ sym (length-map parents version_like) in
    filter-same (λ v. get_or marks (v - 1) false) (is_relative (versions_with parents) Parents vid) 1 (length marks) (omega arith)
    (λ v one. let back : v - 1 + 1 ≡ v = omega arith in let here = same (v - 1) in rw back at here)
    ∙ ap (λ (n : ℕ). filter (is_relative (versions_with parents) Parents vid) (counted 1 n)) count

-- ---- what is known of a result by two clauses

pub IfOk-both : {T E : Type 0} (r : Result T E) (P Q R : T → Type 0) → ((x : T) → P x → Q x → R x) → IfOk r P → IfOk r Q → IfOk r R
IfOk-both (Ok x) P Q R both p q = both x p q
IfOk-both (Err e) P Q R both p q = tt

pub none-marked : (count k : ℕ) → get_or (replicate count false) k false ≡ false
none-marked zero k = refl
none-marked (suc count) zero = refl
none-marked (suc count) (suc k) = none-marked count k
