-- A graph grows by a version with these parents.
use Rattle.std.proofs.Common.{◌≡◌, ◌<◌, ℕ, ◌+◌, List, [], ◌∷◌, ◌++◌, Vec, Global, length, map, take, take-suc, add-one, get_or, refl, sym, ◌∙◌, ap, ap₂, subst, arith}
use Rattle.std.proofs.lemmas.List.{length-map, length-take-le, get_or-map, map-append}
use Rattle.ov_graph.specs.Versions.{Version, MayFollow, IsEdge}
use Rattle.ov_model.specs.Descent.{AreBefore}
use Rattle.ov_lineage.specs.Bare.{bare_edge, bare_version, bare_graph}
use Rattle.ov_lineage.specs.Related.{AreParents, lists_of}
use Rattle.ov_lineage.proofs.Ranges.{before-at, below-at}

none-before : (ps : List ℕ) → AreBefore 1 ps → ps ≡ []
none-before [] are = refl
none-before (p ∷ ps) are = let one = are.0.0 in let low = are.0.1 in absurd (omega arith)

module _ (parents : List (List ℕ)) (are : AreParents parents) (i : ℕ) (lt : i < length parents) where
  long : length (bare_graph (take i parents)) ≡ i
  long = length-map (take i parents) bare_version ∙ length-take-le i parents (omega arith)

  before : AreBefore (1 + i) (get_or parents i [])
  before = before-at 1 parents i are.earlier lt

  first : length (bare_graph (take i parents)) ≡ 0 → map bare_edge (get_or parents i []) ≡ []
  first none =
      let e : 1 + i ≡ 1 = omega (arith, long, none) in
      ap (map bare_edge) (none-before (get_or parents i []) (subst (λ (n : ℕ). AreBefore n (get_or parents i [])) e before))

  edge : (k : ℕ) → k < length (map bare_edge (get_or parents i [])) → IsEdge (bare_graph (take i parents)) 0 (get_or (map bare_edge (get_or parents i [])) k (0, 0))
  edge k within =
      let count = length-map (get_or parents i []) bare_edge in
      let low = below-at (1 + i) (get_or parents i []) k before (omega arith) in
      let one = low.0 in
      let high = low.1 in
      let all = long in
      subst (IsEdge (bare_graph (take i parents)) 0) (sym (get_or-map bare_edge (get_or parents i []) k 0 (0, 0) (omega arith)))
      (record { from_one = one; is_there = omega arith; within_own = omega arith; within_parent = omega arith })

  pub may-follow : MayFollow (bare_graph (take i parents)) (bare_version (get_or parents i []))
  may-follow = record {
    first = first;
    later = λ some. let all = long in let count = length-map (get_or parents i []) bare_edge in let more = are.later i (omega arith) lt in omega arith;
    edges = edge;
  }

-- ---- one more version

pub list-at : (lists : List (Vec ℕ Global)) (i : ℕ) (list : Vec ℕ Global) → i < length lists → list ≡ get_or lists i list → list.items ≡ get_or (lists_of lists) i []
list-at lists i list lt is = ap (λ (l : Vec ℕ Global). l.items) is ∙ sym (get_or-map (λ (l : Vec ℕ Global). l.items) lists i list [] lt)

pub list-more : (parents : List (List ℕ)) (i : ℕ) (list : List ℕ) (kept : List (List ℕ)) → i < length parents → list ≡ get_or parents i [] → kept ≡ take i parents
    → kept ++ list ∷ [] ≡ take (i + 1) parents
list-more parents i list kept lt is before =
    rw (add-one i) (ap₂ (λ ps p. ps ++ p ∷ []) before is ∙ sym (take-suc parents i [] lt))

pub graph-more : (parents : List (List ℕ)) (i : ℕ) (graph : List Version) (edges : List (ℕ × ℕ)) → i < length parents → edges ≡ map bare_edge (get_or parents i [])
    → graph ≡ bare_graph (take i parents) → graph ++ record { records = 0; parents = edges } ∷ [] ≡ bare_graph (take (i + 1) parents)
graph-more parents i graph edges lt is before =
    ap₂ (λ (vs : List Version) (es : List (ℕ × ℕ)). vs ++ record { records = 0; parents = es } ∷ []) before is
    ∙ sym (map-append bare_version (take i parents) (get_or parents i [] ∷ []))
    ∙ ap bare_graph (list-more parents i (get_or parents i []) (take i parents) lt refl refl)
