-- A line of the table, and the table one line longer.
use Rattle.std.proofs.Common.{◌≡◌, ℕ, zero, suc, ◌+◌, ◌<◌, ◌≤◌, List, [], ◌∷◌, ◌++◌, length, get_or, map, Vec, Global, refl, sym, ◌∙◌, ap, arith}
use Rattle.std.specs.List.{All, range_with_len}
use Rattle.std.proofs.lemmas.List.{get_or-map, length-map}
use Rattle.ov_graph.specs.declared.nodes.Node.{Node}
use Rattle.ov_graph.specs.Splits.{IsDivision, cost, depth_of, parts_of, stored}
use Rattle.ov_lyre.specs.Parts.{lists_of}
use Rattle.ov_budget.specs.declared.sizes.Sized.{Sized}
use Rattle.ov_budget.specs.declared.thresholds.Line.{Line}
use Rattle.ov_budget.specs.Sizes.{IsSized, part_of, sizes_said}
use Rattle.ov_budget.specs.Tables.{line_at, sizes_of, table}
use Rattle.ov_budget.proofs.Divided.{parts_few, parts_short}

-- ---- what is said of a part is so

said : (lists : List (List ℕ)) (sized : List Sized) → All (IsSized lists) sized → sizes_said sized ≡ sizes_of lists (map part_of sized)
said lists [] are = refl
said lists (one ∷ sized) are =
    let size = are 0 one (omega arith) in
    let rest = said lists sized (λ k d lt. are (suc k) d (omega (arith, lt))) in
    λ i. (length one.part.items, size i) ∷ rest i

module _ (nodes : List Node) (p q : ℕ) (parts : List (Vec ℕ Global)) (division : IsDivision nodes p q (lists_of parts))
    (sized : List Sized) (same : map part_of sized ≡ lists_of parts) (few : length nodes ≤ 65535) where
  as_many : length sized ≡ length parts
  as_many = sym (length-map sized part_of) ∙ ap length same ∙ length-map parts (λ (part : Vec ℕ Global). part.items)

  pub sized_few : length sized ≤ 65535
  sized_few = omega (arith, as_many, parts_few nodes p q parts division, few)

  pub sized_short : All (λ one. length one.part.items ≤ 65535) sized
  sized_short = λ k d lt.
      let low : k < length parts = omega (arith, lt, as_many) in
      let own : (get_or sized k d).part.items ≡ (get_or parts k d.part).items =
      sym (get_or-map part_of sized k d d.part.items lt) ∙ ap (λ (ls : List (List ℕ)). get_or ls k d.part.items) same
      ∙ get_or-map (λ (part : Vec ℕ Global). part.items) parts k d.part d.part.items low in
      omega (arith, ap length own, parts_short nodes p q parts division k d.part low, few)

-- the numbers of a line are those of the split
pub line_is : (nodes : List Node) (lists : List (List ℕ)) (p : ℕ) (sized : List Sized) (line : Line) → All (IsSized lists) sized → map part_of sized ≡ parts_of nodes p 100
    → line.depth ≡ depth_of nodes p 100 → line.partitions ≡ length sized → line.stored ≡ stored (sizes_said sized) → line.cost ≡ cost (sizes_said sized)
    → line ≡ line_at nodes lists p
line_is nodes lists p sized line are same depth partitions kept read =
    let sizes : sizes_said sized ≡ sizes_of lists (parts_of nodes p 100) = said lists sized are ∙ ap (sizes_of lists) same in
    let many = partitions ∙ sym (length-map sized part_of) ∙ ap length same in
    let all = kept ∙ ap stored sizes in
    let sum = read ∙ ap cost sizes in
    λ i. record { depth = depth i; partitions = many i; stored = all i; cost = sum i }

-- ---- one line more

map_more : (f : ℕ → Line) (a n : ℕ) → map f (range_with_len a (suc n)) ≡ map f (range_with_len a n) ++ f (a + n) ∷ []
map_more f a zero = ap (λ k. f k ∷ []) (omega arith)
map_more f a (suc n) =
    let next : (a + 1) + n ≡ a + suc n = omega arith in
    ap (λ xs. f a ∷ xs) (map_more f (a + 1) n ∙ ap (λ k. map f (range_with_len (a + 1) n) ++ f k ∷ []) next)

pub line_more : (nodes : List Node) (lists : List (List ℕ)) (before : ℕ) (lines more : List Line) (line : Line) → lines ≡ map (line_at nodes lists) (range_with_len 1 before)
    → line ≡ line_at nodes lists (before + 1) → more ≡ lines ++ line ∷ [] → more ≡ map (line_at nodes lists) (range_with_len 1 (before + 1))
line_more nodes lists before lines more line are is pushed =
    let next : suc before ≡ before + 1 = omega arith in
    let number : before + 1 ≡ 1 + before = omega arith in
    pushed
    ∙ (λ i. are i ++ is i ∷ [])
    ∙ ap (λ k. map (line_at nodes lists) (range_with_len 1 before) ++ line_at nodes lists k ∷ []) number
    ∙ sym (map_more (line_at nodes lists) 1 before)
    ∙ ap (λ k. map (line_at nodes lists) (range_with_len 1 k)) next

pub all_lines : (nodes : List Node) (lists : List (List ℕ)) (n : ℕ) (lines : List Line) → n ≡ 100 → lines ≡ map (line_at nodes lists) (range_with_len 1 n) → lines ≡ table nodes lists
unfolding table
all_lines nodes lists n lines all are = are ∙ ap (λ k. map (line_at nodes lists) (range_with_len 1 k)) all
