-- Where every version has at most one parent, T is the number of distinct records.
use Rattle.std.proofs.Common.{◌≡◌, ◌≤◌, ◌<◌, ℕ, suc, ◌+◌, ◌-◌, Bool, true, false, ◌==◌, List, [], ◌∷◌, ◌++◌, length, map, filter, refl, sym, ◌∙◌, ap, inl, inr, arith, append_assoc}
use Rattle.std.specs.Prelude.{Option, Some, None, nat_lt, slice_index_or, ◌||◌, ◌&&◌}
use Rattle.std.specs.List.{range_with_len}
use Rattle.std.proofs.lemmas.List.{length-append}
use Rattle.std.proofs.lemmas.List.Sums.{length-filter}
use Rattle.std.proofs.lemmas.Bool.{cond-true, cond-false, cases_Bool, ne_eqb, eq-eqb, ltb-true}
use Rattle.ov_graph.specs.declared.nodes.Node.{Node}
use Rattle.ov_graph.specs.Trees.{total, no_node, node_at, all_records}
use Rattle.ov_graph.specs.Versions as graph
use Rattle.ov_model.specs.Book.{Row, Version}
use Rattle.ov_model.specs.Plans.{graph_of, nodes_of_set}
use Rattle.ov_model.specs.Records.{Rec, is_same_row, is_same_rec, is_among, origin_in, origin_by, of_version, first_of, or_own, record_of, records_of, recs, fresh_in, order, order_of, weight, weights}
use Rattle.ov_model.specs.World.{Dataset, HasOneParentAtMost}
use Rattle.ov_model.proofs.Growing.{order_more}
use Rattle.ov_model.proofs.Own.{Below, AllBelow, by_below, at_below, one_more_below}
use Rattle.ov_model.proofs.Rids.{other_origin}

-- ---- the nodes of a tree, one after another

total_of : (Node → ℕ) → List Node → ℕ
total_of g [] = 0
total_of g (n ∷ ns) = g n + total_of g ns

index_behind : (before rest : List Node) (n : Node) → slice_index_or (before ++ n ∷ rest) (length before) no_node ≡ n
index_behind [] rest n = refl
index_behind (b ∷ before) rest n = index_behind before rest n

nodes_total : (g : Node → ℕ) (nodes before : List Node) → total (λ vid. g (node_at (before ++ nodes) vid)) (range_with_len (length before + 1) (length nodes)) ≡ total_of g nodes
unfolding total_of
nodes_total g [] before = refl
nodes_total g (n ∷ nodes) before =
    let place : length before + 1 - 1 ≡ length before = omega arith
    in let here : node_at (before ++ n ∷ nodes) (length before + 1) ≡ n = ap (λ k. slice_index_or (before ++ n ∷ nodes) k no_node) place ∙ index_behind before nodes n
    in let longer : length (before ++ n ∷ []) ≡ length before + 1 = length-append before (n ∷ [])
    in let rest : total (λ vid. g (node_at (before ++ n ∷ nodes) vid)) (range_with_len (length before + 1 + 1) (length nodes)) ≡ total_of g nodes =
    ap (λ l. total (λ vid. g (node_at l vid)) (range_with_len (length before + 1 + 1) (length nodes))) (sym (append_assoc before (n ∷ []) nodes))
    ∙ ap (λ k. total (λ vid. g (node_at ((before ++ n ∷ []) ++ nodes) vid)) (range_with_len (k + 1) (length nodes))) (sym longer)
    ∙ nodes_total g nodes (before ++ n ∷ [])
    in λ i. g (here i) + rest i

-- ---- a row is either new or its parent's record

any_if : (t rest : Bool) → t ≡ true → (t || rest) ≡ true
any_if true rest e = refl
any_if false rest e = cc

any_later : (t rest : Bool) → rest ≡ true → (t || rest) ≡ true
any_later true rest e = refl
any_later false rest e = e

none_of : (t rest : Bool) → t ≡ false → rest ≡ false → (t || rest) ≡ false
none_of true rest e f = cc
none_of false rest e f = f

found_same : (o : ℕ) (row : Row) (r : Rec) → is_same_row row r.row ≡ true → r.origin ≡ o → is_same_rec (record { origin = o; row = row }) r ≡ true
found_same o row r same is = and_both (o == r.origin) (is_same_row row r.row) (eq-eqb o r.origin (sym is)) same
  where
    and_both : (a b : Bool) → a ≡ true → b ≡ true → (a && b) ≡ true
    and_both true b e f = f
    and_both false b e f = cc

some_origin : (a b : ℕ) → Some a ≡ Some b → a ≡ b
some_origin a b e = cc

found_among : (rs : List Rec) (row : Row) (o : ℕ) → origin_in rs row ≡ Some o → is_among rs (record { origin = o; row = row }) ≡ true
found_among [] row o e = cc
found_among (r ∷ rs) row o e =
    elim (cases_Bool (is_same_row row r.row)) [
      | inl same ↦
          let is : r.origin ≡ o = some_origin r.origin o (sym (cond-true _ (Some r.origin) (origin_in rs row) same) ∙ e)
          in any_if (is_same_rec (record { origin = o; row = row }) r) (is_among rs (record { origin = o; row = row })) (found_same o row r same is)
      | inr other ↦
          any_later (is_same_rec (record { origin = o; row = row }) r) (is_among rs (record { origin = o; row = row }))
          (found_among rs row o (sym (cond-false _ (Some r.origin) (origin_in rs row) other) ∙ e))
    ]

not_among : (rs : List Rec) (r : Rec) (n : ℕ) → n < r.origin → Below n rs → is_among rs r ≡ false
not_among [] r n above below = refl
not_among (x ∷ rs) r n above below =
    none_of (is_same_rec r x) (is_among rs r) (other_origin r x (λ e. omega (arith, e, above, below.0))) (not_among rs r n above below.1)

-- a row's record that the parent has, and one that is new
module _ (p : ℕ) (done : List (List Rec)) (low : AllBelow (length done) done) where
  abbrev parent : List Rec
  parent = of_version done p

  abbrev rec_of : Row → Rec
  rec_of row = record_of (p ∷ []) done row

  abbrev new : List Row → List Rec
  new rows = fresh_in (map rec_of rows) (length done + 1)

  abbrev held : List Row → List Rec
  held rows = filter (is_among parent) (map rec_of rows)

  abbrev shared : List Row → ℕ
  shared rows = length (held rows)

  old_row : (row : Row) (rows : List Row) (o : ℕ) → origin_in parent row ≡ Some o → length (new rows) + shared rows ≡ length rows
      → length (new (row ∷ rows)) + shared (row ∷ rows) ≡ length (row ∷ rows)
  old_row row rows o e rest =
      let by : origin_by (p ∷ []) done row ≡ Some o = ap (λ x. first_of x None) e
      in let is : rec_of row ≡ record { origin = o; row = row } = ap (λ found. record { origin = or_own found (length done + 1); row = row }) by
      in let le : o ≤ length done = by_below (length done) (p ∷ []) done row o low by
      in let off : ((rec_of row).origin == length done + 1) ≡ false = ap (λ r. r.origin == length done + 1) is ∙ ne_eqb o (length done + 1) (λ same. omega (arith, same, le))
      in let among : is_among parent (rec_of row) ≡ true = ap (is_among parent) is ∙ found_among parent row o e
      in let news : length (new (row ∷ rows)) ≡ length (new rows) = ap length (cond-false ((rec_of row).origin == length done + 1) (rec_of row ∷ new rows) (new rows) off)
      in let counts : length (held (row ∷ rows)) ≡ length (rec_of row ∷ held rows) = ap length (cond-true (is_among parent (rec_of row)) (rec_of row ∷ held rows) (held rows) among)
      in omega (arith, news, counts, rest)

  new_row : (row : Row) (rows : List Row) → origin_in parent row ≡ None → length (new rows) + shared rows ≡ length rows
      → length (new (row ∷ rows)) + shared (row ∷ rows) ≡ length (row ∷ rows)
  new_row row rows e rest =
      let by : origin_by (p ∷ []) done row ≡ None = ap (λ x. first_of x None) e
      in let own : (rec_of row).origin ≡ length done + 1 = ap (λ found. or_own found (length done + 1)) by
      in let is_own : ((rec_of row).origin == length done + 1) ≡ true = ap (λ n. n == length done + 1) own ∙ eq-eqb (length done + 1) (length done + 1) refl
      in let among : is_among parent (rec_of row) ≡ false = not_among parent (rec_of row) (length done) (omega (arith, own)) (at_below (length done) done (p - 1) low)
      in let news : length (new (row ∷ rows)) ≡ length (rec_of row ∷ new rows) = ap length (cond-true ((rec_of row).origin == length done + 1) (rec_of row ∷ new rows) (new rows) is_own)
      in let counts : length (held (row ∷ rows)) ≡ length (held rows) = ap length (cond-false (is_among parent (rec_of row)) (rec_of row ∷ held rows) (held rows) among)
      in omega (arith, news, counts, rest)

  row_split : (row : Row) (rows : List Row) (found : Option ℕ) → origin_in parent row ≡ found → length (new rows) + shared rows ≡ length rows
      → length (new (row ∷ rows)) + shared (row ∷ rows) ≡ length (row ∷ rows)
  row_split row rows (Some o) e rest = old_row row rows o e rest
  row_split row rows None e rest = new_row row rows e rest

  pub split_rows : (rows : List Row) → length (new rows) + shared rows ≡ length rows
  split_rows [] = omega arith
  split_rows (row ∷ rows) = row_split row rows (origin_in parent row) refl (split_rows rows)

-- without parents each row is new
all_new : (done : List (List Rec)) (rows : List Row) → length (fresh_in (map (record_of [] done) rows) (length done + 1)) ≡ length rows
all_new done [] = refl
all_new done (row ∷ rows) =
    ap length (cond-true (length done + 1 == length done + 1) (record_of [] done row ∷ fresh_in (map (record_of [] done) rows) (length done + 1)) (fresh_in (map (record_of [] done) rows) (length done + 1)) (eq-eqb (length done + 1) (length done + 1) refl))
    ∙ ap (λ n. suc n) (all_new done rows)

-- the records that a version adds to its tree parent's
abbrev added : Node → ℕ
added n = n.records - n.weight

abbrev node_for : Version → List (List Rec) → Node
node_for v done = graph.node_of (record { records = length v.rows; parents = weights v.parents (records_of v done) done })

not_below_zero : (n : ℕ) → nat_lt n 0 ≡ false
not_below_zero n =
    elim (cases_Bool (nat_lt n 0)) [
      | inl less ↦ absurd (omega (arith, ltb-true n 0 less))
      | inr no_less ↦ no_less
    ]

one_edge : (edge : ℕ × ℕ) → (graph.heaviest (edge ∷ [])).1 ≡ edge.1
one_edge edge = ap (λ e. e.1) (cond-false (nat_lt edge.1 0) (0, 0) edge (not_below_zero edge.1))

adds_for : (parents : List ℕ) (message : List ℕ) (rows : List Row) (done : List (List Rec)) → length parents ≤ 1 → AllBelow (length done) done
    → added (node_for (record { parents = parents; message = message; rows = rows }) done) ≡ length (fresh_in (map (record_of parents done) rows) (length done + 1))
adds_for [] message rows done few low = omega (arith, all_new done rows)
adds_for (p ∷ []) message rows done few low =
    let counted : length (filter (is_among (of_version done p)) (map (record_of (p ∷ []) done) rows)) ≡ weight (map (record_of (p ∷ []) done) rows) (of_version done p) =
    length-filter (is_among (of_version done p)) (map (record_of (p ∷ []) done) rows)
    in omega (arith, one_edge (p, weight (map (record_of (p ∷ []) done) rows) (of_version done p)), counted, split_rows p done low rows)
adds_for (p ∷ q ∷ ps) message rows done few low = absurd (omega (arith, few))

adds : (v : Version) (done : List (List Rec)) → length v.parents ≤ 1 → AllBelow (length done) done → added (node_for v done) ≡ length (fresh_in (records_of v done) (length done + 1))
adds v done few low = adds_for v.parents v.message v.rows done few low

added_total : (vs : List Version) (done : List (List Rec)) → HasOneParentAtMost vs → AllBelow (length done) done
    → total_of added (graph.reduced (graph_of vs done)) + length (order done 1) ≡ length (order (recs vs done) 1)
unfolding total_of
added_total [] done few low = omega arith
added_total (v ∷ vs) done few low =
    let next : List (List Rec) = done ++ records_of v done ∷ []
    in let more : length (order next 1) ≡ length (order done 1) + length (fresh_in (records_of v done) (1 + length done)) =
    ap length (order_more done (records_of v done) 1) ∙ length-append (order done 1) (fresh_in (records_of v done) (1 + length done))
    in let same : length (fresh_in (records_of v done) (1 + length done)) ≡ length (fresh_in (records_of v done) (length done + 1)) =
    ap (λ n. length (fresh_in (records_of v done) n)) (omega arith)
    in omega (arith, adds v done few.0 low, more, same, added_total vs next few.1 (one_more_below v done low))

pub singles : (d : Dataset) → HasOneParentAtMost d.cvd.versions → all_records (nodes_of_set d) ≡ length (order_of d.cvd.versions)
singles d few =
    nodes_total added (nodes_of_set d) []
    ∙ (let sum_is = added_total d.cvd.versions [] few tt in omega (arith, sum_is))
