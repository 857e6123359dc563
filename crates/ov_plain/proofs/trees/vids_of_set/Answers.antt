use Rattle.std.proofs.Common.{◌≡◌, ◌≤◌, ℕ, List, length, sym, subst, arith}
use Rattle.std.specs.Prelude.{Result, Ok, Err, IfOk}
use Rattle.std.proofs.lemmas.List.FromFn.{length-range_with_len}
use Rattle.ov_graph.specs.Trees.{vids}
use Rattle.ov_plain.proofs.trees.vids_of_set.Goals as goal

few : {V E : Type 0} (items : V → List ℕ) (r : Result V E) (n : ℕ) → n ≤ 65535 → IfOk r (λ v. items v ≡ vids n) → IfOk r (λ v. length (items v) ≤ 65535)
few items (Ok v) n low e = subst (λ l. length l ≤ 65535) (sym e) (omega (arith, length-range_with_len 1 n, low))
few items (Err why) n low e = tt

pub returns-clause-count : goal.returns-clause-count
returns-clause-count c =
    let count : c.len.result ≡ length c.args.tree.now.nodes.items = omega (arith, c.len.ensures, c.args.tree.now.nodes.ok)
    in few (λ v. v.items) c.all_vids.result c.len.result (omega (arith, count, c.requires)) c.all_vids.ensures
