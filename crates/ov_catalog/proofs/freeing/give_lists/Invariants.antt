use Rattle.std.proofs.Common.{◌≡◌, ◌≤◌, ◌++◌, map, take, vec_capacity}
use Rattle.ov_catalog.proofs.freeing.give_lists.Given as goal

abbrev pub invariant-loop-version : goal.invariant-loop-version
invariant-loop-version l = record {
  given : l.freed.items ≡ l.fn.freed.items ++ map (λ v. v.list) (take l.version-index l.versions);
  capacity : vec_capacity l.fn.freed ≤ vec_capacity l.freed;
}
