-- Cutting off one edge after another of those that leave the same number of versions on one side.
use Rattle.std.specs.Prelude.{◌≡◌, ℕ, ◌+◌, ◌^◌, ◌<◌, ◌≤◌, ◌⊎◌, List, length, IsTrue, true}
use Rattle.std.specs.Int.{abs_diff}
use Rattle.std.specs.Ordering.{ordering_then, nat_cmp}
use Rattle.std.specs.declared.cmp.Ordering.{Ordering}
use Rattle.std.specs.BTreeSet.{BTreeSet, contains}
use Rattle.ov_graph.specs.Trees.{VersionTree, IsSound, tree_of, fresh, total}
use Rattle.ov_graph.specs.Splits.{IsPart, Has, edges, lower, upper, records, members, may_cut}
use Rattle.ov_lyre.specs.Sides.{left, AreNext}
use Rattle.ov_lyre.specs.Sums.{Stands, total_under}
use Rattle.ov_lyre.specs.declared.peeling.Key.{Key}
use Rattle.ov_lyre.specs.declared.peeling.Summed.{Summed}
use Rattle.ov_lyre.specs.declared.peeling.Peeling.{Peeling}

-- by balance, then by vid
abbrev pub key_cmp : Key → Key → Ordering
key_cmp a b = ordering_then (nat_cmp a.balance b.balance) (nat_cmp a.vid b.vid)

-- a key is among these
abbrev pub IsAmong : BTreeSet Key → Key → Type 0
IsAmong keys key = IsTrue (contains key_cmp keys key)

-- of two keys the nearer one to R, and of two as near the one of the lower vid
pub record IsNearest (r : ℕ) (key other : Key) : Type 0 where
  pub apart : abs_diff r key.balance ≤ abs_diff r other.balance
  pub vids : abs_diff r key.balance ≡ abs_diff r other.balance → key.vid ≤ other.vid

-- few versions are under the edge, the same ones as at the beginning
pub record IsLight (tree : VersionTree) (few : ℕ) (part rest : List ℕ) (key : Key) : Type 0 where
  pub same : lower tree key.vid rest ≡ lower tree key.vid part
  pub count : length (lower tree key.vid rest) ≡ few
  pub balance : key.balance ≡ total (fresh tree) (lower tree key.vid rest) + total (fresh tree) (lower tree key.vid rest) + tree.weight key.vid

-- all but few versions are under the edge
pub record IsTop (tree : VersionTree) (few : ℕ) (part rest : List ℕ) (key : Key) : Type 0 where
  pub isnt_light : length (lower tree key.vid part) ≡ few → ⊥
  pub count : length (upper tree key.vid rest) ≡ few
  pub balance : key.balance + tree.weight key.vid ≡ records tree (upper tree key.vid rest) + records tree (upper tree key.vid rest)

-- an edge leaves at most few versions on one side, or fewer
abbrev pub IsOfFew : VersionTree → ℕ → List ℕ → ℕ → Type 0
IsOfFew tree few part vid = (length (lower tree vid part) ≤ few) ⊎ (length (upper tree vid part) ≤ few)

abbrev pub IsOfFewer : VersionTree → ℕ → List ℕ → ℕ → Type 0
IsOfFewer tree few part vid = (length (lower tree vid part) < few) ⊎ (length (upper tree vid part) < few)

-- what a key says of an edge of the rest of a part
pub record IsKeyed (tree : VersionTree) (few : ℕ) (part rest : List ℕ) (key : Key) : Type 0 where
  pub inside : Has (edges rest) key.vid
  pub side : IsLight tree few part rest key ⊎ IsTop tree few part rest key

-- an edge has a key, or fewer versions on one of its sides
abbrev pub IsFound : VersionTree → ℕ → List ℕ → BTreeSet Key → ℕ → Type 0
IsFound tree few rest keys vid = IsOfFewer tree few rest vid ⊎ ((key : Key) × IsAmong keys key × (key.vid ≡ vid))

-- the keys of the edges of the rest that may be cut, with few versions on one side; no edge that may be cut has more on both
pub record AreKeys (tree : VersionTree) (p q few : ℕ) (part rest : List ℕ) (keys : BTreeSet Key) : Type 0 where
  pub each : (vid : ℕ) → Has (edges rest) vid → may_cut tree p q rest vid ≡ true → IsFound tree few rest keys vid
  pub keyed : (key : Key) → IsAmong keys key → IsKeyed tree few part rest key

-- a part of a sound tree, its numbers, and the sums under its versions
pub record IsSummed (s : Summed) : Type 0 where
  pub sound : IsSound s.nodes.now
  pub is : IsPart (tree_of s.nodes.now) (length s.nodes.now) s.part.now
  pub records_is : s.totals.records ≡ records (tree_of s.nodes.now) s.part.now
  pub members_is : s.totals.members ≡ members (tree_of s.nodes.now) s.part.now
  pub few_records : s.totals.records < 2 ^ 49
  pub few_members : s.totals.members < 2 ^ 49
  pub counts_long : length s.nodes.now < length s.counts.now
  pub fresh_long : length s.nodes.now < length s.fresh.now
  pub members_long : length s.nodes.now < length s.members.now
  pub counts : Stands (total_under (tree_of s.nodes.now) (λ _. 1) s.part.now) s.part.now s.counts.now
  pub fresh_is : Stands (total_under (tree_of s.nodes.now) (fresh (tree_of s.nodes.now)) s.part.now) s.part.now s.fresh.now
  pub under : Stands (total_under (tree_of s.nodes.now) (tree_of s.nodes.now).records s.part.now) s.part.now s.members.now

-- Cuts were made one after another, each the next one, and all that may follow of their kind have a key.
pub record IsPeeling (s : Summed) (p q : ℕ) (peeling : Peeling) : Type 0 where
  pub next : AreNext (tree_of s.nodes.now) p q s.part.now peeling.cuts.items
  pub is : IsPart (tree_of s.nodes.now) (length s.nodes.now) (left (tree_of s.nodes.now) s.part.now peeling.cuts.items)
  pub keys_are : AreKeys (tree_of s.nodes.now) p q peeling.few s.part.now (left (tree_of s.nodes.now) s.part.now peeling.cuts.items) peeling.keys
  pub few_is : peeling.few ≤ 65535
  pub versions_is : peeling.versions ≡ length (left (tree_of s.nodes.now) s.part.now peeling.cuts.items)
  pub records_is : peeling.totals.records ≡ records (tree_of s.nodes.now) (left (tree_of s.nodes.now) s.part.now peeling.cuts.items)
  pub members_is : peeling.totals.members ≡ members (tree_of s.nodes.now) (left (tree_of s.nodes.now) s.part.now peeling.cuts.items)
  pub few_records : peeling.totals.records < 2 ^ 49
  pub few_members : peeling.totals.members < 2 ^ 49
