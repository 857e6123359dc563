-- Split: how LyreSplit divides a tree of versions into parts, under a threshold p/q; and the bounds that its parts
-- meet. A part is a connected piece of the tree, as the ascending list of its vids. So its first version is its
-- topmost one, and each other version's edge to its tree parent is an edge inside the part.
use Rattle.std.specs.Prelude.{◌≡◌, ℕ, zero, suc, ◌+◌, ◌*◌, ◌^◌, ◌<◌, ◌≤◌, Bool, true, false, not, ◌⊎◌, ◌||◌, ◌&&◌, ◌==◌, nat_lt, nat_le, if◌then◌else◌, max, Option, Some, None, List, [], ◌∷◌, ◌++◌, length, filter, map, count_by}
use Rattle.std.specs.List.{All, list_any, flat_map}
use Rattle.std.specs.Int.{abs_diff}
use Rattle.ov_graph.specs.declared.nodes.Node.{Node}
use Rattle.ov_graph.specs.Trees.{VersionTree, fresh, total, tree_of, vids_of}

-- R: the records of a part, by what each version adds to its tree parent's; of the topmost one, all
abbrev pub records : VersionTree → List ℕ → ℕ
records tree [] = 0
records tree (top ∷ rest) = tree.records top + total (fresh tree) rest

-- E
abbrev pub members : VersionTree → List ℕ → ℕ
members tree part = total tree.records part

-- the versions that have an edge inside the part
abbrev pub edges : List ℕ → List ℕ
edges [] = []
edges (top ∷ rest) = rest

-- Parts are ascending lists of vids, above low and at most high.
abbrev pub Ascends : ℕ → ℕ → List ℕ → Type 0
Ascends low high [] = Unit {0}
Ascends low high (vid ∷ vids) = (low < vid) × (vid ≤ high) × Ascends vid high vids

abbrev pub Has : List ℕ → ℕ → Type 0
Has [] vid = ⊥
Has (first ∷ vids) vid = (first ≡ vid) ⊎ Has vids vid

-- the tree parents of these versions are in the part
abbrev pub HasParents : VersionTree → List ℕ → List ℕ → Type 0
HasParents tree part [] = Unit {0}
HasParents tree part (vid ∷ vids) = Has part (tree.parent vid) × HasParents tree part vids

-- a connected part of the tree of the versions from 1 to count
pub record IsPart (tree : VersionTree) (count : ℕ) (part : List ℕ) : Type 0 where
  pub some : 0 < length part
  pub ascends : Ascends 0 count part
  pub connected : HasParents tree part (edges part)

-- whether a version is vid or has it among the versions on its way up to the root, in so many steps
abbrev pub is_under_in : ℕ → VersionTree → ℕ → ℕ → Bool
is_under_in zero tree vid version = version == vid
is_under_in (suc steps) tree vid version = version == vid || is_under_in steps tree vid (tree.parent version)

-- a tree parent's vid is lower, so a version has fewer versions above it than its vid
unfoldable pub is_under : VersionTree → ℕ → ℕ → Bool
is_under tree vid version = is_under_in version tree vid version

-- the two parts that are left when the edge of vid is cut
abbrev pub lower : VersionTree → ℕ → List ℕ → List ℕ
lower tree vid part = filter (λ version. is_under tree vid version) part

abbrev pub upper : VersionTree → ℕ → List ℕ → List ℕ
upper tree vid part = filter (λ version. not (is_under tree vid version)) part

-- p * R * V <= q * E
unfoldable pub stops : VersionTree → ℕ → ℕ → List ℕ → Bool
stops tree p q part = nat_le (p * records tree part * length part) (q * members tree part)

-- q * w <= p * R
unfoldable pub may_cut : VersionTree → ℕ → ℕ → List ℕ → ℕ → Bool
may_cut tree p q part vid = nat_le (q * tree.weight vid) (p * records tree part)

-- how far the two parts of a cut are apart, in versions and in records
unfoldable pub versions_apart : VersionTree → List ℕ → ℕ → ℕ
versions_apart tree part vid = abs_diff (length (upper tree vid part)) (length (lower tree vid part))

unfoldable pub records_apart : VersionTree → List ℕ → ℕ → ℕ
records_apart tree part vid = abs_diff (records tree (upper tree vid part)) (records tree (lower tree vid part))

-- whether a cut is taken before another one, of a greater vid
abbrev pub comes_first : ℕ → ℕ → ℕ → ℕ → Bool
comes_first versions records other_versions other_records = nat_lt versions other_versions || (versions == other_versions && nat_le records other_records)

-- the better one of a vid and of what was chosen among greater ones
abbrev pub better : VersionTree → List ℕ → ℕ → Option ℕ → Option ℕ
better tree part vid None = Some vid
better tree part vid (Some other) = if comes_first (versions_apart tree part vid) (records_apart tree part vid) (versions_apart tree part other) (records_apart tree part other) then Some vid else Some other

-- among these ascending vids, of those that may be cut: the one with the least difference in versions, then in
-- records, then the least vid
abbrev pub chosen_among : VersionTree → ℕ → ℕ → List ℕ → List ℕ → Option ℕ
chosen_among tree p q part [] = None
chosen_among tree p q part (vid ∷ vids) = if may_cut tree p q part vid then better tree part vid (chosen_among tree p q part vids) else chosen_among tree p q part vids

-- what is chosen, by the rule's own words: no other edge that may be cut leaves parts that differ less in versions; of
-- those that differ as little, none leaves parts that differ less in records; of those, none has a lower vid
pub record IsLeast (tree : VersionTree) (part : List ℕ) (vid other : ℕ) : Type 0 where
  pub versions : versions_apart tree part vid ≤ versions_apart tree part other
  pub records : versions_apart tree part vid ≡ versions_apart tree part other → records_apart tree part vid ≤ records_apart tree part other
  pub vids : versions_apart tree part vid ≡ versions_apart tree part other → records_apart tree part vid ≡ records_apart tree part other → vid ≤ other

unfoldable pub chosen : VersionTree → ℕ → ℕ → List ℕ → Option ℕ
chosen tree p q part = chosen_among tree p q part (edges part)

-- the edge at which a part is cut next, if it doesn't stop
abbrev pub next_cut_of : VersionTree → ℕ → ℕ → List ℕ → Option ℕ
next_cut_of tree p q part = if stops tree p q part then None else chosen tree p q part

-- a part that stops, or a cut and what becomes of its two parts
pub data Cuts : Type 0 where
  whole : List ℕ → Cuts
  cut : ℕ → Cuts → Cuts → Cuts

-- the cuts of a part, in at most so many levels
unfoldable pub cuts_within : ℕ → VersionTree → ℕ → ℕ → List ℕ → Cuts
cuts_within zero tree p q part = whole part
cuts_within (suc levels) tree p q part = elim (next_cut_of tree p q part) as (λ _. Cuts) [
  | None ↦ whole part
  | Some vid ↦ cut vid (cuts_within levels tree p q (upper tree vid part)) (cuts_within levels tree p q (lower tree vid part))
]

-- each part of a cut is shorter, so there are fewer levels than versions
unfoldable pub cuts_of : VersionTree → ℕ → ℕ → List ℕ → Cuts
cuts_of tree p q part = cuts_within (length part) tree p q part

-- the parts that stop
abbrev pub leaves : Cuts → List (List ℕ)
leaves (whole part) = part ∷ []
leaves (cut vid above below) = leaves above ++ leaves below

-- the vids whose edges are cut
abbrev pub cut_vids : Cuts → List ℕ
cut_vids (whole part) = []
cut_vids (cut vid above below) = vid ∷ (cut_vids above ++ cut_vids below)

abbrev pub depth : Cuts → ℕ
depth (whole part) = 0
depth (cut vid above below) = suc (max (depth above) (depth below))

abbrev pub first_of : List ℕ → ℕ
first_of [] = 0
first_of (vid ∷ vids) = vid

-- by a key, in the order of ascending keys
abbrev pub in_order : {X : Type 0} → (X → ℕ) → List ℕ → List X → List X
in_order key keys items = flat_map (λ k. filter (λ item. key item == k) items) keys

-- Split of a whole tree
abbrev pub split_of : List Node → ℕ → ℕ → Cuts
split_of nodes p q = cuts_of (tree_of nodes) p q (vids_of nodes)

-- its parts, by their least vids
abbrev pub parts_of : List Node → ℕ → ℕ → List (List ℕ)
parts_of nodes p q = in_order first_of (vids_of nodes) (leaves (split_of nodes p q))

-- the vids whose edges are cut, ascending
abbrev pub cut_edges_of : List Node → ℕ → ℕ → List ℕ
cut_edges_of nodes p q = in_order (λ vid. vid) (vids_of nodes) (cut_vids (split_of nodes p q))

abbrev pub depth_of : List Node → ℕ → ℕ → ℕ
depth_of nodes p q = depth (split_of nodes p q)

abbrev pub has_vid : List ℕ → ℕ → Bool
has_vid part vid = list_any (λ other. other == vid) part

-- each version is in exactly one of the parts, and each part is connected and stops
pub record IsDivision (nodes : List Node) (p q : ℕ) (parts : List (List ℕ)) : Type 0 where
  pub each_once : (vid : ℕ) → 1 ≤ vid → vid ≤ length nodes → count_by (λ part. has_vid part vid) parts ≡ 1
  pub are_parts : All (IsPart (tree_of nodes) (length nodes)) parts
  pub all_stop : All (λ part. stops (tree_of nodes) p q part ≡ true) parts

-- Bounds. Partitions, each as its versions and its records: those that are stored are the sum of their records, and
-- their cost is the sum of versions times records.
abbrev pub stored : List (ℕ × ℕ) → ℕ
stored [] = 0
stored (partition ∷ partitions) = partition.1 + stored partitions

abbrev pub cost : List (ℕ × ℕ) → ℕ
cost [] = 0
cost (partition ∷ partitions) = partition.0 * partition.1 + cost partitions

-- where T is all_records and E is all_members
pub record AreBounded (p q depth all_records all_members : ℕ) (partitions : List (ℕ × ℕ)) : Type 0 where
  pub stored_bound : q ^ depth * stored partitions ≤ (p + q) ^ depth * all_records
  pub cost_bound : p * cost partitions ≤ q * all_members

-- the parts of a split, with R for their records
abbrev pub sizes : VersionTree → List (List ℕ) → List (ℕ × ℕ)
sizes tree parts = map (λ part. (length part, records tree part)) parts

-- an edge of a part at which it is cut
pub record IsChosen (tree : VersionTree) (p q : ℕ) (part : List ℕ) (vid : ℕ) : Type 0 where
  pub is : chosen tree p q part ≡ Some vid
  pub inside : Has (edges part) vid
  pub light : may_cut tree p q part vid ≡ true

-- Laws of the parts of a tree. A part that doesn't stop has an edge that may be cut. Of the edges that may be, the least
-- by the rule is cut. A cut stores again what the two versions share: R1 + R2 = R + w.
pub record HasSplitLaws (tree : VersionTree) (count p q : ℕ) : Type 0 where
  pub an_edge_may_be_cut : (part : List ℕ) → IsPart tree count part → stops tree p q part ≡ false → (vid : ℕ) × IsChosen tree p q part vid
  pub the_least_is_cut : (part : List ℕ) (vid other : ℕ) → IsPart tree count part → chosen tree p q part ≡ Some vid → Has (edges part) other → may_cut tree p q part other ≡ true → IsLeast tree part vid other
  pub records_at_a_cut : (part : List ℕ) (vid : ℕ) → IsPart tree count part → Has (edges part) vid → records tree (upper tree vid part) + records tree (lower tree vid part) ≡ records tree part + tree.weight vid
