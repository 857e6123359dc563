-- The graph of a dataset's versions.
use Rattle.std.proofs.Common.{◌≡◌, ℕ, zero, suc, ◌-◌, ◌<◌, ◌≤◌, Bool, true, false, ◌&&◌, List, [], ◌∷◌, ◌++◌, length, get_or, take, map, refl, ap, ◌∙◌, inl, inr, arith}
use Rattle.std.specs.Prelude.{nat_le}
use Rattle.std.specs.List.{list_all}
use Rattle.std.proofs.lemmas.Bool.{cases_lt, leb-true}
use Rattle.std.proofs.Math.ListN.{get_or-append}
use Rattle.std.proofs.Math.Seq.{get_or-append_seam, take-append_seam}
use Rattle.std.proofs.lemmas.List.{length-append, length-map, take-append-le}
use Rattle.ov_host.specs.declared.area.Extent.{Extent}
use Rattle.ov_graph.specs.Versions.{IsEdge, IsGraph, MayFollow, Version, no_version}
use Rattle.ov_catalog.specs.Events.{graph_of}
use Rattle.ov_catalog.specs.Numbers.{VersionNumbers}
use Rattle.ov_catalog.specs.Sets.{version_in}
use Rattle.ov_catalog.specs.declared.cvd.Version.{Version as Kept}
use Rattle.ov_catalog.specs.Testing.{are_parents, is_parent, rows_at}

and-both : (a b : Bool) → (a && b) ≡ true → (a ≡ true) × (b ≡ true)
and-both true b h = (refl, h)
and-both false b h = absurd cc

-- one version more
pub graph-push : (versions : List Version) (v : Version) → length versions < 65535 → IsGraph versions → MayFollow versions v → IsGraph (versions ++ v ∷ [])
graph-push versions v few graph may =
    let long = length-append versions (v ∷ []) in
    record {
      few = omega (arith, long, few);
      each = λ k lt. elim (cases_lt k (length versions)) [
        | inl within ↦
            let front : take k (versions ++ v ∷ []) ≡ take k versions = take-append-le k versions (v ∷ []) (omega (arith, within))
            in let here : get_or (versions ++ v ∷ []) k no_version ≡ get_or versions k no_version = get_or-append versions (v ∷ []) no_version k within
            in rw (front, here) (graph.each k within)
        | inr past ↦
            let last : k ≡ length versions = omega (arith, past, lt, long)
            in let front : take k (versions ++ v ∷ []) ≡ versions = ap (λ (n : ℕ). take n (versions ++ v ∷ [])) last ∙ take-append_seam versions (v ∷ [])
            in let here : get_or (versions ++ v ∷ []) k no_version ≡ v = ap (λ (n : ℕ). get_or (versions ++ v ∷ []) n no_version) last ∙ get_or-append_seam versions v [] no_version
            in rw (front, here) may
      ];
    }

-- ---- of a dataset

abbrev seen : VersionNumbers Extent → Version
seen v = record { records = v.rows; parents = v.parents }

rows-seen : (versions : List (VersionNumbers Extent)) (k : ℕ) → k < length versions → (get_or (graph_of versions) k no_version).records ≡ get_or (map (λ (v : VersionNumbers Extent). v.rows) versions) k 0
rows-seen [] k lt = absurd (omega arith)
rows-seen (v ∷ versions) zero lt = refl
rows-seen (v ∷ versions) (suc k) lt = rows-seen versions k (omega arith)

edge-of : (versions : List (VersionNumbers Extent)) (rows : ℕ) (edge : ℕ × ℕ) → is_parent versions rows edge ≡ true → IsEdge (graph_of versions) rows edge
edge-of versions rows edge h =
    let halves = and-both (nat_le 1 edge.0 && nat_le edge.0 (length versions)) (nat_le edge.1 rows && nat_le edge.1 (rows_at versions edge.0)) h in
    let place = and-both (nat_le 1 edge.0) (nat_le edge.0 (length versions)) halves.0 in
    let weight = and-both (nat_le edge.1 rows) (nat_le edge.1 (rows_at versions edge.0)) halves.1 in
    let long = length-map versions seen in
    let one = leb-true 1 edge.0 place.0 in
    let most = leb-true edge.0 (length versions) place.1 in
    let own = rows-seen versions (edge.0 - 1) (omega (arith, one, most)) in
    let parent = leb-true edge.1 (rows_at versions edge.0) weight.1 in
    record {
      from_one = one;
      is_there = omega (arith, most, long);
      within_own = leb-true edge.1 rows weight.0;
      within_parent = rw own parent;
    }

edges-of : (versions : List (VersionNumbers Extent)) (rows : ℕ) (edges : List (ℕ × ℕ)) → list_all (is_parent versions rows) edges ≡ true → (k : ℕ) → k < length edges → IsEdge (graph_of versions) rows (get_or edges k (0, 0))
edges-of versions rows [] h k lt = absurd (omega arith)
edges-of versions rows (edge ∷ edges) h zero lt = edge-of versions rows edge (and-both _ _ h).0
edges-of versions rows (edge ∷ edges) h (suc k) lt = edges-of versions rows edges (and-both (is_parent versions rows edge) _ h).1 k (omega arith)

-- a version with such parents may be the next one
pub may-follow : (versions : List (VersionNumbers Extent)) (rows : ℕ) (edges : List (ℕ × ℕ)) → 1 ≤ length versions → are_parents versions rows edges ≡ true → MayFollow (graph_of versions) (record { records = rows; parents = edges })
may-follow versions rows edges some h =
    let halves = and-both (nat_le 1 (length edges)) _ h in
    let all = and-both (list_all (is_parent versions rows) edges) _ halves.1 in
    let long = length-map versions seen in
    record {
      first = λ none. absurd (omega (arith, none, long, some));
      later = λ _. leb-true 1 (length edges) halves.0;
      edges = edges-of versions rows edges all.0;
    }

pub graph-one : (v : VersionNumbers Extent) → v.parents ≡ [] → IsGraph (graph_of (v ∷ []))
graph-one v none = record { few = omega arith; each = each }
  where
    each : (k : ℕ) → k < length (graph_of (v ∷ [])) → MayFollow (take k (graph_of (v ∷ []))) (get_or (graph_of (v ∷ [])) k no_version)
    each zero lt = record {
      first = λ _. none;
      later = λ lt. absurd (omega arith);
      edges = λ k within. absurd (let long = ap (λ (es : List (ℕ × ℕ)). length es) none in omega (arith, long, within));
    }
    each (suc k) lt = absurd (omega arith)

graph-more : (versions : List Kept) (v : Kept) → graph_of (map version_in (versions ++ v ∷ [])) ≡ graph_of (map version_in versions) ++ seen (version_in v) ∷ []
graph-more [] v = refl
graph-more (w ∷ versions) v = ap (λ (gs : List Version). seen (version_in w) ∷ gs) (graph-more versions v)

pub versions-graph : (versions : List Kept) (v : Kept) → 1 ≤ length versions → length versions < 65535 → IsGraph (graph_of (map version_in versions)) → are_parents (map version_in versions) v.rows v.parents ≡ true
    → IsGraph (graph_of (map version_in (versions ++ v ∷ [])))
versions-graph versions v some few graph parents =
    let count = length-map versions version_in in
    let long = length-map (map version_in versions) seen in
    rw graph-more (graph-push (graph_of (map version_in versions)) (seen (version_in v)) (omega (arith, count, long, few)) graph (may-follow (map version_in versions) v.rows v.parents (omega (arith, count, some)) parents))
