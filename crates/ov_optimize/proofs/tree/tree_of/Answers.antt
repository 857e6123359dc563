use Rattle.std.proofs.Common.{◌≡◌, ◌<◌, ℕ, zero, suc, List, [], ◌∷◌, length, map, take, get_or, refl, sym, ◌∙◌, ap, subst, arith}
use Rattle.ov_graph.specs.Versions as graph
use Rattle.ov_graph.specs.Versions.{MayFollow, no_version}
use Rattle.ov_catalog.specs.declared.cvd.Version.{Version}
use Rattle.ov_catalog.specs.Events.{graph_of}
use Rattle.ov_catalog.specs.Sets.{version_in}
use Rattle.ov_optimize.proofs.tree.tree_of.Goals as goal

abbrev seen : Version → graph.Version
seen v = record { records = v.rows; parents = v.parents }

first_seen : (vs : List Version) (k : ℕ) → graph_of (map version_in (take k vs)) ≡ take k (graph_of (map version_in vs))
first_seen vs zero = refl
first_seen [] (suc k) = refl
first_seen (v ∷ vs) (suc k) = ap (λ rest. seen v ∷ rest) (first_seen vs k)

seen_at : (vs : List Version) (k : ℕ) (v : Version) → k < length vs → v ≡ get_or vs k v → get_or (graph_of (map version_in vs)) k no_version ≡ seen v
seen_at [] k v low is = absurd (omega (arith, low))
seen_at (x ∷ vs) zero v low is = ap seen (sym is)
seen_at (x ∷ vs) (suc k) v low is = seen_at vs k v (omega (arith, low)) is

graph_long : (vs : List Version) → length (graph_of (map version_in vs)) ≡ length vs
graph_long [] = refl
graph_long (v ∷ vs) = ap suc (graph_long vs)

pub add-requires-clause-may_follow : goal.add-requires-clause-may_follow
add-requires-clause-may_follow c =
    let vs : List Version = c.args.versions.now in
    let k : ℕ = c.loop-version.version-index in
    let v : Version = c.version-item.result in
    let low : k < length (graph_of (map version_in vs)) = omega (arith, c.loop-version-test.true, graph_long vs) in
    subst (λ edges. MayFollow c.loop-version.graph (record { records = v.rows; parents = edges })) (sym c.as_slice.ensures)
    (subst (λ g. MayFollow g (seen v)) (sym (c.loop-version.invariant ∙ first_seen vs k))
    (subst (MayFollow (take k (graph_of (map version_in vs)))) (seen_at vs k v c.loop-version-test.true c.version-item.is) (c.requires.each k low)))
