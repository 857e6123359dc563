-- What the tests of a Whole's versions mean.
use Rattle.std.proofs.Common.{◌≡◌, ℕ, ◌+◌, ◌≤◌, true, List, [], ◌∷◌, ◌++◌, length, map, refl, arith}
use Rattle.std.specs.Prelude.{nat_le, ◌==◌}
use Rattle.std.proofs.lemmas.Bool.{and_parts, eqb-true, leb-true}
use Rattle.std.proofs.lemmas.List.{append_assoc, append-nil, length-append, length-map, map-append}
use Rattle.ov_host.specs.declared.area.Extent.{Extent}
use Rattle.ov_graph.specs.Versions.{IsGraph, Version as Node}
use Rattle.ov_catalog.specs.declared.cvd.Version.{Version}
use Rattle.ov_catalog.specs.Events.{graph_of}
use Rattle.ov_catalog.specs.Numbers.{VersionNumbers}
use Rattle.ov_catalog.specs.Sets.{version_in}
use Rattle.ov_catalog.specs.Testing.{are_parents}
use Rattle.ov_catalog.specs.Wholes.{are_versions, parents_follow}
use Rattle.ov_catalog.proofs.GraphLemmas.{graph-one, graph-push, may-follow}

graph-grows : (done vs : List (VersionNumbers Extent)) → 1 ≤ length done → length done + length vs ≤ 65535 → IsGraph (graph_of done) → parents_follow done vs ≡ true → IsGraph (graph_of (done ++ vs))
graph-grows done [] some few graph follow = rw append-nil graph
graph-grows done (v ∷ vs) some few graph follow =
    let both = and_parts (are_parents done v.rows v.parents) (parents_follow (done ++ v ∷ []) vs) follow in
    let node : VersionNumbers Extent → Node = λ w. record { records = w.rows; parents = w.parents } in
    let long = length-append done (v ∷ []) in
    let nodes = length-map done node in
    let one : IsGraph (graph_of (done ++ v ∷ [])) =
    rw (map-append node done (v ∷ [])) (graph-push (graph_of done) (node v) (omega (arith, nodes, few)) graph (may-follow done v.rows v.parents some both.0)) in
    let all = graph-grows (done ++ v ∷ []) vs (omega (arith, long)) (omega (arith, long, few)) one both.1 in
    rw append_assoc at all

no-parents : (edges : List (ℕ × ℕ)) → (length edges == 0) ≡ true → edges ≡ []
no-parents [] h = refl
no-parents (edge ∷ edges) h = let none = eqb-true (length (edge ∷ edges)) 0 h in absurd (omega (arith, none))

graph-of-all : (vs : List (VersionNumbers Extent)) → are_versions vs ≡ true → (1 ≤ length vs) × (length vs ≤ 65535) × IsGraph (graph_of vs)
graph-of-all [] h = absurd cc
graph-of-all (v ∷ vs) h =
    let both = and_parts (nat_le (length (v ∷ vs)) 65535) _ h in
    let rest = and_parts (length v.parents == 0) (parents_follow (v ∷ []) vs) both.1 in
    let few = leb-true (length (v ∷ vs)) 65535 both.0 in
    (omega arith, few, graph-grows (v ∷ []) vs (omega arith) (omega (arith, few)) (graph-one v (no-parents v.parents rest.0)) rest.1)

-- there is one, there are not too many, and each has its parents among those before it
pub record AreSound (versions : List Version) : Type 0 where
  pub some : 1 ≤ length versions
  pub few : length versions ≤ 65535
  pub graph : IsGraph (graph_of (map version_in versions))

pub are-sound : (versions : List Version) → are_versions (map version_in versions) ≡ true → AreSound versions
are-sound versions h =
    let all = graph-of-all (map version_in versions) h in
    let size = length-map versions version_in in
    let some = all.0 in
    let few = all.1 in
    record { some = omega (arith, some, size); few = omega (arith, few, size); graph = all.2 }
