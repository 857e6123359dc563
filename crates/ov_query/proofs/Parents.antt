-- The parents of a dataset's versions: by its graph, as the store's numbers have them, and as a World has them.
use Rattle.std.proofs.Common.{◌≡◌, ◌∙◌, ◌<◌, ◌+◌, ℕ, zero, suc, List, [], ◌∷◌, ◌++◌, Some, length, map, take, get_or, refl, sym, ap, subst, arith}
use Rattle.std.specs.Prelude.{Vec}
use Rattle.std.specs.declared.alloc.Global.{Global}
use Rattle.std.proofs.lemmas.List.{length-map, map-append}
use Rattle.ov_host.specs.declared.area.Extent.{Extent}
use Rattle.ov_host.specs.Host.{State}
use Rattle.ov_fetch.specs.Extents.{page_bytes}
use Rattle.ov_core.specs.AtWorld.{IsAtWorld}
use Rattle.ov_core.specs.Held.{Held}
use Rattle.ov_catalog.specs.Events.{graph_of}
use Rattle.ov_catalog.specs.Numbers.{VersionNumbers, each_version}
use Rattle.ov_catalog.specs.Ready.{IsSet}
use Rattle.ov_catalog.specs.Sets.{set_in as numbers_in, version_in}
use Rattle.ov_catalog.specs.Shown.{shown_versions}
use Rattle.ov_catalog.specs.declared.cvd.Cvd.{Cvd}
use Rattle.ov_catalog.specs.declared.cvd.Version.{Version as KeptVersion}
use Rattle.law_image.specs.Pages.{readings_of}
use Rattle.ov_model.specs.Book.{Version}
use Rattle.ov_model.specs.Known.{known_of}
use Rattle.ov_model.specs.Records.{Rec, order_of, records_of, weights}
use Rattle.ov_model.specs.World.{Dataset, World, set_named}
use Rattle.ov_read.specs.OfWorld.{IsSetOf}
use Rattle.law_reads.proofs.Founds.{Shows}
use Rattle.ov_store.specs.Scanning.{set_in}
use Rattle.ov_store.proofs.Deciding.{counts}
use Rattle.ov_store.proofs.Seeing.{found_set}
use Rattle.ov_lineage.proofs.Graphs.{graph_parents, node_parents, vids_of}
use Rattle.ov_lineage.proofs.Growing.{list-more}
use Rattle.ov_lineage.specs.Related.{AreParents, lists_of}
use Rattle.ov_query.specs.Queries.{Set, known_in}

-- ---- by the numbers

abbrev pub parents_in : {L : Type 0} → VersionNumbers L → List ℕ
parents_in v = vids_of v.parents

same_parents : (vs : List (VersionNumbers Extent)) → map node_parents (graph_of vs) ≡ map parents_in vs
same_parents [] = refl
same_parents (v ∷ vs) = ap (λ rest. parents_in v ∷ rest) (same_parents vs)

-- the parents that the numbers have are those of versions
pub known_parents : (d : Cvd) → IsSet d → AreParents (known_in (numbers_in d)).parents
known_parents d is = subst AreParents (same_parents (map version_in d.versions.items)) (graph_parents (graph_of (map version_in d.versions.items)) is.graph)

-- as they are gone through
pub kept_long : (vs : List KeptVersion) → length (map parents_in (map version_in vs)) ≡ length vs
kept_long vs = length-map (map version_in vs) parents_in ∙ length-map vs version_in

pub kept_at : (vs : List KeptVersion) (i : ℕ) (v : KeptVersion) → i < length vs → v ≡ get_or vs i v → vids_of v.parents ≡ get_or (map parents_in (map version_in vs)) i []
kept_at [] i v low is = absurd (omega (arith, low))
kept_at (x ∷ vs) zero v low is = ap (λ (u : KeptVersion). vids_of u.parents) is
kept_at (x ∷ vs) (suc i) v low is = kept_at vs i v (omega (arith, low)) is

pub lists_more : (parents : List (List ℕ)) (i : ℕ) (lists : List (Vec ℕ Global)) (list : Vec ℕ Global) → i < length parents → list.items ≡ get_or parents i []
    → lists_of lists ≡ take i parents → lists_of (lists ++ list ∷ []) ≡ take (i + 1) parents
lists_more parents i lists list low is so_far =
    map-append (λ (l : Vec ℕ Global). l.items) lists (list ∷ []) ∙ list-more parents i list.items (lists_of lists) low is so_far

-- ---- at a World

each_parents : {L M : Type 0} (f : L → M) (vs : List (VersionNumbers L)) → map parents_in (map (each_version f) vs) ≡ map parents_in vs
each_parents f [] = refl
each_parents f (v ∷ vs) = ap (λ rest. parents_in v ∷ rest) (each_parents f vs)

named_weights : (parents : List ℕ) (rs : List Rec) (done : List (List Rec)) → vids_of (weights parents rs done) ≡ parents
named_weights [] rs done = refl
named_weights (p ∷ ps) rs done = ap (λ rest. p ∷ rest) (named_weights ps rs done)

shown_parents : (all : List Rec) (done : List (List Rec)) (vs : List Version) → map parents_in (shown_versions all done vs) ≡ map (λ v. v.parents) vs
shown_parents all done [] = refl
shown_parents all done (v ∷ vs) =
    λ i. named_weights v.parents (records_of v done) done i ∷ shown_parents all (done ++ records_of v done ∷ []) vs i

set_parents : (w : World) (area : List ℕ) (set : Set) (d : Dataset) → IsSetOf w d area set → map parents_in set.versions ≡ map (λ v. v.parents) d.cvd.versions
set_parents w area set d of_world =
    let shows : Shows area set d = of_world.shows
    in sym (each_parents (readings_of area).list set.versions)
    ∙ ap (λ x. map parents_in x.versions) shows
    ∙ each_parents Some (shown_versions (order_of d.cvd.versions) [] d.cvd.versions)
    ∙ shown_parents (order_of d.cvd.versions) [] d.cvd.versions

-- the numbers know of a dataset what its World has
pub known_is : (w : World) (held : Held) (t : State) → IsAtWorld w held t → (name : List ℕ) (d : Dataset) → set_named w name ≡ Some d
    → (set : Set) → set_in held.numbers name ≡ Some set → known_in set ≡ known_of d.cvd
known_is w held t at name d named set found =
    let schema = (counts w held t at name d named set found).schema
    in let parents = set_parents w (page_bytes t) set d (found_set w held t at name set d found named)
    in λ i. record { schema = schema i; parents = parents i }
