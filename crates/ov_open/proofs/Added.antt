-- The extents of a dataset, put behind others.
use Rattle.std.proofs.Common.{◌≡◌, ◌++◌, List, [], ◌∷◌, map, flat_map, refl, sym, ap, ◌∙◌, append_assoc}
use Rattle.ov_host.specs.declared.area.Extent.{Extent}
use Rattle.ov_layout.specs.declared.part.Part.{Part}
use Rattle.ov_catalog.specs.declared.cvd.Cvd.{Cvd}
use Rattle.ov_catalog.specs.declared.cvd.Version.{Version}
use Rattle.ov_catalog.specs.Extents.{of_plan, of_set}
use Rattle.ov_catalog.specs.Sets.{part_in, plan_in, set_in, version_in}

lists_in : (versions : List Version) → map (λ v. v.list) (map version_in versions) ≡ map (λ v. v.list) versions
lists_in [] = refl
lists_in (v ∷ vs) = ap (λ (es : List Extent). v.list ∷ es) (lists_in vs)

segments_in : (parts : List Part) → flat_map (λ p. p.segments) (map part_in parts) ≡ flat_map (λ p. p.segments) parts
segments_in [] = refl
segments_in (p ∷ parts) = ap (λ (es : List Extent). p.segments ++ es) (segments_in parts)

pub added : (d : Cvd) (old lists segments all : List Extent) → lists ≡ old ++ map (λ v. v.list) d.versions.items
    → segments ≡ lists ++ flat_map (λ p. p.segments) d.layout.parts → all ≡ segments ++ of_plan (plan_in d.plan) → all ≡ old ++ of_set (set_in d)
added d old lists segments all first second third =
    let vs : List Extent = map (λ v. v.list) d.versions.items
    in let ps : List Extent = flat_map (λ p. p.segments) d.layout.parts
    in let plan : List Extent = of_plan (plan_in d.plan)
    in third
    ∙ ap (λ (es : List Extent). es ++ plan) (second ∙ ap (λ (es : List Extent). es ++ ps) first)
    ∙ append_assoc (old ++ vs) ps plan
    ∙ append_assoc old vs (ps ++ plan)
    ∙ ap (λ (es : List Extent). old ++ es) (λ i. sym (lists_in d.versions.items) i ++ (sym (segments_in d.layout.parts) i ++ plan))
