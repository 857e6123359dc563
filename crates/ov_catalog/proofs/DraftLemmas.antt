-- What a draft keeps is what its Whole says.
use Rattle.std.proofs.Common.{◌≡◌, List, [], ◌∷◌, map, refl, ap}
use Rattle.ov_event.specs.declared.whole.RawPart.{RawPart}
use Rattle.ov_event.specs.declared.whole.RawTarget.{RawTarget}
use Rattle.ov_event.specs.declared.whole.RawVersion.{RawVersion}
use Rattle.ov_host.specs.declared.area.Extent.{Extent}
use Rattle.ov_catalog.specs.Drafts.{kept_part, kept_target, kept_version}
use Rattle.ov_catalog.specs.Numbers.{PartNumbers, TargetNumbers, VersionNumbers}
use Rattle.ov_catalog.specs.Raw.{raw_part, raw_target, raw_version}
use Rattle.ov_catalog.specs.Sets.{part_in, target_in, version_in}

pub versions-kept : (vs : List RawVersion) → map version_in (map kept_version vs) ≡ map raw_version vs
versions-kept [] = refl
versions-kept (v ∷ vs) = ap (λ (ns : List (VersionNumbers Extent)). raw_version v ∷ ns) (versions-kept vs)

pub parts-kept : (ps : List RawPart) → map part_in (map kept_part ps) ≡ map raw_part ps
parts-kept [] = refl
parts-kept (p ∷ ps) = ap (λ (ns : List (PartNumbers Extent)). raw_part p ∷ ns) (parts-kept ps)

pub targets-kept : (ts : List RawTarget) → map target_in (map kept_target ts) ≡ map raw_target ts
targets-kept [] = refl
targets-kept (t ∷ ts) = ap (λ (ns : List TargetNumbers). raw_target t ∷ ns) (targets-kept ts)
