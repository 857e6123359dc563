use Rattle.std.proofs.Common.{◌≡◌, map, refl, ap, ◌∙◌}
use Rattle.std.specs.Prelude.{List}
use Rattle.ov_layout.specs.declared.part.Part.{Part}
use Rattle.ov_catalog.specs.declared.cvd.Version.{Version}
use Rattle.ov_catalog.specs.Raw.{raw_part, raw_version}
use Rattle.ov_catalog.specs.Sets.{part_in, version_in}
use Rattle.ov_catalog.proofs.DraftLemmas.{parts-kept, versions-kept}
use Rattle.ov_catalog.proofs.draft.draft_of.Goals as goal

pub returns-clause-numbers : goal.returns-clause-numbers
returns-clause-numbers c =
    let said = c.args.said in
    let versions : map version_in c.in_ok-versions_of.field-0.items ≡ map raw_version said.versions =
    ap (λ (vs : List Version). map version_in vs) c.in_ok-versions_of.ensures ∙ versions-kept said.versions in
    let parts : map part_in c.in_ok-parts_of.field-0.items ≡ map raw_part said.parts = ap (λ (ps : List Part). map part_in ps) c.in_ok-parts_of.ensures ∙ parts-kept said.parts in
    rw (versions, parts, c.in_ok-plan_of.ensures) refl
