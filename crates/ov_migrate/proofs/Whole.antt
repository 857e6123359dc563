-- A target's lists and kept segments, as they are read.
use Rattle.std.proofs.Common.{◌≡◌, ℕ, true, List, map, ◌∙◌, ap, subst}
use Rattle.std.specs.List.{AllZip}
use Rattle.ov_host.specs.declared.area.Extent.{Extent}
use Rattle.ov_host.specs.Host.{State}
use Rattle.ov_layout.specs.declared.part.Part.{Part}
use Rattle.ov_catalog.specs.declared.cvd.Cvd.{Cvd}
use Rattle.ov_catalog.specs.Events.{chosen, segments_at}
use Rattle.ov_catalog.specs.Numbers.{TargetNumbers}
use Rattle.ov_catalog.specs.Sets.{part_in, set_in}
use Rattle.ov_fetch.specs.Extents.{IsList, Looked, page_bytes}
use Rattle.ov_fetch.specs.Rows.{HaveRids}
use Rattle.ov_fetch.proofs.Looks.{same_pages}
use Rattle.ov_read.specs.Agreement.{Agrees, list_of}
use Rattle.ov_migrate.specs.Targets.{IsWhole}

pub is_whole : (s0 s1 : State) (d : Cvd) (t : TargetNumbers) (versions : List ℕ) (parts : List Part) (segments read : List Extent) (lists sets : List (List ℕ)) → s0.tells ≡ true → Looked s0 s1
    → versions ≡ t.versions → parts ≡ d.layout.parts → segments ≡ chosen t.kept (segments_at t.source (map part_in parts)) → read ≡ segments
    → AllZip (λ vid. IsList (page_bytes s0) (list_of (set_in d) vid)) versions lists → AllZip (Agrees (set_in d)) versions lists
    → (s1.tells ≡ true → HaveRids d.schema (page_bytes s1) read sets) → IsWhole (page_bytes s0) (set_in d) t lists sets
is_whole s0 s1 d t versions parts segments read lists sets told looked same placed chose as_read stand agree have = record {
  read = subst (λ vids. AllZip (λ vid. IsList (page_bytes s0) (list_of (set_in d) vid)) vids lists) same stand;
  agree = subst (λ vids. AllZip (Agrees (set_in d)) vids lists) same agree;
  segments =
      subst (λ es. HaveRids d.schema (page_bytes s0) es sets) (as_read ∙ chose ∙ ap (λ (ps : List Part). chosen t.kept (segments_at t.source (map part_in ps))) placed)
      (subst (λ area. HaveRids d.schema area read sets) (same_pages s0 s1 looked told) (have (looked.told ∙ told)));
}
