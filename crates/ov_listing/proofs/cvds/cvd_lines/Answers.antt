use Rattle.std.proofs.Common.{List, map, ◌∙◌, ap, arith}
use Rattle.std.proofs.lemmas.List.{take_all}
use Rattle.ov_catalog.specs.declared.cvd.Cvd.{Cvd}
use Rattle.ov_catalog.specs.Sets.{sets_in}
use Rattle.ov_listing.specs.Listed.{set_line}
use Rattle.ov_listing.proofs.cvds.cvd_lines.Goals as goal

pub returns : goal.returns
returns c =
    c.from_vec.ensures ∙ c.loop-d.invariant
    ∙ ap (λ (ds : List Cvd). map set_line (sets_in ds)) (take_all c.loop-d.d-index c.cvds-sets.result.now (omega arith))
    ∙ ap (map set_line) c.cvds-sets.ensures.sets
