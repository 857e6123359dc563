use Rattle.std.proofs.Common.{◌≡◌, None, length, map, take}
use Rattle.ov_model.specs.Asking.{cond_lineages, missing_version}
use Rattle.ov_model.specs.Lists.{joined}
use Rattle.ov_lineage.specs.Related.{relatives_by}
use Rattle.ov_lineage.specs.Resolved.{AllSayAs}
use Rattle.ov_lineage.proofs.resolving.+resolve_cond.Given as goal

-- the conditions before say the same, and their versions are there
abbrev pub invariant-resolve_conds-loop-cond : goal.invariant-resolve_conds-loop-cond
invariant-resolve_conds-loop-cond l =
    AllSayAs (relatives_by l.lineage) (take l.cond-index l.conds) l.made
    × (missing_version (length l.lineage) (joined (map cond_lineages (take l.cond-index l.conds))) ≡ None)
