use Rattle.std.proofs.Common.{take}
use Rattle.std.specs.List.{All}
use Rattle.ov_terms.specs.Finding.{IsOfVersion}
use Rattle.ov_terms.proofs.of_versions.+is_of_version.Given as goal

-- the conditions before say the same of all rows of a version
abbrev pub invariant-are_of_versions-loop-cond : goal.invariant-are_of_versions-loop-cond
invariant-are_of_versions-loop-cond l = All IsOfVersion (take l.cond-index l.conds)
