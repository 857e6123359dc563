use Rattle.std.proofs.Common.{subst, List, String, Vec, ℕ, Global, arith}
use Rattle.ov_memhost.specs.Named.{entries_of, IsFirst, IsMissing}
use Rattle.ov_memhost.proofs.Files.{get_first, get_missing}
use Rattle.ov_memhost.proofs.stage.MemStageStage.find.Goals as goal

pub returns-in-Some-clause-found : goal.returns-in-Some-clause-found
returns-in-Some-clause-found c told =
    get_first c.args.self.now.files.items c.args.name.now c.in-Some.place
    (subst (λ (fs : List (String Global × Vec ℕ Global)). IsFirst c.args.name.now (entries_of fs) c.in-Some.place) c.as_slice.ensures.value c.in-Some.ensures)

pub returns-in-None-clause-found : goal.returns-in-None-clause-found
returns-in-None-clause-found c = (
  omega arith,
  λ told.
      get_missing c.args.self.now.files.items c.args.name.now
      (subst (λ (fs : List (String Global × Vec ℕ Global)). IsMissing c.args.name.now (entries_of fs)) c.as_slice.ensures.value c.in-None.ensures),
)
