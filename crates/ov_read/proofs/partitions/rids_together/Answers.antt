use Rattle.std.proofs.Common.{◌≡◌, ℕ, List, true, false, sym, ◌∙◌, subst}
use Rattle.std.specs.Prelude.{Option, MatchOption}
use Rattle.ov_read.specs.Agreement.{AreTogether, IsBorneOut}
use Rattle.ov_read.proofs.Uniting.{only_one}
use Rattle.ov_read.proofs.partitions.rids_together.Goals as goal

no : true ≡ false → ⊥
no e = cc

pub returns-else-is_borne_out : goal.returns-else-is_borne_out
returns-else-is_borne_out c h =
    let sets : List (List ℕ) = c.args.sets.now in
    let all : AreTogether sets c.in-Some.all =
    subst (λ (o : Option (List ℕ)). MatchOption o ((all : List ℕ) → AreTogether sets all → ⊥) (AreTogether sets)) c.in-Some.is c.in_ok-all.ensures in
    let same : h.all ≡ c.in-Some.all = only_one sets h.all c.in-Some.all h.together all in
    no (sym (c.is_borne_out.ensures.1 (subst (IsBorneOut c.args.count c.args.last) same h.borne_out)) ∙ c.if-is_borne_out.false)
