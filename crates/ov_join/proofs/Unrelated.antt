-- No condition of a join names a lineage.
use Rattle.std.proofs.Common.{◌≡◌, ◌++◌, ◌∷◌, ◌∙◌, [], Bool, List, Option, Some, None, ap, map, refl}
use Rattle.std.specs.List.{AllByRecursion}
use Rattle.ov_model.specs.Asking.{cond_lineages, guard_lineages}
use Rattle.ov_model.specs.Grammar.{IsGuard}
use Rattle.ov_model.specs.JoinGrammar.{IsJoinCond}
use Rattle.ov_model.specs.Joins.{wide_cond, wide_guard, wide_operand}
use Rattle.ov_model.specs.Lists.{joined}
use Rattle.ov_model.specs.declared.query.Cond.{Cond}
use Rattle.ov_model.specs.declared.query.Fixed.{Fixed}
use Rattle.ov_model.specs.declared.query.Symbol.{Symbol}
use Rattle.ov_model.proofs.Asked.{lineages-any, lineages-compare, lineages-every, lineages-not, lineages-null}
use Rattle.ov_model.proofs.Wide.{wide-any, wide-compare, wide-every, wide-not, wide-null}
use Rattle.ov_join.proofs.Spelled.{Keeps, cond-all}

abbrev IsFree : Cond → Type 0
IsFree c = cond_lineages (wide_cond c) ≡ []

all-free : (cs : List Cond) → AllByRecursion IsFree cs → joined (map cond_lineages (map wide_cond cs)) ≡ []
all-free [] all = refl
all-free (c ∷ cs) all = ap (λ l. l ++ joined (map cond_lineages (map wide_cond cs))) all.0 ∙ all-free cs all.1

free-keep : Keeps IsFree
free-keep = record {
  compare = λ a b left by right l r. ap cond_lineages (wide-compare left by right) ∙ lineages-compare (wide_operand left) by (wide_operand right);
  null = λ a x negated h. ap cond_lineages (wide-null x negated) ∙ lineages-null (wide_operand x) negated;
  not_ = λ c free. ap cond_lineages (wide-not c) ∙ lineages-not (wide_cond c) ∙ free;
  every = λ cs all. ap cond_lineages (wide-every cs) ∙ lineages-every (map wide_cond cs) ∙ all-free cs all;
  any = λ cs all. ap cond_lineages (wide-any cs) ∙ lineages-any (map wide_cond cs) ∙ all-free cs all;
}

pub guard-free : (word : Fixed) (symbols : List Symbol) (guard : Option Cond) → IsGuard word IsJoinCond symbols guard → guard_lineages (wide_guard guard) ≡ []
guard-free word symbols None h = refl
guard-free word symbols (Some c) h = cond-all IsFree free-keep h.0 c h.2
