-- A join's condition over rows side by side, by cases.
use Rattle.std.proofs.Common.{◌≡◌, ℕ, Bool, List, map, sym, ◌∙◌, ap}
use Rattle.ov_model.specs.Joins.{wide_cond, wide_step, wide_operand}
use Rattle.ov_model.specs.declared.query.Cond.{Cond}
use Rattle.ov_model.specs.declared.query.Cond.TheOpen.{Cond-F}
use Rattle.ov_model.specs.declared.query.Cond.TheFolds.{fold-roll-Cond}
use Rattle.ov_model.specs.declared.query.Cond.TheVariants.{Compare, IsNull, InLineage, InList, Not, Every, Any, rolls-Compare, rolls-IsNull, rolls-InLineage, rolls-InList, rolls-Not, rolls-Every, rolls-Any}
use Rattle.ov_model.specs.declared.query.LineageKind.{LineageKind}
use Rattle.ov_model.specs.declared.query.Operand.{Operand}
use Rattle.ov_model.specs.declared.query.Sign.{Sign}

pub wide-compare : (left : Operand) (by : Sign) (right : Operand) → wide_cond (Compare left by right) ≡ Compare (wide_operand left) by (wide_operand right)
wide-compare left by right = ap wide_cond (sym (rolls-Compare left by right)) ∙ fold-roll-Cond Cond wide_step (Cond-F.Compare left by right)

pub wide-null : (x : Operand) (negated : Bool) → wide_cond (IsNull x negated) ≡ IsNull (wide_operand x) negated
wide-null x negated = ap wide_cond (sym (rolls-IsNull x negated)) ∙ fold-roll-Cond Cond wide_step (Cond-F.IsNull x negated)

pub wide-lineage : (kind : LineageKind) (vid : ℕ) (negated : Bool) → wide_cond (InLineage kind vid negated) ≡ InLineage kind vid negated
wide-lineage kind vid negated = ap wide_cond (sym (rolls-InLineage kind vid negated)) ∙ fold-roll-Cond Cond wide_step (Cond-F.InLineage kind vid negated)

pub wide-list : (vids : List ℕ) (negated : Bool) → wide_cond (InList vids negated) ≡ InList vids negated
wide-list vids negated = ap wide_cond (sym (rolls-InList vids negated)) ∙ fold-roll-Cond Cond wide_step (Cond-F.InList vids negated)

pub wide-not : (c : Cond) → wide_cond (Not c) ≡ Not (wide_cond c)
wide-not c = ap wide_cond (sym (rolls-Not c)) ∙ fold-roll-Cond Cond wide_step (Cond-F.Not c)

pub wide-every : (cs : List Cond) → wide_cond (Every cs) ≡ Every (map wide_cond cs)
wide-every cs = ap wide_cond (sym (rolls-Every cs)) ∙ fold-roll-Cond Cond wide_step (Cond-F.Every cs)

pub wide-any : (cs : List Cond) → wide_cond (Any cs) ≡ Any (map wide_cond cs)
wide-any cs = ap wide_cond (sym (rolls-Any cs)) ∙ fold-roll-Cond Cond wide_step (Cond-F.Any cs)
