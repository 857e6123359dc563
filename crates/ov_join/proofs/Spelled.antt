-- What holds of every condition that a join spells: where it holds of its tests, and NOT, AND and OR keep it.
use Rattle.std.proofs.Common.{◌≡◌, inl, inr, Bool, ℕ, zero, suc, List, [], ◌∷◌, sym, subst}
use Rattle.std.specs.List.{AllByRecursion}
use Rattle.ov_model.specs.Grammar.{Joined, every, any, IsConj, IsDisj, IsUnit}
use Rattle.ov_model.specs.JoinGrammar.{IsSideOperand, IsSideTest, IsJoinCond}
use Rattle.ov_model.specs.declared.query.Cond.{Cond}
use Rattle.ov_model.specs.declared.query.Cond.TheVariants as cond
use Rattle.ov_model.specs.declared.query.Fixed.{Fixed}
use Rattle.ov_model.specs.declared.query.Operand.{Operand}
use Rattle.ov_model.specs.declared.query.Sign.{Sign}
use Rattle.ov_model.specs.declared.query.Symbol.{Symbol}

pub record Keeps (P : Cond → Type 0) : Type 0 where
  pub compare : (a b : List Symbol) (left : Operand) (by : Sign) (right : Operand) → IsSideOperand a left → IsSideOperand b right → P (cond.Compare left by right)
  pub null : (a : List Symbol) (x : Operand) (negated : Bool) → IsSideOperand a x → P (cond.IsNull x negated)
  pub not_ : (c : Cond) → P c → P (cond.Not c)
  pub every : (cs : List Cond) → AllByRecursion P cs → P (cond.Every cs)
  pub any : (cs : List Cond) → AllByRecursion P cs → P (cond.Any cs)

module _ (P : Cond → Type 0) (keeps : Keeps P) where
  test-all : (symbols : List Symbol) (c : Cond) → IsSideTest symbols c → P c
  test-all symbols c (inl h) = subst P (sym h.cond_is) (keeps.compare h.before h.after h.left h.by h.right h.left_is h.right_is)
  test-all symbols c (inr h) = subst P (sym h.cond_is) (keeps.null h.before h.tested h.negated h.operand_is)

  joined-all : (between : Fixed) (item : List Symbol → Cond → Type 0) → ((s : List Symbol) (c : Cond) → item s c → P c) → (symbols : List Symbol) (cs : List Cond)
      → Joined between item symbols cs → AllByRecursion P cs
  joined-all between item holds symbols [] h = absurd h
  joined-all between item holds symbols (c ∷ []) h = (holds symbols c h, tt)
  joined-all between item holds symbols (c ∷ d ∷ cs) h = (holds h.0 c h.3, joined-all between item holds h.1 (d ∷ cs) h.4)

  every-all : (cs : List Cond) → AllByRecursion P cs → P (every cs)
  every-all [] all = keeps.every [] all
  every-all (c ∷ []) all = all.0
  every-all (c ∷ d ∷ cs) all = keeps.every (c ∷ d ∷ cs) all

  any-all : (cs : List Cond) → AllByRecursion P cs → P (any cs)
  any-all [] all = keeps.any [] all
  any-all (c ∷ []) all = all.0
  any-all (c ∷ d ∷ cs) all = keeps.any (c ∷ d ∷ cs) all

  conj-all : (unit : List Symbol → Cond → Type 0) → ((s : List Symbol) (c : Cond) → unit s c → P c) → (symbols : List Symbol) (c : Cond) → IsConj unit symbols c → P c
  conj-all unit holds symbols c h = subst P (sym h.cond_is) (every-all h.members (joined-all _ unit holds symbols h.members h.joined))

  disj-all : (unit : List Symbol → Cond → Type 0) → ((s : List Symbol) (c : Cond) → unit s c → P c) → (symbols : List Symbol) (c : Cond) → IsDisj (IsConj unit) symbols c → P c
  disj-all unit holds symbols c h = subst P (sym h.cond_is) (any-all h.members (joined-all _ (IsConj unit) (conj-all unit holds) symbols h.members h.joined))

  unit-none : (symbols : List Symbol) (c : Cond) → IsUnit IsSideTest zero symbols c → P c
  unfolding IsUnit
  unit-none symbols c h = test-all symbols c h

  unit-more : (depth : ℕ) → ((s : List Symbol) (c : Cond) → IsUnit IsSideTest depth s c → P c) → (symbols : List Symbol) (c : Cond) → IsUnit IsSideTest (suc depth) symbols c → P c
  unfolding IsUnit
  unit-more depth holds symbols c (inl h) = test-all symbols c h
  unit-more depth holds symbols c (inr (inl h)) = subst P (sym h.cond_is) (keeps.not_ h.negated (holds h.inner h.negated h.unit_is))
  unit-more depth holds symbols c (inr (inr h)) = disj-all (IsUnit IsSideTest depth) holds h.inner c h.inner_is

  unit-all : (depth : ℕ) (symbols : List Symbol) (c : Cond) → IsUnit IsSideTest depth symbols c → P c
  unit-all zero = unit-none
  unit-all (suc depth) = unit-more depth (unit-all depth)

  pub cond-all : (symbols : List Symbol) (c : Cond) → IsJoinCond symbols c → P c
  cond-all = disj-all (IsUnit IsSideTest 100) (unit-all 100)
