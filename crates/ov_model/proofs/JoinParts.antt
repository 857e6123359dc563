-- The parts of a join: reading and the grammar.
use Rattle.std.proofs.Common.{◌≡◌, inl, inr, ℕ, pos, true, false, List, [], ◌∷◌, ◌++◌, Some, None, refl, ap, subst, ◌∙◌}
use Rattle.ov_value.specs.declared.value.Value.TheVariants as value
use Rattle.ov_model.specs.Grammar.{of_cvd, IsItems, IsGuard}
use Rattle.ov_model.specs.JoinGrammar.{IsSideCol, IsSideTerm, IsSideOperand, IsSideTest, IsJoinCond, IsSide, IsEquation}
use Rattle.ov_model.specs.JoinReading.{dotted_at, side_col_at, side_term_at, side_operand_at, side_test_at, side_at, equation_at}
use Rattle.ov_model.specs.Reading.{Reading, made_at, same_word, eaten, name_at, name_of, count_at, count_of, operand_by, cond_at, items_at, of_cvd_at, guard_at}
use Rattle.ov_model.specs.declared.query.Side.{Side}
use Rattle.ov_model.specs.declared.query.Col.{Col}
use Rattle.ov_model.specs.declared.query.Col.TheVariants as col
use Rattle.ov_model.specs.declared.query.Term.{Term}
use Rattle.ov_model.specs.declared.query.Term.TheVariants as term
use Rattle.ov_model.specs.declared.query.Operand.{Operand}
use Rattle.ov_model.specs.declared.query.Operand.TheVariants as operand
use Rattle.ov_model.specs.declared.query.Cond.{Cond}
use Rattle.ov_model.specs.declared.query.Fixed.{Fixed}
use Rattle.ov_model.specs.declared.query.Fixed.TheVariants as f
use Rattle.ov_model.specs.declared.query.Symbol.{Symbol}
use Rattle.ov_model.specs.declared.query.Symbol.TheVariants.{Fixed as fixed, Name, Number}
use Rattle.ov_model.proofs.Eaten.{eaten-some}
use Rattle.ov_model.proofs.Readers.{bind_some, chosen, Took, Avoids, IsReader}
use Rattle.ov_model.proofs.Terms.{name_reader, count_reader}
use Rattle.ov_model.proofs.Operands.{literal-sound, literal-operand, by-takes}
use Rattle.ov_model.proofs.Comparisons.{BeginsOther, operand_test_reader, operand_test-first}
use Rattle.ov_model.proofs.Conds.{cond_reader}
use Rattle.ov_model.proofs.Queries.{of_cvd-takes, items_by, guard_by}

-- ---- columns

dotted-takes : (symbols : List Symbol) (x : List ℕ × List Symbol) → dotted_at symbols ≡ Some x → symbols ≡ fixed f.Dot ∷ Name x.0 ∷ x.1
unfolding dotted_at
dotted-takes symbols x e =
    let d = bind_some (eaten f.Dot symbols) _ x e in
    let took = name_reader.takes d.0 x d.2 in
    eaten-some f.Dot symbols d.0 d.1 ∙ ap (λ (ss : List Symbol). fixed f.Dot ∷ ss) (took.parts ∙ ap (λ (ss : List Symbol). ss ++ x.1) took.spelled)

side_col-by : (word : Fixed) (make : List ℕ → Col) (symbols rest : List Symbol) (x : Col × List Symbol) → eaten word symbols ≡ Some rest → made_at make dotted_at rest ≡ Some x
    → ((name : List ℕ) → IsSideCol (fixed word ∷ fixed f.Dot ∷ Name name ∷ []) (make name)) → Took IsSideCol symbols x
side_col-by word make symbols rest x e h is =
    let d = bind_some (dotted_at rest) _ x h in
    let same : (make d.0.0, d.0.1) ≡ x = cc (d.2) in
    subst (λ (y : Col × List Symbol). Took IsSideCol symbols y) same (record {
      used = fixed word ∷ fixed f.Dot ∷ Name d.0.0 ∷ [];
      parts = eaten-some word symbols rest e ∙ ap (λ (ss : List Symbol). fixed word ∷ ss) (dotted-takes rest d.0 d.1);
      spelled = is d.0.0;
    })

no_col : (x : Col × List Symbol) → None ≡ Some x → ⊥
no_col x e = cc

side_col-takes : (symbols : List Symbol) (x : Col × List Symbol) → side_col_at symbols ≡ Some x → Took IsSideCol symbols x
unfolding side_col_at
side_col-takes symbols x e = elim (chosen (eaten f.Left symbols) _ _ x e) [
  | inl l ↦ side_col-by f.Left col.Left symbols l.0 x l.1 l.2 (λ name. refl)
  | inr l ↦ elim (chosen (eaten f.Right symbols) _ _ x l.1) [
    | inl r ↦ side_col-by f.Right col.Right symbols r.0 x r.1 r.2 (λ name. refl)
    | inr r ↦ absurd (no_col x r.1)
  ]
]

side_term-takes : (symbols : List Symbol) (x : Term × List Symbol) → side_term_at symbols ≡ Some x → Took IsSideTerm symbols x
unfolding side_term_at
side_term-takes symbols x e =
    let c = bind_some (side_col_at symbols) _ x e in
    let took = side_col-takes symbols c.0 c.1 in
    let same : (term.Plain c.0.0, c.0.1) ≡ x = cc (c.2) in
    subst (λ (y : Term × List Symbol). Took IsSideTerm symbols y) same (record { used = took.used; parts = took.parts; spelled = took.spelled })

side_term-again : (used rest : List Symbol) (t : Term) → IsSideTerm used t → Avoids [] rest → side_term_at (used ++ rest) ≡ Some (t, rest)
unfolding side_term_at side_col_at dotted_at eaten same_word name_at name_of
side_term-again used rest (term.Plain col.Vid) h a = absurd h
side_term-again used rest (term.Plain (col.Name _)) h a = absurd h
side_term-again used rest (term.Plain (col.Left name)) h a = rw h refl
side_term-again used rest (term.Plain (col.Right name)) h a = rw h refl
side_term-again used rest term.CountAll h a = absurd h
side_term-again used rest (term.Count _) h a = absurd h
side_term-again used rest (term.Sum _) h a = absurd h
side_term-again used rest (term.Min _) h a = absurd h
side_term-again used rest (term.Max _) h a = absurd h

pub side_term_reader : IsReader [] IsSideTerm side_term_at
side_term_reader = record { takes = side_term-takes; again = side_term-again }

-- its symbols begin with LEFT or RIGHT
pub record BeginsSide (used : List Symbol) : Type 0 where
  pub word : Fixed
  pub others : List Symbol
  pub used_is : used ≡ fixed word ∷ others
  pub no_literal : (same_word f.True word ≡ false) × (same_word f.False word ≡ false)
  pub begins_other : (rest : List Symbol) → BeginsOther (fixed word ∷ rest)
  pub no_star : (rest : List Symbol) → eaten f.Star (fixed word ∷ rest) ≡ None

begins-left : (used others : List Symbol) → used ≡ fixed f.Left ∷ others → BeginsSide used
unfolding eaten same_word
begins-left used others e = record { word = f.Left; others = others; used_is = e; no_literal = (refl, refl); begins_other = λ rest. (refl, refl); no_star = λ rest. refl }

begins-right : (used others : List Symbol) → used ≡ fixed f.Right ∷ others → BeginsSide used
unfolding eaten same_word
begins-right used others e = record { word = f.Right; others = others; used_is = e; no_literal = (refl, refl); begins_other = λ rest. (refl, refl); no_star = λ rest. refl }

begins_side : (used : List Symbol) (t : Term) → IsSideTerm used t → BeginsSide used
begins_side used (term.Plain col.Vid) h = absurd h
begins_side used (term.Plain (col.Name _)) h = absurd h
begins_side used (term.Plain (col.Left name)) h = begins-left used _ h
begins_side used (term.Plain (col.Right name)) h = begins-right used _ h
begins_side used term.CountAll h = absurd h
begins_side used (term.Count _) h = absurd h
begins_side used (term.Sum _) h = absurd h
begins_side used (term.Min _) h = absurd h
begins_side used (term.Max _) h = absurd h

no_star : (used rest : List Symbol) (t : Term) → IsSideTerm used t → eaten f.Star (used ++ rest) ≡ None
no_star used rest t h = let b = begins_side used t h in rw b.used_is (b.no_star (b.others ++ rest))

pub side_items_reader : IsReader (f.Comma ∷ []) (IsItems IsSideTerm) (items_at side_term_at)
side_items_reader = items_by IsSideTerm side_term_at side_term_reader no_star

-- ---- conditions

terms-take : (symbols : List Symbol) (x : Operand × List Symbol) → made_at operand.Term side_term_at symbols ≡ Some x → Took IsSideOperand symbols x
terms-take symbols x e =
    let t = bind_some (side_term_at symbols) _ x e in
    let took = side_term-takes symbols t.0 t.1 in
    let same : (operand.Term t.0.0, t.0.1) ≡ x = cc (t.2) in
    subst (λ (y : Operand × List Symbol). Took IsSideOperand symbols y) same (record { used = took.used; parts = took.parts; spelled = took.spelled })

side_operand-takes : (symbols : List Symbol) (x : Operand × List Symbol) → side_operand_at symbols ≡ Some x → Took IsSideOperand symbols x
unfolding side_operand_at
side_operand-takes symbols x e = by-takes IsSideOperand (made_at operand.Term side_term_at) literal-sound terms-take symbols x e

skips_word : (other : Reading Operand) (word : Fixed) (others : List Symbol) → same_word f.True word ≡ false → same_word f.False word ≡ false → operand_by other (fixed word ∷ others) ≡ other (fixed word ∷ others)
unfolding operand_by
skips_word other word others t f = rw (t, f) refl

term-again : (used rest : List Symbol) (t : Term) → IsSideTerm used t → operand_by (made_at operand.Term side_term_at) (used ++ rest) ≡ Some (operand.Term t, rest)
term-again used rest t h =
    let b = begins_side used t h in
    let skips : operand_by (made_at operand.Term side_term_at) (used ++ rest) ≡ made_at operand.Term side_term_at (used ++ rest) = rw b.used_is (skips_word (made_at operand.Term side_term_at) b.word (b.others ++ rest) b.no_literal.0 b.no_literal.1) in
    let read : made_at operand.Term side_term_at (used ++ rest) ≡ Some (operand.Term t, rest) = rw (side_term-again used rest t h tt) refl in
    skips ∙ read

side_operand-again : (used rest : List Symbol) (o : Operand) → IsSideOperand used o → Avoids [] rest → side_operand_at (used ++ rest) ≡ Some (o, rest)
unfolding side_operand_at
side_operand-again used rest (operand.Term t) h a = term-again used rest t h
side_operand-again used rest (operand.Literal v) h a = literal-operand (made_at operand.Term side_term_at) used rest v h

side_operand_reader : IsReader [] IsSideOperand side_operand_at
side_operand_reader = record { takes = side_operand-takes; again = side_operand-again }

operand-first : (used : List Symbol) (o : Operand) (rest : List Symbol) → IsSideOperand used o → BeginsOther (used ++ rest)
unfolding eaten same_word
operand-first used (operand.Term t) rest h = let b = begins_side used t h in rw b.used_is (b.begins_other (b.others ++ rest))
operand-first used (operand.Literal (value.Int number)) rest h = rw h.1 (refl, refl)
operand-first used (operand.Literal (value.Text text)) rest h = rw h (refl, refl)
operand-first used (operand.Literal (value.Flag true)) rest h = rw h (refl, refl)
operand-first used (operand.Literal (value.Flag false)) rest h = rw h (refl, refl)
operand-first used (operand.Literal value.Null) rest h = absurd h

side_test_reader : IsReader [] IsSideTest side_test_at
unfolding side_test_at
side_test_reader =
    let reads = operand_test_reader IsSideOperand side_operand_at side_operand_reader in
    record { takes = reads.takes; again = reads.again }

side_test-first : (used rest : List Symbol) (c : Cond) → IsSideTest used c → BeginsOther (used ++ rest)
side_test-first = operand_test-first IsSideOperand operand-first

pub join_guard_reader : IsReader (f.Where ∷ f.Or ∷ f.And ∷ []) (IsGuard f.Where IsJoinCond) (guard_at f.Where (cond_at side_test_at 100))
join_guard_reader = guard_by f.Where IsJoinCond (cond_at side_test_at 100) (cond_reader IsSideTest side_test_at side_test_reader side_test-first 100)

-- ---- FROM and ON

side-takes : (symbols : List Symbol) (x : Side × List Symbol) → side_at symbols ≡ Some x → Took IsSide symbols x
unfolding side_at
side-takes symbols x e =
    let v = bind_some (eaten f.Version symbols) _ x e in
    let n = bind_some (count_at v.0) _ x v.2 in
    let c = bind_some (of_cvd_at n.0.1) _ x n.2 in
    let count = count_reader.takes v.0 n.0 n.1 in
    let side : Side = record { vid = n.0.0; cvd = c.0.0 } in
    let same : (side, c.0.1) ≡ x = cc (c.2) in
    subst (λ (y : Side × List Symbol). Took IsSide symbols y) same (record {
      used = fixed f.Version ∷ Number (pos n.0.0) false ∷ of_cvd c.0.0;
      parts = eaten-some f.Version symbols v.0 v.1 ∙ ap (λ (ss : List Symbol). fixed f.Version ∷ ss)
          (count.parts ∙ (ap (λ (ss : List Symbol). ss ++ n.0.1) count.spelled ∙ ap (λ (ss : List Symbol). Number (pos n.0.0) false ∷ ss) (of_cvd-takes n.0.1 c.0 c.1)));
      spelled = refl;
    })

side-again : (used rest : List Symbol) (side : Side) → IsSide used side → Avoids [] rest → side_at (used ++ rest) ≡ Some (side, rest)
unfolding side_at of_cvd_at count_at count_of eaten same_word name_at name_of
side-again used rest side h a = rw h refl

pub side_reader : IsReader [] IsSide side_at
side_reader = record { takes = side-takes; again = side-again }

equation-takes : (symbols : List Symbol) (x : (List ℕ × List ℕ) × List Symbol) → equation_at symbols ≡ Some x → Took IsEquation symbols x
unfolding equation_at
equation-takes symbols x e =
    let l = bind_some (eaten f.Left symbols) _ x e in
    let a = bind_some (dotted_at l.0) _ x l.2 in
    let q = bind_some (eaten f.Equal a.0.1) _ x a.2 in
    let r = bind_some (eaten f.Right q.0) _ x q.2 in
    let b = bind_some (dotted_at r.0) _ x r.2 in
    let same : ((a.0.0, b.0.0), b.0.1) ≡ x = cc (b.2) in
    let right : a.0.1 ≡ fixed f.Equal ∷ fixed f.Right ∷ fixed f.Dot ∷ Name b.0.0 ∷ b.0.1 =
    eaten-some f.Equal a.0.1 q.0 q.1 ∙ ap (λ (ss : List Symbol). fixed f.Equal ∷ ss) (eaten-some f.Right q.0 r.0 r.1 ∙ ap (λ (ss : List Symbol). fixed f.Right ∷ ss) (dotted-takes r.0 b.0 b.1)) in
    let whole : symbols ≡ fixed f.Left ∷ fixed f.Dot ∷ Name a.0.0 ∷ fixed f.Equal ∷ fixed f.Right ∷ fixed f.Dot ∷ Name b.0.0 ∷ b.0.1 =
    eaten-some f.Left symbols l.0 l.1 ∙ ap (λ (ss : List Symbol). fixed f.Left ∷ ss) (dotted-takes l.0 a.0 a.1 ∙ ap (λ (ss : List Symbol). fixed f.Dot ∷ Name a.0.0 ∷ ss) right) in
    subst (λ (y : (List ℕ × List ℕ) × List Symbol). Took IsEquation symbols y) same (record {
      used = fixed f.Left ∷ fixed f.Dot ∷ Name a.0.0 ∷ fixed f.Equal ∷ fixed f.Right ∷ fixed f.Dot ∷ Name b.0.0 ∷ [];
      parts = whole;
      spelled = refl;
    })

equation-again : (used rest : List Symbol) (names : List ℕ × List ℕ) → IsEquation used names → Avoids [] rest → equation_at (used ++ rest) ≡ Some (names, rest)
unfolding equation_at dotted_at eaten same_word name_at name_of
equation-again used rest names h a = rw h refl

pub equation_reader : IsReader [] IsEquation equation_at
equation_reader = record { takes = equation-takes; again = equation-again }
