-- Comparisons, tests for NULL and tests for lineages: reading and the grammar.
use Rattle.std.proofs.Common.{◌≡◌, inl, inr, Bool, true, false, List, [], ◌∷◌, ◌++◌, Option, Some, None, refl, ap, subst, ◌∙◌, append_assoc}
use Rattle.ov_value.specs.declared.value.Value.TheVariants as value
use Rattle.ov_model.specs.declared.query.Col.TheVariants as col
use Rattle.ov_model.specs.declared.query.Term.TheVariants as term
use Rattle.ov_model.specs.declared.query.Operand.{Operand}
use Rattle.ov_model.specs.declared.query.Operand.TheVariants as operand
use Rattle.ov_model.specs.declared.query.Sign.{Sign}
use Rattle.ov_model.specs.declared.query.Sign.TheVariants as sign
use Rattle.ov_model.specs.declared.query.Cond.{Cond}
use Rattle.ov_model.specs.declared.query.Cond.TheVariants as cond
use Rattle.ov_model.specs.declared.query.Fixed.{Fixed}
use Rattle.ov_model.specs.declared.query.Fixed.TheVariants as f
use Rattle.ov_model.specs.declared.query.Symbol.{Symbol}
use Rattle.ov_model.specs.declared.query.Symbol.TheVariants.{Fixed as fixed}
use Rattle.ov_model.specs.Grammar.{IsOperand, sign_word, not_word, IsComparison, IsNullTest, IsOperandTest, IsLineageTest, IsTest}
use Rattle.ov_model.specs.Reading.{Reading, or_else, same_word, eaten, not_at, vid_in, null_at, comparison_at, operand_test_at, lineage_test_at, test_at, operand_at, sign_at, lineage_at}
use Rattle.ov_model.proofs.Eaten.{eaten-some, eaten-there}
use Rattle.ov_model.proofs.Readers.{bind_some, chosen, Took, Avoids, IsReader}
use Rattle.ov_model.proofs.Terms.{sign_reader}
use Rattle.ov_model.proofs.Operands.{operand_reader, lineage_reader}

-- ---- NOT, or nothing

abbrev not_parts : List Symbol → Option (List Symbol) → Bool × List Symbol
not_parts symbols o = or_else o (λ rest. (true, rest)) (false, symbols)

not-by : (symbols : List Symbol) (o : Option (List Symbol)) → eaten f.Not symbols ≡ o → symbols ≡ not_word (not_parts symbols o).0 ++ (not_parts symbols o).1
not-by symbols (Some rest) e = eaten-some f.Not symbols rest e
not-by symbols None e = refl

not-takes : (symbols : List Symbol) → symbols ≡ not_word (not_at symbols).0 ++ (not_at symbols).1
unfolding not_at
not-takes symbols = not-by symbols (eaten f.Not symbols) refl

not-again : (negated : Bool) (rest : List Symbol) → eaten f.Not rest ≡ None → not_at (not_word negated ++ rest) ≡ (negated, rest)
unfolding not_at
not-again true rest e = rw (eaten-there f.Not rest) refl
not-again false rest e = rw e refl

-- ---- VID [NOT] IN

vid_in-takes : (symbols : List Symbol) (x : Bool × List Symbol) → vid_in symbols ≡ Some x → symbols ≡ fixed f.Vid ∷ (not_word x.0 ++ fixed f.In ∷ x.1)
unfolding vid_in
vid_in-takes symbols x e =
    let v = bind_some (eaten f.Vid symbols) _ x e in
    let i = bind_some (eaten f.In (not_at v.0).1) _ x v.2 in
    let same : ((not_at v.0).0, i.0) ≡ x = cc (i.2) in
    subst (λ (y : Bool × List Symbol). symbols ≡ fixed f.Vid ∷ (not_word y.0 ++ fixed f.In ∷ y.1)) same
    (eaten-some f.Vid symbols v.0 v.1 ∙ ap (λ (ss : List Symbol). fixed f.Vid ∷ ss) (not-takes v.0 ∙ ap (λ (ss : List Symbol). not_word (not_at v.0).0 ++ ss) (eaten-some f.In (not_at v.0).1 i.0 i.1)))

vid_in-again : (negated : Bool) (rest : List Symbol) → vid_in (fixed f.Vid ∷ (not_word negated ++ fixed f.In ∷ rest)) ≡ Some (negated, rest)
unfolding vid_in not_at eaten same_word
vid_in-again true rest = refl
vid_in-again false rest = refl

-- an operand before another word than NOT and IN doesn't begin so
vid_in-other : (aggregates : Bool) (used : List Symbol) (o : Operand) (word : Fixed) (rest : List Symbol) → IsOperand aggregates used o → same_word f.Not word ≡ false → same_word f.In word ≡ false → vid_in (used ++ fixed word ∷ rest) ≡ None
unfolding vid_in not_at eaten same_word
vid_in-other aggregates used (operand.Term (term.Plain col.Vid)) word rest h n i = rw (h.0, n, i) refl
vid_in-other aggregates used (operand.Term (term.Plain (col.Name name))) word rest h n i = rw h.0 refl
vid_in-other aggregates used (operand.Term (term.Plain (col.Left _))) word rest h n i = absurd h.0
vid_in-other aggregates used (operand.Term (term.Plain (col.Right _))) word rest h n i = absurd h.0
vid_in-other aggregates used (operand.Term term.CountAll) word rest h n i = rw h.0 refl
vid_in-other aggregates used (operand.Term (term.Count _)) word rest h n i = rw h.0.symbols_are refl
vid_in-other aggregates used (operand.Term (term.Sum _)) word rest h n i = rw h.0.symbols_are refl
vid_in-other aggregates used (operand.Term (term.Min _)) word rest h n i = rw h.0.symbols_are refl
vid_in-other aggregates used (operand.Term (term.Max _)) word rest h n i = rw h.0.symbols_are refl
vid_in-other aggregates used (operand.Literal (value.Int number)) word rest h n i = rw h.1 refl
vid_in-other aggregates used (operand.Literal (value.Text text)) word rest h n i = rw h refl
vid_in-other aggregates used (operand.Literal (value.Flag true)) word rest h n i = rw h refl
vid_in-other aggregates used (operand.Literal (value.Flag false)) word rest h n i = rw h refl
vid_in-other aggregates used (operand.Literal value.Null) word rest h n i = absurd h

-- nor with a word with which no operand begins
begins_other : (aggregates : Bool) (used : List Symbol) (o : Operand) (rest : List Symbol) → IsOperand aggregates used o → (eaten f.Not (used ++ rest) ≡ None) × (eaten f.Open (used ++ rest) ≡ None)
unfolding eaten same_word
begins_other aggregates used (operand.Term (term.Plain col.Vid)) rest h = rw h.0 (refl, refl)
begins_other aggregates used (operand.Term (term.Plain (col.Name name))) rest h = rw h.0 (refl, refl)
begins_other aggregates used (operand.Term (term.Plain (col.Left _))) rest h = absurd h.0
begins_other aggregates used (operand.Term (term.Plain (col.Right _))) rest h = absurd h.0
begins_other aggregates used (operand.Term term.CountAll) rest h = rw h.0 (refl, refl)
begins_other aggregates used (operand.Term (term.Count _)) rest h = rw h.0.symbols_are (refl, refl)
begins_other aggregates used (operand.Term (term.Sum _)) rest h = rw h.0.symbols_are (refl, refl)
begins_other aggregates used (operand.Term (term.Min _)) rest h = rw h.0.symbols_are (refl, refl)
begins_other aggregates used (operand.Term (term.Max _)) rest h = rw h.0.symbols_are (refl, refl)
begins_other aggregates used (operand.Literal (value.Int number)) rest h = rw h.1 (refl, refl)
begins_other aggregates used (operand.Literal (value.Text text)) rest h = rw h (refl, refl)
begins_other aggregates used (operand.Literal (value.Flag true)) rest h = rw h (refl, refl)
begins_other aggregates used (operand.Literal (value.Flag false)) rest h = rw h (refl, refl)
begins_other aggregates used (operand.Literal value.Null) rest h = absurd h

-- ---- operand tests, whatever an operand is

no_is : (by : Sign) (rest : List Symbol) → eaten f.Is (fixed (sign_word by) ∷ rest) ≡ None
unfolding eaten same_word
no_is sign.Eq rest = refl
no_is sign.Ne rest = refl
no_is sign.Lt rest = refl
no_is sign.Le rest = refl
no_is sign.Gt rest = refl
no_is sign.Ge rest = refl

no_null : (rest : List Symbol) → eaten f.Not (fixed f.Null ∷ rest) ≡ None
unfolding eaten same_word
no_null rest = refl

null-again : (tested : Operand) (negated : Bool) (rest : List Symbol) → null_at tested (not_word negated ++ fixed f.Null ∷ rest) ≡ Some (cond.IsNull tested negated, rest)
unfolding null_at
null-again tested negated rest = rw (not-again negated (fixed f.Null ∷ rest) (no_null rest), eaten-there f.Null rest) refl

compared-parts : (before after rest : List Symbol) (word : Symbol) → (before ++ word ∷ after) ++ rest ≡ before ++ word ∷ (after ++ rest)
compared-parts before after rest word = append_assoc before (word ∷ after) rest

null-parts : (before rest : List Symbol) (negated : Bool) → (before ++ fixed f.Is ∷ (not_word negated ++ fixed f.Null ∷ [])) ++ rest ≡ before ++ fixed f.Is ∷ (not_word negated ++ fixed f.Null ∷ rest)
null-parts before rest negated = simp append_assoc

module _ (operand : List Symbol → Operand → Type 0) (at : Reading Operand) (reads : IsReader [] operand at) where
  null-takes : (symbols after rest : List Symbol) (tested : Operand) (x : Cond × List Symbol) → Took operand symbols (tested, after) → eaten f.Is after ≡ Some rest → null_at tested rest ≡ Some x → Took (IsOperandTest operand) symbols x
  unfolding null_at
  null-takes symbols after rest tested x took e h =
      let n = bind_some (eaten f.Null (not_at rest).1) _ x h in
      let same : (cond.IsNull tested (not_at rest).0, n.0) ≡ x = cc (n.2) in
      let is : after ≡ fixed f.Is ∷ (not_word (not_at rest).0 ++ fixed f.Null ∷ n.0) =
      eaten-some f.Is after rest e ∙ ap (λ (ss : List Symbol). fixed f.Is ∷ ss) (not-takes rest ∙ ap (λ (ss : List Symbol). not_word (not_at rest).0 ++ ss) (eaten-some f.Null (not_at rest).1 n.0 n.1)) in
      let used : List Symbol = took.used ++ fixed f.Is ∷ (not_word (not_at rest).0 ++ fixed f.Null ∷ []) in
      let whole : symbols ≡ used ++ n.0 = took.parts ∙ (ap (λ (ss : List Symbol). took.used ++ ss) is ∙ (simp append_assoc)) in
      subst (λ (y : Cond × List Symbol). Took (IsOperandTest operand) symbols y) same (record {
        used = used;
        parts = whole;
        spelled = inr (record { before = took.used; tested = tested; negated = (not_at rest).0; symbols_are = refl; operand_is = took.spelled; cond_is = refl });
      })

  comparison-takes : (symbols after : List Symbol) (left : Operand) (x : Cond × List Symbol) → Took operand symbols (left, after) → comparison_at at left after ≡ Some x → Took (IsOperandTest operand) symbols x
  unfolding comparison_at
  comparison-takes symbols after left x took h =
      let s = bind_some (sign_at after) _ x h in
      let r = bind_some (at s.0.1) _ x s.2 in
      let same : (cond.Compare left s.0.0 r.0.0, r.0.1) ≡ x = cc (r.2) in
      let signs = sign_reader.takes after s.0 s.1 in
      let rights = reads.takes s.0.1 r.0 r.1 in
      let is : after ≡ fixed (sign_word s.0.0) ∷ (rights.used ++ r.0.1) = signs.parts ∙ (ap (λ (ss : List Symbol). ss ++ s.0.1) signs.spelled ∙ ap (λ (ss : List Symbol). fixed (sign_word s.0.0) ∷ ss) rights.parts) in
      let used : List Symbol = took.used ++ fixed (sign_word s.0.0) ∷ rights.used in
      let whole : symbols ≡ used ++ r.0.1 = took.parts ∙ (ap (λ (ss : List Symbol). took.used ++ ss) is ∙ (simp append_assoc)) in
      subst (λ (y : Cond × List Symbol). Took (IsOperandTest operand) symbols y) same (record {
        used = used;
        parts = whole;
        spelled = inl (record { before = took.used; after = rights.used; left = left; by = s.0.0; right = r.0.0; symbols_are = refl; left_is = took.spelled; right_is = rights.spelled; cond_is = refl });
      })

  operand_test-takes : (symbols : List Symbol) (x : Cond × List Symbol) → operand_test_at at symbols ≡ Some x → Took (IsOperandTest operand) symbols x
  unfolding operand_test_at
  operand_test-takes symbols x e =
      let l = bind_some (at symbols) _ x e in
      let took = reads.takes symbols l.0 l.1 in
      elim (chosen (eaten f.Is l.0.1) (null_at l.0.0) (comparison_at at l.0.0 l.0.1) x l.2) [
        | inl n ↦ null-takes symbols l.0.1 n.0 l.0.0 x took n.1 n.2
        | inr c ↦ comparison-takes symbols l.0.1 l.0.0 x took c.1
      ]

  comparison-again : (left : Operand) (by : Sign) (after rest : List Symbol) (right : Operand) → operand after right → comparison_at at left (fixed (sign_word by) ∷ (after ++ rest)) ≡ Some (cond.Compare left by right, rest)
  unfolding comparison_at
  comparison-again left by after rest right h =
      let s : sign_at (fixed (sign_word by) ∷ (after ++ rest)) ≡ Some (by, after ++ rest) = sign_reader.again (fixed (sign_word by) ∷ []) (after ++ rest) by refl tt in
      rw (s, reads.again after rest right h tt) refl

  compared-again : (used rest : List Symbol) (c : Cond) → IsComparison operand used c → operand_test_at at (used ++ rest) ≡ Some (c, rest)
  unfolding operand_test_at
  compared-again used rest c h =
      let whole : used ++ rest ≡ h.before ++ fixed (sign_word h.by) ∷ (h.after ++ rest) = ap (λ (ss : List Symbol). ss ++ rest) h.symbols_are ∙ compared-parts h.before h.after rest (fixed (sign_word h.by)) in
      let left = reads.again h.before (fixed (sign_word h.by) ∷ (h.after ++ rest)) h.left h.left_is tt in
      rw (whole, left, no_is h.by (h.after ++ rest), h.cond_is) (comparison-again h.left h.by h.after rest h.right h.right_is)

  is_null-again : (used rest : List Symbol) (c : Cond) → IsNullTest operand used c → operand_test_at at (used ++ rest) ≡ Some (c, rest)
  unfolding operand_test_at
  is_null-again used rest c h =
      let whole : used ++ rest ≡ h.before ++ fixed f.Is ∷ (not_word h.negated ++ fixed f.Null ∷ rest) = ap (λ (ss : List Symbol). ss ++ rest) h.symbols_are ∙ null-parts h.before rest h.negated in
      let left = reads.again h.before (fixed f.Is ∷ (not_word h.negated ++ fixed f.Null ∷ rest)) h.tested h.operand_is tt in
      rw (whole, left, eaten-there f.Is (not_word h.negated ++ fixed f.Null ∷ rest), h.cond_is) (null-again h.tested h.negated rest)

  operand_test-again : (used rest : List Symbol) (c : Cond) → IsOperandTest operand used c → Avoids [] rest → operand_test_at at (used ++ rest) ≡ Some (c, rest)
  operand_test-again used rest c (inl h) a = compared-again used rest c h
  operand_test-again used rest c (inr h) a = is_null-again used rest c h

  pub operand_test_reader : IsReader [] (IsOperandTest operand) (operand_test_at at)
  operand_test_reader = record { takes = operand_test-takes; again = operand_test-again }

-- begins neither with NOT nor with a parenthesis
abbrev pub BeginsOther : List Symbol → Type 0
BeginsOther symbols = (eaten f.Not symbols ≡ None) × (eaten f.Open symbols ≡ None)

-- nor does an operand test, where no operand does
pub operand_test-first : (operand : List Symbol → Operand → Type 0) → ((used : List Symbol) (o : Operand) (rest : List Symbol) → operand used o → BeginsOther (used ++ rest))
    → (used rest : List Symbol) (c : Cond) → IsOperandTest operand used c → BeginsOther (used ++ rest)
operand_test-first operand begins used rest c (inl h) = rw (h.symbols_are, append_assoc) (begins h.before h.left (fixed (sign_word h.by) ∷ (h.after ++ rest)) h.left_is)
operand_test-first operand begins used rest c (inr h) = rw (h.symbols_are, append_assoc) (begins h.before h.tested (fixed f.Is ∷ ((not_word h.negated ++ fixed f.Null ∷ []) ++ rest)) h.operand_is)

-- ---- tests of a query: an operand test, or one for a lineage

lineage_test-takes : (aggregates : Bool) (symbols : List Symbol) (begun : Bool × List Symbol) (x : Cond × List Symbol) → vid_in symbols ≡ Some begun → lineage_test_at begun ≡ Some x → Took (IsTest aggregates) symbols x
unfolding lineage_test_at
lineage_test-takes aggregates symbols begun x e h =
    let l = bind_some (lineage_at begun.1) _ x h in
    let took = lineage_reader.takes begun.1 l.0 l.1 in
    let same : (cond.InLineage l.0.0.0 l.0.0.1 begun.0, l.0.1) ≡ x = cc (l.2) in
    let used : List Symbol = fixed f.Vid ∷ (not_word begun.0 ++ fixed f.In ∷ took.used) in
    let whole : symbols ≡ used ++ l.0.1 = vid_in-takes symbols begun e ∙ (ap (λ (ss : List Symbol). fixed f.Vid ∷ (not_word begun.0 ++ fixed f.In ∷ ss)) took.parts ∙ (simp append_assoc)) in
    subst (λ (y : Cond × List Symbol). Took (IsTest aggregates) symbols y) same (record {
      used = used;
      parts = whole;
      spelled = inr (record { inner = took.used; kind = l.0.0.0; vid = l.0.0.1; negated = begun.0; symbols_are = refl; lineage_is = took.spelled; cond_is = refl });
    })

tests : (aggregates : Bool) → IsReader [] (IsOperandTest (IsOperand aggregates)) (operand_test_at (operand_at aggregates))
tests aggregates = operand_test_reader (IsOperand aggregates) (operand_at aggregates) (operand_reader aggregates)

test-takes : (aggregates : Bool) (symbols : List Symbol) (x : Cond × List Symbol) → test_at aggregates symbols ≡ Some x → Took (IsTest aggregates) symbols x
unfolding test_at
test-takes aggregates symbols x e = elim (chosen (vid_in symbols) lineage_test_at (operand_test_at (operand_at aggregates) symbols) x e) [
  | inl v ↦ lineage_test-takes aggregates symbols v.0 x v.1 v.2
  | inr o ↦ let took = (tests aggregates).takes symbols x o.1 in record { used = took.used; parts = took.parts; spelled = inl took.spelled }
]

no_not : (by : Sign) → (same_word f.Not (sign_word by) ≡ false) × (same_word f.In (sign_word by) ≡ false)
unfolding same_word
no_not sign.Eq = (refl, refl)
no_not sign.Ne = (refl, refl)
no_not sign.Lt = (refl, refl)
no_not sign.Le = (refl, refl)
no_not sign.Gt = (refl, refl)
no_not sign.Ge = (refl, refl)

is_no_not : (same_word f.Not f.Is ≡ false) × (same_word f.In f.Is ≡ false)
unfolding same_word
is_no_not = (refl, refl)

-- an operand test doesn't begin as one for a lineage
no_lineage : (aggregates : Bool) (used rest : List Symbol) (c : Cond) → IsOperandTest (IsOperand aggregates) used c → vid_in (used ++ rest) ≡ None
no_lineage aggregates used rest c (inl h) =
    let words = no_not h.by in
    rw (h.symbols_are, compared-parts h.before h.after rest (fixed (sign_word h.by))) (vid_in-other aggregates h.before h.left (sign_word h.by) (h.after ++ rest) h.left_is words.0 words.1)
no_lineage aggregates used rest c (inr h) =
    rw (h.symbols_are, null-parts h.before rest h.negated) (vid_in-other aggregates h.before h.tested f.Is (not_word h.negated ++ fixed f.Null ∷ rest) h.operand_is is_no_not.0 is_no_not.1)

test-lineage : (aggregates : Bool) (used rest : List Symbol) (c : Cond) → IsLineageTest used c → test_at aggregates (used ++ rest) ≡ Some (c, rest)
unfolding test_at lineage_test_at
test-lineage aggregates used rest c h =
    let whole : used ++ rest ≡ fixed f.Vid ∷ (not_word h.negated ++ fixed f.In ∷ (h.inner ++ rest)) = ap (λ (ss : List Symbol). ss ++ rest) h.symbols_are ∙ (simp append_assoc) in
    let l : lineage_at (h.inner ++ rest) ≡ Some ((h.kind, h.vid), rest) = lineage_reader.again h.inner rest (h.kind, h.vid) h.lineage_is tt in
    rw (whole, vid_in-again h.negated (h.inner ++ rest), l, h.cond_is) refl

test-again : (aggregates : Bool) (used rest : List Symbol) (c : Cond) → IsTest aggregates used c → Avoids [] rest → test_at aggregates (used ++ rest) ≡ Some (c, rest)
unfolding test_at
test-again aggregates used rest c (inl h) a = rw (no_lineage aggregates used rest c h) ((tests aggregates).again used rest c h a)
test-again aggregates used rest c (inr h) a = test-lineage aggregates used rest c h

pub test_reader : (aggregates : Bool) → IsReader [] (IsTest aggregates) (test_at aggregates)
test_reader aggregates = record { takes = test-takes aggregates; again = test-again aggregates }

vid_other : (rest : List Symbol) → BeginsOther (fixed f.Vid ∷ rest)
unfolding eaten same_word
vid_other rest = (refl, refl)

pub test-first : (aggregates : Bool) (used rest : List Symbol) (c : Cond) → IsTest aggregates used c → BeginsOther (used ++ rest)
test-first aggregates used rest c (inl h) = operand_test-first (IsOperand aggregates) (begins_other aggregates) used rest c h
test-first aggregates used rest c (inr h) = rw h.symbols_are (vid_other ((not_word h.negated ++ fixed f.In ∷ h.inner) ++ rest))
