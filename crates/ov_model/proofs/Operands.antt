-- Operands and lineages: reading and the grammar.
use Rattle.std.proofs.Common.{◌≡◌, inl, inr, ℕ, Bool, true, false, pos, List, [], ◌∷◌, ◌++◌, Some, None, refl, sym, ap, subst, ◌∙◌}
use Rattle.ov_value.specs.declared.value.Value.{Value}
use Rattle.ov_value.specs.declared.value.Value.TheVariants as value
use Rattle.ov_model.specs.declared.query.LineageKind.{LineageKind}
use Rattle.ov_model.specs.declared.query.LineageKind.TheVariants as lineage
use Rattle.ov_model.specs.declared.query.Col.TheVariants as col
use Rattle.ov_model.specs.declared.query.Term.{Term}
use Rattle.ov_model.specs.declared.query.Term.TheVariants as term
use Rattle.ov_model.specs.declared.query.Operand.{Operand}
use Rattle.ov_model.specs.declared.query.Operand.TheVariants as operand
use Rattle.ov_model.specs.declared.query.Fixed.{Fixed}
use Rattle.ov_model.specs.declared.query.Fixed.TheVariants as f
use Rattle.ov_model.specs.declared.query.Symbol.{Symbol}
use Rattle.ov_model.specs.declared.query.Symbol.TheVariants.{Fixed as fixed, Name, Number, Text}
use Rattle.ov_model.specs.Grammar.{IsTerm, IsLiteral, flag_word, MayStand, IsOperand, lineage_word, IsLineage}
use Rattle.ov_model.specs.Reading.{Reading, same_word, eaten, is_literal, literal_of, may_stand, standing_at, term_at, operand_by, operand_at, kind_at, count_of, count_at, lineage_at}
use Rattle.ov_model.proofs.Eaten.{same_word-true, eaten-some}
use Rattle.ov_model.proofs.Readers.{bind_some, chosen, guard_kept, Took, Avoids, IsReader}
use Rattle.ov_model.proofs.Terms.{either_way, term-takes, term_reader, count_reader}

stands-from : (aggregates : Bool) (t : Term) → may_stand aggregates t ≡ true → MayStand aggregates t
stands-from aggregates (term.Plain _) e = tt
stands-from aggregates term.CountAll e = e
stands-from aggregates (term.Count _) e = e
stands-from aggregates (term.Sum _) e = e
stands-from aggregates (term.Min _) e = e
stands-from aggregates (term.Max _) e = e

stands-to : (aggregates : Bool) (t : Term) → MayStand aggregates t → may_stand aggregates t ≡ true
stands-to aggregates (term.Plain _) h = refl
stands-to aggregates term.CountAll h = h
stands-to aggregates (term.Count _) h = h
stands-to aggregates (term.Sum _) h = h
stands-to aggregates (term.Min _) h = h
stands-to aggregates (term.Max _) h = h

flag-is : (word : Fixed) (flag : Bool) (v : Value) → same_word (flag_word flag) word ≡ true → Some (value.Flag flag) ≡ Some v → IsLiteral (fixed word ∷ []) v
flag-is word flag v e same =
    let is : value.Flag flag ≡ v = cc in
    subst (λ (u : Value). IsLiteral (fixed word ∷ []) u) is (ap (λ (w : Fixed). fixed w ∷ []) (sym (same_word-true (flag_word flag) word e)))

pub literal-sound : (s : Symbol) (v : Value) → literal_of s ≡ Some v → IsLiteral (s ∷ []) v
unfolding literal_of
literal-sound (fixed word) v e = elim (either_way (same_word f.True word) _ _ (Some v) e) [
  | inl p ↦ flag-is word true v p.0 p.1
  | inr p ↦ let k = guard_kept (same_word f.False word) (value.Flag false) v p.1 in flag-is word false v k.0 (ap (λ (u : Value). Some u) k.1)
]
literal-sound (Name _) v e = absurd cc
literal-sound (Number number minus) v e = let is : value.Int number ≡ v = cc in subst (λ (u : Value). IsLiteral (Number number minus ∷ []) u) is (minus, refl)
literal-sound (Text text) v e = let is : value.Text text ≡ v = cc in subst (λ (u : Value). IsLiteral (Text text ∷ []) u) is refl

standing-takes : (aggregates : Bool) (symbols : List Symbol) (x : Operand × List Symbol) → standing_at aggregates symbols ≡ Some x → Took (IsOperand aggregates) symbols x
unfolding standing_at
standing-takes aggregates symbols x e =
    let t = bind_some (term_at symbols) _ x e in
    let k = guard_kept (may_stand aggregates t.0.0) (operand.Term t.0.0, t.0.1) x t.2 in
    let took = term-takes symbols t.0 t.1 in
    subst (λ (y : Operand × List Symbol). Took (IsOperand aggregates) symbols y) k.1 (record { used = took.used; parts = took.parts; spelled = (took.spelled, stands-from aggregates t.0.0 k.0) })

-- a literal, or what else may stand
pub by-takes : (R : List Symbol → Operand → Type 0) (other : Reading Operand) → ((s : Symbol) (v : Value) → literal_of s ≡ Some v → R (s ∷ []) (operand.Literal v)) → ((symbols : List Symbol) (x : Operand × List Symbol) → other symbols ≡ Some x → Took R symbols x)
    → (symbols : List Symbol) (x : Operand × List Symbol) → operand_by other symbols ≡ Some x → Took R symbols x
unfolding operand_by
by-takes R other literals others [] x e = absurd cc
by-takes R other literals others (s ∷ symbols) x e = elim (either_way (is_literal s) _ _ (Some x) e) [
  | inl p ↦
      let l = bind_some (literal_of s) _ x p.1 in
      let same : (operand.Literal l.0, symbols) ≡ x = cc (l.2) in
      subst (λ (y : Operand × List Symbol). Took R (s ∷ symbols) y) same (record { used = s ∷ []; parts = refl; spelled = literals s l.0 l.1 })
  | inr p ↦ others (s ∷ symbols) x p.1
]

operand-takes : (aggregates : Bool) (symbols : List Symbol) (x : Operand × List Symbol) → operand_at aggregates symbols ≡ Some x → Took (IsOperand aggregates) symbols x
operand-takes aggregates symbols x e = by-takes (IsOperand aggregates) (standing_at aggregates) (λ s v l. literal-sound s v l) (standing-takes aggregates) symbols x e

record BeginsTerm (used : List Symbol) : Type 0 where
  first : Symbol
  others : List Symbol
  used_is : used ≡ first ∷ others
  no_literal : is_literal first ≡ false

begins_term : (used : List Symbol) (t : Term) → IsTerm used t → BeginsTerm used
unfolding same_word
begins_term used (term.Plain col.Vid) h = record { first = fixed f.Vid; others = []; used_is = h; no_literal = refl }
begins_term used (term.Plain (col.Name name)) h = record { first = Name name; others = []; used_is = h; no_literal = refl }
begins_term used (term.Plain (col.Left _)) h = absurd h
begins_term used (term.Plain (col.Right _)) h = absurd h
begins_term used term.CountAll h = record { first = fixed f.Count; others = _; used_is = h; no_literal = refl }
begins_term used (term.Count _) h = record { first = fixed f.Count; others = _; used_is = h.symbols_are; no_literal = refl }
begins_term used (term.Sum _) h = record { first = fixed f.Sum; others = _; used_is = h.symbols_are; no_literal = refl }
begins_term used (term.Min _) h = record { first = fixed f.Min; others = _; used_is = h.symbols_are; no_literal = refl }
begins_term used (term.Max _) h = record { first = fixed f.Max; others = _; used_is = h.symbols_are; no_literal = refl }

standing-again : (aggregates : Bool) (symbols rest : List Symbol) (t : Term) → term_at symbols ≡ Some (t, rest) → MayStand aggregates t → standing_at aggregates symbols ≡ Some (operand.Term t, rest)
unfolding standing_at
standing-again aggregates symbols rest t e h = rw (e, stands-to aggregates t h) refl

pub skips_literal : (other : Reading Operand) (first : Symbol) (others : List Symbol) → is_literal first ≡ false → operand_by other (first ∷ others) ≡ other (first ∷ others)
unfolding operand_by
skips_literal other first others e = rw e refl

term-operand : (aggregates : Bool) (used rest : List Symbol) (t : Term) → IsTerm used t → MayStand aggregates t → operand_at aggregates (used ++ rest) ≡ Some (operand.Term t, rest)
term-operand aggregates used rest t h m =
    let b = begins_term used t h in
    let skips : operand_at aggregates (used ++ rest) ≡ standing_at aggregates (used ++ rest) = rw b.used_is (skips_literal (standing_at aggregates) b.first (b.others ++ rest) b.no_literal) in
    skips ∙ standing-again aggregates (used ++ rest) rest t (term_reader.again used rest t h tt) m

pub literal-operand : (other : Reading Operand) (used rest : List Symbol) (v : Value) → IsLiteral used v → operand_by other (used ++ rest) ≡ Some (operand.Literal v, rest)
unfolding operand_by literal_of same_word
literal-operand other used rest (value.Int number) h = rw h.1 refl
literal-operand other used rest (value.Text text) h = rw h refl
literal-operand other used rest (value.Flag true) h = rw h refl
literal-operand other used rest (value.Flag false) h = rw h refl
literal-operand other used rest value.Null h = absurd h

operand-again : (aggregates : Bool) (used rest : List Symbol) (o : Operand) → IsOperand aggregates used o → Avoids [] rest → operand_at aggregates (used ++ rest) ≡ Some (o, rest)
operand-again aggregates used rest (operand.Term t) h a = term-operand aggregates used rest t h.0 h.1
operand-again aggregates used rest (operand.Literal v) h a = literal-operand (standing_at aggregates) used rest v h

pub operand_reader : (aggregates : Bool) → IsReader [] (IsOperand aggregates) (operand_at aggregates)
operand_reader aggregates = record { takes = operand-takes aggregates; again = operand-again aggregates }

-- ---- lineages

abbrev IsKindWord : List Symbol → LineageKind → Type 0
IsKindWord symbols kind = symbols ≡ fixed (lineage_word kind) ∷ []

kind-is : (kind : LineageKind) (symbols rest : List Symbol) (x : LineageKind × List Symbol) → eaten (lineage_word kind) symbols ≡ Some rest → Some (kind, rest) ≡ Some x → Took IsKindWord symbols x
kind-is kind symbols rest x e same =
    let is : (kind, rest) ≡ x = cc in
    subst (λ (y : LineageKind × List Symbol). Took IsKindWord symbols y) is (record { used = fixed (lineage_word kind) ∷ []; parts = eaten-some (lineage_word kind) symbols rest e; spelled = refl })

no_kind : (x : LineageKind × List Symbol) → None ≡ Some x → ⊥
no_kind x e = cc

kind-takes : (symbols : List Symbol) (x : LineageKind × List Symbol) → kind_at symbols ≡ Some x → Took IsKindWord symbols x
unfolding kind_at
kind-takes symbols x e = elim (chosen (eaten f.Parents symbols) _ _ x e) [
  | inl p ↦ kind-is lineage.Parents symbols p.0 x p.1 p.2
  | inr p ↦ elim (chosen (eaten f.Ancestors symbols) _ _ x p.1) [
    | inl q ↦ kind-is lineage.Ancestors symbols q.0 x q.1 q.2
    | inr q ↦ elim (chosen (eaten f.Descendants symbols) _ _ x q.1) [
      | inl r ↦ kind-is lineage.Descendants symbols r.0 x r.1 r.2
      | inr r ↦ absurd (no_kind x r.1)
    ]
  ]
]

abbrev pub IsPairLineage : List Symbol → LineageKind × ℕ → Type 0
IsPairLineage symbols l = IsLineage symbols l.0 l.1

lineage-takes : (symbols : List Symbol) (x : (LineageKind × ℕ) × List Symbol) → lineage_at symbols ≡ Some x → Took IsPairLineage symbols x
unfolding lineage_at
lineage-takes symbols x e =
    let k = bind_some (kind_at symbols) _ x e in
    let o = bind_some (eaten f.Open k.0.1) _ x k.2 in
    let n = bind_some (count_at o.0) _ x o.2 in
    let c = bind_some (eaten f.Close n.0.1) _ x n.2 in
    let kinds = kind-takes symbols k.0 k.1 in
    let counts = count_reader.takes o.0 n.0 n.1 in
    let same : ((k.0.0, n.0.0), c.0) ≡ x = cc (c.2) in
    let whole : symbols ≡ fixed (lineage_word k.0.0) ∷ fixed f.Open ∷ Number (pos n.0.0) false ∷ fixed f.Close ∷ c.0 =
    kinds.parts ∙ (ap (λ (ss : List Symbol). ss ++ k.0.1) kinds.spelled ∙ ap (λ (ss : List Symbol). fixed (lineage_word k.0.0) ∷ ss)
    (eaten-some f.Open k.0.1 o.0 o.1 ∙ ap (λ (ss : List Symbol). fixed f.Open ∷ ss)
    (counts.parts ∙ (ap (λ (ss : List Symbol). ss ++ n.0.1) counts.spelled ∙ ap (λ (ss : List Symbol). Number (pos n.0.0) false ∷ ss) (eaten-some f.Close n.0.1 c.0 c.1))))) in
    subst (λ (y : (LineageKind × ℕ) × List Symbol). Took IsPairLineage symbols y) same (record { used = fixed (lineage_word k.0.0) ∷ fixed f.Open ∷ Number (pos n.0.0) false ∷ fixed f.Close ∷ []; parts = whole; spelled = refl })

lineage-by : (kind : LineageKind) (vid : ℕ) (rest : List Symbol) → lineage_at (fixed (lineage_word kind) ∷ fixed f.Open ∷ Number (pos vid) false ∷ fixed f.Close ∷ rest) ≡ Some ((kind, vid), rest)
unfolding lineage_at kind_at eaten same_word count_at count_of
lineage-by lineage.Parents vid rest = refl
lineage-by lineage.Ancestors vid rest = refl
lineage-by lineage.Descendants vid rest = refl

lineage-again : (used rest : List Symbol) (l : LineageKind × ℕ) → IsPairLineage used l → Avoids [] rest → lineage_at (used ++ rest) ≡ Some (l, rest)
lineage-again used rest l h a = rw h (lineage-by l.0 l.1 rest)

pub lineage_reader : IsReader [] IsPairLineage lineage_at
lineage_reader = record { takes = lineage-takes; again = lineage-again }
