-- Conditions: reading and the grammar.
use Rattle.std.proofs.Common.{◌≡◌, inl, inr, ℕ, zero, suc, List, [], ◌∷◌, ◌++◌, Some, None, refl, sym, ap, subst, ◌∙◌, append_assoc}
use Rattle.ov_model.specs.declared.query.Cond.{Cond}
use Rattle.ov_model.specs.declared.query.Cond.TheVariants as cond
use Rattle.ov_model.specs.declared.query.Fixed.TheVariants as f
use Rattle.ov_model.specs.declared.query.Symbol.{Symbol}
use Rattle.ov_model.specs.declared.query.Symbol.TheVariants.{Fixed as fixed}
use Rattle.ov_model.specs.Grammar.{Joined, every, any, IsConj, IsDisj, IsNegation, IsInParentheses, IsUnit}
use Rattle.ov_model.specs.Reading.{Reading, made_at, same_word, eaten, list_at, conj_at, disj_at, closed_at, unit_at, cond_at}
use Rattle.ov_model.proofs.Eaten.{eaten-some, eaten-there}
use Rattle.ov_model.proofs.Readers.{bind_some, chosen, Took, Avoids, IsReader, MayFollow, list_reader}
use Rattle.ov_model.proofs.Comparisons.{BeginsOther}

or_follows_and : MayFollow f.Or (f.And ∷ [])
unfolding eaten same_word
or_follows_and others = (refl, tt)

close_follows : (rest : List Symbol) → Avoids (f.Or ∷ f.And ∷ []) (fixed f.Close ∷ rest)
unfolding eaten same_word
close_follows rest = (refl, (refl, tt))

module _ (unit : List Symbol → Cond → Type 0) (at : Reading Cond) (reads : IsReader [] unit at) where
  units : IsReader (f.And ∷ []) (Joined f.And unit) (list_at f.And at)
  units = list_reader f.And [] unit at reads (λ others. tt)

  conj-takes : (symbols : List Symbol) (x : Cond × List Symbol) → conj_at at symbols ≡ Some x → Took (IsConj unit) symbols x
  unfolding conj_at
  conj-takes symbols x e =
      let l = bind_some (list_at f.And at symbols) _ x e in
      let took = units.takes symbols l.0 l.1 in
      let same : (every l.0.0, l.0.1) ≡ x = cc (l.2) in
      subst (λ (y : Cond × List Symbol). Took (IsConj unit) symbols y) same (record { used = took.used; parts = took.parts; spelled = record { members = l.0.0; joined = took.spelled; cond_is = refl } })

  conj-again : (used rest : List Symbol) (c : Cond) → IsConj unit used c → Avoids (f.And ∷ []) rest → conj_at at (used ++ rest) ≡ Some (c, rest)
  unfolding conj_at
  conj-again used rest c h a = rw (units.again used rest h.members h.joined a, h.cond_is) refl

  pub conj_reader : IsReader (f.And ∷ []) (IsConj unit) (conj_at at)
  conj_reader = record { takes = conj-takes; again = conj-again }

  conjs : IsReader (f.Or ∷ f.And ∷ []) (Joined f.Or (IsConj unit)) (list_at f.Or (conj_at at))
  conjs = list_reader f.Or (f.And ∷ []) (IsConj unit) (conj_at at) conj_reader or_follows_and

  disj-takes : (symbols : List Symbol) (x : Cond × List Symbol) → disj_at (conj_at at) symbols ≡ Some x → Took (IsDisj (IsConj unit)) symbols x
  unfolding disj_at
  disj-takes symbols x e =
      let l = bind_some (list_at f.Or (conj_at at) symbols) _ x e in
      let took = conjs.takes symbols l.0 l.1 in
      let same : (any l.0.0, l.0.1) ≡ x = cc (l.2) in
      subst (λ (y : Cond × List Symbol). Took (IsDisj (IsConj unit)) symbols y) same (record { used = took.used; parts = took.parts; spelled = record { members = l.0.0; joined = took.spelled; cond_is = refl } })

  disj-again : (used rest : List Symbol) (c : Cond) → IsDisj (IsConj unit) used c → Avoids (f.Or ∷ f.And ∷ []) rest → disj_at (conj_at at) (used ++ rest) ≡ Some (c, rest)
  unfolding disj_at
  disj-again used rest c h a = rw (conjs.again used rest h.members h.joined a, h.cond_is) refl

  pub disj_reader : IsReader (f.Or ∷ f.And ∷ []) (IsDisj (IsConj unit)) (disj_at (conj_at at))
  disj_reader = record { takes = disj-takes; again = disj-again }

  closed-takes : (symbols inside : List Symbol) (x : Cond × List Symbol) → eaten f.Open symbols ≡ Some inside → closed_at (disj_at (conj_at at)) inside ≡ Some x → Took (IsInParentheses (IsDisj (IsConj unit))) symbols x
  unfolding closed_at
  closed-takes symbols inside x e h =
      let d = bind_some (disj_at (conj_at at) inside) _ x h in
      let c = bind_some (eaten f.Close d.0.1) _ x d.2 in
      let took = disj-takes inside d.0 d.1 in
      let same : (d.0.0, c.0) ≡ x = cc (c.2) in
      subst (λ (y : Cond × List Symbol). Took (IsInParentheses (IsDisj (IsConj unit))) symbols y) same (record {
        used = fixed f.Open ∷ (took.used ++ fixed f.Close ∷ []);
        parts = eaten-some f.Open symbols inside e ∙ ap (λ (ss : List Symbol). fixed f.Open ∷ ss) (took.parts ∙ (ap (λ (ss : List Symbol). took.used ++ ss) (eaten-some f.Close d.0.1 c.0 c.1) ∙ sym (append_assoc took.used (fixed f.Close ∷ []) c.0)));
        spelled = record { inner = took.used; symbols_are = refl; inner_is = took.spelled };
      })

  closed-again : (inner rest : List Symbol) (c : Cond) → IsDisj (IsConj unit) inner c → closed_at (disj_at (conj_at at)) (inner ++ fixed f.Close ∷ rest) ≡ Some (c, rest)
  unfolding closed_at
  closed-again inner rest c h = rw (disj-again inner (fixed f.Close ∷ rest) c h (close_follows rest), eaten-there f.Close rest) refl

not_open : (rest : List Symbol) → eaten f.Not (fixed f.Open ∷ rest) ≡ None
unfolding eaten same_word
not_open rest = refl

module _ (test : List Symbol → Cond → Type 0) (at : Reading Cond) (reads : IsReader [] test at) (first : (used rest : List Symbol) (c : Cond) → test used c → BeginsOther (used ++ rest)) where
  negation-takes : (depth : ℕ) (symbols inner : List Symbol) (x : Cond × List Symbol) → IsReader [] (IsUnit test depth) (unit_at at depth) → eaten f.Not symbols ≡ Some inner → made_at cond.Not (unit_at at depth) inner ≡ Some x → Took (IsNegation (IsUnit test depth)) symbols x
  negation-takes depth symbols inner x units_read e h =
      let u = bind_some (unit_at at depth inner) _ x h in
      let took = units_read.takes inner u.0 u.1 in
      let same : (cond.Not u.0.0, u.0.1) ≡ x = cc (u.2) in
      subst (λ (y : Cond × List Symbol). Took (IsNegation (IsUnit test depth)) symbols y) same (record {
        used = fixed f.Not ∷ took.used;
        parts = eaten-some f.Not symbols inner e ∙ ap (λ (ss : List Symbol). fixed f.Not ∷ ss) took.parts;
        spelled = record { inner = took.used; negated = u.0.0; symbols_are = refl; unit_is = took.spelled; cond_is = refl };
      })

  unit-takes : (depth : ℕ) (symbols : List Symbol) (x : Cond × List Symbol) → IsReader [] (IsUnit test depth) (unit_at at depth) → unit_at at (suc depth) symbols ≡ Some x → Took (IsUnit test (suc depth)) symbols x
  unfolding unit_at IsUnit
  unit-takes depth symbols x units_read e = elim (chosen (eaten f.Not symbols) _ _ x e) [
    | inl n ↦ let took = negation-takes depth symbols n.0 x units_read n.1 n.2 in record { used = took.used; parts = took.parts; spelled = inr (inl took.spelled) }
    | inr n ↦ elim (chosen (eaten f.Open symbols) _ _ x n.1) [
      | inl o ↦ let took = closed-takes (IsUnit test depth) (unit_at at depth) units_read symbols o.0 x o.1 o.2 in record { used = took.used; parts = took.parts; spelled = inr (inr took.spelled) }
      | inr o ↦ let took = reads.takes symbols x o.1 in record { used = took.used; parts = took.parts; spelled = inl took.spelled }
    ]
  ]

  unit-again : (depth : ℕ) (used rest : List Symbol) (c : Cond) → IsReader [] (IsUnit test depth) (unit_at at depth) → IsUnit test (suc depth) used c → unit_at at (suc depth) (used ++ rest) ≡ Some (c, rest)
  unfolding unit_at IsUnit
  unit-again depth used rest c units_read (inl h) =
      let begins = first used rest c h in
      rw (begins.0, begins.1) (reads.again used rest c h tt)
  unit-again depth used rest c units_read (inr (inl h)) =
      rw (h.symbols_are, eaten-there f.Not (h.inner ++ rest), units_read.again h.inner rest h.negated h.unit_is tt, h.cond_is) refl
  unit-again depth used rest c units_read (inr (inr h)) =
      let whole : used ++ rest ≡ fixed f.Open ∷ (h.inner ++ fixed f.Close ∷ rest) = ap (λ (ss : List Symbol). ss ++ rest) h.symbols_are ∙ ap (λ (ss : List Symbol). fixed f.Open ∷ ss) (append_assoc h.inner (fixed f.Close ∷ []) rest) in
      rw (whole, not_open (h.inner ++ fixed f.Close ∷ rest), eaten-there f.Open (h.inner ++ fixed f.Close ∷ rest)) (closed-again (IsUnit test depth) (unit_at at depth) units_read h.inner rest c h.inner_is)

  base_reader : IsReader [] (IsUnit test zero) (unit_at at zero)
  unfolding unit_at IsUnit
  base_reader = record {
    takes = reads.takes;
    again = reads.again;
  }

  unit_reader : (depth : ℕ) → IsReader [] (IsUnit test depth) (unit_at at depth)
  unit_reader zero = base_reader
  unit_reader (suc depth) =
      let units_read = unit_reader depth in
      record {
        takes = λ symbols x e. unit-takes depth symbols x units_read e;
        again = λ used rest c h a. unit-again depth used rest c units_read h;
      }

  pub cond_reader : (depth : ℕ) → IsReader (f.Or ∷ f.And ∷ []) (IsDisj (IsConj (IsUnit test depth))) (cond_at at depth)
  unfolding cond_at
  cond_reader depth = disj_reader (IsUnit test depth) (unit_at at depth) (unit_reader depth)
