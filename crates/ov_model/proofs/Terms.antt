-- Columns, terms, operands, counts, names and lineages: reading and the grammar.
use Rattle.std.proofs.Common.{◌≡◌, ◌⊎◌, inl, inr, ℕ, Bool, true, false, cond, pos, negsuc, List, [], ◌∷◌, ◌++◌, Option, Some, None, refl, sym, ap, subst, ◌∙◌, append_assoc}
use Rattle.ov_model.specs.declared.query.Col.{Col}
use Rattle.ov_model.specs.declared.query.Col.TheVariants as col
use Rattle.ov_model.specs.declared.query.Term.{Term}
use Rattle.ov_model.specs.declared.query.Term.TheVariants as term
use Rattle.ov_model.specs.declared.query.Sign.{Sign}
use Rattle.ov_model.specs.declared.query.Sign.TheVariants as sign
use Rattle.ov_model.specs.declared.query.Fixed.{Fixed}
use Rattle.ov_model.specs.declared.query.Fixed.TheVariants as f
use Rattle.ov_model.specs.declared.query.Symbol.{Symbol}
use Rattle.ov_model.specs.declared.query.Symbol.TheVariants.{Fixed as fixed, Name, Number, Text}
use Rattle.ov_model.specs.Grammar.{IsCol, IsCall, IsTerm, IsCount, sign_word}
use Rattle.ov_model.specs.Reading.{made_at, same_word, eaten, first_by, col_of, col_at, inner_at, all_at, counted_at, term_at, count_of, count_at, name_of, name_at, sign_of, sign_by, sign_at}
use Rattle.ov_model.proofs.Eaten.{same_word-true, eaten-some}
use Rattle.ov_model.proofs.Readers.{bind_some, chosen, guard_kept, Took, Avoids, IsReader}

-- ---- parts of one symbol

first-takes : {A : Type 0} (of : Symbol → Option A) (R : List Symbol → A → Type 0) → ((s : Symbol) (a : A) → of s ≡ Some a → R (s ∷ []) a) → (symbols : List Symbol) (x : A × List Symbol) → first_by of symbols ≡ Some x → Took R symbols x
first-takes of R sound [] x e = absurd cc
first-takes {A} of R sound (s ∷ symbols) x e =
    let i = bind_some (of s) _ x e in
    let same : (i.0, symbols) ≡ x = cc (i.2) in
    subst (λ (y : A × List Symbol). Took R (s ∷ symbols) y) same (record { used = s ∷ []; parts = refl; spelled = sound s i.0 i.1 })

col-sound : (s : Symbol) (c : Col) → col_of s ≡ Some c → IsCol (s ∷ []) c
unfolding col_of
col-sound (fixed word) c e =
    let k = guard_kept (same_word f.Vid word) col.Vid c e in
    subst (λ (d : Col). IsCol (fixed word ∷ []) d) k.1 (ap (λ (w : Fixed). fixed w ∷ []) (sym (same_word-true f.Vid word k.0)))
col-sound (Name name) c e = let same : col.Name name ≡ c = cc in subst (λ (d : Col). IsCol (Name name ∷ []) d) same refl
col-sound (Number _ _) c e = absurd cc
col-sound (Text _) c e = absurd cc

pub col-takes : (symbols : List Symbol) (x : Col × List Symbol) → col_at symbols ≡ Some x → Took IsCol symbols x
unfolding col_at
col-takes symbols x e = first-takes col_of IsCol col-sound symbols x e

col-again : (used rest : List Symbol) (c : Col) → IsCol used c → Avoids [] rest → col_at (used ++ rest) ≡ Some (c, rest)
unfolding col_at col_of same_word
col-again used rest col.Vid h a = rw h refl
col-again used rest (col.Name name) h a = rw h refl
col-again used rest (col.Left _) h a = absurd h
col-again used rest (col.Right _) h a = absurd h

pub col_reader : IsReader [] IsCol col_at
col_reader = record { takes = col-takes; again = col-again }

count-sound : (s : Symbol) (n : ℕ) → count_of s ≡ Some n → IsCount (s ∷ []) n
unfolding count_of
count-sound (fixed _) n e = absurd cc
count-sound (Name _) n e = absurd cc
count-sound (Text _) n e = absurd cc
count-sound (Number (pos m) false) n e = let same : m ≡ n = cc in ap (λ (k : ℕ). Number (pos k) false ∷ []) same
count-sound (Number (negsuc m) false) n e = absurd cc
count-sound (Number _ true) n e = absurd cc

count-again : (used rest : List Symbol) (n : ℕ) → IsCount used n → Avoids [] rest → count_at (used ++ rest) ≡ Some (n, rest)
unfolding count_at count_of
count-again used rest n h a = rw h refl

pub count_reader : IsReader [] IsCount count_at
unfolding count_at
count_reader = record { takes = first-takes count_of IsCount count-sound; again = count-again }

abbrev pub IsName : List Symbol → List ℕ → Type 0
IsName symbols name = symbols ≡ Name name ∷ []

name-sound : (s : Symbol) (n : List ℕ) → name_of s ≡ Some n → IsName (s ∷ []) n
unfolding name_of
name-sound (fixed _) n e = absurd cc
name-sound (Name name) n e = let same : name ≡ n = cc in ap (λ (k : List ℕ). Name k ∷ []) same
name-sound (Number _ _) n e = absurd cc
name-sound (Text _) n e = absurd cc

name-again : (used rest : List Symbol) (n : List ℕ) → IsName used n → Avoids [] rest → name_at (used ++ rest) ≡ Some (n, rest)
unfolding name_at name_of
name-again used rest n h a = rw h refl

pub name_reader : IsReader [] IsName name_at
unfolding name_at
name_reader = record { takes = first-takes name_of IsName name-sound; again = name-again }

abbrev pub IsSignWord : List Symbol → Sign → Type 0
IsSignWord symbols s = symbols ≡ fixed (sign_word s) ∷ []

-- a test that may pass first
pub either_way : {A : Type 0} (b : Bool) (x y : A) (z : A) → cond b x y ≡ z → ((b ≡ true) × (x ≡ z)) ⊎ ((b ≡ false) × (y ≡ z))
either_way true x y z e = inl (refl, e)
either_way false x y z e = inr (refl, e)

word-is : (word other : Fixed) (s t : Sign) → same_word word other ≡ true → sign_word s ≡ word → Some s ≡ Some t → IsSignWord (fixed other ∷ []) t
word-is word other s t e w same =
    let signs : s ≡ t = cc in
    subst (λ (k : Sign). IsSignWord (fixed other ∷ []) k) signs (ap (λ (k : Fixed). fixed k ∷ []) (sym (w ∙ same_word-true word other e)))

no_sign : (s : Sign) → None ≡ Some s → ⊥
no_sign s e = cc

word-sound : (word : Fixed) (s : Sign) → sign_of word ≡ Some s → IsSignWord (fixed word ∷ []) s
unfolding sign_of
word-sound word s e = elim (either_way (same_word f.Equal word) _ _ (Some s) e) [
  | inl p ↦ word-is f.Equal word sign.Eq s p.0 refl p.1
  | inr p ↦ elim (either_way (same_word f.Unequal word) _ _ (Some s) p.1) [
    | inl q ↦ word-is f.Unequal word sign.Ne s q.0 refl q.1
    | inr q ↦ elim (either_way (same_word f.Less word) _ _ (Some s) q.1) [
      | inl r ↦ word-is f.Less word sign.Lt s r.0 refl r.1
      | inr r ↦ elim (either_way (same_word f.LessOrEqual word) _ _ (Some s) r.1) [
        | inl t ↦ word-is f.LessOrEqual word sign.Le s t.0 refl t.1
        | inr t ↦ elim (either_way (same_word f.Greater word) _ _ (Some s) t.1) [
          | inl u ↦ word-is f.Greater word sign.Gt s u.0 refl u.1
          | inr u ↦ elim (either_way (same_word f.GreaterOrEqual word) _ _ (Some s) u.1) [
            | inl v ↦ word-is f.GreaterOrEqual word sign.Ge s v.0 refl v.1
            | inr v ↦ absurd (no_sign s v.1)
          ]
        ]
      ]
    ]
  ]
]

sign-sound : (s : Symbol) (t : Sign) → sign_by s ≡ Some t → IsSignWord (s ∷ []) t
sign-sound (fixed word) t e = word-sound word t e
sign-sound (Name _) t e = absurd cc
sign-sound (Number _ _) t e = absurd cc
sign-sound (Text _) t e = absurd cc

sign-again : (used rest : List Symbol) (s : Sign) → IsSignWord used s → Avoids [] rest → sign_at (used ++ rest) ≡ Some (s, rest)
unfolding sign_at sign_of same_word
sign-again used rest sign.Eq h a = rw h refl
sign-again used rest sign.Ne h a = rw h refl
sign-again used rest sign.Lt h a = rw h refl
sign-again used rest sign.Le h a = rw h refl
sign-again used rest sign.Gt h a = rw h refl
sign-again used rest sign.Ge h a = rw h refl

pub sign_reader : IsReader [] IsSignWord sign_at
unfolding sign_at
sign_reader = record { takes = first-takes sign_by IsSignWord sign-sound; again = sign-again }

-- ---- terms

pub record TookInner (symbols : List Symbol) (x : Col × List Symbol) : Type 0 where
  inner : List Symbol
  parts : symbols ≡ fixed f.Open ∷ (inner ++ fixed f.Close ∷ x.1)
  spelled : IsCol inner x.0

inner-takes : (symbols : List Symbol) (x : Col × List Symbol) → inner_at symbols ≡ Some x → TookInner symbols x
unfolding inner_at
inner-takes symbols x e =
    let o = bind_some (eaten f.Open symbols) _ x e in
    let i = bind_some (col_at o.0) _ x o.2 in
    let c = bind_some (eaten f.Close i.0.1) _ x i.2 in
    let took = col-takes o.0 i.0 i.1 in
    let same : (i.0.0, c.0) ≡ x = cc (c.2) in
    subst (λ (y : Col × List Symbol). TookInner symbols y) same (record {
      inner = took.used;
      parts = eaten-some f.Open symbols o.0 o.1 ∙ ap (λ (ss : List Symbol). fixed f.Open ∷ ss) (took.parts ∙ ap (λ (ss : List Symbol). took.used ++ ss) (eaten-some f.Close i.0.1 c.0 c.1));
      spelled = took.spelled;
    })

call-takes : (word : Fixed) (make : Col → Term) (symbols rest : List Symbol) (x : Term × List Symbol) → eaten word symbols ≡ Some rest → made_at make inner_at rest ≡ Some x → ((ss : List Symbol) (c : Col) → IsCall word ss c → IsTerm ss (make c)) → Took IsTerm symbols x
call-takes word make symbols rest x e h is =
    let i = bind_some (inner_at rest) _ x h in
    let took = inner-takes rest i.0 i.1 in
    let same : (make i.0.0, i.0.1) ≡ x = cc (i.2) in
    subst (λ (y : Term × List Symbol). Took IsTerm symbols y) same (record {
      used = fixed word ∷ fixed f.Open ∷ (took.inner ++ fixed f.Close ∷ []);
      parts = eaten-some word symbols rest e ∙ ap (λ (ss : List Symbol). fixed word ∷ ss) (took.parts ∙ ap (λ (ss : List Symbol). fixed f.Open ∷ ss) (sym (append_assoc took.inner (fixed f.Close ∷ []) i.0.1)));
      spelled = is _ i.0.0 (record { inner = took.inner; symbols_are = refl; is_col = took.spelled });
    })

all-takes : (symbols inside rest : List Symbol) (x : Term × List Symbol) → eaten f.Count symbols ≡ Some inside → (star : List Symbol) → eaten f.Open inside ≡ Some star → eaten f.Star star ≡ Some rest → all_at rest ≡ Some x → Took IsTerm symbols x
unfolding all_at
all-takes symbols inside rest x e star o s h =
    let c = bind_some (eaten f.Close rest) _ x h in
    let same : (term.CountAll, c.0) ≡ x = cc (c.2) in
    let whole : symbols ≡ fixed f.Count ∷ fixed f.Open ∷ fixed f.Star ∷ fixed f.Close ∷ c.0 =
    eaten-some f.Count symbols inside e ∙ ap (λ (ss : List Symbol). fixed f.Count ∷ ss) (eaten-some f.Open inside star o ∙ ap (λ (ss : List Symbol). fixed f.Open ∷ ss) (eaten-some f.Star star rest s ∙ ap (λ (ss : List Symbol). fixed f.Star ∷ ss) (eaten-some f.Close rest c.0 c.1))) in
    subst (λ (y : Term × List Symbol). Took IsTerm symbols y) same (record { used = fixed f.Count ∷ fixed f.Open ∷ fixed f.Star ∷ fixed f.Close ∷ []; parts = whole; spelled = refl })

counted-takes : (symbols inside : List Symbol) (x : Term × List Symbol) → eaten f.Count symbols ≡ Some inside → counted_at inside ≡ Some x → Took IsTerm symbols x
unfolding counted_at
counted-takes symbols inside x e h =
    let o = bind_some (eaten f.Open inside) _ x h in
    elim (chosen (eaten f.Star o.0) all_at _ x o.2) [
      | inl s ↦ all-takes symbols inside s.0 x e o.0 o.1 s.1 s.2
      | inr n ↦ call-takes f.Count term.Count symbols inside x e n.1 (λ ss c is. is)
    ]

plain-takes : (symbols : List Symbol) (x : Term × List Symbol) → made_at term.Plain col_at symbols ≡ Some x → Took IsTerm symbols x
plain-takes symbols x e =
    let i = bind_some (col_at symbols) _ x e in
    let took = col-takes symbols i.0 i.1 in
    let same : (term.Plain i.0.0, i.0.1) ≡ x = cc (i.2) in
    subst (λ (y : Term × List Symbol). Took IsTerm symbols y) same (record { used = took.used; parts = took.parts; spelled = took.spelled })

pub term-takes : (symbols : List Symbol) (x : Term × List Symbol) → term_at symbols ≡ Some x → Took IsTerm symbols x
unfolding term_at
term-takes symbols x e = elim (chosen (eaten f.Count symbols) counted_at _ x e) [
  | inl p ↦ counted-takes symbols p.0 x p.1 p.2
  | inr p ↦ elim (chosen (eaten f.Sum symbols) _ _ x p.1) [
    | inl q ↦ call-takes f.Sum term.Sum symbols q.0 x q.1 q.2 (λ ss c is. is)
    | inr q ↦ elim (chosen (eaten f.Min symbols) _ _ x q.1) [
      | inl r ↦ call-takes f.Min term.Min symbols r.0 x r.1 r.2 (λ ss c is. is)
      | inr r ↦ elim (chosen (eaten f.Max symbols) _ _ x r.1) [
        | inl s ↦ call-takes f.Max term.Max symbols s.0 x s.1 s.2 (λ ss c is. is)
        | inr s ↦ plain-takes symbols x s.1
      ]
    ]
  ]
]

term-again : (used rest : List Symbol) (t : Term) → IsTerm used t → Avoids [] rest → term_at (used ++ rest) ≡ Some (t, rest)
unfolding term_at counted_at all_at inner_at col_at col_of eaten same_word
term-again used rest (term.Plain col.Vid) h a = rw h refl
term-again used rest (term.Plain (col.Name name)) h a = rw h refl
term-again used rest (term.Plain (col.Left _)) h a = absurd h
term-again used rest (term.Plain (col.Right _)) h a = absurd h
term-again used rest term.CountAll h a = rw h refl
term-again used rest (term.Count col.Vid) h a = rw (h.symbols_are, h.is_col) refl
term-again used rest (term.Count (col.Name name)) h a = rw (h.symbols_are, h.is_col) refl
term-again used rest (term.Count (col.Left _)) h a = absurd h.is_col
term-again used rest (term.Count (col.Right _)) h a = absurd h.is_col
term-again used rest (term.Sum col.Vid) h a = rw (h.symbols_are, h.is_col) refl
term-again used rest (term.Sum (col.Name name)) h a = rw (h.symbols_are, h.is_col) refl
term-again used rest (term.Sum (col.Left _)) h a = absurd h.is_col
term-again used rest (term.Sum (col.Right _)) h a = absurd h.is_col
term-again used rest (term.Min col.Vid) h a = rw (h.symbols_are, h.is_col) refl
term-again used rest (term.Min (col.Name name)) h a = rw (h.symbols_are, h.is_col) refl
term-again used rest (term.Min (col.Left _)) h a = absurd h.is_col
term-again used rest (term.Min (col.Right _)) h a = absurd h.is_col
term-again used rest (term.Max col.Vid) h a = rw (h.symbols_are, h.is_col) refl
term-again used rest (term.Max (col.Name name)) h a = rw (h.symbols_are, h.is_col) refl
term-again used rest (term.Max (col.Left _)) h a = absurd h.is_col
term-again used rest (term.Max (col.Right _)) h a = absurd h.is_col

pub term_reader : IsReader [] IsTerm term_at
term_reader = record { takes = term-takes; again = term-again }
