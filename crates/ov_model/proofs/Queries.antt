-- Queries: reading and the grammar.
use Rattle.std.proofs.Common.{◌≡◌, inl, inr, ℕ, pos, Bool, false, List, [], ◌∷◌, ◌++◌, Option, Some, None, refl, sym, ap, subst, ◌∙◌, append_assoc}
use Rattle.ov_model.specs.declared.query.Items.{Items}
use Rattle.ov_model.specs.declared.query.Items.TheVariants as items
use Rattle.ov_model.specs.declared.query.Src.{Src}
use Rattle.ov_model.specs.declared.query.Src.TheVariants as source
use Rattle.ov_model.specs.declared.query.LineageKind.{LineageKind}
use Rattle.ov_model.specs.declared.query.LineageKind.TheVariants as lineage
use Rattle.ov_model.specs.declared.query.Col.TheVariants as col
use Rattle.ov_model.specs.declared.query.Term.{Term}
use Rattle.ov_model.specs.declared.query.Term.TheVariants as term
use Rattle.ov_model.specs.declared.query.Cond.{Cond}
use Rattle.ov_model.specs.declared.query.Fixed.{Fixed}
use Rattle.ov_model.specs.declared.query.Fixed.TheVariants as f
use Rattle.ov_model.specs.declared.query.Symbol.{Symbol}
use Rattle.ov_model.specs.declared.query.Symbol.TheVariants.{Fixed as fixed, Name, Number}
use Rattle.ov_model.specs.Grammar.{Joined, IsTerm, IsCount, IsLineage, lineage_word, IsTest, IsCond, IsItems, of_cvd, IsSource, IsGuard}
use Rattle.ov_model.specs.Reading.{Reading, made_at, same_word, eaten, list_at, term_at, count_at, name_at, name_of, lineage_at, test_at, cond_at, items_at, of_cvd_at, listed_at, of_lineage_at, source_at, guard_at}
use Rattle.ov_model.proofs.Eaten.{eaten-some, eaten-there}
use Rattle.ov_model.proofs.Readers.{bind_some, chosen, Took, Avoids, IsReader, MayFollow, list_reader, joined-tail}
use Rattle.ov_model.proofs.Terms.{count_reader, name_reader, term_reader}
use Rattle.ov_model.proofs.Operands.{lineage_reader}
use Rattle.ov_model.proofs.Comparisons.{test_reader, test-first}
use Rattle.ov_model.proofs.Conds.{cond_reader}

nothing_follows : (between : Fixed) → MayFollow between []
nothing_follows between others = tt

-- ---- SELECT

-- items that don't begin with a star
module _ (item : List Symbol → Term → Type 0) (at : Reading Term) (reads : IsReader [] item at) (no_star : (used rest : List Symbol) (t : Term) → item used t → eaten f.Star (used ++ rest) ≡ None) where
  terms : IsReader (f.Comma ∷ []) (Joined f.Comma item) (list_at f.Comma at)
  terms = list_reader f.Comma [] item at reads (nothing_follows f.Comma)

  no_star_joined : (used rest : List Symbol) (ts : List Term) → Joined f.Comma item used ts → eaten f.Star (used ++ rest) ≡ None
  no_star_joined used rest [] j = absurd j
  no_star_joined used rest (t ∷ ts) j =
      let h = joined-tail f.Comma item used t ts j in
      let whole : used ++ rest ≡ h.first ++ (h.others ++ rest) = ap (λ (ss : List Symbol). ss ++ rest) h.symbols_are ∙ append_assoc h.first h.others rest in
      ap (eaten f.Star) whole ∙ no_star h.first (h.others ++ rest) t h.first_is

  items-takes : (symbols : List Symbol) (x : Items × List Symbol) → items_at at symbols ≡ Some x → Took (IsItems item) symbols x
  unfolding items_at
  items-takes symbols x e = elim (chosen (eaten f.Star symbols) _ _ x e) [
    | inl s ↦
        let same : (items.Everything, s.0) ≡ x = cc (s.2) in
        subst (λ (y : Items × List Symbol). Took (IsItems item) symbols y) same (record { used = fixed f.Star ∷ []; parts = eaten-some f.Star symbols s.0 s.1; spelled = refl })
    | inr t ↦
        let l = bind_some (list_at f.Comma at symbols) _ x t.1 in
        let took = terms.takes symbols l.0 l.1 in
        let same : (items.Terms l.0.0, l.0.1) ≡ x = cc (l.2) in
        subst (λ (y : Items × List Symbol). Took (IsItems item) symbols y) same (record { used = took.used; parts = took.parts; spelled = took.spelled })
  ]

  items-again : (used rest : List Symbol) (i : Items) → IsItems item used i → Avoids (f.Comma ∷ []) rest → items_at at (used ++ rest) ≡ Some (i, rest)
  unfolding items_at
  items-again used rest items.Everything h a = rw (h, eaten-there f.Star rest) refl
  items-again used rest (items.Terms ts) h a = rw (no_star_joined used rest ts h, terms.again used rest ts h a) refl

  pub items_by : IsReader (f.Comma ∷ []) (IsItems item) (items_at at)
  items_by = record { takes = items-takes; again = items-again }

no_star : (used rest : List Symbol) (t : Term) → IsTerm used t → eaten f.Star (used ++ rest) ≡ None
unfolding eaten same_word
no_star used rest (term.Plain col.Vid) h = rw h refl
no_star used rest (term.Plain (col.Name name)) h = rw h refl
no_star used rest (term.Plain (col.Left _)) h = absurd h
no_star used rest (term.Plain (col.Right _)) h = absurd h
no_star used rest term.CountAll h = rw h refl
no_star used rest (term.Count _) h = rw h.symbols_are refl
no_star used rest (term.Sum _) h = rw h.symbols_are refl
no_star used rest (term.Min _) h = rw h.symbols_are refl
no_star used rest (term.Max _) h = rw h.symbols_are refl

pub items_reader : IsReader (f.Comma ∷ []) (IsItems IsTerm) (items_at term_at)
items_reader = items_by IsTerm term_at term_reader no_star

-- ---- FROM

pub of_cvd-takes : (symbols : List Symbol) (x : List ℕ × List Symbol) → of_cvd_at symbols ≡ Some x → symbols ≡ of_cvd x.0 ++ x.1
unfolding of_cvd_at
of_cvd-takes symbols x e =
    let o = bind_some (eaten f.Of symbols) _ x e in
    let c = bind_some (eaten f.Cvd o.0) _ x o.2 in
    let took = name_reader.takes c.0 x c.2 in
    eaten-some f.Of symbols o.0 o.1 ∙ ap (λ (ss : List Symbol). fixed f.Of ∷ ss) (eaten-some f.Cvd o.0 c.0 c.1 ∙ ap (λ (ss : List Symbol). fixed f.Cvd ∷ ss) (took.parts ∙ ap (λ (ss : List Symbol). ss ++ x.1) took.spelled))

pub of_cvd-again : (name : List ℕ) (rest : List Symbol) → of_cvd_at (of_cvd name ++ rest) ≡ Some (name, rest)
unfolding of_cvd_at eaten same_word name_at name_of
of_cvd-again name rest = refl

vids : IsReader (f.Comma ∷ []) (Joined f.Comma IsCount) (list_at f.Comma count_at)
vids = list_reader f.Comma [] IsCount count_at count_reader (nothing_follows f.Comma)

listed-takes : (symbols inside : List Symbol) (x : Src × List Symbol) → eaten f.Version symbols ≡ Some inside → listed_at inside ≡ Some x → Took IsSource symbols x
unfolding listed_at
listed-takes symbols inside x e h =
    let l = bind_some (list_at f.Comma count_at inside) _ x h in
    let n = bind_some (of_cvd_at l.0.1) _ x l.2 in
    let took = vids.takes inside l.0 l.1 in
    let same : (source.Listed l.0.0 n.0.0, n.0.1) ≡ x = cc (n.2) in
    subst (λ (y : Src × List Symbol). Took IsSource symbols y) same (record {
      used = fixed f.Version ∷ (took.used ++ of_cvd n.0.0);
      parts = eaten-some f.Version symbols inside e ∙ ap (λ (ss : List Symbol). fixed f.Version ∷ ss) (took.parts ∙ (ap (λ (ss : List Symbol). took.used ++ ss) (of_cvd-takes l.0.1 n.0 n.1) ∙ sym (append_assoc took.used (of_cvd n.0.0) n.0.1)));
      spelled = record { listed = took.used; symbols_are = refl; vids_are = took.spelled };
    })

of_lineage-takes : (symbols : List Symbol) (x : Src × List Symbol) → of_lineage_at symbols ≡ Some x → Took IsSource symbols x
unfolding of_lineage_at
of_lineage-takes symbols x e =
    let l = bind_some (lineage_at symbols) _ x e in
    let n = bind_some (of_cvd_at l.0.1) _ x l.2 in
    let took = lineage_reader.takes symbols l.0 l.1 in
    let same : (source.Lineage l.0.0.0 l.0.0.1 n.0.0, n.0.1) ≡ x = cc (n.2) in
    subst (λ (y : Src × List Symbol). Took IsSource symbols y) same (record {
      used = took.used ++ of_cvd n.0.0;
      parts = took.parts ∙ (ap (λ (ss : List Symbol). took.used ++ ss) (of_cvd-takes l.0.1 n.0 n.1) ∙ sym (append_assoc took.used (of_cvd n.0.0) n.0.1));
      spelled = record { inner = took.used; symbols_are = refl; lineage_is = took.spelled };
    })

whole-takes : (symbols inside : List Symbol) (x : Src × List Symbol) → eaten f.Cvd symbols ≡ Some inside → made_at source.Whole name_at inside ≡ Some x → Took IsSource symbols x
whole-takes symbols inside x e h =
    let n = bind_some (name_at inside) _ x h in
    let took = name_reader.takes inside n.0 n.1 in
    let same : (source.Whole n.0.0, n.0.1) ≡ x = cc (n.2) in
    subst (λ (y : Src × List Symbol). Took IsSource symbols y) same (record {
      used = fixed f.Cvd ∷ Name n.0.0 ∷ [];
      parts = eaten-some f.Cvd symbols inside e ∙ ap (λ (ss : List Symbol). fixed f.Cvd ∷ ss) (took.parts ∙ ap (λ (ss : List Symbol). ss ++ n.0.1) took.spelled);
      spelled = refl;
    })

source-takes : (symbols : List Symbol) (x : Src × List Symbol) → source_at symbols ≡ Some x → Took IsSource symbols x
unfolding source_at
source-takes symbols x e = elim (chosen (eaten f.Version symbols) listed_at _ x e) [
  | inl v ↦ listed-takes symbols v.0 x v.1 v.2
  | inr v ↦ elim (chosen (eaten f.Cvd symbols) _ _ x v.1) [
    | inl c ↦ whole-takes symbols c.0 x c.1 c.2
    | inr c ↦ of_lineage-takes symbols x c.1
  ]
]

of_avoids : (name : List ℕ) (rest : List Symbol) → Avoids (f.Comma ∷ []) (of_cvd name ++ rest)
unfolding eaten same_word
of_avoids name rest = (refl, tt)

listed-again : (listed : List Symbol) (ns : List ℕ) (name : List ℕ) (rest : List Symbol) → Joined f.Comma IsCount listed ns → listed_at (listed ++ (of_cvd name ++ rest)) ≡ Some (source.Listed ns name, rest)
unfolding listed_at
listed-again listed ns name rest j = rw (vids.again listed (of_cvd name ++ rest) ns j (of_avoids name rest), of_cvd-again name rest) refl

of_lineage-again : (inner : List Symbol) (kind : LineageKind) (vid : ℕ) (name : List ℕ) (rest : List Symbol) → IsLineage inner kind vid → of_lineage_at (inner ++ (of_cvd name ++ rest)) ≡ Some (source.Lineage kind vid name, rest)
unfolding of_lineage_at
of_lineage-again inner kind vid name rest h = rw (lineage_reader.again inner (of_cvd name ++ rest) (kind, vid) h tt, of_cvd-again name rest) refl

lineage_other : (kind : LineageKind) (more : List Symbol) → (eaten f.Version (fixed (lineage_word kind) ∷ more) ≡ None) × (eaten f.Cvd (fixed (lineage_word kind) ∷ more) ≡ None)
unfolding eaten same_word
lineage_other lineage.Parents more = (refl, refl)
lineage_other lineage.Ancestors more = (refl, refl)
lineage_other lineage.Descendants more = (refl, refl)

whole-again : (name : List ℕ) (rest : List Symbol) → source_at (fixed f.Cvd ∷ Name name ∷ rest) ≡ Some (source.Whole name, rest)
unfolding source_at eaten same_word name_at name_of
whole-again name rest = refl

source-again : (used rest : List Symbol) (s : Src) → IsSource used s → Avoids [] rest → source_at (used ++ rest) ≡ Some (s, rest)
unfolding source_at
source-again used rest (source.Listed ns name) h a =
    let whole : used ++ rest ≡ fixed f.Version ∷ (h.listed ++ (of_cvd name ++ rest)) = ap (λ (ss : List Symbol). ss ++ rest) h.symbols_are ∙ ap (λ (ss : List Symbol). fixed f.Version ∷ ss) (append_assoc h.listed (of_cvd name) rest) in
    rw (whole, eaten-there f.Version (h.listed ++ (of_cvd name ++ rest))) (listed-again h.listed ns name rest h.vids_are)
source-again used rest (source.Whole name) h a = rw h (whole-again name rest)
source-again used rest (source.Lineage kind vid name) h a =
    let whole : used ++ rest ≡ h.inner ++ (of_cvd name ++ rest) = ap (λ (ss : List Symbol). ss ++ rest) h.symbols_are ∙ append_assoc h.inner (of_cvd name) rest in
    let first : h.inner ++ (of_cvd name ++ rest) ≡ fixed (lineage_word kind) ∷ fixed f.Open ∷ Number (pos vid) false ∷ fixed f.Close ∷ (of_cvd name ++ rest) = ap (λ (ss : List Symbol). ss ++ (of_cvd name ++ rest)) h.lineage_is in
    let other = lineage_other kind (fixed f.Open ∷ Number (pos vid) false ∷ fixed f.Close ∷ (of_cvd name ++ rest)) in
    let version : eaten f.Version (used ++ rest) ≡ None = ap (eaten f.Version) (whole ∙ first) ∙ other.0 in
    let cvd : eaten f.Cvd (used ++ rest) ≡ None = ap (eaten f.Cvd) (whole ∙ first) ∙ other.1 in
    rw (version, cvd) (ap of_lineage_at whole ∙ of_lineage-again h.inner kind vid name rest h.lineage_is)

pub source_reader : IsReader [] IsSource source_at
source_reader = record { takes = source-takes; again = source-again }

-- ---- WHERE and HAVING

module _ (word : Fixed) (condition : List Symbol → Cond → Type 0) (at : Reading Cond) (reads : IsReader (f.Or ∷ f.And ∷ []) condition at) where
  guard-takes : (symbols : List Symbol) (x : Option Cond × List Symbol) → guard_at word at symbols ≡ Some x → Took (IsGuard word condition) symbols x
  unfolding guard_at
  guard-takes symbols x e = elim (chosen (eaten word symbols) _ _ x e) [
    | inl w ↦
        let c = bind_some (at w.0) _ x w.2 in
        let took = reads.takes w.0 c.0 c.1 in
        let same : (Some c.0.0, c.0.1) ≡ x = cc (c.2) in
        subst (λ (y : Option Cond × List Symbol). Took (IsGuard word condition) symbols y) same (record {
          used = fixed word ∷ took.used;
          parts = eaten-some word symbols w.0 w.1 ∙ ap (λ (ss : List Symbol). fixed word ∷ ss) took.parts;
          spelled = (took.used, refl, took.spelled);
        })
    | inr w ↦
        let same : (None, symbols) ≡ x = cc (w.1) in
        subst (λ (y : Option Cond × List Symbol). Took (IsGuard word condition) symbols y) same (record { used = []; parts = refl; spelled = refl })
  ]

  guard-again : (used rest : List Symbol) (c : Option Cond) → IsGuard word condition used c → Avoids (word ∷ f.Or ∷ f.And ∷ []) rest → guard_at word at (used ++ rest) ≡ Some (c, rest)
  unfolding guard_at
  guard-again used rest None h a = rw (h, a.0) refl
  guard-again used rest (Some c) h a = rw (h.1, eaten-there word (h.0 ++ rest), reads.again h.0 rest c h.2 a.1) refl

  pub guard_by : IsReader (word ∷ f.Or ∷ f.And ∷ []) (IsGuard word condition) (guard_at word at)
  guard_by = record { takes = guard-takes; again = guard-again }

pub guard_reader : (word : Fixed) (aggregates : Bool) → IsReader (word ∷ f.Or ∷ f.And ∷ []) (IsGuard word (IsCond aggregates)) (guard_at word (cond_at (test_at aggregates) 100))
guard_reader word aggregates =
    guard_by word (IsCond aggregates) (cond_at (test_at aggregates) 100) (cond_reader (IsTest aggregates) (test_at aggregates) (test_reader aggregates) (test-first aggregates) 100)
