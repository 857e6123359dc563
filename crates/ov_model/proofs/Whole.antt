-- Whole queries: reading and the grammar.
use Rattle.std.proofs.Common.{◌≡◌, inl, inr, ℕ, true, false, List, [], ◌∷◌, ◌++◌, Option, Some, None, refl, sym, ap, subst, ◌∙◌, append_assoc}
use Rattle.ov_model.specs.declared.query.Query.{Query}
use Rattle.ov_model.specs.declared.query.Items.{Items}
use Rattle.ov_model.specs.declared.query.Src.{Src}
use Rattle.ov_model.specs.declared.query.Col.{Col}
use Rattle.ov_model.specs.declared.query.Key.{Key}
use Rattle.ov_model.specs.declared.query.Cond.{Cond}
use Rattle.ov_model.specs.declared.query.Fixed.{Fixed}
use Rattle.ov_model.specs.declared.query.Fixed.TheVariants as f
use Rattle.ov_model.specs.declared.query.Symbol.{Symbol}
use Rattle.ov_model.specs.declared.query.Symbol.TheVariants.{Fixed as fixed}
use Rattle.ov_model.specs.Grammar.{Joined, IsCol, IsTerm, IsCond, IsItems, IsSource, IsGuard, IsGrouped, IsGrouping, IsOrder, IsLimit, IsEnd, SpellsQuery}
use Rattle.ov_model.specs.Reading.{same_word, eaten, list_at, term_at, col_at, test_at, cond_at, items_at, source_at, guard_at, grouped_at, grouping_at, tail_at, head_at, kept_at, made_of, query_of}
use Rattle.ov_model.proofs.Eaten.{eaten-some, eaten-there}
use Rattle.ov_model.proofs.Readers.{bind_some, chosen, Took, Avoids, IsReader, list_reader}
use Rattle.ov_model.proofs.Terms.{col_reader, term_reader}
use Rattle.ov_model.proofs.Queries.{items_reader, source_reader, guard_reader}
use Rattle.ov_model.proofs.Tails.{IsSection, skipped, guard_section, after_groups, tail-again, tail-takes}

-- ---- GROUP BY

grouping_section : (symbols : List Symbol) (cs : List Col) (having : Option Cond) → IsGrouping symbols cs having → IsSection f.Group symbols
grouping_section symbols [] having h = inl h.0
grouping_section symbols (c ∷ cs) having h = inr (_, h.symbols_are)

abbrev IsGroupingPair : List Symbol → List Col × Option Cond → Type 0
IsGroupingPair symbols p = IsGrouping symbols p.0 p.1

cols : IsReader (f.Comma ∷ []) (Joined f.Comma IsCol) (list_at f.Comma col_at)
cols = list_reader f.Comma [] IsCol col_at col_reader (λ others. tt)

grouped-some : (symbols : List Symbol) (cs : List Col) (having : Option Cond) (listed : List Symbol) → Joined f.Comma IsCol listed cs → IsGrouped symbols cs having → IsGrouping symbols cs having
grouped-some symbols [] having listed j h = absurd j
grouped-some symbols (c ∷ cs) having listed j h = h

grouped-takes : (symbols inside : List Symbol) (x : (List Col × Option Cond) × List Symbol) → eaten f.Group symbols ≡ Some inside → grouped_at inside ≡ Some x → Took IsGroupingPair symbols x
unfolding grouped_at
grouped-takes symbols inside x e h =
    let b = bind_some (eaten f.By inside) _ x h in
    let l = bind_some (list_at f.Comma col_at b.0) _ x b.2 in
    let g = bind_some (guard_at f.Having (cond_at (test_at true) 100) l.0.1) _ x l.2 in
    let took = cols.takes b.0 l.0 l.1 in
    let guard = (guard_reader f.Having true).takes l.0.1 g.0 g.1 in
    let same : ((l.0.0, g.0.0), g.0.1) ≡ x = cc (g.2) in
    let used : List Symbol = fixed f.Group ∷ fixed f.By ∷ (took.used ++ guard.used) in
    subst (λ (y : (List Col × Option Cond) × List Symbol). Took IsGroupingPair symbols y) same (record {
      used = used;
      parts = eaten-some f.Group symbols inside e ∙ ap (λ (ss : List Symbol). fixed f.Group ∷ ss) (eaten-some f.By inside b.0 b.1 ∙ ap (λ (ss : List Symbol). fixed f.By ∷ ss) (took.parts ∙ (ap (λ (ss : List Symbol). took.used ++ ss) guard.parts ∙ sym (append_assoc took.used guard.used g.0.1))));
      spelled = grouped-some used l.0.0 g.0.0 took.used took.spelled (record { listed = took.used; guard = guard.used; symbols_are = refl; groups_are = took.spelled; having_is = guard.spelled });
    })

grouping-takes : (symbols : List Symbol) (x : (List Col × Option Cond) × List Symbol) → grouping_at symbols ≡ Some x → Took IsGroupingPair symbols x
unfolding grouping_at
grouping-takes symbols x e = elim (chosen (eaten f.Group symbols) grouped_at _ x e) [
  | inl g ↦ grouped-takes symbols g.0 x g.1 g.2
  | inr g ↦
      let same : (([], None), symbols) ≡ x = cc (g.1) in
      subst (λ (y : (List Col × Option Cond) × List Symbol). Took IsGroupingPair symbols y) same (record { used = []; parts = refl; spelled = (refl, refl) })
]

comma_no_having : same_word f.Comma f.Having ≡ false
unfolding same_word
comma_no_having = refl

grouped-again : (symbols rest : List Symbol) (cs : List Col) (having : Option Cond) (h : IsGrouped symbols cs having) → Avoids (f.Comma ∷ f.Having ∷ f.Or ∷ f.And ∷ []) rest → grouped_at (fixed f.By ∷ (h.listed ++ (h.guard ++ rest))) ≡ Some ((cs, having), rest)
unfolding grouped_at
grouped-again symbols rest cs having h a =
    let comma : eaten f.Comma (h.guard ++ rest) ≡ None = skipped f.Comma f.Having h.guard rest (guard_section f.Having (IsCond true) h.guard having h.having_is) comma_no_having a.0 in
    rw (eaten-there f.By (h.listed ++ (h.guard ++ rest)), cols.again h.listed (h.guard ++ rest) cs h.groups_are (comma, tt), (guard_reader f.Having true).again h.guard rest having h.having_is a.1) refl

grouping-again : (used rest : List Symbol) (cs : List Col) (having : Option Cond) → IsGrouping used cs having → Avoids (f.Group ∷ f.Comma ∷ f.Having ∷ f.Or ∷ f.And ∷ []) rest → grouping_at (used ++ rest) ≡ Some ((cs, having), rest)
unfolding grouping_at
grouping-again used rest [] having h a = rw (h.0, h.1, a.0) refl
grouping-again used rest (c ∷ cs) having h a =
    let whole : used ++ rest ≡ fixed f.Group ∷ fixed f.By ∷ (h.listed ++ (h.guard ++ rest)) = ap (λ (ss : List Symbol). ss ++ rest) h.symbols_are ∙ ap (λ (ss : List Symbol). fixed f.Group ∷ fixed f.By ∷ ss) (append_assoc h.listed h.guard rest) in
    rw (whole, eaten-there f.Group (fixed f.By ∷ (h.listed ++ (h.guard ++ rest)))) (grouped-again used rest (c ∷ cs) having h a.1)

-- ---- what may stand behind each section

after_groups_all : (ordered limited ended : List Symbol) (ks : List Key) (n : Option ℕ) → IsOrder IsTerm ordered ks → IsLimit limited n → IsEnd ended → Avoids (f.Group ∷ f.Comma ∷ f.Having ∷ f.Or ∷ f.And ∷ []) (ordered ++ (limited ++ ended))
unfolding same_word
after_groups_all ordered limited ended ks n o l h =
    (after_groups IsTerm f.Group ordered limited ended ks n o l h refl refl refl, (after_groups IsTerm f.Comma ordered limited ended ks n o l h refl refl refl, (after_groups IsTerm f.Having ordered limited ended ks n o l h refl refl refl, (after_groups IsTerm f.Or ordered limited ended ks n o l h refl refl refl, (after_groups IsTerm f.And ordered limited ended ks n o l h refl refl refl, tt)))))

after_filter : (word : Fixed) (grouped ordered limited ended : List Symbol) (cs : List Col) (having : Option Cond) (ks : List Key) (n : Option ℕ) → IsGrouping grouped cs having → IsOrder IsTerm ordered ks → IsLimit limited n → IsEnd ended
    → same_word word f.Group ≡ false → same_word word f.Order ≡ false → same_word word f.Limit ≡ false → same_word word f.Semicolon ≡ false → eaten word (grouped ++ (ordered ++ (limited ++ ended))) ≡ None
after_filter word grouped ordered limited ended cs having ks n g o l h group order limit s =
    skipped word f.Group grouped (ordered ++ (limited ++ ended)) (grouping_section grouped cs having g) group (after_groups IsTerm word ordered limited ended ks n o l h order limit s)

after_filter_all : (grouped ordered limited ended : List Symbol) (cs : List Col) (having : Option Cond) (ks : List Key) (n : Option ℕ) → IsGrouping grouped cs having → IsOrder IsTerm ordered ks → IsLimit limited n → IsEnd ended
    → Avoids (f.Where ∷ f.Or ∷ f.And ∷ []) (grouped ++ (ordered ++ (limited ++ ended)))
unfolding same_word
after_filter_all grouped ordered limited ended cs having ks n g o l h =
    (after_filter f.Where grouped ordered limited ended cs having ks n g o l h refl refl refl refl, (after_filter f.Or grouped ordered limited ended cs having ks n g o l h refl refl refl refl, (after_filter f.And grouped ordered limited ended cs having ks n g o l h refl refl refl refl, tt)))

from_follows : (rest : List Symbol) → Avoids (f.Comma ∷ []) (fixed f.From ∷ rest)
unfolding eaten same_word
from_follows rest = (refl, tt)

-- ---- the whole

kept-again : (kept grouped rest : List Symbol) (filter : Option Cond) (cs : List Col) (having : Option Cond) → IsGuard f.Where (IsCond false) kept filter → IsGrouping grouped cs having → Avoids (f.Where ∷ f.Or ∷ f.And ∷ []) (grouped ++ rest) → Avoids (f.Group ∷ f.Comma ∷ f.Having ∷ f.Or ∷ f.And ∷ []) rest → kept_at (kept ++ (grouped ++ rest)) ≡ Some ((filter, (cs, having)), rest)
unfolding kept_at
kept-again kept grouped rest filter cs having w g a b = rw ((guard_reader f.Where false).again kept (grouped ++ rest) filter w a, grouping-again grouped rest cs having g b) refl

head-again : (shown read rest : List Symbol) (i : Items) (s : Src) → IsItems IsTerm shown i → IsSource read s → head_at (fixed f.Select ∷ (shown ++ fixed f.From ∷ (read ++ rest))) ≡ Some ((i, s), rest)
unfolding head_at
head-again shown read rest i s h k = rw (eaten-there f.Select (shown ++ fixed f.From ∷ (read ++ rest)), items_reader.again shown (fixed f.From ∷ (read ++ rest)) i h (from_follows (read ++ rest)), eaten-there f.From (read ++ rest), source_reader.again read rest s k tt) refl

pub query-again : (symbols : List Symbol) (q : Query) → SpellsQuery symbols q → query_of symbols ≡ Some q
unfolding query_of
query-again symbols q h =
    let tail : List Symbol = h.ordered ++ (h.limited ++ h.ended) in
    let head = head-again h.shown h.read (h.kept ++ (h.grouped ++ (h.ordered ++ (h.limited ++ h.ended)))) q.items q.source h.items_are h.source_is in
    let kept = kept-again h.kept h.grouped (h.ordered ++ (h.limited ++ h.ended)) q.filter q.groups q.having h.filter_is h.grouping_is
    (after_filter_all h.grouped h.ordered h.limited h.ended q.groups q.having q.order q.limit h.grouping_is h.order_is h.limit_is h.end_is)
    (after_groups_all h.ordered h.limited h.ended q.order q.limit h.order_is h.limit_is h.end_is) in
    rw (h.symbols_are, head, kept, tail-again IsTerm term_at term_reader h.ordered h.limited h.ended q.order q.limit h.order_is h.limit_is h.end_is) refl

pub record TookHead (symbols : List Symbol) (x : (Items × Src) × List Symbol) : Type 0 where
  shown : List Symbol
  read : List Symbol
  parts : symbols ≡ fixed f.Select ∷ (shown ++ fixed f.From ∷ (read ++ x.1))
  items_are : IsItems IsTerm shown x.0.0
  source_is : IsSource read x.0.1

head-takes : (symbols : List Symbol) (x : (Items × Src) × List Symbol) → head_at symbols ≡ Some x → TookHead symbols x
unfolding head_at
head-takes symbols x e =
    let s = bind_some (eaten f.Select symbols) _ x e in
    let i = bind_some (items_at term_at s.0) _ x s.2 in
    let m = bind_some (eaten f.From i.0.1) _ x i.2 in
    let r = bind_some (source_at m.0) _ x m.2 in
    let shown = items_reader.takes s.0 i.0 i.1 in
    let read = source_reader.takes m.0 r.0 r.1 in
    let same : ((i.0.0, r.0.0), r.0.1) ≡ x = cc (r.2) in
    subst (λ (y : (Items × Src) × List Symbol). TookHead symbols y) same (record {
      shown = shown.used;
      read = read.used;
      parts = eaten-some f.Select symbols s.0 s.1 ∙ ap (λ (ss : List Symbol). fixed f.Select ∷ ss) (shown.parts ∙ ap (λ (ss : List Symbol). shown.used ++ ss) (eaten-some f.From i.0.1 m.0 m.1 ∙ ap (λ (ss : List Symbol). fixed f.From ∷ ss) read.parts));
      items_are = shown.spelled;
      source_is = read.spelled;
    })

pub record TookKept (symbols : List Symbol) (x : (Option Cond × (List Col × Option Cond)) × List Symbol) : Type 0 where
  kept : List Symbol
  grouped : List Symbol
  parts : symbols ≡ kept ++ (grouped ++ x.1)
  filter_is : IsGuard f.Where (IsCond false) kept x.0.0
  grouping_is : IsGrouping grouped x.0.1.0 x.0.1.1

kept-takes : (symbols : List Symbol) (x : (Option Cond × (List Col × Option Cond)) × List Symbol) → kept_at symbols ≡ Some x → TookKept symbols x
unfolding kept_at
kept-takes symbols x e =
    let w = bind_some (guard_at f.Where (cond_at (test_at false) 100) symbols) _ x e in
    let g = bind_some (grouping_at w.0.1) _ x w.2 in
    let kept = (guard_reader f.Where false).takes symbols w.0 w.1 in
    let grouped = grouping-takes w.0.1 g.0 g.1 in
    let same : ((w.0.0, g.0.0), g.0.1) ≡ x = cc (g.2) in
    subst (λ (y : (Option Cond × (List Col × Option Cond)) × List Symbol). TookKept symbols y) same (record {
      kept = kept.used;
      grouped = grouped.used;
      parts = kept.parts ∙ ap (λ (ss : List Symbol). kept.used ++ ss) grouped.parts;
      filter_is = kept.spelled;
      grouping_is = grouped.spelled;
    })

pub query-takes : (symbols : List Symbol) (q : Query) → query_of symbols ≡ Some q → SpellsQuery symbols q
unfolding query_of
query-takes symbols q e =
    let h = bind_some (head_at symbols) _ q e in
    let k = bind_some (kept_at h.0.1) _ q h.2 in
    let t = bind_some (tail_at term_at k.0.1) _ q k.2 in
    let head = head-takes symbols h.0 h.1 in
    let kept = kept-takes h.0.1 k.0 k.1 in
    let tail = tail-takes IsTerm term_at term_reader k.0.1 t.0 t.1 in
    let same : made_of h.0.0 k.0.0 t.0 ≡ q = cc (t.2) in
    subst (λ (r : Query). SpellsQuery symbols r) same (record {
      shown = head.shown;
      read = head.read;
      kept = kept.kept;
      grouped = kept.grouped;
      ordered = tail.ordered;
      limited = tail.limited;
      ended = tail.ended;
      symbols_are = head.parts ∙ ap (λ (ss : List Symbol). fixed f.Select ∷ (head.shown ++ fixed f.From ∷ (head.read ++ ss))) (kept.parts ∙ ap (λ (ss : List Symbol). kept.kept ++ (kept.grouped ++ ss)) tail.parts);
      items_are = head.items_are;
      source_is = head.source_is;
      filter_is = kept.filter_is;
      grouping_is = kept.grouping_is;
      order_is = tail.order_is;
      limit_is = tail.limit_is;
      end_is = tail.end_is;
    })
