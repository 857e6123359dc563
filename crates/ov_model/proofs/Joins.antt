-- Whole joins: reading and the grammar; and no symbols spell a query and a join.
use Rattle.std.proofs.Common.{◌≡◌, ℕ, pos, false, List, [], ◌∷◌, ◌++◌, Option, Some, None, refl, sym, ap, subst, ◌∙◌, append_assoc}
use Rattle.ov_model.specs.Grammar.{Joined, IsItems, IsSource, IsGuard, IsOrder, IsLimit, IsEnd, SpellsQuery}
use Rattle.ov_model.specs.JoinGrammar.{IsSideTerm, IsJoinCond, IsSide, IsEquation, SpellsJoin}
use Rattle.ov_model.specs.JoinReading.{side_term_at, side_test_at, side_at, equation_at, sides_at, matched_at, join_head_at, join_made_of, join_of}
use Rattle.ov_model.specs.Reading.{same_word, eaten, list_at, term_at, col_at, col_of, cond_at, items_at, guard_at, grouping_at, order_at, limit_at, is_end, tail_at, head_at, kept_at, query_of}
use Rattle.ov_model.specs.declared.query.Query.{Query}
use Rattle.ov_model.specs.declared.query.JoinQuery.{JoinQuery}
use Rattle.ov_model.specs.declared.query.Items.{Items}
use Rattle.ov_model.specs.declared.query.Items.TheVariants as items
use Rattle.ov_model.specs.declared.query.Src.TheVariants as source
use Rattle.ov_model.specs.declared.query.Side.{Side}
use Rattle.ov_model.specs.declared.query.Col.TheVariants as col
use Rattle.ov_model.specs.declared.query.Term.{Term}
use Rattle.ov_model.specs.declared.query.Term.TheVariants as term
use Rattle.ov_model.specs.declared.query.Key.{Key}
use Rattle.ov_model.specs.declared.query.Cond.{Cond}
use Rattle.ov_model.specs.declared.query.Fixed.TheVariants as f
use Rattle.ov_model.specs.declared.query.Symbol.{Symbol}
use Rattle.ov_model.specs.declared.query.Symbol.TheVariants.{Fixed as fixed, Number}
use Rattle.ov_model.proofs.Eaten.{eaten-some, eaten-there}
use Rattle.ov_model.proofs.Readers.{bind_some, Took, Avoids, IsReader, list_reader, joined-tail}
use Rattle.ov_model.proofs.Queries.{source_reader}
use Rattle.ov_model.proofs.Tails.{skipped, guard_section, after_groups, tail-again, tail-takes}
use Rattle.ov_model.proofs.Whole.{query-again}
use Rattle.ov_model.proofs.JoinParts.{side_term_reader, side_items_reader, side_reader, equation_reader, join_guard_reader}

-- ---- ON

equations : IsReader (f.And ∷ []) (Joined f.And IsEquation) (list_at f.And equation_at)
equations = list_reader f.And [] IsEquation equation_at equation_reader (λ others. tt)

abbrev IsMatched : List Symbol → List (List ℕ × List ℕ) → Type 0
IsMatched symbols names = (matched : List Symbol) × (symbols ≡ fixed f.On ∷ matched) × Joined f.And IsEquation matched names

matched-takes : (symbols : List Symbol) (x : List (List ℕ × List ℕ) × List Symbol) → matched_at symbols ≡ Some x → Took IsMatched symbols x
unfolding matched_at
matched-takes symbols x e =
    let o = bind_some (eaten f.On symbols) _ x e in
    let took = equations.takes o.0 x o.2 in
    record { used = fixed f.On ∷ took.used; parts = eaten-some f.On symbols o.0 o.1 ∙ ap (λ (ss : List Symbol). fixed f.On ∷ ss) took.parts; spelled = (took.used, refl, took.spelled) }

matched-again : (matched rest : List Symbol) (names : List (List ℕ × List ℕ)) → Joined f.And IsEquation matched names → Avoids (f.And ∷ []) rest → matched_at (fixed f.On ∷ (matched ++ rest)) ≡ Some (names, rest)
unfolding matched_at
matched-again matched rest names h a = rw (eaten-there f.On (matched ++ rest), equations.again matched rest names h a) refl

-- ---- SELECT and FROM

sides-again : (left right rest : List Symbol) (l r : Side) → IsSide left l → IsSide right r → sides_at (left ++ fixed f.Join ∷ (right ++ rest)) ≡ Some ((l, r), rest)
unfolding sides_at
sides-again left right rest l r g h = rw (side_reader.again left (fixed f.Join ∷ (right ++ rest)) l g tt, eaten-there f.Join (right ++ rest), side_reader.again right rest r h tt) refl

from_follows : (rest : List Symbol) → Avoids (f.Comma ∷ []) (fixed f.From ∷ rest)
unfolding eaten same_word
from_follows rest = (refl, tt)

head-again : (shown left right rest : List Symbol) (i : Items) (l r : Side) → IsItems IsSideTerm shown i → IsSide left l → IsSide right r
    → join_head_at (fixed f.Select ∷ (shown ++ fixed f.From ∷ (left ++ fixed f.Join ∷ (right ++ rest)))) ≡ Some ((i, (l, r)), rest)
unfolding join_head_at
head-again shown left right rest i l r h j k =
    let sides : List Symbol = left ++ fixed f.Join ∷ (right ++ rest) in
    rw (eaten-there f.Select (shown ++ fixed f.From ∷ sides), side_items_reader.again shown (fixed f.From ∷ sides) i h (from_follows sides), eaten-there f.From sides, sides-again left right rest l r j k) refl

record TookHead (symbols : List Symbol) (x : (Items × (Side × Side)) × List Symbol) : Type 0 where
  shown : List Symbol
  left : List Symbol
  right : List Symbol
  parts : symbols ≡ fixed f.Select ∷ (shown ++ fixed f.From ∷ (left ++ fixed f.Join ∷ (right ++ x.1)))
  items_are : IsItems IsSideTerm shown x.0.0
  left_is : IsSide left x.0.1.0
  right_is : IsSide right x.0.1.1

record TookSides (symbols : List Symbol) (x : (Side × Side) × List Symbol) : Type 0 where
  left : List Symbol
  right : List Symbol
  parts : symbols ≡ left ++ fixed f.Join ∷ (right ++ x.1)
  left_is : IsSide left x.0.0
  right_is : IsSide right x.0.1

sides-take : (symbols : List Symbol) (x : (Side × Side) × List Symbol) → sides_at symbols ≡ Some x → TookSides symbols x
unfolding sides_at
sides-take symbols x e =
    let l = bind_some (side_at symbols) _ x e in
    let j = bind_some (eaten f.Join l.0.1) _ x l.2 in
    let r = bind_some (side_at j.0) _ x j.2 in
    let left = side_reader.takes symbols l.0 l.1 in
    let right = side_reader.takes j.0 r.0 r.1 in
    let same : ((l.0.0, r.0.0), r.0.1) ≡ x = cc (r.2) in
    subst (λ (y : (Side × Side) × List Symbol). TookSides symbols y) same (record {
      left = left.used;
      right = right.used;
      parts = left.parts ∙ ap (λ (ss : List Symbol). left.used ++ ss) (eaten-some f.Join l.0.1 j.0 j.1 ∙ ap (λ (ss : List Symbol). fixed f.Join ∷ ss) right.parts);
      left_is = left.spelled;
      right_is = right.spelled;
    })

head-takes : (symbols : List Symbol) (x : (Items × (Side × Side)) × List Symbol) → join_head_at symbols ≡ Some x → TookHead symbols x
unfolding join_head_at
head-takes symbols x e =
    let s = bind_some (eaten f.Select symbols) _ x e in
    let i = bind_some (items_at side_term_at s.0) _ x s.2 in
    let m = bind_some (eaten f.From i.0.1) _ x i.2 in
    let r = bind_some (sides_at m.0) _ x m.2 in
    let shown = side_items_reader.takes s.0 i.0 i.1 in
    let sides = sides-take m.0 r.0 r.1 in
    let same : ((i.0.0, r.0.0), r.0.1) ≡ x = cc (r.2) in
    subst (λ (y : (Items × (Side × Side)) × List Symbol). TookHead symbols y) same (record {
      shown = shown.used;
      left = sides.left;
      right = sides.right;
      parts = eaten-some f.Select symbols s.0 s.1 ∙ ap (λ (ss : List Symbol). fixed f.Select ∷ ss) (shown.parts ∙ ap (λ (ss : List Symbol). shown.used ++ ss) (eaten-some f.From i.0.1 m.0 m.1 ∙ ap (λ (ss : List Symbol). fixed f.From ∷ ss) sides.parts));
      items_are = shown.spelled;
      left_is = sides.left_is;
      right_is = sides.right_is;
    })

-- ---- what stands behind ON and WHERE

behind_where : (ordered limited ended : List Symbol) (ks : List Key) (n : Option ℕ) → IsOrder IsSideTerm ordered ks → IsLimit limited n → IsEnd ended → Avoids (f.Where ∷ f.Or ∷ f.And ∷ []) (ordered ++ (limited ++ ended))
unfolding same_word
behind_where ordered limited ended ks n o l h =
    (after_groups IsSideTerm f.Where ordered limited ended ks n o l h refl refl refl, (after_groups IsSideTerm f.Or ordered limited ended ks n o l h refl refl refl, (after_groups IsSideTerm f.And ordered limited ended ks n o l h refl refl refl, tt)))

behind_on : (kept rest : List Symbol) (c : Option Cond) → IsGuard f.Where IsJoinCond kept c → Avoids (f.Where ∷ f.Or ∷ f.And ∷ []) rest → Avoids (f.And ∷ []) (kept ++ rest)
unfolding same_word
behind_on kept rest c h a = (skipped f.And f.Where kept rest (guard_section f.Where IsJoinCond kept c h) refl a.1.1.0, tt)

-- ---- the whole

pub join-again : (symbols : List Symbol) (j : JoinQuery) → SpellsJoin symbols j → join_of symbols ≡ Some j
unfolding join_of
join-again symbols j h =
    let tail : List Symbol = h.ordered ++ (h.limited ++ h.ended) in
    let behind = behind_where h.ordered h.limited h.ended j.order j.limit h.order_is h.limit_is h.end_is in
    let head = head-again h.shown h.left h.right (fixed f.On ∷ (h.matched ++ (h.kept ++ tail))) j.items j.left j.right h.items_are h.left_is h.right_is in
    let on = matched-again h.matched (h.kept ++ tail) j.on h.on_is (behind_on h.kept tail j.filter h.filter_is behind) in
    let kept = join_guard_reader.again h.kept tail j.filter h.filter_is behind in
    rw (h.symbols_are, head, on, kept, tail-again IsSideTerm side_term_at side_term_reader h.ordered h.limited h.ended j.order j.limit h.order_is h.limit_is h.end_is) refl

pub join-takes : (symbols : List Symbol) (j : JoinQuery) → join_of symbols ≡ Some j → SpellsJoin symbols j
unfolding join_of
join-takes symbols j e =
    let h = bind_some (join_head_at symbols) _ j e in
    let o = bind_some (matched_at h.0.1) _ j h.2 in
    let k = bind_some (guard_at f.Where (cond_at side_test_at 100) o.0.1) _ j o.2 in
    let t = bind_some (tail_at side_term_at k.0.1) _ j k.2 in
    let head = head-takes symbols h.0 h.1 in
    let on = matched-takes h.0.1 o.0 o.1 in
    let kept = join_guard_reader.takes o.0.1 k.0 k.1 in
    let tail = tail-takes IsSideTerm side_term_at side_term_reader k.0.1 t.0 t.1 in
    let same : join_made_of h.0.0 o.0.0 k.0.0 t.0 ≡ j = cc (t.2) in
    let behind : h.0.1 ≡ fixed f.On ∷ (on.spelled.0 ++ (kept.used ++ (tail.ordered ++ (tail.limited ++ tail.ended)))) =
    on.parts ∙ (ap (λ (ss : List Symbol). ss ++ o.0.1) on.spelled.1 ∙ ap (λ (ss : List Symbol). fixed f.On ∷ (on.spelled.0 ++ ss)) (kept.parts ∙ ap (λ (ss : List Symbol). kept.used ++ ss) tail.parts)) in
    subst (λ (r : JoinQuery). SpellsJoin symbols r) same (record {
      shown = head.shown;
      left = head.left;
      right = head.right;
      matched = on.spelled.0;
      kept = kept.used;
      ordered = tail.ordered;
      limited = tail.limited;
      ended = tail.ended;
      symbols_are = head.parts ∙ ap (λ (ss : List Symbol). fixed f.Select ∷ (head.shown ++ fixed f.From ∷ (head.left ++ fixed f.Join ∷ (head.right ++ ss)))) behind;
      items_are = head.items_are;
      left_is = head.left_is;
      right_is = head.right_is;
      on_is = on.spelled.2;
      filter_is = kept.spelled;
      order_is = tail.order_is;
      limit_is = tail.limit_is;
      end_is = tail.end_is;
    })

-- ---- a join is no query

-- the columns of a join begin no term of a query
no_items : (used rest : List Symbol) (t : Term) → IsSideTerm used t → items_at term_at (used ++ rest) ≡ None
unfolding items_at list_at term_at col_at col_of eaten same_word
no_items used rest (term.Plain col.Vid) h = absurd h
no_items used rest (term.Plain (col.Name _)) h = absurd h
no_items used rest (term.Plain (col.Left name)) h = rw h refl
no_items used rest (term.Plain (col.Right name)) h = rw h refl
no_items used rest term.CountAll h = absurd h
no_items used rest (term.Count _) h = absurd h
no_items used rest (term.Sum _) h = absurd h
no_items used rest (term.Min _) h = absurd h
no_items used rest (term.Max _) h = absurd h

no_terms : (used rest : List Symbol) (ts : List Term) → Joined f.Comma IsSideTerm used ts → items_at term_at (used ++ rest) ≡ None
no_terms used rest [] j = absurd j
no_terms used rest (t ∷ ts) j =
    let h = joined-tail f.Comma IsSideTerm used t ts j in
    let whole : used ++ rest ≡ h.first ++ (h.others ++ rest) = ap (λ (ss : List Symbol). ss ++ rest) h.symbols_are ∙ append_assoc h.first h.others rest in
    ap (items_at term_at) whole ∙ no_items h.first (h.others ++ rest) t h.first_is

star_read : (rest : List Symbol) → items_at term_at (fixed f.Star ∷ rest) ≡ Some (items.Everything, rest)
unfolding items_at eaten same_word
star_read rest = refl

-- the left side is a source, and behind it nothing of a query stands
nothing_kept : (rest : List Symbol) → kept_at (fixed f.Join ∷ rest) ≡ Some ((None, ([], None)), fixed f.Join ∷ rest)
unfolding kept_at guard_at grouping_at eaten same_word
nothing_kept rest = refl

no_tail : (rest : List Symbol) → tail_at term_at (fixed f.Join ∷ rest) ≡ None
unfolding tail_at order_at limit_at is_end eaten same_word
no_tail rest = refl

side_source : (left : List Symbol) (side : Side) → IsSide left side → IsSource left (source.Listed (side.vid ∷ []) side.cvd)
side_source left side h = record { listed = Number (pos side.vid) false ∷ []; symbols_are = h; vids_are = refl }

no_query-by : (shown left rest : List Symbol) (i : Items) (side : Side) → IsItems IsSideTerm shown i → IsSide left side → query_of (fixed f.Select ∷ (shown ++ fixed f.From ∷ (left ++ fixed f.Join ∷ rest))) ≡ None
unfolding query_of head_at
no_query-by shown left rest items.Everything side h k =
    let more : List Symbol = fixed f.From ∷ (left ++ fixed f.Join ∷ rest) in
    rw (h, eaten-there f.Select (fixed f.Star ∷ more), star_read more, eaten-there f.From (left ++ fixed f.Join ∷ rest), source_reader.again left (fixed f.Join ∷ rest) (source.Listed (side.vid ∷ []) side.cvd) (side_source left side k) tt, nothing_kept rest, no_tail rest) refl
no_query-by shown left rest (items.Terms ts) side h k =
    let more : List Symbol = fixed f.From ∷ (left ++ fixed f.Join ∷ rest) in
    rw (eaten-there f.Select (shown ++ more), no_terms shown more ts h) refl

no_query_of : (symbols : List Symbol) (j : JoinQuery) → SpellsJoin symbols j → query_of symbols ≡ None
no_query_of symbols j h =
    ap query_of h.symbols_are ∙ no_query-by h.shown h.left (h.right ++ fixed f.On ∷ (h.matched ++ (h.kept ++ (h.ordered ++ (h.limited ++ h.ended))))) j.items j.left h.items_are h.left_is

pub not_both : (symbols : List Symbol) (q : Query) (j : JoinQuery) → SpellsQuery symbols q → SpellsJoin symbols j → ⊥
not_both symbols q j g h = let both : Some q ≡ None = sym (query-again symbols q g) ∙ no_query_of symbols j h in cc
