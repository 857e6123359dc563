-- Lists in place of lineages say the same, condition by condition and for a whole query.
use Rattle.std.proofs.Common.{◌≡◌, ◌<◌, ◌+◌, ◌++◌, ◌∷◌, ◌∙◌, [], ℕ, Bool, List, Option, Some, None, Result, Ok, Err, ap, ap₂, refl, subst, sym, add-one, length, map, filter, if◌then◌else◌, take, take-suc, drop, get_or}
use Rattle.std.specs.Option.{option_or}
use Rattle.std.specs.Ordering.{ordering_then}
use Rattle.std.specs.Prelude.{◌||◌, ◌==◌, nat_lt, IfSome}
use Rattle.std.proofs.lemmas.List.{map-append, take-append-drop, append-nil}
use Rattle.ov_value.specs.Shapes.{Shape}
use Rattle.ov_model.specs.Answers.{Here, Pair, Related, here_for, holds, kept_pairs, term_of_group, is_true, order_by, key_order, grouped_pairs, limited, shown, sorted_by, truth, truth_not, truth_every, truth_any}
use Rattle.ov_model.specs.Act.{if_so}
use Rattle.ov_lineage.proofs.Listing.{listed-same}
use Rattle.ov_model.specs.Asking.{cond_lineages, guard_lineages, listed_refusal, missing_version, source_lineages}
use Rattle.ov_model.specs.Kinds.{Place, and_then, cols_kinds, count_all, counted, guard_counts, is_grouped, items_kinds, place_of, plain_place, terms_kinds}
use Rattle.ov_model.specs.Lists.{joined}
use Rattle.ov_model.specs.declared.answer.Cell.{Cell}
use Rattle.ov_model.specs.declared.query.Cond.{Cond}
use Rattle.ov_model.specs.declared.query.Cond.TheVariants.{Compare, IsNull, InLineage, InList, Not, Every, Any}
use Rattle.ov_model.specs.declared.query.Key.{Key}
use Rattle.ov_model.specs.declared.query.LineageKind.{LineageKind}
use Rattle.ov_model.specs.declared.query.Operand.{Operand}
use Rattle.ov_model.specs.declared.query.Query.{Query}
use Rattle.ov_model.specs.declared.query.Sign.{Sign}
use Rattle.ov_model.specs.declared.query.Src.{Src}
use Rattle.ov_model.specs.declared.query.Src.TheVariants as source
use Rattle.ov_model.specs.declared.query.Term.{Term}
use Rattle.ov_model.specs.declared.refusal.Refusal.{Refusal}
use Rattle.ov_model.specs.declared.refusal.Refusal.TheVariants as no
use Rattle.ov_model.proofs.Asked.{lineages-compare, lineages-null, lineages-list, lineages-not, lineages-every, lineages-any}
use Rattle.ov_model.proofs.Truths.{truth-compare, truth-null, truth-lineage, truth-list, truth-not, truth-every, truth-any, counted-lineage, counted-list, counted-not, counted-every, counted-any}
use Rattle.ov_lineage.specs.Related.{relatives_by}
use Rattle.std.specs.Result.{IsErrAnd}
use Rattle.ov_lineage.specs.declared.resolve_err.ResolveErr.{ResolveErr}
use Rattle.ov_lineage.specs.Resolved.{AllSayAs, GuardSaysAs, IsResolved, Refuses, SaysAs, refusal_of, source_by}

-- ---- the lineages of conditions one after another

append-three : (xs ys zs : List ℕ) → (xs ++ ys) ++ zs ≡ xs ++ (ys ++ zs)
append-three [] ys zs = refl
append-three (x ∷ xs) ys zs = ap (λ (l : List ℕ). x ∷ l) (append-three xs ys zs)

joined-append : (xs ys : List Cond) → joined (map cond_lineages (xs ++ ys)) ≡ joined (map cond_lineages xs) ++ joined (map cond_lineages ys)
joined-append [] ys = refl
joined-append (x ∷ xs) ys =
    ap (λ (rest : List ℕ). cond_lineages x ++ rest) (joined-append xs ys) ∙ sym (append-three (cond_lineages x) (joined (map cond_lineages xs)) (joined (map cond_lineages ys)))

joined-more : (cs : List Cond) (c : Cond) → joined (map cond_lineages (cs ++ c ∷ [])) ≡ joined (map cond_lineages cs) ++ cond_lineages c
joined-more cs c = joined-append cs (c ∷ []) ∙ ap (λ (rest : List ℕ). joined (map cond_lineages cs) ++ rest) (append-nil (cond_lineages c))

pub take-more : (cs : List Cond) (i : ℕ) (c : Cond) → i < length cs → c ≡ get_or cs i c → take (i + 1) cs ≡ take i cs ++ c ∷ []
take-more cs i c lt is = rw (add-one i) (take-suc cs i c lt ∙ ap (λ z. take i cs ++ z ∷ []) (sym is))

-- ---- versions that are not there

or-three : (x y z : Option Refusal) → option_or x (option_or y z) ≡ option_or (option_or x y) z
or-three None y z = refl
or-three (Some x) y z = refl

module _ (count : ℕ) where
  pub missing-append : (xs ys : List ℕ) → missing_version count (xs ++ ys) ≡ option_or (missing_version count xs) (missing_version count ys)
  missing-append [] ys = refl
  missing-append (vid ∷ xs) ys =
      let head : Option Refusal = if_so (vid == 0 || nat_lt count vid) (no.NoVersion vid) in
      ap (option_or head) (missing-append xs ys) ∙ or-three head (missing_version count xs) (missing_version count ys)

  -- the first one is of the front, or behind a front that is all there
  pub missing-front : (xs ys : List ℕ) (first : Refusal) → missing_version count xs ≡ Some first → missing_version count (xs ++ ys) ≡ Some first
  missing-front xs ys first e = missing-append xs ys ∙ ap (λ o. option_or o (missing_version count ys)) e

  pub missing-behind : (xs ys : List ℕ) → missing_version count xs ≡ None → missing_version count (xs ++ ys) ≡ missing_version count ys
  missing-behind xs ys e = missing-append xs ys ∙ ap (λ o. option_or o (missing_version count ys)) e

  pub none-more : (cs : List Cond) (i : ℕ) (c : Cond) → i < length cs → c ≡ get_or cs i c → missing_version count (joined (map cond_lineages (take i cs))) ≡ None
      → missing_version count (cond_lineages c) ≡ None → missing_version count (joined (map cond_lineages (take (i + 1) cs))) ≡ None
  none-more cs i c lt is before here =
      ap (λ (all : List Cond). missing_version count (joined (map cond_lineages all))) (take-more cs i c lt is)
      ∙ ap (missing_version count) (joined-more (take i cs) c) ∙ missing-behind (joined (map cond_lineages (take i cs))) (cond_lineages c) before ∙ here

  pub first-here : (cs : List Cond) (i : ℕ) (c : Cond) (first : Refusal) → i < length cs → c ≡ get_or cs i c → missing_version count (joined (map cond_lineages (take i cs))) ≡ None
      → missing_version count (cond_lineages c) ≡ Some first → missing_version count (joined (map cond_lineages cs)) ≡ Some first
  first-here cs i c first lt is before here =
      ap (λ (all : List Cond). missing_version count (joined (map cond_lineages all))) (sym (take-append-drop (i + 1) cs))
      ∙ ap (missing_version count) (joined-append (take (i + 1) cs) (drop (i + 1) cs))
      ∙ missing-front (joined (map cond_lineages (take (i + 1) cs))) (joined (map cond_lineages (drop (i + 1) cs))) first
      (ap (λ (all : List Cond). missing_version count (joined (map cond_lineages all))) (take-more cs i c lt is)
      ∙ ap (missing_version count) (joined-more (take i cs) c) ∙ missing-behind (joined (map cond_lineages (take i cs))) (cond_lineages c) before ∙ here)

pub IfSome-weaker : {X : Type 0} (o : Option X) (P Q : X → Type 0) → ((x : X) → P x → Q x) → IfSome o P → IfSome o Q
IfSome-weaker None P Q weaker p = tt
IfSome-weaker (Some x) P Q weaker p = weaker x p

-- an error that is handed on
pub refuses-by : {X : Type 0} (r : Result X ResolveErr) (e : ResolveErr) (refusal : Option Refusal) → IsErrAnd r (λ given. given ≡ e) → IfSome (refusal_of e) (λ first. refusal ≡ Some first) → Refuses r refusal
refuses-by (Ok x) e refusal is refused = absurd is
refuses-by (Err given) e refusal is refused = subst (λ why. IfSome (refusal_of why) (λ first. refusal ≡ Some first)) (sym is) refused

abbrev at : (Term → Cell) → Related → Here
at term related = record { term = term; related = related }

module _ (related : Related) where
  -- ---- one condition

  pub says-compare : (left : Operand) (by : Sign) (right : Operand) → SaysAs related (Compare left by right) (Compare left by right)
  says-compare left by right = record {
    free = lineages-compare left by right;
    truths = λ term other. truth-compare (at term other) left by right ∙ sym (truth-compare (at term related) left by right);
    counts = λ place. refl;
  }

  pub says-null : (x : Operand) (negated : Bool) → SaysAs related (IsNull x negated) (IsNull x negated)
  says-null x negated = record {
    free = lineages-null x negated;
    truths = λ term other. truth-null (at term other) x negated ∙ sym (truth-null (at term related) x negated);
    counts = λ place. refl;
  }

  pub says-list : (vids : List ℕ) (negated : Bool) → SaysAs related (InList vids negated) (InList vids negated)
  says-list vids negated = record {
    free = lineages-list vids negated;
    truths = λ term other. truth-list (at term other) vids negated ∙ sym (truth-list (at term related) vids negated);
    counts = λ place. refl;
  }

  pub says-lineage : (kind : LineageKind) (vid : ℕ) (negated : Bool) → SaysAs related (InLineage kind vid negated) (InList (related kind vid) negated)
  says-lineage kind vid negated = record {
    free = lineages-list (related kind vid) negated;
    truths = λ term other. truth-list (at term other) (related kind vid) negated ∙ sym (truth-lineage (at term related) kind vid negated);
    counts = λ place. counted-list place (related kind vid) negated ∙ sym (counted-lineage place kind vid negated);
  }

  pub says-not : (c d : Cond) → SaysAs related c d → SaysAs related (Not c) (Not d)
  says-not c d same = record {
    free = lineages-not d ∙ same.free;
    truths = λ term other. truth-not (at term other) d ∙ ap truth_not (same.truths term other) ∙ sym (truth-not (at term related) c);
    counts = λ place. counted-not place d ∙ same.counts place ∙ sym (counted-not place c);
  }

  pub says-every : (cs ds : List Cond) → AllSayAs related cs ds → SaysAs related (Every cs) (Every ds)
  says-every cs ds same = record {
    free = lineages-every ds ∙ same.free;
    truths = λ term other. truth-every (at term other) ds ∙ ap truth_every (same.truths term other) ∙ sym (truth-every (at term related) cs);
    counts = λ place. counted-every place ds ∙ ap count_all (same.counts place) ∙ sym (counted-every place cs);
  }

  pub says-any : (cs ds : List Cond) → AllSayAs related cs ds → SaysAs related (Any cs) (Any ds)
  says-any cs ds same = record {
    free = lineages-any ds ∙ same.free;
    truths = λ term other. truth-any (at term other) ds ∙ ap truth_any (same.truths term other) ∙ sym (truth-any (at term related) cs);
    counts = λ place. counted-any place ds ∙ ap count_all (same.counts place) ∙ sym (counted-any place cs);
  }

  -- ---- one after another

  map-more : {Z : Type 0} (f g : Cond → Z) (cs ds : List Cond) (c d : Cond) → map f ds ≡ map g cs → f d ≡ g c → map f (ds ++ d ∷ []) ≡ map g (cs ++ c ∷ [])
  map-more f g cs ds c d before same = map-append f ds (d ∷ []) ∙ ap₂ (λ l z. l ++ z ∷ []) before same ∙ sym (map-append g cs (c ∷ []))

  pub all-say-more : (cs : List Cond) (i : ℕ) (ds : List Cond) (c d : Cond) → i < length cs → c ≡ get_or cs i c → AllSayAs related (take i cs) ds → SaysAs related c d
      → AllSayAs related (take (i + 1) cs) (ds ++ d ∷ [])
  all-say-more cs i ds c d lt is before same =
      subst (λ (all : List Cond). AllSayAs related all (ds ++ d ∷ [])) (sym (take-more cs i c lt is)) (record {
        free = joined-push ds d before.free same.free;
        truths = λ term other. map-more (truth (at term other)) (truth (at term related)) (take i cs) ds c d (before.truths term other) (same.truths term other);
        counts = λ place. map-more (counted place) (counted place) (take i cs) ds c d (before.counts place) (same.counts place);
      })
    where
      joined-push : (ds : List Cond) (d : Cond) → joined (map cond_lineages ds) ≡ [] → cond_lineages d ≡ [] → joined (map cond_lineages (ds ++ d ∷ [])) ≡ []
      joined-push ds d a b = joined-more ds d ∙ ap₂ (λ (xs ys : List ℕ). xs ++ ys) a b

-- ---- WHERE and HAVING

module _ (related : Related) where
  guard-free : (old new : Option Cond) → GuardSaysAs related old new → guard_lineages new ≡ []
  guard-free None new same = ap guard_lineages same
  guard-free (Some old) None same = absurd same
  guard-free (Some old) (Some new) same = same.free

  guard-same : (place : Place) (old new : Option Cond) → GuardSaysAs related old new → guard_counts place new ≡ guard_counts place old
  guard-same place None new same = ap (guard_counts place) same
  guard-same place (Some old) None same = absurd same
  guard-same place (Some old) (Some new) same = same.counts place

  guard-holds : (term : Term → Cell) (other : Related) (old new : Option Cond) → GuardSaysAs related old new → holds (at term other) new ≡ holds (at term related) old
  guard-holds term other None new same = ap (holds (at term other)) same
  guard-holds term other (Some old) None same = absurd same
  guard-holds term other (Some old) (Some new) same = ap is_true (same.truths term other)

  source-free : (src : Src) → source_lineages (source_by related src) ≡ []
  source-free (source.Listed vids name) = refl
  source-free (source.Whole name) = refl
  source-free (source.Lineage kind vid name) = refl

  -- an order looks at terms alone
  order-same : (keys : List Key) (schema : Shape) (other : Related) (a b : List Pair)
      → order_by keys (here_for schema other a) (here_for schema other b) ≡ order_by keys (here_for schema related a) (here_for schema related b)
  order-same [] schema other a b = refl
  order-same (key ∷ keys) schema other a b =
      ap (ordering_then (key_order key ((here_for schema related a).term key.term) ((here_for schema related b).term key.term))) (order-same keys schema other a b)

-- ---- a query

-- with another source and other conditions
abbrev pub with_parts : Query → Src → Option Cond → Option Cond → Query
with_parts query src filter having =
    record { items = query.items; source = src; filter = filter; groups = query.groups; having = having; order = query.order; limit = query.limit }

pub resolved-is : (parents : List (List ℕ)) (query : Query) (src : Src) (where_ having : Option Cond) → src ≡ source_by (relatives_by parents) query.source
    → GuardSaysAs (relatives_by parents) query.filter where_ → GuardSaysAs (relatives_by parents) query.having having
    → IsResolved parents query (with_parts query src where_ having)
resolved-is parents query src where_ having is f h =
    let related : Related = relatives_by parents in
    record {
      source = is;
      free = λ i. (ap source_lineages is ∙ source-free related query.source) i ++ (guard-free related query.filter where_ f i ++ guard-free related query.having having h i);
      same_listed = ap (listed_refusal (length parents)) is ∙ listed-same parents query.source;
      same_kinds = λ schema i.
          and_then (items_kinds (place_of query schema) query.items) (λ of.
          and_then (guard-same related (plain_place schema) query.filter where_ f i 1) (λ nth.
          and_then (cols_kinds schema query.groups) (λ groups.
          and_then (guard-same related (place_of query schema) query.having having h i nth) (λ last.
          and_then (terms_kinds (place_of query schema) (map (λ key. key.term) query.order)) (λ order. Ok of)))));
      same_rows = λ schema other all.
          let kept : kept_pairs (with_parts query src where_ having) schema other all ≡ kept_pairs query schema related all =
          λ i. filter (λ pair. guard-holds related (term_of_group schema (pair ∷ [])) other query.filter where_ f i) all in
          λ i. map (shown schema query.items)
          (limited query.limit
          (sorted_by (λ a b. order-same related query.order schema other a b i)
          (if is_grouped query
          then filter (λ group. guard-holds related (term_of_group schema group) other query.having having h i) (grouped_pairs schema query.groups (kept i))
          else map (λ pair. pair ∷ []) (kept i))));
    }
