-- A join is refused for its columns and kinds alone: nothing in it has to be grouped, and it has no sum.
use Rattle.std.proofs.Common.{◌≡◌, ◌+◌, ◌∷◌, ◌∙◌, [], ℕ, Bool, true, false, List, Option, Some, None, ap, map, subst, sym}
use Rattle.std.specs.Prelude.{Result, Ok, Err, IfSome, if◌then◌else◌}
use Rattle.std.specs.List.{AllByRecursion}
use Rattle.ov_value.specs.Shapes.{Shape}
use Rattle.ov_value.specs.declared.column.Kind.{Kind}
use Rattle.ov_model.specs.Grammar.{IsGuard, IsItems, IsKey, IsOrder, Joined}
use Rattle.ov_model.specs.JoinGrammar.{IsJoinCond, IsSideCol, IsSideOperand, IsSideTerm, SpellsJoin}
use Rattle.ov_model.specs.Joins.{as_query, join_kinds, kinds_in, left_name, on_counts, right_name, side_by_side, wide_col, wide_cond, wide_guard, wide_items, wide_key, wide_operand, wide_term}
use Rattle.ov_model.specs.Kinds.{Place, and_then, col_kind, compared, count_all, counted, guard_counts, grouped_or, is_same_kind, items_kinds, kind_named, onto_kinds, operand_kind, or_unknown, plain_place, same_or, term_kind, terms_kinds, tested}
use Rattle.ov_model.specs.declared.query.Col.{Col}
use Rattle.ov_model.specs.declared.query.Col.TheVariants as col
use Rattle.ov_model.specs.declared.query.Cond.{Cond}
use Rattle.ov_model.specs.declared.query.Cond.TheVariants as cond
use Rattle.ov_model.specs.declared.query.Fixed.{Fixed}
use Rattle.ov_model.specs.declared.query.Items.{Items}
use Rattle.ov_model.specs.declared.query.Items.TheVariants as items
use Rattle.ov_model.specs.declared.query.JoinQuery.{JoinQuery}
use Rattle.ov_model.specs.declared.query.Key.{Key}
use Rattle.ov_model.specs.declared.query.Operand.{Operand}
use Rattle.ov_model.specs.declared.query.Operand.TheVariants as operand
use Rattle.ov_model.specs.declared.query.Sign.{Sign}
use Rattle.ov_model.specs.declared.query.Symbol.{Symbol}
use Rattle.ov_model.specs.declared.query.Term.{Term}
use Rattle.ov_model.specs.declared.query.Term.TheVariants as term
use Rattle.ov_model.specs.declared.refusal.Refusal.{Refusal}
use Rattle.ov_model.specs.declared.refusal.Refusal.TheVariants as no
use Rattle.ov_model.proofs.Truths.{counted-any, counted-compare, counted-every, counted-not, counted-null}
use Rattle.ov_model.proofs.Wide.{wide-any, wide-compare, wide-every, wide-not, wide-null}
use Rattle.ov_typing.specs.Refusing.{refusal_of}
use Rattle.ov_typing.specs.declared.type_err.TypeErr.{TypeErr}
use Rattle.ov_typing.specs.declared.type_err.TypeErr.TheVariants as why
use Rattle.ov_join.specs.Fitting.{IsOfJoins}
use Rattle.ov_join.proofs.Spelled.{Keeps, cond-all}

abbrev IsOfColumns : Refusal → Type 0
IsOfColumns (no.NotGrouped name) = ⊥
IsOfColumns (no.NeedsInt name) = ⊥
IsOfColumns _ = Unit {0}

abbrev pub Fine : {X : Type 0} → Result X Refusal → Type 0
Fine (Ok x) = Unit {0}
Fine (Err refusal) = IsOfColumns refusal

pub of-joins : {X : Type 0} (error : TypeErr) (r : Result X Refusal) → Fine r → IfSome (refusal_of error) (λ refusal. r ≡ Err refusal) → IsOfJoins error
of-joins (why.UnknownColumn name) r fine is = tt
of-joins (why.TypeMismatch nth left right) r fine is = tt
of-joins (why.NotGrouped name) r fine is = subst Fine is fine
of-joins (why.NeedsInt name) r fine is = subst Fine is fine
of-joins why.Memory r fine is = tt

then-fine : {A B : Type 0} (r : Result A Refusal) (f : A → Result B Refusal) → Fine r → ((x : A) → Fine (f x)) → Fine (and_then r f)
then-fine (Ok x) f a b = b x
then-fine (Err refusal) f a b = a

named-fine : (name : List ℕ) (found : Option Kind) → Fine (or_unknown name found)
named-fine name None = tt
named-fine name (Some k) = tt

col-fine : (s : Shape) (c : Col) → Fine (col_kind s c)
col-fine s col.Vid = tt
col-fine s (col.Name name) = named-fine name (kind_named s.columns name)
col-fine s (col.Left name) = tt
col-fine s (col.Right name) = tt

plain-fine : (s : Shape) (c : Col) → Fine (term_kind (plain_place s) (term.Plain c))
plain-fine s c = then-fine (col_kind s c) (grouped_or (plain_place s) c) (col-fine s c) (λ k. tt)

-- a term of a join is a column
term-fine : (s : Shape) (symbols : List Symbol) (t : Term) → IsSideTerm symbols t → Fine (term_kind (plain_place s) (wide_term t))
term-fine s symbols (term.Plain c) h = plain-fine s (wide_col c)
term-fine s symbols term.CountAll h = absurd h
term-fine s symbols (term.Count c) h = absurd h
term-fine s symbols (term.Sum c) h = absurd h
term-fine s symbols (term.Min c) h = absurd h
term-fine s symbols (term.Max c) h = absurd h

operand-fine : (s : Shape) (symbols : List Symbol) (x : Operand) → IsSideOperand symbols x → Fine (operand_kind (plain_place s) (wide_operand x))
operand-fine s symbols (operand.Term t) h = term-fine s symbols t h
operand-fine s symbols (operand.Literal v) h = tt

abbrev same_if : ℕ → Kind → Kind → Bool → Result ℕ Refusal
same_if nth left right same = if same then Ok (nth + 1) else Err (no.TypeMismatch nth left right)

same-fine : (nth : ℕ) (left right : Kind) (same : Bool) → Fine (same_if nth left right same)
same-fine nth left right true = tt
same-fine nth left right false = tt

compared-fine : (place : Place) (nth : ℕ) (x y : Operand) → Fine (operand_kind place x) → Fine (operand_kind place y) → Fine (compared place nth x y)
compared-fine place nth x y fx fy =
    then-fine (operand_kind place x) (λ l. and_then (operand_kind place y) (λ r. same_or nth l r)) fx
    (λ l. then-fine (operand_kind place y) (λ r. same_or nth l r) fy (λ r. same-fine nth l r (is_same_kind l r)))

tested-fine : (nth : ℕ) (r : Result Kind Refusal) → Fine r → Fine (tested nth r)
tested-fine nth (Ok k) fine = tt
tested-fine nth (Err refusal) fine = fine

-- ---- conditions

abbrev CountsFine : Shape → Cond → Type 0
CountsFine s c = (nth : ℕ) → Fine (counted (plain_place s) (wide_cond c) nth)

all-fine : (s : Shape) (cs : List Cond) → AllByRecursion (CountsFine s) cs → (nth : ℕ) → Fine (count_all (map (counted (plain_place s)) (map wide_cond cs)) nth)
all-fine s [] all nth = tt
all-fine s (c ∷ cs) all nth =
    then-fine (counted (plain_place s) (wide_cond c) nth) (count_all (map (counted (plain_place s)) (map wide_cond cs))) (all.0 nth) (all-fine s cs all.1)

conds-keep : (s : Shape) → Keeps (CountsFine s)
conds-keep s = record {
  compare = λ a b left by right l r nth.
      subst Fine (sym (ap (λ c. counted (plain_place s) c nth) (wide-compare left by right) ∙ (λ i. counted-compare (plain_place s) (wide_operand left) by (wide_operand right) i nth)))
      (compared-fine (plain_place s) nth (wide_operand left) (wide_operand right) (operand-fine s a left l) (operand-fine s b right r));
  null = λ a x negated h nth.
      subst Fine (sym (ap (λ c. counted (plain_place s) c nth) (wide-null x negated) ∙ (λ i. counted-null (plain_place s) (wide_operand x) negated i nth)))
      (tested-fine nth (operand_kind (plain_place s) (wide_operand x)) (operand-fine s a x h));
  not_ = λ c fine nth.
      subst Fine (sym (ap (λ d. counted (plain_place s) d nth) (wide-not c) ∙ (λ i. counted-not (plain_place s) (wide_cond c) i nth))) (fine nth);
  every = λ cs all nth.
      subst Fine (sym (ap (λ c. counted (plain_place s) c nth) (wide-every cs) ∙ (λ i. counted-every (plain_place s) (map wide_cond cs) i nth))) (all-fine s cs all nth);
  any = λ cs all nth.
      subst Fine (sym (ap (λ c. counted (plain_place s) c nth) (wide-any cs) ∙ (λ i. counted-any (plain_place s) (map wide_cond cs) i nth))) (all-fine s cs all nth);
}

guard-fine : (s : Shape) (word : Fixed) (symbols : List Symbol) (guard : Option Cond) → IsGuard word IsJoinCond symbols guard → (nth : ℕ)
    → Fine (guard_counts (plain_place s) (wide_guard guard) nth)
guard-fine s word symbols None h nth = tt
guard-fine s word symbols (Some c) h nth = cond-all (CountsFine s) (conds-keep s) h.0 c h.2 nth

-- ---- items, ON and keys

onto-fine : (k : Kind) (r : Result (List Kind) Refusal) → Fine r → Fine (onto_kinds k r)
onto-fine k (Ok ks) fine = tt
onto-fine k (Err refusal) fine = fine

terms-fine : (s : Shape) (ts : List Term) → AllByRecursion (λ t. Fine (term_kind (plain_place s) t)) ts → Fine (terms_kinds (plain_place s) ts)
terms-fine s [] all = tt
terms-fine s (t ∷ ts) all =
    then-fine (term_kind (plain_place s) t) (λ k. onto_kinds k (terms_kinds (plain_place s) ts)) all.0 (λ k. onto-fine k (terms_kinds (plain_place s) ts) (terms-fine s ts all.1))

listed-fine : (s : Shape) (between : Fixed) (symbols : List Symbol) (ts : List Term) → Joined between IsSideTerm symbols ts → AllByRecursion (λ t. Fine (term_kind (plain_place s) t)) (map wide_term ts)
listed-fine s between symbols [] h = tt
listed-fine s between symbols (t ∷ []) h = (term-fine s symbols t h, tt)
listed-fine s between symbols (t ∷ u ∷ ts) h = (term-fine s h.0 t h.3, listed-fine s between h.1 (u ∷ ts) h.4)

items-fine : (s : Shape) (symbols : List Symbol) (shown : Items) → IsItems IsSideTerm symbols shown → Fine (items_kinds (plain_place s) (wide_items shown))
items-fine s symbols items.Everything h = tt
items-fine s symbols (items.Terms ts) h = terms-fine s (map wide_term ts) (listed-fine s _ symbols ts h)

keys-fine : (s : Shape) (between : Fixed) (symbols : List Symbol) (ks : List Key) → Joined between (IsKey IsSideTerm) symbols ks
    → AllByRecursion (λ t. Fine (term_kind (plain_place s) t)) (map (λ key. key.term) (map wide_key ks))
keys-fine s between symbols [] h = tt
keys-fine s between symbols (k ∷ []) h = (term-fine s h.before k.term h.term_is, tt)
keys-fine s between symbols (k ∷ l ∷ ks) h = (term-fine s h.3.before k.term h.3.term_is, keys-fine s between h.1 (l ∷ ks) h.4)

order-fine : (s : Shape) (symbols : List Symbol) (ks : List Key) → IsOrder IsSideTerm symbols ks → Fine (terms_kinds (plain_place s) (map (λ key. key.term) (map wide_key ks)))
order-fine s symbols [] h = tt
order-fine s symbols (k ∷ ks) h = terms-fine s (map (λ key. key.term) (map wide_key (k ∷ ks))) (keys-fine s _ h.0 (k ∷ ks) h.2)

on-fine : (s : Shape) (nth : ℕ) (ons : List (List ℕ × List ℕ)) → Fine (on_counts (plain_place s) nth ons)
on-fine s nth [] = tt
on-fine s nth (on ∷ ons) =
    let left = operand.Term (term.Plain (col.Name (left_name on.0))) in
    let right = operand.Term (term.Plain (col.Name (right_name on.1))) in
    then-fine (compared (plain_place s) nth left right) (λ next. on_counts (plain_place s) next ons)
    (compared-fine (plain_place s) nth left right (plain-fine s (col.Name (left_name on.0))) (plain-fine s (col.Name (right_name on.1))))
    (λ next. on-fine s next ons)

pub join-fine : (symbols : List Symbol) (join : JoinQuery) (s : Shape) → SpellsJoin symbols join → Fine (kinds_in (plain_place s) join (as_query join))
join-fine symbols join s h =
    let place = plain_place s in
    then-fine (items_kinds place (wide_items join.items)) _ (items-fine s h.shown join.items h.items_are)
    (λ kinds. then-fine (on_counts place 1 join.on) _ (on-fine s 1 join.on)
    (λ nth. then-fine (guard_counts place (wide_guard join.filter) nth) _ (guard-fine s _ h.kept join.filter h.filter_is nth)
    (λ last. then-fine (terms_kinds place (map (λ key. key.term) (map wide_key join.order))) (λ order. Ok kinds) (order-fine s h.ordered join.order h.order_is) (λ order. tt))))
