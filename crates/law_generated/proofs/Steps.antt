-- A World in which a dataset begins to be generated, and in which it gets one version more.
use Rattle.std.proofs.Common.{◌≡◌, ◌≤◌, ◌<◌, ℕ, zero, suc, ◌+◌, ◌-◌, ◌*◌, ◌/◌, Bool, true, false, ◌==◌, List, [], ◌∷◌, ◌++◌, length, map, get_or, codes, refl, sym, ◌∙◌, ap, subst, inl, inr, arith}
use Rattle.std.specs.Prelude.{if◌then◌else◌, filter, None}
use Rattle.std.proofs.lemmas.Bool.{cases_Bool, eq-eqb}
use Rattle.std.proofs.lemmas.List.{length-append, map-append}
use Rattle.ov_gen.specs.Versions.{Begin, IsGrown}
use Rattle.ov_gen.proofs.Growing.{begin-few, begin-fresh, begin-push, begin-raise, begin-with, row-fresh}
use Rattle.ov_model.specs.Book.{Row, Version}
use Rattle.ov_model.specs.Generator.{Drawn, change_one, changes, child_of, draw, fresh_row, fresh_rows, generated_schema, parent_by}
use Rattle.ov_model.specs.Moves.{Init, committed, moved, new_set, version_of}
use Rattle.ov_model.specs.Records.{Rec, fresh_in, order_of, record_of, records_of, recs, rows_at}
use Rattle.ov_model.specs.World.{Dataset, World, set_named}
use Rattle.ov_model.proofs.Growing.{length_recs, order_of_more}
use Rattle.law_generated.specs.Grown.{AllGrown, Grown, HasGrown, begun, fresh_most, grown_more, move_next, parent_next, rows_next, rows_of_parent}
use Rattle.law_generated.proofs.Finding.{changed_named, first_last, named_refl}
use Rattle.law_generated.proofs.Fresh.{child_strangers, fresh_strangers, strangers}

-- ---- the parent that is drawn

pub parent_by_least : (before : ℕ) (c : Drawn ℕ) → 1 ≤ before → 1 ≤ (parent_by before c).is
parent_by_least before c some =
    elim (cases_Bool (c.is == 0)) [
      | inl old ↦ let is : (parent_by before c).is ≡ 1 + (draw before c.state).is = rw old refl in omega (arith, is)
      | inr last ↦ let is : (parent_by before c).is ≡ before = rw last refl in omega (arith, is)
    ]

below_draw : (n x : ℕ) → 1 ≤ n → (draw n x).is < n
below_draw n x some = grind arith

pub parent_by_most : (before : ℕ) (c : Drawn ℕ) → 1 ≤ before → (parent_by before c).is ≤ before
parent_by_most before c some =
    elim (cases_Bool (c.is == 0)) [
      | inl old ↦ let is : (parent_by before c).is ≡ 1 + (draw before c.state).is = rw old refl in omega (arith, is, below_draw before c.state some)
      | inr last ↦ let is : (parent_by before c).is ≡ before = rw last refl in omega (arith, is)
    ]

pub parent_least : (g : Grown) → 0 < length g.done → 1 ≤ (parent_next g).is
parent_least g some = parent_by_least (length g.done) (draw 4 g.state) (omega (arith, some))

pub parent_most : (g : Grown) → 0 < length g.done → (parent_next g).is ≤ length g.done
parent_most g some = parent_by_most (length g.done) (draw 4 g.state) (omega (arith, some))

-- ---- rows

pub all_raise : (count vid later : ℕ) (done : List (List Row)) → vid ≤ later → AllGrown count vid done → AllGrown count later done
all_raise count vid later [] le are = tt
all_raise count vid later (rows ∷ done) le are =
    (begin-raise count 1 (count + vid) (count + later) rows (omega (arith, le)) are.0, all_raise count vid later done le are.1)

pub all_at : (count vid : ℕ) (done : List (List Row)) (k : ℕ) → k < length done → AllGrown count vid done → IsGrown count vid (get_or done k [])
all_at count vid [] k below are = let no : ⊥ = omega (arith, below) in elim no [ ]
all_at count vid (rows ∷ done) zero below are = are.0
all_at count vid (rows ∷ done) (suc k) below are = all_at count vid done k (omega (arith, below)) are.1

all_push : (count vid : ℕ) (done : List (List Row)) (rows : List Row) → AllGrown count vid done → IsGrown count vid rows → AllGrown count vid (done ++ rows ∷ [])
all_push count vid [] rows are is = (is, tt)
all_push count vid (first ∷ done) rows are is = (are.0, all_push count vid done rows are.1 is)

small : (x : ℕ) → (draw 1000 x).is < 1000
small x = grind arith

changes_grown : (left count end : ℕ) (drawn : Drawn (List Row)) → Begin count 1 end drawn.is → Begin count 1 end (changes left count drawn).is
changes_grown zero count end drawn are = are
changes_grown (suc left) count end drawn are =
    changes_grown left count end (change_one count drawn.state drawn.is)
    (begin-with count 1 end (1 + (draw count drawn.state).is) (draw 1000 (draw count drawn.state).state).is drawn.is (small (draw count drawn.state).state) are)

child_grown : (count vid x : ℕ) (parent : List Row) → 1 ≤ vid → IsGrown count vid parent → IsGrown count (vid + 1) (child_of count vid x parent).is
child_grown count vid x parent some are =
    let changed : Drawn (List Row) = changes (1 + count / 100) count (record { state = x; is = parent })
    in let next : count + vid + 1 ≡ count + (vid + 1) = omega arith
    in subst (λ n. Begin count 1 n (child_of count vid x parent).is) next
    (begin-push count 1 (count + vid) changed.is (fresh_row (count + vid) changed.state).is (omega (arith, some))
    (changes_grown (1 + count / 100) count (count + vid) (record { state = x; is = parent }) are) (row-fresh (count + vid) changed.state))

pub parent_grown : (count : ℕ) (g : Grown) → 0 < length g.done → AllGrown count (length g.done + 1) g.done → IsGrown count (length g.done + 1) (rows_of_parent g)
parent_grown count g some are =
    all_at count (length g.done + 1) g.done ((parent_next g).is - 1) (omega (arith, parent_least g some, parent_most g some)) are

-- ---- records

fewer : (q : Rec → Bool) (rs : List Rec) → length (filter q rs) ≤ length rs
fewer q [] = omega arith
fewer q (r ∷ rs) = by (q r) (fewer q rs)
  where
    by : (b : Bool) → length (filter q rs) ≤ length rs → length (if b then r ∷ filter q rs else filter q rs) ≤ length (r ∷ rs)
    by true le = omega (arith, le)
    by false le = omega (arith, le)

map_long : (f : Row → Rec) (rows : List Row) → length (map f rows) ≡ length rows
map_long f [] = refl
map_long f (row ∷ rows) = ap suc (map_long f rows)

records_grow : (vs : List Version) (v : Version) → length (order_of (vs ++ v ∷ [])) ≡ length (order_of vs) + length (fresh_in (records_of v (recs vs [])) (length vs + 1))
records_grow vs v =
    let at : 1 + length (recs vs []) ≡ length vs + 1 = omega (arith, length_recs vs [])
    in ap length (order_of_more vs v)
    ∙ length-append (order_of vs) (fresh_in (records_of v (recs vs [])) (1 + length (recs vs [])))
    ∙ ap (λ (n : ℕ). length (order_of vs) + length (fresh_in (records_of v (recs vs [])) n)) at

-- ---- the first version

pub has_begun : (w : World) (name : List ℕ) (count seed : ℕ) → set_named w name ≡ None
    → HasGrown (moved (Init name generated_schema (fresh_rows count 1 seed).is) w) name w.next count (begun seed count)
has_begun w name count seed none =
    let rows : List Row = (fresh_rows count 1 seed).is
    in let set : Dataset = new_set w.next name generated_schema rows
    in let v : Version = version_of [] (codes "init") rows
    in let long : 1 + length rows ≤ 1 + count = begin-few count 1 (1 + count) rows (omega arith) (begin-fresh count 1 (1 + count) seed)
    in record {
      set = set;
      named = first_last _ w.sets set none (named_refl name);
      number_is = refl;
      schema_is = refl;
      rows_are = refl;
      some = omega arith;
      grown = (begin-fresh count 1 (count + 2) seed, tt);
      few = omega (arith, records_grow [] v, fewer (λ r. r.origin == 1) (map (record_of [] []) rows), map_long (record_of [] []) rows, long);
    }

-- ---- one version more

module _ (w : World) (name : List ℕ) (number count : ℕ) (g : Grown) (h : HasGrown w name number count g) where
  abbrev rows : List Row
  rows = (rows_next count g).is

  abbrev v : Version
  v = version_of ((parent_next g).is ∷ []) (codes "gen") rows

  pub parent_rows : rows_at h.set.cvd.versions (parent_next g).is ≡ rows_of_parent g
  parent_rows = ap (λ done. get_or done ((parent_next g).is - 1) []) h.rows_are

  parent_is_grown : IsGrown count (length g.done + 1) (rows_of_parent g)
  parent_is_grown = parent_grown count g h.some h.grown

  pub next_grown : IsGrown count (length g.done + 1 + 1) rows
  next_grown = child_grown count (length g.done + 1) (parent_next g).state (rows_of_parent g) (omega arith) parent_is_grown

  pub next_fresh : length (fresh_in (records_of v (recs h.set.cvd.versions [])) (length h.set.cvd.versions + 1)) ≤ fresh_most count
  next_fresh =
      let few : length (fresh_in (records_of v (recs h.set.cvd.versions [])) (length h.set.cvd.versions + 1)) ≤ strangers (rows_of_parent g) rows
      = subst (λ all. length (fresh_in (records_of v (recs h.set.cvd.versions [])) (length h.set.cvd.versions + 1)) ≤ strangers all rows) parent_rows
      (fresh_strangers h.set.cvd.versions (codes "gen") (parent_next g).is rows)
      in omega (arith, few, child_strangers count (length g.done + 1) (parent_next g).state (rows_of_parent g) parent_is_grown)

  pub has_more : HasGrown (moved (move_next number count g) w) name number count (grown_more count g)
  has_more =
      let set : Dataset = committed ((parent_next g).is ∷ []) (codes "gen") [] rows h.set
      in let one : length (g.done ++ rows ∷ []) ≡ length g.done + 1 = length-append g.done (rows ∷ [])
      in let few : length (order_of (h.set.cvd.versions ++ v ∷ [])) + fresh_most count ≤ count + (length g.done + 1) * fresh_most count
      = omega (arith, records_grow h.set.cvd.versions v, next_fresh, h.few)
      in record {
        set = set;
        named = changed_named number (committed ((parent_next g).is ∷ []) (codes "gen") [] rows) name (λ x. refl) w.sets h.set h.named
            (eq-eqb h.set.cvd.number number h.number_is);
        number_is = h.number_is;
        schema_is = h.schema_is;
        rows_are = map-append (λ (u : Version). u.rows) h.set.cvd.versions (v ∷ []) ∙ ap (λ done. done ++ rows ∷ []) h.rows_are;
        some = omega (arith, one);
        grown = subst (λ n. AllGrown count (n + 1) (g.done ++ rows ∷ [])) (sym one)
            (all_push count (length g.done + 1 + 1) g.done rows (all_raise count (length g.done + 1) (length g.done + 1 + 1) g.done (omega arith) h.grown) next_grown);
        few = subst (λ n. length (order_of (h.set.cvd.versions ++ v ∷ [])) + fresh_most count ≤ count + n * fresh_most count) (sym one) few;
      }
