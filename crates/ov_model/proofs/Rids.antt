-- Rids without a gap: no record stands twice among all records, so that each one's first place is its own.
use Rattle.std.proofs.Common.{◌≡◌, ◌≤◌, ℕ, zero, suc, ◌+◌, Bool, true, false, ◌==◌, List, [], ◌∷◌, ◌++◌, length, map, refl, sym, ◌∙◌, ap, inl, inr, arith}
use Rattle.std.specs.Prelude.{◌&&◌, ◌≢◌, if◌then◌else◌}
use Rattle.std.specs.declared.cmp.Ordering.{Ordering}
use Rattle.std.specs.declared.cmp.Ordering.TheVariants.{Less, Equal}
use Rattle.std.proofs.lemmas.Bool.{cond-true, cond-false, cases_Bool, ne_eqb, eqb-true}
use Rattle.std.proofs.lemmas.Slice.Eq.{slice_eq-Decides}
use Rattle.ov_value.specs.Order.{value_tie_decides, key_cmp-ties_decide}
use Rattle.ov_value.specs.Rows.{key_cmp, key_of}
use Rattle.ov_value.specs.Shapes.{Shape}
use Rattle.ov_model.specs.Book.{Row, Version}
use Rattle.ov_model.specs.Lists.{IsBelow, Rises}
use Rattle.ov_model.specs.Records.{Rec, is_same_row, is_same_rec, record_of, records_of, recs, fresh_in, order, order_of, rid_in, counted, AllRise}
use Rattle.ov_model.proofs.Growing.{same_rec-refl}

-- none of these records is this one
abbrev pub Apart : Rec → List Rec → Type 0
Apart x [] = Unit {0}
Apart x (r ∷ rs) = (is_same_rec r x ≡ false) × Apart x rs

-- no record stands twice
abbrev pub Once : List Rec → Type 0
Once [] = Unit {0}
Once (r ∷ rs) = Apart r rs × Once rs

abbrev AllOnce : List (List Rec) → Type 0
AllOnce [] = Unit {0}
AllOnce (rs ∷ rss) = Once rs × AllOnce rss

abbrev raised : List ℕ → List ℕ
raised ns = map (λ n. n + 1) ns

raised_counted : (n count : ℕ) → raised (counted n count) ≡ counted (n + 1) count
raised_counted n zero = refl
raised_counted n (suc count) = ap (λ ns. (n + 1) ∷ ns) (raised_counted (n + 1) count)

-- behind one more record each rid is one more
rids_behind : (x : Rec) (all rs : List Rec) → Apart x rs → map (rid_in (x ∷ all)) rs ≡ raised (map (rid_in all) rs)
rids_behind x all [] apart = refl
rids_behind x all (r ∷ rs) apart = λ i. cond-false (is_same_rec r x) 1 (rid_in all r + 1) apart.0 i ∷ rids_behind x all rs apart.1 i

rids_once : (rs : List Rec) → Once rs → map (rid_in rs) rs ≡ counted 1 (length rs)
rids_once [] once = refl
rids_once (x ∷ rs) once =
    λ i. cond-true (is_same_rec x x) 1 (rid_in rs x + 1) (same_rec-refl x) i
    ∷ (rids_behind x rs rs once.0 ∙ ap raised (rids_once rs once.1) ∙ raised_counted 1 (length rs)) i

and_false-left : (a b : Bool) → a ≡ false → (a && b) ≡ false
and_false-left true b e = cc
and_false-left false b e = refl

pub and_false-right : (a b : Bool) → b ≡ false → (a && b) ≡ false
and_false-right true b e = e
and_false-right false b e = refl

-- records of other origins
pub other_origin : (r x : Rec) → r.origin ≢ x.origin → is_same_rec r x ≡ false
other_origin r x other = and_false-left (r.origin == x.origin) (is_same_row r.row x.row) (ne_eqb r.origin x.origin other)

abbrev From : ℕ → List Rec → Type 0
From n [] = Unit {0}
From n (r ∷ rs) = (n ≤ r.origin) × From n rs

abbrev pub Of : ℕ → List Rec → Type 0
Of n [] = Unit {0}
Of n (r ∷ rs) = (r.origin ≡ n) × Of n rs

of_if : (t : Bool) (n : ℕ) (r : Rec) (rs : List Rec) → (t ≡ true → r.origin ≡ n) → Of n rs → Of n (if t then r ∷ rs else rs)
of_if true n r rs is of = (is refl, of)
of_if false n r rs is of = of

pub fresh_of : (rs : List Rec) (n : ℕ) → Of n (fresh_in rs n)
fresh_of [] n = tt
fresh_of (r ∷ rs) n = of_if (r.origin == n) n r (fresh_in rs n) (λ e. eqb-true r.origin n e) (fresh_of rs n)

of_from : (n : ℕ) (rs : List Rec) → Of n rs → From n rs
of_from n [] of = tt
of_from n (r ∷ rs) of = (omega (arith, of.0), of_from n rs of.1)

from_less : (n m : ℕ) (rs : List Rec) → n ≤ m → From m rs → From n rs
from_less n m [] le from = tt
from_less n m (r ∷ rs) le from = (omega (arith, le, from.0), from_less n m rs le from.1)

from_append : (n : ℕ) (a b : List Rec) → From n a → From n b → From n (a ++ b)
from_append n [] b from more = more
from_append n (r ∷ a) b from more = (from.0, from_append n a b from.1 more)

order_from : (rss : List (List Rec)) (n : ℕ) → From n (order rss n)
order_from [] n = tt
order_from (rs ∷ rss) n =
    from_append n (fresh_in rs n) (order rss (n + 1)) (of_from n (fresh_in rs n) (fresh_of rs n))
    (from_less n (n + 1) (order rss (n + 1)) (omega arith) (order_from rss (n + 1)))

apart_from : (x : Rec) (n : ℕ) (rs : List Rec) → x.origin ≡ n → From (n + 1) rs → Apart x rs
apart_from x n [] is from = tt
apart_from x n (r ∷ rs) is from = (other_origin r x (λ e. omega (arith, e, is, from.0)), apart_from x n rs is from.1)

apart_append : (x : Rec) (a b : List Rec) → Apart x a → Apart x b → Apart x (a ++ b)
apart_append x [] b apart more = more
apart_append x (r ∷ a) b apart more = (apart.0, apart_append x a b apart.1 more)

once_append : (n : ℕ) (a b : List Rec) → Once a → Of n a → Once b → From (n + 1) b → Once (a ++ b)
once_append n [] b once of more from = more
once_append n (x ∷ a) b once of more from =
    (apart_append x a b once.0 (apart_from x n b of.0 from), once_append n a b once.1 of.1 more from)

apart_if : (t : Bool) (x r : Rec) (rs : List Rec) → is_same_rec r x ≡ false → Apart x rs → Apart x (if t then r ∷ rs else rs)
apart_if true x r rs is apart = (is, apart)
apart_if false x r rs is apart = apart

apart_fresh : (x : Rec) (rs : List Rec) (n : ℕ) → Apart x rs → Apart x (fresh_in rs n)
apart_fresh x [] n apart = tt
apart_fresh x (r ∷ rs) n apart = apart_if (r.origin == n) x r (fresh_in rs n) apart.0 (apart_fresh x rs n apart.1)

once_if : (t : Bool) (r : Rec) (rs : List Rec) → Apart r rs → Once rs → Once (if t then r ∷ rs else rs)
once_if true r rs apart once = (apart, once)
once_if false r rs apart once = once

once_fresh : (rs : List Rec) (n : ℕ) → Once rs → Once (fresh_in rs n)
once_fresh [] n once = tt
once_fresh (r ∷ rs) n once = once_if (r.origin == n) r (fresh_in rs n) (apart_fresh r rs n once.0) (once_fresh rs n once.1)

order_once : (rss : List (List Rec)) (n : ℕ) → AllOnce rss → Once (order rss n)
order_once [] n once = tt
order_once (rs ∷ rss) n once =
    once_append n (fresh_in rs n) (order rss (n + 1)) (once_fresh rs n once.0) (fresh_of rs n) (order_once rss (n + 1) once.1)
    (order_from rss (n + 1))

-- a row below another is another
pub not_same : (schema : Shape) (a b : Row) → key_cmp schema a b ≡ Less → is_same_row b a ≡ false
not_same schema a b less =
    elim (cases_Bool (is_same_row b a)) [
      | inl same ↦
          let e : b ≡ a = (slice_eq-Decides value_tie_decides b a (is_same_row b a) refl).0 same
          in let tie : key_cmp schema a b ≡ Equal = (key_cmp-ties_decide schema a b).1 (ap (key_of schema) (sym e))
          in absurd (clash less tie)
      | inr other ↦ other
    ]
  where
    clash : {o : Ordering} → o ≡ Less → o ≡ Equal → ⊥
    clash e f = cc

rows_apart : (schema : Shape) (ps : List ℕ) (done : List (List Rec)) (a : Row) (rows : List Row) → IsBelow (key_cmp schema) a rows → Apart (record_of ps done a) (map (record_of ps done) rows)
rows_apart schema ps done a [] below = tt
rows_apart schema ps done a (b ∷ rows) below = (
  and_false-right ((record_of ps done b).origin == (record_of ps done a).origin) (is_same_row b a) (not_same schema a b below.0),
  rows_apart schema ps done a rows below.1,
)

pub rows_once : (schema : Shape) (ps : List ℕ) (done : List (List Rec)) (rows : List Row) → Rises (key_cmp schema) rows → Once (map (record_of ps done) rows)
rows_once schema ps done [] rises = tt
rows_once schema ps done (row ∷ rows) rises = (rows_apart schema ps done row rows rises.0, rows_once schema ps done rows rises.1)

all_once_append : (rss : List (List Rec)) (rs : List Rec) → AllOnce rss → Once rs → AllOnce (rss ++ rs ∷ [])
all_once_append [] rs all once = (once, tt)
all_once_append (l ∷ ls) rs all once = (all.0, all_once_append ls rs all.1 once)

recs_once : (schema : Shape) (vs : List Version) (done : List (List Rec)) → AllRise schema vs → AllOnce done → AllOnce (recs vs done)
recs_once schema [] done rise all = all
recs_once schema (v ∷ vs) done rise all =
    recs_once schema vs (done ++ records_of v done ∷ []) rise.1 (all_once_append done (records_of v done) all (rows_once schema v.parents done v.rows rise.0))

pub order_of_once : (schema : Shape) (vs : List Version) → AllRise schema vs → Once (order_of vs)
order_of_once schema vs rise = order_once (recs vs []) 1 (recs_once schema vs [] rise tt)

pub no_gap : (schema : Shape) (vs : List Version) → AllRise schema vs → map (rid_in (order_of vs)) (order_of vs) ≡ counted 1 (length (order_of vs))
no_gap schema vs rise = rids_once (order_of vs) (order_of_once schema vs rise)
