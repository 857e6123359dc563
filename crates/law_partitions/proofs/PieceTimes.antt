-- How often records stand in lists.
use Rattle.std.proofs.Common.{◌≡◌, ◌≤◌, ◌<◌, ℕ, ◌+◌, Bool, true, false, ◌==◌, List, [], ◌∷◌, ◌++◌, map, filter, take, drop, refl, sym, ◌∙◌, ap, subst, inl, inr, arith}
use Rattle.std.specs.Prelude.{◌≢◌, ◌&&◌, ◌||◌, if◌then◌else◌, not}
use Rattle.std.proofs.lemmas.Bool.{cases_Bool, eqb-true}
use Rattle.std.proofs.lemmas.List.{take-append-drop}
use Rattle.ov_model.specs.Book.{Row, Version}
use Rattle.ov_model.specs.Lists.{IsIn}
use Rattle.ov_model.specs.Records.{Rec, is_same_row, is_same_rec, is_among, lacking, record_of, records_of, recs, fresh_in, order, order_of}
use Rattle.ov_model.proofs.Counting.{one_if, one_most}
use Rattle.ov_model.proofs.Growing.{same_rec-refl}
use Rattle.ov_model.proofs.Holds.{same_recs}
use Rattle.law_partitions.specs.Pieces.{rec_times, NoTwice, row_times, HaveNoRowTwice}

pub times-append : (a b : List Rec) (r : Rec) → rec_times (a ++ b) r ≡ rec_times a r + rec_times b r
times-append [] b r = omega arith
times-append (x ∷ a) b r = omega (arith, times-append a b r)

if_times : (t : Bool) (x r : Rec) (rest : List Rec) → rec_times (if t then x ∷ rest else rest) r ≤ one_if (is_same_rec r x) + rec_times rest r
if_times true x r rest = omega arith
if_times false x r rest = omega arith

pub times-filter : (p : Rec → Bool) (rs : List Rec) (r : Rec) → rec_times (filter p rs) r ≤ rec_times rs r
times-filter p [] r = omega arith
times-filter p (x ∷ rs) r = omega (arith, if_times (p x) x r (filter p rs), times-filter p rs r)

-- ---- whether one is among them

some_of : (t rest : Bool) (n : ℕ) → (rest ≡ true → 1 ≤ n) → (t || rest) ≡ true → 1 ≤ one_if t + n
some_of true rest n some e = omega arith
some_of false rest n some e = omega (arith, some e)

none_of : (t rest : Bool) (n : ℕ) → (rest ≡ false → n ≡ 0) → (t || rest) ≡ false → one_if t + n ≡ 0
none_of true rest n some e = cc
none_of false rest n some e = omega (arith, some e)

pub among_times : (rs : List Rec) (r : Rec) → is_among rs r ≡ true → 1 ≤ rec_times rs r
among_times [] r e = cc
among_times (x ∷ rs) r e = some_of (is_same_rec r x) (is_among rs r) (rec_times rs r) (among_times rs r) e

pub none_times : (rs : List Rec) (r : Rec) → is_among rs r ≡ false → rec_times rs r ≡ 0
none_times [] r e = refl
none_times (x ∷ rs) r e = none_of (is_same_rec r x) (is_among rs r) (rec_times rs r) (none_times rs r) e

pub is_times : (rs : List Rec) (r : Rec) → 1 ≤ rec_times rs r → is_among rs r ≡ true
is_times rs r some =
    elim (cases_Bool (is_among rs r)) [
      | inl there ↦ there
      | inr none ↦ absurd (omega (arith, some, none_times rs r none))
    ]

pub not_times : (rs : List Rec) (r : Rec) → rec_times rs r ≡ 0 → is_among rs r ≡ false
not_times rs r none =
    elim (cases_Bool (is_among rs r)) [
      | inl there ↦ absurd (omega (arith, none, among_times rs r there))
      | inr other ↦ other
    ]

pub one_self : (r : Rec) → one_if (is_same_rec r r) ≡ 1
one_self r = ap one_if (same_rec-refl r)

pub in_times : (rs : List Rec) (r : Rec) → IsIn rs r → 1 ≤ rec_times rs r
in_times [] r is = absurd is
in_times (x ∷ rs) r (inl same) = subst (λ y. 1 ≤ one_if (is_same_rec r y) + rec_times rs r) same (omega (arith, one_self r))
in_times (x ∷ rs) r (inr later) = omega (arith, in_times rs r later)

-- ---- what is lacking

-- a record that passes no test stands nowhere in what passes
fails_if : (t u : Bool) (x r : Rec) (rest : List Rec) → is_same_rec r x ≡ u → (u ≡ true → t ≡ false) → rec_times rest r ≡ 0 → rec_times (if t then x ∷ rest else rest) r ≡ 0
fails_if false u x r rest is fails none = none
fails_if true false x r rest is fails none = omega (arith, ap one_if is, none)
fails_if true true x r rest is fails none = absurd (clash (fails refl))
  where
    clash : true ≡ false → ⊥
    clash e = cc

pub times-fails : (p : Rec → Bool) (rs : List Rec) (r : Rec) → p r ≡ false → rec_times (filter p rs) r ≡ 0
times-fails p [] r fails = refl
times-fails p (x ∷ rs) r fails =
    fails_if (p x) (is_same_rec r x) x r (filter p rs) refl (λ same. ap p (sym (same_recs r x same)) ∙ fails) (times-fails p rs r fails)

pub once-lacking : (rs others : List Rec) → NoTwice rs → NoTwice others → NoTwice (others ++ lacking rs others)
once-lacking rs others once more r =
    elim (cases_Bool (is_among others r)) [
      | inl there ↦
          omega (
            arith,
            times-append others (lacking rs others) r,
            times-fails (λ x. not (is_among others x)) rs r (ap not there),
            more r,
          )
      | inr none ↦
          omega (
            arith,
            times-append others (lacking rs others) r,
            none_times others r none,
            times-filter (λ x. not (is_among others x)) rs r,
            once r,
          )
    ]

pub take_times : (n : ℕ) (rs : List Rec) (r : Rec) → rec_times (take n rs) r + rec_times (drop n rs) r ≡ rec_times rs r
take_times n rs r = sym (times-append (take n rs) (drop n rs) r) ∙ ap (λ l. rec_times l r) (take-append-drop n rs)

-- ---- the rows of a version, and all records

row_if : (t u : Bool) → (t ≡ true → u ≡ true) → one_if t ≤ one_if u
row_if false u is = omega (arith, one_most u)
row_if true true is = omega arith
row_if true false is = absurd (clash (is refl))
  where
    clash : false ≡ true → ⊥
    clash e = cc

pub right_true : (a b : Bool) → (a && b) ≡ true → b ≡ true
right_true true b e = e
right_true false b e = cc

pub left_true : (a b : Bool) → (a && b) ≡ true → a ≡ true
left_true true b e = refl
left_true false b e = cc

record_times : (ps : List ℕ) (done : List (List Rec)) (rows : List Row) (r : Rec) → rec_times (map (record_of ps done) rows) r ≤ row_times rows r.row
record_times ps done [] r = omega arith
record_times ps done (row ∷ rows) r =
    omega (
      arith,
      row_if (is_same_rec r (record_of ps done row)) (is_same_row r.row row) (right_true (r.origin == (record_of ps done row).origin) (is_same_row r.row row)),
      record_times ps done rows r,
    )

pub records_once : (v : Version) (done : List (List Rec)) → ((row : Row) → row_times v.rows row ≤ 1) → NoTwice (records_of v done)
records_once v done once r = omega (arith, record_times v.parents done v.rows r, once r.row)

abbrev pub AllOnce : List (List Rec) → Type 0
AllOnce [] = Unit {0}
AllOnce (rs ∷ rss) = NoTwice rs × AllOnce rss

once-append : (rss : List (List Rec)) (rs : List Rec) → AllOnce rss → NoTwice rs → AllOnce (rss ++ rs ∷ [])
once-append [] rs all once = (once, tt)
once-append (l ∷ rss) rs all once = (all.0, once-append rss rs all.1 once)

pub recs_once : (vs : List Version) (done : List (List Rec)) → HaveNoRowTwice vs → AllOnce done → AllOnce (recs vs done)
recs_once [] done rows all = all
recs_once (v ∷ vs) done rows all = recs_once vs (done ++ records_of v done ∷ []) rows.1 (once-append done (records_of v done) all (records_once v done rows.0))

same_origin : (r x : Rec) → is_same_rec r x ≡ true → r.origin ≡ x.origin
same_origin r x same = eqb-true r.origin x.origin (left_true (r.origin == x.origin) (is_same_row r.row x.row) same)

other_fresh : (rs : List Rec) (n : ℕ) (r : Rec) → (r.origin == n) ≡ false → rec_times (fresh_in rs n) r ≡ 0
other_fresh rs n r other = times-fails (λ x. x.origin == n) rs r other

ne_test : (a b : ℕ) → a ≢ b → (a == b) ≡ false
ne_test a b other =
    elim (cases_Bool (a == b)) [
      | inl same ↦ absurd (other (eqb-true a b same))
      | inr e ↦ e
    ]

order_low : (rss : List (List Rec)) (n : ℕ) (r : Rec) → r.origin < n → rec_times (order rss n) r ≡ 0
order_low [] n r low = refl
order_low (rs ∷ rss) n r low =
    omega (
      arith,
      times-append (fresh_in rs n) (order rss (n + 1)) r,
      other_fresh rs n r (ne_test r.origin n (λ e. omega (arith, e, low))),
      order_low rss (n + 1) r (omega (arith, low)),
    )

order_once : (rss : List (List Rec)) (n : ℕ) → AllOnce rss → NoTwice (order rss n)
order_once [] n all r = omega arith
order_once (rs ∷ rss) n all r =
    elim (cases_Bool (r.origin == n)) [
      | inl same ↦
          let is : r.origin ≡ n = eqb-true r.origin n same
          in omega (
            arith,
            times-append (fresh_in rs n) (order rss (n + 1)) r,
            times-filter (λ x. x.origin == n) rs r,
            all.0 r,
            order_low rss (n + 1) r (omega (arith, is)),
          )
      | inr other ↦
          omega (arith, times-append (fresh_in rs n) (order rss (n + 1)) r, other_fresh rs n r other, order_once rss (n + 1) all.1 r)
    ]

-- no record stands twice among all of them
pub all_once : (vs : List Version) → HaveNoRowTwice vs → NoTwice (order_of vs)
all_once vs rows = order_once (recs vs []) 1 (recs_once vs [] rows tt)
