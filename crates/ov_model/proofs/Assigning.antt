-- The rids that a commit gives are those of its records.
use Rattle.std.proofs.Common.{◌≡◌, ◌≤◌, ◌<◌, ℕ, ◌+◌, Bool, true, false, ◌==◌, List, [], ◌∷◌, ◌++◌, length, map, refl, sym, ◌∙◌, ap, subst, arith, append_assoc}
use Rattle.std.specs.Prelude.{Option, Some, None, if◌then◌else◌}
use Rattle.std.specs.Option.{option_map}
use Rattle.std.proofs.lemmas.List.{length-append}
use Rattle.std.proofs.lemmas.Bool.{cond-true, cond-false, ne_eqb, eq-eqb}
use Rattle.std.proofs.lemmas.Slice.Eq.{slice_eq-Decides}
use Rattle.ov_value.specs.Order.{value_tie_decides}
use Rattle.ov_value.specs.Rows.{key_cmp}
use Rattle.ov_value.specs.Shapes.{Shape}
use Rattle.ov_model.specs.Assigned.{rid_of_row, rid_by, or_next, next_after, assigned, stored, stored_parents}
use Rattle.ov_model.specs.Book.{Row, Version}
use Rattle.ov_model.specs.Lists.{AllAreIn, IsBelow, Rises}
use Rattle.ov_model.specs.Records.{Rec, is_same_row, is_same_rec, origin_in, origin_by, of_version, first_of, or_own, record_of, records_of, recs, fresh_in, order, order_of, rid_in}
use Rattle.ov_model.proofs.Growing.{same_rec-refl, length_recs, order_of_more, rid_more}
use Rattle.ov_model.proofs.Origins.{all_known, found_by}
use Rattle.ov_model.proofs.Own.{AllBelow, recs_below, by_below}
use Rattle.ov_model.proofs.Rids.{other_origin, and_false-right, not_same, Of, fresh_of}

-- ---- a parent's records give a row's rid where they give its origin

rid_if : (t : Bool) (rid o : ℕ) (r : Row) (all : List Rec) (later : Option ℕ) (origin : Option ℕ)
    → (t ≡ true → rid ≡ rid_in all (record { origin = o; row = r }))
    → later ≡ option_map (λ x. rid_in all (record { origin = x; row = r })) origin
    → (if t then Some rid else later) ≡ option_map (λ x. rid_in all (record { origin = x; row = r })) (if t then Some o else origin)
rid_if true rid o r all later origin same rest = ap Some (same refl)
rid_if false rid o r all later origin same rest = rest

same_rows : (a b : Row) → is_same_row a b ≡ true → a ≡ b
same_rows a b same = (slice_eq-Decides value_tie_decides a b (is_same_row a b) refl).0 same

rid_is : (rs all : List Rec) (row : Row) → rid_of_row (stored rs all) row ≡ option_map (λ o. rid_in all (record { origin = o; row = row })) (origin_in rs row)
rid_is [] all row = refl
rid_is (r ∷ rs) all row =
    rid_if (is_same_row row r.row) (rid_in all r) r.origin row all (rid_of_row (stored rs all) row) (origin_in rs row)
    (λ same. ap (λ x. rid_in all (record { origin = r.origin; row = x })) (sym (same_rows row r.row same)))
    (rid_is rs all row)

first_mapped : (f : ℕ → ℕ) (a b : Option ℕ) → first_of (option_map f a) (option_map f b) ≡ option_map f (first_of a b)
first_mapped f None b = refl
first_mapped f (Some x) b = refl

pub rid_by_is : (ps : List ℕ) (done : List (List Rec)) (all : List Rec) (row : Row) → rid_by (stored_parents ps done all) row ≡ option_map (λ o. rid_in all (record { origin = o; row = row })) (origin_by ps done row)
rid_by_is [] done all row = refl
rid_by_is (p ∷ ps) done all row =
    ap (λ x. first_of x (rid_by (stored_parents ps done all) row)) (rid_is (of_version done p) all row)
    ∙ ap (first_of (option_map (λ o. rid_in all (record { origin = o; row = row })) (origin_in (of_version done p) row))) (rid_by_is ps done all row)
    ∙ first_mapped (λ o. rid_in all (record { origin = o; row = row })) (origin_in (of_version done p) row) (origin_by ps done row)

-- ---- a new record's place

-- the record is none of these
abbrev Off : Rec → List Rec → Type 0
Off r [] = Unit {0}
Off r (x ∷ xs) = (is_same_rec r x ≡ false) × Off r xs

rid_new : (xs ys : List Rec) (r : Rec) → Off r xs → rid_in (xs ++ r ∷ ys) r ≡ length xs + 1
rid_new [] ys r off = cond-true (is_same_rec r r) 1 (rid_in ys r + 1) (same_rec-refl r)
rid_new (x ∷ xs) ys r off =
    cond-false (is_same_rec r x) 1 (rid_in (xs ++ r ∷ ys) r + 1) off.0 ∙ ap (λ n. n + 1) (rid_new xs ys r off.1) ∙ omega arith

off_append : (r : Rec) (xs ys : List Rec) → Off r xs → Off r ys → Off r (xs ++ ys)
off_append r [] ys off more = more
off_append r (x ∷ xs) ys off more = (off.0, off_append r xs ys off.1 more)

-- no origin is above n
abbrev UpTo : ℕ → List Rec → Type 0
UpTo n [] = Unit {0}
UpTo n (r ∷ rs) = (r.origin ≤ n) × UpTo n rs

up_to_more : (n m : ℕ) (rs : List Rec) → n ≤ m → UpTo n rs → UpTo m rs
up_to_more n m [] le up = tt
up_to_more n m (r ∷ rs) le up = (omega (arith, le, up.0), up_to_more n m rs le up.1)

up_to_append : (n : ℕ) (a b : List Rec) → UpTo n a → UpTo n b → UpTo n (a ++ b)
up_to_append n [] b up more = more
up_to_append n (r ∷ a) b up more = (up.0, up_to_append n a b up.1 more)

up_to_of : (n : ℕ) (rs : List Rec) → Of n rs → UpTo n rs
up_to_of n [] of = tt
up_to_of n (r ∷ rs) of = (omega (arith, of.0), up_to_of n rs of.1)

-- the last origin is one less than the first one and their number
order_up_to : (rss : List (List Rec)) (n m : ℕ) → n + length rss ≡ m + 1 → UpTo m (order rss n)
order_up_to [] n m e = tt
order_up_to (rs ∷ rss) n m e =
    up_to_append m (fresh_in rs n) (order rss (n + 1))
    (up_to_more n m (fresh_in rs n) (omega (arith, e)) (up_to_of n (fresh_in rs n) (fresh_of rs n)))
    (order_up_to rss (n + 1) m (omega (arith, e)))

up_to_last : (rss : List (List Rec)) → UpTo (length rss) (order rss 1)
up_to_last rss = order_up_to rss 1 (length rss) (omega arith)

off_up_to : (r : Rec) (n : ℕ) (rs : List Rec) → n < r.origin → UpTo n rs → Off r rs
off_up_to r n [] above up = tt
off_up_to r n (x ∷ xs) above up = (other_origin r x (λ e. omega (arith, e, above, up.0)), off_up_to r n xs above up.1)

-- each of these records has a row below all of those rows
abbrev BelowRows : Shape → List Rec → List Row → Type 0
BelowRows schema [] rows = Unit {0}
BelowRows schema (b ∷ bs) rows = IsBelow (key_cmp schema) b.row rows × BelowRows schema bs rows

off_below : (schema : Shape) (r : Rec) (rows : List Row) (base : List Rec) → BelowRows schema base (r.row ∷ rows) → Off r base
off_below schema r rows [] below = tt
off_below schema r rows (b ∷ bs) below =
    (and_false-right (r.origin == b.origin) (is_same_row r.row b.row) (not_same schema b.row r.row below.0.0), off_below schema r rows bs below.1)

below_rest : (schema : Shape) (row : Row) (rows : List Row) (base : List Rec) → BelowRows schema base (row ∷ rows) → BelowRows schema base rows
below_rest schema row rows [] below = tt
below_rest schema row rows (b ∷ bs) below = (below.0.1, below_rest schema row rows bs below.1)

below_and : (schema : Shape) (base : List Rec) (r : Rec) (rows : List Row) → BelowRows schema base rows → IsBelow (key_cmp schema) r.row rows → BelowRows schema (base ++ r ∷ []) rows
below_and schema [] r rows below one = (one, tt)
below_and schema (b ∷ bs) r rows below one = (below.0, below_and schema bs r rows below.1 one)

-- ---- row by row

module _ (schema : Shape) (ps : List ℕ) (done : List (List Rec)) (all : List Rec)
    (known : AllAreIn done all) (low : AllBelow (length done) done) (up : UpTo (length done) all) where
  abbrev parents : List (List (ℕ × Row))
  parents = stored_parents ps done all

  abbrev new : List Row → List Rec
  new rows = fresh_in (map (record_of ps done) rows) (length done + 1)

  -- the next rid, where these are the new records so far
  abbrev next : List Rec → ℕ
  next base = length all + length base + 1

  abbrev Given : List Row → List Rec → Type 0
  Given rows base = assigned rows parents (next base) ≡ map (rid_in (all ++ (base ++ new rows))) (map (record_of ps done) rows)

  old_row : (row : Row) (rows : List Row) (base : List Rec) (o : ℕ) → origin_by ps done row ≡ Some o → Given rows base → Given (row ∷ rows) base
  old_row row rows base o e given =
      let r : Rec = record { origin = o; row = row }
      in let is : record_of ps done row ≡ r = ap (λ found. record { origin = or_own found (length done + 1); row = row }) e
      in let rid : rid_by parents row ≡ Some (rid_in all r) = rid_by_is ps done all row ∙ ap (option_map (λ x. rid_in all (record { origin = x; row = row }))) e
      in let le : o ≤ length done = by_below (length done) ps done row o low e
      in let off : ((record_of ps done row).origin == length done + 1) ≡ false = ap (λ x. x.origin == length done + 1) is ∙ ne_eqb o (length done + 1) (λ same. omega (arith, same, le))
      in let same_new : new (row ∷ rows) ≡ new rows = cond-false ((record_of ps done row).origin == length done + 1) (record_of ps done row ∷ new rows) (new rows) off
      in let there : rid_in (all ++ (base ++ new (row ∷ rows))) (record_of ps done row) ≡ rid_in all r =
      ap (rid_in (all ++ (base ++ new (row ∷ rows)))) is ∙ rid_more all (base ++ new (row ∷ rows)) r (found_by ps done row o all known e)
      in let head : or_next (rid_by parents row) (next base) ≡ rid_in (all ++ (base ++ new (row ∷ rows))) (record_of ps done row) =
      ap (λ x. or_next x (next base)) rid ∙ sym there
      in let rest : assigned rows parents (next_after (rid_by parents row) (next base)) ≡ map (rid_in (all ++ (base ++ new (row ∷ rows)))) (map (record_of ps done) rows) =
      ap (λ x. assigned rows parents (next_after x (next base))) rid
      ∙ given
      ∙ ap (λ fresh. map (rid_in (all ++ (base ++ fresh))) (map (record_of ps done) rows)) (sym same_new)
      in λ i. head i ∷ rest i

  new_row : (row : Row) (rows : List Row) (base : List Rec) → origin_by ps done row ≡ None → BelowRows schema base (row ∷ rows)
      → Given rows (base ++ record_of ps done row ∷ []) → Given (row ∷ rows) base
  new_row row rows base e below given =
      let r : Rec = record_of ps done row
      in let own : r.origin ≡ length done + 1 = ap (λ found. or_own found (length done + 1)) e
      in let rid : rid_by parents row ≡ None = rid_by_is ps done all row ∙ ap (option_map (λ x. rid_in all (record { origin = x; row = row }))) e
      in let is_own : (r.origin == length done + 1) ≡ true = ap (λ x. x == length done + 1) own ∙ eq-eqb (length done + 1) (length done + 1) refl
      in let fresh : new (row ∷ rows) ≡ r ∷ new rows = cond-true (r.origin == length done + 1) (r ∷ new rows) (new rows) is_own
      in let apart : Off r (all ++ base) = off_append r all base (off_up_to r (length done) all (omega (arith, own)) up) (off_below schema r rows base below)
      in let moved : all ++ (base ++ r ∷ new rows) ≡ (all ++ base) ++ r ∷ new rows = sym (append_assoc all base (r ∷ new rows))
      in let there : rid_in (all ++ (base ++ new (row ∷ rows))) r ≡ next base =
      ap (λ f. rid_in (all ++ (base ++ f)) r) fresh ∙ ap (λ l. rid_in l r) moved ∙ rid_new (all ++ base) (new rows) r apart
      ∙ ap (λ n. n + 1) (length-append all base)
      in let head : or_next (rid_by parents row) (next base) ≡ rid_in (all ++ (base ++ new (row ∷ rows))) r = ap (λ x. or_next x (next base)) rid ∙ sym there
      in let number : next base + 1 ≡ next (base ++ r ∷ []) = omega (arith, length-append base (r ∷ []))
      in let joined : (base ++ r ∷ []) ++ new rows ≡ base ++ new (row ∷ rows) = append_assoc base (r ∷ []) (new rows) ∙ ap (λ f. base ++ f) (sym fresh)
      in let rest : assigned rows parents (next_after (rid_by parents row) (next base)) ≡ map (rid_in (all ++ (base ++ new (row ∷ rows)))) (map (record_of ps done) rows) =
      ap (λ x. assigned rows parents (next_after x (next base))) rid
      ∙ ap (assigned rows parents) number
      ∙ given
      ∙ ap (λ fresh. map (rid_in (all ++ fresh)) (map (record_of ps done) rows)) joined
      in λ i. head i ∷ rest i

  row_given : (row : Row) (rows : List Row) (base : List Rec) (found : Option ℕ) → origin_by ps done row ≡ found → BelowRows schema base (row ∷ rows)
      → Given rows base → Given rows (base ++ record_of ps done row ∷ []) → Given (row ∷ rows) base
  row_given row rows base (Some o) e below old fresh = old_row row rows base o e old
  row_given row rows base None e below old fresh = new_row row rows base e below fresh

  all_given : (rows : List Row) (base : List Rec) → Rises (key_cmp schema) rows → BelowRows schema base rows → Given rows base
  all_given [] base rises below = refl
  all_given (row ∷ rows) base rises below =
      row_given row rows base (origin_by ps done row) refl below
      (all_given rows base rises.1 (below_rest schema row rows base below))
      (all_given rows (base ++ record_of ps done row ∷ []) rises.1
      (below_and schema base (record_of ps done row) rows (below_rest schema row rows base below) rises.0))

pub assigned_is : (schema : Shape) (vs : List Version) (v : Version) → Rises (key_cmp schema) v.rows
    → assigned v.rows (stored_parents v.parents (recs vs []) (order_of vs)) (length (order_of vs) + 1)
    ≡ map (rid_in (order_of (vs ++ v ∷ []))) (records_of v (recs vs []))
assigned_is schema vs v rises =
    let done : List (List Rec) = recs vs []
    in let all : List Rec = order_of vs
    in let number : 0 + length vs ≡ length done = sym (length_recs vs [])
    in let low : AllBelow (length done) done = subst (λ n. AllBelow n done) number (recs_below vs [] tt)
    in let up : UpTo (length done) all = up_to_last done
    in let zero_more : length all + 1 ≡ length all + 0 + 1 = omega arith
    in ap (assigned v.rows (stored_parents v.parents done all)) zero_more
    ∙ all_given schema v.parents done all (all_known vs) low up v.rows [] rises tt
    ∙ ap (λ l. map (rid_in l) (records_of v done)) (ap (λ n. all ++ fresh_in (records_of v done) n) (omega arith) ∙ sym (order_of_more vs v))
