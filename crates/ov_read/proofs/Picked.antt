-- The records at the positions of a version's rows.
use Rattle.std.proofs.Common.{◌≡◌, ◌<◌, ◌+◌, ℕ, zero, suc, Bool, true, false, Some, List, [], ◌∷◌, length, map, get_or, refl, sym, ◌∙◌, ap, subst, arith}
use Rattle.std.specs.Prelude.{if◌then◌else◌, cond, ◌==◌, ◌&&◌, ◌||◌, filter, is_some, slice_get}
use Rattle.std.specs.List.{All, AllZip}
use Rattle.std.specs.List.Sorted.{IsPermutation}
use Rattle.std.proofs.lemmas.Bool.{eq-eqb, ne_eqb}
use Rattle.std.proofs.lemmas.List.{length-map}
use Rattle.std.proofs.lemmas.List.Elements.{All-nil, All-cons, All-head, All-tail, All-map}
use Rattle.std.proofs.lemmas.List.Sorted.{IsPermutation-map, length_permutation, All-permutation}
use Rattle.ov_host.specs.declared.area.Extent.{Extent}
use Rattle.ov_host.specs.Host.{State}
use Rattle.ov_member.specs.Rids.{AreRids, has}
use Rattle.ov_member.proofs.RidLemmas.{RiseFrom-filter, has-filter, same_from}
use Rattle.ov_value.specs.Shapes.{Shape}
use Rattle.ov_segment.specs.declared.numbered.Record.{Record}
use Rattle.ov_segment.specs.Segments.{AreRecords}
use Rattle.ov_fetch.specs.Extents.{page_bytes, rids_of}
use Rattle.ov_fetch.specs.Rows.{AreRows, is_asked, joined, record_of}
use Rattle.ov_fetch.specs.Scans.{AllStand, InKeyOrder, row_at, rows_at, rows_of}
use Rattle.ov_fetch.proofs.Lacking.{get_at}
use Rattle.ov_fetch.proofs.Ordered.{has_record}
use Rattle.ov_read.specs.Picking.{ArePicks, IsPick, places_from, places_of}
use Rattle.ov_read.specs.Found.{AreFirst, IsPicked}
use Rattle.ov_read.specs.Gathering.{AreFull, IsNotFull, IsRowsOf}
use Rattle.ov_fetch.proofs.Counted.{ascending, kept_all, turned}

abbrev pub no_record : Record
no_record = record { rid = 0; row = [] }

abbrev pub at_place : List Record → ℕ → Record
at_place records place = get_or records place no_record

abbrev pub at_places : List Record → List ℕ → List Record
at_places records pick = map (at_place records) pick

map_twice : {X Y Z : Type 0} (f : Y → Z) (g : X → Y) (xs : List X) → map f (map g xs) ≡ map (λ x. f (g x)) xs
map_twice f g [] = refl
map_twice f g (x ∷ xs) = ap (λ l. f (g x) ∷ l) (map_twice f g xs)

map_same : {X Y : Type 0} (f g : X → Y) → ((x : X) → f x ≡ g x) → (xs : List X) → map f xs ≡ map g xs
map_same f g h [] = refl
map_same f g h (x ∷ xs) = ap (λ y. y ∷ map f xs) (h x) ∙ ap (λ l. g x ∷ l) (map_same f g h xs)

zero_plus : (k : ℕ) → 0 + k ≡ k
zero_plus k = omega arith

-- each position has its record
pub found_at : (records : List Record) (pick : List ℕ) → AllStand records pick → map (slice_get records) pick ≡ map Some (at_places records pick)
found_at records [] all = refl
found_at records (p ∷ pick) all =
    ap (λ o. o ∷ map (slice_get records) pick) (get_at records p no_record (All-head (λ place. place < length records) p pick all))
    ∙ ap (λ l. Some (at_place records p) ∷ l) (found_at records pick (All-tail (λ place. place < length records) p pick all))

row_there : (records : List Record) (place : ℕ) → row_at records place ≡ (at_place records place).row
row_there [] place = refl
row_there (r ∷ records) zero = refl
row_there (r ∷ records) (suc place) = row_there records place

rows_there : (records : List Record) (pick : List ℕ) → rows_at records pick ≡ rows_of (at_places records pick)
rows_there records pick = map_same (row_at records) (λ p. (at_place records p).row) (row_there records) pick ∙ sym (map_twice (λ (r : Record). r.row) (at_place records) pick)

-- the rids at the positions of records with some rids
places_rids : (f : ℕ → ℕ) (at : ℕ) (records : List Record) (rids : List ℕ) → ((k : ℕ) → k < length records → f (at + k) ≡ (get_or records k no_record).rid)
    → map f (places_from at records rids) ≡ filter (has rids) (rids_of records)
places_rids f at [] rids h = refl
places_rids f at (r ∷ records) rids h =
    by (has rids r.rid) (places_rids f (suc at) records rids (λ k low. next k ∙ h (suc k) (omega (arith, low)))) (zero_at ∙ h 0 (omega arith))
  where
    next : (k : ℕ) → f (suc at + k) ≡ f (at + suc k)
    next k = let e : suc at + k ≡ at + suc k = omega arith in ap f e

    zero_at : f at ≡ f (at + 0)
    zero_at = let e : at ≡ at + 0 = omega arith in ap f e

    by : (b : Bool) → map f (places_from (suc at) records rids) ≡ filter (has rids) (rids_of records) → f at ≡ r.rid
        → map f (if b then at ∷ places_from (suc at) records rids else places_from (suc at) records rids) ≡ cond b (r.rid ∷ filter (has rids) (rids_of records)) (filter (has rids) (rids_of records))
    by true rest first = ap (λ n. n ∷ map f (places_from (suc at) records rids)) first ∙ ap (λ l. r.rid ∷ l) rest
    by false rest first = rest

all_places : (Q : ℕ → Type 0) (at : ℕ) (records : List Record) (rids : List ℕ) → ((k : ℕ) → k < length records → has rids (get_or records k no_record).rid ≡ true → Q (at + k))
    → All Q (places_from at records rids)
all_places Q at [] rids h = All-nil Q
all_places Q at (r ∷ records) rids h =
    by (has rids r.rid) refl (all_places Q (suc at) records rids (λ k low member. subst Q (next k) (h (suc k) (omega (arith, low)) member)))
  where
    next : (k : ℕ) → at + suc k ≡ suc at + k
    next k = omega arith

    here : at + 0 ≡ at
    here = omega arith

    by : (b : Bool) → has rids r.rid ≡ b → All Q (places_from (suc at) records rids) → All Q (if b then at ∷ places_from (suc at) records rids else places_from (suc at) records rids)
    by true is rest = All-cons Q at (places_from (suc at) records rids) (subst Q here (h 0 (omega arith) is)) rest
    by false is rest = rest

-- where there are as many positions as rids, each rid has its record
all_found : (schema : Shape) (got : List Record) (rids : List ℕ) → AreRecords schema 0 got → AreRids rids → length (places_of got rids) ≡ length rids → filter (has rids) (rids_of got) ≡ rids
all_found schema got rids are set count =
    turned (rids_of got) rids (ascending schema got are) set
    ∙ kept_all (has (rids_of got)) rids
    (ap length (sym (turned (rids_of got) rids (ascending schema got are) set))
    ∙ (ap length (sym (places_rids (λ p. (at_place got p).rid) 0 got rids (λ k low. ap (λ p. (at_place got p).rid) (zero_plus k)))) ∙ (length-map (places_of got rids) (λ p. (at_place got p).rid) ∙ count)))

pub is_picked : (schema : Shape) (got : List Record) (rids pick : List ℕ) → AreRecords schema 0 got → AreRids rids → IsPick schema got rids pick → AllStand got pick → length pick ≡ length rids
    → IsPicked schema got rids pick (at_places got pick)
is_picked schema got rids pick are set is stand count = record {
  at = found_at got pick stand;
  same = subst (λ l. IsPermutation l (rids_of (at_places got pick)))
      (places_rids (λ p. (at_place got p).rid) 0 got rids (λ k low. ap (λ p. (at_place got p).rid) (zero_plus k))
      ∙ all_found schema got rids are set (sym (length_permutation (places_of got rids) pick is.same) ∙ count))
      (subst (IsPermutation (map (λ p. (at_place got p).rid) (places_of got rids))) (sym (map_twice (λ (r : Record). r.rid) (at_place got) pick))
      (IsPermutation-map (λ p. (at_place got p).rid) (places_of got rids) pick is.same));
  ordered = subst (InKeyOrder schema) (rows_there got pick) is.ordered;
}

-- ---- the first record with a rid

above : (schema : Shape) (last : ℕ) (records : List Record) (k : ℕ) → AreRecords schema last records → k < length records → last < (get_or records k no_record).rid
above schema last [] k are low = absurd (omega (arith, low))
above schema last (r ∷ records) zero are low = are.0.above
above schema last (r ∷ records) (suc k) are low =
    let rest = above schema r.rid records k are.1 (omega (arith, low)) in omega (arith, rest, are.0.above)

own_record : (schema : Shape) (last : ℕ) (records : List Record) (k : ℕ) → AreRecords schema last records → k < length records
    → record_of records (get_or records k no_record).rid ≡ Some (get_or records k no_record)
own_record schema last [] k are low = absurd (omega (arith, low))
own_record schema last (r ∷ records) zero are low = rw (eq-eqb r.rid r.rid refl) refl
own_record schema last (r ∷ records) (suc k) are low =
    let more = above schema r.rid records k are.1 (omega (arith, low)) in
    let other : r.rid == (get_or records k no_record).rid ≡ false = ne_eqb r.rid (get_or records k no_record).rid (λ e. omega (arith, more, e)) in
    rw other (own_record schema r.rid records k are.1 (omega (arith, low)))

pub first_found : (schema : Shape) (area : List ℕ) (segments : List Extent) (members : List (List ℕ)) (got : List Record) (rids pick : List ℕ) → AreRecords schema 0 got → AreRows schema area segments members got
    → IsPick schema got rids pick → ((rid : ℕ) → has rids rid ≡ true → is_asked members rid ≡ true) → AreFirst schema area segments (at_places got pick)
first_found schema area segments members got rids pick are rows is within = record {
  contents = rows.contents;
  read = rows.read;
  first = All-map (λ r. record_of (joined rows.contents) r.rid ≡ Some r) (at_place got) pick
      (All-permutation (λ p. record_of (joined rows.contents) (at_place got p).rid ≡ Some (at_place got p)) (places_of got rids) pick is.same
      (all_places (λ p. record_of (joined rows.contents) (at_place got p).rid ≡ Some (at_place got p)) 0 got rids (λ k low member.
      subst (λ p. record_of (joined rows.contents) (at_place got p).rid ≡ Some (at_place got p)) (sym (zero_plus k))
      (sym (rows.rows.asked (at_place got k).rid (within (at_place got k).rid member)) ∙ own_record schema 0 got k are low))));
}

one_asked : (rids : List ℕ) (members : List (List ℕ)) (rid : ℕ) → has rids rid ≡ true → is_asked (rids ∷ members) rid ≡ true
one_asked rids members rid member = rw member refl

more_asked : (rids : List ℕ) (members : List (List ℕ)) (rid : ℕ) → is_asked members rid ≡ true → is_asked (rids ∷ members) rid ≡ true
more_asked rids members rid asked = by (has rids rid) asked
  where
    by : (b : Bool) → is_asked members rid ≡ true → (b || is_asked members rid) ≡ true
    by true a = refl
    by false a = a

pub rows_zip : (schema : Shape) (s : State) (segments : List Extent) (all : List (List ℕ)) (got : List Record) (members picks : List (List ℕ)) → AreRecords schema 0 got
    → (s.tells ≡ true → AreRows schema (page_bytes s) segments all got) → ((rid : ℕ) → is_asked members rid ≡ true → is_asked all rid ≡ true)
    → ArePicks schema got members picks → All (AllStand got) picks → AreFull (length members) picks members → AllZip (IsRowsOf schema s segments got) members picks
rows_zip schema s segments all got [] [] are rows within picked stand full = tt
rows_zip schema s segments all got [] (p ∷ picks) are rows within picked stand full = absurd picked
rows_zip schema s segments all got (m ∷ members) [] are rows within picked stand full = absurd picked
rows_zip schema s segments all got (m ∷ members) (p ∷ picks) are rows within picked stand full = (
  record {
    set = (full 0 (omega arith)).1;
    found = at_places got p;
    picked = is_picked schema got m p are (full 0 (omega arith)).1 picked.0 (All-head (AllStand got) p picks stand) (full 0 (omega arith)).0;
    told = λ told. first_found schema (page_bytes s) segments all got m p are (rows told) picked.0 (λ rid member. within rid (one_asked m members rid member));
  },
  rows_zip schema s segments all got members picks are rows (λ rid asked. within rid (more_asked m members rid asked)) picked.1 (All-tail (AllStand got) p picks stand)
      (λ k low. full (suc k) (omega (arith, low))),
)

-- ---- no pick is short

-- where each rid has its record, there are as many positions as rids
full_count : (schema : Shape) (got : List Record) (rids pick : List ℕ) → AreRecords schema 0 got → AreRids rids → ((rid : ℕ) → has rids rid ≡ true → has (rids_of got) rid ≡ true)
    → IsPick schema got rids pick → length pick ≡ length rids
full_count schema got rids pick are set there is =
    length_permutation (places_of got rids) pick is.same
    ∙ (sym (length-map (places_of got rids) (λ p. (at_place got p).rid))
    ∙ (ap length (places_rids (λ p. (at_place got p).rid) 0 got rids (λ k low. ap (λ p. (at_place got p).rid) (zero_plus k))) ∙ ap length whole))
  where
    both : (a b : Bool) → (b ≡ true → a ≡ true) → (a && b) ≡ b
    both true b h = refl
    both false true h = h refl
    both false false h = refl

    whole : filter (has rids) (rids_of got) ≡ rids
    whole =
        same_from 1 1 (filter (has rids) (rids_of got)) rids (RiseFrom-filter (has rids) 1 (rids_of got) (ascending schema got are)) set
        (λ n. has-filter (has rids) (rids_of got) n ∙ both (has (rids_of got) n) (has rids n) (there n))

pick_at : (schema : Shape) (got : List Record) (members picks : List (List ℕ)) (k : ℕ) → ArePicks schema got members picks → k < length members → IsPick schema got (get_or members k []) (get_or picks k [])
pick_at schema got [] picks k are low = absurd (omega (arith, low))
pick_at schema got (m ∷ members) [] k are low = absurd are
pick_at schema got (m ∷ members) (p ∷ picks) zero are low = are.0
pick_at schema got (m ∷ members) (p ∷ picks) (suc k) are low = pick_at schema got members picks k are.1 (omega (arith, low))

asked_at : (members : List (List ℕ)) (k rid : ℕ) → k < length members → has (get_or members k []) rid ≡ true → is_asked members rid ≡ true
asked_at [] k rid low member = absurd (omega (arith, low))
asked_at (m ∷ members) zero rid low member = one_asked m members rid member
asked_at (m ∷ members) (suc k) rid low member = more_asked m members rid (asked_at members k rid (omega (arith, low)) member)

pub none_short : (schema : Shape) (area : List ℕ) (segments : List Extent) (members picks : List (List ℕ)) (got : List Record) (k : ℕ) → AreRecords schema 0 got → AreRows schema area segments members got
    → ArePicks schema got members picks → IsNotFull picks members k → ⊥
none_short schema area segments members picks got k are rows picked h =
    h.off (full_count schema got (get_or members k []) (get_or picks k []) are h.set
    (λ rid member.
    let asked = asked_at members k rid h.there member in
    has_record rid got ∙ (ap is_some (rows.rows.asked rid asked) ∙ rows.rows.there rid asked))
    (pick_at schema got members picks k picked h.there))
