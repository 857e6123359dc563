-- The lists that pages have where their numbers are those of a World.
use Rattle.std.proofs.Common.{◌≡◌, ◌<◌, ◌≤◌, ◌+◌, ◌-◌, ℕ, zero, suc, Bool, true, false, Option, Some, List, [], ◌∷◌, ◌++◌, length, map, take, drop, get_or, refl, sym, ◌∙◌, ap, subst, inl, inr, arith}
use Rattle.std.specs.Prelude.{if◌then◌else◌, nat_le}
use Rattle.std.specs.List.{All, AllZip, sum_by}
use Rattle.std.proofs.lemmas.List.{length-map, length-append, length-take-le, take-append-drop, append_assoc}
use Rattle.std.proofs.lemmas.List.Elements.{All-nil, All-cons, All-contains, All-head, All-tail}
use Rattle.std.proofs.lemmas.List.Sums.{sum_by-cons}
use Rattle.ov_host.specs.declared.area.Extent.{Extent}
use Rattle.ov_catalog.specs.Numbers.{VersionNumbers, each_version}
use Rattle.ov_catalog.specs.Shown.{list_of as listed, put_by, shown_version, shown_versions, sorted_by}
use Rattle.law_image.specs.Pages.{readings_of}
use Rattle.law_image.proofs.Extents.{list_is}
use Rattle.ov_member.specs.Lists.{Spells, rids_of}
use Rattle.ov_member.proofs.RangeLemmas.{ranges-same}
use Rattle.ov_model.specs.Book.{Version}
use Rattle.ov_model.specs.Lists.{AllAreIn, AreIn, IsIn}
use Rattle.ov_model.specs.Records.{Rec, fresh_in, is_same_rec, of_version, order, order_of, recs, records_of, rid_in}
use Rattle.ov_model.proofs.Growing.{length_recs, order_more, rid_more, same_rec-refl}
use Rattle.ov_model.proofs.Origins.{all_known}
use Rattle.ov_model.specs.World.{Dataset, World}
use Rattle.ov_fetch.specs.declared.errors.FetchErr.{FetchErr}
use Rattle.ov_fetch.specs.declared.errors.FetchErr.TheVariants.{Host, Memory, Damaged}
use Rattle.ov_fetch.specs.Extents.{IsList, extent_bytes}
use Rattle.ov_read.specs.Agreement.{Agrees, IsThere, Numbers, list_of, nowhere, records_after}
use Rattle.ov_read.specs.Damages.{IsBadList, RefusesLists}
use Rattle.ov_read.specs.OfWorld.{IsSetOf, IsSpared, rids_in}

-- ---- versions, one after another

recs_from : (vs : List Version) (done : List (List Rec)) (k : ℕ) → k < length done → get_or (recs vs done) k [] ≡ get_or done k []
recs_from [] done k low = refl
recs_from (v ∷ vs) done k low =
    recs_from vs (done ++ records_of v done ∷ []) k (omega (arith, low, length-append done (records_of v done ∷ []))) ∙ before done (records_of v done ∷ []) k low
  where
    before : (xs ys : List (List Rec)) (n : ℕ) → n < length xs → get_or (xs ++ ys) n [] ≡ get_or xs n []
    before [] ys n less = absurd (omega (arith, less))
    before (x ∷ xs) ys zero less = refl
    before (x ∷ xs) ys (suc n) less = before xs ys n (omega (arith, less))

last_is : (done : List (List Rec)) (rs : List Rec) → get_or (done ++ rs ∷ []) (length done + 0) [] ≡ rs
last_is [] rs = refl
last_is (d ∷ done) rs = let e : suc (length done) + 0 ≡ suc (length done + 0) = omega arith in ap (λ n. get_or (d ∷ (done ++ rs ∷ [])) n []) e ∙ last_is done rs

one_more : (done : List (List Rec)) (rs : List Rec) (i : ℕ) → length (done ++ rs ∷ []) + i ≡ length done + suc i
one_more done rs i = omega (arith, length-append done (rs ∷ []))

first_rs : (v : Version) (vs : List Version) (done : List (List Rec)) → get_or (recs vs (done ++ records_of v done ∷ [])) (length done + 0) [] ≡ records_of v done
first_rs v vs done =
    recs_from vs (done ++ records_of v done ∷ []) (length done + 0) (omega (arith, length-append done (records_of v done ∷ []))) ∙ last_is done (records_of v done)

abbrev pub none_rids : VersionNumbers (List ℕ)
none_rids = record { parents = []; message = []; rows = 0; fresh = 0; list = [] }

pub shown_list : (all : List Rec) (vs : List Version) (done : List (List Rec)) (i : ℕ) (d : VersionNumbers (List ℕ)) → i < length vs
    → (get_or (shown_versions all done vs) i d).list ≡ listed all (get_or (recs vs done) (length done + i) [])
shown_list all [] done i d low = absurd (omega (arith, low))
shown_list all (v ∷ vs) done zero d low = ap (listed all) (sym (first_rs v vs done))
shown_list all (v ∷ vs) done (suc i) d low =
    shown_list all vs (done ++ records_of v done ∷ []) i d (omega (arith, low))
    ∙ ap (λ n. listed all (get_or (recs vs (done ++ records_of v done ∷ [])) n [])) (one_more done (records_of v done) i)

pub shown_rows : (all : List Rec) (vs : List Version) (done : List (List Rec)) (i : ℕ) (d : VersionNumbers (List ℕ)) → i < length vs
    → (get_or (shown_versions all done vs) i d).rows ≡ length (get_or (recs vs done) (length done + i) [])
shown_rows all [] done i d low = absurd (omega (arith, low))
shown_rows all (v ∷ vs) done zero d low = sym (ap length (first_rs v vs done) ∙ length-map v.rows _)
shown_rows all (v ∷ vs) done (suc i) d low =
    shown_rows all vs (done ++ records_of v done ∷ []) i d (omega (arith, low))
    ∙ ap (λ n. length (get_or (recs vs (done ++ records_of v done ∷ [])) n [])) (one_more done (records_of v done) i)

pub shown_sum : (all : List Rec) (vs : List Version) (done : List (List Rec)) (k : ℕ)
    → sum_by (λ (v : VersionNumbers (List ℕ)). v.fresh) (take k (shown_versions all done vs)) + length (order done 1) ≡ length (order (recs (take k vs) done) 1)
shown_sum all vs done zero = omega arith
shown_sum all [] done (suc k) = omega arith
shown_sum all (v ∷ vs) done (suc k) =
    let rs : List Rec = records_of v done in
    let rest = shown_sum all vs (done ++ records_of v done ∷ []) k in
    let more = ap length (order_more done (records_of v done) 1) ∙ length-append (order done 1) (fresh_in (records_of v done) (1 + length done)) in
    let turned : 1 + length done ≡ length done + 1 = omega arith in
    let same = ap (λ n. length (fresh_in (records_of v done) n)) turned in
    let head = sum_by-cons (λ (x : VersionNumbers (List ℕ)). x.fresh) (shown_version all done v) (take k (shown_versions all (done ++ records_of v done ∷ []) vs)) in
    omega (arith, rest, more, same, head)

pub shown_count : (all : List Rec) (vs : List Version) (done : List (List Rec)) → length (shown_versions all done vs) ≡ length vs
shown_count all [] done = refl
shown_count all (v ∷ vs) done = ap suc (shown_count all vs (done ++ records_of v done ∷ []))

-- ---- rids of a version's records are below those of later ones

recs_append : (xs ys : List Version) (done : List (List Rec)) → recs (xs ++ ys) done ≡ recs ys (recs xs done)
recs_append [] ys done = refl
recs_append (x ∷ xs) ys done = recs_append xs ys (done ++ records_of x done ∷ [])

pub record Grows (ys : List Version) (done : List (List Rec)) : Type 0 where
  pub more : List Rec
  pub is : order (recs ys done) 1 ≡ order done 1 ++ more

grows : (ys : List Version) (done : List (List Rec)) → Grows ys done
grows [] done = record { more = []; is = sym (append_nil_of (order done 1)) }
  where
    append_nil_of : (xs : List Rec) → xs ++ [] ≡ xs
    append_nil_of [] = refl
    append_nil_of (x ∷ xs) = ap (λ l. x ∷ l) (append_nil_of xs)
grows (y ∷ ys) done =
    let rest = grows ys (done ++ records_of y done ∷ []) in
    record {
      more = fresh_in (records_of y done) (1 + length done) ++ rest.more;
      is = rest.is ∙ (ap (λ l. l ++ rest.more) (order_more done (records_of y done) 1) ∙ append_assoc (order done 1) (fresh_in (records_of y done) (1 + length done)) rest.more);
    }

rid_within : (xs : List Rec) (r : Rec) → IsIn xs r → rid_in xs r ≤ length xs
rid_within [] r is = absurd is
rid_within (x ∷ xs) r is = by (is_same_rec r x) refl is (λ later. rid_within xs r later)
  where
    by : (b : Bool) → is_same_rec r x ≡ b → IsIn (x ∷ xs) r → (IsIn xs r → rid_in xs r ≤ length xs) → (if b then 1 else rid_in xs r + 1) ≤ suc (length xs)
    by true e here rest = omega arith
    by false e (inl same) rest = let yes = ap (λ (q : Rec). is_same_rec r q) same in let self = same_rec-refl r in absurd (clash (is_same_rec r x) (sym yes ∙ self) e)
      where
        clash : (b : Bool) → b ≡ true → b ≡ false → ⊥
        clash true t f = cc
        clash false t f = cc
    by false e (inr later) rest = let low = rest later in omega (arith, low)

in_at : (lists : List (List Rec)) (all : List Rec) (k : ℕ) → AllAreIn lists all → k < length lists → AreIn (get_or lists k []) all
in_at [] all k are low = absurd (omega (arith, low))
in_at (l ∷ lists) all zero are low = are.0
in_at (l ∷ lists) all (suc k) are low = in_at lists all k are.1 (omega (arith, low))

rids_within : (xs more rs : List Rec) → AreIn rs xs → All (λ rid. rid ≤ length xs) (map (rid_in (xs ++ more)) rs)
rids_within xs more [] are = All-nil (λ rid. rid ≤ length xs)
rids_within xs more (r ∷ rs) are =
    All-cons (λ rid. rid ≤ length xs) (rid_in (xs ++ more) r) (map (rid_in (xs ++ more)) rs)
    (subst (λ n. n ≤ length xs) (sym (rid_more xs more r are.0)) (rid_within xs r are.0)) (rids_within xs more rs are.1)

put_all : (P : ℕ → Type 0) (x : ℕ) (xs : List ℕ) → P x → All P xs → All P (put_by (λ rid. rid) x xs)
put_all P x [] p all = All-cons P x [] p (All-nil P)
put_all P x (y ∷ ys) p all = by (nat_le x y) (put_all P x ys p (All-tail P y ys all))
  where
    by : (b : Bool) → All P (put_by (λ rid. rid) x ys) → All P (if b then x ∷ y ∷ ys else y ∷ put_by (λ rid. rid) x ys)
    by true rest = All-cons P x (y ∷ ys) p all
    by false rest = All-cons P y (put_by (λ rid. rid) x ys) (All-head P y ys all) rest

sorted_all : (P : ℕ → Type 0) (xs : List ℕ) → All P xs → All P (sorted_by (λ rid. rid) xs)
sorted_all P [] all = All-nil P
sorted_all P (x ∷ xs) all = put_all P x (sorted_by (λ rid. rid) xs) (All-head P x xs all) (sorted_all P xs (All-tail P x xs all))

put_length : (x : ℕ) (xs : List ℕ) → length (put_by (λ rid. rid) x xs) ≡ suc (length xs)
put_length x [] = refl
put_length x (y ∷ ys) = by (nat_le x y) (put_length x ys)
  where
    by : (b : Bool) → length (put_by (λ rid. rid) x ys) ≡ suc (length ys) → length (if b then x ∷ y ∷ ys else y ∷ put_by (λ rid. rid) x ys) ≡ suc (suc (length ys))
    by true e = refl
    by false e = ap suc e

sorted_length : (xs : List ℕ) → length (sorted_by (λ rid. rid) xs) ≡ length xs
sorted_length [] = refl
sorted_length (x ∷ xs) = put_length x (sorted_by (λ rid. rid) xs) ∙ ap suc (sorted_length xs)

-- the versions up to one of them have its records, and none of their rids is over the number of these
pub rids_below : (vs : List Version) (k : ℕ) → k < length vs → All (λ rid. rid ≤ length (order_of (take (k + 1) vs))) (listed (order_of vs) (get_or (recs vs []) k []))
rids_below vs k low =
    sorted_all (λ rid. rid ≤ length (order_of (take (k + 1) vs))) (map (rid_in (order_of vs)) (get_or (recs vs []) k []))
    (subst (λ all. All (λ rid. rid ≤ length (order_of (take (k + 1) vs))) (map (rid_in all) (get_or (recs vs []) k []))) (sym whole)
    (rids_within (order_of (take (k + 1) vs)) g.more (get_or (recs vs []) k [])
    (subst (λ rs. AreIn rs (order_of (take (k + 1) vs))) (sym same) (in_at (recs (take (k + 1) vs) []) (order_of (take (k + 1) vs)) k (all_known (take (k + 1) vs)) short))))
  where
    g : Grows (drop (k + 1) vs) (recs (take (k + 1) vs) [])
    g = grows (drop (k + 1) vs) (recs (take (k + 1) vs) [])

    parts : recs vs [] ≡ recs (drop (k + 1) vs) (recs (take (k + 1) vs) [])
    parts = ap (λ l. recs l []) (sym (take-append-drop (k + 1) vs)) ∙ recs_append (take (k + 1) vs) (drop (k + 1) vs) []

    whole : order_of vs ≡ order_of (take (k + 1) vs) ++ g.more
    whole = ap (λ l. order l 1) parts ∙ g.is

    short : k < length (recs (take (k + 1) vs) [])
    short = omega (arith, low, length_recs (take (k + 1) vs) [], length-take-le (k + 1) vs (omega (arith, low)))

    same : get_or (recs vs []) k [] ≡ get_or (recs (take (k + 1) vs) []) k []
    same = ap (λ l. get_or l k []) parts ∙ recs_from (drop (k + 1) vs) (recs (take (k + 1) vs) []) k short

-- ---- what the pages have

heads : {X : Type 0} (x y : X) (xs ys : List X) → x ∷ xs ≡ y ∷ ys → x ≡ y
heads x y xs ys e = cc

tails : {X : Type 0} (x y : X) (xs ys : List X) → x ∷ xs ≡ y ∷ ys → xs ≡ ys
tails x y xs ys e = cc

pub record SameAt (f : Extent → Option (List ℕ)) (xs : List (VersionNumbers Extent)) (ys : List (VersionNumbers (List ℕ))) (i : ℕ) : Type 0 where
  pub list : f (get_or (map (λ v. v.list) xs) i nowhere) ≡ Some (get_or ys i none_rids).list
  pub rows : get_or (map (λ v. v.rows) xs) i 0 ≡ (get_or ys i none_rids).rows

same_at : (f : Extent → Option (List ℕ)) (xs : List (VersionNumbers Extent)) (ys : List (VersionNumbers (List ℕ))) (i : ℕ) → map (each_version f) xs ≡ map (each_version Some) ys → i < length xs → SameAt f xs ys i
same_at f [] ys i e low = absurd (omega (arith, low))
same_at f (x ∷ xs) [] i e low = cc
same_at f (x ∷ xs) (y ∷ ys) zero e low =
    let h = heads (each_version f x) (each_version Some y) (map (each_version f) xs) (map (each_version Some) ys) e in
    record { list = ap (λ (v : VersionNumbers (Option (List ℕ))). v.list) h; rows = ap (λ (v : VersionNumbers (Option (List ℕ))). v.rows) h }
same_at f (x ∷ xs) (y ∷ ys) (suc i) e low =
    let rest = same_at f xs ys i (tails (each_version f x) (each_version Some y) (map (each_version f) xs) (map (each_version Some) ys) e) (omega (arith, low)) in
    record { list = rest.list; rows = rest.rows }

same_sum : (f : Extent → Option (List ℕ)) (xs : List (VersionNumbers Extent)) (ys : List (VersionNumbers (List ℕ))) (k : ℕ) → map (each_version f) xs ≡ map (each_version Some) ys
    → sum_by (λ (v : VersionNumbers Extent). v.fresh) (take k xs) ≡ sum_by (λ (v : VersionNumbers (List ℕ)). v.fresh) (take k ys)
same_sum f xs ys zero e = refl
same_sum f [] [] (suc k) e = refl
same_sum f [] (y ∷ ys) (suc k) e = cc
same_sum f (x ∷ xs) [] (suc k) e = cc
same_sum f (x ∷ xs) (y ∷ ys) (suc k) e =
    let h = ap (λ (v : VersionNumbers (Option (List ℕ))). v.fresh) (heads (each_version f x) (each_version Some y) (map (each_version f) xs) (map (each_version Some) ys) e) in
    let rest = same_sum f xs ys k (tails (each_version f x) (each_version Some y) (map (each_version f) xs) (map (each_version Some) ys) e) in
    sum_by-cons (λ (v : VersionNumbers Extent). v.fresh) x (take k xs)
    ∙ (ap (λ n. n + sum_by (λ (v : VersionNumbers Extent). v.fresh) (take k xs)) h
    ∙ (ap (λ n. y.fresh + n) rest ∙ sym (sum_by-cons (λ (v : VersionNumbers (List ℕ)). v.fresh) y (take k ys))))

same_count : (f : Extent → Option (List ℕ)) (xs : List (VersionNumbers Extent)) (ys : List (VersionNumbers (List ℕ))) → map (each_version f) xs ≡ map (each_version Some) ys → length xs ≡ length ys
same_count f xs ys e = sym (length-map xs (each_version f)) ∙ (ap length e ∙ length-map ys (each_version Some))

-- the list of a version, and that it agrees
pub record Reads (ds : Dataset) (area : List ℕ) (s : Numbers) (vid : ℕ) : Type 0 where
  pub list : IsList area (list_of s vid) (rids_in ds vid)
  pub agrees : Agrees s vid (rids_in ds vid)

pub reads : (w : World) (ds : Dataset) (area : List ℕ) (s : Numbers) (vid : ℕ) → IsSetOf w ds area s → IsThere s vid → Reads ds area s vid
reads w ds area s vid of is = record {
  list = record { whole = read.0; spells = read.1 };
  agrees = record {
    count_is = sorted_length (map (rid_in all) (of_version (recs vs []) vid)) ∙ (length-map (of_version (recs vs []) vid) (rid_in all)
        ∙ sym (at.rows ∙ (shown_rows all vs [] (vid - 1) none_rids low ∙ ap (λ n. length (get_or (recs vs []) n [])) (zero_plus (vid - 1)))));
    below = subst (λ n. All (λ rid. rid ≤ n) (rids_in ds vid)) (sym count) (rids_below vs (vid - 1) low);
  };
}
  where
    vs : List Version
    vs = ds.cvd.versions

    all : List Rec
    all = order_of ds.cvd.versions

    f : Extent → Option (List ℕ)
    f = (readings_of area).list

    shown : List (VersionNumbers (List ℕ))
    shown = shown_versions (order_of ds.cvd.versions) [] ds.cvd.versions

    same : map (each_version (readings_of area).list) s.versions ≡ map (each_version Some) (shown_versions (order_of ds.cvd.versions) [] ds.cvd.versions)
    same = ap (λ x. x.versions) of.shows

    here : vid - 1 < length s.versions
    here = omega (arith, is.0, is.1)

    low : vid - 1 < length ds.cvd.versions
    low = omega (arith, here, same_count (readings_of area).list s.versions (shown_versions (order_of ds.cvd.versions) [] ds.cvd.versions) same, shown_count (order_of ds.cvd.versions) ds.cvd.versions [])

    at : SameAt (readings_of area).list s.versions (shown_versions (order_of ds.cvd.versions) [] ds.cvd.versions) (vid - 1)
    at = same_at (readings_of area).list s.versions (shown_versions (order_of ds.cvd.versions) [] ds.cvd.versions) (vid - 1) same here

    zero_plus : (n : ℕ) → 0 + n ≡ n
    zero_plus n = omega arith

    found : (readings_of area).list (list_of s vid) ≡ Some (rids_in ds vid)
    found =
        at.list ∙ ap Some (shown_list (order_of ds.cvd.versions) ds.cvd.versions [] (vid - 1) none_rids low
        ∙ ap (λ n. listed (order_of ds.cvd.versions) (get_or (recs ds.cvd.versions []) n [])) (zero_plus (vid - 1)))

    read : (length (extent_bytes area (list_of s vid)) ≡ (list_of s vid).bytes) × Spells (extent_bytes area (list_of s vid)) (rids_in ds vid)
    read = (list_is area (list_of s vid) (rids_in ds vid)).0 found

    next : vid - 1 + 1 ≡ vid
    next = omega (arith, is.0)

    zero_sum : sum_by (λ (v : VersionNumbers (List ℕ)). v.fresh) (take vid (shown_versions (order_of ds.cvd.versions) [] ds.cvd.versions)) + 0 ≡ length (order_of (take vid ds.cvd.versions))
    zero_sum = shown_sum (order_of ds.cvd.versions) ds.cvd.versions [] vid

    count : records_after s vid ≡ length (order_of (take (vid - 1 + 1) ds.cvd.versions))
    count =
        same_sum (readings_of area).list s.versions (shown_versions (order_of ds.cvd.versions) [] ds.cvd.versions) vid same
        ∙ (plus_zero (sum_by (λ (v : VersionNumbers (List ℕ)). v.fresh) (take vid (shown_versions (order_of ds.cvd.versions) [] ds.cvd.versions))) (length (order_of (take vid ds.cvd.versions))) zero_sum
        ∙ ap (λ n. length (order_of (take n ds.cvd.versions))) (sym next))
      where
        plus_zero : (n m : ℕ) → n + 0 ≡ m → n ≡ m
        plus_zero n m e = omega (arith, e)

-- ---- no list is damaged

one : (bytes xs ys : List ℕ) → Spells bytes xs → Spells bytes ys → xs ≡ ys
one bytes xs ys h k = h.listed ∙ ap rids_of (ranges-same 0 0 h.ranges k.ranges h.apart k.apart (sym h.written ∙ k.written)) ∙ sym k.listed

pub not_bad : (w : World) (ds : Dataset) (area : List ℕ) (s : Numbers) (vid : ℕ) → IsSetOf w ds area s → IsThere s vid → IsBadList area s vid → ⊥
not_bad w ds area s vid of is (inl (inl short)) = let r = reads w ds area s vid of is in omega (arith, short, r.list.whole)
not_bad w ds area s vid of is (inl (inr none)) = let r = reads w ds area s vid of is in none (rids_in ds vid) r.list.spells
not_bad w ds area s vid of is (inr off) =
    let r = reads w ds area s vid of is in
    off.off (subst (Agrees s vid) (one (extent_bytes area (list_of s vid)) (rids_in ds vid) off.rids r.list.spells off.list.spells) r.agrees)

pub lists_spared : (w : World) (ds : Dataset) (area : List ℕ) (s : Numbers) (vids : List ℕ) (e : FetchErr) → IsSetOf w ds area s → All (IsThere s) vids → RefusesLists e area s vids → IsSpared e
lists_spared w ds area s vids Host of there why = tt
lists_spared w ds area s vids Memory of there why = tt
lists_spared w ds area s vids (Damaged page) of there why = not_bad w ds area s why.vid of (All-contains (IsThere s) vids why.vid there why.among) why.bad

pub lists_shown : (w : World) (ds : Dataset) (area : List ℕ) (s : Numbers) (vids : List ℕ) (lists : List (List ℕ)) → IsSetOf w ds area s → All (IsThere s) vids
    → AllZip (λ vid. IsList area (list_of s vid)) vids lists → lists ≡ map (rids_in ds) vids
lists_shown w ds area s [] [] of there are = refl
lists_shown w ds area s [] (l ∷ lists) of there are = absurd are
lists_shown w ds area s (v ∷ vids) [] of there are = absurd are
lists_shown w ds area s (v ∷ vids) (l ∷ lists) of there are =
    let r = reads w ds area s v of (All-head (IsThere s) v vids there) in
    ap (λ x. x ∷ lists) (one (extent_bytes area (list_of s v)) l (rids_in ds v) are.0.spells r.list.spells)
    ∙ ap (λ x. rids_in ds v ∷ x) (lists_shown w ds area s vids lists of (All-tail (IsThere s) v vids there) are.1)
