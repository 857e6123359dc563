-- What the numbers of a World show is what the World shows.
use Rattle.std.proofs.Common.{◌≡◌, ℕ, ◌+◌, Bool, true, false, cond, List, [], ◌∷◌, ◌++◌, length, map, refl, sym, ◌∙◌, ap, subst, arith}
use Rattle.std.specs.Prelude.{Option, Some, None, if◌then◌else◌, find}
use Rattle.std.specs.Str.{bytes_eq}
use Rattle.std.proofs.lemmas.List.{length-map, length-append}
use Rattle.ov_host.specs.declared.area.Extent.{Extent}
use Rattle.ov_model.specs.Act.{log_lines, ls_line}
use Rattle.ov_model.specs.Book.{Version}
use Rattle.ov_model.specs.Records.{Rec, recs, records_of, fresh_in, order_of, weights}
use Rattle.ov_model.specs.World.{Dataset, World, first_set, named, set_named}
use Rattle.ov_model.proofs.Growing.{recs_more, length_recs}
use Rattle.ov_catalog.specs.Applying.{is_named}
use Rattle.ov_catalog.specs.Numbers.{VersionNumbers, SetNumbers, Numbers, each_version, each_set}
use Rattle.ov_catalog.specs.Shown.{Rids, Records, shown_versions, shown_set}
use Rattle.ov_catalog.specs.Stands.{Readings, asked, seen}
use Rattle.ov_listing.specs.Listed.{version_line, version_lines, shown_log, set_line, shown_cvds}

-- ---- what fills the lists isn't shown

lines_same : {L M : Type 0} (f : L → M) (vid : ℕ) (vs : List (VersionNumbers L)) → version_lines vid (map (each_version f) vs) ≡ version_lines vid vs
lines_same f vid [] = refl
lines_same f vid (v ∷ vs) = ap (λ lines. version_line vid v ∷ lines) (lines_same f (vid + 1) vs)

-- ---- the versions of a World

parents_shown : (parents : List ℕ) (rs : List Rec) (done : List (List Rec)) → map (λ p. p.0) (weights parents rs done) ≡ parents
parents_shown [] rs done = refl
parents_shown (p ∷ ps) rs done = ap (λ vids. p ∷ vids) (parents_shown ps rs done)

recs_long : (before : List Version) → length (recs before []) ≡ length before
recs_long before = length_recs before [] ∙ omega arith

lines_shown : (all : List Rec) (before vs : List Version) (vid : ℕ) (done : List (List Rec)) → vid ≡ length before + 1 → done ≡ recs before []
    → version_lines vid (shown_versions all done vs) ≡ log_lines before vs
lines_shown all before [] vid done at is = refl
lines_shown all before (v ∷ vs) vid done at is = λ i. record {
  vid = at i;
  rows = length v.rows;
  fresh = length (fresh_in (records_of v (is i)) (own i));
  parents = parents_shown v.parents (records_of v done) done i;
  message = v.message;
} ∷ lines_shown all (before ++ v ∷ []) vs (vid + 1) (done ++ records_of v done ∷ []) next more i
  where
    own : length done + 1 ≡ length before + 1
    own = ap (λ l. length l + 1) is ∙ ap (λ n. n + 1) (recs_long before)

    next : vid + 1 ≡ length (before ++ v ∷ []) + 1
    next = omega (arith, at, length-append before (v ∷ []))

    more : done ++ records_of v done ∷ [] ≡ recs (before ++ v ∷ []) []
    more = ap (λ l. l ++ records_of v l ∷ []) is ∙ sym (recs_more before v [])

versions_long : (all : List Rec) (done : List (List Rec)) (vs : List Version) → length (shown_versions all done vs) ≡ length vs
versions_long all done [] = refl
versions_long all done (v ∷ vs) = let rest = versions_long all (done ++ records_of v done ∷ []) vs in omega (arith, rest)

-- ---- one dataset

abbrev pub Sets : Type 0
Sets = List (SetNumbers Extent Extent)

abbrev pub Seen : Type 0
Seen = SetNumbers (Option Rids) (Option Records)

abbrev pub set_seen : Readings → SetNumbers Extent Extent → Seen
set_seen r s = each_set r.list r.segment s

abbrev pub set_asked : Dataset → Seen
set_asked d = each_set Some Some (shown_set d)

log_same : (r : Readings) (s : SetNumbers Extent Extent) (d : Dataset) → set_seen r s ≡ set_asked d → shown_log s ≡ log_lines [] d.cvd.versions
log_same r s d same =
    sym (lines_same r.list 1 s.versions)
    ∙ ap (λ (x : Seen). version_lines 1 x.versions) same
    ∙ lines_same Some 1 (shown_versions (order_of d.cvd.versions) [] d.cvd.versions)
    ∙ lines_shown (order_of d.cvd.versions) [] d.cvd.versions 1 [] refl refl

count_same : (r : Readings) (s : SetNumbers Extent Extent) (d : Dataset) → set_seen r s ≡ set_asked d → length s.versions ≡ length d.cvd.versions
count_same r s d same =
    sym (length-map s.versions (each_version r.list))
    ∙ ap (λ (x : Seen). length x.versions) same
    ∙ length-map (shown_versions (order_of d.cvd.versions) [] d.cvd.versions) (each_version Some)
    ∙ versions_long (order_of d.cvd.versions) [] d.cvd.versions

line_same : (r : Readings) (s : SetNumbers Extent Extent) (d : Dataset) → set_seen r s ≡ set_asked d → set_line s ≡ ls_line d
line_same r s d same = λ i. record { name = (same i).name; versions = count_same r s d same i; records = (same i).records }

-- ---- all of them

head_same : {X : Type 0} (x y : X) (xs ys : List X) → x ∷ xs ≡ y ∷ ys → x ≡ y
head_same x y xs ys e = cc

tail_same : {X : Type 0} (x y : X) (xs ys : List X) → x ∷ xs ≡ y ∷ ys → xs ≡ ys
tail_same x y xs ys e = cc

cons_nil : {X : Type 0} (x : X) (xs : List X) → x ∷ xs ≡ [] → ⊥
cons_nil x xs e = cc

none_some : {X : Type 0} (x : X) → None ≡ Some x → ⊥
none_some x e = cc

some_none : {X : Type 0} (x : X) → Some x ≡ None → ⊥
some_none x e = cc

some_same : {X : Type 0} (x y : X) → Some x ≡ Some y → x ≡ y
some_same x y e = cc

-- the dataset of a World that numbers are of
abbrev pub IsOf : Readings → SetNumbers Extent Extent → Dataset → Type 0
IsOf r s d = set_seen r s ≡ set_asked d

pub found_same : (r : Readings) (name : List ℕ) (ss : Sets) (ds : List Dataset) (s : SetNumbers Extent Extent)
    → map (set_seen r) ss ≡ map set_asked ds → find (is_named name) ss ≡ Some s → (d : Dataset) × (first_set (named name) ds ≡ Some d) × IsOf r s d
found_same r name [] ds s same found = absurd (none_some s found)
found_same r name (x ∷ xs) [] s same found = absurd (cons_nil _ _ same)
found_same r name (x ∷ xs) (d ∷ ds) s same found =
    by (bytes_eq x.name name) (bytes_eq d.cvd.name name) (ap (λ (y : Seen). bytes_eq y.name name) first) found
    (found_same r name xs ds s (tail_same (set_seen r x) (set_asked d) (map (set_seen r) xs) (map set_asked ds) same))
  where
    first : set_seen r x ≡ set_asked d
    first = head_same (set_seen r x) (set_asked d) (map (set_seen r) xs) (map set_asked ds) same

    by : (t u : Bool) → t ≡ u → cond t (Some x) (find (is_named name) xs) ≡ Some s
        → (find (is_named name) xs ≡ Some s → (e : Dataset) × (first_set (named name) ds ≡ Some e) × IsOf r s e)
        → (e : Dataset) × ((if u then Some d else first_set (named name) ds) ≡ Some e) × IsOf r s e
    by true true e f later = (d, refl, subst (λ y. IsOf r y d) (some_same x s f) first)
    by true false e f later = cc
    by false true e f later = cc
    by false false e f later = later f

none_same : (r : Readings) (name : List ℕ) (ss : Sets) (ds : List Dataset)
    → map (set_seen r) ss ≡ map set_asked ds → find (is_named name) ss ≡ None → first_set (named name) ds ≡ None
none_same r name [] [] same none = refl
none_same r name [] (d ∷ ds) same none = absurd (cons_nil _ _ (sym same))
none_same r name (x ∷ xs) [] same none = absurd (cons_nil _ _ same)
none_same r name (x ∷ xs) (d ∷ ds) same none =
    by (bytes_eq x.name name) (bytes_eq d.cvd.name name) (ap (λ (y : Seen). bytes_eq y.name name) first) none
    (none_same r name xs ds (tail_same (set_seen r x) (set_asked d) (map (set_seen r) xs) (map set_asked ds) same))
  where
    first : set_seen r x ≡ set_asked d
    first = head_same (set_seen r x) (set_asked d) (map (set_seen r) xs) (map set_asked ds) same

    by : (t u : Bool) → t ≡ u → cond t (Some x) (find (is_named name) xs) ≡ None
        → (find (is_named name) xs ≡ None → first_set (named name) ds ≡ None) → (if u then Some d else first_set (named name) ds) ≡ None
    by true u e f later = absurd (some_none x f)
    by false true e f later = cc
    by false false e f later = later f

all_same : (r : Readings) (ss : Sets) (ds : List Dataset) → map (set_seen r) ss ≡ map set_asked ds → map set_line ss ≡ map ls_line ds
all_same r [] [] same = refl
all_same r [] (d ∷ ds) same = absurd (cons_nil _ _ (sym same))
all_same r (x ∷ xs) [] same = absurd (cons_nil _ _ same)
all_same r (x ∷ xs) (d ∷ ds) same = λ i. line_same r x d first i ∷ all_same r xs ds rest i
  where
    first : set_seen r x ≡ set_asked d
    first = head_same (set_seen r x) (set_asked d) (map (set_seen r) xs) (map set_asked ds) same

    rest : map (set_seen r) xs ≡ map set_asked ds
    rest = tail_same (set_seen r x) (set_asked d) (map (set_seen r) xs) (map set_asked ds) same

asked_sets : (ds : List Dataset) → map (each_set Some Some) (map shown_set ds) ≡ map set_asked ds
asked_sets [] = refl
asked_sets (d ∷ ds) = ap (λ xs. set_asked d ∷ xs) (asked_sets ds)

pub sets_same : (r : Readings) (n : Numbers Extent Extent) (w : World) → seen r n ≡ asked w → map (set_seen r) n.sets ≡ map set_asked w.sets
sets_same r n w same = ap (λ (m : Numbers (Option Rids) (Option Records)). m.sets) same ∙ asked_sets w.sets

-- ---- of a World

pub log_shown : (r : Readings) (n : Numbers Extent Extent) (w : World) (name : List ℕ) (s : SetNumbers Extent Extent)
    → seen r n ≡ asked w → find (is_named name) n.sets ≡ Some s
    → (d : Dataset) × (set_named w name ≡ Some d) × (shown_log s ≡ log_lines [] d.cvd.versions)
log_shown r n w name s same found =
    let of = found_same r name n.sets w.sets s (sets_same r n w same) found
    in (of.0, of.1, log_same r s of.0 of.2)

pub none_shown : (r : Readings) (n : Numbers Extent Extent) (w : World) (name : List ℕ)
    → seen r n ≡ asked w → find (is_named name) n.sets ≡ None → set_named w name ≡ None
none_shown r n w name same none = none_same r name n.sets w.sets (sets_same r n w same) none

pub cvds_shown : (r : Readings) (n : Numbers Extent Extent) (w : World) → seen r n ≡ asked w → shown_cvds n ≡ map ls_line w.sets
cvds_shown r n w same = all_same r n.sets w.sets (sets_same r n w same)
