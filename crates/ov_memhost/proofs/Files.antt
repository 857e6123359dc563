-- What a list of named files says as a map.
use Rattle.std.proofs.Common.{◌≡◌, ◌≢◌, ◌<◌, refl, sym, ◌∙◌, ap, ℕ, zero, suc, Bool, true, false, cond, List, [], ◌∷◌, ◌++◌, length, get_or, Some, None, String, string_bytes, Vec, Global, arith}
use Rattle.std.proofs.Math.ListN.{set}
use Rattle.std.proofs.lemmas.List.{get_or-map, map-append, map-set, length-map}
use Rattle.std.specs.Ordering.{eq_by_cmp, nat_cmp}
use Rattle.std.specs.Cmp.Lexicographic.{slice_cmp, texts_ties}
use Rattle.std.specs.FinMap.{find, get, insert, from_entries, get-insert, get-from_entries, from_entries_push, same_map, slice_cmp-IsAntisymmetric, nat_cmp-IsAntisymmetric}
use Rattle.std.specs.Str.{bytes_eq}
use Rattle.std.proofs.lemmas.Slice.Eq.{bytes_eq-Decides}
use Rattle.std.proofs.lemmas.Cmp.{nat_list_cmp_total}
use Rattle.ov_memhost.specs.Named.{entries_of, files_of, names_of, bytes_at, IsFirst, IsMissing}

pub entries_length : (files : List (String Global × Vec ℕ Global)) → length (entries_of files) ≡ length files
entries_length files = length-map {B = List ℕ × List ℕ} files (λ f. (string_bytes f.0, f.1.items))

-- the name of the file at a place
pub name_at : (files : List (String Global × Vec ℕ Global)) (place : ℕ) (file : String Global × Vec ℕ Global) → place < length files → file ≡ get_or files place file → get_or (names_of (entries_of files)) place [] ≡ string_bytes file.0
name_at files place file there is =
    let inside : place < length (entries_of files) = omega (arith, length-map {B = List ℕ × List ℕ} files (λ f. (string_bytes f.0, f.1.items)))
    in get_or-map (λ e. e.0) (entries_of files) place (string_bytes file.0, file.1.items) [] inside
    ∙ ap {A = List ℕ × List ℕ} (λ e. e.0) (get_or-map (λ f. (string_bytes f.0, f.1.items)) files place file (string_bytes file.0, file.1.items) there)
    ∙ ap {A = String Global × Vec ℕ Global} (λ f. string_bytes f.0) (sym is)

-- the bytes of the file at a place
pub file_at : (files : List (String Global × Vec ℕ Global)) (place : ℕ) (file : String Global × Vec ℕ Global) → place < length files → bytes_at (entries_of files) place ≡ (get_or files place file).1.items
file_at files place file there =
    let inside : place < length (entries_of files) = omega (arith, length-map {B = List ℕ × List ℕ} files (λ f. (string_bytes f.0, f.1.items)))
    in get_or-map (λ e. e.1) (entries_of files) place (string_bytes file.0, file.1.items) [] inside
    ∙ ap {A = List ℕ × List ℕ} (λ e. e.1) (get_or-map (λ f. (string_bytes f.0, f.1.items)) files place file (string_bytes file.0, file.1.items) there)

-- names that the test tells apart, and names that it doesn't
pub same_text : (xs ys : List ℕ) → bytes_eq xs ys ≡ true → xs ≡ ys
same_text xs ys is = (bytes_eq-Decides xs ys).0 is

pub other_text : (xs ys : List ℕ) → bytes_eq xs ys ≡ false → xs ≢ ys
other_text xs ys is same = let is_same : bytes_eq xs ys ≡ true = (bytes_eq-Decides xs ys).1 same in cc

tied : (name : List ℕ) → eq_by_cmp (slice_cmp nat_cmp) name name ≡ true
tied name = sym (texts_ties name name) ∙ (bytes_eq-Decides name name).1 refl

apart_by : (name other : List ℕ) (b : Bool) → bytes_eq name other ≡ b → name ≢ other → b ≡ false
apart_by name other true is apart = absurd (apart (same_text name other is))
apart_by name other false is apart = refl

apart : (name other : List ℕ) → other ≢ name → eq_by_cmp (slice_cmp nat_cmp) name other ≡ false
apart name other differ = sym (texts_ties name other) ∙ apart_by name other (bytes_eq name other) refl (λ same. differ (sym same))

-- a list in which no file has the name
pub find_missing : (name : List ℕ) (es : List (List ℕ × List ℕ)) → IsMissing name es → find (slice_cmp nat_cmp) name es ≡ None
find_missing name [] missing = refl
find_missing name (e ∷ es) missing =
    ap (λ b. cond b (Some e.1) (find (slice_cmp nat_cmp) name es)) (apart name e.0 (missing 0 (omega arith)))
    ∙ find_missing name es (λ p below. missing (suc p) (omega arith))

-- a list whose first file of the name stands at this place
pub find_first : (name : List ℕ) (es : List (List ℕ × List ℕ)) (place : ℕ) → IsFirst name es place → find (slice_cmp nat_cmp) name es ≡ Some (bytes_at es place)
find_first name [] place is = let there : place < 0 = is.there in absurd (omega arith)
find_first name (e ∷ es) zero is =
    ap (λ b. cond b (Some e.1) (find (slice_cmp nat_cmp) name es)) (ap (eq_by_cmp (slice_cmp nat_cmp) name) is.named ∙ tied name)
find_first name (e ∷ es) (suc place) is =
    let there : suc place < suc (length es) = is.there
    in ap (λ b. cond b (Some e.1) (find (slice_cmp nat_cmp) name es)) (apart name e.0 (is.first 0 (omega arith)))
    ∙ find_first name es place (record { there = omega arith; named = is.named; first = λ p below. is.first (suc p) (omega arith) })

slice_cmp-same : (q other : List ℕ) → eq_by_cmp (slice_cmp nat_cmp) q other ≡ true → q ≡ other
slice_cmp-same q other is = same_text q other (texts_ties q other ∙ is)

absorbed : (b : Bool) {X : Type 0} (x z y : X) → cond b x y ≡ cond b x (cond b z y)
absorbed true x z y = refl
absorbed false x z y = refl

swapped : (b d : Bool) (name other q : List ℕ) → eq_by_cmp (slice_cmp nat_cmp) q other ≡ b → eq_by_cmp (slice_cmp nat_cmp) q name ≡ d → other ≢ name → {X : Type 0} (x y z : X) → cond b x (cond d y z) ≡ cond d y (cond b x z)
swapped true true name other q is is' differ x y z =
    absurd (differ (sym (slice_cmp-same q other is) ∙ slice_cmp-same q name is'))
swapped true false name other q is is' differ x y z = refl
swapped false true name other q is is' differ x y z = refl
swapped false false name other q is is' differ x y z = refl

-- the first file of a name is replaced
find_replaced : (name : List ℕ) (es : List (List ℕ × List ℕ)) (place : ℕ) (bytes : List ℕ) → IsFirst name es place → (q : List ℕ) → find (slice_cmp nat_cmp) q (set es place (name, bytes)) ≡ cond (eq_by_cmp (slice_cmp nat_cmp) q name) (Some bytes) (find (slice_cmp nat_cmp) q es)
find_replaced name [] place bytes is q = let there : place < 0 = is.there in absurd (omega arith)
find_replaced name (e ∷ es) zero bytes is q =
    absorbed (eq_by_cmp (slice_cmp nat_cmp) q name) (Some bytes) (Some e.1) (find (slice_cmp nat_cmp) q es)
    ∙ ap (λ other. cond (eq_by_cmp (slice_cmp nat_cmp) q name) (Some bytes) (cond (eq_by_cmp (slice_cmp nat_cmp) q other) (Some e.1) (find (slice_cmp nat_cmp) q es))) (sym is.named)
find_replaced name (e ∷ es) (suc place) bytes is q =
    let there : suc place < suc (length es) = is.there
    in let later = find_replaced name es place bytes (record { there = omega arith; named = is.named; first = λ p below. is.first (suc p) (omega arith) }) q
    in ap (cond (eq_by_cmp (slice_cmp nat_cmp) q e.0) (Some e.1)) later
    ∙ swapped (eq_by_cmp (slice_cmp nat_cmp) q e.0) (eq_by_cmp (slice_cmp nat_cmp) q name) name e.0 q refl refl (is.first 0 (omega arith))
    (Some e.1) (Some bytes) (find (slice_cmp nat_cmp) q es)

-- what a file that is put in place of the first of its name makes of the map
pub map_replaced : (files : List (String Global × Vec ℕ Global)) (place : ℕ) (file : String Global × Vec ℕ Global) (name : List ℕ) → IsFirst name (entries_of files) place → string_bytes file.0 ≡ name → files_of (set files place file) ≡ insert (files_of files) name file.1.items
map_replaced files place file name is named =
    ap (λ es. from_entries {R = slice_cmp nat_cmp} es)
    (map-set (λ f. (string_bytes f.0, f.1.items)) files place file
    ∙ ap (λ n. set (entries_of files) place (n, file.1.items)) named)
    ∙ same_map nat_list_cmp_total (slice_cmp-IsAntisymmetric nat_cmp-IsAntisymmetric) _ _
    (λ q.
    get-from_entries nat_list_cmp_total (set (entries_of files) place (name, file.1.items)) q
    ∙ find_replaced name (entries_of files) place file.1.items is q
    ∙ ap (cond (eq_by_cmp (slice_cmp nat_cmp) q name) (Some file.1.items)) (sym (get-from_entries nat_list_cmp_total (entries_of files) q))
    ∙ sym (get-insert nat_list_cmp_total (files_of files) name file.1.items q))

-- what a file of a new name makes of the map
pub map_pushed : (files : List (String Global × Vec ℕ Global)) (file : String Global × Vec ℕ Global) → IsMissing (string_bytes file.0) (entries_of files) → files_of (files ++ file ∷ []) ≡ insert (files_of files) (string_bytes file.0) file.1.items
map_pushed files file missing =
    ap (λ es. from_entries {R = slice_cmp nat_cmp} es) (map-append (λ f. (string_bytes f.0, f.1.items)) files (file ∷ []))
    ∙ from_entries_push nat_list_cmp_total (slice_cmp-IsAntisymmetric nat_cmp-IsAntisymmetric) (entries_of files) (string_bytes file.0) file.1.items
    (find_missing (string_bytes file.0) (entries_of files) missing)

pub get_missing : (files : List (String Global × Vec ℕ Global)) (name : List ℕ) → IsMissing name (entries_of files) → get (files_of files) name ≡ None
get_missing files name missing = get-from_entries nat_list_cmp_total (entries_of files) name ∙ find_missing name (entries_of files) missing

pub get_first : (files : List (String Global × Vec ℕ Global)) (name : List ℕ) (place : ℕ) → IsFirst name (entries_of files) place → get (files_of files) name ≡ Some (bytes_at (entries_of files) place)
get_first files name place is = get-from_entries nat_list_cmp_total (entries_of files) name ∙ find_first name (entries_of files) place is
