-- The rows of records.
use Rattle.std.proofs.Common.{◌≡◌, ℕ, zero, suc, ◌-◌, List, [], ◌∷◌, ◌++◌, map, get_or, refl, sym, ◌∙◌, ap, subst, inl, inr, append_assoc}
use Rattle.std.specs.List.{All}
use Rattle.std.proofs.lemmas.List.{map-append, append-nil}
use Rattle.std.proofs.lemmas.List.Elements.{All-nil}
use Rattle.std.proofs.Math.ListN.{get_or-map}
use Rattle.ov_value.specs.Rows.{key_cmp}
use Rattle.ov_value.specs.Shapes.{Shape}
use Rattle.ov_value.specs.Spelling.{IsRow}
use Rattle.ov_model.specs.Book.{Row, Version}
use Rattle.ov_model.specs.Lists.{IsIn, Rises}
use Rattle.ov_model.specs.Records.{Rec, recs, records_of, record_of, of_version, rows_at}
use Rattle.ov_catalog.specs.Told.{HaveRows}
use Rattle.ov_catalog.proofs.Members.{all_at, in_map}
use Rattle.law_partitions.specs.Pieces.{IsOfOne, AreOf}

abbrev pub rows : List Rec → List Row
rows rs = map (λ r. r.row) rs

own_rows : (ps : List ℕ) (done : List (List Rec)) (rs : List Row) → rows (map (record_of ps done) rs) ≡ rs
own_rows ps done [] = refl
own_rows ps done (row ∷ rs) = ap (λ l. row ∷ l) (own_rows ps done rs)

recs_rows : (vs : List Version) (done : List (List Rec)) → map rows (recs vs done) ≡ map rows done ++ map (λ (v : Version). v.rows) vs
recs_rows [] done = sym (append-nil (map rows done))
recs_rows (v ∷ vs) done =
    recs_rows vs (done ++ records_of v done ∷ [])
    ∙ ap (λ l. l ++ map (λ (u : Version). u.rows) vs) (map-append rows done (records_of v done ∷ []))
    ∙ append_assoc (map rows done) (rows (records_of v done) ∷ []) (map (λ (u : Version). u.rows) vs)
    ∙ ap (λ l. map rows done ++ l ∷ map (λ (u : Version). u.rows) vs) (own_rows v.parents done v.rows)

pub version_rows : (vs : List Version) (vid : ℕ) → rows (of_version (recs vs []) vid) ≡ rows_at vs vid
version_rows vs vid =
    sym (get_or-map rows (recs vs []) (vid - 1) [])
    ∙ ap (λ l. get_or l (vid - 1) []) (recs_rows vs [])

have_at : (schema : Shape) (vs : List Version) (k : ℕ) → HaveRows schema vs
    → Rises (key_cmp schema) (get_or (map (λ v. v.rows) vs) k []) × All (IsRow schema) (get_or (map (λ v. v.rows) vs) k [])
have_at schema [] k have = (tt, All-nil (IsRow schema))
have_at schema (v ∷ vs) zero have = have.0
have_at schema (v ∷ vs) (suc k) have = have_at schema vs k have.1

pub rise_at : (schema : Shape) (vs : List Version) (vid : ℕ) → HaveRows schema vs → Rises (key_cmp schema) (rows_at vs vid)
rise_at schema vs vid have = (have_at schema vs (vid - 1) have).0

pub row_is : (schema : Shape) (vs : List Version) (vid : ℕ) (r : Rec) → HaveRows schema vs → IsIn (of_version (recs vs []) vid) r → IsRow schema r.row
row_is schema vs vid r have is =
    all_at (IsRow schema) (rows_at vs vid) r.row (have_at schema vs (vid - 1) have).1
    (subst (λ l. IsIn l r.row) (version_rows vs vid) (in_map (λ x. x.row) (of_version (recs vs []) vid) r is))

one_is : (schema : Shape) (vs : List Version) (vids : List ℕ) (r : Rec) → HaveRows schema vs → IsOfOne (recs vs []) vids r → IsRow schema r.row
one_is schema vs [] r have is = absurd is
one_is schema vs (vid ∷ vids) r have (inl here) = row_is schema vs vid r have here
one_is schema vs (vid ∷ vids) r have (inr later) = one_is schema vs vids r have later

pub held_is : (schema : Shape) (vs : List Version) (vids : List ℕ) (rs : List Rec) (r : Rec) → HaveRows schema vs → AreOf (recs vs []) vids rs → IsIn rs r → IsRow schema r.row
held_is schema vs vids [] r have are is = absurd is
held_is schema vs vids (x ∷ rs) r have are (inl same) = subst (λ y. IsRow schema y.row) (sym same) (one_is schema vs vids x have are.0)
held_is schema vs vids (x ∷ rs) r have are (inr later) = held_is schema vs vids rs r have are.1 later
