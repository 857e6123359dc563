-- The records of versions, taken out of a scan one after another.
use Rattle.std.proofs.Common.{◌≡◌, ◌<◌, ◌≤◌, ◌+◌, ℕ, suc, Result, Ok, Err, List, [], ◌∷◌, ◌++◌, length, map, take, get_or, refl, sym, ◌∙◌, ap, subst, arith}
use Rattle.std.specs.Prelude.{IfOk, MatchResult}
use Rattle.std.specs.List.{All, AllZip}
use Rattle.std.proofs.lemmas.List.{take_more}
use Rattle.std.proofs.lemmas.List.Elements.{All-nil, All-cons, All-head, All-tail}
use Rattle.std.proofs.lemmas.List.Sorted.{length_permutation}
use Rattle.ov_value.specs.Shapes.{Shape}
use Rattle.ov_segment.specs.declared.numbered.Record.{Record}
use Rattle.ov_fetch.specs.declared.scan.Scan.{Scan}
use Rattle.ov_fetch.specs.Scans.{AllFit, AllStand, IsSound, InKeyOrder as RowsInOrder, rows_at}
use Rattle.ov_catalog.proofs.Members.{all_at}
use Rattle.ov_records.specs.Records.{InKeyOrder}
use Rattle.law_commits.specs.Agreeing.{AreRids, EachAgrees}
use Rattle.law_commits.specs.Differing.{rids_of}
use Rattle.ov_read.specs.Agreement.{Numbers, records_after, rows_of}
use Rattle.ov_read.specs.Found.{IsListed, IsScanned}
use Rattle.ov_parents.specs.Parents.{IsCounted, IsParent}
use Rattle.ov_parents.specs.Taking.{StandAt}
use Rattle.ov_parents.proofs.Places.{all_fit, in_order, same_found, stand_at}
use Rattle.ov_parents.proofs.Repeats.{rids_moved, set_is}

-- ---- one more

zip_push : {A B : Type 0} (R : A → B → Type 0) (xs : List A) (ys : List B) (x : A) (y : B) → AllZip R xs ys → R x y → AllZip R (xs ++ x ∷ []) (ys ++ y ∷ [])
zip_push R [] [] x y all is = (is, tt)
zip_push R [] (b ∷ ys) x y all is = absurd all
zip_push R (a ∷ xs) [] x y all is = absurd all
zip_push R (a ∷ xs) (b ∷ ys) x y all is = (all.0, zip_push R xs ys x y all.1 is)

pub one_copied : (records : List Record) (picks : List (List ℕ)) (k : ℕ) (tables : List (List Record)) (item pick : List ℕ) (found : List Record) → k < length picks → item ≡ get_or picks k item → pick ≡ item
    → All (AllStand records) picks → ((none : Record) → found ≡ map (λ i. get_or records i none) pick) → AllZip (StandAt records) (take k picks) tables
    → AllZip (StandAt records) (take (k + 1) picks) (tables ++ found ∷ [])
one_copied records picks k tables item pick found low item_is pick_is stand are so_far =
    let here : AllStand records pick = subst (AllStand records) (sym (pick_is ∙ item_is)) (stand k item low) in
    subst (λ (ps : List (List ℕ)). AllZip (StandAt records) ps (tables ++ found ∷ [])) (sym (take_more picks k item low ∙ ap (λ (p : List ℕ). take k picks ++ p ∷ []) (sym (pick_is ∙ item_is))))
    (zip_push (StandAt records) (take k picks) tables pick found so_far (stand_at records pick found here are))

-- a single one
pub one_stands : (records : List Record) (picks : List (List ℕ)) (item pick : List ℕ) (found : List Record) → length picks ≡ 1 → item ≡ get_or picks 0 item → pick ≡ item → All (AllStand records) picks
    → ((none : Record) → found ≡ map (λ i. get_or records i none) pick) → AllZip (StandAt records) picks (found ∷ [])
one_stands records [] item pick found one item_is pick_is stand are = absurd (omega (arith, one))
one_stands records (p ∷ []) item pick found one item_is pick_is stand are =
    (subst (λ (q : List ℕ). StandAt records q found) (pick_is ∙ item_is) (stand_at records pick found (subst (AllStand records) (sym (pick_is ∙ item_is)) (stand 0 p (omega arith))) are), tt)
one_stands records (p ∷ q ∷ picks) item pick found one item_is pick_is stand are = absurd (omega (arith, one))

pub as_long : {A B : Type 0} (R : A → B → Type 0) (xs : List A) (ys : List B) → AllZip R xs ys → length ys ≡ length xs
as_long R [] [] all = refl
as_long R [] (y ∷ ys) all = absurd all
as_long R (x ∷ xs) [] all = absurd all
as_long R (x ∷ xs) (y ∷ ys) all = ap suc (as_long R xs ys all.1)

-- ---- what all of them are

pub ok_of : {X E : Type 0} (r : Result X E) (P P2 : X → Type 0) (Q : E → Type 0) → ((x : X) → P x → P2 x) → MatchResult r P Q → IfOk r P2
ok_of (Ok x) P P2 Q f h = f x h
ok_of (Err e) P P2 Q f h = tt

pub ok_on : {X E : Type 0} (r : Result X E) (P Q : X → Type 0) → ((x : X) → P x → Q x) → IfOk r P → IfOk r Q
ok_on (Ok x) P Q f h = f x h
ok_on (Err e) P Q f h = tt

-- the records at a version's pick have the rids of its list
listed_rids : (s : Numbers) (vid : ℕ) (records : List Record) (pick : List ℕ) (found : List Record) → IsCounted s → IsListed s records vid pick → StandAt records pick found
    → AreRids (rows_of s vid) s.records (rids_of found)
listed_rids s vid records pick found counted h at =
    subst (λ (l : List Record). AreRids (rows_of s vid) s.records (rids_of l)) (sym (same_found found h.found (sym at ∙ h.picked.at)))
    (subst (λ (n : ℕ). AreRids n s.records (rids_of h.found)) (length_permutation h.rids (rids_of h.found) h.picked.same ∙ h.agrees.count_is)
    (rids_moved s.records h.rids (rids_of h.found) h.picked.same
    (set_is s.records h.rids h.set (λ rid is. omega (arith, all_at (λ rid. rid ≤ records_after s vid) h.rids rid h.agrees.below is, counted vid)))))

pub each_agrees : (s : Numbers) (records : List Record) (vids : List ℕ) (picks : List (List ℕ)) (parents : List (List Record)) → IsCounted s → AllZip (IsListed s records) vids picks
    → AllZip (StandAt records) picks parents → EachAgrees s vids parents
each_agrees s records [] [] [] counted listed stand = tt
each_agrees s records [] [] (found ∷ parents) counted listed stand = absurd stand
each_agrees s records [] (pick ∷ picks) parents counted listed stand = absurd listed
each_agrees s records (vid ∷ vids) [] parents counted listed stand = absurd listed
each_agrees s records (vid ∷ vids) (pick ∷ picks) [] counted listed stand = absurd stand
each_agrees s records (vid ∷ vids) (pick ∷ picks) (found ∷ parents) counted listed stand =
    (listed_rids s vid records pick found counted listed.0 stand.0, each_agrees s records vids picks parents counted listed.1 stand.1)

zip_all : {A B : Type 0} (P : A → Type 0) (Q : B → Type 0) (R : A → B → Type 0) → ((x : A) (y : B) → R x y → P x → Q y) → (xs : List A) (ys : List B) → AllZip R xs ys → All P xs → All Q ys
zip_all P Q R f [] [] all ps = All-nil Q
zip_all P Q R f [] (y ∷ ys) all ps = absurd all
zip_all P Q R f (x ∷ xs) [] all ps = absurd all
zip_all P Q R f (x ∷ xs) (y ∷ ys) all ps = All-cons Q y ys (f x y all.0 (All-head P x xs ps)) (zip_all P Q R f xs ys all.1 (All-tail P x xs ps))

pub all_in_order : (schema : Shape) (scan : Scan) (parents : List (List Record)) → IsSound schema scan → AllZip (StandAt scan.records) scan.picks parents → All (InKeyOrder schema) parents
all_in_order schema scan parents sound stand =
    zip_all (λ pick. RowsInOrder schema (rows_at scan.records pick)) (InKeyOrder schema) (StandAt scan.records) (λ pick found at sorted. in_order schema scan.records pick found at sorted)
    scan.picks parents stand sound.ordered

pub each_fits : (schema : Shape) (scan : Scan) (parents : List (List Record)) → IsSound schema scan → AllZip (StandAt scan.records) scan.picks parents → All (AllFit schema) parents
each_fits schema scan parents sound stand =
    zip_all (λ pick. Unit {0}) (AllFit schema) (StandAt scan.records) (λ pick found at x. all_fit schema scan.records pick found sound.fit at)
    scan.picks parents stand (λ k d low. tt)

parents_of : (area : List ℕ) (s : Numbers) (records : List Record) (vids : List ℕ) (picks : List (List ℕ)) (parents : List (List Record)) → AllZip (IsScanned area s records) vids picks
    → AllZip (StandAt records) picks parents → AllZip (IsParent area s) vids parents
parents_of area s records [] [] [] scanned stand = tt
parents_of area s records [] [] (found ∷ parents) scanned stand = absurd stand
parents_of area s records [] (pick ∷ picks) parents scanned stand = absurd scanned
parents_of area s records (vid ∷ vids) [] parents scanned stand = absurd scanned
parents_of area s records (vid ∷ vids) (pick ∷ picks) [] scanned stand = absurd stand
parents_of area s records (vid ∷ vids) (pick ∷ picks) (found ∷ parents) scanned stand = (
  record { records = records; pick = pick; scanned = scanned.0; found_is = same_found found scanned.0.found (sym stand.0 ∙ scanned.0.picked.at) },
  parents_of area s records vids picks parents scanned.1 stand.1,
)

pub are_parents : (area : List ℕ) (s : Numbers) (scan : Scan) (vids : List ℕ) (parents : List (List Record)) → AllZip (IsScanned area s scan.records) vids scan.picks
    → AllZip (StandAt scan.records) scan.picks parents → AllZip (IsParent area s) vids parents
are_parents area s scan vids parents scanned stand = parents_of area s scan.records vids scan.picks parents scanned stand
