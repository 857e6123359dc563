-- Lists of versions, one after another.
use Rattle.std.proofs.Common.{◌≡◌, ◌<◌, ◌≤◌, ◌+◌, ◌*◌, ◌/◌, ℕ, true, List, [], ◌∷◌, ◌++◌, length, take, drop, get_or, sym, ◌∙◌, ap, subst, arith}
use Rattle.std.specs.List.{AllZip, Contains, sum_by}
use Rattle.std.proofs.lemmas.List.{take_more, take-append-drop}
use Rattle.std.proofs.lemmas.List.Sums.{sum_by_push, sum_by-append}
use Rattle.ov_host.specs.Extent.{pages_of}
use Rattle.ov_host.specs.Host.{State}
use Rattle.ov_fetch.specs.declared.errors.FetchErr.{FetchErr}
use Rattle.ov_fetch.specs.declared.errors.FetchErr.TheVariants.{Host, Memory, Damaged}
use Rattle.ov_fetch.specs.Extents.{Looked, page_bytes, IsList}
use Rattle.ov_fetch.proofs.Looks.{looked_at_all, looked_again, same_pages}
use Rattle.ov_read.specs.Agreement.{Numbers, list_of, Agrees}
use Rattle.ov_read.specs.Damages.{RefusesList, RefusesLists}
use Rattle.ov_read.specs.Sizes.{list_bytes_for}

pub bytes_below : (n : ℕ) → n ≤ 4096 * ((n + 4095) / 4096)
bytes_below n = omega arith

pub record HasLists (before now : State) (s : Numbers) (vids : List ℕ) (lists : List (List ℕ)) : Type 0 where
  pub looked : Looked before now
  pub fetched : now.fetched ≤ before.fetched + list_bytes_for s vids
  pub agree : AllZip (Agrees s) vids lists
  pub told : before.tells ≡ true → AllZip (λ vid. IsList (page_bytes before) (list_of s vid)) vids lists

pub starts : (at : State) (s : Numbers) (lists : List (List ℕ)) → lists ≡ [] → HasLists at at s [] lists
starts at s lists none = record {
  looked = looked_at_all at;
  fetched = omega arith;
  agree = subst (AllZip (Agrees s) []) (sym none) tt;
  told = λ told. subst (AllZip (λ vid. IsList (page_bytes at) (list_of s vid)) []) (sym none) tt;
}

zip_push : {A B : Type 0} (R : A → B → Type 0) (xs : List A) (ys : List B) (x : A) (y : B) → AllZip R xs ys → R x y → AllZip R (xs ++ x ∷ []) (ys ++ y ∷ [])
zip_push R [] [] x y all is = (is, tt)
zip_push R [] (b ∷ ys) x y all is = absurd all
zip_push R (a ∷ xs) [] x y all is = absurd all
zip_push R (a ∷ xs) (b ∷ ys) x y all is = (all.0, zip_push R xs ys x y all.1 is)

pub goes_on : (s0 s1 s2 : State) (s : Numbers) (vids : List ℕ) (vid : ℕ) (lists : List (List ℕ)) (rids : List ℕ) → HasLists s0 s1 s vids lists → Looked s1 s2 → s2.fetched ≤ s1.fetched + (list_of s vid).bytes
    → Agrees s vid rids → (s1.tells ≡ true → IsList (page_bytes s1) (list_of s vid) rids) → HasLists s0 s2 s (vids ++ vid ∷ []) (lists ++ rids ∷ [])
goes_on s0 s1 s2 s vids vid lists rids h looked fetched agrees list = record {
  looked = looked_again s0 s1 s2 h.looked looked;
  fetched = omega (arith, h.fetched, fetched, sums, bytes_below (list_of s vid).bytes);
  agree = zip_push (Agrees s) vids lists vid rids h.agree agrees;
  told = λ told. zip_push (λ v. IsList (page_bytes s0) (list_of s v)) vids lists vid rids (h.told told)
      (subst (λ (a : List ℕ). IsList a (list_of s vid) rids) (same_pages s0 s1 h.looked told) (list (h.looked.told ∙ told)));
}
  where
    sums : sum_by (λ v. pages_of (list_of s v)) (vids ++ vid ∷ []) ≡ sum_by (λ v. pages_of (list_of s v)) vids + pages_of (list_of s vid)
    sums = sum_by_push (λ v. pages_of (list_of s v)) vids vid

pub stops : (s0 s1 : State) (s : Numbers) (vids some : List ℕ) (vid : ℕ) (lists : List (List ℕ)) (e : FetchErr) → HasLists s0 s1 s some lists → Contains vids vid
    → (s1.tells ≡ true → RefusesList e (page_bytes s1) s vid) → s0.tells ≡ true → RefusesLists e (page_bytes s0) s vids
stops s0 s1 s vids some vid lists Host h among refuses told = tt
stops s0 s1 s vids some vid lists Memory h among refuses told = tt
stops s0 s1 s vids some vid lists (Damaged page) h among refuses told =
    let why = subst (λ (a : List ℕ). RefusesList (Damaged page) a s vid) (same_pages s0 s1 h.looked told) (refuses (h.looked.told ∙ told)) in
    record { vid = vid; among = among; bad = why.1; page_is = why.0 }

-- what was read so far and one list more are no more than all of them
pub within : (s : Numbers) (vids : List ℕ) (k before now more : ℕ) → k < length vids → now ≤ before + list_bytes_for s (take k vids) → more ≤ now + (list_of s (get_or vids k 0)).bytes
    → more ≤ before + list_bytes_for s vids
within s vids k before now more low h one = omega (arith, h, one, all, next, bytes_below (list_of s (get_or vids k 0)).bytes)
  where
    next : sum_by (λ vid. pages_of (list_of s vid)) (take (k + 1) vids) ≡ sum_by (λ vid. pages_of (list_of s vid)) (take k vids) + pages_of (list_of s (get_or vids k 0))
    next = ap (sum_by (λ vid. pages_of (list_of s vid))) (take_more vids k 0 low) ∙ sum_by_push (λ vid. pages_of (list_of s vid)) (take k vids) (get_or vids k 0)

    all : sum_by (λ vid. pages_of (list_of s vid)) vids ≡ sum_by (λ vid. pages_of (list_of s vid)) (take (k + 1) vids) + sum_by (λ vid. pages_of (list_of s vid)) (drop (k + 1) vids)
    all =
        ap (sum_by (λ vid. pages_of (list_of s vid))) (sym (take-append-drop (k + 1) vids))
        ∙ sum_by-append (λ vid. pages_of (list_of s vid)) (take (k + 1) vids) (drop (k + 1) vids)
