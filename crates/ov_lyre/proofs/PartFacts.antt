-- Lists of vids that ascend, and sums over them.
use Rattle.std.proofs.Common.{◌≡◌, ℕ, zero, suc, ◌+◌, ◌<◌, ◌≤◌, Bool, true, false, not, cond, ◌⊎◌, List, [], ◌∷◌, ◌++◌, length, filter, take, get_or, refl, sym, ◌∙◌, ap, subst, inl, inr, arith}
use Rattle.std.proofs.lemmas.Bool.{cases_Bool, cond-true, cond-false}
use Rattle.std.proofs.lemmas.List.{take_more, append-nil}
use Rattle.std.proofs.lemmas.List.Elements.{filter_more}
use Rattle.ov_graph.specs.Trees.{VersionTree, total}
use Rattle.ov_graph.specs.Splits.{Ascends, Has, HasParents, IsPart, edges}

pub total-append : (f : ℕ → ℕ) (xs ys : List ℕ) → total f (xs ++ ys) ≡ total f xs + total f ys
total-append f [] ys = omega arith
total-append f (x ∷ xs) ys = omega (arith, total-append f xs ys)

pub total-both : (f : ℕ → ℕ) (p : ℕ → Bool) (xs : List ℕ) → total f (filter (λ x. not (p x)) xs) + total f (filter p xs) ≡ total f xs
total-both f p [] = refl
total-both f p (x ∷ xs) =
    let rest = total-both f p xs in
    elim (cases_Bool (p x)) [
      | inl kept ↦ rw (kept) (omega arith)
      | inr left ↦ rw (left) (omega arith)
    ]

pub total-same : (f g : ℕ → ℕ) (xs : List ℕ) → ((x : ℕ) → Has xs x → f x ≡ g x) → total f xs ≡ total g xs
total-same f g [] same = refl
total-same f g (x ∷ xs) same = let here = same x (inl refl) in let rest = total-same f g xs (λ y has. same y (inr has)) in omega arith

pub total-le : (f g : ℕ → ℕ) (xs : List ℕ) → ((x : ℕ) → f x ≤ g x) → total f xs ≤ total g xs
total-le f g [] le = omega arith
total-le f g (x ∷ xs) le = let here = le x in let rest = total-le f g xs le in omega arith

pub total-ones : (xs : List ℕ) → total (λ _. 1) xs ≡ length xs
total-ones [] = refl
total-ones (x ∷ xs) = let rest = total-ones xs in omega arith

pub le-total : (f : ℕ → ℕ) (xs : List ℕ) (x : ℕ) → Has xs x → f x ≤ total f xs
le-total f [] x has = absurd has
le-total f (y ∷ xs) x (inl is) = rw is (omega arith)
le-total f (y ∷ xs) x (inr has) = let rest = le-total f xs x has in omega arith

pub total-filter-le : (f : ℕ → ℕ) (p : ℕ → Bool) (xs : List ℕ) → total f (filter p xs) ≤ total f xs
total-filter-le f p xs = let both = total-both f p xs in omega arith

pub Ascends-weaker : (low from high : ℕ) (xs : List ℕ) → low ≤ from → Ascends from high xs → Ascends low high xs
Ascends-weaker low from high [] le up = tt
Ascends-weaker low from high (x ∷ xs) le up = (omega arith, up.1, up.2)

pub Ascends-filter : (p : ℕ → Bool) (low high : ℕ) (xs : List ℕ) → Ascends low high xs → Ascends low high (filter p xs)
Ascends-filter p low high [] up = tt
Ascends-filter p low high (x ∷ xs) up =
    elim (cases_Bool (p x)) [
      | inl kept ↦ rw kept (up.0, up.1, Ascends-filter p x high xs up.2)
      | inr left ↦ rw left (Ascends-weaker low x high (filter p xs) (omega arith) (Ascends-filter p x high xs up.2))
    ]

-- where a vid of an ascending list lies
pub record Lies (low high vid : ℕ) : Type 0 where
  pub above : low < vid
  pub within : vid ≤ high

pub lies : (low high : ℕ) (xs : List ℕ) (vid : ℕ) → Ascends low high xs → Has xs vid → Lies low high vid
lies low high [] vid up has = absurd has
lies low high (x ∷ xs) vid up (inl is) = rw (sym is) (record { above = up.0; within = up.1 })
lies low high (x ∷ xs) vid up (inr has) = let rest = lies x high xs vid up.2 has in let a = rest.above in record { above = omega arith; within = rest.within }

pub has-at : (xs : List ℕ) (k : ℕ) → k < length xs → Has xs (get_or xs k 0)
has-at [] k lt = absurd (omega arith)
has-at (x ∷ xs) zero lt = inl refl
has-at (x ∷ xs) (suc k) lt = inr (has-at xs k (omega arith))

pub has-left : (xs ys : List ℕ) (x : ℕ) → Has xs x → Has (xs ++ ys) x
has-left [] ys x has = absurd has
has-left (y ∷ xs) ys x (inl is) = inl is
has-left (y ∷ xs) ys x (inr has) = inr (has-left xs ys x has)

pub has-right : (xs ys : List ℕ) (x : ℕ) → Has ys x → Has (xs ++ ys) x
has-right [] ys x has = has
has-right (y ∷ xs) ys x has = inr (has-right xs ys x has)

pub has-cases : (xs ys : List ℕ) (x : ℕ) → Has (xs ++ ys) x → Has xs x ⊎ Has ys x
has-cases [] ys x has = inr has
has-cases (y ∷ xs) ys x (inl is) = inl (inl is)
has-cases (y ∷ xs) ys x (inr has) = elim (has-cases xs ys x has) [ inl l ↦ inl (inr l) | inr r ↦ inr r ]

pub has-filter : (p : ℕ → Bool) (xs : List ℕ) (x : ℕ) → Has xs x → p x ≡ true → Has (filter p xs) x
has-filter p [] x has passes = absurd has
has-filter p (y ∷ xs) x (inl is) passes = let kept : p y ≡ true = rw is passes in rw kept (inl is)
has-filter p (y ∷ xs) x (inr has) passes =
    let rest = has-filter p xs x has passes in
    elim (cases_Bool (p y)) [ inl kept ↦ rw kept (inr rest) | inr left ↦ rw left rest ]

-- what a filter has
pub record Kept (p : ℕ → Bool) (xs : List ℕ) (x : ℕ) : Type 0 where
  pub has : Has xs x
  pub passes : p x ≡ true

kept-first : (p : ℕ → Bool) (y : ℕ) (xs : List ℕ) (x : ℕ) → (Has (filter p xs) x → Kept p xs x) → p y ≡ true → Has (y ∷ filter p xs) x → Kept p (y ∷ xs) x
kept-first p y xs x rest kept (inl is) = record { has = inl is; passes = rw (sym is) kept }
kept-first p y xs x rest kept (inr there) = let found = rest there in record { has = inr found.has; passes = found.passes }

pub filter-has : (p : ℕ → Bool) (xs : List ℕ) (x : ℕ) → Has (filter p xs) x → Kept p xs x
filter-has p [] x has = absurd has
filter-has p (y ∷ xs) x has =
    elim (cases_Bool (p y)) [
      | inl kept ↦ kept-first p y xs x (filter-has p xs x) kept (subst (λ (ys : List ℕ). Has ys x) (cond-true (p y) (y ∷ filter p xs) (filter p xs) kept) has)
      | inr left ↦
          let rest = filter-has p xs x (subst (λ (ys : List ℕ). Has ys x) (cond-false (p y) (y ∷ filter p xs) (filter p xs) left) has) in
          record { has = inr rest.has; passes = rest.passes }
    ]

pub filter-none : (p : ℕ → Bool) (xs : List ℕ) → ((x : ℕ) → Has xs x → p x ≡ false) → filter p xs ≡ []
filter-none p [] none = refl
filter-none p (x ∷ xs) none = rw (none x (inl refl)) (filter-none p xs (λ y has. none y (inr has)))

pub filter-append : (p : ℕ → Bool) (xs ys : List ℕ) → filter p (xs ++ ys) ≡ filter p xs ++ filter p ys
filter-append p [] ys = refl
filter-append p (x ∷ xs) ys =
    let rest = filter-append p xs ys in
    elim (cases_Bool (p x)) [ inl kept ↦ rw kept (ap (λ (zs : List ℕ). x ∷ zs) rest) | inr left ↦ rw left rest ]

pub length-ascends : (low high : ℕ) (xs : List ℕ) → Ascends low high xs → low ≤ high → low + length xs ≤ high
length-ascends low high [] up le = omega arith
length-ascends low high (x ∷ xs) up le = let low_x = up.0 in let rest = length-ascends x high xs up.2 up.1 in omega arith

-- one value of a function is raised, over an ascending list that has it
pub total-raised : (p : ℕ → Bool) (f g : ℕ → ℕ) (at more : ℕ) → g at ≡ f at + more → ((x : ℕ) → (x ≡ at → ⊥) → g x ≡ f x) → (low high : ℕ) (xs : List ℕ) → Ascends low high xs → Has xs at → total g (filter p xs) ≡ total f (filter p xs) + cond (p at) more 0
total-raised p f g at more raised same low high [] up has = absurd has
total-raised p f g at more raised same low high (x ∷ xs) up (inl is) =
    let rest : total g (filter p xs) ≡ total f (filter p xs) = total-same g f (filter p xs) (λ y there. same y (λ e. let k = filter-has p xs y there in let a = (lies x high xs y up.2 k.has).above in absurd (omega arith))) in
    elim (cases_Bool (p at)) [
      | inl kept ↦ let here : p x ≡ true = rw is kept in rw (here, kept) (let v : g x ≡ f x + more = rw is raised in omega arith)
      | inr left ↦ let here : p x ≡ false = rw is left in rw (here, left) (omega arith)
    ]
total-raised p f g at more raised same low high (x ∷ xs) up (inr has) =
    let rest = total-raised p f g at more raised same x high xs up.2 has in
    let other : g x ≡ f x = same x (λ e. let a = (lies x high xs at up.2 has).above in absurd (omega arith)) in
    elim (cases_Bool (p x)) [
      | inl kept ↦ rw kept (omega arith)
      | inr left ↦ rw left rest
    ]

pub part-long : (tree : VersionTree) (count : ℕ) (part : List ℕ) → IsPart tree count part → length part ≤ count
part-long tree count part is = let long = length-ascends 0 count part is.ascends (omega arith) in omega arith

-- the vid at a place of a part
pub part-at : (tree : VersionTree) (count : ℕ) (part : List ℕ) → IsPart tree count part → (k : ℕ) → k < length part → Lies 0 count (get_or part k 0)
part-at tree count part is k lt = lies 0 count part (get_or part k 0) is.ascends (has-at part k lt)

pub edge-at : (part : List ℕ) (k : ℕ) → 0 < k → k < length part → Has (edges part) (get_or part k 0)
edge-at [] k pos lt = absurd (omega arith)
edge-at (top ∷ rest) zero pos lt = absurd (omega arith)
edge-at (top ∷ rest) (suc k) pos lt = has-at rest k (omega arith)

pub edge-has : (part : List ℕ) (vid : ℕ) → Has (edges part) vid → Has part vid
edge-has [] vid has = has
edge-has (top ∷ rest) vid has = inr has

pub total-take : (f : ℕ → ℕ) (xs : List ℕ) (k : ℕ) → k < length xs → total f (take (k + 1) xs) ≡ total f (take k xs) + f (get_or xs k 0)
total-take f xs k lt = ap (total f) (take_more xs k 0 lt) ∙ total-append f (take k xs) (get_or xs k 0 ∷ []) ∙ omega arith

-- the parts of an ascending list round one of its vids
pub record Round (low high : ℕ) (xs : List ℕ) (vid : ℕ) (ys : List ℕ) : Type 0 where
  pub before : (x : ℕ) → Has xs x → x < vid
  pub front : Ascends low high xs
  pub after : (x : ℕ) → Has ys x → vid < x

pub round : (low high : ℕ) (xs : List ℕ) (vid : ℕ) (ys : List ℕ) → Ascends low high (xs ++ vid ∷ ys) → Round low high xs vid ys
round low high [] vid ys up = record { before = λ x has. absurd has; front = tt; after = λ x has. (lies vid high ys x up.2 has).above }
round low high (y ∷ xs) vid ys up =
    let rest = round y high xs vid ys up.2 in
    let here = (lies y high (xs ++ vid ∷ ys) vid up.2 (has-right xs (vid ∷ ys) vid (inl refl))).above in
    record { before = below here rest.before; front = (up.0, up.1, rest.front); after = rest.after }
  where
    below : y < vid → ((x : ℕ) → Has xs x → x < vid) → (x : ℕ) → Has (y ∷ xs) x → x < vid
    below here rest x (inl is) = rw (sym is) here
    below here rest x (inr has) = rest x has

pub parents-has : (tree : VersionTree) (part xs : List ℕ) (vid : ℕ) → HasParents tree part xs → Has xs vid → Has part (tree.parent vid)
parents-has tree part [] vid parents has = absurd has
parents-has tree part (x ∷ xs) vid parents (inl is) = rw (sym is) parents.0
parents-has tree part (x ∷ xs) vid parents (inr has) = parents-has tree part xs vid parents.1 has

-- one more vid goes to a side, or not
pub filter-push : (p : ℕ → Bool) (part found : List ℕ) (k : ℕ) → k < length part → found ≡ filter p (take k part) → p (get_or part k 0) ≡ true → found ++ get_or part k 0 ∷ [] ≡ filter p (take (k + 1) part)
filter-push p part found k lt so_far kept =
    let y = get_or part k 0 in
    ap (λ (xs : List ℕ). xs ++ y ∷ []) so_far ∙ sym (filter_more p part k 0 lt ∙ ap (λ (xs : List ℕ). filter p (take k part) ++ xs) (cond-true (p y) (y ∷ []) [] kept))

pub filter-skip : (p : ℕ → Bool) (part found : List ℕ) (k : ℕ) → k < length part → found ≡ filter p (take k part) → p (get_or part k 0) ≡ false → found ≡ filter p (take (k + 1) part)
filter-skip p part found k lt so_far left =
    let y = get_or part k 0 in
    so_far ∙ sym (filter_more p part k 0 lt ∙ ap (λ (xs : List ℕ). filter p (take k part) ++ xs) (cond-false (p y) (y ∷ []) [] left) ∙ append-nil (filter p (take k part)))
