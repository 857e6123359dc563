-- Whether conditions name a lineage, one after another.
use Rattle.std.proofs.Common.{◌≡◌, ◌<◌, ◌+◌, ◌++◌, ◌∷◌, ◌∙◌, [], ℕ, Bool, true, false, List, ap, refl, sym, length, map, drop, get_or, suc, add-one, drop-cons}
use Rattle.std.specs.Prelude.{◌||◌, not}
use Rattle.ov_model.specs.Asking.{cond_lineages, is_none_named}
use Rattle.ov_model.specs.Lists.{joined}
use Rattle.ov_model.specs.declared.query.Cond.{Cond}

abbrev pub some : List ℕ → Bool
some vids = not (is_none_named vids)

pub some_append : (xs ys : List ℕ) → some (xs ++ ys) ≡ (some xs || some ys)
some_append [] ys = refl
some_append (x ∷ xs) ys = refl

-- of three lists one after another
pub some_three : (xs ys zs : List ℕ) → some (xs ++ (ys ++ zs)) ≡ (some xs || (some ys || some zs))
some_three xs ys zs = some_append xs (ys ++ zs) ∙ ap (λ b. some xs || b) (some_append ys zs)

abbrev pub some_in : List Cond → Bool
some_in conds = some (joined (map cond_lineages conds))

some_next : (conds : List Cond) (cond : Cond) (i : ℕ) → i < length conds → cond ≡ get_or conds i cond
    → some_in (drop i conds) ≡ (some (cond_lineages cond) || some_in (drop (i + 1) conds))
some_next conds cond i below is =
    let here : drop i conds ≡ cond ∷ drop (i + 1) conds = rw (add-one i) (drop-cons conds i cond below ∙ ap (λ x. x ∷ drop (suc i) conds) (sym is)) in
    ap some_in here ∙ some_append (cond_lineages cond) (joined (map cond_lineages (drop (i + 1) conds)))

-- the condition at a place names none
pub some_more : (conds : List Cond) (cond : Cond) (i : ℕ) → i < length conds → cond ≡ get_or conds i cond → some (cond_lineages cond) ≡ false
    → some_in (drop i conds) ≡ some_in (drop (i + 1) conds)
some_more conds cond i below is none = some_next conds cond i below is ∙ ap (λ b. b || some_in (drop (i + 1) conds)) none

-- it names one
pub some_here : (conds : List Cond) (cond : Cond) (i : ℕ) → i < length conds → cond ≡ get_or conds i cond → some (cond_lineages cond) ≡ true
    → some_in (drop i conds) ≡ true
some_here conds cond i below is one = some_next conds cond i below is ∙ ap (λ b. b || some_in (drop (i + 1) conds)) one
