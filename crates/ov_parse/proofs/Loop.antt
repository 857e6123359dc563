-- Reading items one after the other, as a loop does.
use Rattle.std.proofs.Common.{◌≡◌, ℕ, suc, ◌-◌, ◌+◌, ◌≤◌, ◌<◌, List, [], ◌∷◌, ◌++◌, Option, Some, None, refl, sym, ap, ◌∙◌, append_assoc, arith}
use Rattle.std.proofs.lemmas.List.{append-nil}
use Rattle.ov_model.specs.declared.query.Fixed.{Fixed}
use Rattle.ov_model.specs.declared.query.Symbol.{Symbol}
use Rattle.ov_parse.specs.declared.stop.Stop.{Stop}
use Rattle.ov_parse.specs.declared.stop.Stop.TheVariants.{Memory, Unspelled}
use Rattle.ov_model.specs.Reading.{◌>>=◌, Reading, eaten, more_at, with_front}
use Rattle.ov_parse.specs.Returning.{Fails}

regroup : {A : Type 0} (front : List A) (x : A) (read : Option (List A × List Symbol)) → with_front front (read >>= λ y. Some (x ∷ y.0, y.1)) ≡ with_front (front ++ x ∷ []) read
regroup {A} front x (Some y) = ap (λ (xs : List A). Some (xs, y.1)) (simp append_assoc)
regroup front x None = refl

-- one more item
pub goes_on : {A : Type 0} (between : Fixed) (item : Reading A) (front : List A) (count i : ℕ) (symbols behind : List Symbol) (x : A) (after : List Symbol) (total : Option (List A × List Symbol)) → i < count → eaten between symbols ≡ Some behind → item behind ≡ Some (x, after)
    → with_front front (more_at between item (count - i) symbols) ≡ total → with_front (front ++ x ∷ []) (more_at between item (count - (i + 1)) after) ≡ total
unfolding more_at
goes_on between item front count i symbols behind x after total lt e h so_far =
    let k : count - i ≡ suc (count - (i + 1)) = omega arith in
    let one : with_front front (more_at between item (count - i) symbols) ≡ with_front (front ++ x ∷ []) (more_at between item (count - (i + 1)) after) = rw (k, e, h) (regroup front x (more_at between item (count - (i + 1)) after)) in
    sym one ∙ so_far

-- an item that can't be read
pub ends : {A : Type 0} (between : Fixed) (item : Reading A) (stop : Stop) (front : List A) (count i : ℕ) (symbols behind : List Symbol) (total : Option (List A × List Symbol)) → i < count → eaten between symbols ≡ Some behind → Fails stop (item behind)
    → with_front front (more_at between item (count - i) symbols) ≡ total → Fails stop total
unfolding more_at
ends between item Memory front count i symbols behind total lt e h so_far = tt
ends {A} between item Unspelled front count i symbols behind total lt e h so_far =
    let k : count - i ≡ suc (count - (i + 1)) = omega arith in
    let one : with_front front (more_at between item (count - i) symbols) ≡ None = rw (k, e, h) refl in
    sym so_far ∙ one

-- no separator
pub is_over : {A : Type 0} (between : Fixed) (item : Reading A) (front : List A) (count i : ℕ) (symbols : List Symbol) (total : Option (List A × List Symbol)) → i < count → eaten between symbols ≡ None → with_front front (more_at between item (count - i) symbols) ≡ total → total ≡ Some (front, symbols)
unfolding more_at
is_over {A} between item front count i symbols total lt e so_far =
    let k : count - i ≡ suc (count - (i + 1)) = omega arith in
    let one : with_front front (more_at between item (count - i) symbols) ≡ Some (front, symbols) = rw (k, e) (ap (λ (xs : List A). Some (xs, symbols)) (append-nil front)) in
    sym so_far ∙ one

-- as many items as may be read
pub is_done : {A : Type 0} (between : Fixed) (item : Reading A) (front : List A) (count i : ℕ) (symbols : List Symbol) (total : Option (List A × List Symbol)) → count ≤ i → with_front front (more_at between item (count - i) symbols) ≡ total → total ≡ Some (front, symbols)
unfolding more_at
is_done {A} between item front count i symbols total le so_far =
    let k : count - i ≡ 0 = omega arith in
    let one : with_front front (more_at between item (count - i) symbols) ≡ Some (front, symbols) = rw k (ap (λ (xs : List A). Some (xs, symbols)) (append-nil front)) in
    sym so_far ∙ one
