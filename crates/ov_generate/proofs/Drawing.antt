-- What is drawn hangs on no row.
use Rattle.std.proofs.Common.{◌≡◌, ◌≤◌, ◌+◌, ◌-◌, ◌/◌, ◌∙◌, ℕ, zero, suc, List, [], ap, refl, arith}
use Rattle.ov_model.specs.Book.{Row}
use Rattle.ov_model.specs.Generator.{Drawn, change_one, changes, child_of, fresh_row, parent_drawn}
use Rattle.ov_generate.specs.Reads.{state_behind}

changes_draw : (left count : ℕ) (d : Drawn (List Row)) → (changes left count d).state ≡ (changes left count (record { state = d.state; is = [] })).state
changes_draw zero count d = refl
changes_draw (suc left) count d = changes_draw left count (change_one count d.state d.is)

pub child_draws : (count vid x : ℕ) (rows : List Row) → (child_of count vid x rows).state ≡ (child_of count vid x []).state
child_draws count vid x rows = ap (λ (s : ℕ). (fresh_row (count + vid) s).state) (changes_draw (1 + count / 100) count (record { state = x; is = rows }))

-- behind one version more
pub behind_next : (seed count made x y : ℕ) → 1 ≤ made → x ≡ state_behind seed count (made - 1) → y ≡ (child_of count (made + 1) (parent_drawn (made + 1 - 1) x).state []).state
    → y ≡ state_behind seed count (made + 1 - 1)
behind_next seed count made x y some is drawn =
    let vid : made + 1 ≡ made - 1 + 2 = omega (arith, some)
    in let before : made + 1 - 1 ≡ made - 1 + 1 = omega (arith, some)
    in let later : suc (made - 1) ≡ made + 1 - 1 = omega (arith, some)
    in drawn ∙ (λ i. (child_of count (vid i) (parent_drawn (before i) (is i)).state []).state) ∙ ap (state_behind seed count) later
