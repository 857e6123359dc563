use Rattle.std.proofs.Common.{◌≡◌, ◌<◌, ◌≤◌, ℕ, List, [], ◌∷◌, length, get_or, refl, sym, ◌∙◌, ap, subst, arith}
use Rattle.ov_host.specs.declared.area.Extent.{Extent}
use Rattle.ov_catalog.specs.Sets.{set_in}
use Rattle.ov_read.specs.Agreement.{IsThere, Numbers, list_of}
use Rattle.ov_read.proofs.Numbered.{list_is, there}
use Rattle.ov_migrate.specs.Targets.{first_page}
use Rattle.ov_migrate.proofs.targets.first_page.Goals as goal

first_is : (s : Numbers) (vids : List ℕ) → 1 ≤ length vids → first_page s vids ≡ (list_of s (get_or vids 0 0)).page
first_is s [] some = absurd (omega (arith, some))
first_is s (vid ∷ vids) some = refl

pub returns-in-len1-up : goal.returns-in-len1-up
returns-in-len1-up c =
    let d = c.args.d.now in
    let s : Numbers = set_in d in
    let vids : List ℕ = c.as_slice.result.now in
    let same : c.as_slice.result.now ≡ c.args.target.now.versions = c.as_slice.ensures in
    let low : 0 < length c.args.target.now.versions = omega (arith, c.in-len1-up.len_at_least, ap (λ (l : List ℕ). length l) same) in
    let is : IsThere s (get_or c.as_slice.result.now 0 0) = subst (λ (l : List ℕ). IsThere s (get_or l 0 0)) (sym same) (c.requires 0 0 low) in
    ap (λ (e : Extent). e.page) (sym (list_is d (get_or vids 0 0) c.index.result.now (there d (get_or vids 0 0) is) c.index.ensures))
    ∙ sym (first_is s vids c.in-len1-up.len_at_least)
    ∙ ap (first_page s) same
