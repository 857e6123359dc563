use Rattle.std.proofs.Common.{◌≡◌, ◌≤◌, ◌*◌, ◌%◌, ◌^◌, refl, sym, ap, subst, arith}
use Rattle.std.proofs.Math.Nat.{pow-le-pow_right}
use Rattle.ov_segment.specs.Drafts.{Draft, Holds}
use Rattle.ov_segment.proofs.DraftLemmas.{held_null}
use Rattle.ov_segment.proofs.draft.RowDraft.push_null.Goals as goal

pub returns : goal.returns
returns c =
    let few : c.self.inside.count ≤ 63 = omega (arith, c.requires, ap (λ (d : Draft). d.count) c.self.view_is) in
    let most : 2 ^ c.self.inside.count ≤ 2 ^ 63 = pow-le-pow_right (omega arith) few in
    let bit : 1 * 2 ^ c.self.inside.count % 18446744073709551616 ≡ 2 ^ c.self.inside.count = omega (arith, most) in
    λ values h. held_null _ values _ _ (subst (λ (d : Draft). Holds d values) (sym c.self.view_is) h) (rw bit refl) refl
