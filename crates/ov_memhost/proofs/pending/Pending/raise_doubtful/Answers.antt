use Rattle.std.proofs.Common.{◌<◌, ℕ, false, get_or, length, refl, ◌∙◌, inl, arith}
use Rattle.ov_memhost.specs.Pending.{stored_of}
use Rattle.ov_memhost.proofs.Doubts.{flag_by, flag_first, flag_more, flag_all}
use Rattle.ov_memhost.proofs.pending.Pending.raise_doubtful.Goals as goal

pub loop-from-init : goal.loop-from-init
loop-from-init c p below =
    let inside : p < length c.args.flags.now = omega (arith, c.raise.auto.flags)
    in flag_first c.args.self.now.synced p (get_or c.args.flags.now p false) (get_or c.raise.new.flags p false) (c.requires p inside)
    (λ there. c.raise.ensures.within p there inside inside) (λ before. c.raise.ensures.others p (inl before))

pub loop-from-preserved : goal.loop-from-preserved
loop-from-preserved c p below =
    let range : ℕ × ℕ = get_or c.deref-from-items.result.now c.loop-from.from-index (0, 0)
    in let inside : p < length c.loop-from.flags = omega (arith, c.raise-in-loop-from.auto.flags)
    in flag_by range.0 range.1 p (get_or c.loop-from.flags p false) (get_or c.raise-in-loop-from.new.flags p false)
    (λ from end. c.raise-in-loop-from.ensures.within p from end inside) (λ out. c.raise-in-loop-from.ensures.others p out)
    ∙ flag_more c.args.self.now.synced p c.loop-from.from-index c.args.self.now.written.items c.deref-from-items.result.now
    (get_or c.loop-from.flags p false) c.deref-from-items.ensures.value c.loop-from-test.true (c.loop-from.invariant p inside)

pub returns : goal.returns
returns c p below =
    flag_all (stored_of c.args.self.now) p c.loop-from.from-index c.args.self.now.written.items (get_or c.loop-from.flags p false) refl
    (omega (arith, c.deref-from-items.ensures.len)) (c.loop-from.invariant p (omega (arith, c.raise.auto.flags, c.loop-from.auto.flags)))
