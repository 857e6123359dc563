use Rattle.std.proofs.Common.{◌≡◌, ℕ, sym, ◌∙◌, ap, arith, false, eqb, length, get_or, List}
use Rattle.std.proofs.lemmas.List.{set-get_or}
use Rattle.ov_layout.specs.declared.part.Part.{Part}
use Rattle.ov_layout.specs.Parts.{has, serves}
use Rattle.ov_layout.specs.Index.{number_at}
use Rattle.ov_layout.specs.Flips.{leaving, is_empty}
use Rattle.ov_layout.proofs.VidLemmas.{has-get}
use Rattle.ov_layout.proofs.LeaveLemmas.{some-left, left-none, left-one, left-all, cost-left}
use Rattle.ov_layout.proofs.flips.leave.Goals.{then-is_among, else-is_among}
use Rattle.ov_layout.proofs.flips.leave.Goals as goal

pub place_of-at-requires-clause-is_there : goal.place_of-at-requires-clause-is_there
place_of-at-requires-clause-is_there c =
    let versions = c.args.versions.now in
    rw (c.loop-vid.invariant.left.numbers, c.number_at.ensures) (c.requires.placed _ (has-get versions c.loop-vid.vid-index 0 c.loop-vid-test.true))

pub is_among-requires : goal.is_among-requires
is_among-requires c = rw (c.as_slice.ensures, c.index-parts-at.is) (c.loop-vid.invariant.left.ascend _ _ c.place_of-at.ensures.bound)

pub loop-vid-preserved : goal.loop-vid-preserved
loop-vid-preserved c =
    let number : ℕ → ℕ = λ vid. number_at vid c.args.index.now in
    let versions = c.args.versions.now in
    let k = c.loop-vid.vid-index in
    let now = c.loop-vid.parts in
    let at = c.place_of-at.result in
    let d = c.index-parts-at.result in
    let h = c.loop-vid.invariant.left in
    let within = c.place_of-at.ensures.bound in
    let id : (get_or now at d).id ≡ number (get_or versions k 0) = c.place_of-at.ensures.place d ∙ c.number_at.ensures in
    elim c.if-is_among.branch [
      | then-is_among w ↦
          let left = left-one number versions k c.args.parts.now now at d c.requires.numbers h c.loop-vid-test.true within id in
          let cost = cost-left now at (leaving versions (get_or now at d)) d w.leave_part-saved.result within (rw w.leave_part-saved.ensures.left at w.leave_part-saved.ensures.saved) in
          rw (w.parts-is, w.saved-is, w.leave_part-saved.ensures.left) (record { left = left; cost = omega (arith, cost, c.loop-vid.invariant.cost); some = λ e. some-left now at (leaving versions (get_or now at d)) c.loop-vid.emptied w.is_empty-emptied.result c.loop-vid.invariant.some (w.is_empty-emptied.ensures ∙ ap (λ (vs : List ℕ). eqb (length vs) 0) w.as_slice-then-is_among.ensures ∙ ap (λ (p : Part). is_empty p) w.leave_part-saved.ensures.left) (sym w.emptied-is ∙ e) })
      | else-is_among w ↦
          let out : serves (get_or versions k 0) (get_or now at d) ≡ false = ap (λ (vs : List ℕ). has vs (get_or versions k 0)) (sym c.as_slice.ensures) ∙ sym w.if-is_among.ensures in
          let left = left-none number versions k c.args.parts.now now at d c.requires.numbers h c.loop-vid-test.true within id out in
          let same = w.parts-is ∙ set-get_or now at d in
          rw (same, w.saved-is) (record { left = left; cost = c.loop-vid.invariant.cost; some = λ e. c.loop-vid.invariant.some (sym w.emptied-is ∙ e) })
    ]

pub returns-clause-left : goal.returns-clause-left
returns-clause-left c = left-all _ _ _ _ _ c.loop-vid.invariant.left c.loop-vid-test.false
