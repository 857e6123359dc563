use Rattle.std.proofs.Common.{◌≡◌, ℕ, ◌+◌, List, take, get_or, sym, ◌∙◌, ap, arith}
use Rattle.std.proofs.lemmas.List.{take_all}
use Rattle.ov_layout.proofs.VidLemmas.{has-more}
use Rattle.ov_layout.proofs.LedLemmas.{led, led-none, led-more, given-few, all-some}
use Rattle.ov_layout.proofs.layout.Layout.segments_led.Goals as goal

pub loop-vid-init : goal.loop-vid-init
loop-vid-init c = let none = led-none c.args.self.now.parts in omega arith

pub loop-vid-preserved : goal.loop-vid-preserved
loop-vid-preserved c =
    let versions = c.args.versions.now in
    let parts = c.args.self.now.parts in
    let k = c.loop-vid.vid-index in
    let vid = get_or versions k 0 in
    let sound = c.parts.ensures.sound in
    let more = led-more (take k versions) (take (k + 1) versions) vid (λ n. has-more versions k n c.loop-vid-test.true) parts (sound.once vid) in
    let was = c.loop-vid.invariant in
    let sum = c.in_ok-count.ensures in
    let own = c.led_by.ensures in
    omega (arith, more, was, sum, own)

pub returns : goal.returns
returns c flip same =
    let versions = c.args.versions.now in
    let parts = c.args.self.now.parts in
    let all : take c.loop-vid.vid-index versions ≡ versions = take_all c.loop-vid.vid-index versions c.loop-vid-test.false in
    let few = given-few flip parts (all-some 1 c.args.self.now.next parts c.parts.ensures.sound.sound) in
    let was = c.loop-vid.invariant in
    let led_is : led flip.versions parts ≡ led (take c.loop-vid.vid-index versions) parts = ap (λ (vs : List ℕ). led vs parts) (same ∙ sym all) in
    omega (arith, few, was, led_is)
