use Rattle.std.proofs.Common.{◌≡◌, ℕ, ◌&&◌, Bool, get_or, drop, map, ap, sym, ◌∙◌, arith}
use Rattle.ov_layout.proofs.VidLemmas.{has-get}
use Rattle.std.specs.Prelude.{nat_le, true, false, ◌+◌}
use Rattle.std.specs.List.{list_all}
use Rattle.ov_catalog.specs.Applying.{rows_at}
use Rattle.ov_catalog.specs.Sets.{version_in}
use Rattle.ov_catalog.specs.declared.cvd.Version.{Version}
use Rattle.ov_catalog.proofs.SeenLemmas.{all-more, rows-over, rows-within}
use Rattle.ov_catalog.proofs.targets.are_within.Goals as goal

pub overflow_sub-vid : goal.overflow_sub-vid
overflow_sub-vid c = (c.requires _ (has-get c.args.vids.now c.loop-vid.vid-index 0 c.loop-vid-test.true)).0

pub bounds-versions-vid : goal.bounds-versions-vid
bounds-versions-vid c =
    let there = c.requires _ (has-get c.args.vids.now c.loop-vid.vid-index 0 c.loop-vid-test.true) in
    let one = there.0 in
    let le = there.1 in
    omega (arith, one, le)

pub bounds-versions-vid-in-loop-vid : goal.bounds-versions-vid-in-loop-vid
bounds-versions-vid-in-loop-vid c =
    let there = c.requires _ (has-get c.args.vids.now c.loop-vid.vid-index 0 c.loop-vid-test.true) in
    let one = there.0 in
    let le = there.1 in
    omega (arith, one, le)

pub returns-then-versions-vid : goal.returns-then-versions-vid
returns-then-versions-vid c =
    let versions = c.args.versions.now in
    let vids = c.args.vids.now in
    let k = c.loop-vid.vid-index in
    let vid = get_or vids k 0 in
    let d = c.index-versions-vid.result in
    let there = c.requires vid (has-get vids k 0 c.loop-vid-test.true) in
    let p : ℕ → Bool = λ v. nat_le (rows_at (map version_in versions) v) c.args.size in
    let own = ap (λ (v : Version). v.rows) c.index-versions-vid.is in
    let more = c.if-versions-vid.true in
    let over : p vid ≡ false = rows-over versions vid c.args.size d there.0 there.1 (omega (arith, own, more)) in
    sym (c.loop-vid.invariant ∙ all-more p vids k c.loop-vid-test.true ∙ ap (λ (b : Bool). b && list_all p (drop (k + 1) vids)) over)

pub loop-vid-preserved : goal.loop-vid-preserved
loop-vid-preserved c =
    let versions = c.args.versions.now in
    let vids = c.args.vids.now in
    let k = c.loop-vid.vid-index in
    let vid = get_or vids k 0 in
    let d = c.index-versions-vid.result in
    let there = c.requires vid (has-get vids k 0 c.loop-vid-test.true) in
    let p : ℕ → Bool = λ v. nat_le (rows_at (map version_in versions) v) c.args.size in
    let own = ap (λ (v : Version). v.rows) c.index-versions-vid.is in
    let few = c.if-versions-vid.false in
    let within : p vid ≡ true = rows-within versions vid c.args.size d there.0 there.1 (omega (arith, own, few)) in
    c.loop-vid.invariant ∙ all-more p vids k c.loop-vid-test.true ∙ ap (λ (b : Bool). b && list_all p (drop (k + 1) vids)) within
