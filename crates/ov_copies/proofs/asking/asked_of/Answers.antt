use Rattle.std.proofs.Common.{◌≡◌, ◌+◌, ◌++◌, ◌∷◌, [], ◌∙◌, ℕ, Some, List, take, get_or, refl, sym, ap, subst}
use Rattle.std.proofs.lemmas.List.{take_more}
use Rattle.ov_catalog.specs.Sets.{set_in}
use Rattle.ov_read.specs.Agreement.{list_of}
use Rattle.ov_read.specs.Gathering.{place_at}
use Rattle.ov_copies.specs.Asking.{IsAsked}
use Rattle.ov_copies.proofs.Asks.{goes_on, member_at, no_place, one_place, skips}
use Rattle.ov_copies.proofs.asking.asked_of.Goals.{in-Some+in_ok-ask_at-in-Some, in-None}
use Rattle.ov_copies.proofs.asking.asked_of.Goals as goal

pub ask_at-requires-clause-low : goal.ask_at-requires-clause-low
ask_at-requires-clause-low c =
    (c.requires.places.only (get_or c.args.served.now c.loop-vid.vid-index 0) c.in-Some.place (sym c.place_in.ensures ∙ c.in-Some.is)).0

pub loop-vid-preserved : goal.loop-vid-preserved
loop-vid-preserved c =
    let s = set_in c.args.d.now in
    let versions : List ℕ = c.args.versions.now in
    let lists : List (List ℕ) = c.args.lists.now in
    let served : List ℕ = c.args.served.now in
    let left : List ℕ = c.args.left.now in
    let k = c.loop-vid.vid-index in
    let vid : ℕ = get_or c.args.served.now c.loop-vid.vid-index 0 in
    let more : take (k + 1) served ≡ take k served ++ vid ∷ [] = take_more served k 0 c.loop-vid-test.true in
    elim c.match-place_in.branch [
      | in-Some+in_ok-ask_at-in-Some w ↦
          let place : ℕ = w.in-Some.place in
          let at : place_at c.args.places.now vid ≡ Some place = sym c.place_in.ensures ∙ w.in-Some.is in
          let one = c.requires.places.only vid place at in
          rw (w.left-is, w.asked-is) (subst (λ (passed : List ℕ). IsAsked s versions lists served passed left w.ask_at.new.left w.ask_at.new.asked) (sym more)
          (goes_on s versions lists served (take k served) left c.loop-vid.left w.ask_at.new.left c.loop-vid.asked w.ask_at.new.asked vid place (get_or lists place []) (list_of s (get_or versions place 0))
          one.0 one.1 (member_at served k c.loop-vid-test.true) (ap (list_of s) one.1) refl (λ other low is. one_place versions c.args.places.now vid place other c.requires.places at low is)
          w.in_ok-ask_at-in-Some.ensures.set w.in_ok-ask_at-in-Some.ensures.more c.loop-vid.invariant))
      | in-None w ↦
          rw (w.left-is, w.asked-is) (subst (λ (passed : List ℕ). IsAsked s versions lists served passed left c.loop-vid.left c.loop-vid.asked) (sym more)
          (skips s versions lists served (take k served) left c.loop-vid.left c.loop-vid.asked vid
          (λ other low is. no_place versions c.args.places.now vid other c.requires.places (sym c.place_in.ensures ∙ w.in-None.is) low is) c.loop-vid.invariant))
    ]
