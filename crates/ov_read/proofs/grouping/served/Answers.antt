use Rattle.std.proofs.Common.{◌≡◌, ◌<◌, ◌+◌, length, ℕ, Option, List, [], ◌∷◌, ◌++◌, take, get_or, sym, ◌∙◌, ap}
use Rattle.std.specs.List.{filter_map, cons_option}
use Rattle.std.proofs.lemmas.List.{take_more, append-nil}
use Rattle.std.proofs.lemmas.List.Elements.{filter_map-append}
use Rattle.ov_read.specs.Gathering.{place_at}
use Rattle.ov_read.proofs.grouping.served.Goals.{in-Some+in_ok-push-in-Some, in-None}
use Rattle.ov_read.proofs.grouping.served.Goals as goal

more : (places : List (Option ℕ)) (versions : List ℕ) (k : ℕ) → k < length versions → filter_map (place_at places) (take (k + 1) versions) ≡ filter_map (place_at places) (take k versions) ++ cons_option (place_at places (get_or versions k 0)) []
more places versions k low = ap (filter_map (place_at places)) (take_more versions k 0 low) ∙ filter_map-append (place_at places) (take k versions) (get_or versions k 0 ∷ [])

pub loop-vid-preserved : goal.loop-vid-preserved
loop-vid-preserved c =
    let places = c.args.places.now in
    let versions = c.as_slice-versions.result.now in
    let k = c.loop-vid.vid-index in
    let low = c.loop-vid-test.true in
    let before : List ℕ = filter_map (place_at places) (take k versions) in
    elim c.match-place_in.branch [
      | in-Some+in_ok-push-in-Some w ↦ rw (w.group-is, w.in_ok-push-in-Some.ensures.items) (
          ap (λ (l : List ℕ). l ++ w.in-Some.place ∷ []) c.loop-vid.invariant
          ∙ sym (more places versions k low ∙ ap (λ (o : Option ℕ). before ++ cons_option o []) (sym c.place_in.ensures ∙ w.in-Some.is))
          )
      | in-None w ↦ rw w.group-is (
          c.loop-vid.invariant
          ∙ sym (more places versions k low ∙ (ap (λ (o : Option ℕ). before ++ cons_option o []) (sym c.place_in.ensures ∙ w.in-None.is) ∙ append-nil before))
          )
    ]
