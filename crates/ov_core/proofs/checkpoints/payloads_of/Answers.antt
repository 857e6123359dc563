use Rattle.std.proofs.Common.{◌≡◌, true, false, ◌+◌, ◌++◌, [], ◌∷◌, map, take, sym, ◌∙◌, ap, subst}
use Rattle.std.specs.List.{All}
use Rattle.std.proofs.lemmas.List.{map-append, take_all, take_more}
use Rattle.std.proofs.lemmas.List.Elements.{All-more, recursion_from_All}
use Rattle.ov_event.specs.Spelling.{IsEvent, spelling}
use Rattle.ov_core.specs.Snapshots.{IsOfSnapshot}
use Rattle.ov_core.proofs.Spelled.{long_within}
use Rattle.ov_core.proofs.checkpoints.payloads_of.Goals as goal

contrary : false ≡ true → ⊥
contrary e = cc

pub returns-then-not-fits-clause-long : goal.returns-then-not-fits-clause-long
returns-then-not-fits-clause-long c =
    let i = c.loop-event.event-index in
    let e = c.event-item.result in
    long_within c.args.events.now i e c.loop-event-test.true c.event-item.is
    (subst IsOfSnapshot (sym c.event-item.is) (c.requires i e c.loop-event-test.true)) (λ fits. contrary (c.if-not-fits.ensures.1 fits))

pub loop-event-preserved : goal.loop-event-preserved
loop-event-preserved c =
    let i = c.loop-event.event-index in
    let e = c.event-item.result in
    let events = c.args.events.now in
    let more : take (i + 1) events ≡ take i events ++ e ∷ [] = take_more events i e c.loop-event-test.true ∙ ap (λ x. take i events ++ x ∷ []) (sym c.event-item.is) in
    record {
      said = c.in_ok-push.ensures.items
          ∙ (λ j. c.loop-event.invariant.said j ++ c.in_ok-bytes_of.ensures.written j ∷ [])
          ∙ sym (map-append spelling (take i events) (e ∷ []))
          ∙ ap (map spelling) (sym more);
      are = All-more IsEvent events i e c.loop-event-test.true c.loop-event.invariant.are (subst IsEvent c.event-item.is c.in_ok-bytes_of.ensures.event);
    }

pub returns-clause-events : goal.returns-clause-events
returns-clause-events c =
    let events = c.args.events.now in
    recursion_from_All IsEvent events (subst (All IsEvent) (take_all c.loop-event.event-index events c.loop-event-test.false) c.loop-event.invariant.are)
