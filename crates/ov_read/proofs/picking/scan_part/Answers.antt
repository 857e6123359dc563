use Rattle.std.proofs.Common.{ℕ, List, length, ap, ◌∙◌, subst}
use Rattle.ov_segment.specs.declared.numbered.Record.{Record}
use Rattle.ov_fetch.specs.Extents.{page_bytes}
use Rattle.ov_read.specs.Gathering.{AreFull, IsNotFull}
use Rattle.ov_read.proofs.PickFacts.{all_fit, picks_paired}
use Rattle.ov_read.proofs.Picked.{rows_zip, none_short}
use Rattle.ov_read.proofs.picking.scan_part.Goals as goal

pub returns-in-None-clause-rows : goal.returns-in-None-clause-rows
returns-in-None-clause-rows g c =
    let schema = c.args.schema.now in
    let s = g.H.Host.state c.args.host.now in
    let got : List Record = c.in_ok-records.field-0.records.records in
    let members : List (List ℕ) = c.args.members.now in
    let picks : List (List ℕ) = c.in_ok-picks.picks.items in
    let full = subst (λ (ps : List (List ℕ)). AreFull (length members) ps members) c.deref.ensures.value c.in-None.ensures in
    rows_zip schema s c.args.segments.now members got members picks c.in_ok-records.ensures.records c.in_ok-records.ensures.answer (λ rid asked. asked) c.in_ok-picks.ensures.picks
    c.in_ok-picks.ensures.stand full

pub returns-in-Some-clause-err : goal.returns-in-Some-clause-err
returns-in-Some-clause-err g c told =
    let schema = c.args.schema.now in
    let s = g.H.Host.state c.args.host.now in
    let got : List Record = c.in_ok-records.field-0.records.records in
    let members : List (List ℕ) = c.args.members.now in
    let picks : List (List ℕ) = c.in_ok-picks.picks.items in
    let short = subst (λ (ps : List (List ℕ)). IsNotFull ps members c.in-Some.place) c.deref.ensures.value c.in-Some.ensures in
    absurd (none_short schema (page_bytes s) c.args.segments.now members picks got c.in-Some.place c.in_ok-records.ensures.records (c.in_ok-records.ensures.answer told) c.in_ok-picks.ensures.picks short)

pub returns-in-None-clause-fit : goal.returns-in-None-clause-fit
returns-in-None-clause-fit g c = all_fit c.args.schema.now 0 c.in_ok-records.field-0.records.records c.in_ok-records.ensures.records

pub place_short-requires : goal.place_short-requires
place_short-requires g c =
    ap length c.deref.ensures.value ∙ picks_paired c.args.schema.now c.in_ok-records.field-0.records.records c.args.members.now c.in_ok-picks.picks.items c.in_ok-picks.ensures.picks
