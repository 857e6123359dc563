use Rattle.std.proofs.Common.{ℕ, List, subst}
use Rattle.std.specs.List.{AllZip}
use Rattle.ov_catalog.specs.Sets.{set_in}
use Rattle.ov_fetch.specs.Extents.{page_bytes}
use Rattle.ov_read.specs.Found.{IsListed, IsScanned}
use Rattle.ov_read.specs.Partitions.{AreHeld}
use Rattle.ov_parents.proofs.Taken.{all_in_order, are_parents, each_agrees, each_fits}
use Rattle.ov_parents.proofs.reading.read_parents.Goals as goal

pub returns-clause-each : goal.returns-clause-each
returns-clause-each g c =
    let s = set_in c.args.d.now in
    let scan = c.in_ok-scan.field-0.scan in
    each_agrees s scan.records c.args.vids.now scan.picks c.in_ok-records.records.items c.requires.counted
    (subst (λ (vs : List ℕ). AllZip (IsListed s scan.records) vs scan.picks) c.in_ok-wanted.ensures.items c.in_ok-scan.ensures.distinct) c.in_ok-records.ensures

pub returns-clause-order : goal.returns-clause-order
returns-clause-order g c =
    all_in_order c.args.d.now.schema c.in_ok-scan.field-0.scan c.in_ok-records.records.items c.in_ok-scan.ensures.sound c.in_ok-records.ensures

pub returns-clause-fit : goal.returns-clause-fit
returns-clause-fit g c =
    each_fits c.args.d.now.schema c.in_ok-scan.field-0.scan c.in_ok-records.records.items c.in_ok-scan.ensures.sound c.in_ok-records.ensures

pub returns-clause-held : goal.returns-clause-held
returns-clause-held g c =
    let s0 = g.H.Host.state c.args.host.now in
    subst (λ (vs : List ℕ). AreHeld s0.tells (page_bytes s0) (set_in c.args.d.now) vs c.in_ok-scan.field-0.held.items) c.in_ok-wanted.ensures.items c.in_ok-scan.ensures.held

pub returns-clause-answer : goal.returns-clause-answer
returns-clause-answer g c told =
    let area : List ℕ = page_bytes (g.H.Host.state c.args.host.now) in
    let s = set_in c.args.d.now in
    let scan = c.in_ok-scan.field-0.scan in
    let vids : List ℕ = c.args.vids.now in
    let scanned = subst (λ (vs : List ℕ). AllZip (IsScanned area s scan.records) vs scan.picks) c.in_ok-wanted.ensures.items (c.in_ok-scan.ensures.answer told) in
    are_parents area s scan vids c.in_ok-records.records.items scanned c.in_ok-records.ensures
