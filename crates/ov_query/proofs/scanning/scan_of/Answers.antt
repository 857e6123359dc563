use Rattle.std.proofs.Common.{◌≡◌, ◌∙◌, length, ap, map, sym}
use Rattle.ov_fetch.specs.Scans.{rows_at}
use Rattle.ov_fetch.specs.declared.scan.Scan.{Scan}
use Rattle.ov_model.specs.Answers.{source_vids}
use Rattle.ov_model.specs.Asking.{name_read}
use Rattle.ov_model.specs.Records.{counted, rows_at as rows_of}
use Rattle.ov_model.specs.World.{set_named}
use Rattle.ov_store.proofs.Deciding.{world_named}
use Rattle.ov_store.specs.Scanning.{IsUndamaged}
use Rattle.ov_query.proofs.Scans.{all_pairs, err_of, listed_unread, name_is, of_source, ok_of, pairs_are}
use Rattle.ov_query.proofs.scanning.scan_of.Goals as goal

pub returns-in-Listed-clause-why : goal.returns-in-Listed-clause-why
returns-in-Listed-clause-why g c =
    listed_unread c.args.store.now.held.numbers c.args.source.now c.in-Listed.vids c.in-Listed.cvd c.as_str.result.now c.as_slice.result.now
    c.in-Listed.is c.as_str.ensures.text c.as_slice.ensures c.scan.result _ _ c.requires.there c.scan.ensures.why

pub returns-in-Listed-clause-pairs : goal.returns-in-Listed-clause-pairs
returns-in-Listed-clause-pairs g c = λ w d related at is.
    let same = name_is c.args.store.now.held.numbers c.args.source.now c.in-Listed.vids c.in-Listed.cvd c.as_str.result.now c.as_slice.result.now
    c.in-Listed.is c.as_str.ensures.text c.as_slice.ensures
    in pairs_are c.scan.result d.cvd c.args.source.now related c.as_slice.result.now
    (ap (source_vids related d.cvd) c.in-Listed.is ∙ sym c.as_slice.ensures) c.scan.ensures.vids
    (ok_of (λ (scan : Scan). map (rows_at scan.records) scan.picks ≡ map (rows_of d.cvd.versions) c.as_slice.result.now) IsUndamaged c.scan.result
    (c.scan.ensures.world w d at (ap (set_named w) same ∙ is)))

pub returns-in-Listed-clause-undamaged : goal.returns-in-Listed-clause-undamaged
returns-in-Listed-clause-undamaged g c = λ w at.
    let same = name_is c.args.store.now.held.numbers c.args.source.now c.in-Listed.vids c.in-Listed.cvd c.as_str.result.now c.as_slice.result.now
    c.in-Listed.is c.as_str.ensures.text c.as_slice.ensures
    in let there = of_source c.args.store.now.held.numbers c.args.source.now c.requires.there
    in let d = world_named w c.args.store.now.held (g.H.Host.state c.args.host.now) at (name_read c.args.source.now) there.0 there.1
    in err_of (λ (scan : Scan). map (rows_at scan.records) scan.picks ≡ map (rows_of d.0.cvd.versions) c.as_slice.result.now) IsUndamaged c.scan.result
    (c.scan.ensures.world w d.0 at (ap (set_named w) same ∙ d.1))

pub returns-in-Whole-clause-pairs : goal.returns-in-Whole-clause-pairs
returns-in-Whole-clause-pairs g c = λ w d related at is.
    let same : c.as_str-in-Whole.result.now ≡ name_read c.args.source.now = c.as_str-in-Whole.ensures.text ∙ sym (ap name_read c.in-Whole.is)
    in all_pairs c.scan_all.result d.cvd c.args.source.now related (ap (source_vids related d.cvd) c.in-Whole.is)
    (c.scan_all.ensures.world w d at (ap (set_named w) same ∙ is))

pub returns-in-Whole-clause-undamaged : goal.returns-in-Whole-clause-undamaged
returns-in-Whole-clause-undamaged g c = λ w at.
    let same : c.as_str-in-Whole.result.now ≡ name_read c.args.source.now = c.as_str-in-Whole.ensures.text ∙ sym (ap name_read c.in-Whole.is)
    in let there = of_source c.args.store.now.held.numbers c.args.source.now c.requires.there
    in let d = world_named w c.args.store.now.held (g.H.Host.state c.args.host.now) at (name_read c.args.source.now) there.0 there.1
    in err_of (λ (scan : Scan). (scan.vids ≡ counted 1 (length d.0.cvd.versions))
    × (map (rows_at scan.records) scan.picks ≡ map (rows_of d.0.cvd.versions) (counted 1 (length d.0.cvd.versions)))) IsUndamaged c.scan_all.result
    (c.scan_all.ensures.world w d.0 at (ap (set_named w) same ∙ d.1))
