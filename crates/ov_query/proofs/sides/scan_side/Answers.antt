use Rattle.std.proofs.Common.{◌≡◌, ◌∙◌, ap}
use Rattle.ov_fetch.specs.Extents.{page_bytes}
use Rattle.ov_fetch.specs.Scans.{rows_at}
use Rattle.ov_fetch.specs.declared.scan.Scan.{Scan}
use Rattle.ov_model.specs.Records.{rows_at as rows_of}
use Rattle.ov_model.specs.World.{set_named}
use Rattle.ov_store.proofs.Deciding.{world_named}
use Rattle.ov_store.specs.Scanning.{IsUndamaged, set_in}
use Rattle.std.specs.Prelude.{map}
use Rattle.ov_query.proofs.Scans.{err_of}
use Rattle.ov_query.proofs.Shown.{read_so, shown_so, there_of}
use Rattle.ov_query.proofs.sides.scan_side.Goals as goal

pub returns-clause-read : goal.returns-clause-read
returns-clause-read g c = λ set told found.
    let n = c.args.store.now.held.numbers
    in read_so c.scan.result c.args.side.now.vid c.from_ref.result.now c.from_ref.ensures.value c.scan.ensures.vids
    (page_bytes (g.H.Host.state c.args.host.now)) set (c.scan.ensures.scanned set told (ap (set_in n) c.as_str.ensures.text ∙ found))

pub returns-clause-world : goal.returns-clause-world
returns-clause-world g c = λ w d at named.
    shown_so c.scan.result c.args.side.now.vid c.from_ref.result.now c.from_ref.ensures.value c.scan.ensures.vids d.cvd.versions
    (c.scan.ensures.world w d at (ap (set_named w) c.as_str.ensures.text ∙ named))

pub returns-clause-undamaged : goal.returns-clause-undamaged
returns-clause-undamaged g c = λ w at.
    let n = c.args.store.now.held.numbers
    in let there = there_of (set_in n c.args.side.now.cvd) _ c.requires.allowed
    in let d = world_named w c.args.store.now.held (g.H.Host.state c.args.host.now) at c.args.side.now.cvd there.0 there.1
    in err_of (λ (scan : Scan). map (rows_at scan.records) scan.picks ≡ map (rows_of d.0.cvd.versions) c.from_ref.result.now) IsUndamaged c.scan.result
    (c.scan.ensures.world w d.0 at (ap (set_named w) c.as_str.ensures.text ∙ d.1))
