use Rattle.std.proofs.Common.{rules, ◌≡◌, ◌∙◌, List, [], ◌∷◌, get_or, sym, subst}
use Rattle.ov_fetch.specs.Extents.{page_bytes}
use Rattle.ov_fetch.specs.Scans.{InKeyOrder, rows_at}
use Rattle.ov_model.specs.Book.{Row}
use Rattle.ov_model.specs.Records as model
use Rattle.ov_read.specs.Found.{HasRows, IsScanned}
use Rattle.ov_store.specs.Scanning.{IsUndamaged, set_in}
use Rattle.ov_registry.proofs.Versions.{one_beside, one_of, one_pick, whole_in}
use Rattle.ov_registry.proofs.reading.rows_of_version.Goals as goal

pub returns-in_err-scan-clause-world : goal.returns-in_err-scan-clause-world
returns-in_err-scan-clause-world g c = λ w d at named.
    let spared : IsUndamaged c.in_err-scan.field-0.0 = c.in_err-scan.ensures.world w d at named
    in search (rules, spared)

pub returns-clause-world : goal.returns-clause-world
returns-clause-world g c = λ w d at named.
    let scan = c.in_ok-scan.scan
    in let pick : c.as_slice-2.result.now ≡ get_or scan.picks 0 c.as_slice-2.result.now = search rules
    in c.in_ok-rows.ensures
    ∙ one_pick (rows_at scan.records) scan.picks (model.rows_at d.cvd.versions c.args.vid) c.as_slice-2.result.now (c.in_ok-scan.ensures.world w d at named) pick

pub returns-clause-read : goal.returns-clause-read
returns-clause-read g c = λ set named last told.
    let scan = c.in_ok-scan.scan
    in let old = g.H.Host.state c.args.host.now
    in let pick : c.as_slice-2.result.now ≡ get_or scan.picks 0 c.as_slice-2.result.now = search rules
    in record {
      records = scan.records;
      pick = c.as_slice-2.result.now;
      scanned = subst (λ n. IsScanned (page_bytes old) set scan.records n c.as_slice-2.result.now) last
          (one_beside (IsScanned (page_bytes old) set scan.records) c.args.vid scan.picks c.as_slice-2.result.now (c.in_ok-scan.ensures.scanned set told named) pick);
      rows_are = c.in_ok-rows.ensures;
    }

pub returns-clause-ordered : goal.returns-clause-ordered
returns-clause-ordered g c = λ set named.
    let scan = c.in_ok-scan.scan
    in let pick : c.as_slice-2.result.now ≡ get_or scan.picks 0 c.as_slice-2.result.now = search rules
    in subst (λ (l : List Row). InKeyOrder set.schema l) (sym c.in_ok-rows.ensures)
    (one_of (HasRows set) (λ p. InKeyOrder set.schema (rows_at scan.records p)) c.args.vid scan.picks c.as_slice-2.result.now
    (c.in_ok-scan.ensures.rows set named) (c.in_ok-scan.ensures.sound set named).ordered pick)

pub returns-clause-whole : goal.returns-clause-whole
returns-clause-whole g c = λ page told.
    let live = c.requires.live
    in whole_in (set_in c.args.store.now.held.numbers c.args.name.now) live.set (c.args.vid ∷ []) (g.H.Host.state c.args.host.now) page live.named told
    (c.in_ok-scan.ensures.undamaged live.set told live.named)
