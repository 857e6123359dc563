use Rattle.std.proofs.Common.{rules, ◌≡◌, ◌∙◌, List, [], ◌∷◌, get_or, refl, sym, ap, subst, inr}
use Rattle.std.proofs.lemmas.Bool.{false≢true}
use Rattle.ov_fetch.specs.Extents.{page_bytes}
use Rattle.ov_fetch.specs.Scans.{rows_at}
use Rattle.ov_gen.specs.Versions.{IsGrown}
use Rattle.ov_model.specs.Book.{Row}
use Rattle.ov_model.specs.Records as model
use Rattle.ov_read.specs.Found.{IsScanned}
use Rattle.ov_store.specs.Scanning.{IsUndamaged}
use Rattle.ov_generate.specs.Making.{IsNotGrownIn}
use Rattle.ov_generate.proofs.Reading.{one_beside, one_pick}
use Rattle.ov_generate.proofs.parent.parent_rows.Goals as goal

pub returns-in_err-scan-clause-world : goal.returns-in_err-scan-clause-world
returns-in_err-scan-clause-world g c = λ w d at named grown.
    let spared : IsUndamaged c.in_err-scan.field-0.0 = c.in_err-scan.ensures.world w d at named
    in search (rules, spared)

pub returns-then-are_grown-clause-world : goal.returns-then-are_grown-clause-world
returns-then-are_grown-clause-world g c = λ w d at named grown.
    let scan = c.in_ok-scan.scan
    in let pick : c.as_slice-2.result.now ≡ get_or scan.picks 0 c.as_slice-2.result.now = search rules
    in let is : rows_at scan.records c.as_slice-2.result.now ≡ model.rows_at d.cvd.versions c.args.parent
    = one_pick (rows_at scan.records) scan.picks (model.rows_at d.cvd.versions c.args.parent) c.as_slice-2.result.now (c.in_ok-scan.ensures.world w d at named ∙ ap (λ n. model.rows_at d.cvd.versions n ∷ []) c.from.ensures) pick
    in c.in_ok-rows.ensures ∙ is

pub returns-then-are_grown-clause-read : goal.returns-then-are_grown-clause-read
returns-then-are_grown-clause-read g c = λ set named told.
    let scan = c.in_ok-scan.scan
    in let old = g.H.Host.state c.args.host.now
    in let pick : c.as_slice-2.result.now ≡ get_or scan.picks 0 c.as_slice-2.result.now = search rules
    in record {
      records = scan.records;
      pick = c.as_slice-2.result.now;
      scanned = subst (λ n. IsScanned (page_bytes old) set scan.records n c.as_slice-2.result.now) c.from.ensures
          (one_beside (IsScanned (page_bytes old) set scan.records) c.from.result scan.picks c.as_slice-2.result.now (c.in_ok-scan.ensures.scanned set told named) pick);
      rows_are = c.in_ok-rows.ensures;
    }

pub returns-clause-why : goal.returns-clause-why
returns-clause-why g c =
    let scan = c.in_ok-scan.scan
    in let set = c.requires.known.set
    in let named = c.requires.known.named
    in let old = g.H.Host.state c.args.host.now
    in let pick : c.as_slice-2.result.now ≡ get_or scan.picks 0 c.as_slice-2.result.now = search rules
    in let rows : c.deref.result.now ≡ rows_at scan.records c.as_slice-2.result.now
    = c.deref.ensures.value ∙ c.in_ok-rows.ensures
    in inr (
      c.from-2.result,
      refl,
      subst (λ o. IsNotGrownIn o c.args.parent c.args.count c.args.vid old c.from-2.result) (sym named)
          (λ told. record {
            records = scan.records;
            pick = c.as_slice-2.result.now;
            scanned = subst (λ n. IsScanned (page_bytes old) set scan.records n c.as_slice-2.result.now) c.from.ensures
                (one_beside (IsScanned (page_bytes old) set scan.records) c.from.result scan.picks c.as_slice-2.result.now
                (c.in_ok-scan.ensures.scanned set told named) pick);
            off = λ grown.
                false≢true (sym c.if-are_grown.false ∙ c.are_grown.ensures.1 (subst (λ (l : List Row). IsGrown c.args.count c.args.vid l) (sym rows) grown));
            page_is = c.from-2.ensures ∙ c.list_page.ensures set named;
          }),
    )

pub returns-clause-world : goal.returns-clause-world
returns-clause-world g c = λ w d at named grown.
    let scan = c.in_ok-scan.scan
    in let pick : c.as_slice-2.result.now ≡ get_or scan.picks 0 c.as_slice-2.result.now = search rules
    in let is : rows_at scan.records c.as_slice-2.result.now ≡ model.rows_at d.cvd.versions c.args.parent
    = one_pick (rows_at scan.records) scan.picks (model.rows_at d.cvd.versions c.args.parent) c.as_slice-2.result.now (c.in_ok-scan.ensures.world w d at named ∙ ap (λ n. model.rows_at d.cvd.versions n ∷ []) c.from.ensures) pick
    in let rows : c.deref.result.now ≡ model.rows_at d.cvd.versions c.args.parent
    = c.deref.ensures.value ∙ c.in_ok-rows.ensures ∙ is
    in false≢true (sym c.if-are_grown.false ∙ c.are_grown.ensures.1 (subst (λ (l : List Row). IsGrown c.args.count c.args.vid l) (sym rows) grown))
