use Rattle.std.proofs.Common.{◌≡◌, ℕ, List, sym, subst, ap, arith}
use Rattle.std.proofs.lemmas.Result.{IfOk-weaker}
use Rattle.ov_host.specs.declared.area.Extent.{Extent}
use Rattle.ov_catalog.specs.Sets.{set_in}
use Rattle.ov_catalog.specs.declared.cvd.Version.{Version}
use Rattle.ov_fetch.specs.Extents.{page_bytes, IsList}
use Rattle.ov_read.specs.Agreement.{IsBorneOut, Agrees, list_of}
use Rattle.ov_read.specs.Counting.{RefusesTested}
use Rattle.ov_read.specs.Damages.{RefusesList}
use Rattle.ov_read.proofs.Matching.{match_weaker}
use Rattle.ov_read.proofs.Numbered.{there, list_is, agrees_is, refuses_is}
use Rattle.ov_read.proofs.lists.list_at.Goals as goal

pub returns-clause-fetched : goal.returns-clause-fetched
returns-clause-fetched g c =
    let d = c.args.d.now in
    let list : list_of (set_in c.args.d.now) c.args.vid ≡ c.index-version.result.now.list = list_is d c.args.vid c.index-version.result.now (there d c.args.vid c.requires.there) c.index-version.ensures in
    omega (arith, c.tested_list.ensures.fetched, ap (λ (e : Extent). e.bytes) list)

pub returns-clause-agrees : goal.returns-clause-agrees
returns-clause-agrees g c =
    let d = c.args.d.now in
    let v : Version = c.index-version.result.now in
    IfOk-weaker c.tested_list.result (IsBorneOut v.rows c.args.last) (Agrees (set_in d) c.args.vid)
    (λ rids out. agrees_is d c.args.vid v c.args.last rids (there d c.args.vid c.requires.there) c.index-version.ensures c.requires.last out) c.tested_list.ensures.agrees

pub returns-clause-answer : goal.returns-clause-answer
returns-clause-answer g c told =
    let d = c.args.d.now in
    let v : Version = c.index-version.result.now in
    let area : List ℕ = page_bytes (g.H.Host.state c.args.host.now) in
    let low = there d c.args.vid c.requires.there in
    let list : list_of (set_in c.args.d.now) c.args.vid ≡ c.index-version.result.now.list = list_is d c.args.vid c.index-version.result.now low c.index-version.ensures in
    match_weaker c.tested_list.result (IsList area v.list) (IsList area (list_of (set_in d) c.args.vid)) (λ e. RefusesTested e area v.list v.rows c.args.last) (λ e. RefusesList e area (set_in d) c.args.vid)
    (λ rids is. subst (λ (e : Extent). IsList area e rids) (sym list) is)
    (λ e why. refuses_is area d c.args.vid v c.args.last e low c.index-version.ensures c.requires.last why) (c.tested_list.ensures.answer told)
