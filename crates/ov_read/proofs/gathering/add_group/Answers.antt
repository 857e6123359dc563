use Rattle.std.proofs.Common.{◌≡◌, ◌<◌, ℕ, List, length, sym, ◌∙◌, ap, subst, arith}
use Rattle.std.specs.List.{All, AllZip}
use Rattle.std.proofs.lemmas.Grind.{common_steps}
use Rattle.std.proofs.lemmas.List.{length-map}
use Rattle.ov_catalog.specs.Sets.{set_in}
use Rattle.ov_fetch.specs.Extents.{page_bytes}
use Rattle.ov_fetch.specs.Rows.{HaveRids}
use Rattle.ov_host.specs.declared.area.Extent.{Extent}
use Rattle.ov_segment.specs.declared.numbered.Record.{Record}
use Rattle.ov_segment.specs.Tables.{Content}
use Rattle.ov_read.specs.Agreement.{IsThere}
use Rattle.ov_read.specs.Gathering.{ArePut, IsRowsOf, sets_at}
use Rattle.ov_read.proofs.Gatherings.{group_added, group_there, some_bytes, zip_length}
use Rattle.ov_read.proofs.gathering.add_group.Goals as goal

pub extents_of-requires : goal.extents_of-requires
extents_of-requires g c =
    subst (All (IsThere (set_in c.args.d.now))) (sym (c.deref.ensures.value ∙ c.in_ok-served.ensures))
    (group_there (IsThere (set_in c.args.d.now)) c.args.vids.now c.args.part.now.versions c.args.group.now c.requires.group c.requires.there)

pub put-requires-clause-paired : goal.put-requires-clause-paired
put-requires-clause-paired g c =
    let lists : List (List ℕ) = c.args.lists.now in
    let group : List ℕ = c.args.group.now in
    ap length c.deref-4.ensures.value
    ∙ (zip_length _ c.deref-3.result.now c.in_ok-records.field-0.picks.items c.in_ok-records.ensures.rows
    ∙ (ap length (c.deref-3.ensures.value ∙ c.in_ok-members.ensures) ∙ length-map group _))

pub returns-clause-fetched : goal.returns-clause-fetched
returns-clause-fetched g c =
    let some : 0 < length c.args.group.now = grind (arith, common_steps) in
    let bytes = some_bytes c.args.group.now c.args.part.now.segments some in
    let segments : c.as_slice-segments.result.now ≡ c.args.part.now.segments = c.as_slice-segments.ensures in
    rw bytes (rw segments at c.in_ok-records.ensures.fetched)

pub returns-clause-added : goal.returns-clause-added
returns-clause-added g c =
    let schema = c.args.d.now.schema in
    let s = g.H.Host.state c.args.host.now in
    let group : List ℕ = c.args.group.now in
    let lists : List (List ℕ) = c.args.lists.now in
    let segments : List Extent = c.args.part.now.segments in
    let more : List Record = c.in_ok-records.field-0.records.records in
    let picks : List (List ℕ) = c.in_ok-records.field-0.picks.items in
    let members : c.deref-3.result.now ≡ sets_at lists group = c.deref-3.ensures.value ∙ c.in_ok-members.ensures in
    let rows0 = subst (λ (es : List Extent). AllZip (IsRowsOf schema s es more) c.deref-3.result.now picks) c.as_slice-segments.ensures c.in_ok-records.ensures.rows in
    let rows = subst (λ (ms : List (List ℕ)). AllZip (IsRowsOf schema s segments more) ms picks) members rows0 in
    let put0 = subst (λ (ps : List (List ℕ)). ArePut (length group) c.len-base.result group ps c.args.found.now.picks.items c.put.new.picks.items) c.deref-4.ensures.value c.in_ok-put.ensures in
    let base : c.len-base.result ≡ length c.args.found.now.records.records = c.len-base.ensures.count in
    let put = subst (λ n. ArePut (length group) n group picks c.args.found.now.picks.items c.put.new.picks.items) base put0 in
    group_added schema s c.args.part.now c.args.vids.now lists group c.args.found.now _ more picks c.requires.paired c.requires.picks c.requires.group c.in_ok-records.ensures.fit rows put
    (ap (λ (t : Content). t.records) c.in_ok-join.ensures)

pub returns-clause-rids : goal.returns-clause-rids
returns-clause-rids g c = λ told some.
    subst (λ (es : List Extent). HaveRids c.args.d.now.schema (page_bytes (g.H.Host.state c.args.host.now)) es c.in_ok-records.field-0.rids.items) c.as_slice-segments.ensures (c.in_ok-records.ensures.rids told)

pub join-requires : goal.join-requires
join-requires g c = c.requires.columns ∙ sym c.in_ok-records.ensures.columns

pub returns-clause-columns : goal.returns-clause-columns
returns-clause-columns g c = ap (λ (t : Content). t.columns) c.in_ok-join.ensures

pub returns-in_err-put-clause-fetched : goal.returns-in_err-put-clause-fetched
returns-in_err-put-clause-fetched g c =
    let some : 0 < length c.args.group.now = grind (arith, common_steps) in
    let bytes = some_bytes c.args.group.now c.args.part.now.segments some in
    let segments : c.as_slice-segments.result.now ≡ c.args.part.now.segments = c.as_slice-segments.ensures in
    rw bytes (rw segments at c.in_ok-records.ensures.fetched)

pub returns-in_err-join-clause-fetched : goal.returns-in_err-join-clause-fetched
returns-in_err-join-clause-fetched g c =
    let some : 0 < length c.args.group.now = grind (arith, common_steps) in
    let bytes = some_bytes c.args.group.now c.args.part.now.segments some in
    let segments : c.as_slice-segments.result.now ≡ c.args.part.now.segments = c.as_slice-segments.ensures in
    rw bytes (rw segments at c.in_ok-records.ensures.fetched)
