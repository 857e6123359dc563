use Rattle.std.proofs.Common.{◌≡◌, ◌<◌, ◌++◌, ◌∷◌, [], ◌≤◌, ◌+◌, ◌*◌, ◌∙◌, ℕ, List, length, take, get_or, sym, ap, subst, arith}
use Rattle.std.proofs.lemmas.List.{take_all, take_more}
use Rattle.std.specs.List.{sum_by}
use Rattle.ov_host.specs.declared.area.Extent.{Extent}
use Rattle.ov_layout.specs.declared.part.Part.{Part}
use Rattle.ov_catalog.specs.Sets.{set_in}
use Rattle.ov_fetch.specs.Extents.{page_bytes}
use Rattle.ov_fetch.specs.Firsts.{IsFetchedFirst, RefusesFirstRows}
use Rattle.ov_fetch.specs.Rows.{is_asked}
use Rattle.ov_fetch.proofs.Gathered.{passed_on}
use Rattle.ov_read.proofs.Gatherings.{zip_length}
use Rattle.ov_read.proofs.Passed.{kept_fetched, part_pages}
use Rattle.ov_copies.specs.Asking.{IsAsked, IsPartOf}
use Rattle.ov_copies.specs.Copies.{RefusesCopy}
use Rattle.ov_copies.specs.Gathering.{AreGathered, IsAdded, bytes_if}
use Rattle.ov_copies.proofs.Passing.{HasPassed, ends, few_for, few_in_all, goes_on, some_fetched, stops}
use Rattle.ov_copies.proofs.gathering.gather.Goals as goal

pub add_part-requires-clause-paired : goal.add_part-requires-clause-paired
add_part-requires-clause-paired g c =
    sym (zip_length (IsPartOf (set_in c.args.d.now) c.args.versions.now c.args.lists.now c.as_slice-served.result.now) c.in_ok-asked.asked.lists.items c.in_ok-asked.asked.sets.items c.in_ok-asked.ensures.each)

pub returns-in_err-add_part-clause-answer : goal.returns-in_err-add_part-clause-answer
returns-in_err-add_part-clause-answer g c told =
    let s0 = g.H.Host.state c.args.host.now in
    let s1 = g.H.Host.state c.loop-part.host in
    let d = c.args.d.now in
    let versions : List ℕ = c.args.versions.now in
    let lists : List (List ℕ) = c.args.lists.now in
    let rids : List ℕ = c.args.rids.now in
    let part : Part = c.part-item.result in
    let parts : List Part = c.parts-parts.result.now in
    let k = c.loop-part.part-index in
    let same : parts ≡ d.layout.parts = c.parts-parts.ensures.parts in
    let asked = c.in_ok-asked.asked in
    let after : List ℕ = c.asked_of.new.left in
    let asks = subst (λ (vids : List ℕ). IsAsked (set_in d) versions lists vids vids c.loop-part.left after asked) c.as_slice-served.ensures c.in_ok-asked.ensures in
    let why = subst (λ (es : List Extent). RefusesFirstRows c.in_err-add_part.field-0.0 d.schema (page_bytes s1) es asked.lists.items asked.sets.items) c.as_slice-segments.ensures
    (c.in_err-add_part.ensures.err (c.loop-part.invariant.looked.told ∙ told)) in
    passed_on (λ found. AreGathered (page_bytes s0) (set_in d) versions lists rids found.records) (λ e. RefusesCopy e (page_bytes s0) (set_in d) versions lists rids)
    c.from_residual-in_err-add_part.result c.in_err-add_part.field-0.0 c.from_residual-in_err-add_part.ensures
    (stops d versions lists rids c.requires.paired k part (subst (λ (ps : List Part). k < length ps) same c.loop-part-test.true) (subst (λ (ps : List Part). part ≡ get_or ps k part) same c.part-item.is)
    c.parts-parts.ensures.sound.once s0 s1 (take k parts) c.loop-part.left after asked c.loop-part.found c.in_err-add_part.field-0.0 c.loop-part.invariant asks told why)

pub returns-in_err-add_part-clause-fetched : goal.returns-in_err-add_part-clause-fetched
returns-in_err-add_part-clause-fetched g c =
    let s0 = g.H.Host.state c.args.host.now in
    let s1 = g.H.Host.state c.loop-part.host in
    let s2 = g.H.Host.state c.add_part.new.host in
    let d = c.args.d.now in
    let versions : List ℕ = c.args.versions.now in
    let lists : List (List ℕ) = c.args.lists.now in
    let part : Part = c.part-item.result in
    let parts : List Part = c.parts-parts.result.now in
    let k = c.loop-part.part-index in
    let same : parts ≡ d.layout.parts = c.parts-parts.ensures.parts in
    let asked = c.in_ok-asked.asked in
    let asks = subst (λ (vids : List ℕ). IsAsked (set_in d) versions lists vids vids c.loop-part.left c.asked_of.new.left asked) c.as_slice-served.ensures c.in_ok-asked.ensures in
    let before = subst (λ (ps : List Part). s1.fetched ≤ s0.fetched + 4096 * sum_by (part_pages versions) (take k ps)) same c.loop-part.invariant.fetched in
    let more = subst (λ (es : List Extent). s2.fetched ≤ s1.fetched + bytes_if asked.sets.items es) c.as_slice-segments.ensures c.in_err-add_part.ensures.fetched in
    some_fetched d versions lists c.args.rids.now c.requires.paired k part (subst (λ (ps : List Part). k < length ps) same c.loop-part-test.true) (subst (λ (ps : List Part). part ≡ get_or ps k part) same c.part-item.is)
    c.parts-parts.ensures.sound.once s0.fetched s1.fetched s2.fetched c.loop-part.left c.asked_of.new.left asked before more asks

pub returns-in_err-asked-clause-fetched : goal.returns-in_err-asked-clause-fetched
returns-in_err-asked-clause-fetched g c =
    let versions : List ℕ = c.args.versions.now in
    let k = c.loop-part.part-index in
    let s0 = g.H.Host.state c.args.host.now in
    let s1 = g.H.Host.state c.loop-part.host in
    kept_fetched c.args.d.now versions k s0.fetched s1.fetched
    (subst (λ (ps : List Part). s1.fetched ≤ s0.fetched + 4096 * sum_by (part_pages versions) (take k ps)) c.parts-parts.ensures.parts c.loop-part.invariant.fetched)

pub returns-clause-fetched : goal.returns-clause-fetched
returns-clause-fetched g c =
    let versions : List ℕ = c.args.versions.now in
    let k = c.loop-part.part-index in
    let s0 = g.H.Host.state c.args.host.now in
    let s1 = g.H.Host.state c.loop-part.host in
    kept_fetched c.args.d.now versions k s0.fetched s1.fetched
    (subst (λ (ps : List Part). s1.fetched ≤ s0.fetched + 4096 * sum_by (part_pages versions) (take k ps)) c.parts-parts.ensures.parts c.loop-part.invariant.fetched)

pub loop-part-preserved : goal.loop-part-preserved
loop-part-preserved g c =
    let s0 = g.H.Host.state c.args.host.now in
    let s1 = g.H.Host.state c.loop-part.host in
    let s2 = g.H.Host.state c.add_part.new.host in
    let d = c.args.d.now in
    let versions : List ℕ = c.args.versions.now in
    let lists : List (List ℕ) = c.args.lists.now in
    let rids : List ℕ = c.args.rids.now in
    let part : Part = c.part-item.result in
    let parts : List Part = c.parts-parts.result.now in
    let k = c.loop-part.part-index in
    let same : parts ≡ d.layout.parts = c.parts-parts.ensures.parts in
    let asked = c.in_ok-asked.asked in
    let after : List ℕ = c.asked_of.new.left in
    let found = c.add_part.new.found in
    let asks = subst (λ (vids : List ℕ). IsAsked (set_in d) versions lists vids vids c.loop-part.left after asked) c.as_slice-served.ensures c.in_ok-asked.ensures in
    let added = subst (λ (es : List Extent). IsAdded d.schema s1 es asked.sets.items c.loop-part.found.records found.records) c.as_slice-segments.ensures c.in_ok-add_part.ensures.added in
    let fetched = subst (λ (es : List Extent). s2.fetched ≤ s1.fetched + bytes_if asked.sets.items es) c.as_slice-segments.ensures c.in_ok-add_part.ensures.fetched in
    let first = subst (λ (es : List Extent). IsFetchedFirst d.schema s1 s2 es (is_asked asked.sets.items)) c.as_slice-segments.ensures c.in_ok-add_part.ensures.no_more in
    let at : HasPassed s0 s2 d versions lists rids (take k parts ++ part ∷ []) after found =
    goes_on d versions lists rids c.requires.paired k part (subst (λ (ps : List Part). k < length ps) same c.loop-part-test.true) (subst (λ (ps : List Part). part ≡ get_or ps k part) same c.part-item.is)
    c.parts-parts.ensures.sound.once s0 s1 s2 (take k parts) c.loop-part.left after asked c.loop-part.found found c.loop-part.invariant asks c.in_ok-add_part.ensures.looked fetched first c.in_ok-add_part.ensures.columns added in
    subst (λ (ps : List Part). HasPassed s0 s2 d versions lists rids ps after found)
    (sym (take_more parts k part c.loop-part-test.true ∙ ap (λ (p : Part). take k parts ++ p ∷ []) (sym c.part-item.is))) at

pub returns-clause-answer : goal.returns-clause-answer
returns-clause-answer g c told =
    let s0 = g.H.Host.state c.args.host.now in
    let s1 = g.H.Host.state c.loop-part.host in
    let d = c.args.d.now in
    let parts : List Part = c.parts-parts.result.now in
    let whole : take c.loop-part.part-index c.parts-parts.result.now ≡ c.args.d.now.layout.parts =
    take_all c.loop-part.part-index parts (omega (arith, c.loop-part-test.false)) ∙ c.parts-parts.ensures.parts in
    ends s0 s1 d c.args.versions.now c.args.lists.now c.args.rids.now c.loop-part.left c.loop-part.found c.requires.sound c.requires.there c.requires.paired c.requires.listed
    (subst (λ (ps : List Part). HasPassed s0 s1 d c.args.versions.now c.args.lists.now c.args.rids.now ps c.loop-part.left c.loop-part.found) whole c.loop-part.invariant) told

pub returns-clause-no_more : goal.returns-clause-no_more
returns-clause-no_more g c =
    let s0 = g.H.Host.state c.args.host.now in
    let s1 = g.H.Host.state c.loop-part.host in
    few_for s0 s1 c.args.d.now c.args.versions.now c.args.lists.now c.args.rids.now c.loop-part.left c.loop-part.found c.loop-part.part-index
    (subst (λ (ps : List Part). HasPassed s0 s1 c.args.d.now c.args.versions.now c.args.lists.now c.args.rids.now (take c.loop-part.part-index ps) c.loop-part.left c.loop-part.found) c.parts-parts.ensures.parts c.loop-part.invariant)

pub returns-in_err-asked-clause-no_more : goal.returns-in_err-asked-clause-no_more
returns-in_err-asked-clause-no_more g c =
    let s0 = g.H.Host.state c.args.host.now in
    let s1 = g.H.Host.state c.loop-part.host in
    few_for s0 s1 c.args.d.now c.args.versions.now c.args.lists.now c.args.rids.now c.loop-part.left c.loop-part.found c.loop-part.part-index
    (subst (λ (ps : List Part). HasPassed s0 s1 c.args.d.now c.args.versions.now c.args.lists.now c.args.rids.now (take c.loop-part.part-index ps) c.loop-part.left c.loop-part.found) c.parts-parts.ensures.parts c.loop-part.invariant)

pub returns-in_err-add_part-clause-no_more : goal.returns-in_err-add_part-clause-no_more
returns-in_err-add_part-clause-no_more g c =
    let s0 = g.H.Host.state c.args.host.now in
    let s1 = g.H.Host.state c.loop-part.host in
    let s2 = g.H.Host.state c.add_part.new.host in
    let d = c.args.d.now in
    let versions : List ℕ = c.args.versions.now in
    let lists : List (List ℕ) = c.args.lists.now in
    let rids : List ℕ = c.args.rids.now in
    let part : Part = c.part-item.result in
    let parts : List Part = c.parts-parts.result.now in
    let k = c.loop-part.part-index in
    let same : parts ≡ d.layout.parts = c.parts-parts.ensures.parts in
    let asked = c.in_ok-asked.asked in
    let after : List ℕ = c.asked_of.new.left in
    let asks = subst (λ (vids : List ℕ). IsAsked (set_in d) versions lists vids vids c.loop-part.left after asked) c.as_slice-served.ensures c.in_ok-asked.ensures in
    let first = subst (λ (es : List Extent). IsFetchedFirst d.schema s1 s2 es (is_asked asked.sets.items)) c.as_slice-segments.ensures c.in_err-add_part.ensures.no_more in
    few_in_all d versions lists rids c.requires.paired k part (subst (λ (ps : List Part). k < length ps) same c.loop-part-test.true) (subst (λ (ps : List Part). part ≡ get_or ps k part) same c.part-item.is)
    c.parts-parts.ensures.sound.once s0 s2 c.loop-part.left after asked c.loop-part.found s1
    (subst (λ (ps : List Part). HasPassed s0 s1 d versions lists rids (take k ps) c.loop-part.left c.loop-part.found) same c.loop-part.invariant) asks first
