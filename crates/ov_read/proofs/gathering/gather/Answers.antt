use Rattle.std.proofs.Common.{◌≡◌, ◌<◌, ◌++◌, ℕ, [], ◌∷◌, List, length, take, get_or, refl, sym, ◌∙◌, ap, subst, arith}
use Rattle.std.proofs.lemmas.List.{take_more, take_all}
use Rattle.ov_catalog.specs.Sets.{set_in}
use Rattle.ov_fetch.specs.declared.errors.FetchErr.TheVariants.{Memory}
use Rattle.ov_fetch.specs.Extents.{page_bytes}
use Rattle.ov_fetch.specs.Rows.{HaveRids}
use Rattle.ov_layout.specs.declared.part.Part.{Part}
use Rattle.ov_read.specs.Damages.{RefusesScan}
use Rattle.ov_read.specs.Gathering.{ArePlaces}
use Rattle.ov_read.proofs.Matching.{err_on}
use Rattle.ov_read.proofs.Placing.{is_group, none_served}
use Rattle.ov_read.proofs.Keeping.{HasPassed, all_held, none_passed, passes}
use Rattle.ov_read.proofs.Passed.{HasParts, ends, some_fetched, starts, stops}
use Rattle.ov_read.proofs.gathering.gather.Goals as goal

pub add_group-requires-clause-group : goal.add_group-requires-clause-group
add_group-requires-clause-group g c =
    let versions = c.part-item.result.versions in
    is_group c.args.vids.now c.deref.result.now versions c.deref-in-loop-part.result.now
    (subst (ArePlaces c.args.vids.now) (sym c.deref.ensures.value) c.in_ok-places.ensures) (c.deref-in-loop-part.ensures.value ∙ c.in_ok-group.ensures)

pub returns-in_err-rids-clause-fetched : goal.returns-in_err-rids-clause-fetched
returns-in_err-rids-clause-fetched g c =
    let d = c.args.d.now in
    let vids = c.args.vids.now in
    let part : Part = c.part-item.result in
    let parts = c.parts-parts.result.now in
    let same : parts ≡ d.layout.parts = c.parts-parts.ensures.parts in
    let group = is_group vids c.deref.result.now part.versions c.deref-in-loop-part.result.now
    (subst (ArePlaces vids) (sym c.deref.ensures.value) c.in_ok-places.ensures) (c.deref-in-loop-part.ensures.value ∙ c.in_ok-group.ensures) in
    let before = subst (λ (ps : List Part). HasParts (g.H.Host.state c.args.host.now) (g.H.Host.state c.loop-part.host) d vids c.args.lists.now (take c.loop-part.part-index ps) c.loop-part.found) same c.loop-part.invariant.0.passed in
    some_fetched d vids c.deref-in-loop-part.result.now c.loop-part.part-index (g.H.Host.state c.args.host.now).fetched (g.H.Host.state c.loop-part.host).fetched (g.H.Host.state c.add_group.new.host).fetched part
    (subst (λ (ps : List Part). c.loop-part.part-index < length ps) same c.loop-part-test.true) (subst (λ (ps : List Part). part ≡ get_or ps c.loop-part.part-index part) same c.part-item.is) group
    before.fetched c.in_err-rids.ensures.fetched

pub returns-in_err-push-clause-fetched : goal.returns-in_err-push-clause-fetched
returns-in_err-push-clause-fetched g c =
    let d = c.args.d.now in
    let vids = c.args.vids.now in
    let part : Part = c.part-item.result in
    let parts = c.parts-parts.result.now in
    let same : parts ≡ d.layout.parts = c.parts-parts.ensures.parts in
    let group = is_group vids c.deref.result.now part.versions c.deref-in-loop-part.result.now
    (subst (ArePlaces vids) (sym c.deref.ensures.value) c.in_ok-places.ensures) (c.deref-in-loop-part.ensures.value ∙ c.in_ok-group.ensures) in
    let before = subst (λ (ps : List Part). HasParts (g.H.Host.state c.args.host.now) (g.H.Host.state c.loop-part.host) d vids c.args.lists.now (take c.loop-part.part-index ps) c.loop-part.found) same c.loop-part.invariant.0.passed in
    some_fetched d vids c.deref-in-loop-part.result.now c.loop-part.part-index (g.H.Host.state c.args.host.now).fetched (g.H.Host.state c.loop-part.host).fetched (g.H.Host.state c.add_group.new.host).fetched part
    (subst (λ (ps : List Part). c.loop-part.part-index < length ps) same c.loop-part-test.true) (subst (λ (ps : List Part). part ≡ get_or ps c.loop-part.part-index part) same c.part-item.is) group
    before.fetched c.in_ok-rids.ensures.fetched

pub returns-in_err-rids-clause-err : goal.returns-in_err-rids-clause-err
returns-in_err-rids-clause-err g c told =
    let s0 = g.H.Host.state c.args.host.now in
    let s1 = g.H.Host.state c.loop-part.host in
    let d = c.args.d.now in
    let vids = c.args.vids.now in
    let part : Part = c.part-item.result in
    let parts = c.parts-parts.result.now in
    let same : parts ≡ d.layout.parts = c.parts-parts.ensures.parts in
    let group = is_group vids c.deref.result.now part.versions c.deref-in-loop-part.result.now
    (subst (ArePlaces vids) (sym c.deref.ensures.value) c.in_ok-places.ensures) (c.deref-in-loop-part.ensures.value ∙ c.in_ok-group.ensures) in
    err_on (λ e. RefusesScan e (page_bytes s0) (set_in d) vids) c.from_residual-in_err-rids.result c.in_err-rids.field-0.0 c.from_residual-in_err-rids.ensures
    (stops s0 s1 d vids c.args.lists.now c.loop-part.part-index part c.deref-in-loop-part.result.now c.in_err-rids.field-0.0
    (subst (λ (ps : List Part). c.loop-part.part-index < length ps) same c.loop-part-test.true) (subst (λ (ps : List Part). part ≡ get_or ps c.loop-part.part-index part) same c.part-item.is)
    c.parts-parts.ensures.sound.once group c.loop-part.invariant.0.passed.looked (c.requires.lists told) told (c.in_err-rids.ensures.err (c.loop-part.invariant.0.passed.looked.told ∙ told)))

pub loop-part-preserved : goal.loop-part-preserved
loop-part-preserved g c =
    let s0 = g.H.Host.state c.args.host.now in
    let s1 = g.H.Host.state c.loop-part.host in
    let s2 = g.H.Host.state c.add_group.new.host in
    let d = c.args.d.now in
    let vids = c.args.vids.now in
    let lists = c.args.lists.now in
    let part : Part = c.part-item.result in
    let parts = c.parts-parts.result.now in
    let k = c.loop-part.part-index in
    let same : parts ≡ d.layout.parts = c.parts-parts.ensures.parts in
    let group = is_group vids c.deref.result.now part.versions c.deref-in-loop-part.result.now
    (subst (ArePlaces vids) (sym c.deref.ensures.value) c.in_ok-places.ensures) (c.deref-in-loop-part.ensures.value ∙ c.in_ok-group.ensures) in
    let held : List (List (List ℕ)) = c.loop-part.held.items ++ c.new.result ∷ [] in
    let at : HasPassed s0 s2 d vids lists (take k parts ++ part ∷ []) c.add_group.new.found held =
    passes s0 s1 s2 d vids lists (take k parts) k part c.deref-in-loop-part.result.now c.loop-part.found c.add_group.new.found c.loop-part.held.items c.new.result
    (subst (λ (ps : List Part). k < length ps) same c.loop-part-test.true) (subst (λ (ps : List Part). part ≡ get_or ps k part) same c.part-item.is) c.parts-parts.ensures.sound.once group
    c.loop-part.invariant.0 c.in_ok-rids.ensures.looked c.in_ok-rids.ensures.fetched c.in_ok-rids.ensures.added
    (λ told some. subst (HaveRids d.schema (page_bytes s1) part.segments) (sym c.new.ensures) (c.in_ok-rids.ensures.rids told some)) in (
      rw c.in_ok-push.ensures.items (subst (λ (ps : List Part). HasPassed s0 s2 d vids lists ps c.add_group.new.found held)
          (sym (take_more parts k part c.loop-part-test.true ∙ ap (λ (p : Part). take k parts ++ p ∷ []) (sym c.part-item.is))) at),
      λ none. c.in_ok-rids.ensures.still (none_served vids part.versions c.deref-in-loop-part.result.now group none) ∙ c.loop-part.invariant.1 none,
      c.in_ok-rids.ensures.columns ∙ c.loop-part.invariant.2,
    )

pub returns-clause-gathered : goal.returns-clause-gathered
returns-clause-gathered g c =
    let s0 = g.H.Host.state c.args.host.now in
    let s1 = g.H.Host.state c.loop-part.host in
    let d = c.args.d.now in
    let parts = c.parts-parts.result.now in
    let whole : take c.loop-part.part-index c.parts-parts.result.now ≡ c.args.d.now.layout.parts =
    take_all c.loop-part.part-index parts (omega (arith, c.loop-part-test.false)) ∙ c.parts-parts.ensures.parts in
    ends s0 s1 d c.args.vids.now c.args.lists.now c.loop-part.found (subst (λ (ps : List Part). HasParts s0 s1 d c.args.vids.now c.args.lists.now ps c.loop-part.found) whole c.loop-part.invariant.0.passed)

pub loop-part-init : goal.loop-part-init
loop-part-init g c =
    let s0 = g.H.Host.state c.args.host.now in (
      none_passed s0 c.args.d.now c.args.vids.now c.args.lists.now c.in_ok-found.found c.in_ok-held.held.items
          (starts s0 c.args.d.now c.args.vids.now c.args.lists.now c.in_ok-found.found c.in_ok-found.ensures.records c.in_ok-found.ensures.picks) c.in_ok-held.ensures.items,
      λ none. refl,
      c.in_ok-found.ensures.columns,
    )

pub returns-clause-held : goal.returns-clause-held
returns-clause-held g c =
    let s0 = g.H.Host.state c.args.host.now in
    let s1 = g.H.Host.state c.loop-part.host in
    let d = c.args.d.now in
    let parts = c.parts-parts.result.now in
    let whole : take c.loop-part.part-index c.parts-parts.result.now ≡ c.args.d.now.layout.parts =
    take_all c.loop-part.part-index parts (omega (arith, c.loop-part-test.false)) ∙ c.parts-parts.ensures.parts in
    let all = subst (λ (ps : List Part). HasPassed s0 s1 d c.args.vids.now c.args.lists.now ps c.loop-part.found c.loop-part.held.items) whole c.loop-part.invariant.0 in
    all_held s0 d c.args.vids.now c.loop-part.held.items all.kept

pub returns-in_err-rids-clause-still : goal.returns-in_err-rids-clause-still
returns-in_err-rids-clause-still g c none =
    let vids = c.args.vids.now in
    let part : Part = c.part-item.result in
    let group = is_group vids c.deref.result.now part.versions c.deref-in-loop-part.result.now
    (subst (ArePlaces vids) (sym c.deref.ensures.value) c.in_ok-places.ensures) (c.deref-in-loop-part.ensures.value ∙ c.in_ok-group.ensures) in
    let nobody = none_served vids part.versions c.deref-in-loop-part.result.now group none in
    c.in_err-rids.ensures.still nobody ∙ c.loop-part.invariant.1 none

pub returns-in_err-rids-clause-idle : goal.returns-in_err-rids-clause-idle
returns-in_err-rids-clause-idle g c none =
    let vids = c.args.vids.now in
    let part : Part = c.part-item.result in
    let group = is_group vids c.deref.result.now part.versions c.deref-in-loop-part.result.now
    (subst (ArePlaces vids) (sym c.deref.ensures.value) c.in_ok-places.ensures) (c.deref-in-loop-part.ensures.value ∙ c.in_ok-group.ensures) in
    let nobody = none_served vids part.versions c.deref-in-loop-part.result.now group none in
    err_on (λ e. e ≡ Memory) c.from_residual-in_err-rids.result c.in_err-rids.field-0.0 c.from_residual-in_err-rids.ensures (c.in_err-rids.ensures.idle nobody)

pub returns-in_err-push-clause-still : goal.returns-in_err-push-clause-still
returns-in_err-push-clause-still g c none =
    let vids = c.args.vids.now in
    let part : Part = c.part-item.result in
    let group = is_group vids c.deref.result.now part.versions c.deref-in-loop-part.result.now
    (subst (ArePlaces vids) (sym c.deref.ensures.value) c.in_ok-places.ensures) (c.deref-in-loop-part.ensures.value ∙ c.in_ok-group.ensures) in
    let nobody = none_served vids part.versions c.deref-in-loop-part.result.now group none in
    c.in_ok-rids.ensures.still nobody ∙ c.loop-part.invariant.1 none
