use Rattle.std.proofs.Common.{◌-◌, ℕ, List, [], ◌∷◌, ◌++◌, length, get_or, take, sym, ◌∙◌, ap, subst, arith}
use Rattle.std.specs.List.{AllZip}
use Rattle.std.proofs.lemmas.List.{take_more}
use Rattle.ov_catalog.specs.Sets.{set_in}
use Rattle.ov_fetch.specs.Extents.{page_bytes, IsList}
use Rattle.ov_fetch.proofs.Gathered.{is_among, passed_on, same_default}
use Rattle.ov_read.specs.Agreement.{list_of}
use Rattle.ov_read.specs.Damages.{RefusesLists}
use Rattle.ov_read.proofs.Listing.{HasLists, goes_on, stops, within}
use Rattle.ov_read.proofs.Numbered.{count_is, counted}
use Rattle.ov_read.proofs.lists.read_lists.Goals as goal

pub list_at-requires-clause-last : goal.list_at-requires-clause-last
list_at-requires-clause-last g c =
    let vid = get_or c.args.vids.now c.loop-vid.vid-index 0 in
    let is = c.requires c.loop-vid.vid-index 0 c.loop-vid-test.true in
    let counts : List ℕ = c.in_ok-counts.counts.items in
    c.index-last.ensures
    ∙ (same_default counts (vid - 1) c.index-last.result.now 0 (counted c.args.d.now c.deref.result.now counts vid c.deref.ensures.value c.in_ok-counts.ensures is)
    ∙ count_is c.args.d.now c.deref.result.now counts vid c.deref.ensures.value c.in_ok-counts.ensures is)

pub loop-vid-preserved : goal.loop-vid-preserved
loop-vid-preserved g c =
    let s0 = g.H.Host.state c.args.host.now in
    let s1 = g.H.Host.state c.loop-vid.host in
    let s2 = g.H.Host.state c.list_at.new.host in
    let s = set_in c.args.d.now in
    let vids = c.args.vids.now in
    let k = c.loop-vid.vid-index in
    let vid : ℕ = get_or c.args.vids.now c.loop-vid.vid-index 0 in
    let lists : List (List ℕ) = c.loop-vid.lists.items ++ c.in_ok-list_at.field-0 ∷ [] in
    let at : HasLists s0 s2 s (take k vids ++ vid ∷ []) lists =
    goes_on s0 s1 s2 s (take k vids) vid c.loop-vid.lists.items c.in_ok-list_at.field-0 c.loop-vid.invariant.0 c.in_ok-list_at.ensures.looked c.in_ok-list_at.ensures.fetched c.in_ok-list_at.ensures.agrees c.in_ok-list_at.ensures.answer in (
      rw c.in_ok-push.ensures.items (subst (λ (l : List ℕ). HasLists s0 s2 s l lists) (sym (take_more vids k 0 c.loop-vid-test.true)) at),
      λ none. absurd (omega (arith, c.loop-vid-test.true, ap length none)),
    )

pub returns-in_err-list_at-clause-fetched : goal.returns-in_err-list_at-clause-fetched
returns-in_err-list_at-clause-fetched g c =
    within (set_in c.args.d.now) c.args.vids.now c.loop-vid.vid-index (g.H.Host.state c.args.host.now).fetched (g.H.Host.state c.loop-vid.host).fetched (g.H.Host.state c.list_at.new.host).fetched
    c.loop-vid-test.true c.loop-vid.invariant.0.fetched c.in_err-list_at.ensures.fetched

pub returns-in_err-push-clause-fetched : goal.returns-in_err-push-clause-fetched
returns-in_err-push-clause-fetched g c =
    within (set_in c.args.d.now) c.args.vids.now c.loop-vid.vid-index (g.H.Host.state c.args.host.now).fetched (g.H.Host.state c.loop-vid.host).fetched (g.H.Host.state c.list_at.new.host).fetched
    c.loop-vid-test.true c.loop-vid.invariant.0.fetched c.in_ok-list_at.ensures.fetched

pub returns-in_err-list_at-clause-answer : goal.returns-in_err-list_at-clause-answer
returns-in_err-list_at-clause-answer g c told =
    let s0 = g.H.Host.state c.args.host.now in
    let s = set_in c.args.d.now in
    let vids : List ℕ = c.args.vids.now in
    let k = c.loop-vid.vid-index in
    passed_on (λ lists. AllZip (λ vid. IsList (page_bytes s0) (list_of s vid)) vids lists.items)
    (λ e. RefusesLists e (page_bytes s0) s vids) c.from_residual-in_err-list_at.result c.in_err-list_at.field-0.0 c.from_residual-in_err-list_at.ensures
    (stops s0 (g.H.Host.state c.loop-vid.host) s vids (take k vids) (get_or vids k 0) c.loop-vid.lists.items
    c.in_err-list_at.field-0.0 c.loop-vid.invariant.0 (is_among vids k 0 c.loop-vid-test.true) c.in_err-list_at.ensures.answer told)
