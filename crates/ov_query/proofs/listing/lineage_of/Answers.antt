use Rattle.std.proofs.Common.{◌≡◌, ◌∙◌, ◌<◌, ◌≤◌, ◌+◌, List, ℕ, length, map, take, get_or, sym, subst, arith}
use Rattle.std.specs.Prelude.{Vec}
use Rattle.std.specs.declared.alloc.Global.{Global}
use Rattle.std.proofs.lemmas.List.{take_all}
use Rattle.ov_catalog.specs.Sets.{version_in}
use Rattle.ov_catalog.specs.declared.cvd.Version.{Version}
use Rattle.ov_lineage.specs.Related.{AreParents, lists_of}
use Rattle.ov_query.proofs.Parents.{kept_at, kept_long, known_parents, lists_more, parents_in}
use Rattle.ov_query.proofs.listing.lineage_of.Goals as goal

pub loop-version-preserved : goal.loop-version-preserved
loop-version-preserved c =
    let vs = c.args.d.now.versions.items in
    let i = c.loop-version.version-index in
    let all : List (List ℕ) = map parents_in (map version_in vs) in
    let low : i < length vs = subst (λ (xs : List Version). i < length xs) c.deref-version-items.ensures.value c.loop-version-test.true in
    let long = kept_long vs in
    let at = kept_at vs i c.version-item.result low
    (subst (λ (xs : List Version). c.version-item.result ≡ get_or xs i c.version-item.result) c.deref-version-items.ensures.value c.version-item.is) in
    subst (λ (lists : List (Vec ℕ Global)). lists_of lists ≡ take (i + 1) all) (sym c.in_ok-push.ensures.items)
    (lists_more all i c.loop-version.parents.items c.in_ok-parents_of.field-0 (omega (arith, low, long)) (c.in_ok-parents_of.ensures ∙ at) c.loop-version.invariant)

pub of-requires : goal.of-requires
of-requires c =
    let vs = c.args.d.now.versions.items in
    let i = c.loop-version.version-index in
    let all : List (List ℕ) = map parents_in (map version_in vs) in
    let over : length vs ≤ i = subst (λ (xs : List Version). length xs ≤ i) c.deref-version-items.ensures.value c.loop-version-test.false in
    let long = kept_long vs in
    subst (λ (lists : List (Vec ℕ Global)). AreParents (lists_of lists)) (sym c.deref.ensures.value)
    (subst AreParents (sym (c.loop-version.invariant ∙ take_all i all (omega (arith, over, long)))) (known_parents c.args.d.now c.requires))
