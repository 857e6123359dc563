use Rattle.std.proofs.Common.{◌≡◌, List, length, ap, sym, ◌∙◌}
use Rattle.ov_host.specs.declared.area.Extent.{Extent}
use Rattle.ov_layout.proofs.FlippedLemmas.{whole}
use Rattle.ov_catalog.specs.declared.cvd.Cvd.{Cvd}
use Rattle.ov_catalog.specs.Numbers.{Numbers, SetNumbers}
use Rattle.ov_catalog.specs.Raw.{place_in}
use Rattle.ov_catalog.specs.Ready.{ForWide, ready_in}
use Rattle.ov_catalog.specs.Sets.{sets_in}
use Rattle.ov_catalog.proofs.WideLemmas.{schema-kept}
use Rattle.ov_catalog.proofs.catalog.Catalog.widen.Goals as goal

pub returns-in-Wide-clause-widened : goal.returns-in-Wide-clause-widened
returns-in-Wide-clause-widened c columns kept =
    let inside = c.self.inside in
    let new = c.wide_in.new.sets in
    let size : length new ≡ length inside.sets.items = c.wide_in.auto.sets ∙ ap (λ (ds : List Cvd). length ds) c.deref_mut.ensures.value in
    let is = whole new inside.sets.items inside.sets.len size inside.sets.ok.0 in
    let ready : ready_in inside.room ≡ ForWide c.in-Wide.cvd (place_in c.in-Wide.place) c.in-Wide.schema = sym (ap ready_in c.in-Wide.ensures.value) in
    let own = rw (← c.self.view_is) at kept in
    let wide = schema-kept c.args.cvd c.in-Wide.cvd (place_in c.args.new.now.place) (place_in c.in-Wide.place) columns c.in-Wide.schema _ (ready_in inside.room) own ready in
    let committed = rw c.deref_mut.ensures.value at (c.wide_in.ensures.committed columns (rw c.deref_mut.ensures.value wide)) in
    rw (← c.self.view_is) (ap {B = Numbers Extent Extent} (λ (sets : List (SetNumbers Extent Extent)). record { next = inside.next; sets = sets }) (ap (λ (ds : List Cvd). sets_in ds) is ∙ committed))
