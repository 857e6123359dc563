use Rattle.std.proofs.Common.{◌≡◌, ◌∙◌, ℕ, sym, ap, subst}
use Rattle.ov_catalog.specs.Extents.{live}
use Rattle.ov_core.specs.Held.{Held}
use Rattle.ov_store.specs.declared.unready.Unready.{Unready}
use Rattle.ov_store.specs.declared.unready.Unready.TheVariants.{Off, TooLong}
use Rattle.ov_store.specs.Unready.{IsNoRoom}
use Rattle.ov_store.proofs.Unreadying.{no_room}
use Rattle.ov_store.proofs.store.Store.unready.Goals as goal

abbrev list_in : Unready → ℕ
list_in (Off refusal) = 0
list_in (TooLong list_pages segment_pages) = list_pages

abbrev segment_in : Unready → ℕ
segment_in (Off refusal) = 0
segment_in (TooLong list_pages segment_pages) = segment_pages

pub returns-in-TooLong-clause-long : goal.returns-in-TooLong-clause-long
returns-in-TooLong-clause-long c = λ list_pages segment_pages list segment is long.
    let same : TooLong c.in-TooLong.list_pages c.in-TooLong.segment_pages ≡ TooLong list_pages segment_pages = sym c.in-TooLong.is ∙ is
    in subst (λ (held : Held). IsNoRoom (live held.numbers) list segment c.from.result) (ap (λ kept. kept.held) c.self.view_is)
    (subst (IsNoRoom (live c.self.inside.core.numbers) list segment) (sym c.from.ensures)
    (no_room (live c.self.inside.core.numbers) list segment c.refuse_long.result
    (c.refuse_long.ensures.why list segment (sym (ap list_in same ∙ long.0)) (sym (ap segment_in same ∙ long.1)))))
