-- The present cost of a dataset, by the numbers and in the World.
use Rattle.std.proofs.Common.{◌≡◌, ◌∙◌, ℕ, List, [], sym, ap}
use Rattle.std.specs.Prelude.{Some, None}
use Rattle.ov_host.specs.Host.{State}
use Rattle.ov_core.specs.AtWorld.{IsAtWorld}
use Rattle.ov_core.specs.Held.{Held}
use Rattle.law_image.specs.Pages.{readings_of}
use Rattle.ov_listing.specs.Listed.{cost}
use Rattle.ov_listing.proofs.ShowingLayout.{layout_shown}
use Rattle.ov_model.specs.Act.{Deed, Session, layout_deed}
use Rattle.ov_model.specs.World.{Dataset, World, set_named}
use Rattle.ov_model.specs.World as worlds
use Rattle.ov_model.specs.declared.reply.Reply.{Reply}
use Rattle.ov_model.specs.declared.reply.Reply.TheVariants as says
use Rattle.ov_store.specs.Committing.{Set}
use Rattle.ov_store.specs.Scanning.{set_in}
use Rattle.ov_store.proofs.Fitting.{sees}

-- the cost that a layout tells
abbrev told_cost : Reply → ℕ
told_cost (says.Layout parts plan stored cost) = cost
told_cost _ = 0

abbrev nobody : Session
nobody = record { files = λ name. None; user = [] }

-- what `layout` tells of it is both
pub cost_shown : (w : World) (held : Held) (t : State) → IsAtWorld w held t → (name : List ℕ) (s : Set) (d : Dataset) → set_in held.numbers name ≡ Some s
    → set_named w name ≡ Some d → cost s ≡ worlds.cost d
cost_shown w held t at name s d found named =
    sym (ap (λ (x : Deed). told_cost x.reply)
    (sym (ap (layout_deed nobody name) named)
    ∙ layout_shown (readings_of t.tape.disk.pages.bytes) held.numbers w name s nobody at.stands.stands.reached (sees w held t at) found))
