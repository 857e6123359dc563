-- What is read of the World that a store is at.
use Rattle.std.proofs.Common.{◌≡◌, ◌∙◌, ℕ, List, sym, ap, subst}
use Rattle.std.specs.Prelude.{Some, None}
use Rattle.ov_host.specs.Host.{State}
use Rattle.ov_model.specs.World.{Dataset, World, set_named}
use Rattle.ov_fetch.specs.declared.errors.FetchErr.{FetchErr}
use Rattle.ov_fetch.specs.declared.errors.FetchErr.TheVariants as fetch
use Rattle.ov_fetch.specs.Extents.{page_bytes}
use Rattle.ov_core.specs.AtWorld.{IsAtWorld}
use Rattle.ov_core.specs.Held.{Held}
use Rattle.ov_read.specs.Agreement.{Numbers}
use Rattle.ov_read.specs.OfWorld.{IsSetOf, IsSpared}
use Rattle.law_reads.specs.Sights.{IsFound}
use Rattle.law_reads.proofs.Founds.{by_name}
use Rattle.ov_store.specs.Errors.{of_fetch}
use Rattle.ov_store.specs.Scanning.{IsUndamaged, set_in}
use Rattle.ov_store.proofs.Fitting.{sees}

-- the dataset that is found by a name is the World's
pub found_set : (w : World) (held : Held) (s : State) → IsAtWorld w held s → (name : List ℕ) (numbers : Numbers) (d : Dataset) → set_in held.numbers name ≡ Some numbers
    → set_named w name ≡ Some d → IsSetOf w d (page_bytes s) numbers
found_set w held s at name numbers d found named =
    let is : IsFound w (page_bytes s) numbers (set_named w name) = by_name w held.numbers (page_bytes s) name numbers at.stands.stands.reached (sees w held s at) found
    in let same : is.set ≡ d = ap (λ o. elim o as (λ _. Dataset) [ None ↦ d | Some x ↦ x ]) (sym is.is ∙ named)
    in subst (λ x. IsSetOf w x (page_bytes s) numbers) same is.of_world

pub spared : (e : FetchErr) → IsSpared e → IsUndamaged (of_fetch e)
spared fetch.Host is = tt
spared fetch.Memory is = tt
spared (fetch.Damaged page) is = absurd is
