-- How a command of the registry ends.
--     reply_of name off      the reply to a change that the store refused; the dataset has this name
--     end_of off      why the command ends, where that is no refusal
--     IsEnd P old new why      why it ended; damage is of the pages, at a page of which P holds
--     Stays why before now old new      damage and want of memory leave the store as it was
--     Acts d s w result ..      where the store is at a World, a command does what it means, or is stopped in it
use Rattle.std.specs.Prelude.{◌≡◌, ℕ, List, Option, Some, None, Result, Ok, Err, option_map}
use Rattle.ov_core.specs.Held.{Held}
use Rattle.ov_fetch.specs.Extents.{Looked}
use Rattle.ov_host.specs.Host.{Rose, State}
use Rattle.ov_host.specs.declared.area.Area.TheVariants.{Pages}
use Rattle.ov_model.specs.Act.{Deed, Session}
use Rattle.ov_model.specs.World.{World}
use Rattle.ov_model.specs.declared.reply.Reply.{Reply}
use Rattle.ov_model.specs.declared.reply.Reply.TheVariants as says
use Rattle.ov_store.specs.Kept.{Kept}
use Rattle.ov_store.specs.Refusals.{refusal_of}
use Rattle.ov_store.specs.declared.errors.StoreErr.{StoreErr}
use Rattle.ov_store.specs.declared.errors.StoreErr.TheVariants as why
use Rattle.law_runs.specs.Serving.{Breaks, Does}
use Rattle.ov_staging.specs.declared.errors.StagingErr.{StagingErr}
use Rattle.ov_staging.specs.declared.errors.StagingErr.TheVariants as ending

abbrev pub reply_of : List ℕ → StoreErr → Option Reply
reply_of name off = option_map says.Refused (refusal_of name off)

abbrev pub end_of : StoreErr → Option StagingErr
end_of why.Host = Some ending.Host
end_of why.Memory = Some ending.Memory
end_of (why.Damaged area at) = Some (ending.Damaged area at)
end_of _ = None

abbrev pub IsEnd : (ℕ → Type 0) → State → State → StagingErr → Type 0
IsEnd P old new ending.Host = Rose old.faults new.faults
IsEnd P old new ending.Memory = Unit {0}
IsEnd P old new (ending.Damaged area at) = (area ≡ Pages) × P at

abbrev pub IsNoDamage : StagingErr → Type 0
IsNoDamage ending.Host = Unit {0}
IsNoDamage ending.Memory = Unit {0}
IsNoDamage (ending.Damaged area at) = ⊥

-- the host was at most looked at; where it failed, the store may have to be opened again
abbrev pub Stays : StagingErr → Kept → Kept → State → State → Type 0
Stays ending.Host before now old new = Unit {0}
Stays ending.Memory before now old new = (now ≡ before) × Looked old new
Stays (ending.Damaged area at) before now old new = (now ≡ before) × Looked old new

-- the session stays
abbrev pub Acts : Deed → Session → World → Result Reply StagingErr → Held → Held → State → State → Type 0
Acts d s w (Ok reply) before now old new = Does d s s w reply before now old new
Acts d s w (Err e) before now old new = Breaks d s w old new
