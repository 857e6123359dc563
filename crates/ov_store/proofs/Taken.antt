-- Why a checkpoint isn't taken, and how many datasets its World has.
use Rattle.std.proofs.Common.{◌≡◌, ◌<◌, ◌^◌, List, length, map, sym, ◌∙◌, ap, arith}
use Rattle.std.specs.Prelude.{Some}
use Rattle.std.proofs.lemmas.List.{length-map}
use Rattle.ov_host.specs.Host.{State}
use Rattle.ov_model.specs.Moves.{Checkpoint}
use Rattle.ov_model.specs.World.{World}
use Rattle.ov_catalog.specs.Numbers.{Numbers, each_set}
use Rattle.ov_catalog.specs.Raw.{numbers_in}
use Rattle.ov_catalog.specs.Shown.{shown_set}
use Rattle.law_image.specs.Pages.{readings_of}
use Rattle.law_room.specs.Room.{Entry, IsWithin, Made}
use Rattle.law_room.proofs.Checkpoints.{checkpoint_is_licensed}
use Rattle.ov_core.specs.AtWorld.{IsAtWorld}
use Rattle.ov_core.specs.Held.{Held, IsReplayed}
use Rattle.ov_core.specs.Rooms.{IsWhyNotTaken}
use Rattle.ov_core.specs.declared.errors.ChangeErr.{ChangeErr}
use Rattle.ov_core.specs.declared.errors.ChangeErr.TheVariants as change
use Rattle.ov_core.proofs.Taking.{replayed_whole}
use Rattle.ov_store.specs.declared.errors.StoreErr.{StoreErr}
use Rattle.ov_store.specs.declared.errors.StoreErr.TheVariants as why
use Rattle.ov_store.specs.Checkpoints.{IsUntaken}
use Rattle.ov_store.specs.Errors.{of_change}
use Rattle.ov_store.specs.Worlds.{IsLack}

pub untaken : (held : Held) (s t : State) (off : ChangeErr) → IsWhyNotTaken off held s t → IsUntaken held s t (of_change off)
untaken held s t change.Host is = is
untaken held s t change.Memory is = is
untaken held s t (change.Full pages) is = absurd is
untaken held s t change.JournalFull is = is

pub untaken_lacks : (w : World) (held : Held) (at s t : State) (entry : Entry) (past : List Made) → IsAtWorld w held at → IsWithin entry past held
    → (off : ChangeErr) → IsWhyNotTaken off held s t → IsLack entry past Checkpoint w (of_change off)
untaken_lacks w held at s t entry past is within change.Host off = tt
untaken_lacks w held at s t entry past is within change.Memory off = tt
untaken_lacks w held at s t entry past is within (change.Full pages) off = absurd off
untaken_lacks w held at s t entry past is within change.JournalFull off = checkpoint_is_licensed entry past held w at within is off

-- as many datasets as the World has, which are few
pub as_many : (w : World) (held : Held) (s : State) → IsAtWorld w held s → length held.numbers.sets ≡ length w.sets
as_many w held s at =
    let n : Numbers _ _ = numbers_in at.events
    in let r = readings_of s.tape.disk.pages.bytes
    in let shows : length (map (each_set r.list r.segment) n.sets) ≡ length (map (each_set Some Some) (map shown_set w.sets)) = ap (λ (m : Numbers _ _). length m.sets) at.stands.stands.shows
    in ap (λ (m : Numbers _ _). length m.sets) at.numbers_are
    ∙ sym (length-map n.sets (each_set r.list r.segment))
    ∙ shows
    ∙ length-map (map shown_set w.sets) (each_set Some Some)
    ∙ length-map w.sets shown_set

pub few_sets : (held : Held) → IsReplayed held.numbers → length held.numbers.sets < 2 ^ 32
few_sets held is = let few = (replayed_whole held.numbers is).few in omega (arith, few)
