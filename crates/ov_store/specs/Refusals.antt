-- Which calls are refused, by the catalog's numbers and the call's arguments, in the order of the refusals.
--     new_off n name      a dataset of this name: 11, 20, 22
--     vids_off count before vids      versions of a dataset that has so many: per version from the left 12, 13
--     refused name off      the refusal of a command, where the dataset has this name
use Rattle.std.specs.Prelude.{◌≡◌, ℕ, Bool, ◌||◌, ◌==◌, nat_le, nat_lt, if◌then◌else◌, List, [], ◌∷◌, length, Option, Some, None}
use Rattle.std.specs.List.{list_any}
use Rattle.std.specs.Option.{option_or}
use Rattle.ov_model.specs.World.{is_one}
use Rattle.ov_model.specs.declared.refusal.Refusal.{Refusal}
use Rattle.ov_model.specs.declared.refusal.Refusal.TheVariants as no
use Rattle.ov_catalog.specs.Applying.{is_named}
use Rattle.ov_catalog.specs.Numbers.{Numbers}
use Rattle.ov_store.specs.declared.errors.StoreErr.{StoreErr}
use Rattle.ov_store.specs.declared.errors.StoreErr.TheVariants as why

abbrev pub off_if : Bool → StoreErr → Option StoreErr
off_if refused off = if refused then Some off else None

abbrev pub new_off : {L S : Type 0} → Numbers L S → List ℕ → Option StoreErr
new_off n name =
    option_or (off_if (list_any (is_named name) n.sets) why.CvdExists)
    (option_or (off_if (nat_le 1024 (length n.sets)) why.TooManyCvds)
    (off_if (n.next == 4294967295) why.NoNumbers))

-- `before` are the versions listed before these
abbrev pub vids_off : ℕ → List ℕ → List ℕ → Option StoreErr
vids_off count before [] = None
vids_off count before (vid ∷ vids) =
    if vid == 0 || nat_lt count vid then Some (why.NoVersion vid)
    else if is_one before vid then Some (why.RepeatedVersion vid)
    else vids_off count (vid ∷ before) vids

-- want of memory is no refusal
abbrev pub IsVidOff : ℕ → List ℕ → StoreErr → Type 0
IsVidOff count vids why.Memory = Unit {0}
IsVidOff count vids off = vids_off count [] vids ≡ Some off

-- Faults and damage end a run and are no refusals.
abbrev pub refusal_of : List ℕ → StoreErr → Option Refusal
refusal_of name why.Host = None
refusal_of name why.Memory = None
refusal_of name (why.Damaged area at) = None
refusal_of name (why.Full pages) = Some (no.NoRun pages None)
refusal_of name why.JournalFull = Some (no.JournalFull None)
refusal_of name why.NoCvd = Some (no.NoCvd name)
refusal_of name why.CvdExists = Some (no.CvdExists name)
refusal_of name (why.NoVersion vid) = Some (no.NoVersion vid)
refusal_of name (why.RepeatedVersion vid) = Some (no.RepeatedVersion vid)
refusal_of name (why.DuplicateKey row) = Some (no.DuplicateKey row)
refusal_of name why.TooManyVersions = Some (no.TooManyVersions name)
refusal_of name why.TooManyRecords = Some (no.TooManyRecords name)
refusal_of name why.TooManyRows = Some no.TooManyRows
refusal_of name why.TooManyCvds = Some no.TooManyCvds
refusal_of name why.NoNumbers = Some (no.NoNumbers name)
refusal_of name (why.FormatOne row) = Some (no.FormatOne row)

abbrev pub refused : List ℕ → Option StoreErr → Option Refusal
refused name None = None
refused name (Some off) = refusal_of name off
