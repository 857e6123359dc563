-- Why a call isn't done, out of why its parts aren't.
use Rattle.std.proofs.Common.{◌≡◌, None}
use Rattle.std.specs.Prelude.{Option}
use Rattle.ov_host.specs.Host.{State}
use Rattle.ov_core.specs.declared.brought.Brought.{Brought}
use Rattle.ov_core.specs.declared.errors.ChangeErr.{ChangeErr}
use Rattle.ov_core.specs.declared.errors.ChangeErr.TheVariants as change
use Rattle.ov_core.specs.Held.{Held}
use Rattle.ov_core.specs.Rooms.{IsMade, IsWhy as IsWhyNot}
use Rattle.ov_store.specs.declared.errors.StoreErr.{StoreErr}
use Rattle.ov_store.specs.declared.errors.StoreErr.TheVariants as why
use Rattle.ov_store.specs.Changes.{Bringing, IsDone, IsUnstored, IsWhy, bringing_of}
use Rattle.ov_store.specs.Errors.{of_change}
use Rattle.ov_store.specs.Unready.{IsRefused}

pub done_of : (old new : Held) (b : Brought) → IsMade old new b → IsDone (bringing_of b) old new
done_of old new b made = record { l = made.l; s = made.s; placed = made.placed; fits = made.fits; applied_is = made.applied_is }

pub unstored : (held : Held) (b : Brought) (old new : State) (off : ChangeErr) → IsWhyNot off held b old new → IsUnstored held (bringing_of b) old new (of_change off)
unstored held b old new change.Host is = is
unstored held b old new change.Memory is = is
unstored held b old new (change.Full pages) is = is
unstored held b old new change.JournalFull is = is

pub why_refused : (off : Option StoreErr) (b : Bringing) (held : Held) (old new : State) (e : StoreErr) → IsRefused off e → IsWhy off b held old new e
why_refused off b held old new why.Host is = absurd is
why_refused off b held old new why.Memory is = is
why_refused off b held old new (why.Damaged area at) is = absurd is
why_refused off b held old new (why.Full pages) is = absurd is
why_refused off b held old new why.JournalFull is = absurd is
why_refused off b held old new why.NoCvd is = is
why_refused off b held old new why.CvdExists is = is
why_refused off b held old new (why.NoVersion vid) is = is
why_refused off b held old new (why.RepeatedVersion vid) is = is
why_refused off b held old new (why.DuplicateKey row) is = is
why_refused off b held old new why.TooManyVersions is = is
why_refused off b held old new why.TooManyRecords is = is
why_refused off b held old new why.TooManyRows is = is
why_refused off b held old new why.TooManyCvds is = is
why_refused off b held old new why.NoNumbers is = is
why_refused off b held old new (why.FormatOne row) is = is

pub why_unstored : (off : Option StoreErr) (b : Bringing) (held : Held) (old new : State) (e : StoreErr) → off ≡ None → IsUnstored held b old new e → IsWhy off b held old new e
why_unstored off b held old new why.Host none is = is
why_unstored off b held old new why.Memory none is = is
why_unstored off b held old new (why.Full pages) none is = (none, is)
why_unstored off b held old new why.JournalFull none is = (none, is.0, is.1)
why_unstored off b held old new (why.Damaged area at) none is = absurd is
why_unstored off b held old new why.NoCvd none is = absurd is
why_unstored off b held old new why.CvdExists none is = absurd is
why_unstored off b held old new (why.NoVersion vid) none is = absurd is
why_unstored off b held old new (why.RepeatedVersion vid) none is = absurd is
why_unstored off b held old new (why.DuplicateKey row) none is = absurd is
why_unstored off b held old new why.TooManyVersions none is = absurd is
why_unstored off b held old new why.TooManyRecords none is = absurd is
why_unstored off b held old new why.TooManyRows none is = absurd is
why_unstored off b held old new why.TooManyCvds none is = absurd is
why_unstored off b held old new why.NoNumbers none is = absurd is
why_unstored off b held old new (why.FormatOne row) none is = absurd is
