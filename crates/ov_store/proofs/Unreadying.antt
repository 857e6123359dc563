-- Why a call isn't done whose version isn't ready.
use Rattle.std.proofs.Common.{◌≡◌, ◌<◌, ◌≤◌, ◌^◌, ◌+◌, ℕ, List, [], length, sym, ◌∙◌, ap, subst, refl, arith}
use Rattle.std.specs.Prelude.{◌/◌, Option, Some, None}
use Rattle.ov_host.specs.Host.{State}
use Rattle.ov_host.specs.declared.area.Extent.{Extent}
use Rattle.ov_value.specs.Shapes.{Shape}
use Rattle.ov_model.specs.Book.{Row}
use Rattle.ov_model.specs.Merge.{in_key_order}
use Rattle.ov_model.specs.Moves.{Init}
use Rattle.ov_model.specs.Records.{counted}
use Rattle.ov_model.specs.World.{World}
use Rattle.ov_catalog.specs.Events as events
use Rattle.ov_catalog.specs.Extents.{live}
use Rattle.ov_catalog.specs.Reached.{AreRows}
use Rattle.ov_catalog.specs.Stands.{asked_event}
use Rattle.ov_core.specs.declared.errors.ChangeErr.{ChangeErr}
use Rattle.ov_core.specs.declared.errors.ChangeErr.TheVariants as change
use Rattle.ov_core.specs.Held.{Held}
use Rattle.ov_core.specs.Rooms.{IsWhyNoRuns}
use Rattle.ov_version_bytes.specs.Written.{IsLong, IsWhy as IsUnwritten, first_event, list_written, segment_written}
use Rattle.ov_version_bytes.specs.declared.write_err.WriteErr.{WriteErr}
use Rattle.ov_version_bytes.specs.declared.write_err.WriteErr.TheVariants as write
use Rattle.ov_version_bytes.proofs.Beginning.{first_list, first_segments}
use Rattle.ov_version_bytes.proofs.Counting.{counted_long}
use Rattle.ov_version_bytes.proofs.Listing.{IsSized, list_sized}
use Rattle.ov_store.specs.declared.errors.StoreErr.{StoreErr}
use Rattle.ov_store.specs.declared.errors.StoreErr.TheVariants as why
use Rattle.ov_store.specs.declared.unready.Unready.{Unready}
use Rattle.ov_store.specs.declared.unready.Unready.TheVariants.{Off, TooLong}
use Rattle.ov_store.specs.Beginning.{first_move, first_of}
use Rattle.ov_store.specs.Changes.{Bringing, IsWhy}
use Rattle.ov_store.specs.Errors.{of_change, unready_of}
use Rattle.ov_store.specs.Unready.{IfTooLong, IsNoRoom, IsUnready}
use Rattle.ov_store.proofs.Answering.{why_refused}

-- a list has at most eight bytes a rid
pub list_short : (rids : List ℕ) (pages : ℕ) → length rids ≤ 1000000 → pages ≡ (length (list_written rids) + 4095) / 4096 → pages < 2 ^ 20
list_short rids pages few is = let sized : IsSized (list_written rids) (length rids) = list_sized rids in omega (arith, few, is, sized.size, sized.few)

pub first_unready : (off : Option StoreErr) (name : List ℕ) (schema : Shape) (rows made : List Row) (w : WriteErr) → made ≡ in_key_order schema rows → length made ≡ length rows
    → length made ≤ 1000000 → off ≡ None → IsUnwritten w [] (counted 1 (length made)) made → IsUnready off (first_of name schema rows) (unready_of w)
first_unready off name schema rows made write.Memory is same few none cause = tt
first_unready off name schema rows made (write.TooLong list_pages segment_pages) is same few none cause =
    let long : IsLong list_pages segment_pages (first_of name schema rows).list (first_of name schema rows).segment
    = subst (λ (n : ℕ). IsLong list_pages segment_pages (list_written (counted 1 n)) (segment_written [] (counted 1 n) (in_key_order schema rows))) same
    (subst (λ (all : List Row). IsLong list_pages segment_pages (list_written (counted 1 (length made))) (segment_written [] (counted 1 (length made)) all)) is cause)
    in (none, long, list_short (counted 1 (length made)) list_pages (omega (arith, few, counted_long 1 (length made))) cause.0)

-- what is too long is what the World asks for
pub first_long : (w : World) (name : List ℕ) (schema : Shape) (rows made : List Row) (e : WriteErr) → made ≡ in_key_order schema rows → AreRows schema made
    → IsUnwritten e [] (counted 1 (length made)) made → IfTooLong (first_move name schema rows) w (unready_of e)
first_long w name schema rows made write.Memory is are cause = tt
first_long w name schema rows made (write.TooLong list_pages segment_pages) is are cause =
    let list : List ℕ = list_written (counted 1 (length made))
    in let segment : List ℕ = segment_written [] (counted 1 (length made)) made
    in record {
      written = record {
        event = first_event name schema made list segment;
        list = list;
        segment = segment;
        says = (λ i. Some (events.Init name schema (length made) (first_list schema made are i) (first_segments schema made are i))) ∙ ap (λ all. asked_event (Init name schema all) w) is;
        sized = refl;
        runs = tt;
      };
      long = cause;
    }

pub no_room : (es : List Extent) (list segment : List ℕ) (off : ChangeErr) → IsWhyNoRuns es list segment off → IsNoRoom es list segment (of_change off)
no_room es list segment change.Host is = absurd is
no_room es list segment change.Memory is = is
no_room es list segment (change.Full pages) is = is
no_room es list segment change.JournalFull is = absurd is

no_room_why : (off : Option StoreErr) (b : Bringing) (held : Held) (old new : State) (e : StoreErr) → off ≡ None → IsNoRoom (live held.numbers) b.list b.segment e → IsWhy off b held old new e
no_room_why off b held old new why.Memory none is = tt
no_room_why off b held old new (why.Full pages) none is = (none, is)
no_room_why off b held old new why.Host none is = absurd is
no_room_why off b held old new (why.Damaged area at) none is = absurd is
no_room_why off b held old new why.JournalFull none is = absurd is
no_room_why off b held old new why.NoCvd none is = absurd is
no_room_why off b held old new why.CvdExists none is = absurd is
no_room_why off b held old new (why.NoVersion vid) none is = absurd is
no_room_why off b held old new (why.RepeatedVersion vid) none is = absurd is
no_room_why off b held old new (why.DuplicateKey row) none is = absurd is
no_room_why off b held old new why.TooManyVersions none is = absurd is
no_room_why off b held old new why.TooManyRecords none is = absurd is
no_room_why off b held old new why.TooManyRows none is = absurd is
no_room_why off b held old new why.TooManyCvds none is = absurd is
no_room_why off b held old new why.NoNumbers none is = absurd is
no_room_why off b held old new (why.FormatOne row) none is = absurd is

pub unready_why : (off : Option StoreErr) (b : Bringing) (held : Held) (old new : State) (u : Unready) (e : StoreErr) → IsUnready off b u
    → ((refusal : StoreErr) → u ≡ Off refusal → e ≡ refusal)
    → ((list_pages segment_pages : ℕ) (list segment : List ℕ) → u ≡ TooLong list_pages segment_pages → IsLong list_pages segment_pages list segment → IsNoRoom (live held.numbers) list segment e)
    → IsWhy off b held old new e
unready_why off b held old new (Off refusal) e is by_off by_long = subst (IsWhy off b held old new) (sym (by_off refusal refl)) (why_refused off b held old new refusal is)
unready_why off b held old new (TooLong list_pages segment_pages) e is by_off by_long = no_room_why off b held old new e is.0 (by_long list_pages segment_pages b.list b.segment refl is.1)
