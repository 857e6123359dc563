-- What a commit is refused for before anything is read.
use Rattle.std.proofs.lemmas.Bool.{lt-leb}
use Rattle.std.proofs.Common.{◌<◌, subst, ◌≡◌, ℕ, false, List, [], length, ap}
use Rattle.std.specs.Prelude.{Option, Some, None}
use Rattle.std.specs.Option.{option_map, option_or}
use Rattle.ov_value.specs.declared.column.Column.{Column}
use Rattle.ov_model.specs.Book.{Row}
use Rattle.ov_core.specs.Held.{Held}
use Rattle.ov_rows.specs.Refusing.{rows_off}
use Rattle.ov_store.specs.declared.errors.StoreErr.{StoreErr}
use Rattle.ov_store.specs.declared.errors.StoreErr.TheVariants as why
use Rattle.ov_store.specs.Committing.{Set, adds, commit_off, parents_off, parents_off_in, schema_for, to_off}
use Rattle.ov_store.specs.Listing.{IsListed}
use Rattle.ov_store.specs.Unready.{IsRefused}
use Rattle.ov_store.specs.Worlds.{IsByNumbers}
use Rattle.ov_store.specs.Errors.{of_rows}
use Rattle.ov_store.specs.Refusals.{off_if, vids_off}
use Rattle.ov_store.specs.Scanning.{set_in}

-- the parents are the first that are tried
off_first : (format : ℕ) (o : Option Set) (vids : List ℕ) (added : List Column) (rows : List Row) (x : StoreErr) → parents_off_in o vids ≡ Some x → to_off format o vids added rows ≡ Some x
off_first format None vids added rows x refused = refused
off_first format (Some s) vids added rows x refused =
    ap (λ (o : Option StoreErr). option_or o (option_map of_rows (rows_off format (schema_for s.schema added) (adds added) rows))) refused

refused_on : (off later : Option StoreErr) (e : StoreErr) → ((x : StoreErr) → off ≡ Some x → later ≡ Some x) → IsRefused off e → IsRefused later e
refused_on off later why.Host first is = absurd is
refused_on off later why.Memory first is = tt
refused_on off later (why.Damaged area at) first is = absurd is
refused_on off later (why.Full pages) first is = absurd is
refused_on off later why.JournalFull first is = absurd is
refused_on off later why.NoCvd first is = first why.NoCvd is
refused_on off later why.CvdExists first is = first why.CvdExists is
refused_on off later (why.NoVersion vid) first is = first (why.NoVersion vid) is
refused_on off later (why.RepeatedVersion vid) first is = first (why.RepeatedVersion vid) is
refused_on off later (why.DuplicateKey row) first is = first (why.DuplicateKey row) is
refused_on off later why.TooManyVersions first is = first why.TooManyVersions is
refused_on off later why.TooManyRecords first is = first why.TooManyRecords is
refused_on off later why.TooManyRows first is = first why.TooManyRows is
refused_on off later why.TooManyCvds first is = first why.TooManyCvds is
refused_on off later why.NoNumbers first is = first why.NoNumbers is
refused_on off later (why.FormatOne row) first is = first (why.FormatOne row) is

pub parents_first : (held : Held) (name vids : List ℕ) (added : List Column) (rows : List Row) (e : StoreErr) → IsRefused (parents_off_in (set_in held.numbers name) vids) e
    → IsRefused (commit_off held name vids added rows) e
parents_first held name vids added rows e is =
    refused_on (parents_off_in (set_in held.numbers name) vids) (commit_off held name vids added rows) e (off_first held.journal.format (set_in held.numbers name) vids added rows) is

pub refused_by_numbers : (off : Option StoreErr) (e : StoreErr) → IsRefused off e → IsByNumbers e
refused_by_numbers off why.Host is = absurd is
refused_by_numbers off why.Memory is = tt
refused_by_numbers off (why.Damaged area at) is = absurd is
refused_by_numbers off (why.Full pages) is = absurd is
refused_by_numbers off why.JournalFull is = absurd is
refused_by_numbers off why.NoCvd is = tt
refused_by_numbers off why.CvdExists is = tt
refused_by_numbers off (why.NoVersion vid) is = tt
refused_by_numbers off (why.RepeatedVersion vid) is = tt
refused_by_numbers off (why.DuplicateKey row) is = tt
refused_by_numbers off why.TooManyVersions is = tt
refused_by_numbers off why.TooManyRecords is = tt
refused_by_numbers off why.TooManyRows is = tt
refused_by_numbers off why.TooManyCvds is = tt
refused_by_numbers off why.NoNumbers is = tt
refused_by_numbers off (why.FormatOne row) is = tt

-- none is off, and there are few
pub parents_none : (s : Set) (count : ℕ) (vids listed : List ℕ) → IsListed count vids listed → count ≡ length s.versions → count < 65535 → parents_off s vids ≡ None
parents_none s count vids listed is same few =
    (λ i. option_or (passed i) (off_if (lt-leb 65535 (length s.versions) (subst (λ (n : ℕ). n < 65535) same few) i) why.TooManyVersions))
  where
    passed : vids_off (length s.versions) [] vids ≡ None
    passed = subst (λ (n : ℕ). vids_off n [] vids ≡ None) same is.passed
