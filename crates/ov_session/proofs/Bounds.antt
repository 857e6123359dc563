-- How many bytes of pages a command fetches.
use Rattle.std.proofs.Common.{◌≡◌, ◌∙◌, ◌+◌, inl, inr, ℕ, true, List, [], Some, None, refl, sym, ap, subst, arith}
use Rattle.std.specs.Prelude.{◌≤◌, IsErrOf, Ok, Err, Option, Result, is_some}
use Rattle.std.specs.Option.{option_or}
use Rattle.ov_host.specs.Host.{State}
use Rattle.ov_core.specs.Held.{Held}
use Rattle.ov_model.specs.Book.{Row}
use Rattle.ov_model.specs.Line.{Line, Comment, Asks, Refused}
use Rattle.ov_model.specs.declared.command.Command.{Command}
use Rattle.ov_model.specs.declared.command.Command.TheVariants as asks
use Rattle.ov_read.specs.Sizes.{bytes_for}
use Rattle.ov_value.specs.declared.column.Column.{Column}
use Rattle.ov_session.specs.Bounds.{FetchedBy, FetchedLater, IsFetched, IsFetchedBy, IsReading, IsReadingCommand, bytes_in, command_fetch, if_allowed, may_fetch}
use Rattle.ov_session.specs.Reads.{Own, Nought, Versions, Steps, Later, Reads, fetch, reads_of}
use Rattle.ov_session.specs.declared.errors.EndErr.{EndErr}
use Rattle.ov_session.specs.declared.errors.EndErr.TheVariants as ending
use Rattle.ov_store.specs.Committing.{Set, commit_off, parents_off_in, to_off}
use Rattle.ov_store.specs.Scanning.{set_in}
use Rattle.ov_store.specs.declared.errors.StoreErr.{StoreErr}

pub fetched_none : (a n : ℕ) → a ≤ a + n
fetched_none a n = omega arith

pub fetched_still : (old new : State) (n : ℕ) → new.fetched ≡ old.fetched → new.fetched ≤ old.fetched + n
fetched_still old new n same = omega (arith, same)

-- ---- a line

-- nothing was read, and the store is as it was
none_later : (later : Option Later) (bytes : ℕ) (s : State) → FetchedLater later bytes s s
none_later None bytes s = omega arith
none_later (Some later) bytes s = inl (omega arith)

none_by : (own : Own) (row : Reads) (held : Held) (fault : Type 0) (s : State) → FetchedBy own row held held fault s s
none_by Nought row held fault s = none_later row.later (fetch row) s
none_by (Versions cvd seed rows versions) row held fault s =
    record { begun = []; are = tt; few = omega arith; last = λ fine. inr refl; fetched = omega arith }
none_by (Steps count) row held fault s = λ none. omega arith

pub unread_command : (user : List ℕ) (command : Command) (held : Held) (fault : Type 0) (s : State) → IsFetched user command held held fault s s
unread_command user command held fault s = none_by (reads_of held.numbers user command).own (reads_of held.numbers user command) held fault s

pub unread_line : (user : List ℕ) (l : Line) (held : Held) (fault : Type 0) (s : State) → IsFetchedBy user l held held fault s s
unread_line user Comment held fault s = omega arith
unread_line user (Asks command) held fault s = unread_command user command held fault s
unread_line user (Refused refusal) held fault s = omega arith

-- what is printed then reads nothing
later_printed : (later : Option Later) (bytes : ℕ) (old mid new : State) → new.fetched ≡ mid.fetched → FetchedLater later bytes old mid
    → FetchedLater later bytes old new
later_printed None bytes old mid new same f = omega (arith, f, same)
later_printed (Some later) bytes old mid new same (inl f) = inl (omega (arith, f, same))
later_printed (Some later) bytes old mid new same (inr f) = inr (f.0, f.1, omega (arith, f.2, same))

printed_by : (own : Own) (row : Reads) (held now : Held) (P Q : Type 0) (old mid new : State) → (P → Q) → new.fetched ≡ mid.fetched
    → FetchedBy own row held now P old mid → FetchedBy own row held now Q old new
printed_by Nought row held now P Q old mid new to same f = later_printed row.later (fetch row) old mid new same f
printed_by (Versions cvd seed rows versions) row held now P Q old mid new to same f =
    record { begun = f.begun; are = f.are; few = f.few; last = λ fine. f.last (λ p. fine (to p)); fetched = omega (arith, f.fetched, same) }
printed_by (Steps count) row held now P Q old mid new to same f = λ none. omega (arith, f none, same)

pub printed_command : (user : List ℕ) (command : Command) (held now : Held) (P Q : Type 0) (old mid new : State) → (P → Q) → new.fetched ≡ mid.fetched
    → IsFetched user command held now P old mid → IsFetched user command held now Q old new
printed_command user command held now P Q old mid new to same f =
    printed_by (reads_of held.numbers user command).own (reads_of held.numbers user command) held now P Q old mid new to same f

pub printed_line : (user : List ℕ) (l : Line) (held now : Held) (P Q : Type 0) (old mid new : State) → (P → Q) → new.fetched ≡ mid.fetched → IsFetchedBy user l held now P old mid
    → IsFetchedBy user l held now Q old new
printed_line user Comment held now P Q old mid new to same f = omega (arith, f, same)
printed_line user (Asks command) held now P Q old mid new to same f = printed_command user command held now P Q old mid new to same f
printed_line user (Refused refusal) held now P Q old mid new to same f = omega (arith, f, same)

-- a line that changes no store
reading_command : (user : List ℕ) (command : Command) (before now : Held) (fault : Type 0) (old new : State) → IsReadingCommand command → IsFetched user command before now fault old new
    → new.fetched ≤ old.fetched + command_fetch before.numbers user command
reading_command user (asks.Checkout cvd vids file None) before now fault old new reads f = f
reading_command user (asks.Checkout cvd vids file (Some table)) before now fault old new reads f = absurd reads
reading_command user (asks.Init cvd schema file) before now fault old new reads f = absurd reads
reading_command user (asks.Commit cvd vids file message added) before now fault old new reads f = absurd reads
reading_command user (asks.CommitStaged owner table message) before now fault old new reads f = absurd reads
reading_command user (asks.Optimize cvd p q) before now fault old new reads f = absurd reads
reading_command user (asks.OptimizeWithin cvd budget) before now fault old new reads f = absurd reads
reading_command user (asks.Migrate count) before now fault old new reads f = absurd reads
reading_command user (asks.DropCvd cvd) before now fault old new reads f = absurd reads
reading_command user asks.Checkpoint before now fault old new reads f = absurd reads
reading_command user (asks.Generate cvd seed rows versions) before now fault old new reads f = absurd reads
reading_command user (asks.CreateUser name) before now fault old new reads f = absurd reads
reading_command user (asks.Unstage owner table) before now fault old new reads f = absurd reads
reading_command user command before now fault old new reads f = f

pub reading_fetched : (user : List ℕ) (l : Line) (before now : Held) (fault : Type 0) (old new : State) → IsReading l → IsFetchedBy user l before now fault old new
    → new.fetched ≤ old.fetched + may_fetch before.numbers user l
reading_fetched user Comment before now fault old new reads f = omega (arith, f)
reading_fetched user (Asks command) before now fault old new reads f = reading_command user command before now fault old new reads f
reading_fetched user (Refused refusal) before now fault old new reads f = omega (arith, f)

-- ---- a fault of the host

pub host_again : {A B : Type 0} → (r : Result A EndErr) (q : Result B EndErr) (e : EndErr) → r ≡ Err e → q ≡ Err e → IsErrOf r ending.Host → IsErrOf q ending.Host
host_again r q e is as_ host = let same : e ≡ ending.Host = cc in as_ ∙ ap Err same

pub ok_no_host : {A : Type 0} → (r : Result A EndErr) (a : A) → r ≡ Ok a → IsErrOf r ending.Host → ⊥
ok_no_host r a is host = cc

-- ---- a command

-- where the dataset is there
pub fetched_there : (o : Option Set) (vids : List ℕ) (a b : ℕ) → (set : Set) × (o ≡ Some set) → ((set : Set) → o ≡ Some set → b ≤ a + bytes_for set vids) → b ≤ a + bytes_in o vids
fetched_there o vids a b there within = subst (λ (x : Option Set). b ≤ a + bytes_in x vids) (sym there.1) (within there.0 there.1)

-- ---- what the numbers refuse

pub none_off : {o : Option StoreErr} → (off : StoreErr) → o ≡ None → o ≡ Some off → ⊥
none_off off none is = cc

pub off_there : {X : Type 0} → (o : Option X) → is_some o ≡ true → (off : X) × (o ≡ Some off)
off_there None is = absurd cc
off_there (Some off) is = (off, refl)

-- of it nothing is read
pub fetched_allowed : {E : Type 0} → (off : Option E) (n a b : ℕ) → b ≤ a + n → ((e : E) → off ≡ Some e → b ≡ a) → b ≤ a + if_allowed off n
fetched_allowed None n a b within none = within
fetched_allowed (Some e) n a b within none = at_most (none e refl)
  where
    at_most : b ≡ a → b ≤ a + 0
    at_most same = omega (arith, same)

-- ---- a commit that the numbers refuse for its parents

-- that comes first
pub parents_first : (held : Held) (name vids : List ℕ) (added : List Column) (rows : List Row) (off : StoreErr) → parents_off_in (set_in held.numbers name) vids ≡ Some off
    → commit_off held name vids added rows ≡ Some off
parents_first held name vids added rows off is = by (set_in held.numbers name) is
  where
    first_off : (o more : Option StoreErr) → o ≡ Some off → option_or o more ≡ Some off
    first_off None more first = absurd cc
    first_off (Some e) more first = first

    by : (o : Option Set) → parents_off_in o vids ≡ Some off → to_off held.journal.format o vids added rows ≡ Some off
    by None is = is
    by (Some set) is = first_off _ _ is
