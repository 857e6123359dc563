-- A journal is opened: both areas are synced, and then it is read, or made.
use Rattle.std.proofs.Common.{◌≡◌, ◌≢◌, ◌<◌, ◌≤◌, ◌⊎◌, inl, inr, ℕ, true, List, length, take, get_or, Result, Ok, Err, sym, ◌∙◌, ap, subst, arith}
use Rattle.std.specs.Prelude.{MatchResult}
use Rattle.std.proofs.lemmas.List.{take-take, get_or-take}
use Rattle.ov_host.specs.Disk.{Disk, Image, Leaves, MayLeave, as_read, settled}
use Rattle.ov_host.specs.Host.{State}
use Rattle.ov_host.specs.Stops.{Only}
use Rattle.ov_host.specs.Tape.{Tape}
use Rattle.ov_host.proofs.Stops.{only_then, only_wider}
use Rattle.ov_host.proofs.Writes.{settled_leaves}
use Rattle.ov_journal.specs.declared.errors.JournalErr.{JournalErr}
use Rattle.ov_journal.specs.declared.errors.JournalErr.TheVariants as errors
use Rattle.ov_journal.specs.Journal.{IsUnmade}
use Rattle.ov_journal.specs.Held.{Numbers, AtRest, IsUnmadeOrNew}
use Rattle.ov_journal.specs.Opened.{Loads, IsBegun, NotBegun, IsSettled, HasStood, IsMade, Refuses, IsLeftByOpen}
use Rattle.ov_journal.proofs.Loading.{looked_stops}

-- the journal's bytes stay
pub same_bytes : (d e : Disk) → IsSettled d e → e.journal.bytes ≡ d.journal.bytes
same_bytes d e is = ap (λ a. a.bytes) is.journal

same_read : (d e : Disk) → IsSettled d e → as_read e ≡ as_read d
same_read d e is =
    let pages : e.pages.bytes ≡ d.pages.bytes = ap (λ a. a.bytes) is.pages
    in let journal : e.journal.bytes ≡ d.journal.bytes = ap (λ a. a.bytes) is.journal
    in ap (λ (p : List ℕ). let c : Image = record { pages = p; journal = e.journal.bytes; printed = e.printed } in c) pages
    ∙ ap (λ (j : List ℕ). let c : Image = record { pages = d.pages.bytes; journal = j; printed = e.printed } in c) journal
    ∙ ap (λ (t : List ℕ). let c : Image = record { pages = d.pages.bytes; journal = d.journal.bytes; printed = t } in c) is.printed

-- a stop while both areas are synced
pub settling_stops : (s t : Tape) → Only s t (MayLeave s.disk) → Only s t (IsLeftByOpen s.disk)
settling_stops s t stops = only_wider s t (MayLeave s.disk) (IsLeftByOpen s.disk) (λ c left. inl left) stops

-- ---- a journal that is read

module _ (s0 s1 : State) (is : IsSettled s0.tape.disk s1.tape.disk) where
  stood : (s2 : State) (read : Numbers × List (List ℕ)) → s2.tape ≡ s1.tape → Loads (Ok read) s0.tape.disk.journal.bytes → HasStood s0.tape.disk s2.tape.disk read.0 read.1
  stood s2 read same loads =
      record { stands = loads.0; same = ap (λ t. as_read t.disk) same ∙ same_read s0.tape.disk s1.tape.disk is }

  refused : (s2 : State) (e : JournalErr) → s2.tape ≡ s1.tape → Loads (Err e) s0.tape.disk.journal.bytes → Refuses e s0.tape.disk s2.tape.disk
  refused s2 errors.Host same loads = tt
  refused s2 errors.Memory same loads = ap (λ t. as_read t.disk) same ∙ same_read s0.tape.disk s1.tape.disk is
  refused s2 errors.NotAStore same loads = (inl loads, ap (λ t. as_read t.disk) same ∙ same_read s0.tape.disk s1.tape.disk is)
  refused s2 (errors.Format found) same loads = (loads, ap (λ t. as_read t.disk) same ∙ same_read s0.tape.disk s1.tape.disk is)
  refused s2 (errors.Damaged place) same loads = (loads, ap (λ t. as_read t.disk) same ∙ same_read s0.tape.disk s1.tape.disk is)

  pub loaded : (r : Result (Numbers × List (List ℕ)) JournalErr) (s2 : State) (bytes : List ℕ) → bytes ≡ s1.tape.disk.journal.bytes → s2.tape ≡ s1.tape → Loads r bytes
      → MatchResult r (λ read. HasStood s0.tape.disk s2.tape.disk read.0 read.1 ⊎ IsMade s0.tape.disk read.0 read.1) (λ e. Refuses e s0.tape.disk s2.tape.disk)
  loaded (Ok read) s2 bytes there same loads =
      let L : List ℕ → Type 0 = λ b. Loads (Ok read) b
      in inl (stood s2 read same (subst L (there ∙ same_bytes s0.tape.disk s1.tape.disk is) loads))
  loaded (Err e) s2 bytes there same loads =
      let L : List ℕ → Type 0 = λ b. Loads (Err e) b
      in refused s2 e same (subst L (there ∙ same_bytes s0.tape.disk s1.tape.disk is) loads)

  -- ---- a journal that is made

  module _ (s2 : State) (looked : s2.tape ≡ s1.tape) (unmade : IsUnmade s2.tape.disk.journal.bytes) where
    was_unmade : IsUnmade s0.tape.disk.journal.bytes
    was_unmade = subst IsUnmade (ap (λ t. t.disk.journal.bytes) looked ∙ same_bytes s0.tape.disk s1.tape.disk is) unmade

    pages_are : s2.tape.disk.pages ≡ settled s0.tape.disk.pages.bytes
    pages_are = ap (λ t. t.disk.pages) looked ∙ is.pages

    pub making_stops : (s3 : State) → Only s0.tape s1.tape (MayLeave s0.tape.disk) → Only s2.tape s3.tape (IsUnmadeOrNew s2.tape.disk) → Only s0.tape s3.tape (IsLeftByOpen s0.tape.disk)
    making_stops s3 before after =
        only_then s0.tape s2.tape s3.tape (IsLeftByOpen s0.tape.disk)
        (looked_stops s0.tape s1.tape s2.tape (IsLeftByOpen s0.tape.disk) looked (settling_stops s0.tape s1.tape before))
        (only_wider s2.tape s3.tape (IsUnmadeOrNew s2.tape.disk) (IsLeftByOpen s0.tape.disk)
        (λ c left.
        inr (
          was_unmade,
          record {
            journal = left.journal;
            pages = settled_leaves s0.tape.disk.pages.bytes c.pages (subst (λ a. Leaves a c.pages) pages_are left.pages);
            printed = left.printed ∙ ap (λ t. t.disk.printed) looked ∙ is.printed;
          },
        ))
        after)

    made : (s3 : State) (read : Numbers × List (List ℕ)) → IsBegun s2 s3 read.0 read.1 → IsMade s0.tape.disk read.0 read.1
    made s3 read begun =
        record {
          unmade = was_unmade;
          no_pages = sym (ap (λ a. a.bytes) pages_are) ∙ begun.no_pages;
          numbers_new = begun.numbers_new;
          no_records = begun.no_records;
        }

    not_begun : (s3 : State) (e : JournalErr) → NotBegun e s2 s3 → Refuses e s0.tape.disk s3.tape.disk
    not_begun s3 errors.Host why = tt
    not_begun s3 errors.Memory why = absurd why
    not_begun s3 errors.NotAStore why =
        (inr (was_unmade, λ empty. why.0 (ap (λ a. a.bytes) pages_are ∙ empty)), ap (λ t. as_read t.disk) (why.1 ∙ looked) ∙ same_read s0.tape.disk s1.tape.disk is)
    not_begun s3 (errors.Format found) why = absurd why
    not_begun s3 (errors.Damaged place) why = absurd why

    pub begun : (r : Result (Numbers × List (List ℕ)) JournalErr) (s3 : State) → MatchResult r (λ read. IsBegun s2 s3 read.0 read.1) (λ e. NotBegun e s2 s3)
        → MatchResult r (λ read. HasStood s0.tape.disk s3.tape.disk read.0 read.1 ⊎ IsMade s0.tape.disk read.0 read.1) (λ e. Refuses e s0.tape.disk s3.tape.disk)
    begun (Ok read) s3 is_begun = inr (made s3 read is_begun)
    begun (Err e) s3 why = not_begun s3 e why

-- nothing is pending once both areas were synced
pub settled_rest : (s0 s1 s2 : State) → s2.tells ≡ true → IsSettled s0.tape.disk s1.tape.disk → s2.tape ≡ s1.tape → AtRest s2
settled_rest s0 s1 s2 told is looked =
    let Rest : Disk → Type 0 = λ d. d.journal ≡ settled d.journal.bytes
    in record {
      told = told;
      rest = subst Rest (sym (ap (λ t. t.disk) looked)) (is.journal ∙ ap settled (sym (same_bytes s0.tape.disk s1.tape.disk is)));
    }

-- what the size and the first byte say
pub seen_unmade : (size : ℕ) (bytes head : List ℕ) → size ≡ length bytes → (39 ≤ length bytes → head ≡ take 39 bytes) → (size < 39) ⊎ ((size ≡ 39) × (get_or head 0 0 ≢ 165)) → IsUnmade bytes
seen_unmade size bytes head long there (inl less) = inl (omega arith)
seen_unmade size bytes head long there (inr exact) =
    inr (
      omega (arith, exact.0),
      λ e. exact.1 (ap (λ (b : List ℕ). get_or b 0 0) (there (omega (arith, exact.0))) ∙ get_or-take 39 bytes 0 0 (omega arith) ∙ e),
    )

seen_long : (size : ℕ) (bytes head : List ℕ) → size ≡ length bytes → (39 < size) ⊎ ((size ≡ 39) × (get_or head 0 0 ≡ 165)) → 39 ≤ length bytes
seen_long size bytes head long (inl more) = omega arith
seen_long size bytes head long (inr exact) = omega (arith, exact.0)

-- the header is among the bytes that were read
pub header_there : (size : ℕ) (bytes head header : List ℕ) → size ≡ length bytes → (39 ≤ length bytes → head ≡ take 39 bytes) → (39 < size) ⊎ ((size ≡ 39) × (get_or head 0 0 ≡ 165)) → header ≡ take 38 head → header ≡ take 38 bytes
header_there size bytes head header long is made there =
    there ∙ ap (take 38) (is (seen_long size bytes head long made)) ∙ take-take 38 39 bytes (omega arith)
