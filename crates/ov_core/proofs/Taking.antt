-- A checkpoint of a store at a World leaves the World before it or the one after it.
use Rattle.std.proofs.Common.{◌≡◌, ◌⊎◌, inl, inr, ℕ, ◌<◌, ◌≤◌, ◌-◌, ◌^◌, List, refl, sym, ◌∙◌, ap, subst, arith}
use Rattle.std.specs.List.{AllByRecursion}
use Rattle.std.specs.Prelude.{◌↔◌, Result, Ok, Err, IsErrOf}
use Rattle.std.proofs.lemmas.Bool.{cases_lt}
use Rattle.ov_host.specs.declared.area.Extent.{Extent}
use Rattle.ov_host.specs.Disk.{Image, Leaves, as_read, settled}
use Rattle.ov_host.specs.Host.{State}
use Rattle.ov_host.specs.Stops.{Only}
use Rattle.ov_host.proofs.Stops.{only_wider}
use Rattle.ov_host.proofs.Writes.{settled_leaves}
use Rattle.ov_event.specs.Spelling.{IsEvent}
use Rattle.ov_journal.specs.declared.errors.AppendErr.{AppendErr}
use Rattle.ov_journal.specs.declared.errors.AppendErr.TheVariants as failed
use Rattle.ov_journal.specs.Checkpoints.{HasNoRoom, snapshot_kept, turned_to}
use Rattle.ov_journal.specs.Held as journals
use Rattle.ov_journal.specs.Held.{AtRest, IsAt, IsOldOrNew, SameButJournal, kept_by}
use Rattle.ov_journal.specs.Journal.{Kept, IsJournal}
use Rattle.ov_journal.specs.Snapshots.{size_of}
use Rattle.ov_model.specs.Moves.{Checkpoint, moved}
use Rattle.ov_model.specs.World.{World}
use Rattle.ov_catalog.specs.Extents.{live}
use Rattle.ov_catalog.specs.Numbers.{Numbers}
use Rattle.ov_catalog.specs.Raw.{numbers_in}
use Rattle.ov_catalog.specs.Snapshots.{IsSnapshot}
use Rattle.ov_catalog.proofs.Moving.{snapshot_numbers}
use Rattle.law_snapshots.specs.Said.{snapshot_in}
use Rattle.law_snapshots.specs.Whole.{AreWhole}
use Rattle.law_snapshots.proofs.Carrying.{all_whole}
use Rattle.law_snapshots.proofs.Followed.{snapshot_follows}
use Rattle.law_snapshots.proofs.Saying.{is_snapshot}
use Rattle.law_image.specs.Checkpoints.{IsCheckpointed}
use Rattle.law_image.specs.Images.{StandsBy, StandsAs}
use Rattle.law_image.specs.Pages.{SameLive}
use Rattle.law_image.proofs.Checkpointed.{next_stands}
use Rattle.law_image.proofs.Standing.{same_world}
use Rattle.ov_core.specs.AtWorld.{IsAtWorld, IsAtNext, IsEither}
use Rattle.ov_core.specs.Held.{Held, IsReplay, IsReplayed}
use Rattle.ov_core.specs.Rooms.{HasNoPlace, snapshot_payloads}
use Rattle.ov_core.proofs.Storing.{still}

-- the numbers of a core are as a snapshot may say them
pub replayed_whole : (n : Numbers Extent Extent) → IsReplayed n → AreWhole n
replayed_whole n is = subst AreWhole (sym is.are) (all_whole is.format is.events is.follow)

-- and those of the snapshot's events
said_again : (n : Numbers Extent Extent) → AreWhole n → numbers_in (snapshot_in n) ≡ n
said_again n are = snapshot_numbers (snapshot_in n) n (is_snapshot n are)

pub replays : (n : Numbers Extent Extent) → AreWhole n → AllByRecursion IsEvent (snapshot_in n) → IsReplay 2 (snapshot_payloads n) n
replays n are events = record {
  events = snapshot_in n;
  are = events;
  written = refl;
  follow = snapshot_follows 2 n are;
  end = sym (said_again n are);
}

-- an epoch is left, where there is a place
pub epoch_left : (journal : journals.Numbers) (payloads : List (List ℕ)) → journal.epoch < 2 ^ 32 → (HasNoRoom journal payloads → ⊥) → journal.epoch < 2 ^ 32 - 1
epoch_left journal payloads small fits =
    elim (cases_lt journal.epoch (2 ^ 32 - 1)) [
      | inl less ↦ less
      | inr last ↦ absurd (fits (inl (omega (arith, small, last))))
    ]

module _ (w : World) (held : Held) (s0 : State) (is : IsAtWorld w held s0) (are : AreWhole held.numbers)
    (spelled : AllByRecursion IsEvent (snapshot_in held.numbers)) (left : held.journal.epoch < 2 ^ 32 - 1) where
  abbrev kept : Kept
  kept = kept_by held.journal is.payloads

  abbrev next : Kept
  next = snapshot_kept held.journal (snapshot_payloads held.numbers)

  abbrev pages : List ℕ
  pages = s0.tape.disk.pages.bytes

  abbrev extents : List Extent
  extents = live (numbers_in is.events)

  itself : SameLive extents pages pages
  itself = record { there = is.stands.stands.apart.inside; same = λ p used. refl }

  before : (c : Image) → IsJournal kept c.journal → c.pages ≡ pages → StandsBy kept is.events w c
  before c journal same =
      same_world kept kept is.events w (as_read s0.tape.disk) c is.stands journal (record { epoch = refl; format = refl; payloads = refl })
      (subst (λ ps. SameLive extents pages ps) (sym same) itself)

  checkpointed : (c : Image) → IsJournal next c.journal → c.pages ≡ pages → IsCheckpointed kept is.events next (snapshot_in held.numbers) (as_read s0.tape.disk) c
  checkpointed c journal same = record {
    journal = journal;
    epoch = refl;
    format = refl;
    spell = record { are = spelled; written = refl };
    says = subst (IsSnapshot (snapshot_in held.numbers)) is.numbers_are (is_snapshot held.numbers are);
    pages = subst (λ ps. SameLive extents pages ps) (sym same) itself;
  }

  after : (c : Image) → IsJournal next c.journal → c.pages ≡ pages → StandsBy next (snapshot_in held.numbers) (moved Checkpoint w) c
  after c journal same =
      next_stands kept next is.events (snapshot_in held.numbers) w (as_read s0.tape.disk) c (checkpointed c journal same) is.stands left

  same_pages : (c : Image) → Leaves s0.tape.disk.pages c.pages → c.pages ≡ pages
  same_pages c leaves = settled_leaves pages c.pages (subst (λ a. Leaves a c.pages) is.rest.rest leaves)

  -- a stop meanwhile
  either : (c : Image) → IsOldOrNew kept next s0.tape.disk c → IsEither w (moved Checkpoint w) s0.tape.disk.printed c
  either c stopped = record { stands = by stopped.journal; printed_is = stopped.printed }
    where
      same : c.pages ≡ pages
      same = same_pages c stopped.pages

      by : IsJournal kept c.journal ⊎ IsJournal next c.journal → StandsAs w c ⊎ StandsAs (moved Checkpoint w) c
      by (inl old) = inl (inr (record { kept = kept; events = is.events; by = before c old same }))
      by (inr new) = inr (inr (record { kept = next; events = snapshot_in held.numbers; by = after c new same }))

  pub taking_stops : (s1 : State) → Only s0.tape s1.tape (IsOldOrNew kept next s0.tape.disk) → Only s0.tape s1.tape (IsEither w (moved Checkpoint w) s0.tape.disk.printed)
  taking_stops s1 only = only_wider s0.tape s1.tape (IsOldOrNew kept next s0.tape.disk) (IsEither w (moved Checkpoint w) s0.tape.disk.printed) either only

  pub taken : (s1 : State) (journal : journals.Numbers) → IsAt (snapshot_payloads held.numbers) journal s1
      → journal ≡ turned_to held.journal (snapshot_payloads held.numbers) → SameButJournal s0.tape.disk s1.tape.disk
      → IsAtNext (moved Checkpoint w) (record { journal = journal; numbers = held.numbers }) s0 s1
  taken s1 journal at turned same =
      let kept_same : kept_by journal (snapshot_payloads held.numbers) ≡ next = ap (λ j. kept_by j (snapshot_payloads held.numbers)) turned
      in let bytes : s1.tape.disk.pages.bytes ≡ pages = ap (λ a. a.bytes) same.pages_same
      in record {
        at = record {
          payloads = snapshot_payloads held.numbers;
          events = snapshot_in held.numbers;
          at = at;
          rest = record { told = at.told; rest = same.pages_same ∙ is.rest.rest ∙ ap settled (sym bytes) };
          stands = subst (λ k. StandsBy k (snapshot_in held.numbers) (moved Checkpoint w) (as_read s1.tape.disk)) (sym kept_same)
              (after (as_read s1.tape.disk) (subst (λ k. IsJournal k s1.tape.disk.journal.bytes) kept_same at.spells) bytes);
          numbers_are = sym (said_again held.numbers are);
        };
        printed_same = same.printed_same;
      }

-- such an answer isn't a full journal
pub ended : (done : Unit {0}) → (let r : Result (Unit {0}) AppendErr = Ok done in r) ≡ Err failed.JournalFull → ⊥
ended done e = cc

apart : (let r : Result (Unit {0}) AppendErr = Err failed.Host in r) ≡ Err failed.JournalFull → ⊥
apart e = cc

-- a stop in a call of the journal that answers so
pub call_stops : (w : World) (held : Held) (s0 s1 : State) → IsAtWorld w held s0 → AreWhole held.numbers → AllByRecursion IsEvent (snapshot_in held.numbers)
    → held.journal.epoch < 2 ^ 32 → (r : Result (Unit {0}) AppendErr) → (IsErrOf r failed.JournalFull ↔ HasNoPlace held) → (IsErrOf r failed.JournalFull → s1 ≡ s0)
    → ((payloads : List (List ℕ)) → IsAt payloads held.journal s0
    → Only s0.tape s1.tape (IsOldOrNew (kept_by held.journal payloads) (snapshot_kept held.journal (snapshot_payloads held.numbers)) s0.tape.disk))
    → Only s0.tape s1.tape (IsEither w (moved Checkpoint w) s0.tape.disk.printed)
call_stops w held s0 s1 is are spelled small (Ok done) full untouched stops =
    taking_stops w held s0 is are spelled (epoch_left held.journal (snapshot_payloads held.numbers) small (λ none. ended done (full.1 none))) s1 (stops is.payloads is.at)
call_stops w held s0 s1 is are spelled small (Err failed.Host) full untouched stops =
    taking_stops w held s0 is are spelled (epoch_left held.journal (snapshot_payloads held.numbers) small (λ none. apart (full.1 none))) s1 (stops is.payloads is.at)
call_stops w held s0 s1 is are spelled small (Err failed.JournalFull) full untouched stops =
    subst (λ s. Only s0.tape s.tape (IsEither w (moved Checkpoint w) s0.tape.disk.printed)) (sym (untouched refl)) (still w held s0 is Checkpoint)

-- a journal that stands is at rest
pub at_rest : (payloads : List (List ℕ)) (journal : journals.Numbers) (s : State) → IsAt payloads journal s → AtRest s
at_rest payloads journal s at = record { told = at.told; rest = at.rest }

-- ---- why not

-- what is longer than a journal has no place
pub too_long : (journal : journals.Numbers) (payloads : List (List ℕ)) → journal.start ≤ journal.end → journal.end < 2 ^ 28 → 2 ^ 28 < size_of payloads
    → HasNoRoom journal payloads
too_long journal payloads begins low long = inr (omega (arith, begins, low, long), omega (arith, long))
