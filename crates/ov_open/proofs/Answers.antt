-- From what the journal and its payloads answer to what opening does.
use Rattle.std.proofs.Common.{◌≡◌, ◌≤◌, ◌<◌, ◌⊎◌, inl, inr, ℕ, zero, suc, ◌-◌, ◌/◌, ◌^◌, List, [], ◌∷◌, length, map, take, flat_map, Result, Ok, Err, refl, sym, ◌∙◌, ap, subst, arith, length-append}
use Rattle.std.specs.Prelude.{MatchResult, IfOk}
use Rattle.std.proofs.lemmas.List.{length-drop}
use Rattle.ov_host.specs.declared.area.Area.TheVariants.{Pages, Journal}
use Rattle.ov_host.specs.declared.area.Extent.{Extent}
use Rattle.ov_host.specs.Disk.{Disk, as_read, settled}
use Rattle.ov_host.specs.Host.{State, bytes_of}
use Rattle.ov_host.specs.Tape.{Tape}
use Rattle.ov_event.specs.declared.event.Event.{Event}
use Rattle.ov_event.specs.Spelling.{spelling}
use Rattle.ov_journal.specs.declared.errors.JournalErr.{JournalErr}
use Rattle.ov_journal.specs.declared.errors.JournalErr.TheVariants as journal
use Rattle.ov_journal.specs.Bytes.{record_of, IsLive}
use Rattle.ov_journal.specs.Journal.{Kept, IsJournal}
use Rattle.ov_journal.specs.Held as journals
use Rattle.ov_journal.specs.Held.{IsAt, kept_by}
use Rattle.ov_journal.specs.Opened as opened
use Rattle.ov_journal.specs.Opened.{HasStood, IsMade, ArePagesSettled}
use Rattle.ov_catalog.specs.Extents.{AreApart, covers, live}
use Rattle.ov_catalog.specs.Numbers.{Numbers, nothing_yet}
use Rattle.ov_catalog.specs.Raw.{numbers_in}
use Rattle.law_image.specs.Pages.{pages_in}
use Rattle.ov_core.specs.Held.{IsReplay}
use Rattle.ov_open.specs.Replaying.{IsStopped}
use Rattle.ov_core.specs.Held.{Held, IsBeside}
use Rattle.ov_open.specs.declared.errors.OpenErr.{OpenErr}
use Rattle.ov_open.specs.declared.errors.OpenErr.TheVariants as errors
use Rattle.ov_open.specs.Opening.{IsOpened}
use Rattle.ov_open.specs.Refusing.{Refuses, IsOff, gate_behind}
use Rattle.ov_open.specs.Building.{of_journal, IsBuilt, NotBuilt, gate_within}

-- ---- the journal's refusals

pub journal_refuses : (why : JournalErr) (d e : Disk) → opened.Refuses why d e → Refuses (of_journal why) d e
journal_refuses journal.Host d e is = tt
journal_refuses journal.Memory d e is = inl is
journal_refuses journal.NotAStore d e is = is
journal_refuses (journal.Format found) d e is = is
journal_refuses (journal.Damaged place) d e is = (inl is.0, is.1)

-- ---- the place of a gate

front_shorter : (nth : ℕ) (payloads : List (List ℕ)) → length (flat_map record_of (take nth payloads)) ≤ length (flat_map record_of payloads)
front_shorter zero payloads = omega arith
front_shorter (suc nth) [] = omega arith
front_shorter (suc nth) (p ∷ ps) =
    omega (
      arith,
      front_shorter nth ps,
      length-append (record_of p) (flat_map record_of (take nth ps)),
      length-append (record_of p) (flat_map record_of ps),
    )

gate_is : (kept : Kept) (bytes : List ℕ) (nth : ℕ) → IsJournal kept bytes → gate_within kept.start (take nth kept.payloads) ≡ gate_behind kept.start (take nth kept.payloads)
gate_is kept bytes nth is =
    let front : length is.front - kept.start ≡ length (flat_map record_of kept.payloads) = sym (length-drop kept.start is.front) ∙ ap length is.begins.records
    in let low : length (flat_map record_of (take nth kept.payloads)) ≤ length (flat_map record_of kept.payloads) = front_shorter nth kept.payloads
    in let start : kept.start ≤ length is.front = is.begins.start
    in let fits : length is.front < 2 ^ 28 = is.begins.fits
    in omega (arith, front, low, start, fits)

-- ---- a journal without payloads

no_events : (events : List Event) → [] ≡ map spelling events → events ≡ []
no_events [] e = refl
no_events (x ∷ xs) e = absurd cc

nothing_live : (format : ℕ) (payloads : List (List ℕ)) (n : Numbers Extent Extent) → payloads ≡ [] → IsReplay format payloads n → n ≡ nothing_yet
nothing_live format payloads n none is = is.end ∙ ap numbers_in (no_events is.events (sym none ∙ is.written))

nothing_off : (es : List Extent) (there page : ℕ) → es ≡ [] → IsOff es there page → ⊥
nothing_off es there page none (inl two) =
    let zero_pages : covers es page ≡ 0 = ap (λ (xs : List Extent). covers xs page) none in omega (arith, zero_pages, two.twice)
nothing_off es there page none (inr missing) =
    let zero_pages : covers es page ≡ 0 = ap (λ (xs : List Extent). covers xs page) none in omega (arith, zero_pages, missing.1.covered)

not_stopped : (format : ℕ) (payloads : List (List ℕ)) (nth : ℕ) → payloads ≡ [] → IsStopped format payloads nth → ⊥
not_stopped format payloads nth none is =
    let zero_payloads : length payloads ≡ 0 = ap length none in omega (arith, zero_payloads, is.there)

-- ---- behind the journal

module _ (d : Disk) (s1 s2 : State) (numbers : journals.Numbers) (payloads : List (List ℕ)) (there : ℕ)
    (found : HasStood d s1.tape.disk numbers payloads ⊎ IsMade d numbers payloads) (at : IsAt payloads numbers s1) (pages : ArePagesSettled d s1.tape.disk)
    (told : s2.tells ≡ s1.tells) (same : s2.tape ≡ s1.tape) (is_there : there ≡ length (bytes_of Pages s1) / 4096) where
  there_is : there ≡ pages_in d.pages.bytes
  there_is = is_there ∙ ap (λ (b : List ℕ). pages_in b) (ap (λ a. a.bytes) pages.pages)

  stood_then : HasStood d s1.tape.disk numbers payloads → HasStood d s2.tape.disk numbers payloads
  stood_then stood = record { stands = stood.stands; same = ap (λ (t : Tape). as_read t.disk) same ∙ stood.same }

  found_then : HasStood d s1.tape.disk numbers payloads ⊎ IsMade d numbers payloads → HasStood d s2.tape.disk numbers payloads ⊎ IsMade d numbers payloads
  found_then (inl stood) = inl (stood_then stood)
  found_then (inr made) = inr made

  at_then : IsAt payloads numbers s2
  at_then = record {
    told = told ∙ at.told;
    rest = subst (λ (t : Tape). t.disk.journal ≡ settled t.disk.journal.bytes) (sym same) at.rest;
    spells = subst (λ (t : Tape). IsJournal (kept_by numbers payloads) t.disk.journal.bytes) (sym same) at.spells;
    place = at.place;
    slots = subst (λ (t : Tape). IsLive numbers.side numbers.spare_open (take 38 t.disk.journal.bytes)) (sym same) at.slots;
  }

  pages_then : ArePagesSettled d s2.tape.disk
  pages_then = record {
    pages = ap (λ (t : Tape). t.disk.pages) same ∙ pages.pages;
    printed = ap (λ (t : Tape). t.disk.printed) same ∙ pages.printed;
  }

  is_opened : (held : Held) → IsBuilt numbers payloads there held → IsOpened d held s2
  is_opened held is = record {
    payloads = payloads;
    journal =
        subst (λ (n : journals.Numbers). HasStood d s2.tape.disk n payloads ⊎ IsMade d n payloads) (sym is.journal) (found_then found);
    at = subst (λ (n : journals.Numbers). IsAt payloads n s2) (sym is.journal) at_then;
    settled = pages_then;
    replays = subst (λ (n : journals.Numbers). IsReplay n.format payloads held.numbers) (sym is.journal) is.replays;
    apart = subst (λ (n : ℕ). AreApart (live held.numbers) n) there_is is.apart;
  }

  not_opened : (why : OpenErr) → HasStood d s1.tape.disk numbers payloads ⊎ IsMade d numbers payloads → NotBuilt why numbers payloads there → Refuses why d s2.tape.disk
  not_opened errors.Host stood is = tt
  not_opened errors.Memory (inl stood) is = inl (stood_then stood).same
  not_opened errors.Memory (inr made) is =
      inr (
        made.unmade,
        record {
          journal = inr (subst (λ (k : Kept). IsJournal k s2.tape.disk.journal.bytes) (λ i. kept_by (made.numbers_new i) (made.no_records i)) at_then.spells);
          pages = ap (λ a. a.bytes) pages_then.pages;
          printed = pages_then.printed;
        },
      )
  not_opened errors.NotAStore stood is = absurd is
  not_opened (errors.Format f) stood is = absurd is
  not_opened (errors.Damaged Journal place) (inl stood) is = (
    inr (record {
      kept = kept_by numbers payloads;
      stands = stood.stands;
      nth = is.nth;
      stops = is.stops;
      there = is.place_is ∙ gate_is (kept_by numbers payloads) d.journal.bytes is.nth stood.stands;
    }),
    (stood_then stood).same,
  )
  not_opened (errors.Damaged Journal place) (inr made) is = absurd (not_stopped numbers.format payloads is.nth made.no_records is.stops)
  not_opened (errors.Damaged Pages page) (inl stood) is = (
    record {
      kept = kept_by numbers payloads;
      stands = stood.stands;
      numbers = is.numbers;
      replays = is.replays;
      off = subst (λ (n : ℕ). IsOff (live is.numbers) n page) there_is is.off;
    },
    (stood_then stood).same,
  )
  not_opened (errors.Damaged Pages page) (inr made) is =
      absurd (nothing_off (live is.numbers) there page (ap live (nothing_live numbers.format payloads is.numbers made.no_records is.replays)) is.off)

  pub answered : (r : Result Held OpenErr) → MatchResult r (IsBuilt numbers payloads there) (λ why. NotBuilt why numbers payloads there)
      → MatchResult r (λ held. IsOpened d held s2) (λ why. Refuses why d s2.tape.disk)
  answered (Ok held) is = is_opened held is
  answered (Err why) is = not_opened why found is

lies_beside : (d : Disk) (held : Held) (s : State) → IsOpened d held s → held.journal.end < length (bytes_of Journal s) → IsBeside held s
lies_beside d held s is room = record {
  journal = room;
  pages = subst (λ (b : List ℕ). (page : ℕ) → 1 ≤ covers (live held.numbers) page → page < pages_in b) (sym (ap (λ a. a.bytes) is.settled.pages)) is.apart.inside;
}

pub beside : (d : Disk) (numbers : journals.Numbers) (payloads : List (List ℕ)) (there : ℕ) (r : Result Held OpenErr) (s1 s2 : State) → s2.tape ≡ s1.tape
    → MatchResult r (IsBuilt numbers payloads there) (λ why. NotBuilt why numbers payloads there)
    → MatchResult r (λ held. IsOpened d held s2) (λ why. Refuses why d s2.tape.disk)
    → numbers.end < length (bytes_of Journal s1) → IfOk r (λ held. IsBeside held s2)
beside d numbers payloads there (Ok held) s1 s2 same built is room =
    lies_beside d held s2 is
    (subst (λ (n : journals.Numbers). n.end < length (bytes_of Journal s2)) (sym built.journal)
    (subst (λ (t : Tape). numbers.end < length t.disk.journal.bytes) (sym same) room))
beside d numbers payloads there (Err why) s1 s2 same built is room = tt
