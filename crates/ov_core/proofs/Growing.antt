-- A record that was added: what the journal says after it, and where its end is.
use Rattle.std.proofs.Common.{◌≡◌, ◌⊎◌, inl, inr, ℕ, ◌+◌, ◌≤◌, List, [], ◌∷◌, ◌++◌, length, refl, sym, ◌∙◌, ap, subst, arith, length-append}
use Rattle.std.specs.List.{flat_map}
use Rattle.std.specs.Int.{w32, to_be_bytes}
use Rattle.std.proofs.lemmas.List.{flat_map_more}
use Rattle.ov_host.specs.Disk.{Stored, Leaves, MayLeave, as_read, settled, settled_leaves_itself}
use Rattle.ov_host.specs.Host.{State}
use Rattle.ov_host.specs.Stops.{Only}
use Rattle.ov_event.specs.declared.event.Event as raw
use Rattle.ov_event.specs.Spelling.{spelling}
use Rattle.ov_host.specs.declared.area.Extent.{Extent}
use Rattle.ov_journal.specs.Bytes.{record_of}
use Rattle.ov_journal.specs.Held as journals
use Rattle.ov_journal.specs.Held.{IsAt, kept_by}
use Rattle.ov_journal.specs.Journal.{Kept, IsJournal, Holds, and_one, end_of}
use Rattle.ov_journal.proofs.Unique.{one_thing}
use Rattle.ov_publish.specs.Pages.{SameOn}
use Rattle.ov_publish.specs.Puts.{PagesAtRest}
use Rattle.ov_publish.specs.Steps.{IsAdded, IsFree, IsStored}
use Rattle.ov_core.specs.Brought.{with_extents}
use Rattle.ov_core.proofs.Extents.{spelled_same}

kept_once : (a b : Kept) (bytes : List ℕ) → IsJournal a bytes → IsJournal b bytes → a ≡ b
kept_once a b bytes here there = let same : Holds a ≡ Holds b = one_thing (Holds a) (Holds b) bytes here there in cc

not_longer : (ps : List (List ℕ)) (p : List ℕ) → ps ≡ ps ++ p ∷ [] → ⊥
not_longer ps p same =
    let size : length ps ≡ length (ps ++ p ∷ []) = ap length same
    in omega (arith, size, length-append ps (p ∷ []))

module _ (old new : journals.Numbers) (payloads : List (List ℕ)) (p final printed : List ℕ) (s1 : State)
    (added : IsAdded (payloads ++ p ∷ []) final printed new s1) where
  pub at_final : s1.tape.disk.pages.bytes ≡ final
  at_final = ap (λ (a : Stored). a.bytes) added.rest

  pub settled_pages : s1.tape.disk.pages ≡ settled s1.tape.disk.pages.bytes
  settled_pages = added.rest ∙ ap settled (sym at_final)

  -- what reads now is what a stop leaves
  left : MayLeave s1.tape.disk (as_read s1.tape.disk)
  left = record {
    pages = subst (λ (a : Stored). Leaves a s1.tape.disk.pages.bytes) (sym settled_pages) (settled_leaves_itself s1.tape.disk.pages.bytes);
    journal = subst (λ (a : Stored). Leaves a s1.tape.disk.journal.bytes) (sym added.at.rest) (settled_leaves_itself s1.tape.disk.journal.bytes);
    printed = refl;
  }

  module _ (s0 : State) (live : List (ℕ × ℕ)) (pages said : List ℕ)
      (only : Only s0.tape s1.tape (IsStored (kept_by old payloads) (and_one (kept_by old payloads) p) live pages final said)) where
    -- the live slot is the same
    pub kept_after : and_one (kept_by old payloads) p ≡ kept_by new (payloads ++ p ∷ [])
    kept_after = by (only.now (as_read s1.tape.disk) left).which
      where
        by : (IsJournal (kept_by old payloads) s1.tape.disk.journal.bytes × SameOn live pages s1.tape.disk.pages.bytes)
            ⊎ (IsJournal (and_one (kept_by old payloads) p) s1.tape.disk.journal.bytes × (s1.tape.disk.pages.bytes ≡ final))
            → and_one (kept_by old payloads) p ≡ kept_by new (payloads ++ p ∷ [])
        by (inl still) =
            let both = kept_once (kept_by old payloads) (kept_by new (payloads ++ p ∷ [])) s1.tape.disk.journal.bytes still.0 added.at.spells
            in absurd (not_longer payloads p (ap (λ (k : Kept). k.payloads) both))
        by (inr done) = kept_once (and_one (kept_by old payloads) p) (kept_by new (payloads ++ p ∷ [])) s1.tape.disk.journal.bytes done.0 added.at.spells

    -- the gate of the record, its length, and its payload
    pub grown : old.end ≡ end_of (kept_by old payloads) → new.end ≤ old.end + 6 + length p
    grown place =
        let there : new.end ≡ end_of (and_one (kept_by old payloads) p) = added.at.place ∙ ap end_of (sym kept_after)
        in let more : length (flat_map record_of (payloads ++ p ∷ [])) ≡ length (flat_map record_of payloads) + (length p + 5) =
        omega (arith, ap length (flat_map_more record_of [] payloads p), length-append (flat_map record_of payloads) (record_of p), length-append (to_be_bytes w32 (length p)) p)
        in omega (arith, place, there, more)

-- no range has to stay
pub none_stays : (ranges : List (ℕ × ℕ)) (s0 : State) → PagesAtRest s0 → IsFree [] ranges s0.tape.disk
none_stays ranges s0 rest = record { rest = rest.rest; there = λ p none. absurd none; off = λ p here none. none }

pub grown_placed : (l s : Extent) (e placed : raw.Event) (before after : ℕ) → placed ≡ with_extents l s e
    → after ≤ before + 6 + length (spelling placed) → after ≤ before + 6 + length (spelling e)
grown_placed l s e placed before after is within =
    let same : length (spelling placed) ≡ length (spelling e) = ap (λ (x : raw.Event). length (spelling x)) is ∙ spelled_same l s e
    in omega (arith, within, same)
