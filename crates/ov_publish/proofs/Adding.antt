-- The runs are settled, and then the record counts.
use Rattle.std.proofs.Common.{◌≡◌, ◌⊎◌, inl, inr, ℕ, List, [], ◌∷◌, ◌++◌, take, refl, sym, ◌∙◌, ap, subst, arith}
use Rattle.ov_host.specs.declared.area.Area.TheVariants.{Pages}
use Rattle.ov_host.specs.Disk.{Disk, Image, Stored, Leaves, with_area, settled}
use Rattle.ov_host.specs.Host.{State}
use Rattle.ov_host.specs.Stops.{Only}
use Rattle.ov_host.proofs.Stops.{only_start, only_then, only_wider}
use Rattle.ov_host.proofs.Writes.{settled_leaves}
use Rattle.ov_journal.specs.Bytes.{IsLive}
use Rattle.ov_journal.specs.Held.{Numbers, AtRest, IsAt, IsOldOrNew, SameButJournal, kept_by}
use Rattle.ov_journal.specs.Journal.{Kept, IsJournal, and_one}
use Rattle.ov_publish.specs.declared.run.Run.{Run}
use Rattle.ov_publish.specs.Pages.{SameOn}
use Rattle.ov_publish.specs.Puts.{StaysOff, PagesAtRest}
use Rattle.ov_publish.specs.Steps.{IsAdded, IsFree, IsStored, with_runs, ranges_of}
use Rattle.ov_publish.proofs.Growing.{grows_start, grows_leaves}
use Rattle.ov_publish.proofs.Overwriting.{both_same}

module _ (list segment : Run) (ps : List (List ℕ)) (p : List ℕ) (numbers : Numbers) (s0 : State) (at : IsAt ps numbers s0) where
  abbrev kept : Kept
  kept = kept_by numbers ps

  abbrev pages : List ℕ
  pages = s0.tape.disk.pages.bytes

  abbrev final : List ℕ
  final = with_runs list segment pages

  module _ (s1 : State) (told : s1.tells ≡ s0.tells) (disk : s1.tape.disk ≡ with_area Pages (settled final) s0.tape.disk) where
    journal_same : s1.tape.disk.journal ≡ s0.tape.disk.journal
    journal_same = ap (λ (d : Disk). d.journal) disk

    pub at_between : IsAt ps numbers s1
    at_between =
        let Rest : Stored → Type 0 = λ a. a ≡ settled a.bytes
        in let Spelled : Stored → Type 0 = λ a. IsJournal kept a.bytes
        in let Slots : Stored → Type 0 = λ a. IsLive numbers.side numbers.spare_open (take 38 a.bytes)
        in record {
          told = told ∙ at.told;
          rest = subst Rest (sym journal_same) at.rest;
          spells = subst Spelled (sym journal_same) at.spells;
          place = at.place;
          slots = subst Slots (sym journal_same) at.slots;
        }

    -- after both
    pub both_done : (s2 : State) (later : Numbers) → ((payloads : List (List ℕ)) → IsAt payloads numbers s1 → IsAt (payloads ++ p ∷ []) later s2)
        → (AtRest s1 → SameButJournal s1.tape.disk s2.tape.disk) → IsAdded (ps ++ p ∷ []) final s0.tape.disk.printed later s2
    both_done s2 later added stays =
        let same : SameButJournal s1.tape.disk s2.tape.disk = stays (record { told = at_between.told; rest = at_between.rest })
        in record {
          at = added ps at_between;
          rest = same.pages_same ∙ ap (λ (d : Disk). d.pages) disk;
          printed_is = same.printed_same ∙ ap (λ (d : Disk). d.printed) disk;
        }

  module _ (live : List (ℕ × ℕ)) (free : IsFree live (ranges_of list segment) s0.tape.disk) where
    abbrev Either : Image → Type 0
    Either = IsStored kept (and_one kept p) live pages final s0.tape.disk.printed

    -- until the runs are settled
    off_stored : (c : Image) → StaysOff (ranges_of list segment) s0.tape.disk c → Either c
    off_stored c off =
        let same : c.journal ≡ s0.tape.disk.journal.bytes =
        settled_leaves s0.tape.disk.journal.bytes c.journal (subst (λ a. Leaves a c.journal) at.rest off.journal)
        in let Spelled : List ℕ → Type 0 = λ b. IsJournal kept b
        in record {
          which = inl (
            subst Spelled (sym same) at.spells,
            record {
              there = λ q w. omega (arith, free.there q w, off.long);
              same = λ q w. off.same q (free.there q w) (λ f. free.off q f w);
            },
          );
          printed_is = off.printed;
        }

    -- no room
    pub none_stops : Only s0.tape s0.tape Either
    none_stops =
        only_start s0.tape Either
        (λ c left. off_stored c (grows_leaves (ranges_of list segment) s0.tape.disk s0.tape.disk (grows_start (ranges_of list segment) s0.tape.disk free.rest) c left))

    -- in the runs
    pub first_stops : (s1 : State) → (PagesAtRest s0 → Only s0.tape s1.tape (StaysOff (ranges_of list segment) s0.tape.disk)) → Only s0.tape s1.tape Either
    first_stops s1 stops =
        only_wider s0.tape s1.tape (StaysOff (ranges_of list segment) s0.tape.disk) Either off_stored
        (stops (record { told = at.told; rest = free.rest }))

    module _ (s1 : State) (told : s1.tells ≡ s0.tells) (disk : s1.tape.disk ≡ with_area Pages (settled final) s0.tape.disk) where
      -- once the runs are settled
      after_stored : (c : Image) → IsOldOrNew kept (and_one kept p) s1.tape.disk c → Either c
      after_stored c is =
          let there : c.pages ≡ final =
          settled_leaves final c.pages (subst (λ a. Leaves a c.pages) (ap (λ (d : Disk). d.pages) disk) is.pages)
          in record { which = by there is.journal; printed_is = is.printed ∙ ap (λ (d : Disk). d.printed) disk } where
            by : c.pages ≡ final → IsJournal kept c.journal ⊎ IsJournal (and_one kept p) c.journal
                → (IsJournal kept c.journal × SameOn live pages c.pages) ⊎ (IsJournal (and_one kept p) c.journal × (c.pages ≡ final))
            by there (inl old) =
                let Same : List ℕ → Type 0 = λ b. SameOn live pages b
                in inl (old, subst Same (sym there) (both_same list.page segment.page list.bytes.now segment.bytes.now pages live free.there free.off))
            by there (inr new) = inr (new, there)

      -- in the runs or in the record
      pub both_stops : (s2 : State) → (PagesAtRest s0 → Only s0.tape s1.tape (StaysOff (ranges_of list segment) s0.tape.disk))
          → ((payloads : List (List ℕ)) → IsAt payloads numbers s1 → Only s1.tape s2.tape (IsOldOrNew (kept_by numbers payloads) (and_one (kept_by numbers payloads) p) s1.tape.disk))
          → Only s0.tape s2.tape Either
      both_stops s2 runs record_stops =
          only_then s0.tape s1.tape s2.tape Either (first_stops s1 runs)
          (only_wider s1.tape s2.tape (IsOldOrNew kept (and_one kept p) s1.tape.disk) Either after_stored
          (record_stops ps (at_between s1 told disk)))

module _ (ps : List (List ℕ)) (p : List ℕ) (numbers : Numbers) (s0 s1 : State) (at : IsAt ps numbers s0) where
  -- a record over the same pages
  pub bare_stops : (live : List (ℕ × ℕ)) → IsFree live [] s0.tape.disk
      → ((payloads : List (List ℕ)) → IsAt payloads numbers s0 → Only s0.tape s1.tape (IsOldOrNew (kept_by numbers payloads) (and_one (kept_by numbers payloads) p) s0.tape.disk))
      → Only s0.tape s1.tape (IsStored (kept_by numbers ps) (and_one (kept_by numbers ps) p) live s0.tape.disk.pages.bytes s0.tape.disk.pages.bytes s0.tape.disk.printed)
  bare_stops live free stops =
      only_wider s0.tape s1.tape (IsOldOrNew (kept_by numbers ps) (and_one (kept_by numbers ps) p) s0.tape.disk)
      (IsStored (kept_by numbers ps) (and_one (kept_by numbers ps) p) live s0.tape.disk.pages.bytes s0.tape.disk.pages.bytes s0.tape.disk.printed)
      (λ c is. record { which = by c (same c is) is.journal; printed_is = is.printed })
      (stops ps at) where
        same : (c : Image) → IsOldOrNew (kept_by numbers ps) (and_one (kept_by numbers ps) p) s0.tape.disk c → c.pages ≡ s0.tape.disk.pages.bytes
        same c is = settled_leaves s0.tape.disk.pages.bytes c.pages (subst (λ a. Leaves a c.pages) free.rest is.pages)

        by : (c : Image) → c.pages ≡ s0.tape.disk.pages.bytes → IsJournal (kept_by numbers ps) c.journal ⊎ IsJournal (and_one (kept_by numbers ps) p) c.journal
            → (IsJournal (kept_by numbers ps) c.journal × SameOn live s0.tape.disk.pages.bytes c.pages) ⊎ (IsJournal (and_one (kept_by numbers ps) p) c.journal × (c.pages ≡ s0.tape.disk.pages.bytes))
        by c there (inl old) =
            let Same : List ℕ → Type 0 = λ b. SameOn live s0.tape.disk.pages.bytes b
            in inl (old, subst Same (sym there) (record { there = free.there; same = λ q w. refl }))
        by c there (inr new) = inr (new, there)

  pub bare_done : (later : Numbers) → PagesAtRest s0 → ((payloads : List (List ℕ)) → IsAt payloads numbers s0 → IsAt (payloads ++ p ∷ []) later s1)
      → (AtRest s0 → SameButJournal s0.tape.disk s1.tape.disk) → IsAdded (ps ++ p ∷ []) s0.tape.disk.pages.bytes s0.tape.disk.printed later s1
  bare_done later rest added stays =
      let same : SameButJournal s0.tape.disk s1.tape.disk = stays (record { told = at.told; rest = at.rest })
      in record { at = added ps at; rest = same.pages_same ∙ rest.rest; printed_is = same.printed_same }
