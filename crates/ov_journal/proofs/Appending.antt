-- A record is appended: its body behind the closed gate, and then the gate.
use Rattle.std.proofs.Common.{◌≡◌, ◌≤◌, inl, ℕ, ◌+◌, ◌^◌, List, [], ◌∷◌, ◌++◌, length, take, refl, sym, ◌∙◌, ap, subst, arith}
use Rattle.std.specs.List.{flat_map}
use Rattle.std.specs.Int.{w32, to_be_bytes}
use Rattle.std.proofs.lemmas.List.{length-append, flat_map_more}
use Rattle.ov_host.specs.declared.area.Area.TheVariants.{Journal}
use Rattle.ov_host.specs.Disk.{Disk, Image, Leaves, MayLeave, with_area, settled}
use Rattle.ov_host.specs.Host.{State}
use Rattle.ov_host.specs.Stops.{Only}
use Rattle.ov_host.specs.Tape.{overwritten}
use Rattle.ov_host.proofs.Stops.{only_start, only_then, only_wider}
use Rattle.ov_host.proofs.Writes.{settled_leaves}
use Rattle.ov_journal.specs.Bytes.{IsLive, body, record_of}
use Rattle.ov_journal.specs.Journal.{Kept, IsJournal, end_of, and_one}
use Rattle.ov_journal.specs.Held.{Numbers, kept_by, AtRest, IsAt, InJournal, IsOldOrNew}
use Rattle.ov_journal.proofs.Records.{IsStaged, torn_journal, staged_is, longer, head_stays, stages, opens, opens_or_not}

-- nothing was written
pub none_stops : (ps : List (List ℕ)) (p : List ℕ) (numbers : Numbers) (s : State) → IsAt ps numbers s → Only s.tape s.tape (IsOldOrNew (kept_by numbers ps) (and_one (kept_by numbers ps) p) s.tape.disk)
none_stops ps p numbers s at =
    let Spelled : List ℕ → Type 0 = λ b. IsJournal (kept_by numbers ps) b
    in let Area = λ (c : Image) (left : MayLeave s.tape.disk c).
    settled_leaves s.tape.disk.journal.bytes c.journal (subst (λ a. Leaves a c.journal) at.rest left.journal)
    in only_start s.tape (IsOldOrNew (kept_by numbers ps) (and_one (kept_by numbers ps) p) s.tape.disk)
    (λ c left. record { journal = inl (subst Spelled (sym (Area c left)) at.spells); pages = left.pages; printed = left.printed })

module _ (ps : List (List ℕ)) (p x : List ℕ) (numbers : Numbers) (end : ℕ) (s0 s1 : State) (at : IsAt ps numbers s0) (here : end ≡ numbers.end) (frame : x ≡ body p ++ 0 ∷ []) where
  abbrev kept : Kept
  kept = kept_by numbers ps

  at_end : end ≡ end_of kept
  at_end = here ∙ at.place

  at_rest : AtRest s0
  at_rest = record { told = at.told; rest = at.rest }

  -- a stop in the first write
  pub first_stops : (AtRest s0 → Only s0.tape s1.tape (InJournal (end + 1) (length x) s0.tape.disk)) → Only s0.tape s1.tape (IsOldOrNew kept (and_one kept p) s0.tape.disk)
  first_stops stops =
      let Place : ℕ → Type 0 = λ n. Only s0.tape s1.tape (InJournal (n + 1) (length x) s0.tape.disk)
      in only_wider s0.tape s1.tape (InJournal (end_of kept + 1) (length x) s0.tape.disk) (IsOldOrNew kept (and_one kept p) s0.tape.disk)
      (λ c is.
      record {
        journal = inl (torn_journal kept s0.tape.disk.journal.bytes c.journal (length x) at.spells is.torn);
        pages = is.pages;
        printed = is.printed;
      })
      (subst Place at_end (stops at_rest))

  module _ (told : s1.tells ≡ s0.tells) (disk : s1.tape.disk ≡ with_area Journal (settled (overwritten s0.tape.disk.journal.bytes (end + 1) x)) s0.tape.disk) (fits : end + 6 + length p ≤ 2 ^ 28) where
    rest_between : AtRest s1
    rest_between =
        let Rest : Disk → Type 0 = λ d. d.journal ≡ settled d.journal.bytes
        in record { told = told ∙ at.told; rest = subst Rest (sym disk) refl }

    staged : IsStaged kept p s1.tape.disk.journal.bytes
    staged =
        let There : Disk → Type 0 = λ d. IsStaged kept p d.journal.bytes
        in let Place : ℕ → Type 0 = λ n. IsStaged kept p (overwritten s0.tape.disk.journal.bytes (n + 1) x)
        in subst There (sym disk) (subst Place (sym at_end) (stages kept p s0.tape.disk.journal.bytes x at.spells frame))

    room : end_of kept + 6 + length p ≤ 2 ^ 28
    room = omega (arith, fits, at_end)

    -- a stop in the second write
    second_stops : (s2 : State) → (AtRest s1 → Only s1.tape s2.tape (InJournal end 1 s1.tape.disk)) → Only s1.tape s2.tape (IsOldOrNew kept (and_one kept p) s0.tape.disk)
    second_stops s2 stops =
        let Place : ℕ → Type 0 = λ n. Only s1.tape s2.tape (InJournal n 1 s1.tape.disk)
        in let pages_same : s1.tape.disk.pages ≡ s0.tape.disk.pages = ap (λ d. d.pages) disk
        in let printed_same : s1.tape.disk.printed ≡ s0.tape.disk.printed = ap (λ d. d.printed) disk
        in only_wider s1.tape s2.tape (InJournal (end_of kept) 1 s1.tape.disk) (IsOldOrNew kept (and_one kept p) s0.tape.disk)
        (λ c is.
        record {
          journal = opens_or_not kept p s1.tape.disk.journal.bytes c.journal staged room is.torn;
          pages = subst (λ a. Leaves a c.pages) pages_same is.pages;
          printed = is.printed ∙ printed_same;
        })
        (subst Place at_end (stops rest_between))

    -- a stop in any of both
    pub both_stops : (s2 : State) → (AtRest s0 → Only s0.tape s1.tape (InJournal (end + 1) (length x) s0.tape.disk)) → (AtRest s1 → Only s1.tape s2.tape (InJournal end 1 s1.tape.disk)) → Only s0.tape s2.tape (IsOldOrNew kept (and_one kept p) s0.tape.disk)
    both_stops s2 before after =
        only_then s0.tape s1.tape s2.tape (IsOldOrNew kept (and_one kept p) s0.tape.disk) (first_stops before) (second_stops s2 after)

    -- after both
    pub both_done : (s2 : State) (later : Numbers) → s2.tells ≡ s1.tells → s2.tape.disk ≡ with_area Journal (settled (overwritten s1.tape.disk.journal.bytes end (165 ∷ []))) s1.tape.disk → later ≡ record numbers { end = numbers.end + length x } → IsAt (ps ++ p ∷ []) later s2
    both_done s2 later told_then disk_then moved =
        let Spelled : Disk → Type 0 = λ d. IsJournal (and_one kept p) d.journal.bytes
        in let Place : ℕ → Type 0 = λ n. IsJournal (and_one kept p) (overwritten s1.tape.disk.journal.bytes n (165 ∷ []))
        in let Rest : Disk → Type 0 = λ d. d.journal ≡ settled d.journal.bytes
        in let At : Numbers → Type 0 = λ n. IsAt (ps ++ p ∷ []) n s2
        in let Slots : List ℕ → Type 0 = λ head. IsLive numbers.side numbers.spare_open head
        in let low : 38 ≤ end = omega (arith, here, at.place, at.spells.begins.low)
        in let head : take 38 s2.tape.disk.journal.bytes ≡ take 38 s0.tape.disk.journal.bytes =
        ap (λ (d : Disk). take 38 d.journal.bytes) disk_then
        ∙ head_stays s1.tape.disk.journal.bytes (165 ∷ []) end low (omega (arith, longer kept s1.tape.disk.journal.bytes (staged_is kept p s1.tape.disk.journal.bytes staged)))
        ∙ ap (λ (d : Disk). take 38 d.journal.bytes) disk
        ∙ head_stays s0.tape.disk.journal.bytes x (end + 1) (omega (arith, low)) (omega (arith, longer kept s0.tape.disk.journal.bytes at.spells))
        in let long : length x ≡ length p + 5 = omega (arith, ap length frame, length-append (body p) (0 ∷ []), length-append (to_be_bytes w32 (length p)) p)
        in let more : length (flat_map record_of (ps ++ p ∷ [])) ≡ length (flat_map record_of ps) + (length p + 5) =
        omega (arith, ap length (flat_map_more record_of [] ps p), length-append (flat_map record_of ps) (record_of p), length-append (to_be_bytes w32 (length p)) p)
        in subst At (sym moved)
        (record {
          told = told_then ∙ told ∙ at.told;
          rest = subst Rest (sym disk_then) refl;
          spells = subst Spelled (sym disk_then) (subst Place (sym at_end) (opens kept p s1.tape.disk.journal.bytes staged room));
          place = omega (arith, at.place, long, more);
          slots = subst Slots (sym head) at.slots;
        })
