-- A checkpoint on a host: what a stop in each of its steps leaves, and what stands after them.
use Rattle.std.proofs.Common.{◌≡◌, ◌≤◌, ◌<◌, ◌⊎◌, inl, inr, ℕ, ◌+◌, ◌-◌, ◌^◌, Bool, true, false, List, [], ◌∷◌, ◌++◌, length, take, drop, refl, sym, ◌∙◌, ap, subst, arith}
use Rattle.std.specs.List.{flat_map}
use Rattle.std.proofs.lemmas.List.{length-append, length-drop, length-take}
use Rattle.ov_host.specs.declared.area.Area.TheVariants.{Journal}
use Rattle.ov_host.specs.Disk.{Disk, Image, Leaves, IsWritten, MayLeave, with_area, settled}
use Rattle.ov_host.specs.Host.{State}
use Rattle.ov_host.specs.Stops.{Only}
use Rattle.ov_host.specs.Tape.{Tape, Torn, overwritten}
use Rattle.ov_host.proofs.Stops.{only_start, only_then, only_wider}
use Rattle.ov_host.proofs.Writes.{settled_leaves}
use Rattle.ov_journal.specs.declared.header.Side.{Side}
use Rattle.ov_journal.specs.Bytes.{fields_of, other_of, place_of, record_of}
use Rattle.ov_journal.specs.Journal.{Kept, IsJournal, end_of}
use Rattle.ov_journal.specs.Snapshots.{frames_of, size_of}
use Rattle.ov_journal.specs.Held.{Numbers, kept_by, AtRest, IsAt, InJournal, IsOff, IsOldOrNew, IsStill, SameButJournal, two_ranges}
use Rattle.ov_journal.specs.Checkpoints.{IsRoom, snapshot_kept, start_for, turned_to}
use Rattle.ov_journal.proofs.Halves.{past_gate}
use Rattle.ov_journal.proofs.Turning.{closing, closed_journal, closed_slots, staging, turning, turned_journal, turned_slots}

abbrev rest_of : (ps : List (List ℕ)) (numbers : Numbers) (s : State) → IsAt ps numbers s → AtRest s
rest_of ps numbers s at = record { told = at.told; rest = at.rest }

-- ---- lengths

-- a write takes no byte away, and reaches its last place
longer : (b x : List ℕ) (at : ℕ) → at ≤ length b → (length b ≤ length (overwritten b at x)) × (at + length x ≤ length (overwritten b at x))
longer b x at within =
    let all : length (overwritten b at x) ≡ at + length x + (length b - (at + length x)) =
    length-append (take at b ++ x) (drop (at + length x) b)
    ∙ omega (arith, length-append (take at b) x, length-take at b, length-drop (at + length x) b)
    in (omega (arith, all), omega (arith, all))

-- two writes
pub longer_twice : (b x y c : List ℕ) (at place : ℕ) → at ≤ length b → place ≤ length b → c ≡ overwritten (overwritten b at x) place y → (length b ≤ length c) × (at + length x ≤ length c)
longer_twice b x y c at place first second is =
    let one = longer b x at first
    in let two = longer (overwritten b at x) y place (omega (arith, one.0, second))
    in let same : length c ≡ length (overwritten (overwritten b at x) place y) = ap length is
    in (omega (arith, same, two.0, one.0), omega (arith, same, two.0, one.1))

-- and one more
pub longer_thrice : (c d : List ℕ) (gate v n : ℕ) → gate ≤ length c → d ≡ overwritten c gate (v ∷ []) → n ≤ length c → n ≤ length d
longer_thrice c d gate v n within is high = omega (arith, ap length is, (longer c (v ∷ []) gate within).0, high)

-- ---- the other slot's gate

-- nothing was written
pub still : (ps : List (List ℕ)) (numbers : Numbers) (s : State) → IsAt ps numbers s → Only s.tape s.tape (IsStill (kept_by numbers ps) s.tape.disk)
still ps numbers s at =
    let Spelled : List ℕ → Type 0 = λ b. IsJournal (kept_by numbers ps) b
    in let Area = λ (c : Image) (left : MayLeave s.tape.disk c).
    settled_leaves s.tape.disk.journal.bytes c.journal (subst (λ a. Leaves a c.journal) at.rest left.journal)
    in only_start s.tape (IsStill (kept_by numbers ps) s.tape.disk)
    (λ c left. record { journal = subst Spelled (sym (Area c left)) at.spells; pages = left.pages; printed = left.printed })

-- it is closed already
pub still_closed : (ps : List (List ℕ)) (numbers : Numbers) (s : State) → IsAt ps numbers s → numbers.spare_open ≡ false → IsAt ps (record numbers { spare_open = false }) s
still_closed ps numbers s at shut =
    let At : Bool → Type 0 = λ o. IsAt ps (record numbers { spare_open = o }) s
    in subst At shut at

module _ (ps : List (List ℕ)) (numbers : Numbers) (s0 s1 : State) (gate : ℕ) (at : IsAt ps numbers s0) (here : gate ≡ place_of (other_of numbers.side)) where
  pub closing_stops : numbers.spare_open ≡ true → (AtRest s0 → Only s0.tape s1.tape (InJournal gate 1 s0.tape.disk)) → Only s0.tape s1.tape (IsStill (kept_by numbers ps) s0.tape.disk)
  closing_stops open_ stops =
      let Place : ℕ → Type 0 = λ n. Only s0.tape s1.tape (InJournal n 1 s0.tape.disk)
      in only_wider s0.tape s1.tape (InJournal (place_of (other_of numbers.side)) 1 s0.tape.disk) (IsStill (kept_by numbers ps) s0.tape.disk)
      (λ c is.
      record {
        journal = closing (kept_by numbers ps) numbers.side numbers.spare_open s0.tape.disk.journal.bytes at.spells at.slots open_ c.journal is.torn;
        pages = is.pages;
        printed = is.printed;
      })
      (subst Place here (stops (rest_of ps numbers s0 at)))

  pub closed : s1.tells ≡ s0.tells → s1.tape.disk ≡ with_area Journal (settled (overwritten s0.tape.disk.journal.bytes gate (0 ∷ []))) s0.tape.disk → IsAt ps (record numbers { spare_open = false }) s1
  closed told disk =
      let Rest : Disk → Type 0 = λ d. d.journal ≡ settled d.journal.bytes
      in let b : List ℕ = s0.tape.disk.journal.bytes
      in let bytes : s1.tape.disk.journal.bytes ≡ overwritten b (place_of (other_of numbers.side)) (0 ∷ []) =
      ap (λ d. d.journal.bytes) disk ∙ ap (λ n. overwritten b n (0 ∷ [])) here
      in record {
        told = told ∙ at.told;
        rest = subst Rest (sym disk) refl;
        spells = closed_journal (kept_by numbers ps) numbers.side numbers.spare_open b at.spells at.slots s1.tape.disk.journal.bytes bytes;
        place = at.place;
        slots = closed_slots (kept_by numbers ps) numbers.side numbers.spare_open b at.spells at.slots s1.tape.disk.journal.bytes bytes;
      }

-- ---- all steps

-- the numbers after a checkpoint, one by one
pub turned_is : (numbers : Numbers) (qs : List (List ℕ)) (end epoch start : ℕ) (side : Side) → end ≡ start_for numbers qs + length (flat_map record_of qs) → epoch ≡ numbers.epoch + 1 → start ≡ start_for numbers qs → side ≡ other_of numbers.side
    → record { end = end; epoch = epoch; start = start; format = 2; side = side; spare_open = true } ≡ turned_to numbers qs
turned_is numbers qs end epoch start side end_is epoch_is start_is side_is =
    let later : Numbers = turned_to numbers qs
    in ap (λ n. record later { end = n; epoch = epoch; start = start; side = side }) end_is
    ∙ ap (λ n. record later { epoch = n; start = start; side = side }) epoch_is
    ∙ ap (λ n. record later { start = n; side = side }) start_is
    ∙ ap (λ z. record later { side = z }) side_is

off_both : (at n place m p : ℕ) → (p < at) ⊎ (at + n ≤ p) → (p < place) ⊎ (place + m ≤ p) → IsWritten (two_ranges at n place m) p → ⊥
off_both at n place m p (inl before) slot (inl here) = omega (arith, here.0)
off_both at n place m p (inr after) slot (inl here) = omega (arith, here.1)
off_both at n place m p first (inl before) (inr (inl here)) = omega (arith, here.0)
off_both at n place m p first (inr after) (inr (inl here)) = omega (arith, here.1)
off_both at n place m p first slot (inr (inr none)) = none

module _ (ps qs : List (List ℕ)) (numbers : Numbers) (s0 s1 : State) where
  abbrev kept : Kept
  kept = kept_by numbers ps

  -- the old journal is one of both
  still_one : (a b : Tape) → Only a b (IsStill kept s0.tape.disk) → Only a b (IsOldOrNew kept (snapshot_kept numbers qs) s0.tape.disk)
  still_one a b stops =
      only_wider a b (IsStill kept s0.tape.disk) (IsOldOrNew kept (snapshot_kept numbers qs) s0.tape.disk)
      (λ c is. record { journal = inl is.journal; pages = is.pages; printed = is.printed })
      stops

  pub none_stops : IsAt ps numbers s0 → Only s0.tape s0.tape (IsOldOrNew kept (snapshot_kept numbers qs) s0.tape.disk)
  none_stops at = still_one s0.tape s0.tape (still ps numbers s0 at)

  -- a stop in the first step
  pub first_stops : Only s0.tape s1.tape (IsStill kept s0.tape.disk) → Only s0.tape s1.tape (IsOldOrNew kept (snapshot_kept numbers qs) s0.tape.disk)
  first_stops stops = still_one s0.tape s1.tape stops

  module _ (start gate : ℕ) (x y : List ℕ) (is_start : start ≡ start_for numbers qs) (room : IsRoom numbers start (size_of qs)) (frames : x ≡ frames_of qs) (here : gate ≡ place_of (other_of numbers.side)) (fields : y ≡ fields_of (record { epoch = numbers.epoch + 1; start = start; format = 2 })) (epoch : numbers.epoch + 1 < 2 ^ 32) (before : Only s0.tape s1.tape (IsStill kept s0.tape.disk)) (same : SameButJournal s0.tape.disk s1.tape.disk) (at : IsAt ps (record numbers { spare_open = false }) s1) where
    abbrev b : List ℕ
    b = s1.tape.disk.journal.bytes

    abbrev other : ℕ
    other = place_of (other_of numbers.side)

    size : length x ≡ size_of qs
    size = ap length frames ∙ length-append (flat_map record_of qs) (0 ∷ [])

    apart : (start + length x ≤ kept.start) ⊎ (end_of kept < start)
    apart =
        elim room.apart [
          | inl before_half ↦ inl (omega (arith, size, before_half))
          | inr behind ↦ inr (omega (arith, at.place, behind))
        ]

    there : start ≤ length b
    there = omega (arith, room.there, at.place, past_gate kept b at.spells)

    twelve : length y ≡ 12
    twelve = ap length fields

    -- and in the second
    pub second_stops : (s2 : State) → (AtRest s1 → Only s1.tape s2.tape (IsOff (two_ranges start (length x) (gate + 1) (length y)) s1.tape.disk)) → Only s0.tape s2.tape (IsOldOrNew kept (snapshot_kept numbers qs) s0.tape.disk)
    second_stops s2 stops =
        only_then s0.tape s1.tape s2.tape (IsOldOrNew kept (snapshot_kept numbers qs) s0.tape.disk) (first_stops before)
        (only_wider s1.tape s2.tape (IsOff (two_ranges start (length x) (gate + 1) (length y)) s1.tape.disk) (IsOldOrNew kept (snapshot_kept numbers qs) s0.tape.disk)
        (λ c is.
        record {
          journal =
              inl (
              staging kept numbers.side false b at.spells at.slots start x y room.low apart there twelve refl c.journal is.long
              (λ p below off slot.
              is.same p below
              (off_both start (length x) (gate + 1) (length y) p off
              (elim slot [ inl lower ↦ inl (omega (arith, lower, here)) | inr after ↦ inr (omega (arith, after, here, twelve)) ])))
              );
          pages = subst (λ a. Leaves a c.pages) same.pages_same is.pages;
          printed = is.printed ∙ same.printed_same;
        })
        (stops (record { told = at.told; rest = at.rest })))

    module _ (s2 : State) (staged : AtRest s1 → Only s1.tape s2.tape (IsOff (two_ranges start (length x) (gate + 1) (length y)) s1.tape.disk)) (told : s2.tells ≡ s1.tells) (disk : s2.tape.disk ≡ with_area Journal (settled (overwritten (overwritten b start x) (gate + 1) y)) s1.tape.disk) where
      rest_between : AtRest s2
      rest_between =
          let Rest : Disk → Type 0 = λ d. d.journal ≡ settled d.journal.bytes
          in record { told = told ∙ at.told; rest = subst Rest (sym disk) refl }

      bytes_between : s2.tape.disk.journal.bytes ≡ overwritten (overwritten b start x) (other + 1) y
      bytes_between = ap (λ d. d.journal.bytes) disk ∙ ap (λ n. overwritten (overwritten b start x) (n + 1) y) here

      high : start + length x ≤ 2 ^ 28
      high = omega (arith, size, room.high)

      -- and in the third
      pub third_stops : (s3 : State) → (AtRest s2 → Only s2.tape s3.tape (InJournal gate 1 s2.tape.disk)) → Only s0.tape s3.tape (IsOldOrNew kept (snapshot_kept numbers qs) s0.tape.disk)
      third_stops s3 stops =
          let Place : ℕ → Type 0 = λ n. Only s2.tape s3.tape (InJournal n 1 s2.tape.disk)
          in let pages_same : s2.tape.disk.pages ≡ s0.tape.disk.pages = ap (λ d. d.pages) disk ∙ same.pages_same
          in let printed_same : s2.tape.disk.printed ≡ s0.tape.disk.printed = ap (λ d. d.printed) disk ∙ same.printed_same
          in only_then s0.tape s2.tape s3.tape (IsOldOrNew kept (snapshot_kept numbers qs) s0.tape.disk) (second_stops s2 staged)
          (only_wider s2.tape s3.tape (InJournal other 1 s2.tape.disk) (IsOldOrNew kept (snapshot_kept numbers qs) s0.tape.disk)
          (λ c is.
          let Over : List ℕ → Type 0 = λ z. Torn other 1 z c.journal
          in let Begins : ℕ → Type 0 = λ n. IsJournal kept c.journal ⊎ IsJournal (record { epoch = numbers.epoch + 1; start = n; format = 2; payloads = qs }) c.journal
          in record {
            journal =
                subst Begins is_start
                (turning kept numbers.side false b at.spells at.slots start x y room.low apart there twelve qs frames fields high epoch c.journal (subst Over bytes_between is.torn));
            pages = subst (λ a. Leaves a c.pages) pages_same is.pages;
            printed = is.printed ∙ printed_same;
          })
          (subst Place here (stops rest_between)))

      -- after all
      pub turned : (s3 : State) (later : Numbers) → s3.tells ≡ s2.tells → s3.tape.disk ≡ with_area Journal (settled (overwritten s2.tape.disk.journal.bytes gate (165 ∷ []))) s2.tape.disk → later ≡ turned_to numbers qs → IsAt qs later s3
      turned s3 later told_then disk_then is_later =
          let Rest : Disk → Type 0 = λ d. d.journal ≡ settled d.journal.bytes
          in let At : Numbers → Type 0 = λ n. IsAt qs n s3
          in let Begins : ℕ → Type 0 = λ n. IsJournal (record { epoch = numbers.epoch + 1; start = n; format = 2; payloads = qs }) s3.tape.disk.journal.bytes
          in let bytes : s3.tape.disk.journal.bytes ≡ overwritten (overwritten (overwritten b start x) (other + 1) y) other (165 ∷ []) =
          ap (λ d. d.journal.bytes) disk_then
          ∙ ap (λ n. overwritten s2.tape.disk.journal.bytes n (165 ∷ [])) here
          ∙ ap (λ z. overwritten z other (165 ∷ [])) bytes_between
          in subst At (sym is_later)
          (record {
            told = told_then ∙ told ∙ at.told;
            rest = subst Rest (sym disk_then) refl;
            spells =
                subst Begins is_start
                (turned_journal kept numbers.side false b at.spells at.slots start x y room.low apart there twelve qs frames fields high epoch s3.tape.disk.journal.bytes bytes);
            place = refl;
            slots =
                turned_slots kept numbers.side false b at.spells at.slots start x y room.low apart there twelve qs frames fields high epoch s3.tape.disk.journal.bytes bytes;
          })
