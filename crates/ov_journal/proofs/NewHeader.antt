-- The three writes of a new header.
use Rattle.std.proofs.Common.{◌≡◌, ◌≢◌, ◌≤◌, ◌<◌, ◌⊎◌, inl, inr, ℕ, ◌+◌, true, false, List, [], ◌∷◌, ◌++◌, length, take, drop, get_or, refl, sym, ◌∙◌, ap, subst, arith}
use Rattle.std.proofs.lemmas.Bool.{cases_lt}
use Rattle.std.proofs.Math.ListN.{drop_of_length-le}
use Rattle.ov_host.specs.declared.area.Area.TheVariants.{Journal}
use Rattle.ov_host.specs.Disk.{Disk, Image, Leaves, MayLeave, with_area, settled}
use Rattle.ov_host.specs.Host.{State}
use Rattle.ov_host.specs.Stops.{Only}
use Rattle.ov_host.specs.Tape.{Torn, overwritten}
use Rattle.ov_host.proofs.Stops.{only_start, only_then, only_wider}
use Rattle.ov_host.proofs.Writes.{settled_leaves}
use Rattle.ov_journal.specs.declared.making.TheConstants.{BEHIND_GATE}
use Rattle.ov_journal.specs.declared.header.Side.TheVariants.{First}
use Rattle.ov_journal.specs.Bytes.{IsLive}
use Rattle.ov_journal.specs.Journal.{IsFront, IsJournal, IsUnmade, new_kept}
use Rattle.ov_journal.specs.Opened.{new_numbers}
use Rattle.ov_journal.specs.Held.{AtRest, IsAt, InJournal, IsUnmadeOrNew, IsClosed, SameButJournal}
use Rattle.ov_journal.proofs.Records.{torn_byte, over_byte, over_behind, front_stays, is_or_not}

-- a closed first byte, and at most 39 bytes
closed_unmade : (c rest : List ℕ) (gate : ℕ) → gate ≢ 165 → c ≡ gate ∷ rest → length c ≤ 39 → IsUnmade c
closed_unmade c rest gate closed is short =
    elim (cases_lt (length c) 39) [
      | inl less ↦ inl less
      | inr more ↦ inr (omega arith, λ e. closed (sym (ap (λ (b : List ℕ). get_or b 0 0) is) ∙ e))
    ]

-- ---- the first write

-- nothing was written
pub unmade_stops : (s : State) → (s.tells ≡ true → IsUnmade s.tape.disk.journal.bytes) → AtRest s → Only s.tape s.tape (IsUnmadeOrNew s.tape.disk)
unmade_stops s unmade rest =
    let Area = λ (c : Image) (left : MayLeave s.tape.disk c).
    settled_leaves s.tape.disk.journal.bytes c.journal (subst (λ a. Leaves a c.journal) rest.rest left.journal)
    in only_start s.tape (IsUnmadeOrNew s.tape.disk)
    (λ c left. record { journal = inl (subst IsUnmade (sym (Area c left)) (unmade rest.told)); pages = left.pages; printed = left.printed })

pub closing_stops : (s0 s1 : State) → (s0.tells ≡ true → length s0.tape.disk.journal.bytes < 39) → (AtRest s0 → Only s0.tape s1.tape (InJournal 0 1 s0.tape.disk)) → AtRest s0 → Only s0.tape s1.tape (IsUnmadeOrNew s0.tape.disk)
closing_stops s0 s1 short stops rest =
    let less : length s0.tape.disk.journal.bytes < 39 = short rest.told
    in only_wider s0.tape s1.tape (InJournal 0 1 s0.tape.disk) (IsUnmadeOrNew s0.tape.disk)
    (λ c is. record { journal = inl (inl (omega (arith, less, is.torn.no_longer))); pages = is.pages; printed = is.printed })
    (stops rest)

-- ---- the second and the third

front_new : List ℕ
front_new = 165 ∷ take 37 BEHIND_GATE

new_front : IsFront new_kept front_new
unfolding front_new
new_front =
    record {
      place = 12;
      header = record { opened = refl; text = refl; live = refl; fields = refl };
      known = inr refl;
      low = omega arith;
      start = omega arith;
      records = refl;
      fits = omega arith;
    }

new_journal : (c : List ℕ) → c ≡ 165 ∷ BEHIND_GATE → IsJournal new_kept c
unfolding front_new
new_journal c is =
    record { front = front_new; gate = 0; rest = []; closed = λ e. absurd cc; whole = is; begins = new_front }

-- a stop in the second write
torn_closed : (b c behind : List ℕ) (gate : ℕ) → gate ≢ 165 → b ≡ gate ∷ behind → length behind ≤ 38 → Torn 1 38 b c → IsUnmade c
torn_closed b c behind gate closed is short torn =
    let long : length b ≡ length behind + 1 = omega (arith, ap length is)
    in closed_unmade c (drop 1 c) gate closed (front_stays [] behind c gate (torn.before ∙ ap (take 1) is))
    (omega (arith, long, torn.no_longer))

-- after it
written : (b behind : List ℕ) (gate : ℕ) → b ≡ gate ∷ behind → length behind ≤ 38 → overwritten b 1 BEHIND_GATE ≡ gate ∷ BEHIND_GATE
written b behind gate is short =
    let past : drop 39 (gate ∷ behind) ≡ [] = drop_of_length-le (gate ∷ behind) {i = 39} (omega arith)
    in ap (λ bs. overwritten bs 1 BEHIND_GATE) is
    ∙ over_behind [] behind BEHIND_GATE gate
    ∙ ap (λ rest. gate ∷ (BEHIND_GATE ++ rest)) past

-- a stop in the third
torn_open : (b c : List ℕ) (gate : ℕ) → b ≡ gate ∷ BEHIND_GATE → Torn 0 1 b c → IsUnmade c ⊎ IsJournal new_kept c
torn_open b c gate is torn =
    let There : List ℕ → Type 0 = λ bs. Torn 0 1 bs c
    in let there : c ≡ get_or c 0 0 ∷ BEHIND_GATE = torn_byte [] BEHIND_GATE c gate (subst There is torn)
    in elim (is_or_not (get_or c 0 0)) [
      | inl counts ↦ inr (new_journal c (there ∙ ap (λ x. x ∷ BEHIND_GATE) counts))
      | inr shut ↦ inl (closed_unmade c BEHIND_GATE (get_or c 0 0) shut there (omega (arith, ap length there)))
    ]

module _ (s0 s1 s2 : State) (sofar : Only s0.tape s1.tape (IsUnmadeOrNew s0.tape.disk)) (same : SameButJournal s0.tape.disk s1.tape.disk) (is : IsClosed s1) where
  closed_rest : AtRest s1
  closed_rest = record { told = is.told; rest = is.rest }

  -- after the gate was closed, a stop in the second write
  pub second_stops : (AtRest s1 → Only s1.tape s2.tape (InJournal 1 38 s1.tape.disk)) → Only s0.tape s2.tape (IsUnmadeOrNew s0.tape.disk)
  second_stops stops =
      only_then s0.tape s1.tape s2.tape (IsUnmadeOrNew s0.tape.disk) sofar
      (only_wider s1.tape s2.tape (InJournal 1 38 s1.tape.disk) (IsUnmadeOrNew s0.tape.disk)
      (λ c left.
      record {
        journal = inl (torn_closed s1.tape.disk.journal.bytes c.journal is.behind is.gate is.closed is.whole is.short left.torn);
        pages = subst (λ a. Leaves a c.pages) same.pages_same left.pages;
        printed = left.printed ∙ same.printed_same;
      })
      (stops closed_rest))

  module _ (stops : AtRest s1 → Only s1.tape s2.tape (InJournal 1 38 s1.tape.disk)) (told : s2.tells ≡ s1.tells) (disk : s2.tape.disk ≡ with_area Journal (settled (overwritten s1.tape.disk.journal.bytes 1 BEHIND_GATE)) s1.tape.disk) where
    rest_between : AtRest s2
    rest_between =
        let Rest : Disk → Type 0 = λ d. d.journal ≡ settled d.journal.bytes
        in record { told = told ∙ is.told; rest = subst Rest (sym disk) refl }

    all_behind : s2.tape.disk.journal.bytes ≡ is.gate ∷ BEHIND_GATE
    all_behind = ap (λ d. d.journal.bytes) disk ∙ written s1.tape.disk.journal.bytes is.behind is.gate is.whole is.short

    -- and a stop in the third
    pub third_stops : (s3 : State) → (AtRest s2 → Only s2.tape s3.tape (InJournal 0 1 s2.tape.disk)) → Only s0.tape s3.tape (IsUnmadeOrNew s0.tape.disk)
    third_stops s3 last =
        let pages_same : s2.tape.disk.pages ≡ s0.tape.disk.pages = ap (λ d. d.pages) disk ∙ same.pages_same
        in let printed_same : s2.tape.disk.printed ≡ s0.tape.disk.printed = ap (λ d. d.printed) disk ∙ same.printed_same
        in only_then s0.tape s2.tape s3.tape (IsUnmadeOrNew s0.tape.disk) (second_stops stops)
        (only_wider s2.tape s3.tape (InJournal 0 1 s2.tape.disk) (IsUnmadeOrNew s0.tape.disk)
        (λ c left.
        record {
          journal = torn_open s2.tape.disk.journal.bytes c.journal is.gate all_behind left.torn;
          pages = subst (λ a. Leaves a c.pages) pages_same left.pages;
          printed = left.printed ∙ printed_same;
        })
        (last rest_between))

    -- after the third
    pub made : (s3 : State) → s3.tells ≡ s2.tells → s3.tape.disk ≡ with_area Journal (settled (overwritten s2.tape.disk.journal.bytes 0 (165 ∷ []))) s2.tape.disk → IsAt [] new_numbers s3
    made s3 told_then disk_then =
        let Rest : Disk → Type 0 = λ d. d.journal ≡ settled d.journal.bytes
        in let bytes : s3.tape.disk.journal.bytes ≡ 165 ∷ BEHIND_GATE =
        ap (λ d. d.journal.bytes) disk_then ∙ ap (λ b. overwritten b 0 (165 ∷ [])) all_behind ∙ over_byte [] BEHIND_GATE is.gate 165
        in let Slots : List ℕ → Type 0 = λ b. IsLive First false (take 38 b)
        in record {
          told = told_then ∙ told ∙ is.told;
          rest = subst Rest (sym disk_then) refl;
          spells = new_journal s3.tape.disk.journal.bytes bytes;
          place = refl;
          slots = subst Slots (sym bytes) (record { live = refl; spare = refl });
        }
