-- Both runs are written and settled.
use Rattle.std.proofs.Common.{◌≡◌, ℕ, Bool, true, List, [], ◌∷◌, ◌∙◌}
use Rattle.ov_host.specs.declared.area.Area.TheVariants.{Pages}
use Rattle.ov_host.specs.Disk.{with_area, settled}
use Rattle.ov_host.specs.Host.{State, Calls}
use Rattle.ov_host.specs.Stops.{Only}
use Rattle.ov_host.specs.Tape.{Syncs}
use Rattle.ov_host.proofs.Stops.{only_then, call_only, done_disk}
use Rattle.ov_publish.specs.Puts.{Grows, StaysOff, Puts, PagesAtRest}
use Rattle.ov_publish.proofs.Growing.{grows_start, grows_leaves, settled_off, puts_then, puts_wider, first_in, second_in}

module _ (r q : ℕ × ℕ) (s t : State) (one : Puts (r ∷ []) s t) where
  abbrev ranges : List (ℕ × ℕ)
  ranges = r ∷ q ∷ []

  put_stops : (u : State) → Puts ranges s u → PagesAtRest s → Only s.tape u.tape (StaysOff ranges s.tape.disk) × Grows ranges s.tape.disk u.tape.disk
  put_stops u puts rest = puts.spreads rest.told ranges (λ p w. w) s.tape.disk (grows_start ranges s.tape.disk rest.rest)

  -- a stop in the first run
  pub first_stops : PagesAtRest s → Only s.tape t.tape (StaysOff ranges s.tape.disk)
  first_stops rest = (put_stops t (puts_wider (r ∷ []) ranges s t (first_in r q) one) rest).0

  module _ (u : State) (two : Puts (q ∷ []) t u) where
    pub both : Puts ranges s u
    both = puts_then ranges s t u (puts_wider (r ∷ []) ranges s t (first_in r q) one) (puts_wider (q ∷ []) ranges t u (second_in r q) two)

    -- and in the second
    pub second_stops : PagesAtRest s → Only s.tape u.tape (StaysOff ranges s.tape.disk)
    second_stops rest = (put_stops u both rest).0

    -- and in the sync
    pub third_stops : (v : State) (ok : Bool) → Calls (Syncs Pages) ok u v → PagesAtRest s → Only s.tape v.tape (StaysOff ranges s.tape.disk)
    third_stops v ok syncs rest =
        let grown : Grows ranges s.tape.disk u.tape.disk = (put_stops u both rest).1
        in only_then s.tape u.tape v.tape (StaysOff ranges s.tape.disk) (second_stops rest)
        (call_only (Syncs Pages) ok u.tape v.tape (StaysOff ranges s.tape.disk) (syncs.plays (both.told ∙ rest.told))
        (grows_leaves ranges s.tape.disk u.tape.disk grown)
        (λ _. settled_off ranges s.tape.disk u.tape.disk grown))

    pub settled_disk : (v : State) (final : List ℕ) → u.tape.disk.pages.bytes ≡ final → Calls (Syncs Pages) true u v → s.tells ≡ true → v.tape.disk ≡ with_area Pages (settled final) s.tape.disk
    settled_disk v final is syncs tells =
        done_disk (Syncs Pages) u.tape v.tape (syncs.plays (both.told ∙ tells))
        ∙ (λ i. record { pages = settled (is i); journal = both.journal_same tells i; printed = both.printed_same tells i })
