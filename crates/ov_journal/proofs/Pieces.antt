-- Reading bytes by pieces.
use Rattle.std.proofs.Common.{◌≡◌, ◌<◌, ◌≤◌, ◌+◌, ℕ, true, List, ◌++◌, length, take, drop, sym, ◌∙◌, ap, arith}
use Rattle.std.proofs.lemmas.List.{drop-drop, take_all}
use Rattle.std.proofs.Math.Seq.{take-add}
use Rattle.ov_host.specs.declared.area.Area.TheVariants.{Journal}
use Rattle.ov_host.specs.Host.{State, Calls, Reads, bytes_of}
use Rattle.ov_host.specs.Tape.{Looks}

-- what was read so far, and what reading did to the host
pub record IsReading (before now : State) (at count read piece : ℕ) (bytes : List ℕ) : Type 0 where
  pub told : now.tells ≡ before.tells
  pub kept : now.keeps ≡ before.keeps
  pub tape : before.tells ≡ true → now.tape ≡ before.tape
  pub faults : before.faults ≤ now.faults
  pub fetched : now.fetched ≡ before.fetched
  pub below : read ≤ count
  pub small : piece ≤ 65536
  pub some : 0 < count → 0 < piece
  pub sofar : before.tells ≡ true → at + count ≤ length (bytes_of Journal before) → bytes ≡ take read (drop at (bytes_of Journal before))

-- one piece more
pub goes_on : (s0 s1 s2 : State) (at count read before piece given here : ℕ) (bytes more old new : List ℕ) → IsReading s0 s1 at count read before bytes → Calls Looks true s1 s2 → s2.fetched ≡ s1.fetched
    → here ≡ at + read → (s1.tells ≡ true → Reads Journal here given s1 old new) → length old ≡ piece → length new ≡ piece → piece ≤ given → read + piece ≤ count → piece ≤ 65536 → (0 < count → 0 < piece) → more ≡ bytes ++ new
    → IsReading s0 s2 at count (read + piece) piece more
goes_on s0 s1 s2 at count read before piece given here bytes more old new is calls fetched place reads long_old long_new full below small some more_is =
    record {
      told = calls.told ∙ is.told;
      kept = calls.kept ∙ is.kept;
      tape = λ told. calls.plays (is.told ∙ told) ∙ is.tape told;
      faults = omega (arith, is.faults, calls.faults);
      fetched = fetched ∙ is.fetched;
      below = below;
      small = small;
      some = some;
      sofar = λ told within.
          let r = reads (is.told ∙ told)
          in let all : List ℕ = bytes_of Journal s0
          in let same : bytes_of Journal s1 ≡ all = ap (λ t. t.disk.journal.bytes) (is.tape told)
          in let exact : given ≡ piece = omega (arith, r.count, full, long_old, place, ap length same, within, below)
          in let part : new ≡ take piece (drop (at + read) all) =
          sym (take_all piece new (omega (arith, long_new)))
          ∙ ap (λ n. take n new) (sym exact)
          ∙ r.bytes
          ∙ ap (λ n. take n (drop here (bytes_of Journal s1))) exact
          ∙ ap (λ b. take piece (drop here b)) same
          ∙ ap (λ n. take piece (drop n all)) place
          in more_is
          ∙ ap (λ b. b ++ new) (is.sofar told within)
          ∙ ap (λ b. take read (drop at all) ++ b) (part ∙ ap (take piece) (sym (drop-drop read at all)))
          ∙ sym (take-add read piece (drop at all));
    }
