-- Zeros are written up to a place.
use Rattle.std.proofs.Common.{◌≡◌, ◌<◌, ◌≤◌, inl, inr, ℕ, zero, suc, ◌+◌, ◌-◌, max, Bool, true, List, [], ◌∷◌, ◌++◌, length, drop, sym, ◌∙◌, ap, arith}
use Rattle.std.proofs.lemmas.List.{append-nil, append_assoc, take_all}
use Rattle.std.proofs.Math.ListN.{drop_of_length-le}
use Rattle.ov_host.specs.declared.area.Area.TheVariants.{Pages}
use Rattle.ov_host.specs.Disk.{IsWritten}
use Rattle.ov_host.specs.Host.{State, Calls}
use Rattle.ov_host.specs.Tape.{Tape, Writes, overwritten}
use Rattle.ov_publish.specs.Pages.{filled, zeros}
use Rattle.ov_publish.specs.Puts.{Puts}
use Rattle.ov_publish.proofs.Growing.{write_puts, puts_then, written_bytes}
use Rattle.ov_publish.proofs.Overwriting.{length-filled}

-- the area is filled up to some end, which isn't past the place
pub record IsFilling (at end : ℕ) (old new : State) : Type 0 where
  pub puts : Puts [] old new
  pub from : old.tells ≡ true → length old.tape.disk.pages.bytes ≤ end
  pub upto : old.tells ≡ true → end ≤ max (length old.tape.disk.pages.bytes) at
  pub bytes : old.tells ≡ true → new.tape.disk.pages.bytes ≡ filled end old.tape.disk.pages.bytes

zeros_more : (m n : ℕ) → zeros m ++ zeros n ≡ zeros (m + n)
zeros_more zero n = let same : n ≡ 0 + n = omega arith in ap zeros same
zeros_more (suc m) n =
    let same : suc (m + n) ≡ suc m + n = omega arith in ap (λ (l : List ℕ). 0 ∷ l) (zeros_more m n) ∙ ap zeros same

-- bytes at the end
over_end : (b x : List ℕ) (at : ℕ) → at ≡ length b → overwritten b at x ≡ b ++ x
over_end b x at is =
    ap (λ (l : List ℕ). l ++ x ++ drop (at + length x) b) (take_all at b (omega (arith, is)))
    ∙ ap (λ (l : List ℕ). b ++ x ++ l) (drop_of_length-le b (omega (arith, is)))
    ∙ append-nil (b ++ x)

-- before the first piece
pub filling_start : (at end : ℕ) (old new : State) → Puts [] old new → (old.tells ≡ true → new.tape ≡ old.tape) → (old.tells ≡ true → end ≡ length old.tape.disk.pages.bytes) → IsFilling at end old new
filling_start at end old new puts same is =
    record {
      puts = puts;
      from = λ tells. omega (arith, is tells);
      upto = λ tells. omega (arith, is tells);
      bytes = λ tells.
          let gap : 0 ≡ end - length old.tape.disk.pages.bytes = omega (arith, is tells)
          in ap (λ (t : Tape). t.disk.pages.bytes) (same tells)
          ∙ sym (append-nil old.tape.disk.pages.bytes)
          ∙ ap (λ (n : ℕ). old.tape.disk.pages.bytes ++ zeros n) gap;
    }

-- what a piece writes lies past the end
module _ (at end count : ℕ) (old mid new : State) (before : IsFilling at end old mid) where
  long : old.tells ≡ true → end ≡ length mid.tape.disk.pages.bytes
  long tells = omega (arith, before.from tells, ap length (before.bytes tells), length-filled end old.tape.disk.pages.bytes)

  piece_puts : (ok : Bool) → Calls (Writes Pages end (zeros count)) ok mid new → new.fetched ≡ mid.fetched → Puts [] mid new
  piece_puts ok calls fetched =
      write_puts [] mid new end (zeros count) ok (λ tells. omega (arith, long (sym before.puts.told ∙ tells)))
      (λ tells p lt w. past p (omega (arith, long (sym before.puts.told ∙ tells))) w) calls fetched where
        past : (p : ℕ) → p < end → IsWritten ((end, end + length (zeros count)) ∷ []) p → IsWritten [] p
        past p lt (inl here) = omega arith
        past p lt (inr none) = none

  pub filling_puts : (ok : Bool) → Calls (Writes Pages end (zeros count)) ok mid new → new.fetched ≡ mid.fetched → Puts [] old new
  filling_puts ok calls fetched = puts_then [] old mid new before.puts (piece_puts ok calls fetched)

  pub there : mid.tells ≡ true → end ≤ length mid.tape.disk.pages.bytes
  there tells = omega (arith, long (sym before.puts.told ∙ tells))

  pub filling_more : end + count ≤ at → Calls (Writes Pages end (zeros count)) true mid new → new.fetched ≡ mid.fetched → IsFilling at (end + count) old new
  filling_more within calls fetched =
      record {
        puts = filling_puts true calls fetched;
        from = λ tells. omega (arith, before.from tells);
        upto = λ tells. omega arith;
        bytes = λ tells.
            let gap : end - length old.tape.disk.pages.bytes + count ≡ end + count - length old.tape.disk.pages.bytes = omega (arith, before.from tells)
            in written_bytes mid new end (zeros count) calls (before.puts.told ∙ tells)
            ∙ over_end mid.tape.disk.pages.bytes (zeros count) end (long tells)
            ∙ ap (λ (b : List ℕ). b ++ zeros count) (before.bytes tells)
            ∙ append_assoc old.tape.disk.pages.bytes (zeros (end - length old.tape.disk.pages.bytes)) (zeros count)
            ∙ ap (λ (l : List ℕ). old.tape.disk.pages.bytes ++ l) (zeros_more (end - length old.tape.disk.pages.bytes) count)
            ∙ ap (λ (n : ℕ). old.tape.disk.pages.bytes ++ zeros n) gap;
      }

-- at the place
pub filling_done : (at end : ℕ) (old new : State) → IsFilling at end old new → at ≤ end → old.tells ≡ true → new.tape.disk.pages.bytes ≡ filled at old.tape.disk.pages.bytes
filling_done at end old new is past tells =
    let gap : end - length old.tape.disk.pages.bytes ≡ at - length old.tape.disk.pages.bytes = omega (arith, is.from tells, is.upto tells)
    in is.bytes tells ∙ ap (λ (n : ℕ). old.tape.disk.pages.bytes ++ zeros n) gap
