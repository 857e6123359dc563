-- Bytes are written, and zeros behind them up to the end of the page.
use Rattle.std.proofs.Common.{◌≡◌, ◌≤◌, inl, inr, ℕ, ◌+◌, ◌-◌, Bool, true, List, [], ◌∷◌, ◌++◌, length, sym, ◌∙◌, ap, arith}
use Rattle.ov_host.specs.declared.area.Area.TheVariants.{Pages}
use Rattle.ov_host.specs.Disk.{IsWritten}
use Rattle.ov_host.specs.Host.{State, Calls}
use Rattle.ov_host.specs.Tape.{Writes, overwritten}
use Rattle.ov_publish.specs.Pages.{whole_pages, padded, zeros}
use Rattle.ov_publish.specs.Puts.{Puts}
use Rattle.ov_publish.proofs.Growing.{write_puts, puts_then, written_bytes}
use Rattle.ov_publish.proofs.Overwriting.{length-zeros, length-overwritten, overwritten_twice}

module _ (s t : State) (at : ℕ) (x : List ℕ) (within : s.tells ≡ true → at ≤ length s.tape.disk.pages.bytes) where
  abbrev range : List (ℕ × ℕ)
  range = (at, at + whole_pages (length x)) ∷ []

  -- the bytes
  pub first_puts : (ok : Bool) → Calls (Writes Pages at x) ok s t → t.fetched ≡ s.fetched → Puts range s t
  first_puts ok calls fetched = write_puts range s t at x ok within (λ tells p lt w. here p w) calls fetched where
    here : (p : ℕ) → IsWritten ((at, at + length x) ∷ []) p → IsWritten range p
    here p (inl in_it) = inl (in_it.0, omega (arith, in_it.1))
    here p (inr none) = absurd none

  module _ (u : State) (pad : ℕ) (is : pad ≡ whole_pages (length x) - length x) (wrote : Calls (Writes Pages at x) true s t) (same : t.fetched ≡ s.fetched) where
    bytes_between : s.tells ≡ true → t.tape.disk.pages.bytes ≡ overwritten s.tape.disk.pages.bytes at x
    bytes_between tells = written_bytes s t at x wrote tells

    pub there : t.tells ≡ true → at + length x ≤ length t.tape.disk.pages.bytes
    there tells =
        let was : s.tells ≡ true = sym wrote.told ∙ tells
        in omega (arith, ap length (bytes_between was), length-overwritten s.tape.disk.pages.bytes x at (within was))

    -- and the zeros
    pub both_puts : (ok : Bool) → Calls (Writes Pages (at + length x) (zeros pad)) ok t u → u.fetched ≡ t.fetched → Puts range s u
    both_puts ok calls fetched =
        puts_then range s t u (first_puts true wrote same)
        (write_puts range t u (at + length x) (zeros pad) ok there (λ tells p lt w. here p w) calls fetched) where
          here : (p : ℕ) → IsWritten ((at + length x, at + length x + length (zeros pad)) ∷ []) p → IsWritten range p
          here p (inl in_it) = inl (omega (arith, in_it.0), omega (arith, in_it.0, in_it.1, is, length-zeros pad))
          here p (inr none) = absurd none

    pub both_bytes : Calls (Writes Pages (at + length x) (zeros pad)) true t u → s.tells ≡ true → u.tape.disk.pages.bytes ≡ overwritten s.tape.disk.pages.bytes at (padded x)
    both_bytes calls tells =
        written_bytes t u (at + length x) (zeros pad) calls (wrote.told ∙ tells)
        ∙ ap (λ (b : List ℕ). overwritten b (at + length x) (zeros pad)) (bytes_between tells)
        ∙ overwritten_twice s.tape.disk.pages.bytes x (zeros pad) at (within tells)
        ∙ ap (λ (n : ℕ). overwritten s.tape.disk.pages.bytes at (x ++ zeros n)) is
