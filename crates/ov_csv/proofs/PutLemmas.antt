-- Bytes that are put behind a text.
use Rattle.std.proofs.Common.{◌≡◌, ◌≤◌, ◌++◌, ◌∙◌, ℕ, List, sym, ap, length, take}
use Rattle.std.proofs.Math.Seq.{take-append_seam}
use Rattle.std.proofs.lemmas.List.{take-append-le}

-- what was there is still in front
pub put_stays : (old field text rest : List ℕ) → text ++ rest ≡ old ++ field → length old ≤ length text → take (length old) text ≡ old
put_stays old field text rest is longer = sym (take-append-le (length old) text rest longer) ∙ ap (λ (l : List ℕ). take (length old) l) is ∙ take-append_seam old field
