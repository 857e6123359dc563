-- A piece more of a segment's bytes is held.
use Rattle.std.proofs.Common.{◌≡◌, ◌≤◌, ◌+◌, ◌-◌, ℕ, Bool, false, List, ◌++◌, length, take, drop, sym, ◌∙◌, ap, arith, min, if◌then◌else◌, append_assoc, length-take}
use Rattle.std.proofs.lemmas.List.{take_all}
use Rattle.ov_segment.specs.Held.{Reader}
use Rattle.ov_segment.specs.Reading.{after_feed}
use Rattle.ov_fetch.specs.declared.cursor.Cursor.{Cursor}
use Rattle.ov_fetch.specs.Extents.{extent_bytes}
use Rattle.ov_fetch.specs.Cursors.{left_of}
use Rattle.ov_fetch.proofs.Pieces.{PieceOf}

-- the bytes that a read gave are held, and are no longer to be read
pub filled : (area : List ℕ) (old : Cursor) (n : ℕ) (new held : List ℕ) → PieceOf area old.extent old.at n new → held ≡ old.reader.held ++ take n new
    → held ++ drop (old.at + n) (extent_bytes area old.extent) ≡ left_of area old
filled area old n new held p is =
    ap (λ (l : List ℕ). l ++ drop (old.at + n) (extent_bytes area old.extent)) is
    ∙ append_assoc old.reader.held (take n new) (drop (old.at + n) (extent_bytes area old.extent))
    ∙ ap (λ (l : List ℕ). old.reader.held ++ l) (sym p.next)

-- where there is room for all of a piece, all of it is held
pub all_taken : (old new : Reader) (taken n : ℕ) (piece : List ℕ) → n ≤ 61440 → old.over ≡ false → length old.held + 61440 ≤ 131072
    → taken ≡ (if old.over then 0 else min (length (take n piece)) (131072 - length old.held)) → new ≡ after_feed old (take taken (take n piece)) → new.held ≡ old.held ++ take n piece
all_taken old new taken n piece few over space is now =
    let long : length (take n piece) ≤ n = omega (arith, length-take n piece) in
    let all : taken ≡ length (take n piece) = is ∙ ap (λ (b : Bool). if b then 0 else min (length (take n piece)) (131072 - length old.held)) over ∙ omega (arith, long) in
    ap (λ (r : Reader). r.held) now ∙ ap (λ (l : List ℕ). old.held ++ l) (take_all taken (take n piece) (omega (arith, all)))
