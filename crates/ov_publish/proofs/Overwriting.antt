-- What a run makes of the bytes of the area.
use Rattle.std.proofs.Common.{◌≡◌, ◌<◌, ◌≤◌, inl, inr, ℕ, ◌+◌, ◌-◌, ◌*◌, List, [], ◌∷◌, ◌++◌, length, take, drop, get_or, refl, sym, ◌∙◌, ap, subst, arith}
use Rattle.std.proofs.lemmas.List.{append_assoc, take_at, drop_at, drop-drop, length-take, length-drop, length-append, length-replicate, get_or_append_left, get_or-take, get_or-drop}
use Rattle.std.proofs.lemmas.Grind.{same_number_lists}
use Rattle.std.proofs.lemmas.Bool.{cases_lt}
use Rattle.ov_host.specs.Disk.{IsWritten}
use Rattle.ov_host.specs.Tape.{overwritten}
use Rattle.ov_host.proofs.Writes.{torn_overwritten, same_off, is_off}
use Rattle.ov_publish.specs.Pages.{whole_pages, padded, filled, with_run, range_of, AreOff, AreThere, SameOn, zeros}

pub length-overwritten : (b x : List ℕ) (at : ℕ) → at ≤ length b → length (overwritten b at x) ≡ at + length x + (length b - (at + length x))
length-overwritten b x at within =
    let front : length (take at b) ≡ at = omega (arith, length-take at b)
    in let both : length (take at b ++ x) ≡ at + length x = omega (arith, front, length-append (take at b) x)
    in length-append (take at b ++ x) (drop (at + length x) b)
    ∙ omega (arith, both, length-drop (at + length x) b)

-- bytes and then further ones behind them
pub overwritten_twice : (b x y : List ℕ) (at : ℕ) → at ≤ length b → overwritten (overwritten b at x) (at + length x) y ≡ overwritten b at (x ++ y)
overwritten_twice b x y at within =
    let front : length (take at b ++ x) ≡ at + length x = omega (arith, length-take at b, length-append (take at b) x)
    in let before : take (at + length x) (overwritten b at x) ≡ take at b ++ x =
    take_at (take at b ++ x) (drop (at + length x) b) (at + length x) front
    in let here : drop (at + length x) (overwritten b at x) ≡ drop (at + length x) b =
    drop_at (take at b ++ x) (drop (at + length x) b) (at + length x) front
    in let after : drop (at + length x + length y) (overwritten b at x) ≡ drop (at + length (x ++ y)) b =
    sym (drop-drop (length y) (at + length x) (overwritten b at x))
    ∙ ap (drop (length y)) here
    ∙ drop-drop (length y) (at + length x) b
    ∙ ap (λ (n : ℕ). drop n b) (omega (arith, length-append x y))
    in ap (λ (f : List ℕ). f ++ y ++ drop (at + length x + length y) (overwritten b at x)) before
    ∙ ap (λ (r : List ℕ). take at b ++ x ++ y ++ r) after
    ∙ ap (λ (f : List ℕ). f ++ drop (at + length (x ++ y)) b) (append_assoc (take at b) x y)

-- what was written reads there
pub reads_written : (b x y : List ℕ) (at : ℕ) → at ≤ length b → take (length x) (drop at (overwritten b at (x ++ y))) ≡ x
reads_written b x y at within =
    let front : length (take at b) ≡ at = omega (arith, length-take at b)
    in let rest : List ℕ = drop (at + length (x ++ y)) b
    in ap (λ (l : List ℕ). take (length x) (drop at l)) (append_assoc (take at b) (x ++ y) rest)
    ∙ ap (take (length x)) (drop_at (take at b) (x ++ y ++ rest) at front)
    ∙ ap (take (length x)) (append_assoc x y rest)
    ∙ take_at x (y ++ rest) (length x) refl

pub length-zeros : (n : ℕ) → length (zeros n) ≡ n
length-zeros n = let none : ℕ = 0 in length-replicate n none

pub length-padded : (bytes : List ℕ) → length (padded bytes) ≡ whole_pages (length bytes)
length-padded bytes =
    omega (arith, length-append bytes (zeros (whole_pages (length bytes) - length bytes)), length-zeros (whole_pages (length bytes) - length bytes))

pub length-filled : (at : ℕ) (old : List ℕ) → length (filled at old) ≡ length old + (at - length old)
length-filled at old = omega (arith, length-append old (zeros (at - length old)), length-zeros (at - length old))

pub in_filled : (at : ℕ) (old : List ℕ) → at ≤ length (filled at old)
in_filled at old = omega (arith, length-filled at old)

pub run_is_read : (page : ℕ) (bytes old : List ℕ) → take (length bytes) (drop (page * 4096) (with_run page bytes old)) ≡ bytes
run_is_read page [] old = refl
run_is_read page (byte ∷ bytes) old =
    reads_written (filled (page * 4096) old) (byte ∷ bytes) (zeros (whole_pages (length (byte ∷ bytes)) - length (byte ∷ bytes))) (page * 4096) (in_filled (page * 4096) old)

pub run_there : (page : ℕ) (bytes old : List ℕ) → 0 < length bytes → page * 4096 + whole_pages (length bytes) ≤ length (with_run page bytes old)
run_there page [] old some = omega (arith, some)
run_there page (byte ∷ bytes) old some =
    omega (arith, length-overwritten (filled (page * 4096) old) (padded (byte ∷ bytes)) (page * 4096) (in_filled (page * 4096) old), length-padded (byte ∷ bytes))

pub run_longer : (page : ℕ) (bytes old : List ℕ) → length old ≤ length (with_run page bytes old)
run_longer page [] old = omega arith
run_longer page (byte ∷ bytes) old =
    omega (arith, length-overwritten (filled (page * 4096) old) (padded (byte ∷ bytes)) (page * 4096) (in_filled (page * 4096) old), length-filled (page * 4096) old)

-- a byte off the run's pages stays
pub run_off : (page : ℕ) (bytes old : List ℕ) (p : ℕ) → p < length old → (IsWritten (range_of page bytes ∷ []) p → ⊥) → get_or (with_run page bytes old) p 0 ≡ get_or old p 0
run_off page [] old p lt off = refl
run_off page (byte ∷ bytes) old p lt off =
    let at : ℕ = page * 4096
    in let x : List ℕ = padded (byte ∷ bytes)
    in let Off : ℕ → Type 0 = λ n. (IsWritten ((at, at + n) ∷ []) p → ⊥)
    in same_off (filled at old) (overwritten (filled at old) at x) at (length x) p (torn_overwritten (filled at old) x at (in_filled at old))
    (is_off at (length x) p [] (subst Off (sym (length-padded (byte ∷ bytes))) off))
    ∙ get_or_append_left old (zeros (at - length old)) 0 p lt

pub run_same : (page : ℕ) (bytes old : List ℕ) (live : List (ℕ × ℕ)) → AreThere live old → AreOff (range_of page bytes ∷ []) live → SameOn live old (with_run page bytes old)
run_same page bytes old live there off =
    record {
      there = λ p w. omega (arith, there p w, run_longer page bytes old);
      same = λ p w. run_off page bytes old p (there p w) (λ free. off p free w);
    }

-- equal bytes in a range read equal there
pub same_range : (at n : ℕ) (b c : List ℕ) → at + n ≤ length b → at + n ≤ length c → ((p : ℕ) → at ≤ p → p < at + n → get_or c p 0 ≡ get_or b p 0) → take n (drop at c) ≡ take n (drop at b)
same_range at n b c in_b in_c same =
    same_number_lists (take n (drop at c)) (take n (drop at b))
    (omega (arith, length-take n (drop at c), length-take n (drop at b), length-drop at b, length-drop at c))
    (λ k lt.
    let below : k < n = omega (arith, length-take n (drop at c))
    in get_or-take n (drop at c) k 0 below
    ∙ get_or-drop at c k 0
    ∙ same (at + k) (omega arith) (omega arith)
    ∙ sym (get_or-drop at b k 0)
    ∙ sym (get_or-take n (drop at b) k 0 below))

module _ (list_page segment_page : ℕ) (list segment old : List ℕ) where
  abbrev middle : List ℕ
  middle = with_run list_page list old

  -- the first run reads behind the second, which is off it
  pub first_read : AreOff (range_of segment_page segment ∷ []) (range_of list_page list ∷ []) → take (length list) (drop (list_page * 4096) (with_run segment_page segment middle)) ≡ list
  first_read off =
      elim (cases_lt 0 (length list)) [
        | inl some ↦
            let at : ℕ = list_page * 4096
            in let within : at + length list ≤ length middle = omega (arith, run_there list_page list old some)
            in same_range at (length list) middle (with_run segment_page segment middle) within
            (omega (arith, within, run_longer segment_page segment middle))
            (λ p from below. run_off segment_page segment middle p (omega (arith, within)) (λ w. off p w (inl (from, omega arith))))
            ∙ run_is_read list_page list old
        | inr none ↦ empty_read list none
      ] where
        empty_read : (l : List ℕ) → length l ≤ 0 → take (length l) (drop (list_page * 4096) (with_run segment_page segment middle)) ≡ l
        empty_read [] le = refl
        empty_read (x ∷ xs) le = absurd (omega (arith, le))

  pub both_same : (live : List (ℕ × ℕ)) → AreThere live old → AreOff (range_of list_page list ∷ range_of segment_page segment ∷ []) live → SameOn live old (with_run segment_page segment middle)
  both_same live there off =
      let one : SameOn live old middle = run_same list_page list old live there (λ p w live_there. off p (first_place p w) live_there)
      in let two : SameOn live middle (with_run segment_page segment middle) = run_same segment_page segment middle live one.there (λ p w live_there. off p (second_place p w) live_there)
      in record { there = two.there; same = λ p w. two.same p w ∙ one.same p w } where
        first_place : (p : ℕ) → IsWritten (range_of list_page list ∷ []) p → IsWritten (range_of list_page list ∷ range_of segment_page segment ∷ []) p
        first_place p (inl here) = inl here
        first_place p (inr none) = absurd none

        second_place : (p : ℕ) → IsWritten (range_of segment_page segment ∷ []) p → IsWritten (range_of list_page list ∷ range_of segment_page segment ∷ []) p
        second_place p (inl here) = inr (inl here)
        second_place p (inr none) = absurd none
