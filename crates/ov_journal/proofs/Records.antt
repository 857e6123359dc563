-- The bytes of a journal before, between and after the two writes of a record.
use Rattle.std.proofs.Common.{◌≡◌, ◌≢◌, ◌≤◌, ◌<◌, ◌⊎◌, inl, inr, ℕ, suc, ◌+◌, ◌^◌, List, [], ◌∷◌, ◌++◌, length, take, drop, get_or, refl, sym, ◌∙◌, ap, subst, arith, add-one}
use Rattle.std.specs.Int.{w32, to_be_bytes}
use Rattle.std.proofs.lemmas.List.{append_assoc, take_at, drop_at, take-append-drop, take-append-le, take-take, drop-append-le, length-take, length-drop, length-append, flat_map_more}
use Rattle.std.proofs.Math.Seq.{drop-cons}
use Rattle.ov_host.specs.Tape.{Torn, overwritten}
use Rattle.ov_journal.specs.Bytes.{IsHeader, body, record_of}
use Rattle.ov_journal.specs.Journal.{Kept, IsFront, IsJournal, slot_of, end_of, and_one}

snoc : (front rest : List ℕ) (x : ℕ) → (front ++ x ∷ []) ++ rest ≡ front ++ x ∷ rest
snoc front rest x = append_assoc front (x ∷ []) rest

snoc-length : (front : List ℕ) (x : ℕ) → length (front ++ x ∷ []) ≡ length front + 1
snoc-length front x = length-append front (x ∷ [])

-- the same bytes up to a byte behind the front
pub front_stays : (front rest c : List ℕ) (x : ℕ) → take (length front + 1) c ≡ take (length front + 1) (front ++ x ∷ rest) → c ≡ front ++ x ∷ drop (length front + 1) c
front_stays front rest c x same =
    let there : take (length front + 1) (front ++ x ∷ rest) ≡ front ++ x ∷ [] =
    ap (take (length front + 1)) (sym (snoc front rest x)) ∙ take_at (front ++ x ∷ []) rest (length front + 1) (snoc-length front x)
    in sym (take-append-drop (length front + 1) c)
    ∙ ap (λ b. b ++ drop (length front + 1) c) (same ∙ there)
    ∙ snoc front (drop (length front + 1) c) x

-- a write of the byte behind the front leaves some byte there
pub torn_byte : (front rest c : List ℕ) (x : ℕ) → Torn (length front) 1 (front ++ x ∷ rest) c → c ≡ front ++ get_or c (length front) 0 ∷ rest
torn_byte front rest c x torn =
    let long : length front < length c = omega (arith, length-append front (x ∷ rest), torn.no_shorter)
    in let before : take (length front) c ≡ front = torn.before ∙ take_at front (x ∷ rest) (length front) refl
    in let behind : drop (length front + 1) c ≡ rest =
    torn.after ∙ ap (drop (length front + 1)) (sym (snoc front rest x)) ∙ drop_at (front ++ x ∷ []) rest (length front + 1) (snoc-length front x)
    in let next : drop (suc (length front)) c ≡ rest = ap (λ n. drop n c) (sym (add-one (length front))) ∙ behind
    in sym (take-append-drop (length front) c)
    ∙ ap (λ b. b ++ drop (length front) c) before
    ∙ ap (λ b. front ++ b) (drop-cons c (length front) 0 long ∙ ap (λ b. get_or c (length front) 0 ∷ b) next)

-- a write behind that byte
pub over_behind : (front rest y : List ℕ) (x : ℕ) → overwritten (front ++ x ∷ rest) (length front + 1) y ≡ front ++ x ∷ (y ++ drop (length front + 1 + length y) (front ++ x ∷ rest))
over_behind front rest y x =
    ap (λ b. b ++ y ++ drop (length front + 1 + length y) (front ++ x ∷ rest))
    (ap (take (length front + 1)) (sym (snoc front rest x)) ∙ take_at (front ++ x ∷ []) rest (length front + 1) (snoc-length front x))
    ∙ append_assoc (front ++ x ∷ []) y (drop (length front + 1 + length y) (front ++ x ∷ rest))
    ∙ snoc front (y ++ drop (length front + 1 + length y) (front ++ x ∷ rest)) x

-- a write of that byte
pub over_byte : (front rest : List ℕ) (x y : ℕ) → overwritten (front ++ x ∷ rest) (length front) (y ∷ []) ≡ front ++ y ∷ rest
over_byte front rest x y =
    ap (λ b. b ++ (y ∷ []) ++ drop (length front + 1) (front ++ x ∷ rest)) (take_at front (x ∷ rest) (length front) refl)
    ∙ ap (λ b. (front ++ y ∷ []) ++ b)
    (ap (drop (length front + 1)) (sym (snoc front rest x)) ∙ drop_at (front ++ x ∷ []) rest (length front + 1) (snoc-length front x))
    ∙ snoc front rest y

pub body-length : (payload : List ℕ) → length (record_of payload) ≡ length payload + 5
body-length payload = omega (arith, length-append (to_be_bytes w32 (length payload)) payload)

-- the front ends at the first closed gate
pub front_ends : (kept : Kept) (front : List ℕ) → IsFront kept front → length front ≡ end_of kept
front_ends kept front is = omega (arith, length-drop kept.start front, ap length is.records, is.start)

-- a journal has a header, and the first record's gate behind it
pub longer : (kept : Kept) (b : List ℕ) → IsJournal kept b → 39 ≤ length b
longer kept b is =
    omega (arith, ap length is.whole, length-append is.front (is.gate ∷ is.rest), is.begins.low, is.begins.start)

-- a write behind the header leaves it
pub head_stays : (b x : List ℕ) (at : ℕ) → 38 ≤ at → 38 ≤ length b → take 38 (overwritten b at x) ≡ take 38 b
head_stays b x at low long =
    let front : 38 ≤ length (take at b) = omega (arith, length-take at b)
    in let both : 38 ≤ length (take at b ++ x) = omega (arith, front, length-append (take at b) x)
    in take-append-le 38 (take at b ++ x) (drop (at + length x) b) both
    ∙ take-append-le 38 (take at b) x front
    ∙ take-take 38 at b low

-- one record more
pub front_more : (kept : Kept) (front payload : List ℕ) → IsFront kept front → length front + 6 + length payload ≤ 2 ^ 28 → IsFront (and_one kept payload) (front ++ record_of payload)
front_more kept front payload is fits =
    let Header : List ℕ → Type 0 = λ head. IsHeader is.place (slot_of kept) head
    in let long : 38 ≤ length front = omega (arith, is.low, is.start)
    in let total : length (front ++ record_of payload) ≡ length front + (length payload + 5) =
    length-append front (record_of payload) ∙ ap (λ n. length front + n) (body-length payload)
    in record {
      place = is.place;
      header = subst Header (sym (take-append-le 38 front (record_of payload) long)) is.header;
      known = is.known;
      low = is.low;
      start = omega (arith, total, is.start);
      records =
          drop-append-le kept.start front (record_of payload) is.start
          ∙ ap (λ b. b ++ record_of payload) is.records
          ∙ flat_map_more record_of [] kept.payloads payload;
      fits = omega (arith, total, fits);
    }

-- The body of a record is there, and its gate is still closed.
pub record IsStaged (kept : Kept) (payload bytes : List ℕ) : Type 0 where
  pub front : List ℕ
  pub gate : ℕ
  pub rest : List ℕ
  pub closed : gate ≢ 165
  pub whole : bytes ≡ front ++ gate ∷ (body payload ++ 0 ∷ rest)
  pub begins : IsFront kept front

-- bytes that are the same up to the first closed gate
pub same_journal : (kept : Kept) (b c : List ℕ) → IsJournal kept b → take (end_of kept + 1) c ≡ take (end_of kept + 1) b → IsJournal kept c
same_journal kept b c is same =
    let ends : end_of kept ≡ length is.front = sym (front_ends kept is.front is.begins)
    in let there : take (length is.front + 1) c ≡ take (length is.front + 1) (is.front ++ is.gate ∷ is.rest) =
    ap (λ n. take (n + 1) c) (sym ends) ∙ same ∙ ap (λ n. take (n + 1) b) ends ∙ ap (take (length is.front + 1)) is.whole
    in record {
      front = is.front;
      gate = is.gate;
      rest = drop (length is.front + 1) c;
      closed = is.closed;
      whole = front_stays is.front is.rest c is.gate there;
      begins = is.begins;
    }

-- a write behind the closed gate leaves the journal as it is
pub torn_journal : (kept : Kept) (b c : List ℕ) (n : ℕ) → IsJournal kept b → Torn (end_of kept + 1) n b c → IsJournal kept c
torn_journal kept b c n is torn = same_journal kept b c is torn.before

pub staged_is : (kept : Kept) (payload b : List ℕ) → IsStaged kept payload b → IsJournal kept b
staged_is kept payload b is =
    record { front = is.front; gate = is.gate; rest = body payload ++ 0 ∷ is.rest; closed = is.closed; whole = is.whole; begins = is.begins }

-- after the first write
pub stages : (kept : Kept) (payload b x : List ℕ) → IsJournal kept b → x ≡ body payload ++ 0 ∷ [] → IsStaged kept payload (overwritten b (end_of kept + 1) x)
stages kept payload b x is frame =
    let ends : end_of kept ≡ length is.front = sym (front_ends kept is.front is.begins)
    in let rest : List ℕ = drop (length is.front + 1 + length x) (is.front ++ is.gate ∷ is.rest)
    in record {
      front = is.front;
      gate = is.gate;
      rest = rest;
      closed = is.closed;
      whole =
          ap (λ n. overwritten b (n + 1) x) ends
          ∙ ap (λ bs. overwritten bs (length is.front + 1) x) is.whole
          ∙ over_behind is.front is.rest x is.gate
          ∙ ap (λ y. is.front ++ is.gate ∷ (y ++ rest)) frame
          ∙ ap (λ y. is.front ++ is.gate ∷ y) (append_assoc (body payload) (0 ∷ []) rest);
      begins = is.begins;
    }

opened : (kept : Kept) (payload b c : List ℕ) (is : IsStaged kept payload b) → end_of kept + 6 + length payload ≤ 2 ^ 28 → c ≡ is.front ++ 165 ∷ (body payload ++ 0 ∷ is.rest) → IsJournal (and_one kept payload) c
opened kept payload b c is fits there =
    record {
      front = is.front ++ record_of payload;
      gate = 0;
      rest = is.rest;
      closed = λ e. absurd cc;
      whole = there ∙ sym (append_assoc is.front (record_of payload) (0 ∷ is.rest));
      begins = front_more kept is.front payload is.begins (omega (arith, fits, front_ends kept is.front is.begins));
    }

-- after the second write
pub opens : (kept : Kept) (payload b : List ℕ) → IsStaged kept payload b → end_of kept + 6 + length payload ≤ 2 ^ 28 → IsJournal (and_one kept payload) (overwritten b (end_of kept) (165 ∷ []))
opens kept payload b is fits =
    opened kept payload b (overwritten b (end_of kept) (165 ∷ [])) is fits
    (ap (λ n. overwritten b n (165 ∷ [])) (sym (front_ends kept is.front is.begins))
    ∙ ap (λ bs. overwritten bs (length is.front) (165 ∷ [])) is.whole
    ∙ over_byte is.front (body payload ++ 0 ∷ is.rest) is.gate 165)

-- what a gate may be
pub is_or_not : (x : ℕ) → (x ≡ 165) ⊎ (x ≢ 165)
is_or_not x = grind (arith)

-- a stop in the second write
pub opens_or_not : (kept : Kept) (payload b c : List ℕ) → IsStaged kept payload b → end_of kept + 6 + length payload ≤ 2 ^ 28 → Torn (end_of kept) 1 b c → IsJournal kept c ⊎ IsJournal (and_one kept payload) c
opens_or_not kept payload b c is fits torn =
    let At : ℕ → Type 0 = λ n. Torn n 1 b c
    in let Over : List ℕ → Type 0 = λ bs. Torn (length is.front) 1 bs c
    in let there : c ≡ is.front ++ get_or c (length is.front) 0 ∷ (body payload ++ 0 ∷ is.rest) =
    torn_byte is.front (body payload ++ 0 ∷ is.rest) c is.gate
    (subst Over is.whole (subst At (sym (front_ends kept is.front is.begins)) torn))
    in elim (is_or_not (get_or c (length is.front) 0)) [
      | inl counts ↦
          inr (opened kept payload b c is fits (there ∙ ap (λ x. is.front ++ x ∷ (body payload ++ 0 ∷ is.rest)) counts))
      | inr shut ↦
          inl (record { front = is.front; gate = get_or c (length is.front) 0; rest = body payload ++ 0 ∷ is.rest; closed = shut; whole = there; begins = is.begins })
    ]
