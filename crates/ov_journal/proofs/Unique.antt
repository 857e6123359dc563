-- Bytes are one thing at most.
use Rattle.std.proofs.Common.{◌≡◌, ◌<◌, ◌≤◌, ◌⊎◌, inl, inr, ℕ, ◌+◌, ◌^◌, List, [], ◌∷◌, ◌++◌, length, take, drop, get_or, Some, None, refl, sym, ◌∙◌, ap, subst, arith}
use Rattle.std.specs.List.{flat_map}
use Rattle.std.specs.Int.{w32, to_be_bytes, from_be_bytes}
use Rattle.std.proofs.lemmas.List.{append_assoc, take_at, drop_at, take-append-le, drop-append-le, length-append, get_or-take}
use Rattle.std.proofs.lemmas.Grind.{flat_map-append}
use Rattle.std.proofs.lemmas.Nat.{from_be_bytes-to_be_bytes_4}
use Rattle.ov_journal.specs.Bytes.{Slot, IsHeader, slot_at, body, record_of, number_at}
use Rattle.ov_journal.specs.Journal.{Kept, slot_of, end_of, IsKnown, IsFront, IsJournal, journal_end, IsUnmade, IsForeign, IsOfFormat, StartsOff, PassesEnd, Standing, Unmade, Foreign, OfFormat, DamagedAt, Holds, AreaIs}
use Rattle.ov_journal.proofs.Records.{front_ends}

-- ---- the header

record IsHeaded (place : ℕ) (slot : Slot) (bytes : List ℕ) : Type 0 where
  long : 39 ≤ length bytes
  header : IsHeader place slot (take 38 bytes)

same_place : (p q : ℕ) (s t : Slot) (head : List ℕ) → IsHeader p s head → IsHeader q t head → p ≡ q
same_place p q s t head a b = let e : Some p ≡ Some q = sym a.live ∙ b.live in cc

same_slot : (p q : ℕ) (s t : Slot) (head : List ℕ) → IsHeader p s head → IsHeader q t head → s ≡ t
same_slot p q s t head a b = sym a.fields ∙ ap (λ n. slot_at n head) (same_place p q s t head a b) ∙ b.fields

first_opens : (p : ℕ) (s : Slot) (bytes : List ℕ) → IsHeaded p s bytes → get_or bytes 0 0 ≡ 165
first_opens p s bytes is = sym (get_or-take 38 bytes 0 0 (omega arith)) ∙ is.header.opened

not_unmade : (p : ℕ) (s : Slot) (bytes : List ℕ) → IsHeaded p s bytes → IsUnmade bytes → ⊥
not_unmade p s bytes is (inl less) = omega (arith, is.long)
not_unmade p s bytes is (inr exact) = exact.1 (first_opens p s bytes is)

not_foreign : (p : ℕ) (s : Slot) (bytes : List ℕ) → IsHeaded p s bytes → IsForeign bytes → ⊥
not_foreign p s bytes is (inl closed) = closed.1 (first_opens p s bytes is)
not_foreign p s bytes is (inr none) =
    elim none.2 [ inl other ↦ other is.header.text | inr gone ↦ let e : None ≡ Some p = sym gone ∙ is.header.live in absurd cc ]

unmade_not_foreign : (bytes : List ℕ) → IsUnmade bytes → IsForeign bytes → ⊥
unmade_not_foreign bytes (inl less) (inl closed) = omega (arith, closed.0)
unmade_not_foreign bytes (inl less) (inr none) = omega (arith, none.0)
unmade_not_foreign bytes (inr exact) (inl closed) = omega (arith, exact.0, closed.0)
unmade_not_foreign bytes (inr exact) (inr none) = exact.1 none.1

-- ---- the records

-- the same records stand before two gates
record IsSame (ps qs : List (List ℕ)) (x y : ℕ) : Type 0 where
  payloads : ps ≡ qs
  gate : x ≡ y

-- the second list goes on where the first ends
record GoesOn (ps qs : List (List ℕ)) (x : ℕ) (xs : List ℕ) : Type 0 where
  opened : x ≡ 165
  next : List ℕ
  more : List (List ℕ)
  all : qs ≡ ps ++ next ∷ more
  behind : List ℕ
  rest : xs ≡ body next ++ behind

pub flat-cons : (p : List ℕ) (ps : List (List ℕ)) (rest : List ℕ) → flat_map record_of (p ∷ ps) ++ rest ≡ 165 ∷ (body p ++ (flat_map record_of ps ++ rest))
flat-cons p ps rest = append_assoc (record_of p) (flat_map record_of ps) rest

pub flat-length : (p : List ℕ) (ps : List (List ℕ)) → length (flat_map record_of (p ∷ ps)) ≡ 5 + length p + length (flat_map record_of ps)
flat-length p ps =
    length-append (record_of p) (flat_map record_of ps)
    ∙ ap (λ n. n + length (flat_map record_of ps)) (omega (arith, length-append (to_be_bytes w32 (length p)) p))

pub number_of : (p rest : List ℕ) → length p < 2 ^ 32 → number_at 0 (body p ++ rest) ≡ length p
number_of p rest small =
    ap (from_be_bytes w32) (ap (take 4) (append_assoc (to_be_bytes w32 (length p)) p rest) ∙ take_at (to_be_bytes w32 (length p)) (p ++ rest) 4 refl)
    ∙ from_be_bytes-to_be_bytes_4 (length p) small

same_length : (p q a b : List ℕ) → length p < 2 ^ 32 → length q < 2 ^ 32 → body p ++ a ≡ body q ++ b → length p ≡ length q
same_length p q a b small_p small_q e = sym (number_of p a small_p) ∙ ap (number_at 0) e ∙ number_of q b small_q

pub behind_length : (p a : List ℕ) → drop 4 (body p ++ a) ≡ p ++ a
behind_length p a = ap (drop 4) (append_assoc (to_be_bytes w32 (length p)) p a) ∙ drop_at (to_be_bytes w32 (length p)) (p ++ a) 4 refl

same_parts : (p q a b : List ℕ) → length p < 2 ^ 32 → length q < 2 ^ 32 → body p ++ a ≡ body q ++ b → (p ≡ q) × (a ≡ b)
same_parts p q a b small_p small_q e =
    let long : length p ≡ length q = same_length p q a b small_p small_q e
    in let parts : p ++ a ≡ q ++ b = sym (behind_length p a) ∙ ap (drop 4) e ∙ behind_length q b
    in (
      sym (take_at p a (length p) refl) ∙ ap (take (length p)) parts ∙ take_at q b (length p) (sym long),
      sym (drop_at p a (length p) refl) ∙ ap (drop (length p)) parts ∙ drop_at q b (length p) (sym long),
    )

one_in_front : (p q : List ℕ) (ps qs : List (List ℕ)) (x y : ℕ) (xs ys : List ℕ) → p ≡ q → IsSame ps qs x y ⊎ (GoesOn ps qs x xs ⊎ GoesOn qs ps y ys) → IsSame (p ∷ ps) (q ∷ qs) x y ⊎ (GoesOn (p ∷ ps) (q ∷ qs) x xs ⊎ GoesOn (q ∷ qs) (p ∷ ps) y ys)
one_in_front p q ps qs x y xs ys e (inl is) = inl (record { payloads = let f = is.payloads in cc; gate = is.gate })
one_in_front p q ps qs x y xs ys e (inr (inl on)) =
    inr (inl (record { opened = on.opened; next = on.next; more = on.more; all = ap (λ l. l ∷ qs) (sym e) ∙ ap (λ ls. p ∷ ls) on.all; behind = on.behind; rest = on.rest }))
one_in_front p q ps qs x y xs ys e (inr (inr on)) =
    inr (inr (record { opened = on.opened; next = on.next; more = on.more; all = ap (λ l. l ∷ ps) e ∙ ap (λ ls. q ∷ ls) on.all; behind = on.behind; rest = on.rest }))

compare : (ps qs : List (List ℕ)) (x y : ℕ) (xs ys : List ℕ) → length (flat_map record_of ps) < 2 ^ 28 → length (flat_map record_of qs) < 2 ^ 28 → flat_map record_of ps ++ x ∷ xs ≡ flat_map record_of qs ++ y ∷ ys
    → IsSame ps qs x y ⊎ (GoesOn ps qs x xs ⊎ GoesOn qs ps y ys)
compare [] [] x y xs ys a b e = inl (record { payloads = refl; gate = cc })
compare [] (q ∷ qs) x y xs ys a b e =
    let f : x ∷ xs ≡ 165 ∷ (body q ++ (flat_map record_of qs ++ y ∷ ys)) = e ∙ flat-cons q qs (y ∷ ys)
    in inr (inl (record { opened = cc; next = q; more = qs; all = refl; behind = flat_map record_of qs ++ y ∷ ys; rest = cc }))
compare (p ∷ ps) [] x y xs ys a b e =
    let f : y ∷ ys ≡ 165 ∷ (body p ++ (flat_map record_of ps ++ x ∷ xs)) = sym e ∙ flat-cons p ps (x ∷ xs)
    in inr (inr (record { opened = cc; next = p; more = ps; all = refl; behind = flat_map record_of ps ++ x ∷ xs; rest = cc }))
compare (p ∷ ps) (q ∷ qs) x y xs ys a b e =
    let f : 165 ∷ (body p ++ (flat_map record_of ps ++ x ∷ xs)) ≡ 165 ∷ (body q ++ (flat_map record_of qs ++ y ∷ ys)) = sym (flat-cons p ps (x ∷ xs)) ∙ e ∙ flat-cons q qs (y ∷ ys)
    in let parts = same_parts p q (flat_map record_of ps ++ x ∷ xs) (flat_map record_of qs ++ y ∷ ys) (omega (arith, a, flat-length p ps)) (omega (arith, b, flat-length q qs)) (ap (drop 1) f)
    in one_in_front p q ps qs x y xs ys parts.0
    (compare ps qs x y xs ys (omega (arith, a, flat-length p ps)) (omega (arith, b, flat-length q qs)) parts.1)

-- ---- a front and a gate

record IsFronted (kept : Kept) (bytes : List ℕ) (x : ℕ) (xs : List ℕ) : Type 0 where
  front : List ℕ
  whole : bytes ≡ front ++ x ∷ xs
  begins : IsFront kept front

module _ (kept : Kept) (bytes : List ℕ) (x : ℕ) (xs : List ℕ) (is : IsFronted kept bytes x xs) where
  total : length bytes ≡ length is.front + length (x ∷ xs)
  total = ap length is.whole ∙ length-append is.front (x ∷ xs)

  headed : IsHeaded is.begins.place (slot_of kept) bytes
  headed =
      let Header : List ℕ → Type 0 = λ head. IsHeader is.begins.place (slot_of kept) head
      in let same : take 38 bytes ≡ take 38 is.front =
      ap (take 38) is.whole ∙ take-append-le 38 is.front (x ∷ xs) (omega (arith, is.begins.low, is.begins.start))
      in record { long = omega (arith, total, is.begins.low, is.begins.start); header = subst Header (sym same) is.begins.header }

  tail : drop kept.start bytes ≡ flat_map record_of kept.payloads ++ x ∷ xs
  tail =
      ap (drop kept.start) is.whole
      ∙ drop-append-le kept.start is.front (x ∷ xs) is.begins.start
      ∙ ap (λ b. b ++ x ∷ xs) is.begins.records

  ends : length is.front ≡ kept.start + length (flat_map record_of kept.payloads)
  ends = front_ends kept is.front is.begins

  within : end_of kept < journal_end bytes
  within = omega (arith, total, ends, is.begins.fits)

-- what stands behind the first closed gate of one is no record of another
past_end : (k j : Kept) (bytes : List ℕ) (x y : ℕ) (xs ys : List ℕ) → IsFronted k bytes x xs → IsFronted j bytes y ys → k.start ≡ j.start → GoesOn k.payloads j.payloads x xs → journal_end bytes ≤ end_of k + 5 + number_at 0 xs → ⊥
past_end k j bytes x y xs ys a b start on past =
    let more : length (flat_map record_of j.payloads) ≡ length (flat_map record_of k.payloads) + (5 + length on.next + length (flat_map record_of on.more)) =
    ap (λ ps. length (flat_map record_of ps)) on.all
    ∙ ap length (flat_map-append record_of k.payloads (on.next ∷ on.more))
    ∙ length-append (flat_map record_of k.payloads) (flat_map record_of (on.next ∷ on.more))
    ∙ ap (λ n. length (flat_map record_of k.payloads) + n) (flat-length on.next on.more)
    in let small : length on.next < 2 ^ 32 = omega (arith, within j bytes y ys b, more)
    in let number : number_at 0 xs ≡ length on.next = ap (number_at 0) on.rest ∙ number_of on.next on.behind small
    in omega (arith, past, number, more, start, within j bytes y ys b)

-- two fronts of the same bytes
module _ (k j : Kept) (bytes : List ℕ) (x y : ℕ) (xs ys : List ℕ) (a : IsFronted k bytes x xs) (b : IsFronted j bytes y ys) where
  slots : slot_of k ≡ slot_of j
  slots = same_slot a.begins.place b.begins.place (slot_of k) (slot_of j) (take 38 bytes) (headed k bytes x xs a).header (headed j bytes y ys b).header

  starts : k.start ≡ j.start
  starts = ap (λ (s : Slot). s.start) slots

  compared : IsSame k.payloads j.payloads x y ⊎ (GoesOn k.payloads j.payloads x xs ⊎ GoesOn j.payloads k.payloads y ys)
  compared =
      compare k.payloads j.payloads x y xs ys
      (omega (arith, ends k bytes x xs a, a.begins.fits))
      (omega (arith, ends j bytes y ys b, b.begins.fits))
      (sym (tail k bytes x xs a) ∙ ap (λ n. drop n bytes) starts ∙ tail j bytes y ys b)

  same_kept : k.payloads ≡ j.payloads → k ≡ j
  same_kept same =
      ap (λ (s : Slot). let r : Kept = record { epoch = s.epoch; start = s.start; format = s.format; payloads = k.payloads } in r) slots
      ∙ ap (λ (ps : List (List ℕ)). let r : Kept = record { epoch = j.epoch; start = j.start; format = j.format; payloads = ps } in r) same

abbrev holds_fronted : (k : Kept) (bytes : List ℕ) (is : IsJournal k bytes) → IsFronted k bytes is.gate is.rest
holds_fronted k bytes is = record { front = is.front; whole = is.whole; begins = is.begins }

abbrev passes_fronted : (place : ℕ) (bytes : List ℕ) (is : PassesEnd place bytes) → IsFronted is.kept bytes 165 is.rest
passes_fronted place bytes is = record { front = is.front; whole = is.whole; begins = is.begins }

past_of : (place : ℕ) (bytes : List ℕ) (is : PassesEnd place bytes) → journal_end bytes ≤ end_of is.kept + 5 + number_at 0 is.rest
past_of place bytes is = omega (arith, is.past, is.there, front_ends is.kept is.front is.begins)

same_journals : (k j : Kept) (bytes : List ℕ) → IsJournal k bytes → IsJournal j bytes → k ≡ j
same_journals k j bytes a b =
    elim (compared k j bytes a.gate b.gate a.rest b.rest (holds_fronted k bytes a) (holds_fronted j bytes b)) [
      | inl same ↦ same_kept k j bytes a.gate b.gate a.rest b.rest (holds_fronted k bytes a) (holds_fronted j bytes b) same.payloads
      | inr other ↦ elim other [ inl on ↦ absurd (a.closed on.opened) | inr on ↦ absurd (b.closed on.opened) ]
    ]

no_journal_passes : (k : Kept) (place : ℕ) (bytes : List ℕ) → IsJournal k bytes → PassesEnd place bytes → ⊥
no_journal_passes k place bytes a b =
    let fa = holds_fronted k bytes a
    in let fb = passes_fronted place bytes b
    in elim (compared k b.kept bytes a.gate 165 a.rest b.rest fa fb) [
      | inl same ↦ a.closed same.gate
      | inr other ↦
          elim other [
            | inl on ↦ a.closed on.opened
            | inr on ↦ past_end b.kept k bytes 165 a.gate b.rest a.rest fb fa (sym (starts k b.kept bytes a.gate 165 a.rest b.rest fa fb)) on (past_of place bytes b)
          ]
    ]

same_passes : (p q : ℕ) (bytes : List ℕ) → PassesEnd p bytes → PassesEnd q bytes → p ≡ q
same_passes p q bytes a b =
    let fa = passes_fronted p bytes a
    in let fb = passes_fronted q bytes b
    in let start = starts a.kept b.kept bytes 165 165 a.rest b.rest fa fb
    in elim (compared a.kept b.kept bytes 165 165 a.rest b.rest fa fb) [
      | inl same ↦
          a.there
          ∙ ends a.kept bytes 165 a.rest fa
          ∙ ap (λ n. n + length (flat_map record_of a.kept.payloads)) start
          ∙ ap (λ ps. b.kept.start + length (flat_map record_of ps)) same.payloads
          ∙ sym (ends b.kept bytes 165 b.rest fb)
          ∙ sym b.there
      | inr other ↦
          elim other [
            | inl on ↦ absurd (past_end a.kept b.kept bytes 165 165 a.rest b.rest fa fb start on (past_of p bytes a))
            | inr on ↦ absurd (past_end b.kept a.kept bytes 165 165 b.rest a.rest fb fa (sym start) on (past_of q bytes b))
          ]
    ]

not_off : (k : Kept) (bytes : List ℕ) (x : ℕ) (xs : List ℕ) (place : ℕ) → IsFronted k bytes x xs → StartsOff place bytes → ⊥
not_off k bytes x xs place is off =
    let same : slot_of k ≡ off.slot = same_slot is.begins.place place (slot_of k) off.slot (take 38 bytes) (headed k bytes x xs is).header off.header
    in let start : k.start ≡ off.slot.start = ap (λ (s : Slot). s.start) same
    in elim off.off [ inl low ↦ omega (arith, low, start, is.begins.low) | inr high ↦ omega (arith, high, start, within k bytes x xs is) ]

not_of_format : (p : ℕ) (s : Slot) (found : ℕ) (bytes : List ℕ) → IsHeaded p s bytes → IsKnown s.format → IsOfFormat found bytes → ⊥
not_of_format p s found bytes is known other =
    let same : s.format ≡ other.slot.format = ap (λ (t : Slot). t.format) (same_slot p other.place s other.slot (take 38 bytes) is.header other.header)
    in elim known [ inl one ↦ other.unknown.0 (sym same ∙ one) | inr two ↦ other.unknown.1 (sym same ∙ two) ]

-- ---- all of them

-- the header that a standing has, but where there is none
record HasHeader (bytes : List ℕ) : Type 0 where
  place : ℕ
  slot : Slot
  headed : IsHeaded place slot bytes

format_header : (found : ℕ) (bytes : List ℕ) → IsOfFormat found bytes → HasHeader bytes
format_header found bytes is = record { place = is.place; slot = is.slot; headed = record { long = is.long; header = is.header } }

journal_header : (k : Kept) (bytes : List ℕ) → IsJournal k bytes → HasHeader bytes
journal_header k bytes is =
    record { place = is.begins.place; slot = slot_of k; headed = headed k bytes is.gate is.rest (holds_fronted k bytes is) }

damage_header : (place : ℕ) (bytes : List ℕ) → StartsOff place bytes ⊎ PassesEnd place bytes → HasHeader bytes
damage_header place bytes (inl off) = record { place = place; slot = off.slot; headed = record { long = off.long; header = off.header } }
damage_header place bytes (inr is) =
    record { place = is.begins.place; slot = slot_of is.kept; headed = headed is.kept bytes 165 is.rest (passes_fronted place bytes is) }

unmade_none : (bytes : List ℕ) → HasHeader bytes → IsUnmade bytes → ⊥
unmade_none bytes has unmade = not_unmade has.place has.slot bytes has.headed unmade

foreign_none : (bytes : List ℕ) → HasHeader bytes → IsForeign bytes → ⊥
foreign_none bytes has other = not_foreign has.place has.slot bytes has.headed other

format_not_journal : (k : Kept) (found : ℕ) (bytes : List ℕ) → IsJournal k bytes → IsOfFormat found bytes → ⊥
format_not_journal k found bytes is other =
    not_of_format is.begins.place (slot_of k) found bytes (headed k bytes is.gate is.rest (holds_fronted k bytes is)) is.begins.known other

format_not_damage : (place found : ℕ) (bytes : List ℕ) → StartsOff place bytes ⊎ PassesEnd place bytes → IsOfFormat found bytes → ⊥
format_not_damage place found bytes (inl off) other =
    not_of_format place off.slot found bytes (record { long = off.long; header = off.header }) off.known other
format_not_damage place found bytes (inr is) other =
    not_of_format is.begins.place (slot_of is.kept) found bytes (headed is.kept bytes 165 is.rest (passes_fronted place bytes is)) is.begins.known other

journal_not_damage : (k : Kept) (place : ℕ) (bytes : List ℕ) → IsJournal k bytes → StartsOff place bytes ⊎ PassesEnd place bytes → ⊥
journal_not_damage k place bytes is (inl off) = not_off k bytes is.gate is.rest place (holds_fronted k bytes is) off
journal_not_damage k place bytes is (inr past) = no_journal_passes k place bytes is past

same_format : (m n : ℕ) (bytes : List ℕ) → IsOfFormat m bytes → IsOfFormat n bytes → m ≡ n
same_format m n bytes a b =
    a.number ∙ ap (λ (t : Slot). t.format) (same_slot a.place b.place a.slot b.slot (take 38 bytes) a.header b.header) ∙ sym b.number

same_damage : (p q : ℕ) (bytes : List ℕ) → StartsOff p bytes ⊎ PassesEnd p bytes → StartsOff q bytes ⊎ PassesEnd q bytes → p ≡ q
same_damage p q bytes (inl a) (inl b) = same_place p q a.slot b.slot (take 38 bytes) a.header b.header
same_damage p q bytes (inl a) (inr b) = absurd (not_off b.kept bytes 165 b.rest p (passes_fronted q bytes b) a)
same_damage p q bytes (inr a) (inl b) = absurd (not_off a.kept bytes 165 a.rest q (passes_fronted p bytes a) b)
same_damage p q bytes (inr a) (inr b) = same_passes p q bytes a b

pub one_thing : (a b : Standing) (bytes : List ℕ) → AreaIs a bytes → AreaIs b bytes → a ≡ b
one_thing Unmade Unmade bytes x y = refl
one_thing Unmade Foreign bytes x y = absurd (unmade_not_foreign bytes x y)
one_thing Unmade (OfFormat n) bytes x y = absurd (unmade_none bytes (format_header n bytes y) x)
one_thing Unmade (DamagedAt q) bytes x y = absurd (unmade_none bytes (damage_header q bytes y) x)
one_thing Unmade (Holds j) bytes x y = absurd (unmade_none bytes (journal_header j bytes y) x)
one_thing Foreign Unmade bytes x y = absurd (unmade_not_foreign bytes y x)
one_thing Foreign Foreign bytes x y = refl
one_thing Foreign (OfFormat n) bytes x y = absurd (foreign_none bytes (format_header n bytes y) x)
one_thing Foreign (DamagedAt q) bytes x y = absurd (foreign_none bytes (damage_header q bytes y) x)
one_thing Foreign (Holds j) bytes x y = absurd (foreign_none bytes (journal_header j bytes y) x)
one_thing (OfFormat m) Unmade bytes x y = absurd (unmade_none bytes (format_header m bytes x) y)
one_thing (OfFormat m) Foreign bytes x y = absurd (foreign_none bytes (format_header m bytes x) y)
one_thing (OfFormat m) (OfFormat n) bytes x y = ap (λ f. OfFormat f) (same_format m n bytes x y)
one_thing (OfFormat m) (DamagedAt q) bytes x y = absurd (format_not_damage q m bytes y x)
one_thing (OfFormat m) (Holds j) bytes x y = absurd (format_not_journal j m bytes y x)
one_thing (DamagedAt p) Unmade bytes x y = absurd (unmade_none bytes (damage_header p bytes x) y)
one_thing (DamagedAt p) Foreign bytes x y = absurd (foreign_none bytes (damage_header p bytes x) y)
one_thing (DamagedAt p) (OfFormat n) bytes x y = absurd (format_not_damage p n bytes x y)
one_thing (DamagedAt p) (DamagedAt q) bytes x y = ap (λ n. DamagedAt n) (same_damage p q bytes x y)
one_thing (DamagedAt p) (Holds j) bytes x y = absurd (journal_not_damage j p bytes y x)
one_thing (Holds k) Unmade bytes x y = absurd (unmade_none bytes (journal_header k bytes x) y)
one_thing (Holds k) Foreign bytes x y = absurd (foreign_none bytes (journal_header k bytes x) y)
one_thing (Holds k) (OfFormat n) bytes x y = absurd (format_not_journal k n bytes x y)
one_thing (Holds k) (DamagedAt q) bytes x y = absurd (journal_not_damage k q bytes x y)
one_thing (Holds k) (Holds j) bytes x y = ap (λ i. Holds i) (same_journals k j bytes x y)
