-- Pieces of lines, and what is left of a script.
use Rattle.std.proofs.Common.{◌≡◌, ◌<◌, ◌≤◌, ℕ, ◌+◌, ◌-◌, ◌^◌, min, Bool, true, false, not, ◌==◌, ◌||◌, List, [], ◌∷◌, ◌++◌, length, take, drop, get_or, refl, sym, ◌∙◌, ap, arith, inl, inr, append_assoc}
use Rattle.std.proofs.lemmas.List.{take_min, take-append-drop, append-nil, take-append-le}
use Rattle.std.proofs.lemmas.List.{take_all, length-take, drop_more, drop-take, drop-drop, drop_all, take-take, length-append}
use Rattle.std.proofs.Math.Seq.{take-append-add}
use Rattle.std.proofs.Math.Nat.{sub-zero}
use Rattle.std.proofs.lemmas.Bool.{cond-false, cases_lt, eqb-true, eqb-false}
use Rattle.std.specs.List.{onto_first}
use Rattle.ov_model.specs.Words.{lines_of}
use Rattle.ov_host.specs.Source.{Script, Gives}
use Rattle.std.specs.Prelude.{◌≢◌, MatchBool, Result, Ok, Err, IsErr}
use Rattle.std.specs.Result.{IsErrAnd}
use Rattle.ov_script.specs.declared.reader.ReadErr.{ReadErr}
use Rattle.ov_script.specs.declared.reader.ReadErr.TheVariants as reading
use Rattle.ov_script.specs.Reader.{has_feed, IsCutOff, IsNext, IsPart, IsUnread, Taken, TakesLine, Fills, GivesLine, ended_lines, left_of, onto_line, taken_of, IsShorter, room_of}

-- the part of some bytes that is kept
pub kept_is : (n : ℕ) (xs ys : List ℕ) → length xs ≤ n → xs ++ take (min (n - length xs) (length ys)) ys ≡ take n (xs ++ ys)
kept_is n xs ys within =
    let place : length xs + (n - length xs) ≡ n = omega arith
    in ap (λ part. xs ++ part) (take_min (n - length xs) ys)
    ∙ sym (take-append-add xs ys (n - length xs))
    ∙ ap (λ k. take k (xs ++ ys)) place

-- what is kept of a part, and of more of it
pub kept_more : (n : ℕ) (xs ys : List ℕ) → take n (take n xs ++ ys) ≡ take n (xs ++ ys)
kept_more n xs ys =
    elim (cases_lt (length xs) n) [
      | inl short ↦ ap (λ part. take n (part ++ ys)) (take_all n xs (omega arith))
      | inr long ↦
          let all : length (take n xs) ≡ n = omega (arith, length-take n xs)
          in take-append-le n (take n xs) ys (omega arith)
          ∙ take_all n (take n xs) (omega arith)
          ∙ sym (take-append-le n xs ys long)
    ]

first_false : (a b : Bool) → (a || b) ≡ false → a ≡ false
first_false true b e = cc
first_false false b e = refl

second_false : (a b : Bool) → (a || b) ≡ false → b ≡ false
second_false true b e = cc
second_false false b e = e

both_false : (a b : Bool) → a ≡ false → b ≡ false → (a || b) ≡ false
both_false true b e f = cc
both_false false b e f = f

head_feed : (x : ℕ) (xs : List ℕ) → has_feed (x ∷ xs) ≡ false → (x == 10) ≡ false
head_feed x xs e = first_false (x == 10) (has_feed xs) e

tail_feed : (x : ℕ) (xs : List ℕ) → has_feed (x ∷ xs) ≡ false → has_feed xs ≡ false
tail_feed x xs e = second_false (x == 10) (has_feed xs) e

-- a line that ends in a line feed
pub lines_at : (part text : List ℕ) → has_feed part ≡ false → lines_of (part ++ 10 ∷ text) ≡ part ∷ lines_of text
lines_at [] text open_ = refl
lines_at (x ∷ xs) text open_ =
    cond-false (x == 10) ([] ∷ lines_of (xs ++ 10 ∷ text)) (onto_first x (lines_of (xs ++ 10 ∷ text))) (head_feed x xs open_)
    ∙ ap (onto_first x) (lines_at xs text (tail_feed x xs open_))

-- the last line, without one
pub last_line : (x : ℕ) (xs : List ℕ) → has_feed (x ∷ xs) ≡ false → lines_of (x ∷ xs) ≡ (x ∷ xs) ∷ []
last_line x [] open_ = cond-false (x == 10) ([] ∷ []) ((x ∷ []) ∷ []) (head_feed x [] open_)
last_line x (y ∷ ys) open_ =
    cond-false (x == 10) ([] ∷ lines_of (y ∷ ys)) (onto_first x (lines_of (y ∷ ys))) (head_feed x (y ∷ ys) open_)
    ∙ ap (onto_first x) (last_line y ys (tail_feed x (y ∷ ys) open_))

pub feeds_append : (xs ys : List ℕ) → has_feed xs ≡ false → has_feed ys ≡ false → has_feed (xs ++ ys) ≡ false
feeds_append [] ys e f = f
feeds_append (x ∷ xs) ys e f = both_false (x == 10) (has_feed (xs ++ ys)) (head_feed x xs e) (feeds_append xs ys (tail_feed x xs e) f)

-- bytes cut at a line feed
pub cut_at : (xs : List ℕ) (i : ℕ) → i < length xs → get_or xs i 0 ≡ 10 → xs ≡ take i xs ++ 10 ∷ drop (i + 1) xs
cut_at xs i within feed =
    sym (take-append-drop i xs)
    ∙ ap (λ later. take i xs ++ later) (drop_more xs i 0 within ∙ ap (λ x. x ∷ drop (i + 1) xs) feed)

drop_front : (n m : ℕ) (xs : List ℕ) → drop m (take n xs) ≡ take (n - m) (drop m xs)
drop_front n m xs =
    elim (cases_lt n m) [
      | inl past ↦
          let none : n - m ≡ 0 = omega arith
          in drop_all m (take n xs) (omega (arith, length-take n xs)) ∙ sym (ap (λ k. take k (drop m xs)) none)
      | inr within ↦
          let sum : m + (n - m) ≡ n = omega arith
          in ap (λ k. drop m (take k xs)) (sym sum) ∙ drop-take m (n - m) xs
    ]

-- what is left of a part of a buffer
pub drop_part : (n m a : ℕ) (b : List ℕ) → drop m (take n (drop a b)) ≡ take (n - m) (drop (a + m) b)
drop_part n m a b = drop_front n m (drop a b) ∙ ap (take (n - m)) (drop-drop m a b)

-- a buffer from `at` up to `end`, cut at its first line feed
pub cut_part : (at end i : ℕ) (b : List ℕ) → i < length (take (end - at) (drop at b)) → get_or (take (end - at) (drop at b)) i 0 ≡ 10 → take (end - at) (drop at b) ≡ take i (take (end - at) (drop at b)) ++ 10 ∷ take (end - (at + (i + 1))) (drop (at + (i + 1)) b)
cut_part at end i b within feed =
    let same : end - at - (i + 1) ≡ end - (at + (i + 1)) = omega arith
    in cut_at (take (end - at) (drop at b)) i within feed
    ∙ ap (λ later. take i (take (end - at) (drop at b)) ++ 10 ∷ later)
    (drop_part (end - at) (i + 1) at b ∙ ap (λ k. take k (drop (at + (i + 1)) b)) same)

-- the front of a buffer that was written over
pub front_of : (n len : ℕ) (buffer old : List ℕ) → n ≤ length buffer → length buffer ≤ len → take (n - 0) (take len (buffer ++ drop (length buffer) old)) ≡ take n buffer
front_of n len buffer old within fits =
    ap (λ k. take k (take len (buffer ++ drop (length buffer) old))) (sub-zero n)
    ∙ take-take n len (buffer ++ drop (length buffer) old) (omega arith)
    ∙ take-append-le n buffer (drop (length buffer) old) within

-- the next bytes of what was left are taken
pub fills : (n : ℕ) (left later buffer unread : List ℕ) → unread ≡ take n buffer → n ≤ length buffer → (n ≡ 0 → ⊥) → Gives n left later buffer → (0 < length unread) × (unread ++ later ≡ left)
fills n left later buffer unread is within some gives =
    let size : length unread ≡ n = ap length is ∙ omega (arith, length-take n buffer)
    in (
      omega (arith, some),
      ap (λ xs. xs ++ later) (is ∙ gives.bytes) ∙ ap (λ xs. take n left ++ xs) gives.rest ∙ take-append-drop n left,
    )

-- the bytes that were taken so far, up to a line feed, are a line
pub line_given : (ended : Bool) (all before now left kept new : List ℕ) → IsPart all (before ++ left) kept → TakesLine true before now kept new → GivesLine ended true all (now ++ left) new
line_given ended all before now left kept new p taken =
    let piece = taken.0
    in let whole : all ≡ p.part ++ piece ++ 10 ∷ (now ++ left) =
    p.whole
    ∙ ap (λ b. p.part ++ (b ++ left)) taken.2
    ∙ ap (λ later. p.part ++ later) (append_assoc piece (10 ∷ now) left)
    ∙ sym (append_assoc p.part piece (10 ∷ (now ++ left)))
    in (
      p.part ++ piece,
      (feeds_append p.part piece p.open_ taken.1, inl whole),
      taken.3 ∙ ap (λ k. take 65537 (k ++ piece)) p.kept_is ∙ kept_more 65537 p.part piece,
    )

-- without a line feed they go on
pub part_more : (all before now left kept new : List ℕ) → IsPart all (before ++ left) kept → TakesLine false before now kept new → IsPart all left new
part_more all before now left kept new p taken =
    record {
      part = p.part ++ before;
      whole = p.whole ∙ sym (append_assoc p.part before left);
      open_ = feeds_append p.part before p.open_ taken.0;
      kept_is = taken.2 ∙ ap (λ k. take 65537 (k ++ before)) p.kept_is ∙ kept_more 65537 p.part before;
    }

nil_of : (xs : List ℕ) → length xs ≡ 0 → xs ≡ []
nil_of [] e = refl
nil_of (x ∷ xs) e = cc

not_nil : (xs : List ℕ) → 0 < length xs → xs ≢ []
not_nil xs some none = let size : length xs ≡ 0 = ap length none in omega (arith, some, size)

ends_of : (part : List ℕ) → part ≢ [] → has_feed part ≡ false → lines_of part ≡ part ∷ []
ends_of [] some open_ = absurd (some refl)
ends_of (x ∷ xs) some open_ = last_line x xs open_

-- at the end of the script, what was taken is the last line, where it isn't empty
pub last_given : (ended : Bool) (all kept : List ℕ) (empty : Bool) → ended ≡ true → empty ≡ (length kept == 0) → IsPart all [] kept → GivesLine ended (not empty) all [] kept
last_given ended all kept true end_ is p =
    let none : length kept ≡ 0 = eqb-true (length kept) 0 (sym is)
    in let size : length kept ≡ min 65537 (length p.part) = ap length p.kept_is ∙ length-take 65537 p.part
    in let nothing : length p.part ≡ 0 = omega (arith, none, size)
    in (p.whole ∙ append-nil p.part ∙ nil_of p.part nothing, refl)
last_given ended all kept false end_ is p =
    let some : length kept ≡ 0 → ⊥ = eqb-false (length kept) 0 (sym is)
    in let size : length kept ≡ min 65537 (length p.part) = ap length p.kept_is ∙ length-take 65537 p.part
    in let more : 0 < length p.part = omega (arith, some, size)
    in (p.part, (p.open_, inr (end_, not_nil p.part more, p.whole ∙ append-nil p.part, refl)), p.kept_is)

pub taken_true : (b : Bool) (before now old new : List ℕ) → b ≡ true → TakesLine b before now old new → TakesLine true before now old new
taken_true true before now old new e t = t
taken_true false before now old new e t = cc

pub taken_false : (b : Bool) (before now old new : List ℕ) → b ≡ false → TakesLine b before now old new → TakesLine false before now old new
taken_false true before now old new e t = cc
taken_false false before now old new e t = t

pub filled_true : (b : Bool) (before now : Taken) (old new : Script) → b ≡ true → Fills b before old now new → Fills true before old now new
filled_true true before now old new e f = f
filled_true false before now old new e f = cc

pub filled_false : (b : Bool) (before now : Taken) (old new : Script) → b ≡ false → Fills b before old now new → Fills false before old now new
filled_false true before now old new e f = cc
filled_false false before now old new e f = f

-- after more bytes were taken
pub part_filled : (all kept : List ℕ) (before now : Taken) (old new : Script) → IsPart all old.left kept → Fills true before old now new → IsPart all (left_of now new) kept
part_filled all kept before now old new p filled =
    record { part = p.part; whole = p.whole ∙ ap (λ l. p.part ++ l) (sym filled.1); open_ = p.open_; kept_is = p.kept_is }

-- at the end of the source
pub part_ended : (all kept : List ℕ) (before now : Taken) (old new : Script) → IsPart all old.left kept → Fills false before old now new → IsPart all [] kept
part_ended all kept before now old new p filled =
    record { part = p.part; whole = p.whole ∙ ap (λ l. p.part ++ l) filled.0; open_ = p.open_; kept_is = p.kept_is }

pub left_ended : (before now : Taken) (old new : Script) → Fills false before old now new → left_of now new ≡ []
left_ended before now old new filled = ap (λ u. u ++ new.left) filled.2 ∙ filled.1

pub shorter_true : (before now old new : List ℕ) → TakesLine true before now old new → IsShorter true before now old new
shorter_true before now old new taken =
    let all : length before ≡ length taken.0 + length (10 ∷ now) = ap length taken.2 ∙ length-append taken.0 (10 ∷ now)
    in let kept : length new ≡ min 65537 (length (old ++ taken.0)) = ap length taken.3 ∙ length-take 65537 (old ++ taken.0)
    in omega (arith, all, kept, length-append old taken.0)

pub shorter_false : (before now old new : List ℕ) → TakesLine false before now old new → IsShorter false before now old new
shorter_false before now old new taken =
    let none : length now ≡ 0 = ap length taken.1
    in let kept : length new ≡ min 65537 (length (old ++ before)) = ap length taken.2 ∙ length-take 65537 (old ++ before)
    in omega (arith, none, kept, length-append old before)

pub is_shorter : (b : Bool) (before now old new : List ℕ) → b ≡ false → IsShorter b before now old new → length now + length new ≤ length before + length old
is_shorter true before now old new e s = cc
is_shorter false before now old new e s = s

pub room_left : (before taken now : Taken) (line kept : ℕ) (all : ℕ) → 2 ^ 32 - before.count + length before.unread + line ≤ all → length taken.unread + kept ≤ length before.unread + line → taken.count ≡ before.count → length now.unread + taken.count ≡ now.count → now.count ≤ 2 ^ 32 → room_of now + kept ≤ all
room_left before taken now line kept all so_far shorter counted filled bounded = omega (arith, so_far, shorter, counted, filled, bounded)

-- ---- lines, and their bytes

-- the first line of some bytes is the first of their lines
pub next_lines : (ended : Bool) (line before now : List ℕ) → IsNext ended line before now → lines_of before ≡ line ∷ lines_of now
next_lines ended line before now (open_, inl feed) = ap lines_of feed ∙ lines_at line now open_
next_lines ended line before now (open_, inr (end_, some, whole, none)) =
    ap lines_of whole ∙ ends_of line some open_ ∙ ap (λ later. line ∷ lines_of later) (sym none)

-- bytes without a line feed have no line yet
pub no_ended : (part : List ℕ) → has_feed part ≡ false → ended_lines part ≡ []
no_ended [] open_ = refl
no_ended (x ∷ xs) open_ =
    cond-false (x == 10) ([] ∷ ended_lines xs) (onto_line x (ended_lines xs)) (head_feed x xs open_)
    ∙ ap (onto_line x) (no_ended xs (tail_feed x xs open_))

-- a line with its line feed comes before the others
pub ended_at : (part text : List ℕ) → has_feed part ≡ false → ended_lines (part ++ 10 ∷ text) ≡ part ∷ ended_lines text
ended_at [] text open_ = refl
ended_at (x ∷ xs) text open_ =
    cond-false (x == 10) ([] ∷ ended_lines (xs ++ 10 ∷ text)) (onto_line x (ended_lines (xs ++ 10 ∷ text))) (head_feed x xs open_)
    ∙ ap (onto_line x) (ended_at xs text (tail_feed x xs open_))

-- ---- where the end was seen, and where reading broke off

pub unread_is : (before : Taken) (old new : Script) → before.ended ≡ false → new.left ≡ old.left → IsUnread before old new
unread_is before old new open_ left = record { open_ = open_; left = left }

is_cut : (all part left kept new : List ℕ) (before now : Taken) (mid script : Script) → IsPart all (part ++ mid.left) kept → TakesLine false part left kept new
    → now.ended ≡ before.ended → IsUnread now mid script → IsCutOff reading.Input before all script
is_cut all part left kept new before now mid script p taken same unread =
    let more : IsPart all mid.left new = part_more all part left mid.left kept new p taken
    in (sym same ∙ unread.open_, more.part, more.whole ∙ ap (λ (l : List ℕ). more.part ++ l) (sym unread.left), more.open_)

-- what was taken of the line goes to it, and nothing more
pub cut_off : (e : ReadErr) (all part left kept new : List ℕ) (before now : Taken) (mid script : Script) → IsPart all (part ++ mid.left) kept → TakesLine false part left kept new
    → now.ended ≡ before.ended → IsUnread now mid script → IsCutOff e before all script
cut_off reading.Memory all part left kept new before now mid script p taken same unread = tt
cut_off reading.Input all part left kept new before now mid script p taken same unread = is_cut all part left kept new before now mid script p taken same unread
cut_off reading.TooLong all part left kept new before now mid script p taken same unread = is_cut all part left kept new before now mid script p taken same unread

pub more_open : (b : Bool) (before now : Bool) → b ≡ true → MatchBool b ((before ≡ false) × (now ≡ false)) (now ≡ true) → (before ≡ false) × (now ≡ false)
more_open true before now e m = m
more_open false before now e m = cc

pub ends_now : (b : Bool) (before now : Bool) → b ≡ false → MatchBool b ((before ≡ false) × (now ≡ false)) (now ≡ true) → now ≡ true
ends_now true before now e m = cc
ends_now false before now e m = m

pub not_both : (b : Bool) (A : Type 0) → b ≡ true → b ≡ false → A
not_both true A e f = cc
not_both false A e f = cc

-- what a `?` hands on
pub err_is : (r : Result Bool ReadErr) (x : ReadErr) → IsErr r → IsErrAnd r (λ y. y ≡ x) → r ≡ Err x
err_is (Ok b) x fails is = absurd is
err_is (Err y) x fails is = ap Err is

-- ---- the bytes that were taken

-- what stands in front of what is left
pub taken_is : (front part : List ℕ) (old new : Script) → old.left ≡ front ++ (part ++ new.left) → taken_of old new ≡ front ++ part
taken_is front part old new whole =
    let all : old.left ≡ (front ++ part) ++ new.left = whole ∙ sym (append_assoc front part new.left)
    in let size : length old.left ≡ length (front ++ part) + length new.left = ap length all ∙ length-append (front ++ part) new.left
    in let count : length old.left - length new.left ≡ length (front ++ part) = omega (arith, size)
    in (λ i. take (count i) (all i)) ∙ take-append-le (length (front ++ part)) (front ++ part) new.left (omega arith)
    ∙ take_all (length (front ++ part)) (front ++ part) (omega arith)
