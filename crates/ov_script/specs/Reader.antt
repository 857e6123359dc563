-- What contracts see of the reader of lines.
use Rattle.std.specs.Prelude.{◌≡◌, ◌≢◌, ◌⊎◌, ◌<◌, ◌≤◌, ◌==◌, ℕ, ◌+◌, ◌-◌, ◌^◌, Bool, true, false, if◌then◌else◌, List, [], ◌∷◌, ◌++◌, length, take}
use Rattle.std.specs.List.{list_any}
use Rattle.ov_host.specs.Source.{Script}
use Rattle.ov_script.specs.declared.reader.ReadErr.{ReadErr}
use Rattle.ov_script.specs.declared.reader.ReadErr.TheVariants as reading

-- the bytes that were taken from the source and not given yet, how many were taken in all, and whether its end was seen
pub record Taken : Type 0 where
  pub unread : List ℕ
  pub count : ℕ
  pub ended : Bool

-- what is left of the script: the unread bytes, and then those of the source
abbrev pub left_of : Taken → Script → List ℕ
left_of reader script = reader.unread ++ script.left

-- what reads keep to, whatever they answer: bytes that are taken are counted
pub record Took (before now : Taken) (old new : Script) : Type 0 where
  pub told : new.tells ≡ old.tells
  pub faults : old.faults ≤ new.faults
  pub counted : old.tells ≡ true → length old.left + before.count ≡ length new.left + now.count

abbrev pub has_feed : List ℕ → Bool
has_feed bytes = list_any (λ b. b == 10) bytes

-- where the end was seen, nothing is left in the source
abbrev pub IsAtEnd : Taken → Script → Type 0
IsAtEnd reader script = reader.ended ≡ true → script.left ≡ []

-- the first line of some bytes: up to a line feed, or up to the end, which was seen then
abbrev pub IsNext : Bool → List ℕ → List ℕ → List ℕ → Type 0
IsNext ended line before now =
    (has_feed line ≡ false) × ((before ≡ line ++ 10 ∷ now) ⊎ ((ended ≡ true) × (line ≢ []) × (before ≡ line) × (now ≡ [])))

-- The next line was given, or there is none. Of a line the first 65,537 bytes are kept.
abbrev pub GivesLine : Bool → Bool → List ℕ → List ℕ → List ℕ → Type 0
GivesLine ended false before now kept = (before ≡ []) × (now ≡ [])
GivesLine ended true before now kept = (line : List ℕ) × IsNext ended line before now × (kept ≡ take 65537 line)

-- Reading broke off in a line: the end wasn't seen, and what was taken of the line has no line feed. Want of memory says nothing.
abbrev pub IsCutOff : ReadErr → Taken → List ℕ → Script → Type 0
IsCutOff reading.Memory before left new = Unit {0}
IsCutOff _ before left new = (before.ended ≡ false) × (part : List ℕ) × (left ≡ part ++ new.left) × (has_feed part ≡ false)

-- the bytes that were taken from a source
abbrev pub taken_of : Script → Script → List ℕ
taken_of old new = take (length old.left - length new.left) old.left

-- nothing was taken, since the source failed or no more may be taken
pub record IsUnread (before : Taken) (old new : Script) : Type 0 where
  pub open_ : before.ended ≡ false
  pub left : new.left ≡ old.left

-- The lines whose line feed is there. What stands behind the last line feed is no line yet.
abbrev pub onto_line : ℕ → List (List ℕ) → List (List ℕ)
onto_line b [] = []
onto_line b (line ∷ lines) = (b ∷ line) ∷ lines

abbrev pub ended_lines : List ℕ → List (List ℕ)
ended_lines [] = []
ended_lines (b ∷ text) = if b == 10 then [] ∷ ended_lines text else onto_line b (ended_lines text)

-- Bytes up to the first line feed were put to a line, of which 65,537 bytes are kept; or all, where there is no line feed.
abbrev pub TakesLine : Bool → List ℕ → List ℕ → List ℕ → List ℕ → Type 0
TakesLine true before now old new =
    (piece : List ℕ) × (has_feed piece ≡ false) × (before ≡ piece ++ 10 ∷ now) × (new ≡ take 65537 (old ++ piece))
TakesLine false before now old new = (has_feed before ≡ false) × (now ≡ []) × (new ≡ take 65537 (old ++ before))

-- more bytes were taken, or the source is at its end
abbrev pub Fills : Bool → Taken → Script → Taken → Script → Type 0
Fills true before old now new = (0 < length now.unread) × (left_of now new ≡ old.left)
Fills false before old now new = (old.left ≡ []) × (new.left ≡ []) × (now.unread ≡ [])

-- the part of a line that was taken so far, and what is left
pub record IsPart (all left kept : List ℕ) : Type 0 where
  pub part : List ℕ
  pub whole : all ≡ part ++ left
  pub open_ : has_feed part ≡ false
  pub kept_is : kept ≡ take 65537 part

-- how many bytes can still be given: those that may be taken, and the unread ones
abbrev pub room_of : Taken → ℕ
room_of reader = 2 ^ 32 - reader.count + length reader.unread

-- what went to the line is no longer unread, nor is its line feed
abbrev pub IsShorter : Bool → List ℕ → List ℕ → List ℕ → List ℕ → Type 0
IsShorter true before now old new = length now + length new < length before + length old
IsShorter false before now old new = length now + length new ≤ length before + length old
