-- Reading records, one after the other.
use Rattle.std.proofs.Common.{◌≡◌, ◌≢◌, ◌<◌, ◌≤◌, ◌+◌, ℕ, suc, true, List, [], ◌∷◌, ◌++◌, length, take, drop, get_or, refl, sym, ◌∙◌, ap, subst, arith, add-one, add-zero}
use Rattle.std.specs.List.{flat_map}
use Rattle.std.specs.Int.{w32, to_be_bytes, from_be_bytes}
use Rattle.std.proofs.lemmas.List.{append_assoc, drop-drop, drop_at, take-append-drop, take-take, length-take, length-drop, length-append, get_or-drop, get_or-take, flat_map_more}
use Rattle.std.proofs.Math.Seq.{drop-cons}
use Rattle.ov_host.specs.declared.area.Area.TheVariants.{Journal}
use Rattle.ov_host.specs.Host.{State, bytes_of}
use Rattle.ov_journal.specs.Bytes.{record_of, number_at}
use Rattle.ov_journal.specs.Reading.{Looked, IsRecord, IsPast, AreRecords, PassAt}

-- the records so far, and what reading did to the host
pub record IsAlong (before now : State) (start at limit : ℕ) (payloads : List (List ℕ)) : Type 0 where
  pub told : now.tells ≡ before.tells
  pub kept : now.keeps ≡ before.keeps
  pub tape : before.tells ≡ true → now.tape ≡ before.tape
  pub faults : before.faults ≤ now.faults
  pub fetched : now.fetched ≡ before.fetched
  pub below : at < limit
  pub there : at ≡ start + length (flat_map record_of payloads)
  pub sofar : before.tells ≡ true → limit ≤ length (bytes_of Journal before) → drop start (bytes_of Journal before) ≡ flat_map record_of payloads ++ drop at (bytes_of Journal before)

-- the byte at a place is the first of those from there on
first_of_rest : (at : ℕ) (bytes : List ℕ) → get_or (drop at bytes) 0 0 ≡ get_or bytes at 0
first_of_rest at bytes = get_or-drop at bytes 0 0 ∙ ap (λ n. get_or bytes n 0) (add-zero at)

record-length : (payload : List ℕ) → length (record_of payload) ≡ 5 + length payload
record-length payload = omega (arith, length-append (to_be_bytes w32 (length payload)) payload)

pub flat-more : (ps : List (List ℕ)) (p : List ℕ) → flat_map record_of (ps ++ p ∷ []) ≡ flat_map record_of ps ++ record_of p
flat-more ps p = sym (flat_map_more record_of [] ps p)

-- one record more
pub one_more : (start at limit : ℕ) (bytes : List ℕ) (ps : List (List ℕ)) (p : List ℕ) → drop start bytes ≡ flat_map record_of ps ++ drop at bytes → IsRecord at limit (drop at bytes) p → drop start bytes ≡ flat_map record_of (ps ++ p ∷ []) ++ drop (at + (5 + length p)) bytes
one_more start at limit bytes ps p sofar is =
    let rest : is.rest ≡ drop (at + (5 + length p)) bytes =
    sym (drop_at (record_of p) is.rest (5 + length p) (record-length p)) ∙ ap (drop (5 + length p)) (sym is.whole) ∙ drop-drop (5 + length p) at bytes
    in sofar
    ∙ ap (λ b. flat_map record_of ps ++ b) (is.whole ∙ ap (λ b. record_of p ++ b) rest)
    ∙ sym (append_assoc (flat_map record_of ps) (record_of p) (drop (at + (5 + length p)) bytes))
    ∙ ap (λ b. b ++ drop (at + (5 + length p)) bytes) (sym (flat-more ps p))

pub more-length : (start at : ℕ) (ps : List (List ℕ)) (p : List ℕ) → at ≡ start + length (flat_map record_of ps) → at + (5 + length p) ≡ start + length (flat_map record_of (ps ++ p ∷ []))
more-length start at ps p there =
    omega (arith, there, ap length (flat-more ps p), length-append (flat_map record_of ps) (record_of p), record-length p)

-- the last one was read
pub at_end : (start at limit : ℕ) (bytes : List ℕ) (ps : List (List ℕ)) → at < limit → limit ≤ length bytes → at ≡ start + length (flat_map record_of ps) → drop start bytes ≡ flat_map record_of ps ++ drop at bytes → get_or (drop at bytes) 0 0 ≢ 165 → AreRecords start at bytes ps
at_end start at limit bytes ps below within there sofar closed =
    record {
      gate = get_or bytes at 0;
      rest = drop (suc at) bytes;
      closed = λ e. closed (first_of_rest at bytes ∙ e);
      whole = sofar ∙ ap (λ b. flat_map record_of ps ++ b) (drop-cons bytes at 0 (omega arith));
      there = there;
    }

pub past_at : (start at limit place : ℕ) (bytes : List ℕ) (ps : List (List ℕ)) → at < limit → at ≡ start + length (flat_map record_of ps) → drop start bytes ≡ flat_map record_of ps ++ drop at bytes → place ≡ at → IsPast at limit (drop at bytes) → PassAt start limit place bytes
past_at start at limit place bytes ps below there sofar here is =
    record {
      payloads = ps;
      rest = is.rest;
      whole = sofar ∙ ap (λ b. flat_map record_of ps ++ b) is.whole;
      there = here ∙ there;
      below = omega (arith, here, below);
      past = omega (arith, here, is.past);
    }

-- ---- one record

-- the number behind a gate is in the first five bytes
four_of : (front : List ℕ) → take 4 (drop 1 (take 5 front)) ≡ take 4 (drop 1 front)
four_of [] = refl
four_of (x ∷ front) = take-take 4 4 front (omega arith)

-- Some bytes were read from a record's gate on: all of the front where the journal has as many.
module _ (all front : List ℕ) (at limit : ℕ) (within : limit ≤ length all) (below : at < limit) (front_is : front ≡ take (length front) (drop at all)) where
  -- the gate that was read is the one that is there
  pub gate_is : 1 ≤ length front → get_or front 0 0 ≡ get_or (drop at all) 0 0
  gate_is some = ap (λ b. get_or b 0 0) front_is ∙ get_or-take (length front) (drop at all) 0 0 (omega (arith, some))

  -- an open gate stands before the rest
  opened : 1 ≤ length front → get_or front 0 0 ≡ 165 → drop at all ≡ 165 ∷ drop (at + 1) all
  opened some open_ =
      drop-cons all at 0 (omega arith)
      ∙ ap (λ x. x ∷ drop (suc at) all) (sym (first_of_rest at all) ∙ sym (gate_is some) ∙ open_)
      ∙ ap (λ m. 165 ∷ drop m all) (sym (add-one at))

  pub past_short : 1 ≤ length front → get_or front 0 0 ≡ 165 → limit ≤ at + 5 → IsPast at limit (drop at all)
  past_short some open_ short = record { rest = drop (at + 1) all; whole = opened some open_; past = omega (arith, short) }

  module _ (full : 5 ≤ length front) (open_ : get_or front 0 0 ≡ 165) where
    stands : drop at all ≡ 165 ∷ drop (at + 1) all
    stands = opened (omega (arith, full)) open_

    five : take 5 front ≡ take 5 (drop at all)
    five = ap (take 5) front_is ∙ take-take 5 (length front) (drop at all) full

    four : take 4 (drop 1 front) ≡ take 4 (drop (at + 1) all)
    four =
        sym (four_of front) ∙ ap (λ b. take 4 (drop 1 b)) (five ∙ ap (take 5) stands)
        ∙ take-take 4 4 (drop (at + 1) all) (omega arith)

    pub number_is : number_at 1 front ≡ number_at 0 (drop (at + 1) all)
    number_is = ap (from_be_bytes w32) four

    pub past_long : limit ≤ at + 5 + number_at 1 front → IsPast at limit (drop at all)
    past_long long = record { rest = drop (at + 1) all; whole = stands; past = omega (arith, long, number_is) }

    -- the record that was read stands there
    pub record_is : (payload : List ℕ) (count : ℕ) → to_be_bytes w32 count ≡ take 4 (drop 1 front) → at + 5 + count < limit → payload ≡ take count (drop (at + 5) all) → IsRecord at limit (drop at all) payload
    record_is payload count spelled fits payload_is =
        let long : length payload ≡ count =
        ap length payload_is ∙ omega (arith, length-take count (drop (at + 5) all), length-drop (at + 5) all, within, fits)
        in record {
          rest = drop (length payload) (drop (at + 5) all);
          whole =
              stands
              ∙ ap (λ b. 165 ∷ b)
              (sym (take-append-drop 4 (drop (at + 1) all))
              ∙ ap (λ b. b ++ drop 4 (drop (at + 1) all)) (sym (ap (to_be_bytes w32) long ∙ spelled ∙ four))
              ∙ ap (λ b. to_be_bytes w32 (length payload) ++ b)
              (drop-drop 4 (at + 1) all
              ∙ ap (λ m. drop m all) (omega arith)
              ∙ sym (take-append-drop (length payload) (drop (at + 5) all))
              ∙ ap (λ b. b ++ drop (length payload) (drop (at + 5) all)) (ap (λ m. take m (drop (at + 5) all)) long ∙ sym payload_is))
              ∙ sym (append_assoc (to_be_bytes w32 (length payload)) payload (drop (length payload) (drop (at + 5) all))));
          within = omega (arith, long, fits);
        }

-- ---- the loop

pub next : (s0 s1 s2 : State) (start at later limit : ℕ) (ps more : List (List ℕ)) (p : List ℕ) → IsAlong s0 s1 start at limit ps → Looked s1 s2 → later ≡ at + (5 + length p) → at + 5 + length p < limit
    → (s1.tells ≡ true → limit ≤ length (bytes_of Journal s1) → IsRecord at limit (drop at (bytes_of Journal s1)) p) → more ≡ ps ++ p ∷ [] → IsAlong s0 s2 start later limit more
next s0 s1 s2 start at later limit ps more p is looked place fits reads more_is =
    record {
      told = looked.told ∙ is.told;
      kept = looked.kept ∙ is.kept;
      tape = λ told. looked.tape (is.told ∙ told) ∙ is.tape told;
      faults = omega (arith, is.faults, looked.faults);
      fetched = looked.fetched ∙ is.fetched;
      below = omega (arith, place, fits);
      there = place ∙ more-length start at ps p is.there ∙ ap (λ x. start + length (flat_map record_of x)) (sym more_is);
      sofar = λ told within.
          let all : List ℕ = bytes_of Journal s0
          in let same : bytes_of Journal s1 ≡ all = ap (λ t. t.disk.journal.bytes) (is.tape told)
          in let Stands : List ℕ → Type 0 = λ b. IsRecord at limit (drop at b) p
          in let stands : Stands all = subst Stands same (reads (is.told ∙ told) (omega (arith, within, ap length same)))
          in one_more start at limit all ps p (is.sofar told within) stands
          ∙ ap (λ n. flat_map record_of (ps ++ p ∷ []) ++ drop n all) (sym place)
          ∙ ap (λ x. flat_map record_of x ++ drop later all) (sym more_is);
    }
