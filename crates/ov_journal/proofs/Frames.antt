-- The frames of a snapshot give its payloads back.
use Rattle.std.proofs.Common.{◌≡◌, ◌<◌, ◌≤◌, ℕ, zero, suc, ◌+◌, ◌-◌, ◌^◌, List, [], ◌∷◌, ◌++◌, length, take, drop, get_or, refl, sym, ◌∙◌, ap, arith}
use Rattle.std.specs.List.{flat_map}
use Rattle.std.proofs.lemmas.List.{drop-drop, take_at, drop_at, take_all, length-append}
use Rattle.std.proofs.lemmas.List.Folds.{length-flat_map-take}
use Rattle.ov_journal.specs.Bytes.{body, record_of, number_at}
use Rattle.ov_journal.specs.Snapshots.{frames_of, size_of, framed_in, payloads_in}
use Rattle.ov_journal.proofs.Records.{body-length}
use Rattle.ov_journal.proofs.Unique.{flat-cons, flat-length, number_of, behind_length}

-- one record
one_framed : (most : ℕ) (p rest : List ℕ) → length p < 2 ^ 32 → framed_in (suc most) (165 ∷ (body p ++ rest)) ≡ p ∷ framed_in most rest
unfolding framed_in
one_framed most p rest small =
    let all : List ℕ = 165 ∷ (body p ++ rest)
    in let number : number_at 1 all ≡ length p = number_of p rest small
    in let behind : drop 5 all ≡ p ++ rest = behind_length p rest
    in let first : take (number_at 1 all) (drop 5 all) ≡ p =
    ap (λ n. take n (drop 5 all)) number ∙ ap (take (length p)) behind ∙ take_at p rest (length p) refl
    in let more : drop (5 + number_at 1 all) all ≡ rest =
    sym (drop-drop (number_at 1 all) 5 all) ∙ ap (λ n. drop n (drop 5 all)) number ∙ ap (drop (length p)) behind ∙ drop_at p rest (length p) refl
    in ap (λ (x : List ℕ). x ∷ framed_in most (drop (5 + number_at 1 all) all)) first ∙ ap (λ (b : List ℕ). p ∷ framed_in most b) more

none_framed : (most : ℕ) → framed_in most (0 ∷ []) ≡ []
unfolding framed_in
none_framed zero = refl
none_framed (suc most) = refl

framed_back : (most : ℕ) (ps : List (List ℕ)) → length ps ≤ most → size_of ps ≤ 2 ^ 28 → framed_in most (frames_of ps) ≡ ps
framed_back most [] enough small = none_framed most
framed_back zero (p ∷ ps) enough small = absurd (omega (arith, enough))
framed_back (suc most) (p ∷ ps) enough small =
    ap (framed_in (suc most)) (flat-cons p ps (0 ∷ []))
    ∙ one_framed most p (frames_of ps) (omega (arith, small, flat-length p ps))
    ∙ ap (λ qs. p ∷ qs) (framed_back most ps (omega (arith, enough)) (omega (arith, small, flat-length p ps)))

at_least : (ps : List (List ℕ)) → length ps ≤ length (flat_map record_of ps)
at_least [] = omega arith
at_least (p ∷ ps) = omega (arith, at_least ps, flat-length p ps)

-- the payloads in the frames of payloads are these
frames_back : (ps : List (List ℕ)) → size_of ps ≤ 2 ^ 28 → payloads_in (frames_of ps) ≡ ps
frames_back ps small =
    framed_back (length (frames_of ps)) ps (omega (arith, at_least ps, length-append (flat_map record_of ps) (0 ∷ []))) small

-- a payload for which no room is left passes it
pub too_long : (ps : List (List ℕ)) (i left : ℕ) (p : List ℕ) → i < length ps → p ≡ get_or ps i p → left + length (flat_map record_of (take i ps)) ≡ 2 ^ 28 - 1 → left < length p + 5 → size_of ps ≤ 2 ^ 28 → ⊥
too_long ps i left p below is sofar short small =
    omega (arith, length-flat_map-take record_of ps i p below, ap length is, body-length (get_or ps i p), sofar, short, small)

-- no payload is longer than all frames
pub payload_small : (ps : List (List ℕ)) (i : ℕ) (p : List ℕ) → i < length ps → p ≡ get_or ps i p → size_of ps ≤ 2 ^ 28 → length p < 2 ^ 32
payload_small ps i p below is small =
    omega (arith, length-flat_map-take record_of ps i p below, ap length is, body-length (get_or ps i p), small)

module _ (ps : List (List ℕ)) (i : ℕ) (bytes frames : List ℕ) (all : length ps ≤ i) (sofar : bytes ≡ flat_map record_of (take i ps)) (last : frames ≡ bytes ++ 0 ∷ []) (small : size_of ps ≤ 2 ^ 28) where
  framed : frames ≡ frames_of ps
  framed = last ∙ ap (λ b. b ++ 0 ∷ []) (sofar ∙ ap (λ qs. flat_map record_of qs) (take_all i ps all))

  -- the payloads that were framed
  pub framed_payloads : payloads_in frames ≡ ps
  framed_payloads = ap payloads_in framed ∙ frames_back ps small

  pub framed_whole : (frames ≡ frames_of (payloads_in frames)) × (length frames ≤ 2 ^ 28)
  framed_whole = (
    framed ∙ ap frames_of (sym framed_payloads),
    omega (arith, ap length framed, length-append (flat_map record_of ps) (0 ∷ []), small),
  )
