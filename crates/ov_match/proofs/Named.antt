-- What is so of rids is so of the records that they name.
use Rattle.std.proofs.Common.{◌≡◌, ℕ, ◌+◌, Bool, true, false, ◌==◌, List, [], ◌∷◌, ◌++◌, length, map, refl, sym, ◌∙◌, ap, inl, inr, arith}
use Rattle.std.specs.Prelude.{if◌then◌else◌, not}
use Rattle.std.specs.List.{list_all}
use Rattle.std.proofs.lemmas.List.{map-append}
use Rattle.ov_member.specs.Rids.{has, left_out}
use Rattle.ov_model.specs.Lists.{IsIn, joined}
use Rattle.ov_model.specs.Plans as plans
use Rattle.ov_model.specs.Records.{Rec, is_same_rec, is_among, lacking}
use Rattle.ov_model.specs.World.{Part, held}
use Rattle.ov_match.specs.Matching as matching
use Rattle.ov_match.specs.Naming.{Names}

-- the numbers of some records tell them from those of others
abbrev Tell : (Rec → ℕ) → List Rec → List Rec → Type 0
Tell rid a b = (r s : Rec) → IsIn a r → IsIn b s → (rid s == rid r) ≡ is_same_rec r s

on_left : (a b : List Rec) (r : Rec) → IsIn a r → IsIn (a ++ b) r
on_left [] b r is = absurd is
on_left (x ∷ a) b r (inl same) = inl same
on_left (x ∷ a) b r (inr later) = inr (on_left a b r later)

on_right : (a b : List Rec) (r : Rec) → IsIn b r → IsIn (a ++ b) r
on_right [] b r is = is
on_right (x ∷ a) b r is = inr (on_right a b r is)

has_named : (rid : Rec → ℕ) (r : Rec) (b : List Rec) → ((s : Rec) → IsIn b s → (rid s == rid r) ≡ is_same_rec r s) → has (map rid b) (rid r) ≡ is_among b r
has_named rid r [] same = refl
has_named rid r (s ∷ b) same = rw (same s (inl refl), has_named rid r b (λ t is. same t (inr is))) refl

left_named : (rid : Rec → ℕ) (a b : List Rec) → Tell rid a b → length (left_out (map rid a) (map rid b)) ≡ length (lacking a b)
left_named rid [] b tell = refl
left_named rid (r ∷ a) b tell =
    rw (has_named rid r b (λ s is. tell r s (inl refl) is)) (by (not (is_among b r)) (left_named rid a b (λ x s is there. tell x s (inr is) there)))
  where
    by : (t : Bool) → length (left_out (map rid a) (map rid b)) ≡ length (lacking a b)
        → length (if t then rid r ∷ left_out (map rid a) (map rid b) else left_out (map rid a) (map rid b)) ≡ length (if t then r ∷ lacking a b else lacking a b)
    by true rest = omega (arith, rest)
    by false rest = rest

joined_named : (rid : Rec → ℕ) (pieces : List (List Rec)) → joined (map (map rid) pieces) ≡ map rid (joined pieces)
joined_named rid [] = refl
joined_named rid (piece ∷ pieces) = ap (λ rids. map rid piece ++ rids) (joined_named rid pieces) ∙ sym (map-append rid piece (joined pieces))

pub costs_named : (rid : Rec → ℕ) (wanted : List Rec) (part : Part) → Names rid (wanted ++ held part)
    → matching.modification (map rid wanted) (map (map rid) part.pieces) ≡ plans.modification wanted part
costs_named rid wanted part names =
    rw (joined_named rid part.pieces) (omega (
      arith,
      left_named rid wanted (held part) (λ r s is there. names r s (on_left wanted (held part) r is) (on_right wanted (held part) s there)),
      left_named rid (held part) wanted (λ r s is there. names r s (on_right wanted (held part) r is) (on_left wanted (held part) s there)),
    ))

all_named : (rid : Rec → ℕ) (wanted piece : List Rec) → Tell rid piece wanted → list_all (has (map rid wanted)) (map rid piece) ≡ list_all (is_among wanted) piece
all_named rid wanted [] tell = refl
all_named rid wanted (r ∷ piece) tell =
    rw (has_named rid r wanted (λ s is. tell r s (inl refl) is), all_named rid wanted piece (λ x s is there. tell x s (inr is) there)) refl

places_told : (rid : Rec → ℕ) (at : ℕ) (wanted : List Rec) (pieces : List (List Rec)) → Tell rid (joined pieces) wanted
    → matching.places_within at (map rid wanted) (map (map rid) pieces) ≡ plans.places_within at wanted pieces
places_told rid at wanted [] tell = refl
places_told rid at wanted (piece ∷ pieces) tell =
    rw (
      all_named rid wanted piece (λ r s is there. tell r s (on_left piece (joined pieces) r is) there),
      places_told rid (at + 1) wanted pieces (λ r s is there. tell r s (on_right piece (joined pieces) r is) there),
    ) refl

pub places_named : (rid : Rec → ℕ) (at : ℕ) (wanted : List Rec) (part : Part) → Names rid (wanted ++ held part)
    → matching.places_within at (map rid wanted) (map (map rid) part.pieces) ≡ plans.places_within at wanted part.pieces
places_named rid at wanted part names =
    places_told rid at wanted part.pieces (λ r s is there. names r s (on_right wanted (held part) r is) (on_left wanted (held part) s there))
