-- A record is among others exactly where its rid is among theirs.
use Rattle.std.proofs.Common.{◌≡◌, ℕ, Bool, true, false, List, [], ◌∷◌, map, refl, sym, ◌∙◌, ap, subst, inl, inr}
use Rattle.std.specs.Prelude.{if◌then◌else◌, not}
use Rattle.ov_member.specs.Rids.{has, left_out}
use Rattle.ov_model.specs.Lists.{IsIn}
use Rattle.ov_model.specs.Records.{Rec, is_among, lacking, rid_in}
use Rattle.ov_model.proofs.Holds.{among_in, in_among}
use Rattle.ov_model.proofs.Widening.{same_bool}
use Rattle.ov_catalog.specs.Shown.{list_of}
use Rattle.ov_catalog.proofs.Members.{in_map, of_map}
use Rattle.law_reads.proofs.Orders.{place_same}
use Rattle.law_reads.proofs.Together.{has_in, has_listed, in_has}

module _ (all : List Rec) where
  abbrev pub Known : List Rec → Type 0
  Known rs = (r : Rec) → IsIn rs r → IsIn all r

  pub has_rids : (rs : List Rec) (r : Rec) → Known rs → IsIn all r → has (list_of all rs) (rid_in all r) ≡ is_among rs r
  has_rids rs r known is =
      has_listed all rs (rid_in all r)
      ∙ same_bool (has (map (rid_in all) rs) (rid_in all r)) (is_among rs r)
      (λ e.
      let of = of_map (rid_in all) rs (rid_in all r) (has_in (map (rid_in all) rs) (rid_in all r) e)
      in in_among rs r (subst (IsIn rs) (sym (place_same all r of.0 is (known of.0 of.1.0) of.1.1)) of.1.0))
      (λ e. in_has (map (rid_in all) rs) (rid_in all r) (in_map (rid_in all) rs r (among_in rs r e)))

  -- the rids that others lack are those of the records that they lack
  pub left_rids : (kept : List ℕ) (others rs : List Rec) → ((r : Rec) → IsIn rs r → has kept (rid_in all r) ≡ is_among others r)
      → left_out (map (rid_in all) rs) kept ≡ map (rid_in all) (lacking rs others)
  left_rids kept others [] same = refl
  left_rids kept others (r ∷ rs) same =
      by (has kept (rid_in all r)) (is_among others r) (same r (inl refl)) (left_rids kept others rs (λ q is. same q (inr is)))
    where
      by : (a b : Bool) → a ≡ b → left_out (map (rid_in all) rs) kept ≡ map (rid_in all) (lacking rs others)
          → (if not a then rid_in all r ∷ left_out (map (rid_in all) rs) kept else left_out (map (rid_in all) rs) kept)
          ≡ map (rid_in all) (if not b then r ∷ lacking rs others else lacking rs others)
      by true true e rest = rest
      by true false e rest = cc
      by false true e rest = cc
      by false false e rest = ap (λ ns. rid_in all r ∷ ns) rest
