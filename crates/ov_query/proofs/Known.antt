-- What the numbers know of the sides of a join, and what they refuse it for.
use Rattle.std.proofs.Common.{◌≡◌, ◌∙◌, ℕ, Bool, false, List, Some, None, length, map, refl, sym, ap, ap₂}
use Rattle.std.specs.Prelude.{Option, Result, Ok, Err, IsOk, if◌then◌else◌}
use Rattle.std.proofs.lemmas.List.{length-map}
use Rattle.ov_model.specs.Book.{Cvd}
use Rattle.ov_model.specs.Joins.{join_kinds}
use Rattle.ov_model.specs.Known.{cvd_like, refusal_in, sides_off, version_like}
use Rattle.ov_model.specs.declared.query.JoinQuery.{JoinQuery}
use Rattle.ov_model.specs.declared.query.Side.{Side}
use Rattle.ov_model.specs.declared.refusal.Refusal.{Refusal}
use Rattle.ov_model.specs.declared.refusal.Refusal.TheVariants as no
use Rattle.ov_value.specs.Shapes.{Shape}
use Rattle.ov_value.specs.declared.column.Kind.{Kind}
use Rattle.ov_query.specs.Joining.{IsSideThere, is_missing, side_known}
use Rattle.ov_query.specs.Queries.{Set, join_off, known_in}

-- ---- one side

abbrev side_if : Side → Cvd → Bool → Result Cvd Refusal
side_if side cvd t = if t then Err (no.NoVersion side.vid) else Ok cvd

module _ (side : Side) (set : Set) where
  count_like : length (cvd_like (known_in set)).versions ≡ length set.versions
  count_like =
      length-map (known_in set).parents version_like ∙ length-map set.versions (λ v. map (λ edge. edge.0) v.parents)

  missing_like : is_missing (length (cvd_like (known_in set)).versions) side.vid ≡ is_missing (length set.versions) side.vid
  missing_like = ap (λ (n : ℕ). is_missing n side.vid) count_like

  known_there : is_missing (length set.versions) side.vid ≡ false → side_known side (Some set) ≡ Ok (cvd_like (known_in set))
  known_there is = ap (side_if side (cvd_like (known_in set))) (missing_like ∙ is)

known_side : (side : Side) (o : Option Set) (schema : Shape) → IsSideThere side o schema → (cvd : Cvd) × (side_known side o ≡ Ok cvd) × (schema ≡ cvd.schema)
known_side side None schema is = absurd is
known_side side (Some set) schema is = (cvd_like (known_in set), known_there side set is.1, is.0)

pub side_set : (side : Side) (o : Option Set) (schema : Shape) → IsSideThere side o schema → (set : Set) × (o ≡ Some set) × (schema ≡ set.schema)
side_set side None schema is = absurd is
side_set side (Some set) schema is = (set, refl, is.0)

-- ---- a join

module _ (join : JoinQuery) (left right : Option Set) where
  module _ (ls rs : Shape) (l_there : IsSideThere join.left left ls) (r_there : IsSideThere join.right right rs) where
    off_is : join_off join left right ≡ refusal_in (join_kinds join ls rs)
    off_is =
        let l = known_side join.left left ls l_there
        in let r = known_side join.right right rs r_there
        in ap₂ (sides_off join) l.1 r.1 ∙ (λ i. refusal_in (join_kinds join (sym l.2 i) (sym r.2 i)))

    pub off_none : IsOk (join_kinds join ls rs) → join_off join left right ≡ None
    off_none fits = off_is ∙ by (join_kinds join ls rs) fits
      where
        by : (r : Result (List Kind) Refusal) → IsOk r → refusal_in r ≡ None
        by (Ok of) fits = refl
        by (Err refusal) fits = absurd cc
