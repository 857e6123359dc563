-- A version more leaves the records of the versions before it as they were.
use Rattle.std.proofs.Common.{◌≡◌, ◌≤◌, ◌<◌, ℕ, zero, suc, ◌+◌, ◌-◌, Bool, false, List, [], ◌∷◌, ◌++◌, length, filter, get_or, refl, sym, ◌∙◌, ap, subst, inl, inr, arith}
use Rattle.std.specs.Prelude.{◌||◌}
use Rattle.std.specs.List.{list_any}
use Rattle.std.proofs.lemmas.Bool.{cases_Bool}
use Rattle.std.proofs.lemmas.List.{append-nil}
use Rattle.std.proofs.lemmas.List.Elements.{filter-append}
use Rattle.ov_model.specs.Book.{Version, Cvd}
use Rattle.ov_model.specs.Lists.{IsIn, AreIn}
use Rattle.ov_model.specs.Placed.{times, AreVersions}
use Rattle.ov_model.specs.Plans.{records_in}
use Rattle.ov_model.specs.Records.{Rec, is_among, recs, records_of, of_version, fresh_in, order_of}
use Rattle.ov_model.proofs.Counting.{one_same}
use Rattle.ov_model.proofs.Growing.{recs_more, length_recs, order_of_more}
use Rattle.ov_model.proofs.Holds.{among_in, at_known}
use Rattle.ov_model.proofs.Ordering.{filter_same, filter_none, fresh_origin, origin_below}
use Rattle.ov_model.proofs.Origins.{all_known}

at_more : (done : List (List Rec)) (l : List Rec) (k : ℕ) → k < length done → get_or (done ++ l ∷ []) k [] ≡ get_or done k []
at_more [] l k low = absurd (omega (arith, low))
at_more (x ∷ done) l zero low = refl
at_more (x ∷ done) l (suc k) low = at_more done l k (omega (arith, low))

is_in_at : (rs all : List Rec) (r : Rec) → AreIn rs all → IsIn rs r → IsIn all r
is_in_at [] all r are is = absurd is
is_in_at (x ∷ rs) all r are (inl same) = subst (IsIn all) (sym same) are.0
is_in_at (x ∷ rs) all r are (inr later) = is_in_at rs all r are.1 later

-- versions that are there
abbrev Within : ℕ → List ℕ → Type 0
Within count vids = (vid : ℕ) → 1 ≤ times vids vid → (1 ≤ vid) × (vid ≤ count)

module _ (vs : List Version) (v : Version) where
  abbrev done : List (List Rec)
  done = recs vs []

  abbrev ours : List Rec
  ours = records_of v done

  abbrev fresh : List Rec
  fresh = fresh_in ours (1 + length done)

  abbrev of_one : List (List Rec) → List ℕ → Rec → Bool
  of_one each vids r = list_any (λ vid. is_among (of_version each vid) r) vids

  same_of : (vids : List ℕ) (r : Rec) → Within (length done) vids → of_one (done ++ ours ∷ []) vids r ≡ of_one done vids r
  same_of [] r within = refl
  same_of (vid ∷ vids) r within =
      let is : (1 ≤ vid) × (vid ≤ length done) = within vid (omega (arith, one_same vid vid refl))
      in let same : of_version (done ++ ours ∷ []) vid ≡ of_version done vid = at_more done ours (vid - 1) (omega (arith, is.0, is.1))
      in λ i. is_among (same i) r || same_of vids r (λ other some. within other (omega (arith, some))) i

  none_of : (vids : List ℕ) (r : Rec) → IsIn fresh r → of_one done vids r ≡ false
  none_of [] r there = refl
  none_of (vid ∷ vids) r there = λ i. none i || none_of vids r there i
    where
      none : is_among (of_version done vid) r ≡ false
      none =
          elim (cases_Bool (is_among (of_version done vid) r)) [
            | inl among ↦
                let old : IsIn (order_of vs) r =
                is_in_at (of_version done vid) (order_of vs) r (at_known done (vid - 1) (order_of vs) (all_known vs)) (among_in (of_version done vid) r among)
                in absurd (omega (arith, origin_below done 1 r old, fresh_origin ours (1 + length done) r there))
            | inr other ↦ other
          ]

  pub records_in_more : (cvd grown : Cvd) (vids : List ℕ) → cvd.versions ≡ vs → grown.versions ≡ vs ++ v ∷ [] → AreVersions (length vs) vids → records_in grown vids ≡ records_in cvd vids
  records_in_more cvd grown vids is is_grown are =
      let long : length done ≡ length vs = length_recs vs [] ∙ omega arith
      in let within : Within (length done) vids = λ vid some. (are.from_one vid some, omega (arith, long, are.there vid some))
      in ap (λ all. filter (of_one (recs all []) vids) (order_of all)) is_grown
      ∙ (λ i. filter (of_one (recs_more vs v [] i) vids) (order_of_more vs v i))
      ∙ filter_same (of_one (done ++ ours ∷ []) vids) (of_one done vids) (order_of vs ++ fresh) (λ r there. same_of vids r within)
      ∙ filter-append (of_one done vids) (order_of vs) fresh
      ∙ ap (λ rest. filter (of_one done vids) (order_of vs) ++ rest) (filter_none (of_one done vids) fresh (none_of vids))
      ∙ append-nil (filter (of_one done vids) (order_of vs))
      ∙ ap (λ all. filter (of_one (recs all []) vids) (order_of all)) (sym is)
