-- Parents that agree with the numbers, and the first one that disagrees with an earlier one.
use Rattle.std.proofs.Common.{◌≡◌, ◌<◌, ℕ, suc, List, [], ◌∷◌, length, Some, get_or, refl, ap, inl, inr, arith}
use Rattle.std.specs.List.{All, AllZip}
use Rattle.std.proofs.lemmas.List.{length-map}
use Rattle.std.proofs.lemmas.List.Elements.{All-nil, All-cons}
use Rattle.ov_segment.specs.declared.numbered.Record.{Record}
use Rattle.ov_fetch.specs.declared.errors.FetchErr.{FetchErr}
use Rattle.ov_fetch.specs.declared.errors.FetchErr.TheVariants.{Host, Memory, Damaged}
use Rattle.ov_records.specs.Records.{lists_of, pairs_of}
use Rattle.law_commits.specs.Agreeing.{EachAgrees}
use Rattle.law_commits.specs.Differing.{HasNoRidTwice, IsFirstDisagreeing}
use Rattle.ov_read.specs.Agreement.{Numbers, list_of}
use Rattle.ov_read.specs.Damages.{RefusesScan}
use Rattle.ov_parents.specs.Parents.{IsParent, RefusesParents}

pub none_twice : (s : Numbers) (vids : List ℕ) (parents : List (List Record)) → EachAgrees s vids parents → All HasNoRidTwice parents
none_twice s [] [] each = All-nil HasNoRidTwice
none_twice s [] (records ∷ parents) each = absurd each
none_twice s (vid ∷ vids) [] each = absurd each
none_twice s (vid ∷ vids) (records ∷ parents) each = All-cons HasNoRidTwice records parents each.0.once (none_twice s vids parents each.1)

pub as_many : (s : Numbers) (vids : List ℕ) (parents : List (List Record)) → EachAgrees s vids parents → length parents ≡ length vids
as_many s [] [] each = refl
as_many s [] (records ∷ parents) each = absurd each
as_many s (vid ∷ vids) [] each = absurd each
as_many s (vid ∷ vids) (records ∷ parents) each = ap suc (as_many s vids parents each.1)

pub place_there : (s : Numbers) (vids : List ℕ) (parents : List (List Record)) (place : ℕ) → EachAgrees s vids parents → IsFirstDisagreeing (lists_of parents) (Some place) → place < length vids
place_there s vids parents place each first = omega (arith, first.0.0, length-map parents pairs_of, as_many s vids parents each)

pub scan_refuses : (e : FetchErr) (area : List ℕ) (s : Numbers) (vids : List ℕ) → RefusesScan e area s vids → RefusesParents e area s vids
scan_refuses Host area s vids why = tt
scan_refuses Memory area s vids why = tt
scan_refuses (Damaged page) area s vids why = inl why

pub differing : (area : List ℕ) (s : Numbers) (vids : List ℕ) (parents : List (List Record)) (place page : ℕ) → AllZip (IsParent area s) vids parents → IsFirstDisagreeing (lists_of parents) (Some place)
    → page ≡ (list_of s (get_or vids place 0)).page → RefusesParents (Damaged page) area s vids
differing area s vids parents place page read first page_is = inr (record { parents = parents; read = read; place = place; first = first; page_is = page_is })
