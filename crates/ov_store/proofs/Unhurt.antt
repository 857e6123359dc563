-- What a plan was made of isn't damaged.
use Rattle.std.proofs.Common.{◌≡◌, ◌≤◌, ◌<◌, ◌+◌, ◌-◌, ℕ, zero, suc, List, [], ◌∷◌, length, map, get_or, sym, ◌∙◌, ap, subst, inl, inr, arith}
use Rattle.std.specs.List.{All, AllZip}
use Rattle.std.proofs.lemmas.List.Elements.{All-head, All-tail}
use Rattle.std.proofs.lemmas.List.FromFn.{length-range_with_len, get_or-range_with_len}
use Rattle.ov_event.specs.declared.event.Event.{Event}
use Rattle.ov_host.specs.declared.area.Extent.{Extent}
use Rattle.ov_segment.specs.declared.numbered.Record.{Record}
use Rattle.ov_fetch.specs.declared.errors.FetchErr.TheVariants as fetch
use Rattle.ov_fetch.specs.Extents.{rids_of}
use Rattle.ov_model.specs.Lists.{IsIn}
use Rattle.ov_catalog.specs.Numbers.{PartNumbers}
use Rattle.ov_read.specs.Agreement.{Agrees, IsThere, Numbers, PartAgrees}
use Rattle.ov_read.specs.Damages.{IsBadList}
use Rattle.law_reads.proofs.Served.{segments_stand}
use Rattle.law_reads.proofs.Stored.{segments_once}
use Rattle.law_reads.proofs.Undamaged.{beside, one_list}
use Rattle.ov_targets.specs.declared.candidates.Partition.{Partition}
use Rattle.ov_optimize.specs.Damages.{IsBadPart, IsListDamage, RefusesPlan}
use Rattle.ov_optimize.specs.Planned.{IsPlanned}
use Rattle.ov_optimize.specs.Reading.{IsListAt, IsPartitionAt, all_vids}

beside_in : {A B : Type 0} (R : A → B → Type 0) (xs : List A) (ys : List B) (x : A) → AllZip R xs ys → IsIn xs x → (y : B) × R x y
beside_in R [] ys x all is = absurd is
beside_in R (a ∷ xs) [] x all is = absurd all
beside_in R (a ∷ xs) (b ∷ ys) x all (inl same) = (b, subst (λ z. R z b) (sym same) all.0)
beside_in R (a ∷ xs) (b ∷ ys) x all (inr later) = beside_in R xs ys x all.1 later

-- none of these has no record
filled : (contents : List (List Record)) (k : ℕ) → All (λ rids. 1 ≤ length rids) (map rids_of contents) → k < length contents → get_or contents k [] ≡ [] → ⊥
filled [] k all low none = absurd (omega (arith, low))
filled (c ∷ cs) zero all low none =
    let some : 1 ≤ length (rids_of c) = All-head (λ rids. 1 ≤ length rids) (rids_of c) (map rids_of cs) all
    in let empty : length (rids_of c) ≡ 0 = ap (λ rs. length (rids_of rs)) none
    in omega (arith, some, empty)
filled (c ∷ cs) (suc k) all low none = filled cs k (All-tail (λ rids. 1 ≤ length rids) (rids_of c) (map rids_of cs) all) (omega (arith, low)) none

module _ (area : List ℕ) (s : Numbers) where
  good_list : (vid : ℕ) (rids : List ℕ) → IsListAt area s vid rids → IsBadList area s vid → ⊥
  good_list vid rids is (inl (inl short)) = omega (arith, short, is.list.whole)
  good_list vid rids is (inl (inr none)) = none rids is.list.spells
  good_list vid rids is (inr off) = off.off (subst (Agrees s vid) (one_list _ rids off.rids is.list.spells off.list.spells) is.is.agrees)

  good_part : (part : PartNumbers Extent) (partition : Partition) (page : ℕ) → IsPartitionAt area s part partition → IsBadPart area s part page → ⊥
  good_part part partition page is (inl short) = segments_stand s.schema area part.segments is.rids.contents page is.rids.read short
  good_part part partition page is (inr (first, inl off)) =
      let same : is.rids.contents ≡ off.contents = segments_once s.schema area part.segments is.rids.contents off.contents is.rids.read off.read
      in off.off (subst (PartAgrees part.records s.records) (is.rids.sets_are ∙ ap (map rids_of) same) is.is.agrees)
  good_part part partition page is (inr (first, inr off)) =
      let same : is.rids.contents ≡ off.contents = segments_once s.schema area part.segments is.rids.contents off.contents is.rids.read off.read
      in filled off.contents off.empty.0 (subst (λ (sets : List (List ℕ)). All (λ rids. 1 ≤ length rids) sets) (is.rids.sets_are ∙ ap (map rids_of) same) is.is.filled) off.empty.1 off.empty.2

  -- nor are lists that were read
  module _ (lists : List (List ℕ)) (listed : AllZip (IsListAt area s) (all_vids s) lists) where
    list_there : (vid : ℕ) → IsThere s vid → (rids : List ℕ) × IsListAt area s vid rids
    list_there vid there =
        let low : vid - 1 < length s.versions = omega (arith, there.0, there.1)
        in let count : length (all_vids s) ≡ length s.versions = length-range_with_len 1 (length s.versions)
        in let at : get_or (all_vids s) (vid - 1) vid ≡ 1 + (vid - 1) = get_or-range_with_len 1 (length s.versions) (vid - 1) vid low
        in beside (IsListAt area s) (all_vids s) lists (vid - 1) vid listed (omega (arith, low, count)) (omega (arith, at, there.0))

    pub lists_whole : (page : ℕ) → IsListDamage area s page → ⊥
    lists_whole page (inl bad) =
        let it = beside (IsListAt area s) (all_vids s) lists bad.among.0 bad.vid listed bad.among.1 bad.among.2
        in good_list bad.vid it.0 it.1 bad.bad
    lists_whole page (inr high) =
        let it = list_there high.vid high.there
        in high.high (subst (λ (xs : List ℕ). All (λ rid. rid ≤ s.records) xs) (one_list _ it.0 high.rids it.1.list.spells high.list.spells) it.1.is.within)

  module _ (p q : ℕ) (e : Event) (made : IsPlanned area s p q e) where
    pub planned_whole : (page : ℕ) → RefusesPlan (fetch.Damaged page) area s → ⊥
    planned_whole page (inl bad) = lists_whole made.lists made.listed page (inl bad)
    planned_whole page (inr (inl high)) = lists_whole made.lists made.listed page (inr high)
    planned_whole page (inr (inr bad)) =
        let it = beside_in (IsPartitionAt area s) s.parts made.partitions bad.part made.parted bad.among
        in good_part bad.part it.0 page it.1 bad.bad
