-- What is copied of a dataset of a World, and that nothing of it is damaged.
use Rattle.std.proofs.Common.{◌≡◌, ◌<◌, ℕ, zero, suc, List, [], ◌∷◌, length, map, take, get_or, refl, sym, ◌∙◌, ap, subst, inl, inr, arith}
use Rattle.std.specs.Prelude.{Some, slice_get}
use Rattle.std.specs.List.{All}
use Rattle.ov_host.specs.declared.area.Extent.{Extent}
use Rattle.ov_member.specs.Rids.{has}
use Rattle.ov_segment.specs.declared.numbered.Record.{Record}
use Rattle.ov_fetch.specs.declared.errors.FetchErr.{FetchErr}
use Rattle.ov_fetch.specs.declared.errors.FetchErr.TheVariants.{Host, Memory, Damaged}
use Rattle.ov_fetch.specs.Extents.{rids_of}
use Rattle.ov_fetch.specs.Rows.{AreSegments, joined}
use Rattle.ov_model.specs.Lists.{IsIn, AreIn}
use Rattle.ov_model.specs.Records.{Rec, order_of}
use Rattle.ov_model.specs.World.{Dataset, World}
use Rattle.ov_catalog.specs.Shown.{kept_as, list_of, segment_of, sorted_by}
use Rattle.ov_catalog.proofs.Members.{all_at, heads, left_in, of_append, of_map, of_sorted, right_in, tails}
use Rattle.ov_core.specs.Brought.{segments_in}
use Rattle.law_image.specs.Segments.{as_kept, segment_in}
use Rattle.law_image.proofs.Readers.{rows_read}
use Rattle.law_reads.specs.Sights.{record_in, records_in}
use Rattle.law_reads.proofs.Listed as listed
use Rattle.law_reads.proofs.Orders.{place_same}
use Rattle.law_reads.proofs.Served.{Serves, from_contents, no_damage, record_there, segments_stand, serving_at}
use Rattle.law_reads.proofs.Stored.{segments_once, sorted_map}
use Rattle.law_reads.proofs.Together.{rids_listed}
use Rattle.ov_read.specs.Agreement.{IsThere, Numbers, segments_of}
use Rattle.ov_read.specs.OfWorld.{IsSetOf, IsSpared, rids_in}
use Rattle.ov_copies.specs.Copies.{AreCopied, IsCopied, IsFrom, IsOnList, RefusesCopy}

-- ---- records of the dataset are known by their rids

abbrev IsRec : List Rec → Record → Type 0
IsRec all x = (r : Rec) × (IsIn all r × (x ≡ record_in all r))

one_each : (all : List Rec) (x y : Record) → IsRec all x → IsRec all y → x.rid ≡ y.rid → x ≡ y
one_each all x y p q same =
    p.1.1
    ∙ ap (record_in all) (place_same all p.0 q.0 p.1.0 q.1.0 (sym (ap (λ (z : Record). z.rid) p.1.1) ∙ same ∙ ap (λ (z : Record). z.rid) q.1.1))
    ∙ sym q.1.1

same_records : (all : List Rec) (xs ys : List Record) → ((x : Record) → IsIn xs x → IsRec all x) → ((y : Record) → IsIn ys y → IsRec all y) → rids_of xs ≡ rids_of ys → xs ≡ ys
same_records all [] [] p q same = refl
same_records all [] (y ∷ ys) p q same = cc
same_records all (x ∷ xs) [] p q same = cc
same_records all (x ∷ xs) (y ∷ ys) p q same =
    let first : x ≡ y = one_each all x y (p x (inl refl)) (q y (inl refl)) (heads x.rid y.rid (rids_of xs) (rids_of ys) same)
    in let rest : xs ≡ ys = same_records all xs ys (λ z is. p z (inr is)) (λ z is. q z (inr is)) (tails x.rid y.rid (rids_of xs) (rids_of ys) same)
    in λ i. first i ∷ rest i

known_in : (rs all : List Rec) (r : Rec) → AreIn rs all → IsIn rs r → IsIn all r
known_in [] all r are is = absurd is
known_in (x ∷ rs) all r are (inl same) = subst (IsIn all) (sym same) are.0
known_in (x ∷ rs) all r are (inr later) = known_in rs all r are.1 later

kept_map : (all rs : List Rec) → map as_kept (map (record_in all) rs) ≡ map (kept_as all) rs
kept_map all [] = refl
kept_map all (r ∷ rs) = ap (λ l. kept_as all r ∷ l) (kept_map all rs)

kept_records : (all piece : List Rec) → map as_kept (records_in all piece) ≡ segment_of all piece
kept_records all piece =
    sym (sorted_map as_kept (λ kept. kept.0) (map (record_in all) piece)) ∙ ap (sorted_by (λ kept. kept.0)) (kept_map all piece)

-- ---- what was copied

get_low : {X : Type 0} (xs : List X) (k : ℕ) (x : X) → slice_get xs k ≡ Some x → k < length xs
get_low [] k x at = absurd cc
get_low (y ∷ xs) zero x at = omega arith
get_low (y ∷ xs) (suc k) x at = omega (arith, get_low xs k x at)

some_one : {X : Type 0} (x y : X) → Some x ≡ Some y → x ≡ y
some_one x y e = cc

get_or_is : {X : Type 0} (xs : List X) (k : ℕ) (x d : X) → slice_get xs k ≡ Some x → get_or xs k d ≡ x
get_or_is [] k x d at = absurd cc
get_or_is (y ∷ xs) zero x d at = some_one y x at
get_or_is (y ∷ xs) (suc k) x d at = get_or_is xs k x d at

listed_there : (s : Numbers) (versions : List ℕ) (lists : List (List ℕ)) (vid rid : ℕ) → All (IsThere s) versions → IsOnList versions lists vid rid → IsThere s vid
listed_there s versions lists vid rid there is =
    subst (IsThere s) (get_or_is versions is.place vid 0 is.version) (there is.place 0 (get_low versions is.place vid is.version))

module _ (w : World) (area : List ℕ) (s : Numbers) (d : Dataset) (of_world : IsSetOf w d area s) (versions : List ℕ) (lists : List (List ℕ)) (there : All (IsThere s) versions) where
  abbrev pub all : List Rec
  all = order_of d.cvd.versions

  -- the records of the first segments are records of all of them
  taken : (n : ℕ) (cs : List (List Record)) (r : Record) → IsIn (joined (take n cs)) r → IsIn (joined cs) r
  taken zero cs r is = absurd is
  taken (suc n) [] r is = absurd is
  taken (suc n) (c ∷ cs) r is =
      elim (of_append c (joined (take n cs)) r is) [
        | inl here ↦ left_in c (joined cs) r here
        | inr later ↦ right_in c (joined cs) r (taken n cs r later)
      ]

  segments_taken : (n : ℕ) (es : List Extent) (cs : List (List Record)) → AreSegments s.schema area es cs → AreSegments s.schema area (take n es) (take n cs)
  segments_taken zero es cs are = tt
  segments_taken (suc n) [] [] are = tt
  segments_taken (suc n) [] (c ∷ cs) are = absurd are
  segments_taken (suc n) (e ∷ es) [] are = absurd are
  segments_taken (suc n) (e ∷ es) (c ∷ cs) are = (are.0, segments_taken n es cs are.1)

  from_rec : (r : Record) → IsFrom area s versions lists r → IsRec all r
  from_rec r is =
      let at : Serves area s d is.vid = serving_at w area s d is.vid of_world (listed_there s versions lists is.vid r.rid there is.listed)
      in let contents : List (List Record) = map (records_in all) at.pieces
      in let same : is.contents ≡ take is.count contents =
      segments_once s.schema area (take is.count (segments_of s is.vid)) is.contents (take is.count contents) is.read (segments_taken is.count (segments_of s is.vid) contents at.read)
      in let it =
      from_contents all at.pieces r (taken is.count contents r (subst (λ cs. IsIn (joined cs) r) same (record_there (joined is.contents) r.rid r is.first)))
      in (it.0, (at.known it.0 it.1.0, it.1.1))

  copied_are : (rids : List ℕ) (records : List Record) (piece : List Rec) → AreCopied area s versions lists rids records → rids ≡ list_of all piece → AreIn piece all
      → records ≡ records_in all piece
  copied_are rids records piece copied is known =
      same_records all records (records_in all piece)
      (λ x here. from_rec x (all_at (IsFrom area s versions lists) records x copied.each here))
      (λ y here.
      let of = of_map (record_in all) piece y (of_sorted (λ r. r.rid) (map (record_in all) piece) y here)
      in (of.0, (known_in piece all of.0 known of.1.0, of.1.1)))
      (copied.rids_are ∙ is ∙ sym (rids_listed all piece))

  some_bytes : (bytes : List ℕ) → 0 < length bytes → segments_in bytes ≡ segment_in bytes ∷ []
  some_bytes [] some = absurd (omega (arith, some))
  some_bytes (byte ∷ bytes) some = refl

  pub segment_is : (rids bytes : List ℕ) (piece : List Rec) → IsCopied area s versions lists rids bytes → 0 < length bytes → rids ≡ list_of all piece → AreIn piece all
      → segments_in bytes ≡ Some (segment_of all piece) ∷ []
  segment_is rids bytes piece is some listed_ known =
      some_bytes bytes some
      ∙ ap (λ read. read ∷ []) (ap segment_in is.spelled ∙ rows_read s.schema is.records is.copied.are
      ∙ ap Some (ap (map as_kept) (copied_are rids is.records piece is.copied listed_ known) ∙ kept_records all piece))

  -- ---- nothing is damaged

  map_get : (vids : List ℕ) (k vid : ℕ) (list : List ℕ) → slice_get vids k ≡ Some vid → slice_get (map (rids_in d) vids) k ≡ Some list → list ≡ rids_in d vid
  map_get [] k vid list at beside = absurd cc
  map_get (v ∷ vids) zero vid list at beside = sym (some_one (rids_in d v) list beside) ∙ ap (rids_in d) (some_one v vid at)
  map_get (v ∷ vids) (suc k) vid list at beside = map_get vids k vid list at beside

  pub spared : (rids : List ℕ) (e : FetchErr) → lists ≡ map (rids_in d) versions → RefusesCopy e area s versions lists rids → IsSpared e
  spared rids Host are why = tt
  spared rids Memory are why = tt
  spared rids (Damaged page) are (inl bad) =
      let at : Serves area s d bad.vid = serving_at w area s d bad.vid of_world (listed_there s versions lists bad.vid bad.rid there bad.listed)
      in segments_stand s.schema area (segments_of s bad.vid) (map (records_in all) at.pieces) page at.read (record {
        segment = bad.segment;
        among = (bad.count, get_low (segments_of s bad.vid) bad.count bad.segment bad.next, get_or_is (segments_of s bad.vid) bad.count bad.segment bad.segment bad.next);
        off = bad.off;
        page_is = bad.page_is;
      })
  spared rids (Damaged page) are (inr lacks) =
      let here : IsThere s lacks.vid = listed_there s versions lists lacks.vid lacks.rid there lacks.listed
      in let same : lacks.listed.list ≡ rids_in d lacks.vid =
      map_get versions lacks.listed.place lacks.vid lacks.listed.list lacks.listed.version (subst (λ ls. slice_get ls lacks.listed.place ≡ Some lacks.listed.list) are lacks.listed.beside)
      in no_damage w area s d versions page of_world there (inr (inr (record {
        vid = lacks.vid;
        among = (lacks.listed.place, get_low versions lacks.listed.place lacks.vid lacks.listed.version, get_or_is versions lacks.listed.place lacks.vid lacks.vid lacks.listed.version);
        rids = rids_in d lacks.vid;
        list = listed.is_list w area s d lacks.vid of_world here;
        contents = lacks.contents;
        read = lacks.read;
        rid = lacks.rid;
        member = ap (λ (xs : List ℕ). has xs lacks.rid) (sym same) ∙ lacks.listed.member;
        lacking = lacks.lacking;
        page_is = lacks.page_is;
      })))
