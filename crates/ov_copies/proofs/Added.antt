-- The records of one partition.
use Rattle.std.proofs.Common.{◌≡◌, ◌<◌, ℕ, zero, suc, Bool, true, false, ◌||◌, cond, Option, Some, None, List, [], ◌∷◌, length, take, get_or, refl, sym, ◌∙◌, ap, subst, inl, inr, arith}
use Rattle.std.specs.Prelude.{is_some, slice_get}
use Rattle.std.specs.List.{AllZip}
use Rattle.std.proofs.lemmas.Bool.{eq-eqb, ne_eqb}
use Rattle.ov_host.specs.declared.area.Extent.{Extent}
use Rattle.ov_member.specs.Rids.{has}
use Rattle.ov_value.specs.Shapes.{Shape}
use Rattle.ov_segment.specs.declared.numbered.Record.{Record}
use Rattle.ov_segment.specs.Segments.{AreRecords}
use Rattle.ov_catalog.specs.Numbers.{PartNumbers}
use Rattle.ov_model.specs.Lists.{IsIn}
use Rattle.ov_fetch.specs.declared.errors.FetchErr.{FetchErr}
use Rattle.ov_fetch.specs.declared.errors.FetchErr.TheVariants.{Host, Memory, Damaged}
use Rattle.ov_fetch.specs.Extents.{rids_of}
use Rattle.ov_fetch.specs.Firsts.{IsOffNext, RefusesFirstRows, Suffice}
use Rattle.ov_fetch.specs.Rows.{AreSegments, is_asked, joined, record_of}
use Rattle.ov_fetch.proofs.Ordered.{has_record}
use Rattle.law_reads.proofs.Together.{in_has}
use Rattle.ov_catalog.proofs.Members.{in_map}
use Rattle.ov_read.specs.Agreement.{Numbers, segments_of}
use Rattle.ov_copies.specs.Asking.{IsPartOf}
use Rattle.ov_copies.specs.Copies.{HasBadSegment, HasRecords, IsFrom, IsOnList, RefusesCopy}
use Rattle.ov_copies.specs.Gathering.{AreFor}

-- ---- what was asked for

some_true : (o : Option Record) → is_some o ≡ true → (r : Record) × (o ≡ Some r)
some_true None e = absurd cc
some_true (Some r) e = (r, refl)

pub has_asked : (schema : Shape) (area : List ℕ) (segments : List Extent) (sets : List (List ℕ)) (more : List Record) (rid : ℕ) → AreFor schema area segments sets more
    → has (rids_of more) rid ≡ is_asked sets rid
has_asked schema area segments [] more rid none = ap (λ (rs : List Record). has (rids_of rs) rid) none
has_asked schema area segments (set ∷ sets) more rid are = has_record rid more ∙ by (is_asked (set ∷ sets) rid) refl
  where
    by : (b : Bool) → is_asked (set ∷ sets) rid ≡ b → is_some (record_of more rid) ≡ b
    by true e = ap is_some (are.rows.rows.asked rid e) ∙ are.rows.rows.there rid e
    by false e = ap is_some (are.rows.rows.others rid e)

-- where nothing was asked for there is no record, and else the first segments are whole
pub record AreOf (schema : Shape) (area : List ℕ) (segments : List Extent) (sets : List (List ℕ)) (more : List Record) (r : Record) : Type 0 where
  pub count : ℕ
  pub contents : List (List Record)
  pub read : AreSegments schema area (take count segments) contents
  pub first : record_of (joined contents) r.rid ≡ Some r
  pub asked : is_asked sets r.rid ≡ true

-- of records whose rids ascend each is the first with its rid
above_all : (schema : Shape) (last : ℕ) (rs : List Record) (r : Record) → AreRecords schema last rs → IsIn rs r → last < r.rid
above_all schema last [] r are is = absurd is
above_all schema last (x ∷ rs) r are (inl same) = subst (λ q. last < q.rid) (sym same) are.0.above
above_all schema last (x ∷ rs) r are (inr later) = omega (arith, are.0.above, above_all schema x.rid rs r are.1 later)

own_record : (schema : Shape) (last : ℕ) (rs : List Record) (r : Record) → AreRecords schema last rs → IsIn rs r → record_of rs r.rid ≡ Some r
own_record schema last [] r are is = absurd is
own_record schema last (x ∷ rs) r are (inl same) =
    ap (λ b. cond b (Some x) (record_of rs r.rid)) (eq-eqb x.rid r.rid (ap (λ q. q.rid) (sym same))) ∙ ap Some (sym same)
own_record schema last (x ∷ rs) r are (inr later) =
    let above : x.rid < r.rid = above_all schema x.rid rs r are.1 later
    in ap (λ b. cond b (Some x) (record_of rs r.rid)) (ne_eqb x.rid r.rid (λ same. omega (arith, same, above))) ∙ own_record schema x.rid rs r are.1 later

pub one_of : (schema : Shape) (area : List ℕ) (segments : List Extent) (sets : List (List ℕ)) (more : List Record) (r : Record) → AreRecords schema 0 more
    → AreFor schema area segments sets more → IsIn more r → AreOf schema area segments sets more r
one_of schema area segments [] more r are none is = absurd (subst (λ (rs : List Record). IsIn rs r) none is)
one_of schema area segments (set ∷ sets) more r are for is =
    let asked : is_asked (set ∷ sets) r.rid ≡ true =
    sym (has_asked schema area segments (set ∷ sets) more r.rid for) ∙ in_has (rids_of more) r.rid (in_map (λ (q : Record). q.rid) more r is)
    in record {
      count = for.count;
      contents = for.rows.contents;
      read = for.rows.read;
      first = sym (for.rows.rows.asked r.rid asked) ∙ own_record schema 0 more r are is;
      asked = asked;
    }

-- ---- for which version

-- a set that has the rid, and what stands beside it
pub record IsBeside (R : Extent → List ℕ → Type 0) (rid : ℕ) : Type 0 where
  pub extent : Extent
  pub set : List ℕ
  pub beside : R extent set
  pub member : has set rid ≡ true

pub asked_at : (R : Extent → List ℕ → Type 0) (extents : List Extent) (sets : List (List ℕ)) (rid : ℕ) → AllZip R extents sets → is_asked sets rid ≡ true → IsBeside R rid
asked_at R [] [] rid all asked = absurd cc
asked_at R [] (set ∷ sets) rid all asked = absurd all
asked_at R (e ∷ extents) [] rid all asked = absurd all
asked_at R (e ∷ extents) (set ∷ sets) rid all asked = by (has set rid) refl asked (λ later. asked_at R extents sets rid all.1 later)
  where
    by : (b : Bool) → has set rid ≡ b → (b || is_asked sets rid) ≡ true → (is_asked sets rid ≡ true → IsBeside R rid) → IsBeside R rid
    by true is some rest = record { extent = e; set = set; beside = all.0; member = is }
    by false is some rest = rest some

pub asked_of : (extents : List Extent) (sets : List (List ℕ)) (k rid : ℕ) (set : List ℕ) → slice_get sets k ≡ Some set → has set rid ≡ true → is_asked sets rid ≡ true
asked_of extents [] k rid set at is = absurd cc
asked_of extents (x ∷ sets) zero rid set at is = by (has x rid) (ap (λ (xs : List ℕ). has xs rid) (some_list x set at) ∙ is)
  where
    some_list : (a b : List ℕ) → Some a ≡ Some b → a ≡ b
    some_list a b e = cc

    by : (b : Bool) → b ≡ true → (b || is_asked sets rid) ≡ true
    by true e = refl
    by false e = absurd cc
asked_of extents (x ∷ sets) (suc k) rid set at is = by (has x rid) (asked_of extents sets k rid set at is)
  where
    by : (b : Bool) → is_asked sets rid ≡ true → (b || is_asked sets rid) ≡ true
    by true e = refl
    by false e = e

pub zip_get : {A B : Type 0} (R : A → B → Type 0) (xs : List A) (ys : List B) (k : ℕ) (x : A) (y : B) → AllZip R xs ys → slice_get xs k ≡ Some x → slice_get ys k ≡ Some y → R x y
zip_get R [] ys k x y all at beside = absurd cc
zip_get R (a ∷ xs) [] k x y all at beside = absurd all
zip_get {A} {B} R (a ∷ xs) (b ∷ ys) zero x y all at beside = subst (λ z. R z y) (one a x at) (subst (λ z. R a z) (other b y beside) all.0)
  where
    one : (p q : A) → Some p ≡ Some q → p ≡ q
    one p q e = cc

    other : (p q : B) → Some p ≡ Some q → p ≡ q
    other p q e = cc
zip_get R (a ∷ xs) (b ∷ ys) (suc k) x y all at beside = zip_get R xs ys k x y all.1 at beside

pub get_at : {X : Type 0} (xs : List X) (k : ℕ) (d : X) → k < length xs → slice_get xs k ≡ Some (get_or xs k d)
get_at [] k d low = absurd (omega (arith, low))
get_at (x ∷ xs) zero d low = refl
get_at (x ∷ xs) (suc k) d low = get_at xs k d (omega (arith, low))

module _ (s : Numbers) (versions : List ℕ) (lists : List (List ℕ)) (served : List ℕ) (paired : length lists ≡ length versions) where
  pub on_list : (extent : Extent) (set : List ℕ) (rid : ℕ) (is : IsPartOf s versions lists served extent set) → has set rid ≡ true
      → IsOnList versions lists (get_or versions is.place 0) rid
  on_list extent set rid is member = record {
    place = is.place;
    version = get_at versions is.place 0 is.there;
    list = get_or lists is.place [];
    beside = get_at lists is.place [] (omega (arith, is.there, paired));
    member = is.within rid member;
  }

  pub from : (area : List ℕ) (segments extents : List Extent) (sets : List (List ℕ)) (more : List Record) (r : Record)
      → ((vid : ℕ) → has served vid ≡ true → segments_of s vid ≡ segments) → AllZip (IsPartOf s versions lists served) extents sets
      → AreOf s.schema area segments sets more r → IsFrom area s versions lists r
  from area segments extents sets more r own each of =
      let at = asked_at (IsPartOf s versions lists served) extents sets r.rid each of.asked
      in let vid : ℕ = get_or versions at.beside.place 0
      in record {
        vid = vid;
        listed = on_list at.extent at.set r.rid at.beside at.member;
        count = of.count;
        contents = of.contents;
        read = subst (λ es. AreSegments s.schema area (take of.count es) of.contents) (sym (own vid at.beside.member)) of.read;
        first = of.first;
      }

  -- ---- why there are none

  -- the next segment of a partition is off, where those before it lack a rid
  bad_segment : (area rids : List ℕ) (segments extents : List Extent) (sets : List (List ℕ)) (page : ℕ) → ((vid : ℕ) → has served vid ≡ true → segments_of s vid ≡ segments)
      → AllZip (IsPartOf s versions lists served) extents sets → ((rid : ℕ) → is_asked sets rid ≡ true → has rids rid ≡ true)
      → IsOffNext s.schema area segments (is_asked sets) page → HasBadSegment area s versions lists rids page
  bad_segment area rids segments extents sets page own each within bad =
      let rid : ℕ = bad.before.rid
      in let at = asked_at (IsPartOf s versions lists served) extents sets rid each bad.before.asked
      in let vid : ℕ = get_or versions at.beside.place 0
      in record {
        vid = vid;
        rid = rid;
        listed = on_list at.extent at.set rid at.beside at.member;
        wanted = within rid bad.before.asked;
        count = bad.count;
        contents = bad.before.contents;
        read = subst (λ es. AreSegments s.schema area (take bad.count es) bad.before.contents) (sym (own vid at.beside.member)) bad.before.read;
        lacking = bad.before.lacking;
        segment = bad.segment;
        next = subst (λ (es : List Extent). slice_get es bad.count ≡ Some bad.segment) (sym (own vid at.beside.member)) bad.next;
        off = bad.off;
        page_is = bad.page_is;
      }

  -- where segments have a record of each rid of the versions that are served, they suffice for what is asked
  pub suffices : (area other rids : List ℕ) (part : PartNumbers Extent) (segments extents : List Extent) (sets : List (List ℕ)) → part.versions ≡ served → other ≡ area
      → AllZip (IsPartOf s versions lists served) extents sets → ((rid : ℕ) → is_asked sets rid ≡ true → has rids rid ≡ true)
      → HasRecords area s versions lists rids part segments → Suffice s.schema other segments (is_asked sets)
  suffices area other rids part segments extents sets same pages each within have = record {
    contents = have.contents;
    read = subst (λ a. AreSegments s.schema a segments have.contents) (sym pages) have.read;
    there = λ rid asked.
        let at = asked_at (IsPartOf s versions lists served) extents sets rid each asked
        in let vid : ℕ = get_or versions at.beside.place 0
        in have.there vid rid (on_list at.extent at.set rid at.beside at.member) (within rid asked) (ap (λ (vs : List ℕ). has vs vid) same ∙ at.beside.member);
  }

  pub refuses : (area rids : List ℕ) (segments extents : List Extent) (sets : List (List ℕ)) (e : FetchErr) → ((vid : ℕ) → has served vid ≡ true → segments_of s vid ≡ segments)
      → AllZip (IsPartOf s versions lists served) extents sets → ((rid : ℕ) → is_asked sets rid ≡ true → has rids rid ≡ true)
      → RefusesFirstRows e s.schema area segments extents sets → RefusesCopy e area s versions lists rids
  refuses area rids segments extents sets Host own each within why = tt
  refuses area rids segments extents sets Memory own each within why = tt
  refuses area rids segments extents sets (Damaged page) own each within why =
      elim why [
        | inl bad ↦ inl (bad_segment area rids segments extents sets page own each within bad)
        | inr lacks ↦
            let is : IsPartOf s versions lists served lacks.list lacks.rids =
            zip_get (IsPartOf s versions lists served) extents sets lacks.place lacks.list lacks.rids each lacks.list_there lacks.rids_there
            in let vid : ℕ = get_or versions is.place 0
            in inr (record {
              vid = vid;
              rid = lacks.rid;
              listed = on_list lacks.list lacks.rids lacks.rid is lacks.member;
              wanted = within lacks.rid (asked_of extents sets lacks.place lacks.rid lacks.rids lacks.rids_there lacks.member);
              contents = lacks.contents;
              read = subst (λ es. AreSegments s.schema area es lacks.contents) (sym (own vid is.member)) lacks.read;
              lacking = lacks.lacking;
              page_is = lacks.page_is ∙ ap (λ (x : Extent). x.page) is.extent_is;
            })
      ]
