-- Where versions were scanned, nothing of them is damaged.
use Rattle.std.proofs.Common.{◌≡◌, ◌<◌, ◌==◌, ℕ, zero, suc, true, List, [], ◌∷◌, length, get_or, sym, ◌∙◌, ap, subst, inl, inr, arith}
use Rattle.std.specs.Prelude.{None, Some}
use Rattle.std.specs.List.{AllZip, Contains}
use Rattle.std.proofs.lemmas.List.Sorted.{list_any-IsPermutation}
use Rattle.ov_segment.specs.declared.numbered.Record.{Record}
use Rattle.ov_member.specs.Lists.{Spells, rids_of as rids_between}
use Rattle.ov_member.specs.Rids.{has}
use Rattle.ov_member.proofs.RangeLemmas.{ranges-same}
use Rattle.ov_fetch.specs.Extents.{rids_of}
use Rattle.ov_fetch.specs.Rows.{joined, record_of}
use Rattle.ov_catalog.proofs.Members.{all_at, of_map}
use Rattle.ov_read.specs.Agreement.{Agrees, Numbers, segments_of}
use Rattle.ov_read.specs.Damages.{IsBadList, IsDamage, LacksMember}
use Rattle.ov_read.specs.Found.{IsScanned}
use Rattle.law_reads.proofs.Served.{segments_stand}
use Rattle.law_reads.proofs.Stored.{segments_once}
use Rattle.law_reads.proofs.Together.{has_in}

pub one_list : (bytes xs ys : List ℕ) → Spells bytes xs → Spells bytes ys → xs ≡ ys
one_list bytes xs ys h k = h.listed ∙ ap rids_between (ranges-same 0 0 h.ranges k.ranges h.apart k.apart (sym h.written ∙ k.written)) ∙ sym k.listed

-- a scan has the version
abbrev pub HasScan : List ℕ → Numbers → ℕ → Type 0
HasScan area s vid = (records : List Record) × (pick : List ℕ) × IsScanned area s records vid pick

good_list : (area : List ℕ) (s : Numbers) (records : List Record) (vid : ℕ) (pick : List ℕ) → IsScanned area s records vid pick → IsBadList area s vid → ⊥
good_list area s records vid pick is (inl (inl short)) = omega (arith, short, is.list.whole)
good_list area s records vid pick is (inl (inr none)) = none is.rids is.list.spells
good_list area s records vid pick is (inr off) =
    off.off (subst (Agrees s vid) (one_list _ is.rids off.rids is.list.spells off.list.spells) is.agrees)

-- each member of the list has its record
member_there : (area : List ℕ) (s : Numbers) (records : List Record) (vids pick : List ℕ) (page : ℕ) (lacks : LacksMember area s vids page) → IsScanned area s records lacks.vid pick → ⊥
member_there area s records vids pick page lacks is =
    let list : lacks.rids ≡ is.rids = one_list _ lacks.rids is.rids lacks.list.spells is.list.spells
    in let same : is.first.contents ≡ lacks.contents = segments_once s.schema area (segments_of s lacks.vid) is.first.contents lacks.contents is.first.read lacks.read
    in let here : has (rids_of is.found) lacks.rid ≡ true =
    sym (list_any-IsPermutation (λ x. x == lacks.rid) is.rids (rids_of is.found) is.picked.same) ∙ ap (λ l. has l lacks.rid) (sym list) ∙ lacks.member
    in let of = of_map (λ r. r.rid) is.found lacks.rid (has_in (rids_of is.found) lacks.rid here)
    in let first : record_of (joined is.first.contents) of.0.rid ≡ Some of.0 = all_at (λ r. record_of (joined is.first.contents) r.rid ≡ Some r) is.found of.0 is.first.first of.1.0
    in none_some of.0 (sym lacks.lacking ∙ ap (λ cs. record_of (joined cs) lacks.rid) (sym same) ∙ ap (record_of (joined is.first.contents)) of.1.1 ∙ first)
  where
    none_some : (r : Record) → None ≡ Some r → ⊥
    none_some r e = cc

pub none_damaged : (area : List ℕ) (s : Numbers) (vids : List ℕ) (page : ℕ) → ((vid : ℕ) → Contains vids vid → HasScan area s vid) → IsDamage area s vids page → ⊥
none_damaged area s vids page scans (inl bad) =
    let it = scans bad.vid bad.among
    in good_list area s it.0 bad.vid it.1 it.2 bad.bad
none_damaged area s vids page scans (inr (inl bad)) =
    let it = scans bad.vid bad.among
    in segments_stand s.schema area (segments_of s bad.vid) it.2.first.contents page it.2.first.read bad.bad
none_damaged area s vids page scans (inr (inr lacks)) =
    let it = scans lacks.vid lacks.among
    in member_there area s it.0 vids it.1 page lacks it.2

-- what is beside each of a list's members
pub beside : {A B : Type 0} (R : A → B → Type 0) (xs : List A) (ys : List B) (k : ℕ) (x : A) → AllZip R xs ys → k < length xs → get_or xs k x ≡ x → (y : B) × R x y
beside R [] ys k x all low at = absurd (omega (arith, low))
beside R (a ∷ xs) [] k x all low at = absurd all
beside R (a ∷ xs) (b ∷ ys) zero x all low at = (b, subst (λ z. R z b) at all.0)
beside R (a ∷ xs) (b ∷ ys) (suc k) x all low at = beside R xs ys k x all.1 (omega (arith, low)) at

pub scan_finds_none : (area : List ℕ) (s : Numbers) (records : List Record) (vids : List ℕ) (picks : List (List ℕ)) (page : ℕ) → AllZip (IsScanned area s records) vids picks
    → IsDamage area s vids page → ⊥
scan_finds_none area s records vids picks page all damage =
    none_damaged area s vids page (λ vid among.
    let it = beside (IsScanned area s records) vids picks among.0 vid all among.1 among.2
    in (records, it.0, it.1)) damage
