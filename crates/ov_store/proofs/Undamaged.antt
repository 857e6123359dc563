-- What a commit has read isn't damaged.
use Rattle.std.proofs.Common.{◌≡◌, ◌==◌, ℕ, true, List, [], ◌∷◌, Some, None, sym, ◌∙◌, ap, subst, inl, inr}
use Rattle.std.specs.List.{AllZip}
use Rattle.std.proofs.lemmas.List.Sorted.{list_any-IsPermutation}
use Rattle.ov_segment.specs.declared.numbered.Record.{Record}
use Rattle.ov_member.specs.Rids.{has}
use Rattle.ov_host.specs.Host.{State}
use Rattle.ov_fetch.specs.declared.errors.FetchErr.TheVariants as fetch
use Rattle.ov_fetch.specs.Extents.{page_bytes, rids_of}
use Rattle.ov_fetch.specs.Rows.{joined as joined_records, record_of}
use Rattle.ov_model.specs.Book.{Row}
use Rattle.ov_model.specs.Lists.{IsIn, joined}
use Rattle.ov_catalog.proofs.Members.{all_at, in_map, left_in, of_append, of_map, right_in}
use Rattle.ov_records.specs.Records.{lists_of, pairs_of}
use Rattle.law_commits.specs.Agreeing.{ParentsAgree}
use Rattle.law_commits.proofs.Kept.{none_disagrees}
use Rattle.ov_read.specs.Agreement.{Numbers, segments_of}
use Rattle.law_reads.proofs.Stored.{segments_once}
use Rattle.law_reads.proofs.Together.{has_in, in_has}
use Rattle.law_reads.proofs.Undamaged.{beside, none_damaged, one_list}
use Rattle.ov_parents.specs.Parents.{AreDiffering, IsParent, RefusesParents}
use Rattle.ov_new_version.specs.Joined.{RefusesJoined, joined_of}
use Rattle.ov_new_version.proofs.Undamaged.{read_whole}
use Rattle.ov_store.specs.Changes.{Bringing}
use Rattle.ov_store.specs.Committing.{AreRead, IsCommitBy, Set, Wish, asked_of}

-- ---- of one version there are the same records, however often it is read

some_record : (a b : Record) → Some a ≡ Some b → a ≡ b
some_record a b e = ap (λ o. elim o as (λ _. Record) [ None ↦ a | Some x ↦ x ]) e

again : (area : List ℕ) (s : Numbers) (vid : ℕ) (p q : List Record) → IsParent area s vid p → IsParent area s vid q → (r : Record) → IsIn q r → IsIn p r
again area s vid p q here there r is =
    let a = here.scanned
    in let b = there.scanned
    in let among : IsIn b.found r = subst (λ (rs : List Record). IsIn rs r) there.found_is is
    in let lists : b.rids ≡ a.rids = one_list _ b.rids a.rids b.list.spells a.list.spells
    in let contents : b.first.contents ≡ a.first.contents = segments_once s.schema area (segments_of s vid) b.first.contents a.first.contents b.first.read a.first.read
    in let rid : has (rids_of a.found) r.rid ≡ true =
    sym (list_any-IsPermutation (λ x. x == r.rid) a.rids (rids_of a.found) a.picked.same)
    ∙ ap (λ l. has l r.rid) (sym lists)
    ∙ list_any-IsPermutation (λ x. x == r.rid) b.rids (rids_of b.found) b.picked.same
    ∙ in_has (rids_of b.found) r.rid (in_map (λ x. x.rid) b.found r among)
    in let of = of_map (λ x. x.rid) a.found r.rid (has_in (rids_of a.found) r.rid rid)
    in let first : record_of (joined_records b.first.contents) r.rid ≡ Some r = all_at (λ x. record_of (joined_records b.first.contents) x.rid ≡ Some x) b.found r b.first.first among
    in let other : record_of (joined_records a.first.contents) of.0.rid ≡ Some of.0 = all_at (λ x. record_of (joined_records a.first.contents) x.rid ≡ Some x) a.found of.0 a.first.first of.1.0
    in let same : of.0 ≡ r = some_record of.0 r (sym other ∙ ap (record_of (joined_records a.first.contents)) (sym of.1.1) ∙ ap (λ cs. record_of (joined_records cs) r.rid) (sym contents) ∙ first)
    in subst (λ (rs : List Record). IsIn rs r) (sym here.found_is) (subst (IsIn a.found) same of.1.0)

pairs_again : (area : List ℕ) (s : Numbers) (vid : ℕ) (p q : List Record) → IsParent area s vid p → IsParent area s vid q → (x : ℕ × Row) → IsIn (pairs_of q) x → IsIn (pairs_of p) x
pairs_again area s vid p q here there x is =
    let of = of_map (λ r. (r.rid, r.row)) q x is
    in subst (IsIn (pairs_of p)) (sym of.1.1) (in_map (λ r. (r.rid, r.row)) p of.0 (again area s vid p q here there of.0 of.1.0))

all_again : (area : List ℕ) (s : Numbers) (vids : List ℕ) (ps qs : List (List Record)) → AllZip (IsParent area s) vids ps → AllZip (IsParent area s) vids qs
    → (x : ℕ × Row) → IsIn (joined (lists_of qs)) x → IsIn (joined (lists_of ps)) x
all_again area s [] [] [] here there x is = is
all_again area s [] (p ∷ ps) qs here there x is = absurd here
all_again area s [] [] (q ∷ qs) here there x is = absurd there
all_again area s (vid ∷ vids) [] qs here there x is = absurd here
all_again area s (vid ∷ vids) (p ∷ ps) [] here there x is = absurd there
all_again area s (vid ∷ vids) (p ∷ ps) (q ∷ qs) here there x is =
    elim (of_append (pairs_of q) (joined (lists_of qs)) x is) [
      | inl first ↦ left_in (pairs_of p) (joined (lists_of ps)) x (pairs_again area s vid p q here.0 there.0 x first)
      | inr later ↦ right_in (pairs_of p) (joined (lists_of ps)) x (all_again area s vids ps qs here.1 there.1 x later)
    ]

-- ---- so what was read is not damaged

differ_not : (area : List ℕ) (s : Numbers) (vids : List ℕ) (parents : List (List Record)) (page : ℕ) → AllZip (IsParent area s) vids parents → ParentsAgree s vids parents
    → AreDiffering area s vids page → ⊥
differ_not area s vids parents page read agree differ =
    let include = all_again area s vids parents differ.parents read differ.read
    in let none : Some differ.place ≡ None
    = none_disagrees (lists_of differ.parents) (Some differ.place)
    (λ a b in_a in_b same. agree.none_differ a b (include a in_a) (include b in_b) same) differ.first
    in cc

pub parents_whole : (area : List ℕ) (s : Numbers) (vids : List ℕ) (parents : List (List Record)) (page : ℕ) → AllZip (IsParent area s) vids parents → ParentsAgree s vids parents
    → RefusesParents (fetch.Damaged page) area s vids → ⊥
parents_whole area s vids parents page read agree (inl damage) =
    none_damaged area s vids page (λ vid among.
    let it = beside (IsParent area s) vids parents among.0 vid read among.1 among.2
    in (it.1.records, it.1.pick, it.1.scanned)) damage
parents_whole area s vids parents page read agree (inr differ) = differ_not area s vids parents page read agree differ

pub read_not_damaged : (s : Set) (wish : Wish) (t : State) (parents : List (List Record)) (page : ℕ) → t.tells ≡ true → AreRead s wish t parents
    → RefusesParents (fetch.Damaged page) (page_bytes t) s wish.vids → ⊥
read_not_damaged s wish t parents page told are = parents_whole (page_bytes t) s wish.vids parents page (are.read told) are.agree

pub joined_not_damaged : (s : Set) (wish : Wish) (t : State) (b : Bringing) (fresh page : ℕ) (by : IsCommitBy s wish t b fresh) → t.tells ≡ true
    → RefusesJoined (fetch.Damaged page) s (page_bytes t) (joined_of (asked_of s wish by.parents)) → ⊥
joined_not_damaged s wish t b fresh page by told =
    read_whole s (page_bytes t) (joined_of (asked_of s wish by.parents)) by.commit.held page (by.commit.read told)
