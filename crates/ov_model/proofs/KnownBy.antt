-- What the store's numbers know of a dataset says the same as the dataset itself.
use Rattle.std.proofs.Common.{◌≡◌, ℕ, zero, suc, ◌-◌, Bool, true, false, List, [], ◌∷◌, length, map, filter, if◌then◌else◌, refl, sym, ◌∙◌, ap, subst}
use Rattle.std.specs.Prelude.{◌||◌, ◌==◌, nat_lt, slice_index_or, Option, Some, None, Result, Ok, Err}
use Rattle.std.specs.List.{flat_map, list_any}
use Rattle.std.specs.Option.{option_or, option_map}
use Rattle.std.proofs.lemmas.List.{length-map}
use Rattle.ov_value.specs.declared.column.Kind.{Kind}
use Rattle.ov_model.specs.Act.{Session, Deed, refuses, tells, unless}
use Rattle.ov_model.specs.Answers.{pairs, pairs_of, source_vids, answer_text}
use Rattle.ov_model.specs.Asking.{answer_rows, answered, query_by, query_refusal}
use Rattle.ov_model.specs.Book.{Version, Cvd}
use Rattle.ov_model.specs.Joins.{join_kinds, join_over, side_in}
use Rattle.ov_model.specs.Kinds.{kinds}
use Rattle.ov_model.specs.Known.{cvd_like, join_off_by, known_of, query_off_by, refusal_in, sides_off, version_like, vids_read_by}
use Rattle.ov_model.specs.Lineages.{parents_at, is_above_in, is_relative, relatives}
use Rattle.ov_model.specs.Records.{counted}
use Rattle.ov_model.specs.declared.query.JoinQuery.{JoinQuery}
use Rattle.ov_model.specs.declared.query.LineageKind.{LineageKind}
use Rattle.ov_model.specs.declared.query.LineageKind.TheVariants.{Parents, Ancestors, Descendants}
use Rattle.ov_model.specs.declared.query.Query.{Query}
use Rattle.ov_model.specs.declared.query.Side.{Side}
use Rattle.ov_model.specs.declared.query.Src.{Src}
use Rattle.ov_model.specs.declared.query.Src.TheVariants as source
use Rattle.ov_model.specs.declared.refusal.Refusal.{Refusal}
use Rattle.ov_model.specs.declared.refusal.Refusal.TheVariants as no
use Rattle.ov_model.specs.declared.reply.Reply.TheVariants as says

-- ---- relatives

parents-like : (versions : List Version) → map (λ v. v.parents) (map version_like (map (λ v. v.parents) versions)) ≡ map (λ v. v.parents) versions
parents-like [] = refl
parents-like (v ∷ versions) = ap (λ rest. v.parents ∷ rest) (parents-like versions)

long-like : (cvd : Cvd) → length (cvd_like (known_of cvd)).versions ≡ length cvd.versions
long-like cvd = length-map (map (λ v. v.parents) cvd.versions) version_like ∙ length-map cvd.versions (λ v. v.parents)

at-like : (cvd : Cvd) (vid : ℕ) → parents_at (cvd_like (known_of cvd)).versions vid ≡ parents_at cvd.versions vid
at-like cvd vid = ap (λ (all : List (List ℕ)). slice_index_or all (vid - 1) []) (parents-like cvd.versions)

above-like : (cvd : Cvd) (steps vid child : ℕ) → is_above_in steps (cvd_like (known_of cvd)).versions vid child ≡ is_above_in steps cvd.versions vid child
above-like cvd zero vid child = refl
above-like cvd (suc steps) vid child = λ i. list_any (λ p. p == vid || above-like cvd steps vid p i) (at-like cvd child i)

relative-like : (cvd : Cvd) (kind : LineageKind) (vid other : ℕ) → is_relative (cvd_like (known_of cvd)).versions kind vid other ≡ is_relative cvd.versions kind vid other
relative-like cvd Parents vid other = ap (λ (ps : List ℕ). list_any (λ p. p == other) ps) (at-like cvd vid)
relative-like cvd Ancestors vid other = above-like cvd vid other vid
relative-like cvd Descendants vid other = above-like cvd other vid other

pub relatives-like : (cvd : Cvd) (kind : LineageKind) (vid : ℕ) → relatives (cvd_like (known_of cvd)) kind vid ≡ relatives cvd kind vid
relatives-like cvd kind vid = λ i. filter (λ other. relative-like cvd kind vid other i) (counted 1 (long-like cvd i))

-- ---- queries

vids-like : (cvd : Cvd) (src : Src) → source_vids (relatives (cvd_like (known_of cvd))) (cvd_like (known_of cvd)) src ≡ source_vids (relatives cvd) cvd src
vids-like cvd (source.Listed vids name) = refl
vids-like cvd (source.Whole name) = ap (counted 1) (long-like cvd)
vids-like cvd (source.Lineage kind vid name) = relatives-like cvd kind vid

pub reads-known : (query : Query) (cvd : Cvd) → pairs (relatives cvd) cvd query.source ≡ flat_map (pairs_of cvd) (vids_read_by query (Some (known_of cvd)))
reads-known query cvd = ap (flat_map (pairs_of cvd)) (sym (vids-like cvd query.source))

off-known : (query : Query) (cvd : Cvd) → query_off_by query (Some (known_of cvd)) ≡ option_or (query_refusal (length cvd.versions) query) (refusal_in (kinds query cvd.schema))
off-known query cvd = ap (λ (n : ℕ). option_or (query_refusal n query) (refusal_in (kinds query cvd.schema))) (length-map cvd.versions (λ v. v.parents))

-- refused so
refused-by : (s : Session) (query : Query) (cvd : Cvd) (first : Option Refusal) (of : Result (List Kind) Refusal) (refusal : Refusal) → option_or first (refusal_in of) ≡ Some refusal
    → unless s first (answered s query cvd of) ≡ refuses s refusal
refused-by s query cvd (Some why) of refusal e = ap (refuses s) (some-is why refusal e)
  where
    some-is : (a b : Refusal) → Some a ≡ Some b → a ≡ b
    some-is a b e = cc
refused-by s query cvd None (Err why) refusal e = ap (refuses s) (some-is why refusal e)
  where
    some-is : (a b : Refusal) → Some a ≡ Some b → a ≡ b
    some-is a b e = cc
refused-by s query cvd None (Ok of) refusal e = absurd cc

pub query-refused : (s : Session) (query : Query) (cvd : Cvd) (refusal : Refusal) → query_off_by query (Some (known_of cvd)) ≡ Some refusal → query_by s query (Some cvd) ≡ refuses s refusal
query-refused s query cvd refusal e =
    refused-by s query cvd (query_refusal (length cvd.versions) query) (kinds query cvd.schema) refusal (sym (off-known query cvd) ∙ e)

-- answered with columns of some kinds
abbrev IsAnswered : Session → Query → Cvd → Deed → Type 0
IsAnswered s query cvd d = (of : List Kind) × (d ≡ tells s (says.Answer (answer_text of (answer_rows query cvd)) (length (answer_rows query cvd))))

answered-by : (s : Session) (query : Query) (cvd : Cvd) (first : Option Refusal) (of : Result (List Kind) Refusal) → option_or first (refusal_in of) ≡ None
    → IsAnswered s query cvd (unless s first (answered s query cvd of))
answered-by s query cvd (Some why) of e = absurd cc
answered-by s query cvd None (Err why) e = absurd cc
answered-by s query cvd None (Ok of) e = (of, refl)

pub query-answered : (s : Session) (query : Query) (cvd : Cvd) → query_off_by query (Some (known_of cvd)) ≡ None → IsAnswered s query cvd (query_by s query (Some cvd))
query-answered s query cvd e =
    answered-by s query cvd (query_refusal (length cvd.versions) query) (kinds query cvd.schema) (sym (off-known query cvd) ∙ e)

-- ---- joins

-- of a side that is known by its dataset
abbrev SideIs : Result Cvd Refusal → Result Cvd Refusal → Type 0
SideIs (Err a) (Err b) = a ≡ b
SideIs (Err a) (Ok cvd) = ⊥
SideIs (Ok cvd) (Err b) = ⊥
SideIs (Ok a) (Ok b) = a.schema ≡ b.schema

side-if : (t : Bool) (refusal : Refusal) (a b : Cvd) → a.schema ≡ b.schema → SideIs (if t then Err refusal else Ok a) (if t then Err refusal else Ok b)
side-if true refusal a b same = refl
side-if false refusal a b same = same

side-like : (side : Side) (found : Option Cvd) → SideIs (side_in side (option_map cvd_like (option_map known_of found))) (side_in side found)
side-like side None = refl
side-like side (Some cvd) =
    subst (λ (n : ℕ). SideIs (if side.vid == 0 || nat_lt n side.vid then Err (no.NoVersion side.vid) else Ok (cvd_like (known_of cvd))) (side_in side (Some cvd)))
    (sym (long-like cvd))
    (side-if (side.vid == 0 || nat_lt (length cvd.versions) side.vid) (no.NoVersion side.vid) (cvd_like (known_of cvd)) cvd refl)

sides-same : (join : JoinQuery) (l r m q : Result Cvd Refusal) → SideIs l m → SideIs r q → sides_off join l r ≡ sides_off join m q
sides-same join (Err a) r (Err b) q left right = ap Some left
sides-same join (Err a) r (Ok m) q left right = absurd left
sides-same join (Ok l) r (Err b) q left right = absurd left
sides-same join (Ok l) (Err a) (Ok m) (Err b) left right = ap Some right
sides-same join (Ok l) (Err a) (Ok m) (Ok q) left right = absurd right
sides-same join (Ok l) (Ok r) (Ok m) (Err b) left right = absurd right
sides-same join (Ok l) (Ok r) (Ok m) (Ok q) left right = λ i. refusal_in (join_kinds join (left i) (right i))

join-known : (join : JoinQuery) (left right : Option Cvd)
    → join_off_by join (option_map known_of left) (option_map known_of right) ≡ sides_off join (side_in join.left left) (side_in join.right right)
join-known join left right =
    sides-same join (side_in join.left (option_map cvd_like (option_map known_of left))) (side_in join.right (option_map cvd_like (option_map known_of right)))
    (side_in join.left left) (side_in join.right right) (side-like join.left left) (side-like join.right right)

kinds-refused : (s : Session) (join : JoinQuery) (left right : Cvd) (of : Result (List Kind) Refusal) (refusal : Refusal) → join_kinds join left.schema right.schema ≡ of
    → refusal_in of ≡ Some refusal → join_over s join (Ok left) (Ok right) ≡ refuses s refusal
kinds-refused s join left right (Ok of) refusal is e = absurd cc
kinds-refused s join left right (Err why) refusal is e =
    let same : why ≡ refusal = cc in rw is (ap (refuses s) same)

over-refused : (s : Session) (join : JoinQuery) (l r : Result Cvd Refusal) (refusal : Refusal) → sides_off join l r ≡ Some refusal → join_over s join l r ≡ refuses s refusal
over-refused s join (Err why) r refusal e = let same : why ≡ refusal = cc in ap (refuses s) same
over-refused s join (Ok left) (Err why) refusal e = let same : why ≡ refusal = cc in ap (refuses s) same
over-refused s join (Ok left) (Ok right) refusal e = kinds-refused s join left right (join_kinds join left.schema right.schema) refusal refl e

pub join-refused : (s : Session) (join : JoinQuery) (left right : Option Cvd) (refusal : Refusal) → join_off_by join (option_map known_of left) (option_map known_of right) ≡ Some refusal
    → join_over s join (side_in join.left left) (side_in join.right right) ≡ refuses s refusal
join-refused s join left right refusal e =
    over-refused s join (side_in join.left left) (side_in join.right right) refusal (sym (join-known join left right) ∙ e)

-- both sides are there, and the join is in order over them
abbrev AreJoined : JoinQuery → Result Cvd Refusal → Result Cvd Refusal → Type 0
AreJoined join l r = (left : Cvd) × (right : Cvd) × (of : List Kind) × (l ≡ Ok left) × (r ≡ Ok right) × (join_kinds join left.schema right.schema ≡ Ok of)

kinds-taken : (join : JoinQuery) (left right : Cvd) (of : Result (List Kind) Refusal) → join_kinds join left.schema right.schema ≡ of → refusal_in of ≡ None
    → AreJoined join (Ok left) (Ok right)
kinds-taken join left right (Err why) is e = absurd cc
kinds-taken join left right (Ok of) is e = (left, right, of, refl, refl, is)

over-taken : (join : JoinQuery) (l r : Result Cvd Refusal) → sides_off join l r ≡ None → AreJoined join l r
over-taken join (Err why) r e = absurd cc
over-taken join (Ok left) (Err why) e = absurd cc
over-taken join (Ok left) (Ok right) e = kinds-taken join left right (join_kinds join left.schema right.schema) refl e

pub join-taken : (join : JoinQuery) (left right : Option Cvd) → join_off_by join (option_map known_of left) (option_map known_of right) ≡ None
    → AreJoined join (side_in join.left left) (side_in join.right right)
join-taken join left right e = over-taken join (side_in join.left left) (side_in join.right right) (sym (join-known join left right) ∙ e)
