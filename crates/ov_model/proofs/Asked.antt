-- An answer is of the book; the lineages of a condition by cases.
use Rattle.std.proofs.Common.{◌≡◌, ℕ, Bool, List, [], ◌∷◌, map, refl, sym, ◌∙◌, ap}
use Rattle.ov_model.specs.Act.{Session, unless}
use Rattle.ov_model.specs.Asking.{lineages_step, cond_lineages, name_read, query_by, run_deed}
use Rattle.ov_model.specs.Lists.{joined}
use Rattle.ov_model.specs.QueryTexts.{Asked, BadByte, NoQuery, AsksQuery, AsksJoin}
use Rattle.ov_model.proofs.Alike.{first_named, found_in_book}
use Rattle.ov_model.proofs.Joining.{join_of_book}
use Rattle.ov_model.specs.Users.{permit_names}
use Rattle.ov_model.specs.World.{World, book}
use Rattle.ov_model.specs.declared.query.Cond.{Cond}
use Rattle.ov_model.specs.declared.query.Cond.TheOpen.{Cond-F}
use Rattle.ov_model.specs.declared.query.Cond.TheFolds.{fold-roll-Cond}
use Rattle.ov_model.specs.declared.query.Cond.TheVariants.{Compare, IsNull, InLineage, InList, Not, Every, Any, rolls-Compare, rolls-IsNull, rolls-InLineage, rolls-InList, rolls-Not, rolls-Every, rolls-Any}
use Rattle.ov_model.specs.declared.query.LineageKind.{LineageKind}
use Rattle.ov_model.specs.declared.query.Operand.{Operand}
use Rattle.ov_model.specs.declared.query.Sign.{Sign}
use Rattle.ov_model.specs.declared.query.Query.{Query}

query_of_book : (w v : World) (s : Session) (query : Query) → book w ≡ book v → run_deed w s (AsksQuery query) ≡ run_deed v s (AsksQuery query)
query_of_book w v s query same =
    ap (λ cvd. unless s (permit_names s.user (name_read query.source ∷ [])) (query_by s query cvd))
    (found_in_book (name_read query.source) w.sets ∙ ap (first_named (name_read query.source)) same ∙ sym (found_in_book (name_read query.source) v.sets))

pub run_of_book : (w v : World) (s : Session) (asked : Asked) → book w ≡ book v → run_deed w s asked ≡ run_deed v s asked
run_of_book w v s (BadByte at) same = refl
run_of_book w v s NoQuery same = refl
run_of_book w v s (AsksQuery query) same = query_of_book w v s query same
run_of_book w v s (AsksJoin join) same = ap (unless s (permit_names s.user (join.left.cvd ∷ join.right.cvd ∷ []))) (join_of_book w v s join same)

pub lineages-compare : (left : Operand) (by : Sign) (right : Operand) → cond_lineages (Compare left by right) ≡ []
lineages-compare left by right = ap cond_lineages (sym (rolls-Compare left by right)) ∙ fold-roll-Cond (List ℕ) lineages_step (Cond-F.Compare left by right)

pub lineages-null : (x : Operand) (negated : Bool) → cond_lineages (IsNull x negated) ≡ []
lineages-null x negated = ap cond_lineages (sym (rolls-IsNull x negated)) ∙ fold-roll-Cond (List ℕ) lineages_step (Cond-F.IsNull x negated)

pub lineages-lineage : (kind : LineageKind) (vid : ℕ) (negated : Bool) → cond_lineages (InLineage kind vid negated) ≡ vid ∷ []
lineages-lineage kind vid negated = ap cond_lineages (sym (rolls-InLineage kind vid negated)) ∙ fold-roll-Cond (List ℕ) lineages_step (Cond-F.InLineage kind vid negated)

pub lineages-list : (vids : List ℕ) (negated : Bool) → cond_lineages (InList vids negated) ≡ []
lineages-list vids negated = ap cond_lineages (sym (rolls-InList vids negated)) ∙ fold-roll-Cond (List ℕ) lineages_step (Cond-F.InList vids negated)

pub lineages-not : (c : Cond) → cond_lineages (Not c) ≡ cond_lineages c
lineages-not c = ap cond_lineages (sym (rolls-Not c)) ∙ fold-roll-Cond (List ℕ) lineages_step (Cond-F.Not c)

pub lineages-every : (cs : List Cond) → cond_lineages (Every cs) ≡ joined (map cond_lineages cs)
lineages-every cs = ap cond_lineages (sym (rolls-Every cs)) ∙ fold-roll-Cond (List ℕ) lineages_step (Cond-F.Every cs)

pub lineages-any : (cs : List Cond) → cond_lineages (Any cs) ≡ joined (map cond_lineages cs)
lineages-any cs = ap cond_lineages (sym (rolls-Any cs)) ∙ fold-roll-Cond (List ℕ) lineages_step (Cond-F.Any cs)
