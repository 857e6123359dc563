-- Why a text is refused whatever the store has.
use Rattle.std.proofs.Common.{◌≡◌, ◌∙◌, ℕ, Bool, true, false, List, [], ◌∷◌, Some, None, ap}
use Rattle.std.specs.Prelude.{Option, ◌&&◌, not, if◌then◌else◌}
use Rattle.std.specs.List.{list_any}
use Rattle.std.proofs.lemmas.Option.{same_Some}
use Rattle.ov_model.specs.Act.{Session, refuses, unless}
use Rattle.ov_model.specs.Asking.{name_read, query_by, run_deed}
use Rattle.ov_model.specs.Joins.{join_deed}
use Rattle.ov_model.specs.QueryTexts.{Asked, BadByte, NoQuery, AsksQuery, AsksJoin}
use Rattle.ov_model.specs.Users.{is_admin, is_reserved, permit_names}
use Rattle.ov_model.specs.World.{World, cvd_in, set_named}
use Rattle.ov_model.specs.declared.refusal.Refusal.{Refusal}
use Rattle.ov_model.specs.declared.refusal.Refusal.TheVariants as no
use Rattle.ov_query.specs.Queries.{text_off}

-- ---- a refusal whatever the store has

-- is what the text means at any World
pub refused_run : (w : World) (s : Session) (user : List ℕ) (asked : Asked) (refusal : Refusal) → s.user ≡ user → text_off user asked ≡ Some refusal
    → run_deed w s asked ≡ refuses s refusal
refused_run w s user (BadByte at) refusal same is = ap (refuses s) (same_Some (no.BadByte at) refusal is)
refused_run w s user NoQuery refusal same is = ap (refuses s) (same_Some no.NotAQuery refusal is)
refused_run w s user (AsksQuery query) refusal same is =
    ap (λ (o : Option Refusal). unless s o (query_by s query (cvd_in (set_named w (name_read query.source)))))
    (ap (λ (u : List ℕ). permit_names u (name_read query.source ∷ [])) same ∙ is)
refused_run w s user (AsksJoin join) refusal same is =
    ap (λ (o : Option Refusal). unless s o (join_deed w s join))
    (ap (λ (u : List ℕ). permit_names u (join.left.cvd ∷ join.right.cvd ∷ [])) same ∙ is)

denied_not_70 : (b : Bool) (name : List ℕ) → (if b then Some (no.Denied 4) else None) ≡ Some (no.NoFile name) → ⊥
denied_not_70 true name is = cc
denied_not_70 false name is = cc

pub text_not_70 : (user : List ℕ) (asked : Asked) (name : List ℕ) → text_off user asked ≡ Some (no.NoFile name) → ⊥
text_not_70 user (BadByte at) name is = cc
text_not_70 user NoQuery name is = cc
text_not_70 user (AsksQuery query) name is = denied_not_70 (list_any is_reserved (name_read query.source ∷ []) && not (is_admin user)) name is
text_not_70 user (AsksJoin join) name is = denied_not_70 (list_any is_reserved (join.left.cvd ∷ join.right.cvd ∷ []) && not (is_admin user)) name is
