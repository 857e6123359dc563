-- A query or join that its user may ask: what is said of it is said of its text.
use Rattle.std.proofs.Common.{◌≡◌, ◌∙◌, ℕ, List, [], ◌∷◌, sym, ap, subst}
use Rattle.std.specs.Prelude.{IfOk, Option, Result, Ok, Err}
use Rattle.std.specs.Option.{option_or}
use Rattle.ov_host.specs.declared.area.Extent.{Extent}
use Rattle.ov_host.specs.Host.{State}
use Rattle.ov_catalog.specs.Numbers.{Numbers}
use Rattle.ov_model.specs.Act.{Session, tells, unless}
use Rattle.ov_model.specs.Asking.{name_read, query_by, run_deed}
use Rattle.ov_model.specs.Joins.{join_deed}
use Rattle.ov_model.specs.QueryTexts.{Asked, AsksQuery, AsksJoin}
use Rattle.ov_model.specs.Users.{permit_names}
use Rattle.ov_model.specs.World.{World, cvd_in, set_named}
use Rattle.ov_model.specs.declared.query.JoinQuery.{JoinQuery}
use Rattle.ov_model.specs.declared.query.Query.{Query}
use Rattle.ov_model.specs.declared.refusal.Refusal.{Refusal}
use Rattle.ov_model.specs.declared.reply.Reply.{Reply}
use Rattle.ov_store.specs.Scanning.{set_in}
use Rattle.ov_store.specs.declared.errors.StoreErr.{StoreErr}
use Rattle.ov_query.specs.Answering.{IsPermittedJoin, IsPermittedQuery}
use Rattle.ov_query.specs.Joining.{IsReplyFor}
use Rattle.ov_query.specs.Queries.{IsReplyBy, Reading, Set, asked_off, asked_reads, join_off, join_reads, one_read, set_off, vids_read}

module _ (n : Numbers Extent Extent) (user : List ℕ) (asked : Asked) (query : Query) (it : IsPermittedQuery user asked query) where
  abbrev set : Option Set
  set = set_in n (name_read query.source)

  allowed_is : asked_off n user (AsksQuery query) ≡ set_off query set
  allowed_is = ap (λ (o : Option Refusal). option_or o (set_off query set)) it.allowed

  -- by why it is refused, and what it reads
  pub by_query : (P : Option Refusal → List Reading → Type 0) → P (set_off query set) (one_read set (vids_read query.source set))
      → P (asked_off n user asked) (asked_reads n asked)
  by_query P holds =
      subst (λ (a : Asked). P (asked_off n user a) (asked_reads n a)) (sym it.is)
      (subst (λ (o : Option Refusal). P o (one_read set (vids_read query.source set))) (sym allowed_is) holds)

  query_replied : (s : State) (reply : Reply) → IsReplyBy (set_off query set) reply → IsReplyFor n user asked s reply
  query_replied s reply is =
      subst (λ (a : Asked). IsReplyFor n user a s reply) (sym it.is) (subst (λ (o : Option Refusal). IsReplyBy o reply) (sym allowed_is) is)

  pub query_replies : (s : State) (result : Result Reply StoreErr) → IfOk result (IsReplyBy (set_off query set)) → IfOk result (IsReplyFor n user asked s)
  query_replies s (Ok reply) is = query_replied s reply is
  query_replies s (Err e) is = tt

  run_is : (w : World) (s : Session) → s.user ≡ user → run_deed w s asked ≡ query_by s query (cvd_in (set_named w (name_read query.source)))
  run_is w s same =
      ap (run_deed w s) it.is
      ∙ ap (λ (o : Option Refusal). unless s o (query_by s query (cvd_in (set_named w (name_read query.source)))))
      (ap (λ (u : List ℕ). permit_names u (name_read query.source ∷ [])) same ∙ it.allowed)

  pub run_with : (w : World) (s : Session) → s.user ≡ user → (result : Result Reply StoreErr)
      → IfOk result (λ reply. query_by s query (cvd_in (set_named w (name_read query.source))) ≡ tells s reply) → IfOk result (λ reply. run_deed w s asked ≡ tells s reply)
  run_with w s same (Ok reply) is = run_is w s same ∙ is
  run_with w s same (Err e) is = tt

module _ (n : Numbers Extent Extent) (user : List ℕ) (asked : Asked) (join : JoinQuery) (it : IsPermittedJoin user asked join) where
  abbrev left : Option Set
  left = set_in n join.left.cvd

  abbrev right : Option Set
  right = set_in n join.right.cvd

  sides_are : asked_off n user (AsksJoin join) ≡ join_off join left right
  sides_are = ap (λ (o : Option Refusal). option_or o (join_off join left right)) it.allowed

  pub by_join : (P : Option Refusal → List Reading → Type 0) → P (join_off join left right) (join_reads join left right)
      → P (asked_off n user asked) (asked_reads n asked)
  by_join P holds =
      subst (λ (a : Asked). P (asked_off n user a) (asked_reads n a)) (sym it.is)
      (subst (λ (o : Option Refusal). P o (join_reads join left right)) (sym sides_are) holds)

  join_is : (w : World) (s : Session) → s.user ≡ user → run_deed w s asked ≡ join_deed w s join
  join_is w s same =
      ap (run_deed w s) it.is
      ∙ ap (λ (o : Option Refusal). unless s o (join_deed w s join))
      (ap (λ (u : List ℕ). permit_names u (join.left.cvd ∷ join.right.cvd ∷ [])) same ∙ it.allowed)

  pub join_with : (w : World) (s : Session) → s.user ≡ user → (result : Result Reply StoreErr)
      → IfOk result (λ reply. join_deed w s join ≡ tells s reply) → IfOk result (λ reply. run_deed w s asked ≡ tells s reply)
  join_with w s same (Ok reply) is = join_is w s same ∙ is
  join_with w s same (Err e) is = tt
