use Rattle.std.proofs.Common.{◌≡◌, ◌∙◌, List, Some, ap, subst}
use Rattle.std.specs.Prelude.{OnOk, Option}
use Rattle.ov_model.specs.QueryTexts.{asked_of}
use Rattle.ov_model.specs.declared.refusal.Refusal.{Refusal}
use Rattle.ov_model.specs.declared.refusal.Refusal.TheVariants as no
use Rattle.ov_query.specs.Answering.{IsPermittedBy}
use Rattle.ov_query.specs.Queries.{IsDamagedRead, Reading}
use Rattle.ov_query.proofs.Asked.{spelled}
use Rattle.ov_query.proofs.Permits.{by_join, by_query, join_with, query_replies, run_with}
use Rattle.ov_query.proofs.Refused.{refused_run, text_not_70}
use Rattle.ov_query.proofs.answering.answer_to.Goals as goal

-- ---- a query

pub returns-in-Query-clause-reply : goal.returns-in-Query-clause-reply
returns-in-Query-clause-reply g c =
    query_replies c.args.store.now.held.numbers c.args.user.now (asked_of c.args.text.now) c.in-Query.query
    (subst (IsPermittedBy c.args.user.now (asked_of c.args.text.now)) c.in-Query.is c.in_ok-query.ensures) (g.H.Host.state c.args.host.now) c.reply_to.result
    c.reply_to.ensures.reply

pub returns-in-Query-clause-whole : goal.returns-in-Query-clause-whole
returns-in-Query-clause-whole g c = λ page told.
    by_query c.args.store.now.held.numbers c.args.user.now (asked_of c.args.text.now) c.in-Query.query
    (subst (IsPermittedBy c.args.user.now (asked_of c.args.text.now)) c.in-Query.is c.in_ok-query.ensures)
    (λ (o : Option Refusal) (reads : List Reading). OnOk c.reply_to.result (IsDamagedRead o reads (g.H.Host.state c.args.host.now) page → ⊥))
    (c.reply_to.ensures.whole page told)

pub returns-in-Query-clause-world : goal.returns-in-Query-clause-world
returns-in-Query-clause-world g c = λ w s at same.
    run_with c.args.store.now.held.numbers c.args.user.now (asked_of c.args.text.now) c.in-Query.query
    (subst (IsPermittedBy c.args.user.now (asked_of c.args.text.now)) c.in-Query.is c.in_ok-query.ensures) w s same c.reply_to.result
    (c.reply_to.ensures.world w s at)

-- ---- a join

pub reply_to_join-requires-clause-spelled : goal.reply_to_join-requires-clause-spelled
reply_to_join-requires-clause-spelled g c =
    let it = subst (IsPermittedBy c.args.user.now (asked_of c.args.text.now)) c.in-Join.is c.in_ok-query.ensures
    in spelled c.args.text.now c.in-Join.join it.is

pub returns-in-Join-clause-whole : goal.returns-in-Join-clause-whole
returns-in-Join-clause-whole g c = λ page told.
    by_join c.args.store.now.held.numbers c.args.user.now (asked_of c.args.text.now) c.in-Join.join
    (subst (IsPermittedBy c.args.user.now (asked_of c.args.text.now)) c.in-Join.is c.in_ok-query.ensures)
    (λ (o : Option Refusal) (reads : List Reading). OnOk c.reply_to_join.result (IsDamagedRead o reads (g.H.Host.state c.args.host.now) page → ⊥))
    (c.reply_to_join.ensures.whole page told)

pub returns-in-Join-clause-world : goal.returns-in-Join-clause-world
returns-in-Join-clause-world g c = λ w s at same.
    join_with c.args.store.now.held.numbers c.args.user.now (asked_of c.args.text.now) c.in-Join.join
    (subst (IsPermittedBy c.args.user.now (asked_of c.args.text.now)) c.in-Join.is c.in_ok-query.ensures) w s same c.reply_to_join.result
    (c.reply_to_join.ensures.world w s at)

-- ---- what is refused whatever the store has

pub returns-in-Refused-clause-seen : goal.returns-in-Refused-clause-seen
returns-in-Refused-clause-seen g c = λ name is.
    let off = subst (IsPermittedBy c.args.user.now (asked_of c.args.text.now)) c.in-Refused.is c.in_ok-query.ensures
    in let file : c.in-Refused.refusal ≡ no.NoFile name = cc
    in text_not_70 c.args.user.now (asked_of c.args.text.now) name (off ∙ ap Some file)

pub returns-in-Refused-clause-world : goal.returns-in-Refused-clause-world
returns-in-Refused-clause-world g c = λ w s at same.
    refused_run w s c.args.user.now (asked_of c.args.text.now) c.in-Refused.refusal same
    (subst (IsPermittedBy c.args.user.now (asked_of c.args.text.now)) c.in-Refused.is c.in_ok-query.ensures)
