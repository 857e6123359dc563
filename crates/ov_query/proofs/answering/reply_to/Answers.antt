use Rattle.std.proofs.Common.{◌≡◌, ◌≤◌, ◌+◌, ℕ, List, Some, subst}
use Rattle.std.specs.Prelude.{IfErr, IfOk, OnOk, Option}
use Rattle.ov_model.specs.Asking.{name_read}
use Rattle.ov_model.specs.declared.refusal.Refusal.{Refusal}
use Rattle.ov_store.specs.Scanning.{set_in}
use Rattle.ov_query.specs.Answering.{IsListedBy}
use Rattle.ov_query.specs.Queries.{IsDamagedRead, IsReplyBy, IsUnread, Set, bytes_read, one_read}
use Rattle.ov_query.proofs.Listed.{by_lists, listed_refused, world_lists}
use Rattle.ov_query.proofs.Numbering.{refuses_so}
use Rattle.ov_query.proofs.answering.reply_to.Goals as goal

-- ---- a query with lists in place of its lineages

pub returns-in-Query-clause-fetched : goal.returns-in-Query-clause-fetched
returns-in-Query-clause-fetched g c =
    let query = c.args.query.now
    in let n = c.args.store.now.held.numbers
    in by_lists n query c.in-Query.resolved (subst (IsListedBy (set_in n (name_read query.source)) query) c.in-Query.is c.in_ok-resolved.ensures)
    (λ (o : Option Refusal) (set : Option Set) (vids : List ℕ). (g.H.Host.state c.reply_to_lists-in-Query.new.host).fetched
    ≤ (g.H.Host.state c.args.host.now).fetched + bytes_read o (one_read set vids))
    c.reply_to_lists-in-Query.ensures.fetched

pub returns-in-Query-clause-unread : goal.returns-in-Query-clause-unread
returns-in-Query-clause-unread g c = λ refusal is.
    let query = c.args.query.now
    in let n = c.args.store.now.held.numbers
    in by_lists n query c.in-Query.resolved (subst (IsListedBy (set_in n (name_read query.source)) query) c.in-Query.is c.in_ok-resolved.ensures)
    (λ (o : Option Refusal) (set : Option Set) (vids : List ℕ). o ≡ Some refusal → g.H.Host.state c.reply_to_lists-in-Query.new.host ≡ g.H.Host.state c.args.host.now)
    (c.reply_to_lists-in-Query.ensures.unread refusal) is

pub returns-in-Query-clause-reply : goal.returns-in-Query-clause-reply
returns-in-Query-clause-reply g c =
    let query = c.args.query.now
    in let n = c.args.store.now.held.numbers
    in by_lists n query c.in-Query.resolved (subst (IsListedBy (set_in n (name_read query.source)) query) c.in-Query.is c.in_ok-resolved.ensures)
    (λ (o : Option Refusal) (set : Option Set) (vids : List ℕ). IfOk c.reply_to_lists-in-Query.result (IsReplyBy o))
    c.reply_to_lists-in-Query.ensures.reply

pub returns-in-Query-clause-why : goal.returns-in-Query-clause-why
returns-in-Query-clause-why g c =
    let query = c.args.query.now
    in let n = c.args.store.now.held.numbers
    in by_lists n query c.in-Query.resolved (subst (IsListedBy (set_in n (name_read query.source)) query) c.in-Query.is c.in_ok-resolved.ensures)
    (λ (o : Option Refusal) (set : Option Set) (vids : List ℕ). IfErr c.reply_to_lists-in-Query.result
    (IsUnread o (one_read set vids) (g.H.Host.state c.args.host.now) (g.H.Host.state c.reply_to_lists-in-Query.new.host)))
    c.reply_to_lists-in-Query.ensures.why

pub returns-in-Query-clause-whole : goal.returns-in-Query-clause-whole
returns-in-Query-clause-whole g c = λ page told.
    let query = c.args.query.now
    in let n = c.args.store.now.held.numbers
    in by_lists n query c.in-Query.resolved (subst (IsListedBy (set_in n (name_read query.source)) query) c.in-Query.is c.in_ok-resolved.ensures)
    (λ (o : Option Refusal) (set : Option Set) (vids : List ℕ). OnOk c.reply_to_lists-in-Query.result (IsDamagedRead o (one_read set vids) (g.H.Host.state c.args.host.now) page → ⊥))
    (c.reply_to_lists-in-Query.ensures.whole page told)

pub returns-in-Query-clause-world : goal.returns-in-Query-clause-world
returns-in-Query-clause-world g c = λ w s at.
    let query = c.args.query.now
    in let held = c.args.store.now.held
    in world_lists w held (g.H.Host.state c.args.host.now) at s query c.in-Query.resolved
    (subst (IsListedBy (set_in held.numbers (name_read query.source)) query) c.in-Query.is c.in_ok-resolved.ensures)
    c.reply_to_lists-in-Query.result (c.reply_to_lists-in-Query.ensures.world w s at)

-- ---- a dataset, or the version of a lineage, that isn't there

pub returns-in-Refused-clause-world : goal.returns-in-Refused-clause-world
returns-in-Refused-clause-world g c = λ w s at.
    let query = c.args.query.now
    in let held = c.args.store.now.held
    in refuses_so w held (g.H.Host.state c.args.host.now) at s query c.in-Refused.refusal
    (listed_refused (set_in held.numbers (name_read query.source)) query c.in-Refused.refusal
    (subst (IsListedBy (set_in held.numbers (name_read query.source)) query) c.in-Refused.is c.in_ok-resolved.ensures))
