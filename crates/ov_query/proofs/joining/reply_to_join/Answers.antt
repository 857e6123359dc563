use Rattle.std.proofs.Common.{◌≡◌, ◌≤◌, ◌+◌, None, sym, subst}
use Rattle.std.specs.Prelude.{IfErr, IfOk, OnOk, Option}
use Rattle.ov_model.specs.Act.{tells}
use Rattle.ov_model.specs.Joins.{join_deed}
use Rattle.ov_model.specs.declared.query.JoinQuery.{JoinQuery}
use Rattle.ov_model.specs.declared.refusal.Refusal.{Refusal}
use Rattle.ov_store.specs.Scanning.{set_in}
use Rattle.ov_query.proofs.Joined.{join_refuses, joined_seen, whole_join}
use Rattle.ov_query.proofs.Known.{off_none}
use Rattle.ov_query.specs.Joining.{IsFitted, IsJoinReply, IsJoinReplyBy}
use Rattle.ov_query.specs.Queries.{AreDamaged, IsUnread, bytes_of_all, bytes_read, join_off, join_reads}
use Rattle.ov_query.proofs.joining.reply_to_join.Goals as goal

-- ---- a join that fits: what is said of it is said of the join, which nothing refuses

pub returns-in-Typed-clause-fetched : goal.returns-in-Typed-clause-fetched
returns-in-Typed-clause-fetched g c =
    let n = c.args.store.now.held.numbers
    in let join = c.args.join.now
    in let left = set_in n join.left.cvd
    in let right = set_in n join.right.cvd
    in let fits = subst (IsFitted join left right) c.in-Typed.is c.in_ok-typed.ensures.fitted
    in subst (λ (o : Option Refusal). (g.H.Host.state c.read_and_join.new.host).fetched ≤ (g.H.Host.state c.args.host.now).fetched + bytes_read o (join_reads join left right))
    (sym (off_none join left right c.in-Typed.typed.left c.in-Typed.typed.right fits.left_there fits.right_there fits.fits))
    (subst (λ (j : JoinQuery). (g.H.Host.state c.read_and_join.new.host).fetched ≤ (g.H.Host.state c.args.host.now).fetched
    + bytes_of_all (join_reads j (set_in n j.left.cvd) (set_in n j.right.cvd))) fits.is c.read_and_join.ensures.fetched)

pub returns-in-Typed-clause-unread : goal.returns-in-Typed-clause-unread
returns-in-Typed-clause-unread g c = λ refusal is.
    let n = c.args.store.now.held.numbers
    in let join = c.args.join.now
    in let left = set_in n join.left.cvd
    in let right = set_in n join.right.cvd
    in let fits = subst (IsFitted join left right) c.in-Typed.is c.in_ok-typed.ensures.fitted
    in let none = off_none join left right c.in-Typed.typed.left c.in-Typed.typed.right fits.left_there fits.right_there fits.fits
    in absurd cc

pub returns-in-Typed-clause-reply : goal.returns-in-Typed-clause-reply
returns-in-Typed-clause-reply g c =
    let n = c.args.store.now.held.numbers
    in let join = c.args.join.now
    in let left = set_in n join.left.cvd
    in let right = set_in n join.right.cvd
    in let fits = subst (IsFitted join left right) c.in-Typed.is c.in_ok-typed.ensures.fitted
    in subst (λ (o : Option Refusal). IfOk c.read_and_join.result (IsJoinReplyBy o join left right (g.H.Host.state c.args.host.now)))
    (sym (off_none join left right c.in-Typed.typed.left c.in-Typed.typed.right fits.left_there fits.right_there fits.fits))
    (subst (λ (j : JoinQuery). IfOk c.read_and_join.result (IsJoinReply j (set_in n j.left.cvd) (set_in n j.right.cvd) (g.H.Host.state c.args.host.now))) fits.is
    c.read_and_join.ensures.reply)

pub returns-in-Typed-clause-why : goal.returns-in-Typed-clause-why
returns-in-Typed-clause-why g c =
    let n = c.args.store.now.held.numbers
    in let join = c.args.join.now
    in let left = set_in n join.left.cvd
    in let right = set_in n join.right.cvd
    in let fits = subst (IsFitted join left right) c.in-Typed.is c.in_ok-typed.ensures.fitted
    in subst (λ (o : Option Refusal). IfErr c.read_and_join.result (IsUnread o (join_reads join left right) (g.H.Host.state c.args.host.now) (g.H.Host.state c.read_and_join.new.host)))
    (sym (off_none join left right c.in-Typed.typed.left c.in-Typed.typed.right fits.left_there fits.right_there fits.fits))
    (subst (λ (j : JoinQuery). IfErr c.read_and_join.result (IsUnread None (join_reads j (set_in n j.left.cvd) (set_in n j.right.cvd))
    (g.H.Host.state c.args.host.now) (g.H.Host.state c.read_and_join.new.host))) fits.is c.read_and_join.ensures.why)

pub returns-in-Typed-clause-whole : goal.returns-in-Typed-clause-whole
returns-in-Typed-clause-whole g c = λ page told.
    let n = c.args.store.now.held.numbers
    in let join = c.args.join.now
    in let left = set_in n join.left.cvd
    in let right = set_in n join.right.cvd
    in let fits = subst (IsFitted join left right) c.in-Typed.is c.in_ok-typed.ensures.fitted
    in whole_join c.read_and_join.result (join_off join left right) (join_reads join left right) (g.H.Host.state c.args.host.now) page
    (subst (λ (j : JoinQuery). OnOk c.read_and_join.result (AreDamaged (join_reads j (set_in n j.left.cvd) (set_in n j.right.cvd)) (g.H.Host.state c.args.host.now) page → ⊥)) fits.is
    (c.read_and_join.ensures.whole page told))

pub returns-in-Typed-clause-seen : goal.returns-in-Typed-clause-seen
returns-in-Typed-clause-seen g c =
    let n = c.args.store.now.held.numbers
    in joined_seen c.read_and_join.result c.in-Typed.typed.join (set_in n c.in-Typed.typed.join.left.cvd) (set_in n c.in-Typed.typed.join.right.cvd)
    (g.H.Host.state c.args.host.now) c.read_and_join.ensures.reply

pub returns-in-Typed-clause-world : goal.returns-in-Typed-clause-world
returns-in-Typed-clause-world g c = λ w s at.
    let n = c.args.store.now.held.numbers
    in let join = c.args.join.now
    in let fits = subst (IsFitted join (set_in n join.left.cvd) (set_in n join.right.cvd)) c.in-Typed.is c.in_ok-typed.ensures.fitted
    in subst (λ (j : JoinQuery). IfOk c.read_and_join.result (λ reply. join_deed w s j ≡ tells s reply)) fits.is (c.read_and_join.ensures.world w s at)

-- ---- a join that is refused

pub returns-in-Refused-clause-world : goal.returns-in-Refused-clause-world
returns-in-Refused-clause-world g c = λ w s at.
    let n = c.args.store.now.held.numbers
    in let join = c.args.join.now
    in let off = subst (IsFitted join (set_in n join.left.cvd) (set_in n join.right.cvd)) c.in-Refused.is c.in_ok-typed.ensures.fitted
    in join_refuses w c.args.store.now.held (g.H.Host.state c.args.host.now) at s join c.in-Refused.refusal off.first
