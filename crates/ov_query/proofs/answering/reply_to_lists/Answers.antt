use Rattle.std.proofs.Common.{◌≡◌, ◌∙◌, ◌≤◌, ◌+◌, None, Some, subst}
use Rattle.std.specs.Prelude.{IfErr, IfOk, OnOk, Option, Err}
use Rattle.ov_catalog.specs.Sets as sets
use Rattle.ov_model.specs.Act.{tells}
use Rattle.ov_model.specs.Asking.{answered, name_read}
use Rattle.ov_model.specs.Kinds.{kinds}
use Rattle.ov_model.specs.World.{set_named}
use Rattle.ov_model.specs.declared.query.Query.{Query}
use Rattle.ov_model.specs.declared.refusal.Refusal.{Refusal}
use Rattle.ov_store.specs.Scanning.{set_in}
use Rattle.ov_typing.specs.Refusing.{refusal_of}
use Rattle.ov_query.specs.Queries.{IsDamagedRead, IsReplyBy, IsUnread, bytes_read, one_read, vids_read}
use Rattle.ov_query.proofs.Answered.{allowed_same, by_same, found_in, if_some, never_off, refused_by, refuses_kinds, refuses_nothing, refuses_version, version_not_70, whole_read}
use Rattle.ov_query.proofs.Numbering.{answered_with, missing_so, named_so, refuses_so}
use Rattle.ov_query.proofs.answering.reply_to_lists.Goals as goal

-- ---- a dataset that isn't there

pub returns-in_default-clause-world : goal.returns-in_default-clause-world
returns-in_default-clause-world g c = λ w s at.
    let named = c.as_str.ensures.text ∙ c.name_of-name.ensures
    in missing_so w c.args.store.now.held (g.H.Host.state c.args.host.now) at s c.args.query.now c.in_ok-copy.field-0
    (c.in_ok-copy.ensures.ok ∙ c.name_of-name.ensures)
    (found_in c.catalog.result.now.numbers c.args.store.now.held.numbers c.as_str.result.now (name_read c.args.query.now.source) None c.catalog.ensures named c.in_default.ensures.found)

-- ---- a version that may not be read

pub returns-in-Some-2-clause-reply : goal.returns-in-Some-2-clause-reply
returns-in-Some-2-clause-reply g c =
    refused_by _ c.in-Some-2.refusal
    (refuses_version c.catalog.result.now.numbers c.args.store.now.held.numbers c.as_str.result.now c.args.query.now (sets.set_in c.in-Some.d.now) c.in_ok-refusal.field-0 c.requires.plain
    c.catalog.ensures (c.as_str.ensures.text ∙ c.name_of-name.ensures) c.in-Some.ensures.found c.in_ok-refusal.ensures.refused c.in-Some-2.refusal c.in-Some-2.is)

pub returns-in-Some-2-clause-seen : goal.returns-in-Some-2-clause-seen
returns-in-Some-2-clause-seen g c = λ name is.
    version_not_70 c.catalog.result.now.numbers c.args.store.now.held.numbers c.as_str.result.now c.args.query.now (sets.set_in c.in-Some.d.now) c.in_ok-refusal.field-0 c.requires.plain
    c.catalog.ensures (c.as_str.ensures.text ∙ c.name_of-name.ensures) c.in-Some.ensures.found c.in_ok-refusal.ensures.refused c.in-Some-2.refusal c.in-Some-2.is name cc

pub returns-in-Some-2-clause-world : goal.returns-in-Some-2-clause-world
returns-in-Some-2-clause-world g c = λ w s at.
    refuses_so w c.args.store.now.held (g.H.Host.state c.args.host.now) at s c.args.query.now c.in-Some-2.refusal
    (refuses_version c.catalog.result.now.numbers c.args.store.now.held.numbers c.as_str.result.now c.args.query.now (sets.set_in c.in-Some.d.now) c.in_ok-refusal.field-0 c.requires.plain
    c.catalog.ensures (c.as_str.ensures.text ∙ c.name_of-name.ensures) c.in-Some.ensures.found c.in_ok-refusal.ensures.refused c.in-Some-2.refusal c.in-Some-2.is)

-- ---- a query that doesn't fit the schema

pub returns-in_ok-refusal_by-in-Err-clause-reply : goal.returns-in_ok-refusal_by-in-Err-clause-reply
returns-in_ok-refusal_by-in-Err-clause-reply g c =
    refused_by _ c.in_ok-refusal_by-in-Err.field-0
    (refuses_kinds c.catalog.result.now.numbers c.args.store.now.held.numbers c.as_str.result.now c.args.query.now (sets.set_in c.in-Some.d.now) c.in_ok-refusal.field-0 c.requires.plain
    c.catalog.ensures (c.as_str.ensures.text ∙ c.name_of-name.ensures) c.in-Some.ensures.found c.in_ok-refusal.ensures.refused c.in_ok-refusal_by-in-Err.field-0 c.in_default-2.not-Some
    (if_some (λ refusal. kinds c.args.query.now c.in-Some.d.now.schema ≡ Err refusal) (refusal_of c.in-Err.off) c.in_ok-refusal_by-in-Err.field-0
    c.in_ok-refusal_by-in-Err.ensures.refusal c.in-Err.ensures.err))

pub returns-in_ok-refusal_by-in-Err-clause-world : goal.returns-in_ok-refusal_by-in-Err-clause-world
returns-in_ok-refusal_by-in-Err-clause-world g c = λ w s at.
    refuses_so w c.args.store.now.held (g.H.Host.state c.args.host.now) at s c.args.query.now c.in_ok-refusal_by-in-Err.field-0
    (refuses_kinds c.catalog.result.now.numbers c.args.store.now.held.numbers c.as_str.result.now c.args.query.now (sets.set_in c.in-Some.d.now) c.in_ok-refusal.field-0 c.requires.plain
    c.catalog.ensures (c.as_str.ensures.text ∙ c.name_of-name.ensures) c.in-Some.ensures.found c.in_ok-refusal.ensures.refused c.in_ok-refusal_by-in-Err.field-0 c.in_default-2.not-Some
    (if_some (λ refusal. kinds c.args.query.now c.in-Some.d.now.schema ≡ Err refusal) (refusal_of c.in-Err.off) c.in_ok-refusal_by-in-Err.field-0
    c.in_ok-refusal_by-in-Err.ensures.refusal c.in-Err.ensures.err))

-- ---- a query that nothing refuses

pub read_and_answer-requires-clause-allowed : goal.read_and_answer-requires-clause-allowed
read_and_answer-requires-clause-allowed g c =
    allowed_same c.args.store.now.held.numbers c.in-Ok.typed.query c.args.query.now c.in-Ok.ensures.ok.0
    (refuses_nothing c.catalog.result.now.numbers c.args.store.now.held.numbers c.as_str.result.now c.args.query.now (sets.set_in c.in-Some.d.now) c.in_ok-refusal.field-0 c.requires.plain
    c.catalog.ensures (c.as_str.ensures.text ∙ c.name_of-name.ensures) c.in-Some.ensures.found c.in_ok-refusal.ensures.refused c.in_default-2.not-Some c.in-Ok.ensures.fits)

pub returns-in-Ok-clause-fetched : goal.returns-in-Ok-clause-fetched
returns-in-Ok-clause-fetched g c =
    let n = c.args.store.now.held.numbers
    in by_same n c.in-Ok.typed.query c.args.query.now
    (λ (q : Query) (o : Option Refusal). (g.H.Host.state c.read_and_answer.new.host).fetched
    ≤ (g.H.Host.state c.args.host.now).fetched + bytes_read o (one_read (set_in c.args.store.now.held.numbers (name_read q.source)) (vids_read q.source (set_in c.args.store.now.held.numbers (name_read q.source)))))
    c.in-Ok.ensures.ok.0
    (refuses_nothing c.catalog.result.now.numbers c.args.store.now.held.numbers c.as_str.result.now c.args.query.now (sets.set_in c.in-Some.d.now) c.in_ok-refusal.field-0 c.requires.plain
    c.catalog.ensures (c.as_str.ensures.text ∙ c.name_of-name.ensures) c.in-Some.ensures.found c.in_ok-refusal.ensures.refused c.in_default-2.not-Some c.in-Ok.ensures.fits)
    c.read_and_answer.ensures.fetched

pub returns-in-Ok-clause-unread : goal.returns-in-Ok-clause-unread
returns-in-Ok-clause-unread g c = λ refusal is.
    never_off _ _ refusal
    (refuses_nothing c.catalog.result.now.numbers c.args.store.now.held.numbers c.as_str.result.now c.args.query.now (sets.set_in c.in-Some.d.now) c.in_ok-refusal.field-0 c.requires.plain
    c.catalog.ensures (c.as_str.ensures.text ∙ c.name_of-name.ensures) c.in-Some.ensures.found c.in_ok-refusal.ensures.refused c.in_default-2.not-Some c.in-Ok.ensures.fits)
    is

pub returns-in-Ok-clause-reply : goal.returns-in-Ok-clause-reply
returns-in-Ok-clause-reply g c =
    by_same c.args.store.now.held.numbers c.in-Ok.typed.query c.args.query.now
    (λ (q : Query) (o : Option Refusal). IfOk c.read_and_answer.result (IsReplyBy o))
    c.in-Ok.ensures.ok.0
    (refuses_nothing c.catalog.result.now.numbers c.args.store.now.held.numbers c.as_str.result.now c.args.query.now (sets.set_in c.in-Some.d.now) c.in_ok-refusal.field-0 c.requires.plain
    c.catalog.ensures (c.as_str.ensures.text ∙ c.name_of-name.ensures) c.in-Some.ensures.found c.in_ok-refusal.ensures.refused c.in_default-2.not-Some c.in-Ok.ensures.fits)
    c.read_and_answer.ensures.reply

pub returns-in-Ok-clause-why : goal.returns-in-Ok-clause-why
returns-in-Ok-clause-why g c =
    by_same c.args.store.now.held.numbers c.in-Ok.typed.query c.args.query.now
    (λ (q : Query) (o : Option Refusal). IfErr c.read_and_answer.result (IsUnread o (one_read (set_in c.args.store.now.held.numbers (name_read q.source)) (vids_read q.source (set_in c.args.store.now.held.numbers (name_read q.source)))) (g.H.Host.state c.args.host.now) (g.H.Host.state c.read_and_answer.new.host)))
    c.in-Ok.ensures.ok.0
    (refuses_nothing c.catalog.result.now.numbers c.args.store.now.held.numbers c.as_str.result.now c.args.query.now (sets.set_in c.in-Some.d.now) c.in_ok-refusal.field-0 c.requires.plain
    c.catalog.ensures (c.as_str.ensures.text ∙ c.name_of-name.ensures) c.in-Some.ensures.found c.in_ok-refusal.ensures.refused c.in_default-2.not-Some c.in-Ok.ensures.fits)
    c.read_and_answer.ensures.why

pub returns-in-Ok-clause-whole : goal.returns-in-Ok-clause-whole
returns-in-Ok-clause-whole g c = λ page told.
    by_same c.args.store.now.held.numbers c.in-Ok.typed.query c.args.query.now
    (λ (q : Query) (o : Option Refusal). OnOk c.read_and_answer.result (IsDamagedRead o (one_read (set_in c.args.store.now.held.numbers (name_read q.source)) (vids_read q.source (set_in c.args.store.now.held.numbers (name_read q.source)))) (g.H.Host.state c.args.host.now) page → ⊥))
    c.in-Ok.ensures.ok.0
    (refuses_nothing c.catalog.result.now.numbers c.args.store.now.held.numbers c.as_str.result.now c.args.query.now (sets.set_in c.in-Some.d.now) c.in_ok-refusal.field-0 c.requires.plain
    c.catalog.ensures (c.as_str.ensures.text ∙ c.name_of-name.ensures) c.in-Some.ensures.found c.in_ok-refusal.ensures.refused c.in_default-2.not-Some c.in-Ok.ensures.fits)
    (whole_read c.read_and_answer.result _ _ (g.H.Host.state c.args.host.now) page (c.read_and_answer.ensures.whole page told))

pub returns-in-Ok-clause-world : goal.returns-in-Ok-clause-world
returns-in-Ok-clause-world g c = λ w s at.
    let none = refuses_nothing c.catalog.result.now.numbers c.args.store.now.held.numbers c.as_str.result.now c.args.query.now (sets.set_in c.in-Some.d.now) c.in_ok-refusal.field-0 c.requires.plain
    c.catalog.ensures (c.as_str.ensures.text ∙ c.name_of-name.ensures) c.in-Some.ensures.found c.in_ok-refusal.ensures.refused c.in_default-2.not-Some c.in-Ok.ensures.fits
    in let d = named_so w c.args.store.now.held (g.H.Host.state c.args.host.now) at s c.args.query.now none
    in answered_with w c.args.store.now.held (g.H.Host.state c.args.host.now) at s c.args.query.now c.read_and_answer.result d.0 none d.1
    (subst (λ (q : Query). set_named w (name_read q.source) ≡ Some d.0 → IfOk c.read_and_answer.result (λ reply. answered s q d.0.cvd (kinds q d.0.cvd.schema) ≡ tells s reply))
    c.in-Ok.ensures.ok.0 (c.read_and_answer.ensures.world w d.0 s at) d.1)
