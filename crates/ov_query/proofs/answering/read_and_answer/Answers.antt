use Rattle.std.proofs.Common.{rules, ◌≡◌, ◌∙◌, [], Some, subst}
use Rattle.ov_model.specs.Answers.{pairs}
use Rattle.ov_model.specs.Asking.{name_read}
use Rattle.ov_model.specs.Lineages.{relatives}
use Rattle.ov_model.specs.World.{set_named}
use Rattle.ov_model.specs.declared.query.Query.{Query}
use Rattle.ov_store.specs.Scanning.{set_in}
use Rattle.ov_store.proofs.Deciding.{counts}
use Rattle.ov_terms.specs.Standing.{pairs_shown}
use Rattle.ov_query.proofs.Answered.{answered_so, is_answer, kinds_there, schema_there}
use Rattle.ov_query.proofs.Numbering.{plain_filter, plain_having}
use Rattle.ov_query.proofs.answering.read_and_answer.Goals as goal

pub returns-in_err-scan-clause-undamaged : goal.returns-in_err-scan-clause-undamaged
returns-in_err-scan-clause-undamaged g c = λ w at. let fact = c.in_err-scan.ensures.undamaged w at in search (rules, fact)

pub answer_over-requires-clause-filter : goal.answer_over-requires-clause-filter
answer_over-requires-clause-filter g c = plain_filter c.args.typed.now.query c.requires.plain

pub answer_over-requires-clause-having : goal.answer_over-requires-clause-having
answer_over-requires-clause-having g c = plain_having c.args.typed.now.query c.requires.plain

pub returns-clause-reply : goal.returns-clause-reply
returns-clause-reply g c =
    let query = c.args.typed.now.query
    in let fits = kinds_there query c.args.typed.now.schema (set_in c.args.store.now.held.numbers (name_read query.source)) c.requires.plain c.requires.schema c.requires.allowed
    in is_answer c.in_ok-answer_over.field-0 _ _ (c.in_ok-answer_over.ensures (λ kind vid. []) fits.0 fits.1)

pub returns-clause-world : goal.returns-clause-world
returns-clause-world g c = λ w d s at named.
    let query = c.args.typed.now.query
    in let set = set_in c.args.store.now.held.numbers (name_read query.source)
    in let there = schema_there c.args.typed.now.schema set c.requires.schema
    in let fits = kinds_there query c.args.typed.now.schema set c.requires.plain c.requires.schema c.requires.allowed
    in answered_so s query d.cvd c.args.typed.now.schema fits.0 _ c.in_ok-answer_over.field-0 fits.1
    (there.2 ∙ (counts w c.args.store.now.held (g.H.Host.state c.args.host.now) at (name_read query.source) d named there.0 there.1).schema)
    (subst (λ (q : Query). set_named w (name_read q.source) ≡ Some d → pairs_shown c.in_ok-scan.scan ≡ pairs (relatives d.cvd) d.cvd q.source) c.query.ensures
    (c.in_ok-scan.ensures.pairs w d (relatives d.cvd) at) named)
    (c.in_ok-answer_over.ensures (relatives d.cvd) fits.0 fits.1)
