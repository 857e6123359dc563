use Rattle.std.proofs.Common.{List, subst, sym}
use Rattle.ov_lex.specs.declared.token.Token.{Token}
use Rattle.ov_lex.specs.Texts.{AreTokens}
use Rattle.ov_parse.specs.Refusing.{Refuses}
use Rattle.ov_query.proofs.asking.read_text.Goals as goal

pub read_join-requires-clause-tokens : goal.read_join-requires-clause-tokens
read_join-requires-clause-tokens c =
    subst (λ (tokens : List Token). AreTokens c.args.text.now tokens) (sym c.as_slice-found.ensures.value) c.in-Ok.ensures

pub read_join-requires-clause-none : goal.read_join-requires-clause-none
read_join-requires-clause-none c =
    subst (Refuses c.args.text.now c.as_slice-found.result.now) c.in-Err-NotAQuery.field-0-is c.in-Err-NotAQuery.ensures
