use Rattle.std.proofs.Common.{◌≡◌, ◌∙◌, Err, IsErrOf, ap, ap₂}
use Rattle.std.proofs.lemmas.List.{map-id}
use Rattle.clap.specs.Words.{app_of, is_simple, matches_of, takes}
use Rattle.clap.specs.declared.parser.matches.ArgMatches.{ArgMatches}
use Rattle.ov_args.specs.Command.{the_command}
use Rattle.ov_args.specs.declared.answer.WordsErr.{WordsErr}
use Rattle.ov_args.specs.declared.answer.WordsErr.TheVariants.{Usage, Memory}
use Rattle.ov_args.proofs.proposed.matched.Goals as goal

never_both : (why : WordsErr) → why ≡ Memory → IsErrOf {T = ArgMatches} (Err why) Usage → ⊥
never_both why memory usage = absurd cc

pub returns-in-Err-clause-usage : goal.returns-in-Err-clause-usage
returns-in-Err-clause-usage c is taken =
    let command_is : app_of c.in-Ok.command ≡ the_command = c.in-Ok.ensures in
    never_both c.why.result (c.why.ensures (c.in-Err.ensures.passes (ap₂ takes command_is (map-id c.args.words.now) ∙ taken))) is

pub returns-in-Ok-try_get_matches_from-clause-ok : goal.returns-in-Ok-try_get_matches_from-clause-ok
returns-in-Ok-try_get_matches_from-clause-ok c =
    let command_is : app_of c.in-Ok.command ≡ the_command = c.in-Ok.ensures in
    (c.in-Ok-try_get_matches_from.ensures.matches (ap is_simple command_is)).0 ∙ ap₂ matches_of command_is (map-id c.args.words.now)
