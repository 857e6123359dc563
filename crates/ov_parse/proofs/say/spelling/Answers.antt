use Rattle.std.proofs.Common.{sym, subst, List, ℕ}
use Rattle.ov_lex.specs.Spellings.{IsSpelling, IsInRange}
use Rattle.ov_parse.proofs.Slices.{cut_end, cut_at, cut_is}
use Rattle.ov_parse.proofs.say.spelling.Goals as goal

pub split_at-requires : goal.split_at-requires
split_at-requires c = cut_end c.args.text.now c.args.token.now c.utf8.text c.requires

pub split_at-requires-2 : goal.split_at-requires-2
split_at-requires-2 c = cut_at c.args.text.now c.split_at.result.0.now c.args.token.now c.requires c.split_at.ensures.front

pub returns-clause-value : goal.returns-clause-value
returns-clause-value c = cut_is c.args.text.now c.split_at.result.0.now c.split_at-2.result.1.now c.args.token.now c.requires c.split_at.ensures.front c.split_at-2.ensures.back

pub returns-clause-spelled : goal.returns-clause-spelled
returns-clause-spelled c =
    let is = cut_is c.args.text.now c.split_at.result.0.now c.split_at-2.result.1.now c.args.token.now c.requires c.split_at.ensures.front c.split_at-2.ensures.back in
    subst (λ (ss : List ℕ). IsSpelling c.args.token.now.kind ss) (sym is) c.requires.longest.spelled

pub returns-clause-in_range : goal.returns-clause-in_range
returns-clause-in_range c =
    let is = cut_is c.args.text.now c.split_at.result.0.now c.split_at-2.result.1.now c.args.token.now c.requires c.split_at.ensures.front c.split_at-2.ensures.back in
    subst (λ (ss : List ℕ). IsInRange c.args.token.now.kind ss) (sym is) c.requires.longest.in_range
