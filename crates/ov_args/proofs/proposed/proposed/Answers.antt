use Rattle.std.proofs.Common.{◌∙◌, List, ℕ, Bor, codes, option_map, sym, ap, rules}
use Rattle.clap.specs.Words.{first_of, found_of}
use Rattle.clap.proofs.WalkLemmas.{first_value-rows}
use Rattle.ov_args.proofs.Deciding.{read_is_proposed, unread_asks_nothing, untaken_asks_nothing}
use Rattle.ov_args.proofs.proposed.proposed.Goals as goal

pub returns-in_err-matches-clause-usage : goal.returns-in_err-matches-clause-usage
returns-in_err-matches-clause-usage c e = untaken_asks_nothing c.args.words.now (c.in_err-matches.ensures.usage (search rules))

pub returns-in-Some-clause-ok : goal.returns-in-Some-clause-ok
returns-in-Some-clause-ok c =
    let rows = c.in_ok-matches.ensures.ok in
    read_is_proposed c.args.words.now c.in-Some.folder.now (option_map (λ (t : Bor (List ℕ)). t.now) c.get_str-in-Some.result)
    (ap (first_of (codes "folder")) (sym rows) ∙ sym (first_value-rows (found_of c.in_ok-matches.matches) (codes "folder")) ∙ sym c.get_str.ensures
    ∙ ap (option_map (λ (t : Bor (List ℕ)). t.now)) c.in-Some.is)
    (ap (first_of (codes "steps")) (sym rows) ∙ sym (first_value-rows (found_of c.in_ok-matches.matches) (codes "steps")) ∙ sym c.get_str-in-Some.ensures)

pub returns-clause-usage : goal.returns-clause-usage
returns-clause-usage c e =
    let rows = c.in_ok-matches.ensures.ok in
    unread_asks_nothing c.args.words.now
    (ap (first_of (codes "folder")) (sym rows) ∙ sym (first_value-rows (found_of c.in_ok-matches.matches) (codes "folder")) ∙ sym c.get_str.ensures
    ∙ ap (option_map (λ (t : Bor (List ℕ)). t.now)) c.in-None.is)
