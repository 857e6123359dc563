use Rattle.std.proofs.Common.{◌≡◌, true, List, ℕ, Bor, option_map}
use Rattle.ov_args.proofs.Deciding.{unlike_asks_nothing}
use Rattle.ov_args.proofs.compared.steps_asked.Goals as goal

pub returns-then-not-is_folder-clause-none : goal.returns-then-not-is_folder-clause-none
returns-then-not-is_folder-clause-none c none proposes =
    unlike_asks_nothing c.args.words.now c.args.folder.now (option_map (λ (t : Bor (List ℕ)). t.now) c.args.text) proposes
    (λ spelled named. let folder : c.is_folder.result ≡ true = c.is_folder.ensures.1 named in absurd cc)

pub returns-then-not-spells-clause-none : goal.returns-then-not-spells-clause-none
returns-then-not-spells-clause-none c none proposes =
    unlike_asks_nothing c.args.words.now c.args.folder.now (option_map (λ (t : Bor (List ℕ)). t.now) c.args.text) proposes
    (λ spelled named. let same : c.spells.result ≡ true = c.spells.ensures.1 spelled in absurd cc)
