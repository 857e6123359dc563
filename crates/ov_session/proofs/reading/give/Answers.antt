use Rattle.std.proofs.Common.{rules, ◌≡◌, ◌∙◌, ap}
use Rattle.std.specs.FinMap.{insert}
use Rattle.law_runs.specs.Serving.{session_of}
use Rattle.ov_model.specs.Act.{gives, merge_of}
use Rattle.ov_session.proofs.Lookups.{gives_file}
use Rattle.ov_session.proofs.reading.give.Goals as goal

pub returns-clause-given : goal.returns-clause-given
returns-clause-given g c = λ w user d vids told is name.
    let put = c.put.ensures.put told
    in let grown : (g.T.Stage.staged c.put.new.stage).files ≡ insert (g.T.Stage.staged c.args.stage.now).files c.in-Some.file c.args.made.text
    = search (rules, put)
    in let rows : c.args.made.rows ≡ c.in-Ok.rows = search rules
    in ap (gives (session_of (g.T.Stage.staged c.args.stage.now).files user) d.cvd (merge_of d.cvd vids)) c.in-Some.is
    ∙ gives_file d vids c.args.made is user (g.T.Stage.staged c.args.stage.now).files (g.T.Stage.staged c.put.new.stage).files c.args.cvd c.in-Some.file c.in-Ok.rows name rows grown

pub returns-in_default-clause-seen : goal.returns-in_default-clause-seen
returns-in_default-clause-seen g c = λ name is. cc

pub returns-clause-seen : goal.returns-clause-seen
returns-clause-seen g c = λ name is. cc
