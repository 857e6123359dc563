use Rattle.std.proofs.Common.{ap, sym, ◌∙◌}
use Rattle.ov_catalog.proofs.PartLemmas.{id_of, serving-id}
use Rattle.ov_catalog.proofs.commit.part_serving.Goals as goal

pub returns-in-Some : goal.returns-in-Some
returns-in-Some c = ap id_of c.in-Some.ensures ∙ sym (serving-id c.args.vid c.args.layout.now.parts)

pub returns-in-None : goal.returns-in-None
returns-in-None c = ap id_of c.in-None.ensures ∙ sym (serving-id c.args.vid c.args.layout.now.parts)
