use Rattle.std.proofs.Common.{◌∙◌, Err, sym, ap, refl}
use Rattle.ov_files.specs.Files.{result_of}
use Rattle.ov_session.proofs.Replying.{refused_missed}
use Rattle.ov_session.proofs.changing.rows_by.Goals as goal

pub returns-in-Rows-clause-found : goal.returns-in-Rows-clause-found
returns-in-Rows-clause-found g c = λ told. sym (sym (ap result_of c.in-Rows.is) ∙ c.in_ok-rows.ensures.rows told)

pub returns-in-Refused-clause-found : goal.returns-in-Refused-clause-found
returns-in-Refused-clause-found g c = λ told.
    (c.in-Refused.refusal, refl, sym (sym (ap result_of c.in-Refused.is) ∙ c.in_ok-rows.ensures.rows told))

pub returns-in-Refused-clause-missed : goal.returns-in-Refused-clause-missed
returns-in-Refused-clause-missed g c =
    refused_missed _ c.in-Refused.refusal (λ file is. c.in_ok-rows.ensures.missing file (ap result_of c.in-Refused.is ∙ ap Err is))
