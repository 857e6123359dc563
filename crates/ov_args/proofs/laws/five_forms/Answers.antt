use Rattle.ov_args.proofs.Forms.{options_of_form, form_of_options}
use Rattle.ov_args.proofs.laws.five_forms.Goals as goal

pub returns : goal.returns
returns c words folder steps = (form_of_options words folder steps, options_of_form words folder steps)
