-- The code's table of forms, as the definition has them.
--     form_of f      its form, of which what the values make is `make_of f.maker`
use Rattle.std.specs.Prelude.{map, Result, Ok}
use Rattle.std.specs.Option.{option_map}
use Rattle.ov_model.specs.declared.command.Command.{Command}
use Rattle.ov_model.specs.declared.command.Command.TheVariants as asks
use Rattle.ov_model.specs.declared.refusal.Refusal.{Refusal}
use Rattle.ov_model.specs.Forms as model
use Rattle.ov_cmd.specs.declared.form.Param.{Param}
use Rattle.ov_cmd.specs.declared.form.Choice.{Choice}
use Rattle.ov_cmd.specs.declared.form.Form.{Form}
use Rattle.ov_cmd.specs.declared.form.Maker.{Maker}
use Rattle.ov_cmd.specs.declared.form.Maker.TheVariants as makes

abbrev pub param_of : Param → model.Param
param_of p = record { what = p.what.now; reads = p.reads }

abbrev pub choice_of : Choice → model.Choice
choice_of c = record { letter = c.letter.now; reads = c.reads; needed = c.needed; rival = c.rival.now }

abbrev pub make_of : Maker → model.Values → Result Command Refusal
make_of makes.Init v = model.make_init v
make_of makes.Checkout v = model.make_checkout v
make_of makes.Commit v = model.make_commit v
make_of makes.CommitStaged v = model.make_commit_staged v
make_of makes.Run v = Ok (asks.Run (model.text_in (model.word_of v 0)))
make_of makes.Optimize v = model.make_optimize v
make_of makes.Advise v = model.make_advise v
make_of makes.Migrate v = Ok (asks.Migrate (model.count_in (model.word_of v 0)))
make_of makes.Layout v = Ok (asks.Layout (model.text_in (model.word_of v 0)))
make_of makes.Log v = Ok (asks.Log (model.text_in (model.word_of v 0)))
make_of makes.DropCvd v = Ok (asks.DropCvd (model.text_in (model.word_of v 0)))
make_of makes.Ls v = Ok asks.Ls
make_of makes.Checkpoint v = Ok asks.Checkpoint
make_of makes.Whoami v = Ok asks.Whoami
make_of makes.Tables v = Ok asks.Tables
make_of makes.Generate v = model.make_generate v
make_of makes.CreateUser v = Ok (asks.CreateUser (model.text_in (model.word_of v 0)))
make_of makes.Config v = Ok (asks.Config (model.text_in (model.word_of v 0)))
make_of makes.Unstage v = Ok (asks.Unstage (model.user_in (model.word_of v 0)) (model.table_in (model.word_of v 0)))

abbrev pub form_of : Form → model.Form
form_of f = record {
  name = f.name.now;
  second = option_map (λ s. s.now) f.second;
  whole = f.whole;
  params = map param_of f.params.now;
  choices = map choice_of f.choices.now;
  make = make_of f.maker;
}
