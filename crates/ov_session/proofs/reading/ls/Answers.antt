use Rattle.std.proofs.Common.{◌∙◌, ap}
use Rattle.ov_host.specs.declared.area.Extent.{Extent}
use Rattle.ov_catalog.specs.Numbers.{Numbers}
use Rattle.ov_model.specs.declared.reply.Reply.TheVariants as says
use Rattle.ov_listing.specs.Listed.{shown_cvds}
use Rattle.ov_session.proofs.Lookups.{ls_told}
use Rattle.ov_session.proofs.reading.ls.Goals as goal

pub returns : goal.returns
returns c = record {
  told = λ w s t at.
      ap says.Ls (c.in_ok-cvd_lines.ensures ∙ ap (λ (n : Numbers Extent Extent). shown_cvds n) c.catalog.ensures ∙ ls_told w c.args.store.now.held t at);
  seen = λ name is. cc;
  memory = tt;
}
