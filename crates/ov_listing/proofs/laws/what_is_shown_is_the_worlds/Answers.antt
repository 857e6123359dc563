use Rattle.ov_listing.proofs.ShowingLayout.{layout_shown}
use Rattle.ov_listing.proofs.Showing.{log_shown, none_shown, cvds_shown}
use Rattle.ov_listing.proofs.laws.what_is_shown_is_the_worlds.Goals as goal

pub returns-clause-log : goal.returns-clause-log
returns-clause-log c = log_shown

pub returns-clause-none : goal.returns-clause-none
returns-clause-none c = none_shown

pub returns-clause-cvds : goal.returns-clause-cvds
returns-clause-cvds c = cvds_shown

pub returns-clause-layout : goal.returns-clause-layout
returns-clause-layout c = layout_shown
