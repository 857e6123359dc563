-- Worked examples of the storage budget over a chain of three versions. That the definitions give just this is proved by computing
-- it.
use Rattle.std.specs.Prelude.{◌≡◌, ℕ, ◌++◌, List, Option, None, codes, replicate, true, false}
use Rattle.std.specs.Option.{option_map}
use Rattle.ov_model.specs.Budget.{advise_deed, within_deed}
use Rattle.ov_model.specs.Examples.{served_all, session}
use Rattle.ov_model.specs.World.{Dataset, set_named}
use Rattle.ov_model.specs.declared.reply.BudgetLine.{BudgetLine}
use Rattle.ov_model.specs.declared.reply.Reply.{Reply}
use Rattle.ov_model.specs.declared.reply.Reply.TheVariants as says
use Rattle.ov_model.specs.declared.refusal.Refusal.TheVariants as no

abbrev pub chain : List ℕ
chain = codes "init chain -s k:int,x:int -k k -f c1.csv\ncommit chain -v 1 -f c2.csv -m two\ncommit chain -v 2 -f c3.csv -m three\n"

abbrev pub the_set : Option Dataset
the_set = set_named (served_all chain).world (codes "chain")

abbrev pub line : ℕ → ℕ → ℕ → ℕ → BudgetLine
line depth partitions stored cost = record { depth = depth; partitions = partitions; stored = stored; cost = cost }

-- one partition up to 54/100, two up to 90/100, and one a version above that
abbrev pub lines : List BudgetLine
lines = replicate 54 (line 0 1 8 24) ++ (replicate 36 (line 1 2 9 14) ++ replicate 10 (line 2 3 13 13))

abbrev pub within_at : Option Dataset → ℕ → Reply
within_at d budget = (within_deed session (codes "chain") budget d).reply

abbrev pub advised_at : Option Dataset → ℕ → ℕ → ℕ → Reply
advised_at d budget a b = (advise_deed session (codes "chain") budget a b d).reply

abbrev pub within : ℕ → Reply
within budget = within_at the_set budget

abbrev pub advised : ℕ → ℕ → ℕ → Reply
advised budget a b = advised_at the_set budget a b

-- while a plan runs
abbrev pub running_set : Option Dataset
running_set = set_named (served_all (chain ++ codes "optimize chain -d 3/4\n")).world (codes "chain")

-- whose next partition has this number
abbrev pub with_next : ℕ → Dataset → Dataset
with_next next d = record d { next_part = next }

abbrev pub numbered : ℕ → Option Dataset → Option Dataset
numbered next d = option_map (with_next next) d

pub record AllWithin : Type 0 where
  pub twelve : within 12 ≡ says.Within lines 55 1 2 9 8 13 14 4
  pub thirteen : within 13 ≡ says.Within lines 91 2 3 13 8 13 13 6
  pub seven : within 7 ≡ says.Refused (no.NoThreshold 7 8)
  pub worth : advised 12 3 2 ≡ says.Advise 24 14 true
  pub no_worth : advised 12 2 1 ≡ says.Advise 24 14 false
  -- 24 is just 12 / 7 of 14
  pub as_much : advised 12 12 7 ≡ says.Advise 24 14 false
  pub out_of_range : advised 12 2 3 ≡ says.Refused no.BadThreshold
  -- both parts of a ratio at their bounds, and past them; the ratio is tested before the budget
  pub greatest : advised 12 1000000 1000000 ≡ says.Advise 24 14 true
  pub steepest : advised 12 1000000 1 ≡ says.Advise 24 14 false
  pub least : advised 12 1 1 ≡ says.Advise 24 14 true
  pub too_great : advised 12 1000001 1 ≡ says.Refused no.BadThreshold
  pub by_none : advised 12 1 0 ≡ says.Refused no.BadThreshold
  pub ratio_first : advised 7 2 3 ≡ says.Refused no.BadThreshold
  pub no_budget : advised 7 2 2 ≡ says.Refused (no.NoThreshold 7 8)
  -- the present cost is that of the partitions as they are; one budget more than what is stored is as good as that
  pub eight : within 8 ≡ says.Within lines 1 0 1 8 8 13 24 1
  pub nine : within 9 ≡ says.Within lines 55 1 2 9 8 13 14 4
  -- an optimize is refused while a plan runs, and for want of a number, before the budget is looked at; an advice isn't
  pub running : within_at running_set 7 ≡ says.Refused (no.Migrating (codes "chain"))
  pub numbers : within_at (numbered 4294000001 the_set) 7 ≡ says.Refused (no.NoNumbers (codes "chain"))
  pub numbers_left : within_at (numbered 4294000000 the_set) 7 ≡ says.Refused (no.NoThreshold 7 8)
  pub running_first : within_at (numbered 4294000001 running_set) 7 ≡ says.Refused (no.Migrating (codes "chain"))
  pub advised_then : advised_at running_set 12 3 2 ≡ says.Advise 24 14 true
  pub no_set : within_at None 7 ≡ says.Refused (no.NoCvd (codes "chain"))
  pub no_set_advised : advised_at None 7 2 3 ≡ says.Refused (no.NoCvd (codes "chain"))
