use Rattle.std.proofs.Common.{refl, arith}
use Rattle.std.proofs.lemmas.List.Sorted.{IsPermutation-refl}
use Rattle.law_users.proofs.Ordering.{rising_once}
use Rattle.ov_registry.proofs.tables.in_order.Goals as goal

pub returns-then-len-gt-MOST_ROWS : goal.returns-then-len-gt-MOST_ROWS
returns-then-len-gt-MOST_ROWS c = record {
  kept = IsPermutation-refl c.args.rows;
  once = c.requires.once;
  ordered = λ few. absurd (omega arith);
  rises = λ few. absurd (omega arith);
  many = λ high. refl;
}

pub returns-in-Ok : goal.returns-in-Ok
returns-in-Ok c = record {
  kept = c.in-Ok.ensures.kept;
  once = rising_once c.args.schema.now c.in-Ok.made c.in-Ok.ensures.rise;
  ordered = λ few. c.in-Ok.ensures.rows;
  rises = λ few. c.in-Ok.ensures.rise;
  many = λ high. absurd (omega arith);
}
