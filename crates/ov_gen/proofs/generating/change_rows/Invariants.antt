use Rattle.std.proofs.Common.{◌≡◌, ℕ, ◌+◌, ◌-◌, ◌/◌}
use Rattle.ov_model.specs.Generator.{changes}
use Rattle.ov_gen.specs.Versions.{Begin}
use Rattle.ov_gen.proofs.generating.change_rows.Given as goal

abbrev pub invariant-loop : goal.invariant-loop
invariant-loop l = record {
  goes : changes (1 + l.fn.count / 100) l.fn.count (record { state = l.fn.state; is = l.fn.rows.items })
      ≡ changes (l.end - l.counter) l.fn.count (record { state = l.state; is = l.rows.items });
  end : l.end ≡ 1 + l.fn.count / 100;
  kept : (end : ℕ) → Begin l.fn.count 1 end l.fn.rows.items → Begin l.fn.count 1 end l.rows.items;
}
