use Rattle.std.proofs.Common.{◌≡◌, ◌++◌, map, take}
use Rattle.std.specs.Prelude.{All}
use Rattle.ov_layout.specs.Index.{FitsEntry}
use Rattle.ov_layout.proofs.index.add_entries.Given as goal

abbrev pub invariant-loop-vid : goal.invariant-loop-vid
invariant-loop-vid l = record {
  added : l.entries.items ≡ l.fn.entries.items ++ map (λ vid. record { vid = vid; part = l.id }) (take l.vid-index l.versions);
  fit : All FitsEntry l.entries.items;
}
