use Rattle.std.proofs.Common.{◌/◌, length, take, drop, sym, subst, arith}
use Rattle.std.proofs.lemmas.List.{take-append-drop}
use Rattle.ov_targets.specs.Targets.{AreVids}
use Rattle.ov_targets.proofs.Said.{vids_left, vids_right}
use Rattle.ov_targets.proofs.wanted.+wanted_of.Goals as goal

pub wanted_of-requires : goal.wanted_of-requires
wanted_of-requires t c =
    let vids = c.args.vids.now in
    let half = length vids / 2 in
    let count = length c.args.lists.now in (
      omega (arith, c.split_at.ensures.front_len, c.in_default.len_at_least),
      subst (AreVids count) (sym c.split_at.ensures.front)
          (vids_left count (take half vids) (drop half vids) (subst (AreVids count) (sym (take-append-drop half vids)) c.requires)),
    )

pub wanted_of-requires-in_default : goal.wanted_of-requires-in_default
wanted_of-requires-in_default t c =
    let vids = c.args.vids.now in
    let half = length vids / 2 in
    let count = length c.args.lists.now in (
      omega (arith, c.split_at.ensures.back_len, c.in_default.len_at_least),
      subst (AreVids count) (sym c.split_at.ensures.back)
          (vids_right count (take half vids) (drop half vids) (subst (AreVids count) (sym (take-append-drop half vids)) c.requires)),
    )
