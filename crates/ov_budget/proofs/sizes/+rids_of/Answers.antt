use Rattle.std.proofs.Common.{◌/◌, length, take, drop, sym, subst, arith}
use Rattle.std.proofs.lemmas.List.{take-append-drop}
use Rattle.ov_budget.specs.Sizes.{AreVids, IsTogether}
use Rattle.ov_budget.proofs.Together.{united, vids_left, vids_right}
use Rattle.ov_budget.proofs.sizes.+rids_of.Goals as goal

pub rids_of-requires : goal.rids_of-requires
rids_of-requires t c =
    let vids = c.args.vids.now in
    let half = length vids / 2 in
    let count = length c.args.lists.now in (
      omega (arith, c.split_at.ensures.front_len, c.in_default.len_at_least),
      subst (AreVids count) (sym c.split_at.ensures.front)
          (vids_left count (take half vids) (drop half vids) (subst (AreVids count) (sym (take-append-drop half vids)) c.requires)),
    )

pub rids_of-requires-in_default : goal.rids_of-requires-in_default
rids_of-requires-in_default t c =
    let vids = c.args.vids.now in
    let half = length vids / 2 in
    let count = length c.args.lists.now in (
      omega (arith, c.split_at.ensures.back_len, c.in_default.len_at_least),
      subst (AreVids count) (sym c.split_at.ensures.back)
          (vids_right count (take half vids) (drop half vids) (subst (AreVids count) (sym (take-append-drop half vids)) c.requires)),
    )

pub returns-in_ok-both-in_default : goal.returns-in_ok-both-in_default
returns-in_ok-both-in_default t c =
    let vids = c.args.vids.now in
    let half = length vids / 2 in
    let lists = c.args.lists.now in
    let left = c.in_ok-left-in_default.left in
    let right = c.in_ok-right-in_default.right in
    let both = c.in_ok-both-in_default.both in
    subst (λ vs. IsTogether lists vs both) (take-append-drop half vids)
    (united lists (take half vids) (drop half vids) left right both
    (subst (λ vs. IsTogether lists vs left) c.split_at.ensures.front c.in_ok-left-in_default.ensures)
    (subst (λ vs. IsTogether lists vs right) c.split_at.ensures.back c.in_ok-right-in_default.ensures)
    c.in_ok-both-in_default.ensures)
