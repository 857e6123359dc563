use Rattle.std.proofs.Common.{◌≡◌, ◌<◌, ◌++◌, ◌∙◌, ◌∷◌, [], ℕ, List, length, sym, ap, arith}
use Rattle.std.proofs.lemmas.List.{append-nil}
use Rattle.ov_host.specs.declared.area.Extent.{Extent}
use Rattle.ov_member.specs.Rids.{shared}
use Rattle.ov_copies.proofs.Asks.{extent_none, extent_some, found_is, set_none, set_some}
use Rattle.ov_copies.proofs.asking.ask.Goals.{then-len-gt0+in_ok-push+in_ok-push-2, else-len-gt0}
use Rattle.ov_copies.proofs.asking.ask.Goals as goal

pub returns-clause-more : goal.returns-clause-more
returns-clause-more c =
    let left : List ℕ = c.args.left.now in
    let list : List ℕ = c.args.rids.now in
    let found : List ℕ = c.in_ok-found.found in
    let is : found ≡ shared left list = found_is left list c.in_ok-others.others found c.requires.set c.in_ok-others.ensures.members c.in_ok-found.ensures.members in
    elim c.if-len-gt0.branch [
      | then-len-gt0+in_ok-push+in_ok-push-2 w ↦
          let some : 0 < length (shared left list) = omega (arith, w.if-len-gt0.true, c.len.ensures.count, ap length is) in
          rw w.asked-is (record {
            after_is = c.in_ok-others.ensures.members;
            sets_are = w.in_ok-push.ensures.items ∙ ap (λ (rids : List ℕ). c.args.asked.now.sets.items ++ rids ∷ []) is ∙ ap (λ sets. c.args.asked.now.sets.items ++ sets) (sym (set_some (shared left list) some));
            lists_are = w.in_ok-push-2.ensures.items ∙ ap (λ (es : List Extent). c.args.asked.now.lists.items ++ es) (sym (extent_some (shared left list) c.args.list some));
          })
      | else-len-gt0 w ↦
          let none : length (shared left list) ≡ 0 = omega (arith, w.if-len-gt0.false, c.len.ensures.count, ap length is) in
          rw w.asked-is (record {
            after_is = c.in_ok-others.ensures.members;
            sets_are = sym (append-nil c.args.asked.now.sets.items) ∙ ap (λ sets. c.args.asked.now.sets.items ++ sets) (sym (set_none (shared left list) none));
            lists_are = sym (append-nil c.args.asked.now.lists.items) ∙ ap (λ (es : List Extent). c.args.asked.now.lists.items ++ es) (sym (extent_none (shared left list) c.args.list none));
          })
    ]
