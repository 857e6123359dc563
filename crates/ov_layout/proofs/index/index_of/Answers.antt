use Rattle.std.proofs.Common.{rules, ◌≡◌, length, sym, ◌∙◌, arith}
use Rattle.std.proofs.lemmas.List.Sorted.{IsNonDecreasingBy-from_sort_by_key}
use Rattle.ov_layout.specs.declared.index.Entry.{Entry}
use Rattle.ov_layout.proofs.EntryLemmas.{ids-some, sorted-index}
use Rattle.ov_layout.proofs.index.index_of.Goals as goal

pub entries_of-requires : goal.entries_of-requires
entries_of-requires c = ids-some 1 c.args.next c.args.parts.now (omega arith) c.requires.sound

pub returns : goal.returns
returns c =
    let old = c.in_ok-index.index in
    let new = c.sort_unstable_by_key.new.self in
    let order = IsNonDecreasingBy-from_sort_by_key (λ (entry : Entry). entry.vid) new.items c.sort_unstable_by_key.ensures.sorted (λ a r q k. search rules) in
    let len : length new.items ≡ length old.items = sym new.ok.0 ∙ c.sort_unstable_by_key.ensures.len ∙ old.ok.0 in
    sorted-index c.args.next c.args.parts.now old.items new.items c.requires c.in_ok-index.ensures.entries c.in_ok-index.ensures.fit c.sort_unstable_by_key.ensures.permutation len order
