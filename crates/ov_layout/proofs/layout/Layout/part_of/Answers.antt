use Rattle.std.proofs.Common.{◌≡◌, ◌≤◌, ℕ, List, Some, sym, ◌∙◌, ap, arith}
use Rattle.ov_layout.specs.declared.index.Entry.{Entry}
use Rattle.ov_layout.specs.Index.{number_at, number_of}
use Rattle.ov_layout.proofs.VidLemmas.{Ascend-weaker}
use Rattle.ov_layout.proofs.PlacedLemmas.{ids-ascend, number-there, find-none, find-some}
use Rattle.ov_layout.proofs.layout.Layout.part_of.Goals as goal

one-more : {m n : ℕ} → m ≡ n → (m ≡ 0 → ⊥) → 1 ≤ n
one-more e some = omega arith

pub place_of-requires-clause-ascend : goal.place_of-requires-clause-ascend
place_of-requires-clause-ascend c =
    let numbers = c.self.invariant.0 in
    rw c.deref-else-id-eq0.ensures.value (Ascend-weaker 0 1 _ (omega arith) (ids-ascend 1 _ _ numbers.sound.sound))

pub place_of-requires-clause-is_there : goal.place_of-requires-clause-is_there
place_of-requires-clause-is_there c =
    let numbers = c.self.invariant.0 in
    let vid = c.args.vid in
    let id : c.number_at-id.result ≡ number_of vid c.self.inside.parts.items = c.number_at-id.ensures ∙ ap (λ (es : List Entry). number_at vid es) c.deref.ensures.value ∙ numbers.index_is.numbers vid in
    let some : 1 ≤ number_of vid c.self.inside.parts.items = one-more id c.if-id-eq0.false in
    rw (c.deref-else-id-eq0.ensures.value, id) (number-there vid c.self.inside.parts.items (numbers.sound.once vid) some)

pub returns-then-id-eq0 : goal.returns-then-id-eq0
returns-then-id-eq0 c =
    let numbers = c.self.invariant.0 in
    let vid = c.args.vid in
    let id : c.number_at-id.result ≡ number_of vid c.self.inside.parts.items = c.number_at-id.ensures ∙ ap (λ (es : List Entry). number_at vid es) c.deref.ensures.value ∙ numbers.index_is.numbers vid in
    rw (← c.self.view_is) (sym (find-none 1 vid c.self.inside.parts.items (omega arith) (ids-ascend 1 _ _ numbers.sound.sound) (sym id ∙ c.if-id-eq0.true)))

pub returns-else-id-eq0 : goal.returns-else-id-eq0
returns-else-id-eq0 c =
    let numbers = c.self.invariant.0 in
    let vid = c.args.vid in
    let parts = c.self.inside.parts.items in
    let id : c.number_at-id.result ≡ number_of vid c.self.inside.parts.items = c.number_at-id.ensures ∙ ap (λ (es : List Entry). number_at vid es) c.deref.ensures.value ∙ numbers.index_is.numbers vid in
    let d = c.index.result.now in
    let found = rw c.deref-else-id-eq0.ensures.value at c.place_of.ensures in
    let some = find-some 1 vid c.place_of.result parts d (omega arith) (ids-ascend 1 _ _ numbers.sound.sound) (numbers.sound.once vid) found.bound (found.place d ∙ id) in
    rw (← c.self.view_is) (ap Some c.index.ensures ∙ sym some)
