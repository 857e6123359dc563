use Rattle.std.proofs.Common.{◌≡◌, List, IsTrue, subst}
use Rattle.ov_value.specs.declared.value.Value.{Value}
use Rattle.ov_value.specs.Rows.{HasKinds}
use Rattle.ov_value.specs.Decoding.{row_of}
use Rattle.ov_segment.proofs.RowLemmas.{same_as}
use Rattle.ov_segment.proofs.row_ref.RowRef.same.Goals as goal

pub returns : goal.returns
returns c columns =
    subst (λ (x : List Value). HasKinds x columns → HasKinds c.args.other.now columns → (IsTrue c.are_same.result → x ≡ c.args.other.now) × (x ≡ c.args.other.now → IsTrue c.are_same.result)) c.self.view_is
    (subst (λ (y : List Value). HasKinds (row_of c.self.inside.columns.now c.self.inside.marked c.self.inside.bytes.now) columns → HasKinds y columns
    → (IsTrue c.are_same.result → row_of c.self.inside.columns.now c.self.inside.marked c.self.inside.bytes.now ≡ y) × (row_of c.self.inside.columns.now c.self.inside.marked c.self.inside.bytes.now ≡ y → IsTrue c.are_same.result)) c.other.view_is
    (λ kinds other.
    let both = same_as _ _ columns _ _ _ _ c.self.invariant.spelled c.other.invariant.spelled kinds other in
    (λ t. both.0 (c.are_same.ensures.0 t), λ e. c.are_same.ensures.1 (both.1 e))))
