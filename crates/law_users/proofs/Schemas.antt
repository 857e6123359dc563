-- Two schemas that the test finds the same are the same.
use Rattle.std.proofs.Common.{◌≡◌, Bool, true, false, refl, sym, ◌∙◌, ap, Decides}
use Rattle.std.specs.Prelude.{◌&&◌, nat_eq}
use Rattle.std.specs.Cmp.Lexicographic.{pointwise, pointwise_decides, bytes_decides}
use Rattle.std.specs.Str.{bytes_eq}
use Rattle.std.proofs.lemmas.Slice.Eq.{bytes_eq-Decides}
use Rattle.ov_value.specs.Shapes.{Shape}
use Rattle.ov_value.specs.declared.column.Column.{Column}
use Rattle.ov_value.specs.declared.column.Kind.{Kind}
use Rattle.ov_value.specs.declared.column.Kind.TheVariants as kind
use Rattle.ov_model.specs.Kinds.{is_same_kind}
use Rattle.ov_model.specs.Registry.{is_same_column, is_same_schema}

both_true : (a b : Bool) → (a && b) ≡ true → (a ≡ true) × (b ≡ true)
both_true true b e = (refl, e)
both_true false b e = cc

and_true : (a b : Bool) → a ≡ true → b ≡ true → (a && b) ≡ true
and_true true b e f = f
and_true false b e f = cc

kind_same : (a b : Kind) → is_same_kind a b ≡ true → a ≡ b
kind_same kind.Int kind.Int e = refl
kind_same kind.Int kind.Text e = cc
kind_same kind.Int kind.Flag e = cc
kind_same kind.Text kind.Int e = cc
kind_same kind.Text kind.Text e = refl
kind_same kind.Text kind.Flag e = cc
kind_same kind.Flag kind.Int e = cc
kind_same kind.Flag kind.Text e = cc
kind_same kind.Flag kind.Flag e = refl

kind_self : (a : Kind) → is_same_kind a a ≡ true
kind_self kind.Int = refl
kind_self kind.Text = refl
kind_self kind.Flag = refl

column_of : (a b : Column) → a.name ≡ b.name → a.kind ≡ b.kind → a ≡ b
column_of a b name kind_is = λ i. record { name = name i; kind = kind_is i }

column_decides : (a b : Column) → Decides (is_same_column a b) (a ≡ b)
column_decides a b = (
  λ e.
      let both = both_true (bytes_eq a.name b.name) (is_same_kind a.kind b.kind) e
      in column_of a b ((bytes_eq-Decides a.name b.name).0 both.0) (kind_same a.kind b.kind both.1),
  λ same.
      and_true (bytes_eq a.name b.name) (is_same_kind a.kind b.kind)
      ((bytes_eq-Decides a.name b.name).1 (ap (λ (c : Column). c.name) same))
      (ap (λ (k : Kind). is_same_kind a.kind k) (sym (ap (λ (c : Column). c.kind) same)) ∙ kind_self a.kind),
)

shape_of : (a b : Shape) → a.columns ≡ b.columns → a.key ≡ b.key → a ≡ b
shape_of a b columns key_is = λ i. record { columns = columns i; key = key_is i }

pub schema_same : (a b : Shape) → is_same_schema a b ≡ true → a ≡ b
schema_same a b e =
    let both = both_true (pointwise is_same_column a.columns b.columns) (pointwise nat_eq a.key b.key) e
    in shape_of a b ((pointwise_decides column_decides a.columns b.columns).0 both.0) ((bytes_decides a.key b.key).0 both.1)
