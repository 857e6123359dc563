-- The laws of the order of values and of keys.
--     value_cmp_total, key_cmp_total      each is a total order up to ties
--     value_cmp-ties      values that tie are the same value
--     key_cmp-ties      rows tie where their keys are the same
use Rattle.std.specs.Prelude.{◌≡◌, ℕ, ℤ, pos, Bool, true, false, List, [], refl}
use Rattle.std.proofs.Common.{ap, subst}
use Rattle.std.specs.Ordering.{nat_cmp, int_cmp, bool_cmp, on, then_cmp, ordering_then, is_eq, eq_by_cmp}
use Rattle.std.specs.Bool.{Decides}
use Rattle.std.specs.declared.cmp.Ordering.{Ordering}
use Rattle.std.specs.declared.cmp.Ordering.TheVariants.{Less, Equal, Greater}
use Rattle.std.specs.Cmp.{IsTotalOrder, nat_cmp_total, int_cmp_total, bool_cmp_total, then_total, on_total, eq_by_cmp_equiv}
use Rattle.std.specs.Cmp.Lexicographic.{slice_cmp, nat_list_cmp_total, lists_total}
use Rattle.std.specs.FinSet.{nat_cmp-IsAntisymmetric, int_cmp-IsAntisymmetric, slice_cmp-IsAntisymmetric}
use Rattle.ov_value.specs.declared.value.Value.{Value}
use Rattle.ov_value.specs.declared.value.Value.TheVariants.{Int, Text, Flag, Null}
use Rattle.ov_value.specs.Shapes.{Shape}
use Rattle.ov_value.specs.Rows.{rank, value_cmp, key_of, key_cmp}

-- what a value of one kind has, and a fixed one for the others
abbrev number_in : Value → ℤ
number_in (Int x) = x
number_in (Text _) = pos 0
number_in (Flag _) = pos 0
number_in Null = pos 0

abbrev text_in : Value → List ℕ
text_in (Int _) = []
text_in (Text xs) = xs
text_in (Flag _) = []
text_in Null = []

abbrev flag_in : Value → Bool
flag_in (Int _) = false
flag_in (Text _) = false
flag_in (Flag x) = x
flag_in Null = false

-- the order as a chain: by rank, and then by what the values have
abbrev chain : Value → Value → Ordering
chain = then_cmp (on rank nat_cmp) (then_cmp (on number_in int_cmp) (then_cmp (on text_in (slice_cmp nat_cmp)) (on flag_in bool_cmp)))

chain_total : IsTotalOrder chain
chain_total =
    then_total (on_total rank nat_cmp_total)
    (then_total (on_total number_in int_cmp_total)
    (then_total (on_total text_in nat_list_cmp_total) (on_total flag_in bool_cmp_total)))

then_equal : (r : Ordering) → ordering_then r Equal ≡ r
then_equal Less = refl
then_equal Equal = refl
then_equal Greater = refl

chain-value_cmp : (v w : Value) → chain v w ≡ value_cmp v w
chain-value_cmp (Int x) (Int y) = then_equal (int_cmp x y)
chain-value_cmp (Text xs) (Text ys) = then_equal (slice_cmp nat_cmp xs ys)
chain-value_cmp (Flag x) (Flag y) = refl
chain-value_cmp Null Null = refl
chain-value_cmp _ _ = refl

pub value_cmp_total : IsTotalOrder value_cmp
value_cmp_total = subst IsTotalOrder (λ i v w. chain-value_cmp v w i) chain_total

flags_tie : (x y : Bool) → bool_cmp x y ≡ Equal → x ≡ y
flags_tie false false e = refl
flags_tie false true e = cc
flags_tie true false e = cc
flags_tie true true e = refl

pub value_cmp-ties : (v w : Value) → value_cmp v w ≡ Equal → v ≡ w
value_cmp-ties (Int x) (Int y) e = ap Int (int_cmp-IsAntisymmetric x y e)
value_cmp-ties (Text xs) (Text ys) e = ap Text (slice_cmp-IsAntisymmetric nat_cmp-IsAntisymmetric xs ys e)
value_cmp-ties (Flag x) (Flag y) e = ap Flag (flags_tie x y e)
value_cmp-ties Null Null e = refl
value_cmp-ties _ _ e = cc

pub key_cmp_total : (schema : Shape) → IsTotalOrder (key_cmp schema)
key_cmp_total schema = on_total (key_of schema) (lists_total value_cmp_total)

pub key_cmp-ties : (schema : Shape) (a b : List Value) → key_cmp schema a b ≡ Equal → key_of schema a ≡ key_of schema b
key_cmp-ties schema a b e = slice_cmp-IsAntisymmetric value_cmp-ties (key_of schema a) (key_of schema b) e

ordering_is_equal : (r : Ordering) → is_eq r ≡ true → r ≡ Equal
ordering_is_equal Less e = cc
ordering_is_equal Equal e = refl
ordering_is_equal Greater e = cc

-- a value ties with itself alone
pub value_tie_decides : (v w : Value) → Decides (eq_by_cmp value_cmp v w) (v ≡ w)
value_tie_decides v w =
    (λ e. value_cmp-ties v w (ordering_is_equal _ e), λ e. subst (λ u. eq_by_cmp value_cmp v u ≡ true) e ((eq_by_cmp_equiv value_cmp_total).refl v))

pub key_cmp-ties_decide : (schema : Shape) (a b : List Value) → (key_cmp schema a b ≡ Equal → key_of schema a ≡ key_of schema b) × (key_of schema a ≡ key_of schema b → key_cmp schema a b ≡ Equal)
key_cmp-ties_decide schema a b = (
  key_cmp-ties schema a b,
  λ e.
      subst (λ k. slice_cmp value_cmp (key_of schema a) k ≡ Equal) e
      (ordering_is_equal _ ((eq_by_cmp_equiv (lists_total value_cmp_total)).refl (key_of schema a))),
)
