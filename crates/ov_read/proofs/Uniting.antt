-- Sets of rids of which no two share one.
use Rattle.std.proofs.Common.{◌≡◌, ◌<◌, ◌≤◌, ◌+◌, ℕ, zero, suc, Bool, true, false, ◌&&◌, ◌||◌, cond, List, [], ◌∷◌, ◌++◌, length, refl, sym, ◌∙◌, ap, arith}
use Rattle.std.specs.Prelude.{filter}
use Rattle.std.specs.List.{list_any}
use Rattle.std.proofs.lemmas.List.Sums.{sum_by-append, sum_by-cons}
use Rattle.ov_member.specs.Rids.{AreRids, has, shared, IsUnion}
use Rattle.ov_member.proofs.RidLemmas.{RiseFrom-filter, has-filter, same_from}
use Rattle.ov_fetch.proofs.Lacking.{shares_one, shares_none}
use Rattle.ov_read.specs.Agreement.{times, AreTogether}

abbrev pub bit : Bool → ℕ
bit b = cond b 1 0

times-append : (xs ys : List (List ℕ)) (rid : ℕ) → times (xs ++ ys) rid ≡ times xs rid + times ys rid
times-append xs ys rid = sum_by-append (λ (rids : List ℕ). bit (has rids rid)) xs ys

times-cons : (x : List ℕ) (xs : List (List ℕ)) (rid : ℕ) → times (x ∷ xs) rid ≡ bit (has x rid) + times xs rid
times-cons x xs rid = sum_by-cons (λ (rids : List ℕ). bit (has rids rid)) x xs

abbrev pub some_set : List (List ℕ) → ℕ → Bool
some_set sets rid = list_any (λ (rids : List ℕ). has rids rid) sets

in_none : (sets : List (List ℕ)) (rid : ℕ) → times sets rid ≡ 0 → some_set sets rid ≡ false
in_none [] rid e = refl
in_none (x ∷ xs) rid e = by (has x rid) (times-cons x xs rid) (λ none. in_none xs rid none)
  where
    by : (b : Bool) → times (x ∷ xs) rid ≡ bit b + times xs rid → (times xs rid ≡ 0 → some_set xs rid ≡ false) → (b || some_set xs rid) ≡ false
    by true t rest = absurd (omega (arith, e, t))
    by false t rest = rest (omega (arith, e, t))

in_some : (sets : List (List ℕ)) (rid : ℕ) → 1 ≤ times sets rid → some_set sets rid ≡ true
in_some [] rid le = absurd (omega (arith, le))
in_some (x ∷ xs) rid le = by (has x rid) (times-cons x xs rid) (λ some. in_some xs rid some)
  where
    by : (b : Bool) → times (x ∷ xs) rid ≡ bit b + times xs rid → (1 ≤ times xs rid → some_set xs rid ≡ true) → (b || some_set xs rid) ≡ true
    by true t rest = refl
    by false t rest = rest (omega (arith, le, t))

-- those of the rids that some of the sets have
abbrev pub part : List (List ℕ) → List ℕ → List ℕ
part sets all = filter (some_set sets) all

-- what a set's bit is, by how many of the sets have the rid
by_number : (n more : ℕ) (a b : Bool) → n + more ≡ bit a → (n ≡ 0 → b ≡ false) → (1 ≤ n → b ≡ true) → n ≡ bit (a && b)
by_number zero more true b total none some = ap bit (sym (none refl))
by_number zero more false b total none some = refl
by_number (suc n) more true b total none some =
    let one : suc n ≡ 1 = omega (arith, total) in
    one ∙ ap bit (sym (some (omega arith)))
by_number (suc n) more false b total none some = absurd (omega (arith, total))

part_times : (sets : List (List ℕ)) (all : List ℕ) (rid more : ℕ) → times sets rid + more ≡ bit (has all rid) → times sets rid ≡ bit (has (part sets all) rid)
part_times sets all rid more e =
    by_number (times sets rid) more (has all rid) (some_set sets rid) e (in_none sets rid) (in_some sets rid)
    ∙ ap bit (sym (has-filter (some_set sets) all rid))

part_together : (sets others : List (List ℕ)) (all : List ℕ) → AreRids all → ((rid : ℕ) → times sets rid + times others rid ≡ bit (has all rid)) → AreTogether sets (part sets all)
part_together sets others all set each = record {
  set = RiseFrom-filter (some_set sets) 1 all set;
  each = λ rid. part_times sets all rid (times others rid) (each rid);
}

-- sets that are together are so in each part
pub left_together : (xs ys : List (List ℕ)) (all : List ℕ) → AreTogether (xs ++ ys) all → AreTogether xs (part xs all)
left_together xs ys all h = part_together xs ys all h.set (λ rid. sym (times-append xs ys rid) ∙ h.each rid)

pub right_together : (xs ys : List (List ℕ)) (all : List ℕ) → AreTogether (xs ++ ys) all → AreTogether ys (part ys all)
right_together xs ys all h =
    part_together ys xs all h.set (λ rid.
    let e : times ys rid + times xs rid ≡ times xs rid + times ys rid = omega arith in
    e ∙ (sym (times-append xs ys rid) ∙ h.each rid))

no_two : (a b : Bool) (n m : ℕ) (c : Bool) → a ≡ true → b ≡ true → n ≡ bit a → m ≡ bit b → n + m ≡ bit c → ⊥
no_two true true n m true ta tb na mb e = omega (arith, na, mb, e)
no_two true true n m false ta tb na mb e = omega (arith, na, mb, e)
no_two false b n m c ta tb na mb e = cc
no_two true false n m c ta tb na mb e = cc

pub not_together : (xs ys : List (List ℕ)) (left right all : List ℕ) → AreTogether xs left → AreTogether ys right → 0 < length (shared left right) → AreTogether (xs ++ ys) all → ⊥
not_together xs ys left right all hx hy some h =
    let s = shares_one left right some in
    no_two (has left s.rid) (has right s.rid) (times xs s.rid) (times ys s.rid) (has all s.rid) s.member s.lacking (hx.each s.rid) (hy.each s.rid)
    (sym (times-append xs ys s.rid) ∙ h.each s.rid)

either_bit : (a b : Bool) → (a ≡ true → b ≡ false) → bit a + bit b ≡ bit (a || b)
either_bit true true off = let no = off refl in absurd cc
either_bit true false off = refl
either_bit false b off = let e : 0 + bit b ≡ bit b = omega arith in e

pub united : (xs ys : List (List ℕ)) (left right all : List ℕ) → AreTogether xs left → AreTogether ys right → length (shared left right) ≡ 0 → IsUnion left right all → AreTogether (xs ++ ys) all
united xs ys left right all hx hy none is = record {
  set = is.rids;
  each = λ rid.
      let sums : times xs rid + times ys rid ≡ bit (has left rid) + bit (has right rid) = ap (λ n. n + times ys rid) (hx.each rid) ∙ ap (λ n. bit (has left rid) + n) (hy.each rid) in
      times-append xs ys rid ∙ (sums ∙ (either_bit (has left rid) (has right rid) (shares_none left right none rid) ∙ ap bit (sym (is.members rid))));
}

same_bit : (a b : Bool) → bit a ≡ bit b → a ≡ b
same_bit true true e = refl
same_bit true false e = absurd (omega (arith, e))
same_bit false true e = absurd (omega (arith, e))
same_bit false false e = refl

-- there is one set of them all
pub only_one : (sets : List (List ℕ)) (xs ys : List ℕ) → AreTogether sets xs → AreTogether sets ys → xs ≡ ys
only_one sets xs ys h k = same_from 1 1 xs ys h.set k.set (λ rid. same_bit (has xs rid) (has ys rid) (sym (h.each rid) ∙ k.each rid))

pub none_together : AreTogether [] []
none_together = record { set = tt; each = λ rid. refl }

pub one_together : (rids all : List ℕ) → IsUnion rids rids all → AreTogether (rids ∷ []) all
one_together rids all is = record {
  set = is.rids;
  each = λ rid. times-cons rids [] rid ∙ (twice (has rids rid) ∙ ap bit (sym (is.members rid)));
}
  where
    twice : (a : Bool) → bit a + 0 ≡ bit (a || a)
    twice true = refl
    twice false = refl
