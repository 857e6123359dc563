-- Records that others lack: where the first of them come to the others, the rest is what is lacking.
use Rattle.std.proofs.Common.{◌≡◌, ◌≤◌, ◌+◌, Bool, true, false, List, [], ◌∷◌, ◌++◌, length, drop, refl, sym, ◌∙◌, ap, arith}
use Rattle.std.specs.Prelude.{◌||◌, if◌then◌else◌, not}
use Rattle.std.proofs.lemmas.Bool.{cond-true, cond-false}
use Rattle.ov_model.specs.Records.{Rec, is_same_rec, is_among, lacking}
use Rattle.law_partitions.specs.Pieces.{rec_times, NoTwice}
use Rattle.law_partitions.proofs.PieceTimes.{is_times, not_times, one_self, times-append}

or-assoc : (a b c : Bool) → (a || (b || c)) ≡ ((a || b) || c)
or-assoc true b c = refl
or-assoc false b c = refl

among-append : (a b : List Rec) (r : Rec) → is_among (a ++ b) r ≡ (is_among a r || is_among b r)
among-append [] b r = refl
among-append (x ∷ a) b r = ap (λ t. is_same_rec r x || t) (among-append a b r) ∙ or-assoc (is_same_rec r x) (is_among a r) (is_among b r)

-- lacking some and others is lacking some, and of that the others
lack_if : (t u s : Bool) (x : Rec) (l m b : List Rec) → is_among b x ≡ u → s ≡ (t || u) → l ≡ lacking m b
    → (if not s then x ∷ l else l) ≡ lacking (if not t then x ∷ m else m) b
lack_if true u s x l m b is e rest = ap (λ k. if not k then x ∷ l else l) e ∙ rest
lack_if false true s x l m b is e rest =
    ap (λ k. if not k then x ∷ l else l) e ∙ rest ∙ sym (cond-false (not (is_among b x)) (x ∷ lacking m b) (lacking m b) (ap not is))
lack_if false false s x l m b is e rest =
    ap (λ k. if not k then x ∷ l else l) e ∙ ap (λ k. x ∷ k) rest ∙ sym (cond-true (not (is_among b x)) (x ∷ lacking m b) (lacking m b) (ap not is))

pub lacking_both : (rs a b : List Rec) → lacking rs (a ++ b) ≡ lacking (lacking rs a) b
lacking_both [] a b = refl
lacking_both (x ∷ rs) a b =
    lack_if (is_among a x) (is_among b x) (is_among (a ++ b) x) x (lacking rs (a ++ b)) (lacking rs a) b refl (among-append a b x) (lacking_both rs a b)

lacking-append : (a b others : List Rec) → lacking (a ++ b) others ≡ lacking a others ++ lacking b others
lacking-append [] b others = refl
lacking-append (x ∷ a) b others = by (not (is_among others x)) (lacking-append a b others)
  where
    by : (t : Bool) → lacking (a ++ b) others ≡ lacking a others ++ lacking b others
        → (if t then x ∷ lacking (a ++ b) others else lacking (a ++ b) others) ≡ (if t then x ∷ lacking a others else lacking a others) ++ lacking b others
    by true e = ap (λ l. x ∷ l) e
    by false e = e

all_gone : (xs ys : List Rec) → ((r : Rec) → rec_times xs r ≤ rec_times ys r) → lacking xs ys ≡ []
all_gone [] ys within = refl
all_gone (x ∷ xs) ys within =
    cond-false (not (is_among ys x)) (x ∷ lacking xs ys) (lacking xs ys) (ap not (is_times ys x (omega (arith, within x, one_self x))))
    ∙ all_gone xs ys (λ r. omega (arith, within r))

none_gone : (xs ys : List Rec) → ((r : Rec) → rec_times xs r + rec_times ys r ≤ 1) → lacking xs ys ≡ xs
none_gone [] ys apart = refl
none_gone (x ∷ xs) ys apart =
    cond-true (not (is_among ys x)) (x ∷ lacking xs ys) (lacking xs ys) (ap not (not_times ys x (omega (arith, apart x, one_self x))))
    ∙ ap (λ l. x ∷ l) (none_gone xs ys (λ r. omega (arith, apart r)))

pub rest_lacks : (xs ys : List Rec) → NoTwice (xs ++ ys) → lacking (xs ++ ys) xs ≡ ys
rest_lacks xs ys once =
    lacking-append xs ys xs
    ∙ ap (λ l. l ++ lacking ys xs) (all_gone xs xs (λ r. omega arith))
    ∙ none_gone ys xs (λ r. omega (arith, times-append xs ys r, once r))

pub drop_front : (xs ys : List Rec) → drop (length xs) (xs ++ ys) ≡ ys
drop_front [] ys = refl
drop_front (x ∷ xs) ys = drop_front xs ys
