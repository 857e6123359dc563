-- What is asked of a partition, one version more.
use Rattle.std.proofs.Common.{◌≡◌, ◌<◌, ℕ, zero, suc, Bool, true, false, not, ◌&&◌, ◌||◌, ◌==◌, Option, Some, None, List, [], ◌∷◌, ◌++◌, length, get_or, refl, sym, ◌∙◌, ap, subst, arith}
use Rattle.std.specs.List.{AllZip}
use Rattle.std.proofs.lemmas.Bool.{eqb-true}
use Rattle.std.proofs.lemmas.List.{append-nil}
use Rattle.std.proofs.lemmas.List.Folds.{list_any-append}
use Rattle.ov_host.specs.declared.area.Extent.{Extent}
use Rattle.ov_member.specs.Rids.{AreRids, has, left_out, shared}
use Rattle.ov_member.proofs.RidLemmas.{RiseFrom-filter, has-append, has-filter, has-head, same_from}
use Rattle.ov_fetch.specs.Rows.{is_asked}
use Rattle.ov_read.specs.Agreement.{Numbers, list_of}
use Rattle.ov_read.specs.Gathering.{ArePlaces, place_at}
use Rattle.ov_copies.specs.declared.asking.Asked.{Asked}
use Rattle.ov_copies.specs.Asking.{IsAsked, IsMore, IsPartOf, extent_if, set_if}

-- ---- the rids of one list

in_shared : (xs ys : List ℕ) (n : ℕ) → has (shared xs ys) n ≡ (has xs n && has ys n)
in_shared xs ys n = has-filter (has ys) xs n

in_left_out : (xs ys : List ℕ) (n : ℕ) → has (left_out xs ys) n ≡ (has xs n && not (has ys n))
in_left_out xs ys n = has-filter (λ rid. not (has ys rid)) xs n

twice_out : (a b : Bool) → (a && not (a && not b)) ≡ (a && b)
twice_out true true = refl
twice_out true false = refl
twice_out false b = refl

-- what is left without what is left without the list is what the list shares
pub found_is : (left list others found : List ℕ) → AreRids left → others ≡ left_out left list → found ≡ left_out left others → found ≡ shared left list
found_is left list others found set out is =
    is ∙ ap (left_out left) out
    ∙ same_from 1 1 (left_out left (left_out left list)) (shared left list)
    (RiseFrom-filter (λ rid. not (has (left_out left list) rid)) 1 left set) (RiseFrom-filter (has list) 1 left set)
    (λ n.
    in_left_out left (left_out left list) n
    ∙ ap (λ b. has left n && not b) (in_left_out left list n)
    ∙ twice_out (has left n) (has list n)
    ∙ sym (in_shared left list n))

pub set_some : (rids : List ℕ) → 0 < length rids → set_if rids ≡ rids ∷ []
set_some [] some = absurd (omega (arith, some))
set_some (rid ∷ rids) some = refl

pub extent_some : (rids : List ℕ) (e : Extent) → 0 < length rids → extent_if rids e ≡ e ∷ []
extent_some [] e some = absurd (omega (arith, some))
extent_some (rid ∷ rids) e some = refl

pub set_none : (rids : List ℕ) → length rids ≡ 0 → set_if rids ≡ []
set_none [] none = refl
set_none (rid ∷ rids) none = absurd (omega (arith, none))

pub extent_none : (rids : List ℕ) (e : Extent) → length rids ≡ 0 → extent_if rids e ≡ []
extent_none [] e none = refl
extent_none (rid ∷ rids) e none = absurd (omega (arith, none))

-- ---- where a version stands

some_is : (a b : ℕ) → Some a ≡ Some b → a ≡ b
some_is a b e = cc

none_some : (a : ℕ) → None ≡ Some a → ⊥
none_some a e = cc

pub one_place : (versions : List ℕ) (places : List (Option ℕ)) (vid place other : ℕ) → ArePlaces versions places → place_at places vid ≡ Some place → other < length versions
    → get_or versions other 0 ≡ vid → other ≡ place
one_place versions places vid place other are is low at = some_is other place (sym (are.all other low) ∙ ap (place_at places) at ∙ is)

pub no_place : (versions : List ℕ) (places : List (Option ℕ)) (vid other : ℕ) → ArePlaces versions places → place_at places vid ≡ None → other < length versions
    → get_or versions other 0 ≡ vid → ⊥
no_place versions places vid other are is low at = none_some other (sym is ∙ sym (ap (place_at places) at) ∙ are.all other low)

-- ---- one more

in_set_if : (rids : List ℕ) (n : ℕ) → is_asked (set_if rids) n ≡ has rids n
in_set_if [] n = refl
in_set_if (rid ∷ rids) n = by (has (rid ∷ rids) n)
  where
    by : (b : Bool) → (b || false) ≡ b
    by true = refl
    by false = refl

asked_more : (sets : List (List ℕ)) (rids : List ℕ) (n : ℕ) → is_asked (sets ++ set_if rids) n ≡ (is_asked sets n || has rids n)
asked_more sets rids n = list_any-append (λ set. has set n) sets (set_if rids) ∙ ap (λ b. is_asked sets n || b) (in_set_if rids n)

zip_push : {A B : Type 0} (R : A → B → Type 0) (xs : List A) (ys : List B) (x : A) (y : B) → AllZip R xs ys → R x y → AllZip R (xs ++ x ∷ []) (ys ++ y ∷ [])
zip_push R [] [] x y all is = (is, tt)
zip_push R [] (b ∷ ys) x y all is = absurd all
zip_push R (a ∷ xs) [] x y all is = absurd all
zip_push R (a ∷ xs) (b ∷ ys) x y all is = (all.0, zip_push R xs ys x y all.1 is)

zip_if : (R : Extent → List ℕ → Type 0) (xs : List Extent) (ys : List (List ℕ)) (e : Extent) (rids : List ℕ) → AllZip R xs ys → (0 < length rids → R e rids)
    → AllZip R (xs ++ extent_if rids e) (ys ++ set_if rids)
zip_if R xs ys e [] all is = subst (λ es. AllZip R es (ys ++ [])) (sym (append-nil xs)) (subst (λ sets. AllZip R xs sets) (sym (append-nil ys)) all)
zip_if R xs ys e (rid ∷ rids) all is = zip_push R xs ys e (rid ∷ rids) all (is (omega arith))

splits : (a m l : Bool) → (a || m) ≡ ((a || (m && l)) || (m && not l))
splits true m l = refl
splits false true true = refl
splits false true false = refl
splits false false l = refl

parts : (a m l : Bool) → (a ≡ true → m ≡ false) → (a || (m && l)) ≡ true → (m && not l) ≡ false
parts true m l apart asked = ap (λ b. b && not l) (apart refl)
parts false true true apart asked = refl
parts false true false apart asked = sym asked
parts false false l apart asked = refl

out_still : (m l : Bool) → m ≡ false → (m && not l) ≡ false
out_still m l e = ap (λ b. b && not l) e

out_now : (m l : Bool) → l ≡ true → (m && not l) ≡ false
out_now true l e = ap not e
out_now false l e = refl

of_both : (m l : Bool) → (m && l) ≡ true → l ≡ true
of_both true l e = e
of_both false l e = absurd cc

no : false ≡ true → ⊥
no e = cc

pub starts : (s : Numbers) (versions : List ℕ) (lists : List (List ℕ)) (served left : List ℕ) (asked : Asked) → AreRids left → asked.sets.items ≡ [] → asked.lists.items ≡ []
    → IsAsked s versions lists served [] left left asked
starts s versions lists served left asked set sets extents = record {
  set = set;
  split = λ rid. sym (ap (λ (xs : List (List ℕ)). is_asked xs rid || has left rid) sets);
  apart = λ rid is. absurd (no (sym (ap (λ (xs : List (List ℕ)). is_asked xs rid) sets) ∙ is));
  none_left = λ place rid low member is. absurd (no member);
  each = subst (λ (es : List Extent). AllZip (IsPartOf s versions lists served) es asked.sets.items) (sym extents)
      (subst (λ (xs : List (List ℕ)). AllZip (IsPartOf s versions lists served) [] xs) (sym sets) tt);
}

-- the last of those that were passed, or one before
passed_by : (passed : List ℕ) (vid n : ℕ) (P : Type 0) → has (passed ++ vid ∷ []) n ≡ true → (has passed n ≡ true → P) → (vid ≡ n → P) → P
passed_by passed vid n P member before now = by (has passed n) refl (sym (has-append passed (vid ∷ []) n) ∙ member)
  where
    at : (b : Bool) → (vid == n) ≡ b → (b || false) ≡ true → P
    at true e is = now (eqb-true vid n e)
    at false e is = absurd (no is)

    by : (b : Bool) → has passed n ≡ b → (b || ((vid == n) || false)) ≡ true → P
    by true e is = before e
    by false e is = at (vid == n) refl is

pub goes_on : (s : Numbers) (versions : List ℕ) (lists : List (List ℕ)) (served passed left mid after : List ℕ) (old new : Asked) (vid place : ℕ) (list : List ℕ) (extent : Extent)
    → place < length versions → get_or versions place 0 ≡ vid → has served vid ≡ true → extent ≡ list_of s vid → list ≡ get_or lists place []
    → ((other : ℕ) → other < length versions → get_or versions other 0 ≡ vid → other ≡ place) → AreRids after → IsMore list extent mid after old new
    → IsAsked s versions lists served passed left mid old → IsAsked s versions lists served (passed ++ vid ∷ []) left after new
goes_on s versions lists served passed left mid after old new vid place list extent low at member extent_is list_is once set more h = record {
  set = set;
  split = λ rid.
      h.split rid
      ∙ splits (is_asked old.sets.items rid) (has mid rid) (has list rid)
      ∙ sym (ap (λ b. b || has after rid) (asks rid) ∙ ap (λ b. (is_asked old.sets.items rid || (has mid rid && has list rid)) || b) (leaves rid));
  apart = λ rid is. leaves rid ∙ parts (is_asked old.sets.items rid) (has mid rid) (has list rid) (h.apart rid) (sym (asks rid) ∙ is);
  none_left = λ other rid there is in_list.
      leaves rid
      ∙ passed_by passed vid (get_or versions other 0) ((has mid rid && not (has list rid)) ≡ false) is
      (λ before. out_still (has mid rid) (has list rid) (h.none_left other rid there before in_list))
      (λ now. out_now (has mid rid) (has list rid) (ap (λ (xs : List ℕ). has xs rid) (list_is ∙ ap (λ k. get_or lists k []) (sym (once other there (sym now)))) ∙ in_list));
  each = subst (λ (es : List Extent). AllZip (IsPartOf s versions lists served) es new.sets.items) (sym more.lists_are)
      (subst (λ (xs : List (List ℕ)). AllZip (IsPartOf s versions lists served) (old.lists.items ++ extent_if (shared mid list) extent) xs) (sym more.sets_are)
      (zip_if (IsPartOf s versions lists served) old.lists.items old.sets.items extent (shared mid list) h.each (λ some. record {
        place = place;
        there = low;
        member = ap (has served) at ∙ member;
        extent_is = extent_is ∙ ap (list_of s) (sym at);
        within = λ rid is. ap (λ (xs : List ℕ). has xs rid) (sym list_is) ∙ of_both (has mid rid) (has list rid) (sym (in_shared mid list rid) ∙ is);
        some = some;
      })));
}
  where
    asks : (rid : ℕ) → is_asked new.sets.items rid ≡ (is_asked old.sets.items rid || (has mid rid && has list rid))
    asks rid =
        ap (λ (xs : List (List ℕ)). is_asked xs rid) more.sets_are ∙ asked_more old.sets.items (shared mid list) rid
        ∙ ap (λ b. is_asked old.sets.items rid || b) (in_shared mid list rid)

    leaves : (rid : ℕ) → has after rid ≡ (has mid rid && not (has list rid))
    leaves rid = ap (λ (xs : List ℕ). has xs rid) more.after_is ∙ in_left_out mid list rid

-- a version that wasn't asked for
pub skips : (s : Numbers) (versions : List ℕ) (lists : List (List ℕ)) (served passed left after : List ℕ) (asked : Asked) (vid : ℕ)
    → ((other : ℕ) → other < length versions → get_or versions other 0 ≡ vid → ⊥) → IsAsked s versions lists served passed left after asked
    → IsAsked s versions lists served (passed ++ vid ∷ []) left after asked
skips s versions lists served passed left after asked vid nowhere h = record {
  set = h.set;
  split = h.split;
  apart = h.apart;
  none_left = λ other rid there is in_list.
      passed_by passed vid (get_or versions other 0) (has after rid ≡ false) is
      (λ before. h.none_left other rid there before in_list)
      (λ now. absurd (nowhere other there (sym now)));
  each = h.each;
}

-- a member of a list
pub member_at : (xs : List ℕ) (k : ℕ) → k < length xs → has xs (get_or xs k 0) ≡ true
member_at [] k low = absurd (omega (arith, low))
member_at (x ∷ xs) zero low = has-head x xs
member_at (x ∷ xs) (suc k) low = by (x == get_or xs k 0) (member_at xs k (omega (arith, low)))
  where
    by : (b : Bool) → has xs (get_or xs k 0) ≡ true → (b || has xs (get_or xs k 0)) ≡ true
    by true is = refl
    by false is = is
