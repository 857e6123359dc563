-- What the state machine of `csv` does with bytes of which none is a quote or a carriage return.
use Rattle.std.proofs.Common.{get_or-drop, ◌+◌, ◌≡◌, ◌≤◌, ◌==◌, ◌||◌, ◌++◌, ◌∷◌, [], ℕ, zero, suc, List, Bool, true, false, Option, Some, Result, Ok, Err, length, take, drop, get_or, refl, sym, ◌∙◌, ap, subst, arith, append_assoc}
use Rattle.std.specs.Prelude.{not, IsTrue, OnErr, if◌then◌else◌}
use Rattle.std.specs.List.{list_all, list_any}
use Rattle.std.specs.Str.{is_utf8, IsAscii}
use Rattle.std.proofs.lemmas.Str.{is_utf8-from_IsUtf8, IsUtf8-from_ascii}
use Rattle.ov_csv.proofs.Ascii.{ascii-front}
use Rattle.ov_csv.proofs.Spelled.{and-left, and-right, both}
use Rattle.std.proofs.lemmas.Bool.{eqb-true, ne_eqb}
use Rattle.std.proofs.lemmas.List.{append-nil}
use Rattle.csv.specs.Machine.{Read, next_record}
use Rattle.csv.specs.Reading.{default_config}
use Rattle.csv.specs.declared.parser.State.TheVariants as st
use Rattle.ov_csv.specs.Lines.{records_after}
use Rattle.ov_csv.proofs.Between.{records_after-none}
use Rattle.ov_csv.specs.Plain.{IsPlain, begun, field_end}

-- ---- no quote, no carriage return

either : (a b : Bool) → (a || b) ≡ false → (a ≡ false) × (b ≡ false)
either true b e = cc
either false b e = (refl, e)

pub plain_of : (bytes : List ℕ) → list_any (λ y. y == 34) bytes ≡ false → list_any (λ y. y == 13) bytes ≡ false → IsPlain bytes
plain_of [] q r = tt
plain_of (b ∷ bytes) q r =
    let a = either (b == 34) (list_any (λ y. y == 34) bytes) q in
    let c = either (b == 13) (list_any (λ y. y == 13) bytes) r in
    (a.0, c.0, plain_of bytes a.1 c.1)

pub plain_drop : (n : ℕ) (bytes : List ℕ) → IsPlain bytes → IsPlain (drop n bytes)
plain_drop zero bytes p = p
plain_drop (suc n) [] p = tt
plain_drop (suc n) (b ∷ bytes) p = plain_drop n bytes p.2

-- ---- at the start of a field it is as within one

pub same_field : (fields : List (List ℕ)) (field xs : List ℕ) → IsPlain xs → next_record default_config st.StartField fields field xs ≡ next_record default_config st.InField fields field xs
unfolding next_record
same_field fields field [] p = refl
same_field fields field (b ∷ bytes) p = rw p.0 refl

-- and so at that of a record, unless a line feed stands there
pub same_record : (xs : List ℕ) → IsPlain xs → (get_or xs 0 0 == 10) ≡ false → next_record default_config st.StartRecord [] [] xs ≡ begun xs
unfolding next_record
same_record [] p e = refl
same_record (b ∷ bytes) p e = rw (p.0, p.1, e) refl

pub skipped : (xs : List ℕ) (b : ℕ) (rest : List ℕ) → xs ≡ b ∷ rest → b ≡ 10 → next_record default_config st.StartRecord [] [] xs ≡ next_record default_config st.StartRecord [] [] rest
unfolding next_record
skipped xs b rest is lf = (λ j. next_record default_config st.StartRecord [] [] (is j)) ∙ (λ j. next_record default_config st.StartRecord [] [] (lf j ∷ rest))

-- ---- a field

-- within a field, of which these bytes were read
abbrev within : List (List ℕ) → List ℕ → List ℕ → Option Read
within fields field xs = next_record default_config st.InField fields field xs

ends_here : (fields : List (List ℕ)) (field xs : List ℕ) → field_end xs ≡ 0 → within fields field xs ≡ within fields (field ++ take (field_end xs) xs) (drop (field_end xs) xs)
ends_here fields field xs is = ap (λ f. within fields f xs) (sym (append-nil field)) ∙ (λ j. within fields (field ++ take (sym is j) xs) (drop (sym is j) xs))

field_read : (fields : List (List ℕ)) (field xs : List ℕ) → IsPlain xs → within fields field xs ≡ within fields (field ++ take (field_end xs) xs) (drop (field_end xs) xs)
unfolding next_record
field_read fields field [] p = ap (λ f. within fields f []) (sym (append-nil field))
field_read fields field (b ∷ bytes) p = by (b == 44) (b == 10) refl refl (field_read fields (field ++ b ∷ []) bytes p.2)
  where
    by : (comma lf : Bool) → (b == 44) ≡ comma → (b == 10) ≡ lf
        → within fields (field ++ b ∷ []) bytes ≡ within fields ((field ++ b ∷ []) ++ take (field_end bytes) bytes) (drop (field_end bytes) bytes)
        → within fields field (b ∷ bytes) ≡ within fields (field ++ take (field_end (b ∷ bytes)) (b ∷ bytes)) (drop (field_end (b ∷ bytes)) (b ∷ bytes))
    by true lf c l later = ends_here fields field (b ∷ bytes) (rw c refl)
    by false true c l later = ends_here fields field (b ∷ bytes) (rw (c, l) refl)
    by false false c l later =
        let is : suc (field_end bytes) ≡ field_end (b ∷ bytes) = rw (c, l) refl in
        let one : within fields field (b ∷ bytes) ≡ within fields (field ++ b ∷ []) bytes = rw (c, p.1, l) refl in
        one ∙ later
        ∙ ap (λ f. within fields f (drop (field_end bytes) bytes)) (append_assoc field (b ∷ []) (take (field_end bytes) bytes))
        ∙ (λ j. within fields (field ++ take (is j) (b ∷ bytes)) (drop (is j) (b ∷ bytes)))

pub end_low : (xs : List ℕ) → field_end xs ≤ length xs
end_low [] = omega arith
end_low (b ∷ bytes) = by (b == 44 || b == 10) (end_low bytes)
  where
    by : (stop : Bool) → field_end bytes ≤ length bytes → (if stop then 0 else suc (field_end bytes)) ≤ suc (length bytes)
    by true low = omega arith
    by false low = omega (arith, low)

-- a comma or a line feed stands there
end_byte : (xs : List ℕ) (b : ℕ) (more : List ℕ) → drop (field_end xs) xs ≡ b ∷ more → (b == 44 || b == 10) ≡ true
end_byte [] b more is = cc
end_byte (x ∷ xs) b more is = by (x == 44 || x == 10) refl is (end_byte xs b more)
  where
    by : (stop : Bool) → (x == 44 || x == 10) ≡ stop → drop (if stop then 0 else suc (field_end xs)) (x ∷ xs) ≡ b ∷ more → (drop (field_end xs) xs ≡ b ∷ more → (b == 44 || b == 10) ≡ true) → (b == 44 || b == 10) ≡ true
    by true e is later = ap (λ (l : List ℕ). get_or l 0 0 == 44 || get_or l 0 0 == 10) (sym is) ∙ e
    by false e is later = later is

-- ---- a field that was cut off

pub record IsCut (fields : List (List ℕ)) (xs front back : List ℕ) (new : List (List ℕ)) : Type 0 where
  pub plain : IsPlain xs
  pub front_is : front ≡ take (field_end xs) xs
  pub back_is : back ≡ drop (field_end xs) xs
  pub new_is : new ≡ fields ++ front ∷ []

cut_off : (fields : List (List ℕ)) (xs front back : List ℕ) (new : List (List ℕ)) → IsCut fields xs front back new → within fields [] xs ≡ within fields front back
cut_off fields xs front back new h = field_read fields [] xs h.plain ∙ (λ j. within fields (sym h.front_is j) (sym h.back_is j))

pub last_cut : (fields : List (List ℕ)) (xs front back : List ℕ) (new : List (List ℕ)) → IsCut fields xs front back new → length back ≡ 0 → within fields [] xs ≡ Some (new, st.StartRecord, back)
unfolding next_record
last_cut fields xs front [] new h none = cut_off fields xs front [] new h ∙ ap (λ l. Some (l, st.StartRecord, [])) (sym h.new_is)
last_cut fields xs front (b ∷ back) new h none = absurd (omega (arith, none))

pub line_cut : (fields : List (List ℕ)) (xs front back : List ℕ) (new : List (List ℕ)) (b : ℕ) (more : List ℕ) → IsCut fields xs front back new → back ≡ b ∷ more → b ≡ 10 → within fields [] xs ≡ Some (new, st.StartRecord, more)
unfolding next_record
line_cut fields xs front back new b more h is lf =
    cut_off fields xs front back new h ∙ ap (within fields front) (is ∙ ap (λ c. c ∷ more) lf) ∙ ap (λ l. Some (l, st.StartRecord, more)) (sym h.new_is)

pub next_cut : (fields : List (List ℕ)) (xs front back : List ℕ) (new : List (List ℕ)) (b : ℕ) (more : List ℕ) → IsCut fields xs front back new → back ≡ b ∷ more → (b ≡ 10 → ⊥) → within fields [] xs ≡ within new [] more
unfolding next_record
next_cut fields xs front back new b more h is other =
    let at = end_byte xs b more (sym h.back_is ∙ is) in
    let comma : b ≡ 44 = by (b == 44) refl (rw (ne_eqb b 10 other) at at) in
    let plain : IsPlain more = (subst IsPlain (sym h.back_is ∙ is) (plain_drop (field_end xs) xs h.plain)).2 in
    cut_off fields xs front back new h ∙ ap (within fields front) (is ∙ ap (λ c. c ∷ more) comma)
    ∙ same_field (fields ++ front ∷ []) [] more plain
    ∙ ap (λ l. within l [] more) (sym h.new_is)
  where
    by : (t : Bool) → (b == 44) ≡ t → (b == 44 || false) ≡ true → b ≡ 44
    by true e f = eqb-true b 44 e
    by false e f = absurd (clash (sym (rw e at f)))
      where
        clash : true ≡ false → ⊥
        clash w = cc

pub back_plain : (fields : List (List ℕ)) (xs front back : List ℕ) (new : List (List ℕ)) → IsCut fields xs front back new → IsPlain back
back_plain fields xs front back new h = subst IsPlain (sym h.back_is) (plain_drop (field_end xs) xs h.plain)

-- ---- in the words of the functions

pub not_true : (b : Bool) → IsTrue (not b) → b ≡ false
not_true true e = cc
not_true false e = refl

pub at_byte : (xs : List ℕ) (b : ℕ) (more : List ℕ) → xs ≡ b ∷ more → IsPlain xs → (b ≡ 10 → ⊥) → next_record default_config st.StartRecord [] [] xs ≡ begun xs
at_byte xs b more is p other = same_record xs p (ap (λ (l : List ℕ). get_or l 0 0 == 10) is ∙ ne_eqb b 10 other)

pub at_end : (xs : List ℕ) → length xs ≡ 0 → IsPlain xs → next_record default_config st.StartRecord [] [] xs ≡ begun xs
at_end [] none p = same_record [] p refl
at_end (b ∷ bytes) none p = absurd (omega (arith, none))

pub rest_plain : (xs : List ℕ) (b : ℕ) (more : List ℕ) → xs ≡ b ∷ more → IsPlain xs → IsPlain more
rest_plain xs b more is p = (subst IsPlain is p).2

-- ---- what is left

pub none_left : records_after st.StartRecord (Some []) ≡ []
none_left = records_after-none st.StartRecord [] (same_record [] tt refl)

pub on_err : {X E : Type 0} (r : Result X E) (P : Type 0) → P → OnErr r P
on_err (Ok x) P p = tt
on_err (Err e) P p = p

-- ---- ASCII

pub ascii_rest : (xs : List ℕ) (b : ℕ) (more : List ℕ) → xs ≡ b ∷ more → IsAscii xs → IsAscii more
ascii_rest xs b more is h i = (subst IsAscii is h) (suc i)

all_push : (fields : List (List ℕ)) (field : List ℕ) → list_all is_utf8 fields ≡ true → is_utf8 field ≡ true → list_all is_utf8 (fields ++ field ∷ []) ≡ true
all_push [] field all one = both _ _ one refl
all_push (f ∷ fields) field all one = both _ _ (and-left _ _ all) (all_push fields field (and-right _ _ all) one)

pub ascii_cut : (fields : List (List ℕ)) (xs front back : List ℕ) (new : List (List ℕ)) → IsCut fields xs front back new → (list_all is_utf8 fields ≡ true) × IsAscii xs
    → (list_all is_utf8 new ≡ true) × IsAscii back
ascii_cut fields xs front back new h told = (
  subst (λ l. list_all is_utf8 l ≡ true) (sym h.new_is) (all_push fields front told.0 (is_utf8-from_IsUtf8 front (IsUtf8-from_ascii front (subst IsAscii (sym h.front_is) (ascii-front (field_end xs) xs told.1))))),
  subst IsAscii (sym h.back_is) (λ i. rw (get_or-drop (field_end xs) xs i 0) (told.1 (field_end xs + i))),
)
