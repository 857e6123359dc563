-- The first byte of a token tells its kind, so what is the longest of that kind is the longest of all.
use Rattle.std.proofs.Common.{◌≡◌, inl, inr, ℕ, zero, suc, ◌<◌, ◌≤◌, true, ◌==◌, List, [], ◌∷◌, length, take, get_or, refl, sym, ap, subst, arith}
use Rattle.std.specs.List.{list_all}
use Rattle.std.specs.Char.{is_ascii_digit}
use Rattle.std.proofs.lemmas.Bool.{cases_Bool, and_parts, eqb-true}
use Rattle.std.proofs.lemmas.Bool.Decides.{nat_tests}
use Rattle.ov_lex.specs.declared.token.TokenKind.{TokenKind}
use Rattle.ov_lex.specs.declared.token.TokenKind.TheVariants.{Word, Quoted, Number, Text, Sign}
use Rattle.ov_lex.specs.Spellings.{IsNumber, is_short_sign, is_long_sign, IsSpelling, IsInRange, Begins, BeginsNone}
use Rattle.ov_lex.specs.Scans.{IsLongest, HasNone, kind_by}

digit-kind : (b : ℕ) → is_ascii_digit b ≡ true → kind_by b ≡ Number
digit-kind b e = grind (arith, nat_tests)

short-kind : (b : ℕ) → is_short_sign b ≡ true → kind_by b ≡ Sign
short-kind b e = grind (arith, nat_tests)

long-kind : (b c : ℕ) → is_long_sign b c ≡ true → kind_by b ≡ Sign
long-kind b c e = grind (arith, nat_tests)

number-kind : (b : ℕ) (bs : List ℕ) → IsNumber (b ∷ bs) → kind_by b ≡ Number
number-kind b bs s = elim (cases_Bool (b == 45)) [
  | inl e ↦ ap kind_by (eqb-true b 45 e)
  | inr e ↦ digit-kind b (and_parts (is_ascii_digit b) (list_all is_ascii_digit bs) (rw e at s.digits)).0
]

pub spelled-kind : (kind : TokenKind) (b : ℕ) (bs : List ℕ) → IsSpelling kind (b ∷ bs) → kind_by b ≡ kind
spelled-kind Word b bs s = rw s.0 refl
spelled-kind Quoted b bs s = let first : b ≡ 34 = cc (s.between) in ap kind_by first
spelled-kind Number b bs s = number-kind b bs s
spelled-kind Text b bs s = let first : b ≡ 39 = cc (s.spelled) in ap kind_by first
spelled-kind Sign b [] s = short-kind b s
spelled-kind Sign b (c ∷ []) s = long-kind b c s
spelled-kind Sign b (c ∷ d ∷ bs) s = absurd s

pub not_empty : (kind : TokenKind) → IsSpelling kind [] → ⊥
not_empty Word s = s
not_empty Quoted s = omega (arith, ap length s.between)
not_empty Number s = omega (arith, s.some)
not_empty Text s = omega (arith, ap length s.spelled)
not_empty Sign s = s

-- a front of the bytes is of the kind that the first byte tells
pub front-kind : (kind : TokenKind) (b : ℕ) (bs : List ℕ) (m : ℕ) → IsSpelling kind (take m (b ∷ bs)) → kind_by b ≡ kind
front-kind kind b bs zero s = absurd (not_empty kind s)
front-kind kind b bs (suc m) s = spelled-kind kind b (take m bs) s

pub begins : (b : ℕ) (bs : List ℕ) (n : ℕ) → IsLongest (kind_by b) (b ∷ bs) n → IsInRange (kind_by b) (take n (b ∷ bs)) → Begins (b ∷ bs) (kind_by b) n
begins b bs n h r = record {
  within = h.within;
  spelled = h.spelled;
  longest = λ other m le s. h.longest m le (subst (λ (k : TokenKind). IsSpelling k (take m (b ∷ bs))) (sym (front-kind other b bs m s)) s);
  in_range = r;
}

pub begins_none : (b : ℕ) (bs : List ℕ) → HasNone (kind_by b) (b ∷ bs) → BeginsNone (b ∷ bs)
begins_none b bs none kind n h = none n h.within (subst (λ (k : TokenKind). IsSpelling k (take n (b ∷ bs))) (sym (front-kind kind b bs n h.spelled)) h.spelled)

same_len : (m n : ℕ) → m ≤ n → n ≤ m → m ≡ n
same_len m n h k = omega arith

-- a longest front that is a number out of range
pub out_of_range : (b : ℕ) (bs : List ℕ) (n : ℕ) → IsLongest (kind_by b) (b ∷ bs) n → (IsInRange (kind_by b) (take n (b ∷ bs)) → ⊥) → BeginsNone (b ∷ bs)
out_of_range b bs n h beyond kind m begun =
    let is : kind ≡ kind_by b = sym (front-kind kind b bs m begun.spelled) in
    let spelled : IsSpelling (kind_by b) (take m (b ∷ bs)) = subst (λ (k : TokenKind). IsSpelling k (take m (b ∷ bs))) is begun.spelled in
    let in_range : IsInRange (kind_by b) (take m (b ∷ bs)) = subst (λ (k : TokenKind). IsInRange k (take m (b ∷ bs))) is begun.in_range in
    let same : m ≡ n = same_len m n (h.longest m begun.within spelled) (begun.longest (kind_by b) n h.within h.spelled) in
    beyond (subst (λ (k : ℕ). IsInRange (kind_by b) (take k (b ∷ bs))) same in_range)

-- ---- the same of bytes of which there is one at least

pub begins_at : (bytes : List ℕ) (kind : TokenKind) (n : ℕ) → 0 < length bytes → kind ≡ kind_by (get_or bytes 0 0) → IsLongest kind bytes n → IsInRange kind (take n bytes) → Begins bytes kind n
begins_at [] kind n some is h r = absurd (omega arith)
begins_at (b ∷ bs) kind n some is h r =
    subst (λ (k : TokenKind). Begins (b ∷ bs) k n) (sym is) (begins b bs n (subst (λ (k : TokenKind). IsLongest k (b ∷ bs) n) is h) (subst (λ (k : TokenKind). IsInRange k (take n (b ∷ bs))) is r))

pub begins_none_at : (bytes : List ℕ) (kind : TokenKind) → 0 < length bytes → kind ≡ kind_by (get_or bytes 0 0) → HasNone kind bytes → BeginsNone bytes
begins_none_at [] kind some is h = absurd (omega arith)
begins_none_at (b ∷ bs) kind some is h = begins_none b bs (subst (λ (k : TokenKind). HasNone k (b ∷ bs)) is h)

pub out_of_range_at : (bytes : List ℕ) (kind : TokenKind) (n : ℕ) → 0 < length bytes → kind ≡ kind_by (get_or bytes 0 0) → IsLongest kind bytes n → (IsInRange kind (take n bytes) → ⊥) → BeginsNone bytes
out_of_range_at [] kind n some is h beyond = absurd (omega arith)
out_of_range_at (b ∷ bs) kind n some is h beyond =
    out_of_range b bs n (subst (λ (k : TokenKind). IsLongest k (b ∷ bs) n) is h) (λ r. beyond (subst (λ (k : TokenKind). IsInRange k (take n (b ∷ bs))) (sym is) r))
