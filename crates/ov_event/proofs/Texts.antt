-- Reading a text, as the code does.
use Rattle.std.proofs.Common.{◌≡◌, ℕ, false, List, Some, None, refl, IsUtf8}
use Rattle.std.specs.Str.{is_utf8}
use Rattle.std.proofs.lemmas.Str.{IsUtf8-from_is_utf8, is_utf8-from_IsUtf8}
use Rattle.std.proofs.lemmas.Bool.{false_from_ne_true}
use Rattle.ov_event.specs.Reading.{u32_at, front_at, text_at}

pub text_read : (bytes : List ℕ) (n : ℕ) (behind t rest : List ℕ) → u32_at bytes ≡ Some (n, behind) → front_at n behind ≡ Some (t, rest) → IsUtf8 t → text_at bytes ≡ Some (t, rest)
unfolding text_at
text_read bytes n behind t rest a b u = rw (a, b, is_utf8-from_IsUtf8 t u) refl

pub no_text : (bytes : List ℕ) (n : ℕ) (behind t rest : List ℕ) → u32_at bytes ≡ Some (n, behind) → front_at n behind ≡ Some (t, rest) → (IsUtf8 t → ⊥) → text_at bytes ≡ None
unfolding text_at
no_text bytes n behind t rest a b u =
    let no : is_utf8 t ≡ false = false_from_ne_true (is_utf8 t) (λ e. u (IsUtf8-from_is_utf8 t e)) in
    rw (a, b, no) refl
