-- Lines that are no comments.
use Rattle.std.proofs.Common.{◌≡◌, ◌≤◌, ℕ, Bool, true, false, not, ◌&&◌, List, length, ◌∙◌, ap, inl, inr, arith}
use Rattle.std.specs.Prelude.{nat_le, nat_lt, if◌then◌else◌}
use Rattle.std.specs.Str.{IsUtf8, is_utf8}
use Rattle.std.proofs.lemmas.Str.{IsUtf8-from_is_utf8, is_utf8-from_IsUtf8}
use Rattle.std.proofs.lemmas.Bool.{cases_Bool, le-leb, ltb-true}
use Rattle.ov_model.specs.declared.refusal.Refusal.TheVariants.{LongLine, NotUtf8}
use Rattle.ov_model.specs.Forms.{Form}
use Rattle.ov_model.specs.Line.{Line, Comment, Refused, by_name, line_of}
use Rattle.ov_model.specs.Words.{is_note, without_blanks, next_word}

not_over : (m n : ℕ) → n ≤ m → nat_lt m n ≡ false
not_over m n h = elim (cases_Bool (nat_lt m n)) [ inl over ↦ absurd (omega (arith, ltb-true m n over)) | inr other ↦ other ]

is_no_text : (bs : List ℕ) → (IsUtf8 bs → ⊥) → is_utf8 bs ≡ false
is_no_text bs never = elim (cases_Bool (is_utf8 bs)) [ inl valid ↦ absurd (never (IsUtf8-from_is_utf8 bs valid)) | inr other ↦ other ]

-- the tests of a line, in their order
abbrev tested : Bool → Bool → Bool → Bool → Line → Line
tested long few note text l = if long then Refused LongLine else if few && note then Comment else if not text then Refused NotUtf8 else l

pub of_text : (forms : List Form) (line : List ℕ) → length line ≤ 65536 → is_note (without_blanks line) ≡ false → IsUtf8 line → line_of forms line ≡ by_name forms (next_word line)
of_text forms line short no_note valid =
    ap (λ b. tested b (nat_le (length line) 65536) (is_note (without_blanks line)) (is_utf8 line) (by_name forms (next_word line))) (not_over 65536 (length line) short)
    ∙ ap (λ b. tested false b (is_note (without_blanks line)) (is_utf8 line) (by_name forms (next_word line))) (le-leb (length line) 65536 short)
    ∙ ap (λ b. tested false true b (is_utf8 line) (by_name forms (next_word line))) no_note
    ∙ ap (λ b. tested false true false b (by_name forms (next_word line))) (is_utf8-from_IsUtf8 line valid)

pub of_no_text : (forms : List Form) (line : List ℕ) → length line ≤ 65536 → is_note (without_blanks line) ≡ false → (IsUtf8 line → ⊥) → line_of forms line ≡ Refused NotUtf8
of_no_text forms line short no_note never =
    ap (λ b. tested b (nat_le (length line) 65536) (is_note (without_blanks line)) (is_utf8 line) (by_name forms (next_word line))) (not_over 65536 (length line) short)
    ∙ ap (λ b. tested false b (is_note (without_blanks line)) (is_utf8 line) (by_name forms (next_word line))) (le-leb (length line) 65536 short)
    ∙ ap (λ b. tested false true b (is_utf8 line) (by_name forms (next_word line))) no_note
    ∙ ap (λ b. tested false true false b (by_name forms (next_word line))) (is_no_text line never)
