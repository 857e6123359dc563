-- Bytes with a value of a kind in front.
use Rattle.std.proofs.Common.{◌≡◌, ◌<◌, ◌≤◌, ◌^◌, ℕ, Fits, List, ◌++◌, length, take, drop, refl, sym, ◌∙◌, ap, arith, length-take}
use Rattle.std.specs.Int.{w64, from_be_bytes, to_be_bytes, cast_signed, cast_unsigned}
use Rattle.std.proofs.lemmas.Nat.{be_bytes_8}
use Rattle.std.proofs.lemmas.Int.{of_z-to_z}
use Rattle.std.proofs.Math.Facts.{sfits_to_z}
use Rattle.std.proofs.lemmas.List.{take-append-drop}
use Rattle.ov_value.specs.declared.column.Kind.TheVariants as kind
use Rattle.ov_value.specs.Reading.{Begins}
use Rattle.ov_value.specs.Decoding.{front_value}
use Rattle.ov_value.proofs.LowBytes.{AreBytes, take_fits}

pub int_found : (bytes : List ℕ) → AreBytes bytes → 8 ≤ length bytes → Begins kind.Int bytes (front_value kind.Int bytes) (drop 8 bytes)
int_found bytes fits long =
    let eight : AreBytes (take 8 bytes) = take_fits 8 bytes fits in
    let small : from_be_bytes w64 (take 8 bytes) < 2 ^ 64 = omega (arith, eight 0, eight 1, eight 2, eight 3, eight 4, eight 5, eight 6, eight 7) in
    let fit : Fits w64 (from_be_bytes w64 (take 8 bytes)) = omega (arith, eight 0, eight 1, eight 2, eight 3, eight 4, eight 5, eight 6, eight 7) in
    let back : to_be_bytes w64 (from_be_bytes w64 (take 8 bytes)) ≡ take 8 bytes = be_bytes_8 (take 8 bytes) (from_be_bytes w64 (take 8 bytes)) (omega (arith, length-take 8 bytes)) eight refl in
    let signed : cast_unsigned w64 (cast_signed w64 (from_be_bytes w64 (take 8 bytes))) ≡ from_be_bytes w64 (take 8 bytes) = of_z-to_z w64 (from_be_bytes w64 (take 8 bytes)) small in
    record {
      of_kind = tt;
      spelled = (sfits_to_z {w = w64} {n = from_be_bytes w64 (take 8 bytes)} fit, tt);
      not_null = λ e. cc;
      bytes_are = sym (take-append-drop 8 bytes) ∙ ap (λ (l : List ℕ). l ++ drop 8 bytes) (sym (ap (to_be_bytes w64) signed ∙ back));
    }
