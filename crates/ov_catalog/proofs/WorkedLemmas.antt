-- The event of a dataset without rows is that of its move.
use Rattle.std.proofs.Common.{◌≡◌, ℕ, Bool, true, false, ◌&&◌, [], ◌∷◌, refl, inl, inr, arith, codes}
use Rattle.std.specs.Prelude.{Some, None, IsTrue, nat_le, nat_lt}
use Rattle.std.proofs.lemmas.Bool.{cases_Bool, ltb-true}
use Rattle.ov_value.specs.Naming.{is_name, is_vid, is_column_name}
use Rattle.ov_value.specs.Making.{column_refusal, key_refusal, name_refusal}
use Rattle.ov_value.specs.Shapes.{IsSound}
use Rattle.ov_value.proofs.SchemaLemmas.{sound-new}
use Rattle.ov_model.specs.World.{empty_world}
use Rattle.ov_host.specs.declared.area.Extent.{Extent}
use Rattle.ov_catalog.specs.Numbers.{nothing_yet}
use Rattle.ov_catalog.specs.Applying.{first_off}
use Rattle.ov_catalog.specs.Extents.{covers}
use Rattle.ov_catalog.specs.Events.{Init}
use Rattle.ov_catalog.specs.Reached.{InitFits}
use Rattle.ov_catalog.specs.Stands.{Readings, IsMove}
use Rattle.ov_catalog.specs.Worked.{nowhere, key_column, one_column, empty_event, empty_move}

named : IsTrue (is_name (codes "empty"))
unfolding is_name
named = refl

sound : IsSound one_column
unfolding is_name is_vid is_column_name name_refusal column_refusal key_refusal
sound = sound-new (key_column ∷ []) (codes "k" ∷ []) refl refl

applies : (format : ℕ) → first_off {L = Extent} {S = Extent} format empty_event nothing_yet ≡ None
unfolding is_name is_vid is_column_name name_refusal column_refusal key_refusal
applies format = refl

and-no : (b : Bool) → (b && false) ≡ false
and-no true = refl
and-no false = refl

covers-none : (page : ℕ) → covers (nowhere ∷ []) page ≡ 0
covers-none page =
    elim (cases_Bool (nat_lt page 0)) [
      | inl lt ↦ let no = ltb-true page 0 lt in absurd (omega arith)
      | inr ge ↦ rw (ge, and-no (nat_le 0 page)) refl
    ]

fits : InitFits empty_world (codes "empty") one_column []
fits = record {
  numbers = omega arith;
  named = named;
  new = refl;
  few = omega arith;
  sound = sound;
  plain = λ one. absurd (omega (arith, one));
  sorted = record { rise = tt; few = omega arith; fit = λ k d lt. absurd (omega arith); short = λ k d lt. absurd (omega arith) };
}

pub empty-move : (format : ℕ) (r : Readings) → r.list nowhere ≡ Some [] → IsMove format empty_event empty_move empty_world nothing_yet r
empty-move format r read = record {
  fits = fits;
  applies = applies format;
  spells = λ i. Some (Init (codes "empty") one_column 0 (read i) []);
  apart = λ page. let none = covers-none page in omega (arith, none);
  inside = λ page some. let none = covers-none page in absurd (omega (arith, none, some));
}
