-- The refusals of a command that the errors of typing stand for.
--     refusal_of why      the refusal; want of memory stands for none
--     Gives answer kinds      the answer is what the definition gives, or its refusal, or memory was wanting
--     Takes answer kinds      the same of an answer that doesn't say what it found
use Rattle.std.specs.Prelude.{◌≡◌, Option, Some, None, Result, Ok, Err, IfSome, IsOk}
use Rattle.ov_model.specs.declared.refusal.Refusal.{Refusal}
use Rattle.ov_model.specs.declared.refusal.Refusal.TheVariants as no
use Rattle.ov_typing.specs.declared.type_err.TypeErr.{TypeErr}
use Rattle.ov_typing.specs.declared.type_err.TypeErr.TheVariants as why

abbrev pub refusal_of : TypeErr → Option Refusal
refusal_of (why.UnknownColumn name) = Some (no.UnknownColumn name)
refusal_of (why.TypeMismatch nth left right) = Some (no.TypeMismatch nth left right)
refusal_of (why.NotGrouped name) = Some (no.NotGrouped name)
refusal_of (why.NeedsInt name) = Some (no.NeedsInt name)
refusal_of why.Memory = None

abbrev pub Gives : {X : Type 0} → Result X TypeErr → Result X Refusal → Type 0
Gives (Ok x) kinds = kinds ≡ Ok x
Gives (Err why) kinds = IfSome (refusal_of why) (λ refusal. kinds ≡ Err refusal)

abbrev pub Takes : {X : Type 0} → Result (Unit {0}) TypeErr → Result X Refusal → Type 0
Takes (Ok _) kinds = IsOk kinds
Takes (Err why) kinds = IfSome (refusal_of why) (λ refusal. kinds ≡ Err refusal)
