-- What a function of the parser returned, beside what reading gives.
--     Gives view returned read      the result, seen by view, is what reading gives, unless memory ran out
use Rattle.std.specs.Prelude.{◌≡◌, Option, Some, None, Result, Ok, Err}
use Rattle.ov_parse.specs.declared.stop.Stop.{Stop}
use Rattle.ov_parse.specs.declared.stop.Stop.TheVariants.{Memory, Unspelled}

abbrev pub Fails : {Y : Type 0} → Stop → Option Y → Type 0
Fails Memory read = Unit {0}
Fails Unspelled read = read ≡ None

abbrev pub Gives : {X Y : Type 0} → (X → Y) → Result X Stop → Option Y → Type 0
Gives view (Ok x) read = read ≡ Some (view x)
Gives view (Err e) read = Fails e read
