-- A read after calls that left the known bytes as they were.
use Rattle.std.proofs.Common.{ℕ, List, take, Option, Some, None, Result, Ok, Err, refl, sym, ◌∙◌}
use Rattle.std.specs.Io.KnownBytes.{Keeps, Consumes, ReadConsumes}

pub keeps_itself : (a : Option (List ℕ)) → Keeps a a
keeps_itself None = tt
keeps_itself (Some xs) = refl

pub keeps_on : (a b c : Option (List ℕ)) → Keeps a b → Keeps b c → Keeps a c
keeps_on None b c first next = tt
keeps_on (Some xs) None c first next = absurd first
keeps_on (Some xs) (Some ys) None first next = absurd next
keeps_on (Some xs) (Some ys) (Some zs) first next = next ∙ first

pub consumes_on : (a b c : Option (List ℕ)) (bs : List ℕ) → Keeps a b → Consumes b c bs → Consumes a c bs
consumes_on None b c bs first next = tt
consumes_on (Some xs) None c bs first next = absurd first
consumes_on (Some xs) (Some ys) None bs first next = absurd next
consumes_on (Some xs) (Some ys) (Some zs) bs first next = sym first ∙ next

pub reads_on : {E : Type 0} (a b c : Option (List ℕ)) (r : Result ℕ E) (buf : List ℕ) → Keeps a b → ReadConsumes b c r buf → ReadConsumes a c r buf
reads_on a b c (Ok n) buf first next = (consumes_on a b c (take n buf) first next.0, next.1)
reads_on a b c (Err e) buf first next = keeps_on a b c first next
