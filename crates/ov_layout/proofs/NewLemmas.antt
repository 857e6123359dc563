-- What is below a new version, and below the one after it.
use Rattle.std.proofs.Common.{ℕ, ◌+◌, ◌≤◌, eqb, List, [], ◌∷◌, ◌++◌, inl, inr, arith}
use Rattle.std.proofs.lemmas.Bool.{cases_Bool}
use Rattle.ov_host.specs.declared.area.Extent.{Extent}
use Rattle.ov_layout.specs.declared.part.Part.{Part}
use Rattle.ov_layout.specs.Changes.{IsNew, IsAbove, own_part, joined_at}

pub above-push : (least n : ℕ) (ns : List ℕ) → IsAbove least ns → least ≤ n → IsAbove (n + 1) (ns ++ n ∷ [])
above-push least n [] h le = (omega arith, tt)
above-push least n (m ∷ ns) h le = (let lt = h.0 in omega (arith, lt, le), above-push least n ns h.1 le)

pub above-later : (least n : ℕ) (ns : List ℕ) → IsAbove least ns → least ≤ n → IsAbove n ns
above-later least n [] h le = tt
above-later least n (m ∷ ns) h le = (let lt = h.0 in omega (arith, lt, le), above-later least n ns h.1 le)

-- a later vid is new too
pub new-later : (vid : ℕ) (parts : List Part) → IsNew vid parts → IsNew (vid + 1) parts
new-later vid [] h = tt
new-later vid (part ∷ parts) h = (above-later vid (vid + 1) part.holds h.0 (omega arith), new-later vid parts h.1)

pub new-own : (vid id records : ℕ) (segment : Extent) (parts : List Part) → IsNew vid parts → IsNew (vid + 1) (parts ++ own_part id vid records segment ∷ [])
new-own vid id records segment [] h = ((omega arith, tt), tt)
new-own vid id records segment (part ∷ parts) h = (above-later vid (vid + 1) part.holds h.0 (omega arith), new-own vid id records segment parts h.1)

pub new-joined : (vid id added : ℕ) (segment : Extent) (parts : List Part) → IsNew vid parts → IsNew (vid + 1) (joined_at vid id added segment parts)
new-joined vid id added segment [] h = tt
new-joined vid id added segment (part ∷ parts) h =
    elim (cases_Bool (eqb part.id id)) [
      | inl e ↦ rw e (above-push vid vid part.holds h.0 (omega arith), new-joined vid id added segment parts h.1)
      | inr e ↦ rw e (above-later vid (vid + 1) part.holds h.0 (omega arith), new-joined vid id added segment parts h.1)
    ]
