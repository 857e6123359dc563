-- Looks at a host, one after another.
use Rattle.std.proofs.Common.{◌≡◌, ◌≤◌, ◌+◌, ℕ, Bool, true, false, refl, ◌∙◌, ap, arith}
use Rattle.ov_host.specs.declared.area.Area.TheVariants.{Pages}
use Rattle.ov_host.specs.Host.{State, Calls, fetched_by}
use Rattle.ov_host.specs.Tape.{Looks, Tape}
use Rattle.ov_fetch.specs.Extents.{Looked, page_bytes}

pub looked_at_all : (s : State) → Looked s s
looked_at_all s = record { told = refl; kept = refl; tape = λ told. refl; faults = omega arith; fetched = omega arith }

pub looked_again : (a b c : State) → Looked a b → Looked b c → Looked a c
looked_again a b c h k = record {
  told = k.told ∙ h.told;
  kept = k.kept ∙ h.kept;
  tape = λ told. k.tape (h.told ∙ told) ∙ h.tape told;
  faults = omega (arith, h.faults, k.faults);
  fetched = omega (arith, h.fetched, k.fetched);
}

-- a read of pages that gave n bytes
pub looked_by : (ok : Bool) (n : ℕ) (a b : State) → Calls Looks ok a b → b.fetched ≡ fetched_by Pages ok n a.fetched → Looked a b
looked_by true n a b h fetched = record { told = h.told; kept = h.kept; tape = h.plays; faults = h.faults; fetched = omega (arith, fetched) }
looked_by false n a b h fetched = record { told = h.told; kept = h.kept; tape = h.plays; faults = h.faults; fetched = omega (arith, fetched) }

pub same_pages : (a b : State) → Looked a b → a.tells ≡ true → page_bytes b ≡ page_bytes a
same_pages a b h told = ap (λ (t : Tape). t.disk.pages.bytes) (h.tape told)

pub fetched_more : (n before : ℕ) → fetched_by Pages true n before ≤ before + n
fetched_more n before = omega arith
