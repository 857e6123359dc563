use Rattle.std.proofs.Common.{rules, ℕ, ◌≡◌, ◌<◌, inl, inr, ◌+◌, length, List, take, drop, get_or, arith}
use Rattle.std.proofs.lemmas.Bool.{cases_lt}
use Rattle.std.proofs.lemmas.List.{get_or-take, get_or-drop, get_or_past, length-take, length-drop}
use Rattle.std.proofs.lemmas.Nat.{be_bytes_4}
use Rattle.ov_journal.proofs.header.number_at.Goals as goal

four_bytes : (place : ℕ) (bytes : List ℕ) → ((i : ℕ) → get_or bytes i 0 < 256) → (i : ℕ) → get_or (take 4 (drop place bytes)) i 0 < 256
four_bytes place bytes fits i =
    elim (cases_lt i 4) [
      | inl less ↦ rw (get_or-take 4 (drop place bytes) i 0 less, get_or-drop place bytes i 0) (fits (place + i))
      | inr more ↦ rw (get_or_past (take 4 (drop place bytes)) i 0 (omega (arith, length-take 4 (drop place bytes)))) (omega arith)
    ]

pub returns-clause-spelled : goal.returns-clause-spelled
returns-clause-spelled c =
    let long : length (take 4 (drop c.args.place c.args.bytes.now)) ≡ 4 =
    omega (arith, length-take 4 (drop c.args.place c.args.bytes.now), length-drop c.args.place c.args.bytes.now, c.requires)
    in be_bytes_4 (take 4 (drop c.args.place c.args.bytes.now)) _ long
    (four_bytes c.args.place c.args.bytes.now (λ i. omega (arith, c.type_inv.bytes i))) (search rules)
