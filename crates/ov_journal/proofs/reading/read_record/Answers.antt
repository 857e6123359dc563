use Rattle.std.proofs.Common.{ℕ, ◌≡◌, ◌<◌, ◌≤◌, ◌+◌, length, List, take, drop, get_or, Option, Vec, Global, refl, ap, subst, ◌∙◌, arith, rules}
use Rattle.std.specs.Prelude.{MatchOption}
use Rattle.ov_host.specs.declared.area.Area.TheVariants.{Journal}
use Rattle.ov_host.specs.Host.{bytes_of}
use Rattle.ov_host.specs.Tape.{Tape}
use Rattle.ov_journal.specs.Ahead.{behind}
use Rattle.ov_journal.specs.Bytes.{number_at}
use Rattle.ov_journal.proofs.AheadLemmas.{behind_is}
use Rattle.ov_journal.proofs.ReadingRecords.{gate_is, past_long, record_is}
use Rattle.ov_journal.proofs.reading.read_record.Goals as goal
use Rattle.ov_journal.proofs.reading.read_record.Goals.{then-is_empty-via-then-is_empty, then-is_empty-via-else-is_empty+then-front}

pub returns-then-is_empty-clause-bytes : goal.returns-then-is_empty-clause-bytes
returns-then-is_empty-clause-bytes g c told within open_ =
    let all : List ℕ = bytes_of Journal (g.H.Host.state c.args.host.now)
    in let front : List ℕ = behind c.reach.new.self c.args.at
    in let is : front ≡ take (length front) (drop c.args.at all) = behind_is all c.reach.new.self c.args.at (c.in_ok-reach.ensures.known told)
    in let some : 1 ≤ length front = omega (arith, c.in_ok-reach.ensures.reached told, within, c.requires.before)
    in let gate : get_or front 0 0 ≡ get_or (drop c.args.at all) 0 0 = gate_is all front c.args.at c.args.end within c.requires.before is some
    in elim c.then-is_empty.branch [ then-is_empty-via-then-is_empty w ↦ search rules | then-is_empty-via-else-is_empty+then-front w ↦ w.if-front.true (ap (λ (b : List ℕ). get_or b 0 0) c.behind-front.ensures ∙ gate ∙ open_) ]

pub returns-then-end-at-clause-bytes : goal.returns-then-end-at-clause-bytes
returns-then-end-at-clause-bytes g c told within =
    let all : List ℕ = bytes_of Journal (g.H.Host.state c.args.host.now)
    in let front : List ℕ = behind c.reach.new.self c.args.at
    in let is : front ≡ take (length front) (drop c.args.at all) = behind_is all c.reach.new.self c.args.at (c.in_ok-reach.ensures.known told)
    in let full : 5 ≤ length front = search rules
    in let open_ : get_or front 0 0 ≡ 165 = search rules
    in let number : c.number_at-count.result ≡ number_at 1 front = c.number_at-count.ensures.value ∙ ap (number_at 1) c.behind-front.ensures
    in (refl, past_long all front c.args.at c.args.end within c.requires.before is full open_ (omega (arith, c.from.ensures, number)))

pub returns-in-Some-clause-bytes : goal.returns-in-Some-clause-bytes
returns-in-Some-clause-bytes g c told within =
    let all : List ℕ = bytes_of Journal (g.H.Host.state c.args.host.now)
    in let front : List ℕ = behind c.reach.new.self c.args.at
    in let is : front ≡ take (length front) (drop c.args.at all) = behind_is all c.reach.new.self c.args.at (c.in_ok-reach.ensures.known told)
    in let full : 5 ≤ length front = search rules
    in let open_ : get_or front 0 0 ≡ 165 = search rules
    in let count : ℕ = c.number_at-count.result
    in let fits : c.args.at + 5 + count < c.args.end = omega (arith, c.from.ensures)
    in let same : bytes_of Journal (g.H.Host.state c.reach.new.host) ≡ all = ap (λ (t : Tape). t.disk.journal.bytes) (c.in_ok-reach.ensures.looked.tape told)
    in let Read : Option (Vec ℕ Global) → Type 0 = λ o. MatchOption o ⊥ (λ b. b.items ≡ take count (drop (c.args.at + 5) (bytes_of Journal (g.H.Host.state c.reach.new.host))))
    in let got : Read c.in_ok-bytes.field-0 = c.in_ok-bytes.ensures.bytes (c.in_ok-reach.ensures.looked.told ∙ told) (omega (arith, fits, within, ap length same))
    in let bytes : c.in-Some.bytes.items ≡ take count (drop (c.args.at + 5) (bytes_of Journal (g.H.Host.state c.reach.new.host))) = subst Read c.in-Some.is got
    in let here : c.new.result ≡ take count (drop (c.args.at + 5) all) = c.new.ensures ∙ bytes ∙ ap (λ (b : List ℕ). take count (drop (c.args.at + 5) b)) same
    in record_is all front c.args.at c.args.end within c.requires.before is full open_ c.new.result count (search rules) fits here
