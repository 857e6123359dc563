use Rattle.std.proofs.Common.{ℕ, ◌≡◌, ◌≤◌, List, take, length, ◌∙◌, rules}
use Rattle.ov_host.specs.declared.area.Area.TheVariants.{Journal}
use Rattle.ov_host.specs.Host.{bytes_of}
use Rattle.ov_journal.specs.Ahead.{behind}
use Rattle.ov_journal.proofs.AheadLemmas.{front_of}
use Rattle.ov_journal.proofs.reading.read_payload.Goals as goal

pub returns-clause-bytes : goal.returns-clause-bytes
returns-clause-bytes g c told within =
    let all : List ℕ = bytes_of Journal (g.H.Host.state c.args.host.now)
    in let held : List ℕ = behind c.reach.new.self c.args.at
    in let enough : c.args.count ≤ length held = search rules
    in let copied : c.extend_from_slice.new.self.items ≡ take c.args.count held = search rules
    in copied ∙ front_of all c.reach.new.self c.args.at c.args.count (c.in_ok-reach.ensures.known told) enough
