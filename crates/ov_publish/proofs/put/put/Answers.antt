use Rattle.std.proofs.Common.{rules, ◌≡◌, ◌+◌, ◌*◌, ℕ, length, [], ◌∷◌, subst}
use Rattle.ov_publish.specs.Pages.{range_of, whole_pages}
use Rattle.ov_publish.specs.Puts.{Puts}
use Rattle.ov_publish.proofs.Growing.{none_in, puts_then, puts_wider}
use Rattle.ov_publish.proofs.put.put.Goals as goal

pub returns-in_err-fill_up_to-clause-puts : goal.returns-in_err-fill_up_to-clause-puts
returns-in_err-fill_up_to-clause-puts g c =
    puts_wider [] (range_of c.args.run.page c.args.run.bytes.now ∷ []) (g.H.Host.state c.args.host.now) (g.H.Host.state c.fill_up_to.new.host) (none_in (range_of c.args.run.page c.args.run.bytes.now ∷ [])) c.in_err-fill_up_to.ensures.puts

pub returns-clause-puts : goal.returns-clause-puts
returns-clause-puts g c =
    let at : c.from.result * 4096 ≡ c.args.run.page * 4096 = search rules
    in let P : ℕ → Type 0 = λ n. Puts ((n, n + whole_pages (length c.args.run.bytes.now)) ∷ []) (g.H.Host.state c.fill_up_to.new.host) (g.H.Host.state c.write_padded.new.host)
    in puts_then (range_of c.args.run.page c.args.run.bytes.now ∷ []) (g.H.Host.state c.args.host.now) (g.H.Host.state c.fill_up_to.new.host) (g.H.Host.state c.write_padded.new.host)
    (puts_wider [] (range_of c.args.run.page c.args.run.bytes.now ∷ []) (g.H.Host.state c.args.host.now) (g.H.Host.state c.fill_up_to.new.host) (none_in (range_of c.args.run.page c.args.run.bytes.now ∷ [])) c.in_ok-fill_up_to.ensures.puts)
    (subst P at c.write_padded.ensures.puts)
