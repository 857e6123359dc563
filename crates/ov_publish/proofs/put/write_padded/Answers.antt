use Rattle.std.proofs.Common.{◌≡◌, ◌-◌, ◌*◌, true, false, length, arith}
use Rattle.ov_publish.specs.Pages.{whole_pages}
use Rattle.ov_publish.proofs.Padding.{first_puts, both_puts, both_bytes}
use Rattle.ov_publish.proofs.put.write_padded.Goals as goal

pub returns-in_err-write-clause-puts : goal.returns-in_err-write-clause-puts
returns-in_err-write-clause-puts g c =
    first_puts (g.H.Host.state c.args.host.now) (g.H.Host.state c.write.new.self) c.args.at c.args.bytes.now c.requires.within false c.in_err-write.ensures.call c.in_err-write.ensures.fetched

pub returns-in_err-write_zeros-clause-puts : goal.returns-in_err-write_zeros-clause-puts
returns-in_err-write_zeros-clause-puts g c =
    let is : c.div_ceil.result * 4096 - length c.args.bytes.now ≡ whole_pages (length c.args.bytes.now) - length c.args.bytes.now = omega (arith, c.div_ceil.ensures)
    in both_puts (g.H.Host.state c.args.host.now) (g.H.Host.state c.write.new.self) c.args.at c.args.bytes.now c.requires.within (g.H.Host.state c.write_zeros.new.host) _ is c.in_ok-write.ensures.call c.in_ok-write.ensures.fetched false c.in_err-write_zeros.ensures.call c.in_err-write_zeros.ensures.fetched

pub returns-clause-puts : goal.returns-clause-puts
returns-clause-puts g c =
    let is : c.div_ceil.result * 4096 - length c.args.bytes.now ≡ whole_pages (length c.args.bytes.now) - length c.args.bytes.now = omega (arith, c.div_ceil.ensures)
    in both_puts (g.H.Host.state c.args.host.now) (g.H.Host.state c.write.new.self) c.args.at c.args.bytes.now c.requires.within (g.H.Host.state c.write_zeros.new.host) _ is c.in_ok-write.ensures.call c.in_ok-write.ensures.fetched true c.in_ok-write_zeros.ensures.call c.in_ok-write_zeros.ensures.fetched

pub returns-clause-pages : goal.returns-clause-pages
returns-clause-pages g c tells =
    let is : c.div_ceil.result * 4096 - length c.args.bytes.now ≡ whole_pages (length c.args.bytes.now) - length c.args.bytes.now = omega (arith, c.div_ceil.ensures)
    in both_bytes (g.H.Host.state c.args.host.now) (g.H.Host.state c.write.new.self) c.args.at c.args.bytes.now c.requires.within (g.H.Host.state c.write_zeros.new.host) _ is c.in_ok-write.ensures.call c.in_ok-write.ensures.fetched c.in_ok-write_zeros.ensures.call tells
