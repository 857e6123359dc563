use Rattle.std.proofs.Common.{rules, ◌≡◌, ◌<◌, ◌-◌, length, sym, ◌∙◌, ap, arith}
use Rattle.std.proofs.lemmas.List.{length-map}
use Rattle.ov_host.specs.declared.area.Extent.{Extent}
use Rattle.ov_catalog.specs.Sets as sets
use Rattle.ov_read.specs.Agreement.{list_of}
use Rattle.ov_read.proofs.Numbered.{list_is}
use Rattle.ov_registry.proofs.reading.list_page.Goals as goal

pub returns : goal.returns
returns c =
    let d = c.args.d.now
    in let count : c.len.result ≡ length d.versions.items = search rules
    in let low : c.len.result - 1 < length d.versions.items = omega (arith, c.requires.some, count)
    in sym (ap (λ (e : Extent). e.page) (list_is d c.len.result c.index.result.now low c.index.ensures))
    ∙ ap (λ n. (list_of (sets.set_in d) n).page) (count ∙ sym (length-map d.versions.items sets.version_in))
