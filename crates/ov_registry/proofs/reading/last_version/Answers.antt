use Rattle.std.proofs.Common.{rules, ◌≡◌, length, sym, ◌∙◌}
use Rattle.std.proofs.lemmas.List.{length-map}
use Rattle.ov_catalog.specs.Sets.{version_in}
use Rattle.ov_registry.proofs.reading.last_version.Goals as goal

pub returns : goal.returns
returns c =
    let long : c.len.result ≡ length c.args.d.now.versions.items = search rules
    in long ∙ sym (length-map c.args.d.now.versions.items version_in)
