use Rattle.std.proofs.Common.{◌≡◌, List, ℕ, map}
use Rattle.std.specs.List.{AllZip}
use Rattle.ov_catalog.specs.Sets.{set_in}
use Rattle.ov_fetch.specs.Extents.{IsList, page_bytes}
use Rattle.ov_read.specs.Agreement.{list_of}
use Rattle.ov_read.specs.Damages.{RefusesLists}
use Rattle.ov_read.specs.OfWorld.{IsSpared, rids_in}
use Rattle.ov_read.proofs.Matching.{match_weaker}
use Rattle.ov_read.proofs.Shows.{lists_shown, lists_spared}
use Rattle.ov_read.proofs.lists.lists_of.Goals as goal

pub returns-clause-world : goal.returns-clause-world
returns-clause-world g c told w ds of =
    let area : List ℕ = page_bytes (g.H.Host.state c.args.host.now) in
    let s = set_in c.args.d.now in
    let vids : List ℕ = c.args.vids.now in
    match_weaker c.read_lists.result (λ lists. AllZip (λ vid. IsList area (list_of s vid)) vids lists.items) (λ lists. lists.items ≡ map (rids_in ds) vids) (λ e. RefusesLists e area s vids) IsSpared
    (λ lists are. lists_shown w ds area s vids lists.items of c.requires are) (λ e why. lists_spared w ds area s vids e of c.requires why) (c.read_lists.ensures.answer told)
