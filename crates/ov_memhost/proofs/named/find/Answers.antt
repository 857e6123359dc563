use Rattle.std.proofs.Common.{sym, ◌∙◌, ap, subst, Some, None, MatchOption, ◌≡◌}
use Rattle.std.specs.FinMap.{get}
use Rattle.ov_memhost.specs.Named.{files_of}
use Rattle.ov_memhost.proofs.Files.{get_missing, get_first}
use Rattle.ov_memhost.proofs.named.find.Goals as goal

pub returns-in_err-place : goal.returns-in_err-place
returns-in_err-place c =
    subst
    (λ r. MatchOption r (get (files_of c.args.files.now) c.args.name.now ≡ None) (λ bytes. get (files_of c.args.files.now) c.args.name.now ≡ Some bytes.now))
    (sym c.from_residual.ensures) (get_missing c.args.files.now c.args.name.now c.in_err-place.ensures)

pub returns : goal.returns
returns c =
    get_first c.args.files.now c.args.name.now c.in_ok-place.place c.in_ok-place.ensures
    ∙ ap Some (sym c.bytes_of.ensures)
