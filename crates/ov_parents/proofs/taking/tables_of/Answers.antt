use Rattle.std.proofs.Common.{◌≡◌, ℕ, [], ◌∷◌, List, length, sym, subst}
use Rattle.std.specs.List.{All, AllZip}
use Rattle.ov_segment.specs.declared.numbered.Record.{Record}
use Rattle.ov_fetch.specs.Scans.{AllStand}
use Rattle.ov_parents.specs.Taking.{StandAt}
use Rattle.ov_parents.proofs.Taken.{ok_on, one_stands}
use Rattle.ov_parents.proofs.taking.tables_of.Goals as goal

pub returns-then-picks-eq1 : goal.returns-then-picks-eq1
returns-then-picks-eq1 c =
    let same : c.as_slice-picks.result.now ≡ c.args.scan.picks = c.as_slice-picks.ensures in
    let one : length c.as_slice-picks.result.now ≡ 1 = c.if-picks-eq1.true in
    let stand = subst (λ (ps : List (List ℕ)). All (AllStand c.args.scan.records) ps) (sym same) c.requires in
    let stands : AllZip (StandAt c.args.scan.records) c.as_slice-picks.result.now (c.in_ok-only.only ∷ []) =
    one_stands c.args.scan.records c.as_slice-picks.result.now c.index-picks-0.result c.as_slice.result.now c.in_ok-only.only one c.index-picks-0.is c.as_slice.ensures stand c.in_ok-only.ensures in
    ok_on c.alone.result (λ tables. tables.items ≡ c.in_ok-only.only ∷ []) (λ tables. AllZip (StandAt c.args.scan.records) c.args.scan.picks tables.items)
    (λ tables is. subst (λ (ts : List (List Record)). AllZip (StandAt c.args.scan.records) c.args.scan.picks ts) (sym is)
    (subst (λ (ps : List (List ℕ)). AllZip (StandAt c.args.scan.records) ps (c.in_ok-only.only ∷ [])) same stands)) c.alone.ensures
