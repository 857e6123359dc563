use Rattle.std.proofs.Common.{length, refl, ◌∙◌, ap, arith}
use Rattle.ov_match.specs.Matching.{places_within, kept_of}
use Rattle.ov_model.specs.Lists.{joined}
use Rattle.ov_member.proofs.RidLemmas.{length-RiseFrom}
use Rattle.ov_match.proofs.Counts.{missing_is}
use Rattle.ov_match.proofs.Cheapest.{sound_at, is_cheapest, none_is_cheap}
use Rattle.ov_match.proofs.choosing.choose.Goals as goal

pub keep-requires-clause-few : goal.keep-requires-clause-few
keep-requires-clause-few c =
    let best = c.in-Some.ensures.best in
    rw c.deref.ensures.value (sound_at c.args.candidates.now c.in-Some.candidate.now c.requires.segments best.listed).few

pub keep-requires-clause-fit : goal.keep-requires-clause-fit
keep-requires-clause-fit c =
    let target = c.args.target.now in
    let best = c.in-Some.ensures.best in
    let sound = sound_at c.args.candidates.now c.in-Some.candidate.now c.requires.segments best.listed in
    let set = c.in-Some.ensures.set in
    rw c.deref.ensures.value (omega (arith, missing_is target c.in-Some.candidate.now.segments.items set sound.apart, length-RiseFrom 1 target set (omega arith)))

pub returns-in-None-clause-none : goal.returns-in-None-clause-none
returns-in-None-clause-none c =
    (λ _. none_is_cheap c.args.target.now 0 c.args.candidates.now c.requires.numbers c.in-None.ensures.best, λ _. refl)

pub returns-in_ok-kept-in-Some-clause-choice : goal.returns-in_ok-kept-in-Some-clause-choice
returns-in_ok-kept-in-Some-clause-choice c =
    let target = c.args.target.now in
    let candidates = c.args.candidates.now in
    let from = c.in-Some.candidate.now in
    let best = c.in-Some.ensures.best in
    let sound = sound_at candidates from c.requires.segments best.listed in
    let kept = c.in_ok-kept-in-Some.ensures in
    let records = kept.records ∙ ap (λ segments. length (joined (kept_of target segments))) c.deref.ensures.value in
    record {
      from = from;
      numbered = refl;
      cheapest = is_cheapest target 0 candidates from c.requires.numbers best;
      kept = kept.places ∙ ap (places_within 0 target) c.deref.ensures.value;
      records = records;
      missing = omega (arith, missing_is target from.segments.items c.in-Some.ensures.set sound.apart, records);
    }
