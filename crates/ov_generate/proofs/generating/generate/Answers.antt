use Rattle.std.proofs.Common.{◌≡◌, ◌≤◌, ◌+◌, ◌-◌, ◌*◌, ◌∙◌, ℕ, suc, List, [], length, refl, sym, ap, subst, arith}
use Rattle.std.specs.Prelude.{Err, IsErrOf, None, Ok, Some}
use Rattle.ov_gen.specs.Versions.{IsGrown, Source}
use Rattle.ov_model.specs.Act.{Session, init_refusal, unless}
use Rattle.ov_model.specs.Book.{Row}
use Rattle.ov_model.specs.Generator.{fresh_rows, generated_schema}
use Rattle.ov_model.specs.Moves.{Init}
use Rattle.ov_model.specs.declared.reply.Reply.TheVariants as says
use Rattle.ov_store.specs.Beginning.{first_of}
use Rattle.ov_store.specs.Changes.{IsDone}
use Rattle.ov_store.specs.Kept.{Kept}
use Rattle.ov_store.specs.Refusals.{new_off, refusal_of, refused}
use Rattle.ov_store.specs.declared.store.Committed.{Committed}
use Rattle.ov_store.specs.declared.errors.StoreErr.TheVariants as why
use Rattle.ov_store.proofs.Deciding.{counts, may_begin_refused}
use Rattle.ov_value.specs.Shapes.{Shape}
use Rattle.law_runs.specs.Serving.{Does}
use Rattle.law_runs.proofs.Doing.{breaks_looked}
use Rattle.law_moves.specs.Doing.{IsMoved}
use Rattle.ov_generate.specs.Making.{Ends, IsDamageOf, IsKnown, IsUnmoved}
use Rattle.ov_store.specs.Scanning.{IsUndamaged}
use Rattle.ov_model.specs.Generator.{parent_drawn}
use Rattle.law_generated.specs.Grown.{move_next}
use Rattle.ov_generate.proofs.Drawing.{behind_next}
use Rattle.ov_generate.proofs.Damages.{undamaged_of, unmoved_none, version_damage}
use Rattle.ov_generate.proofs.Firsts.{by_off, first_made, free_named, may_off, still_of}
use Rattle.ov_generate.specs.Reads.{HasFetched, IsFirstMade}
use Rattle.ov_generate.proofs.Fetching.{IsFetching, fetched_all, fetched_none, fetched_off, fetching_first, fetching_more}
use Rattle.ov_generate.proofs.Numbers.{known_first}
use Rattle.ov_generate.proofs.Reading.{err_of, if_err, match_err, of_err}
use Rattle.ov_store.proofs.Readying.{rose_later}
use Rattle.ov_generate.proofs.Whole.{IsGrowing, first_off, first_long, growing_done, growing_first, growing_more, growing_off, new_is, none_some, refused_first, some_off, the_deed}
use Rattle.ov_generate.proofs.generating.generate.Goals as goal

pub returns-in_err-may_begin-clause-acts : goal.returns-in_err-may_begin-clause-acts
returns-in_err-may_begin-clause-acts g c = λ w s at.
    let a = c.args.wanted.now
    in let old = g.H.Host.state c.args.host.now
    in let held = c.args.store.now.held
    in let name = c.as_str-cvd.result.now
    in let off = c.in_err-may_begin.field-0.0
    in let is : refusal_of a.cvd off ≡ init_refusal w a.cvd
    = subst (λ (n : List ℕ). refusal_of n off ≡ init_refusal w n) c.as_str-cvd.ensures.text
    (sym (ap (refused name) c.in_err-may_begin.ensures.answer) ∙ may_begin_refused w held old at name)
    in match_err _ (Ends a.cvd (unless s (init_refusal w a.cvd) (the_deed w s a.cvd a.seed a.rows a.versions)) s w held held old old) c.from_residual.result off c.from_residual.ensures
    (refused_first w s a.cvd (the_deed w s a.cvd a.seed a.rows a.versions) off held old at (new_is held.numbers name off c.in_err-may_begin.ensures.answer) is)

pub returns-in_err-rows-clause-acts : goal.returns-in_err-rows-clause-acts
returns-in_err-rows-clause-acts g c = λ w s at.
    let a = c.args.wanted.now
    in let old = g.H.Host.state c.args.host.now
    in let held = c.args.store.now.held
    in let d = unless s (init_refusal w a.cvd) (the_deed w s a.cvd a.seed a.rows a.versions)
    in match_err _ (Ends a.cvd d s w held held old old) c.from_residual-in_err-rows.result why.Memory c.from_residual-in_err-rows.ensures (breaks_looked d s w held old old at refl)

pub returns-in_err-message-clause-acts : goal.returns-in_err-message-clause-acts
returns-in_err-message-clause-acts g c = λ w s at.
    let a = c.args.wanted.now
    in let old = g.H.Host.state c.args.host.now
    in let held = c.args.store.now.held
    in let d = unless s (init_refusal w a.cvd) (the_deed w s a.cvd a.seed a.rows a.versions)
    in match_err _ (Ends a.cvd d s w held held old old) c.from_residual-in_err-message.result why.Memory c.from_residual-in_err-message.ensures (breaks_looked d s w held old old at refl)

pub returns-in_err-generate_schema-clause-acts : goal.returns-in_err-generate_schema-clause-acts
returns-in_err-generate_schema-clause-acts g c = λ w s at.
    let a = c.args.wanted.now
    in let old = g.H.Host.state c.args.host.now
    in let held = c.args.store.now.held
    in let d = unless s (init_refusal w a.cvd) (the_deed w s a.cvd a.seed a.rows a.versions)
    in match_err _ (Ends a.cvd d s w held held old old) c.from_residual-in_err-generate_schema.result why.Memory c.from_residual-in_err-generate_schema.ensures
    (breaks_looked d s w held old old at refl)

pub returns-in_err-begun-clause-by_journal : goal.returns-in_err-begun-clause-by_journal
returns-in_err-begun-clause-by_journal g c = λ by fine.
    by_off c.in_err-begun.field-0.0 c.args.store.now c.init.new.self (g.H.Host.state c.args.host.now) (g.H.Host.state c.init.new.host) c.in_err-begun.ensures.stays by
    (λ is. fine (err_of c.from_residual-in_err-begun.result c.in_err-begun.field-0.0 why.Host c.from_residual-in_err-begun.ensures is))

pub returns-in_err-begun-clause-acts : goal.returns-in_err-begun-clause-acts
returns-in_err-begun-clause-acts g c = λ w s at.
    let a = c.args.wanted.now
    in let old = g.H.Host.state c.args.host.now
    in let new = g.H.Host.state c.init.new.host
    in let held = c.args.store.now.held
    in let off = c.in_err-begun.field-0.0
    in let free : init_refusal w a.cvd ≡ None = subst (λ (n : List ℕ). init_refusal w n ≡ None) c.as_str-cvd.ensures.text (c.in_ok-may_begin.ensures.world w old at)
    in let grown : IsGrown a.rows 2 c.in_ok-rows.rows = subst (λ n. IsGrown n 2 c.in_ok-rows.rows) c.new-source.ensures.rows c.in_ok-rows.ensures.grown
    in let rows : c.in_ok-rows.rows ≡ (fresh_rows a.rows 1 a.seed).is
    = c.in_ok-rows.ensures.rows ∙ (λ i. (fresh_rows (c.new-source.ensures.rows i) 1 (c.new-source.ensures.state i)).is)
    in let not_made : IsUnmoved (Init a.cvd generated_schema (fresh_rows a.rows 1 a.seed).is) w held old new off
    = subst (λ (l : List Row). IsUnmoved (Init a.cvd generated_schema l) w held old new off) rows
    (first_made w a.cvd c.in_ok-generate_schema.field-0 c.in_ok-rows.rows a.rows c.in_ok-generate_schema.ensures grown
    (omega (arith, c.requires.wanted.few, c.requires.wanted.some_versions)) free held c.init.new.self.held old new (c.init.ensures.stops w at)
    (Err off) tt (c.in_err-begun.ensures.refused w at) (λ entry past in_. c.in_err-begun.ensures.room w entry past at in_))
    in match_err _ (Ends a.cvd (unless s (init_refusal w a.cvd) (the_deed w s a.cvd a.seed a.rows a.versions)) s w held c.init.new.self.held old new)
    c.from_residual-in_err-begun.result off c.from_residual-in_err-begun.ensures
    (first_off w s a.cvd a.seed a.rows a.versions held old c.args.store.now c.init.new.self new off refl at free not_made c.in_err-begun.ensures.stays)

pub loop-before-init : goal.loop-before-init
loop-before-init g c =
    let a = c.args.wanted.now
    in let name = c.as_str-cvd.result.now
    in let old = g.H.Host.state c.args.host.now
    in let new = g.H.Host.state c.init.new.host
    in let held = c.args.store.now.held
    in let now = c.init.new.self.held
    in let passes = c.init.ensures.passes
    in let grown : IsGrown a.rows 2 c.in_ok-rows.rows = subst (λ n. IsGrown n 2 c.in_ok-rows.rows) c.new-source.ensures.rows c.in_ok-rows.ensures.grown
    in let rows : c.in_ok-rows.rows ≡ (fresh_rows a.rows 1 a.seed).is
    = c.in_ok-rows.ensures.rows ∙ (λ i. (fresh_rows (c.new-source.ensures.rows i) 1 (c.new-source.ensures.state i)).is)
    in let members : c.from-members.result ≡ length c.in_ok-rows.rows = c.from-members.ensures ∙ ap (λ (x : Committed). x.rows) c.in_ok-begun.ensures.made
    in let done : IsDone (first_of a.cvd generated_schema c.in_ok-rows.rows) held now
    = subst (λ (x : Shape). IsDone (first_of a.cvd x c.in_ok-rows.rows) held now) c.in_ok-generate_schema.ensures c.in_ok-begun.ensures.done
    in record {
      told = passes.told;
      kept = passes.kept;
      faults = passes.faults;
      counted = omega (arith, passes.fetched);
      call = c.in_ok-begun.ensures.usable;
      known = subst (λ (n : List ℕ). IsKnown now.numbers n) (sym c.as_str-cvd.ensures.text)
          (known_first a.cvd c.in_ok-rows.rows held now
          (subst (λ (n : List ℕ). new_off held.numbers n ≡ None) c.as_str-cvd.ensures.text c.in_ok-may_begin.ensures.answer) done);
      source = ap (λ (x : Source). x.rows) c.in_ok-rows.ensures.state ∙ c.new-source.ensures.rows;
      drawn = ap (λ (x : Source). x.state) c.in_ok-rows.ensures.state ∙ (λ i. (fresh_rows (c.new-source.ensures.rows i) 1 (c.new-source.ensures.state i)).state);
      message = c.in_ok-message.ensures;
      within = c.requires.wanted.some_versions;
      fetching = fetching_first name a.seed a.rows held old now new
          (subst (λ (n : List ℕ). IsFirstMade n a.seed a.rows held now) (sym c.as_str-cvd.ensures.text)
          (subst (λ (l : List Row). IsDone (first_of a.cvd generated_schema l) held now) rows done)) passes.fetched;
      few = omega (arith, members, first_long a.rows c.in_ok-rows.rows grown, c.requires.wanted.few);
      by_journal = λ by. c.in_ok-begun.ensures.by_journal by;
      growing = λ w s at free.
          let free_cvd : init_refusal w a.cvd ≡ None = subst (λ (n : List ℕ). init_refusal w n ≡ None) c.as_str-cvd.ensures.text free
          in let step : IsMoved (Init a.cvd generated_schema (fresh_rows a.rows 1 a.seed).is) w held now old new
          = subst (λ (l : List Row). IsMoved (Init a.cvd generated_schema l) w held now old new) rows
          (first_made w a.cvd c.in_ok-generate_schema.field-0 c.in_ok-rows.rows a.rows c.in_ok-generate_schema.ensures grown
          (omega (arith, c.requires.wanted.few, c.requires.wanted.some_versions)) free_cvd held now old new (c.init.ensures.stops w at)
          (Ok c.in_ok-begun.begun) (c.in_ok-begun.ensures.moves w at) (c.in_ok-begun.ensures.refused w at) (λ entry past in_. c.in_ok-begun.ensures.room w entry past at in_))
          in growing_first w s name a.seed a.rows a.versions held old now new c.first_table.new.source.state c.from-members.result at (free_named w name free) c.requires.wanted.some_versions
          (ap (λ (x : Source). x.state) c.in_ok-rows.ensures.state ∙ (λ i. (fresh_rows (c.new-source.ensures.rows i) 1 (c.new-source.ensures.state i)).state))
          (members ∙ ap (λ (l : List Row). length l) rows)
          (subst (λ (n : List ℕ). IsMoved (Init n generated_schema (fresh_rows a.rows 1 a.seed).is) w held now old new) (sym c.as_str-cvd.ensures.text) step);
    }

pub returns-in_err-made-clause-usable : goal.returns-in_err-made-clause-usable
returns-in_err-made-clause-usable g c = λ fine.
    may_off c.in_err-made.field-0.0 c.loop-before.store c.add_version.new.store (g.H.Host.state c.loop-before.host) (g.H.Host.state c.add_version.new.host) c.in_err-made.ensures.stays
    c.loop-before.invariant.call
    (λ is. fine (err_of c.from_residual-in_err-made.result c.in_err-made.field-0.0 why.Host c.from_residual-in_err-made.ensures is))

pub returns-in_err-made-clause-by_journal : goal.returns-in_err-made-clause-by_journal
returns-in_err-made-clause-by_journal g c = λ by fine.
    by_off c.in_err-made.field-0.0 c.loop-before.store c.add_version.new.store (g.H.Host.state c.loop-before.host) (g.H.Host.state c.add_version.new.host) c.in_err-made.ensures.stays
    (c.loop-before.invariant.by_journal by)
    (λ is. fine (err_of c.from_residual-in_err-made.result c.in_err-made.field-0.0 why.Host c.from_residual-in_err-made.ensures is))

pub returns-in_err-made-clause-acts : goal.returns-in_err-made-clause-acts
returns-in_err-made-clause-acts g c = λ w s at.
    let a = c.args.wanted.now
    in let name = c.as_str-cvd.result.now
    in let old = g.H.Host.state c.args.host.now
    in let mid = g.H.Host.state c.loop-before.host
    in let new = g.H.Host.state c.add_version.new.host
    in let held = c.args.store.now.held
    in let before = c.loop-before.before
    in let off = c.in_err-made.field-0.0
    in let free : init_refusal w name ≡ None = c.in_ok-may_begin.ensures.world w old at
    in let left : a.versions - before ≡ suc (a.versions - (before + 1)) = omega (arith, c.loop-before-test.true)
    in let growing : IsGrowing w s name a.seed a.rows a.versions (suc (a.versions - (before + 1))) c.loop-before.source.state c.loop-before.members held c.loop-before.store.held old mid
    = subst (λ n. IsGrowing w s name a.seed a.rows a.versions n c.loop-before.source.state c.loop-before.members held c.loop-before.store.held old mid) left (c.loop-before.invariant.growing w s at free)
    in let not_made = c.in_err-made.ensures.world growing.v growing.g w.next growing.doing.at growing.has (omega (arith, growing.versions_are, c.loop-before-test.true)) growing.state_is
    in let ends : Ends name (the_deed w s name a.seed a.rows a.versions) s w held c.add_version.new.store.held old new off
    = growing_off w s name a.seed a.rows a.versions held old (a.versions - (before + 1)) c.loop-before.source.state c.loop-before.members c.loop-before.store.held mid growing
    c.loop-before.store c.add_version.new.store new off refl not_made c.in_err-made.ensures.stays
    in let whole : Ends name (unless s (init_refusal w name) (the_deed w s name a.seed a.rows a.versions)) s w held c.add_version.new.store.held old new off
    = subst (λ o. Ends name (unless s o (the_deed w s name a.seed a.rows a.versions)) s w held c.add_version.new.store.held old new off) (sym free) ends
    in match_err _ (Ends a.cvd (unless s (init_refusal w a.cvd) (the_deed w s a.cvd a.seed a.rows a.versions)) s w held c.add_version.new.store.held old new)
    c.from_residual-in_err-made.result off c.from_residual-in_err-made.ensures
    (subst (λ (n : List ℕ). Ends n (unless s (init_refusal w n) (the_deed w s n a.seed a.rows a.versions)) s w held c.add_version.new.store.held old new off) c.as_str-cvd.ensures.text whole)

pub loop-before-preserved : goal.loop-before-preserved
loop-before-preserved g c =
    let a = c.args.wanted.now
    in let name = c.as_str-cvd.result.now
    in let old = g.H.Host.state c.args.host.now
    in let mid = g.H.Host.state c.loop-before.host
    in let new = g.H.Host.state c.add_version.new.host
    in let held = c.args.store.now.held
    in let before = c.loop-before.before
    in let inv = c.loop-before.invariant
    in record {
      told = c.add_version.ensures.told ∙ inv.told;
      kept = c.add_version.ensures.kept ∙ inv.kept;
      faults = omega (arith, c.add_version.ensures.faults, inv.faults);
      counted = omega (arith, c.add_version.ensures.counted, inv.counted);
      call = c.in_ok-made.ensures.usable;
      known = c.in_ok-made.ensures.known;
      source = c.in_ok-made.ensures.source;
      drawn = behind_next a.seed a.rows before c.loop-before.source.state c.add_version.new.source.state c.loop-before.auto.before inv.drawn c.in_ok-made.ensures.drawn;
      message = inv.message;
      within = omega (arith, c.loop-before-test.true);
      fetching =
          let same : before + 1 - 1 ≡ before = omega arith
          in fetching_more name a.seed a.rows held old before (parent_drawn (before + 1 - 1) c.loop-before.source.state).is c.loop-before.source.state c.loop-before.store.held mid new inv.fetching
          inv.drawn (ap (λ n. (parent_drawn n c.loop-before.source.state).is) same)
          c.add_version.ensures.fetched c.add_version.new.store.held c.in_ok-made.ensures.made;
      few = few_more c.loop-before.members c.from.result before inv.few (omega (arith, c.from.ensures, c.in_ok-made.ensures.rows_few));
      by_journal = λ by. c.in_ok-made.ensures.by_journal (inv.by_journal by);
      growing = λ w s at free.
          let left : a.versions - before ≡ suc (a.versions - (before + 1)) = omega (arith, c.loop-before-test.true)
          in let growing : IsGrowing w s name a.seed a.rows a.versions (suc (a.versions - (before + 1))) c.loop-before.source.state c.loop-before.members held c.loop-before.store.held old mid
          = subst (λ n. IsGrowing w s name a.seed a.rows a.versions n c.loop-before.source.state c.loop-before.members held c.loop-before.store.held old mid) left (inv.growing w s at free)
          in let made = c.in_ok-made.ensures.world growing.v growing.g w.next growing.doing.at growing.has (omega (arith, growing.versions_are, c.loop-before-test.true)) growing.state_is
          in growing_more w s name a.seed a.rows a.versions held old (a.versions - (before + 1)) c.loop-before.source.state c.loop-before.members c.loop-before.store.held mid growing
          c.add_version.new.store.held new c.add_version.new.source.state (c.loop-before.members + c.from.result) made.0 made.1
          (ap (λ (n : ℕ). c.loop-before.members + n) (c.from.ensures ∙ made.2));
    }
  where
    few_more : (m n b : ℕ) → m ≤ 4294967295 * b → n ≤ 4294967295 → m + n ≤ 4294967295 * (b + 1)
    few_more m n b le small = omega (arith, le, small)

pub returns-clause-acts : goal.returns-clause-acts
returns-clause-acts g c = λ w s at.
    let a = c.args.wanted.now
    in let name = c.as_str-cvd.result.now
    in let old = g.H.Host.state c.args.host.now
    in let new = g.H.Host.state c.loop-before.host
    in let held = c.args.store.now.held
    in let now = c.loop-before.store.held
    in let free : init_refusal w name ≡ None = c.in_ok-may_begin.ensures.world w old at
    in let none : a.versions - c.loop-before.before ≡ 0 = omega (arith, c.loop-before-test.false)
    in let growing : IsGrowing w s name a.seed a.rows a.versions 0 c.loop-before.source.state c.loop-before.members held now old new
    = subst (λ n. IsGrowing w s name a.seed a.rows a.versions n c.loop-before.source.state c.loop-before.members held now old new) none (c.loop-before.invariant.growing w s at free)
    in let known = c.loop-before.invariant.known
    in let records = c.records_of.ensures known ∙ (counts growing.v now new growing.doing.at name growing.has.set growing.has.named known.set known.named).records
    in let done = growing_done w s name a.seed a.rows a.versions held old c.loop-before.source.state c.loop-before.members c.records_of.result now new growing records
    in subst (λ (n : List ℕ). Does (unless s (init_refusal w n) (the_deed w s n a.seed a.rows a.versions)) s s w (says.Generate n a.versions c.records_of.result c.loop-before.members) held now old new)
    c.as_str-cvd.ensures.text
    (subst (λ o. Does (unless s o (the_deed w s name a.seed a.rows a.versions)) s s w (says.Generate name a.versions c.records_of.result c.loop-before.members) held now old new) (sym free) done)

-- ---- damage

pub returns-in_err-made-clause-damaged : goal.returns-in_err-made-clause-damaged
returns-in_err-made-clause-damaged g c =
    let a = c.args.wanted.now
    in let off = c.in_err-made.field-0.0
    in let inv = c.loop-before.invariant
    in if_err (IsDamageOf _) c.from_residual-in_err-made.result off c.from_residual-in_err-made.ensures
    (version_damage c.loop-before.store c.add_version.new.store c.as_str-cvd.result.now a.cvd a.seed a.rows a.versions c.loop-before.before c.loop-before.source.state
    c.args.store.now.held inv.fetching.begun (g.H.Host.state c.loop-before.host) (g.H.Host.state c.add_version.new.host) off c.as_str-cvd.ensures.text
    c.in_ok-may_begin.ensures.answer inv.fetching.are inv.fetching.after_ inv.fetching.long c.loop-before-test.true inv.drawn c.in_err-made.ensures.stays c.in_err-made.ensures.damaged)

pub returns-in_err-made-clause-undamaged : goal.returns-in_err-made-clause-undamaged
returns-in_err-made-clause-undamaged g c = λ w at.
    let a = c.args.wanted.now
    in let name = c.as_str-cvd.result.now
    in let old = g.H.Host.state c.args.host.now
    in let mid = g.H.Host.state c.loop-before.host
    in let new = g.H.Host.state c.add_version.new.host
    in let held = c.args.store.now.held
    in let before = c.loop-before.before
    in let off = c.in_err-made.field-0.0
    in let s : Session = record { files = λ n. None; user = [] }
    in let growing : IsGrowing w s name a.seed a.rows a.versions (a.versions - before) c.loop-before.source.state c.loop-before.members held c.loop-before.store.held old mid
    = c.loop-before.invariant.growing w s at (c.in_ok-may_begin.ensures.world w old at)
    in let not_made = c.in_err-made.ensures.world growing.v growing.g w.next growing.doing.at growing.has (omega (arith, growing.versions_are, c.loop-before-test.true)) growing.state_is
    in if_err IsUndamaged c.from_residual-in_err-made.result off c.from_residual-in_err-made.ensures (undamaged_of off (unmoved_none (move_next w.next a.rows growing.g) growing.v c.loop-before.store.held mid new off not_made))

-- ---- what comes first

pub returns-in_err-may_begin-clause-first : goal.returns-in_err-may_begin-clause-first
returns-in_err-may_begin-clause-first g c = λ off is.
    let answer : new_off c.args.store.now.held.numbers c.args.wanted.now.cvd ≡ Some c.in_err-may_begin.field-0.0
    = subst (λ (n : List ℕ). new_off c.args.store.now.held.numbers n ≡ Some c.in_err-may_begin.field-0.0) c.as_str-cvd.ensures.text c.in_err-may_begin.ensures.answer
    in if_err (λ e. e ≡ off) c.from_residual.result c.in_err-may_begin.field-0.0 c.from_residual.ensures (some_off c.in_err-may_begin.field-0.0 off (sym answer ∙ is))

pub returns-in_err-rows-clause-first : goal.returns-in_err-rows-clause-first
returns-in_err-rows-clause-first g c = λ off is.
    absurd (none_some off (sym (subst (λ (n : List ℕ). new_off c.args.store.now.held.numbers n ≡ None) c.as_str-cvd.ensures.text c.in_ok-may_begin.ensures.answer) ∙ is))

pub returns-in_err-message-clause-first : goal.returns-in_err-message-clause-first
returns-in_err-message-clause-first g c = λ off is.
    absurd (none_some off (sym (subst (λ (n : List ℕ). new_off c.args.store.now.held.numbers n ≡ None) c.as_str-cvd.ensures.text c.in_ok-may_begin.ensures.answer) ∙ is))

pub returns-in_err-generate_schema-clause-first : goal.returns-in_err-generate_schema-clause-first
returns-in_err-generate_schema-clause-first g c = λ off is.
    absurd (none_some off (sym (subst (λ (n : List ℕ). new_off c.args.store.now.held.numbers n ≡ None) c.as_str-cvd.ensures.text c.in_ok-may_begin.ensures.answer) ∙ is))

pub returns-in_err-begun-clause-first : goal.returns-in_err-begun-clause-first
returns-in_err-begun-clause-first g c = λ off is.
    absurd (none_some off (sym (subst (λ (n : List ℕ). new_off c.args.store.now.held.numbers n ≡ None) c.as_str-cvd.ensures.text c.in_ok-may_begin.ensures.answer) ∙ is))

pub returns-in_err-made-clause-first : goal.returns-in_err-made-clause-first
returns-in_err-made-clause-first g c = λ off is.
    absurd (none_some off (sym (subst (λ (n : List ℕ). new_off c.args.store.now.held.numbers n ≡ None) c.as_str-cvd.ensures.text c.in_ok-may_begin.ensures.answer) ∙ is))

pub returns-clause-allowed : goal.returns-clause-allowed
returns-clause-allowed g c = subst (λ (n : List ℕ). new_off c.args.store.now.held.numbers n ≡ None) c.as_str-cvd.ensures.text c.in_ok-may_begin.ensures.answer

-- ---- what is fetched

pub returns-in_err-may_begin-clause-fetched : goal.returns-in_err-may_begin-clause-fetched
returns-in_err-may_begin-clause-fetched g c =
    fetched_none c.args.wanted.now.cvd c.args.wanted.now.seed c.args.wanted.now.rows c.args.store.now.held (g.H.Host.state c.args.host.now) c.args.wanted.now.versions
    c.args.store.now.held _ (g.H.Host.state c.args.host.now) c.requires.wanted.some_versions (λ fine. refl) refl

pub returns-in_err-rows-clause-fetched : goal.returns-in_err-rows-clause-fetched
returns-in_err-rows-clause-fetched g c =
    fetched_none c.args.wanted.now.cvd c.args.wanted.now.seed c.args.wanted.now.rows c.args.store.now.held (g.H.Host.state c.args.host.now) c.args.wanted.now.versions
    c.args.store.now.held _ (g.H.Host.state c.args.host.now) c.requires.wanted.some_versions (λ fine. refl) refl

pub returns-in_err-message-clause-fetched : goal.returns-in_err-message-clause-fetched
returns-in_err-message-clause-fetched g c =
    fetched_none c.args.wanted.now.cvd c.args.wanted.now.seed c.args.wanted.now.rows c.args.store.now.held (g.H.Host.state c.args.host.now) c.args.wanted.now.versions
    c.args.store.now.held _ (g.H.Host.state c.args.host.now) c.requires.wanted.some_versions (λ fine. refl) refl

pub returns-in_err-generate_schema-clause-fetched : goal.returns-in_err-generate_schema-clause-fetched
returns-in_err-generate_schema-clause-fetched g c =
    fetched_none c.args.wanted.now.cvd c.args.wanted.now.seed c.args.wanted.now.rows c.args.store.now.held (g.H.Host.state c.args.host.now) c.args.wanted.now.versions
    c.args.store.now.held _ (g.H.Host.state c.args.host.now) c.requires.wanted.some_versions (λ fine. refl) refl

pub returns-in_err-begun-clause-fetched : goal.returns-in_err-begun-clause-fetched
returns-in_err-begun-clause-fetched g c =
    let a = c.args.wanted.now
    in let old = g.H.Host.state c.args.host.now
    in let new = g.H.Host.state c.init.new.host
    in let off = c.in_err-begun.field-0.0
    in fetched_none a.cvd a.seed a.rows c.args.store.now.held old a.versions c.init.new.self.held _ new c.requires.wanted.some_versions
    (λ fine. ap (λ (k : Kept). k.held) (still_of off c.args.store.now c.init.new.self old new c.in_err-begun.ensures.stays
    (λ is. fine (err_of c.from_residual-in_err-begun.result off why.Host c.from_residual-in_err-begun.ensures is))).0)
    c.init.ensures.passes.fetched

pub returns-in_err-made-clause-fetched : goal.returns-in_err-made-clause-fetched
returns-in_err-made-clause-fetched g c =
    let a = c.args.wanted.now
    in let name = c.as_str-cvd.result.now
    in let old = g.H.Host.state c.args.host.now
    in let mid = g.H.Host.state c.loop-before.host
    in let new = g.H.Host.state c.add_version.new.host
    in let held = c.args.store.now.held
    in let before = c.loop-before.before
    in let off = c.in_err-made.field-0.0
    in let same : before + 1 - 1 ≡ before = omega arith
    in let fetched = fetched_off name a.seed a.rows held old before (parent_drawn (before + 1 - 1) c.loop-before.source.state).is c.loop-before.source.state c.loop-before.store.held mid new
    c.loop-before.invariant.fetching c.loop-before.invariant.drawn (ap (λ n. (parent_drawn n c.loop-before.source.state).is) same)
    c.add_version.ensures.fetched a.versions c.add_version.new.store.held (IsErrOf c.from_residual-in_err-made.result why.Host) c.loop-before-test.true
    (λ fine. ap (λ (k : Kept). k.held) (still_of off c.loop-before.store c.add_version.new.store mid new c.in_err-made.ensures.stays
    (λ is. fine (err_of c.from_residual-in_err-made.result off why.Host c.from_residual-in_err-made.ensures is))).0)
    in subst (λ (n : List ℕ). HasFetched n a.seed a.rows a.versions held c.add_version.new.store.held (IsErrOf c.from_residual-in_err-made.result why.Host) old new) c.as_str-cvd.ensures.text fetched

pub returns-clause-fetched : goal.returns-clause-fetched
returns-clause-fetched g c =
    let a = c.args.wanted.now
    in let name = c.as_str-cvd.result.now
    in let old = g.H.Host.state c.args.host.now
    in let new = g.H.Host.state c.loop-before.host
    in let held = c.args.store.now.held
    in let now = c.loop-before.store.held
    in let all : c.loop-before.before ≡ a.versions = omega (arith, c.loop-before-test.false, c.loop-before.invariant.within)
    in let fetching = subst (λ n. IsFetching name a.seed a.rows held old n now new) all c.loop-before.invariant.fetching
    in fetched_all name a.seed a.rows held old a.cvd a.versions now _ new c.as_str-cvd.ensures.text fetching

pub returns-in_err-made-clause-cause : goal.returns-in_err-made-clause-cause
returns-in_err-made-clause-cause g c = λ is.
    rose_later (g.H.Host.state c.args.host.now).faults (g.H.Host.state c.loop-before.host).faults (g.H.Host.state c.add_version.new.host).faults c.loop-before.invariant.faults
    (c.in_err-made.ensures.cause (ap Err (of_err c.from_residual-in_err-made.result c.in_err-made.field-0.0 why.Host c.from_residual-in_err-made.ensures is)))
