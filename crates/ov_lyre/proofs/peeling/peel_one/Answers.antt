use Rattle.std.proofs.Common.{◌≡◌, ℕ, ◌+◌, ◌*◌, ◌≤◌, true, false, leb, length, sym, ◌∙◌, ap, subst, arith}
use Rattle.ov_graph.specs.Trees.{tree_of}
use Rattle.ov_graph.specs.Splits.{stops}
use Rattle.ov_lyre.specs.Sides.{left}
use Rattle.std.specs.BTreeSet.{BTreeSet, UpdatesBy, btree_set_len}
use Rattle.ov_lyre.specs.declared.peeling.Key.{Key}
use Rattle.ov_lyre.specs.Peeling.{key_cmp, IsAmong}
use Rattle.ov_lyre.specs.declared.peeling.Peeling.{Peeling}
use Rattle.ov_lyre.proofs.ChoiceFacts.{may-cut-is, stops-is}
use Rattle.ov_lyre.proofs.StepFacts.{few-left, key-lies, taken, peel-cut, peel-heavy}
use Rattle.ov_lyre.proofs.peeling.peel_one.Goals.{then-may_cut+else-summed-key+in_ok-push, else-may_cut}
use Rattle.ov_lyre.proofs.peeling.peel_one.Goals as goal

pub stops-requires-clause-versions : goal.stops-requires-clause-versions
stops-requires-clause-versions c = few-left c.args.summed.now c.args.threshold.p c.args.threshold.q c.requires.threshold c.requires.summed c.args.peeling.now c.requires.peeling

pub overflow_mul-peeling : goal.overflow_mul-peeling
overflow_mul-peeling c = let few = c.requires.peeling.few_is in omega arith

pub node_of-weight-requires-clause-from_one : goal.node_of-weight-requires-clause-from_one
node_of-weight-requires-clause-from_one c = (key-lies c.args.summed.now c.args.threshold.p c.args.threshold.q c.requires.threshold c.requires.summed c.args.peeling.now c.requires.peeling c.in-Some.key c.in-Some.ensures.found).above

pub node_of-weight-requires-clause-is_there : goal.node_of-weight-requires-clause-is_there
node_of-weight-requires-clause-is_there c = (key-lies c.args.summed.now c.args.threshold.p c.args.threshold.q c.requires.threshold c.requires.summed c.args.peeling.now c.requires.peeling c.in-Some.key c.in-Some.ensures.found).within

pub bounds-summed-key : goal.bounds-summed-key
bounds-summed-key c =
    let within = (key-lies c.args.summed.now c.args.threshold.p c.args.threshold.q c.requires.threshold c.requires.summed c.args.peeling.now c.requires.peeling c.in-Some.key c.in-Some.ensures.found).within in
    let long = c.requires.summed.counts_long in
    omega arith

pub bounds-summed-key-then-may_cut : goal.bounds-summed-key-then-may_cut
bounds-summed-key-then-may_cut c =
    let within = (key-lies c.args.summed.now c.args.threshold.p c.args.threshold.q c.requires.threshold c.requires.summed c.args.peeling.now c.requires.peeling c.in-Some.key c.in-Some.ensures.found).within in
    let long = c.requires.summed.fresh_long in
    omega arith

pub bounds-summed-key-then-may_cut-2 : goal.bounds-summed-key-then-may_cut-2
bounds-summed-key-then-may_cut-2 c =
    let within = (key-lies c.args.summed.now c.args.threshold.p c.args.threshold.q c.requires.threshold c.requires.summed c.args.peeling.now c.requires.peeling c.in-Some.key c.in-Some.ensures.found).within in
    let long = c.requires.summed.members_long in
    omega arith

pub overflow_sub-peeling-then-may_cut : goal.overflow_sub-peeling-then-may_cut
overflow_sub-peeling-then-may_cut c =
    let off = (taken c.args.summed.now c.args.threshold.p c.args.threshold.q c.requires.threshold c.requires.summed c.args.peeling.now c.requires.peeling c.in-Some.key c.in-Some.ensures.found c.if-summed-key.false).fresh_records in
    let is = c.requires.peeling.records_is in
    omega arith

pub overflow_sub-peeling-then-may_cut-2 : goal.overflow_sub-peeling-then-may_cut-2
overflow_sub-peeling-then-may_cut-2 c =
    let off = (taken c.args.summed.now c.args.threshold.p c.args.threshold.q c.requires.threshold c.requires.summed c.args.peeling.now c.requires.peeling c.in-Some.key c.in-Some.ensures.found c.if-summed-key.false).members_of in
    let is = c.requires.peeling.members_is in
    omega arith

pub returns-clause-peeling : goal.returns-clause-peeling
returns-clause-peeling c =
    let s = c.args.summed.now in
    let tree = tree_of s.nodes.now in
    let p = c.args.threshold.p in
    let q = c.args.threshold.q in
    let peeling = c.args.peeling.now in
    let was = c.requires.peeling in
    let rest = left tree s.part.now peeling.cuts.items in
    let key = c.in-Some.key in
    let at = was.versions_is in
    let more = c.if-peeling.false in
    let half : peeling.few + peeling.few ≤ length rest = omega arith in
    let goes_on : stops tree p q rest ≡ false =
    stops-is tree rest p q peeling.totals.records peeling.totals.members c.stops.result was.records_is was.members_is (c.stops.ensures ∙ ap (λ (n : ℕ). leb (p * peeling.totals.records * n) (q * peeling.totals.members)) at) ∙ c.if-stops.false in
    let may = may-cut-is tree rest p q key.vid c.node_of-weight.result.weight peeling.totals.records c.may_cut.result c.node_of-weight.ensures.weight was.records_is c.may_cut.ensures in
    elim c.if-may_cut.branch [
      | then-may_cut+else-summed-key+in_ok-push w ↦
          peel-cut s p q c.requires.threshold c.requires.summed peeling was key c.in-Some.ensures.found w.if-summed-key.false c.in-Some.ensures.nearest goes_on half (may ∙ w.if-may_cut.true)
          _ (ap (λ (x : Peeling). x.few) w.peeling-is) (subst (λ (ks : BTreeSet Key). UpdatesBy key_cmp (key_cmp key) ks c.remove.new.self false) (ap (λ (x : Peeling). x.keys) w.peeling-is) c.remove.ensures.updates)
          (ap (λ (x : Peeling). x.cuts.items) w.peeling-is ∙ w.in_ok-push.ensures.items) (ap (λ (x : Peeling). x.versions) w.peeling-is) (ap (λ (x : Peeling). x.totals.records) w.peeling-is) (ap (λ (x : Peeling). x.totals.members) w.peeling-is)
      | else-may_cut w ↦
          peel-heavy s p q c.requires.threshold c.requires.summed peeling was key c.in-Some.ensures.found (may ∙ w.if-may_cut.false) half
          _ (ap (λ (x : Peeling). x.few) w.peeling-is) (subst (λ (ks : BTreeSet Key). UpdatesBy key_cmp (key_cmp key) ks c.remove.new.self false) (ap (λ (x : Peeling). x.keys) w.peeling-is) c.remove.ensures.updates)
          (ap (λ (x : Peeling). x.cuts) w.peeling-is) (ap (λ (x : Peeling). x.versions) w.peeling-is) (ap (λ (x : Peeling). x.totals) w.peeling-is)
    ]

pub returns-clause-fewer : goal.returns-clause-fewer
returns-clause-fewer c said =
    let peeling = c.args.peeling.now in
    let kept : c.if-may_cut.peeling.keys ≡ peeling.keys = elim c.if-may_cut.branch [
      | then-may_cut+else-summed-key+in_ok-push w ↦ ap (λ (x : Peeling). x.keys) w.peeling-is
      | else-may_cut w ↦ ap (λ (x : Peeling). x.keys) w.peeling-is
    ] in
    let was : IsAmong c.if-may_cut.peeling.keys c.in-Some.key = subst (λ (ks : BTreeSet Key). IsAmong ks c.in-Some.key) (sym kept) c.in-Some.ensures.found in
    let removed : c.remove.result ≡ true = c.remove.ensures.test ∙ was in
    let long : btree_set_len c.remove.new.self + 1 ≡ btree_set_len c.if-may_cut.peeling.keys = rw removed at c.remove.ensures.len in
    let same : btree_set_len c.if-may_cut.peeling.keys ≡ btree_set_len peeling.keys = ap btree_set_len kept in
    omega arith
