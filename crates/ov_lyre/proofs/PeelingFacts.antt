-- Keys of edges while cuts are made: the nearest one is next, and a cut leaves what the others say.
use Rattle.std.proofs.Common.{◌≡◌, ℕ, ◌+◌, ◌≤◌, Bool, true, false, not, cond, List, [], ◌∷◌, length, refl, sym, ◌∙◌, ap, subst, inl, inr, arith}
use Rattle.std.specs.Int.{abs_diff}
use Rattle.std.specs.BTreeSet.{BTreeSet, contains, UpdatesBy}
use Rattle.std.specs.BTreeMap.{is_at}
use Rattle.std.proofs.lemmas.Bool.{cases_Bool, cases_lt, cases_eq}
use Rattle.ov_graph.specs.Trees.{VersionTree, total, fresh}
use Rattle.ov_graph.specs.Splits.{Has, IsPart, IsLeast, edges, is_under, lower, upper, records, may_cut, versions_apart, records_apart}
use Rattle.ov_lyre.specs.declared.peeling.Key.{Key}
use Rattle.ov_lyre.specs.Peeling.{key_cmp, IsAmong, IsNearest, IsLight, IsKeyed, IsFound, AreKeys}
use Rattle.ov_lyre.proofs.PartFacts.{lies, edge-has, filter-has, has-filter}
use Rattle.ov_lyre.proofs.UnderFacts.{IsSoundTree, under-self, under-smaller}
use Rattle.ov_lyre.proofs.CutFacts.{sides}
use Rattle.ov_lyre.proofs.KeyFacts.{less, more, same}
use Rattle.ov_lyre.proofs.PeelFacts.{lower-stays, upper-stays, heavy-stays, light-apart, top-above}

module _ (a b : Key) where
  -- keys of two edges are two
  pub apart-by-vid : (b.vid ≡ a.vid → ⊥) → is_at (key_cmp a) b ≡ false
  apart-by-vid other =
      elim (cases_lt a.balance b.balance) [
        | inl lt ↦ rw (less a.balance b.balance lt) refl
        | inr le ↦ elim (cases_eq a.balance b.balance) [
          | inr apart ↦ rw (more a.balance b.balance (omega arith)) refl
          | inl is ↦ elim (cases_lt a.vid b.vid) [
            | inl up ↦ rw (same a.balance b.balance is, less a.vid b.vid up) refl
            | inr down ↦ rw (same a.balance b.balance is, more a.vid b.vid (let n = other in omega arith)) refl
          ]
        ]
      ]

  pub one : a.balance ≡ b.balance → a.vid ≡ b.vid → is_at (key_cmp a) b ≡ true
  one balance vid = rw (same a.balance b.balance balance, same a.vid b.vid vid) refl

  -- keys that are one say the same
  pub record IsOne : Type 0 where
    pub balance : a.balance ≡ b.balance
    pub vid : a.vid ≡ b.vid

  pub is-one : is_at (key_cmp a) b ≡ true → IsOne
  is-one at =
      elim (cases_lt a.balance b.balance) [
        | inl lt ↦ let h = rw (less a.balance b.balance lt) at at in cc
        | inr le ↦ elim (cases_eq a.balance b.balance) [
          | inr apart ↦ let h = rw (more a.balance b.balance (omega arith)) at at in cc
          | inl is ↦ elim (cases_eq a.vid b.vid) [
            | inl tie ↦ record { balance = is; vid = tie }
            | inr other ↦ elim (cases_lt a.vid b.vid) [
              | inl up ↦ let h = rw (same a.balance b.balance is, less a.vid b.vid up) at at in cc
              | inr down ↦ let h = rw (same a.balance b.balance is, more a.vid b.vid (omega arith)) at at in cc
            ]
          ]
        ]
      ]

-- a set without one key
module _ (keys new : BTreeSet Key) (key : Key) (gone : UpdatesBy key_cmp (key_cmp key) keys new false) where
  pub remains : (other : Key) → IsAmong keys other → (other.vid ≡ key.vid → ⊥) → IsAmong new other
  remains other among apart = gone.2 other (apart-by-vid key other apart) ∙ among

  -- what is left was there, and is another key
  pub record IsLeft (other : Key) : Type 0 where
    pub was : IsAmong keys other
    pub apart : key.balance ≡ other.balance → key.vid ≡ other.vid → ⊥

  pub is-left : (other : Key) → IsAmong new other → IsLeft other
  is-left other among =
      elim (cases_Bool (is_at (key_cmp key) other)) [
        | inl at ↦ absurd (let h : true ≡ false = sym among ∙ gone.0 other ∙ ap (λ (b : Bool). cond b false (contains key_cmp keys other)) at in cc)
        | inr apart ↦ record {
          was = sym (gone.2 other apart) ∙ among;
          apart = λ balance vid. (let h = one key other balance vid in let g = sym apart ∙ h in cc);
        }
      ]

module _ (tree : VersionTree) (sound : IsSoundTree tree) (count : ℕ) where
  -- the edges that a cut leaves above
  pub record IsKept (cut vid : ℕ) (rest : List ℕ) : Type 0 where
    pub inside : Has (edges rest) vid
    pub apart : is_under tree cut vid ≡ false

  not-not : (b : Bool) → not b ≡ true → b ≡ false
  not-not true e = cc
  not-not false e = refl

  pub kept-edge : (cut vid : ℕ) (rest : List ℕ) → IsPart tree count rest → Has (edges rest) cut → Has (edges (upper tree cut rest)) vid → IsKept cut vid rest
  kept-edge cut vid [] is has edge = absurd has
  kept-edge cut vid (top ∷ tail) is has edge =
      let above = (lies top count tail cut is.ascends.2 has).above in
      let top_apart : is_under tree cut top ≡ false = under-smaller tree sound cut top above in
      let there : Has (upper tree cut tail) vid = rw top_apart at edge in
      let kept = filter-has (λ version. not (is_under tree cut version)) tail vid there in
      record { inside = kept.has; apart = not-not (is_under tree cut vid) kept.passes }

  pub stay-edge : (cut vid : ℕ) (rest : List ℕ) → IsPart tree count rest → Has (edges rest) cut → Has (edges rest) vid → is_under tree cut vid ≡ false → Has (edges (upper tree cut rest)) vid
  stay-edge cut vid [] is has there apart = absurd has
  stay-edge cut vid (top ∷ tail) is has there apart =
      let above = (lies top count tail cut is.ascends.2 has).above in
      let top_apart : is_under tree cut top ≡ false = under-smaller tree sound cut top above in
      let kept = has-filter (λ version. not (is_under tree cut version)) tail vid there (ap not apart) in
      rw top_apart kept

  -- how far the parts of an edge with a key are apart
  pub record IsMeasured (few : ℕ) (rest : List ℕ) (key : Key) : Type 0 where
    pub versions : versions_apart tree rest key.vid + few + few ≡ length rest
    pub apart : records_apart tree rest key.vid ≡ abs_diff (records tree rest) key.balance

  pub measured : (few : ℕ) (part rest : List ℕ) (key : Key) → IsPart tree count rest → few + few ≤ length rest → IsKeyed tree few part rest key → IsMeasured few rest key
  unfolding versions_apart records_apart
  measured few part rest key is half keyed =
      let two = sides tree sound count rest key.vid is keyed.inside in
      let long = two.lengths in
      let sum = two.record_sum in
      let low = two.lower_records in
      elim keyed.side [
        | inl light ↦ let n = light.count in let b = light.balance in record { versions = omega arith; apart = omega arith }
        | inr top ↦ let n = top.count in let b = top.balance in record { versions = omega arith; apart = omega arith }
      ]

  module _ (p q few : ℕ) (part rest : List ℕ) (keys : BTreeSet Key) (is : IsPart tree count rest) (half : few + few ≤ length rest) (are : AreKeys tree p q few part rest keys) where
    -- the key that is nearest to R is that of the least edge
    pub nearest-least : (key : Key) → IsAmong keys key → ((other : Key) → IsAmong keys other → IsNearest (records tree rest) key other) → (vid : ℕ) → Has (edges rest) vid → may_cut tree p q rest vid ≡ true → IsLeast tree rest key.vid vid
    unfolding versions_apart
    nearest-least key among nearest vid has light =
        let here = measured few part rest key is half (are.keyed key among) in
        let v = here.versions in
        let r = here.apart in
        let two = sides tree sound count rest vid is has in
        let long = two.lengths in
        elim (are.each vid has light) [
          | inl (inl under) ↦ record { versions = omega arith; records = λ tie. absurd (omega arith); vids = λ tie _. absurd (omega arith) }
          | inl (inr above) ↦ record { versions = omega arith; records = λ tie. absurd (omega arith); vids = λ tie _. absurd (omega arith) }
          | inr (other, there, at) ↦
              let far = measured few part rest other is half (are.keyed other there) in
              let v' = far.versions in
              let r' = far.apart in
              let near = nearest other there in
              let a = near.apart in
              let least : IsLeast tree rest key.vid other.vid = record {
                versions = omega arith;
                records = λ tie. omega arith;
                vids = λ tie ties. near.vids (sym r ∙ ties ∙ r');
              } in
              subst (λ (v : ℕ). IsLeast tree rest key.vid v) at least
        ]

    -- a heavy edge needs no key
    pub without-heavy : (key : Key) (new : BTreeSet Key) → UpdatesBy key_cmp (key_cmp key) keys new false → may_cut tree p q rest key.vid ≡ false → AreKeys tree p q few part rest new
    without-heavy key new gone heavy = record {
      each = λ vid has light. (elim (are.each vid has light) [
        | inl few ↦ inl few
        | inr (other, there, at) ↦
            inr (other, remains keys new key gone other there (λ same. (let h = subst (λ (v : ℕ). may_cut tree p q rest v ≡ true) (sym at ∙ same) light in let g = sym heavy ∙ h in cc)), at)
      ]);
      keyed = λ other among. are.keyed other (is-left keys new key gone other among).was;
    }

    -- a cut of few versions leaves the other keys as they are
    module _ (key : Key) (among : IsAmong keys key) (light : IsLight tree few part rest key) (new : BTreeSet Key) (gone : UpdatesBy key_cmp (key_cmp key) keys new false) where
      abbrev cut : ℕ
      cut = key.vid

      has : Has (edges rest) cut
      has = (are.keyed key among).inside

      far : (vid : ℕ) → Has (edges rest) vid → length (upper tree vid rest) ≤ few → versions_apart tree rest cut ≤ versions_apart tree rest vid
      unfolding versions_apart
      far vid there above =
          let long = (sides tree sound count rest vid is there).lengths in
          let own = (sides tree sound count rest cut is has).lengths in
          let n = light.count in
          omega arith

      -- an edge with few versions under it is apart from the one that was cut
      lower-left : (vid : ℕ) → Has (edges rest) vid → (vid ≡ cut → ⊥) → length (lower tree vid rest) ≤ few → is_under tree cut vid ≡ false → lower tree vid (upper tree cut rest) ≡ lower tree vid rest
      lower-left vid there other under apart =
          let n = light.count in
          lower-stays tree sound cut vid rest (light-apart tree sound count cut vid rest is (omega arith) other (edge-has rest vid there)) apart

      -- and one with few above it is above that one
      upper-left : (vid : ℕ) → Has (edges rest) vid → length (upper tree vid rest) ≤ few → is_under tree cut vid ≡ false → upper tree vid (upper tree cut rest) ≡ upper tree vid rest
      upper-left vid there above apart =
          let n = light.count in
          upper-stays tree sound cut vid rest (top-above tree sound count cut vid rest is has there apart (omega arith) (omega arith) (far vid there above))

      light-still : (vid : ℕ) → may_cut tree p q (upper tree cut rest) vid ≡ true → may_cut tree p q rest vid ≡ true
      light-still vid still =
          elim (cases_Bool (may_cut tree p q rest vid)) [
            | inl was ↦ was
            | inr heavy ↦ (let h = heavy-stays tree sound count p q cut vid rest is has heavy in let g = sym still ∙ h in cc)
          ]

      not-cut : (vid : ℕ) → is_under tree cut vid ≡ false → vid ≡ cut → ⊥
      not-cut vid apart tie = let h = subst (λ (v : ℕ). is_under tree cut v ≡ false) tie apart in let g = sym (under-self tree sound cut) ∙ h in cc

      each-left : (vid : ℕ) → Has (edges (upper tree cut rest)) vid → may_cut tree p q (upper tree cut rest) vid ≡ true → IsFound tree few (upper tree cut rest) new vid
      each-left vid edge still =
          let kept = kept-edge cut vid rest is has edge in
          elim (are.each vid kept.inside (light-still vid still)) [
            | inl (inl under) ↦ inl (inl (rw (lower-left vid kept.inside (not-cut vid kept.apart) (omega arith) kept.apart) under))
            | inl (inr above) ↦ inl (inr (rw (upper-left vid kept.inside (omega arith) kept.apart) above))
            | inr (other, there, at) ↦ inr (other, remains keys new key gone other there (λ tie. not-cut vid kept.apart (sym at ∙ tie)), at)
          ]

      two-keys : (other : Key) → IsLeft keys new key gone other → IsKeyed tree few part rest other → other.vid ≡ cut → ⊥
      two-keys other left keyed tie =
          elim keyed.side [
            | inl beside ↦
                let a = light.balance in
                let b = subst (λ (v : ℕ). other.balance ≡ total (fresh tree) (lower tree v rest) + total (fresh tree) (lower tree v rest) + tree.weight v) tie beside.balance in
                left.apart (a ∙ sym b) (sym tie)
            | inr top ↦ top.isnt_light (subst (λ (v : ℕ). length (lower tree v part) ≡ few) (sym tie) (sym (ap length light.same) ∙ light.count))
          ]

      keyed-left : (other : Key) → IsAmong new other → IsKeyed tree few part (upper tree cut rest) other
      keyed-left other there =
          let left = is-left keys new key gone other there in
          let keyed = are.keyed other left.was in
          let apart = two-keys other left keyed in
          let long = (sides tree sound count rest other.vid is keyed.inside).lengths in
          let n = light.count in
          elim keyed.side [
            | inl beside ↦
                let m = beside.count in
                let free = light-apart tree sound count other.vid cut rest is (omega arith) (λ e. apart (sym e)) (edge-has rest cut has) in
                let stays = lower-left other.vid keyed.inside apart (omega arith) free in
                record {
                  inside = stay-edge cut other.vid rest is has keyed.inside free;
                  side = inl (record { same = stays ∙ beside.same; count = ap length stays ∙ m; balance = rw stays beside.balance });
                }
            | inr top ↦
                let m = top.count in
                let free = light-apart tree sound count other.vid cut rest is (omega arith) (λ e. apart (sym e)) (edge-has rest cut has) in
                let stays = upper-left other.vid keyed.inside (omega arith) free in
                record {
                  inside = stay-edge cut other.vid rest is has keyed.inside free;
                  side = inr (record { isnt_light = top.isnt_light; count = ap length stays ∙ m; balance = rw stays top.balance });
                }
          ]

      pub after-cut : AreKeys tree p q few part (upper tree cut rest) new
      after-cut = record { each = each-left; keyed = keyed-left }
