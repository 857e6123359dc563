-- The keys of a part's edges, one edge after another.
use Rattle.std.proofs.Common.{◌≡◌, ℕ, suc, ◌+◌, ◌<◌, ◌≤◌, ◌⊎◌, Bool, true, cond, List, [], ◌∷◌, length, get_or, refl, sym, ◌∙◌, ap, subst, inl, inr, arith}
use Rattle.std.specs.BTreeSet.{BTreeSet, contains, Updates, IsEmpty}
use Rattle.std.specs.BTreeMap.{is_at}
use Rattle.std.proofs.lemmas.Bool.{cases_Bool, cases_eq}
use Rattle.ov_graph.specs.Trees.{VersionTree}
use Rattle.ov_graph.specs.Splits.{Has, edges, may_cut}
use Rattle.ov_lyre.specs.declared.peeling.Key.{Key}
use Rattle.ov_lyre.specs.Peeling.{key_cmp, IsAmong, IsKeyed, IsFound, AreKeys}
use Rattle.ov_lyre.proofs.PeelingFacts.{is-one, one}

-- the keys of the edges before a place
pub record AreKeysTo (tree : VersionTree) (p q few : ℕ) (part : List ℕ) (at : ℕ) (keys : BTreeSet Key) : Type 0 where
  pub each : (j : ℕ) → 1 ≤ j → j < at → may_cut tree p q part (get_or part j 0) ≡ true → IsFound tree few part keys (get_or part j 0)
  pub keyed : (key : Key) → IsAmong keys key → IsKeyed tree few part part key

module _ (tree : VersionTree) (p q few : ℕ) (part : List ℕ) where
  pub no-keys : (keys : BTreeSet Key) → IsEmpty keys → AreKeysTo tree p q few part 1 keys
  no-keys keys none = record {
    each = λ j from to. absurd (omega arith);
    keyed = λ key among. absurd (let h : IsAmong (record { keys = [] }) key = subst (λ (ks : List Key). IsAmong (record { keys = ks }) key) none among in cc);
  }

  pub keys-skip : (at : ℕ) (keys : BTreeSet Key) → AreKeysTo tree p q few part at keys → (may_cut tree p q part (get_or part at 0) ≡ true → IsFound tree few part keys (get_or part at 0)) → AreKeysTo tree p q few part (at + 1) keys
  keys-skip at keys are found = record {
    each = λ j from to may. (elim (lt-or j at to) [
      | inl before ↦ are.each j from before may
      | inr last ↦ subst (λ (k : ℕ). may_cut tree p q part (get_or part k 0) ≡ true → IsFound tree few part keys (get_or part k 0)) (sym last) found may
    ]);
    keyed = are.keyed;
  }
    where
      lt-or : (j at : ℕ) → j < at + 1 → (j < at) ⊎ (j ≡ at)
      lt-or j at lt = elim (cases_eq j at) [ inl is ↦ inr is | inr other ↦ inl (omega arith) ]

  same-key : (a b : Key) → a.balance ≡ b.balance → a.vid ≡ b.vid → IsKeyed tree few part part a → IsKeyed tree few part part b
  same-key a b balance vid keyed =
      let at : ℕ → Type 0 = λ v. IsKeyed tree few part part (record { balance = a.balance; vid = v }) in
      let to : ℕ → Type 0 = λ n. IsKeyed tree few part part (record { balance = n; vid = b.vid }) in
      subst to balance (subst at vid keyed)

  -- one more key
  module _ (old new : BTreeSet Key) (key : Key) (put : Updates key_cmp old new key true) (keyed : IsKeyed tree few part part key) where
    pub put-in : (other : Key) → IsAmong old other → IsAmong new other
    put-in other among =
        elim (cases_Bool (is_at (key_cmp key) other)) [
          | inl at ↦ put.0 other ∙ ap (λ (b : Bool). cond b true (contains key_cmp old other)) at
          | inr apart ↦ put.0 other ∙ ap (λ (b : Bool). cond b true (contains key_cmp old other)) apart ∙ among
        ]

    pub is-in : IsAmong new key
    is-in = put.0 key ∙ ap (λ (b : Bool). cond b true (contains key_cmp old key)) (one key key refl refl)

    pub keys-more : (at : ℕ) → AreKeysTo tree p q few part at old → key.vid ≡ get_or part at 0 → AreKeysTo tree p q few part (at + 1) new
    keys-more at are vid = keys-skip at new (record {
      each = λ j from to may. (elim (are.each j from to may) [
        | inl fewer ↦ inl fewer
        | inr (other, there, is) ↦ inr (other, put-in other there, is)
      ]);
      keyed = λ other among. (elim (cases_Bool (is_at (key_cmp key) other)) [
        | inl at_key ↦ let same = is-one key other at_key in same-key key other same.balance same.vid keyed
        | inr apart ↦ are.keyed other (sym (ap (λ (b : Bool). cond b true (contains key_cmp old other)) apart) ∙ sym (put.0 other) ∙ among)
      ]);
    }) (λ may. inr (key, is-in, vid))

  -- an edge has a place
  index-of : (xs : List ℕ) (vid : ℕ) → Has xs vid → (j : ℕ) × (j < length xs) × (get_or xs j 0 ≡ vid)
  index-of [] vid has = absurd has
  index-of (x ∷ xs) vid (inl is) = (0, omega arith, is)
  index-of (x ∷ xs) vid (inr has) = let rest = index-of xs vid has in let lt = rest.1 in (suc rest.0, omega arith, rest.2)

  pub keys-all : (at : ℕ) (keys : BTreeSet Key) → length part ≤ at → AreKeysTo tree p q few part at keys → AreKeys tree p q few part part keys
  keys-all at keys all are = record { each = λ vid has may. found part refl vid has may; keyed = are.keyed }
    where
      found : (xs : List ℕ) → xs ≡ part → (vid : ℕ) → Has (edges xs) vid → may_cut tree p q part vid ≡ true → IsFound tree few part keys vid
      found [] is vid has may = absurd has
      found (top ∷ rest) is vid has may =
          let place = index-of rest vid has in
          let lt = place.1 in
          let long : suc (length rest) ≡ length part = ap length is in
          let here : get_or part (suc place.0) 0 ≡ vid = subst (λ (ys : List ℕ). get_or ys (suc place.0) 0 ≡ vid) is place.2 in
          subst (λ (v : ℕ). IsFound tree few part keys v) here (are.each (suc place.0) (omega arith) (omega arith) (subst (λ (v : ℕ). may_cut tree p q part v ≡ true) (sym here) may))
