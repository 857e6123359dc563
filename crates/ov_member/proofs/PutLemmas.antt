-- One more rid at the end of a set.
use Rattle.std.proofs.Common.{◌≡◌, ℕ, suc, ◌+◌, ◌-◌, ◌<◌, ◌≤◌, ◌^◌, Bool, true, false, eqb, List, [], ◌∷◌, ◌++◌, length, Option, Some, get_or, refl, sym, ap, subst, ◌∙◌, append_assoc, ◌⊎◌, inl, inr, arith}
use Rattle.std.specs.List.{slice_get, slice_set}
use Rattle.std.specs.Option.{option_eq}
use Rattle.std.proofs.lemmas.Option.{slice_get-get_or}
use Rattle.std.proofs.lemmas.Bool.{eqb-true, eqb-false}
use Rattle.std.proofs.lemmas.List.{append-nil}
use Rattle.ov_member.specs.Rids.{RiseFrom}
use Rattle.ov_member.specs.Lists.{run}
use Rattle.ov_member.specs.Edges.{Ascend, ends, AreEdges, rids_between}
use Rattle.ov_member.proofs.RidLemmas.{RiseFrom-left, RiseFrom-right, after, after-weaker, after-least}
use Rattle.ov_member.proofs.RunLemmas.{run-more, after-run}

-- the last edge, or the number that they are above
abbrev pub top : ℕ → List ℕ → ℕ
top low [] = low
top low (edge ∷ edges) = top edge edges

pub top-get_or : (low : ℕ) (edges : List ℕ) (d : ℕ) → 0 < length edges → get_or edges (length edges - 1) d ≡ top low edges
top-get_or low [] d lt = absurd (omega arith)
top-get_or low (edge ∷ []) d lt = refl
top-get_or low (edge ∷ x ∷ edges) d lt = let e : length (edge ∷ x ∷ edges) - 1 ≡ suc (length (x ∷ edges) - 1) = omega arith in rw e (top-get_or edge (x ∷ edges) d (omega arith))

-- what may follow the rids is not below the last edge
pub top-after : (low : ℕ) (edges : List ℕ) → Ascend low edges → ends false edges ≡ false → top low edges ≤ after low (rids_between edges)
top-after low [] h e = omega arith
top-after low (first ∷ []) h e = absurd cc
top-after low (first ∷ past ∷ edges) h e =
    let rest = top-after past edges h.2.2 e in
    let past_is : first + (past - first) ≡ past = omega arith in
    rw (after-run low first (past - first) (rids_between edges) (omega arith), past_is) rest

-- edges above a number, which close each range, and the rids between them
pub record Kept (low : ℕ) (edges rids : List ℕ) : Type 0 where
  pub ascend : Ascend low edges
  pub closed : ends false edges ≡ false
  pub listed : rids_between edges ≡ rids

-- the last range takes in one more rid
pub grown : (low : ℕ) (edges : List ℕ) (rid : ℕ) → Ascend low (edges ++ rid ∷ []) → ends false (edges ++ rid ∷ []) ≡ false → rid ≤ 2 ^ 31 → Kept low (edges ++ suc rid ∷ []) (rids_between (edges ++ rid ∷ []) ++ rid ∷ [])
grown low [] rid h e le = absurd cc
grown low (first ∷ []) rid h e le =
    let count : suc rid - first ≡ suc (rid - first) = omega arith in
    let last : first + (rid - first) ≡ rid = omega arith in
    let more : run first (suc rid - first) ++ [] ≡ (run first (rid - first) ++ []) ++ rid ∷ [] = rw (append-nil (run first (suc rid - first)), append-nil (run first (rid - first)), count, run-more, last) refl in
    record { ascend = (h.0, h.1, (omega arith, omega arith, tt)); closed = refl; listed = more }
grown low (first ∷ past ∷ edges) rid h e le =
    let rest = grown past edges rid h.2.2 e le in
    record {
      ascend = (h.0, h.1, (h.2.0, h.2.1, rest.ascend));
      closed = rest.closed;
      listed = ap (λ (rids : List ℕ). run first (past - first) ++ rids) rest.listed ∙ sym (append_assoc (run first (past - first)) (rids_between (edges ++ rid ∷ [])) (rid ∷ []));
    }

-- a rid past the last edge begins a range
pub begun : (low : ℕ) (edges : List ℕ) (rid : ℕ) → Ascend low edges → ends false edges ≡ false → top low edges < rid → rid ≤ 2 ^ 31 → Kept low (edges ++ rid ∷ suc rid ∷ []) (rids_between edges ++ rid ∷ [])
unfolding run
begun low [] rid h e lt le =
    let one : suc rid - rid ≡ suc 0 = omega arith in
    record { ascend = (lt, omega arith, (omega arith, omega arith, tt)); closed = refl; listed = rw one refl }
begun low (first ∷ []) rid h e lt le = absurd cc
begun low (first ∷ past ∷ edges) rid h e lt le =
    let rest = begun past edges rid h.2.2 e lt le in
    record {
      ascend = (h.0, h.1, (h.2.0, h.2.1, rest.ascend));
      closed = rest.closed;
      listed = ap (λ (rids : List ℕ). run first (past - first) ++ rids) rest.listed ∙ sym (append_assoc (run first (past - first)) (rids_between edges) (rid ∷ []));
    }

-- whether the last edge is this one
abbrev pub is_last : List ℕ → ℕ → Bool
is_last edges edge = option_eq eqb (slice_get edges (length edges - 1)) (Some edge)

last_same : (found : Option ℕ) (edge other : ℕ) → found ≡ Some other → option_eq eqb found (Some edge) ≡ eqb other edge
last_same found edge other e = rw e refl

pub is_last-get : (edges : List ℕ) (edge : ℕ) → 0 < length edges → is_last edges edge ≡ eqb (get_or edges (length edges - 1) 0) edge
is_last-get edges edge lt = last_same (slice_get edges (length edges - 1)) edge (get_or edges (length edges - 1) 0) (slice_get-get_or edges (length edges - 1) 0 (omega arith))

-- its place is there
pub is_last-some : (edges : List ℕ) (edge : ℕ) → is_last edges edge ≡ true → 0 < length edges
is_last-some [] edge e = absurd cc
is_last-some (x ∷ edges) edge e = omega arith

pub is_last-true : (edges : List ℕ) (edge : ℕ) → is_last edges edge ≡ true → get_or edges (length edges - 1) 0 ≡ edge
is_last-true edges edge e = eqb-true _ _ (sym (is_last-get edges edge (is_last-some edges edge e)) ∙ e)

pub is_last-false : (edges : List ℕ) (edge : ℕ) → 0 < edge → is_last edges edge ≡ false → top 0 edges ≡ edge → ⊥
is_last-false [] edge lt e same = omega arith
is_last-false (x ∷ edges) edge lt e same =
    let differs = eqb-false _ _ (sym (is_last-get (x ∷ edges) edge (omega arith)) ∙ e) in
    differs (top-get_or 0 (x ∷ edges) 0 (omega arith) ∙ same)

-- a rid goes to the end, into the last range or behind it
pub put_rid : (old middle new : List ℕ) (rid : ℕ) → AreEdges old → RiseFrom 1 (rids_between old ++ rid ∷ []) → (old ≡ middle ++ rid ∷ []) ⊎ ((middle ≡ old ++ rid ∷ []) × (is_last old rid ≡ false)) → new ≡ middle ++ (rid + 1) ∷ [] → Kept 0 new (rids_between old ++ rid ∷ [])
put_rid old middle new rid sound rids cases is =
    let above = RiseFrom-right 1 (rids_between old) (rid ∷ []) rids in
    let next : rid + 1 ≡ suc rid = omega arith in
    elim cases [
      | inl e ↦
          let ascend : Ascend 0 (middle ++ rid ∷ []) = subst (Ascend 0) e sound.ascend in
          let closed : ends false (middle ++ rid ∷ []) ≡ false = ap (ends false) (sym e) ∙ sound.closed in
          rw (is, next, e) (grown 0 middle rid ascend closed above.1)
      | inr w ↦
          let least : 1 ≤ after 1 (rids_between old) = after-least 1 (rids_between old) (RiseFrom-left 1 (rids_between old) (rid ∷ []) rids) in
          let below = top-after 0 old sound.ascend sound.closed in
          let weaker = after-weaker 0 1 (rids_between old) (omega arith) in
          let last = is_last-false old rid (omega arith) w.1 in
          let less : top 0 old < rid = omega arith in
          let whole : new ≡ old ++ rid ∷ suc rid ∷ [] = is ∙ rw (w.0, next) (append_assoc old (rid ∷ []) (suc rid ∷ [])) in
          rw whole (begun 0 old rid sound.ascend sound.closed less above.1)
    ]

-- the edges before the last one
abbrev pub before_last : List ℕ → List ℕ
before_last [] = []
before_last (x ∷ []) = []
before_last (x ∷ y ∷ edges) = x ∷ before_last (y ∷ edges)

pub last_is : (edges : List ℕ) (edge : ℕ) → 0 < length edges → get_or edges (length edges - 1) 0 ≡ edge → edges ≡ before_last edges ++ edge ∷ []
last_is [] edge lt e = absurd (omega arith)
last_is (x ∷ []) edge lt e = ap (λ (y : ℕ). y ∷ []) e
last_is (x ∷ y ∷ edges) edge lt e =
    let at : length (x ∷ y ∷ edges) - 1 ≡ suc (length (y ∷ edges) - 1) = omega arith in
    ap (λ (xs : List ℕ). x ∷ xs) (last_is (y ∷ edges) edge (omega arith) (ap (λ (n : ℕ). get_or (x ∷ y ∷ edges) n 0) (sym at) ∙ e))

-- another edge is put in its place
pub last_put : (edges : List ℕ) (put : ℕ) → 0 < length edges → slice_set edges (length edges - 1) put ≡ before_last edges ++ put ∷ []
last_put [] put lt = absurd (omega arith)
last_put (x ∷ []) put lt = refl
last_put (x ∷ y ∷ edges) put lt =
    let at : length (x ∷ y ∷ edges) - 1 ≡ suc (length (y ∷ edges) - 1) = omega arith in
    ap (λ (n : ℕ). slice_set (x ∷ y ∷ edges) n put) at ∙ ap (λ (xs : List ℕ). x ∷ xs) (last_put (y ∷ edges) put (omega arith))
