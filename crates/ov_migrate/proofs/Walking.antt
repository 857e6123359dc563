-- A walk over a list's ranges, to some of its rids.
use Rattle.std.proofs.Common.{◌≡◌, ◌≤◌, ◌<◌, ◌⊎◌, inl, inr, ℕ, zero, suc, ◌+◌, ◌-◌, ◌^◌, List, [], ◌∷◌, ◌++◌, length, take, drop, refl, sym, ◌∙◌, ap, subst, arith, append_assoc}
use Rattle.std.specs.Prelude.{min}
use Rattle.ov_member.specs.Lists.{AreApart, Range, Spells, bytes_of, range_bytes, rids_of, run}
use Rattle.std.proofs.lemmas.List.{append-nil}
use Rattle.ov_member.specs.Rids.{AreRids, RiseFrom}
use Rattle.ov_member.proofs.RangeLemmas.{fits-apart, front-same, RiseFrom-apart}
use Rattle.ov_member.proofs.RidLemmas.{RiseFrom-weaker}

-- what is left of it: from here on the rids are those that are behind the ones that were found
pub record IsLeft (rids rest found : List ℕ) (from most passed left : ℕ) : Type 0 where
  pub later : List ℕ
  pub spells : Spells rest later
  pub same : take most (drop from rids) ≡ found ++ take left (drop passed later)

-- over one range
pub walk : (count first passed left skipped taken : ℕ) (more : List ℕ) → skipped ≡ min passed count → taken ≡ min left (count - skipped)
    → take left (drop passed (run first count ++ more)) ≡ run (first + skipped) taken ++ take (left - taken) (drop (passed - skipped) more)
unfolding run
walk zero first passed left skipped taken more s t =
    let s0 : skipped ≡ 0 = omega (arith, s)
    in let t0 : taken ≡ 0 = omega (arith, t, s0)
    in let p : passed - 0 ≡ passed = omega arith
    in let l : left - 0 ≡ left = omega arith
    in rw (s0, t0, p, l) refl
walk (suc k) first (suc p) left skipped taken more s t =
    let is : skipped ≡ suc (min p k) = omega (arith, s)
    in let t0 : taken ≡ min left (k - min p k) = omega (arith, t, is)
    in let f : first + suc (min p k) ≡ suc first + min p k = omega arith
    in let d : suc p - suc (min p k) ≡ p - min p k = omega arith
    in let rest = walk k (suc first) p left (min p k) taken more refl t0
    in rw (is, f, d) rest
walk (suc k) first zero zero skipped taken more s t =
    let t0 : taken ≡ 0 = omega (arith, t)
    in rw t0 refl
walk (suc k) first zero (suc l) skipped taken more s t =
    let s0 : skipped ≡ 0 = omega (arith, s)
    in let t0 : taken ≡ suc (min l k) = omega (arith, t, s0)
    in let f : first + 0 ≡ first = omega arith
    in let g : suc first + 0 ≡ suc first = omega arith
    in let d : suc l - suc (min l k) ≡ l - min l k = omega arith
    in let rest = walk k (suc first) zero l 0 (min l k) more (omega arith) (omega arith)
    in let rest' : take l (run (suc first) k ++ more) ≡ run (suc first) (min l k) ++ take (l - min l k) more = rw g at rest
    in rw (s0, t0, f, d) (ap (λ xs. first ∷ xs) rest')

range_long : (r : Range) (ranges : List Range) → 8 ≤ length (bytes_of (r ∷ ranges))
range_long r ranges =
    let long : length (bytes_of (r ∷ ranges)) ≡ suc (suc (suc (suc (suc (suc (suc (suc (length (bytes_of ranges))))))))) = refl
    in omega (arith, long)

none_written : (rest : List ℕ) → 8 ≤ length rest → rest ≡ [] → ⊥
none_written rest long none = omega (arith, long, ap length none)

lower : (past : ℕ) (ranges : List Range) → AreApart past ranges → AreApart 0 ranges
lower past [] apart = tt
lower past (range ∷ ranges) apart = (omega (arith, apart.0), apart.1, apart.2, apart.3)

-- of what is left the first range was read
pub record IsFirst (later others : List ℕ) (first count : ℕ) : Type 0 where
  pub behind : List ℕ
  pub spells : Spells others behind
  pub later_is : later ≡ run first count ++ behind
  pub low : first + count ≤ 2 ^ 31 + 1

first_of : (ranges : List Range) (rest range others later : List ℕ) (first count : ℕ) → AreApart 0 ranges → rest ≡ bytes_of ranges → later ≡ rids_of ranges → 8 ≤ length rest
    → rest ≡ range ++ others → range ≡ range_bytes (record { first = first; count = count }) → first < 2 ^ 32 → count < 2 ^ 32 → IsFirst later others first count
first_of [] rest range others later first count apart written listed long parts is f n = absurd (none_written rest long written)
first_of (r ∷ ranges) rest range others later first count apart written listed long parts is f n =
    let here : Range = record { first = first; count = count }
    in let both = front-same here r others (bytes_of ranges) (record { first = f; count = n }) (fits-apart 0 r ranges apart) (sym (ap (λ l. l ++ others) is) ∙ sym parts ∙ written)
    in record {
      behind = rids_of ranges;
      spells = record { ranges = ranges; apart = lower (r.first + r.count) ranges apart.3; written = both.1; listed = refl };
      later_is = listed ∙ ap (λ (x : Range). run x.first x.count ++ rids_of ranges) (sym both.0);
      low = subst (λ (x : Range). x.first + x.count ≤ 2 ^ 31 + 1) (sym both.0) apart.2;
    }

pub first_read : (rest range others later : List ℕ) (first count : ℕ) → Spells rest later → 8 ≤ length rest → rest ≡ range ++ others
    → range ≡ range_bytes (record { first = first; count = count }) → first < 2 ^ 32 → count < 2 ^ 32 → IsFirst later others first count
first_read rest range others later first count spells long parts is f n =
    first_of spells.ranges rest range others later first count spells.apart spells.written spells.listed long parts is f n

-- so the walk goes on behind it
pub goes_on : (rids rest range others found new : List ℕ) (from most passed left first count skipped taken : ℕ) → IsLeft rids rest found from most passed left
    → 8 ≤ length rest → rest ≡ range ++ others → range ≡ range_bytes (record { first = first; count = count }) → first < 2 ^ 32 → count < 2 ^ 32
    → skipped ≡ min passed count → taken ≡ min left (count - skipped)
    → (first + (skipped + taken) ≤ 2 ^ 31 + 1 → new ≡ found ++ run (first + skipped) taken)
    → IsLeft rids others new from most (passed - skipped) (left - taken)
goes_on rids rest range others found new from most passed left first count skipped taken is long parts bytes f n s t pushed =
    let at = first_read rest range others is.later first count is.spells long parts bytes f n
    in let low : first + (skipped + taken) ≤ 2 ^ 31 + 1 = omega (arith, at.low, s, t)
    in let now : List ℕ = take (left - taken) (drop (passed - skipped) at.behind)
    in record {
      later = at.behind;
      spells = at.spells;
      same = is.same
          ∙ ap (λ (l : List ℕ). found ++ take left (drop passed l)) at.later_is
          ∙ ap (λ (l : List ℕ). found ++ l) (walk count first passed left skipped taken at.behind s t)
          ∙ sym (append_assoc found (run (first + skipped) taken) now)
          ∙ ap (λ (l : List ℕ). l ++ now) (sym (pushed low));
    }

-- where nothing is left to take, or no range
pub ends : (rids rest found : List ℕ) (from most passed left : ℕ) → IsLeft rids rest found from most passed left → (left ≡ 0) ⊎ (length rest < 8) → found ≡ take most (drop from rids)
ends rids rest found from most passed left is (inl none) =
    sym (is.same ∙ ap (λ n. found ++ take n (drop passed is.later)) none ∙ append-nil found)
ends rids rest found from most passed left is (inr short) =
    sym (is.same ∙ ap (λ (l : List ℕ). found ++ take left (drop passed l)) (none_left is.spells.ranges is.spells.written is.spells.listed) ∙ ap (λ (l : List ℕ). found ++ l) (empty left passed [] refl) ∙ append-nil found)
  where
    none_left : (ranges : List Range) → rest ≡ bytes_of ranges → is.later ≡ rids_of ranges → is.later ≡ []
    none_left [] written listed = listed
    none_left (r ∷ ranges) written listed = absurd (omega (arith, short, ap length written, range_long r ranges))

    empty : (a b : ℕ) (xs : List ℕ) → xs ≡ [] → take a (drop b xs) ≡ []
    empty zero zero xs e = refl
    empty zero (suc b) xs e = refl
    empty (suc a) zero xs e = rw e refl
    empty (suc a) (suc b) xs e = rw e refl

-- ---- what is found is a set

rise_drop : (n least : ℕ) (rids : List ℕ) → RiseFrom least rids → RiseFrom least (drop n rids)
rise_drop zero least rids rise = rise
rise_drop (suc n) least [] rise = tt
rise_drop (suc n) least (rid ∷ rids) rise = RiseFrom-weaker least (suc rid) (drop n rids) (omega (arith, rise.0)) (rise_drop n (suc rid) rids rise.2)

rise_take : (n least : ℕ) (rids : List ℕ) → RiseFrom least rids → RiseFrom least (take n rids)
rise_take zero least rids rise = tt
rise_take (suc n) least [] rise = tt
rise_take (suc n) least (rid ∷ rids) rise = (rise.0, rise.1, rise_take n (suc rid) rids rise.2)

pub picked_rise : (most from : ℕ) (rids : List ℕ) → AreRids rids → AreRids (take most (drop from rids))
picked_rise most from rids are = rise_take most 1 (drop from rids) (rise_drop from 1 rids are)

pub spelled_rise : (bytes rids : List ℕ) → Spells bytes rids → AreRids rids
spelled_rise bytes rids spells = subst AreRids (sym spells.listed) (RiseFrom-apart 0 spells.ranges spells.apart)
