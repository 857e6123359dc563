-- Numbers of the bounds.
use Rattle.std.proofs.Common.{◌≡◌, ℕ, zero, suc, ◌+◌, ◌-◌, ◌*◌, ◌^◌, ◌≤◌, sym, ◌∙◌, ap, arith}
use Rattle.std.proofs.Math.Nat.{mul_comm, mul_assoc, mul_left_comm, mul-add, add-mul, mul-le-mul_left, mul-le-mul, pow-suc}

-- a bound at one depth holds at each greater one
pub raised : (a b depth more s r : ℕ) → a ≤ b → a ^ depth * s ≤ b ^ depth * r → a ^ (depth + more) * s ≤ b ^ (depth + more) * r
raised a b depth zero s r le bound = let e : depth + 0 ≡ depth = omega arith in rw e bound
raised a b depth (suc more) s r le bound =
    let e : depth + suc more ≡ suc (depth + more) = omega arith in
    let rest = raised a b depth more s r le bound in
    let left : a ^ suc (depth + more) * s ≡ a * (a ^ (depth + more) * s) = ap (λ n. n * s) (pow-suc a (depth + more) ∙ mul_comm (a ^ (depth + more)) a) ∙ mul_assoc a (a ^ (depth + more)) s in
    let right : b ^ suc (depth + more) * r ≡ b * (b ^ (depth + more) * r) = ap (λ n. n * r) (pow-suc b (depth + more) ∙ mul_comm (b ^ (depth + more)) b) ∙ mul_assoc b (b ^ (depth + more)) r in
    rw e (rw (left, right) (mul-le-mul le rest))

pub raised_to : (a b depth to s r : ℕ) → depth ≤ to → a ≤ b → a ^ depth * s ≤ b ^ depth * r → a ^ to * s ≤ b ^ to * r
raised_to a b depth to s r within le bound =
    let e : depth + (to - depth) ≡ to = omega arith in
    let h = raised a b depth (to - depth) s r le bound in
    rw e at h

-- a cut of the edge of weight w, where q * w <= p * R
pub joined : (p q depth s1 s2 r1 r2 r w : ℕ) → r1 + r2 ≡ r + w → q * w ≤ p * r → q ^ depth * s1 ≤ (p + q) ^ depth * r1 → q ^ depth * s2 ≤ (p + q) ^ depth * r2 → q ^ suc depth * (s1 + s2) ≤ (p + q) ^ suc depth * r
joined p q depth s1 s2 r1 r2 r w sum light one two =
    let a = q ^ depth in
    let b = (p + q) ^ depth in
    let both : a * (s1 + s2) ≤ b * (r + w) = rw (mul-add a s1 s2, sym sum, mul-add b r1 r2) (omega arith) in
    let edge : q * (r + w) ≤ (p + q) * r = rw (mul-add q r w, add-mul p q r) (omega arith) in
    let left : q ^ suc depth * (s1 + s2) ≡ q * (a * (s1 + s2)) = ap (λ n. n * (s1 + s2)) (pow-suc q depth ∙ mul_comm a q) ∙ mul_assoc q a (s1 + s2) in
    let middle : q * (b * (r + w)) ≡ b * (q * (r + w)) = mul_left_comm q b (r + w) in
    let right : (p + q) ^ suc depth * r ≡ b * ((p + q) * r) = ap (λ n. n * r) (pow-suc (p + q) depth) ∙ mul_assoc b (p + q) r in
    let first = mul-le-mul_left q both in
    let second = mul-le-mul_left b edge in
    rw (left, right) (omega (arith, first, second, middle))
