-- Laws of sums and of divisions that the definitions of matroids need, in the crates of the kinds of team.
use Rattle.std.specs.Prelude.{ℕ, zero, suc, ◌<◌, ◌≡◌, Bool, ◌&&◌, ◌||◌, not, cond, ◌≢◌, T, eqb}
use Rattle.std.proofs.Common.{ap, arith, eqb→eq, ltb→lt, lt→ltb}
use Rattle.std.proofs.Math.Decide.{ℕ_discrete, dec_lt}
use Rattle.matroid.specs.Taut.{T→true, T→false, follows₂}
use Rattle.matroid.specs.Set.{Set, none, ◌∪◌, ◌∩◌, complement, size, Within}
use Rattle.matroid.specs.SetLaws.{eq→eqb, ne→eqb, within₂, within₃, within_trans, union_least, inter_left, inter_mono, size_none, size_within, size_same, size_union}
use Rattle.matroid.specs.Sum.{sum}
use Rattle.matroid.specs.Division.{bundle, held, move}

-- where the sum is smaller, so is some term
pub sum_less : (n : ℕ) (f g : ℕ → ℕ) → sum n f < sum n g → (t : ℕ) × (t < n) × (f t < g t)
sum_less zero f g h = absurd (omega arith)
sum_less (suc n) f g h = go (λ (l : sum n f < sum n g). sum_less n f g l) (dec_lt (f n) (g n))
  where
    go : (sum n f < sum n g → (t : ℕ) × (t < n) × (f t < g t)) → Dec (f n < g n) → (t : ℕ) × (t < suc n) × (f t < g t)
    go rest (yes l) = (n, omega arith, l)
    go rest (no d) = let (t, l, s) = rest (omega arith) in (t, omega arith, s)

-- g has gone to t
pub move_here : (D : ℕ → ℕ) (g t k : ℕ) → k ≡ g → move D g t k ≡ t
move_here D g t k e = ap (λ (b : Bool). cond b t (D k)) (T→true (eqb k g) (eq→eqb k g e))

-- and nothing else has gone anywhere
pub move_away : (D : ℕ → ℕ) (g t k : ℕ) → k ≢ g → move D g t k ≡ D k
move_away D g t k d = ap (λ (b : Bool). cond b t (D k)) (T→false (eqb k g) (ne→eqb k g d))

-- no team is below 0
held_none : {m : ℕ} (D : ℕ → ℕ) → Within m (held 0 D) none
held_none D = record { at = λ k l h. absurd (omega (arith, ltb→lt)) }

-- the teams below n + 1 hold what those below n hold, and what n holds
held_suc : {m : ℕ} (n : ℕ) (D : ℕ → ℕ) → Within m (held (suc n) D) (held n D ∪ bundle D n)
held_suc n D = record { at = λ k l t. go k t (ℕ_discrete (D k) n) }
  where
    go : (k : ℕ) → T (held (suc n) D k) → Dec (D k ≡ n) → T (held n D k || bundle D n k)
    go k t (yes e) = follows₂ (λ h b. b) (λ h b. h || b) tt (held n D k) (bundle D n k) (omega (arith, eq→eqb))
    go k t (no d) = follows₂ (λ h b. h) (λ h b. h || b) tt (held n D k) (bundle D n k) (omega (arith, ltb→lt, lt→ltb))

held_up : {m : ℕ} (n : ℕ) (D : ℕ → ℕ) → Within m (held n D ∪ bundle D n) (held (suc n) D)
held_up n D = union_least {A = held n D} {B = bundle D n} (record { at = λ k l h. omega (arith, ltb→lt, lt→ltb) }) (record { at = λ k l b. omega (arith, eqb→eq, lt→ltb) })

-- what n holds the teams below n do not
held_apart : {m : ℕ} (n : ℕ) (D : ℕ → ℕ) → Within m (held n D) (complement (bundle D n))
held_apart n D = record { at = λ k l h. omega (arith, ltb→lt, ne→eqb) }

-- the bundles' members in R, counted team by team, are the members of R that are held
pub sum_bundles : (m n : ℕ) (D : ℕ → ℕ) (R : Set) → sum n (λ t. size m (bundle D t ∩ R)) ≡ size m (held n D ∩ R)
sum_bundles m zero D R =
    let empty = size_within m (within_trans (inter_left (held 0 D) R) (held_none D)) in
    let z = size_none m in
    omega arith
sum_bundles m (suc n) D R =
    let below = sum_bundles m n D R in
    let apart = size_union m (held n D ∩ R) (bundle D n ∩ R) (within_trans (inter_left (held n D) R) (within_trans (held_apart n D) (within₂ (λ b r. not b) (λ b r. not (b && r)) tt (bundle D n) R))) in
    let same = size_same m
    (within_trans (inter_mono R (held_suc n D)) (within₃ (λ h b r. (h || b) && r) (λ h b r. h && r || b && r) tt (held n D) (bundle D n) R))
    (within_trans (within₃ (λ h b r. h && r || b && r) (λ h b r. (h || b) && r) tt (held n D) (bundle D n) R) (inter_mono R (held_up n D))) in
    omega arith
