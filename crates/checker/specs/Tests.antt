-- Tests of the numbers below n.
use Rattle.std.specs.Prelude.{ℕ, zero, suc, Bool, true, ◌&&◌, cond}

-- whether all pass
unfoldable pub every : ℕ → (ℕ → Bool) → Bool
every zero test = true
every (suc n) test = every n test && test n

-- the lowest that fails, and n where none does
unfoldable pub lowest_failing : ℕ → (ℕ → Bool) → ℕ
lowest_failing zero test = 0
lowest_failing (suc n) test = cond (test 0) (suc (lowest_failing n (λ t. test (suc t)))) 0
