-- Where the first byte of a kind stands.
use Rattle.std.proofs.Common.{◌≡◌, ◌≢◌, ℕ, ◌<◌, ◌==◌, List, length, get_or, arith}
use Rattle.std.proofs.lemmas.Bool.Decides.{nat_tests}
use Rattle.std.proofs.lemmas.List.Sums.{position_or_len_is, prefix_len_is}
use Rattle.std.specs.List.{position_or_len, prefix_len}

-- it stands at i, where each byte before i is another
pub first_at : (s : ℕ) (xs : List ℕ) (i : ℕ) → i < length xs → get_or xs i 0 ≡ s → ((k : ℕ) → k < i → get_or xs k 0 ≢ s) → position_or_len (λ b. b == s) xs ≡ i
first_at s xs i inside here before =
    position_or_len_is (λ b. b == s) xs i 0 (omega arith) (λ k lt. let ne = before k lt in grind (arith, nat_tests)) (λ _. grind (arith, nat_tests))

-- at the end, where no byte is s
pub first_none : (s : ℕ) (xs : List ℕ) → ((k : ℕ) → k < length xs → get_or xs k 0 ≢ s) → position_or_len (λ b. b == s) xs ≡ length xs
first_none s xs none =
    position_or_len_is (λ b. b == s) xs (length xs) 0 (omega arith) (λ k lt. let ne = none k lt in grind (arith, nat_tests)) (λ lt. absurd (omega arith))

-- s stands at each place before i, and another byte at i
pub first_other : (s : ℕ) (xs : List ℕ) (i : ℕ) → i < length xs → get_or xs i 0 ≢ s → ((k : ℕ) → k < i → get_or xs k 0 ≡ s) → prefix_len (λ b. b == s) xs ≡ i
first_other s xs i inside other before =
    prefix_len_is (λ b. b == s) xs i 0 (omega arith) (λ k lt. let same = before k lt in grind (arith, nat_tests)) (λ _. grind (arith, nat_tests))

-- s stands at each place
pub all_same : (s : ℕ) (xs : List ℕ) → ((k : ℕ) → k < length xs → get_or xs k 0 ≡ s) → prefix_len (λ b. b == s) xs ≡ length xs
all_same s xs same =
    prefix_len_is (λ b. b == s) xs (length xs) 0 (omega arith) (λ k lt. let here = same k lt in grind (arith, nat_tests)) (λ lt. absurd (omega arith))
