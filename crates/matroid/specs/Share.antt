-- The maximin share (arXiv 2012.12710, section 2) of one team among n: the best that the worst of n parts can be worth to it, over all cuts.
use Rattle.std.specs.Prelude.{ℕ, zero, suc, min}
use Rattle.matroid.specs.Search.{largest}
use Rattle.matroid.specs.Matroid.{Matroid, worth}
use Rattle.matroid.specs.Division.{bundle}
use Rattle.matroid.specs.Cuts.{cuts}

-- the least value of f below n, and 0 where n is 0
abbrev pub least : ℕ → (ℕ → ℕ) → ℕ
least zero f = 0
least (suc zero) f = f 0
least (suc (suc n)) f = min (least (suc n) f) (f (suc n))

-- what the worst of the n parts is worth
abbrev pub worst : {m : ℕ} → Matroid m → ℕ → (ℕ → ℕ) → ℕ
worst M n C = least n (λ t. worth M (bundle C t))

-- the maximin share: the best that the worst part can be worth, over all cuts
unfoldable pub share : {m : ℕ} → Matroid m → ℕ → ℕ
share {m} M n = largest (worst M n) (cuts m n)
