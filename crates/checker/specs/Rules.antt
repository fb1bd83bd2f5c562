-- The rules of Check about the division and the shares that a sheet states (document 01, "Check", 13 to 16; document 02, note 2), in worth and
-- size. They know a plan only through the matroids M of its n teams, and which teams are present.
use Rattle.std.specs.Prelude.{ℕ, ◌+◌, ◌*◌, Bool, ◌&&◌, ◌||◌, not, cond, List, eqb, leb, ltb, Some, None, Option}
use Rattle.matroid.specs.Decide.{is_yes}
use Rattle.matroid.specs.Set.{Set, complement, size}
use Rattle.matroid.specs.Sum.{sum}
use Rattle.matroid.specs.Matroid.{Matroid, worth}
use Rattle.matroid.specs.Division.{bundle, held}
use Rattle.sets.specs.Bits.{bit}
use Rattle.sheet.specs.Fields.{total_at, holder_at, bound_at, share_at, set_at, part_at}
use Rattle.checker.specs.Tests.{every, lowest_failing}

-- whether a set is independent
abbrev pub independent : {m : ℕ} → Matroid m → Set → Bool
independent M A = is_yes (M.decide A)

-- a team that is looked for among n: none is found where the search comes to n
abbrev pub found : (n t : ℕ) → Option ℕ
found n t = cond (ltb t n) (Some t) None

-- 13: the lowest team whose bundle is not independent, in a division
unfoldable pub dependent_at : {m : ℕ} → (n : ℕ) → (ℕ → Matroid m) → (ℕ → ℕ) → ℕ
dependent_at n M D = lowest_failing n (λ t. independent (M t) (bundle D t))

-- "(instruments outside T) + (sum over teams of v(T))"
unfoldable pub bound_of : {m : ℕ} → (n : ℕ) → (ℕ → Matroid m) → (T : ℕ) → ℕ
bound_of {m} n M T = size m (complement (bit T)) + sum n (λ t. worth (M t) (bit T))

-- 14: the total is the number of given instruments, and the bound of BOUND's set
unfoldable pub total_holds : {m : ℕ} → (n : ℕ) → (ℕ → Matroid m) → List ℕ → Bool
total_holds {m} n M sheet = eqb (total_at sheet) (size m (held n (holder_at sheet))) && eqb (total_at sheet) (bound_of n M (bound_at m sheet))

-- 15: none of the p parts, an empty one included, is worth less than s
unfoldable pub parts_hold : {m : ℕ} → Matroid m → (p s : ℕ) → (C : ℕ → ℕ) → Bool
parts_hold M p s C = every p (λ k. leb s (worth M (bundle C k)))

-- and "(instruments outside T) + p × v(T)" is "below p × (s + 1)"
unfoldable pub share_holds : {m : ℕ} → Matroid m → (p s T : ℕ) → (C : ℕ → ℕ) → Bool
share_holds {m} M p s T C = parts_hold M p s C && ltb (size m (complement (bit T)) + p * worth M (bit T)) (p * (s + 1))

-- this of a team, with p the number of teams present: "15 does not test" a team that is away
abbrev pub share_test : {m : ℕ} → (n : ℕ) → (present : Set) → (ℕ → Matroid m) → List ℕ → ℕ → Bool
share_test {m} n present M sheet t = not (present t) || share_holds (M t) (size n present) (share_at m sheet t) (set_at m sheet t) (part_at m sheet t)

-- the lowest team of which it does not hold
unfoldable pub wrong_share_at : {m : ℕ} → (n : ℕ) → (present : Set) → (ℕ → Matroid m) → List ℕ → ℕ
wrong_share_at n present M sheet = lowest_failing n (share_test n present M sheet)

-- 16: the lowest team that holds fewer instruments than its share
unfoldable pub short_at : (m n : ℕ) → List ℕ → ℕ
short_at m n sheet = lowest_failing n (λ t. leb (share_at m sheet t) (size m (bundle (holder_at sheet) t)))
