-- The empty word, and the members below m of a word, counted.
use Prim.Native.Nat.{ℕ, zero, suc, ◌≤◌, ◌<◌}
use mathlib.Core.Path.{◌≡◌, refl, ap, ◌∙◌, subst⁻¹, fun_ext}
use mathlib.Core.Bool.{Bool, false, ◌&&◌, not, and-false, and-true, and_comm}
use native.Mathlib.Omega.{arith}
use native.Mathlib.Decide.{dec_lt}
use lib.Dec.{T, ltb}
use lib.Pow.{pow_pos}
use borrow.Author.Tests.{lt-ltb, le-ltb}
use Rattle.matroid.specs.Set.{Set, ◌∩◌, ◌∖◌, under, complement, one, size}
use Rattle.matroid.specs.SetLaws.{size_agree}
use Rattle.sets.specs.Bits.{bit}
use Rattle.sets.proofs.Words.{bit_high}

-- the word 0 has no members
pub bit_none : (j : ℕ) → bit 0 j ≡ false
bit_none j = bit_high 0 j (pow_pos j)

pub none_there : (j : ℕ) → T (not (bit 0 j))
none_there j = subst⁻¹ (λ (b : Bool). T (not b)) (bit_none j) tt

-- what lies below m is counted below m
pub size_under : (w m : ℕ) (A : Set) → m ≤ w → size w (A ∩ under m) ≡ size m A
size_under zero m A l = let z : m ≡ 0 = omega arith in rw z refl
size_under (suc w) m A l = go (λ (h : m ≤ w). size_under w m A h) (dec_lt w m)
  where
    go : (m ≤ w → size w (A ∩ under m) ≡ size m A) → Dec (w < m) → size (suc w) (A ∩ under m) ≡ size m A
    go rest (yes h) =
        let e : m ≡ suc w = omega arith in
        rw e (size_agree (suc w) (A ∩ under (suc w)) A (λ k b. rw (lt-ltb k (suc w) b) (and-true (A k))))
    go rest (no h) =
        let below = rest (omega arith) in
        let out : one (A w && ltb w m) ≡ 0 = rw (le-ltb w m (omega arith), and-false (A w)) refl in
        omega arith

-- the same, the other way round
pub under_size : (w m : ℕ) (A : Set) → m ≤ w → size w (under m ∩ A) ≡ size m A
under_size w m A l = size_agree w (under m ∩ A) (A ∩ under m) (λ k _. and_comm (ltb k m) (A k)) ∙ size_under w m A l

-- the count of the word of the members below m
pub below_size : (m set all s r : ℕ) → m ≤ 64 → ((j : ℕ) → bit all j ≡ under m j) → ((j : ℕ) → bit s j ≡ (bit set ∩ bit all) j) → r ≡ size 64 (bit s) → r ≡ size m (bit set)
below_size m set all s r l eall es er =
    er ∙ ap (size 64) (fun_ext (λ j. es j ∙ ap (λ (b : Bool). bit set j && b) (eall j))) ∙ size_under 64 m (bit set) l

-- the count of the word of the members below m that are not in the set
pub outside_size : (m set all s r : ℕ) → m ≤ 64 → ((j : ℕ) → bit all j ≡ under m j) → ((j : ℕ) → bit s j ≡ (bit all ∖ bit set) j) → r ≡ size 64 (bit s) → r ≡ size m (complement (bit set))
outside_size m set all s r l eall es er =
    er ∙ ap (size 64) (fun_ext (λ j. es j ∙ ap (λ (b : Bool). b && not (bit set j)) (eall j))) ∙ under_size 64 m (complement (bit set)) l
