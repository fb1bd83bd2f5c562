-- What a set closed under exchange certifies: that a division is best, and that none of it is loose.
use Prim.Native.Nat.{ℕ, ◌+◌, ◌≤◌, ◌<◌}
use mathlib.Core.Path.{◌≡◌, sym, subst⁻¹}
use mathlib.Core.Bool.{◌&&◌, not}
use native.Mathlib.Omega.{arith}
use lib.Dec.{T, eqb→eq, T_not, not_T, ltb→lt}
use Rattle.matroid.specs.Taut.{both, follows₂}
use Rattle.matroid.specs.Set.{Set, ◌∩◌, ◌∖◌, complement, with, size, Within}
use Rattle.matroid.specs.SetLaws.{within_trans, inter_left, inter_right, with_least, without_old, size_with, size_full}
use Rattle.matroid.specs.Sum.{sum}
use Rattle.matroid.specs.Matroid.{Matroid, worth}
use Rattle.matroid.specs.Division.{bundle, held, total}
use Rattle.matroid.specs.DivisionLaws.{sum_bundles}
use Rattle.matroid.specs.Exchange.{Fits, Swaps, CanGain, Sound, CanSwap, Edge}
use Rattle.matroid.specs.Closure.{Closed, GainsWithin}
use Rattle.matroid.proofs.Sets.{within_out, with_mono, without_other, size_twice}
use Rattle.matroid.proofs.Sums.{sum_le, sum_same, sum_tight}
use Rattle.matroid.proofs.Rank.{worth_most, worth_indep, maximal_is_worth}
use Rattle.matroid.proofs.Duality.{sum_bundles_le, sum_bundles_all, sum_bundles_split, weak_duality}
use Rattle.matroid.proofs.Swapping.{circuit}

-- A is independent. Whatever A can gain is in R, and so is whatever can take the place of a member in R.
module _ {m : ℕ} (M : Matroid m) (A R : Set) (indep : M.Indep A) (gains : (g : ℕ) → g < m → Fits M A g → T (R g))
    (swaps : (x g : ℕ) → x < m → g < m → T (A x) → T (R x) → Swaps M A x g → T (R g)) where
  -- nothing outside R can join A ∖ R
  stuck : (g : ℕ) → g < m → T (not (R g)) → T (not ((A ∖ R) g)) → M.Indep (with (A ∖ R) g) → ⊥
  stuck g l out away joins = go (M.decide (with A g))
    where
      new : T (not (A g))
      new = follows₂ (λ a r. not (a && not r) && not r) (λ a r. not a) tt (A g) (R g) (both (not ((A ∖ R) g)) (not (R g)) away out)

      go : Dec (M.Indep (with A g)) → ⊥
      go (yes i) = T_not (R g) out (gains g l (new, i))
      go (no d) =
          let c = circuit M A (A ∖ R) g indep (inter_left A (complement R)) l new joins d in
          let z = c.at in
          let inside = follows₂ (λ a r. a && not (a && not r)) (λ a r. r) tt (A z) (R z) (both (A z) (not ((A ∖ R) z)) c.there c.fresh) in
          T_not (R g) out (swaps z g c.below l c.there inside c.swaps)

  -- then A has outside R all that is worth having there
  pub tight : worth M (complement R) ≡ size m (A ∖ R)
  tight = sym (maximal_is_worth M (record { within = inter_right A (complement R); indep = M.part (inter_left A (complement R)) indep; stuck = stuck }))

module _ {m : ℕ} (n : ℕ) (M : ℕ → Matroid m) where
  -- All bundles are independent, and R is closed.
  module _ (D : ℕ → ℕ) (R : Set) (sound : Sound n M D) (closed : Closed n M D R) where
    -- what can take the place of a member of R in t's bundle is in R
    leads : (t x g : ℕ) → t < n → x < m → g < m → T (bundle D t x) → T (R x) → Swaps (M t) (bundle D t) x g → T (R g)
    leads t x g l lx lg b r s = closed x g lx lg r (subst⁻¹ (λ (u : ℕ). CanSwap n M D u x g) (eqb→eq (D x) t b) (l, s))

    -- where R holds all that t can gain, t has outside R all that is worth having there
    pub bundle_tight : (t : ℕ) → t < n → GainsWithin n M D R t → worth (M t) (complement R) ≡ size m (bundle D t ∖ R)
    bundle_tight t l gains = tight (M t) (bundle D t) R (sound t l) gains (λ x g. leads t x g l)

    -- R holds all that t can gain where it holds something of t's
    pub meets_gains : (t x : ℕ) → t < n → x < m → T (bundle D t x) → T (R x) → GainsWithin n M D R t
    meets_gains t x l lx b r g lg c = leads t x g l lx lg b r (c.0, (M t).part (with_mono g (without_old (bundle D t) x)) c.1)

    -- so t has outside R all that is worth having there
    pub meets_tight : (t x : ℕ) → t < n → x < m → T (bundle D t x) → T (R x) → worth (M t) (complement R) ≡ size m (bundle D t ∖ R)
    meets_tight t x l lx b r = bundle_tight t l (meets_gains t x l lx b r)

    -- R holds all that any team can gain, and nothing loose.
    module _ (gains : (t : ℕ) → t < n → GainsWithin n M D R t) (kept : (g : ℕ) → g < m → T (R g) → D g < n) where
      -- then the bundles are as large in all as R allows
      pub fill_certificate : sum n (λ t. size m (bundle D t)) ≡ size m R + sum n (λ t. worth (M t) (complement R))
      fill_certificate =
          let split = sum_bundles_split m n D R in
          let inside = sum_bundles_all m n D R kept in
          let outside = sum_same n (λ t. worth (M t) (complement R)) (λ t. size m (bundle D t ∖ R)) (λ t l. bundle_tight t l (gains t l)) in
          omega arith

      -- and no division is worth more in all
      pub fill_best : (D' : ℕ → ℕ) → total n M D' ≤ total n M D
      fill_best D' =
          let certificate = fill_certificate in
          let worths = sum_same n (λ t. worth (M t) (bundle D t)) (λ t. size m (bundle D t)) (λ t l. worth_indep (M t) (bundle D t) (sound t l)) in
          let dual = weak_duality n M D' (complement R) in
          let twice = size_twice m R in
          omega arith

  -- All bundles are independent, and as large in all as K allows.
  module _ (D : ℕ → ℕ) (K : Set) (sound : Sound n M D) (full : sum n (λ t. size m (bundle D t)) ≡ size m (complement K) + sum n (λ t. worth (M t) K)) where
    -- inside K no team has more than K is worth to it
    part_le : (t : ℕ) → t < n → size m (bundle D t ∩ K) ≤ worth (M t) K
    part_le t l = worth_most (M t) (inter_right (bundle D t) K) ((M t).part (inter_left (bundle D t) K) (sound t l))

    -- inside K each team has all that K is worth to it
    part_full : (t : ℕ) → t < n → size m (bundle D t ∩ K) ≡ worth (M t) K
    part_full =
        let split = sum_bundles_split m n D K in
        let outside = sum_bundles_le m n D (complement K) in
        sum_tight n (λ t. size m (bundle D t ∩ K)) (λ t. worth (M t) K) part_le (omega arith)

    -- nothing outside K is loose
    pub slack_held : (g : ℕ) → g < m → T (not (K g)) → D g < n
    slack_held g l out =
        let split = sum_bundles_split m n D K in
        let inside = sum_le n (λ t. size m (bundle D t ∩ K)) (λ t. worth (M t) K) part_le in
        let outside = sum_bundles m n D (complement K) in
        let all : Within m (complement K) (held n D ∩ complement K) = size_full (inter_right (held n D) (complement K)) (omega arith) in
        ltb→lt (D g) n ((within_trans all (inter_left (held n D) (complement K))).at g l out)

    -- so nothing of K can join what a team has in K
    no_room : (t g : ℕ) → t < n → g < m → T (not (bundle D t g)) → (M t).Indep (with (bundle D t ∩ K) g) → T (not (K g))
    no_room t g l lg new i = not_T (K g) (λ k.
        let e = part_full t l in
        let grown = size_with m (bundle D t ∩ K) g lg (within_out (inter_left (bundle D t) K) g lg new) in
        let most = worth_most (M t) (with_least g (inter_right (bundle D t) K) k) i in
        omega arith)

    -- what a team can gain lies outside K
    pub slack_gain : (t g : ℕ) → t < n → g < m → CanGain M D t g → T (not (K g))
    slack_gain t g l lg c = no_room t g l lg c.0 ((M t).part (with_mono g (inter_left (bundle D t) K)) c.1)

    -- and from outside K an edge leads outside K
    pub slack_edge : (g h : ℕ) → g < m → h < m → T (not (K g)) → Edge n M D g h → T (not (K h))
    slack_edge g h lg lh out e =
        let A = bundle D (D g) in
        no_room (D g) h e.0 lh e.1.0 ((M (D g)).part (with_mono h (without_other g (inter_left A K) (within_out (inter_right A K) g lg out))) e.1.1)
