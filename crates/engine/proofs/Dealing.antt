-- What a set allows as a share, and the loop of the deal.
use Prim.Native.Nat.{ℕ, ◌+◌, ◌*◌, ◌/◌, ◌≤◌, ◌<◌}
use mathlib.Core.Path.{◌≡◌, refl, ap, ◌∙◌, subst, subst⁻¹, fun_ext}
use mathlib.Core.Bool.{not}
use mathlib.Core.Logic.{inl, inr}
use mathlib.Core.List.{List}
use native.Mathlib.Omega.{arith}
use native.Mathlib.Nat.{add_assoc, mul-add, div-add-mod', mod-lt, div-le_self}
use native.Mathlib.Decide.{ℕ_discrete}
use lib.Dec.{T, eqb, eqb→eq, lt→ltb, T_not, not_T}
use lib.ListN.{length, get_or, replicate, get_or-replicate}
use Rattle.matroid.specs.Taut.{decide_T, both, and_left, and_right}
use Rattle.matroid.specs.Set.{◌∖◌, complement, under, size, Within}
use Rattle.matroid.specs.SetLaws.{eq→eqb, size_same, within_refl, inter_most, inter_left}
use Rattle.matroid.specs.Matroid.{worth}
use Rattle.matroid.specs.Division.{bundle}
use Rattle.matroid.proofs.Sets.{size_le}
use Rattle.matroid.proofs.Rank.{worth_indep, worth_mono, worth_le_size}
use Rattle.sets.specs.Bits.{bit}
use Rattle.sets.specs.Joining.{Grown}
use Rattle.sets.specs.Assigned.{Assigned}
use Rattle.sets.proofs.Below.{bit_none, none_there, size_under}
use Rattle.kinds.specs.declared.Valuation.{Valuation}
use Rattle.kinds.specs.Valuations.{matroid_of}
use Rattle.engine.specs.Deal.{Allowed, Dealt}
use Rattle.engine.proofs.Filling.{all_low, rest_low}

-- the members outside in n parts, and the worth, are what the set allows
pub allowed_by : (m n : ℕ) (v : Valuation) (set outside inside : ℕ) → m ≤ 64 → 1 ≤ n → outside ≡ size m (complement (bit set)) → inside ≡ worth (matroid_of m v) (bit set)
    → Allowed m n v set (outside / n + inside)
allowed_by m n v set outside inside small some is-outside is-inside =
    let parts = div-le_self outside n in
    let div = div-add-mod' outside n in
    let rest = mod-lt outside {m = n} (omega arith) in
    let most = size_le m (complement (bit set)) in
    let few = worth_le_size (matroid_of m v) (bit set) in
    let all = size_le m (bit set) in
    let times = ap (λ (x : ℕ). n * x) is-inside in
    let spread = mul-add n (outside / n) (inside + 1) in
    record { small = omega arith; tight = subst⁻¹ (λ (x : ℕ). size m (complement (bit set)) + n * worth (matroid_of m v) (bit set) < n * x) (add_assoc (outside / n) inside 1) (omega arith) }

-- ---- the deal

-- Before part p is dealt: what is left, and the table so far. Each part before p is worth the share without what is left.
pub record Dealing (m n : ℕ) (v : Valuation) (share p left : ℕ) (part : List ℕ) : Type 0 where
  pub long : length part ≡ 64
  pub low : (g : ℕ) → T (bit left g) → g < m
  pub below : (g : ℕ) → g < m → get_or part g 0 < n
  pub fair : (t : ℕ) → t < p → share ≤ worth (matroid_of m v) (bundle (λ g. get_or part g 0) t ∖ bit left)

-- before the first part all is left
pub dealing_none : (m n : ℕ) (v : Valuation) (share all : ℕ) → m ≤ 64 → 1 ≤ n → ((j : ℕ) → bit all j ≡ under m j) → Dealing m n v share 0 all (replicate 64 0)
dealing_none m n v share all small some is_all = record {
  long = refl;
  low = all_low m all is_all;
  below = λ g l. let zero = get_or-replicate {A = ℕ} 64 g 0 0 (omega arith) in omega arith;
  fair = λ t l. absurd (omega arith);
}

module _ (m n : ℕ) (v : Valuation) (share p left : ℕ) (part : List ℕ) (d : Dealing m n v share p left part) where
  -- where all parts are dealt the table is a cut into n parts, each worth the share
  pub dealing_done : n ≤ p → Dealt m n v share part
  dealing_done all = record {
    below = d.below;
    fair = λ t l.
        let worthy = d.fair t (omega arith) in
        let more = worth_mono (matroid_of m v) (inter_left (bundle (λ g. get_or part g 0) t) (complement (bit left))) in
        omega arith;
  }

  -- part p takes a word of what is left, large enough
  module _ (small : m ≤ 64) (l : p < n) (most word : ℕ) (grown : Grown (matroid_of m v) 0 left most word) (count : ℕ) (is-count : count ≡ size 64 (bit word)) (enough : share ≤ count)
      (part' : List ℕ) (assigned : Assigned part word p part') (left' : ℕ) (is-left : (j : ℕ) → bit left' j ≡ (bit left ∖ bit word) j) where
    -- its members were left
    from_left : (g : ℕ) → T (bit word g) → T (bit left g)
    from_left g t = elim (grown.new g t) [ inl z ↦ absurd (T_not (bit 0 g) (none_there g) z) | inr f ↦ f ]

    -- it is independent, so it is worth its size
    worthy : share ≤ worth (matroid_of m v) (bit word)
    worthy =
        let indep = grown.indep (subst⁻¹ (matroid_of m v).Indep (fun_ext bit_none) (matroid_of m v).empty) in
        let is-worth = worth_indep (matroid_of m v) (bit word) indep in
        let counted : count ≡ size m (bit word) = is-count ∙ size_same 64 (inter_most within_refl (record { at = λ g _ t. lt→ltb g m (d.low g (from_left g t)) })) (inter_left (bit word) (under m)) ∙ size_under 64 m (bit word) small in
        omega arith

    -- what is still left was left before, and is not in the word
    still_left : (g : ℕ) → T (bit left' g) → T (bit left g) × T (not (bit word g))
    still_left g t = let u = subst T (is-left g) t in (and_left (bit left g) _ u, and_right (bit left g) _ u)

    -- they are in part p, and no longer left
    new_part : Within m (bit word) (bundle (λ g. get_or part' g 0) p ∖ bit left')
    new_part = record {
      at = λ g b t. both (eqb (get_or part' g 0) p) _ (eq→eqb (get_or part' g 0) p (assigned.new g 0 (omega arith) t)) (not_T (bit left' g) (λ u. T_not (bit word g) (still_left g u).1 t));
    }

    -- a part keeps what was not left
    old_part : (t : ℕ) → Within m (bundle (λ g. get_or part g 0) t ∖ bit left) (bundle (λ g. get_or part' g 0) t ∖ bit left')
    old_part t = record {
      at = λ g b x.
          let there = eqb→eq (get_or part g 0) t (and_left (eqb (get_or part g 0) t) _ x) in
          let taken = and_right (eqb (get_or part g 0) t) _ x in
          let same = assigned.old g 0 (not_T (bit word g) (λ u. T_not (bit left g) taken (from_left g u))) in
          both (eqb (get_or part' g 0) t) _ (eq→eqb (get_or part' g 0) t (same ∙ there)) (not_T (bit left' g) (λ u. T_not (bit left g) taken (still_left g u).0));
    }

    -- so one part more is worth the share
    pub dealing_next : Dealing m n v share (p + 1) left' part'
    dealing_next = record {
      long = assigned.long ∙ d.long;
      low = rest_low m left word left' d.low is-left;
      below = λ g b. elim (decide_T (bit word g)) [
        | inl t ↦ let new = assigned.new g 0 (omega arith) t in omega arith
        | inr o ↦ let old = assigned.old g 0 o in let before = d.below g b in omega arith
      ];
      fair = λ t b. elim (ℕ_discrete t p) [
        | yes e ↦ rw e (let more = worth_mono (matroid_of m v) new_part in let enough' = worthy in omega arith)
        | no d' ↦ let before = d.fair t (omega arith) in let more = worth_mono (matroid_of m v) (old_part t) in omega arith
      ];
    }
