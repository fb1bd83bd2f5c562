-- What a set is worth, what may join it and what joins it, by the forest carried along its gauges.
use Prim.Native.Nat.{ℕ, ◌≤◌, ◌<◌}
use mathlib.Core.Path.{◌≡◌, refl, ◌∙◌, subst, subst⁻¹}
use mathlib.Core.Bool.{Bool, not, ◌||◌}
use mathlib.Core.List.{List}
use mathlib.Core.Logic.Iff
use mathlib.Core.Logic.{◌↔◌, inl, inr}
use native.Mathlib.Omega.{arith}
use lib.Dec.{T, ltb, T_not, not_T, lt→ltb, ltb→lt}
use lib.ListN.{length, get_or}
use Rattle.matroid.specs.Taut.{both, and_left, and_right, or_cases, decide_T, follows₂}
use Rattle.matroid.specs.Set.{Set, ◌∪◌, ◌∩◌, ◌∖◌, Within, under, with, size}
use Rattle.matroid.specs.SetLaws.{with_new, with_old, with_least, within_trans, size_same, size_within}
use Rattle.matroid.specs.Matroid.{worth}
use Rattle.matroid.proofs.Sets.{size_le}
use Rattle.sets.specs.Bits.{bit}
use Rattle.sets.specs.Chosen.{Chosen}
use Rattle.sets.proofs.Choosing.{chosen_bits}
use Rattle.std.proofs.lemmas.List.{get_or_default}
use Rattle.sets.specs.Joining.{MayJoin, Grown}
use Rattle.sets.proofs.Below.{bit_none}
use Rattle.loops.specs.Net.{Net, LoopFree}
use Rattle.loops.specs.Groups.{apart, on, carried}
use Rattle.loops.specs.Graphic.{graphic, net_of, loop_free_part}
use Rattle.loops.specs.Accepting.{accepted_joins, accepted_worth}
use Rattle.loops.specs.Forests.{groups_of, Forest, forest, CarriedOn}
use Rattle.loops.proofs.Accepting.{apart_holds, row_gauges, gauges_row, carried_free}

-- with one member more
with_within : {m : ℕ} {A B : Set} (g : ℕ) → Within m A B → Within m (with A g) (with B g)
with_within {B = B} g h = with_least g (within_trans h (with_old B g)) (with_new B g)

-- the gauges below g that join two groups
pub record Free (N : Net) (groups : List ℕ) (g free : ℕ) : Type 0 where
  pub at : (j : ℕ) → T (bit free j) ↔ ((j < g) × T (apart (groups_of groups) (N.end_a j) (N.end_b j)))

-- as a test picks them
pub free_chosen : (N : Net) (groups : List ℕ) (m free : ℕ) (answers : ℕ → Bool → Type 0) → Chosen m answers free
    → ((g : ℕ) (b : Bool) → g < m → answers g b → b ≡ apart (groups_of groups) (N.end_a g) (N.end_b g)) → Free N groups m free
free_chosen N groups m free answers h is = record {
  at = λ j.
      let e = chosen_bits answers (λ g. apart (groups_of groups) (N.end_a g) (N.end_b g)) m free h is j in (
        λ t. let u = subst T e t in (ltb→lt j m (and_left (ltb j m) _ u), and_right (ltb j m) _ u),
        λ (l, t). subst⁻¹ T e (both (ltb j m) _ (lt→ltb j m l) t),
      );
}

-- of an instrument, as the code reads its two joints
pub apart_here : (first second groups : List ℕ) (g d e : ℕ) → g < length first → g < length second
    → apart (groups_of groups) (get_or first g d) (get_or second g e) ≡ apart (groups_of groups) ((net_of first second).end_a g) ((net_of first second).end_b g)
apart_here first second groups g d e l k = rw (get_or_default first g d 255 l, get_or_default second g e 255 k) refl

-- what is carried on from no gauge, with room for all gauges of a set
module _ (N : Net) (m set : ℕ) (none : List ℕ) (held : Forest) (small : m ≤ 64) (c : CarriedOn N m (forest 0 none) set 64 held) where
  open N use {end_a, end_b}

  -- it has gauges of the set alone
  of_set : (j : ℕ) → T (bit held.gauges j) → T (bit set j)
  of_set j t = elim (c.grown.new j t) [ inl before ↦ absurd (subst T (bit_none j) before) | inr t' ↦ t' ]

  row_set : Within m (on c.forest.row) (bit set)
  row_set = within_trans (row_gauges N m held c.forest) (record { at = λ j l. of_set j })

  -- no gauge of the set joins two groups
  none_apart : (g : ℕ) → g < m → T (bit set g) → T (apart (carried N c.forest.row) (end_a g) (end_b g)) → ⊥
  none_apart g l t u = c.all (let few = size_le m (bit set) in omega arith) g l t ((apart_holds held.groups (carried N c.forest.row) c.forest.groups (end_a g) (end_b g)).1 u)

  -- its gauges are as many as the set is worth
  pub carried_worth : size m (bit held.gauges) ≡ worth (graphic N m) (bit set)
  carried_worth =
      size_same m (gauges_row N m held c.forest) (row_gauges N m held c.forest)
      ∙ accepted_worth N m c.forest.row c.forest.accepted (bit set) row_set none_apart

  module _ (free : LoopFree N m (bit set)) where
    -- an independent set is accepted whole
    set_row : Within m (bit set) (on c.forest.row)
    set_row = record {
      at = λ j l t. elim (decide_T (on c.forest.row j)) [
        | inl t' ↦ t'
        | inr out ↦ absurd (none_apart j l t ((accepted_joins N m c.forest.row c.forest.accepted j l out).1 (loop_free_part N m (with_least j row_set t) free)))
      ];
    }

    -- what joins two groups may join it, and nothing else
    joins : (j : ℕ) → j < m → T (not (bit set j)) → T (apart (groups_of held.groups) (end_a j) (end_b j)) ↔ LoopFree N m (with (bit set) j)
    joins j l out =
        let fresh = not_T (on c.forest.row j) (λ t. T_not (bit set j) out (row_set.at j l t)) in
        Iff.trans (apart_holds held.groups (carried N c.forest.row) c.forest.groups (end_a j) (end_b j))
        (Iff.trans (accepted_joins N m c.forest.row c.forest.accepted j l fresh)
        (loop_free_part N m (with_within j set_row), loop_free_part N m (with_within j row_set)))

  pub loops_gains : (free r : ℕ) → Free N held.groups m free → ((j : ℕ) → bit r j ≡ (bit free ∖ bit set) j) → (graphic N m).Indep (bit set) → MayJoin (graphic N m) (bit set) r
  unfolding graphic
  loops_gains free r f is indep = record {
    at = λ j. (
      λ t.
          let u = subst T (is j) t in
          let (l, test) = (f.at j).0 (and_left (bit free j) _ u) in
          let out = and_right (bit free j) _ u in
          (l, (out, (joins indep j l out).0 test)),
      λ (l, (out, more)). subst⁻¹ T (is j) (both (bit free j) _ ((f.at j).1 (l, (joins indep j l out).1 more)) out),
    );
  }

  -- what is carried on from the whole set is the set grown
  pub loops_grown : (from most : ℕ) (larger : Forest) → CarriedOn N m held from most larger → (all whole r : ℕ) → ((j : ℕ) → bit all j ≡ under m j)
      → ((j : ℕ) → bit whole j ≡ (bit set ∩ bit all) j) → held.gauges ≡ whole → ((j : ℕ) → bit r j ≡ (bit set ∪ bit larger.gauges) j) → Grown (graphic N m) set from most r
  unfolding graphic
  loops_grown from most larger d all whole r is_all is_whole same is = record {
    indep = λ _. loop_free_part N m below (carried_free N m larger d.forest);
    old = λ j t. subst⁻¹ T (is j) (follows₂ (λ a b. a) (λ a b. a || b) tt (bit set j) (bit larger.gauges j) t);
    new = λ j t. elim (or_cases (bit set j) (bit larger.gauges j) (subst T (is j) t)) [
      | inl held-already ↦ inl held-already
      | inr t' ↦ elim (d.grown.new j t') [ inl before ↦ inl (of_set j before) | inr joined ↦ inr joined ]
    ];
    few =
        let a = size_within m below in
        let b = d.grown.few in
        let e = size_within m {A = bit held.gauges} {B = bit set} (record { at = λ j l. of_set j }) in
        omega arith;
  }
    where
      below : Within m (bit r) (bit larger.gauges)
      below = record {
        at = λ j l t. elim (or_cases (bit set j) (bit larger.gauges j) (subst T (is j) t)) [
          | inl t' ↦ d.grown.old j (subst⁻¹ (λ (w : ℕ). T (bit w j)) same (subst⁻¹ T (is_whole j) (both (bit set j) _ t' (subst⁻¹ T (is_all j) (lt→ltb j m l)))))
          | inr t' ↦ t'
        ];
      }
