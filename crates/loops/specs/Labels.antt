-- The groups of a set: its instruments with a span taken in, in rising order. They make the loop-free sets a matroid.
use Prim.Native.Nat.{ℕ, zero, suc, ◌+◌, ◌≤◌, ◌<◌}
use Rattle.std.specs.Prelude.{◌≡◌, refl, ◌↔◌, ◌≢◌, eqb}
use Rattle.std.proofs.Common.{sym, ◌∙◌, subst, eqb→eq}
use Rattle.std.proofs.Math.Path.{ap, subst⁻¹}
use mathlib.Core.List.{List, [], ◌∷◌}
use Rattle.std.proofs.Math.Logic.{inl, inr, Equivalence, ite, if_pos, if_neg}
use Rattle.std.proofs.Math.Logic.Dec
use Rattle.std.proofs.Math.Logic.Iff
use native.Mathlib.Omega.{arith}
use Rattle.std.proofs.Math.Decide.{ℕ_discrete}
use Rattle.std.proofs.Math.Dec.{T}
use Rattle.matroid.specs.Taut.{both, and_left}
use Rattle.matroid.specs.Decide.{T?, dec_both, below_suc}
use Rattle.matroid.specs.Set.{Set, size, without}
use Rattle.matroid.specs.SetLaws.{eq→eqb, ne→eqb, with_cases, with_new, with_old, without_ne, size_same, size_without, size_inject}
use Rattle.team.specs.Team.{joints}
use Rattle.loops.specs.Net.{Net, spans, Walk}
use Rattle.loops.specs.Links.{spans_iff, walk_in}
use Rattle.loops.specs.Groups.{Groups, relabel, joined, on, carried, relabel_hit, relabel_miss, same_label, row_together, row_label, row_least, row_lead}

module _ (N : Net) (A : Set) where
  open N use {end_a, end_b}

  -- g is taken in: it is in A and has a span
  abbrev pub Taken : ℕ → Type 0
  Taken g = T (A g) × T (spans N g)

  abbrev pub taken? : (g : ℕ) → Dec (Taken g)
  taken? g = dec_both (T? (A g)) (T? (spans N g))

  -- the row of the instruments below n that are taken in
  unfoldable pub taken : ℕ → List ℕ
  taken zero = []
  taken (suc n) = ite (taken? n) (n ∷ taken n) (taken n)

  -- the groups carried along it
  unfoldable pub labels : ℕ → Groups
  unfolding taken
  labels n = carried N (taken n)

  -- two joints are in one group
  abbrev pub Together : ℕ → ℕ → ℕ → Type 0
  Together n x y = labels n x ≡ labels n y

  -- g has a span, and its joints are in different groups
  abbrev pub Bridges : ℕ → ℕ → Type 0
  Bridges n g = T (spans N g) × (labels n (end_a g) ≢ labels n (end_b g))

  unfoldable pub together? : (n x y : ℕ) → Dec (Together n x y)
  unfolding labels ℕ_discrete
  together? n x y = ℕ_discrete (labels n x) (labels n y)

  unfoldable pub bridges? : (n g : ℕ) → Dec (Bridges n g)
  unfolding spans together? Dec.not
  bridges? n g = dec_both (T? (spans N g)) (Dec.not (together? n (end_a g) (end_b g)))

  -- a span that is no bridge lies in one group
  pub no_bridge : (n g : ℕ) → T (spans N g) → (Bridges n g → ⊥) → Together n (end_a g) (end_b g)
  no_bridge n g s no-b = (Dec.not-not (together? n (end_a g) (end_b g))).0 (λ differ. no-b (s, differ))

  -- an instrument that is taken in makes the next groups
  labels_take : (n : ℕ) → Taken n → labels (suc n) ≡ joined (labels n) (end_a n) (end_b n)
  unfolding labels
  labels_take n t = ap (carried N) (if_pos (taken? n) t _ _)

  -- one that is not leaves the groups
  pub labels_skip : (n : ℕ) → (Taken n → ⊥) → labels (suc n) ≡ labels n
  unfolding labels
  labels_skip n out = ap (carried N) (if_neg (taken? n) out _ _)

  -- the row has what is taken in, and nothing else
  on_taken : (n g : ℕ) → T (on (taken n) g) ↔ ((g < n) × Taken g)
  unfolding taken
  on_taken zero g = (λ t. absurd t, λ (l, _). absurd (omega arith))
  on_taken (suc n) g = elim (taken? n) [
    | yes t ↦
        let e = if_pos (taken? n) t (n ∷ taken n) (taken n) in (
          λ u. elim (with_cases (on (taken n)) n g (subst (λ (row : List ℕ). T (on row g)) e u)) [
            | inl old ↦ let (l, t') = (on_taken n g).0 old in (omega arith, t')
            | inr here ↦ (omega arith, subst⁻¹ Taken here t)
          ],
          λ (l, t'). subst⁻¹ (λ (row : List ℕ). T (on row g)) e (elim (below_suc l) [
            | inl l' ↦ (with_old {m = n} (on (taken n)) n).at g l' ((on_taken n g).1 (l', t'))
            | inr here ↦ rw here (with_new (on (taken n)) n)
          ]),
        )
    | no out ↦
        let e = if_neg (taken? n) out (n ∷ taken n) (taken n) in (
          λ u. let (l, t') = (on_taken n g).0 (subst (λ (row : List ℕ). T (on row g)) e u) in (omega arith, t'),
          λ (l, t'). subst⁻¹ (λ (row : List ℕ). T (on row g)) e (elim (below_suc l) [
            | inl l' ↦ (on_taken n g).1 (l', t')
            | inr here ↦ absurd (out (subst Taken here t'))
          ]),
        )
  ]

  -- the joints of every instrument that has been taken in are together
  pub taken_together : (n g : ℕ) → g < n → Taken g → Together n (end_a g) (end_b g)
  unfolding labels
  taken_together n g l t = row_together N (taken n) g ((on_taken n g).1 (l, t))

  -- let an equivalence relate the joints of every instrument that has been taken in
  module _ (P : ℕ → ℕ → Type 0) (eq : Equivalence P) (n : ℕ) (h : (g : ℕ) → g < n → Taken g → P (end_a g) (end_b g)) where
    along : (g : ℕ) → T (on (taken n) g) → P (end_a g) (end_b g)
    along g t = let (l, t') = (on_taken n g).0 t in h g l t'

    -- it relates every joint to its label
    to_label : (x : ℕ) → P x (labels n x)
    unfolding labels
    to_label = row_label N P eq (taken n) along

    -- it relates the joints of each group
    pub together_least : (x y : ℕ) → Together n x y → P x y
    unfolding labels
    together_least = row_least N P eq (taken n) along

  -- two joints are in one group exactly when instruments of A lead from one to the other
  pub together_walk : (n x y : ℕ) → Together n x y ↔ Walk N n A x y
  unfolding labels
  together_walk n x y =
      let lead = row_lead N n (taken n) (λ g t. let (l, (_, s)) = (on_taken n g).0 t in (l, s)) x y in (
        λ e. walk_in N (λ g s (l, t). (l, ((on_taken n g).0 t).1.0)) (lead.0 e),
        λ w. lead.1 (walk_in N (λ g s (l, t). (l, (on_taken n g).1 (l, (t, s)))) w),
      )

  -- a label is its own label
  labels_idem : (n x : ℕ) → labels n (labels n x) ≡ labels n x
  labels_idem n x = sym (to_label (Together n) (same_label (labels n)) n (taken_together n) x)

  -- a joint's label is a joint
  labels_lt : (n x : ℕ) → x < joints → labels n x < joints
  labels_lt n x = (to_label (λ x y. (x < joints) ↔ (y < joints))
      (record { refl = λ x. Iff.rfl; symm = λ x y. Iff.symm; trans = λ x y z. Iff.trans })
      n (λ g l (a, s). (λ _. ((spans_iff N g).0 s).1, λ _. ((spans_iff N g).0 s).0)) x).0

  -- the joints that are their own labels, one in each group
  abbrev pub roots : ℕ → Set
  roots n j = eqb (labels n j) j

  -- how many groups there are
  abbrev pub groups : ℕ → ℕ
  groups n = size joints (roots n)

  -- an instrument that changes no label leaves as many groups
  pub groups_same : (n : ℕ) → labels (suc n) ≡ labels n → groups (suc n) ≡ groups n
  groups_same n = ap (λ (f : Groups). size joints (λ j. eqb (f j) j))

  -- an instrument of A that bridges two groups leaves every root but that of the second group
  roots_bridge : (n : ℕ) → T (A n) → Bridges n n → (j : ℕ) → T (roots (suc n) j) ↔ T (without (roots n) (labels n (end_b n)) j)
  roots_bridge n a (s, differ) j = (there, back)
    where
      p : ℕ
      p = labels n (end_a n)

      q : ℕ
      q = labels n (end_b n)

      relabelled : labels (suc n) j ≡ relabel p q (labels n j)
      relabelled = ap (λ (f : Groups). f j) (labels_take n (a, s))

      there : T (roots (suc n) j) → T (without (roots n) q j)
      there r =
          let e = sym relabelled ∙ eqb→eq (labels (suc n) j) j r in
          elim (ℕ_discrete (labels n j) q) [
            | yes hit ↦ absurd (differ (sym (labels_idem n (end_a n)) ∙ ap (labels n) (sym (relabel_hit p q (labels n j) hit) ∙ e) ∙ hit))
            | no miss ↦
                let root = sym (relabel_miss p q (labels n j) miss) ∙ e in
                both (roots n j) _ (eq→eqb (labels n j) j root) (ne→eqb j q (λ jq. miss (root ∙ jq)))
          ]

      back : T (without (roots n) q j) → T (roots (suc n) j)
      back r =
          let root = eqb→eq (labels n j) j (and_left (roots n j) _ r) in
          let miss : labels n j ≢ q = λ hit. without_ne (roots n) q j r (sym root ∙ hit) in
          eq→eqb (labels (suc n) j) j (relabelled ∙ relabel_miss p q (labels n j) miss ∙ root)

  -- so it leaves one group fewer
  pub groups_bridge : (n : ℕ) → T (A n) → Bridges n n → groups n ≡ groups (suc n) + 1
  groups_bridge n a (s, differ) =
      let q = labels n (end_b n) in
      let fewer = size_without joints (roots n) q (labels_lt n (end_b n) ((spans_iff N n).0 s).1) (eq→eqb (labels n q) q (labels_idem n (end_b n))) in
      let roots-same = roots_bridge n a (s, differ) in
      let same = size_same joints {A = roots (suc n)} {B = without (roots n) q} (record { at = λ j l. (roots-same j).0 }) (record { at = λ j l. (roots-same j).1 }) in
      omega arith

-- where every group of B lies within a group of A, A has no more groups than B
pub groups_coarser : (N : Net) (A B : Set) (n : ℕ) → ((x y : ℕ) → Together N B n x y → Together N A n x y) → groups N A n ≤ groups N B n
groups_coarser N A B n coarser =
    let f = labels N A n in
    let g = labels N B n in
    size_inject joints joints (roots N A n) (roots N B n) (λ i j. g i ≡ j)
    (λ i l r. (g i, labels_lt N B n i l, (eq→eqb (g (g i)) (g i) (labels_idem N B n i), refl)))
    (λ i i' j l l' r r' e e'. sym (eqb→eq (f i) i r) ∙ coarser i i' (e ∙ sym e') ∙ eqb→eq (f i') i' r')
