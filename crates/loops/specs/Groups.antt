-- Groups of joints. Document 02, note 3: "carry the groups of connected joints forward as each instrument is accepted. The next groups come from
-- the last ones and the new gauge's joints alone. Show that two joints are then in one group exactly when accepted gauges lead from one to the
-- other". The theorem is `groups_lead`.
use Rattle.std.specs.Prelude.{ℕ, suc, ◌<◌, ◌≡◌, refl, Bool, ◌&&◌, not, List, [], ◌∷◌, ◌↔◌, ◌≢◌, T, eqb, ltb}
use Rattle.std.proofs.Common.{sym, ap, ◌∙◌, subst, inl, inr, arith, ltb→lt, lt→ltb}
use Rattle.std.proofs.Math.Logic.{Equivalence}
use Rattle.std.proofs.Math.Decide.{ℕ_discrete}
use Rattle.matroid.specs.Taut.{and_three}
use Rattle.matroid.specs.Set.{Set, none, with}
use Rattle.matroid.specs.SetLaws.{ne→eqb, eqb→ne, with_cases, with_new, with_old}
use Rattle.matroid.specs.Division.{move}
use Rattle.matroid.specs.DivisionLaws.{move_here, move_away}
use Rattle.team.specs.Team.{joints}
use Rattle.loops.specs.Net.{Net, spans, Walk, stay, step, forth}
use Rattle.loops.specs.Links.{walk_equivalence, joins_relate}

-- ---- groups and the next groups

-- a label for each joint
abbrev pub Groups : Type 0
Groups = ℕ → ℕ

-- two joints are in one group where their labels are equal
abbrev pub InOneGroup : Groups → ℕ → ℕ → Type 0
InOneGroup G x y = G x ≡ G y

-- every joint alone
abbrev pub alone : Groups
alone j = j

-- the label q becomes p
abbrev pub relabel : ℕ → ℕ → ℕ → ℕ
relabel p q = move (λ v. v) q p

-- the next groups, from the last ones and the two joints of a gauge: the group of the second joint takes the label of the first
abbrev pub joined : Groups → ℕ → ℕ → Groups
joined G a b =
    let p = G a in
    let q = G b in
    λ j. relabel p q (G j)

-- both are joints, and in different groups
unfoldable pub apart : Groups → ℕ → ℕ → Bool
unfolding joints
apart G a b = ltb a joints && (ltb b joints && not (eqb (G a) (G b)))

-- ---- rows of gauges, the last one in front

-- the gauges of a row
abbrev pub on : List ℕ → Set
on [] = none
on (g ∷ row) = with (on row) g

module _ (N : Net) where
  open N use {end_a, end_b}

  -- the groups carried along a row: every joint alone at first, and then from gauge to gauge the next groups
  abbrev pub carried : List ℕ → Groups
  carried [] = alone
  carried (g ∷ row) = joined (carried row) (end_a g) (end_b g)

  -- a row of accepted gauges: each is one of the m instruments, has a span, and had its joints in different groups when it was reached
  pub data Accepted (m : ℕ) : List ℕ → Type 0 where
    start : Accepted m []
    accept : {row : List ℕ} (g : ℕ) → Accepted m row → g < m → T (spans N g) → (InOneGroup (carried row) (end_a g) (end_b g) → ⊥) → Accepted m (g ∷ row)

-- ---- what a label becomes

pub relabel_hit : (p q v : ℕ) → v ≡ q → relabel p q v ≡ p
relabel_hit p q v = move_here (λ v. v) q p v

pub relabel_miss : (p q v : ℕ) → v ≢ q → relabel p q v ≡ v
relabel_miss p q v = move_away (λ v. v) q p v

-- where q is p already, no label changes
relabel_same : (p q v : ℕ) → p ≡ q → relabel p q v ≡ v
relabel_same p q v e = elim (ℕ_discrete v q) [ yes hit ↦ relabel_hit p q v hit ∙ e ∙ sym hit | no miss ↦ relabel_miss p q v miss ]

-- the label p never does
relabel_stay : (p q : ℕ) → relabel p q p ≡ p
relabel_stay p q = elim (ℕ_discrete p q) [ yes e ↦ relabel_same p q p e | no miss ↦ relabel_miss p q p miss ]

-- the joints of a gauge come into one group
pub joined_here : (G : Groups) (a b : ℕ) → InOneGroup (joined G a b) a b
joined_here G a b = relabel_stay (G a) (G b) ∙ sym (relabel_hit (G a) (G b) (G b) refl)

-- and what was in one group stays in one
pub joined_still : (G : Groups) (a b x y : ℕ) → InOneGroup G x y → InOneGroup (joined G a b) x y
joined_still G a b x y = ap (relabel (G a) (G b))

-- what `apart` tests
pub apart_iff : (G : Groups) (a b : ℕ) → T (apart G a b) ↔ ((a < joints) × (b < joints) × (G a ≢ G b))
unfolding apart
apart_iff G a b =
    let tests = and_three (ltb a joints) (ltb b joints) (not (eqb (G a) (G b))) in (
      λ t. let (la, lb, d) = tests.0 t in (ltb→lt a joints la, ltb→lt b joints lb, eqb→ne (G a) (G b) d),
      λ (la, lb, d). tests.1 (lt→ltb a joints la, lt→ltb b joints lb, ne→eqb (G a) (G b) d),
    )

-- to be in one group is an equivalence
pub same_label : (G : Groups) → Equivalence (InOneGroup G)
same_label G = record { refl = λ x. refl; symm = λ x y e. sym e; trans = λ x y z e d. e ∙ d }

-- ---- the groups of a row

module _ (N : Net) where
  open N use {end_a, end_b}

  -- the joints of every gauge of a row are in one group
  pub row_together : (row : List ℕ) (g : ℕ) → T (on row g) → InOneGroup (carried N row) (end_a g) (end_b g)
  row_together [] g t = absurd t
  row_together (k ∷ row) g t = elim (with_cases (on row) k g t) [
    | inl old ↦ joined_still (carried N row) (end_a k) (end_b k) (end_a g) (end_b g) (row_together row g old)
    | inr e ↦ rw e (joined_here (carried N row) (end_a k) (end_b k))
  ]

  -- let an equivalence relate the joints of every gauge of a row
  module _ (P : ℕ → ℕ → Type 0) (eq : Equivalence P) where
    -- it relates every joint to its label
    pub row_label : (row : List ℕ) → ((g : ℕ) → T (on row g) → P (end_a g) (end_b g)) → (x : ℕ) → P x (carried N row x)
    row_label [] h x = eq.refl x
    row_label (g ∷ row) h x =
        let a = end_a g in
        let b = end_b g in
        let p = carried N row a in
        let q = carried N row b in
        let v = carried N row x in
        let below = row_label row (λ k t. h k ((with_old {m = suc k} (on row) g).at k (omega arith) t)) in
        elim (ℕ_discrete v q) [
          | no miss ↦ subst (P x) (sym (relabel_miss p q v miss)) (below x)
          | yes hit ↦
              let bp = eq.trans b a p (eq.symm a b (h g (with_new (on row) g))) (below a) in
              let qp = eq.trans q b p (eq.symm b q (below b)) bp in
              let xp = eq.trans x q p (subst (P x) hit (below x)) qp in
              subst (P x) (sym (relabel_hit p q v hit)) xp
        ]

    -- it relates the joints of each group: the groups are the smallest that have those joints together
    pub row_least : (row : List ℕ) → ((g : ℕ) → T (on row g) → P (end_a g) (end_b g)) → (x y : ℕ) → InOneGroup (carried N row) x y → P x y
    row_least row h x y e =
        let to = row_label row h in
        eq.trans x (carried N row x) y (to x) (subst (λ v. P v y) (sym e) (eq.symm y (carried N row y) (to y)))

  -- two joints are in one group exactly when gauges of the row, all of the m instruments and with a span, lead from one to the other
  pub row_lead : (m : ℕ) (row : List ℕ) → ((g : ℕ) → T (on row g) → (g < m) × T (spans N g)) → (x y : ℕ) → InOneGroup (carried N row) x y ↔ Walk N m (on row) x y
  row_lead m row spanned x y = (
    row_least (Walk N m (on row)) (walk_equivalence N m (on row)) row
        (λ g t. let (l, s) = spanned g t in step g (record { below = l; member = t; joins = forth s }) stay) x y,
    along,
  )
    where
      along : {x y : ℕ} → Walk N m (on row) x y → InOneGroup (carried N row) x y
      along stay = refl
      along (step g l w) = joins_relate N (InOneGroup (carried N row)) (same_label (carried N row)) (row_together row g l.member) l.joins ∙ along w

  -- accepted gauges are instruments with a span
  accepted_spans : (m : ℕ) {row : List ℕ} → Accepted N m row → (g : ℕ) → T (on row g) → (g < m) × T (spans N g)
  accepted_spans m start g t = absurd t
  accepted_spans m (accept {row} k before l s new) g t = elim (with_cases (on row) k g t) [ inl old ↦ accepted_spans m before g old | inr e ↦ rw e (l, s) ]

  -- After any row of accepted gauges two joints are in one group exactly when accepted gauges lead from one to the other.
  pub groups_lead : (m : ℕ) (row : List ℕ) → Accepted N m row → (x y : ℕ) → InOneGroup (carried N row) x y ↔ Walk N m (on row) x y
  groups_lead m row accepted = row_lead m row (accepted_spans m accepted)
