-- Forests: what a table of labels tells, and what one more gauge makes of it.
use Prim.Native.Nat.{ℕ, ◌<◌}
use mathlib.Core.Path.{◌≡◌, refl, sym, ap, ◌∙◌, subst, subst⁻¹}
use mathlib.Core.Bool.{Bool, true, ◌||◌}
use mathlib.Core.List.{List, [], ◌∷◌}
use mathlib.Core.Logic.{◌↔◌}
use lib.Dec.{T, eqb}
use Rattle.matroid.specs.Set.{Within, with}
use Rattle.sets.specs.Bits.{bit}
use Rattle.sets.proofs.Below.{bit_none}
use Rattle.team.specs.Team.{joints}
use Rattle.loops.specs.Net.{Net, spans, LoopFree}
use Rattle.loops.specs.Links.{spans_iff}
use Rattle.loops.specs.Groups.{Groups, InOneGroup, alone, joined, apart, apart_iff, on, carried, start, accept, joined_here, joined_still, row_together}
use Rattle.loops.specs.Graphic.{loop_free_part}
use Rattle.loops.specs.Accepting.{accepted_free}
use Rattle.loops.specs.Forests.{groups_of, Forest, forest, Holds, Carried}

-- a table tells which joints are apart as the groups do that it holds
pub apart_holds : (table : List ℕ) (G : Groups) → Holds table G → (a b : ℕ) → T (apart (groups_of table) a b) ↔ T (apart G a b)
apart_holds table G h a b = (
  λ t. let (la, lb, d) = (apart_iff (groups_of table) a b).0 t in (apart_iff G a b).1 (la, lb, λ e. d (h a la ∙ e ∙ sym (h b lb))),
  λ t. let (la, lb, d) = (apart_iff G a b).0 t in (apart_iff (groups_of table) a b).1 (la, lb, λ e. d (sym (h a la) ∙ e ∙ h b lb)),
)

-- joints of one group are not apart
together_apart : (table : List ℕ) (G : Groups) → Holds table G → (a b : ℕ) → InOneGroup G a b → T (apart (groups_of table) a b) → ⊥
together_apart table G h a b e t = let (_, _, d) = (apart_iff G a b).0 ((apart_holds table G h a b).0 t) in d e

-- what is not apart stays so in the next groups
pub apart_still : (table next : List ℕ) (a b : ℕ) → Holds next (joined (groups_of table) a b) → (x y : ℕ) → T (apart (groups_of next) x y) → T (apart (groups_of table) x y)
apart_still table next a b h x y t =
    let (lx, ly, d) = (apart_iff (joined (groups_of table) a b) x y).0 ((apart_holds next (joined (groups_of table) a b) h x y).0 t) in
    (apart_iff (groups_of table) x y).1 (lx, ly, λ e. d (joined_still (groups_of table) a b x y e))

-- and the joints of the gauge are not
pub apart_never : (table next : List ℕ) (a b : ℕ) → Holds next (joined (groups_of table) a b) → T (apart (groups_of next) a b) → ⊥
apart_never table next a b h = together_apart next (joined (groups_of table) a b) h a b (joined_here (groups_of table) a b)

module _ (N : Net) (m : ℕ) where
  open N use {end_a, end_b}

  -- no gauge, and every joint alone
  pub carried_none : (groups : List ℕ) → Holds groups alone → Carried N m (forest 0 groups)
  carried_none groups own = record { row = []; accepted = start; gauges = λ j l. bit_none j; groups = own }

  module _ (forest : Forest) (c : Carried N m forest) where
    -- the gauges are the row's, below m
    pub row_gauges : Within m (on c.row) (bit forest.gauges)
    row_gauges = record { at = λ j l t. subst⁻¹ T (c.gauges j l) t }

    pub gauges_row : Within m (bit forest.gauges) (on c.row)
    gauges_row = record { at = λ j l t. subst T (c.gauges j l) t }

    -- they close no loop
    pub carried_free : LoopFree N m (bit forest.gauges)
    carried_free = loop_free_part N m gauges_row (accepted_free N m c.row c.accepted)

    -- and none of them joins two groups any longer
    pub carried_never : (g : ℕ) → g < m → T (bit forest.gauges g) → T (apart (groups_of forest.groups) (end_a g) (end_b g)) → ⊥
    carried_never g l t = together_apart forest.groups (carried N c.row) c.groups (end_a g) (end_b g) (row_together N c.row g (gauges_row.at g l t))

    -- a gauge that joins two groups is accepted
    pub carried_accept : (g : ℕ) → g < m → T (apart (groups_of forest.groups) (end_a g) (end_b g)) → (next : Forest)
        → ((j : ℕ) → bit next.gauges j ≡ with (bit forest.gauges) g j)
        → Holds next.groups (joined (groups_of forest.groups) (end_a g) (end_b g)) → Carried N m next
    carried_accept g l t next more held =
        let (la, lb, d) = (apart_iff (carried N c.row) (end_a g) (end_b g)).0 ((apart_holds forest.groups (carried N c.row) c.groups (end_a g) (end_b g)).0 t) in
        let s : T (spans N g) = (spans_iff N g).1 (la, lb, λ e. d (ap (carried N c.row) e)) in
        record {
          row = g ∷ c.row;
          accepted = accept g c.accepted l s d;
          gauges = λ j lj. more j ∙ ap (λ (b : Bool). b || eqb j g) (c.gauges j lj);
          groups = λ j lj. held j lj ∙ rw (c.groups (end_a g) la, c.groups (end_b g) lb, c.groups j lj) refl;
        }

-- what is apart are joints
pub apart_below : (G : Groups) (a b : ℕ) (t : Bool) → t ≡ apart G a b → t ≡ true → (a < joints) × (b < joints)
apart_below G a b t e f = let (la, lb, _) = (apart_iff G a b).0 (subst T (sym (sym e ∙ f)) tt) in (la, lb)
