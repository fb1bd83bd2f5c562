-- The words of the contracts: groups as tables of labels, and forests, the accepted gauges with their groups.
use Rattle.std.specs.Prelude.{ℕ, ◌≤◌, ◌<◌, ◌≡◌, List, ◌↔◌, T, get_or}
use Rattle.std.proofs.Common.{sym, ◌∙◌, subst}
use Rattle.std.proofs.Math.Path.{subst⁻¹}
use Rattle.matroid.specs.Set.{size}
use Rattle.sets.specs.Bits.{bit}
use Rattle.sets.specs.Joining.{Grown}
use Rattle.team.specs.Team.{joints}
use Rattle.loops.specs.Net.{Net, Walk}
use Rattle.loops.specs.Links.{walk_in}
use Rattle.loops.specs.Groups.{Groups, InOneGroup, apart, on, carried, Accepted, groups_lead}
use Rattle.loops.specs.Graphic.{graphic}

-- the groups of a table: entry j is the label of joint j
abbrev pub groups_of : List ℕ → Groups
groups_of table j = get_or table j 0

-- the table has these labels
abbrev pub Holds : List ℕ → Groups → Type 0
Holds table G = (j : ℕ) → j < joints → groups_of table j ≡ G j

-- accepted gauges, as a word, and the table of the groups of the joints that they connect
pub record Forest : Type 0 where
  pub gauges : ℕ
  pub groups : List ℕ

abbrev pub forest : ℕ → List ℕ → Forest
forest gauges groups = record { gauges = gauges; groups = groups }

-- the forest has the gauges of a row of accepted ones, and the groups carried along that row
pub record Carried (N : Net) (m : ℕ) (forest : Forest) : Type 0 where
  pub row : List ℕ
  pub accepted : Accepted N m row
  pub gauges : (j : ℕ) → j < m → bit forest.gauges j ≡ on row j
  pub groups : Holds forest.groups (carried N row)

-- In every forest that is carried, two joints are in one group exactly when its gauges lead from one to the other.
pub forest_leads : (N : Net) (m : ℕ) (forest : Forest) → Carried N m forest → (x y : ℕ) → x < joints → y < joints
    → InOneGroup (groups_of forest.groups) x y ↔ Walk N m (bit forest.gauges) x y
forest_leads N m forest c x y lx ly =
    let lead = groups_lead N m c.row c.accepted x y in (
      λ e. walk_in N (λ g s (l, t). (l, subst⁻¹ T (c.gauges g l) t)) (lead.0 (sym (c.groups x lx) ∙ e ∙ c.groups y ly)),
      λ w. c.groups x lx ∙ lead.1 (walk_in N (λ g s (l, t). (l, subst T (c.gauges g l) t)) w) ∙ sym (c.groups y ly),
    )

-- the forest r is another with gauges of a set, at most so many more; with room for all, no gauge of the set joins two groups any longer
pub record CarriedOn (N : Net) (m : ℕ) (last : Forest) (from most : ℕ) (r : Forest) : Type 0 where
  pub grown : Grown (graphic N m) last.gauges from most r.gauges
  pub forest : Carried N m r
  pub all : size m (bit from) ≤ most → (g : ℕ) → g < m → T (bit from g) → T (apart (groups_of r.groups) (N.end_a g) (N.end_b g)) → ⊥
