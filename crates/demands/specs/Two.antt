-- Demand 2: "Worth is matroid rank, shares are maximin shares (arXiv 2012.12710). The checker accepts a sheet if it meets the rules, and only then."
use Rattle.std.specs.Prelude.{ℕ, ◌≤◌, ◌<◌, ◌≡◌, ◌↔◌, List, T}
use Rattle.matroid.specs.Set.{Set, Within, size}
use Rattle.matroid.specs.Matroid.{Matroid, worth}
use Rattle.matroid.specs.Division.{bundle}
use Rattle.matroid.specs.Cuts.{Cuts}
use Rattle.sets.specs.Bits.{bit}
use Rattle.plan.specs.declared.Reading.{Reading}
use Rattle.plan.specs.Read.{read_plan}
use Rattle.plan.specs.Teams.{team_matroid, present, present_count}
use Rattle.sheet.specs.Fields.{share_at}
use Rattle.checker.specs.Stated.{Stated}

-- w is the rank of S: "the size of the largest independent part of S"
pub record Rank {m : ℕ} (M : Matroid m) (S : Set) (w : ℕ) : Type 0 where
  -- an independent part of S has this size
  pub part : Set
  pub within : Within m part S
  pub indep : M.Indep part
  pub full : size m part ≡ w
  -- and none has a larger one
  pub most : (A : Set) → Within m A S → M.Indep A → size m A ≤ w

-- s is the maximin share among n: "the largest s such that all m instruments can be cut into n parts, empty parts allowed, each worth at least s"
pub record Maximin {m : ℕ} (M : Matroid m) (n s : ℕ) : Type 0 where
  -- a cut gives s
  pub cut : ℕ → ℕ
  pub cuts : Cuts m n cut
  pub reached : (p : ℕ) → p < n → s ≤ worth M (bundle cut p)
  -- and none gives more
  pub most : (C : ℕ → ℕ) (k : ℕ) → Cuts m n C → ((p : ℕ) → p < n → k ≤ worth M (bundle C p)) → k ≤ s

-- Worth, "Given plan, team and set": Read's number and place, and the rank of the set to the team
pub record Values (plan : List ℕ) (team set : ℕ) (number place value : ℕ) : Type 0 where
  pub refusal : (number ≡ (read_plan plan).refusal) × (place ≡ (read_plan plan).place)
  pub rank : Rank (team_matroid (read_plan plan) team) (bit set) value
  -- "to a team not in the plan every set is worth 0"
  pub absent : (read_plan plan).n ≤ team → value ≡ 0

-- the share that an accepted sheet states of each team present is its maximin share among those present (document 02, note 2)
abbrev pub SharesBy : Reading → List ℕ → Type 0
SharesBy r sheet = (t : ℕ) → t < r.n → T (present r t) → Maximin (team_matroid r t) (present_count r) (share_at r.m sheet t)

-- Check: a sheet is accepted if the rules 11 to 16 hold of it, and only then
pub record Accepts (plan sheet : List ℕ) (number : ℕ) : Type 0 where
  pub exactly : (number ≡ 0) ↔ Stated (read_plan plan) sheet
  pub shares : number ≡ 0 → SharesBy (read_plan plan) sheet
