-- Demand 3: "For every plan read without refusal and every buffer long enough, the builder writes a sheet that the checker accepts. For ANY
-- bytes that the checker accepts: the stated total is the division's, no division has a larger one, each stated share is that team's share, and
-- however a team cuts all instruments into as many parts as there are teams (note 2: present teams), some part is worth no more to it than what it holds."
use Rattle.std.specs.Prelude.{ℕ, ◌≤◌, ◌<◌, ◌≡◌, ◌≢◌, List, T, length, take, get_or}
use Rattle.matroid.specs.Matroid.{worth}
use Rattle.matroid.specs.Division.{bundle, total}
use Rattle.matroid.specs.Cuts.{Cuts}
use Rattle.matroid.specs.Share.{share}
use Rattle.matroid.specs.Best.{best}
use Rattle.plan.specs.declared.Reading.{Reading}
use Rattle.plan.specs.Read.{read_plan}
use Rattle.plan.specs.Teams.{team_matroid, present, present_count}
use Rattle.sheet.specs.Fields.{total_at, holder_at, share_at}
use Rattle.checker.specs.Stated.{Stated}
use Rattle.demands.specs.One.{L}

-- what an accepted sheet means, by the reading of a plan
pub record GoodBy (r : Reading) (sheet : List ℕ) : Type 0 where
  -- "the stated total is the division's"
  pub total_true : total_at sheet ≡ total r.n (team_matroid r) (holder_at sheet)
  -- "no division has a larger one": a division gives each instrument to one team or leaves it in the pool
  pub total_best : (D : ℕ → ℕ) → total r.n (team_matroid r) D ≤ total_at sheet
  -- so that it is the best total
  pub total_greatest : total_at sheet ≡ best r.n (team_matroid r)
  -- "each stated share is that team's share", among those present and for a team present
  pub shares_true : (t : ℕ) → t < r.n → T (present r t) → share_at r.m sheet t ≡ share (team_matroid r t) (present_count r)
  -- "however a team cuts all instruments into as many parts as there are ... present teams, some part is worth no more to it than what it holds"
  pub cut_matched : (t : ℕ) → t < r.n → T (present r t) → (C : ℕ → ℕ) → Cuts r.m (present_count r) C
      → (k : ℕ) × (k < present_count r) × (worth (team_matroid r t) (bundle C k) ≤ worth (team_matroid r t) (bundle (holder_at sheet) t))

abbrev pub Good : (plan sheet : List ℕ) → Type 0
Good plan sheet = GoodBy (read_plan plan) sheet

-- what Build leaves in a buffer that is long enough
pub record WritesBy (r : Reading) (before after : List ℕ) : Type 0 where
  pub same : length after ≡ length before
  -- "writes a sheet that the checker accepts": the rules hold of the first L bytes
  pub stated : Stated r (take (L r) after)
  -- and it is good
  pub good : GoodBy r (take (L r) after)
  -- "the rest stays"
  pub rest : (k : ℕ) → L r ≤ k → get_or after k 0 ≡ get_or before k 0

abbrev pub Writes : (plan before after : List ℕ) → Type 0
Writes plan before after = (read_plan plan).refusal ≡ 0 → L (read_plan plan) ≤ length before → WritesBy (read_plan plan) before after

-- Build and then Check of the first L bytes "as Build left them", both given the same plan: Check accepts, or Build refused
pub record Agrees (plan before : List ℕ) (number : ℕ) : Type 0 where
  pub accepted : (read_plan plan).refusal ≡ 0 → L (read_plan plan) ≤ length before → number ≡ 0
  pub refused : (read_plan plan).refusal ≢ 0 → number ≡ (read_plan plan).refusal
  pub short : (read_plan plan).refusal ≡ 0 → length before < L (read_plan plan) → number ≡ 10
