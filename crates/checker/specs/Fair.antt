-- What an accepted sheet states is true (demand 3; document 02, note 2). "A sheet's division gives each instrument to the team its GIVE names, or leaves it in the
-- pool at FF"; "the total stated is HEAD's, a team's share stated is its SHARE's".
use Rattle.std.specs.Prelude.{ℕ, ◌≤◌, ◌<◌, ◌≡◌, List, T}
use Rattle.matroid.specs.Matroid.{worth}
use Rattle.matroid.specs.Division.{bundle, total}
use Rattle.matroid.specs.Cuts.{Cuts}
use Rattle.matroid.specs.Share.{share}
use Rattle.plan.specs.declared.Reading.{Reading}
use Rattle.plan.specs.Read.{read_plan}
use Rattle.plan.specs.Teams.{team_matroid, present, present_count}
use Rattle.sheet.specs.Fields.{total_at, holder_at, share_at}

-- by the reading of a plan
pub record FairBy (r : Reading) (sheet : List ℕ) : Type 0 where
  -- the total stated is the total of the sheet's division
  pub total_true : total_at sheet ≡ total r.n (team_matroid r) (holder_at sheet)
  -- no division has a larger total
  pub total_best : (D : ℕ → ℕ) → total r.n (team_matroid r) D ≤ total_at sheet
  -- the share stated for each team present is its share among those present
  pub shares_true : (t : ℕ) → t < r.n → T (present r t) → share_at r.m sheet t ≡ share (team_matroid r t) (present_count r)
  -- to each team present, of any cut of all instruments into p parts, some part is worth no more than what it holds
  pub cut_matched : (t : ℕ) → t < r.n → T (present r t) → (C : ℕ → ℕ) → Cuts r.m (present_count r) C
      → (k : ℕ) × (k < present_count r) × (worth (team_matroid r t) (bundle C k) ≤ worth (team_matroid r t) (bundle (holder_at sheet) t))

abbrev pub Fair : (plan sheet : List ℕ) → Type 0
Fair plan sheet = FairBy (read_plan plan) sheet
