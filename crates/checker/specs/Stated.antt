-- What acceptance comes to: the facts about a sheet's fields, by the reading of a plan. Check accepts a sheet exactly where they hold.
use Rattle.std.specs.Prelude.{ℕ, ◌+◌, ◌*◌, ◌≤◌, ◌<◌, ◌≡◌, List, T, length}
use Rattle.matroid.specs.Set.{complement, size}
use Rattle.matroid.specs.Sum.{sum}
use Rattle.matroid.specs.Matroid.{worth}
use Rattle.matroid.specs.Division.{bundle, held}
use Rattle.sets.specs.Bits.{bit}
use Rattle.plan.specs.declared.Reading.{Reading}
use Rattle.plan.specs.Teams.{team_matroid, present, present_count}
use Rattle.sheet.specs.Layout.{length_of}
use Rattle.sheet.specs.Fields.{total_at, holder_at, bound_at, share_at, set_at, part_at}
use Rattle.sheet.specs.Formed.{Formed}

pub record Stated (r : Reading) (sheet : List ℕ) : Type 0 where
  pub read : r.refusal ≡ 0
  -- 11 and 12
  pub long : length sheet ≡ length_of r.m r.n
  pub formed : Formed r.m r.n (present r) sheet
  -- 13: every bundle is independent
  pub independent : (t : ℕ) → t < r.n → (team_matroid r t).Indep (bundle (holder_at sheet) t)
  -- 14: the total is what is given, and the bound
  pub given : total_at sheet ≡ size r.m (held r.n (holder_at sheet))
  pub bound : total_at sheet ≡ size r.m (complement (bit (bound_at r.m sheet))) + sum r.n (λ t. worth (team_matroid r t) (bit (bound_at r.m sheet)))
  -- 15, of a team present: every part is worth the share, and the set allows no larger share
  pub reached : (t : ℕ) → t < r.n → T (present r t) → (k : ℕ) → k < present_count r → share_at r.m sheet t ≤ worth (team_matroid r t) (bundle (part_at r.m sheet t) k)
  pub limited : (t : ℕ) → t < r.n → T (present r t)
      → size r.m (complement (bit (set_at r.m sheet t))) + present_count r * worth (team_matroid r t) (bit (set_at r.m sheet t)) < present_count r * (share_at r.m sheet t + 1)
  -- 16: every team holds its share
  pub enough : (t : ℕ) → t < r.n → share_at r.m sheet t ≤ size r.m (bundle (holder_at sheet) t)
