-- Demand 1: "Whatever bytes a plan, a sheet or a lent buffer holds, every call ends. If a rule is broken, and only then, the call refuses, by
-- the first rule in the papers' order, and then the buffer is untouched."
-- That every call ends is part of what is proved of each function. A number of 0 is no refusal.
use Rattle.std.specs.Prelude.{ℕ, ◌+◌, ◌*◌, ◌≤◌, ◌<◌, ◌≡◌, ◌≢◌, ◌⊎◌, List, T, length}
use Rattle.matroid.specs.Set.{complement, size}
use Rattle.matroid.specs.Sum.{sum}
use Rattle.matroid.specs.Matroid.{worth}
use Rattle.matroid.specs.Division.{bundle, held}
use Rattle.sets.specs.Bits.{bit}
use Rattle.plan.specs.declared.Reading.{Reading}
use Rattle.plan.specs.Read.{read_plan}
use Rattle.plan.specs.Teams.{team_matroid, present, present_count}
use Rattle.sheet.specs.Layout.{length_of}
use Rattle.sheet.specs.Fields.{total_at, holder_at, bound_at, share_at, set_at, part_at}
use Rattle.sheet.specs.Form.{form, first_fault}
use Rattle.sheet.specs.Formed.{Formed}

-- L, for a plan
abbrev pub L : Reading → ℕ
L r = length_of r.m r.n

-- ---- Build, and every call that is lent a buffer for L bytes

-- by the reading of a plan: before and after are the buffer's bytes, and long is the length answered
pub record BuildsBy (r : Reading) (before after : List ℕ) (number place long : ℕ) : Type 0 where
  -- "Read's refusals come first."
  pub read : r.refusal ≢ 0 → (number ≡ r.refusal) × (place ≡ r.place)
  -- "Then a lent buffer shorter than L is 10, place L."
  pub short : r.refusal ≡ 0 → length before < L r → (number ≡ 10) × (place ≡ L r)
  -- and only then
  pub wrote : r.refusal ≡ 0 → L r ≤ length before → (number ≡ 0) × (place ≡ 0) × (long ≡ L r)
  -- "and then the buffer is untouched"
  pub untouched : number ≢ 0 → (after ≡ before) × (long ≡ 0)

abbrev pub Builds : (plan before after : List ℕ) → (number place long : ℕ) → Type 0
Builds plan before after number place long = BuildsBy (read_plan plan) before after number place long

-- ---- Check: what its rules ask of a sheet, by the reading of a plan

-- t is the lowest team of n of which P does not hold
pub record Lowest (n : ℕ) (P : ℕ → Type 0) (t : ℕ) : Type 0 where
  pub below : t < n
  pub fails : P t → ⊥
  pub before : (u : ℕ) → u < t → P u

-- P holds of every team
abbrev pub Every : ℕ → (ℕ → Type 0) → Type 0
Every n P = (t : ℕ) → t < n → P t

-- 13: a bundle is independent
abbrev pub Independent : Reading → List ℕ → ℕ → Type 0
Independent r sheet t = (team_matroid r t).Indep (bundle (holder_at sheet) t)

-- 14: "the total is ... the number of given instruments", and "(instruments outside T) + (sum over teams of v(T))"
abbrev pub TotalHolds : Reading → List ℕ → Type 0
TotalHolds r sheet =
    (total_at sheet ≡ size r.m (held r.n (holder_at sheet)))
    × (total_at sheet ≡ size r.m (complement (bit (bound_at r.m sheet))) + sum r.n (λ t. worth (team_matroid r t) (bit (bound_at r.m sheet))))

-- 15, with "p in place of n", of a team present: none "of the" p "parts, an empty one included, is worth less than s", and "(instruments
-- outside T) +" p "× v(T)" is "below" p "× (s + 1)"
abbrev pub ShareHolds : Reading → List ℕ → ℕ → Type 0
ShareHolds r sheet t =
    T (present r t)
    → ((k : ℕ) → k < present_count r → share_at r.m sheet t ≤ worth (team_matroid r t) (bundle (part_at r.m sheet t) k))
    × (size r.m (complement (bit (set_at r.m sheet t))) + present_count r * worth (team_matroid r t) (bit (set_at r.m sheet t)) < present_count r * (share_at r.m sheet t + 1))

-- 16: a team does not hold "fewer instruments than its share"
abbrev pub Enough : Reading → List ℕ → ℕ → Type 0
Enough r sheet t = share_at r.m sheet t ≤ size r.m (bundle (holder_at sheet) t)

-- "These come in rising order of number over the whole sheet": each rule decides where it is broken and those before it are kept.
pub record ChecksBy (r : Reading) (sheet : List ℕ) (number place : ℕ) : Type 0 where
  -- "Read's refusals come first."
  pub read : r.refusal ≢ 0 → (number ≡ r.refusal) × (place ≡ r.place)
  -- "A sheet not of L bytes is 11, place 0."
  pub rule_11 : r.refusal ≡ 0 → length sheet ≢ L r → (number ≡ 11) × (place ≡ 0)
  -- "The first byte that differs from what form, order or range allows is 12, place its offset"
  pub rule_12 : r.refusal ≡ 0 → length sheet ≡ L r → first_fault (form r.m r.n (present r)) sheet 0 < L r → (number ≡ 12) × (place ≡ first_fault (form r.m r.n (present r)) sheet 0)
  -- "A bundle not independent is 13, place the lowest such team."
  pub rule_13 : r.refusal ≡ 0 → length sheet ≡ L r → Formed r.m r.n (present r) sheet → (t : ℕ) → Lowest r.n (Independent r sheet) t → (number ≡ 13) × (place ≡ t)
  -- "14, place 0"
  pub rule_14 : r.refusal ≡ 0 → length sheet ≡ L r → Formed r.m r.n (present r) sheet → Every r.n (Independent r sheet) → (TotalHolds r sheet → ⊥) → (number ≡ 14) × (place ≡ 0)
  -- "15, place the lowest such team"
  pub rule_15 : r.refusal ≡ 0 → length sheet ≡ L r → Formed r.m r.n (present r) sheet → Every r.n (Independent r sheet) → TotalHolds r sheet
      → (t : ℕ) → Lowest r.n (ShareHolds r sheet) t → (number ≡ 15) × (place ≡ t)
  -- "16, place the lowest"
  pub rule_16 : r.refusal ≡ 0 → length sheet ≡ L r → Formed r.m r.n (present r) sheet → Every r.n (Independent r sheet) → TotalHolds r sheet → Every r.n (ShareHolds r sheet)
      → (t : ℕ) → Lowest r.n (Enough r sheet) t → (number ≡ 16) × (place ≡ t)
  -- "Acceptance answers 0"
  pub accepted : r.refusal ≡ 0 → length sheet ≡ L r → Formed r.m r.n (present r) sheet → Every r.n (Independent r sheet) → TotalHolds r sheet → Every r.n (ShareHolds r sheet)
      → Every r.n (Enough r sheet) → (number ≡ 0) × (place ≡ 0)

abbrev pub Checks : (plan sheet : List ℕ) → (number place : ℕ) → Type 0
Checks plan sheet number place = ChecksBy (read_plan plan) sheet number place

-- ---- Read

-- The answer is the plan's reading. A refusal's number is at most 9, or 17 or 18, and its place at most 5,208; an accepted plan has at most 5,208 bytes,
-- "m (0 to 64)" instruments, and "their count n is 1 to 12".
pub record Reads (plan : List ℕ) (r : Reading) : Type 0 where
  pub is : r ≡ read_plan plan
  pub number : (r.refusal ≤ 9) ⊎ (r.refusal ≡ 17) ⊎ (r.refusal ≡ 18)
  pub place : r.place ≤ 5208
  pub short : r.refusal ≡ 0 → length plan ≤ 5208
  pub instruments : r.refusal ≡ 0 → r.m ≤ 64
  pub teams : r.refusal ≡ 0 → (1 ≤ r.n) × (r.n ≤ 12)
