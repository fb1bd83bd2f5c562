-- Every refusal of Read has a number of at most 9, or 17 or 18.
use Prim.Native.Nat.{ℕ, ◌≤◌}
use mathlib.Core.Path.{◌≡◌, refl}
use mathlib.Core.Bool.{Bool, true, false, cond}
use mathlib.Core.Logic.{◌⊎◌, inl, inr, ⊎_elim}
use mathlib.Core.List.{List, [], ◌∷◌}
use native.Mathlib.Omega.{arith}
use Rattle.matroid.specs.Search.{All}
use Rattle.command.specs.declared.Command.{Command}
use Rattle.command.specs.declared.Command.TheVariants.{Missing, Unknown, Short, Start, Caps, Loops, Mounts, Class, Put, Span, Fit, Shelf, Days, Glue, End}
use Rattle.command.specs.declared.State.{State}
use Rattle.team.specs.declared.Team.{Team}
use Rattle.command.specs.Command.{command_at}
use Rattle.judge.specs.Fault.{rules_of, fault}
use Rattle.command.specs.Rule.{Rule, first_broken}
use Rattle.plan.specs.Read.{read_plan}
use Rattle.plan.proofs.Steps.{worked_on, finished_by}
use Rattle.plan.proofs.Bounds.{all_readings}

-- such a number
abbrev Planned : ℕ → Type 0
Planned k = (k ≤ 9) ⊎ (k ≡ 17) ⊎ (k ≡ 18)

-- the rules of every command have such numbers
Small : Rule ℕ → Type 0
Small r = Planned r.answer

rules_small : (at : ℕ) (s : State) (team : Team) (command : Command) → All Small (rules_of at s team command)
unfolding Small
rules_small at s team Missing = (inl (omega arith), tt)
rules_small at s team Unknown = (inl (omega arith), tt)
rules_small at s team Short = (inl (omega arith), tt)
rules_small at s team (Start version m) = (inl (omega arith), (inl (omega arith), (inl (omega arith), tt)))
rules_small at s team (Caps channels) = (inl (omega arith), tt)
rules_small at s team (Loops channels) = (inl (omega arith), tt)
rules_small at s team (Mounts channels) = (inl (omega arith), tt)
rules_small at s team (Class class cap) = (inl (omega arith), (inl (omega arith), (inl (omega arith), tt)))
rules_small at s team (Put instrument class) = (inl (omega arith), (inl (omega arith), (inl (omega arith), (inl (omega arith), tt))))
rules_small at s team (Span instrument a b) = (inl (omega arith), (inl (omega arith), (inl (omega arith), (inl (omega arith), (inl (omega arith), (inl (omega arith), tt))))))
rules_small at s team (Fit instrument a b c d) = (inl (omega arith), (inl (omega arith), (inl (omega arith), tt)))
rules_small at s team (Shelf instrument a b c d) = (inl (omega arith), (inl (omega arith), (inr (inl refl), (inl (omega arith), tt))))
rules_small at s team (Days a b c d) = (inl (omega arith), (inr (inl refl), (inl (omega arith), tt)))
rules_small at s team (Glue instrument) = (inl (omega arith), (inl (omega arith), (inl (omega arith), tt)))
rules_small at s team End = (inl (omega arith), tt)

-- and so has the first that is broken
broken_small : (rs : List (Rule ℕ)) → All Small rs → Planned (first_broken 0 rs)
unfolding Small
broken_small [] a = inl (omega arith)
broken_small (r ∷ rs) (l, a) = go r.broken (broken_small rs a)
  where
    go : (b : Bool) → Planned (first_broken 0 rs) → Planned (cond b r.answer (first_broken 0 rs))
    go true rest = l
    go false rest = rest

fault_small : (at : ℕ) (s : State) (team : Team) (command : Command) → Planned (fault at s team command)
unfolding fault
fault_small at s team command = broken_small (rules_of at s team command) (rules_small at s team command)

pub read_number : (file : List ℕ) → ((read_plan file).refusal ≤ 9) ⊎ ((read_plan file).refusal ≡ 17) ⊎ ((read_plan file).refusal ≡ 18)
read_number file =
    all_readings file (λ r. Planned r.refusal)
    (λ at s rows _ _ _. fault_small at s (worked_on s rows (command_at file at)) (command_at file at))
    (λ at s rows _ _ _ _. finished_by (λ r. Planned r.refusal) file at s rows (inr (inr refl)) (inl (omega arith)) (λ _ _. inl (omega arith)))
    (inl (omega arith))

-- so none is above 18
pub read_most : (file : List ℕ) → (read_plan file).refusal ≤ 18
read_most file = ⊎_elim (λ l. omega arith) (λ w. ⊎_elim (λ e. omega arith) (λ e. omega arith) w) (read_number file)
