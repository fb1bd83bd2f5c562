-- Rules in their order, each with the answer where it is broken.
use Rattle.std.specs.Prelude.{Bool, cond, List, [], ◌∷◌}

-- whether a rule is broken, and what is then answered
pub record Rule (X : Type 0) : Type 0 where
  pub broken : Bool
  pub answer : X

-- a rule, by whether it is broken and its answer
abbrev pub rule : {X : Type 0} → Bool → X → Rule X
rule broken answer = record { broken = broken; answer = answer }

-- the answer of the first rule that is broken, and the one given where none is
abbrev pub first_broken : {X : Type 0} → X → List (Rule X) → X
first_broken none [] = none
first_broken none (r ∷ rs) = cond r.broken r.answer (first_broken none rs)
