-- Something made of the answer of the first rule that is broken.
use mathlib.Core.Path.{◌≡◌, refl, ap, ◌∙◌}
use mathlib.Core.Bool.{Bool, true, false, cond}
use mathlib.Core.List.{List, [], ◌∷◌, map}
use Rattle.command.specs.Rule.{Rule, rule, first_broken}

-- a rule, with something made of its answer
abbrev pub mapped : {X Y : Type 0} → (X → Y) → Rule X → Rule Y
mapped f r = rule r.broken (f r.answer)

pub first_mapped : {X Y : Type 0} (f : X → Y) (none : X) (rs : List (Rule X)) → f (first_broken none rs) ≡ first_broken (f none) (map (mapped f) rs)
first_mapped f none [] = refl
first_mapped {X} {Y} f none (r ∷ rs) = go r.broken ∙ ap (λ (y : Y). cond r.broken (f r.answer) y) (first_mapped f none rs)
  where
    go : (b : Bool) → f (cond b r.answer (first_broken none rs)) ≡ cond b (f r.answer) (f (first_broken none rs))
    go true = refl
    go false = refl
