-- What may join, and what is grown, where a matroid is cut off at c members.
use Prim.Native.Nat.{ℕ, ◌+◌, ◌≤◌, ◌<◌}
use mathlib.Core.Path.{subst}
use mathlib.Core.Bool.{not}
use native.Mathlib.Omega.{arith}
use lib.Dec.{T}
use Rattle.matroid.specs.Set.{Set, with, size}
use Rattle.matroid.specs.SetLaws.{size_with}
use Rattle.matroid.specs.Matroid.{Matroid}
use Rattle.matroid.specs.Build.{truncate, rank_zero}
use Rattle.matroid.proofs.Building.{truncate_with}
use Rattle.sets.specs.Bits.{bit}
use Rattle.sets.proofs.Below.{bit_none}
use Rattle.sets.specs.Joining.{MayJoin, Grown}

-- where no instrument keeps A independent, none may join
pub joins_none : {m : ℕ} (M : Matroid m) (A : Set) → ((j : ℕ) → j < m → T (not (A j)) → M.Indep (with A j) → ⊥) → MayJoin M A 0
joins_none M A never = record { at = λ j. (λ t. absurd (subst T (bit_none j) t), λ (l, (out, i)). absurd (never j l out i)) }

-- to the matroid of rank 0 nothing may be added
pub joins_zero : (m : ℕ) (A : Set) → MayJoin (rank_zero m) A 0
joins_zero m A = joins_none (rank_zero m) A (λ j l out i. let grown = size_with m A j l out in omega arith)

module _ {m : ℕ} (M : Matroid m) (c : ℕ) where
  -- with less than c members, what may join may join still
  pub joins_truncate : (A : Set) (r : ℕ) → size m A < c → (M.Indep A → MayJoin M A r) → (truncate M c).Indep A → MayJoin (truncate M c) A r
  joins_truncate A r room free i =
      let f = free i.0 in
      record {
        at = λ j. (
          λ t. let (l, (out, joins)) = (f.at j).0 t in (l, (out, (truncate_with M c j i l out).1 (joins, room))),
          λ (l, (out, joins)). (f.at j).1 (l, (out, ((truncate_with M c j i l out).0 joins).0)),
        );
      }

  -- with c members, nothing may
  pub joins_full : (A : Set) → c ≤ size m A → (truncate M c).Indep A → MayJoin (truncate M c) A 0
  joins_full A full i = joins_none (truncate M c) A (λ j l out joins. let room = ((truncate_with M c j i l out).0 joins).1 in omega arith)

  -- grown by no more than there is room for
  pub grown_truncate : (set from most room r : ℕ) → room ≤ most → (size m (bit set) ≤ c → size m (bit set) + room ≤ c) → Grown M set from room r → Grown (truncate M c) set from most r
  grown_truncate set from most room r less fits g = record {
    indep = λ i. (g.indep i.0, let few = g.few in let l = fits i.1 in omega arith);
    old = g.old;
    new = g.new;
    few = let few = g.few in omega arith;
  }
