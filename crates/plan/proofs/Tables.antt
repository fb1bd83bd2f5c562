-- What the tables of a team can hold, and how many entries a command adds.
use Prim.Native.Nat.{ℕ, ◌+◌, ◌≤◌, ◌<◌}
use mathlib.Core.Path.{◌≡◌, refl, ap, ◌∙◌}
use mathlib.Core.Bool.{Bool, true, false, not, cond}
use mathlib.Core.Logic.{◌⊎◌, ◌≢◌}
use mathlib.Core.List.{List}
use native.Mathlib.Omega.{arith}
use native.Mathlib.Decide.{dec_lt, ℕ_discrete}
use lib.Dec.{eqb}
use lib.ListN.{length, get_or, set, replicate, length-set, get_or-replicate, get_or-eq_default}
use lib.Seq.{get_or-set_same, get_or-set_other}
use borrow.Author.Tests.{ne_eqb}
use Rattle.matroid.specs.Set.{Set, one, size}
use Rattle.matroid.specs.SetLaws.{size_change}
use Rattle.matroid.proofs.Sets.{size_le}
use Rattle.command.specs.declared.Command.TheVariants.{Class, Days}
use Rattle.team.specs.declared.Team.{Team}
use Rattle.team.specs.Team.{caps_kind, loops_kind, mounts_kind, opened_team}
use Rattle.judge.specs.Fault.{named}
use Rattle.carry.specs.Carry.{named_team, changed_team}
use Rattle.plan.specs.Valid.{Naming, unnamed, ValidTeam}

-- ---- what is known where no rule is broken

-- the first rule holds, and so do the others
pub first_holds : (b : Bool) (k rest : ℕ) → k ≢ 0 → ◌≡◌ {A = ℕ} (cond b k rest) 0 → (b ≡ false) × (rest ≡ 0)
first_holds true k rest d e = absurd (d e)
first_holds false k rest d e = (refl, e)

-- ---- a table with one entry more

-- a table of numbers that has a value at i where it had none
module _ (w : ℕ) (A B : Set) (i : ℕ) (l : i < w) where
  one_more : ((k : ℕ) → k ≢ i → A k ≡ B k) → A i ≡ true → B i ≡ false → size w A ≡ size w B + 1
  one_more other here before =
      let change = size_change w A B i l other in
      let a = ap one here in
      let b = ap one before in
      omega arith

-- how many instruments a table names
pub named_count : List ℕ → ℕ
named_count table = size 64 (named table)

pub named_count_le : (table : List ℕ) → named_count table ≤ 64
unfolding named_count
named_count_le table = size_le 64 (named table)

pub named_count_none : named_count (replicate 64 255) ≡ 0
unfolding named_count
named_count_none = refl

-- a table in which an instrument is named that was not
module _ (table : List ℕ) (i v : ℕ) (long : length table ≡ 64) (l : i < 64) (small : v < 255) where
  named_here : named (set table i v) i ≡ true
  named_here = ap (λ (x : ℕ). not (eqb x 255)) (get_or-set_same table i v 255 (omega arith)) ∙ ap not (ne_eqb v 255 (omega arith))

  named_there : (k : ℕ) → k ≢ i → named (set table i v) k ≡ named table k
  named_there k d = ap (λ (x : ℕ). not (eqb x 255)) (get_or-set_other table i k v 255 d)

  pub named_count_more : named table i ≡ false → named_count (set table i v) ≡ named_count table + 1
  unfolding named_count
  named_count_more e = one_more 64 (named (set table i v)) (named table) i l named_there named_here e

-- how many classes of the open team are capped
pub capped_count : List Bool → ℕ
capped_count capped = size 16 (λ c. get_or capped c false)

pub capped_count_le : (capped : List Bool) → capped_count capped ≤ 16
unfolding capped_count
capped_count_le capped = size_le 16 (λ c. get_or capped c false)

pub capped_count_none : capped_count (replicate 16 false) ≡ 0
unfolding capped_count
capped_count_none = refl

pub capped_count_more : (capped : List Bool) (c : ℕ) → length capped ≡ 16 → c < 16 → get_or capped c false ≡ false → capped_count (set capped c true) ≡ capped_count capped + 1
unfolding capped_count
capped_count_more capped c long l e =
    one_more 16 (λ k. get_or (set capped c true) k false) (λ k. get_or capped k false) c l
    (λ k d. get_or-set_other capped c k true false d) (get_or-set_same capped c true false (omega arith)) e

-- ---- one team

-- nothing is named in a table that has just been made
blank_entry : (i : ℕ) → ◌≡◌ {A = ℕ} (get_or (replicate 64 255) i 255) 255
blank_entry i = elim (dec_lt i 64) [ yes l ↦ get_or-replicate 64 i 255 255 l | no d ↦ get_or-eq_default (replicate 64 255) 255 {n = i} (omega arith) ]

pub named_none : (i : ℕ) → named (replicate 64 255) i ≡ false
named_none i = ap (λ (x : ℕ). not (eqb x 255)) (blank_entry i)

-- a team that has just been opened
pub opened_kept : (m kind channels cap : ℕ) → (kind ≡ caps_kind) ⊎ (kind ≡ loops_kind) ⊎ (kind ≡ mounts_kind) → ValidTeam m (opened_team kind channels cap)
opened_kept m kind channels cap k = record {
  cap_long = refl;
  named_long = refl;
  first_long = refl;
  second_long = refl;
  third_long = refl;
  fourth_long = refl;
  days_long = refl;
  kind = k;
  instrument = λ i. rw (blank_entry i) unnamed;
}

module _ (m : ℕ) (team : Team) (kept : ValidTeam m team) where
  -- a class is capped
  pub class_kept : (class cap : ℕ) → ValidTeam m (changed_team 0 team (Class class cap))
  unfolding changed_team
  class_kept class most = record {
    cap_long = length-set team.cap class most ∙ kept.cap_long;
    named_long = kept.named_long;
    first_long = kept.first_long;
    second_long = kept.second_long;
    third_long = kept.third_long;
    fourth_long = kept.fourth_long;
    days_long = kept.days_long;
    kind = kept.kind;
    instrument = kept.instrument;
  }

  -- the days are said
  pub days_kept : (a b c d : ℕ) → ValidTeam m (changed_team 0 team (Days a b c d))
  unfolding changed_team
  days_kept a b c d = record {
    cap_long = kept.cap_long;
    named_long = kept.named_long;
    first_long = kept.first_long;
    second_long = kept.second_long;
    third_long = kept.third_long;
    fourth_long = kept.fourth_long;
    days_long = refl;
    kind = kept.kind;
    instrument = kept.instrument;
  }

  -- a command names an instrument
  pub named_kept : (i command a b c d : ℕ) → i < 64 → Naming m team.kind i command a b c d → ValidTeam m (named_team team i command a b c d)
  named_kept i command a b c d l naming = record {
    cap_long = kept.cap_long;
    named_long = length-set team.named i command ∙ kept.named_long;
    first_long = length-set team.first i a ∙ kept.first_long;
    second_long = length-set team.second i b ∙ kept.second_long;
    third_long = length-set team.third i c ∙ kept.third_long;
    fourth_long = length-set team.fourth i d ∙ kept.fourth_long;
    days_long = kept.days_long;
    kind = kept.kind;
    instrument = λ k. go k (ℕ_discrete k i);
  }
    where
      here : (table : List ℕ) (v : ℕ) → length table ≡ 64 → get_or (set table i v) i 255 ≡ v
      here table v long = get_or-set_same table i v 255 (omega arith)

      go : (k : ℕ) → Dec (k ≡ i) → Naming m team.kind k (get_or (set team.named i command) k 255) (get_or (set team.first i a) k 255) (get_or (set team.second i b) k 255) (get_or (set team.third i c) k 255) (get_or (set team.fourth i d) k 255)
      go k (yes same) = rw (same, here team.named command kept.named_long, here team.first a kept.first_long, here team.second b kept.second_long, here team.third c kept.third_long, here team.fourth d kept.fourth_long) naming
      go k (no other) = rw (get_or-set_other team.named i k command 255 other, get_or-set_other team.first i k a 255 other, get_or-set_other team.second i k b 255 other, get_or-set_other team.third i k c 255 other, get_or-set_other team.fourth i k d 255 other) (kept.instrument k)
