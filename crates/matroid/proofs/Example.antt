-- Tiny cases, computed.
use Prim.Native.Nat.{ℕ, zero, suc}
use mathlib.Core.Path.{◌≡◌, refl}
use mathlib.Core.Bool.{true, not}
use mathlib.Core.List.{[], ◌∷◌}
use native.Mathlib.Omega.{arith}
use native.Mathlib.Decide.{dec_le}
use lib.Dec.{eqb, ltb, lit<}
use Rattle.matroid.specs.Decide.{is_yes_iff}
use Rattle.matroid.specs.Set.{only, with, without}
use Rattle.matroid.specs.SetLaws.{size_extra, within?}
use Rattle.matroid.specs.Matroid.{Matroid, worth}
use Rattle.matroid.specs.Build.{truncate, restrict, contracted}
use Rattle.matroid.specs.Division.{bundle}
use Rattle.matroid.specs.Share.{share}
use Rattle.matroid.specs.Carry.{carry}
use Rattle.matroid.proofs.Chains.{Chain}

-- every set is independent
abbrev pub free : (m : ℕ) → Matroid m
free m = record {
  Indep = λ A. Unit {0};
  decide = λ A. yes tt;
  empty = tt;
  part = λ h i. tt;
  gain = λ {A} {B} a b l. let x = size_extra m A B l in record { at = x.at; below = x.below; there = x.there; fresh = x.fresh; indep = tt };
}

-- of six, any two: worth 2, and one alone 1
two_of_six : worth (truncate (free 6) 2) (λ g. true) ≡ 2
unfolding worth dec_le
two_of_six = refl

one_of_six : worth (truncate (free 6) 2) (λ g. eqb g 4) ≡ 1
unfolding worth dec_le
one_of_six = refl

-- of six, those below three
below_three : worth (restrict (free 6) (λ g. ltb g 3)) (λ g. not (eqb g 1)) ≡ 2
unfolding worth dec_le within?
below_three = refl

-- of four, any two beside 1: one more can join it, and nothing can join three
beside_one : worth (contracted (truncate (free 4) 2) (only 1)) (λ g. true) ≡ 1
unfolding worth dec_le within?
beside_one = refl

beside_three : worth (contracted (truncate (free 4) 2) (λ g. ltb g 3)) (λ g. true) ≡ 0
unfolding worth dec_le within?
beside_three = refl

-- five among two, at most three each
five_by_two : share (truncate (free 5) 3) 2 ≡ 2
unfolding share worth dec_le
five_by_two = refl

-- ---- a chain

-- each of two teams can play one instrument; the first can play 0 only
abbrev team : ℕ → Matroid 2
team zero = restrict (truncate (free 2) 1) (only 0)
team (suc t) = truncate (free 2) 1

-- the second team holds 0, and 1 is loose
abbrev holder : ℕ → ℕ
holder zero = 1
holder (suc g) = 2

-- the first team takes 0, and the second takes 1 in its place
example_chain : Chain 2 team holder 0 (0 ∷ 1 ∷ [])
unfolding dec_le within?
example_chain = record {
  below = (lit< tt, (lit< tt, tt));
  distinct = ((λ e. omega arith, tt), (tt, tt));
  first = ((tt, (is_yes_iff ((team 0).decide (with (bundle holder 0) 0))).1 tt), (λ c. (is_yes_iff ((team 0).decide (with (bundle holder 0) 1))).0 c.1, tt));
  steps = (((lit< tt, (tt, (is_yes_iff ((team 1).decide (with (without (bundle holder 1) 0) 1))).1 tt)), tt), (tt, tt));
}

example_carried : (carry holder 0 (0 ∷ 1 ∷ []) 0 ≡ 0) × (carry holder 0 (0 ∷ 1 ∷ []) 1 ≡ 1)
example_carried = (refl, refl)
