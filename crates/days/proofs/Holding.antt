-- Which shelf days hold some days, and days where none are named.
use Prim.Native.Nat.{ℕ, ◌<◌}
use mathlib.Core.Path.{◌≡◌, refl, ap}
use mathlib.Core.Bool.{Bool, true, false, ◌&&◌, not, true≢false}
use mathlib.Core.List.{List}
use lib.Dec.{eqb}
use lib.ListN.{length, get_or}
use borrow.Author.Tests.{eqb-true}
use Rattle.std.proofs.lemmas.List.{get_or_default}
use Rattle.days.specs.declared.Days.{Days}
use Rattle.days.specs.Days.{always, dated, within, usable_on}

-- of an instrument, as the code reads its shelf days
pub usable_here : (shelf : List Days) (days : Days) (i : ℕ) (d : Days) → i < length shelf → within days (get_or shelf i d) ≡ usable_on shelf days i
usable_here shelf days i d l = ap (within days) (get_or_default shelf i d always l)

-- days that are no others than where none are named
pub undated : (days : Days) → dated days ≡ false → days ≡ always
undated days e = go (eqb days.from 0) refl (eqb days.to 65535) refl e
  where
    go : (a : Bool) → eqb days.from 0 ≡ a → (b : Bool) → eqb days.to 65535 ≡ b → not (a && b) ≡ false → days ≡ always
    go true p true q e = λ j. record { from = eqb-true days.from 0 p j; to = eqb-true days.to 65535 q j }
    go true p false q e = absurd (true≢false e)
    go false p b q e = absurd (true≢false e)
