-- In a MOUNTS team, instruments of a stretch of 32 numbers that fit every mount can have a mount each.
use Prim.Native.Nat.{ℕ, ◌+◌, ◌-◌, ◌≤◌, ◌<◌}
use mathlib.Core.Path.{◌≡◌, ◌∙◌, subst⁻¹}
use native.Mathlib.Omega.{arith}
use lib.Dec.{T}
use lib.ListN.{get_or}
use borrow.Author.Tests.{lt-ltb}
use Rattle.matroid.specs.Set.{Set, size, Within}
use Rattle.sets.specs.Bits.{bit}
use Rattle.sets.proofs.Words.{bit_below}
use Rattle.team.specs.declared.Team.{Team}
use Rattle.team.specs.Team.{mounts_kind}
use Rattle.mounts.specs.Mounts.{mounts, Mounted, word_of, fits_of}
use Rattle.mounts.specs.Transversal.{transversal}
use Rattle.kinds.specs.Teams.{structure_of}
use Rattle.kinds.specs.Valuations.{matroid_of}
use Rattle.kinds.proofs.Cases.{of_mounts}
use Rattle.kinds.proofs.Above.{plain_indep}

-- the instrument i has a FIT, with all 32 bits
pub record Fitted (team : Team) (i : ℕ) : Type 0 where
  pub named : get_or team.named i 255 ≡ 9
  pub first : get_or team.first i 0 ≡ 255
  pub second : get_or team.second i 0 ≡ 255
  pub third : get_or team.third i 0 ≡ 255
  pub fourth : get_or team.fourth i 0 ≡ 255

-- four bytes 255 have the bit of every mount
all_bits : (k : ℕ) → k < 32 → T (bit (word_of 255 255 255 255) k)
all_bits k l = subst⁻¹ T (bit_below 32 k ∙ lt-ltb k 32 l) tt

-- so such an instrument fits every mount
fits_all : (team : Team) (i k : ℕ) → Fitted team i → k < 32 → T (fits_of team.named team.first team.second team.third team.fourth i k)
fits_all team i k f l = rw (f.named, f.first, f.second, f.third, f.fourth) (all_bits k l)

module _ (m b : ℕ) (team : Team) (A : Set) (full : (i : ℕ) → i < m → T (A i) → Fitted team i) (stretch : (i : ℕ) → i < m → T (A i) → (b ≤ i) × (i < b + 32)) where
  -- the mount of i is i - b
  full_mounted : Mounted (fits_of team.named team.first team.second team.third team.fourth) m A
  unfolding mounts
  full_mounted = record {
    mount = λ i. i - b;
    mount_lt = λ i l a. let s = stretch i l a in omega arith;
    fit = λ i l a. let s = stretch i l a in fits_all team i (i - b) (full i l a) (omega arith);
    differ = λ i j l k a c e. let s = stretch i l a in let t = stretch j k c in omega arith;
  }

  -- so the team's kind allows the set
  full_structure : team.kind ≡ mounts_kind → (structure_of m team).Indep A
  unfolding transversal
  full_structure kind = rw (of_mounts m team kind) full_mounted

-- so they are independent, where they are usable and no more than the channels
pub full_indep : (m b : ℕ) (team : Team) (usable : ℕ) (A : Set) → team.kind ≡ mounts_kind
    → ((i : ℕ) → i < m → T (A i) → Fitted team i)
    → ((i : ℕ) → i < m → T (A i) → (b ≤ i) × (i < b + 32))
    → size m A ≤ team.channels
    → Within m A (bit usable)
    → (matroid_of m (record { team = team; usable = usable; glued = 0 })).Indep A
full_indep m b team usable A kind full stretch few within = (plain_indep m team usable A).1 (within, (full_structure m b team A full stretch kind, few))
