-- Commands that stand whole at an offset.
use Prim.Native.Nat.{ℕ, zero, suc, ◌+◌, ◌≤◌, ◌<◌}
use mathlib.Core.Path.{◌≡◌, refl}
use mathlib.Core.Bool.{Bool, true, false, cond}
use mathlib.Core.Logic.{◌≢◌, ◌⊎◌, inl, inr, ⊎_elim}
use mathlib.Core.List.{List}
use native.Mathlib.Omega.{arith}
use lib.Dec.{eqb, leb}
use lib.ListN.{length, get_or}
use borrow.Author.Tests.{leb-true, eqb-false}
use Rattle.command.specs.declared.Command.{Command}
use Rattle.command.specs.declared.Command.TheVariants.{Missing, Unknown, Short}
use Rattle.command.specs.Command.{width_of, command_by, command_at, bytes_of}

-- a command has as many bytes as its first byte says
length_command : (file : List ℕ) (at byte : ℕ) → width_of byte ≢ 0 → bytes_of (command_by file at byte) ≡ width_of byte
length_command file at zero d = absurd (d refl)
length_command file at (suc zero) d = refl
length_command file at (suc (suc zero)) d = refl
length_command file at (suc (suc (suc zero))) d = refl
length_command file at (suc (suc (suc (suc zero)))) d = refl
length_command file at (suc (suc (suc (suc (suc zero))))) d = refl
length_command file at (suc (suc (suc (suc (suc (suc zero)))))) d = refl
length_command file at (suc (suc (suc (suc (suc (suc (suc zero))))))) d = refl
length_command file at (suc (suc (suc (suc (suc (suc (suc (suc zero)))))))) d = refl
length_command file at (suc (suc (suc (suc (suc (suc (suc (suc (suc zero))))))))) d = refl
length_command file at (suc (suc (suc (suc (suc (suc (suc (suc (suc (suc zero)))))))))) d = refl
length_command file at (suc (suc (suc (suc (suc (suc (suc (suc (suc (suc (suc zero))))))))))) d = refl
length_command file at (suc (suc (suc (suc (suc (suc (suc (suc (suc (suc (suc (suc zero)))))))))))) d = refl
length_command file at (suc (suc (suc (suc (suc (suc (suc (suc (suc (suc (suc (suc (suc k))))))))))))) d = absurd (d refl)

-- a command that stands whole at an offset
pub record Whole (file : List ℕ) (at : ℕ) (command : Command) : Type 0 where
  pub some : 0 < bytes_of command
  pub fits : at + bytes_of command ≤ length file

-- what stands at an offset stands whole, or has no bytes
pub stands : (file : List ℕ) (at : ℕ) → (bytes_of (command_at file at) ≡ 0) ⊎ Whole file at (command_at file at)
unfolding command_at
stands file at = ends (leb (length file) at)
  where
    byte : ℕ
    byte = get_or file at 0

    command : Command
    command = command_by file at byte

    Stands : Command → Type 0
    Stands c = (bytes_of c ≡ 0) ⊎ Whole file at c

    short : (b : Bool) → leb (at + width_of byte) (length file) ≡ b → width_of byte ≢ 0 → Stands (cond b command Short)
    short true t w =
        let same = length_command file at byte w in
        let room = leb-true (at + width_of byte) (length file) t in
        inr (record { some = omega arith; fits = omega arith })
    short false t w = inl refl

    unknown : (b : Bool) → eqb (width_of byte) 0 ≡ b → Stands (cond b Unknown (cond (leb (at + width_of byte) (length file)) command Short))
    unknown true t = inl refl
    unknown false t = short (leb (at + width_of byte) (length file)) refl (eqb-false (width_of byte) 0 t)

    ends : (b : Bool) → Stands (cond b Missing (cond (eqb (width_of byte) 0) Unknown (cond (leb (at + width_of byte) (length file)) command Short)))
    ends true = inl refl
    ends false = unknown (eqb (width_of byte) 0) refl

-- the offset after what stands at an offset is below each bound of the two
pub end_below : (file : List ℕ) (at n : ℕ) → at < n → length file < n → at + bytes_of (command_at file at) < n
end_below file at n a l = ⊎_elim (λ z. omega arith) (λ w. omega arith) (stands file at)
