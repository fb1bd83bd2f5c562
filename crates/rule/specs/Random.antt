-- Random numbers for tests.
use Rattle.std.specs.Prelude.{ℕ, ◌*◌, ◌%◌}

-- the number after another, by Lehmer's generator
abbrev pub after : ℕ → ℕ
after n = n % 2147483647 * 48271 % 2147483647
