-- The GIVEs that are named so far.
use Rattle.std.proofs.Common.{◌≢◌, ◌+◌, ◌<◌, ◌≤◌, ℕ, List, length, get_or, set, arith, get_or-set_other, get_or-set_same, below_more}
use Rattle.sheet.specs.Layout.{give_start}
use Rattle.lines.specs.Given.{IsGiven}

-- one more, of an instrument below m
pub given_next : (m : ℕ) (teams : List ℕ) (n : ℕ) (old new : List ℕ) → IsGiven m teams n old new → n < m → give_start n + 2 < length new → IsGiven m teams (n + 1) old (set new (give_start n + 2) (get_or teams n 0))
given_next m teams n old new before lt room = record {
  named = below_more _ _
      (λ g below under. let apart : give_start g + 2 ≢ give_start n + 2 = omega arith in rw get_or-set_other (before.named g below under))
      (λ _. rw get_or-set_same);
  others = λ k differs. let apart : k ≢ give_start n + 2 = differs n (omega arith) lt in
      rw get_or-set_other (before.others k (λ g below. differs g (omega arith)));
}

-- one more that names nothing
pub given_kept : (m : ℕ) (teams : List ℕ) (n : ℕ) (old new : List ℕ) → IsGiven m teams n old new → m ≤ n → IsGiven m teams (n + 1) old new
given_kept m teams n old new before over = record {
  named = λ g _ under. before.named g (omega arith) under;
  others = λ k differs. before.others k (λ g below. differs g (omega arith));
}
