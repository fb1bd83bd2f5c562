-- A text in a lent buffer, where it is too long and where it fits.
use Prim.Native.Nat.{ℕ, ◌≤◌, ◌<◌}
use mathlib.Core.Path.{◌≡◌, refl, ap, ◌∙◌, subst}
use mathlib.Core.List.{List}
use native.Mathlib.Omega.{arith}
use lib.ListN.{length}
use borrow.Author.Tests.{lt-ltb, le-ltb}
use Rattle.std.proofs.Common.{Ok}
use Rattle.command.specs.Refusal.{refuse}
use Rattle.listing.specs.Put.{Put}
use Rattle.listing.specs.Lent.{text_answer, text_in}
use Rattle.listing.proofs.Pouring.{poured_front}

-- the buffer is shorter than the text, whose length was measured
pub text_long : {b b' x buffer : List ℕ} {long : ℕ} → Put b 0 x b' long → length buffer < long → (refuse 10 long ≡ text_answer x buffer) × (buffer ≡ text_in x buffer)
unfolding text_answer text_in
text_long {b} {b'} {x} {buffer} {long} p h =
    let e : long ≡ length x = p.end ∙ omega arith in
    rw (lt-ltb (length buffer) (length x) (subst (λ (k : ℕ). length buffer < k) e h)) (ap (λ (k : ℕ). refuse 10 k) e, refl)

-- the text is put into a buffer that has room for it
pub text_fits : {b b' x buffer after : List ℕ} {long next : ℕ} → Put b 0 x b' long → long ≤ length buffer → Put buffer 0 x after next → (Ok long ≡ text_answer x buffer) × (after ≡ text_in x buffer)
unfolding text_answer text_in
text_fits {b} {b'} {x} {buffer} {after} {long} {next} p h q =
    let e : long ≡ length x = p.end ∙ omega arith in
    let room : length x ≤ length buffer = subst (λ (k : ℕ). k ≤ length buffer) e h in
    rw (le-ltb (length buffer) (length x) room) (ap (λ (k : ℕ). Ok k) e, q.bytes ∙ poured_front buffer x room)
