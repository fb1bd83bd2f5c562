-- What rows of tests come to, from what their pieces come to.
use Prim.Native.Nat.{ℕ, suc, ◌+◌, ◌*◌, ◌≤◌, ◌<◌}
use mathlib.Core.Path.{◌≡◌, refl, sym, ap, ap₂, ◌∙◌}
use mathlib.Core.Bool.{Bool, true, false, cond, false≢true}
use mathlib.Core.List.{List, [], ◌∷◌, ◌++◌}
use native.Mathlib.Omega.{arith}
use native.Mathlib.Nat.{mul-le-mul_right}
use lib.Dec.{ltb}
use lib.ListN.{length, get_or, length-append}
use borrow.Author.Tests.{lt-ltb, le-ltb, ltb-true, ltb-false}
use Rattle.std.proofs.Common.{Ok, Err, Result, is_ok}
use Rattle.std.specs.Prelude.{⊤}
use Rattle.matroid.specs.Cuts.{each}
use Rattle.sheet.specs.Form.{Test, first_fault, tested}
use Rattle.sheet.proofs.Faults.{Passes, fault_to, fault_done, fault_stop, length_each, each_stop, each_next, each_done}
use Rattle.sheet.proofs.Commands.{fault_here, fault_past, BytesPass, bytes_stop, bytes_done}

-- every byte is allowed
abbrev fine : Result ⊤ ℕ
fine = Ok tt

-- by the first fault, and the offset after the tests
abbrev by : (f end : ℕ) → Result ⊤ ℕ
by f end = cond (ltb f end) (Err f) fine

-- the offset that is refused
abbrev offset : ℕ → Result ⊤ ℕ → ℕ
offset d (Ok x) = d
offset d (Err e) = e

module _ (s : List ℕ) where
  -- from the first fault, and to it
  pub err_tested : (a : List Test) (at r : ℕ) → r ≡ first_fault a s at → r < at + length a → Err r ≡ tested a s at
  err_tested a at r e l = rw (← e, lt-ltb r (at + length a) l) refl

  pub ok_tested : (a : List Test) (at : ℕ) → at + length a ≤ first_fault a s at → Ok tt ≡ tested a s at
  ok_tested a at l = rw (le-ltb (first_fault a s at) (at + length a) l) refl

  pub err_fault : (a : List Test) (at : ℕ) (x : Result ⊤ ℕ) (e : ℕ) → x ≡ tested a s at → x ≡ Err e → (e ≡ first_fault a s at) × (e < at + length a)
  err_fault a at x e is h = go (ltb (first_fault a s at) (at + length a)) refl (sym h ∙ is)
    where
      go : (b : Bool) → ltb (first_fault a s at) (at + length a) ≡ b → Err e ≡ cond b (Err (first_fault a s at)) fine → (e ≡ first_fault a s at) × (e < at + length a)
      go true l f = let same : e ≡ first_fault a s at = ap (offset e) f in let below = ltb-true _ _ l in (same, omega arith)
      go false l f = absurd (false≢true (ap is_ok f))

  pub ok_fault : (a : List Test) (at : ℕ) (x : Result ⊤ ℕ) (u : ⊤) → x ≡ tested a s at → x ≡ Ok u → at + length a ≤ first_fault a s at
  ok_fault a at x u is h = go (ltb (first_fault a s at) (at + length a)) refl (sym h ∙ is)
    where
      go : (b : Bool) → ltb (first_fault a s at) (at + length a) ≡ b → Ok u ≡ cond b (Err (first_fault a s at)) fine → at + length a ≤ first_fault a s at
      go true l f = absurd (false≢true (sym (ap is_ok f)))
      go false l f = ltb-false _ _ l

  -- ---- one byte

  pub byte_stop : (test : Test) (rest : List Test) (at : ℕ) → test (get_or s at 0) ≡ false → Err at ≡ tested (test ∷ rest) s at
  byte_stop test rest at e = err_tested (test ∷ rest) at at (fault_here s test rest at e) (omega arith)

  pub byte_next : (test : Test) (rest : List Test) (at next : ℕ) (r : Result ⊤ ℕ) → test (get_or s at 0) ≡ true → next ≡ at + 1 → r ≡ tested rest s next → r ≡ tested (test ∷ rest) s at
  byte_next test rest at next r e step h = h ∙ ap₂ by (fault_past s test rest at next _ e step refl) (omega arith)

  pub none_left : (at : ℕ) → Ok tt ≡ tested [] s at
  unfolding first_fault
  none_left at = ok_tested [] at (omega arith)

  -- ---- one piece after another

  pub piece_err : (a b : List Test) (at : ℕ) (x : Result ⊤ ℕ) (e : ℕ) → x ≡ tested a s at → x ≡ Err e → Err e ≡ tested (a ++ b) s at
  piece_err a b at x e is h =
      let f = err_fault a at x e is h in
      let less = f.1 in
      let long = length-append a b in
      err_tested (a ++ b) at e (f.0 ∙ sym (fault_stop s a b at (λ d. let same = f.0 in omega arith))) (omega arith)

  pub piece_next : (a b : List Test) (at next : ℕ) (x : Result ⊤ ℕ) (u : ⊤) (r : Result ⊤ ℕ) → x ≡ tested a s at → x ≡ Ok u → next ≡ at + length a → r ≡ tested b s next → r ≡ tested (a ++ b) s at
  piece_next a b at next x u r is h step rest =
      let l = ok_fault a at x u is h in
      let upper = fault_to s a at in
      let long = length-append a b in
      rest ∙ ap₂ by (ap (first_fault b s) step ∙ sym (fault_done s a b at (omega arith))) (omega arith)

  -- ---- one piece for each number below n, all of the same length

  module _ (f : ℕ → List Test) (w : ℕ) (wide : (t : ℕ) → length (f t) ≡ w) where
    pub row_err : (n t i at : ℕ) (x : Result ⊤ ℕ) (e : ℕ) → t < n → Passes (each t f) s i → at ≡ i + t * w → x ≡ tested (f t) s at → x ≡ Err e → Err e ≡ tested (each n f) s i
    row_err n t i at x e l p here is h =
        let fault = err_fault (f t) at x e is h in
        let less = fault.1 in
        let wt = wide t in
        let long = length_each s f w wide n in
        let room : suc t * w ≤ n * w = mul-le-mul_right w l in
        err_tested (each n f) i e (sym (each_stop s f w wide n t i at e l p here fault.0 (λ d. omega arith))) (omega arith)

    pub row_next : (t i at : ℕ) (x : Result ⊤ ℕ) (u : ⊤) → Passes (each t f) s i → at ≡ i + t * w → x ≡ tested (f t) s at → x ≡ Ok u → Passes (each (t + 1) f) s i
    row_next t i at x u p here is h = let l = ok_fault (f t) at x u is h in let wt = wide t in each_next s f w wide t i at _ p here refl (omega arith)

    pub row_end : (n t i : ℕ) → t ≤ n → n ≤ t → Passes (each t f) s i → Ok tt ≡ tested (each n f) s i
    row_end n t i l g p = let long = length_each s f w wide n in let e = each_done s f w wide n t i (i + n * w) l g p refl in ok_tested (each n f) i (omega arith)

-- ---- bytes with a test each

module _ (test : ℕ → Test) (s : List ℕ) (at k : ℕ) (h : BytesPass test s at k) where
  pub bytes_err : (w : ℕ) → k < w → test k (get_or s (at + k) 0) ≡ false → Err (at + k) ≡ tested (each w (λ k. test k ∷ [])) s at
  bytes_err w l e = let long = length_each s (λ k. test k ∷ []) 1 (λ k. refl) w in err_tested s (each w (λ k. test k ∷ [])) at (at + k) (bytes_stop test s at k h w l e) (omega arith)

  pub bytes_end : (w : ℕ) → k ≤ w → w ≤ k → Ok tt ≡ tested (each w (λ k. test k ∷ [])) s at
  bytes_end w l g = let long = length_each s (λ k. test k ∷ []) 1 (λ k. refl) w in let e = bytes_done test s at k h w l g in ok_tested s (each w (λ k. test k ∷ [])) at (omega arith)
