-- The first fault of a byte and of bytes with a test each, and the lengths of the pieces of a sheet.
use Prim.Native.Nat.{ℕ, zero, suc, ◌+◌, ◌*◌, ◌-◌, ◌^◌, ◌≤◌, ◌<◌}
use mathlib.Core.Path.{◌≡◌, refl, sym, ap, ◌∙◌, fun_ext}
use mathlib.Core.Bool.{Bool, true, false, ◌||◌, cond}
use mathlib.Core.Logic.{◌≢◌}
use mathlib.Core.List.{List, [], ◌∷◌, ◌++◌}
use native.Mathlib.Omega.{arith}
use lib.Dec.{eqb, ltb}
use lib.ListN.{length, get_or, length-append}
use borrow.Author.Tests.{lt-ltb, le-ltb, eq-eqb, ne_eqb}
use Rattle.matroid.specs.Set.{Set}
use Rattle.matroid.specs.Cuts.{each}
use Rattle.sheet.specs.Form.{Test, is, below, holder, any, command, bound, part, present_page, away_part, away_page, page, set, set_byte, first_fault}
use Rattle.sheet.proofs.Faults.{Passes, length_each, each_none, each_stop, each_next, each_done}

module _ (s : List ℕ) where
  -- ---- one byte

  pub fault_here : (test : Test) (rest : List Test) (at : ℕ) → test (get_or s at 0) ≡ false → at ≡ first_fault (test ∷ rest) s at
  unfolding first_fault
  fault_here test rest at e = rw e refl

  pub fault_past : (test : Test) (rest : List Test) (at next r : ℕ) → test (get_or s at 0) ≡ true → next ≡ at + 1 → r ≡ first_fault rest s next → r ≡ first_fault (test ∷ rest) s at
  unfolding first_fault
  fault_past test rest at next r e step h = h ∙ rw (e, step) refl

  pub fault_end : (at r : ℕ) → r ≡ at → r ≡ first_fault [] s at
  unfolding first_fault
  fault_end at r e = e

-- a team that is none and not the pool, and one that is
pub holder_none : (n t b : ℕ) → t ≡ b → n ≤ t → t ≢ 255 → holder n b ≡ false
holder_none n t b e l d = rw (← e, le-ltb t n l, ne_eqb t 255 d) refl

pub holder_team : (n t b : ℕ) → t ≡ b → t < n → holder n b ≡ true
holder_team n t b e l = rw (← e, lt-ltb t n l) refl

pub holder_pool : (n t b : ℕ) → t ≡ b → t ≡ 255 → holder n b ≡ true
holder_pool n t b e f = go (ltb b n)
  where
    go : (c : Bool) → (c || eqb b 255) ≡ true
    go true = refl
    go false = eq-eqb b 255 (sym e ∙ f)

-- ---- bytes with a test each

-- the first k bytes pass
unfoldable pub BytesPass : (test : ℕ → Test) → List ℕ → (at k : ℕ) → Type 0
BytesPass test s at k = Passes (each k (λ k. test k ∷ [])) s at

module _ (test : ℕ → Test) (s : List ℕ) (at : ℕ) where
  -- none at first; then a byte fails, or one more passes, until all do
  pub bytes_none : BytesPass test s at 0
  unfolding BytesPass
  bytes_none = each_none s (λ k. test k ∷ []) 1 (λ k. refl) at

  module _ (k : ℕ) (h : BytesPass test s at k) where
    pub bytes_stop : (w : ℕ) → k < w → test k (get_or s (at + k) 0) ≡ false → at + k ≡ first_fault (each w (λ k. test k ∷ [])) s at
    unfolding BytesPass
    bytes_stop w l e =
        sym
        (each_stop s (λ k. test k ∷ []) 1 (λ k. refl) w k at (at + k) (at + k) l h (omega arith)
        (fault_here s (test k) [] (at + k) e) (λ x. omega arith))

    pub bytes_next : test k (get_or s (at + k) 0) ≡ true → BytesPass test s at (k + 1)
    unfolding BytesPass
    bytes_next e =
        each_next s (λ k. test k ∷ []) 1 (λ k. refl) k at (at + k) (at + k + 1) h (omega arith)
        (fault_past s (test k) [] (at + k) (at + k + 1) _ e refl (fault_end s (at + k + 1) _ refl)) (omega arith)

    pub bytes_done : (w : ℕ) → k ≤ w → w ≤ k → at + w ≡ first_fault (each w (λ k. test k ∷ [])) s at
    unfolding BytesPass
    bytes_done w l g = sym (each_done s (λ k. test k ∷ []) 1 (λ k. refl) w k at (at + w) l g h (omega arith))

-- byte k of a set, as the code tests it
pub set_byte_lem : (m k b room : ℕ) (r : Bool) → room ≡ m - 8 * k → r ≡ ltb b (2 ^ room) → set_byte m k b ≡ r
set_byte_lem m k b room r is-room is-r = ap (λ (x : ℕ). ltb b (2 ^ x)) (sym is-room) ∙ sym is-r

-- ---- a row of GIVEs or PARTs, and a team's page

-- a command of three bytes for each instrument
abbrev pub row : (byte : ℕ) → (test : Test) → (m : ℕ) → List Test
row byte test m = each m (λ g. command byte g ++ test ∷ [])

-- the nine bytes of a SHARE after its team, share and set, where the team is present and where it is away
abbrev pub nine : (m : ℕ) → (here : Bool) → List Test
nine m here = cond here (any ∷ set m) (each 9 (λ k. is 0 ∷ []))

-- the last byte of a PART
abbrev pub last : (p : ℕ) → (here : Bool) → Test
last p here = cond here (below p) (is 0)

-- a page by whether its team is present
abbrev pub page_of : (m p : ℕ) → (here : Bool) → (t : ℕ) → List Test
page_of m p here t = command 20 t ++ (nine m here ++ row 21 (last p here) m)

-- it is the page of the form
pub page_is : (m p : ℕ) (present : Set) (t : ℕ) → page m p present t ≡ page_of m p (present t) t
page_is m p present t = go (present t)
  where
    go : (here : Bool) → cond here (present_page m p t) (away_page m t) ≡ page_of m p here t
    go true = refl
    go false = refl

-- a part below 1 is 0
pub part_one : part 1 ≡ away_part
part_one = fun_ext (λ g. ap (λ (test : Test). command 21 g ++ test ∷ []) (fun_ext zero_alone))
  where
    zero_alone : (b : ℕ) → below 1 b ≡ is 0 b
    zero_alone zero = refl
    zero_alone (suc b) = le-ltb (suc b) 1 (omega arith) ∙ sym (ne_eqb (suc b) 0 (λ e. omega arith))

-- the lengths of the pieces
pub set_length : (m : ℕ) → length (set m) ≡ 8
unfolding set
set_length m = refl

pub bound_length : (m : ℕ) → length (bound m) ≡ 9
bound_length m = let e = set_length m in omega arith

pub row_length : (byte : ℕ) (test : Test) (m : ℕ) → length (row byte test m) ≡ 3 * m
row_length byte test m = length_each [] (λ g. command byte g ++ test ∷ []) 3 (λ g. refl) m ∙ (omega arith)

pub nine_length : (m : ℕ) (here : Bool) → length (nine m here) ≡ 9
nine_length m true = let e = set_length m in omega arith
nine_length m false = refl

pub page_length_lem : (m p : ℕ) (present : Set) (t : ℕ) → length (page m p present t) ≡ 11 + 3 * m
page_length_lem m p present t =
    let a = length-append (nine m (present t)) (row 21 (last p (present t)) m) in
    let b = nine_length m (present t) in
    let c = row_length 21 (last p (present t)) m in
    ap length (page_is m p present t) ∙ (omega arith)
