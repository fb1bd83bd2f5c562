-- Laws of sets that the definitions of matroids need: here and in the crates of the kinds of team.
use Rattle.std.specs.Prelude.{ℕ, zero, suc, ◌+◌, ◌≤◌, ◌<◌, ◌≡◌, refl, Bool, true, false, ◌&&◌, ◌||◌, not, ◌⊎◌, ◌≢◌, T, eqb}
use Rattle.std.proofs.Common.{zero-le, sym, ap, subst, inl, inr, ⊎_elim, arith, le_refl, eqb→eq, T_not}
use Rattle.std.proofs.Math.Bool.{or-false, and-true, and-false}
use Rattle.std.proofs.Math.Decide.{ℕ_discrete, dec_le}
use Rattle.std.proofs.Math.Dec.{eqb_refl, not_T}
use Rattle.matroid.specs.Taut.{decide_T, T→true, T→false, both, and_right, or_cases, ◌⇒◌, all₂, all₃, follows₂, follows₃}
use Rattle.matroid.specs.Set.{Set, none, ◌∪◌, ◌∩◌, ◌∖◌, complement, only, with, without, one, size, Within}

-- ---- members

-- equal numbers pass the test, and others fail it
pub eq→eqb : (k g : ℕ) → k ≡ g → T (eqb k g)
eq→eqb k g e = subst (λ (x : ℕ). T (eqb k x)) e (eqb_refl k)

pub ne→eqb : (k g : ℕ) → k ≢ g → T (not (eqb k g))
ne→eqb k g d = not_T (eqb k g) (λ t. d (eqb→eq k g t))

pub eqb→ne : (k g : ℕ) → T (not (eqb k g)) → k ≢ g
eqb→ne k g t e = T_not (eqb k g) t (eq→eqb k g e)

-- a member and a number that is no member differ
pub differ : (A : Set) {k g : ℕ} → T (A k) → T (not (A g)) → k ≢ g
differ A {k} {g} p q e = T_not (A g) q (subst (λ (x : ℕ). T (A x)) e p)

-- a member of `with A g` is a member of A, or is g
pub with_cases : (A : Set) (g k : ℕ) → T (with A g k) → T (A k) ⊎ (k ≡ g)
with_cases A g k t = ⊎_elim inl (λ e. inr (eqb→eq k g e)) (or_cases (A k) (eqb k g) t)

-- g is in `with A g`
pub with_new : (A : Set) (g : ℕ) → T (with A g g)
with_new A g = follows₂ (λ a e. e) (λ a e. a || e) tt (A g) (eqb g g) (eqb_refl g)

-- a member of `without A g` is not g
pub without_ne : (A : Set) (g k : ℕ) → T (without A g k) → k ≢ g
without_ne A g k t = eqb→ne k g (and_right (A k) _ t)

-- a member of C that is new to `C ∩ A` is new to A
pub inter_out : (C A : Set) (k : ℕ) → T (C k) → T (not ((C ∩ A) k)) → T (not (A k))
inter_out C A k c o = follows₂ (λ c a. c && not (c && a)) (λ c a. not a) tt (C k) (A k) (both (C k) (not ((C ∩ A) k)) c o)

-- ---- parts

-- a law of tests is a law of sets
pub within₂ : {m : ℕ} (p q : Bool → Bool → Bool) → T (all₂ (λ a b. p a b ⇒ q a b)) → (A B : Set) → Within m (λ k. p (A k) (B k)) (λ k. q (A k) (B k))
within₂ p q t A B = record { at = λ k _. follows₂ p q t (A k) (B k) }

pub within₃ : {m : ℕ} (p q : Bool → Bool → Bool → Bool) → T (all₃ (λ a b c. p a b c ⇒ q a b c)) → (A B C : Set) → Within m (λ k. p (A k) (B k) (C k)) (λ k. q (A k) (B k) (C k))
within₃ p q t A B C = record { at = λ k _. follows₃ p q t (A k) (B k) (C k) }

-- to be within is reflexive and transitive
pub within_refl : {m : ℕ} {A : Set} → Within m A A
within_refl = record { at = λ k l t. t }

pub within_trans : {m : ℕ} {A B C : Set} → Within m A B → Within m B C → Within m A C
within_trans f g = record { at = λ k l t. g.at k l (f.at k l t) }

-- the empty set is within any
pub within_none : {m : ℕ} {A : Set} → Within m none A
within_none = record { at = λ k l t. absurd t }

-- the union is the least set that both are within
pub union_left : {m : ℕ} (A B : Set) → Within m A (A ∪ B)
union_left = within₂ (λ a b. a) (λ a b. a || b) tt

pub union_right : {m : ℕ} (A B : Set) → Within m B (A ∪ B)
union_right = within₂ (λ a b. b) (λ a b. a || b) tt

pub union_least : {m : ℕ} {A B C : Set} → Within m A C → Within m B C → Within m (A ∪ B) C
union_least {A = A} {B = B} f g = record { at = λ k l t. ⊎_elim (f.at k l) (g.at k l) (or_cases (A k) (B k) t) }

-- `A ∖ B` is `A ∩ complement B`, so these three speak of it too
pub inter_left : {m : ℕ} (A B : Set) → Within m (A ∩ B) A
inter_left = within₂ (λ a b. a && b) (λ a b. a) tt

pub inter_right : {m : ℕ} (A B : Set) → Within m (A ∩ B) B
inter_right = within₂ (λ a b. a && b) (λ a b. b) tt

pub inter_most : {m : ℕ} {A B C : Set} → Within m C A → Within m C B → Within m C (A ∩ B)
inter_most {A = A} {B = B} f g = record { at = λ k l t. both (A k) (B k) (f.at k l t) (g.at k l t) }

pub inter_mono : {m : ℕ} {A B : Set} (C : Set) → Within m A B → Within m (A ∩ C) (B ∩ C)
inter_mono {A = A} C h = inter_most (within_trans (inter_left A C) h) (inter_right A C)

-- `with A g` is the least set that has A and g
pub with_old : {m : ℕ} (A : Set) (g : ℕ) → Within m A (with A g)
with_old A g = union_left A (only g)

pub with_least : {m : ℕ} {A B : Set} (g : ℕ) → Within m A B → T (B g) → Within m (with A g) B
with_least {B = B} g h b = union_least h (record { at = λ k l e. subst (λ (x : ℕ). T (B x)) (sym (eqb→eq k g e)) b })

-- what is left is a part
pub without_old : {m : ℕ} (A : Set) (g : ℕ) → Within m (without A g) A
without_old A g = inter_left A (complement (only g))

-- ---- sizes

-- a test that implies another counts no more
pub one_le : (a b : Bool) → (T a → T b) → one a ≤ one b
one_le true true h = le_refl 1
one_le true false h = absurd (h tt)
one_le false b h = zero-le

-- an equation counts as 1 where it holds and as 0 where it does not
pub one_eq : (k g : ℕ) → k ≡ g → one (eqb k g) ≡ 1
one_eq k g e = ap one (T→true (eqb k g) (eq→eqb k g e))

pub one_ne : (k g : ℕ) → k ≢ g → one (eqb k g) ≡ 0
one_ne k g d = ap one (T→false (eqb k g) (ne→eqb k g d))

-- the empty set counts nothing
pub size_none : (m : ℕ) → size m none ≡ 0
size_none zero = refl
size_none (suc m) = let below = size_none m in omega arith

-- what holds below m + 1 holds below m
below_within : {m : ℕ} {A B : Set} → Within (suc m) A B → Within m A B
below_within h = record { at = λ k l. h.at k (omega arith) }

-- a part is no larger than the whole
pub size_within : (m : ℕ) {A B : Set} → Within m A B → size m A ≤ size m B
size_within zero h = zero-le
size_within (suc m) {A} {B} h =
    let below = size_within m (below_within h) in
    let here = one_le (A m) (B m) (h.at m (omega arith)) in
    omega arith

-- sets with the same members below m have the same size
pub size_same : (m : ℕ) {A B : Set} → Within m A B → Within m B A → size m A ≡ size m B
size_same m f g =
    let le = size_within m f in
    let ge = size_within m g in
    omega arith

-- a test counts where another passes, or where it fails
one_split : (a b : Bool) → one a ≡ one (a && b) + one (a && not b)
one_split true true = refl
one_split true false = refl
one_split false b = refl

-- a set's members are counted in B and outside it
pub size_split : (m : ℕ) (A B : Set) → size m A ≡ size m (A ∩ B) + size m (A ∖ B)
size_split zero A B = refl
size_split (suc m) A B =
    let below = size_split m A B in
    let here = one_split (A m) (B m) in
    omega arith

-- sets that agree below m have the same size
pub size_agree : (m : ℕ) (A B : Set) → ((k : ℕ) → k < m → A k ≡ B k) → size m A ≡ size m B
size_agree zero A B h = refl
size_agree (suc m) A B h =
    let below = size_agree m A B (λ k l. h k (omega arith)) in
    let here = ap one (h m (omega arith)) in
    omega arith

-- sets that differ at g alone differ in size by what stands at g
pub size_change : (m : ℕ) (A B : Set) (g : ℕ) → g < m → ((k : ℕ) → k ≢ g → A k ≡ B k) → size m A + one (B g) ≡ size m B + one (A g)
size_change zero A B g l h = absurd (omega arith)
size_change (suc m) A B g l h = go (λ (b : g < m). size_change m A B g b h) (ℕ_discrete g m)
  where
    go : (g < m → size m A + one (B g) ≡ size m B + one (A g)) → Dec (g ≡ m) → size (suc m) A + one (B g) ≡ size (suc m) B + one (A g)
    go rest (yes e) =
        let below = size_agree m A B (λ k b. h k (omega arith)) in
        let in_a = ap (λ (x : ℕ). one (A x)) e in
        let in_b = ap (λ (x : ℕ). one (B x)) e in
        omega arith
    go rest (no d) =
        let below = rest (omega arith) in
        let here = ap one (h m (λ e. d (sym e))) in
        omega arith

-- away from g nothing joins
pub with_away : (A : Set) (g k : ℕ) → k ≢ g → with A g k ≡ A k
with_away A g k d = rw (T→false (eqb k g) (ne→eqb k g d)) (or-false (A k))

-- a new member makes a set one larger
pub size_with : (m : ℕ) (A : Set) (g : ℕ) → g < m → T (not (A g)) → size m (with A g) ≡ size m A + 1
size_with m A g l t =
    let change = size_change m (with A g) A g l (with_away A g) in
    let out = ap one (T→false (A g) t) in
    let inside = ap one (T→true (with A g g) (with_new A g)) in
    omega arith

-- a new member makes its part in C one larger where C has it
pub size_with_in : (m : ℕ) (C A : Set) (g : ℕ) → g < m → T (not (A g)) → size m (C ∩ with A g) ≡ size m (C ∩ A) + one (C g)
size_with_in m C A g l t =
    let change = size_change m (C ∩ with A g) (C ∩ A) g l (λ k d. ap (λ (b : Bool). C k && b) (with_away A g k d)) in
    let out : one (C g && A g) ≡ 0 = rw (T→false (A g) t, and-false) refl in
    let inside : one (C g && with A g g) ≡ one (C g) = rw (T→true (with A g g) (with_new A g), and-true) refl in
    omega arith

-- a member taken out makes it one smaller
pub size_without : (m : ℕ) (A : Set) (g : ℕ) → g < m → T (A g) → size m (without A g) + 1 ≡ size m A
size_without m A g l t =
    let new = size_with m (without A g) g l (follows₂ (λ a e. e) (λ a e. not (a && not e)) tt (A g) (eqb g g) (eqb_refl g)) in
    let same = size_same m (with_least g (without_old A g) t) (within₂ (λ a e. a) (λ a e. (a && not e) || e) tt A (only g)) in
    omega arith

-- a set with every number below m has m
pub size_all : (m : ℕ) (A : Set) → ((k : ℕ) → k < m → T (A k)) → size m A ≡ m
size_all zero A h = refl
size_all (suc m) A h =
    let below = size_all m A (λ k l. h k (omega arith)) in
    let here = ap one (T→true (A m) (h m (omega arith))) in
    omega arith

-- a set that is matched one to one into another is no larger
pub size_inject : (n k : ℕ) (A B : Set) (R : ℕ → ℕ → Type 0)
    → ((i : ℕ) → i < n → T (A i) → (j : ℕ) × (j < k) × (T (B j) × R i j))
    → ((i i' j : ℕ) → i < n → i' < n → T (A i) → T (A i') → R i j → R i' j → i ≡ i')
    → size n A ≤ size k B
size_inject zero k A B R to differ = zero-le
size_inject (suc n) k A B R to differ =
    let differ' : (i i' j : ℕ) → i < n → i' < n → T (A i) → T (A i') → R i j → R i' j → i ≡ i' = λ i i' j l l'. differ i i' j (omega arith) (omega arith) in
    elim (decide_T (A n)) [
      | inr out ↦
          let below = size_inject n k A B R (λ i l. to i (omega arith)) differ' in
          let here = ap one (T→false (A n) out) in
          omega arith
      | inl a ↦
          let (j, l, (b, r)) = to n (omega arith) a in
          let below = size_inject n k A (without B j) R (others a j r) differ' in
          let fewer = size_without k B j l b in
          let here = ap one (T→true (A n) a) in
          omega arith
    ]
  where
    -- where n is matched to j, the others are matched to others than j
    others : T (A n) → (j : ℕ) → R n j → (i : ℕ) → i < n → T (A i) → (j' : ℕ) × (j' < k) × (T (without B j j') × R i j')
    others a j r i l a' =
        let (j', l', (b', r')) = to i (omega arith) a' in
        let other : j' ≢ j = λ e. let same = differ i n j (omega arith) (omega arith) a' a (subst (R i) e r') r in omega arith in
        (j', l', (both (B j') _ b' (ne→eqb j' j other), r'))

-- a member of B that A lacks
pub record Extra (m : ℕ) (A B : Set) : Type 0 where
  pub at : ℕ
  pub below : at < m
  pub there : T (B at)
  pub fresh : T (not (A at))

-- a larger set has a member that a smaller one lacks
pub size_extra : (m : ℕ) (A B : Set) → size m A < size m B → Extra m A B
size_extra zero A B h = absurd (omega arith)
size_extra (suc m) A B h = go (λ (l : size m A < size m B). size_extra m A B l) (decide_T (B m)) (decide_T (A m))
  where
    down : (size m A < size m B → Extra m A B) → one (B m) ≤ one (A m) → Extra (suc m) A B
    down rest l =
        let e = rest (omega arith) in
        let b = e.below in
        record { at = e.at; below = omega arith; there = e.there; fresh = e.fresh }

    go : (size m A < size m B → Extra m A B) → T (B m) ⊎ T (not (B m)) → T (A m) ⊎ T (not (A m)) → Extra (suc m) A B
    go rest (inl b) (inr a) = record { at = m; below = omega arith; there = b; fresh = a }
    go rest (inl b) (inl a) = down rest (one_le (B m) (A m) (λ _. a))
    go rest (inr b) a = down rest (one_le (B m) (A m) (λ t. absurd (T_not (B m) b t)))

-- a set that is not empty has a member
pub size_some : (m : ℕ) (A : Set) → 0 < size m A → Extra m none A
size_some m A l = let z = size_none m in size_extra m none A (omega arith)

-- a part as large as the whole is the whole
pub size_full : {m : ℕ} {A B : Set} → Within m A B → size m B ≤ size m A → Within m B A
size_full {m} {A} {B} h l = record { at = λ k b t. go k b t (decide_T (A k)) }
  where
    go : (k : ℕ) → k < m → T (B k) → T (A k) ⊎ T (not (A k)) → T (A k)
    go k b t (inl a) = a
    go k b t (inr a) =
        let grown = size_with m A k b a in
        let fits = size_within m (with_least k h t) in
        absurd (omega arith)

-- sets that share nothing are counted apart
pub size_union : (m : ℕ) (A B : Set) → Within m A (complement B) → size m (A ∪ B) ≡ size m A + size m B
size_union m A B h =
    let split = size_split m (A ∪ B) B in
    let in_b = size_same m (inter_right (A ∪ B) B) (inter_most (union_right A B) within_refl) in
    let in_a = size_same m (within₂ (λ a b. (a || b) && not b) (λ a b. a) tt A B) (inter_most (union_left A B) h) in
    omega arith

-- whether A is within B is decided by counting the members that they share
unfoldable pub within? : (m : ℕ) (A B : Set) → Dec (Within m A B)
unfolding dec_le
within? m A B = go (dec_le (size m A) (size m (A ∩ B)))
  where
    go : Dec (size m A ≤ size m (A ∩ B)) → Dec (Within m A B)
    go (yes l) = yes (within_trans (size_full (inter_left A B) l) (inter_right A B))
    go (no d) = no (λ h. d (size_within m (inter_most within_refl h)))
