-- The loops over classes: the counts, the capped sum, and the instruments with room.
use Prim.Native.Nat.{ℕ, suc, ◌+◌, ◌≤◌, ◌<◌, min}
use mathlib.Core.Path.{◌≡◌, refl, sym, ap, ◌∙◌, subst, subst⁻¹}
use mathlib.Core.Bool.{Bool, true, false, ◌&&◌, not, and-false}
use mathlib.Core.Logic.{inl, inr}
use mathlib.Core.List.{List}
use native.Mathlib.Omega.{arith}
use native.Mathlib.Numerals.{add-one}
use native.Mathlib.Decide.{ℕ_discrete}
use lib.Dec.{T, eqb}
use lib.ListN.{length, get_or, set, replicate, length-set, get_or-replicate}
use lib.Seq.{get_or-set_same, get_or-set_other}
use borrow.Author.Tests.{eq-eqb, ne_eqb}
use Rattle.matroid.specs.Taut.{T→true, T→false}
use Rattle.matroid.specs.Set.{Set, ◌∩◌, with, one, size}
use Rattle.matroid.specs.SetLaws.{size_with_in, with_cases, with_new, with_old}
use Rattle.matroid.specs.Division.{bundle}
use Rattle.matroid.proofs.Sets.{size_le}
use Rattle.sets.specs.Bits.{bit}
use Rattle.sets.proofs.Below.{bit_none}
use Rattle.caps.specs.Caps.{count}
use Rattle.caps.specs.Partition.{class_in}
use Rattle.caps.specs.Counts.{Counts, capped_sum, HasRoom, Room}
use Rattle.sets.proofs.Through.{Rests, run}

-- ---- the counts

pub counts_none : (class : List ℕ) (A : Set) → Counts class 0 A (replicate 16 0)
counts_none class A = record { long = refl; at = λ c l. get_or-replicate {A = ℕ} 16 c 0 0 l }

-- no count is above the number gone through
pub counts_few : (class : List ℕ) (n : ℕ) (A : Set) (counts : List ℕ) → Counts class n A counts → (c : ℕ) → c < 16 → get_or counts c 0 ≤ n
counts_few class n A counts h c l = let e = h.at c l in let few = size_le n (bundle (class_in class) c ∩ A) in omega arith

-- where A has no members on the way, no count changes
pub counts_rests : (class : List ℕ) (A : Set) (g : ℕ) (counts : List ℕ) → Rests A g (λ n. Counts class n A counts)
counts_rests class A g counts n l none h = record {
  long = h.long;
  at = λ c b. h.at c b ∙ run (λ k. size k (bundle (class_in class) c ∩ A)) n g l
      (λ k lo hi. let z = ap one (ap (λ (b : Bool). eqb (class_in class k) c && b) (T→false (A k) (none k lo hi)) ∙ and-false (eqb (class_in class k) c)) in omega arith);
}

module _ (class : List ℕ) (A : Set) (g : ℕ) (counts : List ℕ) (h : Counts class g A counts) (member : T (A g)) where
  -- the count of c after g
  count_next : (c : ℕ) (x : Bool) → eqb (class_in class g) c ≡ x → count (g + 1) (class_in class) A c ≡ count g (class_in class) A c + one x
  count_next c x e = rw (add-one g) (let z = ap one (ap (λ (b : Bool). b && A g) e ∙ ap (λ (b : Bool). x && b) (T→true (A g) member) ∙ keep x) in omega arith)
    where
      keep : (b : Bool) → (b && true) ≡ b
      keep true = refl
      keep false = refl

  -- an instrument in no class changes no count
  pub counts_skip : 16 ≤ class_in class g → Counts class (g + 1) A counts
  counts_skip out = record { long = h.long; at = λ c l. let e = h.at c l in let n = count_next c false (ne_eqb (class_in class g) c (omega arith)) in omega arith }

  -- an instrument of class k is one more there
  pub counts_put : (k : ℕ) (next : List ℕ) → k ≡ class_in class g → k < 16 → next ≡ set counts k (get_or counts k 0 + 1) → Counts class (g + 1) A next
  counts_put k next is small e = rw e (record { long = length-set counts k _ ∙ h.long; at = λ c l. go c l (ℕ_discrete c k) })
    where
      wide : length counts ≡ 16
      wide = h.long

      go : (c : ℕ) → c < 16 → Dec (c ≡ k) → get_or (set counts k (get_or counts k 0 + 1)) c 0 ≡ count (g + 1) (class_in class) A c
      go c l (yes same) =
          let was = h.at k small in
          let n = count_next k true (eq-eqb (class_in class g) k (sym is)) in
          rw same (get_or-set_same counts k _ 0 (omega arith) ∙ sum_is _ _ _ was n)
        where
          sum_is : (a b c : ℕ) → a ≡ b → c ≡ b + 1 → a + 1 ≡ c
          sum_is a b c p q = omega arith
      go c l (no differ) =
          let was = h.at c l in
          let n = count_next c false (ne_eqb (class_in class g) c (λ e. differ (sym e ∙ sym is))) in
          get_or-set_other counts k c _ 0 differ ∙ same_is _ _ _ was n
        where
          same_is : (a b c : ℕ) → a ≡ b → c ≡ b + 0 → a ≡ c
          same_is a b c p q = omega arith

-- a member that joins is one more in its class
pub counts_join : (class : List ℕ) (m : ℕ) (A : Set) (counts : List ℕ) → Counts class m A counts → (g k : ℕ) (next : List ℕ) → g < m → T (not (A g)) → k ≡ class_in class g → k < 16
    → next ≡ set counts k (get_or counts k 0 + 1) → Counts class m (with A g) next
counts_join class m A counts h g k next l out is small e = rw e (record { long = length-set counts k _ ∙ h.long; at = λ c b. go c b (ℕ_discrete c k) })
  where
    wide : length counts ≡ 16
    wide = h.long

    joined : (c : ℕ) (x : Bool) → eqb (class_in class g) c ≡ x → count m (class_in class) (with A g) c ≡ count m (class_in class) A c + one x
    joined c x q = size_with_in m (bundle (class_in class) c) A g l out ∙ ap (λ (b : Bool). count m (class_in class) A c + one b) q

    sum_is : (a b c d : ℕ) → a ≡ b → c ≡ b + d → a + d ≡ c
    sum_is a b c d p q = omega arith

    none_is : (a b c : ℕ) → a ≡ b → c ≡ b + 0 → a ≡ c
    none_is a b c p q = omega arith

    go : (c : ℕ) → c < 16 → Dec (c ≡ k) → get_or (set counts k (get_or counts k 0 + 1)) c 0 ≡ count m (class_in class) (with A g) c
    go c b (yes same) = rw same (get_or-set_same counts k _ 0 (omega arith) ∙ sum_is _ _ _ 1 (h.at k small) (joined k true (eq-eqb (class_in class g) k (sym is))))
    go c b (no differ) = get_or-set_other counts k c _ 0 differ ∙ none_is _ _ _ (h.at c b) (joined c false (ne_eqb (class_in class g) c (λ q. differ (sym q ∙ sym is))))

-- ---- the capped sum

pub sum_none : (counts cap : List ℕ) → 0 ≡ capped_sum counts cap 0
unfolding capped_sum
sum_none counts cap = refl

pub sum_more : (counts cap : List ℕ) (c total most : ℕ) → total ≡ capped_sum counts cap c → most ≡ min (get_or cap c 0) (get_or counts c 0) → total + most ≡ capped_sum counts cap (c + 1)
unfolding capped_sum
sum_more counts cap c total most e f = rw (add-one c, e, f) refl

-- ---- the instruments with room

pub room_none : (class cap counts : List ℕ) → Room class cap counts 0 0
room_none class cap counts = record { at = λ j. (λ t. absurd (subst T (bit_none j) t), λ (l, _). absurd (omega arith)) }

module _ (class cap counts : List ℕ) (g r : ℕ) (h : Room class cap counts g r) where
  pub room_take : (next : ℕ) → HasRoom class cap counts g → ((j : ℕ) → bit next j ≡ with (bit r) g j) → Room class cap counts (g + 1) next
  room_take next has is = record {
    at = λ j. (
      λ t. elim (with_cases (bit r) g j (subst T (is j) t)) [
        | inl old ↦ let (l, rest) = (h.at j).0 old in (omega arith, rest)
        | inr e ↦ (omega arith, subst⁻¹ (HasRoom class cap counts) e has)
      ],
      λ (l, rest). subst⁻¹ T (is j) (elim (ℕ_discrete j g) [
        | yes e ↦ subst⁻¹ (λ (k : ℕ). T (with (bit r) g k)) e (with_new (bit r) g)
        | no d ↦ (with_old {m = suc j} (bit r) g).at j (omega arith) ((h.at j).1 (omega arith, rest))
      ]),
    );
  }

  -- g is in no class, or its class is full
  pub room_skip : (HasRoom class cap counts g → ⊥) → Room class cap counts (g + 1) r
  room_skip never = record {
    at = λ j. (
      λ t. let (l, rest) = (h.at j).0 t in (omega arith, rest),
      λ (l, rest). elim (ℕ_discrete j g) [
        | yes e ↦ absurd (never (subst (HasRoom class cap counts) e rest))
        | no d ↦ (h.at j).1 (omega arith, rest)
      ],
    );
  }
