-- What may join an independent set of CAPS, and what a set is worth, by the counts of its classes.
use Prim.Native.Nat.{ℕ, ◌<◌, ◌+◌, min}
use mathlib.Core.Path.{◌≡◌, refl, sym, ap, ◌∙◌, subst, subst⁻¹, fun_ext}
use mathlib.Core.Bool.{not}
use mathlib.Core.Logic.{◌↔◌}
use mathlib.Core.List.{List}
use native.Mathlib.Omega.{arith}
use lib.Dec.{T, ltb→lt}
use lib.ListN.{get_or, set}
use Rattle.matroid.specs.Taut.{both, and_left, and_right}
use Rattle.matroid.specs.Set.{Set, ◌∖◌, with}
use Rattle.matroid.specs.SetLaws.{with_new, size_with_in, one_eq}
use Rattle.matroid.specs.Matroid.{worth}
use Rattle.matroid.specs.Division.{bundle}
use Rattle.matroid.proofs.Sums.{sum_same}
use Rattle.sets.specs.Bits.{bit}
use Rattle.sets.specs.Joining.{MayJoin}
use Rattle.caps.specs.Caps.{classes, count, Capped}
use Rattle.caps.specs.Partition.{class_in, cap_in, caps_of, partition, capped_join}
use Rattle.caps.specs.Counts.{Counts, capped_sum, Room}
use Rattle.caps.proofs.Rank.{partition_worth}
use Rattle.caps.proofs.Classes.{counts_join}

module _ (m : ℕ) (class cap : ℕ → ℕ) where
  -- with one more instrument a capped set stays so exactly when the instrument is put in a class that has room
  pub capped_with : {A : Set} (g : ℕ) → Capped m class cap A → g < m → T (not (A g))
      → Capped m class cap (with A g) ↔ ((class g < classes) × (count m class A (class g) < cap (class g)))
  capped_with {A} g a l out = (
    λ w.
        let p = ltb→lt (class g) classes (w.placed.at g l (with_new A g)) in
        let most = w.capped (class g) p in
        let more = size_with_in m (bundle class (class g)) A g l out in
        let here = one_eq (class g) (class g) refl in
        (p, omega arith),
    λ (p, room). capped_join m class cap g a l out p room,
  )

module _ (m : ℕ) (class caps counts : List ℕ) (set : ℕ) (h : Counts class m (bit set) counts) where
  -- what is put in a class with room may join
  pub caps_gains : (room r : ℕ) → Room class caps counts m room → ((j : ℕ) → bit r j ≡ (bit room ∖ bit set) j)
      → (caps_of m class caps).Indep (bit set) → MayJoin (caps_of m class caps) (bit set) r
  unfolding classes partition
  caps_gains room r has is i = record {
    at = λ j. (
      λ t.
          let u = subst T (is j) t in
          let (l, (p, f)) = (has.at j).0 (and_left (bit room j) _ u) in
          let out = and_right (bit room j) _ u in
          let e = h.at (class_in class j) p in
          (l, (out, (capped_with m (class_in class) (cap_in caps) j i l out).1 (p, omega arith))),
      λ (l, (out, joins)).
          let (p, f) = (capped_with m (class_in class) (cap_in caps) j i l out).0 joins in
          let e = h.at (class_in class j) p in
          subst⁻¹ T (is j) (both (bit room j) _ ((has.at j).1 (l, (p, omega arith))) out),
    );
  }

  -- a set is worth what its classes have, up to the caps
  pub caps_sum : worth (caps_of m class caps) (bit set) ≡ capped_sum counts caps 16
  unfolding classes capped_sum
  caps_sum = partition_worth m (class_in class) (cap_in caps) (bit set)
      ∙ sum_same 16 (λ c. min (cap_in caps c) (count m (class_in class) (bit set) c)) (λ c. min (cap_in caps c) (get_or counts c 0)) (λ c l. ap (min (cap_in caps c)) (sym (h.at c l)))

-- an instrument of a class with room may join, and is one more there
pub caps_join : (m : ℕ) (class caps counts : List ℕ) (larger g c : ℕ) (next : List ℕ) → c ≡ class_in class g → c < 16 → g < m → T (not (bit larger g))
    → get_or counts c 0 < get_or caps c 0 → next ≡ set counts c (get_or counts c 0 + 1) → (more : ℕ) → ((j : ℕ) → bit more j ≡ with (bit larger) g j)
    → (caps_of m class caps).Indep (bit larger) → Counts class m (bit larger) counts
    → (caps_of m class caps).Indep (with (bit larger) g) × Counts class m (bit more) next
unfolding classes partition
caps_join m class caps counts larger g c next is lc l out fewer is-next more is-more i h =
    let here = rw is at fewer in
    let e = h.at (class_in class g) (omega arith) in (
      (capped_with m (class_in class) (cap_in caps) g i l out).1 (omega arith, omega arith),
      subst⁻¹ (λ (A : Set). Counts class m A next) (fun_ext is-more) (counts_join class m (bit larger) counts h g c next l out is lc is-next),
    )
