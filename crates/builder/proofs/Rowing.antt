-- Laws of rows.
use Prim.Native.Nat.{ℕ, zero, suc, ◌+◌, ◌-◌, ◌*◌, ◌/◌, ◌%◌, ◌^◌, ◌≤◌, ◌<◌}
use mathlib.Core.Path.{◌≡◌, refl, sym, ap, ◌∙◌, subst}
use mathlib.Core.Logic.{inl, inr}
use mathlib.Core.List.{List, ◌++◌}
use native.Mathlib.Omega.{arith}
use native.Mathlib.Nat.{div-one}
use native.Mathlib.Decide.{dec_lt, ℕ_discrete}
use lib.ListN.{length, get_or, set, take, drop, length-set, length-take, length-drop, length-append, get_or-append}
use lib.Seq.{get_or-set_same, get_or-set_other, get_or-take, get_or-drop, length-take-le, get_or-append-add}
use Rattle.std.specs.Int.{to_le_bytes, w64}
use borrow.Author.Tests.{lt-ltb, le-ltb}
use Rattle.builder.specs.Rows.{Row, three, set_bytes, row_bytes, join}

-- nothing is written
pub row_none : (b : List ℕ) (at : ℕ) (f : ℕ → ℕ) → Row b b at 0 f
row_none b at f = record { long = refl; inside = λ k l. absurd (omega arith); outside = λ i o. refl }

-- one row after another
pub row_join : (b₀ b₁ b₂ : List ℕ) (at l l' : ℕ) (f g : ℕ → ℕ) → Row b₀ b₁ at l f → Row b₁ b₂ (at + l) l' g → Row b₀ b₂ at (l + l') (join l f g)
row_join b₀ b₁ b₂ at l l' f g r r' = record {
  long = r'.long ∙ r.long;
  inside = λ k b. go k b (dec_lt k l);
  outside = λ i o. r'.outside i (elim o [ inl x ↦ inl (omega arith) | inr x ↦ inr (omega arith) ]) ∙ r.outside i (elim o [ inl x ↦ inl x | inr x ↦ inr (omega arith) ]);
}
  where
    go : (k : ℕ) → k < l + l' → Dec (k < l) → get_or b₂ (at + k) 0 ≡ join l f g k
    go k b (yes c) = rw (lt-ltb k l c) (r'.outside (at + k) (inl (omega arith)) ∙ r.inside k c)
    go k b (no d) =
        let e : at + k ≡ (at + l) + (k - l) = omega arith in
        rw (le-ltb k l (omega arith)) (ap (λ (i : ℕ). get_or b₂ i 0) e ∙ r'.inside (k - l) (omega arith))

-- one byte more, by a store
pub row_more : (b₀ b b' : List ℕ) (at k v : ℕ) (f : ℕ → ℕ) → Row b₀ b at k f → at + k < length b → b' ≡ set b (at + k) v → v ≡ f k → Row b₀ b' at (k + 1) f
row_more b₀ b b' at k v f r room is e = rw is (record {
  long = length-set b (at + k) v ∙ r.long;
  inside = λ j l. elim (ℕ_discrete j k) [
    | yes same ↦ rw same (get_or-set_same b (at + k) v 0 room ∙ e)
    | no other ↦ get_or-set_other b (at + k) (at + j) v 0 (omega arith) ∙ r.inside j (omega arith)
  ];
  outside = λ i o. get_or-set_other b (at + k) i v 0 (elim o [ inl x ↦ omega arith | inr x ↦ omega arith ]) ∙ r.outside i (elim o [ inl x ↦ inl x | inr x ↦ inr (omega arith) ]);
})

-- the same bytes by another rule
pub row_same : (b b' : List ℕ) (at l : ℕ) (f g : ℕ → ℕ) → Row b b' at l f → ((k : ℕ) → k < l → f k ≡ g k) → Row b b' at l g
row_same b b' at l f g r h = record { long = r.long; inside = λ k b. r.inside k b ∙ h k b; outside = r.outside }

-- a row that is copied to its place
pub row_put : (b ys : List ℕ) (at k n : ℕ) (f : ℕ → ℕ) → k ≡ n → length ys ≡ n → at + n ≤ length b → ((j : ℕ) → j < n → get_or ys j 0 ≡ f j) → Row b (take at b ++ (ys ++ drop k (drop at b))) at n f
row_put b ys at k n f is long room same = record {
  long = simp (length-append, length-take, length-drop) (omega arith);
  inside = λ j l. let e : at + j ≡ length (take at b) + j = omega (arith, front) in
      ap (λ (i : ℕ). get_or put i 0) e ∙ get_or-append-add (take at b) (ys ++ drop k (drop at b)) j 0 ∙ get_or-append ys (drop k (drop at b)) 0 j (omega arith) ∙ same j l;
  outside = λ i o. elim o [
    | inl x ↦ get_or-append (take at b) (ys ++ drop k (drop at b)) 0 i (omega (arith, front)) ∙ get_or-take at b i 0 x
    | inr x ↦ after i x
  ];
}
  where
    put : List ℕ
    put = take at b ++ (ys ++ drop k (drop at b))

    front : length (take at b) ≡ at
    front = length-take-le at b (omega arith)

    after : (i : ℕ) → at + n ≤ i → get_or put i 0 ≡ get_or b i 0
    after i x =
        let j = i - at - n in
        let e : i ≡ length (take at b) + (length ys + j) = omega (arith, front) in
        let e' : at + (k + j) ≡ i = omega arith in
        ap (λ (i : ℕ). get_or put i 0) e ∙ get_or-append-add (take at b) (ys ++ drop k (drop at b)) (length ys + j) 0 ∙ get_or-append-add ys (drop k (drop at b)) j 0
        ∙ get_or-drop k (drop at b) j 0 ∙ get_or-drop at b (k + j) 0 ∙ ap (λ (i : ℕ). get_or b i 0) e'

-- the bytes of a set
pub row_set : (b ys : List ℕ) (at k set : ℕ) → k ≡ 8 → at + 8 ≤ length b → ys ≡ to_le_bytes w64 set → Row b (take at b ++ (ys ++ drop k (drop at b))) at 8 (set_bytes set)
unfolding set_bytes
row_set b ys at k set is room e = row_put b ys at k 8 (set_bytes set) is (ap length e) room (λ j l. ap (λ (x : List ℕ). get_or x j 0) e ∙ each j l)
  where
    each : (j : ℕ) → j < 8 → get_or (to_le_bytes w64 set) j 0 ≡ set / 256 ^ j % 256
    each zero l = ap (λ (x : ℕ). x % 256) (sym (div-one set))
    each (suc zero) l = refl
    each (suc (suc zero)) l = refl
    each (suc (suc (suc zero))) l = refl
    each (suc (suc (suc (suc zero)))) l = refl
    each (suc (suc (suc (suc (suc zero))))) l = refl
    each (suc (suc (suc (suc (suc (suc zero)))))) l = refl
    each (suc (suc (suc (suc (suc (suc (suc zero))))))) l = refl
    each (suc (suc (suc (suc (suc (suc (suc (suc j)))))))) l = absurd (omega arith)

-- the commands of the instruments, one at a time
pub rows_more : (b₀ b b' : List ℕ) (at g byte : ℕ) (table : List ℕ) → Row b₀ b at (3 * g) (row_bytes byte table) → Row b b' (at + 3 * g) 3 (three byte g (get_or table g 0)) → Row b₀ b' at (3 * (g + 1)) (row_bytes byte table)
unfolding row_bytes
rows_more b₀ b b' at g byte table r r' =
    let len : 3 * g + 3 ≡ 3 * (g + 1) = omega arith in
    subst (λ (l : ℕ). Row b₀ b' at l (row_bytes byte table)) len
    (row_same b₀ b' at (3 * g + 3) (join (3 * g) (row_bytes byte table) (three byte g (get_or table g 0))) (row_bytes byte table) (row_join b₀ b b' at (3 * g) 3 (row_bytes byte table) (three byte g (get_or table g 0)) r r') same)
  where
    last : (j : ℕ) → j < 3 → three byte g (get_or table g 0) j ≡ row_bytes byte table (3 * g + j)
    last j l =
        let q : (3 * g + j) / 3 ≡ g = omega arith in
        let m : (3 * g + j) % 3 ≡ j = omega arith in
        rw (q, m) refl

    same : (k : ℕ) → k < 3 * g + 3 → join (3 * g) (row_bytes byte table) (three byte g (get_or table g 0)) k ≡ row_bytes byte table k
    same k l = elim (dec_lt k (3 * g)) [
      | yes b ↦ rw (lt-ltb k (3 * g) b) refl
      | no d ↦ rw (le-ltb k (3 * g) (omega arith)) (last (k - 3 * g) (omega arith) ∙ ap (row_bytes byte table) (let e : 3 * g + (k - 3 * g) ≡ k = omega arith in e))
    ]

-- one byte, by a store
pub row_byte : (b : List ℕ) (at v : ℕ) → at + 1 ≤ length b → Row b (set b at v) at 1 (λ k. v)
row_byte b at v room = let e : at ≡ at + 0 = omega arith in row_more b b (set b at v) at 0 v (λ k. v) (row_none b at (λ k. v)) (omega arith) (ap (λ (i : ℕ). set b i v) e) refl
