-- The rows of a sheet, one after another.
use Prim.Native.Nat.{ℕ, ◌+◌, ◌*◌, ◌≤◌, ◌<◌}
use mathlib.Core.Path.{◌≡◌, refl, ap, ◌∙◌, subst, subst⁻¹}
use mathlib.Core.Logic.{inl, inr}
use mathlib.Core.List.{List}
use native.Mathlib.Omega.{arith}
use native.Mathlib.Nat.{mul-le-mul_right}
use native.Mathlib.Decide.{ℕ_discrete}
use lib.ListN.{get_or}
use Rattle.engine.specs.declared.divide.Division.{Division}
use Rattle.engine.specs.declared.share.Shared.{Shared}
use Rattle.engine.specs.Divide.{no_share}
use Rattle.sheet.specs.Layout.{page_length, share_start}
use Rattle.sheet.proofs.Places.{share_first, share_next, end_last}
use Rattle.builder.specs.Rows.{Row, three, set_bytes, row_bytes, join, page_bytes, PagesRow, Written}
use Rattle.builder.proofs.Rowing.{row_join}

-- a page is three bytes, a set and the rows of the instruments
pub page_row : (b₀ b₁ b₂ b₃ : List ℕ) (at m t : ℕ) (one : Shared) → Row b₀ b₁ at 3 (three 20 t one.share) → Row b₁ b₂ (at + 3) 8 (set_bytes one.bound) → Row b₂ b₃ (at + 11) (3 * m) (row_bytes 21 one.part)
    → Row b₀ b₃ at (11 + 3 * m) (page_bytes t one)
unfolding page_bytes
page_row b₀ b₁ b₂ b₃ at m t one r₁ r₂ r₃ =
    let e : at + 11 ≡ at + 3 + 8 = omega arith in
    let l : 3 + (8 + 3 * m) ≡ 11 + 3 * m = omega arith in
    let r₃' = subst (λ (i : ℕ). Row b₂ b₃ i (3 * m) (row_bytes 21 one.part)) e r₃ in
    subst (λ (i : ℕ). Row b₀ b₃ at i (join 3 (three 20 t one.share) (join 8 (set_bytes one.bound) (row_bytes 21 one.part)))) l
    (row_join b₀ b₁ b₃ at 3 (8 + 3 * m) (three 20 t one.share) (join 8 (set_bytes one.bound) (row_bytes 21 one.part)) r₁ (row_join b₁ b₂ b₃ (at + 3) 8 (3 * m) (set_bytes one.bound) (row_bytes 21 one.part) r₂ r₃'))

-- a page ends before the next one starts
pub share_mono : (m u t : ℕ) → u < t → share_start m u + page_length m ≤ share_start m t
unfolding share_start
share_mono m u t l = let times = mul-le-mul_right (page_length m) l in omega arith

pub share_le : (m t : ℕ) → share_start m 0 ≤ share_start m t
unfolding share_start
share_le m t = omega arith

pub pages_none : (b : List ℕ) (m : ℕ) (shares : List Shared) → PagesRow b b m 0 shares
pages_none b m shares = record { long = refl; inside = λ t l. absurd (omega arith); outside = λ i o. refl }

pub pages_more : (b₀ b b' : List ℕ) (m t : ℕ) (shares : List Shared) → PagesRow b₀ b m t shares → Row b b' (share_start m t) (11 + 3 * m) (page_bytes t (get_or shares t no_share)) → PagesRow b₀ b' m (t + 1) shares
pages_more b₀ b b' m t shares p r = record {
  long = r.long ∙ p.long;
  inside = λ u l k c. elim (ℕ_discrete u t) [
    | yes e ↦ subst⁻¹ (λ (x : ℕ). get_or b' (share_start m x + k) 0 ≡ page_bytes x (get_or shares x no_share) k) e (r.inside k c)
    | no d ↦ let before = share_mono m u t (omega arith) in r.outside (share_start m u + k) (inl (omega arith)) ∙ p.inside u (omega arith) k c
  ];
  outside = λ i o.
      let next = share_next m t in
      let first = share_le m t in
      r.outside i (elim o [ inl x ↦ inl (omega arith) | inr x ↦ inr (omega arith) ]) ∙ p.outside i (elim o [ inl x ↦ inl x | inr x ↦ inr (omega arith) ]);
}

-- all rows of a sheet
module _ (b₀ b₁ b₂ b₃ b₄ b₅ b₆ b₇ : List ℕ) (m n total : ℕ) (d : Division)
    (r₁ : Row b₀ b₁ 0 3 (three 17 m n)) (r₂ : Row b₁ b₂ 3 1 (λ k. total)) (r₃ : Row b₂ b₃ 4 (3 * m) (row_bytes 18 d.holding.owner)) (r₄ : Row b₃ b₄ (4 + 3 * m) 1 (λ k. 19))
    (r₅ : Row b₄ b₅ (4 + 3 * m + 1) 8 (set_bytes d.bound)) (p : PagesRow b₅ b₆ m n d.shares) (r₇ : Row b₆ b₇ (share_start m n) 1 (λ k. 22)) where
  first : share_start m 0 ≡ 4 + 3 * m + 9
  first = share_first m

  last : share_start m 0 ≤ share_start m n
  last = share_le m n

  -- a byte before the pages is changed by no page and not by END
  early : (i : ℕ) → i < share_start m 0 → get_or b₇ i 0 ≡ get_or b₅ i 0
  early i l = let a = last in r₇.outside i (inl (omega arith)) ∙ p.outside i (inl l)

  pub written : Written b₀ b₇ m n total d
  written =
      let f = first in
      let a = last in
      let len = end_last m n in
      record {
        long = r₇.long ∙ p.long ∙ r₅.long ∙ r₄.long ∙ r₃.long ∙ r₂.long ∙ r₁.long;
        head = λ k l. early k (omega arith) ∙ r₅.outside k (inl (omega arith)) ∙ r₄.outside k (inl (omega arith)) ∙ r₃.outside k (inl (omega arith)) ∙ r₂.outside k (inl l) ∙ ap (λ (i : ℕ). get_or b₁ i 0) (let e : k ≡ 0 + k = omega arith in e) ∙ r₁.inside k l;
        stated = early 3 (omega arith) ∙ r₅.outside 3 (inl (omega arith)) ∙ r₄.outside 3 (inl (omega arith)) ∙ r₃.outside 3 (inl (omega arith)) ∙ r₂.inside 0 (omega arith);
        gives = λ k l. early (4 + k) (omega arith) ∙ r₅.outside (4 + k) (inl (omega arith)) ∙ r₄.outside (4 + k) (inl (omega arith)) ∙ r₃.inside k l;
        bound = early (4 + 3 * m) (omega arith) ∙ r₅.outside (4 + 3 * m) (inl (omega arith)) ∙ ap (λ (i : ℕ). get_or b₄ i 0) (let e : 4 + 3 * m ≡ 4 + 3 * m + 0 = omega arith in e) ∙ r₄.inside 0 (omega arith);
        set = λ k l. early (4 + 3 * m + 1 + k) (omega arith) ∙ r₅.inside k l;
        pages = λ t l k c. let before = share_mono m t n l in r₇.outside (share_start m t + k) (inl (omega arith)) ∙ p.inside t l k c;
        end = ap (λ (i : ℕ). get_or b₇ i 0) (let e : share_start m n ≡ share_start m n + 0 = omega arith in e) ∙ r₇.inside 0 (omega arith);
        rest = λ i l. r₇.outside i (inr (omega arith)) ∙ p.outside i (inr (omega arith)) ∙ r₅.outside i (inr (omega arith)) ∙ r₄.outside i (inr (omega arith)) ∙ r₃.outside i (inr (omega arith)) ∙ r₂.outside i (inr (omega arith)) ∙ r₁.outside i (inr (omega arith));
      }
