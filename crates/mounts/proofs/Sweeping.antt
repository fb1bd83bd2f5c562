-- One pass over the mounts outside the set.
use Prim.Native.Nat.{ℕ, ◌+◌, ◌-◌, ◌^◌, ◌≤◌, ◌<◌}
use mathlib.Core.Path.{◌≡◌, refl, ap, sym, ◌∙◌, subst, subst⁻¹, fun_ext}
use mathlib.Core.Bool.{not}
use mathlib.Core.Logic.{inl, inr, ◌≢◌}
use mathlib.Core.List.{List}
use native.Mathlib.Omega.{arith}
use native.Mathlib.Decide.{dec_lt, ℕ_discrete}
use lib.Dec.{T, eqb, eqb_refl, ltb→lt, lt→ltb, T_not, not_T}
use lib.ListN.{length, get_or, replicate, length-set, length-replicate}
use lib.Count.{count_trailing_zeros}
use lib.Seq.{get_or-set_same, get_or-set_other}
use borrow.Author.Tests.{eq-eqb, ne_eqb}
use Rattle.std.specs.Int.{w64}
use Rattle.std.proofs.lemmas.Nat.Bits.{bit_at-trailing_zeros}
use Rattle.matroid.specs.Taut.{both, and_left, and_right}
use Rattle.matroid.specs.Set.{Set, ◌∩◌, ◌∖◌, under, with, without, size}
use Rattle.matroid.specs.SetLaws.{ne→eqb, differ, with_cases, size_with}
use Rattle.sets.specs.Bits.{bit}
use Rattle.sets.specs.Lowest.{Lowest}
use Rattle.sets.proofs.Trailing.{trailing_lowest}
use Rattle.mounts.specs.declared.matching.Matching.{Matching}
use Rattle.mounts.specs.declared.matching.Freed.{Freed}
use Rattle.mounts.specs.Matching.{Meets, Matched, Leads, Found}
use Rattle.mounts.proofs.Placing.{old_in}
use Rattle.mounts.proofs.Wording.{zero_at}
use Rattle.mounts.proofs.Reaching.{blocked}
use Rattle.mounts.specs.Mounts.{Mounted}
use Rattle.sets.proofs.Below.{bit_none}

-- numbers, apart from what they count
after_le : {a b x y : ℕ} → a ≡ b → b ≤ x → y ≡ x + 1 → a ≤ y
after_le e l n = omega arith

le_of_eq : {a b : ℕ} → a ≡ b → a ≤ b
le_of_eq e = omega arith

zero_le : (a : ℕ) → 0 ≤ a
zero_le a = omega arith

after_lt : {a b x y : ℕ} → a ≡ b → b ≤ x → y ≡ x + 1 → a < y
after_lt e l n = omega arith

-- a larger one has less up to w
pub nearer : {a b w : ℕ} → a < b → b ≤ w → w - b < w - a
nearer l m = omega arith

-- the least member of what two words share is in both
pub near_there : (w a b d : ℕ) → Lowest w d → d < 64 → ((j : ℕ) → bit w j ≡ (bit a ∩ bit b) j) → T (bit a d) × T (bit b d)
near_there w a b d low some is = let t = subst T (is d) (low.member some) in (and_left (bit a d) _ t, and_right (bit a d) _ t)

-- where they share nothing, no member of one is in the other
pub near_none : (w a b d : ℕ) → Lowest w d → 64 ≤ d → ((j : ℕ) → bit w j ≡ (bit a ∩ bit b) j) → ((j : ℕ) → T (bit b j) → j < 32) → (j : ℕ) → T (bit b j) → T (not (bit a j))
near_none w a b d low full is small j t =
    let l = small j t in
    not_T (bit a j) (λ u. T_not (bit w j) (low.least j (omega arith)) (subst⁻¹ T (is j) (both (bit a j) _ u t)))

-- so the word of what two others share tells whether there is such a member
pub meets_by : (w a b : ℕ) → w < 2 ^ 64 → ((j : ℕ) → bit w j ≡ (bit a ∩ bit b) j) → Meets (not (eqb w 0)) (bit a) (bit b)
meets_by w a b fits is = elim (ℕ_discrete w 0) [
  | yes e ↦ rw (eq-eqb w 0 e) (record {
    some = λ t. absurd t;
    none = λ _ c t. not_T (bit a c) (λ u. subst T (ap (λ (x : ℕ). bit x c) e ∙ bit_none c) (subst⁻¹ T (is c) (both (bit a c) _ u t)));
  })
  | no ne ↦
      let (l, _, _) = bit_at-trailing_zeros w64 w (omega arith) fits in
      let (u, t) = near_there w a b (count_trailing_zeros 64 w) (trailing_lowest w) l is in
      rw (ne_eqb w 0 ne) (record { some = λ _. (count_trailing_zeros 64 w, (t, u)); none = λ t. absurd t })
]

-- the free mounts can be freed
pub leads_free : (fits : ℕ → Set) (held : Matching) (s : Freed) → ((c : ℕ) → T (bit held.free c) → c < 32) → s.set ≡ held.free → s.next ≡ replicate 32 0 → s.depth ≡ replicate 32 0 → Leads fits held s
leads_free fits held s low e zeros flat = record {
  long = (ap length zeros ∙ length-replicate {A = ℕ} 32 0, ap length flat ∙ length-replicate {A = ℕ} 32 0);
  low = λ c t. low c (subst (λ (w : ℕ). T (bit w c)) e t);
  start = λ c t. subst⁻¹ (λ (w : ℕ). T (bit w c)) e t;
  deep = λ c t. subst⁻¹ (λ (k : ℕ). k ≤ size 64 (bit s.set)) (ap (λ (l : List ℕ). get_or l c 0) flat ∙ zero_at 32 c (dec_lt c 32)) (zero_le (size 64 (bit s.set)));
  step = λ c t used. absurd (T_not (bit held.free c) used (subst (λ (w : ℕ). T (bit w c)) e t));
}

module _ (fits : ℕ → Set) (held : Matching) (s r : Freed) (c d : ℕ) (f : Found s r c d) (leads : Leads fits held s) (below : c < 32) (out : T (not (bit s.set c))) where
  found_size : size 64 (bit r.set) ≡ size 64 (bit s.set) + 1
  found_size = ap (size 64) (fun_ext f.has) ∙ size_with 64 (bit s.set) c (omega arith) out

  stays : (j : ℕ) → T (bit s.set j) → T (bit r.set j)
  stays j t = subst⁻¹ T (f.has j) (old_in (bit s.set) c j t)

  -- the mounts of the set are not c
  other : (j : ℕ) → T (bit s.set j) → j ≢ c
  other j t = differ (bit s.set) t out

  old_depth : (j : ℕ) → T (bit s.set j) → get_or r.depth j 0 ≡ get_or s.depth j 0
  old_depth j t = rw f.deeper (get_or-set_other s.depth c j _ 0 (other j t))

  module _ (there : T (bit s.set d)) (fit : T (fits (get_or held.on c 0) d)) where
    -- c is within a table of 32
    inside : {l : ℕ} → l ≡ 32 → c < l
    inside e = omega arith

    new_next : get_or r.next c 0 ≡ d
    new_next = let (long, _) = leads.long in rw f.onward (get_or-set_same s.next c d 0 (omega arith))

    new_depth : get_or r.depth c 0 ≡ size 64 (bit s.set) + 1
    new_depth = let (_, long) = leads.long in rw f.deeper (get_or-set_same s.depth c _ 0 (inside long))

    abbrev Step : ℕ → Type 0
    Step j = T (bit r.set (get_or r.next j 0)) × T (fits (get_or held.on j 0) (get_or r.next j 0)) × (get_or r.depth (get_or r.next j 0) 0 < get_or r.depth j 0)

    step_new : Step c
    step_new =
        rw (new_next) (stays d there, fit, after_lt (old_depth d there) (leads.deep d there) new_depth)

    step_old : (j : ℕ) → T (bit s.set j) → T (not (bit held.free j)) → Step j
    step_old j t used =
        let (t', fit', less) = leads.step j t used in
        let e = old_depth j t in
        let e' = old_depth (get_or s.next j 0) t' in
        let same : get_or r.next j 0 ≡ get_or s.next j 0 = rw f.onward (get_or-set_other s.next c j d 0 (other j t)) in
        rw (same) (stays _ t', fit', omega arith)

    pub found_leads : Leads fits held r
    found_leads = record {
      long = let (n, d) = leads.long in (ap length f.onward ∙ length-set s.next c _ ∙ n, ap length f.deeper ∙ length-set s.depth c _ ∙ d);
      low = λ j t. elim (with_cases (bit s.set) c j (subst T (f.has j) t)) [ inl u ↦ leads.low j u | inr e ↦ omega arith ];
      start = λ j t. stays j (leads.start j t);
      deep = λ j t. elim (with_cases (bit s.set) c j (subst T (f.has j) t)) [
        | inl u ↦ after_le (old_depth j u) (leads.deep j u) found_size
        | inr e ↦ subst⁻¹ (λ (k : ℕ). get_or r.depth k 0 ≤ size 64 (bit r.set)) e (le_of_eq (new_depth ∙ sym found_size))
      ];
      step = λ j t used. elim (with_cases (bit s.set) c j (subst T (f.has j) t)) [ inl u ↦ step_old j u used | inr e ↦ rw e step_new ];
    }

-- The pass so far: what is left is still to be looked at; where nothing was found, no instrument looked at fits a mount of the set.
pub record Sweeping (fits : ℕ → Set) (held : Matching) (before : ℕ) (s : Freed) (left : ℕ) : Type 0 where
  pub leads : Leads fits held s
  pub ahead : (c : ℕ) → T (bit left c) → (c < 32) × T (not (bit s.set c))
  pub no_less : size 64 (bit before) ≤ size 64 (bit s.set)
  pub more : s.set ≢ before → size 64 (bit before) < size 64 (bit s.set)
  pub closed : s.set ≡ before → (c d : ℕ) → c < 32 → T (not (bit s.set c)) → T (not (bit left c)) → T (bit s.set d) → T (not (fits (get_or held.on c 0) d))

module _ (fits : ℕ → Set) (held : Matching) (before : ℕ) where
  -- nothing has been looked at
  pub sweeping_none : (s : Freed) (left all : ℕ) → Leads fits held s → s.set ≡ before → ((j : ℕ) → bit all j ≡ under 32 j) → ((j : ℕ) → bit left j ≡ (bit all ∖ bit s.set) j) → Sweeping fits held before s left
  sweeping_none s left all leads same is_all is-left = record {
    leads = leads;
    ahead = λ c t. let u = subst T (is-left c) t in (ltb→lt c 32 (subst T (is_all c) (and_left (bit all c) _ u)), and_right (bit all c) _ u);
    no_less = le_of_eq (ap (λ (w : ℕ). size 64 (bit w)) (sym same));
    more = λ other. absurd (other same);
    closed = λ _ c d l out seen. absurd (T_not (bit left c) seen (subst⁻¹ T (is-left c) (both (bit all c) _ (subst⁻¹ T (is_all c) (lt→ltb c 32 l)) out)));
  }

  module _ (s : Freed) (left c : ℕ) (h : Sweeping fits held before s left) (low : Lowest left c) where
    -- where nothing was found, no other mount can be freed
    pub sweeping_done : 64 ≤ c → s.set ≡ before → (d e : ℕ) → d < 32 → T (not (bit before d)) → T (bit before e) → T (not (fits (get_or held.on d 0) e))
    sweeping_done full still d e l out t = h.closed still d e l (subst⁻¹ (λ (w : ℕ). T (not (bit w d))) still out) (low.least d (omega arith)) (subst⁻¹ (λ (w : ℕ). T (bit w e)) still t)

    module _ (some : c < 64) (next : ℕ) (is-next : (j : ℕ) → bit next j ≡ without (bit left) c j) where
      -- the instrument on c fits no mount of the set
      pub sweeping_skip : ((d : ℕ) → T (bit s.set d) → T (not (fits (get_or held.on c 0) d))) → Sweeping fits held before s next
      sweeping_skip never = record {
        leads = h.leads;
        ahead = λ j t. h.ahead j (and_left (bit left j) _ (subst T (is-next j) t));
        no_less = h.no_less;
        more = h.more;
        closed = λ still j d l out seen t. elim (ℕ_discrete j c) [
          | yes e ↦ rw e (never d t)
          | no ne ↦ h.closed still j d l out (not_T (bit left j) (λ u. T_not (bit next j) seen (subst⁻¹ T (is-next j) (both (bit left j) _ u (ne→eqb j c ne))))) t
        ];
      }

      -- it does, so c can be freed
      pub sweeping_take : (r : Freed) (d : ℕ) → Found s r c d → T (bit s.set d) → T (fits (get_or held.on c 0) d) → Sweeping fits held before r next
      sweeping_take r d f there fit =
          let (below, out) = h.ahead c (low.member some) in
          let one_more = found_size fits held s r c d f h.leads below out in
          record {
            leads = found_leads fits held s r c d f h.leads below out there fit;
            ahead = λ j t.
                let u = subst T (is-next j) t in
                let (l, o) = h.ahead j (and_left (bit left j) _ u) in (
                  l,
                  not_T (bit r.set j) (λ v. elim (with_cases (bit s.set) c j (subst T (f.has j) v)) [
                    | inl w ↦ T_not (bit s.set j) o w
                    | inr e ↦ T_not (eqb j c) (and_right (bit left j) _ u) (rw e (eqb_refl c))
                  ]),
                );
            no_less = after_le refl h.no_less one_more;
            more = λ _. after_lt refl h.no_less one_more;
            closed = λ still. let e = ap (λ (w : ℕ). size 64 (bit w)) still in let less = h.no_less in absurd (omega arith);
          }

-- the instrument on the least mount that is left
pub user_small : (fits : ℕ → Set) (held : Matching) (before : ℕ) {s : Freed} {left c : ℕ} → Matched fits held → Sweeping fits held before s left → Lowest left c → c < 64 → get_or held.on c 0 < 64
user_small fits held before {s} {left} {c} m h low some =
    let (below, out) = h.ahead c (low.member some) in
    (m.user c below (not_T (bit held.free c) (λ t. T_not (bit s.set c) out (h.leads.start c t)))).0

-- where no mount is free, no other instrument can be mounted beside the others
pub none_free : (fits : ℕ → Set) (held : Matching) → Matched fits held → held.free ≡ 0 → (g : ℕ) → g < 64 → T (not (bit held.taken g)) → Mounted fits 64 (with (bit held.taken) g) → ⊥
none_free fits held h e g small out =
    let s : Freed = record { set = held.free; next = replicate 32 0; depth = replicate 32 0 } in
    let empty : (c : ℕ) → T (bit held.free c) → ⊥ = λ c t. subst T (ap (λ (w : ℕ). bit w c) e ∙ bit_none c) t in
    blocked fits held s h (leads_free fits held s h.low refl refl refl) (λ c d l _ t. absurd (empty d t)) g small out (λ c t. absurd (empty c t))
