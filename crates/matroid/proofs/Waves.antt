-- Breadth-first search, level by level: what is known while a level is scanned, and when the search has ended.
use Prim.Native.Nat.{ℕ, suc, ◌+◌, ◌≤◌, ◌<◌}
use mathlib.Core.Path.{◌≡◌, refl, sym, ap, ◌∙◌, subst, subst⁻¹}
use mathlib.Core.Bool.{Bool, ◌&&◌, ◌||◌, not}
use mathlib.Core.Logic.{◌⊎◌, inl, inr, ◌≢◌}
use native.Mathlib.Omega.{arith}
use native.Mathlib.Decide.{ℕ_discrete}
use lib.Dec.{T, T_not, not_T}
use Rattle.matroid.specs.Taut.{decide_T, both, and_left, or_cases, follows₂}
use Rattle.matroid.specs.Set.{Set, with, without}
use Rattle.matroid.specs.SetLaws.{ne→eqb, differ, with_cases, with_new, without_ne, with_old}
use Rattle.matroid.specs.Matroid.{Matroid}
use Rattle.matroid.specs.Division.{move}
use Rattle.matroid.specs.DivisionLaws.{move_here, move_away}
use Rattle.matroid.specs.Exchange.{CanGain, Edge}
use Rattle.matroid.specs.Closure.{Closed, GainsWithin}
use Rattle.matroid.specs.Breadth.{Labels, Reason, Traced, Rooted, root, step}
use Rattle.matroid.proofs.Sets.{with_out}

module _ {m : ℕ} (n : ℕ) (M : ℕ → Matroid m) (D : ℕ → ℕ) (src : Set) where
  -- every edge out of g leads to S, and no more than one level up
  abbrev pub Scanned : Set → Labels → ℕ → Type 0
  Scanned S L g = (h : ℕ) → h < m → Edge n M D g h → T (S h) × (L.level h ≤ L.level g + 1)

  -- Level d is being scanned: S is what was reached, C of it is scanned, and O is what is left of level d.
  pub record Wave (S C O : Set) (L : Labels) (d : ℕ) : Type 0 where
    pub below : (g : ℕ) → T (S g) → g < m
    pub reason : (g : ℕ) → T (S g) → Reason n M D src S L g
    pub start : (t g : ℕ) → t < n → T (src t) → g < m → CanGain M D t g → T (S g) × (L.level g ≡ 0)
    pub top : (g : ℕ) → T (S g) → L.level g ≤ d + 1
    pub now : (g : ℕ) → T (O g) → T (S g) × T (not (C g)) × (L.level g ≡ d)
    pub later : (g : ℕ) → T (S g) → T (not (C g)) → T (not (O g)) → L.level g ≡ d + 1
    pub scanned : (g : ℕ) → T (C g) → T (S g) × Scanned S L g

  module _ (S C O : Set) (L : Labels) (d : ℕ) (w : Wave S C O L d) where
    -- no edge between reached numbers rises by more than one level
    wave_step : (g h : ℕ) → T (S g) → T (S h) → Edge n M D g h → L.level h ≤ L.level g + 1
    wave_step g h sg sh e = go (decide_T (C g)) (decide_T (O g))
      where
        go : T (C g) ⊎ T (not (C g)) → T (O g) ⊎ T (not (O g)) → L.level h ≤ L.level g + 1
        go (inl c) o = ((w.scanned g c).1 h (w.below h sh) e).1
        go (inr c) (inl o) = let l = (w.now g o).2 in let t = w.top h sh in omega arith
        go (inr c) (inr o) = let l = w.later g sg c o in let t = w.top h sh in omega arith

    -- so the search can stop at any time
    pub wave_traced : Traced n M D src S L
    wave_traced = record {
      below = w.below;
      reason = w.reason;
      levels = λ t l s. record { start = λ g sg c. (w.start t g l s (w.below g sg) c).1; step = wave_step };
    }

    -- where all is scanned, the reached set is closed and has all that a source can gain
    pub wave_closed : ((g : ℕ) → T (S g) → T (C g)) → Closed n M D S
    wave_closed all g h lg lh s e = ((w.scanned g (all g s)).1 h lh e).0

    pub wave_gains : (t : ℕ) → t < n → T (src t) → GainsWithin n M D S t
    wave_gains t l s g lg c = (w.start t g l s lg c).0

    -- the next level: what is left unscanned when level d is done
    pub wave_next : (O' : Set) → ((g : ℕ) → T (not (O g))) → ((g : ℕ) → T (O' g) → T (S g) × T (not (C g))) → ((g : ℕ) → T (S g) → T (not (C g)) → T (O' g)) → Wave S C O' L (d + 1)
    wave_next O' none some all = record {
      below = w.below;
      reason = w.reason;
      start = w.start;
      top = λ g s. let l = w.top g s in omega arith;
      now = λ g o. let (s, c) = some g o in (s, c, w.later g s c (none g));
      later = λ g s c o. absurd (T_not (O' g) o (all g s c));
      scanned = w.scanned;
    }

    -- a number of level d whose every edge leads to what was reached is scanned
    pub wave_scanned : (g : ℕ) (C' O' : Set) → T (O g) → ((h : ℕ) → h < m → Edge n M D g h → T (S h)) → ((k : ℕ) → C' k ≡ with C g k) → ((k : ℕ) → O' k ≡ without O g k) → Wave S C' O' L d
    wave_scanned g C' O' og leads isC isO = record {
      below = w.below;
      reason = w.reason;
      start = w.start;
      top = w.top;
      now = λ k o.
          let o' = subst T (isO k) o in
          let (s, c, l) = w.now k (and_left (O k) _ o') in
          (s, subst⁻¹ (λ (b : Bool). T (not b)) (isC k) (not_T (with C g k) (λ t. elim (with_cases C g k t) [ inl old ↦ T_not (C k) c old | inr e ↦ without_ne O g k o' e ])), l);
      later = λ k s c o. w.later k s (with_out C g k (subst (λ (b : Bool). T (not b)) (isC k) c)) (other k (subst (λ (b : Bool). T (not b)) (isC k) c) (subst (λ (b : Bool). T (not b)) (isO k) o));
      scanned = λ k c. elim (with_cases C g k (subst T (isC k) c)) [
        | inl old ↦ w.scanned k old
        | inr e ↦ subst⁻¹ (λ (x : ℕ). T (S x) × Scanned S L x) e ((w.now g og).0, λ h l edge. let lg = (w.now g og).2 in let s = leads h l edge in let t = w.top h s in (s, omega arith))
      ];
    }
      where
        -- what is neither scanned nor left was not left before
        other : (k : ℕ) → T (not (with C g k)) → T (not (without O g k)) → T (not (O k))
        other k c o = not_T (O k) (λ ok. T_not (without O g k) o (both (O k) _ ok (ne→eqb k g (λ e. T_not (with C g k) c (subst⁻¹ (λ (x : ℕ). T (with C g x)) e (with_new C g))))))

    -- a number that is new, and that can take the place of a number of level d, is reached
    module _ (x g : ℕ) (S' : Set) (L' : Labels) (og : T (O g)) (lx : x < m) (new : T (not (S x))) (edge : Edge n M D g x)
        (isS : (k : ℕ) → S' k ≡ with S x k) (is-level : (k : ℕ) → L'.level k ≡ move L.level x (d + 1) k)
        (is-parent : (k : ℕ) → L'.parent k ≡ move L.parent x g k) (is-to : (k : ℕ) → L'.to k ≡ move L.to x (D g) k) where
      -- what was reached is still reached, with the same labels
      kept : (k : ℕ) → T (S k) → T (S' k)
      kept k s = subst⁻¹ T (isS k) ((with_old {m = suc k} S x).at k (omega arith) s)

      old : (k : ℕ) → T (S k) → k ≢ x
      old k s = differ S s new

      same_level : (k : ℕ) → T (S k) → L'.level k ≡ L.level k
      same_level k s = is-level k ∙ move_away L.level x (d + 1) k (old k s)

      same_to : (k : ℕ) → T (S k) → L'.to k ≡ L.to k
      same_to k s = is-to k ∙ move_away L.to x (D g) k (old k s)

      same_parent : (k : ℕ) → T (S k) → L'.parent k ≡ L.parent k
      same_parent k s = is-parent k ∙ move_away L.parent x g k (old k s)

      same_reason : (k : ℕ) → T (S k) → Reason n M D src S L k → Reason n M D src S' L' k
      same_reason k s (root z is lt c) = root (same_level k s ∙ z) (rw (same_to k s) is) (rw (same_to k s) lt) (rw (same_to k s) c)
      same_reason k s (step p l e t) =
          let par = same_parent k s in
          step (rw par (kept (L.parent k) p)) (rw par (let a = same_level k s in let b = same_level (L.parent k) p in omega arith)) (rw par e) (same_to k s ∙ t ∙ ap D (sym par))

      new_reason : Reason n M D src S' L' x
      new_reason =
          let par = is-parent x ∙ move_here L.parent x g x refl in
          let sg = (w.now g og).0 in
          let lg = (w.now g og).2 in
          let here = is-level x ∙ move_here L.level x (d + 1) x refl in
          let there = same_level g sg in
          step (rw par (kept g sg)) (rw par (omega arith)) (rw par edge) (is-to x ∙ move_here L.to x (D g) x refl ∙ ap D (sym par))

      pub wave_mark : Wave S' C O L' d
      wave_mark = record {
        below = λ k s. elim (with_cases S x k (subst T (isS k) s)) [ inl o ↦ w.below k o | inr e ↦ rw e lx ];
        reason = λ k s. elim (with_cases S x k (subst T (isS k) s)) [ inl o ↦ same_reason k o (w.reason k o) | inr e ↦ subst⁻¹ (Reason n M D src S' L') e new_reason ];
        start = λ t k lt is lk c. let (s, z) = w.start t k lt is lk c in (kept k s, same_level k s ∙ z);
        top = λ k s. elim (with_cases S x k (subst T (isS k) s)) [
          | inl o ↦ let a = same_level k o in let b = w.top k o in omega arith
          | inr e ↦ let a = is-level k ∙ move_here L.level x (d + 1) k e in omega arith
        ];
        now = λ k o. let (s, c, l) = w.now k o in (kept k s, c, same_level k s ∙ l);
        later = λ k s c o. elim (with_cases S x k (subst T (isS k) s)) [
          | inl was ↦ same_level k was ∙ w.later k was c o
          | inr e ↦ is-level k ∙ move_here L.level x (d + 1) k e
        ];
        scanned = λ k c. let (s, f) = w.scanned k c in (kept k s, λ h lh e. let (sh, l) = f h lh e in let a = same_level k s in let b = same_level h sh in (kept h sh, omega arith));
      }

  -- ---- the roots

  -- before the first team there are no roots
  pub rooted_none : (to : ℕ → ℕ) (S : Set) → ((g : ℕ) → T (not (S g))) → Rooted n M D src 0 S to
  rooted_none to S none = record { below = λ g s. absurd (T_not (S g) (none g) s); gained = λ g s. absurd (T_not (S g) (none g) s); all = λ t g l. absurd (omega arith) }

  module _ (k : ℕ) (S : Set) (to : ℕ → ℕ) (r : Rooted n M D src k S to) where
    -- a team that is no source adds nothing
    pub rooted_skip : T (not (src k)) → Rooted n M D src (k + 1) S to
    rooted_skip out = record {
      below = r.below;
      gained = r.gained;
      all = λ t g l is lg c. elim (ℕ_discrete t k) [ yes e ↦ absurd (T_not (src k) out (subst (λ (x : ℕ). T (src x)) e is)) | no d ↦ r.all t g (omega arith) is lg c ];
    }

    -- a source team adds what it can gain, F, and gets what is new of it
    pub rooted_take : (F S' : Set) (to' : ℕ → ℕ) → k < n → T (src k) → ((g : ℕ) → T (F g) → (g < m) × CanGain M D k g) → ((g : ℕ) → g < m → CanGain M D k g → T (F g))
        → ((g : ℕ) → S' g ≡ (S g || F g)) → ((g : ℕ) → T (S g) → to' g ≡ to g) → ((g : ℕ) → T (F g) → T (not (S g)) → to' g ≡ k) → Rooted n M D src (k + 1) S' to'
    rooted_take F S' to' lk is sound complete isS stays new = record {
      below = λ g s. elim (or_cases (S g) (F g) (subst T (isS g) s)) [ inl o ↦ r.below g o | inr f ↦ (sound g f).0 ];
      gained = λ g s. go g (subst T (isS g) s) (decide_T (S g));
      all = λ t g l is lg c. subst⁻¹ T (isS g) (elim (ℕ_discrete t k) [
        | yes e ↦ follows₂ (λ a b. b) (λ a b. a || b) tt (S g) (F g) (complete g lg (subst (λ (x : ℕ). CanGain M D x g) e c))
        | no d ↦ follows₂ (λ a b. a) (λ a b. a || b) tt (S g) (F g) (r.all t g (omega arith) is lg c)
      ]);
    }
      where
        go : (g : ℕ) → T (S g || F g) → T (S g) ⊎ T (not (S g)) → T (src (to' g)) × (to' g < n) × CanGain M D (to' g) g
        go g s (inl old) = rw (stays g old) (r.gained g old)
        go g s (inr out) =
            let f = follows₂ (λ a b. (a || b) && not a) (λ a b. b) tt (S g) (F g) (both (S g || F g) (not (S g)) s out) in
            rw (new g f out) (is, lk, (sound g f).1)

  -- the first level is all that the sources can gain
  pub rooted_wave : (S C : Set) (L : Labels) → Rooted n M D src n S L.to → ((g : ℕ) → L.level g ≡ 0) → ((g : ℕ) → T (not (C g))) → Wave S C S L 0
  rooted_wave S C L r zero none = record {
    below = r.below;
    reason = λ g s. let (is, l, c) = r.gained g s in root (zero g) is l c;
    start = λ t g l is lg c. (r.all t g l is lg c, zero g);
    top = λ g s. let z = zero g in omega arith;
    now = λ g s. (s, none g, zero g);
    later = λ g s c o. absurd (T_not (S g) o s);
    scanned = λ g c. absurd (T_not (C g) (none g) c);
  }
