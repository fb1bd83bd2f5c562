-- Where two tables of mounts agree on the instruments that matter, what is said by one holds by the other.
use Prim.Native.Nat.{ℕ, ◌≤◌, ◌<◌}
use mathlib.Core.Path.{◌≡◌, sym, subst, subst⁻¹}
use mathlib.Core.Bool.{◌||◌}
use mathlib.Core.Logic.{inl, inr}
use mathlib.Core.List.{List}
use native.Mathlib.Omega.{arith}
use lib.Dec.{T}
use Rattle.matroid.specs.Taut.{follows₂}
use Rattle.matroid.specs.Set.{Set, ◌∪◌, Within}
use Rattle.matroid.specs.Matroid.{worth}
use Rattle.matroid.proofs.Rank.{worth_attained, worth_most}
use Rattle.sets.specs.Bits.{bit}
use Rattle.sets.specs.Joining.{MayJoin, Grown}
use Rattle.mounts.specs.Mounts.{Mounted, fits_of}
use Rattle.mounts.specs.Transversal.{mounted_in, transversal, mounts_of}
use Rattle.mounts.specs.Matching.{fits_in, Worded}

-- the mounts of each member of S below m are the same
abbrev pub Agree : (m : ℕ) (S : Set) (fits other : ℕ → Set) → Type 0
Agree m S fits other = (g : ℕ) → g < m → T (S g) → (k : ℕ) → fits g k ≡ other g k

-- the words of a set's members agree with the tables
pub worded_agree : (m : ℕ) (named first second third fourth : List ℕ) (of : ℕ) (words : List ℕ) → m ≤ 64 → Worded named first second third fourth of words
    → Agree m (bit of) (fits_in words) (fits_of named first second third fourth)
worded_agree m named first second third fourth of words small w g l t = w.at g (omega arith) t

module _ (m : ℕ) (S : Set) where
  agree_sym : (fits other : ℕ → Set) → Agree m S fits other → Agree m S other fits
  agree_sym fits other agree g l t k = sym (agree g l t k)

  -- a part of S that is mounted by one is mounted by the other
  mounted_agree : (fits other : ℕ → Set) → Agree m S fits other → {A : Set} → Within m A S → Mounted fits m A → Mounted other m A
  mounted_agree fits other agree w M = mounted_in M (λ g l a. (l, a, subst T (agree g l (w.at g l a) (M.mount g)) (M.fit g l a)))

  worth_no_less : (fits other : ℕ → Set) → Agree m S fits other → worth (transversal fits m) S ≤ worth (transversal other m) S
  unfolding transversal
  worth_no_less fits other agree =
      let b = worth_attained (transversal fits m) S in
      let e = b.full in
      let l = worth_most (transversal other m) b.within (mounted_agree fits other agree b.within b.indep) in
      omega arith

  module _ (fits other : ℕ → Set) (agree : Agree m S fits other) where
    pub worth_agree : worth (transversal fits m) S ≡ worth (transversal other m) S
    worth_agree =
        let l = worth_no_less fits other agree in
        let r = worth_no_less other fits (agree_sym fits other agree) in
        omega arith

    there : {A : Set} → Within m A S → Mounted fits m A → Mounted other m A
    there = mounted_agree fits other agree

    back : {A : Set} → Within m A S → Mounted other m A → Mounted fits m A
    back = mounted_agree other fits (agree_sym fits other agree)

    -- where S has all instruments below m
    pub joins_agree : ((g : ℕ) → g < m → T (S g)) → (A : Set) (r : ℕ) → ((transversal fits m).Indep A → MayJoin (transversal fits m) A r) → (transversal other m).Indep A → MayJoin (transversal other m) A r
    unfolding transversal
    joins_agree all A r joins M =
        let may = joins (back (record { at = λ g l _. all g l }) M) in
        record {
          at = λ j. (
            λ t. let (l, (out, N)) = (may.at j).0 t in (l, (out, there (record { at = λ g l _. all g l }) N)),
            λ (l, (out, N)). (may.at j).1 (l, (out, back (record { at = λ g l _. all g l }) N)),
          );
        }

    -- where S has all members of a set and of another
    pub grown_agree : (set from most r : ℕ) → ((j : ℕ) → T (bit set j) → T (S j)) → ((j : ℕ) → T (bit from j) → T (S j)) → Grown (transversal fits m) set from most r → Grown (transversal other m) set from most r
    unfolding transversal
    grown_agree set from most r of_set of-from h = record {
      indep = λ M. there (record { at = λ g _ t. elim (h.new g t) [ inl s ↦ of_set g s | inr f ↦ of-from g f ] }) (h.indep (back (record { at = λ g _ t. of_set g t }) M));
      old = h.old;
      new = h.new;
      few = h.few;
    }

-- grown by the words of the members of both sets
pub grown_worded : (m : ℕ) (named first second third fourth words : List ℕ) (set from both most r : ℕ) → m ≤ 64 → Worded named first second third fourth both words
    → ((j : ℕ) → bit both j ≡ (bit set ∪ bit from) j) → Grown (transversal (fits_in words) m) set from most r → Grown (mounts_of m named first second third fourth) set from most r
grown_worded m named first second third fourth words set from both most r small w is =
    grown_agree m (bit both) _ _ (worded_agree m named first second third fourth both words small w) set from most r
    (λ j t. subst⁻¹ T (is j) (follows₂ (λ a b. a) (λ a b. a || b) tt (bit set j) (bit from j) t))
    (λ j t. subst⁻¹ T (is j) (follows₂ (λ a b. b) (λ a b. a || b) tt (bit set j) (bit from j) t))
