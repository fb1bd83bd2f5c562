-- The loops over the shares: whether every part is worth the share, the lowest share that does not hold, and the lowest team that is short.
use Prim.Native.Nat.{ℕ, ◌+◌, ◌-◌, ◌*◌, ◌≤◌, ◌<◌}
use mathlib.Core.Path.{◌≡◌, refl, sym, ap, ◌∙◌, subst}
use mathlib.Core.Bool.{Bool, true, false, ◌&&◌}
use mathlib.Core.List.{List}
use native.Mathlib.Omega.{arith}
use native.Mathlib.Nat.{mul-le-mul}
use borrow.Author.Count.{below_more}
use borrow.Author.Tests.{le-leb, lt-leb}
use lib.Dec.{T, eqb, leb, ltb}
use lib.ListN.{length, get_or, take, drop, length-take, length-drop}
use lib.Seq.{get_or-take, get_or-drop}
use Rattle.matroid.specs.Set.{Set, complement, size}
use Rattle.matroid.specs.Matroid.{Matroid, worth}
use Rattle.matroid.specs.Division.{bundle}
use Rattle.matroid.proofs.Rank.{worth_same}
use Rattle.sets.specs.Bits.{bit}
use Rattle.sets.specs.Bundles.{Bundles}
use Rattle.sheet.specs.Layout.{share_start}
use Rattle.sheet.specs.Fields.{word_at, holder_at, share_at, set_at, part_at}
use Rattle.sheet.specs.Named.{named}
use Rattle.checker.specs.Rules.{parts_hold, share_holds, share_test, wrong_share_at, short_at}
use Rattle.checker.proofs.Lowest.{lowest_at, lowest_none, every_true, every_false, every_same}
use Rattle.checker.proofs.Bundles.{counted, worth_word, size_word}

-- ---- the parts

-- the first p parts are worth the share
pub record Reached {m : ℕ} (M : Matroid m) (share : ℕ) (words : List ℕ) (p : ℕ) : Type 0 where
  pub at : (k : ℕ) → k < p → share ≤ worth M (bit (get_or words k 0))

pub reached_none : {m : ℕ} (M : Matroid m) (share : ℕ) (words : List ℕ) → Reached M share words 0
reached_none M share words = record { at = λ k l. absurd (omega arith) }

-- every part is worth 0
pub reached_zero : {m : ℕ} (M : Matroid m) (share : ℕ) (words : List ℕ) (p : ℕ) → share ≡ 0 → Reached M share words p
reached_zero M share words p e = record { at = λ k l. omega arith }

module _ {m : ℕ} (M : Matroid m) (share : ℕ) (words : List ℕ) (p : ℕ) (h : Reached M share words p) where
  pub reached_next : (v : ℕ) → v ≡ worth M (bit (get_or words p 0)) → share ≤ v → Reached M share words (p + 1)
  reached_next v is-v l = record { at = below_more (λ k. share ≤ worth M (bit (get_or words k 0))) p h.at (omega arith) }

  pub reached_stop : (n v : ℕ) → n ≤ 12 → p < n → v ≡ worth M (bit (get_or words p 0)) → v < share → (C : ℕ → ℕ) → Bundles m C words → false ≡ parts_hold M n share C
  unfolding parts_hold
  reached_stop n v n12 l is-v less C w =
      let e = worth_word m C words w p (omega arith) M in
      sym (every_false n (λ p. leb share (worth M (bundle C p))) p l (lt-leb share (worth M (bundle C p)) (omega arith)))

  pub reached_done : (n : ℕ) → n ≤ 12 → n ≤ p → (C : ℕ → ℕ) → Bundles m C words → true ≡ parts_hold M n share C
  unfolding parts_hold
  reached_done n n12 g C w =
      sym (every_true n (λ p. leb share (worth M (bundle C p)))
      (λ k b. let e = worth_word m C words w k (omega arith) M in let s = h.at k (omega arith) in le-leb share (worth M (bundle C k)) (omega arith)))

-- ---- one share

module _ {m : ℕ} (M : Matroid m) (n s K : ℕ) (C : ℕ → ℕ) where
  pub share_no : false ≡ parts_hold M n s C → false ≡ share_holds M n s K C
  unfolding share_holds
  share_no e = rw (← e) refl

  pub share_tested : (o v : ℕ) → true ≡ parts_hold M n s C → o ≡ size m (complement (bit K)) → v ≡ worth M (bit K) → ltb (o + n * v) (n * (s + 1)) ≡ share_holds M n s K C
  unfolding share_holds
  share_tested o v e is-o is-v = rw (← e, is-o, is-v) refl

  -- a share is judged by what is named below m
  pub share_agree : (B : ℕ → ℕ) → ((g : ℕ) → g < m → C g ≡ B g) → share_holds M n s K C ≡ share_holds M n s K B
  unfolding share_holds parts_hold
  share_agree B h = ap (λ (b : Bool). b && ltb (size m (complement (bit K)) + n * worth M (bit K)) (n * (s + 1))) (every_same n _ _ (λ p _. ap (leb s) (same p)))
    where
      same : (p : ℕ) → worth M (bundle C p) ≡ worth M (bundle B p)
      same p = worth_same M {S = bundle C p} {S' = bundle B p}
          (record { at = λ g l. subst (λ (x : ℕ). T (eqb x p)) (h g l) })
          (record { at = λ g l. subst (λ (x : ℕ). T (eqb x p)) (sym (h g l)) })

-- what the products of a share come to
pub product_small : (n v : ℕ) → n ≤ 12 → v ≤ 256 → n * v ≤ 3072
product_small n v a b = mul-le-mul a b

-- ---- all shares

-- a team's PARTs as a part of the sheet
pub stretch_long : (sheet : List ℕ) (m start : ℕ) → start + 3 * m ≤ length sheet → 3 * m ≤ length (take (start + 3 * m - start) (drop start sheet))
stretch_long sheet m start l = simp (length-take, length-drop) (omega arith)

-- the share of one team, as the code has it
module _ (m p : ℕ) (N : Matroid m) (sheet : List ℕ) (t at set start end : ℕ) (v : Bool) (is_at : at ≡ share_start m t) (is_set : set ≡ word_at sheet (at + 3)) (is-start : start ≡ at + 11) (is_end_lem : end ≡ start + 3 * m)
    (is-v : v ≡ share_holds N p (get_or sheet (at + 2) 0) set (named (take (end - start) (drop start sheet)))) where
  stretch : (g : ℕ) → g < m → named (take (end - start) (drop start sheet)) g ≡ part_at m sheet t g
  stretch g l =
      get_or-take (end - start) (drop start sheet) (3 * g + 2) 0 (omega arith)
      ∙ get_or-drop start sheet (3 * g + 2) 0
      ∙ ap (λ (x : ℕ). get_or sheet x 0) (omega arith)

  pub team_shown : v ≡ share_holds N p (share_at m sheet t) (set_at m sheet t) (part_at m sheet t)
  team_shown =
      is-v
      ∙ share_agree N p (get_or sheet (at + 2) 0) set (named (take (end - start) (drop start sheet))) (part_at m sheet t) stretch
      ∙ ap (λ (x : ℕ). share_holds N p (get_or sheet (at + 2) 0) x (part_at m sheet t)) is_set
      ∙ ap (λ (x : ℕ). share_holds N p (get_or sheet (x + 2) 0) (word_at sheet (x + 3)) (part_at m sheet t)) is_at

-- the shares of the first t teams hold
pub record Shown {m : ℕ} (n : ℕ) (present : Set) (M : ℕ → Matroid m) (sheet : List ℕ) (t : ℕ) : Type 0 where
  pub at : (k : ℕ) → k < t → share_test n present M sheet k ≡ true

pub shown_none : {m : ℕ} (n : ℕ) (present : Set) (M : ℕ → Matroid m) (sheet : List ℕ) → Shown n present M sheet 0
shown_none n present M sheet = record { at = λ k l. absurd (omega arith) }

module _ (m n : ℕ) (present : Set) (M : ℕ → Matroid m) (sheet : List ℕ) (t : ℕ) (h : Shown n present M sheet t) where
  shown_more : share_test n present M sheet t ≡ true → Shown n present M sheet (t + 1)
  shown_more e = record { at = below_more (λ k. share_test n present M sheet k ≡ true) t h.at e }

  -- a team that is away is not tested
  pub shown_away : (here : Bool) → here ≡ present t → here ≡ false → Shown n present M sheet (t + 1)
  shown_away here is-here away = shown_more (rw (sym is-here ∙ away) refl)

  -- the test of team t, which is present
  module _ (here : Bool) (is-here : here ≡ present t) (yes-here : here ≡ true) (N : Matroid m) (is-N : ◌≡◌ {A = Matroid m} N (M t)) (p : ℕ) (is-p : p ≡ size n present) (v : Bool)
      (is-v : v ≡ share_holds N p (share_at m sheet t) (set_at m sheet t) (part_at m sheet t)) where
    tested : v ≡ share_test n present M sheet t
    tested = rw (sym is-here ∙ yes-here) (is-v ∙ rw (is-N, is-p) refl)

    pub shown_next : v ≡ true → Shown n present M sheet (t + 1)
    shown_next e = shown_more (sym tested ∙ e)

    pub shown_stop : t < n → v ≡ false → t ≡ wrong_share_at n present M sheet
    unfolding wrong_share_at
    shown_stop l e = lowest_at n (share_test n present M sheet) t l h.at (sym tested ∙ e)

  pub shown_done : n ≤ t → n ≡ wrong_share_at n present M sheet
  unfolding wrong_share_at
  shown_done g = lowest_none n (share_test n present M sheet) (λ k b. h.at k (omega arith))

-- ---- what is held

-- the first t teams hold their shares
pub record Enough (m : ℕ) (words sheet : List ℕ) (t : ℕ) : Type 0 where
  pub at : (k : ℕ) → k < t → share_at m sheet k ≤ counted words k

pub enough_none : (m : ℕ) (words sheet : List ℕ) → Enough m words sheet 0
enough_none m words sheet = record { at = λ k l. absurd (omega arith) }

module _ (m n : ℕ) (words sheet : List ℕ) (t : ℕ) (h : Enough m words sheet t) where
  module _ (at share c : ℕ) (is_at : at ≡ share_start m t) (is_share : share ≡ get_or sheet (at + 2) 0) (is_c : c ≡ size 64 (bit (get_or words t 0))) where
    stated : share ≡ share_at m sheet t
    stated = is_share ∙ ap (λ (x : ℕ). get_or sheet (x + 2) 0) is_at

    count : c ≡ counted words t
    unfolding counted
    count = is_c

    pub enough_next : share ≤ c → Enough m words sheet (t + 1)
    enough_next l = let a = stated in let b = count in record { at = below_more (λ k. share_at m sheet k ≤ counted words k) t h.at (omega arith) }

    pub enough_stop : m ≤ 64 → n ≤ 12 → t < n → c < share → Bundles m (holder_at sheet) words → t ≡ short_at m n sheet
    unfolding short_at
    enough_stop m64 n12 l less w =
        let a = stated in
        let b = count in
        let e = size_word m (holder_at sheet) words w t (omega arith) m64 in
        lowest_at n (λ t. leb (share_at m sheet t) (size m (bundle (holder_at sheet) t))) t l
        (λ k b. let s = h.at k b in let e = size_word m (holder_at sheet) words w k (omega arith) m64 in le-leb (share_at m sheet k) (size m (bundle (holder_at sheet) k)) (omega arith))
        (lt-leb (share_at m sheet t) (size m (bundle (holder_at sheet) t)) (omega arith))

  pub enough_done : m ≤ 64 → n ≤ 12 → n ≤ t → Bundles m (holder_at sheet) words → n ≡ short_at m n sheet
  unfolding short_at
  enough_done m64 n12 g w =
      lowest_none n (λ t. leb (share_at m sheet t) (size m (bundle (holder_at sheet) t)))
      (λ k b. let s = h.at k (omega arith) in let e = size_word m (holder_at sheet) words w k (omega arith) m64 in le-leb (share_at m sheet k) (size m (bundle (holder_at sheet) k)) (omega arith))
