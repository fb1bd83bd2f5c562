-- The rules one after the other: what each answer of the code comes to.
use Prim.Native.Nat.{ℕ, ◌+◌, ◌-◌, ◌*◌, ◌≤◌, ◌<◌}
use mathlib.Core.Path.{◌≡◌, refl, sym, ap, ◌∙◌}
use mathlib.Core.Bool.{Bool, true, false, not, cond, and-false, false≢true}
use mathlib.Core.Logic.{◌≢◌}
use mathlib.Core.List.{List, [], ◌∷◌}
use native.Mathlib.Omega.{arith}
use lib.Dec.{eqb, ltb}
use lib.ListN.{length, get_or, take, drop, length-take, length-drop}
use lib.Seq.{get_or-take, get_or-drop}
use borrow.Author.Tests.{lt-ltb, le-ltb, eq-eqb, ne_eqb, eqb-false}
use Rattle.std.proofs.Common.{Ok, Err, is_ok}
use Rattle.matroid.specs.Set.{Set, size}
use Rattle.matroid.specs.Matroid.{Matroid}
use Rattle.matroid.specs.Division.{held}
use Rattle.sets.specs.Bundles.{Bundles}
use Rattle.plan.specs.declared.Reading.{Reading}
use Rattle.plan.specs.Read.{acceptance}
use Rattle.plan.specs.Teams.{team_matroid, present}
use Rattle.command.specs.declared.refusal.Refusal.{Refusal}
use Rattle.sheet.specs.Layout.{length_of}
use Rattle.sheet.specs.Fields.{word_at, total_at, holder_at, bound_at}
use Rattle.sheet.specs.Form.{form, first_fault}
use Rattle.sheet.specs.Named.{named}
use Rattle.sheet.proofs.Naming.{words_agree}
use Rattle.command.specs.Refusal.{refuse}
use Rattle.checker.specs.Verdict.{Verdict, Accepted}
use Rattle.command.specs.Rule.{rule, first_broken}
use Rattle.checker.specs.Rules.{dependent_at, bound_of, total_holds, wrong_share_at, short_at}
use Rattle.checker.specs.Check.{division_rules, verdict_of}

-- ---- one rule

pub broken : (b : Bool) (answer rest : Verdict) → b ≡ true → answer ≡ cond b answer rest
broken b answer rest e = rw e refl

pub kept : (b : Bool) (answer rest v : Verdict) → b ≡ false → v ≡ rest → v ≡ cond b answer rest
kept b answer rest v e h = rw e h

-- ---- the words of the division

-- the row of GIVEs has its length
pub row_long : (sheet : List ℕ) (m start end : ℕ) → start ≡ 4 → end ≡ 4 + 3 * m → 4 + 3 * m ≤ length sheet → 3 * m ≤ length (take (end - start) (drop start sheet))
row_long sheet m start end is-start is_end_lem l = simp (length-take, length-drop) (omega arith)

-- the row of GIVEs names the holders
pub give_words : (sheet words : List ℕ) (m start end : ℕ) → start ≡ 4 → end ≡ 4 + 3 * m → Bundles m (named (take (end - start) (drop start sheet))) words → Bundles m (holder_at sheet) words
give_words sheet words m start end is-start is_end_lem = words_agree m (named (take (end - start) (drop start sheet))) (holder_at sheet) words
    (λ g l. get_or-take (end - start) (drop start sheet) (3 * g + 2) 0 (omega arith) ∙ get_or-drop start sheet (3 * g + 2) 0 ∙ ap (λ (x : ℕ). get_or sheet x 0) (omega arith))

-- ---- 14

-- the bound of the word that stands after BOUND's byte
pub bound_word : {m : ℕ} (n : ℕ) (M : ℕ → Matroid m) (sheet : List ℕ) (end word bound : ℕ) → end ≡ 4 + 3 * m → word ≡ word_at sheet (end + 1) → bound ≡ bound_of n M word → bound ≡ bound_of n M (bound_at m sheet)
bound_word n M sheet end word bound is_end_lem is_IsWord is_bound = is_bound ∙ ap (bound_of n M) (is_IsWord ∙ ap (λ (x : ℕ). word_at sheet (x + 1)) is_end_lem)

module _ {m : ℕ} (n : ℕ) (M : ℕ → Matroid m) (sheet : List ℕ) (total given : ℕ) (is-total : total ≡ total_at sheet) (is-given : given ≡ size m (held n (holder_at sheet))) where
  pub total_given : total ≢ given → total_holds n M sheet ≡ false
  unfolding total_holds
  total_given d = rw (ne_eqb (total_at sheet) (size m (held n (holder_at sheet))) (λ e. d (is-total ∙ e ∙ sym is-given))) refl

  module _ (bound : ℕ) (is_bound : bound ≡ bound_of n M (bound_at m sheet)) where
    pub total_bound : total ≢ bound → total_holds n M sheet ≡ false
    unfolding total_holds
    total_bound d =
        rw (ne_eqb (total_at sheet) (bound_of n M (bound_at m sheet)) (λ e. d (is-total ∙ e ∙ sym is_bound)))
        (and-false (eqb (total_at sheet) (size m (held n (holder_at sheet)))))

    pub total_both : total ≡ given → total ≡ bound → total_holds n M sheet ≡ true
    unfolding total_holds
    total_both e f =
        rw (
          eq-eqb (total_at sheet) (size m (held n (holder_at sheet))) (sym is-total ∙ e ∙ is-given),
          eq-eqb (total_at sheet) (bound_of n M (bound_at m sheet)) (sym is-total ∙ f ∙ is_bound),
        )
        refl

-- ---- 13 to 16

-- by matroids that are those of the teams
module _ (r : Reading) (sheet : List ℕ) (M : ℕ → Matroid r.m) (is-M : ◌≡◌ {A = ℕ → Matroid r.m} M (team_matroid r)) (d : ℕ) (by-d : d ≡ dependent_at r.n M (holder_at sheet)) where
  is_d : d ≡ dependent_at r.n (team_matroid r) (holder_at sheet)
  is_d = by-d ∙ ap (λ (x : ℕ → Matroid r.m). dependent_at r.n x (holder_at sheet)) is-M

  by_total : (b : Bool) → total_holds r.n M sheet ≡ b → total_holds r.n (team_matroid r) sheet ≡ b
  by_total b e = sym (ap (λ (x : ℕ → Matroid r.m). total_holds r.n x sheet) is-M) ∙ e

  pub weigh_13 : d < r.n → refuse 13 d ≡ first_broken Accepted (division_rules refuse r sheet)
  weigh_13 l = ap (refuse 13) is_d ∙ broken _ _ _ (lt-ltb (dependent_at r.n (team_matroid r) (holder_at sheet)) r.n (omega (arith, is_d)))

  module _ (kept-13 : r.n ≤ d) where
    past_13 : (v : Verdict) → v ≡ first_broken Accepted (rule (not (total_holds r.n (team_matroid r) sheet)) (refuse 14 0) ∷ rule (ltb (wrong_share_at r.n (present r) (team_matroid r) sheet) r.n) (refuse 15 (wrong_share_at r.n (present r) (team_matroid r) sheet)) ∷ rule (ltb (short_at r.m r.n sheet) r.n) (refuse 16 (short_at r.m r.n sheet)) ∷ []) → v ≡ first_broken Accepted (division_rules refuse r sheet)
    past_13 v h = kept _ _ _ v (le-ltb (dependent_at r.n (team_matroid r) (holder_at sheet)) r.n (omega (arith, is_d))) h

    pub weigh_14 : total_holds r.n M sheet ≡ false → refuse 14 0 ≡ first_broken Accepted (division_rules refuse r sheet)
    weigh_14 e = past_13 (refuse 14 0) (broken _ _ _ (ap not (by_total false e)))

    module _ (holds : total_holds r.n M sheet ≡ true) (here : Set) (is-here : here ≡ present r) (w : ℕ) (by-w : w ≡ wrong_share_at r.n here M sheet) where
      kept_14 : total_holds r.n (team_matroid r) sheet ≡ true
      kept_14 = by_total true holds

      is_w : w ≡ wrong_share_at r.n (present r) (team_matroid r) sheet
      is_w = by-w ∙ ap (λ (x : Set). wrong_share_at r.n x M sheet) is-here ∙ ap (λ (x : ℕ → Matroid r.m). wrong_share_at r.n (present r) x sheet) is-M

      pub weigh_15 : w < r.n → refuse 15 w ≡ first_broken Accepted (division_rules refuse r sheet)
      weigh_15 l = ap (refuse 15) is_w ∙ past_13 _ (kept _ _ _ _ (ap not kept_14) (broken _ _ _ (lt-ltb (wrong_share_at r.n (present r) (team_matroid r) sheet) r.n (omega (arith, is_w)))))

      module _ (kept-15 : r.n ≤ w) (k : ℕ) (is-k : k ≡ short_at r.m r.n sheet) where
        past_15 : (v : Verdict) → v ≡ first_broken Accepted (rule (ltb (short_at r.m r.n sheet) r.n) (refuse 16 (short_at r.m r.n sheet)) ∷ []) → v ≡ first_broken Accepted (division_rules refuse r sheet)
        past_15 v h = past_13 v (kept _ _ _ v (ap not kept_14) (kept _ _ _ v (le-ltb (wrong_share_at r.n (present r) (team_matroid r) sheet) r.n (omega (arith, is_w))) h))

        pub weigh_16 : k < r.n → refuse 16 k ≡ first_broken Accepted (division_rules refuse r sheet)
        weigh_16 l = ap (refuse 16) is-k ∙ past_15 _ (broken _ _ _ (lt-ltb (short_at r.m r.n sheet) r.n (omega arith)))

        pub weigh_none : r.n ≤ k → Accepted ≡ first_broken Accepted (division_rules refuse r sheet)
        weigh_none l = past_15 Accepted (kept _ _ _ Accepted (le-ltb (short_at r.m r.n sheet) r.n (omega arith)) refl)

-- ---- Read's refusals, 11 and 12

-- what a reading that is not accepted answers
pub stopped : (r : Reading) (x : Verdict) (e : Refusal) → x ≡ acceptance r → x ≡ Err e → (r.refusal ≢ 0) × (e ≡ record { number = r.refusal; place = r.place })
stopped r x e is h = go (eqb r.refusal 0) refl (sym h ∙ is)
  where
    -- the refusal of an answer
    error : Verdict → Refusal
    error (Ok x) = e
    error (Err d) = d

    go : (b : Bool) → eqb r.refusal 0 ≡ b → Err e ≡ cond b Accepted (refuse r.refusal r.place) → (r.refusal ≢ 0) × (e ≡ record { number = r.refusal; place = r.place })
    go true t f = absurd (false≢true (ap is_ok f))
    go false t f = (eqb-false r.refusal 0 t, ap error f)

module _ (r : Reading) (sheet : List ℕ) where
  pub judge_read : r.refusal ≢ 0 → refuse r.refusal r.place ≡ verdict_of r sheet
  unfolding verdict_of
  judge_read d = broken _ _ _ (ap not (ne_eqb r.refusal 0 d))

  module _ (read : r.refusal ≡ 0) (long : ℕ) (is-long : long ≡ length_of r.m r.n) where
    pub judge_11 : length sheet ≢ long → refuse 11 0 ≡ verdict_of r sheet
    unfolding verdict_of
    judge_11 d = kept _ _ _ (refuse 11 0) (ap not (eq-eqb r.refusal 0 read)) (broken _ _ _ (ap not (ne_eqb (length sheet) (length_of r.m r.n) (λ e. d (e ∙ sym is-long)))))

    module _ (same : length sheet ≡ long) (here : Set) (is-here : here ≡ present r) (f : ℕ) (by-f : f ≡ first_fault (form r.m r.n here) sheet 0) where
      is_f : f ≡ first_fault (form r.m r.n (present r)) sheet 0
      is_f = by-f ∙ ap (λ (x : Set). first_fault (form r.m r.n x) sheet 0) is-here

      pub judge_12 : f < long → refuse 12 f ≡ verdict_of r sheet
      unfolding verdict_of
      judge_12 l =
          ap (refuse 12) is_f
          ∙ kept _ _ _ _ (ap not (eq-eqb r.refusal 0 read))
          (kept _ _ _ _ (ap not (eq-eqb (length sheet) (length_of r.m r.n) (same ∙ is-long)))
          (broken _ _ _ (lt-ltb (first_fault (form r.m r.n (present r)) sheet 0) (length_of r.m r.n) (omega (arith, is_f)))))

      pub judge_rest : long ≤ f → (v : Verdict) → v ≡ first_broken Accepted (division_rules refuse r sheet) → v ≡ verdict_of r sheet
      unfolding verdict_of
      judge_rest l v h =
          kept _ _ _ v (ap not (eq-eqb r.refusal 0 read))
          (kept _ _ _ v (ap not (eq-eqb (length sheet) (length_of r.m r.n) (same ∙ is-long)))
          (kept _ _ _ v (le-ltb (first_fault (form r.m r.n (present r)) sheet 0) (length_of r.m r.n) (omega (arith, is_f))) h))
