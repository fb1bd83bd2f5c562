-- Demand 1, from what Read, Build and Check promise.
use Prim.Native.Nat.{ℕ, ◌≤◌, ◌<◌}
use mathlib.Core.Path.{◌≡◌, refl, ◌∙◌}
use mathlib.Core.Bool.{Bool, true, false}
use mathlib.Core.Logic.{◌≢◌}
use mathlib.Core.List.{List}
use native.Mathlib.Omega.{arith}
use lib.Dec.{leb}
use lib.ListN.{length}
use borrow.Author.Tests.{lt-ltb, le-ltb, le-leb, eq-eqb, ne_eqb, leb-true}
use Rattle.matroid.specs.Set.{size}
use Rattle.matroid.specs.Decide.{is_yes}
use Rattle.matroid.specs.Matroid.{Matroid, worth}
use Rattle.matroid.specs.Division.{bundle}
use Rattle.command.specs.Rule.{first_broken}
use Rattle.plan.specs.declared.Reading.{Reading}
use Rattle.plan.specs.Read.{read_plan}
use Rattle.plan.specs.Teams.{team_matroid, present, present_count}
use Rattle.plan.proofs.Bounds.{bounded}
use Rattle.plan.proofs.Numbers.{read_number}
use Rattle.sheet.specs.Layout.{length_of}
use Rattle.sheet.specs.Fields.{holder_at, share_at, part_at}
use Rattle.sheet.specs.Form.{form, first_fault}
use Rattle.sheet.specs.Formed.{Formed}
use Rattle.sheet.proofs.Forming.{passes_form, formed_passes}
use Rattle.checker.specs.Rules.{independent, dependent_at, bound_of, total_holds, parts_hold, share_holds, share_test, wrong_share_at, short_at}
use Rattle.checker.specs.Check.{division_rules, sheet_rules}
use Rattle.checker.specs.Verdict.{Verdict, verdict_number, verdict_place}
use Rattle.checker.specs.Told.{CheckTold}
use Rattle.checker.proofs.Lowest.{lowest_at, lowest_none, every_true}
use Rattle.checker.proofs.Acceptance.{share_passes, share_reached, share_limited, total_given, total_bound, tested, passed}
use Rattle.builder.specs.Build.{Built, build_rules, built_number, built_place, built_length, BuildTold, Answered}
use Rattle.builder.specs.Build as build
use Rattle.demands.specs.One.{L, Builds, Lowest, Every, Independent, TotalHolds, ShareHolds, Enough, Checks, Reads}

-- ---- Read

pub reads : (plan : List ℕ) (r : Reading) → r ≡ read_plan plan → Reads plan r
reads plan r e =
    let b = bounded plan in
    rw e (record { is = refl; number = read_number plan; place = b.place; short = b.short; instruments = λ z. (b.valid z).small; teams = λ z. ((b.valid z).some, (b.valid z).few) })

-- ---- Build

-- its numbers, by the rules in their order
build_read : (r : Reading) (room : ℕ) (refuse : ℕ → ℕ → ℕ) (none : ℕ) → r.refusal ≢ 0 → first_broken none (build_rules refuse r room) ≡ refuse r.refusal r.place
build_read r room refuse none d = rw (ne_eqb r.refusal 0 d) refl

build_short : (r : Reading) (room : ℕ) (refuse : ℕ → ℕ → ℕ) (none : ℕ) → r.refusal ≡ 0 → room < L r → first_broken none (build_rules refuse r room) ≡ refuse 10 (L r)
build_short r room refuse none z l = rw (eq-eqb r.refusal 0 z, lt-ltb room (length_of r.m r.n) l) refl

build_wrote : (r : Reading) (room : ℕ) (refuse : ℕ → ℕ → ℕ) (none : ℕ) → r.refusal ≡ 0 → L r ≤ room → first_broken none (build_rules refuse r room) ≡ none
build_wrote r room refuse none z l = rw (eq-eqb r.refusal 0 z, le-ltb room (length_of r.m r.n) l) refl

-- from Answered alone: a refused call leaves the buffer as it was
pub answered_untouched : {plan before after : List ℕ} {a : Built} → Answered plan before after a → built_number a ≢ 0 → (after ≡ before) × (built_length a ≡ 0)
answered_untouched (build.untouched number place same) d = (same, refl)
answered_untouched (build.sheet long same inside ok rest) d = absurd (d refl)

pub builds : (plan before after : List ℕ) (a : Built) → BuildTold plan before a → Answered plan before after a → Builds plan before after (built_number a) (built_place a) (built_length a)
builds plan before after a told answered = record {
  read = λ d. (told.number ∙ build_read r room (λ n p. n) 0 d, told.place ∙ build_read r room (λ n p. p) 0 d);
  short = λ z l. (told.number ∙ build_short r room (λ n p. n) 0 z l, told.place ∙ build_short r room (λ n p. p) 0 z l);
  wrote = λ z l. (told.number ∙ build_wrote r room (λ n p. n) 0 z l, told.place ∙ build_wrote r room (λ n p. p) 0 z l, told.long ∙ build_wrote r room (λ n p. 0) (L r) z l);
  untouched = answered_untouched answered;
}
  where
    r : Reading
    r = read_plan plan

    room : ℕ
    room = length before

-- ---- Check

-- a set is independent, or not
indep_true : {m : ℕ} (M : Matroid m) (A : ℕ → Bool) → M.Indep A → independent M A ≡ true
indep_true M A i = go (M.decide A)
  where
    go : (d : Dec (M.Indep A)) → is_yes d ≡ true
    go (yes _) = refl
    go (no d) = absurd (d i)

indep_false : {m : ℕ} (M : Matroid m) (A : ℕ → Bool) → (M.Indep A → ⊥) → independent M A ≡ false
indep_false M A d = go (M.decide A)
  where
    go : (e : Dec (M.Indep A)) → is_yes e ≡ false
    go (yes i) = absurd (d i)
    go (no _) = refl

-- a test that does not pass
fails : (b : Bool) → (b ≡ true → ⊥) → b ≡ false
fails true d = absurd (d refl)
fails false d = refl

module _ (r : Reading) (sheet : List ℕ) where
  -- the tests of 14, 15 and 16 pass where what they ask holds, and only there
  total_true : TotalHolds r sheet → total_holds r.n (team_matroid r) sheet ≡ true
  unfolding total_holds bound_of
  total_true h = rw (eq-eqb _ _ h.0, eq-eqb _ _ h.1) refl

  total_false : (TotalHolds r sheet → ⊥) → total_holds r.n (team_matroid r) sheet ≡ false
  total_false d = fails _ (λ e. d (total_given r sheet e, total_bound r sheet e))

  share_true : (t : ℕ) → ShareHolds r sheet t → share_test r.n (present r) (team_matroid r) sheet t ≡ true
  unfolding share_holds parts_hold
  share_true t h = passed (present r t) _ (λ here.
      rw (
        every_true (present_count r) (λ k. leb (share_at r.m sheet t) (worth (team_matroid r t) (bundle (part_at r.m sheet t) k))) (λ k b. le-leb _ _ ((h here).0 k b)),
        lt-ltb _ _ (h here).1,
      )
      refl)

  share_false : (t : ℕ) → (ShareHolds r sheet t → ⊥) → share_test r.n (present r) (team_matroid r) sheet t ≡ false
  unfolding share_passes
  share_false t d = fails _ (λ e. d (λ here. let shown = tested (present r t) _ e here in (share_reached r sheet t shown, share_limited r sheet t shown)))

  enough_false : (t : ℕ) → (Enough r sheet t → ⊥) → leb (share_at r.m sheet t) (size r.m (bundle (holder_at sheet) t)) ≡ false
  enough_false t d = fails _ (λ e. d (leb-true _ _ e))

  -- the lowest team of which a rule does not hold, and none
  lowest_dependent : (t : ℕ) → Lowest r.n (Independent r sheet) t → t ≡ dependent_at r.n (team_matroid r) (holder_at sheet)
  unfolding dependent_at
  lowest_dependent t l = lowest_at r.n (λ t. independent (team_matroid r t) (bundle (holder_at sheet) t)) t l.below
      (λ u b. indep_true (team_matroid r u) (bundle (holder_at sheet) u) (l.before u b)) (indep_false (team_matroid r t) (bundle (holder_at sheet) t) l.fails)

  none_dependent : Every r.n (Independent r sheet) → r.n ≡ dependent_at r.n (team_matroid r) (holder_at sheet)
  unfolding dependent_at
  none_dependent h = lowest_none r.n (λ t. independent (team_matroid r t) (bundle (holder_at sheet) t)) (λ t l. indep_true (team_matroid r t) (bundle (holder_at sheet) t) (h t l))

  lowest_wrong : (t : ℕ) → Lowest r.n (ShareHolds r sheet) t → t ≡ wrong_share_at r.n (present r) (team_matroid r) sheet
  unfolding wrong_share_at
  lowest_wrong t l = lowest_at r.n (share_test r.n (present r) (team_matroid r) sheet) t l.below (λ u b. share_true u (l.before u b)) (share_false t l.fails)

  none_wrong : Every r.n (ShareHolds r sheet) → r.n ≡ wrong_share_at r.n (present r) (team_matroid r) sheet
  unfolding wrong_share_at
  none_wrong h = lowest_none r.n (share_test r.n (present r) (team_matroid r) sheet) (λ t l. share_true t (h t l))

  lowest_short : (t : ℕ) → Lowest r.n (Enough r sheet) t → t ≡ short_at r.m r.n sheet
  unfolding short_at
  lowest_short t l = lowest_at r.n (λ t. leb (share_at r.m sheet t) (size r.m (bundle (holder_at sheet) t))) t l.below (λ u b. le-leb _ _ (l.before u b)) (enough_false t l.fails)

  none_short : Every r.n (Enough r sheet) → r.n ≡ short_at r.m r.n sheet
  unfolding short_at
  none_short h = lowest_none r.n (λ t. leb (share_at r.m sheet t) (size r.m (bundle (holder_at sheet) t))) (λ t l. le-leb _ _ (h t l))

  -- what the rules answer, each where it is the first that is broken
  module _ (refuse : ℕ → ℕ → ℕ) (none : ℕ) where
    unfoldable answer : ℕ
    answer = first_broken none (sheet_rules refuse r sheet)

    at_read : r.refusal ≢ 0 → answer ≡ refuse r.refusal r.place
    unfolding answer
    at_read d = rw (ne_eqb r.refusal 0 d) refl

    module _ (z : r.refusal ≡ 0) where
      at_11 : length sheet ≢ L r → answer ≡ refuse 11 0
      unfolding answer
      at_11 d = rw (eq-eqb r.refusal 0 z, ne_eqb (length sheet) (length_of r.m r.n) d) refl

      module _ (long : length sheet ≡ L r) where
        at_12 : first_fault (form r.m r.n (present r)) sheet 0 < L r → answer ≡ refuse 12 (first_fault (form r.m r.n (present r)) sheet 0)
        unfolding answer
        at_12 l = rw (eq-eqb r.refusal 0 z, eq-eqb (length sheet) (length_of r.m r.n) long, lt-ltb (first_fault (form r.m r.n (present r)) sheet 0) (length_of r.m r.n) l) refl

        module _ (formed : Formed r.m r.n (present r) sheet) where
          past_12 : answer ≡ first_broken none (division_rules refuse r sheet)
          unfolding answer
          past_12 =
              let clear = passes_form sheet r.m r.n (present r) (formed_passes sheet r.m r.n (present r) formed) in
              rw (eq-eqb r.refusal 0 z, eq-eqb (length sheet) (length_of r.m r.n) long, le-ltb (first_fault (form r.m r.n (present r)) sheet 0) (length_of r.m r.n) clear) refl

          at_13 : (t : ℕ) → Lowest r.n (Independent r sheet) t → answer ≡ refuse 13 t
          at_13 t l = past_12 ∙ rw (← lowest_dependent t l, lt-ltb t r.n l.below) refl

          module _ (all : Every r.n (Independent r sheet)) where
            at_14 : (TotalHolds r sheet → ⊥) → answer ≡ refuse 14 0
            at_14 d = past_12 ∙ rw (← none_dependent all, le-ltb r.n r.n (omega arith), total_false d) refl

            module _ (total : TotalHolds r sheet) where
              at_15 : (t : ℕ) → Lowest r.n (ShareHolds r sheet) t → answer ≡ refuse 15 t
              at_15 t l = past_12 ∙ rw (← none_dependent all, le-ltb r.n r.n (omega arith), total_true total, ← lowest_wrong t l, lt-ltb t r.n l.below) refl

              module _ (shares : Every r.n (ShareHolds r sheet)) where
                at_16 : (t : ℕ) → Lowest r.n (Enough r sheet) t → answer ≡ refuse 16 t
                at_16 t l = past_12 ∙ rw (← none_dependent all, total_true total, ← none_wrong shares, le-ltb r.n r.n (omega arith), ← lowest_short t l, lt-ltb t r.n l.below) refl

                at_none : Every r.n (Enough r sheet) → answer ≡ none
                at_none e = past_12 ∙ rw (← none_dependent all, total_true total, ← none_wrong shares, ← none_short e, le-ltb r.n r.n (omega arith)) refl

pub checks : (plan sheet : List ℕ) (v : Verdict) → CheckTold plan sheet v → Checks plan sheet (verdict_number v) (verdict_place v)
unfolding answer
checks plan sheet v told = record {
  read = λ d. (told.number ∙ at_read r sheet number 0 d, told.place ∙ at_read r sheet place 0 d);
  rule_11 = λ z d. (told.number ∙ at_11 r sheet number 0 z d, told.place ∙ at_11 r sheet place 0 z d);
  rule_12 = λ z l f. (told.number ∙ at_12 r sheet number 0 z l f, told.place ∙ at_12 r sheet place 0 z l f);
  rule_13 = λ z l f t w. (told.number ∙ at_13 r sheet number 0 z l f t w, told.place ∙ at_13 r sheet place 0 z l f t w);
  rule_14 = λ z l f i d. (told.number ∙ at_14 r sheet number 0 z l f i d, told.place ∙ at_14 r sheet place 0 z l f i d);
  rule_15 = λ z l f i h t w. (told.number ∙ at_15 r sheet number 0 z l f i h t w, told.place ∙ at_15 r sheet place 0 z l f i h t w);
  rule_16 = λ z l f i h s t w. (told.number ∙ at_16 r sheet number 0 z l f i h s t w, told.place ∙ at_16 r sheet place 0 z l f i h s t w);
  accepted = λ z l f i h s e. (told.number ∙ at_none r sheet number 0 z l f i h s e, told.place ∙ at_none r sheet place 0 z l f i h s e);
}
  where
    r : Reading
    r = read_plan plan

    number : ℕ → ℕ → ℕ
    number n p = n

    place : ℕ → ℕ → ℕ
    place n p = p
