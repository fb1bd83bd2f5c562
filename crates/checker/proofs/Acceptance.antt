-- Check accepts a sheet exactly where the facts about its fields hold, and then what the sheet states is true.
use Prim.Native.Nat.{ℕ, ◌+◌, ◌*◌, ◌≤◌, ◌<◌}
use mathlib.Core.Path.{◌≡◌, refl, sym, ap, ◌∙◌}
use mathlib.Core.Bool.{Bool, true, false, ◌&&◌, ◌||◌, not, cond, false≢true}
use mathlib.Core.List.{List}
use native.Mathlib.Omega.{arith}
use native.Mathlib.Nat.{lt_of_mul-lt-mul_left}
use lib.Dec.{T, eqb, leb}
use borrow.Author.Tests.{lt-ltb, le-ltb, ltb-true, ltb-false, le-leb, leb-true, eq-eqb, eqb-true, not-false}
use Rattle.matroid.specs.Set.{Set, ◌∩◌, complement, size}
use Rattle.matroid.specs.SetLaws.{within_refl, inter_left, inter_most, size_same}
use Rattle.matroid.specs.Sum.{sum}
use Rattle.matroid.specs.Matroid.{worth}
use Rattle.matroid.specs.Division.{bundle, held, total}
use Rattle.matroid.specs.DivisionLaws.{sum_less, sum_bundles}
use Rattle.matroid.specs.Cuts.{Cuts}
use Rattle.matroid.specs.Share.{share}
use Rattle.matroid.specs.Best.{best}
use Rattle.matroid.proofs.Sums.{sum_same, sum_const}
use Rattle.matroid.proofs.Rank.{worth_indep, indep_worth}
use Rattle.matroid.proofs.Duality.{weak_duality}
use Rattle.matroid.proofs.Shares.{share_most, share_bound}
use Rattle.matroid.proofs.Present.{present_some}
use Rattle.matroid.proofs.Optimum.{best_most, best_attained}
use Rattle.sets.specs.Bits.{bit}
use Rattle.plan.specs.declared.Reading.{Reading}
use Rattle.plan.specs.Read.{read_plan}
use Rattle.plan.specs.Teams.{team_matroid, present, present_count}
use Rattle.sheet.specs.Fields.{total_at, holder_at, bound_at, share_at, set_at, part_at}
use Rattle.sheet.proofs.Forming.{form_passes, passes_form, formed_passes, passes_formed}
use Rattle.std.proofs.Common.{is_ok}
use Rattle.command.specs.Refusal.{refuse}
use Rattle.checker.specs.Verdict.{Verdict, Accepted}
use Rattle.checker.specs.Rules.{independent, dependent_at, bound_of, total_holds, parts_hold, share_holds, share_test, wrong_share_at, short_at}
use Rattle.checker.specs.Check.{verdict_of, check_sheet}
use Rattle.checker.specs.Stated.{Stated}
use Rattle.checker.specs.Fair.{FairBy, Fair}
use Rattle.checker.proofs.Lowest.{lowest_none, lowest_all, every_true, every_all}
use Rattle.checker.proofs.Bundles.{independent_yes, independent_worth}
use Rattle.checker.proofs.Verdicts.{kept}

-- ---- two tests

and_left : (a b : Bool) → (a && b) ≡ true → a ≡ true
and_left true b e = refl
and_left false b e = absurd (false≢true e)

and_right : (a b : Bool) → (a && b) ≡ true → b ≡ true
and_right true b e = e
and_right false b e = absurd (false≢true e)

-- a test of those present alone: where one is present it decides, and where it passes for one that is present it passes
pub tested : (a b : Bool) → (not a || b) ≡ true → T a → b ≡ true
tested true b e here = e
tested false b e here = absurd here

pub passed : (a b : Bool) → (T a → b ≡ true) → (not a || b) ≡ true
passed true b h = h tt
passed false b h = refl

-- ---- what is accepted keeps every rule

refused_not : (number place : ℕ) → Accepted ≡ refuse number place → ⊥
refused_not number place e = false≢true (sym (ap is_ok e))

unbroken : (b : Bool) (number place : ℕ) (rest : Verdict) → Accepted ≡ cond b (refuse number place) rest → (b ≡ false) × (Accepted ≡ rest)
unbroken true number place rest h = absurd (refused_not number place h)
unbroken false number place rest h = (refl, h)

module _ (r : Reading) (sheet : List ℕ) where
  -- the test of rule 15 for a team present
  unfoldable pub share_passes : ℕ → Bool
  share_passes t = share_holds (team_matroid r t) (present_count r) (share_at r.m sheet t) (set_at r.m sheet t) (part_at r.m sheet t)

  -- ---- from acceptance to the facts

  -- rule 15 for one team
  pub share_reached : (t : ℕ) → share_passes t ≡ true → (k : ℕ) → k < present_count r → share_at r.m sheet t ≤ worth (team_matroid r t) (bundle (part_at r.m sheet t) k)
  unfolding share_passes share_holds parts_hold
  share_reached t e k l = leb-true _ _ (every_all (present_count r) (λ k. leb (share_at r.m sheet t) (worth (team_matroid r t) (bundle (part_at r.m sheet t) k))) (and_left _ _ e) k l)

  pub share_limited : (t : ℕ) → share_passes t ≡ true
      → size r.m (complement (bit (set_at r.m sheet t))) + present_count r * worth (team_matroid r t) (bit (set_at r.m sheet t)) < present_count r * (share_at r.m sheet t + 1)
  unfolding share_passes share_holds
  share_limited t e = ltb-true _ _ (and_right (parts_hold (team_matroid r t) (present_count r) (share_at r.m sheet t) (part_at r.m sheet t)) _ e)

  -- rule 14
  pub total_given : total_holds r.n (team_matroid r) sheet ≡ true → total_at sheet ≡ size r.m (held r.n (holder_at sheet))
  unfolding total_holds
  total_given e = eqb-true _ _ (and_left _ _ e)

  pub total_bound : total_holds r.n (team_matroid r) sheet ≡ true → total_at sheet ≡ size r.m (complement (bit (bound_at r.m sheet))) + sum r.n (λ t. worth (team_matroid r t) (bit (bound_at r.m sheet)))
  unfolding total_holds bound_of
  total_bound e = eqb-true _ _ (and_right (eqb (total_at sheet) (size r.m (held r.n (holder_at sheet)))) _ e)

  -- each "lowest team" is none
  all_independent : r.n ≤ dependent_at r.n (team_matroid r) (holder_at sheet) → (t : ℕ) → t < r.n → independent (team_matroid r t) (bundle (holder_at sheet) t) ≡ true
  unfolding dependent_at
  all_independent h t l = lowest_all r.n (λ t. independent (team_matroid r t) (bundle (holder_at sheet) t)) h t l

  all_shares : r.n ≤ wrong_share_at r.n (present r) (team_matroid r) sheet → (t : ℕ) → t < r.n → T (present r t) → share_passes t ≡ true
  unfolding wrong_share_at share_passes
  all_shares h t l = tested (present r t) _ (lowest_all r.n (share_test r.n (present r) (team_matroid r) sheet) h t l)

  all_enough : r.n ≤ short_at r.m r.n sheet → (t : ℕ) → t < r.n → share_at r.m sheet t ≤ size r.m (bundle (holder_at sheet) t)
  unfolding short_at
  all_enough h t l = leb-true _ _ (lowest_all r.n (λ t. leb (share_at r.m sheet t) (size r.m (bundle (holder_at sheet) t))) h t l)

  pub stated : Accepted ≡ verdict_of r sheet → Stated r sheet
  unfolding verdict_of
  stated e =
      let (read, e₁) = unbroken _ _ _ _ e in
      let (long, e₂) = unbroken _ _ _ _ e₁ in
      let (form, e₃) = unbroken _ _ _ _ e₂ in
      let (indep, e₄) = unbroken _ _ _ _ e₃ in
      let (sum, e₅) = unbroken _ _ _ _ e₄ in
      let (shares, e₆) = unbroken _ _ _ _ e₅ in
      let (short, _) = unbroken _ _ _ _ e₆ in
      let holds = not-false _ sum in
      let shown = all_shares (ltb-false _ _ shares) in
      record {
        read = eqb-true _ _ (not-false _ read);
        long = eqb-true _ _ (not-false _ long);
        formed = passes_formed sheet r.m r.n (present r) (form_passes sheet r.m r.n (present r) (ltb-false _ _ form));
        independent = λ t l. indep_worth (team_matroid r t) (bundle (holder_at sheet) t) (independent_worth (team_matroid r t) (bundle (holder_at sheet) t) (all_independent (ltb-false _ _ indep) t l));
        given = total_given holds;
        bound = total_bound holds;
        reached = λ t l here. share_reached t (shown t l here);
        limited = λ t l here. share_limited t (shown t l here);
        enough = all_enough (ltb-false _ _ short);
      }

  -- ---- from the facts to acceptance

  module _ (s : Stated r sheet) where
    none_dependent : r.n ≡ dependent_at r.n (team_matroid r) (holder_at sheet)
    unfolding dependent_at
    none_dependent = lowest_none r.n (λ t. independent (team_matroid r t) (bundle (holder_at sheet) t))
        (λ t l. independent_yes (team_matroid r t) (bundle (holder_at sheet) t) (worth_indep (team_matroid r t) (bundle (holder_at sheet) t) (s.independent t l)))

    total_holds_lem : total_holds r.n (team_matroid r) sheet ≡ true
    unfolding total_holds bound_of
    total_holds_lem = rw (eq-eqb _ _ s.given, eq-eqb _ _ s.bound) refl

    share_holds_lem : (t : ℕ) → t < r.n → T (present r t) → share_passes t ≡ true
    unfolding share_passes share_holds parts_hold
    share_holds_lem t l here =
        rw (
          every_true (present_count r) (λ k. leb (share_at r.m sheet t) (worth (team_matroid r t) (bundle (part_at r.m sheet t) k))) (λ k b. le-leb _ _ (s.reached t l here k b)),
          lt-ltb _ _ (s.limited t l here),
        )
        refl

    none_wrong : r.n ≡ wrong_share_at r.n (present r) (team_matroid r) sheet
    unfolding wrong_share_at share_passes
    none_wrong =
        lowest_none r.n (share_test r.n (present r) (team_matroid r) sheet)
        (λ t l. passed (present r t) _ (share_holds_lem t l))

    none_short : r.n ≡ short_at r.m r.n sheet
    unfolding short_at
    none_short = lowest_none r.n (λ t. leb (share_at r.m sheet t) (size r.m (bundle (holder_at sheet) t))) (λ t l. le-leb _ _ (s.enough t l))

    pub accepts : verdict_of r sheet ≡ Accepted
    unfolding verdict_of
    accepts =
        let d = none_dependent in
        let w = none_wrong in
        let k = none_short in
        sym
        (kept _ _ _ Accepted (ap not (eq-eqb _ _ s.read))
        (kept _ _ _ Accepted (ap not (eq-eqb _ _ s.long))
        (kept _ _ _ Accepted (le-ltb _ _ (passes_form sheet r.m r.n (present r) (formed_passes sheet r.m r.n (present r) s.formed)))
        (kept _ _ _ Accepted (le-ltb (dependent_at r.n (team_matroid r) (holder_at sheet)) r.n (omega arith))
        (kept _ _ _ Accepted (ap not total_holds_lem)
        (kept _ _ _ Accepted (le-ltb (wrong_share_at r.n (present r) (team_matroid r) sheet) r.n (omega arith))
        (kept _ _ _ Accepted (le-ltb (short_at r.m r.n sheet) r.n (omega arith)) refl)))))))

    -- ---- from the facts to what they mean

    -- all that is given, counted team by team
    pub given_sum : size r.m (held r.n (holder_at sheet)) ≡ sum r.n (λ t. size r.m (bundle (holder_at sheet) t))
    given_sum =
        whole (held r.n (holder_at sheet))
        ∙ sym (sum_bundles r.m r.n (holder_at sheet) all)
        ∙ sum_same r.n (λ t. size r.m (bundle (holder_at sheet) t ∩ all)) (λ t. size r.m (bundle (holder_at sheet) t)) (λ t _. sym (whole (bundle (holder_at sheet) t)))
      where
        all : Set
        all k = true

        whole : (A : Set) → size r.m A ≡ size r.m (A ∩ all)
        whole A = size_same r.m (inter_most within_refl (record { at = λ k _ _. tt })) (inter_left A all)

    held_worth : (t : ℕ) → t < r.n → worth (team_matroid r t) (bundle (holder_at sheet) t) ≡ size r.m (bundle (holder_at sheet) t)
    held_worth t l = worth_indep (team_matroid r t) (bundle (holder_at sheet) t) (s.independent t l)

    total_true : total_at sheet ≡ total r.n (team_matroid r) (holder_at sheet)
    total_true =
        s.given
        ∙ given_sum
        ∙ sym (sum_same r.n (λ t. worth (team_matroid r t) (bundle (holder_at sheet) t)) (λ t. size r.m (bundle (holder_at sheet) t)) held_worth)

    total_best : (D : ℕ → ℕ) → total r.n (team_matroid r) D ≤ total_at sheet
    total_best D = let b = s.bound in let w = weak_duality r.n (team_matroid r) D (bit (bound_at r.m sheet)) in omega arith

    module _ (t : ℕ) (l : t < r.n) (here : T (present r t)) where
      -- the PARTs are a cut whose every part is worth the share, so it is no more than the team's share
      share_le : share_at r.m sheet t ≤ share (team_matroid r t) (present_count r)
      share_le =
          share_most (team_matroid r t) (present_count r) (present_some r.n (present r) t l here) (share_at r.m sheet t)
          (record { part = part_at r.m sheet t; below = s.formed.part_below t l here; fair = s.reached t l here })

      -- and the set allows none that is larger
      share_ge : share (team_matroid r t) (present_count r) < share_at r.m sheet t + 1
      share_ge =
          let b = share_bound (team_matroid r t) (present_count r) (present_some r.n (present r) t l here) (bit (set_at r.m sheet t)) in
          let m = s.limited t l here in
          lt_of_mul-lt-mul_left (present_count r) (omega arith)

      share_true : share_at r.m sheet t ≡ share (team_matroid r t) (present_count r)
      share_true = let a = share_le in let b = share_ge in omega arith

      -- were every part of a cut worth more than the share, they would be worth more in all than the set allows
      cut_matched : (C : ℕ → ℕ) → Cuts r.m (present_count r) C
          → (k : ℕ) × (k < present_count r) × (worth (team_matroid r t) (bundle C k) ≤ worth (team_matroid r t) (bundle (holder_at sheet) t))
      cut_matched C cut =
          let dual = weak_duality (present_count r) (λ _. team_matroid r t) C (bit (set_at r.m sheet t)) in
          let Each-set = sum_const (present_count r) (worth (team_matroid r t) (bit (set_at r.m sheet t))) in
          let each-share = sum_const (present_count r) (share_at r.m sheet t + 1) in
          let m = s.limited t l here in
          let (k, b, less) = sum_less (present_count r) (λ k. worth (team_matroid r t) (bundle C k)) (λ k. share_at r.m sheet t + 1) (omega arith) in
          let w = held_worth t l in
          let e = s.enough t l in
          (k, b, omega arith)

    pub fair_stated : FairBy r sheet
    fair_stated = record { total_true = total_true; total_best = total_best; shares_true = share_true; cut_matched = cut_matched }

    -- the total stated is the best one
    pub best_stated : total_at sheet ≡ best r.n (team_matroid r)
    best_stated =
        let a = best_attained r.n (team_matroid r) in
        let e = a.full in
        let u = total_best a.holder in
        let l = best_most r.n (team_matroid r) (holder_at sheet) in
        let t = total_true in
        omega arith

-- ---- on the bytes of a plan

-- what Check accepts is fair
pub fair : (plan sheet : List ℕ) → check_sheet plan sheet ≡ Accepted → Fair plan sheet
fair plan sheet e = fair_stated (read_plan plan) sheet (stated (read_plan plan) sheet (sym e))
