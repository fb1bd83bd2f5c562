-- A sheet passes the tests of its form exactly where the facts about its bytes hold.
use Prim.Native.Nat.{ℕ, zero, suc, ◌+◌, ◌*◌, ◌≤◌, ◌<◌}
use mathlib.Core.Path.{◌≡◌, refl, sym, ap, ◌∙◌, subst, subst⁻¹}
use mathlib.Core.Bool.{Bool, true, false, not, cond}
use mathlib.Core.List.{List, [], ◌∷◌, ◌++◌}
use native.Mathlib.Omega.{arith}
use lib.Dec.{T}
use lib.ListN.{length, get_or, length-append}
use borrow.Author.Tests.{eq-eqb, eqb-true, lt-ltb, ltb-true}
use Rattle.matroid.specs.Set.{Set, size}
use Rattle.matroid.specs.Cuts.{each}
use Rattle.sheet.specs.Layout.{length_of, share_start}
use Rattle.sheet.specs.Fields.{part_at}
use Rattle.sheet.specs.Form.{Test, is, holder, any, command, head, give, bound, page, end, set, set_byte, form, first_fault}
use Rattle.sheet.specs.Formed.{SetFormed, Formed}
use Rattle.sheet.proofs.Faults.{Passes, fault_to, passes_both, passes_left, passes_right, length_each, each_at, each_all}
use Rattle.sheet.proofs.Commands.{row, nine, last, page_of, page_is, bound_length, row_length, nine_length, page_length_lem}

-- ---- the part that a team names, present or away

-- it passes where it is a part, or 0
last_formed : (p b : ℕ) (here : Bool) → (T here → b < p) → (T (not here) → b ≡ 0) → last p here b ≡ true
last_formed p b true l e = lt-ltb b p (l tt)
last_formed p b false l e = eq-eqb b 0 (e tt)

-- and only there
last_below : (p b : ℕ) (here : Bool) → last p here b ≡ true → T here → b < p
last_below p b true e h = ltb-true b p e
last_below p b false e h = absurd h

last_zero : (p b : ℕ) (here : Bool) → last p here b ≡ true → T (not here) → b ≡ 0
last_zero p b true e h = absurd h
last_zero p b false e h = eqb-true b 0 e

module _ (s : List ℕ) where
  -- ---- one byte, and one piece after another

  at_same : (tests : List Test) (i j : ℕ) → i ≡ j → Passes tests s i → Passes tests s j
  at_same tests i j e = subst (Passes tests s) e

  passes_nil : (i : ℕ) → Passes [] s i
  unfolding Passes first_fault
  passes_nil i = omega arith

  passes_cons : (test : Test) (rest : List Test) (i j : ℕ) → j ≡ i + 1 → test (get_or s i 0) ≡ true → Passes rest s j → Passes (test ∷ rest) s i
  unfolding Passes first_fault
  passes_cons test rest i j e t p = let p' = subst (λ (x : ℕ). first_fault rest s x ≡ x + length rest) e p in rw t (p' ∙ (omega arith))

  passes_test : (test : Test) (rest : List Test) (i : ℕ) → Passes (test ∷ rest) s i → test (get_or s i 0) ≡ true
  unfolding Passes first_fault
  passes_test test rest i p = go (test (get_or s i 0)) p
    where
      go : (b : Bool) → cond b (first_fault rest s (i + 1)) i ≡ i + suc (length rest) → b ≡ true
      go true h = refl
      go false h = absurd (omega arith)

  passes_next : (test : Test) (rest : List Test) (i j : ℕ) → j ≡ i + 1 → Passes (test ∷ rest) s i → Passes rest s j
  passes_next test rest i j e p = at_same rest (i + 1) j (sym e) (passes_right s (test ∷ []) rest i p)

  -- the first piece of w bytes, and what follows it
  passes_then : (a b : List Test) (i j w : ℕ) → length a ≡ w → j ≡ i + w → Passes a s i → Passes b s j → Passes (a ++ b) s i
  passes_then a b i j w wide e p q = passes_both s a b i p (at_same b j (i + length a) (omega arith) q)

  passes_rest : (a b : List Test) (i j w : ℕ) → length a ≡ w → j ≡ i + w → Passes (a ++ b) s i → Passes b s j
  passes_rest a b i j w wide e p = at_same b (i + length a) j (omega arith) (passes_right s a b i p)

  -- ---- a command's own byte and number, and a third byte

  command_formed : (byte number : ℕ) (rest : List Test) (i j : ℕ) → j ≡ i + 2 → get_or s i 0 ≡ byte → get_or s (i + 1) 0 ≡ number → Passes rest s j → Passes (command byte number ++ rest) s i
  command_formed byte number rest i j e b k p =
      passes_cons (is byte) _ i (i + 1) refl (eq-eqb _ byte b) (passes_cons (is number) rest (i + 1) j (omega arith) (eq-eqb _ number k) p)

  command_byte : (byte number : ℕ) (rest : List Test) (i : ℕ) → Passes (command byte number ++ rest) s i → get_or s i 0 ≡ byte
  command_byte byte number rest i p = eqb-true _ byte (passes_test (is byte) _ i p)

  command_number : (byte number : ℕ) (rest : List Test) (i : ℕ) → Passes (command byte number ++ rest) s i → get_or s (i + 1) 0 ≡ number
  command_number byte number rest i p = eqb-true _ number (passes_test (is number) rest (i + 1) (passes_next (is byte) _ i (i + 1) refl p))

  command_rest : (byte number : ℕ) (rest : List Test) (i : ℕ) → Passes (command byte number ++ rest) s i → Passes rest s (i + 2)
  command_rest byte number rest i = passes_rest (command byte number) rest i (i + 2) 2 refl refl

  -- ---- bytes with a test each, and those of a set

  -- they pass where each test does, and only there
  bytes_formed : (test : ℕ → Test) (w i : ℕ) → ((k : ℕ) → k < w → test k (get_or s (i + k) 0) ≡ true) → Passes (each w (λ k. test k ∷ [])) s i
  bytes_formed test w i h = each_all s (λ k. test k ∷ []) 1 (λ k. refl) w i (λ k l.
      passes_cons (test k) [] (i + k * 1) (i + k * 1 + 1) refl (subst (λ (x : ℕ). test k (get_or s x 0) ≡ true) (omega arith) (h k l)) (passes_nil _))

  formed_bytes : (test : ℕ → Test) (w i : ℕ) → Passes (each w (λ k. test k ∷ [])) s i → (k : ℕ) → k < w → test k (get_or s (i + k) 0) ≡ true
  formed_bytes test w i p k l =
      subst (λ (x : ℕ). test k (get_or s x 0) ≡ true) (omega arith) (passes_test (test k) [] (i + k * 1) (each_at s (λ k. test k ∷ []) 1 (λ k. refl) w k i l p))

  -- a set passes where it is formed, and only there
  set_formed : (m i : ℕ) → SetFormed m s i → Passes (set m) s i
  unfolding set
  set_formed m i h = bytes_formed (set_byte m) 8 i (λ k l. lt-ltb _ _ (h k l))

  formed_set : (m i : ℕ) → Passes (set m) s i → SetFormed m s i
  unfolding set
  formed_set m i p k l = ltb-true _ _ (formed_bytes (set_byte m) 8 i p k l)

  -- ---- a row of GIVEs or PARTs

  -- it passes where each command does, and only there
  row_formed : (byte : ℕ) (test : Test) (m i : ℕ) → ((g : ℕ) → g < m → get_or s (i + 3 * g) 0 ≡ byte) → ((g : ℕ) → g < m → get_or s (i + 3 * g + 1) 0 ≡ g)
      → ((g : ℕ) → g < m → test (get_or s (i + 3 * g + 2) 0) ≡ true) → Passes (row byte test m) s i
  row_formed byte test m i a b c = each_all s (λ g. command byte g ++ test ∷ []) 3 (λ g. refl) m i (λ g l. at_same (command byte g ++ test ∷ []) (i + 3 * g) (i + g * 3) (omega arith)
      (command_formed byte g _ (i + 3 * g) (i + 3 * g + 2) refl (a g l) (b g l) (passes_cons test [] _ _ refl (c g l) (passes_nil _))))

  formed_row : (byte : ℕ) (test : Test) (m i : ℕ) → Passes (row byte test m) s i → (g : ℕ) → g < m → Passes (command byte g ++ test ∷ []) s (i + 3 * g)
  formed_row byte test m i p g l =
      at_same (command byte g ++ test ∷ []) (i + g * 3) (i + 3 * g) (omega arith) (each_at s (λ g. command byte g ++ test ∷ []) 3 (λ g. refl) m g i l p)

  -- ---- the share and the set that a team states, present or away

  -- they pass where the set is one of instruments, or all are 0
  nine_formed : (m i : ℕ) (here : Bool) → (T here → SetFormed m s (i + 3)) → (T (not here) → get_or s (i + 2) 0 ≡ 0) → (T (not here) → (k : ℕ) → k < 8 → get_or s (i + 3 + k) 0 ≡ 0) → Passes (nine m here) s (i + 2)
  nine_formed m i true a b c = passes_cons any (set m) (i + 2) (i + 3) (omega arith) refl (set_formed m (i + 3) (a tt))
  nine_formed m i false a b c = bytes_formed (λ k. is 0) 9 (i + 2) (λ k l. eq-eqb _ 0 (zeros k l))
    where
      zeros : (k : ℕ) → k < 9 → get_or s (i + 2 + k) 0 ≡ 0
      zeros zero l = ap (λ (x : ℕ). get_or s x 0) (omega arith) ∙ b tt
      zeros (suc k) l = ap (λ (x : ℕ). get_or s x 0) (omega arith) ∙ c tt k (omega arith)

  -- and only there
  nine_set : (m i : ℕ) (here : Bool) → Passes (nine m here) s (i + 2) → T here → SetFormed m s (i + 3)
  nine_set m i true p h = formed_set m (i + 3) (passes_next any (set m) (i + 2) (i + 3) (omega arith) p)
  nine_set m i false p h = absurd h

  nine_zero : (m i : ℕ) (here : Bool) → Passes (nine m here) s (i + 2) → T (not here) → (j k : ℕ) → k < 9 → j ≡ i + 2 + k → get_or s j 0 ≡ 0
  nine_zero m i true p h j k l e = absurd h
  nine_zero m i false p h j k l e = ap (λ (x : ℕ). get_or s x 0) e ∙ eqb-true _ 0 (formed_bytes (λ k. is 0) 9 (i + 2) p k l)

  -- ---- the pieces of the whole sheet

  module _ (m n : ℕ) (present : Set) where
    -- a part for each team that is present
    abbrev parts : ℕ
    parts = size n present

    -- what the teams state
    abbrev pages : List Test
    pages = each n (page m parts present)

    pages_length : length pages ≡ n * (11 + 3 * m)
    pages_length = length_each s (page m parts present) (11 + 3 * m) (page_length_lem m parts present) n

    -- the form has a test for each byte
    pub form_length : length (form m n present) ≡ length_of m n
    unfolding form length_of
    form_length =
        let g = row_length 18 (holder n) m in
        let b = bound_length m in
        let p = pages_length in
        let e₁ = length-append (each m (give n)) (bound m ++ (pages ++ end)) in
        let e₂ = length-append (bound m) (pages ++ end) in
        let e₃ = length-append pages end in
        omega arith

    -- every test passes where the first fault is past the end
    pub form_passes : length_of m n ≤ first_fault (form m n present) s 0 → Passes (form m n present) s 0
    unfolding Passes
    form_passes l = let e = form_length in let u = fault_to s (form m n present) 0 in omega arith

    pub passes_form : Passes (form m n present) s 0 → length_of m n ≤ first_fault (form m n present) s 0
    unfolding Passes
    passes_form p = let e = form_length in omega arith

    -- ---- from the facts

    start_is : (t : ℕ) → share_start m t ≡ 4 + 3 * m + 9 + t * (11 + 3 * m)
    unfolding share_start
    start_is t = refl

    pub formed_passes : Formed m n present s → Passes (form m n present) s 0
    unfolding form
    formed_passes f =
        passes_then (head m n) _ 0 4 4 refl refl
        (command_formed 17 m _ 0 2 refl f.head_byte f.head_m (passes_cons (is n) _ 2 3 refl (eq-eqb _ n f.head_n) (passes_cons any [] 3 4 refl refl (passes_nil 4))))
        (passes_then (each m (give n)) _ 4 (4 + 3 * m) (3 * m) (row_length 18 (holder n) m) refl
        (row_formed 18 (holder n) m 4 f.give_byte f.give_item f.give_team)
        (passes_then (bound m) _ (4 + 3 * m) (4 + 3 * m + 9) 9 (bound_length m) refl
        (passes_cons (is 19) (set m) (4 + 3 * m) (4 + 3 * m + 1) refl (eq-eqb _ 19 f.bound_byte) (set_formed m (4 + 3 * m + 1) f.bound_set))
        (passes_then pages end (4 + 3 * m + 9) (share_start m n) (n * (11 + 3 * m)) pages_length (start_is n)
        (each_all s (page m parts present) (11 + 3 * m) (page_length_lem m parts present) n (4 + 3 * m + 9) (λ t l. at_same (page m parts present t) (share_start m t) _ (start_is t) (one_page t l)))
        (passes_cons (is 22) [] (share_start m n) _ refl (eq-eqb _ 22 f.end_byte) (passes_nil _)))))
      where
        one_page : (t : ℕ) → t < n → Passes (page m parts present t) s (share_start m t)
        one_page t l =
            subst⁻¹ (λ tests. Passes tests s (share_start m t)) (page_is m parts present t)
            (command_formed 20 t _ (share_start m t) (share_start m t + 2) refl (f.share_byte t l) (f.share_team t l)
            (passes_then (nine m (present t)) _ (share_start m t + 2) (share_start m t + 11) 9 (nine_length m (present t)) (omega arith)
            (nine_formed m (share_start m t) (present t) (f.share_set t l) (f.away_share_lem t l) (f.away_set t l))
            (row_formed 21 (last parts (present t)) m (share_start m t + 11) (f.part_byte t l) (f.part_item t l)
            (λ g b. last_formed parts _ (present t) (λ here. f.part_below t l here g b) (λ away. f.away_part_lem t l away g b)))))

    -- ---- and to them

    module _ (p : Passes (form m n present) s 0) where
      -- the pieces pass
      at_gives : Passes (each m (give n) ++ (bound m ++ (pages ++ end))) s 4
      unfolding form
      at_gives = passes_rest (head m n) _ 0 4 4 refl refl p

      at_head : Passes (head m n) s 0
      unfolding form
      at_head = passes_left s (head m n) _ 0 p

      at_bound : Passes (bound m ++ (pages ++ end)) s (4 + 3 * m)
      at_bound = passes_rest (each m (give n)) _ 4 (4 + 3 * m) (3 * m) (row_length 18 (holder n) m) refl at_gives

      at_pages : Passes (pages ++ end) s (4 + 3 * m + 9)
      at_pages = passes_rest (bound m) _ (4 + 3 * m) (4 + 3 * m + 9) 9 (bound_length m) refl at_bound

      at_end : Passes end s (share_start m n)
      unfolding share_start
      at_end = passes_rest pages end (4 + 3 * m + 9) _ (n * (11 + 3 * m)) pages_length refl at_pages

      at_give : (g : ℕ) → g < m → Passes (give n g) s (4 + 3 * g)
      at_give = formed_row 18 (holder n) m 4 (passes_left s (each m (give n)) _ 4 at_gives)

      at_page : (t : ℕ) → t < n → Passes (page_of m parts (present t) t) s (share_start m t)
      unfolding share_start
      at_page t l =
          subst (λ tests. Passes tests s (share_start m t)) (page_is m parts present t)
          (each_at s (page m parts present) (11 + 3 * m) (page_length_lem m parts present) n t (4 + 3 * m + 9) l (passes_left s pages end (4 + 3 * m + 9) at_pages))

      at_share : (t : ℕ) → t < n → Passes (nine m (present t) ++ row 21 (last parts (present t)) m) s (share_start m t + 2)
      at_share t l = command_rest 20 t _ (share_start m t) (at_page t l)

      at_nine : (t : ℕ) → t < n → Passes (nine m (present t)) s (share_start m t + 2)
      at_nine t l = passes_left s (nine m (present t)) _ (share_start m t + 2) (at_share t l)

      at_part : (t : ℕ) → t < n → (g : ℕ) → g < m → Passes (command 21 g ++ last parts (present t) ∷ []) s (share_start m t + 11 + 3 * g)
      at_part t l = formed_row 21 (last parts (present t)) m (share_start m t + 11)
          (passes_rest (nine m (present t)) _ (share_start m t + 2) (share_start m t + 11) 9 (nine_length m (present t)) (omega arith) (at_share t l))

      -- what a part is
      part_is : (t : ℕ) → t < n → (g : ℕ) → g < m → last parts (present t) (part_at m s t g) ≡ true
      part_is t l g b = passes_test (last parts (present t)) [] (share_start m t + 11 + 3 * g + 2) (command_rest 21 g _ (share_start m t + 11 + 3 * g) (at_part t l g b))

      pub passes_formed : Formed m n present s
      passes_formed = record {
        head_byte = command_byte 17 m _ 0 at_head;
        head_m = command_number 17 m _ 0 at_head;
        head_n = eqb-true _ n (passes_test (is n) _ 2 (command_rest 17 m _ 0 at_head));
        give_byte = λ g l. command_byte 18 g _ (4 + 3 * g) (at_give g l);
        give_item = λ g l. command_number 18 g _ (4 + 3 * g) (at_give g l);
        give_team = λ g l. passes_test (holder n) [] (4 + 3 * g + 2) (command_rest 18 g _ (4 + 3 * g) (at_give g l));
        bound_byte = eqb-true _ 19 (passes_test (is 19) _ (4 + 3 * m) at_bound);
        bound_set = formed_set m (4 + 3 * m + 1) (passes_next (is 19) (set m) (4 + 3 * m) (4 + 3 * m + 1) refl (passes_left s (bound m) _ (4 + 3 * m) at_bound));
        share_byte = λ t l. command_byte 20 t _ (share_start m t) (at_page t l);
        share_team = λ t l. command_number 20 t _ (share_start m t) (at_page t l);
        part_byte = λ t l g b. command_byte 21 g _ (share_start m t + 11 + 3 * g) (at_part t l g b);
        part_item = λ t l g b. command_number 21 g _ (share_start m t + 11 + 3 * g) (at_part t l g b);
        share_set = λ t l. nine_set m (share_start m t) (present t) (at_nine t l);
        part_below = λ t l here g b. last_below parts _ (present t) (part_is t l g b) here;
        away_share_lem = λ t l away. nine_zero m (share_start m t) (present t) (at_nine t l) away _ 0 (omega arith) (omega arith);
        away_set = λ t l away k b. nine_zero m (share_start m t) (present t) (at_nine t l) away _ (k + 1) (omega arith) (omega arith);
        away_part_lem = λ t l away g b. last_zero parts _ (present t) (part_is t l g b) away;
        end_byte = eqb-true _ 22 (passes_test (is 22) [] (share_start m n) at_end);
      }
