-- What is written of a division states the facts that Check asks for.
use Prim.Native.Nat.{ℕ, ◌+◌, ◌-◌, ◌*◌, ◌/◌, ◌%◌, ◌^◌, ◌≤◌, ◌<◌}
use mathlib.Core.Path.{◌≡◌, refl, sym, ap, ◌∙◌, subst, subst⁻¹, fun_ext}
use mathlib.Core.Bool.{true}
use mathlib.Core.Logic.{inl, inr}
use mathlib.Core.List.{List}
use native.Mathlib.Omega.{arith}
use lib.Dec.{T, eqb, ltb}
use lib.ListN.{length, get_or, take, drop, length-drop, get_or-replicate}
use lib.Seq.{length-take-le, get_or-take, get_or-drop, ext_get_or}
use borrow.Author.Tests.{lt-ltb, le-ltb}
use Rattle.matroid.specs.Set.{complement, size}
use Rattle.matroid.specs.SetLaws.{size_same}
use Rattle.matroid.specs.Sum.{sum}
use Rattle.matroid.specs.Matroid.{Matroid, worth}
use Rattle.matroid.specs.Division.{bundle, held}
use Rattle.matroid.proofs.Rank.{worth_same}
use Rattle.sets.specs.Bits.{bit}
use Rattle.plan.specs.declared.Reading.{Reading}
use Rattle.plan.specs.Valid.{Valid}
use Rattle.std.proofs.lemmas.List.{get_or_default}
use Rattle.kinds.specs.declared.Valuation.{Valuation}
use Rattle.kinds.specs.Valuations.{matroids}
use Rattle.plan.specs.Teams.{valuations_of, team_matroid, present, present_count}
use Rattle.plan.proofs.Valuing.{matroids_of}
use Rattle.engine.specs.declared.divide.Division.{Division}
use Rattle.exchange.specs.Agents.{holder, Held}
use Rattle.engine.specs.Fill.{given}
use Rattle.engine.specs.declared.share.Shared.{Shared}
use Rattle.engine.specs.Divide.{no_share, Divided}
use Rattle.exchange.proofs.Words.{indep_alike}
use Rattle.engine.proofs.Sizes.{given_held}
use Rattle.sheet.specs.Layout.{length_of, bound_start, page_length, share_start, part_start}
use Rattle.sheet.proofs.Places.{share_first, end_last}
use Rattle.sheet.specs.Fields.{total_at, holder_at, bound_at, share_at, set_at, part_at}
use Rattle.sheet.specs.Form.{holder as holderTest}
use Rattle.sheet.specs.Formed.{Formed}
use Rattle.sheet.proofs.Commands.{holder_team, holder_pool}
use Rattle.checker.specs.Stated.{Stated}
use Rattle.builder.specs.Rows.{three, set_bytes, row_bytes, page_bytes, Written}
use Rattle.builder.proofs.Digits.{low_lt, set_formed, set_back, set_zero}
use Rattle.builder.proofs.Pages.{share_mono, share_le}

-- ---- the bytes of rows and pages

row_at : (byte g j : ℕ) (table : List ℕ) → j < 3 → row_bytes byte table (3 * g + j) ≡ three byte g (get_or table g 0) j
unfolding row_bytes
row_at byte g j table l =
    let q : (3 * g + j) / 3 ≡ g = omega arith in
    let m : (3 * g + j) % 3 ≡ j = omega arith in
    rw (q, m) refl

page_head : (t k : ℕ) (one : _) → k < 3 → page_bytes t one k ≡ three 20 t one.share k
unfolding page_bytes
page_head t k one l = rw (lt-ltb k 3 l) refl

page_set : (t j : ℕ) (one : _) → j < 8 → page_bytes t one (3 + j) ≡ set_bytes one.bound j
unfolding page_bytes
page_set t j one l =
    let e : 3 + j - 3 ≡ j = omega arith in
    rw (le-ltb (3 + j) 3 (omega arith), e, lt-ltb j 8 l) refl

page_part : (t k : ℕ) (one : _) → page_bytes t one (11 + k) ≡ row_bytes 21 one.part k
unfolding page_bytes
page_part t k one =
    let e : 11 + k - 3 ≡ 8 + k = omega arith in
    let f : 8 + k - 8 ≡ k = omega arith in
    rw (le-ltb (11 + k) 3 (omega arith), e, le-ltb (8 + k) 8 (omega arith), f) refl

module _ (r : Reading) (valid : Valid r) (row : List Valuation) (same : row ≡ valuations_of r) (read : r.refusal ≡ 0) (before after : List ℕ) (total : ℕ) (d : Division)
    (w : Written before after r.m r.n total d) (room : length_of r.m r.n ≤ length before)
    (div : Divided (record { m = r.m; n = r.n; valuations = row }) (present r) d) (count : total ≡ given (record { m = r.m; n = r.n; valuations = row }) d.holding.owner) where
  abbrev m : ℕ
  m = r.m

  abbrev n : ℕ
  n = r.n

  abbrev L : ℕ
  L = length_of r.m r.n

  abbrev sheet : List ℕ
  sheet = take L after

  abbrev D : ℕ → ℕ
  D = holder d.holding.owner

  hold : Held (record { m = r.m; n = r.n; valuations = row }) d.holding
  hold = div.full.held

  -- the agents' matroids are the teams'
  abbrev agent : ℕ → Matroid m
  agent = matroids r.m row

  teams : agent ≡ team_matroid r
  teams = ap (matroids r.m) same ∙ fun_ext (matroids_of r valid.few)

  -- within the first L bytes
  at : (i : ℕ) → i < L → get_or sheet i 0 ≡ get_or after i 0
  at i l = get_or-take L after i 0 l

  ends : L ≡ share_start m n + 1
  ends = end_last m n

  starts : share_start m 0 ≡ 4 + 3 * m + 9
  starts = share_first m

  after_all : share_start m 0 ≤ share_start m n
  after_all = share_le m n

  -- a byte of a page
  page_at : (t : ℕ) → t < n → (k : ℕ) → k < page_length m → get_or sheet (share_start m t + k) 0 ≡ page_bytes t (get_or d.shares t no_share) k
  page_at t l k b = let e = ends in let mono = share_mono m t n l in at (share_start m t + k) (omega arith) ∙ w.pages t l k b

  give_at : (g : ℕ) → g < m → (j : ℕ) → j < 3 → get_or sheet (4 + 3 * g + j) 0 ≡ three 18 g (get_or d.holding.owner g 0) j
  give_at g l j b =
      let e = ends in
      let f = starts in
      let a = after_all in
      let assoc : 4 + 3 * g + j ≡ 4 + (3 * g + j) = omega arith in
      ap (λ (i : ℕ). get_or sheet i 0) assoc ∙ at (4 + (3 * g + j)) (omega arith) ∙ w.gives (3 * g + j) (omega arith) ∙ row_at 18 g j d.holding.owner b

  part_at_lem : (t : ℕ) → t < n → (g : ℕ) → g < m → (j : ℕ) → j < 3 → get_or sheet (part_start m t g + j) 0 ≡ three 21 g (get_or (get_or d.shares t no_share).part g 0) j
  part_at_lem t l g b j c =
      let assoc : share_start m t + 11 + 3 * g + j ≡ share_start m t + (11 + (3 * g + j)) = omega arith in
      ap (λ (i : ℕ). get_or sheet i 0) assoc ∙ page_at t l (11 + (3 * g + j)) (omega arith) ∙ page_part t (3 * g + j) (get_or d.shares t no_share) ∙ row_at 21 g j (get_or d.shares t no_share).part c

  -- ---- the fields

  holder_at_lem : (g : ℕ) → g < m → holder_at sheet g ≡ D g
  holder_at_lem g l = let long = hold.owner_long in let small = valid.small in give_at g l 2 (omega arith) ∙ get_or_default d.holding.owner g 0 255 (omega arith)

  part_is : (t : ℕ) → t < n → (g : ℕ) → g < m → part_at m sheet t g ≡ get_or (get_or d.shares t no_share).part g 0
  part_is t l g b = part_at_lem t l g b 2 (omega arith)

  total_at_lem : total_at sheet ≡ total
  total_at_lem = let e = ends in let f = starts in let a = after_all in at 3 (omega arith) ∙ w.stated

  share_at_lem : (t : ℕ) → t < n → share_at m sheet t ≡ (get_or d.shares t no_share).share
  share_at_lem t l = page_at t l 2 (omega arith) ∙ page_head t 2 (get_or d.shares t no_share) (omega arith)

  bound_small : d.bound < 2 ^ m
  bound_small = low_lt m d.bound div.full.low

  bound_bytes : (k : ℕ) → k < 8 → get_or sheet (bound_start m + 1 + k) 0 ≡ set_bytes d.bound k
  bound_bytes k l = let e = ends in let f = starts in let a = after_all in at (bound_start m + 1 + k) (omega arith) ∙ w.set k l

  bound_at_lem : bound_at m sheet ≡ d.bound
  bound_at_lem = set_back m d.bound sheet (bound_start m + 1) valid.small bound_small bound_bytes

  set_small : (t : ℕ) → t < n → T (present r t) → (get_or d.shares t no_share).bound < 2 ^ m
  set_small t l here = low_lt m (get_or d.shares t no_share).bound (div.shares.at t l here).low

  set_bytes_lem : (t : ℕ) → t < n → (k : ℕ) → k < 8 → get_or sheet (share_start m t + 3 + k) 0 ≡ set_bytes (get_or d.shares t no_share).bound k
  set_bytes_lem t l k b =
      let assoc : share_start m t + 3 + k ≡ share_start m t + (3 + k) = omega arith in
      ap (λ (i : ℕ). get_or sheet i 0) assoc ∙ page_at t l (3 + k) (omega arith) ∙ page_set t k (get_or d.shares t no_share) b

  set_at_lem : (t : ℕ) → t < n → T (present r t) → set_at m sheet t ≡ (get_or d.shares t no_share).bound
  set_at_lem t l here = set_back m (get_or d.shares t no_share).bound sheet (share_start m t + 3) valid.small (set_small t l here) (set_bytes_lem t l)

  -- ---- the form

  plus_zero : (i : ℕ) → i ≡ i + 0
  plus_zero i = omega arith

  holds : (g : ℕ) → g < m → holderTest n (holder_at sheet g) ≡ true
  holds g l = elim (hold.placed g) [
    | inl p ↦ holder_pool n (D g) (holder_at sheet g) (sym (holder_at_lem g l)) p
    | inr b ↦ holder_team n (D g) (holder_at sheet g) (sym (holder_at_lem g l)) b
  ]

  formed : Formed m n (present r) sheet
  formed =
      let e = ends in
      let f = starts in
      let a = after_all in
      record {
        head_byte = at 0 (omega arith) ∙ w.head 0 (omega arith);
        head_m = at 1 (omega arith) ∙ w.head 1 (omega arith);
        head_n = at 2 (omega arith) ∙ w.head 2 (omega arith);
        give_byte = λ g l. ap (λ (i : ℕ). get_or sheet i 0) (plus_zero (4 + 3 * g)) ∙ give_at g l 0 (omega arith);
        give_item = λ g l. give_at g l 1 (omega arith);
        give_team = holds;
        bound_byte = at (bound_start m) (omega arith) ∙ w.bound;
        bound_set = λ k l. rw (bound_bytes k l) (set_formed m d.bound k bound_small);
        share_byte = λ t l. ap (λ (i : ℕ). get_or sheet i 0) (plus_zero (share_start m t)) ∙ page_at t l 0 (omega arith) ∙ page_head t 0 (get_or d.shares t no_share) (omega arith);
        share_team = λ t l. page_at t l 1 (omega arith) ∙ page_head t 1 (get_or d.shares t no_share) (omega arith);
        part_byte = λ t l g b. ap (λ (i : ℕ). get_or sheet i 0) (plus_zero (part_start m t g)) ∙ part_at_lem t l g b 0 (omega arith);
        part_item = λ t l g b. part_at_lem t l g b 1 (omega arith);
        share_set = λ t l here k b. rw (set_bytes_lem t l k b) (set_formed m (get_or d.shares t no_share).bound k (set_small t l here));
        part_below = λ t l here g b. rw (part_is t l g b) ((div.shares.at t l here).below g b);
        away_share_lem = λ t l away. share_at_lem t l ∙ ap (λ (x : Shared). x.share) (div.shares.away t l away);
        away_set = λ t l away k b. set_bytes_lem t l k b ∙ ap (λ (x : Shared). set_bytes x.bound k) (div.shares.away t l away) ∙ set_zero k;
        away_part_lem = λ t l away g b. part_is t l g b ∙ ap (λ (x : Shared). get_or x.part g 0) (div.shares.away t l away) ∙ get_or-replicate 64 g 0 0 (let small = valid.small in omega arith);
        end_byte = at (share_start m n) (omega arith) ∙ w.end;
      }

  -- ---- the rules

  -- bundles by the sheet are bundles by the holding, below m
  same_bundle : (t k : ℕ) → k < m → bundle D t k ≡ bundle (holder_at sheet) t k
  same_bundle t k l = ap (λ (x : ℕ). eqb x t) (sym (holder_at_lem k l))

  same_size : (t : ℕ) → size m (bundle (holder_at sheet) t) ≡ size m (bundle D t)
  same_size t = size_same m {A = bundle (holder_at sheet) t} {B = bundle D t} (record { at = λ k l x. subst⁻¹ T (same_bundle t k l) x }) (record { at = λ k l x. subst T (same_bundle t k l) x })

  same_held : size m (held n (holder_at sheet)) ≡ size m (held n D)
  same_held = size_same m {A = held n (holder_at sheet)} {B = held n D}
      (record { at = λ k l x. subst (λ (y : ℕ). T (ltb y n)) (holder_at_lem k l) x }) (record { at = λ k l x. subst⁻¹ (λ (y : ℕ). T (ltb y n)) (holder_at_lem k l) x })

  same_part : (t : ℕ) → t < n → (p : ℕ) → worth (agent t) (bundle (part_at m sheet t) p) ≡ worth (agent t) (bundle (λ g. get_or (get_or d.shares t no_share).part g 0) p)
  same_part t l p = worth_same (agent t) {S = bundle (part_at m sheet t) p} {S' = bundle (λ g. get_or (get_or d.shares t no_share).part g 0) p}
      (record { at = λ k b x. subst (λ (y : ℕ). T (eqb y p)) (part_is t l k b) x }) (record { at = λ k b x. subst⁻¹ (λ (y : ℕ). T (eqb y p)) (part_is t l k b) x })

  count_is : total ≡ size m (held n D)
  count_is = count ∙ given_held (record { m = r.m; n = r.n; valuations = row }) d.holding.owner

  pub states : Stated r sheet
  states = record {
    read = read;
    long = length-take-le L after (let long = w.long in omega arith);
    formed = formed;
    independent = λ t l. subst (λ (M : ℕ → Matroid m). (M t).Indep (bundle (holder_at sheet) t)) teams (indep_alike (agent t) (bundle D t) (bundle (holder_at sheet) t) (same_bundle t) (hold.sound t l));
    given = total_at_lem ∙ count_is ∙ sym same_held;
    bound =
        total_at_lem ∙ count ∙ div.full.full
        ∙ subst
        (λ (M : ℕ → Matroid m). size m (complement (bit d.bound)) + sum n (λ t. worth (agent t) (bit d.bound)) ≡ size m (complement (bit (bound_at m sheet))) + sum n (λ t. worth (M t) (bit (bound_at m sheet))))
        teams (rw bound_at_lem refl);
    reached = λ t l here k b.
        let fair = (div.shares.at t l here).fair k b in
        let s = share_at_lem t l in
        let alike = same_part t l k in
        subst (λ (M : ℕ → Matroid m). share_at m sheet t ≤ worth (M t) (bundle (part_at m sheet t) k)) teams (omega arith);
    limited = λ t l here.
        subst (λ (M : ℕ → Matroid m). size m (complement (bit (set_at m sheet t))) + present_count r * worth (M t) (bit (set_at m sheet t)) < present_count r * (share_at m sheet t + 1)) teams
        (rw (share_at_lem t l, set_at_lem t l here) (div.shares.at t l here).tight);
    enough = λ t l. let s = share_at_lem t l in let alike = same_size t in let reached = div.reached t l in omega arith;
  }

  -- the rest of the buffer
  pub rest_same : drop L after ≡ drop L before
  rest_same = ext_get_or 0 (drop L after) (drop L before) (length-drop L after ∙ (let long = w.long in let e : length after - L ≡ length before - L = omega arith in e) ∙ sym (length-drop L before))
      (λ i l. get_or-drop L after i 0 ∙ w.rest (L + i) (omega arith) ∙ sym (get_or-drop L before i 0))
