-- Parts of a list, and what a byte that is written changes of them.
use Prim.Native.Nat.{ℕ, ◌+◌, ◌-◌, ◌≤◌, ◌<◌}
use mathlib.Core.Path.{◌≡◌, sym, ap, ◌∙◌}
use mathlib.Core.List.{List, ◌++◌}
use native.Mathlib.Omega.{arith}
use lib.ListN.{length, get_or, take, drop, set, replicate, length-take, length-drop, length-append, get_or-append, length-replicate, get_or-replicate, get_or-eq_default}
use lib.Seq.{get_or-take, get_or-drop, take-set-lt, take-set-le, drop-set-lt, drop-set-add, ext_get_or, length-take-le, take_at, drop_at, get_or-append-add}
use Rattle.std.proofs.lemmas.List.{get_or_default}
use Rattle.row.specs.Row.{part}

module _ (l : List ℕ) (at many : ℕ) where
  pub part_at_lem : (i d : ℕ) → i < many → get_or (part l at many) i d ≡ get_or l (at + i) d
  unfolding part
  part_at_lem i d b = get_or-take many (drop at l) i d b ∙ get_or-drop at l i d

  pub part_length : at + many ≤ length l → length (part l at many) ≡ many
  unfolding part
  part_length fits = simp (length-take, length-drop) (omega arith)

  -- an entry of a list, by its place in a part
  pub part_read : (i d e : ℕ) → at + many ≤ length l → i < many → get_or l (at + i) d ≡ get_or (part l at many) i e
  part_read i d e fits b = get_or_default l (at + i) d e (omega arith) ∙ sym (part_at_lem i e b)

  -- past its end
  pub part_past : (i d : ℕ) → many ≤ i → get_or (part l at many) i d ≡ d
  unfolding part
  part_past i d b = get_or-eq_default (take many (drop at l)) d (simp length-take (omega arith))

  -- a byte that is written in a part, before it and after it
  pub part_set : (i v : ℕ) → i < many → part (set l (at + i) v) at many ≡ set (part l at many) i v
  unfolding part
  part_set i v b = ap (take many) (drop-set-add at l i v) ∙ take-set-lt many (drop at l) i v b

  pub part_before : (i v : ℕ) → i < at → part (set l i v) at many ≡ part l at many
  unfolding part
  part_before i v b = ap (take many) (drop-set-lt at l i v b)

  pub part_after : (i v : ℕ) → at + many ≤ i → part (set l i v) at many ≡ part l at many
  unfolding part
  part_after i v b =
      let e : i ≡ at + (i - at) = omega arith in
      ap (λ (j : ℕ). take many (drop at (set l j v))) e ∙ ap (take many) (drop-set-add at l (i - at) v) ∙ take-set-le many (drop at l) (i - at) v (omega arith)

  -- a part by its entries
  pub part_is : (r : List ℕ) → at + many ≤ length l → length r ≡ many → ((i : ℕ) → i < many → get_or r i 0 ≡ get_or l (at + i) 0) → r ≡ part l at many
  part_is r fits long same = ext_get_or 0 r (part l at many) (long ∙ sym (part_length fits)) (λ i b. same i (omega arith) ∙ sym (part_at_lem i 0 (omega arith)))

  -- a part with one value everywhere
  pub part_all : (v : ℕ) → at + many ≤ length l → ((i : ℕ) → i < many → get_or l (at + i) 0 ≡ v) → part l at many ≡ replicate many v
  part_all v fits same = sym (part_is (replicate many v) fits (length-replicate many v) (λ i b. get_or-replicate many i v 0 b ∙ sym (same i b)))

-- a part of a list that is put back, with as many entries as it had
module _ (l : List ℕ) (at many : ℕ) (fits : at + many ≤ length l) (ys : List ℕ) (long : length ys ≡ many) where
  abbrev pub put : List ℕ
  put = take at l ++ (ys ++ drop many (drop at l))

  front : length (take at l) ≡ at
  front = length-take-le at l (omega arith)

  pub put_length : length put ≡ length l
  put_length = simp (length-append, length-take, length-drop) (omega arith)

  -- the part, and what lies before and after it
  pub put_part : part put at many ≡ ys
  unfolding part
  put_part = ap (take many) (drop_at (take at l) (ys ++ drop many (drop at l)) at front) ∙ take_at ys (drop many (drop at l)) many long

  pub put_before : (i d : ℕ) → i < at → get_or put i d ≡ get_or l i d
  put_before i d b = get_or-append (take at l) (ys ++ drop many (drop at l)) d i (omega (arith, front)) ∙ get_or-take at l i d b

  pub put_after : (i d : ℕ) → at + many ≤ i → get_or put i d ≡ get_or l i d
  put_after i d b =
      let j = i - at - many in
      let e : i ≡ length (take at l) + (length ys + j) = omega (arith, front) in
      let e' : at + (many + j) ≡ i = omega arith in
      ap (λ (k : ℕ). get_or put k d) e ∙ get_or-append-add (take at l) (ys ++ drop many (drop at l)) (length ys + j) d ∙ get_or-append-add ys (drop many (drop at l)) j d
      ∙ get_or-drop many (drop at l) j d ∙ get_or-drop at l (many + j) d ∙ ap (λ (k : ℕ). get_or l k d) e'

  pub put_within : (i d : ℕ) → i < many → get_or put (at + i) d ≡ get_or ys i d
  put_within i d b = sym (part_at_lem put at many i d b) ∙ ap (λ (x : List ℕ). get_or x i d) put_part
