use mathlib.Core.Path.{refl, ◌∙◌}
use native.Mathlib.Omega.{arith}
use Rattle.kinds.specs.Valuations.{matroids}
use Rattle.plan.proofs.Valuing.{valued_long}
use Rattle.sheet.proofs.Sizes.{end_inside}
use Rattle.checker.proofs.Lowest.{found_is, found_not}
use Rattle.checker.proofs.Bundles.{agents_are}
use Rattle.checker.proofs.Verdicts.{row_long, give_words, bound_word, total_given, total_bound, total_both, weigh_13, weigh_14, weigh_15, weigh_16, weigh_none}
use Rattle.checker.proofs.weigh.Goals as goal

pub slice_bounds-words-end : goal.slice_bounds-words-end
slice_bounds-words-end c = let r = c.args.r in
    let a = end_inside r.m r.n in
    omega (arith, c.requires.1, c.bound_start-end.ensures)

pub words-bundles-requires : goal.words-bundles-requires
words-bundles-requires c = let r = c.args.r in
    let a = end_inside r.m r.n in
    (c.requires.0.small, row_long c.args.sheet.now r.m _ _ c.give_start-start.ensures c.bound_start-end.ensures (omega (arith, c.requires.1)))

pub first_dependent-requires : goal.first_dependent-requires
first_dependent-requires c = let valid = c.requires.0 in
    let few = valid.few in
    (valid.small, omega arith, valued_long _ _ c.valuations_of-valuations.ensures)

pub returns-in-Some : goal.returns-in-Some
returns-in-Some c = let r = c.args.r in
    let sheet = c.args.sheet.now in
    let valid = c.requires.0 in
    let row = c.valuations_of-valuations in
    let M = matroids r.m row.result in
    let is-M = agents_are r row.result valid.few row.ensures in
    let end = c.bound_start-end in
    let words = give_words sheet _ r.m _ _ c.give_start-start.ensures end.ensures c.words-bundles.ensures in
    let found = found_is (c.first_dependent.ensures _ words) c.in-Some.is in
    c.refuse.ensures ∙ weigh_13 r sheet M is-M _ found.1 found.0

pub bounds-sheet-3 : goal.bounds-sheet-3
bounds-sheet-3 c = let r = c.args.r in
    let a = end_inside r.m r.n in
    omega (arith, c.requires.1)

pub returns-then-total-given : goal.returns-then-total-given
returns-then-total-given c = let r = c.args.r in
    let sheet = c.args.sheet.now in
    let valid = c.requires.0 in
    let row = c.valuations_of-valuations in
    let M = matroids r.m row.result in
    let is-M = agents_are r row.result valid.few row.ensures in
    let end = c.bound_start-end in
    let words = give_words sheet _ r.m _ _ c.give_start-start.ensures end.ensures c.words-bundles.ensures in
    let independent = found_not (c.first_dependent.ensures _ words) c.in_default.is in
    let total = c.wide-total.ensures in
    let given = c.given.ensures r.m _ valid.small words in
    c.refuse-then-total-given.ensures ∙ weigh_14 r sheet M is-M _ refl independent (total_given r.n M sheet _ _ total given c.if-total-given.true)

pub overflow_add-end : goal.overflow_add-end
overflow_add-end c = let r = c.args.r in
    let a = end_inside r.m r.n in
    omega (arith, c.requires.1, c.bound_start-end.ensures)

pub word_at-requires : goal.word_at-requires
word_at-requires c = let r = c.args.r in
    let a = end_inside r.m r.n in
    omega (arith, c.requires.1, c.bound_start-end.ensures)

pub bound-requires : goal.bound-requires
bound-requires c = let valid = c.requires.0 in
    (valid.small, valid.few, valued_long _ _ c.valuations_of-valuations.ensures)

pub returns-then-total-bound : goal.returns-then-total-bound
returns-then-total-bound c = let r = c.args.r in
    let sheet = c.args.sheet.now in
    let valid = c.requires.0 in
    let row = c.valuations_of-valuations in
    let M = matroids r.m row.result in
    let is-M = agents_are r row.result valid.few row.ensures in
    let end = c.bound_start-end in
    let words = give_words sheet _ r.m _ _ c.give_start-start.ensures end.ensures c.words-bundles.ensures in
    let independent = found_not (c.first_dependent.ensures _ words) c.in_default.is in
    let total = c.wide-total.ensures in
    let given = c.given.ensures r.m _ valid.small words in
    let bound = bound_word r.n M sheet end.result _ _ end.ensures c.word_at.ensures c.bound.ensures in
    c.refuse-then-total-bound.ensures ∙ weigh_14 r sheet M is-M _ refl independent (total_bound r.n M sheet _ _ total given _ bound c.if-total-bound.true)

pub first_wrong-requires : goal.first_wrong-requires
first_wrong-requires c = let valid = c.requires.0 in
    (valid.small, valid.few, valued_long _ _ c.valuations_of-valuations.ensures, c.requires.1)

pub returns-in-Some-first_wrong : goal.returns-in-Some-first_wrong
returns-in-Some-first_wrong c = let r = c.args.r in
    let sheet = c.args.sheet.now in
    let valid = c.requires.0 in
    let here = c.requires.2 in
    let row = c.valuations_of-valuations in
    let M = matroids r.m row.result in
    let is-M = agents_are r row.result valid.few row.ensures in
    let end = c.bound_start-end in
    let words = give_words sheet _ r.m _ _ c.give_start-start.ensures end.ensures c.words-bundles.ensures in
    let independent = found_not (c.first_dependent.ensures _ words) c.in_default.is in
    let total = c.wide-total.ensures in
    let given = c.given.ensures r.m _ valid.small words in
    let bound = bound_word r.n M sheet end.result _ _ end.ensures c.word_at.ensures c.bound.ensures in
    let holds = total_both r.n M sheet _ _ total given _ bound c.if-total-given.false c.if-total-bound.false in
    let found = found_is c.first_wrong.ensures c.in-Some-first_wrong.is in
    c.refuse-in-Some-first_wrong.ensures ∙ weigh_15 r sheet M is-M _ refl independent holds _ here _ found.1 found.0

pub returns-in-Some-first_short : goal.returns-in-Some-first_short
returns-in-Some-first_short c = let r = c.args.r in
    let sheet = c.args.sheet.now in
    let valid = c.requires.0 in
    let here = c.requires.2 in
    let row = c.valuations_of-valuations in
    let M = matroids r.m row.result in
    let is-M = agents_are r row.result valid.few row.ensures in
    let end = c.bound_start-end in
    let words = give_words sheet _ r.m _ _ c.give_start-start.ensures end.ensures c.words-bundles.ensures in
    let independent = found_not (c.first_dependent.ensures _ words) c.in_default.is in
    let total = c.wide-total.ensures in
    let given = c.given.ensures r.m _ valid.small words in
    let bound = bound_word r.n M sheet end.result _ _ end.ensures c.word_at.ensures c.bound.ensures in
    let holds = total_both r.n M sheet _ _ total given _ bound c.if-total-given.false c.if-total-bound.false in
    let shown = found_not c.first_wrong.ensures c.in_default-first_wrong.is in
    let found = found_is (c.first_short.ensures words) c.in-Some-first_short.is in
    c.refuse-in-Some-first_short.ensures ∙ weigh_16 r sheet M is-M _ refl independent holds _ here _ refl shown _ found.1 found.0

pub returns : goal.returns
returns c = let r = c.args.r in
    let sheet = c.args.sheet.now in
    let valid = c.requires.0 in
    let here = c.requires.2 in
    let row = c.valuations_of-valuations in
    let M = matroids r.m row.result in
    let is-M = agents_are r row.result valid.few row.ensures in
    let end = c.bound_start-end in
    let words = give_words sheet _ r.m _ _ c.give_start-start.ensures end.ensures c.words-bundles.ensures in
    let independent = found_not (c.first_dependent.ensures _ words) c.in_default.is in
    let total = c.wide-total.ensures in
    let given = c.given.ensures r.m _ valid.small words in
    let bound = bound_word r.n M sheet end.result _ _ end.ensures c.word_at.ensures c.bound.ensures in
    let holds = total_both r.n M sheet _ _ total given _ bound c.if-total-given.false c.if-total-bound.false in
    let shown = found_not c.first_wrong.ensures c.in_default-first_wrong.is in
    let enough = found_not (c.first_short.ensures words) c.in_default-first_short.is in
    weigh_none r sheet M is-M _ refl independent holds _ here _ refl shown _ refl enough
