-- `assemble` meets its contract, line by line. Assumes nothing.
use Rattle.std.proofs.Common.{◌≡◌, ◌+◌, rules, tests, arith, length, Err}
use Rattle.std.proofs.lemmas.List.{length_push}
use Rattle.assemble.specs.Assembled.{lines_of}
use Rattle.assemble.proofs.Texts.{going, finishes, fails, goes, turn, last-turn, lines-road}
use Rattle.assemble.proofs.assembler.assemble.Goals as goal

pub loop-i-init : goal.loop-i-init
loop-i-init c = going _ _ c.requires

pub returns-in_err-end : goal.returns-in_err-end
returns-in_err-end c =
    let k = turn _ _ c.loop-i.yielded c.loop-i.yielded_by _ c.next.ensures.steps c.in-Some.i c.in-Some.line c.in-Some.is (lines_of c.args.text.now)
    (lines-road _ _ c.into_iter-i-iterator.ensures.into_iter_gives c.enumerate-i-items.ensures.source c.enumerate-i-items.ensures.count
    c.split.ensures.rest c.split.ensures.done c.split.ensures.closure (λ x b q k. search (rules, tests))) in
    let w = c.in_err-end.field-0.0 in
    let e : c.assemble_line.result ≡ Err w.reason = grind arith in
    let n : w.line ≡ length c.loop-i.yielded + 1 = grind arith in
    let q : c.from_residual.result ≡ Err w = grind arith in
    rw q (fails c.loop-i.invariant _ k.1 k.2 _ _ c.assemble_line.ensures w e n)

pub loop-i-preserved : goal.loop-i-preserved
loop-i-preserved c =
    let k = turn _ _ c.loop-i.yielded c.loop-i.yielded_by _ c.next.ensures.steps c.in-Some.i c.in-Some.line c.in-Some.is (lines_of c.args.text.now)
    (lines-road _ _ c.into_iter-i-iterator.ensures.into_iter_gives c.enumerate-i-items.ensures.source c.enumerate-i-items.ensures.count
    c.split.ensures.rest c.split.ensures.done c.split.ensures.closure (λ x b q k. search (rules, tests))) in
    rw length_push (goes c.loop-i.invariant _ k.1 k.2 _ _ c.assemble_line.ensures c.in_ok-end.end (grind arith))

pub returns : goal.returns
returns c =
    finishes c.loop-i.invariant
    (last-turn _ _ c.loop-i.yielded c.loop-i.yielded_by _ c.next.ensures.steps c.in-None.is (lines_of c.args.text.now)
    (lines-road _ _ c.into_iter-i-iterator.ensures.into_iter_gives c.enumerate-i-items.ensures.source c.enumerate-i-items.ensures.count
    c.split.ensures.rest c.split.ensures.done c.split.ensures.closure (λ x b q k. search (rules, tests))))
