use Rattle.std.proofs.Common.{sym, ap, ◌∙◌, arith}
use Rattle.model.specs.Base.{first}
use Rattle.key.specs.Key.{num}
use Rattle.key.proofs.Steps.{up_none, word_out, word_out_under, word_out_none}
use Rattle.key.proofs.ClosestBucketsIter.next_out.Goals as goal

pub overflow_add-result : goal.overflow_add-result
overflow_add-result c =
    let u = word_out_under (num c.args.self.distance) c.loop-k.k c.word-w.result c.loop-k-test.true c.word-w.ensures c.in-Some.ensures in
    omega arith

pub returns-in-Some : goal.returns-in-Some
returns-in-Some c =
    word_out (num c.args.self.distance) c.loop-k.k c.word-w.result c.loop-k-test.true c.word-w.ensures c.in-Some.ensures
    ∙ sym (ap first c.loop-k.invariant)

pub loop-k-preserved : goal.loop-k-preserved
loop-k-preserved c =
    c.loop-k.invariant
    ∙ word_out_none (num c.args.self.distance) c.loop-k.k c.word-w.result c.loop-k-test.true c.word-w.ensures c.in_default.ensures

pub returns : goal.returns
returns c = sym (ap first (c.loop-k.invariant ∙ up_none (num c.args.self.distance) c.loop-k.k (omega arith)))
