use Rattle.std.proofs.Common.{arith, length, ap}
use Rattle.visit.proofs.Visitable.{turn_next, turn_end}
use Rattle.visit.proofs.OrderIterator.next.Goals as goal

pub returns-then-i-lt-NUM_BUCKETS-clause-steps : goal.returns-then-i-lt-NUM_BUCKETS-clause-steps
returns-then-i-lt-NUM_BUCKETS-clause-steps c = rw c.in-InTurn.is (turn_next c.in-InTurn.next (omega arith))

pub returns-then-i-lt-NUM_BUCKETS-clause-goes : goal.returns-then-i-lt-NUM_BUCKETS-clause-goes
returns-then-i-lt-NUM_BUCKETS-clause-goes c =
    rw c.in-InTurn.is (let e = turn_next c.in-InTurn.next (omega arith) in grind (arith, ap length e))

pub returns-else-i-lt-NUM_BUCKETS-clause-steps : goal.returns-else-i-lt-NUM_BUCKETS-clause-steps
returns-else-i-lt-NUM_BUCKETS-clause-steps c = rw c.in-InTurn.is (let e = turn_end c.in-InTurn.next (omega arith) in (e, e))
