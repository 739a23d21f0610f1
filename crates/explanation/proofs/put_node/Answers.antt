use Rattle.std.proofs.Common.{sym, ◌∙◌}
use Rattle.explanation.proofs.Keys.{keys_full, keys_none, keys_one}
use Rattle.explanation.proofs.put_node.Goals as goal
use Rattle.explanation.proofs.put_node.Goals.{then-out-lt-SPACED_KEY-via-then-out-lt-SPACED_KEY, then-out-lt-SPACED_KEY-via-else-out-lt-SPACED_KEY+then-not-passes}

pub returns-then-out-lt-SPACED_KEY : goal.returns-then-out-lt-SPACED_KEY
returns-then-out-lt-SPACED_KEY c =
    elim c.then-out-lt-SPACED_KEY.branch [
      | then-out-lt-SPACED_KEY-via-then-out-lt-SPACED_KEY w ↦ keys_full _ _ w.if-out-lt-SPACED_KEY.true
      | then-out-lt-SPACED_KEY-via-else-out-lt-SPACED_KEY+then-not-passes w ↦ rw (sym w.passes.ensures ∙ w.if-not-passes.true) (keys_none _)
    ]

pub returns : goal.returns
returns c = rw (sym c.passes.ensures ∙ c.if-not-passes.false) (keys_one c.if-out-lt-SPACED_KEY.false c.put_spaced_key.ensures)
