use Rattle.held.proofs.Steps.{filter_counts, filter_no_address, filter_off}
use Rattle.held.proofs.Others.fails_filter.Goals as goal
use Rattle.held.proofs.Others.fails_filter.Goals.{else-settings-eq1-via-then-settings-eq1+else-value-eq1, else-settings-eq1-via-else-settings-eq1}

pub returns-then-value-eq1 : goal.returns-then-value-eq1
returns-then-value-eq1 c = filter_counts _ c.args.value _ c.if-settings-eq1.true c.if-value-eq1.true c.counted.ensures

pub returns : goal.returns
returns c =
    elim c.else-settings-eq1.branch [
      | else-settings-eq1-via-then-settings-eq1+else-value-eq1 w ↦ filter_no_address _ c.args.value _ w.if-settings-eq1.true w.if-value-eq1.false
      | else-settings-eq1-via-else-settings-eq1 w ↦ filter_off _ c.args.value _ w.if-settings-eq1.false
    ]
