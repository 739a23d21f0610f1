use mathlib.Core.Path.{sym, ap}
use borrow.Author.Tests.{le-leb, lt-leb}
use Rattle.bucket.specs.declared.KBucket.{KBucket}
use Rattle.model.specs.Result.{Reply}
use Rattle.model.specs.Bucket.{max_nodes_per_bucket}
use Rattle.bucket.specs.Calls.{new_call}
use mathlib.Core.Logic.{⊎_elim}
use Rattle.bucket.proofs.KBucket.new.Goals as goal

abbrev refused : KBucket → Reply (Unit {0}) × KBucket
refused b = (Reply.Refused 4, b)

abbrev created : KBucket → Reply (Unit {0}) × KBucket
created b = (Reply.Answered tt, b)

pub returns-then-max_incoming-gt-MAX_NODES_PER_BUCKET : goal.returns-then-max_incoming-gt-MAX_NODES_PER_BUCKET
unfolding new_call
returns-then-max_incoming-gt-MAX_NODES_PER_BUCKET c =
    let e = rw (c.default.ensures.0, c.default.ensures.1.0, c.default.ensures.1.1) at c.empty.ensures in
    ⊎_elim (λ h. rw (lt-leb c.args.max_incoming max_nodes_per_bucket h) (ap refused (sym e))) (λ h. rw (le-leb _ _ h.0, lt-leb _ _ h.1) (ap refused (sym e)))
    c.then-max_incoming-gt-MAX_NODES_PER_BUCKET.either

pub returns : goal.returns
unfolding new_call
returns c = rw (le-leb _ _ c.if-max_incoming-gt-MAX_NODES_PER_BUCKET.false, le-leb _ _ c.if-filter-gt1.false) (ap created (sym c.empty-2.ensures))
