use Rattle.std.proofs.Common.{List, ℕ, sym, ap, true, get_or, ◌≡◌, ◌∙◌}
use Rattle.model.specs.Bucket.{get}
use Rattle.model.specs.Sizes.{table_filter_at}
use Rattle.model.specs.Table.{is_duplicate}
use Rattle.model.specs.Layout.{bucket_in, table_of}
use Rattle.key.specs.Key.{num}
use Rattle.node.specs.Node.{value_of}
use borrow.Author.Tests.{ne_eqb}
use Rattle.table_filter.proofs.Held.{table_filter, own_count}
use Rattle.table_filter.proofs.Asked.{not_run, is_run}
use Rattle.table_filter.proofs.asked_filter.Goals as goal
use Rattle.table_filter.proofs.asked_filter.Goals.{After-holds_value}

pub returns-then-s-ne1 : goal.returns-then-s-ne1
returns-then-s-ne1 c =
    not_run c.args.s.now c.args.i (num c.args.key) (value_of c.args.value) c.requires.1 (rw (table_filter, ne_eqb (get_or c.args.s.now table_filter_at 0) 1 c.if-s-ne1.true))

pub of-requires : goal.of-requires
of-requires c = rw c.bucket.ensures (own_count c.args.s.now c.args.i c.requires.1)

-- what holds_value answers of the key's bucket
duplicate : (c : After-holds_value) → is_duplicate (value_of c.args.value) (get (num c.args.key) ((table_of c.args.s.now).buckets c.args.i)) ≡ c.holds_value.result
unfolding table_of
duplicate c =
    sym (c.holds_value.ensures ∙ ap (λ (s : List ℕ). is_duplicate (value_of c.args.value) (get (num c.args.key) (bucket_in s))) (c.of.ensures ∙ c.bucket.ensures))

pub returns-then-holds_value : goal.returns-then-holds_value
returns-then-holds_value c =
    let d = duplicate (goal.at.returns-then-holds_value c).After-holds_value ∙ c.if-holds_value.true in
    not_run c.args.s.now c.args.i (num c.args.key) (value_of c.args.value) c.requires.1 (rw (table_filter, c.if-s-ne1.false, d))

pub returns : goal.returns
returns c =
    let on : (table_of c.args.s.now).settings.table_filter ≡ true = rw (table_filter, c.if-s-ne1.false) in
    let d = duplicate (goal.at.returns c).After-holds_value ∙ c.if-holds_value.false in
    is_run c.args.s.now c.args.i (num c.args.key) (value_of c.args.value) on d c.walked.result c.walked.ensures
