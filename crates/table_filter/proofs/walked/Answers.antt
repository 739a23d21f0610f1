use Rattle.std.proofs.Common.{arith, refl, sym, true, length, ◌≡◌, ◌∙◌}
use Rattle.model.specs.Base.{select, all_below}
use Rattle.model.specs.Filter.{max_nodes_per_subnet_table}
use Rattle.model.specs.Bucket.{nodes}
use Rattle.model.specs.Table.{num_buckets, held_nodes}
use Rattle.model.specs.Layout.{table_of}
use Rattle.model.specs.Formed.{bucket_formed_at}
use Rattle.laws.proofs.Lists.{all_none, all_more, all_fails}
use Rattle.laws.proofs.Touched.{every_formed}
use Rattle.key.specs.Key.{num}
use Rattle.node.specs.Node.{value_of}
use Rattle.well_formed.specs.Tests.{bucket_at_formed}
use Rattle.table_filter.specs.Counted.{counts_other}
use Rattle.table_filter.proofs.Held.{counted_bucket, has_address_lem, no_address, filter_no_address, filter_test, table_bucket, own_count}
use Rattle.table_filter.proofs.walked.Goals as goal

-- against a value without an address none counts
pub returns-then-buckets_formed : goal.returns-then-buckets_formed
unfolding bucket_at_formed
returns-then-buckets_formed c =
    (every_formed c.args.s.now ∙ sym c.buckets_formed.ensures ∙ c.if-buckets_formed.true, sym (filter_no_address max_nodes_per_subnet_table (value_of c.args.value) _ (no_address c.args.value c.if-value-ne1.true)))

pub returns-then-value-ne1 : goal.returns-then-value-ne1
unfolding bucket_at_formed
returns-then-value-ne1 c = (every_formed c.args.s.now ∙ sym c.buckets_formed.ensures ∙ c.if-buckets_formed.false, refl)

pub loop-i-init : goal.loop-i-init
unfolding held_nodes
loop-i-init c = record { few = omega arith; asked = all_none _; counted = refl }

pub returns-then-not-bucket_formed_at : goal.returns-then-not-bucket_formed_at
returns-then-not-bucket_formed_at c =
    (every_formed c.args.s.now ∙ all_fails num_buckets (bucket_formed_at c.args.s.now) c.loop-i.i (omega arith) (sym c.bucket_formed_at.ensures ∙ c.if-not-bucket_formed_at.true), refl)

pub of-requires : goal.of-requires
of-requires c =
    let f = own_count c.args.s.now c.loop-i.i (sym c.bucket_formed_at.ensures ∙ c.if-not-bucket_formed_at.false) in
    rw c.bucket.ensures f

pub loop-i-preserved : goal.loop-i-preserved
loop-i-preserved c =
    let p = counts_other (num c.args.key) (value_of c.args.value) in
    let bs = (table_of c.args.s.now).buckets in
    let more = counted_bucket p bs c.loop-i.i in
    let here : c.counted-n.result ≡ length (select p (nodes (bs c.loop-i.i))) = rw (table_bucket, ← c.bucket.ensures, ← c.of.ensures) c.counted-n.ensures.0 in
    let passed : bucket_formed_at c.args.s.now c.loop-i.i ≡ true = sym c.bucket_formed_at.ensures ∙ c.if-not-bucket_formed_at.false in
    record { few = omega arith; asked = rw (all_more, c.loop-i.invariant.asked, passed); counted = omega arith }

pub returns : goal.returns
returns c =
    let e : c.loop-i.i ≡ num_buckets = omega arith in
    let asked : all_below num_buckets (bucket_formed_at c.args.s.now) ≡ true = rw (← e) c.loop-i.invariant.asked in
    let k : c.loop-i.n ≡ length (select (counts_other (num c.args.key) (value_of c.args.value)) (held_nodes num_buckets (table_of c.args.s.now).buckets)) = rw (← e) c.loop-i.invariant.counted in
    (every_formed c.args.s.now ∙ asked, rw k (filter_test max_nodes_per_subnet_table (num c.args.key) (value_of c.args.value) _ (has_address_lem c.args.value c.if-value-ne1.false)))
