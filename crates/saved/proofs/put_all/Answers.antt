use Rattle.std.proofs.Common.{◌≡◌, ◌+◌, ◌-◌, ◌*◌, ◌≤◌, ℕ, List, length, sym, ap, ◌∙◌, arith}
use Rattle.model.specs.Bytes.{splice}
use Rattle.model.specs.Node.{Node}
use Rattle.model.specs.Bucket.{nodes}
use Rattle.model.specs.Table.{num_buckets, held_nodes}
use Rattle.model.specs.Layout.{nodes_in, table_of}
use Rattle.laws.proofs.Parts.{sliced, length_part}
use Rattle.saved.specs.Fields.{field_size}
use Rattle.saved.proofs.Fields.{written, written_none, written_more, written_all}
use Rattle.saved.proofs.Held.{formed_at, count_at, nodes_at, held_none, held_next, next_at, bucket_size_is, bucket_fits}
use Rattle.saved.proofs.put_all.Goals as goal
use Rattle.saved.proofs.put_all.Goals.{After-of-formed}

-- bucket i of the loop: how many bytes its nodes take, and that they are inside the output
module _ (c : After-of-formed) where
  sized : c.of-formed.result.nodes.count * c.size-size.result ≡ length (nodes ((table_of c.args.table.s.now).buckets c.loop-i.i)) * field_size c.args.field
  sized =
      bucket_size_is (table_of c.args.table.s.now).buckets c.loop-i.i (field_size c.args.field)
      (count_at c.args.table.s.now c.loop-i.i c.of-formed.result.nodes.counts c.of-formed.ensures) c.size-size.ensures

  fits : c.loop-i.at + c.of-formed.result.nodes.count * c.size-size.result ≤ length c.args.out.now
  fits =
      bucket_fits (table_of c.args.table.s.now).buckets c.loop-i.i (field_size c.args.field) (length c.args.out.now) c.loop-i-test.true c.loop-i.invariant.0 sized
      c.requires

pub loop-i-init : goal.loop-i-init
loop-i-init c = rw (held_none (table_of c.args.table.s.now).buckets) (omega arith, written_none c.args.field c.args.out.now)

pub overflow_mul-end : goal.overflow_mul-end
overflow_mul-end c = let f = fits c in record { fits = omega (arith, f) }

pub overflow_add-end : goal.overflow_add-end
overflow_add-end c = let f = fits c in record { fits = omega (arith, f) }

pub slice_bounds-put_bucket-end : goal.slice_bounds-put_bucket-end
slice_bounds-put_bucket-end c = let f = fits c in omega (arith, f, c.loop-i.auto.out)

pub of-formed-requires-clause-formed : goal.of-formed-requires-clause-formed
of-formed-requires-clause-formed c = formed_at c.args.table.s.now c.loop-i.i c.args.table.formed c.loop-i-test.true

pub put_bucket-requires : goal.put_bucket-requires
put_bucket-requires c =
    let l = c.loop-i in
    let count = c.of-formed.result.nodes.count in
    let k = count * c.size-size.result in
    let f = fits (goal.at.put_bucket-requires c).After-of-formed in
    ap length (sliced l.out l.at k) ∙ length_part l.out l.at k (omega (arith, f, l.auto.out)) ∙ ap (λ (n : ℕ). count * n) c.size-size.ensures

pub loop-i-preserved : goal.loop-i-preserved
loop-i-preserved c =
    let a = c.args in
    let l = c.loop-i in
    let bs = (table_of a.table.s.now).buckets in
    let place = (goal.at.loop-i-preserved c).After-of-formed in
    let k = c.of-formed.result.nodes.count * c.size-size.result in
    let ns : List Node = nodes (bs l.i) in
    let put = c.put_bucket.ensures ∙ ap (λ (b : List ℕ). written a.field (nodes_in b)) c.of-formed.ensures ∙ ap (written a.field) (sym (nodes_at a.table.s.now l.i)) in
    let same : l.at + k - l.at ≡ length ns * field_size a.field = omega (arith, sized place) in (
      next_at bs l.i (field_size a.field) l.invariant.0 (sized place),
      rw (held_next bs l.i) (written_more a.field a.out.now (held_nodes l.i bs) ns l.at (l.at + k - l.at) l.invariant.0 same (omega (arith, fits place)) l.invariant.1 put),
    )

pub returns : goal.returns
returns c =
    let a = c.args in
    let l = c.loop-i in
    let bs = (table_of a.table.s.now).buckets in
    let end : l.i ≡ num_buckets = omega arith in
    written_all a.field a.out.now (held_nodes num_buckets bs) c.requires (l.invariant.1 ∙ ap (λ (i : ℕ). splice a.out.now 0 (written a.field (held_nodes i bs))) end)
