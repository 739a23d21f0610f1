use Rattle.std.proofs.Common.{◌≡◌, ◌+◌, ◌-◌, ◌*◌, ◌≤◌, ◌∷◌, [], ℕ, List, length, get_or, sym, ap, ap₂, ◌∙◌, arith}
use Rattle.model.specs.Base.{tabulate}
use Rattle.model.specs.Bytes.{splice}
use Rattle.model.specs.Node.{Node}
use Rattle.model.specs.Layout.{node_in, nodes_in}
use Rattle.laws.proofs.Lists.{length_tabulate, tabulate_one_more}
use Rattle.laws.proofs.BucketBack.{length_nodes_in}
use Rattle.items.specs.Run.{node_at}
use Rattle.saved.specs.Fields.{field_bytes, field_size}
use Rattle.saved.proofs.Fields.{written, slot_fits, written_one, written_none, written_more, written_all}
use Rattle.saved.proofs.put_bucket.Goals as goal

pub loop-j-init : goal.loop-j-init
unfolding tabulate
loop-j-init c = written_none c.args.field c.args.out.now

pub overflow_mul-j : goal.overflow_mul-j
overflow_mul-j c =
    let fits = slot_fits c.args.field c.args.formed.nodes.count c.loop-j.j _ c.size-size.ensures (omega arith) c.requires in
    record { fits = omega (arith, fits) }

pub overflow_mul-j-in-loop-j : goal.overflow_mul-j-in-loop-j
overflow_mul-j-in-loop-j c =
    let fits = slot_fits c.args.field c.args.formed.nodes.count c.loop-j.j _ c.size-size.ensures (omega arith) c.requires in
    record { fits = omega (arith, fits) }

pub slice_bounds-put-end : goal.slice_bounds-put-end
slice_bounds-put-end c =
    let fits = slot_fits c.args.field c.args.formed.nodes.count c.loop-j.j _ c.size-size.ensures (omega arith) c.requires in
    let h : (c.loop-j.j + 1) * c.size-size.result ≤ length c.loop-j.out = omega (arith, fits, c.loop-j.auto.out) in
    h

pub loop-j-preserved : goal.loop-j-preserved
loop-j-preserved c =
    let a = c.args in
    let l = c.loop-j in
    let f = a.field in
    let size = c.size-size.result in
    let g : ℕ → Node = node_at a.formed.nodes.bucket.now in
    let fits = slot_fits f a.formed.nodes.count l.j _ c.size-size.ensures (omega arith) c.requires in
    let at : l.j * size ≡ length (tabulate l.j g) * field_size f = ap₂ ◌*◌ (sym (length_tabulate l.j g)) c.size-size.ensures in
    let one : (l.j + 1) * size - l.j * size ≡ length (g l.j ∷ []) * field_size f = omega (arith, c.size-size.ensures) in
    let put = c.put.ensures ∙ ap (λ (b : List ℕ). field_bytes f (node_in b)) c.place.ensures ∙ written_one f (g l.j) in
    rw (tabulate_one_more l.j g)
    (written_more f a.out.now (tabulate l.j g) (g l.j ∷ []) (l.j * size) ((l.j + 1) * size - l.j * size) at one
    (omega (arith, fits)) l.invariant put)

pub returns : goal.returns
unfolding nodes_in
returns c =
    let a = c.args in
    let l = c.loop-j in
    let bs = a.formed.nodes.bucket.now in
    let end : l.j ≡ get_or bs 0 0 = omega arith in
    let size = ap (λ (n : ℕ). n * field_size a.field) (a.formed.nodes.counts ∙ sym (length_nodes_in bs)) in
    written_all a.field a.out.now (nodes_in bs) (c.requires ∙ size) (l.invariant ∙ ap (λ (j : ℕ). splice a.out.now 0 (written a.field (tabulate j (node_at bs)))) end)
