use Rattle.std.proofs.Common.{◌+◌, ◌-◌, ◌*◌, ◌<◌, ℕ, List, take, refl, ap, ◌∙◌, arith}
use Rattle.model.specs.Bytes.{splice}
use Rattle.model.specs.Layout.{table_of}
use Rattle.visit.specs.Passes.{buckets_of}
use Rattle.items.specs.Shape.{size_by, items_by, shown_by}
use Rattle.items.proofs.Items.{room_behind, put_behind}
use Rattle.listing.proofs.Putting.{putting_starts, putting_formed, putting_room, putting_next, putting_ends, putting_full}
use Rattle.listing.proofs.put_all.Goals as goal

pub loop-i-init : goal.loop-i-init
loop-i-init c =
    rw c.into_iter-i-iterator.ensures.into_iter_gives
    (putting_starts c.args.shape c.args.s.now c.args.n (buckets_of c.args.visit.order) c.args.out.now c.args.visit.visitable.below c.requires.visit_value)

pub put_bucket-k-requires-clause-formed : goal.put_bucket-k-requires-clause-formed
put_bucket-k-requires-clause-formed c =
    let a = c.args in
    let v = c.loop-i.invariant in
    let h : c.loop-i.k < a.n = omega arith in
    putting_formed a.shape a.s.now a.n _ a.out.now c.loop-i.out c.loop-i.k _ _ h (rw c.in-Some.ensures.steps at v)

pub put_bucket-k-requires-clause-shape_in_bounds : goal.put_bucket-k-requires-clause-shape_in_bounds
put_bucket-k-requires-clause-shape_in_bounds c =
    let a = c.args in
    let w = rw c.in-Some.ensures.steps at c.loop-i.invariant in
    rw c.item_size-size.ensures
    (room_behind c.loop-i.out (c.loop-i.k * size_by a.shape) ((a.n - c.loop-i.k) * size_by a.shape)
    (putting_room a.shape a.s.now a.n _ a.out.now c.loop-i.out c.loop-i.k _ _ c.requires.shape_in_bounds w))

pub loop-i-preserved : goal.loop-i-preserved
loop-i-preserved c =
    let a = c.args in
    let k = c.loop-i.k in
    let w = rw c.in-Some.ensures.steps at c.loop-i.invariant in
    let v = c.loop-i.invariant in
    let h : k < a.n = omega arith in
    let new : List ℕ = items_by a.shape (take (a.n - k) (shown_by a.shape ((table_of a.s.now).buckets c.in-Some.i))) in
    let put = put_behind c.loop-i.out new (k * c.item_size-size.result) c.put_bucket-k.ensures.out_after in
    putting_next a.shape a.s.now a.n _ a.out.now c.loop-i.out k _ _ _ _ c.requires.shape_in_bounds h w (ap (λ (m : ℕ). k + m) c.put_bucket-k.ensures.value)
    (put ∙ ap (λ (size : ℕ). splice c.loop-i.out (k * size) new) c.item_size-size.ensures)

pub returns-in-None : goal.returns-in-None
returns-in-None c =
    let a = c.args in
    putting_ends a.shape a.s.now a.n _ a.out.now c.loop-i.out c.loop-i.k (buckets_of c.loop-i.i-iterator) _ refl c.in-None.ensures.steps.0 c.loop-i.invariant

pub returns-then-k-n : goal.returns-then-k-n
returns-then-k-n c =
    let a = c.args in
    putting_full a.shape a.s.now a.n _ a.out.now c.loop-i.out c.loop-i.k (buckets_of c.loop-i.i-iterator) _ refl (omega arith) c.loop-i.invariant
