use Rattle.std.proofs.Common.{◌≡◌, ◌++◌, ℕ, List, get_or, ap₂, ◌∙◌, arith}
use Rattle.laws.proofs.Loaded.{disconnected_most}
use Rattle.loaded.proofs.Built.{nodes_none, nodes_more, bucket_built}
use Rattle.loaded.proofs.saved.SavedBucket.build.Goals as goal

pub overflow_cast-bucket : goal.overflow_cast-bucket
overflow_cast-bucket c =
    let b = c.args.self in
    record { fits = omega (arith, c.disconnected.ensures, c.requires.i_bound, disconnected_most b.saved.bytes.now b.from (get_or b.saved.bytes.now b.i 0)) }

pub loop-j-init : goal.loop-j-init
loop-j-init c = nodes_none _ _ _ _

pub loop-j-preserved : goal.loop-j-preserved
loop-j-preserved c =
    let b = c.args.self in
    nodes_more b.saved.bytes.now b.saved.nodes b.saved.counted b.saved.sized b.from b.i b.below b.start c.requires.bucket_value c.requires.i_bound _ c.loop-j.j
    (omega (arith, c.count-j-end.ensures.count)) c.loop-j.invariant
    (c.copy_node.ensures ∙ ap₂ (λ (k e : List ℕ). k ++ e) c.key-key.ensures.key c.entry-entry.ensures.entry)

pub returns : goal.returns
returns c =
    let b = c.args.self in
    let n : c.loop-j.j ≡ get_or b.saved.bytes.now b.i 0 = omega (arith, c.count-j-end.ensures.count) in
    bucket_built b.saved.bytes.now b.saved.nodes b.saved.counted b.saved.sized b.from b.i b.below b.start c.requires.bucket_value c.requires.i_bound _ c.disconnected.ensures
    (rw n at c.loop-j.invariant)
