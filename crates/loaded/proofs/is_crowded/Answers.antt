use Rattle.std.proofs.Common.{◌≡◌, ◌<◌, ℕ, List, get_or, length-set, refl, ap, ◌∙◌, subst, arith}
use Rattle.model.specs.Sizes.{node_size, place_at}
use Rattle.laws.proofs.Bytes.{Bytes_part}
use Rattle.loaded.specs.Load.{NoThree, octet_at}
use Rattle.loaded.proofs.Crowded.{seen_none, seen_more}
use Rattle.loaded.proofs.is_crowded.Goals as goal

pub loop-j-init : goal.loop-j-init
loop-j-init c = (refl, seen_none _ _)

pub loop-j-preserved : goal.loop-j-preserved
loop-j-preserved c =
    let l = c.loop-j in
    let bs = c.args.nodes.bucket.now in
    let o : ℕ → ℕ = octet_at bs in
    let e : c.from-octet.result ≡ o l.j = c.from-octet.ensures ∙ ap (λ (s : List ℕ). get_or s 37 0) c.place.ensures in
    let b : c.from-octet.result < 256 = rw e (Bytes_part bs (place_at l.j) node_size c.args.nodes.bytes 37) in
    (rw length-set l.invariant.0, rw e (seen_more o l.j l.seen l.invariant.1 (rw (← e) (omega (arith, b))) (rw (← e) (omega arith))))

pub returns : goal.returns
returns c =
    let e : c.loop-j.j ≡ c.args.nodes.count = omega arith in
    λ q. subst (NoThree (octet_at c.args.nodes.bucket.now)) e c.loop-j.invariant.1.three
