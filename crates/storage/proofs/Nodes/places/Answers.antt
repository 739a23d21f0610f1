use Rattle.std.proofs.Common.{◌≡◌, ◌/◌, ◌∙◌, ap, length, ℕ, List, arith}
use lib.ListN.{take}
use Rattle.std.specs.Simd.{first_chunks}
use Rattle.model.specs.Bytes.{part}
use Rattle.laws.proofs.Parts.{length_part}
use Rattle.storage.proofs.Chunks.{places}
use Rattle.storage.proofs.Nodes.places.Goals as goal

pub returns : goal.returns
unfolding part
returns c =
    let n : ℕ = c.args.self.count in
    let bs : List ℕ = c.args.self.bucket.now in
    let k : length (part bs 2 752) / 47 ≡ 16 = ap (λ (l : ℕ). l / 47) (length_part bs 2 752 (omega (arith, c.args.self.sized))) in
    ap (take n) (c.as_chunks.ensures.front ∙ ap (λ (m : ℕ). first_chunks 47 m (part bs 2 752)) k)
    ∙ places bs n c.args.self.few
