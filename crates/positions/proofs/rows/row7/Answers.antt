use Rattle.std.proofs.Common.{ap, ◌∙◌}
use Rattle.model.specs.Bucket.{first_connected_pos}
use Rattle.key.specs.declared.Key.{Key}
use Rattle.bucket.specs.declared.KBucket.{KBucket}
use Rattle.bucket.specs.Bucket.{bucket_of}
use Rattle.bucket.specs.Calls.{remove_call}
use Rattle.positions.specs.Positions.{emptied, filled}
use Rattle.positions.proofs.Calls.{bucket_of_lem}
use Rattle.positions.proofs.Computed.{no_first}
use Rattle.positions.proofs.rows.row7.Goals as goal

pub returns : goal.returns
returns c =
    let e = c.fill.ensures ∙ ap (filled 1 34 1) (c.fill-two.ensures ∙ ap (filled 2 32 0) c.empty.ensures) in
    let s = bucket_of_lem c.remove.ensures ∙ ap (λ (b : KBucket). (remove_call b c.from.result 0).1) e
    ∙ ap (λ (x : Key). (remove_call (filled 1 34 1 (filled 2 32 0 (emptied 16 0))) x 0).1) c.from.ensures in record {
      result_value = ap (λ (b : KBucket). first_connected_pos (bucket_of b)) s ∙ no_first.0;
      count_value = ap (λ (b : KBucket). b.count) s ∙ no_first.1;
      first_connected_pos_value = ap (λ (b : KBucket). b.first_connected_pos) s ∙ no_first.2;
    }
