use Rattle.std.proofs.Common.{arith}
use Rattle.model.specs.Bytes.{bytes}
use Rattle.laws.proofs.Bytes.{length_bytes}
use Rattle.words.proofs.Words.{put_mid_splice}
use Rattle.key.specs.Key.{num, Words}
use Rattle.key.proofs.Bytes.{num_put, splice_all}
use Rattle.key.proofs.Key.store.Goals as goal

pub returns : goal.returns
returns c =
    let s = c.args.s.now in
    let k = c.args.self in
    let words : Words k = omega arith in
    rw (
      put_mid_splice _ 24 8 c.put_u64-4.ensures (length_bytes 8 k.w3),
      put_mid_splice _ 16 8 c.put_u64-3.ensures (length_bytes 8 k.w2),
      put_mid_splice _ 8 8 c.put_u64-2.ensures (length_bytes 8 k.w1),
      put_mid_splice s 0 8 c.put_u64.ensures (length_bytes 8 k.w0),
      num_put s 0 k words (omega arith),
    )
    (splice_all s (bytes 32 (num k)) (omega (arith, length_bytes 32 (num k))))
