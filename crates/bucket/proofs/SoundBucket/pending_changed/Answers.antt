use Rattle.std.proofs.Common.{sym, ap, arith}
use Rattle.key.specs.Key.{num, Words}
use Rattle.node.specs.Node.{node_of}
use Rattle.node.proofs.Stored.{stored_node_of}
use Rattle.bucket.proofs.Answers.{pending_changed}
use Rattle.bucket.proofs.SoundBucket.pending_changed.Goals as goal

pub invariant_of-result : goal.invariant_of-result
invariant_of-result g c =
    let n = c.f-changed.result.node in
    let words : Words n.key = omega arith in
    let same = ap num (c.requires.key_stays _ _ c.f-changed.ensures) in
    record {
      sound =
          rw c.with_pending.ensures
          (pending_changed c.args.self.bucket c.args.self.sound c.in-Some.pending c.in-Some.is n (node_of n) same (sym (stored_node_of n words c.f-changed.result.codes))).sound;
    }
