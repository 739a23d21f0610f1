use Rattle.std.proofs.Common.{◌-◌}
use Rattle.model.specs.Bucket.{take_out}
use Rattle.bucket.specs.Bucket.{key_at, bucket_of, settings_of, Becomes}
use Rattle.bucket.proofs.Steps.{renewed, taken_out, place_at}
use Rattle.bucket.proofs.SoundBucket.taken_out.Goals as goal
use Rattle.bucket.proofs.SoundBucket.taken_out.Goals.{After-from}

module _ (c : After-from) where
  left : let b = c.args.self.now.bucket in
      Becomes (settings_of b) (take_out (key_at b c.args.pos) (bucket_of b))
      (renewed c.remove_at.result (b.count - 1) (b.first_connected_pos - c.from.result) b.pending b)
  left =
      let b = c.args.self.now.bucket in
      let s = c.args.self.now.sound in
      let e = c.from.ensures in
      rw e (taken_out b s (key_at b c.args.pos) c.args.pos (place_at b s c.args.pos c.requires) c.requires _ c.remove_at.ensures)

pub invariant_of-result : goal.invariant_of-result
invariant_of-result c = record { sound = (left (goal.at.invariant_of-result c).After-from).sound }

pub returns : goal.returns
returns c = left (goal.at.returns c).After-from
