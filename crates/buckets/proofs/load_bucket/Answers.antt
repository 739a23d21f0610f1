use Rattle.buckets.proofs.Loaded.{bucket_sound, table_becomes}
use Rattle.buckets.proofs.load_bucket.Goals as goal

pub load-requires-clause-bucket_value : goal.load-requires-clause-bucket_value
load-requires-clause-bucket_value c =
    bucket_sound c.args.s.now c.args.i _ c.bucket.ensures c.settings.result c.settings.ensures.settings c.requires.i_value

pub returns : goal.returns
returns c =
    table_becomes c.args.s.now c.args.i _ c.bucket.ensures c.settings.result c.settings.ensures.settings c.load.result.bucket c.load.ensures
