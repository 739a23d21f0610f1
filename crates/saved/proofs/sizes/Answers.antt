use Rattle.std.proofs.Common.{rules}
use Rattle.model.specs.Bucket.{num_entries}
use Rattle.model.specs.Table.{num_buckets}
use Rattle.model.specs.Layout.{table_of}
use Rattle.saved.proofs.Output.{made}
use Rattle.saved.proofs.sizes.Goals as goal

pub returns : goal.returns
returns c = made _ _ (λ i. num_entries ((table_of c.args.s.now).buckets i)) (λ i y q k. (search rules, search rules)) _ num_buckets c.from_fn.ensures.items
