-- The bytes that a reply carries.
use Rattle.std.specs.Prelude.{ℕ, List, [], Some, None}
use Rattle.std.specs.Prelude as code
use Rattle.model.specs.Bytes.{bytes}
use Rattle.model.specs.Sizes.{key_size}
use Rattle.model.specs.Base.{joined}
use Rattle.model.specs.Layout.{record_bytes}
use Rattle.key.specs.Key.{num}
use Rattle.bucket.specs.Calls.{records_of}
use Rattle.codes.specs.declared.Carried.{Carried}
use Rattle.codes.specs.declared.Carried.TheVariants.{Key, Record}

abbrev pub carried_bytes : code.Option Carried → List ℕ
carried_bytes None = []
carried_bytes (Some (Key k)) = bytes key_size (num k)
carried_bytes (Some (Record e)) = joined record_bytes (records_of (Some e))
