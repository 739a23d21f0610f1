-- What an answer that may be none says, in the model's terms.
use Rattle.std.specs.Prelude.{ℕ, Option, Some, None}
use Rattle.std.proofs.Math.Option as math

abbrev pub option_of : Option ℕ → math.Option ℕ
option_of (Some n) = math.some n
option_of None = math.none
