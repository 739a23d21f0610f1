-- The questions that nodes_by_distances is asked before its survey.
use Rattle.std.specs.Prelude.{ℕ, ◌*◌, Bool, ◌&&◌, List, [], ◌∷◌, length, eqb, leb}
use Rattle.std.proofs.Math.Option.{Option, some}
use Rattle.model.specs.Sizes.{node_size, storage_size}
use Rattle.model.specs.Layout.{table_of}
use Rattle.model.specs.Formed.{header_formed}
use Rattle.model.specs.Question.{first_failed, deadline_fits, max_count}
use Rattle.model.specs.Listing.{at_least_one}

-- 01, questions 1, 2, 5 and 6: the settings and the queue (02, slip 7), the time, the count, and the bytes of output
abbrev pub early : ℕ → ℕ → ℕ → List ℕ → List (ℕ × Bool)
early now n room s =
    (1, eqb (length s) storage_size)
    ∷ (2, header_formed s)
    ∷ (5, deadline_fits (table_of s).settings.bucket.pending_timeout (some now))
    ∷ (6, leb n max_count && leb (at_least_one n * node_size) room)
    ∷ []

unfoldable pub failed_early : ℕ → ℕ → ℕ → List ℕ → Option ℕ
failed_early now n room s = first_failed (early now n room s)
