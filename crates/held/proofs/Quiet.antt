-- A bucket without a pending in its bytes: question 2 gives it, and what its first bytes say.
use mathlib.Core.Path.{◌≡◌, sym, ◌∙◌, subst}
use mathlib.Core.Bool.{Bool, true}
use mathlib.Core.List.{List}
use mathlib.Core.Option.{none}
use Prim.Native.Nat.{ℕ}
use Rattle.std.specs.Prelude.{Option}
use lib.Dec.{eqb}
use lib.ListN.{length, get_or}
use borrow.Author.Tests.{eqb-true}
use Rattle.model.specs.Bytes.{Bytes}
use Rattle.model.specs.Bucket.{nodes}
use Rattle.model.specs.Sizes.{pending_at, bucket_size}
use Rattle.model.specs.Layout.{pending_in, nodes_in, bucket_in}
use Rattle.model.specs.Formed.{bucket_formed}
use Rattle.laws.proofs.BucketBytes.{length_nodes}
use Rattle.laws.proofs.BucketBack.{nodes_in_lem, count_in, first_in, pending_of_lem, bucket_back, bucket_good}
use Rattle.laws.proofs.BucketFormed.{checked}
use Rattle.well_formed.specs.Tests.{node_at, nodes_here}
use Rattle.held.specs.Held.{Quiet, Position}

-- question 2 of a bucket's bytes, and a pending flag of 0
pub quiet_if : (p : ℕ → Bool) (m : ℕ) (bs : List ℕ) → length bs ≡ bucket_size → Bytes bs → bucket_formed p m bs ≡ true → eqb (get_or bs pending_at 0) 0 ≡ true → Quiet bs
quiet_if p m bs l h c z =
    let n : pending_in bs ≡ none = rw (eqb-true (get_or bs pending_at 0) 0 z) in
    let k = checked p m bs c in
    record {
      size = l;
      exact = sym (bucket_back bs l h p m c);
      few = k.at_most;
      first = k.first;
      different = (bucket_good bs p m c).formed.different;
      pending = pending_of_lem bs ∙ n;
    }

pub nodes_are : (bs : List ℕ) → nodes_here bs (get_or bs 0 0) ≡ nodes (bucket_in bs)
unfolding nodes_here nodes_in node_at
nodes_are bs = sym (nodes_in_lem bs)

-- the place of a key among all that are held
pub position_is : (bs : List ℕ) {count : ℕ} → count ≡ get_or bs 0 0 → (k : ℕ) (result : Option ℕ)
    → Position k (nodes_here bs count) count result → Position k (nodes (bucket_in bs)) (get_or bs 0 0) result
position_is bs e k result p = subst (λ ns. Position k ns (get_or bs 0 0) result) (nodes_are bs) (subst (λ n. Position k (nodes_here bs n) n result) e p)

module _ {u : List ℕ} (q : Quiet u) where
  -- the count and the first connected place
  pub many : length (nodes (bucket_in u)) ≡ get_or u 0 0
  many = length_nodes (bucket_in u) ∙ count_in u

  pub first_is : length (bucket_in u).disconnected ≡ get_or u 1 0
  first_is = first_in u q.first
