-- What a call writes: the header and the buckets that it touches. Where the others are those of the table already, that is the whole table.
use mathlib.Core.Path.{◌≡◌, ap, ◌∙◌}
use mathlib.Core.Bool.{false}
use mathlib.Core.List.{List}
use mathlib.Core.Logic.{⊎_elim}
use Prim.Native.Nat.{ℕ, ◌<◌}
use lib.ListN.{length}
use Rattle.model.specs.Base.{same, tabulate}
use Rattle.model.specs.Table.{Table, num_buckets}
use Rattle.model.specs.Sizes.{storage_size}
use Rattle.model.specs.Layout.{bucket_bytes, bytes_of, bucket_part}
use Rattle.model.specs.StepBytes.{restore}
use Rattle.model.specs.Fits.{Fits}
use Rattle.laws.proofs.Tests.{same_self, clash}
use Rattle.laws.proofs.TableBytes.{length_bytes_of, bucket_part_there, bytes_are}
use Rattle.laws.proofs.All.{all_any, all_tabulate}
use Rattle.laws.proofs.Frame.{Untouched}
use Rattle.laws.proofs.Touched.{Below, every_bucket_lem}
use Rattle.laws.proofs.Restored.{Restored, among, restore_restored}

module _ (s : List ℕ) (l : length s ≡ storage_size) (t : Table) (f : Fits t) where
  -- a bucket that is not touched must be the table's already
  pub restore_any : (is : List ℕ) → Below is → ((i : ℕ) → i < num_buckets → Untouched i is → bucket_part s i ≡ bucket_bytes (t.buckets i))
      → restore s is t ≡ bytes_of t
  restore_any is a h =
      let r : Restored s is t (restore s is t) = restore_restored s l t f.queue is a (all_any _ is (λ i. (f.well_formed i).formed.at_most)) in
      bytes_are t (restore s is t) r.size r.header
      (λ i m. ⊎_elim (λ p. p) (λ u. r.others i m u ∙ h i m u) (among (λ (j : ℕ). bucket_part (restore s is t) j ≡ bucket_bytes (t.buckets j)) i is r.written))

  -- every bucket is touched
  pub restore_all : restore s (tabulate num_buckets (λ i. i)) t ≡ bytes_of t
  restore_all =
      restore_any (tabulate num_buckets (λ i. i)) (all_tabulate (λ (i : ℕ). i < num_buckets) num_buckets (λ i. i) (λ i m. m))
      (λ i m a. clash (same_self i) (every_bucket_lem (λ (j : ℕ). same i j ≡ false) a i m))

-- on the bytes of a table that differs from the new one in the touched buckets, the settings and the queue alone
pub restore_is : (t t' : Table) → Fits t → Fits t' → (is : List ℕ) → Below is
    → ((i : ℕ) → i < num_buckets → Untouched i is → t.buckets i ≡ t'.buckets i) → restore (bytes_of t) is t' ≡ bytes_of t'
restore_is t t' f g is a h =
    restore_any (bytes_of t) (length_bytes_of t f) t' g is a (λ i m c. bucket_part_there t f i m ∙ ap bucket_bytes (h i m c))
