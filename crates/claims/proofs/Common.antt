-- One call on two storages with the settings, the queue and the buckets that it reads in common, and on storage that is well formed throughout:
-- of the definitions, for CheckingLess.
use Prim.Native.Nat.{ℕ}
use mathlib.Core.Path.{◌≡◌, refl, sym, ap, ◌∙◌}
use mathlib.Core.Bool.{Bool, true, false, not, ◌||◌}
use mathlib.Core.List.{List, [], ◌∷◌, ◌++◌}
use mathlib.Core.Option.{Option, none, some}
use lib.ListN.{length}
use lib.Dec.{eqb}
use borrow.Author.Tests.{eq-eqb}
use Rattle.model.specs.Base.{joined}
use Rattle.model.specs.Table.{Table}
use Rattle.model.specs.Sizes.{storage_size}
use Rattle.model.specs.Call.{Call}
use Rattle.model.specs.Question.{first_failed, arguments, deadline_fits, keys_fit, codes_in_range, clock_fits}
use Rattle.model.specs.Step.{early, late, questions, unless_refused, step}
use Rattle.model.specs.Layout.{bucket_part, table_of}
use Rattle.model.specs.Formed.{header_formed, buckets_formed, formed}
use Rattle.model.specs.StepBytes.{reads, holds_header, all_questions, output_of, written, unless_refused_bytes, step_bytes}
use Rattle.model.specs.Fits.{FitsCall}
use Rattle.laws.proofs.Tests.{clash, split, or_second}
use Rattle.laws.proofs.All.{all_map}
use Rattle.laws.proofs.Parts.{splice_nil}
use Rattle.laws.proofs.Questions.{first_two, skip_passed, up_to_five}
use Rattle.laws.proofs.TableBytes.{header_passes, buckets_pass}
use Rattle.laws.proofs.Touched.{reads_below}
use Rattle.laws.proofs.Restored.{Restored}
use Rattle.laws.proofs.ReadBack as ReadBack
use Rattle.laws.proofs.ReadBack.{header_fits, restored_none, settings_back}
use Rattle.laws.proofs.ReadsOnly as ReadsOnly
use Rattle.laws.proofs.ReadsOnly.{SameReply}
use Rattle.claims.specs.Runs.{behind}
use Rattle.claims.specs.CheckingLess.{InCommon}
use Rattle.claims.proofs.Left.{records_left}

-- question 2 fails nothing on storage that is well formed throughout
asked_as_step : (c : Call) (s : List ℕ) → length s ≡ storage_size → formed s ≡ true → first_failed (all_questions c s) ≡ first_failed (questions c (table_of s))
asked_as_step c s l f =
    let t : Table = table_of s in
    let read : Bool = buckets_formed s (reads c t) in
    first_two (eqb (length s) storage_size) (holds_header c s) (early c t ++ ((2, read) ∷ late c t)) (eq-eqb (length s) storage_size l)
    (or_second (not (arguments c).table) (header_formed s) (header_passes s f))
    ∙ skip_passed (early c t) 2 read (late c t) (buckets_pass s f (reads c t) (reads_below c t))

pub output_as_step : (c : Call) (s : List ℕ) → length s ≡ storage_size → formed s ≡ true → (step_bytes c s).output ≡ written (step c (table_of s)).items (output_of c)
unfolding step_bytes step joined
output_as_step c s l f = ap (λ (o : Option ℕ). (unless_refused_bytes o c s).output) (asked_as_step c s l f) ∙ by (first_failed (questions c (table_of s)))
  where
    by : (o : Option ℕ) → (unless_refused_bytes o c s).output ≡ written (unless_refused o c (table_of s)).items (output_of c)
    by (some q) = sym (splice_nil (output_of c) 0)
    by none = refl

-- two storages with one header

module _ (is s₁ s₂ : List ℕ) (x : InCommon is s₁ s₂) where
  -- what is read of the second is the first's
  module _ (f : header_formed s₁ ≡ true) where
    read_like : Restored s₂ [] (table_of s₁) s₂
    read_like =
        record {
          size = x.size₂;
          header = x.header ∙ (restored_none s₁ x.bytes₁ x.size₁ f).header;
          written = tt;
          others = λ i m u. refl;
        }

    header_like : header_formed s₂ ≡ true
    header_like = ReadBack.header_passes s₂ [] (table_of s₁) s₂ read_like (header_fits s₁ x.bytes₁ x.size₁ f)

    settings_like : (table_of s₂).settings ≡ (table_of s₁).settings
    settings_like = settings_back s₂ [] (table_of s₁) s₂ read_like (header_fits s₁ x.bytes₁ x.size₁ f)

two_fails : (c : Call) (s : List ℕ) → length s ≡ storage_size → (arguments c).table ≡ true → header_formed s ≡ false → first_failed (up_to_five c s) ≡ some 2
two_fails c s l n f = rw (eq-eqb (length s) storage_size l, n, f)

-- questions 1 to 5, which look at no bucket
pub five_same : (c : Call) (is s₁ s₂ : List ℕ) → (arguments c).table ≡ true → InCommon is s₁ s₂ → first_failed (up_to_five c s₂) ≡ first_failed (up_to_five c s₁)
unfolding clock_fits
five_same c is s₁ s₂ n x =
    split (header_formed s₁)
    (λ f.
    let h : header_formed s₂ ≡ header_formed s₁ = header_like is s₁ s₂ x f ∙ sym f in
    λ i.
    first_failed
    ((1, eqb ((x.size₂ ∙ sym x.size₁) i) storage_size)
    ∷ (2, not (arguments c).table || h i)
    ∷ (3, keys_fit c)
    ∷ (4, codes_in_range c)
    ∷ (5, deadline_fits (settings_like is s₁ s₂ x f i).bucket.pending_timeout (arguments c).now)
    ∷ []))
    (λ f.
    let g : header_formed s₂ ≡ false = split (header_formed s₂) (λ e. clash (header_like is s₂ s₁ (other x) e) f) (λ e. e) in
    two_fails c s₂ x.size₂ n g ∙ sym (two_fails c s₁ x.size₁ n f))
  where
    other : InCommon is s₁ s₂ → InCommon is s₂ s₁
    other x =
        record {
          bytes₁ = x.bytes₂;
          bytes₂ = x.bytes₁;
          size₁ = x.size₂;
          size₂ = x.size₁;
          header = sym x.header;
          buckets = all_map (λ (i : ℕ). bucket_part s₂ i ≡ bucket_part s₁ i) (λ (i : ℕ). bucket_part s₁ i ≡ bucket_part s₂ i) (λ i e. sym e) is x.buckets;
        }

-- one call on two storages with the buckets that it reads in common
module _ (c : Call) (s₁ s₂ : List ℕ) (h : FitsCall c) (x : InCommon (reads c (table_of s₁)) s₁ s₂) where
  pub reply : SameReply (step_bytes c s₂) (step_bytes c s₁)
  reply = ReadsOnly.reads_only s₁ s₂ x.size₁ x.size₂ x.header c x.buckets

  pub left_alike : (r₁ r₂ : List ℕ) → r₁ ≡ (step_bytes c s₁).storage → r₂ ≡ (step_bytes c s₂).storage
      → behind (table_of s₂).queue (table_of r₂).queue ≡ behind (table_of s₁).queue (table_of r₁).queue
  left_alike r₁ r₂ e₁ e₂ =
      ap (λ (y : List ℕ). behind (table_of s₂).queue (table_of y).queue) e₂
      ∙ records_left c s₂ h x.bytes₂
      ∙ reply.records
      ∙ sym (records_left c s₁ h x.bytes₁)
      ∙ sym (ap (λ (y : List ℕ). behind (table_of s₁).queue (table_of y).queue) e₁)
