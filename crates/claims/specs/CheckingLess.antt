-- Checking less (02, slip 7): what is claimed of a call and of the buckets that it reads, for the code and for a host.
use Rattle.std.specs.Prelude.{ℕ, ◌≡◌, true, false, List, length}
use Rattle.model.specs.Base.{same}
use Rattle.model.specs.Bytes.{part, Bytes}
use Rattle.model.specs.Table.{Answer}
use Rattle.model.specs.Sizes.{header_size, storage_size}
use Rattle.model.specs.Call.{Call}
use Rattle.model.specs.Step.{step}
use Rattle.model.specs.Layout.{bytes_of, bucket_part, table_of}
use Rattle.model.specs.Formed.{formed}
use Rattle.model.specs.StepBytes.{reads, output_of, written, touched}
use Rattle.model.specs.Fits.{All}
use Rattle.table_log.specs.Pending.{lists}
use Rattle.claims.specs.Runs.{behind}

-- two storages with the settings and the queue, and with the buckets named, in common
pub record InCommon (is s₁ s₂ : List ℕ) : Type 0 where
  pub bytes₁ : Bytes s₁
  pub bytes₂ : Bytes s₂
  pub size₁ : length s₁ ≡ storage_size
  pub size₂ : length s₂ ≡ storage_size
  pub header : part s₂ 0 header_size ≡ part s₁ 0 header_size
  pub buckets : All (λ (i : ℕ). bucket_part s₂ i ≡ bucket_part s₁ i) is

-- 02: a malformed bucket elsewhere stops no call. Of one call that was told a₁ on s₁ and a₂ on s₂, left r₁ and r₂ there and out₁ and out₂ in
-- its output: the answer, or its code, the output and the records are the same
pub record SameTold {A : Type 0} (a₁ : A) (s₁ r₁ out₁ : List ℕ) (a₂ : A) (s₂ r₂ out₂ : List ℕ) : Type 0 where
  pub answer : a₂ ≡ a₁
  pub output : out₂ ≡ out₁
  pub records : behind (table_of s₂).queue (table_of r₂).queue ≡ behind (table_of s₁).queue (table_of r₁).queue

-- bucket i is none of those that the call reads
abbrev pub Unread : Call → (s : List ℕ) → ℕ → Type 0
Unread c s i = All (λ (j : ℕ). same i j ≡ false) (reads c (table_of s))

-- it is none of those that the call writes back: what the table filter only reads is not written
abbrev pub Unwritten : Call → (s : List ℕ) → ℕ → Type 0
Unwritten c s i = All (λ (j : ℕ). same i j ≡ false) (touched c (table_of s))

-- a storage that is well formed throughout
pub record WholeFormed (s : List ℕ) : Type 0 where
  pub bytes : Bytes s
  pub size : length s ≡ storage_size
  pub well_formed : formed s ≡ true

-- 02: tables built by our own calls notice no difference. The call answered a, left s' and put out' as the model's step says, which asks of no
-- bucket whether it is well formed
pub record AsStep (c : Call) (s : List ℕ) (a : Answer) (s' out' : List ℕ) : Type 0 where
  pub answer : a ≡ (step c (table_of s)).answer
  pub storage : s' ≡ bytes_of (step c (table_of s)).table
  pub records : behind (table_of s).queue (table_of s').queue ≡ (step c (table_of s)).records
  pub output : lists c ≡ true → out' ≡ written (step c (table_of s)).items (output_of c)
