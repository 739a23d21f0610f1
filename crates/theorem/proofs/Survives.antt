-- A table that the log tells of survives a box swap (02, slip 6): what the writer puts out of it is taken by storage just made with the same
-- settings, and every bucket then has the same held nodes in the same places.
use Prim.Native.Nat.{ℕ, ◌+◌, ◌*◌, ◌≤◌}
use mathlib.Core.Path.{◌≡◌, sym, ap, ap₂, ◌∙◌}
use mathlib.Core.List.{List}
use lib.ListN.{length}
use Rattle.model.specs.Bytes.{number, part}
use Rattle.model.specs.Result.{Reply}
use Rattle.model.specs.Bucket.{nodes}
use Rattle.model.specs.Table.{Settings, Table, Answer, num_buckets, empty_table}
use Rattle.model.specs.Sizes.{node_size}
use Rattle.model.specs.Call.{Call}
use Rattle.model.specs.Step.{settings_of}
use Rattle.model.specs.Layout.{bytes_of, table_of}
use Rattle.model.specs.Saved.{all_nodes, saved}
use Rattle.model.specs.StepBytes.{Replied, BytesOutcome, write_bytes, step_bytes}
use Rattle.model.specs.Fits.{Fits, FitsCall}
use Rattle.laws.proofs.TableBytes.{table_there}
use Rattle.laws.proofs.SavedSteps.{front_written, written_read, new_made}
use Rattle.table_log.specs.Log.{Entry}
use Rattle.table_log.specs.Claim.{Claim}
use Rattle.theorem.proofs.Net.{no_three}

-- s: the storage; out: the writer's output; `new` answered New on whatever bytes z
module _ (h : List Entry) (s : List ℕ) (c : Claim h (table_of s)) (f : Fits (table_of s)) (e : s ≡ bytes_of (table_of s)) (out : List ℕ)
    (k : List ℕ) (timeout m tf bf : ℕ) (z : List ℕ) (g : FitsCall (Call.new k timeout m tf bf)) where
  abbrev n : ℕ
  n = length (all_nodes (table_of s))

  abbrev size : ℕ
  size = num_buckets + n * node_size

  abbrev wrote : Replied
  wrote = write_bytes out s

  abbrev new : BytesOutcome
  new = step_bytes (Call.new k timeout m tf bf) z

  abbrev read : BytesOutcome
  read = step_bytes (Call.read (part wrote.output 0 size)) new.storage

  pub theorem_survives : size ≤ length out → new.answer ≡ Answer.New → (table_of new.storage).settings ≡ (table_of s).settings
      → (wrote.answer ≡ Reply.Answered n) × (read.answer ≡ Answer.Read n) × ((i : ℕ) → nodes ((table_of read.storage).buckets i) ≡ nodes ((table_of s).buckets i))
  theorem_survives l a same =
      let t : Table = table_of s in
      let fresh : Settings = settings_of (number k) timeout m tf bf in
      let v = new_made k timeout m tf bf z g a in
      let settled : fresh ≡ t.settings =
      ap (λ (x : Table). x.settings) (sym (ap table_of v.0 ∙ table_there (empty_table fresh) v.1)) ∙ same in
      let w = front_written out t f l in
      let r = written_read t f (λ p i b. no_three (nodes (t.buckets i)) (c.two_of_a_net i (ap (λ (x : Settings). x.bucket.filter) (sym c.settings) ∙ p))) fresh v.1 settled in
      let is : read ≡ step_bytes (Call.read (saved t)) (bytes_of (empty_table fresh)) =
      ap₂ (λ (x y : List ℕ). step_bytes (Call.read x) y) (ap (λ (x : List ℕ). part (write_bytes out x).output 0 size) e ∙ w.1) v.0 in (
        ap (λ (x : List ℕ). (write_bytes out x).answer) e ∙ w.0,
        ap (λ (x : BytesOutcome). x.answer) is ∙ r.0,
        λ i. ap (λ (x : BytesOutcome). nodes ((table_of x.storage).buckets i)) is ∙ r.1 i,
      )
