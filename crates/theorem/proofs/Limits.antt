-- The limits of every reached table: sixteen nodes in a bucket, the connected incoming within the maximum, 64 records.
use Prim.Native.Nat.{ℕ, ◌≤◌}
use native.Mathlib.Omega.{arith}
use mathlib.Core.Path.{◌≡◌, refl, subst}
use mathlib.Core.List.{List, [], ◌∷◌, reverse}
use mathlib.Core.Option.{Option, none, some}
use lib.ListN.{length}
use borrow.Author.Tests.{leb-true}
use Rattle.model.specs.Bucket.{Bucket, BucketSettings, nodes, num_entries, incoming_nodes}
use Rattle.model.specs.Table.{Settings, Table, Answer, max_records}
use Rattle.model.specs.Call.{Call}
use Rattle.model.specs.Question.{first_failed}
use Rattle.model.specs.Step.{act, queue_fits, questions, unless_refused, step}
use Rattle.model.specs.Fits.{Formed}
use Rattle.laws.proofs.KeepFormed.{empty_formed, insert_formed, apply_pending_formed, update_status_formed, update_value_formed, update_pending_formed, remove_formed}
use Rattle.laws.proofs.Questions.{accepted}
use Rattle.laws.proofs.Loaded.{loaded_well_formed}
use Rattle.table_log.specs.Log.{log_of}
use Rattle.table_log.specs.Claim.{table_after, entries}
use Rattle.theorem.proofs.Kept.{Keeps, reached_keeps}
use Rattle.theorem.proofs.Run.{settings}

abbrev pub Within : BucketSettings → Bucket → Type 0
Within s b = Formed s.max_incoming b

pub within_kept : Keeps Within
within_kept = record {
  empty = λ s. empty_formed s.max_incoming;
  insert = λ s now n b w. insert_formed s now n b w;
  apply = λ s now b w. apply_pending_formed s now b w;
  status = λ s k u d b w. update_status_formed s k u d b w;
  value = λ s k v b w. update_value_formed s k v b w;
  pending = λ s u d b w. update_pending_formed s.max_incoming u d b w;
  remove = λ s now k b w. remove_formed s now k b w;
  load = λ bs t g j. (loaded_well_formed bs t g j).formed;
}

-- a call leaves at most 64 records, if it was handed no more
queue_kept : (c : Call) (t : Table) → length t.queue ≤ max_records → length (step c t).table.queue ≤ max_records
unfolding step queue_fits
queue_kept c t h = answered (first_failed (questions c t)) refl
  where
    answered : (o : Option ℕ) → first_failed (questions c t) ≡ o → length (unless_refused o c t).table.queue ≤ max_records
    answered none e = leb-true (length (act c t).table.queue) max_records (accepted c t e).queue
    answered (some n) e = h

queue_run : (cs : List Call) (t : Table) → length t.queue ≤ max_records → length (table_after cs t).queue ≤ max_records
queue_run [] t h = h
queue_run (c ∷ cs) t h = queue_run cs (step c t).table (queue_kept c t h)

module _ (k : List ℕ) (timeout m tf bf : ℕ) (t : Table) (cs : List Call) (e : (step (Call.new k timeout m tf bf) t).answer ≡ Answer.New) where
  pub at_most_16 : (i : ℕ) → num_entries ((table_after (Call.new k timeout m tf bf ∷ cs) t).buckets i) ≤ 16
  at_most_16 i = (reached_keeps Within within_kept k timeout m tf bf t cs e i).at_most

  pub incoming_within : (i : ℕ) → length (incoming_nodes (nodes ((table_after (Call.new k timeout m tf bf ∷ cs) t).buckets i)))
      ≤ (log_of (reverse (entries (Call.new k timeout m tf bf ∷ cs) t))).settings.bucket.max_incoming
  incoming_within i =
      subst (λ (s : Settings). length (incoming_nodes (nodes ((table_after (Call.new k timeout m tf bf ∷ cs) t).buckets i))) ≤ s.bucket.max_incoming)
      (settings k timeout m tf bf t cs e) (reached_keeps Within within_kept k timeout m tf bf t cs e i).incoming_within

  new_queue : (o : Option ℕ) → (unless_refused o (Call.new k timeout m tf bf) t).answer ≡ Answer.New
      → length (unless_refused o (Call.new k timeout m tf bf) t).table.queue ≤ max_records
  unfolding act
  new_queue none a = omega arith
  new_queue (some n) a = let z : ◌≡◌ {A = ℕ} 0 1 = cc in absurd (omega arith)

  made_queue : (step (Call.new k timeout m tf bf) t).answer ≡ Answer.New → length (step (Call.new k timeout m tf bf) t).table.queue ≤ max_records
  unfolding step
  made_queue a = new_queue (first_failed (questions (Call.new k timeout m tf bf) t)) a

  pub queue_within : length (table_after (Call.new k timeout m tf bf ∷ cs) t).queue ≤ 64
  queue_within = queue_run cs (step (Call.new k timeout m tf bf) t).table (made_queue e)
