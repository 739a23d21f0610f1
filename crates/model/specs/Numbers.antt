-- Numbers that tell answers, nodes, records and buckets apart, so that two of them can be compared by a computed test. Of each
-- definition, no list that it gives is the beginning of another.
use Rattle.std.specs.Prelude.{ℕ, Bool, true, false, ◌&&◌, List, [], ◌∷◌, ◌++◌, length, eqb}
use Rattle.std.proofs.Math.Option.{Option, none, some}
use Rattle.model.specs.Base.{joined, all_below}
use Rattle.model.specs.Value.{Address}
use Rattle.model.specs.Node.{Node, PendingNode, Ending, EndedPending}
use Rattle.model.specs.Result.{FailureReason, BucketInsertResult, UpdateResult, InsertResult}
use Rattle.model.specs.Bucket.{Bucket, nodes}
use Rattle.model.specs.Table.{Settings, Table, EntryKind, Answer, num_buckets}
use Rattle.model.specs.Layout.{flag_byte}

abbrev pub same_numbers : List ℕ → List ℕ → Bool
same_numbers [] [] = true
same_numbers [] (y ∷ ys) = false
same_numbers (x ∷ xs) [] = false
same_numbers (x ∷ xs) (y ∷ ys) = eqb x y && same_numbers xs ys

abbrev pub option_numbers : Option ℕ → List ℕ
option_numbers none = 0 ∷ []
option_numbers (some n) = 1 ∷ n ∷ []

abbrev pub address_numbers : Option Address → List ℕ
address_numbers none = 0 ∷ []
address_numbers (some x) = 1 ∷ x.a ∷ x.b ∷ x.c ∷ x.d ∷ []

abbrev pub node_numbers : Node → List ℕ
node_numbers n =
    n.key ∷ flag_byte n.connected ∷ flag_byte n.incoming ∷ n.value.slot ∷ address_numbers n.value.address

abbrev pub ending_numbers : Ending → List ℕ
ending_numbers (Ending.Placed none) = 0 ∷ []
ending_numbers (Ending.Placed (some n)) = 1 ∷ node_numbers n
ending_numbers Ending.FirstConnected = 2 ∷ []
ending_numbers Ending.BucketFilter = 3 ∷ []
ending_numbers Ending.TooManyIncoming = 4 ∷ []
ending_numbers Ending.Inserted = 5 ∷ []
ending_numbers Ending.FirstConfirmed = 6 ∷ []

abbrev pub pending_numbers : Option PendingNode → List ℕ
pending_numbers none = 0 ∷ []
pending_numbers (some p) = 1 ∷ p.deadline ∷ node_numbers p.node

abbrev pub record_numbers : EndedPending → List ℕ
record_numbers r = r.key ∷ ending_numbers r.ending

abbrev pub taken_numbers : Option EndedPending → List ℕ
taken_numbers none = 0 ∷ []
taken_numbers (some r) = 1 ∷ record_numbers r

abbrev pub reason_number : FailureReason → ℕ
reason_number FailureReason.TooManyIncoming = 0
reason_number FailureReason.BucketFilter = 1
reason_number FailureReason.TableFilter = 2
reason_number FailureReason.KeyNonExistent = 3
reason_number FailureReason.BucketFull = 4
reason_number FailureReason.InvalidSelfUpdate = 5

abbrev pub bucket_insert_numbers : BucketInsertResult → List ℕ
bucket_insert_numbers BucketInsertResult.Inserted = 0 ∷ []
bucket_insert_numbers (BucketInsertResult.Pending k) = 1 ∷ k ∷ []
bucket_insert_numbers BucketInsertResult.FailedFilter = 2 ∷ []
bucket_insert_numbers BucketInsertResult.TooManyIncoming = 3 ∷ []
bucket_insert_numbers BucketInsertResult.Full = 4 ∷ []
bucket_insert_numbers BucketInsertResult.NodeExists = 5 ∷ []

abbrev pub update_numbers : UpdateResult → List ℕ
update_numbers UpdateResult.Updated = 0 ∷ []
update_numbers UpdateResult.UpdatedAndPromoted = 1 ∷ []
update_numbers UpdateResult.UpdatedPending = 2 ∷ []
update_numbers (UpdateResult.Failed r) = 3 ∷ reason_number r ∷ []
update_numbers UpdateResult.NotModified = 4 ∷ []

abbrev pub insert_numbers : InsertResult → List ℕ
insert_numbers InsertResult.Inserted = 0 ∷ []
insert_numbers (InsertResult.Pending k) = 1 ∷ k ∷ []
insert_numbers (InsertResult.StatusUpdated p) = 2 ∷ flag_byte p ∷ []
insert_numbers InsertResult.ValueUpdated = 3 ∷ []
insert_numbers (InsertResult.Updated p) = 4 ∷ flag_byte p ∷ []
insert_numbers InsertResult.UpdatedPending = 5 ∷ []
insert_numbers (InsertResult.Failed r) = 6 ∷ reason_number r ∷ []

abbrev pub kind_numbers : EntryKind → List ℕ
kind_numbers (EntryKind.Present u d) = 0 ∷ flag_byte u ∷ flag_byte d ∷ []
kind_numbers (EntryKind.Pending u d) = 1 ∷ flag_byte u ∷ flag_byte d ∷ []
kind_numbers EntryKind.Absent = 2 ∷ []
kind_numbers EntryKind.SelfEntry = 3 ∷ []

abbrev pub answer_numbers : Answer → List ℕ
answer_numbers (Answer.Refused n) = 0 ∷ n ∷ []
answer_numbers Answer.New = 1 ∷ []
answer_numbers (Answer.Update r) = 2 ∷ update_numbers r
answer_numbers (Answer.InsertOrUpdate r) = 3 ∷ insert_numbers r
answer_numbers (Answer.Insert r) = 4 ∷ bucket_insert_numbers r
answer_numbers (Answer.Remove r) = 5 ∷ flag_byte r ∷ []
answer_numbers (Answer.Entry k) = 6 ∷ kind_numbers k
answer_numbers (Answer.Found n) = 7 ∷ n ∷ []
answer_numbers (Answer.TakeAppliedPending r) = 8 ∷ taken_numbers r
answer_numbers (Answer.Read n) = 9 ∷ n ∷ []

abbrev pub settings_numbers : Settings → List ℕ
settings_numbers s =
    s.local_key ∷ s.bucket.pending_timeout ∷ s.bucket.max_incoming ∷ flag_byte s.bucket.filter ∷ flag_byte s.table_filter ∷ []

abbrev pub bucket_numbers : Bucket → List ℕ
bucket_numbers b =
    length b.disconnected ∷ length b.connected ∷ (joined node_numbers (nodes b) ++ pending_numbers b.pending)

-- the same settings, the same queue and the same buckets
abbrev pub same_table : Table → Table → Bool
same_table t u =
    same_numbers (settings_numbers t.settings) (settings_numbers u.settings)
    && (same_numbers (joined record_numbers t.queue) (joined record_numbers u.queue)
    && all_below num_buckets (λ i. same_numbers (bucket_numbers (t.buckets i)) (bucket_numbers (u.buckets i))))
