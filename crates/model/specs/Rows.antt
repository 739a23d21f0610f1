-- The twelve positions of 01, as a list of rows. A row states what the definitions give in one situation; `holds` computes whether
-- they do. Times are in milliseconds; bucket 5 has the keys 32 to 63.
use Rattle.std.specs.Prelude.{ℕ, zero, suc, ◌-◌, ◌*◌, ◌^◌, Bool, true, false, not, ◌&&◌, ◌||◌, List, [], ◌∷◌, ◌++◌, map, length, take, replicate, eqb}
use Rattle.std.specs.Bool.{beq}
use Rattle.std.proofs.Math.Option.{Option, none, some}
use Rattle.model.specs.Base.{every, joined, tabulate}
use Rattle.model.specs.Bytes.{bytes, part, zeros}
use Rattle.model.specs.Key.{distance, bucket_index}
use Rattle.model.specs.Node.{Node, EndedPending}
use Rattle.model.specs.Result.{BucketInsertResult, UpdateResult}
use Rattle.model.specs.Bucket.{nodes, first_connected_pos, remove}
use Rattle.model.specs.Table.{Table, EntryKind, Answer, empty_table}
use Rattle.model.specs.Visit.{visits}
use Rattle.model.specs.Sizes.{key_size, value_size, node_size, record_size, bucket_size, records_at, header_size, bucket_at, storage_size}
use Rattle.model.specs.Call.{ValueArgument, PredicateArgument, Listing, Call, KeyCall, no_hours}
use Rattle.model.specs.Listing.{Item, most}
use Rattle.model.specs.Question.{entry_size}
use Rattle.model.specs.Step.{node_of, step}
use Rattle.model.specs.Layout.{flag_byte, bucket_bytes, header_bytes, table_of}
use Rattle.model.specs.Formed.{bucket_formed, record_formed, header_formed, is_at, bucket_formed_at}
use Rattle.model.specs.Nearest.{nearest}
use Rattle.model.specs.StepBytes.{output_of, written, touched, restore, step_bytes}
use Rattle.model.specs.Numbers.{same_numbers, option_numbers, node_numbers, record_numbers, answer_numbers, settings_numbers, bucket_numbers, same_table}

-- Arguments of the calls.

abbrev pub key : ℕ → List ℕ
key k = bytes key_size k

-- a value with no address
abbrev pub plain : ℕ → ValueArgument
plain slot = record { flag = 0; a = 0; b = 0; c = 0; d = 0; slot = slot }

-- a value with the address 10.0.0.d
abbrev pub addressed : ℕ → ℕ → ValueArgument
addressed d slot = record { flag = 1; a = 10; b = 0; c = 0; d = d; slot = slot }

-- Lists of calls. They start on a table of local key 0 and no node, with timeout 0, maximum 0 and both filters off.

abbrev pub no_table : Table
no_table =
    empty_table (record { local_key = 0; bucket = record { pending_timeout = 0; max_incoming = 0; filter = false }; table_filter = false })

abbrev pub after : List Call → Table → Table
after [] t = t
after (c ∷ cs) t = after cs (step c t).table

abbrev pub answers_of : List Call → Table → List Answer
answers_of [] t = []
answers_of (c ∷ cs) t = (step c t).answer ∷ answers_of cs (step c t).table

pub data Row : Type 0 where
  -- the bucket index of a key, where the local key is zero
  index : (key : ℕ) (index : Option ℕ) → Row
  -- the first visits of a closest call, where the local key is zero
  first_visits : (target : ℕ) (buckets : List ℕ) → Row
  -- after the calls `before`, the calls `then` give the answers
  answers : (before then : List Call) (answers : List Answer) → Row
  -- after the calls, a listing at time 0 gives nodes with these keys and says how many
  lists : (before : List Call) (listing : Listing) (n : ℕ) (keys : List ℕ) → Row
  -- after the calls, the matches that closest_values_predicate gives at time 0
  matches : (before : List Call) (target : ℕ) (predicate : PredicateArgument) (n : ℕ) (matches : List Bool) → Row
  -- after the calls, a call is refused with the question's number, and the table stays as it is
  refuses : (before : List Call) (call : Call) (question : ℕ) → Row
  -- a call on a storage's bytes is refused with the question's number, and storage and output stay as they are
  refuses_bytes : (storage : List ℕ) (call : Call) (question : ℕ) → Row
  -- after the calls, a listing at time 0 is lent an output and leaves these bytes in it
  writes : (before : List Call) (listing : Listing) (n : ℕ) (output result : List ℕ) → Row
  -- a call on a storage's bytes gives the answer, and leaves these bytes at an index of the storage
  leaves : (storage : List ℕ) (call : Call) (answer : Answer) (index : ℕ) (bytes : List ℕ) → Row
  -- after the calls, the buckets that a call writes back, in turn
  writes_back : (before : List Call) (call : Call) (buckets : List ℕ) → Row
  -- after the calls, the records that a call adds to the queue
  adds : (before : List Call) (call : Call) (records : List EndedPending) → Row
  -- after the calls, the header's bytes but for the zeros behind them, and a bucket's bytes; settings, queue and bucket are read from them
  stores : (before : List Call) (bucket : ℕ) (header stored : List ℕ) → Row
  -- after the calls, header and bucket written into a storage of nines that ends behind the bucket: the buckets before it stay
  restores : (before : List Call) (bucket : ℕ) → Row
  -- the bytes of a value, a node, a record, a bucket, before the records, of the header and the storage
  sizes : (sizes : List ℕ) → Row
  -- what question 2 says of the header's bytes
  formed_header : (header : List ℕ) (formed : Bool) → Row
  -- what question 2 says of a record's bytes
  formed_record : (bytes : List ℕ) (formed : Bool) → Row
  -- what question 2 says of a bucket of a storage
  formed_at : (storage : List ℕ) (bucket : ℕ) (formed : Bool) → Row
  -- what question 2 says of a bucket's bytes, where the local key is zero
  formed : (index max_incoming : ℕ) (bytes : List ℕ) (formed : Bool) → Row
  -- after the calls, a bucket's keys, place by place
  keys : (before : List Call) (bucket : ℕ) (keys : List ℕ) → Row
  -- after the calls, a bucket's nodes, place by place
  places : (before : List Call) (bucket : ℕ) (nodes : List Node) → Row
  -- after the calls, a bucket's first connected place
  first_connected_place : (before : List Call) (bucket : ℕ) (place : Option ℕ) → Row
  -- after the calls, the keys that a bucket's own remove leaves, place by place
  removes : (before : List Call) (bucket now key : ℕ) (keys : List ℕ) → Row
  -- the answers have different numbers, so that a row tells them apart
  apart : (answers : List Answer) → Row
  -- the held keys nearest first, as the log's paragraph on closest lists has them
  nearest_first : (local_key target : ℕ) (held keys : List ℕ) → Row

abbrev pub item_key : Item → ℕ
item_key (Item.Entry n) = n.key
item_key (Item.Key k) = k
item_key (Item.ClosestValue k v) = k
item_key (Item.PredicateValue k m v) = k

-- the match of closest_values_predicate
abbrev pub item_match : Item → List ℕ
item_match (Item.Entry n) = []
item_match (Item.Key k) = []
item_match (Item.ClosestValue k v) = []
item_match (Item.PredicateValue k m v) = flag_byte m ∷ []

-- each list of numbers is the beginning of no other
abbrev pub is_beginning : List ℕ → List ℕ → Bool
is_beginning [] ys = true
is_beginning (x ∷ xs) [] = false
is_beginning (x ∷ xs) (y ∷ ys) = eqb x y && is_beginning xs ys

abbrev pub are_apart : List (List ℕ) → Bool
are_apart [] = true
are_apart (x ∷ xs) = every (λ y. not (is_beginning x y || is_beginning y x)) xs && are_apart xs

abbrev pub keys_of : List Node → List ℕ
keys_of ns = map (λ (n : Node). n.key) ns

abbrev pub holds : Row → Bool
holds (Row.index k i) = same_numbers (option_numbers (bucket_index 0 k)) (option_numbers i)
holds (Row.first_visits x is) = same_numbers (take (length is) (visits (distance 0 x))) is
holds (Row.answers before then given) =
    same_numbers (joined answer_numbers (answers_of then (after before no_table))) (joined answer_numbers given)
holds (Row.lists before l n ks) =
    let o = step (Call.list l n 0 (zeros (most l n * entry_size l))) (after before no_table) in
    same_numbers (answer_numbers o.answer) (answer_numbers (Answer.Found (length ks))) && same_numbers (map item_key o.items) ks
holds (Row.matches before x p n bs) =
    let l = Listing.closest_values_predicate (bytes key_size x) p in
    same_numbers (joined item_match (step (Call.list l n 0 (zeros (n * entry_size l))) (after before no_table)).items) (map flag_byte bs)
holds (Row.refuses before c n) =
    let t = after before no_table in
    same_numbers (answer_numbers (step c t).answer) (answer_numbers (Answer.Refused n))
    && same_table (step c t).table t
holds (Row.refuses_bytes s c n) =
    let o = step_bytes c s in
    same_numbers (answer_numbers o.answer) (answer_numbers (Answer.Refused n))
    && (same_numbers o.storage s && same_numbers o.output (output_of c))
holds (Row.leaves s c a at bs) =
    let o = step_bytes c s in
    same_numbers (answer_numbers o.answer) (answer_numbers a) && same_numbers (part o.storage at (length bs)) bs
holds (Row.writes_back before c is) = same_numbers (touched c (after before no_table)) is
holds (Row.adds before c rs) = same_numbers (joined record_numbers (step c (after before no_table)).records) (joined record_numbers rs)
holds (Row.stores before i h b) =
    let t = after before no_table in
    let u = table_of (header_bytes t ++ joined bucket_bytes (tabulate (suc i) t.buckets)) in
    same_numbers (header_bytes t) (h ++ zeros (header_size - length h))
    && (same_numbers (bucket_bytes (t.buckets i)) b
    && (same_numbers (settings_numbers u.settings) (settings_numbers t.settings)
    && (same_numbers (joined record_numbers u.queue) (joined record_numbers t.queue)
    && same_numbers (bucket_numbers (u.buckets i)) (bucket_numbers (t.buckets i)))))
holds (Row.restores before i) =
    let t = after before no_table in
    same_numbers (restore (replicate (bucket_at (suc i)) 9) (i ∷ []) t) (header_bytes t ++ (replicate (i * bucket_size) 9 ++ bucket_bytes (t.buckets i)))
holds (Row.sizes ns) = same_numbers (value_size ∷ node_size ∷ record_size ∷ bucket_size ∷ records_at ∷ header_size ∷ storage_size ∷ []) ns
holds (Row.formed_header s f) = beq (header_formed s) f
holds (Row.formed_record bs f) = beq (record_formed bs) f
holds (Row.formed_at s i f) = beq (bucket_formed_at s i) f
holds (Row.writes before l n out r) =
    same_numbers (written (step (Call.list l n 0 out) (after before no_table)).items out) r
holds (Row.formed i m bs f) =
    beq (bucket_formed (λ k. is_at (bucket_index 0 k) i) m bs) f
holds (Row.keys before i ks) = same_numbers (keys_of (nodes ((after before no_table).buckets i))) ks
holds (Row.places before i ns) =
    same_numbers (joined node_numbers (nodes ((after before no_table).buckets i))) (joined node_numbers ns)
holds (Row.first_connected_place before i p) =
    same_numbers (option_numbers (first_connected_pos ((after before no_table).buckets i))) (option_numbers p)
holds (Row.removes before i now k ks) =
    let t = after before no_table in
    same_numbers (keys_of (nodes (remove t.settings.bucket now k (t.buckets i)).1)) ks
holds (Row.apart given) = are_apart (map answer_numbers given)
holds (Row.nearest_first own x held ks) = same_numbers (keys_of (nearest own x (map (λ k. node_of (key k) (plain k) 0 0) held))) ks

-- Calls.

-- local key zero, timeout 60,000
abbrev pub start : (max_incoming table_filter bucket_filter : ℕ) → Call
start m tf bf = Call.new (key 0) 60000 m tf bf

-- state 0 disconnected, 1 connected; direction 0 outgoing, 1 incoming; outgoing at time 0 where nothing is said. The slot is the key.
abbrev pub disconnected : ℕ → Call
disconnected k = Call.on_key (key k) (KeyCall.absent_insert (plain k) 0 0 0 no_hours)

abbrev pub connected : ℕ → Call
connected k = Call.on_key (key k) (KeyCall.absent_insert (plain k) 1 0 0 no_hours)

-- f of the n keys from k on
abbrev pub from : {A : Type 0} → (ℕ → A) → ℕ → ℕ → List A
from f k zero = []
from f k (suc n) = f k ∷ from f (suc k) n

-- bucket 5 full of disconnected nodes, and 48 pending since time 100
abbrev pub pending_at100 : List Call
pending_at100 = start 16 0 0 ∷ (from disconnected 32 16 ++ (Call.on_key (key 48) (KeyCall.absent_insert (plain 48) 1 0 100 no_hours) ∷ []))

-- bucket filter on; 10.0.0.1 and 10.0.0.2 are held, once each
abbrev pub two_of_aNet : List Call
two_of_aNet =
    start 16 0 1
    ∷ Call.on_key (key 32) (KeyCall.absent_insert (addressed 1 0) 0 0 0 no_hours)
    ∷ Call.on_key (key 33) (KeyCall.absent_insert (addressed 2 0) 0 0 0 no_hours)
    ∷ []

unfoldable pub rows : List Row
rows =
    -- 1: index of 0
    Row.index 0 none
    -- 2: index of 1; 2; 3; 2^255
    ∷ Row.index 1 (some 0)
    ∷ Row.index 2 (some 1)
    ∷ Row.index 3 (some 1)
    ∷ Row.index (2 ^ 255) (some 255)
    -- 3: held 1, 4, 6; target 5; n 9
    ∷ Row.lists (start 16 0 0 ∷ disconnected 1 ∷ disconnected 4 ∷ disconnected 6 ∷ []) (Listing.closest_keys (key 5)) 9 (4 ∷ 6 ∷ 1 ∷ 1 ∷ [])
    -- 4: held 1, 2, 4; target 6; n 9
    ∷ Row.lists (start 16 0 0 ∷ disconnected 1 ∷ disconnected 2 ∷ disconnected 4 ∷ []) (Listing.closest_keys (key 6)) 9 (4 ∷ 2 ∷ 1 ∷ [])
    -- 5: target 0, first four visits
    ∷ Row.first_visits 0 (0 ∷ 0 ∷ 1 ∷ 2 ∷ [])
    -- 6: pending at 100, timeout 60,000; due at 60,100, not at 60,099
    ∷ Row.answers pending_at100 (Call.on_key (key 48) (KeyCall.entry 60100) ∷ []) (Answer.Entry (EntryKind.Present true false) ∷ [])
    ∷ Row.answers pending_at100 (Call.on_key (key 48) (KeyCall.entry 60099) ∷ []) (Answer.Entry (EntryKind.Pending true false) ∷ [])
    -- 7: two disconnected then one connected; connected removed
    ∷ Row.first_connected_place (start 16 0 0 ∷ disconnected 32 ∷ disconnected 33 ∷ connected 34 ∷ Call.on_key (key 34) (KeyCall.remove 0) ∷ []) 5 none
    -- 8: max_incoming 0; connected incoming; disconnected incoming
    ∷ Row.answers (start 0 0 0 ∷ []) (Call.on_key (key 32) (KeyCall.absent_insert (plain 32) 1 1 0 no_hours) ∷ []) (Answer.Insert BucketInsertResult.TooManyIncoming ∷ [])
    ∷ Row.answers (start 0 0 0 ∷ []) (Call.on_key (key 32) (KeyCall.absent_insert (plain 32) 0 1 0 no_hours) ∷ []) (Answer.Insert BucketInsertResult.Inserted ∷ [])
    -- 9: one disconnected, 15 connected; two new connected outgoing
    ∷ Row.answers (start 16 0 0 ∷ disconnected 32 ∷ from connected 33 15) (connected 48 ∷ connected 49 ∷ [])
    (Answer.Insert (BucketInsertResult.Pending 32) ∷ Answer.Insert BucketInsertResult.Full ∷ [])
    -- 10: connected A, B; A set connected
    ∷ Row.keys (start 16 0 0 ∷ connected 32 ∷ connected 33 ∷ Call.on_key (key 32) (KeyCall.update_node_status 1 2 0) ∷ []) 5 (33 ∷ 32 ∷ [])
    ∷ Row.answers (start 16 0 0 ∷ connected 32 ∷ connected 33 ∷ []) (Call.on_key (key 32) (KeyCall.update_node_status 1 2 0) ∷ [])
    (Answer.Update UpdateResult.NotModified ∷ [])
    -- 11: distances 3, 3, 257; only key 4 held; n 5; n 0
    ∷ Row.lists (start 16 0 0 ∷ disconnected 4 ∷ []) (Listing.nodes_by_distances (3 ∷ 3 ∷ 257 ∷ [])) 5 (4 ∷ 4 ∷ [])
    ∷ Row.lists (start 16 0 0 ∷ disconnected 4 ∷ []) (Listing.nodes_by_distances (3 ∷ 3 ∷ 257 ∷ [])) 0 (4 ∷ [])
    -- 12: bucket filter on, unequal values V and W of a /24 held once each; a new disconnected key with a third value there; with W
    ∷ Row.answers two_of_aNet (Call.on_key (key 34) (KeyCall.absent_insert (addressed 3 0) 0 0 0 no_hours) ∷ []) (Answer.Insert BucketInsertResult.FailedFilter ∷ [])
    ∷ Row.answers two_of_aNet (Call.on_key (key 34) (KeyCall.absent_insert (addressed 2 0) 0 0 0 no_hours) ∷ []) (Answer.Insert BucketInsertResult.Inserted ∷ [])
    ∷ []
