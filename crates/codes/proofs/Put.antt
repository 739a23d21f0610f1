-- What an answer carries, at its front: a key, or a record.
use Rattle.std.proofs.Common.{Some}
use mathlib.Core.Path.{◌≡◌, ap, ◌∙◌}
use mathlib.Core.List.{List, append-nil}
use Prim.Native.Nat.{ℕ, ◌≤◌}
use native.Mathlib.Omega.{arith}
use lib.ListN.{length, length-take, length-drop}
use borrow.Rule.Slice.PartMut.{put_mid, mid_of}
use Rattle.model.specs.Base.{first, joined}
use Rattle.model.specs.Bytes.{bytes, splice}
use Rattle.model.specs.Node as model
use Rattle.model.specs.Sizes.{key_size, record_size}
use Rattle.model.specs.Layout.{record_bytes}
use Rattle.laws.proofs.Bytes.{length_bytes}
use Rattle.laws.proofs.NodeBytes.{length_record}
use Rattle.words.proofs.Words.{put_mid_splice}
use Rattle.key.specs.Key.{num}
use Rattle.bucket.specs.declared.ending.EndedPending.{EndedPending}
use Rattle.bucket.specs.Ending.{ending_of}
use Rattle.bucket.specs.Calls.{records_of}
use Rattle.header.proofs.Queue.{whole_record}
use Rattle.codes.specs.Codes.{answer_size, applied_bytes}

pub key_put : (s w : List ℕ) (k : ℕ) → w ≡ bytes key_size k → put_mid 0 32 s w ≡ splice s 0 (bytes key_size k)
key_put s w k e = put_mid_splice s 0 32 e (length_bytes key_size k)

-- one record is its bytes
pub record_carried : (e : EndedPending) → joined record_bytes (records_of (Some e)) ≡ applied_bytes (first (records_of (Some e)))
unfolding joined
record_carried e =
    let r : model.EndedPending = record { key = num e.key; ending = ending_of e.ending } in
    append-nil (record_bytes r)

pub record_put : (s w : List ℕ) (e : EndedPending) → w ≡ joined record_bytes (records_of (Some e)) → put_mid 0 80 s w ≡ splice s 0 (joined record_bytes (records_of (Some e)))
record_put s w e h =
    let r : model.EndedPending = record { key = num e.key; ending = ending_of e.ending } in
    put_mid_splice s 0 80 h (ap length (record_carried e) ∙ length_record r)

-- the same, where the record is written into the bytes that stand there
pub record_put_over : (s w : List ℕ) (e : EndedPending) → answer_size ≤ length s → w ≡ splice (mid_of 0 80 s) 0 (joined record_bytes (records_of (Some e)))
    → put_mid 0 80 s w ≡ splice s 0 (joined record_bytes (records_of (Some e)))
record_put_over s w e l h =
    let n : length (mid_of 0 80 s) ≡ record_size = simp (length-take, length-drop) (omega arith) in
    record_put s w e (h ∙ whole_record (mid_of 0 80 s) e n)
