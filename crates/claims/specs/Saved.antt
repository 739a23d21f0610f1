-- A table that survives a box swap (02, slip 6): calls of the writer, and what is claimed of the writer and the reader together, for the
-- code and for a host.
use Rattle.std.specs.Prelude.{ℕ, ◌+◌, ◌-◌, ◌*◌, ◌≡◌, cond, List, length, leb}
use contract.Lifetimes.{Lfts}
use Rattle.model.specs.Bytes.{part, splice}
use Rattle.model.specs.Result.{Reply}
use Rattle.model.specs.Bucket.{nodes}
use Rattle.model.specs.Table.{Answer, num_buckets}
use Rattle.model.specs.Sizes.{node_size}
use Rattle.model.specs.Layout.{table_of}
use Rattle.model.specs.Saved.{all_nodes}
use Rattle.saved.specs.Fields.{write_answer_of}
use Rattle.saved.proofs.write.Reads as Write
use Rattle.codes.specs.Codes.{refused_code}
use Rattle.kbuckets.proofs.kbuckets_write.Reads as HostWrite
use Rattle.claims.specs.Ran.{◌&◌, Slice, Lent}

-- A call of the writer: a is what it answered, out and out' the output before and after. Its contract holds of what it was given, of what it
-- answered, and of what is left. It writes no storage.
pub data Wrote : (s out : List ℕ) (a : Reply ℕ) (out' : List ℕ) → Type 0 where
  write : (κs : Lfts 2) (s : Slice) (out : Lent) (s' : Slice) (out' : Lent) (a : _)
      → Write.Post κs (s & out & tt) a (s' & out' & tt)
      → Wrote s.now out.now (write_answer_of a) out'.now

-- A call of its export: code is the number that it returned.
pub data HostWrote : (s out : List ℕ) (code : ℕ) (out' : List ℕ) → Type 0 where
  write : (κs : Lfts 2) (s : Slice) (out : Lent) (s' : Slice) (out' : Lent) (code : ℕ)
      → HostWrite.Post κs (s & out & tt) code (s' & out' & tt)
      → HostWrote s.now out.now code out'.now

-- how a host reads the code: a refusal, or the number of nodes
abbrev pub reply_of : ℕ → Reply ℕ
reply_of code = cond (leb (refused_code 0) code) (Reply.Refused (code - refused_code 0)) (Reply.Answered code)

-- the nodes of a storage's table, and what the writer put out of n nodes: it stands at the front of the output
abbrev pub held_count : List ℕ → ℕ
held_count s = length (all_nodes (table_of s))

abbrev pub saved_size : ℕ → ℕ
saved_size n = num_buckets + n * node_size

abbrev pub put_out : ℕ → List ℕ → List ℕ
put_out n out = part out 0 (saved_size n)

-- 02: what the reader takes, n nodes, the writer gives back byte for byte; the bytes of the output behind it stay
pub record GivenBack (bs : List ℕ) (n : ℕ) (out : List ℕ) (a : Reply ℕ) (out' : List ℕ) : Type 0 where
  pub answer : a ≡ Reply.Answered n
  pub output : out' ≡ splice out 0 bs

-- 02: the table of storage s, written with the answer w and loaded with the answer a, which left s', has the same held nodes in the same
-- places
pub record Survives (s : List ℕ) (w : Reply ℕ) (a : Answer) (s' : List ℕ) : Type 0 where
  pub written : w ≡ Reply.Answered (held_count s)
  pub taken : a ≡ Answer.Read (held_count s)
  pub same_places : (i : ℕ) → nodes ((table_of s').buckets i) ≡ nodes ((table_of s).buckets i)

-- demand 1: the number of the question, and the output as it was
pub record WriteRefusal (q : ℕ) (out : List ℕ) (a : Reply ℕ) (out' : List ℕ) : Type 0 where
  pub answer : a ≡ Reply.Refused q
  pub output : out' ≡ out
