-- Text put at the front of an output, and keys one behind the other.
use Rattle.std.specs.Prelude.{ℕ, ◌/◌, ◌≡◌, ◌≤◌, Bool, List, length, take}
use Rattle.model.specs.Bytes.{splice}
use Rattle.model.specs.Node.{Node, connected_incoming}
use Rattle.model.specs.Filter.{counts}
use Rattle.model.specs.Explain.{keys_text}
use Rattle.key.specs.Key.{num}
use Rattle.node.specs.Node.{value_of}
use Rattle.table_filter.specs.Counted.{counts_other}
use Rattle.explanation.specs.declared.Test.{Test}
use Rattle.explanation.specs.declared.Test.TheVariants.{Counts, CountsOther, Incoming}

-- 02: a key is 64 digits; one space stands in front of it
abbrev pub key_text_size : ℕ
key_text_size = 64

abbrev pub spaced_key_size : ℕ
spaced_key_size = 65

-- the longest texts: InvalidSelfUpdate, false, Pending with its key, and the incoming limit with 16 keys
abbrev pub longest_failure : ℕ
longest_failure = 17

abbrev pub longest_flag : ℕ
longest_flag = 5

abbrev pub longest_told : ℕ
longest_told = 72

abbrev pub longest_reason : ℕ
longest_reason = 1054

-- u is the output o with the text at the front, of m bytes
pub record Put (text o u : List ℕ) (m : ℕ) : Type 0 where
  pub output : u ≡ splice o 0 text
  pub next : m ≡ length text
  pub within : m ≤ length u

-- how many keys an output has room for
abbrev pub key_room : List ℕ → ℕ
key_room o = length o / spaced_key_size

-- u is the output o with the first of the keys at the front, as many as there is room for, of m bytes
pub record PutKeys (ks o u : List ℕ) (m : ℕ) : Type 0 where
  pub put : Put (keys_text (take (key_room o) ks)) o u m

-- a reason names the node
abbrev pub passes : Test → Node → Bool
passes (Counts v) n = counts (value_of v) n.value
passes (CountsOther k v) n = counts_other (num k) (value_of v) n
passes Incoming n = connected_incoming n
