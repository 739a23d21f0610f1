-- The bytes of a new table.
use mathlib.Core.Path.{◌≡◌, refl, ap, ◌∙◌}
use mathlib.Core.Bool.{true}
use mathlib.Core.List.{List, [], ◌∷◌, ◌++◌, append_assoc}
use Prim.Native.Nat.{ℕ, zero, suc, ◌+◌, ◌*◌}
use native.Mathlib.Nat.{zero-mul}
use native.Mathlib.Omega.{arith}
use lib.Dec.{leb}
use lib.ListN.{length, set, length-append}
use borrow.Rule.Slice.PartMut.{put_mid}
use Rattle.model.specs.Base.{joined, tabulate}
use Rattle.model.specs.Bytes.{bytes, splice, zeros}
use Rattle.model.specs.Bucket.{empty_bucket}
use Rattle.model.specs.Table.{Settings, empty_table, num_buckets, max_records}
use Rattle.model.specs.Sizes.{key_size, time_size, record_size, bucket_size, record_count_at, padding_size, storage_size}
use Rattle.model.specs.Layout.{bucket_bytes, bytes_of}
use Rattle.laws.proofs.Lists.{joined_snoc}
use Rattle.laws.proofs.Parts.{splice_next}
use Rattle.laws.proofs.Bytes.{length_bytes}
use Rattle.laws.proofs.NodeFormed.{flag_back}
use Rattle.model.specs.Step.{settings_of}
use Rattle.words.proofs.Words.{set_more, put_mid_splice}
use Rattle.header.proofs.Runs.{blank, blank_is, blank_add, length_blank, blank_front}
use Rattle.header.proofs.Header.{front_bytes, header_parts}

-- empty buckets

joined_blank : {A : Type 0} (f : A → List ℕ) (x : A) (w k : ℕ) → f x ≡ blank w → joined f (tabulate k (λ i. x)) ≡ blank (k * w)
unfolding joined tabulate
joined_blank f x w zero e = rw zero-mul (blank_is 0)
joined_blank f x w (suc k) e = rw (joined_snoc, joined_blank f x w k e, e, ← blank_add (k * w) w) (ap blank (omega arith))

bucket_blank : bucket_bytes empty_bucket ≡ blank bucket_size
unfolding bucket_bytes blank joined
bucket_blank = refl

empty_bytes : (s : Settings) → bytes_of (empty_table s) ≡ front_bytes s ++ blank (1 + (padding_size + (max_records * record_size + num_buckets * bucket_size)))
unfolding bytes_of joined
empty_bytes s =
    rw (
      header_parts (empty_table s),
      joined_blank bucket_bytes empty_bucket bucket_size num_buckets bucket_blank,
      blank_add 1 (padding_size + (max_records * record_size + num_buckets * bucket_size)),
      blank_add padding_size (max_records * record_size + num_buckets * bucket_size),
      blank_add (max_records * record_size) (num_buckets * bucket_size),
      ← blank_is 1,
    )
    (simp append_assoc)

-- what is written of the settings into zero bytes
pub cleared : (n : ℕ) → n ≡ storage_size → (k timeout m tf bf : ℕ) → leb tf 1 ≡ true → leb bf 1 ≡ true → (z : List ℕ) → z ≡ zeros n
    → {a b : List ℕ} → a ≡ bytes key_size k → b ≡ bytes time_size timeout
    → set (set (set (put_mid 32 8 (put_mid 0 32 z a) b) 40 m) 41 tf) 42 bf ≡ bytes_of (empty_table (settings_of k timeout m tf bf))
cleared n l k timeout m tf bf c d z ez {a} {b} ea eb =
    let k : List ℕ = bytes key_size k in
    let t : List ℕ = bytes time_size timeout in
    let e : z ≡ blank n = ez ∙ blank_is n in
    let o : length z ≡ storage_size = ap length e ∙ length_blank n ∙ l in
    let v : List ℕ = k ++ t ++ (m ∷ []) ++ (tf ∷ []) ++ (bf ∷ []) in
    let w : length v ≡ record_count_at = simp (length-append, length_bytes) in
    let e0 : put_mid 0 32 z a ≡ splice z 0 k = put_mid_splice z 0 32 ea (length_bytes key_size _) in
    let e1 : put_mid 32 8 (put_mid 0 32 z a) b ≡ splice z 0 (k ++ t) =
    put_mid_splice _ 32 8 eb (length_bytes time_size _) ∙ ap (λ (x : List ℕ). splice x 32 t) e0 ∙ splice_next z 0 key_size k t (length_bytes key_size _) (simp length_bytes (omega arith)) in
    let e2 = set_more z 0 40 (k ++ t) m e1 (simp (length-append, length_bytes)) (omega arith) in
    let e3 = set_more z 0 41 (k ++ t ++ (m ∷ [])) tf e2 (simp (length-append, length_bytes)) (omega arith) in
    set_more z 0 42 (k ++ t ++ (m ∷ []) ++ (tf ∷ [])) bf e3 (simp (length-append, length_bytes)) (omega arith)
    ∙ rw (
      e,
      blank_front v n (1 + (padding_size + (max_records * record_size + num_buckets * bucket_size))) (omega arith),
      empty_bytes (settings_of _ timeout m tf bf),
      flag_back tf c,
      flag_back bf d,
    )
    (simp append_assoc)
