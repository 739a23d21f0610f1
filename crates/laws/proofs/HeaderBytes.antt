-- The bytes of the settings and of the queue, which stand before the buckets: what is written is read again and passes question 2.
-- r is what stands behind the header.
use mathlib.Core.Path.{◌≡◌, refl, ap, ◌∙◌}
use mathlib.Core.Bool.{true}
use mathlib.Core.List.{List, [], ◌∷◌, ◌++◌, append_assoc}
use Prim.Native.Nat.{ℕ, ◌+◌, ◌*◌, ◌-◌, ◌^◌, ◌≤◌, ◌<◌}
use native.Mathlib.Omega.{arith}
use lib.ListN.{length, get_or, length-append, length-replicate}
use borrow.Author.Tests.{le-leb}
use Rattle.model.specs.Base.{joined, tabulate}
use Rattle.model.specs.Bytes.{number, bytes, part, zeros, Bytes}
use Rattle.model.specs.Node.{EndedPending}
use Rattle.model.specs.Bucket.{max_nodes_per_bucket}
use Rattle.model.specs.Table.{Table, max_records}
use Rattle.model.specs.Sizes.{key_size, time_size, record_size, timeout_at, max_incoming_at, table_filter_at, bucket_filter_at, record_count_at, padding_at, padding_size, records_at, record_at, header_size}
use Rattle.model.specs.Layout.{flag_byte, record_bytes, header_bytes, record_in, settings_in, record_part}
use Rattle.model.specs.Formed.{are_zero, record_formed, header_formed}
use Rattle.model.specs.Fits.{All, FitsRecord, FitsSettings}
use Rattle.laws.proofs.Lists.{all_if, length_joined, tabulate_is}
use Rattle.laws.proofs.Parts.{part_left, part_right, part_front, part_between, part_joined, get_or_right, slot_before}
use Rattle.laws.proofs.Bytes.{length_bytes, number_there, Bytes_cons, Bytes_append, Bytes_zeros, Bytes_bytes, Bytes_joined}
use Rattle.laws.proofs.Zeros.{are_zero_part}
use Rattle.laws.proofs.NodeBytes.{length_record, Bytes_record, Bytes_flag, flag_there, record_there}
use Rattle.laws.proofs.NodeFormed.{flag_code, record_formed_lem}
use Rattle.laws.proofs.All.{all_any, all_map, all_get_d}

-- what is written

-- the settings' bytes, the number of records and the padding
abbrev pub settings_bytes : Table → List ℕ
settings_bytes t =
    bytes key_size t.settings.local_key
    ++ (bytes time_size t.settings.bucket.pending_timeout
    ++ (t.settings.bucket.max_incoming ∷ flag_byte t.settings.table_filter ∷ flag_byte t.settings.bucket.filter ∷ length t.queue ∷ zeros padding_size))

-- the records' bytes
abbrev pub queue_bytes : List EndedPending → List ℕ
queue_bytes q = joined record_bytes q ++ zeros ((max_records - length q) * record_size)

pub header_cut : (t : Table) → header_bytes t ≡ settings_bytes t ++ queue_bytes t.queue
unfolding header_bytes
header_cut t = simp append_assoc

pub length_settings : (t : Table) → length (settings_bytes t) ≡ records_at
length_settings t = simp (length-append, length_bytes)

pub length_records : (q : List EndedPending) → length (joined record_bytes q) ≡ length q * record_size
length_records q = length_joined record_bytes record_size q (all_any _ q length_record)

pub length_header : (t : Table) → length t.queue ≤ max_records → length (header_bytes t) ≡ header_size
length_header t l =
    let q : List EndedPending = t.queue in
    rw (
      header_cut t,
      length-append (settings_bytes t) (queue_bytes q),
      length_settings t,
      length-append (joined record_bytes q) (zeros ((max_records - length q) * record_size)),
      length_records q,
      length-replicate {A = ℕ} ((max_records - length q) * record_size) 0,
    )
    (omega arith)

pub Bytes_header : (t : Table) → FitsSettings t.settings → All FitsRecord t.queue → length t.queue ≤ max_records → Bytes (header_bytes t)
unfolding header_bytes
Bytes_header t f g l =
    let q : List EndedPending = t.queue in
    let z : List ℕ = zeros ((max_records - length q) * record_size) in
    let w : List ℕ = joined record_bytes q ++ z in
    let p : List ℕ = zeros padding_size ++ w in
    let u : List ℕ = flag_byte t.settings.bucket.filter ∷ length q ∷ p in
    let v : List ℕ = t.settings.bucket.max_incoming ∷ flag_byte t.settings.table_filter ∷ u in
    Bytes_append (bytes key_size t.settings.local_key) (bytes time_size t.settings.bucket.pending_timeout ++ v) (Bytes_bytes key_size t.settings.local_key)
    (Bytes_append (bytes time_size t.settings.bucket.pending_timeout) v (Bytes_bytes time_size t.settings.bucket.pending_timeout)
    (Bytes_cons t.settings.bucket.max_incoming (flag_byte t.settings.table_filter ∷ u) (omega (arith, f.max_incoming))
    (Bytes_flag t.settings.table_filter u
    (Bytes_flag t.settings.bucket.filter (length q ∷ p)
    (Bytes_cons (length q) p (omega arith)
    (Bytes_append (zeros padding_size) w (Bytes_zeros padding_size)
    (Bytes_append (joined record_bytes q) z (Bytes_joined record_bytes q (all_map FitsRecord (λ r. Bytes (record_bytes r)) Bytes_record q g)) (Bytes_zeros ((max_records - length q) * record_size)))))))))

-- the fields, where r stands behind the header
module _ (t : Table) (r : List ℕ) where
  abbrev storage : List ℕ
  storage = header_bytes t ++ r

  abbrev key_part : List ℕ
  key_part = bytes key_size t.settings.local_key

  abbrev timeout_part : List ℕ
  timeout_part = bytes time_size t.settings.bucket.pending_timeout

  abbrev behind_timeout : List ℕ
  behind_timeout =
      t.settings.bucket.max_incoming ∷ flag_byte t.settings.table_filter ∷ flag_byte t.settings.bucket.filter ∷ length t.queue ∷ (zeros padding_size ++ (queue_bytes t.queue ++ r))

  cut : storage ≡ key_part ++ (timeout_part ++ behind_timeout)
  unfolding header_bytes
  cut = simp append_assoc

  length_key_part : length key_part ≡ key_size
  length_key_part = length_bytes key_size t.settings.local_key

  length_timeout_part : length timeout_part ≡ time_size
  length_timeout_part = length_bytes time_size t.settings.bucket.pending_timeout

  -- byte i behind the timeout
  get_or_behind_timeout : (i : ℕ) → get_or storage (key_size + (time_size + i)) 0 ≡ get_or behind_timeout i 0
  get_or_behind_timeout i = rw cut (get_or_right key_part (timeout_part ++ behind_timeout) key_size (time_size + i) length_key_part ∙ get_or_right timeout_part behind_timeout time_size i length_timeout_part)

  pub key_there : t.settings.local_key < 256 ^ key_size → number (part storage 0 key_size) ≡ t.settings.local_key
  key_there f = rw (cut, part_front key_part (timeout_part ++ behind_timeout) key_size length_key_part) (number_there key_size t.settings.local_key f)

  pub timeout_there : t.settings.bucket.pending_timeout < 256 ^ time_size → number (part storage timeout_at time_size) ≡ t.settings.bucket.pending_timeout
  timeout_there f = rw (cut, part_between key_part timeout_part behind_timeout key_size time_size length_key_part length_timeout_part) (number_there time_size t.settings.bucket.pending_timeout f)

  pub max_incoming_there : get_or storage max_incoming_at 0 ≡ t.settings.bucket.max_incoming
  max_incoming_there = get_or_behind_timeout 0

  pub table_filter_there : get_or storage table_filter_at 0 ≡ flag_byte t.settings.table_filter
  table_filter_there = get_or_behind_timeout 1

  pub bucket_filter_there : get_or storage bucket_filter_at 0 ≡ flag_byte t.settings.bucket.filter
  bucket_filter_there = get_or_behind_timeout 2

  pub record_count_there : get_or storage record_count_at 0 ≡ length t.queue
  record_count_there = get_or_behind_timeout 3

  padding_zero : are_zero storage padding_at padding_size ≡ true
  unfolding part
  padding_zero =
      are_zero_part storage padding_at padding_size
      (rw cut
      (part_right key_part (timeout_part ++ behind_timeout) key_size (time_size + 4) padding_size length_key_part
      ∙ part_right timeout_part behind_timeout time_size 4 padding_size length_timeout_part))

  pub settings_there : FitsSettings t.settings → settings_in storage ≡ t.settings
  unfolding settings_in
  settings_there f =
      rw (
        key_there f.local_key,
        timeout_there f.pending_timeout,
        max_incoming_there,
        table_filter_there,
        bucket_filter_there,
        flag_there t.settings.table_filter,
        flag_there t.settings.bucket.filter,
      )

  -- the records
  cut_records : storage ≡ settings_bytes t ++ (joined record_bytes t.queue ++ (zeros ((max_records - length t.queue) * record_size) ++ r))
  cut_records = rw (header_cut t) (simp append_assoc)

  pub record_part_there : (j : ℕ) (d : EndedPending) → j < length t.queue → record_part storage j ≡ record_bytes (get_or t.queue j d)
  record_part_there j d l =
      let q : List EndedPending = t.queue in
      let z : List ℕ = zeros ((max_records - length q) * record_size) in
      rw cut_records
      (part_right (settings_bytes t) (joined record_bytes q ++ (z ++ r)) records_at (j * record_size) record_size (length_settings t)
      ∙ part_left (joined record_bytes q) (z ++ r) (j * record_size) record_size (omega (arith, length_records q, slot_before j (length q) record_size l))
      ∙ part_joined record_bytes record_size q (all_any _ q length_record) j d l)

  pub queue_there : All FitsRecord t.queue → tabulate (get_or storage record_count_at 0) (λ j. record_in (record_part storage j)) ≡ t.queue
  queue_there f =
      let d : EndedPending = record_in [] in
      rw record_count_there
      (tabulate_is t.queue d (length t.queue) (λ j. record_in (record_part storage j)) refl
      (λ j l. ap record_in (record_part_there j d l) ∙ record_there (get_or t.queue j d) (all_get_d FitsRecord t.queue j d f l)))

  unused_zero : are_zero storage (record_at (length t.queue)) ((max_records - length t.queue) * record_size) ≡ true
  unused_zero =
      let q : List EndedPending = t.queue in
      let k : ℕ = (max_records - length q) * record_size in
      are_zero_part storage (record_at (length q)) k
      (rw cut_records
      (part_right (settings_bytes t) (joined record_bytes q ++ (zeros k ++ r)) records_at (length q * record_size) k (length_settings t)
      ∙ part_between (joined record_bytes q) (zeros k) r (length q * record_size) k (length_records q) (length-replicate {A = ℕ} k 0)))

  pub header_formed_lem : FitsSettings t.settings → length t.queue ≤ max_records → header_formed storage ≡ true
  unfolding header_formed
  header_formed_lem f l =
      let d : EndedPending = record_in [] in
      rw (
        max_incoming_there,
        table_filter_there,
        bucket_filter_there,
        record_count_there,
        le-leb t.settings.bucket.max_incoming max_nodes_per_bucket f.max_incoming,
        flag_code t.settings.table_filter,
        flag_code t.settings.bucket.filter,
        padding_zero,
        le-leb (length t.queue) max_records l,
        all_if (length t.queue) (λ j. record_formed (record_part storage j)) (λ j i. rw (record_part_there j d i) (record_formed_lem (get_or t.queue j d))),
      )
      unused_zero
