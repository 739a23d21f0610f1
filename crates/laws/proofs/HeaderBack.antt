-- A header that passes question 2 is the bytes of the settings and of the queue that are read of it, and these fit.
use mathlib.Core.Path.{◌≡◌, sym, ap}
use mathlib.Core.Bool.{true}
use mathlib.Core.List.{List, [], ◌∷◌}
use Prim.Native.Nat.{ℕ, ◌+◌, ◌*◌, ◌-◌, ◌≤◌, ◌<◌}
use native.Mathlib.Omega.{arith}
use lib.ListN.{length, get_or}
use lib.Dec.{leb}
use borrow.Author.Tests.{leb-true}
use Rattle.model.specs.Base.{joined, all_below}
use Rattle.model.specs.Bytes.{part, Bytes}
use Rattle.model.specs.Bucket.{max_nodes_per_bucket}
use Rattle.model.specs.Table.{max_records}
use Rattle.model.specs.Sizes.{key_size, time_size, record_size, timeout_at, max_incoming_at, table_filter_at, bucket_filter_at, record_count_at, padding_at, padding_size, records_at, record_at, header_size}
use Rattle.model.specs.Layout.{record_bytes, header_bytes, record_in, settings_in, record_part, table_of}
use Rattle.model.specs.Formed.{are_zero, record_formed, header_formed}
use Rattle.model.specs.Fits.{All, FitsRecord, FitsSettings}
use Rattle.laws.proofs.Lists.{all_gives, conj_gives, length_tabulate}
use Rattle.laws.proofs.Parts.{part_append, part_cons, length_part, joined_slots, slot_before}
use Rattle.laws.proofs.Bytes.{number_back, number_fits, Bytes_part}
use Rattle.laws.proofs.Zeros.{part_are_zero}
use Rattle.laws.proofs.NodeFormed.{flag_back, record_back, record_fits}
use Rattle.laws.proofs.All.{all_tabulate}

-- what question 2 asks of the header, record by record
pub record CheckedHeader (s : List ℕ) : Type 0 where
  pub max_incoming : get_or s max_incoming_at 0 ≤ max_nodes_per_bucket
  pub table_filter : leb (get_or s table_filter_at 0) 1 ≡ true
  pub bucket_filter : leb (get_or s bucket_filter_at 0) 1 ≡ true
  pub padding : are_zero s padding_at padding_size ≡ true
  pub at_most : get_or s record_count_at 0 ≤ max_records
  pub records : (j : ℕ) → j < get_or s record_count_at 0 → record_formed (record_part s j) ≡ true
  pub unused : are_zero s (record_at (get_or s record_count_at 0)) ((max_records - get_or s record_count_at 0) * record_size) ≡ true

pub checked_header : (s : List ℕ) → header_formed s ≡ true → CheckedHeader s
unfolding header_formed
checked_header s h =
    let n : ℕ = get_or s record_count_at 0 in
    let t =
    conj_gives (leb (get_or s max_incoming_at 0) max_nodes_per_bucket)
    (leb (get_or s table_filter_at 0) 1
    ∷ leb (get_or s bucket_filter_at 0) 1
    ∷ are_zero s padding_at padding_size
    ∷ leb n max_records
    ∷ all_below n (λ j. record_formed (record_part s j))
    ∷ are_zero s (record_at n) ((max_records - n) * record_size)
    ∷ []) h in
    record {
      max_incoming = leb-true (get_or s max_incoming_at 0) max_nodes_per_bucket t.0;
      table_filter = t.1.0;
      bucket_filter = t.1.1.0;
      padding = t.1.1.1.0;
      at_most = leb-true n max_records t.1.1.1.1.0;
      records = λ j l. all_gives n (λ x. record_formed (record_part s x)) j l t.1.1.1.1.1.0;
      unused = t.1.1.1.1.1.1.0;
    }

module _ (s : List ℕ) (l : header_size ≤ length s) (h : Bytes s) (f : header_formed s ≡ true) where
  abbrev record_count : ℕ
  record_count = get_or s record_count_at 0

  passed : CheckedHeader s
  passed = checked_header s f

  pub length_queue : length (table_of s).queue ≡ record_count
  unfolding table_of
  length_queue = length_tabulate record_count (λ j. record_in (record_part s j))

  record_length : (j : ℕ) → j < record_count → length (record_part s j) ≡ record_size
  record_length j i = length_part s (record_at j) record_size (omega (arith, slot_before j record_count record_size i, passed.at_most))

  queue_back : joined record_bytes (table_of s).queue ≡ part s records_at (record_count * record_size)
  unfolding table_of
  queue_back =
      joined_slots record_bytes (λ j. record_in (record_part s j)) s records_at record_size record_count
      (λ j i. record_back (record_part s j) (record_length j i) (Bytes_part s (record_at j) record_size h) (passed.records j i))

  pub header_back : header_bytes (table_of s) ≡ part s 0 header_size
  unfolding header_bytes table_of settings_in
  header_back =
      let u : ℕ = (max_records - record_count) * record_size in
      let rest : ℕ = padding_size + max_records * record_size in
      let a : record_count ≤ max_records = passed.at_most in
      let e : part s records_at (max_records * record_size) ≡ part s records_at (record_count * record_size + u) = ap (part s records_at) (omega arith) in
      rw (length_queue, queue_back, ← part_are_zero s (record_at record_count) u (omega arith) passed.unused)
      (rw (
        number_back s 0 key_size (omega arith) h,
        number_back s timeout_at time_size (omega arith) h,
        flag_back (get_or s table_filter_at 0) passed.table_filter,
        flag_back (get_or s bucket_filter_at 0) passed.bucket_filter,
      )
      (sym
      (rw (
        part_append s 0 key_size (time_size + (4 + rest)),
        part_append s key_size time_size (4 + rest),
        part_cons s max_incoming_at (3 + rest) (omega arith),
        part_cons s table_filter_at (2 + rest) (omega arith),
        part_cons s bucket_filter_at (1 + rest) (omega arith),
        part_cons s record_count_at rest (omega arith),
        part_append s padding_at padding_size (max_records * record_size),
        part_are_zero s padding_at padding_size (omega arith) passed.padding,
        e,
        part_append s records_at (record_count * record_size) u,
      ))))

  pub settings_fit : FitsSettings (table_of s).settings
  unfolding table_of settings_in
  settings_fit =
      record {
        local_key = number_fits s 0 key_size (omega arith) h;
        pending_timeout = number_fits s timeout_at time_size (omega arith) h;
        max_incoming = passed.max_incoming;
      }

  pub records_fit : All FitsRecord (table_of s).queue
  unfolding table_of
  records_fit = all_tabulate FitsRecord record_count (λ j. record_in (record_part s j)) (λ j i. record_fits (record_part s j) (record_length j i) (Bytes_part s (record_at j) record_size h))

  pub queue_fits_lem : length (table_of s).queue ≤ max_records
  queue_fits_lem = rw length_queue passed.at_most
