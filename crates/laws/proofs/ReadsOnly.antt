-- 02, slip 7: a call looks at the header and at the buckets that it reads. Two storages that have these in common are answered alike, so
-- that a malformed bucket elsewhere stops no call.
use Prim.Native.Nat.{ℕ, ◌+◌, ◌*◌, ◌-◌, ◌≤◌, ◌<◌}
use native.Mathlib.Omega.{arith}
use native.Mathlib.Nat.{zero-add}
use mathlib.Core.Path.{◌≡◌, refl, sym, ap, ap₂, ◌∙◌, subst⁻¹}
use mathlib.Core.Bool.{Bool, true, false, not, ◌&&◌, ◌||◌}
use mathlib.Core.List.{List, [], ◌∷◌, ◌++◌}
use mathlib.Core.Option.{Option, none, some}
use lib.ListN.{length, get_or}
use lib.Dec.{eqb, leb}
use borrow.Author.Tests.{leb-true, eq-eqb}
use Rattle.model.specs.Base.{every, tabulate, is_some}
use Rattle.model.specs.Bytes.{part}
use Rattle.model.specs.Node.{EndedPending}
use Rattle.model.specs.Bucket.{Bucket, num_entries}
use Rattle.model.specs.Table.{Settings, Table, num_buckets, max_records}
use Rattle.model.specs.Sizes.{key_size, time_size, record_size, timeout_at, max_incoming_at, table_filter_at, bucket_filter_at, record_count_at, padding_at, padding_size, record_at, header_size, storage_size}
use Rattle.model.specs.Call.{Call, KeyCall}
use Rattle.model.specs.Listing.{Item}
use Rattle.model.specs.Question.{arguments, first_failed, with_room, clock_fits, kind_fits, hours_in_range, admitted}
use Rattle.model.specs.Saved.{holds_nothing, load_fits}
use Rattle.model.specs.Step.{take_oldest, act, queue_fits, early, bytes_fit, late}
use Rattle.model.specs.Layout.{record_in, bucket_in, settings_in, record_part, bucket_part, table_of}
use Rattle.model.specs.Formed.{are_zero, record_formed, header_formed, bucket_formed_at, buckets_formed}
use Rattle.model.specs.StepBytes.{BytesOutcome, reads, holds_header, all_questions, output_of, written, unless_refused_bytes, step_bytes}
use Rattle.model.specs.Explain.{explanation, line, explanation_room, line_unless_refused, explain_bytes}
use Rattle.model.specs.Fits.{All}
use Rattle.laws.proofs.Tests.{split, second}
use Rattle.laws.proofs.Lists.{all_ext, tabulate_ext}
use Rattle.laws.proofs.Parts.{get_d_part, part_part, slot_before}
use Rattle.laws.proofs.All.{all_map}
use Rattle.laws.proofs.HeaderBack.{checked_header}
use Rattle.laws.proofs.Touched.{every_bucket_lem}
use Rattle.laws.proofs.ReadBack.{formed_by, formed_by_lem}
use Rattle.laws.proofs.KeyReads.{with_buckets, Alike, SameBucket, key_reads_same, key_kind_same, key_admitted_same, key_act_same, explanation_same}
use Rattle.laws.proofs.ListReads.{applies_same, list_act_same}

-- ---- every call, on a table

load_same : (bs : List ℕ) (t : Table) (cs : ℕ → Bucket) → ((j : ℕ) → j < num_buckets → SameBucket t cs j) → load_fits bs (with_buckets cs t) ≡ load_fits bs t
unfolding load_fits holds_nothing
load_same bs t cs h =
    rw (all_ext num_buckets (λ i. eqb (num_entries (cs i)) 0 && not (is_some (cs i).pending)) (λ i. eqb (num_entries (t.buckets i)) 0 && not (is_some (t.buckets i).pending))
    (λ i m. ap (λ (b : Bucket). eqb (num_entries b) 0 && not (is_some b.pending)) (h i m)))

taken_same : (t : Table) (bs : ℕ → Bucket) (q : List EndedPending) → Alike (take_oldest (with_buckets bs t) q) (take_oldest t q)
taken_same t bs [] = record { answer = refl; queue = refl; records = refl; items = refl }
taken_same t bs (a ∷ q) = record { answer = refl; queue = refl; records = refl; items = refl }

module _ (t : Table) (bs : ℕ → Bucket) where
  abbrev u : Table
  u = with_buckets bs t

  pub reads_same : (c : Call) → All (SameBucket t bs) (reads c t) → reads c u ≡ reads c t
  reads_same (Call.new k timeout m tf bf) h = refl
  reads_same (Call.on_key k c) h = key_reads_same t bs c k h
  reads_same (Call.list l n now out) h = applies_same t bs l n now h
  reads_same Call.take_applied_pending h = refl
  reads_same (Call.read x) h = refl

  pub act_same : (c : Call) → All (SameBucket t bs) (reads c t) → Alike (act c u) (act c t)
  unfolding act
  act_same (Call.new k timeout m tf bf) h = record { answer = refl; queue = refl; records = refl; items = refl }
  act_same (Call.on_key k c) h = key_act_same t bs c k h
  act_same (Call.list l n now out) h = list_act_same t bs l n now h out
  act_same Call.take_applied_pending h = taken_same t bs t.queue
  act_same (Call.read x) h = record { answer = refl; queue = refl; records = refl; items = refl }

  kind_same : (c : Call) → All (SameBucket t bs) (reads c t) → kind_fits c u ≡ kind_fits c t
  unfolding kind_fits
  kind_same (Call.new k timeout m tf bf) h = refl
  kind_same (Call.on_key k c) h = key_kind_same t bs c k h
  kind_same (Call.list l n now out) h = refl
  kind_same Call.take_applied_pending h = refl
  kind_same (Call.read x) h = refl

  admitted_same : (c : Call) → All (SameBucket t bs) (reads c t) → admitted c u ≡ admitted c t
  admitted_same (Call.new k timeout m tf bf) h = refl
  admitted_same (Call.on_key k c) h = key_admitted_same t bs c k h
  admitted_same (Call.list l n now out) h = refl
  admitted_same Call.take_applied_pending h = refl
  admitted_same (Call.read x) h = refl

  room_same : (c : Call) → All (SameBucket t bs) (reads c t) → queue_fits c u ≡ queue_fits c t
  unfolding queue_fits
  room_same c h = ap (λ (q : List EndedPending). leb (length q) max_records) (act_same c h).queue

  bytes_same : (c : Call) → All (SameBucket t bs) (reads c t) → bytes_fit c u ≡ bytes_fit c t
  bytes_same (Call.new k timeout m tf bf) h = refl
  bytes_same (Call.on_key k c) h = refl
  bytes_same (Call.list l n now out) h = refl
  bytes_same Call.take_applied_pending h = refl
  bytes_same (Call.read x) h = load_same x t bs (every_bucket_lem (SameBucket t bs) h)

  early_same : (c : Call) → early c u ≡ early c t
  unfolding clock_fits
  early_same c = refl

  late_same : (c : Call) → All (SameBucket t bs) (reads c t) → late c u ≡ late c t
  late_same c h = λ x. (7, kind_same c h x) ∷ (8, room_same c h x) ∷ (9, bytes_same c h x) ∷ (10, hours_in_range c) ∷ (11, admitted_same c h x) ∷ []

-- ---- the header

module _ (s : List ℕ) where
  abbrev head : List ℕ
  head = part s 0 header_size

  get_d_head : (i : ℕ) → i < header_size → get_or head i 0 ≡ get_or s i 0
  get_d_head i m = get_d_part s 0 header_size i m ∙ rw zero-add

  part_head : (i k : ℕ) → i + k ≤ header_size → part head i k ≡ part s i k
  part_head i k m = part_part s 0 header_size i k m ∙ rw zero-add

  zero_head : (i k : ℕ) → i + k ≤ header_size → are_zero head i k ≡ are_zero s i k
  unfolding are_zero
  zero_head i k m = all_ext k _ _ (λ j l. ap (λ (x : ℕ). eqb x 0) (get_d_head (i + j) (omega arith)))

  record_head : (j n : ℕ) → j < n → n ≤ max_records → record_part head j ≡ record_part s j
  record_head j n l m = part_head (record_at j) record_size (omega (arith, slot_before j n record_size l))

  settings_head : settings_in head ≡ settings_in s
  unfolding settings_in
  settings_head =
      rw (
        part_head 0 key_size (omega arith),
        part_head timeout_at time_size (omega arith),
        get_d_head max_incoming_at (omega arith),
        get_d_head table_filter_at (omega arith),
        get_d_head bucket_filter_at (omega arith),
      )

  header_head : header_formed head ≡ header_formed s
  unfolding header_formed
  header_head =
      let n : ℕ = get_or s record_count_at 0 in
      rw (
        get_d_head max_incoming_at (omega arith),
        get_d_head table_filter_at (omega arith),
        get_d_head bucket_filter_at (omega arith),
        get_d_head record_count_at (omega arith),
        zero_head padding_at padding_size (omega arith),
        second (leb n max_records) _ _
            (λ e.
            let m : n ≤ max_records = leb-true n max_records e in
            ap₂ (λ (x y : Bool). x && y) (all_ext n (λ j. record_formed (record_part head j)) (λ j. record_formed (record_part s j)) (λ j l. ap record_formed (record_head j n l m)))
            (zero_head (record_at n) ((max_records - n) * record_size) (omega arith))),
      )

  queue_head : get_or s record_count_at 0 ≤ max_records → (table_of head).queue ≡ (table_of s).queue
  unfolding table_of
  queue_head m =
      let n : ℕ = get_or s record_count_at 0 in
      ap (λ (k : ℕ). tabulate k (λ j. record_in (record_part head j))) (get_d_head record_count_at (omega arith))
      ∙ tabulate_ext n (λ j. record_in (record_part head j)) (λ j. record_in (record_part s j)) (λ j l. ap record_in (record_head j n l m))

-- ---- on bytes

every_same : (f g : ℕ → Bool) (is : List ℕ) → All (λ (i : ℕ). f i ≡ g i) is → every f is ≡ every g is
every_same f g [] a = refl
every_same f g (i ∷ is) a = ap₂ (λ (x y : Bool). x && y) a.0 (every_same f g is a.1)

-- what a caller is told
pub record SameReply (o p : BytesOutcome) : Type 0 where
  pub answer : o.answer ≡ p.answer
  pub output : o.output ≡ p.output
  pub records : o.records ≡ p.records

-- 2 of the settings and the queue, with room asked or not
second_fails : (a b : Bool) (qs : List (ℕ × Bool)) → a ≡ true → b ≡ false → first_failed ((1, a) ∷ (2, b) ∷ qs) ≡ some 2
second_fails a b qs e f = rw (e, f)

module _ (s : List ℕ) (l : length s ≡ storage_size) (f : header_formed s ≡ false) (c : Call) (n : (arguments c).table ≡ true) where
  -- the questions behind it
  abbrev behind : List (ℕ × Bool)
  behind = early c (table_of s) ++ ((2, buckets_formed s (reads c (table_of s))) ∷ late c (table_of s))

  header_fails : holds_header c s ≡ false
  header_fails = rw (n, f)

  refused_two : first_failed (all_questions c s) ≡ some 2
  refused_two = second_fails (eqb (length s) storage_size) (holds_header c s) behind (eq-eqb (length s) storage_size l) header_fails

  refused_two_room : (room : Bool) → first_failed (with_room room (all_questions c s)) ≡ some 2
  refused_two_room room = second_fails (eqb (length s) storage_size) (holds_header c s) (with_room room behind) (eq-eqb (length s) storage_size l) header_fails

-- two storages with one header
module _ (s s' : List ℕ) (l : length s ≡ storage_size) (l' : length s' ≡ storage_size) (e : part s' 0 header_size ≡ part s 0 header_size) where
  abbrev t : Table
  t = table_of s

  settings_same : (table_of s').settings ≡ t.settings
  unfolding table_of
  settings_same = sym (settings_head s') ∙ ap settings_in e ∙ settings_head s

  header_same : header_formed s' ≡ header_formed s
  header_same = sym (header_head s') ∙ ap header_formed e ∙ header_head s

  -- the header passes question 2
  module _ (f : header_formed s ≡ true) where
    queue_same : (table_of s').queue ≡ t.queue
    queue_same =
        sym (queue_head s' (checked_header s' (header_same ∙ f)).at_most) ∙ ap (λ (x : List ℕ). (table_of x).queue) e ∙ queue_head s (checked_header s f).at_most

    table_same : table_of s' ≡ with_buckets (table_of s').buckets t
    table_same = λ x. record { settings = settings_same x; buckets = (table_of s').buckets; queue = queue_same x }

    module _ (c : Call) (a : All (λ (i : ℕ). bucket_part s' i ≡ bucket_part s i) (reads c t)) where
      buckets_same : All (SameBucket t (table_of s').buckets) (reads c t)
      unfolding table_of
      buckets_same = all_map (λ (i : ℕ). bucket_part s' i ≡ bucket_part s i) (λ (i : ℕ). bucket_in (bucket_part s' i) ≡ bucket_in (bucket_part s i)) (λ i p. ap bucket_in p) (reads c t) a

      formed_same : buckets_formed s' (reads c (with_buckets (table_of s').buckets t)) ≡ buckets_formed s (reads c t)
      formed_same =
          ap (buckets_formed s') (reads_same t (table_of s').buckets c buckets_same)
          ∙ every_same (bucket_formed_at s') (bucket_formed_at s) (reads c t)
          (all_map (λ (i : ℕ). bucket_part s' i ≡ bucket_part s i) (λ (i : ℕ). bucket_formed_at s' i ≡ bucket_formed_at s i)
          (λ i p. formed_by_lem s' i ∙ ap₂ (λ (w : Settings) (b : List ℕ). formed_by w i b) settings_same p ∙ sym (formed_by_lem s i)) (reads c t) a)

      questions_same : all_questions c s' ≡ all_questions c s
      questions_same =
          ap
          (λ (x : Table).
          (1, eqb (length s') storage_size) ∷ (2, holds_header c s') ∷ (early c x ++ ((2, buckets_formed s' (reads c x)) ∷ late c x)))
          table_same
          ∙ (λ x.
          (1, eqb ((l' ∙ sym l) x) storage_size)
          ∷ (2, not (arguments c).table || header_same x)
          ∷ (early_same t (table_of s').buckets c x ++ ((2, formed_same x) ∷ late_same t (table_of s').buckets c buckets_same x)))

      -- what the call's work gives
      work_same : Alike (act c (table_of s')) (act c t)
      work_same = subst⁻¹ (λ (x : Table). Alike (act c x) (act c t)) table_same (act_same t (table_of s').buckets c buckets_same)

      formed_only : SameReply (step_bytes c s') (step_bytes c s)
      unfolding step_bytes
      formed_only = subst⁻¹ (λ (qs : List (ℕ × Bool)). SameReply (unless_refused_bytes (first_failed qs) c s') (step_bytes c s)) questions_same (answered (first_failed (all_questions c s)))
        where
          answered : (o : Option ℕ) → SameReply (unless_refused_bytes o c s') (unless_refused_bytes o c s)
          answered (some q) = record { answer = refl; output = refl; records = refl }
          answered none =
              record {
                answer = work_same.answer;
                output = ap (λ (xs : List Item). written xs (output_of c)) work_same.items;
                records = work_same.records;
              }

  -- it does not: 2
  malformed_only : (c : Call) → (arguments c).table ≡ true → header_formed s ≡ false → SameReply (step_bytes c s') (step_bytes c s)
  unfolding step_bytes
  malformed_only c n f =
      rw (refused_two s l f c n, refused_two s' l' (header_same ∙ f) c n) (record { answer = refl; output = refl; records = refl })

  new_only : (k : List ℕ) (timeout m tf bf : ℕ) → (let c = Call.new k timeout m tf bf in SameReply (step_bytes c s') (step_bytes c s))
  unfolding step_bytes clock_fits kind_fits queue_fits act
  new_only k timeout m tf bf =
      subst⁻¹ (λ (qs : List (ℕ × Bool)). SameReply (unless_refused_bytes (first_failed qs) made s') (step_bytes made s)) asked (answered (first_failed (all_questions made s)))
    where
      made : Call
      made = Call.new k timeout m tf bf

      asked : all_questions made s' ≡ all_questions made s
      asked = ap (λ (x : ℕ). (1, eqb x storage_size) ∷ (2, true) ∷ (early made t ++ ((2, true) ∷ late made t))) (l' ∙ sym l)

      answered : (o : Option ℕ) → SameReply (unless_refused_bytes o made s') (unless_refused_bytes o made s)
      answered (some q) = record { answer = refl; output = refl; records = refl }
      answered none = record { answer = refl; output = refl; records = refl }

  -- 02: with the header and the buckets that a call reads in common, the two are answered alike
  pub reads_only : (c : Call) → All (λ (i : ℕ). bucket_part s' i ≡ bucket_part s i) (reads c t) → SameReply (step_bytes c s') (step_bytes c s)
  reads_only (Call.new k timeout m tf bf) a = new_only k timeout m tf bf
  reads_only (Call.on_key k c) a = split (header_formed s) (λ f. formed_only f (Call.on_key k c) a) (λ f. malformed_only (Call.on_key k c) refl f)
  reads_only (Call.list x n now out) a = split (header_formed s) (λ f. formed_only f (Call.list x n now out) a) (λ f. malformed_only (Call.list x n now out) refl f)
  reads_only Call.take_applied_pending a = split (header_formed s) (λ f. formed_only f Call.take_applied_pending a) (λ f. malformed_only Call.take_applied_pending refl f)
  reads_only (Call.read bs) a = split (header_formed s) (λ f. formed_only f (Call.read bs) a) (λ f. malformed_only (Call.read bs) refl f)

  -- and so are two explanations
  pub explain_reads_only : (k : List ℕ) (c : KeyCall) (out : List ℕ) → All (λ (i : ℕ). bucket_part s' i ≡ bucket_part s i) (reads (Call.on_key k c) t)
      → explain_bytes k c out s' ≡ explain_bytes k c out s
  unfolding explain_bytes
  explain_reads_only k c out a =
      split (header_formed s)
      (λ f. ap₂ (λ (qs : List (ℕ × Bool)) (x : List ℕ). line_unless_refused (first_failed (with_room room qs)) x out) (questions_same f (Call.on_key k c) a)
      (ap (λ (x : Table). line (explanation c k x)) (table_same f) ∙ ap line (explanation_same t (table_of s').buckets c k (buckets_same f (Call.on_key k c) a))))
      (λ f. rw (refused_two_room s l f (Call.on_key k c) refl room, refused_two_room s' l' (header_same ∙ f) (Call.on_key k c) refl room))
    where
      room : Bool
      room = leb explanation_room (length out)
