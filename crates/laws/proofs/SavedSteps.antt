-- The writer and the reader on a table's bytes (02, slip 6): the writer gives back what the reader took, and the reader takes what the
-- writer put out, node by node in its place.
use mathlib.Core.Path.{◌≡◌, refl, sym, ap, ap₂, ◌∙◌, subst, subst⁻¹}
use mathlib.Core.Bool.{Bool, true, false, cond}
use mathlib.Core.List.{List, [], ◌∷◌}
use mathlib.Core.Option.{Option, none, some}
use Prim.Native.Nat.{ℕ, zero, suc, ◌+◌, ◌*◌, ◌≤◌, ◌<◌}
use native.Mathlib.Omega.{arith}
use lib.ListN.{length, get_or, length-append}
use lib.Dec.{eqb, leb}
use borrow.Author.Tests.{eq-eqb, le-leb}
use Rattle.model.specs.Bytes.{number, part, splice, Bytes}
use Rattle.model.specs.Result.{Reply}
use Rattle.model.specs.Bucket.{Bucket, max_nodes_per_bucket, nodes, num_entries}
use Rattle.model.specs.Table.{Settings, Table, Answer, num_buckets, empty_table, held_nodes}
use Rattle.model.specs.Sizes.{node_size, storage_size}
use Rattle.model.specs.Call.{Call}
use Rattle.model.specs.Question.{first_failed, max_count, keys_fit, codes_in_range, clock_fits, output_fits, kind_fits}
use Rattle.model.specs.Step.{settings_of, act, queue_fits, questions, step}
use Rattle.model.specs.Layout.{bytes_of, bucket_in, bucket_part, table_of}
use Rattle.model.specs.Formed.{header_formed, bucket_formed_at, formed}
use Rattle.model.specs.Saved.{all_nodes, saved, sizes_below, saved_count, loaded_bytes, loaded_table, three_of_aNet}
use Rattle.model.specs.StepBytes.{Replied, tell_unless_refused, write_questions, write_bytes, all_questions, unless_refused_bytes, step_bytes}
use Rattle.model.specs.Fits.{Fits, FitsCall}
use Rattle.laws.proofs.Tests.{and_right}
use Rattle.laws.proofs.Lists.{all_gives}
use Rattle.laws.proofs.Parts.{part_splice_same}
use Rattle.laws.proofs.BucketBytes.{length_nodes}
use Rattle.laws.proofs.BucketFormed.{checked}
use Rattle.laws.proofs.BucketBack.{count_in}
use Rattle.laws.proofs.Questions.{passed, accepted_bytes, first_two}
use Rattle.laws.proofs.Loaded.{loads, size_loaded}
use Rattle.laws.proofs.SavedBack.{loaded_are_read, length_read, saved_back}
use Rattle.laws.proofs.KeepStep.{step_accepted, step_fits, new_fits}
use Rattle.laws.proofs.Touched.{whole_formed}
use Rattle.laws.proofs.TableBytes.{length_bytes_of, table_there, formed_there, table_back, fits_back}
use Rattle.laws.proofs.Saved.{length_saved, count_there, Bytes_saved, same_places, load_accepts, empty_holds_nothing}
use Rattle.laws.proofs.TableStep.{Same, step_bytes_lem, new_bytes}

-- no more than 4,096 nodes are written or read

held_few : (n : ℕ) (bs : ℕ → Bucket) → ((i : ℕ) → i < n → num_entries (bs i) ≤ max_nodes_per_bucket) → length (held_nodes n bs) ≤ n * max_nodes_per_bucket
unfolding held_nodes
held_few zero bs h = omega arith
held_few (suc n) bs h =
    rw (length-append (held_nodes n bs) (nodes (bs n)), length_nodes (bs n))
    (omega (arith, held_few n bs (λ i l. h i (omega arith)), h n (omega arith)))

sizes_few : (bs : List ℕ) (n : ℕ) → ((i : ℕ) → i < n → get_or bs i 0 ≤ max_nodes_per_bucket) → sizes_below bs n ≤ n * max_nodes_per_bucket
unfolding sizes_below
sizes_few bs zero h = omega arith
sizes_few bs (suc n) h = omega (arith, sizes_few bs n (λ i l. h i (omega arith)), h n (omega arith))

-- a reader that loads n nodes, of any storage and any bytes: no question failed, and n is what the sizes say
pub read_passed : (bs s : List ℕ) (n : ℕ) → (step_bytes (Call.read bs) s).answer ≡ Answer.Read n → (first_failed (all_questions (Call.read bs) s) ≡ none) × (saved_count bs ≡ n)
unfolding step_bytes act
read_passed bs s n = by (first_failed (all_questions (Call.read bs) s)) refl
  where
    by : (o : Option ℕ) → first_failed (all_questions (Call.read bs) s) ≡ o → (unless_refused_bytes o (Call.read bs) s).answer ≡ Answer.Read n
        → (first_failed (all_questions (Call.read bs) s) ≡ none) × (saved_count bs ≡ n)
    by (some q) e a = absurd (let z : ◌≡◌ {A = ℕ} 0 1 = cc in omega arith)
    by none e a = (e, cc)

pub read_few : (bs s : List ℕ) (n : ℕ) → (step_bytes (Call.read bs) s).answer ≡ Answer.Read n → n ≤ max_count
read_few bs s n a =
    let p = read_passed bs s n a in
    let g = loads bs (table_of s) (accepted_bytes (Call.read bs) s p.0).answers.bytes in
    subst (λ (k : ℕ). k ≤ max_count) p.1
    (sizes_few bs num_buckets (λ i l. rw (size_loaded bs i) at (checked _ _ (loaded_bytes bs i) (g.formed i l)).at_most))

formed_few : (s : List ℕ) → formed s ≡ true → length (all_nodes (table_of s)) ≤ max_count
unfolding formed table_of
formed_few s f =
    held_few num_buckets (λ i. bucket_in (bucket_part s i))
    (λ i l. rw (count_in (bucket_part s i)) (checked _ _ (bucket_part s i) (all_gives num_buckets (bucket_formed_at s) i l (and_right (header_formed s) _ f))).at_most)

pub write_few : (out s : List ℕ) (n : ℕ) → (write_bytes out s).answer ≡ Reply.Answered n → n ≤ max_count
unfolding write_bytes
write_few out s n a = by (first_failed (write_questions out s)) refl a
  where
    by : (o : Option ℕ) → first_failed (write_questions out s) ≡ o → (tell_unless_refused o (length (all_nodes (table_of s))) (saved (table_of s)) out).answer ≡ Reply.Answered n
        → n ≤ max_count
    by (some q) e a = absurd (let z : ◌≡◌ {A = ℕ} 0 1 = cc in omega arith)
    by none e a =
        let q1 = passed 1 (eqb (length s) storage_size) ((2, formed s) ∷ (6, leb (length (saved (table_of s))) (length out)) ∷ []) e in
        let q2 = passed 2 (formed s) ((6, leb (length (saved (table_of s))) (length out)) ∷ []) q1.1 in
        let c : length (all_nodes (table_of s)) ≡ n = cc in
        subst (λ (k : ℕ). k ≤ max_count) c (formed_few s q2.0)

-- the writer on the bytes of a table: it is asked for room alone
pub write_bytes_lem : (out : List ℕ) (t : Table) → Fits t
    → write_bytes out (bytes_of t) ≡ tell_unless_refused (cond (leb (length (saved t)) (length out)) none (some 6)) (length (all_nodes t)) (saved t) out
unfolding write_bytes
write_bytes_lem out t f =
    let x : Table = table_of (bytes_of t) in
    ap (λ (o : Option ℕ). tell_unless_refused o (length (all_nodes x)) (saved x) out)
    (first_two (eqb (length (bytes_of t)) storage_size) (formed (bytes_of t)) ((6, leb (length (saved x)) (length out)) ∷ [])
    (eq-eqb (length (bytes_of t)) storage_size (length_bytes_of t f)) (formed_there t f))
    ∙ ap (λ (y : Table). tell_unless_refused (cond (leb (length (saved y)) (length out)) none (some 6)) (length (all_nodes y)) (saved y) out) (table_there t f)

pub write_accepts : (out : List ℕ) (t : Table) → Fits t → length (saved t) ≤ length out
    → write_bytes out (bytes_of t) ≡ record { answer = Reply.Answered (length (all_nodes t)); output = splice out 0 (saved t) }
write_accepts out t f l =
    write_bytes_lem out t f
    ∙ ap (λ (b : Bool). tell_unless_refused (cond b none (some 6)) (length (all_nodes t)) (saved t) out) (le-leb (length (saved t)) (length out) l)

-- what it put out stands at the front of its output
pub front_written : (out : List ℕ) (t : Table) → Fits t → num_buckets + length (all_nodes t) * node_size ≤ length out
    → ((write_bytes out (bytes_of t)).answer ≡ Reply.Answered (length (all_nodes t))) × (part (write_bytes out (bytes_of t)).output 0 (num_buckets + length (all_nodes t) * node_size) ≡ saved t)
front_written out t f l =
    let n = length_saved t in
    let e = write_accepts out t f (rw n l) in (
      ap (λ (x : Replied). x.answer) e,
      ap (λ (x : Replied). part x.output 0 (num_buckets + length (all_nodes t) * node_size)) e
          ∙ ap (part (splice out 0 (saved t)) 0) (sym n)
          ∙ part_splice_same out 0 (saved t) (rw n (omega (arith, l))),
    )

-- the reader, where it loads n nodes of any storage
module _ (bs s : List ℕ) (n : ℕ) (h : Bytes bs) (b : Bytes s) (a : (step_bytes (Call.read bs) s).answer ≡ Answer.Read n) where
  abbrev call : Call
  call = Call.read bs

  abbrev before : Table
  before = table_of s

  -- what it leaves, and how many nodes
  pub read_leaves : ((step_bytes call s).storage ≡ bytes_of (loaded_table bs before)) × Fits (loaded_table bs before) × (saved (loaded_table bs before) ≡ bs)
      × (length (all_nodes (loaded_table bs before)) ≡ n)
  unfolding act
  read_leaves =
      let q = accepted_bytes call s (read_passed bs s n a).0 in
      let w : formed s ≡ true = whole_formed s q.header q.buckets in
      let f : Fits before = fits_back s b q.size w in
      let e : step call before ≡ act call before = step_accepted call before q.passes in
      let o : Same (step_bytes call s) (step call before) =
      subst (λ (x : List ℕ). Same (step_bytes call x) (step call before)) (table_back s b q.size w) (step_bytes_lem call before h f) in (
        o.storage ∙ ap (λ x. bytes_of x.table) e,
        subst (λ x. Fits x.table) e (step_fits call before h f),
        saved_back bs before h q.answers.bytes,
        ap length (loaded_are_read bs (loads bs before q.answers.bytes).size before) ∙ length_read bs ∙ (read_passed bs s n a).1,
      )

  -- byte for byte: what the reader took, the writer gives back
  pub read_back : (out : List ℕ) → length bs ≤ length out
      → write_bytes out (step_bytes call s).storage ≡ record { answer = Reply.Answered n; output = splice out 0 bs }
  read_back out l =
      let r = read_leaves in
      ap (write_bytes out) r.0
      ∙ write_accepts out (loaded_table bs before) r.1 (subst⁻¹ (λ (x : List ℕ). length x ≤ length out) r.2 l)
      ∙ ap₂ (λ (k : ℕ) (x : List ℕ). record { answer = Reply.Answered k; output = splice out 0 x }) r.3 r.2

-- what is written of a table is taken by storage that holds nothing, of the same settings; each bucket then holds the same nodes in the same places
module _ (t : Table) (f : Fits t) (nets : t.settings.bucket.filter ≡ true → (i : ℕ) → i < num_buckets → three_of_aNet (nodes (t.buckets i)) ≡ false) where
  module _ (new : Settings) (g : Fits (empty_table new)) (e : new ≡ t.settings) where
    abbrev reading : Call
    reading = Call.read (saved t)

    read_taken : first_failed (questions reading (empty_table new)) ≡ none
    unfolding keys_fit codes_in_range clock_fits output_fits kind_fits queue_fits act
    read_taken =
        ap (λ (b : Bool). cond b none (some 9)) (load_accepts t (empty_table new) f nets (empty_holds_nothing new) e)

    pub written_read : ((step_bytes reading (bytes_of (empty_table new))).answer ≡ Answer.Read (length (all_nodes t)))
        × ((i : ℕ) → nodes ((table_of (step_bytes reading (bytes_of (empty_table new))).storage).buckets i) ≡ nodes (t.buckets i))
    unfolding act
    written_read =
        let h : Bytes (saved t) = Bytes_saved t f in
        let o = step_bytes_lem reading (empty_table new) h g in
        let a : step reading (empty_table new) ≡ act reading (empty_table new) = step_accepted reading (empty_table new) read_taken in
        let left : table_of (step_bytes reading (bytes_of (empty_table new))).storage ≡ loaded_table (saved t) (empty_table new) =
        ap table_of o.storage ∙ table_there (step reading (empty_table new)).table (step_fits reading (empty_table new) h g) ∙ ap (λ x. x.table) a in (
          o.answer ∙ ap (λ x. x.answer) a ∙ ap Answer.Read (count_there t),
          λ i. ap (λ (x : Table). nodes (x.buckets i)) left ∙ same_places t f i,
        )

-- storage that an accepted `new` has just made
module _ (k : List ℕ) (timeout m tf bf : ℕ) (s : List ℕ) (h : FitsCall (Call.new k timeout m tf bf)) where
  abbrev pub new_settings : Settings
  new_settings = settings_of (number k) timeout m tf bf

  pub new_made : (step_bytes (Call.new k timeout m tf bf) s).answer ≡ Answer.New
      → ((step_bytes (Call.new k timeout m tf bf) s).storage ≡ bytes_of (empty_table new_settings)) × Fits (empty_table new_settings)
  unfolding act
  new_made a =
      let o = new_bytes k timeout m tf bf s h a in
      let e = step_accepted (Call.new k timeout m tf bf) (table_of s) o.1 in (
        o.0.storage ∙ ap (λ x. bytes_of x.table) e,
        subst (λ x. Fits x.table) e (new_fits k timeout m tf bf (table_of s) h o.1),
      )
