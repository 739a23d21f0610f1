-- What nodes_by_distances answers and leaves, by its questions and its passes.
use mathlib.Core.Path.{◌≡◌, refl, sym, ap, ap₂, ◌∙◌}
use mathlib.Core.Bool.{Bool, true, false, cond, ◌&&◌}
use mathlib.Core.List.{List, [], ◌∷◌, ◌++◌, map, append-nil}
use mathlib.Core.Option.{Option, none, some}
use Prim.Native.Nat.{ℕ, zero, suc, ◌+◌, ◌*◌, ◌≤◌}
use native.Mathlib.Omega.{arith}
use lib.ListN.{length, take, length-append}
use lib.Dec.{eqb, leb}
use borrow.Author.Tests.{leb-true, le-leb, eqb-true, ne_eqb}
use Rattle.model.specs.Base.{joined}
use Rattle.model.specs.Bytes.{Bytes, splice}
use Rattle.model.specs.Node.{Node}
use Rattle.model.specs.Bucket.{nodes}
use Rattle.model.specs.Table.{Table, Answer, max_records}
use Rattle.model.specs.Sizes.{node_size, storage_size}
use Rattle.model.specs.Call.{Call, Listing}
use Rattle.model.specs.Listing.{item, apply_all, applied_pass, buckets_at, at_least_one, found}
use Rattle.model.specs.Question.{first_failed, deadline_fits, max_count, keys_fit, codes_in_range, clock_fits, output_fits, kind_fits}
use Rattle.model.specs.Step.{act, queue_fits}
use Rattle.model.specs.Layout.{node_bytes, item_bytes, table_of}
use Rattle.model.specs.Formed.{header_formed, buckets_formed}
use Rattle.model.specs.StepBytes.{all_questions, restore, unless_refused_bytes, step_bytes}
use Rattle.laws.proofs.Tests.{and_left, and_right}
use Rattle.laws.proofs.Applied.{apply_all_queue}
use Rattle.laws.proofs.Lists.{joined_map}
use Rattle.laws.proofs.DistanceReads.{found_reads}
use Rattle.laws.proofs.Questions as asked
use Rattle.laws.proofs.Questions.{front_fails, front_passes}
use Rattle.on_key.specs.Answers.{first_three, failed_of_three}
use Rattle.visit.specs.Passes.{applied_in}
use Rattle.visit.proofs.Applying.{Appliable, Applying, applying_done, applying_table, applying_formed}
use Rattle.items.specs.Lists.{Lists}
use Rattle.items.proofs.Asked.{asked_passes}
use Rattle.distances.specs.Passes.{table_after, distance_pass, passed, listed_nodes}
use Rattle.distances.specs.Early.{early, failed_early}
use Rattle.distances.proofs.Passes.{pass_appliable}

-- one item is as few as none
most_few_is : (n : ℕ) → leb (at_least_one n) max_count ≡ leb n max_count
most_few_is zero = refl
most_few_is (suc n) = refl

-- the early questions, in turn

module _ (now n room : ℕ) (s : List ℕ) where
  abbrev clock : Bool
  clock = deadline_fits (table_of s).settings.bucket.pending_timeout (some now)

  abbrev fits : Bool
  fits = leb n max_count && leb (at_least_one n * node_size) room

  pub early_three : (q : ℕ) → failed_of_three now s ≡ some q → failed_early now n room s ≡ some q
  unfolding failed_of_three failed_early
  early_three q e = front_fails (first_three now s) ((6, fits) ∷ []) q e

  module _ (e : failed_of_three now s ≡ none) where
    after_three : failed_early now n room s ≡ cond fits none (some 6)
    unfolding failed_of_three failed_early
    after_three = front_passes (first_three now s) ((6, fits) ∷ []) e

    -- question 6, as it is asked of one item where n is 0
    pub early_last : {m : ℕ} → m ≡ at_least_one n → cond (leb m max_count && leb (m * node_size) room) none (some 6) ≡ failed_early now n room s
    early_last f =
        ap (λ (k : ℕ). cond (leb k max_count && leb (k * node_size) room) none (some 6)) f
        ∙ ap (λ (b : Bool). cond (b && leb (at_least_one n * node_size) room) none (some 6)) (most_few_is n) ∙ sym after_three

  pub record Passed : Type 0 where
    pub size : length s ≡ storage_size
    pub header : header_formed s ≡ true
    pub few : n ≤ max_count
    pub fit : at_least_one n * node_size ≤ room

  pub passed_early : failed_early now n room s ≡ none → Passed
  unfolding failed_early
  passed_early e =
      let p = asked.passed 1 (eqb (length s) storage_size) ((2, header_formed s) ∷ (5, clock) ∷ (6, fits) ∷ []) e in
      let q = asked.passed 2 (header_formed s) ((5, clock) ∷ (6, fits) ∷ []) p.1 in
      let r = asked.passed 5 clock ((6, fits) ∷ []) q.1 in
      let u = (asked.passed 6 fits [] r.1).0 in
      let m : n ≤ max_count = leb-true n max_count (and_left (leb n max_count) (leb (at_least_one n * node_size) room) u) in
      record {
        size = eqb-true _ _ p.0;
        header = q.0;
        few = m;
        fit = leb-true (at_least_one n * node_size) room (and_right (leb n max_count) (leb (at_least_one n * node_size) room) u);
      }

-- the call

module _ (s : List ℕ) (ds : List ℕ) (n now : ℕ) (out : List ℕ) where
  abbrev l : Listing
  l = Listing.nodes_by_distances ds

  abbrev c : Call
  c = Call.list l n now out

  abbrev t : Table
  t = table_of s

  abbrev formed_buckets : Bool
  formed_buckets = buckets_formed s (passed now n ds t)

  asked_are : first_failed (all_questions c s) ≡ first_failed (early now n (length out) s ++ ((2, formed_buckets) ∷ (8, queue_fits c t) ∷ []))
  unfolding keys_fit codes_in_range clock_fits output_fits kind_fits
  asked_are = refl

  refused : (q : ℕ) → first_failed (all_questions c s) ≡ some q → Lists (Answer.Refused q) s out (step_bytes c s)
  unfolding step_bytes
  refused q e =
      record {
        answer = ap (λ (o : Option ℕ). (unless_refused_bytes o c s).answer) (sym e);
        storage = ap (λ (o : Option ℕ). (unless_refused_bytes o c s).storage) (sym e);
        output = ap (λ (o : Option ℕ). (unless_refused_bytes o c s).output) (sym e);
      }

  pub refused_early : (q : ℕ) → failed_early now n (length out) s ≡ some q → Lists (Answer.Refused q) s out (step_bytes c s)
  unfolding failed_early
  refused_early q e = refused q (asked_are ∙ front_fails (early now n (length out) s) ((2, formed_buckets) ∷ (8, queue_fits c t) ∷ []) q e)

  pub refused_size : (length s ≡ storage_size → ⊥) → Lists (Answer.Refused 1) s out (step_bytes c s)
  unfolding failed_early
  refused_size m = refused_early 1 (rw (ne_eqb (length s) storage_size m))

  abbrev left : Table
  left = (distance_pass now n 0 ds t).0

  -- the records that the pass adds
  queue_is : length left.queue ≡ length t.queue + length (distance_pass now n 0 ds t).1
  unfolding distance_pass
  queue_is =
      let is : List ℕ = applied_pass now n 0 (buckets_at ds) t in
      ap length (apply_all_queue now is t) ∙ length-append t.queue (apply_all now is t).1

  fits_are : queue_fits c t ≡ leb (length left.queue) max_records
  unfolding queue_fits act distance_pass
  fits_are = refl

  -- question 8, as it is asked of what the survey counted
  module _ {records : ℕ} (g : records ≡ length (distance_pass now n 0 ds t).1) where
    queue_asked : length t.queue + records ≡ length left.queue
    queue_asked = omega (arith, queue_is)

    pub queue_room : ◌≡◌ {A = Option ℕ} none (cond (leb (length t.queue + records) max_records) none (some 8)) → length left.queue ≤ max_records
    queue_room h = omega (arith, queue_asked, leb-true (length t.queue + records) max_records (asked_passes 8 _ h))

  module _ (e : failed_early now n (length out) s ≡ none) where
    asked_last : first_failed (all_questions c s) ≡ cond formed_buckets (cond (queue_fits c t) none (some 8)) (some 2)
    unfolding failed_early
    asked_last = asked_are ∙ front_passes (early now n (length out) s) ((2, formed_buckets) ∷ (8, queue_fits c t) ∷ []) e

    pub refused_malformed : formed_buckets ≡ false → Lists (Answer.Refused 2) s out (step_bytes c s)
    refused_malformed f = refused 2 (asked_last ∙ rw f)

    module _ (f : formed_buckets ≡ true) where
      pub refused_full : {records : ℕ} → records ≡ length (distance_pass now n 0 ds t).1 → (m : ℕ)
          → some m ≡ cond (leb (length t.queue + records) max_records) none (some 8) → Lists (Answer.Refused m) s out (step_bytes c s)
      refused_full g m h = refused m (asked_last ∙ rw (f, fits_are) (ap (λ (k : ℕ). cond (leb k max_records) none (some 8)) (sym (queue_asked g)) ∙ sym h))

      -- the distances taken have the buckets of the pass, and the records are the pass's
      module _ (h : length left.queue ≤ max_records) (taken : List ℕ) {records : ℕ} (named : buckets_at taken ≡ passed now n ds t) (given : records ≡ length (distance_pass now n 0 ds t).1) where
        abbrev is : List ℕ
        is = buckets_at taken

        accepted : first_failed (all_questions c s) ≡ none
        accepted = asked_last ∙ rw (f, fits_are, le-leb (length left.queue) max_records h)

        pub taken_formed : buckets_formed s is ≡ true
        taken_formed = ap (buckets_formed s) named ∙ f

        pub taken_room : length (table_after now taken t).queue ≤ max_records
        unfolding table_after distance_pass
        taken_room = let q = ap (λ (js : List ℕ). length (apply_all now js t).0.queue) named in omega arith

        pub taken_records : records ≡ length (apply_all now is t).1
        unfolding distance_pass
        taken_records = given ∙ ap (λ (js : List ℕ). length (apply_all now js t).1) (sym named)

        -- the storage once the pass has been made
        module _ (b : Bytes s) {s' : List ℕ} (v : s' ≡ applied_in s now is) where
          p : Appliable s now is
          p = let q = passed_early now n (length out) s e in pass_appliable s now taken b (record { size = q.size; header = q.header }) taken_formed taken_room

          w : Applying s now is s' []
          w = applying_done s now is p v

          pub formed_left : buckets_formed s' is ≡ true
          formed_left = applying_formed s now is p s' [] w is p.below taken_formed

          there : table_of s' ≡ left
          unfolding distance_pass
          there = applying_table s now is p s' [] w ∙ ap (λ (js : List ℕ). (apply_all now js t).0) (sym (append-nil w.done) ∙ sym w.all ∙ named)

          found_is : listed_nodes (table_of s') (at_least_one n) taken ≡ found l n now t
          unfolding listed_nodes distance_pass
          found_is =
              ap₂ (λ (u : Table) (js : List ℕ). take (at_least_one n) (joined (λ i. nodes (u.buckets i)) js)) there named
              ∙ sym (found_reads l n now t)

          items_are : (ns : List Node) → joined node_bytes ns ≡ joined item_bytes (map (item l) ns)
          unfolding item_bytes
          items_are ns = sym (joined_map item_bytes (item l) ns)

          pub lists_found : {m : ℕ} {out' : List ℕ} → m ≡ length (listed_nodes (table_of s') (at_least_one n) taken)
              → out' ≡ splice out 0 (joined node_bytes (listed_nodes (table_of s') (at_least_one n) taken)) → Lists (Answer.Found m) s' out' (step_bytes c s)
          unfolding step_bytes act applied_in
          lists_found {m} {out'} g o =
              let a : m ≡ length (found l n now t) = g ∙ ap length found_is in
              record {
                answer = ap Answer.Found a ∙ ap (λ (q : Option ℕ). (unless_refused_bytes q c s).answer) (sym accepted);
                storage = v ∙ ap (λ (js : List ℕ). restore s js (apply_all now js t).0) named ∙ ap (λ (q : Option ℕ). (unless_refused_bytes q c s).storage) (sym accepted);
                output =
                    o ∙ ap (λ (ns : List Node). splice out 0 (joined node_bytes ns)) found_is
                    ∙ ap (splice out 0) (items_are (found l n now t)) ∙ ap (λ (q : Option ℕ). (unless_refused_bytes q c s).output) (sym accepted);
              }
