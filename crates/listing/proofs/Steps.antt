-- A listing's answer, storage and output, by its questions and by the visit of its buckets.
use mathlib.Core.Path.{◌≡◌, refl, sym, ap, ap₂, ◌∙◌, fun_ext, subst}
use mathlib.Core.Bool.{Bool, true, false, cond, ◌&&◌}
use mathlib.Core.List.{List, [], ◌∷◌, ◌++◌, map, append-nil}
use mathlib.Core.Option.{Option, none, some}
use Prim.Native.Nat.{ℕ, zero, suc, ◌+◌, ◌-◌, ◌*◌, ◌≤◌, min}
use native.Mathlib.Nat.{mul-le-mul_right, le_trans}
use native.Mathlib.Omega.{arith}
use lib.Dec.{leb}
use lib.ListN.{length, take, length-append}
use borrow.Author.Tests.{leb-true, le-leb, ne_eqb}
use Rattle.model.specs.Base.{joined}
use Rattle.model.specs.Node.{Node, EndedPending}
use Rattle.model.specs.Bucket.{num_entries}
use Rattle.model.specs.Table.{Table, Answer, max_records}
use Rattle.model.specs.Sizes.{storage_size}
use Rattle.model.specs.Call.{Listing, Call}
use Rattle.model.specs.Listing.{Item, item, apply_all, applied, visited, applies, shown, most, found}
use Rattle.model.specs.Question.{max_count, first_failed, entry_size, keys_fit, codes_in_range, clock_fits, output_fits, kind_fits}
use Rattle.model.specs.Step.{act, queue_fits}
use Rattle.model.specs.Layout.{table_of}
use Rattle.model.specs.Formed.{bucket_formed_at, buckets_formed}
use Rattle.model.specs.StepBytes.{all_questions, written, restore, step_bytes}
use Rattle.model.specs.Fits.{All}
use Rattle.laws.proofs.Tests.{split, and_left, and_right}
use Rattle.laws.proofs.All.{all_map}
use Rattle.laws.proofs.Join.{take_append, take_least, joined_same}
use Rattle.laws.proofs.Applied.{apply_all_queue}
use Rattle.laws.proofs.DistanceReads.{visited_applied}
use Rattle.on_key.specs.Answers.{first_three, first_five, failed_of_three, failed_of_five}
use Rattle.laws.proofs.Questions.{front_fails, front_passes}
use Rattle.visit.specs.Passes.{held, visited_by, visit_all, applied_in, left_of}
use Rattle.laws.proofs.ListReads.{visited_agree}
use Rattle.visit.proofs.Counts.{left_none}
use Rattle.visit.proofs.Applying.{Appliable, Applying, applying_done, applying_table, applying_formed}
use Rattle.items.specs.declared.Form.{Form}
use Rattle.items.specs.declared.Shape.{Shape}
use Rattle.items.specs.Shape.{form_codes, item_by, size_by, shown_by}
use Rattle.items.specs.Lists.{Lists}
use Rattle.items.proofs.Asked.{asked_fails, asked_passes}
use Rattle.listing.specs.Listed.{closest_listing, visit_order_by, room_by, count_in, first_nodes, Put, visit_outcome, list_outcome}
use Rattle.listing.proofs.Shapes.{Gives, closest_keys, closest_codes, length_shown}

-- the buckets visited are those that were applied, so that the items may be read from the table that is left

pub visited_same : {A : Type 0} (g g' : ℕ → List A) (size : ℕ → ℕ) → ((i : ℕ) → size i ≡ length (g i)) → (n : ℕ) (is : List ℕ)
    → All (λ (i : ℕ). g i ≡ g' i) (visited size n is) → take n (joined g is) ≡ take n (joined g' is)
unfolding visited joined
visited_same g g' size e n [] h = refl
visited_same g g' size e zero (i ∷ is) h = refl
visited_same {A} g g' size e (suc n) (i ∷ is) h =
    take_append (suc n) (g i) (joined g is)
    ∙ ap (λ (k : ℕ). take (suc n) (g i) ++ take (suc n - k) (joined g is)) (sym (e i))
    ∙ ap (λ (l : List A). take (suc n) (g i) ++ l) (visited_same g g' size e (suc n - size i) is h.1)
    ∙ ap (λ (k : ℕ). take (suc n) (g i) ++ take (suc n - k) (joined g' is)) (e i)
    ∙ ap (λ (l : List A). take (suc n) l ++ take (suc n - length l) (joined g' is)) h.0
    ∙ sym (take_append (suc n) (g' i) (joined g' is))

-- the items that the survey counted are those found

pub visited_fewer : (s : List ℕ) (size : ℕ → ℕ) (m n : ℕ) (is : List ℕ) → m ≤ n → buckets_formed s (visited size n is) ≡ true
    → buckets_formed s (visited size m is) ≡ true
unfolding visited
visited_fewer s size m n [] h f = refl
visited_fewer s size zero n (i ∷ is) h f = refl
visited_fewer s size (suc m) zero (i ∷ is) h f = absurd (omega arith)
visited_fewer s size (suc m) (suc n) (i ∷ is) h f =
    ap₂ ◌&&◌ (and_left (bucket_formed_at s i) _ f) (visited_fewer s size (suc m - size i) (suc n - size i) is (omega arith) (and_right (bucket_formed_at s i) _ f))

left_agree : (f g : ℕ → ℕ) (n : ℕ) (is : List ℕ) → All (λ (i : ℕ). g i ≡ f i) (visited f n is) → left_of f n is ≡ left_of g n is
unfolding visited left_of
left_agree f g n [] h = refl
left_agree f g zero (i ∷ is) h = left_none f (i ∷ is) ∙ sym (left_none g (i ∷ is))
left_agree f g (suc n) (i ∷ is) h = left_agree f g (suc n - f i) is h.1 ∙ ap (λ (m : ℕ). left_of g (suc n - m) is) (sym h.0)

module _ {A : Type 0} (g : ℕ → List A) (size : ℕ → ℕ) (e : (i : ℕ) → size i ≡ length (g i)) where
  left_length : (n : ℕ) (is : List ℕ) → left_of size n is ≡ n - length (joined g is)
  unfolding left_of joined
  left_length n [] = omega arith
  left_length n (i ∷ is) = omega (arith, left_length (n - size i) is, e i, length-append (g i) (joined g is))

  take_counted : (n : ℕ) (is : List ℕ) → take (n - left_of size n is) (joined g is) ≡ take n (joined g is)
  take_counted n is =
      let l : List A = joined g is in
      let q : n - left_of size n is ≡ min (length l) n = omega (arith, left_length n is) in
      ap (λ (m : ℕ). take m l) q ∙ sym (take_least l n)

-- what the visit of the buckets leaves, with its answer

module _ (x : Shape) (n now : ℕ) (is out s : List ℕ) where
  abbrev left : Table
  left = (visit_all now n is (table_of s)).0

  pub queue_length : length left.queue ≡ length (table_of s).queue + length (visit_all now n is (table_of s)).1
  unfolding visit_all
  queue_length =
      let js : List ℕ = visited (held now (table_of s)) n is in
      ap length (apply_all_queue now js (table_of s)) ∙ length-append (table_of s).queue (apply_all now js (table_of s)).1

  abbrev js : List ℕ
  js = visited_by now n is (table_of s)

  -- question 8, as it is asked of what the survey counted
  module _ {records : ℕ} (r : records ≡ length (visit_all now n is (table_of s)).1) where
    queue_asked : length (table_of s).queue + records ≡ length left.queue
    queue_asked = omega (arith, queue_length)

    pub room_left : ◌≡◌ {A = Option ℕ} none (cond (leb (length (table_of s).queue + records) max_records) none (some 8)) → length left.queue ≤ max_records
    room_left e = omega (arith, queue_asked, leb-true (length (table_of s).queue + records) max_records (asked_passes 8 _ e))

    pub listed_full : buckets_formed s js ≡ true → (m : ℕ) → some m ≡ cond (leb (length (table_of s).queue + records) max_records) none (some 8)
        → Lists (Answer.Refused m) s out (visit_outcome x n now is out s)
    unfolding visit_outcome
    listed_full f m e =
        let p = asked_fails 8 m _ e in
        let q : leb (length left.queue) max_records ≡ false = ap (λ (k : ℕ). leb k max_records) (sym queue_asked) ∙ p.0 in
        record { answer = ap Answer.Refused p.1 ∙ rw (f, q); storage = rw (f, q); output = rw (f, q) }

  pub listed_malformed : buckets_formed s js ≡ false → Lists (Answer.Refused 2) s out (visit_outcome x n now is out s)
  unfolding visit_outcome
  listed_malformed f = record { answer = rw f; storage = rw f; output = rw f }

  module _ (f : buckets_formed s js ≡ true) where
    -- the storage with the due pendings applied
    module _ (p : Appliable s now js) {s' : List ℕ} (e : s' ≡ applied_in s now js) where
      w : Applying s now js s' []
      w = applying_done s now js p e

      there : table_of s' ≡ left
      unfolding visit_all
      there = applying_table s now js p s' [] w ∙ ap (λ (is : List ℕ). (apply_all now is (table_of s)).0) done_all
        where
          done_all : w.done ≡ js
          done_all = sym (append-nil w.done) ∙ sym w.all

      -- they hold what the survey counted
      left_held : All (λ (i : ℕ). count_in (table_of s') i ≡ held now (table_of s) i) js
      unfolding visit_all
      left_held =
          all_map (λ (i : ℕ). (apply_all now js (table_of s)).0.buckets i ≡ applied now (table_of s) i) (λ (i : ℕ). count_in (table_of s') i ≡ held now (table_of s) i)
          (λ i q. ap (λ (u : Table). num_entries (u.buckets i)) there ∙ ap num_entries q) js (visited_applied now js (table_of s))

      listed_all : length left.queue ≤ max_records → (r : ℕ) (out' : List ℕ) → Put x (first_nodes n x (table_of s') is) r out out'
          → Lists (Answer.Found r) s' out' (visit_outcome x n now is out s)
      unfolding visit_outcome
      listed_all q r out' v =
          let k = le-leb (length left.queue) max_records q in
          record {
            answer = ap Answer.Found (v.count ∙ ap (λ (u : Table). length (first_nodes n x u is)) there) ∙ (rw (f, k));
            storage = e ∙ (rw (f, k));
            output = v.output ∙ ap (λ (u : Table). written (map (item_by x) (first_nodes n x u is)) out) there ∙ (rw (f, k));
          }

      module _ {m : ℕ} (c : m ≡ n - left_of (held now (table_of s)) n is) where
        -- the buckets from which the items are read are among those that were visited
        pub left_formed : buckets_formed s' (visited (count_in (table_of s')) m is) ≡ true
        left_formed =
            visited_fewer s' (count_in (table_of s')) m n is (omega arith)
            (ap (buckets_formed s') (visited_agree (held now (table_of s)) (count_in (table_of s')) n is left_held) ∙ applying_formed s now js p s' [] w js p.below f)

        pub left_fits : n * size_by x ≤ length out → m * size_by x ≤ length out
        left_fits h = le_trans (mul-le-mul_right (size_by x) (omega arith)) h

        found_all : first_nodes m x (table_of s') is ≡ first_nodes n x (table_of s') is
        unfolding first_nodes
        found_all =
            let g : ℕ → List Node = λ i. shown_by x ((table_of s').buckets i) in
            ap (λ (k : ℕ). take k (joined g is)) (c ∙ ap (λ (k : ℕ). n - k) (left_agree (held now (table_of s)) (count_in (table_of s')) n is left_held))
            ∙ take_counted g (count_in (table_of s')) (λ i. sym (length_shown x ((table_of s').buckets i))) n is

        pub listed_found : length left.queue ≤ max_records → (r : ℕ) (out' : List ℕ) → Put x (first_nodes m x (table_of s') is) r out out'
            → Lists (Answer.Found r) s' out' (visit_outcome x n now is out s)
        listed_found q r out' v = listed_all q r out' (subst (λ (ns : List Node). Put x ns r out out') found_all v)

-- the listing from question 6 on

module _ (x : Shape) (n now : ℕ) (out s : List ℕ) where
  -- question 6, as it is asked of the items' size
  module _ {size : ℕ} (z : size ≡ size_by x) where
    room_is : (leb n max_count && leb (n * size) (length out)) ≡ room_by x n (length out)
    room_is = ap (λ (w : ℕ). leb n max_count && leb (n * w) (length out)) z

    pub room_passes : ◌≡◌ {A = Option ℕ} none (cond (leb n max_count && leb (n * size) (length out)) none (some 6)) → room_by x n (length out) ≡ true
    room_passes e = sym room_is ∙ asked_passes 6 _ e

    pub list_refused : (m : ℕ) → some m ≡ cond (leb n max_count && leb (n * size) (length out)) none (some 6) → Lists (Answer.Refused m) s out (list_outcome x n now out s)
    unfolding list_outcome
    list_refused m e =
        let p = asked_fails 6 m _ e in
        let r : room_by x n (length out) ≡ false = sym room_is ∙ p.0 in
        record { answer = ap Answer.Refused p.1 ∙ rw r; storage = rw r; output = rw r }

  -- the visit of its buckets
  pub list_visited : room_by x n (length out) ≡ true → {a : Answer} {s' out' : List ℕ} (is : List ℕ) → is ≡ visit_order_by x (table_of s)
      → Lists a s' out' (visit_outcome x n now is out s) → Lists a s' out' (list_outcome x n now out s)
  unfolding list_outcome
  list_visited e is f w = let v = rw f at w in record { answer = v.answer ∙ (rw e); storage = v.storage ∙ (rw e); output = v.output ∙ (rw e) }

  pub room_fits : room_by x n (length out) ≡ true → n * size_by x ≤ length out
  room_fits r = leb-true (n * size_by x) (length out) (and_right (leb n max_count) _ r)

-- the last questions of a listing
abbrev pub last_four : Listing → ℕ → ℕ → List ℕ → List ℕ → List (ℕ × Bool)
last_four l n now out s =
    (6, leb n max_count && leb (most l n * entry_size l) (length out))
    ∷ (2, buckets_formed s (applies l n now (table_of s)))
    ∷ (7, true)
    ∷ (8, queue_fits (Call.list l n now out) (table_of s))
    ∷ []

-- the call l. first: its questions 1 to 5.

module _ (l : Listing) (n now : ℕ) (out s : List ℕ) (first : List (ℕ × Bool)) where
  abbrev c : Call
  c = Call.list l n now out

  abbrev t : Table
  t = table_of s

  module _ (asked : first_failed (all_questions c s) ≡ first_failed (first ++ last_four l n now out s)) where
    pub refused_first : (q : ℕ) → first_failed first ≡ some q → Lists (Answer.Refused q) s out (step_bytes c s)
    unfolding step_bytes
    refused_first q e =
        let f : first_failed (all_questions c s) ≡ some q = asked ∙ front_fails first (last_four l n now out s) q e in
        record { answer = rw f; storage = rw f; output = rw f }

    -- where they pass, and x is the shape that it lists
    module _ (passes : first_failed first ≡ none) (x : Shape) (given : Gives x t n now l) where
      abbrev is : List ℕ
      is = visit_order_by x t

      abbrev visit : List ℕ
      visit = visited_by now n is t

      -- what is asked from question 6 on
      abbrev lastly : Bool → Bool → Option ℕ
      lastly room formed = cond room (cond formed (cond (queue_fits c t) none (some 8)) (some 2)) (some 6)

      asked_last : first_failed (all_questions c s) ≡ lastly (room_by x n (length out)) (buckets_formed s visit)
      asked_last =
          asked ∙ front_passes first (last_four l n now out s) passes
          ∙ ap₂ (λ (m w : ℕ). lastly (leb n max_count && leb (m * w) (length out)) (buckets_formed s (applies l n now t))) given.most given.size
          ∙ ap (λ (ks : List ℕ). lastly (room_by x n (length out)) (buckets_formed s ks)) given.applies

      left_is : apply_all now (applies l n now t) t ≡ visit_all now n is t
      unfolding visit_all
      left_is = ap (λ (js : List ℕ). apply_all now js t) given.applies

      queue_is : queue_fits c t ≡ leb (length (visit_all now n is t).0.queue) max_records
      unfolding queue_fits act
      queue_is = ap (λ (r : Table × List EndedPending). leb (length r.0.queue) max_records) left_is

      -- the nodes listed are those found in the table that is left
      found_is : found l n now t ≡ first_nodes n x (visit_all now n is t).0 is
      unfolding found first_nodes visit_all
      found_is =
          let g : ℕ → List Node = λ i. shown_by x (applied now t i) in
          let js : List ℕ = visited (held now t) n is in
          ap₂ (λ (m : ℕ) (ks : List ℕ). take m (joined (shown l n now t) ks)) given.most given.order
          ∙ ap (take n) (joined_same (shown l n now t) g given.shown is)
          ∙ visited_same g (λ i. shown_by x ((apply_all now js t).0.buckets i)) (held now t) (λ i. sym (length_shown x (applied now t i))) n is
          (all_map (λ (i : ℕ). (apply_all now js t).0.buckets i ≡ applied now t i) (λ (i : ℕ). g i ≡ shown_by x ((apply_all now js t).0.buckets i)) (λ i q. ap (shown_by x) (sym q)) js
          (visited_applied now js t))

      items_are : written (map (item l) (found l n now t)) out ≡ written (map (item_by x) (first_nodes n x (visit_all now n is t).0 is)) out
      items_are = ap₂ (λ (f : Node → Item) (ns : List Node). written (map f ns) out) (fun_ext given.item) found_is

      -- the storage
      storage_is : restore s (applies l n now t) (apply_all now (applies l n now t) t).0 ≡ applied_in s now visit
      unfolding applied_in
      storage_is = ap (λ (ks : List ℕ). restore s ks (apply_all now ks t).0) given.applies

      -- the listing of the shape is the call
      pub listed_is : {a : Answer} {s' out' : List ℕ} → Lists a s' out' (list_outcome x n now out s) → Lists a s' out' (step_bytes c s)
      unfolding step_bytes act list_outcome visit_outcome
      listed_is w =
          split (room_by x n (length out))
          (λ r.
          split (buckets_formed s visit)
          (λ b.
          split (leb (length (visit_all now n is t).0.queue) max_records)
          (λ q.
          let f : first_failed (all_questions c s) ≡ none = asked_last ∙ rw (r, b, queue_is, q) in
          record {
            answer = w.answer ∙ (rw (r, b, q, f, found_is));
            storage = w.storage ∙ (rw (r, b, q, f, storage_is));
            output = w.output ∙ (rw (r, b, q, f) (sym items_are));
          })
          (λ q.
          let f : first_failed (all_questions c s) ≡ some 8 = asked_last ∙ rw (r, b, queue_is, q) in
          record { answer = w.answer ∙ (rw (r, b, q, f)); storage = w.storage ∙ (rw (r, b, q, f)); output = w.output ∙ (rw (r, b, q, f)) }))
          (λ b.
          let f : first_failed (all_questions c s) ≡ some 2 = asked_last ∙ rw (r, b) in
          record { answer = w.answer ∙ (rw (r, b, f)); storage = w.storage ∙ (rw (r, b, f)); output = w.output ∙ (rw (r, b, f)) }))
          (λ r.
          let f : first_failed (all_questions c s) ≡ some 6 = asked_last ∙ rw r in
          record { answer = w.answer ∙ (rw (r, f)); storage = w.storage ∙ (rw (r, f)); output = w.output ∙ (rw (r, f)) })

-- the first questions of the two kinds of listing

pub first_three_lem : (now : ℕ) (s : List ℕ) {o : Option ℕ} → failed_of_three now s ≡ o → first_failed (first_three now s) ≡ o
unfolding failed_of_three
first_three_lem now s e = e

pub first_five_lem : (target : List ℕ) (now : ℕ) (s : List ℕ) {codes codes' : Bool} {o : Option ℕ} → codes ≡ codes' → failed_of_five target codes (some now) s ≡ o
    → first_failed (first_five target codes' (some now) s) ≡ o
unfolding failed_of_five
first_five_lem target now s e f = ap (λ (b : Bool). first_failed (first_five target b (some now) s)) (sym e) ∙ f

-- a storage of another length
module _ (s : List ℕ) (n : length s ≡ storage_size → ⊥) where
  pub three_unsized : (now : ℕ) → first_failed (first_three now s) ≡ some 1
  three_unsized now = rw (ne_eqb (length s) storage_size n)

  pub five_unsized : (target : List ℕ) (codes : Bool) (now : ℕ) → first_failed (first_five target codes (some now) s) ≡ some 1
  five_unsized target codes now = rw (ne_eqb (length s) storage_size n)

pub iter_asked : (n now : ℕ) (out s : List ℕ) → first_failed (all_questions (Call.list Listing.iter n now out) s) ≡ first_failed (first_three now s ++ last_four Listing.iter n now out s)
unfolding keys_fit codes_in_range clock_fits output_fits kind_fits
iter_asked n now out s = refl

pub closest_asked : (f : Form) (target : List ℕ) (n now : ℕ) (out s : List ℕ)
    → first_failed (all_questions (Call.list (closest_listing f target) n now out) s)
    ≡ first_failed (first_five target (form_codes f) (some now) s ++ last_four (closest_listing f target) n now out s)
unfolding keys_fit codes_in_range clock_fits output_fits kind_fits
closest_asked f target n now out s = rw (closest_keys f target, closest_codes f target)
