-- The survey and the applying pass, distance by distance.
use mathlib.Core.Path.{◌≡◌, refl, sym, ap, ◌∙◌, subst}
use mathlib.Core.Bool.{Bool, true, false, cond, ◌&&◌}
use mathlib.Core.List.{List, [], ◌∷◌, ◌++◌, append-nil, append_assoc}
use mathlib.Core.Option.{Option, none, some}
use Prim.Native.Nat.{ℕ, suc, ◌+◌, ◌≤◌, ◌<◌}
use native.Mathlib.Nat.{add-zero}
use native.Mathlib.Numerals.{add-one}
use native.Mathlib.Omega.{arith}
use lib.Dec.{leb}
use lib.ListN.{length, get_or, take, drop, length-append, length-take}
use lib.Seq.{drop-cons, drop-length, take-suc, take-length}
use borrow.Author.Tests.{leb-false}
use Rattle.model.specs.Base.{joined}
use Rattle.model.specs.Bytes.{Bytes}
use Rattle.model.specs.Node.{EndedPending}
use Rattle.model.specs.Table.{Table, max_records}
use Rattle.model.specs.Listing.{apply_all, applied_pass, index_at, indices, buckets_at}
use Rattle.model.specs.Sizes.{storage_size}
use Rattle.model.specs.Layout.{table_of}
use Rattle.model.specs.Formed.{header_formed, bucket_formed_at, buckets_formed}
use Rattle.laws.proofs.Tests.{split, and_none}
use Rattle.laws.proofs.Lists.{joined_append, every_append}
use Rattle.laws.proofs.Touched.{distance_of, distances_below}
use Rattle.on_key.specs.Answers.{Ready}
use Rattle.visit.specs.declared.Given.{Given}
use Rattle.visit.specs.Passes.{visit_one}
use Rattle.visit.proofs.Applying.{Appliable}
use Rattle.distances.specs.declared.pass.Tally.{Tally}
use Rattle.distances.specs.Passes.{records_at, yields, held_at, Yields, next_table, table_after, distance_pass, passed, Taken, Told}
use Rattle.distances.proofs.Named.{held_none, table_next}

-- one distance further

module _ (now n seen d : ℕ) (ds : List ℕ) (t : Table) where
  -- the pass stops at a bucket
  abbrev stops : Option ℕ → Bool
  stops o = yields now t o && leb n (seen + held_at now t o)

  abbrev rest : Option ℕ → Table × List EndedPending
  rest o = distance_pass now n (seen + held_at now t o) ds (next_table now t o)

  pass_next : distance_pass now n seen (d ∷ ds) t
      ≡ cond (stops (index_at d)) (next_table now t (index_at d), records_at now t (index_at d) ++ []) ((rest (index_at d)).0, records_at now t (index_at d) ++ (rest (index_at d)).1)
  unfolding distance_pass joined
  pass_next = by (index_at d)
    where
      by : (o : Option ℕ) → apply_all now (applied_pass now n seen (indices o ++ buckets_at ds) t) t
          ≡ cond (stops o) (next_table now t o, records_at now t o ++ []) ((rest o).0, records_at now t o ++ (rest o).1)
      by none = ap (λ (m : ℕ). apply_all now (applied_pass now n m (buckets_at ds) t) t) (sym (add-zero seen))
      by (some i) = go (stops (some i))
        where
          go : (c : Bool) → apply_all now (i ∷ cond c [] (applied_pass now n (seen + held_at now t (some i)) (buckets_at ds) (visit_one now i t))) t
              ≡ cond c (visit_one now i t, records_at now t (some i) ++ []) ((rest (some i)).0, records_at now t (some i) ++ (rest (some i)).1)
          go true = refl
          go false = refl

  pub pass_stops : stops (index_at d) ≡ true → distance_pass now n seen (d ∷ ds) t ≡ (next_table now t (index_at d), records_at now t (index_at d) ++ [])
  pass_stops e = pass_next ∙ rw e

  pub pass_goes : stops (index_at d) ≡ false → distance_pass now n seen (d ∷ ds) t ≡ ((rest (index_at d)).0, records_at now t (index_at d) ++ (rest (index_at d)).1)
  pass_goes e = pass_next ∙ rw e

  -- its buckets
  pub list_next : applied_pass now n seen (buckets_at (d ∷ ds)) t
      ≡ indices (index_at d) ++ cond (stops (index_at d)) [] (applied_pass now n (seen + held_at now t (index_at d)) (buckets_at ds) (next_table now t (index_at d)))
  unfolding joined
  list_next = by (index_at d)
    where
      by : (o : Option ℕ) → applied_pass now n seen (indices o ++ buckets_at ds) t
          ≡ indices o ++ cond (stops o) [] (applied_pass now n (seen + held_at now t o) (buckets_at ds) (next_table now t o))
      by none = ap (λ (m : ℕ). applied_pass now n m (buckets_at ds) t) (sym (add-zero seen))
      by (some i) = refl

-- the code's test is the pass's
test_is : (now n seen : ℕ) (t : Table) (o : Option ℕ) {g : Given} (b : Bool) → Yields now t o g → (g.placed && leb n (seen + g.count)) ≡ b
    → (yields now t o && leb n (seen + held_at now t o)) ≡ b
test_is now n seen t o b y e = ap (λ (p : Bool). p && leb n (seen + held_at now t o)) (sym y.placed) ∙ rw (← y.held) e

-- what is counted so far stays low
low_next : (now n seen : ℕ) (t : Table) (o : Option ℕ) {g : Given} → Yields now t o g → n ≤ 4096 → seen ≤ 4096 → (g.placed && leb n (seen + g.count)) ≡ false
    → seen + g.count ≤ 4096
low_next now n seen t o {g} y m l e =
    split g.placed
    (λ f. let z : seen + g.count < n = leb-false n (seen + g.count) (rw f at e) in omega arith)
    (λ f. let z : g.count ≡ 0 = y.held ∙ held_none now t o (sym y.placed ∙ f) in omega arith)

-- the buckets of one distance more
named_next : (ds : List ℕ) (p : ℕ) → p < length ds → buckets_at (take (p + 1) ds) ≡ buckets_at (take p ds) ++ indices (index_at (get_or ds p 0))
unfolding joined
named_next ds p h =
    let d : ℕ = get_or ds p 0 in
    ap buckets_at (ap (λ (k : ℕ). take k ds) (add-one p) ∙ take-suc ds p 0 h)
    ∙ joined_append (λ (x : ℕ). indices (index_at x)) (take p ds) (d ∷ [])
    ∙ ap (λ (is : List ℕ). buckets_at (take p ds) ++ is) (append-nil (indices (index_at d)))

-- the first distances are as many as were asked for
length_first : (k : ℕ) (ds : List ℕ) → k ≤ length ds → length (take k ds) ≡ k
length_first k ds h = simp length-take (omega arith)

-- the survey: so many records so far, the buckets asked so far, and the rest of the pass
pub record Counting (now n : ℕ) (ds s : List ℕ) (records seen p : ℕ) : Type 0 where
  pub within : p ≤ length ds
  pub few : records ≤ p
  pub low : seen ≤ 4096
  pub total : records + length (distance_pass now n seen (drop p ds) (table_after now (take p ds) (table_of s))).1 ≡ length (distance_pass now n 0 ds (table_of s)).1
  pub all : passed now n ds (table_of s) ≡ buckets_at (take p ds) ++ applied_pass now n seen (buckets_at (drop p ds)) (table_after now (take p ds) (table_of s))
  pub asked : buckets_formed s (buckets_at (take p ds)) ≡ true

module _ (now n : ℕ) (ds s : List ℕ) where
  abbrev t : Table
  t = table_of s

  pub counting_starts : Counting now n ds s 0 0 0
  unfolding joined table_after
  counting_starts = record { within = omega arith; few = omega arith; low = omega arith; total = omega arith; all = refl; asked = refl }

  -- the pass is at its end
  told : {taken : List ℕ} {y : Tally} → y.taken.now ≡ taken → Taken now n ds t taken y.records → buckets_formed s (buckets_at taken) ≡ true → Told now n ds s y
  told {taken} {y} e k f = record { formed = sym (ap (buckets_formed s) k.buckets) ∙ f; pass = subst (λ (l : List ℕ). Taken now n ds t l y.records) (sym e) k }

  module _ {records seen p : ℕ} (w : Counting now n ds s records seen p) where
    pub counting_ends : p ≡ length ds → {y : Tally} → y.records ≡ records → y.taken.now ≡ ds → Told now n ds s y
    unfolding distance_pass joined
    counting_ends e q l =
        let f : drop p ds ≡ [] = ap (λ (k : ℕ). drop k ds) e ∙ drop-length ds in
        let g : length (distance_pass now n seen (drop p ds) (table_after now (take p ds) t)).1 ≡ 0 =
        ap (λ (l : List ℕ). length (distance_pass now n seen l (table_after now (take p ds) t)).1) f in
        told (l ∙ sym (ap (λ (k : ℕ). take k ds) e ∙ take-length ds))
        (record {
          within = omega (arith, length_first p ds w.within);
          first = ap (λ (k : ℕ). take k ds) (sym (length_first p ds w.within));
          buckets =
              sym (append-nil (buckets_at (take p ds)))
              ∙ ap (λ (l : List ℕ). buckets_at (take p ds) ++ applied_pass now n seen (buckets_at l) (table_after now (take p ds) t)) (sym f) ∙ sym w.all;
          given = omega (arith, w.total, q);
        })
        w.asked

    module _ (h : p < length ds) where
      abbrev d : ℕ
      d = get_or ds p 0

      abbrev o : Option ℕ
      o = index_at d

      abbrev u : Table
      u = table_after now (take p ds) t

      -- the buckets behind, with this one
      abbrev behind : List ℕ
      behind =
          cond (yields now u o && leb n (seen + held_at now u o)) [] (applied_pass now n (seen + held_at now u o) (buckets_at (drop (suc p) ds)) (next_table now u o))

      all_here : passed now n ds t ≡ buckets_at (take p ds) ++ (indices o ++ behind)
      all_here =
          w.all
          ∙ ap (λ (l : List ℕ). buckets_at (take p ds) ++ applied_pass now n seen (buckets_at l) u) (drop-cons ds p 0 h)
          ∙ ap (λ (is : List ℕ). buckets_at (take p ds) ++ is) (list_next now n seen d (drop (suc p) ds) u)

      all_then : passed now n ds t ≡ buckets_at (take (p + 1) ds) ++ behind
      all_then = all_here ∙ sym (append_assoc (buckets_at (take p ds)) (indices o) behind) ∙ ap (λ (is : List ℕ). is ++ behind) (sym (named_next ds p h))

      pub counting_fails : buckets_formed s (indices o) ≡ false → buckets_formed s (passed now n ds t) ≡ false
      counting_fails e =
          ap (buckets_formed s) all_here ∙ every_append (bucket_formed_at s) (buckets_at (take p ds)) (indices o ++ behind)
          ∙ and_none (buckets_formed s (buckets_at (take p ds))) (buckets_formed s (indices o ++ behind))
          (every_append (bucket_formed_at s) (indices o) behind ∙ ap (λ (b : Bool). b && buckets_formed s behind) e)

      module _ (f : buckets_formed s (indices o) ≡ true) {g : Given} (y : Yields now u o g) where
        asked_then : buckets_formed s (buckets_at (take (p + 1) ds)) ≡ true
        asked_then = ap (buckets_formed s) (named_next ds p h) ∙ every_append (bucket_formed_at s) (buckets_at (take p ds)) (indices o) ∙ rw (w.asked, f)

        there : length (distance_pass now n seen (drop p ds) u).1 ≡ length (distance_pass now n seen (d ∷ drop (suc p) ds) u).1
        there = ap (λ (l : List ℕ). length (distance_pass now n seen l u).1) (drop-cons ds p 0 h)

        pub counting_stops : (g.placed && leb n (seen + g.count)) ≡ true → {r : Tally} → r.records ≡ records + g.records → r.taken.now ≡ take (p + 1) ds → Told now n ds s r
        counting_stops e k l =
            let z = test_is now n seen u o true y e in
            let q = ap (λ (x : Table × List EndedPending). length x.1) (pass_stops now n seen d (drop (suc p) ds) u z) in
            let v = ap length (append-nil (records_at now u o)) in
            told l
            (record {
              within = omega (arith, length_first (p + 1) ds (omega arith));
              first = ap (λ (k : ℕ). take k ds) (sym (length_first (p + 1) ds (omega arith)));
              buckets = sym (all_then ∙ ap (λ (b : Bool). buckets_at (take (p + 1) ds) ++ cond b [] (applied_pass now n (seen + held_at now u o) (buckets_at (drop (suc p) ds)) (next_table now u o))) z ∙ append-nil (buckets_at (take (p + 1) ds)));
              given = omega (arith, w.total, there, y.records, k);
            })
            asked_then

        pub counting_goes : n ≤ 4096 → (g.placed && leb n (seen + g.count)) ≡ false → Counting now n ds s (records + g.records) (seen + g.count) (p + 1)
        counting_goes m e =
            let z = test_is now n seen u o false y e in
            let q = ap (λ (r : Table × List EndedPending). length r.1) (pass_goes now n seen d (drop (suc p) ds) u z) in
            let a = length-append (records_at now u o) (distance_pass now n (seen + held_at now u o) (drop (suc p) ds) (next_table now u o)).1 in
            record {
              within = omega arith;
              few = omega (arith, w.few, y.one);
              low = low_next now n seen u o y m w.low e;
              total =
                  let r : length (distance_pass now n (seen + g.count) (drop (p + 1) ds) (table_after now (take (p + 1) ds) t)).1
                  ≡ length (distance_pass now n (seen + held_at now u o) (drop (suc p) ds) (next_table now u o)).1 =
                  rw (table_next now ds t p h, add-one, y.held) in
                  omega (arith, w.total, there, y.records);
              all =
                  all_then
                  ∙ ap (λ (b : Bool). buckets_at (take (p + 1) ds) ++ cond b [] (applied_pass now n (seen + held_at now u o) (buckets_at (drop (suc p) ds)) (next_table now u o))) z
                  ∙ ap (λ (is : List ℕ). buckets_at (take (p + 1) ds) ++ is)
                  (let r : applied_pass now n (seen + held_at now u o) (buckets_at (drop (suc p) ds)) (next_table now u o)
                  ≡ applied_pass now n (seen + g.count) (buckets_at (drop (p + 1) ds)) (table_after now (take (p + 1) ds) t) =
                  rw (table_next now ds t p h, add-one, y.held) in r);
              asked = asked_then;
            }

-- storage whose settings and queue pass question 2
pub record Holds (s : List ℕ) : Type 0 where
  pub size : length s ≡ storage_size
  pub header : header_formed s ≡ true

-- the bucket at a distance

pub ready_of : (s : List ℕ) (d i : ℕ) → Holds s → index_at d ≡ some i → bucket_formed_at s i ≡ true → Ready s i
ready_of s d i h e f = record { size = h.size; header = h.header; below = (distance_of d i e).below; bucket = f }

pub asked_none : (s : List ℕ) {o : Option ℕ} → o ≡ none → buckets_formed s (indices o) ≡ true
asked_none s e = ap (λ (o : Option ℕ). buckets_formed s (indices o)) e

pub asked_some : (s : List ℕ) {o : Option ℕ} {i : ℕ} {b : Bool} → o ≡ some i → bucket_formed_at s i ≡ b → buckets_formed s (indices o) ≡ b
asked_some s {i = i} e f = ap (λ (o : Option ℕ). buckets_formed s (indices o)) e ∙ one (bucket_formed_at s i) ∙ f
  where
    one : (b : Bool) → (b && true) ≡ b
    one true = refl
    one false = refl

-- the applying pass

pub pass_appliable : (s₀ : List ℕ) (now : ℕ) (ds : List ℕ) → Bytes s₀ → Holds s₀ → buckets_formed s₀ (buckets_at ds) ≡ true
    → length (table_after now ds (table_of s₀)).queue ≤ max_records → Appliable s₀ now (buckets_at ds)
unfolding table_after
pass_appliable s₀ now ds h f b q = record { bytes = h; size = f.size; header = f.header; below = distances_below ds; formed = b; room = q }
