-- The records that a visit gives, counted on the table as it stands before it.
use mathlib.Core.Path.{◌≡◌, refl, sym, ap, ap₂, ◌∙◌}
use mathlib.Core.Bool.{Bool, true, false, cond, ◌&&◌, ◌||◌}
use mathlib.Core.List.{List, [], ◌∷◌}
use Prim.Native.Nat.{ℕ, ◌+◌, ◌-◌, ◌≤◌, ◌<◌}
use native.Mathlib.Omega.{arith}
use lib.Dec.{eqb}
use lib.ListN.{length, length-append}
use borrow.Author.Tests.{eqb-true, eq-eqb, ne_eqb}
use Rattle.model.specs.Base.{same}
use Rattle.model.specs.Node.{EndedPending}
use Rattle.model.specs.Bucket.{Bucket, apply_pending}
use Rattle.model.specs.Table.{Table, num_buckets}
use Rattle.model.specs.Listing.{applied, apply_all, visited}
use Rattle.model.specs.Layout.{table_of}
use Rattle.model.specs.Formed.{bucket_formed_at, buckets_formed}
use Rattle.model.specs.Fits.{All}
use Rattle.laws.proofs.Tests.{same_true, same_false, split, clash}
use Rattle.laws.proofs.All.{all_any, all_zip}
use Rattle.laws.proofs.Applied.{apply_again}
use Rattle.std.specs.Prelude.{Err}
use Rattle.node.specs.declared.Refusal.{Refusal}
use Rattle.visit.specs.declared.Counted.{Counted}
use Rattle.visit.specs.declared.Tally.{Tally}
use Rattle.visit.specs.Passes.{held, records, records_given, CountedAt, visit_one, visited_by, visit_all, left_of, Once, Visitable, Told, Surveyed}
use Rattle.visit.proofs.Visitable.{once_visited, visited_none, visited_end, visited_next}

agree : (z a b : Bool) (x : ℕ) → (b ≡ true → a ≡ false) → cond (z && b) 0 x ≡ cond ((z || a) && b) 0 x
agree true a b x h = refl
agree false true true x h = clash refl (h refl)
agree false true false x h = refl
agree false false b x h = refl

again : (z a b : Bool) (x : ℕ) → a ≡ true → b ≡ true → 0 ≡ cond ((z || a) && b) 0 x
again true a b x p q = rw q
again false a b x p q = rw (p, q)

module _ (now : ℕ) (f : ℕ → ℕ) where
  -- what bucket i gives now, after bucket 0 was visited or before
  abbrev Gives : Bool → Table → ℕ → Type 0
  Gives z t i = records now t i ≡ cond (z && eqb i 0) 0 (f i)

  next : (z : Bool) (t : Table) (i j : ℕ) → (j ≡ i → i ≡ 0) → Gives z t j → Gives (z || eqb i 0) (visit_one now i t) j
  next z t i j o g =
      split (same j i)
      (λ h.
      let e : j ≡ i = same_true j i h in
      let k : i ≡ 0 = o e in
      ap (λ (c : Bool). length (apply_pending t.settings.bucket now (cond c (applied now t i) (t.buckets j))).1) h
      ∙ ap (λ (r : Bucket × List EndedPending). length r.1) (apply_again t.settings.bucket now (t.buckets i))
      ∙ again z (eqb i 0) (eqb j 0) (f j) (eq-eqb i 0 k) (eq-eqb j 0 (e ∙ k)))
      (λ h.
      ap (λ (c : Bool). length (apply_pending t.settings.bucket now (cond c (applied now t i) (t.buckets j))).1) h ∙ g
      ∙ agree z (eqb i 0) (eqb j 0) (f j) (λ q. ne_eqb i 0 (λ p. same_false j i h (eqb-true j 0 q ∙ sym p))))

  counted : (z : Bool) (is : List ℕ) (t : Table) → Once is → All (Gives z t) is → length (apply_all now is t).1 ≡ records_given f z is
  unfolding records_given
  counted z [] t o g = refl
  counted z (i ∷ is) t o g =
      length-append (apply_pending t.settings.bucket now (t.buckets i)).1 (apply_all now is (visit_one now i t)).1
      ∙ ap₂ (λ (x y : ℕ). x + y) g.0
      (counted (z || eqb i 0) is (visit_one now i t) o.1
      (all_zip (λ (j : ℕ). j ≡ i → i ≡ 0) (Gives z t) (Gives (z || eqb i 0) (visit_one now i t)) (λ j. next z t i j) is o.0 g.1))

-- the survey counts what the visit gives
pub given_is : (now n : ℕ) (is : List ℕ) (t : Table) → Once is
    → records_given (records now t) false (visited (held now t) n is) ≡ length (visit_all now n is t).1
unfolding visit_all
given_is now n is t o =
    let js : List ℕ = visited (held now t) n is in
    sym (counted now (records now t) false js t (once_visited (held now t) n is o) (all_any (Gives now (records now t) false t) js (λ i. refl)))

-- one step of the count
module _ (f size : ℕ → ℕ) (z : Bool) where
  pub given_next : (n i : ℕ) (is : List ℕ) → 0 < n
      → records_given f z (visited size n (i ∷ is)) ≡ cond (z && eqb i 0) 0 (f i) + records_given f (z || eqb i 0) (visited size (n - size i) is)
  unfolding records_given
  given_next n i is h = ap (records_given f z) (visited_next size n i is h)

-- nothing is left to find
pub left_none : (size : ℕ → ℕ) (is : List ℕ) → left_of size 0 is ≡ 0
unfolding left_of
left_none size [] = refl
left_none size (i ∷ is) = let e : 0 - size i ≡ 0 = omega arith in ap (λ (m : ℕ). left_of size m is) e ∙ left_none size is

left_next : (size : ℕ → ℕ) (n i : ℕ) (is : List ℕ) → left_of size (n - size i) is ≡ left_of size n (i ∷ is)
unfolding left_of
left_next size n i is = refl

-- the survey on its way: what it has counted, and the rest, are what the visit gives, and the rest is to be asked
pub record Counting (now n : ℕ) (is : List ℕ) (s : List ℕ) (c : Counted) (rest : List ℕ) : Type 0 where
  pub below : All (λ (i : ℕ). i < num_buckets) rest
  pub short : c.records + length rest ≤ num_buckets + num_buckets
  pub total : c.records + records_given (records now (table_of s)) c.zero (visited (held now (table_of s)) c.left rest) ≡ length (visit_all now n is (table_of s)).1
  pub asks : buckets_formed s (visited (held now (table_of s)) c.left rest) ≡ buckets_formed s (visited_by now n is (table_of s))
  pub within : c.left ≤ n
  pub leaves : left_of (held now (table_of s)) c.left rest ≡ left_of (held now (table_of s)) n is

module _ (now n : ℕ) (is : List ℕ) (s : List ℕ) where
  abbrev t : Table
  t = table_of s

  pub counting_starts : Visitable is → (c : Counted) → c.left ≡ n → c.zero ≡ false → c.records ≡ 0 → Counting now n is s c is
  counting_starts o c p q r =
      record {
        below = o.below;
        short = (let h = o.short in omega arith);
        total = (let e = given_is now n is t o.once in rw (p, q, r) (omega arith));
        asks = ap (λ (m : ℕ). buckets_formed s (visited_by now m is t)) p;
        within = omega arith;
        leaves = ap (λ (m : ℕ). left_of (held now t) m is) p;
      }

  module _ (c : Counted) where
    -- a bucket is asked
    asked_at : (i : ℕ) (rest : List ℕ) → 0 < c.left → Counting now n is s c (i ∷ rest)
        → (bucket_formed_at s i && buckets_formed s (visited (held now t) (c.left - held now t i) rest)) ≡ buckets_formed s (visited_by now n is t)
    asked_at i rest h w = ap (buckets_formed s) (sym (visited_next (held now t) c.left i rest h)) ∙ w.asks

    pub counting_next : (i : ℕ) (rest : List ℕ) (c' : Counted) → 0 < c.left → bucket_formed_at s i ≡ true → CountedAt now t i c c' → Counting now n is s c (i ∷ rest)
        → Counting now n is s c' rest
    counting_next i rest c' h f a w =
        let e = given_next (records now t) (held now t) c.zero c.left i rest h in
        record {
          below = w.below.1;
          short = (let p = w.short in let q = a.one in omega arith);
          total = (let p = w.total in let q = a.records in rw (a.zero, a.left) (omega arith));
          asks =
              ap (λ (m : ℕ). buckets_formed s (visited (held now t) m rest)) a.left
              ∙ ap (λ (b : Bool). b && buckets_formed s (visited (held now t) (c.left - held now t i) rest)) (sym f)
              ∙ asked_at i rest h w;
          within = (let p = w.within in let q = a.left in omega arith);
          leaves = ap (λ (m : ℕ). left_of (held now t) m rest) a.left ∙ left_next (held now t) c.left i rest ∙ w.leaves;
        }

    pub counting_fails : (i : ℕ) (rest : List ℕ) → 0 < c.left → bucket_formed_at s i ≡ false → Counting now n is s c (i ∷ rest)
        → Surveyed now n is s (Err Refusal.Form)
    counting_fails i rest h f w =
        (sym (asked_at i rest h w) ∙ ap (λ (b : Bool). b && buckets_formed s (visited (held now t) (c.left - held now t i) rest)) f, refl)

    counting_done : (rest : List ℕ) (y : Tally) → visited (held now t) c.left rest ≡ [] → left_of (held now t) c.left rest ≡ c.left
        → Counting now n is s c rest → y.records ≡ c.records → y.count ≡ n - c.left → Told now n is s y
    unfolding records_given
    counting_done rest y e l w g k =
        record {
          formed = sym w.asks ∙ ap (buckets_formed s) e;
          records =
              (let p = w.total in
              let q : records_given (records now t) c.zero (visited (held now t) c.left rest) ≡ 0 = ap (records_given (records now t) c.zero) e in
              omega arith);
          count = k ∙ ap (λ (m : ℕ). n - m) (sym l ∙ w.leaves);
        }

    pub counting_ends : (rest : List ℕ) (y : Tally) → rest ≡ [] → Counting now n is s c rest → y.records ≡ c.records → y.count ≡ n - c.left
        → Told now n is s y
    unfolding left_of
    counting_ends rest y e =
        counting_done rest y (ap (visited (held now t) c.left) e ∙ visited_end (held now t) c.left) (ap (left_of (held now t) c.left) e)

    pub counting_full : (rest : List ℕ) (y : Tally) → c.left ≤ 0 → Counting now n is s c rest → y.records ≡ c.records → y.count ≡ n - c.left
        → Told now n is s y
    counting_full rest y h =
        let e : c.left ≡ 0 = omega arith in
        counting_done rest y (ap (λ (m : ℕ). visited (held now t) m rest) e ∙ visited_none (held now t) rest)
        (ap (λ (m : ℕ). left_of (held now t) m rest) e ∙ left_none (held now t) rest ∙ sym e)
