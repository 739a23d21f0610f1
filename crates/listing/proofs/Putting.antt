-- The items of the buckets, written one bucket behind the other.
use mathlib.Core.Path.{◌≡◌, refl, sym, ap, ◌∙◌}
use mathlib.Core.Bool.{true, ◌&&◌}
use mathlib.Core.List.{List, [], ◌∷◌, ◌++◌, append-nil, append_assoc}
use Prim.Native.Nat.{ℕ, ◌+◌, ◌-◌, ◌*◌, ◌≤◌, ◌<◌}
use native.Mathlib.Nat.{add-mul, mul-le-mul_right, zero-add, sub-zero}
use native.Mathlib.Omega.{arith}
use lib.ListN.{length, take, length-append, length-take}
use lib.Seq.{take-nil}
use Rattle.model.specs.Base.{joined}
use Rattle.model.specs.Bytes.{splice}
use Rattle.model.specs.Node.{Node}
use Rattle.model.specs.Table.{Table, num_buckets}
use Rattle.model.specs.Listing.{visited}
use Rattle.model.specs.Layout.{table_of}
use Rattle.model.specs.Formed.{bucket_formed_at, buckets_formed}
use Rattle.model.specs.Fits.{All}
use Rattle.laws.proofs.Tests.{and_left, and_right}
use Rattle.laws.proofs.Join.{take_joined}
use Rattle.laws.proofs.Parts.{splice_nil, length_splice, splice_next}
use Rattle.items.specs.declared.Shape.{Shape}
use Rattle.items.specs.Shape.{items_by, size_by, shown_by}
use Rattle.items.proofs.Items.{length_items, items_append}
use Rattle.visit.proofs.Visitable.{visited_next}
use Rattle.listing.specs.Listed.{count_in, first_nodes, Put}
use Rattle.listing.proofs.Shapes.{length_shown}

-- k nodes are put, and the others come from the buckets that remain
pub record Putting (x : Shape) (s : List ℕ) (n : ℕ) (ns : List Node) (before after : List ℕ) (k : ℕ) (rest : List ℕ) : Type 0 where
  pub put : List Node
  pub count : k ≡ length put
  pub within : k ≤ n
  pub size : length after ≡ length before
  pub output : after ≡ splice before 0 (items_by x put)
  pub total : put ++ take (n - k) (joined (λ i. shown_by x ((table_of s).buckets i)) rest) ≡ ns
  pub below : All (λ (i : ℕ). i < num_buckets) rest
  pub formed : buckets_formed s (visited (count_in (table_of s)) (n - k) rest) ≡ true

module _ (x : Shape) (s : List ℕ) (n : ℕ) where
  abbrev t : Table
  t = table_of s

  abbrev shows : ℕ → List Node
  shows i = shown_by x (t.buckets i)

  pub putting_starts : (is before : List ℕ) → All (λ (i : ℕ). i < num_buckets) is → buckets_formed s (visited (count_in t) n is) ≡ true
      → Putting x s n (first_nodes n x t is) before before 0 is
  unfolding first_nodes joined
  putting_starts is before b f =
      record {
        put = [];
        count = refl;
        within = omega arith;
        size = refl;
        output = sym (splice_nil before 0);
        total = ap (λ (m : ℕ). take m (joined shows is)) (sub-zero n);
        below = b;
        formed = ap (λ (m : ℕ). buckets_formed s (visited (count_in t) m is)) (sub-zero n) ∙ f;
      }

  module _ (ns : List Node) (before after : List ℕ) (k : ℕ) (rest : List ℕ) where
    left_over : (i r : ℕ) → r ≡ k + length (take (n - k) (shows i)) → n - r ≡ n - k - length (shows i)
    left_over i r e = omega (arith, length-take (n - k) (shows i))

    -- the next bucket was asked, and so are those behind it
    formed_here : (i : ℕ) → k < n → Putting x s n ns before after k (i ∷ rest)
        → (bucket_formed_at s i && buckets_formed s (visited (count_in t) (n - k - count_in t i) rest)) ≡ true
    formed_here i l w = ap (buckets_formed s) (sym (visited_next (count_in t) (n - k) i rest (omega arith))) ∙ w.formed

    pub putting_formed : (i : ℕ) → k < n → Putting x s n ns before after k (i ∷ rest) → bucket_formed_at s i ≡ true
    putting_formed i l w = and_left (bucket_formed_at s i) _ (formed_here i l w)

    -- what is written of the others has room behind those that are there
    pub putting_room : (i : ℕ) → n * size_by x ≤ length before → Putting x s n ns before after k (i ∷ rest) → k * size_by x + (n - k) * size_by x ≤ length after
    putting_room i h w = let z = w.within in omega (arith, w.size, h, add-mul k (n - k) (size_by x), mul-le-mul_right (size_by x) z, ap (λ (j : ℕ). j * size_by x) (k_left z))
      where
        k_left : k ≤ n → k + (n - k) ≡ n
        k_left z = omega arith

    pub putting_next : (i r : ℕ) (after' : List ℕ) → n * size_by x ≤ length before → k < n → Putting x s n ns before after k (i ∷ rest)
        → r ≡ k + length (take (n - k) (shows i)) → after' ≡ splice after (k * size_by x) (items_by x (take (n - k) (shows i))) → Putting x s n ns before after' r rest
    putting_next i r after' h j w e f =
        let ms : List Node = take (n - k) (shows i) in
        let m : length ms ≤ n - k = omega (arith, length-take (n - k) (shows i)) in
        let q : r ≤ n = (let v = w.within in omega arith) in
        let a : length (items_by x w.put) ≡ k * size_by x = length_items x w.put ∙ ap (λ (j : ℕ). j * size_by x) (sym w.count) in
        let b : length (items_by x ms) ≡ length ms * size_by x = length_items x ms in
        let u : (k + length ms) * size_by x ≡ k * size_by x + length ms * size_by x = add-mul k (length ms) (size_by x) in
        let v : (k + length ms) * size_by x ≤ n * size_by x = mul-le-mul_right (size_by x) (let z = w.within in omega arith) in
        let l : 0 + k * size_by x + length (items_by x ms) ≤ length before = omega arith in
        let z : after' ≡ splice before 0 (items_by x (w.put ++ ms)) = (
        f ∙ ap (λ (o : List ℕ). splice o (k * size_by x) (items_by x ms)) w.output
        ∙ ap (λ (j : ℕ). splice (splice before 0 (items_by x w.put)) j (items_by x ms)) (sym (zero-add (k * size_by x)))
        ∙ splice_next before 0 (k * size_by x) (items_by x w.put) (items_by x ms) a l
        ∙ ap (splice before 0) (sym (items_append x w.put ms))
        ) in
        record {
          put = w.put ++ ms;
          count = e ∙ ap (λ (j : ℕ). j + length ms) w.count ∙ sym (length-append w.put ms);
          within = q;
          size = ap length z ∙ length_splice before 0 (items_by x (w.put ++ ms)) (omega (arith, ap length (items_append x w.put ms), length-append (items_by x w.put) (items_by x ms)));
          output = z;
          total =
              append_assoc w.put ms (take (n - r) (joined shows rest))
              ∙ ap (λ (j : ℕ). w.put ++ (ms ++ take j (joined shows rest))) (left_over i r e)
              ∙ ap (λ (l : List Node). w.put ++ l) (sym (take_joined shows (n - k) i rest))
              ∙ w.total;
          below = w.below.1;
          formed =
              ap (λ (m : ℕ). buckets_formed s (visited (count_in t) m rest)) (left_over i r e ∙ ap (λ (m : ℕ). n - k - m) (length_shown x (t.buckets i)))
              ∙ and_right (bucket_formed_at s i) _ (formed_here i j w);
        }

    ended : (r : ℕ) → r ≡ k → take (n - k) (joined shows rest) ≡ [] → Putting x s n ns before after k rest → Put x ns r before after
    ended r e g w =
        let p : w.put ≡ ns = sym (append-nil w.put) ∙ ap (λ (l : List Node). w.put ++ l) (sym g) ∙ w.total in
        record { count = e ∙ w.count ∙ ap length p; output = w.output ∙ ap (λ (l : List Node). splice before 0 (items_by x l)) p }

    pub putting_ends : (r : ℕ) → r ≡ k → rest ≡ [] → Putting x s n ns before after k rest → Put x ns r before after
    unfolding joined
    putting_ends r e g = ended r e (ap (λ (l : List ℕ). take (n - k) (joined shows l)) g ∙ take-nil (n - k))

    pub putting_full : (r : ℕ) → r ≡ k → n ≤ k → Putting x s n ns before after k rest → Put x ns r before after
    putting_full r e g = let z : n - k ≡ 0 = omega arith in ended r e (ap (λ (j : ℕ). take j (joined shows rest)) z)
