-- The buckets that the distances name, and what a bucket gives that was named before.
use mathlib.Core.Path.{◌≡◌, refl, sym, ap, ◌∙◌, subst}
use mathlib.Core.Bool.{Bool, true, false, cond, not, ◌&&◌, ◌||◌}
use mathlib.Core.List.{List, [], ◌∷◌, ◌++◌}
use mathlib.Core.Option.{Option, none, some}
use Rattle.std.specs.List.{list_any}
use Prim.Native.Nat.{ℕ, ◌+◌, ◌-◌, ◌≤◌, ◌<◌}
use native.Mathlib.Numerals.{add-one}
use native.Mathlib.Omega.{arith}
use lib.Dec.{eqb}
use lib.ListN.{length, get_or, take}
use lib.Seq.{take-suc}
use borrow.Author.Tests.{eqb-true, eqb-false, le-leb, lt-leb}
use Rattle.model.specs.Base.{same, every, joined}
use Rattle.model.specs.Bytes.{Bytes}
use Rattle.model.specs.Layout.{table_of}
use Rattle.model.specs.Node.{EndedPending, placed_of}
use Rattle.model.specs.Bucket.{Bucket, num_entries, apply_pending}
use Rattle.model.specs.Table.{Table}
use Rattle.model.specs.Listing.{apply_all, applied, index_at, indices, buckets_at}
use Rattle.laws.proofs.Tests.{same_self, same_not, split}
use Rattle.laws.proofs.Lists.{joined_append, every_append}
use Rattle.laws.proofs.Frame.{apply_all_settings}
use Rattle.laws.proofs.Touched.{distance_of}
use Rattle.laws.proofs.Keep.{apply_pending_well_formed}
use Rattle.laws.proofs.TableBytes.{well_formed_at}
use Rattle.laws.proofs.Applied.{apply_again, apply_all_buckets, apply_all_append}
use Rattle.on_key.specs.Answers.{Ready}
use Rattle.visit.specs.declared.Given.{Given}
use Rattle.visit.specs.Passes.{GivenAt}
use Rattle.distances.specs.Passes.{records_at, yields, held_at, Yields, next_table, table_after}

-- the index of a distance

module _ (d : ℕ) where
  pub index_zero : d ≡ 0 → index_at d ≡ none
  unfolding index_at
  index_zero e = rw e

  pub index_past : 256 < d → index_at d ≡ none
  unfolding index_at
  index_past h = rw (le-leb 1 d (omega arith), lt-leb d 256 h)

  pub index_in : 1 ≤ d → d ≤ 256 → index_at d ≡ some (d - 1)
  unfolding index_at
  index_in n h = rw (le-leb 1 d n, le-leb d 256 h)

-- what a bucket gives

none_placed : (rs : List EndedPending) → length rs ≡ 0 → length (placed_of rs) ≡ 0
none_placed [] e = refl
none_placed (r ∷ rs) e = absurd (never e)
  where
    never : length (r ∷ rs) ≡ 0 → ⊥
    never z = omega arith

pub held_none : (now : ℕ) (t : Table) (o : Option ℕ) → yields now t o ≡ false → held_at now t o ≡ 0
held_none now t none e = refl
held_none now t (some i) e = rw e

module _ (s : List ℕ) (now i : ℕ) (h : Bytes s) (r : Ready s i) {g : Given} (y : GivenAt now (table_of s) i g) where
  pub gives_nothing : g.placed ≡ false → {z : Given} → z.records ≡ g.records → z.placed ≡ false → z.count ≡ 0 → Yields now (table_of s) (some i) z
  gives_nothing e {z} a b c =
      let n : yields now (table_of s) (some i) ≡ false = sym y.placed ∙ e in
      record { records = a ∙ y.records; placed = b ∙ sym n; held = c ∙ sym (held_none now (table_of s) (some i) n); one = omega (arith, y.one); few = omega arith }

  pub gives_record : g.placed ≡ true → Yields now (table_of s) (some i) g
  gives_record n =
      let t : Table = table_of s in
      let w = (apply_pending_well_formed t.settings i now (t.buckets i) (well_formed_at s h r.size i r.below r.bucket)).formed in
      record {
        records = y.records;
        placed = y.placed;
        held = y.count ∙ ap (λ (b : Bool). cond b (num_entries (applied now t i)) 0) (sym n ∙ y.placed);
        one = y.one;
        few = omega (arith, y.count, w.at_most);
      }

pub yields_by : {now : ℕ} {t : Table} {o o' : Option ℕ} {g : Given} → o ≡ o' → Yields now t o' g → Yields now t o g
yields_by e y = rw e y

pub yields_none : (now : ℕ) (t : Table) (d : ℕ) (g : Given) → g.records ≡ 0 → g.placed ≡ false → g.count ≡ 0 → index_at d ≡ none → Yields now t (index_at d) g
yields_none now t d g a p b e = yields_by e (record { records = a; placed = p; held = b; one = omega arith; few = omega arith })

-- a bucket is named before where its distance stands before

module _ (d i : ℕ) (e : index_at d ≡ some i) where
  abbrev other : ℕ → Bool
  other j = not (same i j)

  named_one : (x : ℕ) → every other (indices (index_at x)) ≡ not (eqb x d)
  named_one x =
      split (eqb x d)
      (λ t. ap (λ (o : Option ℕ). every other (indices o)) (ap index_at (eqb-true x d t) ∙ e) ∙ rw (same_self i, t))
      (λ t. by (index_at x) refl (eqb-false x d t) ∙ sym (ap not t))
    where
      by : (o : Option ℕ) → index_at x ≡ o → (x ≡ d → ⊥) → every other (indices o) ≡ true
      by none f n = refl
      by (some j) f n =
          let p = distance_of x j f in
          let q = distance_of d i e in
          rw (same_not i j (λ (g : i ≡ j). n (omega (arith, p.more, q.more))))

  named_before : (ds : List ℕ) → every other (buckets_at ds) ≡ not (list_any (λ (y : ℕ). eqb y d) ds)
  unfolding joined
  named_before [] = refl
  named_before (x ∷ ds) =
      every_append other (indices (index_at x)) (buckets_at ds) ∙ rw (named_one x, named_before ds) (both (eqb x d) (list_any (λ (y : ℕ). eqb y d) ds))
    where
      both : (a b : Bool) → (not a && not b) ≡ not (a || b)
      both true b = refl
      both false b = refl

-- what the table is, once the buckets at some distances have been visited

module _ (now : ℕ) (ds : List ℕ) (t : Table) where
  pub table_next : (p : ℕ) → p < length ds → table_after now (take (p + 1) ds) t ≡ next_table now (table_after now (take p ds) t) (index_at (get_or ds p 0))
  unfolding table_after joined
  table_next p h =
      let d : ℕ = get_or ds p 0 in
      let q : take (p + 1) ds ≡ take p ds ++ (d ∷ []) = ap (λ (k : ℕ). take k ds) (add-one p) ∙ take-suc ds p 0 h in
      ap (λ (l : List ℕ). (apply_all now (buckets_at l) t).0) q
      ∙ ap (λ (is : List ℕ). (apply_all now is t).0) (joined_append (λ (x : ℕ). indices (index_at x)) (take p ds) (d ∷ []))
      ∙ apply_all_append now (buckets_at (take p ds)) (buckets_at (d ∷ [])) t
      ∙ by (index_at d)
    where
      by : (o : Option ℕ) → (apply_all now (indices o ++ []) (table_after now (take p ds) t)).0 ≡ next_table now (table_after now (take p ds) t) o
      by none = refl
      by (some i) = refl

  -- bucket i, at the distance d
  module _ (d i : ℕ) (e : index_at d ≡ some i) where
    abbrev u : Table
    u = table_after now ds t

    -- the distance stands among them
    abbrev before : Bool
    before = list_any (λ (y : ℕ). eqb y d) ds

    abbrev given : Table → Bucket × List EndedPending
    given x = apply_pending x.settings.bucket now (x.buckets i)

    bucket_is : u.buckets i ≡ cond (not before) (t.buckets i) (applied now t i)
    unfolding table_after
    bucket_is = apply_all_buckets now (buckets_at ds) t i ∙ ap (λ (b : Bool). cond b (t.buckets i) (applied now t i)) (named_before d i e ds)

    settings_is : u.settings ≡ t.settings
    unfolding table_after
    settings_is = apply_all_settings now (buckets_at ds) t

    given_first : before ≡ false → given u ≡ given t
    given_first f = rw (settings_is, bucket_is, f)

    given_again : before ≡ true → given u ≡ (applied now t i, [])
    given_again f = rw (settings_is, bucket_is, f) (apply_again t.settings.bucket now (t.buckets i))

    -- what the bucket gives, where applying gives a
    abbrev Gives : Given → Bucket × List EndedPending → Type 0
    Gives g a = (g.records ≡ length a.1) × ((g.placed ≡ not (eqb (length (placed_of a.1)) 0)) × (g.count ≡ cond (not (eqb (length (placed_of a.1)) 0)) (num_entries a.0) 0))

    pub yields_first : {g : Given} → Yields now t (some i) g → before ≡ false → Yields now u (some i) g
    yields_first {g} y f =
        let m : Gives g (given u) = subst (Gives g) (sym (given_first f)) (y.records, (y.placed, y.held)) in
        record { records = m.0; placed = m.1.0; held = m.1.1; one = y.one; few = y.few }

    pub yields_again : (g : Given) → g.records ≡ 0 → g.placed ≡ false → g.count ≡ 0 → before ≡ true → Yields now u (some i) g
    yields_again g r q c f =
        let m : Gives g (given u) = subst (Gives g) (sym (given_again f)) (r, (q, c)) in
        record { records = m.0; placed = m.1.0; held = m.1.1; one = omega arith; few = omega arith }

    pub yields_nothing : {g : Given} → Yields now t (some i) g → g.records ≡ 0 → Yields now u (some i) g
    yields_nothing {g} y r =
        split (before)
        (λ f.
        let z : yields now t (some i) ≡ false = ap (λ (k : ℕ). not (eqb k 0)) (none_placed (records_at now t (some i)) (sym y.records ∙ r)) in
        yields_again g r (y.placed ∙ z) (y.held ∙ held_none now t (some i) z) f)
        (λ f. yields_first y f)
