-- The closest list: an accepted closest call, on any storage that is well formed throughout (02, slip 7), lists the first n of all held
-- nodes, nearest first (01, "What the log says", fourth paragraph).
use mathlib.Core.Path.{◌≡◌, refl, ap, ◌∙◌}
use mathlib.Core.Bool.{true, false}
use mathlib.Core.List.{List, [], ◌∷◌, map}
use mathlib.Core.Option.{Option, none, some, some-injective}
use Prim.Native.Nat.{ℕ, ◌^◌, ◌<◌}
use native.Mathlib.Omega.{arith}
use lib.ListN.{length, take}
use Rattle.model.specs.Base.{joined}
use Rattle.model.specs.Bytes.{Bytes, number}
use Rattle.model.specs.Key.{distance}
use Rattle.model.specs.Node.{Node}
use Rattle.model.specs.Bucket.{nodes}
use Rattle.model.specs.Table.{Table, Answer, num_buckets}
use Rattle.model.specs.Sizes.{key_size, storage_size}
use Rattle.model.specs.Sort.{sort_by}
use Rattle.model.specs.Visit.{visits}
use Rattle.model.specs.Call.{Listing, Call}
use Rattle.model.specs.Listing.{item, applied, by_distance, found, distance_to}
use Rattle.model.specs.Question.{first_failed}
use Rattle.model.specs.Step.{act}
use Rattle.model.specs.Layout.{table_of}
use Rattle.model.specs.Formed.{formed}
use Rattle.model.specs.StepBytes.{all_questions, unless_refused_bytes, written, step_bytes}
use Rattle.model.specs.Fits.{WellFormed, FitsNode, FitsDeadline, FitsBucket, Fits}
use Rattle.laws.proofs.Questions.{accepted_bytes}
use Rattle.laws.proofs.KeepEach.{apply_pending_each}
use Rattle.laws.proofs.Keep.{apply_pending_well_formed}
use Rattle.laws.proofs.TableBytes.{fits_back}
use Rattle.laws.proofs.Tests.{clash}
use Rattle.laws.proofs.Sort.{Strict, sort_strict, sort_tally}
use Rattle.table_log.specs.Log.{is_refused}
use Rattle.table_log.specs.Closest.{all_held, closest_nodes, target, Ascending, ClosestClaim}
use Rattle.laws.proofs.Nearest.{visits_nearest, held_different, different_apart}
use Rattle.laws.proofs.All.{all_map}

-- ---- on a table whose buckets, once their due pendings are applied, are well formed

pub closest_list : (t : Table) (x : List ℕ) (now : ℕ) → t.settings.local_key < 256 ^ key_size
    → ((i : ℕ) → WellFormed t.settings i (applied now t i)) → ((i : ℕ) → FitsBucket (applied now t i))
    → (n : ℕ) → take n (joined (λ i. by_distance x (applied now t i)) (visits (distance t.settings.local_key (number x))))
    ≡ closest_nodes x n now t
closest_list t x now l w f n =
    ap (take n)
    (visits_nearest t.settings.local_key (number x) (applied now t) l
    (λ i. all_map FitsNode (λ (m : Node). m.key < 2 ^ 256) (λ m h. h.key) (nodes (applied now t i)) (f i).held)
    (λ i. (w i).of_the_index.held) (w 0).formed.different)

-- the three closest calls list alike
pub found_closest : (l : Listing) (x : List ℕ) → target l ≡ some x → (n now : ℕ) (t : Table)
    → found l n now t ≡ take n (joined (λ i. by_distance x (applied now t i)) (visits (distance t.settings.local_key (number x))))
unfolding found
found_closest Listing.iter x e n now t = let z : ◌≡◌ {A = ℕ} 0 1 = cc in absurd (omega arith)
found_closest (Listing.nodes_by_distances ds) x e n now t = let z : ◌≡◌ {A = ℕ} 0 1 = cc in absurd (omega arith)
found_closest (Listing.closest_keys y) x e n now t =
    ap (λ (k : List ℕ). take n (joined (λ i. by_distance k (applied now t i)) (visits (distance t.settings.local_key (number k)))))
    (some-injective y x e)
found_closest (Listing.closest_values y) x e n now t =
    ap (λ (k : List ℕ). take n (joined (λ i. by_distance k (applied now t i)) (visits (distance t.settings.local_key (number k)))))
    (some-injective y x e)
found_closest (Listing.closest_values_predicate y p) x e n now t =
    ap (λ (k : List ℕ). take n (joined (λ i. by_distance k (applied now t i)) (visits (distance t.settings.local_key (number k)))))
    (some-injective y x e)

-- ---- a call that is accepted

-- every question was answered yes
pub accepted : (c : Call) (s : List ℕ) → is_refused (step_bytes c s).answer ≡ false → first_failed (all_questions c s) ≡ none
unfolding step_bytes
accepted c s e = go (first_failed (all_questions c s)) e
  where
    go : (o : Option ℕ) → is_refused (unless_refused_bytes o c s).answer ≡ false → o ≡ none
    go none h = refl
    go (some q) h = clash refl h

-- question 1 of a listing
pub accepted_size : (l : Listing) (n now : ℕ) (out s : List ℕ) → is_refused (step_bytes (Call.list l n now out) s).answer ≡ false → length s ≡ storage_size
accepted_size l n now out s e = (accepted_bytes (Call.list l n now out) s (accepted (Call.list l n now out) s e)).size

-- what an accepted listing answers and writes
pub accepted_answer : (l : Listing) (n now : ℕ) (out s : List ℕ) → is_refused (step_bytes (Call.list l n now out) s).answer ≡ false
    → (step_bytes (Call.list l n now out) s).answer ≡ Answer.Found (length (found l n now (table_of s)))
unfolding step_bytes act
accepted_answer l n now out s e = ap (λ (o : Option ℕ). (unless_refused_bytes o (Call.list l n now out) s).answer) (accepted (Call.list l n now out) s e)

pub accepted_output : (l : Listing) (n now : ℕ) (out s : List ℕ) → is_refused (step_bytes (Call.list l n now out) s).answer ≡ false
    → (step_bytes (Call.list l n now out) s).output ≡ written (map (item l) (found l n now (table_of s))) out
unfolding step_bytes act
accepted_output l n now out s e = ap (λ (o : Option ℕ). (unless_refused_bytes o (Call.list l n now out) s).output) (accepted (Call.list l n now out) s e)

-- ---- the claim

ascending : (f : Node → ℕ) (ns : List Node) → Strict f ns → Ascending f ns
ascending f [] p = tt
ascending f (n ∷ []) p = tt
ascending f (n ∷ m ∷ ns) p = (p.0.0, ascending f (m ∷ ns) p.1)

pub closest : (l : Listing) (x : List ℕ) (n now : ℕ) (out s : List ℕ) → target l ≡ some x → Bytes s → formed s ≡ true
    → is_refused (step_bytes (Call.list l n now out) s).answer ≡ false → ClosestClaim l x n now out s
closest l x n now out s e b g h =
    let t : Table = table_of s in
    let f : Fits t = fits_back s b (accepted_size l n now out s h) g in
    let w : (i : ℕ) → WellFormed t.settings i (applied now t i) = λ i. apply_pending_well_formed t.settings i now (t.buckets i) (f.well_formed i) in
    let list : found l n now t ≡ closest_nodes x n now t =
    found_closest l x e n now t ∙ closest_list t x now f.settings.local_key w
    (λ i. apply_pending_each FitsNode FitsDeadline t.settings.bucket now (t.buckets i) (f.buckets i)) n
    in
    record {
      answer = accepted_answer l n now out s h ∙ ap (λ (ns : List Node). Answer.Found (length ns)) list;
      output = accepted_output l n now out s h ∙ ap (λ (ns : List Node). written (map (item l) ns) out) list;
      sorted =
          ascending (distance_to (number x)) (sort_by (distance_to (number x)) (all_held now t))
          (sort_strict (distance_to (number x)) (all_held now t)
          (different_apart (number x) (all_held now t)
          (held_different t.settings.local_key (applied now t) (λ i. (w i).of_the_index.held) (λ i. (w i).formed.different) num_buckets)));
      all_there = λ p. sort_tally (distance_to (number x)) p (all_held now t);
    }
