-- 02, slip 7: the due pendings of some buckets applied in the storage, one bucket after the other. Only these buckets passed question 2.
use mathlib.Core.Path.{◌≡◌, refl, sym, ap, ◌∙◌, fun_ext, subst, subst⁻¹}
use mathlib.Core.Bool.{true, ◌&&◌}
use mathlib.Core.List.{List, [], ◌∷◌, ◌++◌, append-nil, append_assoc}
use mathlib.Core.Option.{Option, none, some}
use Prim.Native.Nat.{ℕ, ◌≤◌, ◌<◌}
use native.Mathlib.Omega.{arith}
use lib.ListN.{length, length-append}
use lib.Dec.{leb}
use Rattle.model.specs.Base.{same, at}
use Rattle.model.specs.Bytes.{Bytes}
use Rattle.model.specs.Node.{PendingNode, EndedPending}
use Rattle.model.specs.Bucket.{Bucket, BucketSettings, max_nodes_per_bucket, num_entries, with_pending, apply_if_due, apply_pending}
use Rattle.model.specs.Table.{Settings, Table, num_buckets, max_records, write}
use Rattle.model.specs.Sizes.{bucket_size, bucket_at, storage_size}
use Rattle.model.specs.Listing.{applied, apply_all}
use Rattle.model.specs.Layout.{bucket_bytes, bucket_part, table_of}
use Rattle.model.specs.Formed.{header_formed, bucket_formed_at, buckets_formed}
use Rattle.model.specs.StepBytes.{restore}
use Rattle.model.specs.Fits.{All, FitsSettings}
use Rattle.laws.proofs.Tests.{same_true, cases, split, and_left, and_right}
use Rattle.laws.proofs.Lists.{every_append}
use Rattle.laws.proofs.All.{all_left, all_right}
use Rattle.laws.proofs.Bytes.{Bytes_part}
use Rattle.laws.proofs.Parts.{length_part, slot_before}
use Rattle.laws.proofs.BucketBack.{bucket_back}
use Rattle.laws.proofs.HeaderBack.{header_back}
use Rattle.laws.proofs.KeepStep.{FitsAt}
use Rattle.laws.proofs.Applied.{due_one, apply_all_queue, apply_all_append}
use Rattle.laws.proofs.Frame.{apply_all_other, apply_all_settings}
use Rattle.laws.proofs.Touched.{Below}
use Rattle.laws.proofs.Restored.{Restored, Short, restore_restored, restored_is}
use Rattle.laws.proofs.ReadBack.{FitsHeader, FitsBuckets, fit_short, header_fits, buckets_fit, restored_none, restored_then, header_passes, all_stay, table_back, apply_all_buckets_fit, apply_all_records_fit}
use Rattle.laws.proofs.DistanceReads.{visited_applied}
use Rattle.on_key.specs.Answers.{Ready}
use Rattle.visit.specs.Passes.{visit_one, applied_in}

-- no record, nothing due

module _ (s : BucketSettings) (now : ℕ) where
  none_due : (b : Bucket) → length (apply_pending s now b).1 ≡ 0 → apply_pending s now b ≡ (b, [])
  unfolding apply_pending
  none_due b = go b.pending
    where
      go : (o : Option PendingNode) → length (apply_if_due s now b o).1 ≡ 0 → apply_if_due s now b o ≡ (b, [])
      go none = λ e. refl
      go (some p) =
          cases (λ (r : Bucket × List EndedPending). length r.1 ≡ 0 → r ≡ (b, [])) (leb p.deadline now)
          (λ _ e. absurd (omega (arith, due_one s now p.node (with_pending none b)))) (λ _ e. refl)

module _ (now : ℕ) where
  pub visit_same : (i : ℕ) (t : Table) → apply_pending t.settings.bucket now (t.buckets i) ≡ (t.buckets i, []) → visit_one now i t ≡ t
  visit_same i t a =
      ap (λ (r : Bucket × List EndedPending). write t i r.0 r.1) a
      ∙ (λ k. record { settings = t.settings; buckets = fun_ext same_bucket k; queue = append-nil t.queue k })
    where
      same_bucket : (j : ℕ) → at i (t.buckets i) t.buckets j ≡ t.buckets j
      same_bucket j = split (same j i) (λ h. rw h (ap t.buckets (sym (same_true j i h)))) (λ h. rw h)

  pub nothing_due : (is : List ℕ) (t : Table) → length (apply_all now is t).1 ≡ 0 → (apply_all now is t).0 ≡ t
  nothing_due [] t e = refl
  nothing_due (i ∷ is) t e =
      let a : List EndedPending = (apply_pending t.settings.bucket now (t.buckets i)).1 in
      let b : List EndedPending = (apply_all now is (visit_one now i t)).1 in
      let l = length-append a b in
      let p : length a ≡ 0 = omega arith in
      let q : length b ≡ 0 = omega arith in
      nothing_due is (visit_one now i t) q ∙ visit_same i t (none_due t.settings.bucket now (t.buckets i) p)

-- buckets that pass question 2 are those of the storage's table
parts_same : (s : List ℕ) → Bytes s → length s ≡ storage_size → (is : List ℕ) → Below is → buckets_formed s is ≡ true
    → All (λ (i : ℕ). bucket_part s i ≡ bucket_bytes ((table_of s).buckets i)) is
unfolding table_of
parts_same s h l [] a p = tt
parts_same s h l (i ∷ is) a p = (
  sym (bucket_back (bucket_part s i) (length_part s (bucket_at i) bucket_size (omega (arith, slot_before i num_buckets bucket_size a.0))) (Bytes_part s (bucket_at i) bucket_size h) _ _ (and_left (bucket_formed_at s i) (buckets_formed s is) p)),
  parts_same s h l is a.1 (and_right (bucket_formed_at s i) (buckets_formed s is) p),
)

pub restored_same : (s : List ℕ) → Bytes s → length s ≡ storage_size → header_formed s ≡ true → (is : List ℕ) → Below is → buckets_formed s is ≡ true
    → Restored s is (table_of s) s
restored_same s h l f is a p =
    record { size = l; header = sym (header_back s (omega arith) h f); written = parts_same s h l is a p; others = λ i m u. refl }

-- buckets whose due pendings may be applied: they and the header pass question 2, and the queue has room for the records
pub record Appliable (s : List ℕ) (now : ℕ) (is : List ℕ) : Type 0 where
  pub bytes : Bytes s
  pub size : length s ≡ storage_size
  pub header : header_formed s ≡ true
  pub below : Below is
  pub formed : buckets_formed s is ≡ true
  pub room : length (apply_all now is (table_of s)).0.queue ≤ max_records

-- s is s₀ with the due pendings of the buckets done applied; rest are those to come
pub record Applying (s₀ : List ℕ) (now : ℕ) (is s rest : List ℕ) : Type 0 where
  pub done : List ℕ
  pub all : is ≡ done ++ rest
  pub restored : Restored s₀ done (apply_all now done (table_of s₀)).0 s

module _ (s₀ : List ℕ) (now : ℕ) (is : List ℕ) (p : Appliable s₀ now is) where
  abbrev t₀ : Table
  t₀ = table_of s₀

  pub applying_starts : Applying s₀ now is s₀ is
  applying_starts = record { done = []; all = refl; restored = restored_none s₀ p.bytes p.size p.header }

  -- the table once the first of them are applied
  module _ (done rest : List ℕ) (e : is ≡ done ++ rest) where
    abbrev t : Table
    t = (apply_all now done t₀).0

    below_done : Below done
    below_done = all_left (λ (i : ℕ). i < num_buckets) done rest (subst Below e p.below)

    below_rest : Below rest
    below_rest = all_right (λ (i : ℕ). i < num_buckets) done rest (subst Below e p.below)

    formed_both : (buckets_formed s₀ done && buckets_formed s₀ rest) ≡ true
    formed_both = sym (every_append (bucket_formed_at s₀) done rest) ∙ ap (buckets_formed s₀) (sym e) ∙ p.formed

    formed_rest : buckets_formed s₀ rest ≡ true
    formed_rest = and_right (buckets_formed s₀ done) (buckets_formed s₀ rest) formed_both

    fit_before : FitsBuckets t₀ done
    fit_before = buckets_fit s₀ p.bytes p.size done below_done (and_left (buckets_formed s₀ done) (buckets_formed s₀ rest) formed_both)

    settings_same : t.settings ≡ t₀.settings
    settings_same = apply_all_settings now done t₀

    room_done : length t.queue ≤ max_records
    room_done =
        let a : (apply_all now is t₀).0 ≡ (apply_all now rest t).0 = ap (λ (js : List ℕ). (apply_all now js t₀).0) e ∙ apply_all_append now done rest t₀ in
        let b = ap (λ (x : Table). length x.queue) a in
        let c = ap length (apply_all_queue now rest t) in
        let d = length-append t.queue (apply_all now rest t).1 in
        omega (arith, p.room)

    fits_header : FitsHeader t
    fits_header =
        let f : FitsHeader t₀ = header_fits s₀ p.bytes p.size p.header in
        record {
          settings = subst⁻¹ FitsSettings settings_same f.settings;
          records = apply_all_records_fit now done t₀ fit_before f.records;
          queue = room_done;
        }

    fits_buckets : FitsBuckets t done
    fits_buckets = subst⁻¹ (λ (w : Settings). All (λ (i : ℕ). FitsAt w i (t.buckets i)) done) settings_same (apply_all_buckets_fit now done done t₀ fit_before)

  module _ (s rest : List ℕ) (w : Applying s₀ now is s rest) where
    abbrev d : List ℕ
    d = w.done

    abbrev u : Table
    u = (apply_all now d t₀).0

    pub applying_size : length s ≡ storage_size
    applying_size = w.restored.size

    pub applying_table : table_of s ≡ u
    applying_table =
        table_back s₀ d u s w.restored (fits_header d rest w.all) (fits_buckets d rest w.all) p.size (λ j o. apply_all_other now j d t₀ o)

    pub applying_header : header_formed s ≡ true
    applying_header = header_passes s₀ d u s w.restored (fits_header d rest w.all)

    -- what passed question 2 passes it again
    pub applying_formed : (js : List ℕ) → Below js → buckets_formed s₀ js ≡ true → buckets_formed s js ≡ true
    applying_formed = all_stay s₀ d u s w.restored (fits_header d rest w.all) (fits_buckets d rest w.all) (settings_same d rest w.all)

    pub applying_rest : buckets_formed s rest ≡ true
    applying_rest = applying_formed rest (below_rest d rest w.all) (formed_rest d rest w.all)

    pub applying_ends : rest ≡ [] → s ≡ applied_in s₀ now is
    unfolding applied_in
    applying_ends e =
        let f : d ≡ is = sym (append-nil d) ∙ ap (λ (r : List ℕ). d ++ r) (sym e) ∙ sym w.all in
        restored_is s₀ p.size u (room_done d rest w.all) d (below_done d rest w.all) (fit_short u d (fits_buckets d rest w.all)) s w.restored
        ∙ ap (λ (js : List ℕ). restore s₀ js (apply_all now js t₀).0) f

  -- one bucket further
  module _ (s : List ℕ) (i : ℕ) (rest : List ℕ) (w : Applying s₀ now is s (i ∷ rest)) where
    abbrev before : Table
    before = (apply_all now w.done t₀).0

    abbrev after : Table
    after = (apply_all now (w.done ++ (i ∷ [])) t₀).0

    all_next : is ≡ (w.done ++ (i ∷ [])) ++ rest
    all_next = w.all ∙ sym (append_assoc w.done (i ∷ []) rest)

    after_is : after ≡ visit_one now i before
    after_is = apply_all_append now w.done (i ∷ []) t₀

    here_is : visit_one now i (table_of s) ≡ after
    here_is = ap (visit_one now i) (applying_table s (i ∷ rest) w) ∙ sym after_is

    pub applying_below : i < num_buckets
    applying_below = (below_rest w.done (i ∷ rest) w.all).0

    pub applying_ready : Ready s i
    applying_ready =
        record {
          size = applying_size s (i ∷ rest) w;
          header = applying_header s (i ∷ rest) w;
          below = applying_below;
          bucket = and_left (bucket_formed_at s i) (buckets_formed s rest) (applying_rest s (i ∷ rest) w);
        }

    pub applying_room : length (visit_one now i (table_of s)).queue ≤ max_records
    applying_room = let e = ap (λ (x : Table). length x.queue) here_is in omega (arith, room_done (w.done ++ (i ∷ [])) rest all_next)

    short : Short after (i ∷ [])
    short =
        all_right (λ (j : ℕ). num_entries (after.buckets j) ≤ max_nodes_per_bucket) w.done (i ∷ [])
        (fit_short after (w.done ++ (i ∷ [])) (fits_buckets (w.done ++ (i ∷ [])) rest all_next))

    module _ (s' : List ℕ) (e : s' ≡ applied_in s now (i ∷ [])) where
      written_is : s' ≡ restore s (i ∷ []) after
      unfolding applied_in
      written_is = e ∙ ap (restore s (i ∷ [])) here_is

      pub applying_next : Applying s₀ now is s' rest
      applying_next =
          record {
            done = w.done ++ (i ∷ []);
            all = all_next;
            restored =
                restored_then s₀ w.done (i ∷ []) before after s s' (below_done w.done (i ∷ rest) w.all) w.restored
                (rw written_is (restore_restored s (applying_size s (i ∷ rest) w) after (room_done (w.done ++ (i ∷ [])) rest all_next) (i ∷ []) (applying_below, tt) short))
                (λ j o. ap (λ (x : Table). x.buckets j) after_is ∙ apply_all_other now j (i ∷ []) before o);
          }

      -- the bucket as it stands then
      pub applying_held : (table_of s').buckets i ≡ applied now t₀ i
      unfolding applying_next
      applying_held =
          ap (λ (x : Table). x.buckets i) (applying_table s' rest applying_next)
          ∙ (all_right (λ (j : ℕ). after.buckets j ≡ applied now t₀ j) w.done (i ∷ []) (visited_applied now (w.done ++ (i ∷ [])) t₀)).0

  -- all of them applied
  pub applying_done : {s' : List ℕ} → s' ≡ applied_in s₀ now is → Applying s₀ now is s' []
  unfolding applied_in
  applying_done e =
      let f : is ≡ is ++ [] = sym (append-nil is) in
      record {
        done = is;
        all = f;
        restored = rw e (restore_restored s₀ p.size (apply_all now is t₀).0 p.room is p.below (fit_short (apply_all now is t₀).0 is (fits_buckets is [] f)));
      }

  -- where they give no record, nothing is written
  pub applying_nothing : length (apply_all now is t₀).1 ≡ 0 → s₀ ≡ applied_in s₀ now is
  unfolding applied_in
  applying_nothing e =
      let f = buckets_fit s₀ p.bytes p.size is p.below p.formed in
      restored_is s₀ p.size t₀ (header_fits s₀ p.bytes p.size p.header).queue is p.below (fit_short t₀ is f) s₀
      (restored_same s₀ p.bytes p.size p.header is p.below p.formed)
      ∙ ap (restore s₀ is) (sym (nothing_due now is t₀ e))
