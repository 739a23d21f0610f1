-- The reader's call: its questions, and the storage that it leaves.
use Prim.Native.Nat.{ℕ}
use native.Mathlib.Omega.{arith}
use mathlib.Core.Path.{◌≡◌, refl, sym, ap, ◌∙◌}
use mathlib.Core.Bool.{Bool, true, false, cond, ◌&&◌}
use mathlib.Core.List.{List, [], ◌∷◌, ◌++◌}
use mathlib.Core.Option.{Option, none, some}
use lib.ListN.{length}
use lib.Dec.{eqb}
use borrow.Author.Tests.{le-leb}
use Rattle.std.specs.Prelude as code
use Rattle.std.specs.Prelude.{Result, Err}
use Rattle.std.specs.Option.{ok_or}
use Rattle.model.specs.Base.{all_below}
use Rattle.model.specs.Bytes.{Bytes, part}
use Rattle.model.specs.Table.{Table, Answer, num_buckets, max_records}
use Rattle.model.specs.Sizes.{header_size, storage_size}
use Rattle.model.specs.Call.{Call}
use Rattle.model.specs.Question.{first_failed, keys_fit, codes_in_range, clock_fits, output_fits, kind_fits}
use Rattle.model.specs.Step.{act, queue_fits}
use Rattle.model.specs.Layout.{header_bytes, bucket_bytes, bytes_of, table_of}
use Rattle.model.specs.Formed.{header_formed, bucket_formed_at, formed}
use Rattle.model.specs.Saved.{saved_count, loaded_bytes, loaded_table, load_fits}
use Rattle.model.specs.StepBytes.{all_questions, step_bytes}
use Rattle.model.specs.Fits.{Fits}
use Rattle.laws.proofs.HeaderBack.{header_back}
use Rattle.laws.proofs.BucketBack.{bucket_back}
use Rattle.laws.proofs.TableBytes.{header_passes, fits_back, bytes_are}
use Rattle.laws.proofs.Touched.{every_formed}
use Rattle.laws.proofs.Restore.{restore_all}
use Rattle.laws.proofs.Questions.{front_fails, front_passes}
use Rattle.laws.proofs.Loaded.{Loads, loads, loaded_at, loaded_past, loaded_length, loaded_fits, loaded_well_formed, Bytes_loaded, size_most}
use Rattle.node.specs.declared.Refusal.{Refusal}
use Rattle.on_key.specs.Answers.{Answers, whole_table, failed_of_table}
use Rattle.on_key.proofs.Questions.{passed_table}
use Rattle.on_key.proofs.OneKey.{refused_bytes, acted_bytes}
use Rattle.loaded.specs.Load.{Held, Blank, LoadedFrom}
use Rattle.loaded.proofs.Asked.{blank_of}

-- question 2 in its two parts, one behind the other, is that of the table
in_parts : (a b : Bool) (o : Option ℕ) → cond a (cond b o (some 2)) (some 2) ≡ cond (a && b) o (some 2)
in_parts true b o = refl
in_parts false b o = refl

-- the refusal of question 9, by what `ok_or` made of it
pub unfit_told : {T : Type 0} {o : code.Option T} {q : Refusal} → ◌≡◌ {A = Result T Refusal} (Err q) (ok_or o Refusal.Load) → o ≡ code.None → q ≡ Refusal.Load
unfit_told {o = o} v n = let w = rw n at v in cc

module _ (s bs : List ℕ) where
  abbrev t : Table
  t = table_of s

  abbrev call : Call
  call = Call.read bs

  abbrev later : List (ℕ × Bool)
  later = (8, queue_fits call t) ∷ (9, load_fits bs t) ∷ []

  asked_are : first_failed (all_questions call s) ≡ first_failed (whole_table s ++ later)
  unfolding keys_fit codes_in_range clock_fits output_fits kind_fits formed
  asked_are =
      ap (λ (b : Bool). cond (eqb (length s) storage_size) (cond (header_formed s) (cond b (first_failed later) (some 2)) (some 2)) (some 1)) (every_formed s)
      ∙ ap (λ (o : Option ℕ). cond (eqb (length s) storage_size) o (some 1)) (in_parts (header_formed s) (all_below num_buckets (bucket_formed_at s)) (first_failed later))

  pub read_refused : (n : ℕ) → failed_of_table s ≡ some n → Answers (Answer.Refused n) s (step_bytes call s)
  unfolding failed_of_table
  read_refused n e = refused_bytes call s n (asked_are ∙ front_fails (whole_table s) later n e)

  module _ (b : Bytes s) (e : failed_of_table s ≡ none) where
    fits : Fits t
    fits = let p = passed_table s e in fits_back s b p.size p.formed

    -- 8 cannot fail: the queue stays as it is
    asked_last : first_failed (all_questions call s) ≡ first_failed ((9, load_fits bs t) ∷ [])
    unfolding failed_of_table queue_fits act
    asked_last = asked_are ∙ front_passes (whole_table s) later e ∙ rw (le-leb (length t.queue) max_records fits.queue)

    pub read_unfit : load_fits bs t ≡ false → Answers (Answer.Refused 9) s (step_bytes call s)
    read_unfit g = refused_bytes call s 9 (asked_last ∙ rw g)

    module _ (h : Bytes bs) (g : load_fits bs t ≡ true) where
      abbrev t' : Table
      t' = loaded_table bs t

      passed : Loads bs t
      passed = loads bs t g

      fits' : Fits t'
      fits' =
          record {
            settings = fits.settings;
            buckets = loaded_fits bs t passed h;
            well_formed = loaded_well_formed bs t passed;
            past = loaded_past bs;
            records = fits.records;
            queue = fits.queue;
          }

      pub read_blank : Blank s
      read_blank = let p = passed_table s e in blank_of s p.size p.formed b passed.nothing

      same_header : header_bytes t ≡ header_bytes t'
      unfolding header_bytes
      same_header = refl

      -- what was read of them
      module _ {saved : List ℕ} (q : saved ≡ bs) where
        pub read_held : Held saved
        read_held = rw q (size_most bs t passed)

        pub read_loaded : {nodes : ℕ} → nodes ≡ saved_count saved → {s' : List ℕ} → LoadedFrom s saved s' → Answers (Answer.Read nodes) s' (step_bytes call s)
        unfolding act
        read_loaded n {s'} w' =
            let w : LoadedFrom s bs s' = rw q at w' in
            let p = passed_table s e in
            let hd : part s' 0 header_size ≡ header_bytes t' = w.header ∙ sym (header_back s (omega (arith, p.size)) b (header_passes s p.formed)) ∙ same_header in
            let is : s' ≡ bytes_of t' =
            bytes_are t' s' w.size hd
            (λ i m.
            w.buckets i m
            ∙ sym (bucket_back (loaded_bytes bs i) (loaded_length bs t passed i m) (Bytes_loaded bs i h) _ _ (passed.formed i m))
            ∙ ap bucket_bytes (sym (loaded_at bs i m))) in
            acted_bytes call s (Answer.Read _) s' (asked_last ∙ rw g) (ap Answer.Read (n ∙ ap saved_count q)) (is ∙ sym (restore_all s p.size t' fits'))
