-- The whole output, by its three parts, and what the writer answers.
use mathlib.Core.Path.{◌≡◌, sym, ap, ◌∙◌, subst}
use mathlib.Core.Bool.{Bool, cond}
use mathlib.Core.List.{List, [], ◌∷◌, ◌++◌, append_assoc}
use mathlib.Core.Option.{Option, none, some}
use Prim.Native.Nat.{ℕ, zero, suc, ◌+◌, ◌*◌, ◌≤◌, ◌<◌}
use native.Mathlib.Omega.{arith}
use lib.Seq.{drop-drop}
use lib.ListN.{length, get_or, drop}
use lib.Dec.{eqb, leb}
use borrow.Author.Tests.{eqb-true, eqb-false, le-leb, lt-leb}
use denote.Param.Members.{Mut, Called}
use Rattle.std.specs.Array.{IsFromFnResultFrom, IsFromFnResult}
use Rattle.model.specs.Base.{tabulate}
use Rattle.model.specs.Bytes.{splice}
use Rattle.model.specs.Node.{Node}
use Rattle.model.specs.Bucket.{num_entries}
use Rattle.model.specs.Table.{Table, num_buckets}
use Rattle.model.specs.Result.{Reply}
use Rattle.model.specs.Sizes.{key_size, node_size, storage_size}
use Rattle.model.specs.Layout.{table_of}
use Rattle.model.specs.Formed.{formed}
use Rattle.model.specs.Saved.{all_nodes, saved_entry_size, saved}
use Rattle.model.specs.StepBytes.{Replied, tell_unless_refused, write_bytes}
use Rattle.laws.proofs.Tests.{split}
use Rattle.laws.proofs.Lists.{tabulate_is}
use Rattle.laws.proofs.Saved.{length_saved}
use Rattle.laws.proofs.Questions.{front_fails, front_passes}
use Rattle.on_key.proofs.Ended.{size_fails}
use Rattle.on_key.specs.Answers.{Replies, whole_table, failed_of_table}
use Rattle.saved.specs.declared.Field.{Field}
use Rattle.saved.specs.Fields.{field_bytes, field_size}
use Rattle.saved.proofs.Fields.{written}

-- what calls at each number gave, where a call leaves the callee as it was
module _ {F : Type 0} (g : Mut F (ℕ × Unit {0}) ℕ) (f : F) (h : ℕ → ℕ) (k : (i y : ℕ) (q : F) → Called g f (i, tt) y q → (q ≡ f) × (y ≡ h i)) (ys : List ℕ) where
  none_left : {i j : ℕ} → i ≤ j → j < i + 0 → ⊥
  none_left a b = omega arith

  made_at : (n i : ℕ) → IsFromFnResultFrom g f ys i n → (j : ℕ) → i ≤ j → j < i + n → h j ≡ get_or ys j 0
  made_at zero i e j a b = absurd (none_left a b)
  made_at (suc n) i e j a b =
      let (q, y, at, called, rest) = e in
      let w = k i y q called in
      split (eqb j i)
      (λ t. let s : j ≡ i = eqb-true j i t in ap h s ∙ sym w.1 ∙ sym (at.1 0) ∙ ap (λ (m : ℕ). get_or ys m 0) (sym s))
      (λ t. let o : (j ≡ i → ⊥) = eqb-false j i t in made_at n (i + 1) (subst (λ (p : F). IsFromFnResultFrom g p ys (i + 1) n) w.0 rest) j (omega arith) (omega arith))

  pub made : (n : ℕ) → IsFromFnResult g f ys n → ys ≡ tabulate n h
  made n e = sym (tabulate_is ys 0 n h e.long (λ j l. made_at n 0 e.each j (omega arith) (omega arith)))

module _ (t : Table) where
  abbrev pub sizes : List ℕ
  sizes = tabulate num_buckets (λ i. num_entries (t.buckets i))

  abbrev held : List Node
  held = all_nodes t

  -- room for all of them: that for the keys, and that for the entries behind them
  module _ {n l : ℕ} (e : n ≡ length held) where
    pub keys_fit : l ≡ n * key_size → l ≡ length held * field_size Field.Key
    unfolding field_size
    keys_fit f = f ∙ ap (λ (m : ℕ). m * key_size) e

    pub entries_fit : l ≡ n * saved_entry_size → l ≡ length held * field_size Field.Entry
    unfolding field_size
    entries_fit f = f ∙ ap (λ (m : ℕ). m * saved_entry_size) e

  -- sizes, keys and entries put one behind the other
  pub saved_put : {n k : ℕ} {x y z rest : List ℕ} (o : List ℕ) → n ≡ length held → k ≡ n * saved_entry_size → rest ≡ drop (n * key_size) (drop num_buckets o)
      → x ≡ sizes → y ≡ written Field.Key held → z ≡ written Field.Entry held → x ++ (y ++ (z ++ drop k rest)) ≡ splice o 0 (saved t)
  unfolding saved field_bytes splice
  saved_put {n} {k} o e f r x y z =
      let behind : drop k (drop (n * key_size) (drop num_buckets o)) ≡ drop (0 + length (saved t)) o = (
      drop-drop k (n * key_size) (drop num_buckets o) ∙ drop-drop (n * key_size + k) num_buckets o
      ∙ ap (λ (i : ℕ). drop i o) (omega (arith, e, f, length_saved t))
      ) in
      rw (x, y, z, r, behind) (simp append_assoc)

-- the questions, in turn

module _ (out s : List ℕ) where
  abbrev room : Bool
  room = leb (length (saved (table_of s))) (length out)

  abbrev told : Option ℕ → Replied
  told o = tell_unless_refused o (length (all_nodes (table_of s))) (saved (table_of s)) out

  pub refused_early : (n : ℕ) → failed_of_table s ≡ some n → Replies (Reply.Refused n) out (write_bytes out s)
  unfolding write_bytes failed_of_table
  refused_early n e =
      let f = sym (front_fails (whole_table s) ((6, room) ∷ []) n e) in
      record { answer = ap (λ (o : Option ℕ). (told o).answer) f; output = ap (λ (o : Option ℕ). (told o).output) f }

  pub refused_size : (length s ≡ storage_size → ⊥) → Replies (Reply.Refused 1) out (write_bytes out s)
  unfolding failed_of_table
  refused_size n = refused_early 1 (size_fails s n ((2, formed s) ∷ []))

  module _ (e : failed_of_table s ≡ none) where
    last_asked : write_bytes out s ≡ told (cond room none (some 6))
    unfolding write_bytes failed_of_table
    last_asked = ap told (front_passes (whole_table s) ((6, room) ∷ []) e)

    pub refused_short : length out < num_buckets + length (all_nodes (table_of s)) * node_size → Replies (Reply.Refused 6) out (write_bytes out s)
    refused_short h =
        let f = lt-leb (length (saved (table_of s))) (length out) (rw (length_saved (table_of s)) h) in
        let g = sym (last_asked ∙ ap (λ (b : Bool). told (cond b none (some 6))) f) in
        record { answer = ap (λ (x : Replied). x.answer) g; output = ap (λ (x : Replied). x.output) g }

    pub answered : {n : ℕ} {out' : List ℕ} → num_buckets + length (all_nodes (table_of s)) * node_size ≤ length out → n ≡ length (all_nodes (table_of s))
        → out' ≡ splice out 0 (saved (table_of s)) → Replies (Reply.Answered n) out' (write_bytes out s)
    answered h p w =
        let f = le-leb (length (saved (table_of s))) (length out) (rw (length_saved (table_of s)) h) in
        let g = sym (last_asked ∙ ap (λ (b : Bool). told (cond b none (some 6))) f) in
        record { answer = ap (λ (m : ℕ). Reply.Answered m) p ∙ ap (λ (x : Replied). x.answer) g; output = w ∙ ap (λ (x : Replied). x.output) g }
