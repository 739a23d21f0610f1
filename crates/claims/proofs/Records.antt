-- The records that a call adds are those that stand in the queue behind its former length: a host reads them off the storage.
use Prim.Native.Nat.{ℕ}
use mathlib.Core.Path.{◌≡◌, refl, ap, ◌∙◌}
use mathlib.Core.List.{List, [], ◌∷◌}
use mathlib.Core.Option.{Option, none, some}
use lib.Seq.{drop-length, drop-append_seam}
use Rattle.model.specs.Bytes.{number}
use Rattle.model.specs.Node.{EndedPending}
use Rattle.model.specs.Bucket.{Bucket}
use Rattle.model.specs.Table.{Table, Answer, Effect, index_in}
use Rattle.model.specs.Call.{Call}
use Rattle.model.specs.Listing.{apply_all, applies}
use Rattle.model.specs.Question.{first_failed}
use Rattle.model.specs.Step.{on_key, own_answer, effect, take_oldest, act, questions, unless_refused, step}
use Rattle.laws.proofs.Applied.{apply_all_queue}
use Rattle.claims.specs.Runs.{behind}

by_key : (t : Table) (self : Answer) (f : ℕ → Bucket → Effect) (o : Option ℕ) → behind t.queue (on_key t self f o).table.queue ≡ (on_key t self f o).records
by_key t self f none = drop-length t.queue
by_key t self f (some i) = drop-append_seam t.queue (f i (t.buckets i)).records

nothing_behind : (q : List EndedPending) → behind q [] ≡ []
nothing_behind [] = refl
nothing_behind (a ∷ q) = refl

one_less : (a : EndedPending) (q : List EndedPending) → behind (a ∷ q) q ≡ []
one_less a [] = refl
one_less a (b ∷ q) = one_less b q

taken : (t : Table) (q : List EndedPending) → t.queue ≡ q → behind q (take_oldest t q).table.queue ≡ (take_oldest t q).records
taken t [] e = ap (behind []) e
taken t (a ∷ q) e = one_less a q

-- the same of the call's work
pub of_act : (c : Call) (t : Table) → behind t.queue (act c t).table.queue ≡ (act c t).records
unfolding act
of_act (Call.new k timeout m tf bf) t = nothing_behind t.queue
of_act (Call.on_key k c) t = by_key t (own_answer c) (effect c k t) (index_in t (number k))
of_act (Call.list l n now out) t =
    ap (behind t.queue) (apply_all_queue now (applies l n now t) t) ∙ drop-append_seam t.queue (apply_all now (applies l n now t) t).1
of_act Call.take_applied_pending t = taken t t.queue refl
of_act (Call.read bs) t = drop-length t.queue

pub records_behind : (c : Call) (t : Table) → behind t.queue (step c t).table.queue ≡ (step c t).records
unfolding step
records_behind c t = go (first_failed (questions c t))
  where
    go : (o : Option ℕ) → behind t.queue (unless_refused o c t).table.queue ≡ (unless_refused o c t).records
    go none = of_act c t
    go (some n) = drop-length t.queue
