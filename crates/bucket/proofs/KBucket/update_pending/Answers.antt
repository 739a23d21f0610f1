use mathlib.Core.Path.{◌≡◌, refl, sym, ap, ◌∙◌}
use mathlib.Core.Bool.{Bool, ◌&&◌}
use mathlib.Core.Option.{none}
use lib.Dec.{leb}
use Rattle.model.specs.Bucket as rules
use Rattle.model.specs.Call.{is_one}
use Rattle.model.specs.Question.{first_failed}
use Rattle.bucket.specs.Bucket.{bucket_of}
use Rattle.bucket.specs.Calls.{questions, update_pending_call}
use Rattle.bucket.proofs.Entry.{refused, accepted}
use Rattle.bucket.proofs.KBucket.update_pending.Goals as goal

pub returns-in-Ok : goal.returns-in-Ok
unfolding update_pending_call
returns-in-Ok c =
    let b = c.args.self in
    let st = c.args.status in
    let x : Unit {0} × rules.Bucket = (tt, rules.update_pending (is_one st.state) (is_one st.direction) (bucket_of b)) in
    let codes = ap (λ (t : Bool). first_failed (questions b t none)) (sym c.of.ensures.passes) in
    let same : c.in-Ok.status.status ≡ st = rw c.in-Ok.ensures.passed.1 at c.of.ensures.value in
    accepted b (first_failed (questions b (leb st.state 1 && leb st.direction 1) none)) x (λ (u : Unit {0}). u) _ _ _
    (codes ∙ sym c.in-Ok.ensures.value) refl (record { result_value = refl; becomes = rw same at c.update_pending.ensures })

pub returns-in-Err : goal.returns-in-Err
unfolding update_pending_call
returns-in-Err c =
    let b = c.args.self in
    let st = c.args.status in
    let x : Unit {0} × rules.Bucket = (tt, rules.update_pending (is_one st.state) (is_one st.direction) (bucket_of b)) in
    let codes = ap (λ (t : Bool). first_failed (questions b t none)) c.of.ensures.passes in
    refused b (first_failed (questions b (leb st.state 1 && leb st.direction 1) none)) x (λ (u : Unit {0}). u) c.refused.result c.in-Err.refusal
    (c.in-Err.ensures.value ∙ codes) c.refused.ensures
