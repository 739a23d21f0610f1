use Rattle.std.proofs.Common.{rules as search_rules}
use Rattle.std.proofs.Common.{Bool, ◌≡◌, true, false, Some, None, refl, sym, ap, ◌∙◌, subst, get_or, ne_eqb}
use mathlib.Core.Option as math
use Rattle.laws.proofs.Tests.{clash}
use Rattle.model.specs.Bucket as rules
use Rattle.model.specs.Node as model
use Rattle.model.specs.Result.{is_failed}
use Rattle.model.specs.Table.{Answer, both_updates, update_node_in}
use Rattle.model.specs.Call.{is_one}
use Rattle.key.specs.Key.{num}
use Rattle.node.specs.Node.{value_of, node_of, zero_node, restated, revalued}
use Rattle.node.specs.Status.{optional_of}
use Rattle.bucket.specs.declared.SoundBucket.{SoundBucket}
use Rattle.bucket.specs.Bucket.{bucket_of, settings_of, Becomes}
use Rattle.bucket.specs.Calls.{update_result_of}
use Rattle.bucket.proofs.Steps as steps
use Rattle.bucket.proofs.Steps.{filter_off, then_becomes}
use Rattle.bucket.proofs.Held.{found, get_found}
use Rattle.bucket_update.specs.Again.{put_again, value_result}
use Rattle.bucket_update.proofs.Again.{node_again}
use Rattle.bucket_update.proofs.Rules.{not_failed, node_failed, node_valued, node_both}
use Rattle.bucket_update.proofs.update_node_in.Goals as goal
use Rattle.bucket_update.proofs.update_node_in.Goals.{After-with_status, in-Failed, in_default-matches}

pub returns-in_default : goal.returns-in_default
returns-in_default c =
    let none : c.args.update.state ≡ None = rw c.in_default.is at c.status.ensures in
    rw (node_valued (settings_of c.args.b.bucket) c.args.fails c.args.time (num c.args.key) (value_of c.args.update.value.value) (optional_of c.args.update.state) (bucket_of c.args.b.bucket) c.if-fails.false (ap optional_of none))
    (record { result_value = ap Answer.Update c.update_value.ensures.result_value; becomes = c.update_value.ensures.becomes })

-- the node that is put again
made : (c : After-with_status) → c.status.result ≡ Some c.in-Some.status → c.with_status.result.node ≡ restated c.in-Some.status.state None (revalued c.args.update.value.value (get_or c.args.b.bucket.nodes c.in-Some-position.pos zero_node))
made c e =
    let given = rw e at c.status.ensures in
    c.with_status.ensures
    ∙ rw given.1 (ap (restated c.in-Some.status.state None) (c.with_value.ensures ∙ ap (revalued c.args.update.value.value) c.node_at-old.ensures))

pub returns-in-Some-position : goal.returns-in-Some-position
returns-in-Some-position c =
    let b = c.args.b.bucket in
    let s = settings_of b in
    let m = bucket_of b in
    let k = num c.args.key in
    let v = value_of c.args.update.value.value in
    let given = rw c.in-Some.is at c.status.ensures in
    let old = node_of (get_or b.nodes c.in-Some-position.pos zero_node) in
    let new = ap node_of (made (goal.at.returns-in-Some-position c).After-with_status c.in-Some.is) in
    let e =
    ap (λ (f : Bool). update_node_in s f c.args.time k v (optional_of c.args.update.state) m) c.if-fails.false
    ∙ node_again s c.args.time m old k (get_found b k c.position.ensures c.args.b.sound c.in-Some-position.is)
    (found b k c.position.ensures c.in-Some-position.is).1 (optional_of c.args.update.state) (is_one c.in-Some.status.state) (ap optional_of given.0) v
    (filter_off s v (rules.take_out old.key m) (ne_eqb _ _ c.if-b-ne1.true)) in
    let told : update_result_of c.map.result.result ≡ both_updates (update_result_of c.value_result-of_value.result) (update_result_of c.put_again.result.result) = search search_rules in
    record {
      result_value =
          ap Answer.Update
          (told
          ∙ rw (c.value_result-of_value.ensures, c.node_at-old.ensures, c.put_again.ensures.result_value)
          (ap (λ (n : model.Node). both_updates (value_result old.value v) (rules.status_result old n (put_again s n m).0)) new))
          ∙ ap (λ (y : Answer × rules.Bucket). y.0) (sym e);
      becomes =
          subst (λ (y : Answer × rules.Bucket). Becomes s y.1 c.map.result.bucket.bucket) (sym e)
          (subst (λ (n : model.Node). Becomes s (put_again s n m).1 c.map.result.bucket.bucket) new (subst (λ (y : SoundBucket). Becomes s (put_again s (node_of c.with_status.result.node) m).1 y.bucket) (sym c.map.ensures.bucket) c.put_again.ensures.becomes));
    }

pub returns-then-matches : goal.returns-then-matches
returns-then-matches c =
    let x = c.update_value-valued.ensures in
    let failed : is_failed (update_result_of c.update_value-valued.result.result) ≡ true =
    elim c.match-matches.branch [
      | in-Failed u ↦ rw u.in-Failed.is refl
      | in_default-matches u ↦ clash c.if-matches.true u.matches-is
    ] in
    rw (node_failed (settings_of c.args.b.bucket) c.args.fails c.args.time (num c.args.key) (value_of c.args.update.value.value) (optional_of c.args.update.state) (bucket_of c.args.b.bucket) c.if-fails.false (ap is_failed (sym x.result_value) ∙ failed))
    (record { result_value = ap Answer.Update x.result_value; becomes = x.becomes })

pub returns : goal.returns
returns c =
    let x = c.update_value-valued.ensures in
    let s = settings_of c.args.b.bucket in
    let m = bucket_of c.args.b.bucket in
    let k = num c.args.key in
    let v = value_of c.args.update.value.value in
    let given = rw c.in-Some.is at c.status.ensures in
    let u = is_one c.in-Some.status.state in
    let fine : is_failed (update_result_of c.update_value-valued.result.result) ≡ false =
    elim c.match-matches.branch [
      | in-Failed w ↦ clash w.matches-is c.if-matches.false
      | in_default-matches w ↦ not_failed _ w.in_default-matches.not-Failed
    ] in
    let told : update_result_of c.map-2.result.result ≡ both_updates (update_result_of c.update_value-valued.result.result) (update_result_of c.update_status.result.result) = search search_rules in
    let told-status = rw given.1 at c.update_status.ensures in
    let of_status = then_becomes x.becomes (λ (t : rules.BucketSettings) (n : rules.Bucket). (rules.update_status t k u math.none n).1) told-status.becomes in
    rw (node_both s c.args.fails c.args.time k v (optional_of c.args.update.state) m c.if-fails.false (ap is_failed (sym x.result_value) ∙ fine) u (ap optional_of given.0))
    (record {
      result_value =
          ap Answer.Update
          (told ∙ rw (told-status.result_value ∙ steps.told x.becomes (λ (t : rules.BucketSettings) (n : rules.Bucket). (rules.update_status t k u math.none n).0), x.result_value));
      becomes = subst (λ (y : SoundBucket). Becomes s (rules.update_status s k u math.none (rules.update_value s k v m).1).1 y.bucket) (sym c.map-2.ensures.bucket) of_status;
    })
