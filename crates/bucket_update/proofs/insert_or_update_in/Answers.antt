use Rattle.std.proofs.Common.{rules as search_rules}
use Rattle.std.proofs.Common.{Bool, ◌≡◌, true, false, refl, sym, ap, ◌∙◌, subst, ne_eqb}
use mathlib.Core.Option.{some}
use Rattle.model.specs.Base.{is_some}
use Rattle.model.specs.Result.{UpdateResult, is_failed}
use Rattle.model.specs.Bucket as rules
use Rattle.model.specs.Table.{Answer, inserts, insert_updates, insert_or_update_in}
use Rattle.bucket_update.specs.Results.{table_insert_result_of}
use Rattle.bucket_update.specs.Again.{put_again}
use Rattle.key.specs.Key.{num}
use Rattle.node.specs.Node.{value_of, node_of}
use Rattle.bucket.specs.declared.SoundBucket.{SoundBucket}
use Rattle.bucket.specs.Bucket.{bucket_of, settings_of, Becomes, Does}
use Rattle.bucket.specs.Calls.{update_result_of}
use Rattle.laws.proofs.Tests.{clash}
use Rattle.bucket.proofs.Steps as steps
use Rattle.bucket.proofs.Steps.{then_becomes}
use Rattle.bucket.proofs.Held.{found, absent, get_found}
use Rattle.bucket_update.proofs.Again.{insert_again}
use Rattle.bucket_update.proofs.Rules.{not_failed, insert_absent, insert_failed, insert_both}
use Rattle.bucket_update.proofs.insert_or_update_in.Goals as goal
use Rattle.bucket_update.proofs.insert_or_update_in.Goals.{After-update_status-stated, in-Failed, in_default-matches}

pub returns-in_default : goal.returns-in_default
returns-in_default c =
    rw (insert_absent (settings_of c.args.b.bucket) c.args.fails c.args.time (node_of c.args.node.node) (bucket_of c.args.b.bucket) c.if-fails.false (ap is_some (absent c.args.b.bucket (num c.args.node.node.key) c.position.ensures c.in_default.is)))
    (record {
      result_value = ap Answer.InsertOrUpdate (c.map.ensures.answer ∙ ap inserts c.insert.ensures.result_value);
      becomes = subst (λ (y : SoundBucket). Becomes (settings_of c.args.b.bucket) (rules.insert (settings_of c.args.b.bucket) c.args.time (node_of c.args.node.node) (bucket_of c.args.b.bucket)).1 y.bucket) (sym c.map.ensures.bucket) c.insert.ensures.becomes;
    })

pub put_again-requires-clause-pos_value : goal.put_again-requires-clause-pos_value
put_again-requires-clause-pos_value c =
    (found c.args.b.bucket (num c.args.node.node.key) c.position.ensures c.in-Some.is).1

pub returns-then-b-ne1 : goal.returns-then-b-ne1
returns-then-b-ne1 c =
    let b = c.args.b.bucket in
    let k = num c.args.node.node.key in
    let e =
    ap (λ (f : Bool). insert_or_update_in (settings_of b) f c.args.time (node_of c.args.node.node) (bucket_of b)) c.if-fails.false
    ∙ insert_again (settings_of b) c.args.time (bucket_of b) _ (node_of c.args.node.node) (get_found b k c.position.ensures c.args.b.sound c.in-Some.is)
    (found b k c.position.ensures c.in-Some.is).1 (ne_eqb _ _ c.if-b-ne1.true) in
    let told : table_insert_result_of c.map-then-b-ne1.result.result ≡ insert_updates (update_result_of c.value_result-of_value.result) (update_result_of c.put_again.result.result) = search search_rules in
    rw e
    (record {
      result_value = ap Answer.InsertOrUpdate (told ∙ rw (c.value_result-of_value.ensures, c.put_again.ensures.result_value));
      becomes = subst (λ (y : SoundBucket). Becomes (settings_of b) (put_again (settings_of b) (node_of c.args.node.node) (bucket_of b)).1 y.bucket) (sym c.map-then-b-ne1.ensures.bucket) c.put_again.ensures.becomes;
    })

module _ (c : After-update_status-stated) where
  abbrev of_status : UpdateResult × rules.Bucket
  of_status = rules.update_status (settings_of c.args.b.bucket) (num c.args.node.node.key) (node_of c.args.node.node).connected (some (node_of c.args.node.node).incoming) (bucket_of c.args.b.bucket)

  -- the key is held
  held : rules.holds (num c.args.node.node.key) (bucket_of c.args.b.bucket) ≡ true
  held = ap is_some (get_found c.args.b.bucket (num c.args.node.node.key) c.position.ensures c.args.b.sound c.in-Some.is)

  -- the status's step, with the direction that is given
  of_step : Does (settings_of c.args.b.bucket) of_status (update_result_of c.update_status-stated.result.result) c.update_status-stated.result.bucket.bucket
  of_step = rw (c.status.ensures.0, c.status.ensures.1) at c.update_status-stated.ensures

pub returns-then-matches : goal.returns-then-matches
returns-then-matches c =
    let w = (goal.at.returns-then-matches c).After-update_status-stated in
    let failed : is_failed (update_result_of c.update_status-stated.result.result) ≡ true =
    elim c.match-matches.branch [
      | in-Failed v ↦ rw v.in-Failed.is refl
      | in_default-matches v ↦ clash c.if-matches.true v.matches-is
    ] in
    rw (insert_failed (settings_of c.args.b.bucket) c.args.fails c.args.time (node_of c.args.node.node) (bucket_of c.args.b.bucket) c.if-fails.false (held w) (ap is_failed (sym (of_step w).result_value) ∙ failed))
    (record { result_value = refl; becomes = (of_step w).becomes })

pub returns : goal.returns
returns c =
    let w = (goal.at.returns c).After-update_status-stated in
    let x = of_step w in
    let s = settings_of c.args.b.bucket in
    let k = num c.args.node.node.key in
    let v = value_of c.args.node.node.value in
    let fine : is_failed (update_result_of c.update_status-stated.result.result) ≡ false =
    elim c.match-matches.branch [
      | in-Failed u ↦ clash u.matches-is c.if-matches.false
      | in_default-matches u ↦ not_failed _ u.in_default-matches.not-Failed
    ] in
    let told : table_insert_result_of c.map-2.result.result ≡ insert_updates (update_result_of c.update_value.result.result) (update_result_of c.update_status-stated.result.result) = search search_rules in
    let told-value = rw c.value.ensures at c.update_value.ensures in
    let of_value = then_becomes x.becomes (λ (t : rules.BucketSettings) (m : rules.Bucket). (rules.update_value t k v m).1) told-value.becomes in
    rw (insert_both s c.args.fails c.args.time (node_of c.args.node.node) (bucket_of c.args.b.bucket) c.if-fails.false (held w) (ap is_failed (sym x.result_value) ∙ fine))
    (record {
      result_value =
          ap Answer.InsertOrUpdate
          (told ∙ rw (told-value.result_value ∙ steps.told x.becomes (λ (t : rules.BucketSettings) (m : rules.Bucket). (rules.update_value t k v m).0), x.result_value));
      becomes = subst (λ (y : SoundBucket). Becomes s (rules.update_value s k v (of_status w).1).1 y.bucket) (sym c.map-2.ensures.bucket) of_value;
    })
