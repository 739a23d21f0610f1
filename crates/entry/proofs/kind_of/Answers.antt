use mathlib.Core.Path.{refl, sym, ap, ◌∙◌}
use Rattle.node.proofs.Stored.{stored_codes}
use lib.ListN.{get_or}
use Rattle.key.specs.Key.{num}
use Rattle.node.specs.Node.{node_of, zero_node}
use Rattle.bucket.specs.Bucket.{pending_of, bucket_of}
use Rattle.bucket.proofs.Steps.{stored_at}
use Rattle.bucket.proofs.Held.{found, absent, get_found}
use Rattle.bucket.proofs.Answers.{pending_stored}
use Rattle.entry.proofs.Kind.{kind_held, kind_none, kind_pending, kind_other, status_codes}
use Rattle.entry.proofs.kind_of.Goals as goal

pub returns-in-Some : goal.returns-in-Some
returns-in-Some c =
    let b = c.args.b.now.bucket in
    let k = num c.args.key in
    let p = c.in-Some.pos in
    record {
      result_value = kind_held k (bucket_of b) (node_of (get_or b.nodes p zero_node)) (get_found b k c.position.ensures c.args.b.now.sound c.in-Some.is);
      result_value_2 = status_codes (get_or b.nodes p zero_node) (stored_codes _ (stored_at b c.args.b.now.sound p (found b k c.position.ensures c.in-Some.is).0));
    }

pub returns-in-Some-pending : goal.returns-in-Some-pending
returns-in-Some-pending c =
    let b = c.args.b.now.bucket in
    let k = num c.args.key in
    let none = absent b k c.position.ensures c.in_default.is in
    record {
      result_value = kind_pending k (bucket_of b) none _ (ap pending_of c.in-Some-pending.is) (sym c.eq.ensures ∙ c.if-eq.true);
      result_value_2 = status_codes c.in-Some-pending.pending.node (stored_codes _ (pending_stored b c.args.b.now.sound _ c.in-Some-pending.is));
    }

pub returns-in_default-pending : goal.returns-in_default-pending
returns-in_default-pending c =
    let b = c.args.b.now.bucket in
    let k = num c.args.key in
    let none = absent b k c.position.ensures c.in_default.is in
    record { result_value = kind_other k (bucket_of b) none _ (ap pending_of c.in-Some-pending.is) (sym c.eq.ensures ∙ c.if-eq.false); result_value_2 = refl }

pub returns-in_default-pending-2 : goal.returns-in_default-pending-2
returns-in_default-pending-2 c =
    let b = c.args.b.now.bucket in
    let k = num c.args.key in
    let none = absent b k c.position.ensures c.in_default.is in
    record { result_value = kind_none k (bucket_of b) none (ap pending_of c.in_default-pending.is); result_value_2 = refl }
