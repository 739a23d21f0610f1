use Rattle.std.proofs.Common.{rules, ◌≡◌, sym, ◌∙◌, Some}
use Rattle.model.specs.Base.{joined}
use Rattle.laws.proofs.Parts.{splice_nil}
use Rattle.header.proofs.Queue.{record_put, plain_put, whole_record, no_evicted}
use Rattle.header.proofs.store_record.Goals as goal
use Rattle.header.proofs.store_record.Goals.{in_default-ending-via-in-Placed+in_default, in_default-ending-via-in_default}

pub returns-in_default : goal.returns-in_default
unfolding joined
returns-in_default c = rw c.in_default.is (sym (splice_nil c.args.s.now 0))

pub returns-in-Placed-Some : goal.returns-in-Placed-Some
returns-in-Placed-Some c =
    let p = c.in-Placed-Some in
    let d = c.in-Some.it in
    let e : p.field-0 ≡ Some p.node = rw p.is at p.field-0-is in
    rw c.in-Some.is (record_put c.args.s.now d c.requires c.store.ensures c.kind.ensures c.store_node.ensures (rw (p.is, e)) ∙ sym (whole_record c.args.s.now d c.requires))

pub returns-in_default-ending : goal.returns-in_default-ending
returns-in_default-ending c =
    let d = c.in-Some.it in
    let put = plain_put c.args.s.now d c.requires c.store.ensures c.kind.ensures c.put_zeros.ensures in
    let whole = sym (whole_record c.args.s.now d c.requires) in
    rw c.in-Some.is (elim c.in_default-ending.branch [
      | in_default-ending-via-in-Placed+in_default w ↦ put (no_evicted d.ending (λ n e. search rules)) ∙ whole
      | in_default-ending-via-in_default w ↦ put (no_evicted d.ending (λ n e. search rules)) ∙ whole
    ])
