use Rattle.std.proofs.Common.{refl, ◌∙◌, arith, rules}
use lib.ListN.{length-take, length-drop}
use Rattle.header.proofs.Queue.{pushed_record, pushed_nothing, whole_record}
use Rattle.header.proofs.push_record.Goals as goal

pub returns-in_default : goal.returns-in_default
returns-in_default c = rw c.in_default.is (pushed_nothing c.args.s.now c.told-s c.fits-s c.requires.s_value)

pub returns : goal.returns
returns c =
    let n = c.record_count-count in
    let e = c.in-Some in
    rw e.is (pushed_record c.args.s.now c.told-s (search rules) c.requires.s_value e.ended n.result _ _ n.ensures (omega (arith, n.ensures, rw e.is at c.requires.ended_len_bound)) refl (omega arith) (c.store_record.ensures ∙ whole_record _ e.ended (simp (length-take, length-drop) (omega (arith, c.told-s, n.ensures, rw e.is at c.requires.ended_len_bound)))))
