use Rattle.std.proofs.Common.{refl, ap, ◌∙◌, inl}
use Rattle.model.specs.Question.{is_pending}
use Rattle.entry.specs.declared.EntryKind as code
use Rattle.entry.specs.Kind as kind
use Rattle.entry.proofs.Kind.{kind_told, not_pending}
use Rattle.explain.proofs.Ends.{opened, refused_size, refused_entry, refused_kind, ends_at}
use Rattle.explain.proofs.explain_pending_update.Goals as goal

pub returns-in_err-s : goal.returns-in_err-s
returns-in_err-s c =
    let e = c.in_err-s.ensures in
    refused_size _ _ _ _ c.from_residual.result e.value e.ok_part (rw e.ok_part at c.as_array.ensures.cases) c.from_residual.ensures.1

pub returns-in_err-k : goal.returns-in_err-k
returns-in_err-k c =
    let same = rw c.in_ok-s.ensures.ok_part at c.as_array.ensures.cases in
    rw (← same.same) (refused_entry _ _ _ _ _ _ c.of.ensures.passes c.from_residual-in_err-k.ensures.1 c.in_err-k.ensures refl)

pub returns-in_default : goal.returns-in_default
returns-in_default c =
    let y = (opened _ c.of.ensures.passes c.of.ensures.value c.in_ok-k.ensures).0 in
    let same = rw c.in_ok-s.ensures.ok_part at c.as_array.ensures.cases in
    rw (← same.same)
    (refused_kind _ _ _ _ y refl (ap is_pending (kind_told y.1 c.load_bucket-stored.ensures c.kind_of.ensures.result_value) ∙ not_pending c.kind_of.result c.in_default.not-Pending))

pub returns : goal.returns
returns c =
    let y = (opened _ c.of.ensures.passes c.of.ensures.value c.in_ok-k.ensures).0 in
    let kind = ap is_pending (kind_told y.1 c.load_bucket-stored.ensures c.kind_of.ensures.result_value) ∙ ap (λ (q : code.EntryKind). is_pending (kind.kind_of q)) c.in-Pending.is in
    let same = rw c.in_ok-s.ensures.ok_part at c.as_array.ensures.cases in
    rw (← same.same) (ends_at _ _ _ _ y (inl refl) kind refl refl refl refl c.ended.ensures)
