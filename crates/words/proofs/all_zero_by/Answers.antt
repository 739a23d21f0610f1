use Rattle.std.proofs.Common.{ℕ, ◌≡◌, ◌+◌, ◌*◌, ◌/◌, ◌≤◌, List, length, get_or, sym, ap, ◌∙◌, arith}
use Rattle.std.proofs.Math.Nat.{div-mul-le_self, mod-eq-sub-div-mul, mod-lt}
use Rattle.model.specs.Formed.{are_zero}
use Rattle.laws.proofs.Parts.{slot_before}
use Rattle.words.proofs.Zero.{zero_none, zero_more, zero_fails, zero_last, zero_whole, step_bytes, last_bytes}
use Rattle.words.proofs.all_zero_by.Goals as goal

pub as_chunks-requires : goal.as_chunks-requires
as_chunks-requires g c = (omega arith, c.requires.0)

pub loop-step-init : goal.loop-step-init
loop-step-init g c = let e : 0 * g.row.STEP ≡ 0 = omega arith in rw e (zero_none _ _)

pub returns-then-not-all_zero : goal.returns-then-not-all_zero
returns-then-not-all_zero g c =
    let s = c.args.s.now in
    let n = g.row.STEP in
    let i = c.loop-step.step-index in
    let x = c.step-item.result in
    let within : i * n + n ≤ length s = omega (arith, slot_before i (length s / n) n (omega arith), div-mul-le_self (length s) n) in
    let z = step_bytes n (length s / n) i s x (omega arith) (c.step-item.is ∙ ap (λ (l : List (List ℕ)). get_or l i x) c.as_chunks.ensures.front) within in
    sym (zero_whole s (length s) (omega arith) ∙ zero_fails s 0 (length s) (i * n) n within (sym z ∙ sym c.all_zero-in-loop-step.ensures ∙ c.if-not-all_zero.true))

pub loop-step-preserved : goal.loop-step-preserved
loop-step-preserved g c =
    let s = c.args.s.now in
    let n = g.row.STEP in
    let i = c.loop-step.step-index in
    let x = c.step-item.result in
    let within : i * n + n ≤ length s = omega (arith, slot_before i (length s / n) n (omega arith), div-mul-le_self (length s) n) in
    let z = step_bytes n (length s / n) i s x (omega arith) (c.step-item.is ∙ ap (λ (l : List (List ℕ)). get_or l i x) c.as_chunks.ensures.front) within in
    let e : (i + 1) * n ≡ i * n + n = omega arith in
    ap (are_zero s 0) e ∙ zero_more s 0 (i * n) n c.loop-step.invariant (sym z ∙ sym c.all_zero-in-loop-step.ensures ∙ c.if-not-all_zero.false)

pub returns : goal.returns
returns g c =
    let s = c.args.s.now in
    let n = g.row.STEP in
    let k = length s / n in
    let e : c.loop-step.step-index ≡ k = omega arith in
    let behind : length s ≤ k * n + n = omega (arith, mod-eq-sub-div-mul (length s) n, mod-lt (length s) {m = n} c.requires.0) in
    let last = c.in-Some.ensures.cases in
    c.all_zero-2.ensures ∙ last_bytes n s last.1.same last.0
    ∙ sym (zero_whole s (length s) (omega arith) ∙ zero_last s 0 (length s) (k * n) n (rw e at c.loop-step.invariant) last.0 behind)
