use Rattle.std.proofs.Common.{length, sym, rules}
use Rattle.model.specs.Bytes.{Bytes}
use Rattle.on_key.proofs.Ended.{size_told}
use Rattle.items.proofs.Asked.{lists_refused}
use Rattle.distances.proofs.Answers.{passed_early, refused_size, refused_early, refused_malformed, refused_full, queue_room, taken_formed, taken_room, taken_records, formed_left, lists_found}
use Rattle.distances.proofs.nodes_by_distances.Goals as goal
use Rattle.distances.proofs.nodes_by_distances.Goals.{In_ok-s}

-- what stands in the storage are bytes
known : (c : In_ok-s) → Bytes c.in_ok-s.s.now
known c i = search rules

pub returns-in_err-s : goal.returns-in_err-s
returns-in_err-s c =
    let a = c.args in
    let v = c.in_err-s.ensures in
    lists_refused _ _ c.from_residual.ensures.1
    (rw (size_told v.value v.ok_part) (refused_size a.s.now a.distances.now a.n a.time a.out.now (rw v.ok_part at c.as_mut_array.ensures.cases)))

pub returns-in_err-asked_early : goal.returns-in_err-asked_early
returns-in_err-asked_early c =
    let a = c.args in
    let w = rw c.in_ok-s.ensures.ok_part at c.as_mut_array.ensures.cases in
    rw (← w.same)
    (lists_refused _ _ c.from_residual-in_err-asked_early.ensures.1 (refused_early c.in_ok-s.s.now a.distances.now a.n a.time a.out.now _ (sym c.in_err-asked_early.ensures)))

pub survey-requires : goal.survey-requires
survey-requires c =
    let a = c.args in
    let p = passed_early a.time a.n (length a.out.now) c.in_ok-s.s.now (sym c.in_ok-asked_early.ensures) in
    record { header = p.header; n_le_max_count = p.few }

pub returns-in_err-tally : goal.returns-in_err-tally
returns-in_err-tally c =
    let a = c.args in
    let t = c.in_err-tally.ensures in
    let w = rw c.in_ok-s.ensures.ok_part at c.as_mut_array.ensures.cases in
    rw (← w.same)
    (lists_refused _ _ c.from_residual-in_err-tally.ensures.1
    (rw t.1 (refused_malformed c.in_ok-s.s.now a.distances.now a.n a.time a.out.now (sym c.in_ok-asked_early.ensures) t.0)))

pub asked_queue-requires : goal.asked_queue-requires
asked_queue-requires c = (passed_early c.args.time c.args.n (length c.args.out.now) c.in_ok-s.s.now (sym c.in_ok-asked_early.ensures)).header

pub returns-in_err-asked_queue : goal.returns-in_err-asked_queue
returns-in_err-asked_queue c =
    let a = c.args in
    let y = c.in_ok-tally.ensures in
    let w = rw c.in_ok-s.ensures.ok_part at c.as_mut_array.ensures.cases in
    rw (← w.same)
    (lists_refused _ _ c.from_residual-in_err-asked_queue.ensures.1
    (refused_full c.in_ok-s.s.now a.distances.now a.n a.time a.out.now (sym c.in_ok-asked_early.ensures) y.formed y.pass.given _ c.in_err-asked_queue.ensures))

pub apply_pass-requires : goal.apply_pass-requires
apply_pass-requires c =
    let a = c.args in
    let s = c.in_ok-s.s.now in
    let ds = a.distances.now in
    let e = sym c.in_ok-asked_early.ensures in
    let p = passed_early a.time a.n (length a.out.now) s e in
    let y = c.in_ok-tally.ensures in
    let q = queue_room s ds a.n a.time a.out.now y.pass.given c.in_ok-asked_queue.ensures in
    record {
      header = p.header;
      taken_value = taken_formed s ds a.n a.time a.out.now e y.formed q _ y.pass.buckets y.pass.given;
      s_len_bound = taken_room s ds a.n a.time a.out.now e y.formed q _ y.pass.buckets y.pass.given;
      records_value = taken_records s ds a.n a.time a.out.now e y.formed q _ y.pass.buckets y.pass.given;
    }

pub put_all-requires : goal.put_all-requires
put_all-requires c =
    let a = c.args in
    let s = c.in_ok-s.s.now in
    let ds = a.distances.now in
    let b = known (goal.at.put_all-requires c).In_ok-s in
    let e = sym c.in_ok-asked_early.ensures in
    let p = passed_early a.time a.n (length a.out.now) s e in
    let y = c.in_ok-tally.ensures in
    let q = queue_room s ds a.n a.time a.out.now y.pass.given c.in_ok-asked_queue.ensures in
    record {
      distances_value = formed_left s ds a.n a.time a.out.now e y.formed q _ y.pass.buckets y.pass.given b c.apply_pass.ensures;
      node_size_in_bounds = rw c.at_least_one.ensures p.fit;
    }

pub returns : goal.returns
returns c =
    let a = c.args in
    let s = c.in_ok-s.s.now in
    let ds = a.distances.now in
    let b = known (goal.at.returns c).In_ok-s in
    let e = sym c.in_ok-asked_early.ensures in
    let y = c.in_ok-tally.ensures in
    let q = queue_room s ds a.n a.time a.out.now y.pass.given c.in_ok-asked_queue.ensures in
    let x = c.put_all.ensures in
    let w = rw c.in_ok-s.ensures.ok_part at c.as_mut_array.ensures.cases in
    rw (← w.same)
    (lists_found s ds a.n a.time a.out.now e y.formed q _ y.pass.buckets y.pass.given b c.apply_pass.ensures (rw c.at_least_one.ensures at x.value) (rw c.at_least_one.ensures at x.out_after))
