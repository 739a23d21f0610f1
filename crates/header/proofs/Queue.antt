-- What pushing a record and dropping the oldest do to the header's bytes, and a record as it is read.
use mathlib.Core.Path.{◌≡◌, refl, sym, ap, ◌∙◌}
use mathlib.Core.Bool.{true}
use mathlib.Core.List.{List, [], ◌∷◌, ◌++◌, append_assoc, append-nil}
use mathlib.Core.Option.{none, some}
use Prim.Native.Nat.{ℕ, ◌+◌, ◌*◌, ◌-◌, ◌≤◌, ◌<◌}
use native.Mathlib.Omega.{arith}
use lib.Dec.{eqb}
use borrow.Author.Tests.{ne_eqb}
use Rattle.std.specs.Prelude.{Some, None}
use borrow.Rule.Slice.PartMut.{put_mid}
use lib.ListN.{length, take, drop, get_or, set, length-append, length-take, length-drop, length-replicate, take-append-drop}
use lib.Seq.{take-suc}
use Rattle.model.specs.Base.{joined, tabulate}
use Rattle.model.specs.Bytes.{number, bytes, part, splice, zeros, Bytes}
use Rattle.model.specs.Node.{Ending, EndedPending, evicted_in}
use Rattle.model.specs.Table.{Settings, with_queue, max_records}
use Rattle.model.specs.Sizes.{key_size, node_size, record_size, record_count_at, padding_size, records_at, record_at, header_size, storage_size}
use Rattle.model.specs.Layout.{evicting_kind, ending_kind, evicted_bytes, record_bytes, header_bytes, ending_of, ending_in, record_in, record_part, table_of}
use Rattle.model.specs.Formed.{record_formed, header_formed}
use Rattle.laws.proofs.Tests.{cases}
use Rattle.laws.proofs.Lists.{joined_snoc, length_tabulate, get_d_tabulate}
use Rattle.laws.proofs.Parts.{length_part, length_splice, set_splice, splice_part, splice_next, part_part, part_between}
use Rattle.laws.proofs.Shifts.{splice_between}
use Rattle.laws.proofs.Bytes.{length_bytes}
use Rattle.laws.proofs.NodeBytes.{length_evicted, length_record}
use Rattle.laws.proofs.HeaderBytes.{length_records, length_header}
use Rattle.laws.proofs.HeaderBack.{checked_header, header_back, queue_fits_lem, length_queue}
use Rattle.key.specs.declared.Key.{Key}
use Rattle.key.specs.Key.{num}
use Rattle.key.proofs.Bytes.{splice_all}
use Rattle.words.proofs.Words.{set_more, put_mid_splice}
use Rattle.node.specs.declared.Node as stored
use Rattle.node.specs.Node.{node_of, node_codes}
use Rattle.bucket.specs.declared.ending.Ending as code
use Rattle.bucket.specs.declared.ending.Ending.TheVariants as ending
use Rattle.bucket.specs.declared.ending.EndedPending as ended
use Rattle.bucket.specs.Ending as endings
use Rattle.bucket.specs.Calls.{records_of}
use Rattle.storage.specs.Read.{read_node}
use Rattle.storage.proofs.Bytes.{node_of_read, codes_read}
use Rattle.header.specs.Queue.{requeued}
use Rattle.header.proofs.Runs.{splice_front, blank, blank_is, blank_add, length_blank}
use Rattle.header.proofs.Header.{front_bytes, length_front, parts_of, header_parts}

-- a further record
module _ (s : Settings) (q : List EndedPending) (r : EndedPending) (n : ℕ) (m : n ≡ length q) (l : n < max_records) where
  parts_pushed : splice (splice (parts_of s q) (record_at n) (record_bytes r)) record_count_at ((n + 1) ∷ []) ≡ parts_of s (q ++ (r ∷ []))
  parts_pushed =
      let v : List ℕ = record_bytes r in
      let f : List ℕ = front_bytes s in
      let j : List ℕ = blank padding_size ++ joined record_bytes q in
      let k : ℕ = (max_records - (n + 1)) * record_size in
      let z : blank ((max_records - n) * record_size) ≡ blank record_size ++ blank k = ap blank (omega arith) ∙ blank_add record_size k in
      let a : length (f ++ ((n ∷ []) ++ j)) ≡ record_at n = simp (length-append, length_bytes, length_blank) (omega (arith, length_records q)) in
      let h : parts_of s q ≡ (f ++ ((n ∷ []) ++ j)) ++ (blank record_size ++ blank k) = rw (← m, z) (simp append_assoc) in
      let g : parts_of s (q ++ (r ∷ [])) ≡ f ++ (((n + 1) ∷ []) ++ (j ++ (v ++ blank k))) =
      rw (length-append q (r ∷ []), ← m, joined_snoc record_bytes q r) (simp append_assoc) in
      ap (λ (x : List ℕ). splice (splice x (record_at n) v) record_count_at ((n + 1) ∷ [])) h
      ∙ ap (λ (x : List ℕ). splice x record_count_at ((n + 1) ∷ [])) (splice_between (f ++ ((n ∷ []) ++ j)) (blank record_size) (blank k) v (record_at n) a (length_blank record_size ∙ sym (length_record r)) ∙ simp append_assoc)
      ∙ splice_between f (n ∷ []) (j ++ (v ++ blank k)) ((n + 1) ∷ []) record_count_at (length_front s) refl
      ∙ sym g

-- the queue without its first record: the others stand a record further to the front, and z stands in the place that they leave
parts_dropped : (s : Settings) (q : List EndedPending) (n : ℕ) → n + 1 ≡ length q → n < max_records → (z : List ℕ) → z ≡ blank record_size
    → splice (splice (splice (parts_of s q) records_at (part (parts_of s q) (records_at + record_size) (n * record_size))) (record_at n) z) record_count_at (n ∷ [])
    ≡ parts_of s (drop 1 q)
unfolding joined
parts_dropped s [] n m l z o = absurd (never m)
  where
    never : n + 1 ≡ 0 → ⊥
    never e = omega arith
parts_dropped s (r ∷ q) n m l z o =
    let f : List ℕ = front_bytes s in
    let p : List ℕ = record_bytes r in
    let j : List ℕ = joined record_bytes q in
    let c : length q ≡ n = omega arith in
    let d : length j ≡ n * record_size = length_records q ∙ ap (λ (x : ℕ). x * record_size) c in
    let b : List ℕ = blank ((max_records - length (r ∷ q)) * record_size) in
    let x : List ℕ = take (length j) (p ++ j) in
    let y : List ℕ = drop (length j) (p ++ j) in
    let v : length (p ++ j) ≡ record_size + length j = length-append p j ∙ ap (λ (i : ℕ). i + length j) (length_record r) in
    let lx : length x ≡ length j = simp length-take (omega arith) in
    let ly : length y ≡ length z = simp length-drop (omega (arith, ap length o, length_blank record_size)) in
    let k : List ℕ = length (r ∷ q) ∷ [] in
    let g : List ℕ = blank padding_size in
    let h : parts_of s (r ∷ q) ≡ (f ++ (k ++ g)) ++ (x ++ (y ++ b)) =
    rw (← append_assoc x y b, take-append-drop (length j) (p ++ j)) (simp append_assoc) in
    let u : part (parts_of s (r ∷ q)) (records_at + record_size) (n * record_size) ≡ j =
    ap (λ (i : List ℕ). part i (records_at + record_size) (n * record_size)) (simp append_assoc)
    ∙ part_between (f ++ (k ++ (g ++ p))) j b (records_at + record_size) (n * record_size) (simp (length-append, length_bytes, length_blank) (omega (arith, length_record r))) d in
    let first : splice (parts_of s (r ∷ q)) records_at j ≡ (f ++ (k ++ (g ++ j))) ++ (y ++ b) =
    rw (h, splice_between (f ++ (k ++ g)) x (y ++ b) j records_at (simp (length-append, length_bytes, length_blank) (omega arith)) lx) (simp append_assoc) in
    let second : splice ((f ++ (k ++ (g ++ j))) ++ (y ++ b)) (record_at n) z ≡ f ++ (k ++ (g ++ (j ++ (z ++ b)))) =
    rw (splice_between (f ++ (k ++ (g ++ j))) y b z (record_at n) (simp (length-append, length_bytes, length_blank) (omega arith)) ly) (simp append_assoc) in
    let last : z ++ b ≡ blank ((max_records - n) * record_size) =
    rw (o, ← blank_add record_size ((max_records - length (r ∷ q)) * record_size)) (ap blank (omega arith)) in
    rw (u, first, second, splice_between f k (g ++ (j ++ (z ++ b))) (n ∷ []) record_count_at (length_front s) refl, last, c)

one_joined : (r : EndedPending) → joined record_bytes (r ∷ []) ≡ record_bytes r
unfolding joined
one_joined r = append-nil (record_bytes r)

-- the record of an ended pending, as it is put into a run that is as long: key, kind, and then the evicted node or zero bytes
module _ (s : List ℕ) (e : ended.EndedPending) (l : length s ≡ record_size) {k : List ℕ} {x : ℕ} (ek : k ≡ bytes key_size (num e.key)) (ex : x ≡ ending_kind (endings.ending_of e.ending)) where
  abbrev kind_put : List ℕ
  kind_put = set (put_mid 0 32 s k) 32 x

  kind_is : kind_put ≡ splice s 0 (bytes key_size (num e.key) ++ (x ∷ []))
  kind_is = set_more s 0 32 (bytes key_size (num e.key)) x (put_mid_splice s 0 32 ek (length_bytes key_size _)) (length_bytes key_size _) (omega arith)

  pub record_put : {v w : List ℕ} → v ≡ w → w ≡ evicted_bytes (evicted_in (endings.ending_of e.ending)) → put_mid 33 47 kind_put v ≡ joined record_bytes (records_of (Some e))
  unfolding record_bytes
  record_put {v} {w} ev ew =
      let b : List ℕ = bytes key_size (num e.key) in
      let r : EndedPending = record { key = num e.key; ending = endings.ending_of e.ending } in
      let n : length w ≡ node_size = ap length ew ∙ length_evicted (evicted_in r.ending) in
      put_mid_splice kind_put 33 47 ev n
      ∙ ap (λ (t : List ℕ). splice t 33 w) kind_is
      ∙ splice_next s 0 33 (b ++ (x ∷ [])) w (simp (length-append, length_bytes)) (omega arith)
      ∙ ap (splice s 0) (rw (ex, ew) (simp append_assoc))
      ∙ splice_all s (record_bytes r) (l ∙ sym (length_record r))
      ∙ sym (one_joined r)

  pub plain_put : {v : List ℕ} → v ≡ zeros (length (take 47 (drop 33 kind_put))) → zeros node_size ≡ evicted_bytes (evicted_in (endings.ending_of e.ending))
      → put_mid 33 47 kind_put v ≡ joined record_bytes (records_of (Some e))
  plain_put ev ew =
      let b : List ℕ = bytes key_size (num e.key) ++ (x ∷ []) in
      let m : length b ≡ 33 = simp (length-append, length_bytes) in
      let n : length kind_put ≡ record_size = ap length kind_is ∙ length_splice s 0 b (omega arith) ∙ l in
      let o : length (take 47 (drop 33 kind_put)) ≡ node_size = simp (length-take, length-drop) (omega arith) in
      record_put (ev ∙ ap zeros o) ew

-- a record written into a run that is as long
pub whole_record : (s : List ℕ) (e : ended.EndedPending) → length s ≡ record_size → splice s 0 (joined record_bytes (records_of (Some e))) ≡ joined record_bytes (records_of (Some e))
whole_record s e l =
    let r : EndedPending = record { key = num e.key; ending = endings.ending_of e.ending } in
    splice_all s (joined record_bytes (records_of (Some e))) (l ∙ sym (ap length (one_joined r) ∙ length_record r))

-- an ending that names no node
pub no_evicted : (e : code.Ending) → ((n : stored.Node) → e ≡ ending.Placed (Some n) → ⊥) → zeros node_size ≡ evicted_bytes (evicted_in (endings.ending_of e))
no_evicted (ending.Placed None) h = refl
no_evicted (ending.Placed (Some n)) h = absurd (h n refl)
no_evicted ending.FirstConnected h = refl
no_evicted ending.BucketFilter h = refl
no_evicted ending.TooManyIncoming h = refl
no_evicted ending.Inserted h = refl
no_evicted ending.FirstConfirmed h = refl

-- an ending of a kind alone names no node, so its codes are in range
plain_evicts_none : (k : ℕ) → evicted_in (ending_of k) ≡ none
plain_evicts_none k =
    let N : Ending → Type 0 = λ x. evicted_in x ≡ none in
    cases N (eqb k 2) (λ _. refl)
    (λ _. cases N (eqb k 3) (λ _. refl) (λ _. cases N (eqb k 4) (λ _. refl) (λ _. cases N (eqb k 5) (λ _. refl) (λ _. cases N (eqb k 6) (λ _. refl) (λ _. refl)))))

pub plain_codes : (e : code.Ending) (k : ℕ) → endings.ending_of e ≡ ending_of k → endings.ending_codes e ≡ true
plain_codes (ending.Placed None) k h = refl
plain_codes (ending.Placed (Some n)) k h =
    let z : some (node_of n) ≡ none = ap evicted_in h ∙ plain_evicts_none k in
    absurd (let y : ◌≡◌ {A = ℕ} 0 1 = cc in omega arith)
plain_codes ending.FirstConnected k h = refl
plain_codes ending.BucketFilter k h = refl
plain_codes ending.TooManyIncoming k h = refl
plain_codes ending.Inserted k h = refl
plain_codes ending.FirstConfirmed k h = refl

-- a record as it is read
module _ (bs : List ℕ) where
  pub loaded : (k : Key) → num k ≡ number (part bs 0 key_size) → (x : Ending) → x ≡ ending_in bs
      → ◌≡◌ {A = List EndedPending} (record { key = num k; ending = x } ∷ []) (record_in bs ∷ [])
  unfolding record_in
  loaded k e x o = rw (e, o)

  -- of a kind without an evicted node
  pub loaded_plain : (get_or bs key_size 0 ≡ evicting_kind → ⊥) → ending_of (get_or bs key_size 0) ≡ ending_in bs
  loaded_plain n = rw (ne_eqb (get_or bs key_size 0) evicting_kind n)

  -- of the kind with one
  module _ (v : stored.Node) (o : v ≡ read_node (part bs (key_size + 1) node_size)) (n : get_or bs key_size 0 ≡ evicting_kind) where
    pub loaded_evicted : Ending.Placed (some (node_of v)) ≡ ending_in bs
    loaded_evicted = rw (n, o, node_of_read (part bs (key_size + 1) node_size))

    pub evicted_codes : record_formed bs ≡ true → node_codes v ≡ true
    unfolding record_formed
    evicted_codes h = rw (o, codes_read (part bs (key_size + 1) node_size)) (rw n at h)

-- on formed storage
module _ (s : List ℕ) (l : length s ≡ storage_size) (h : Bytes s) (f : header_formed s ≡ true) where
  abbrev header : List ℕ
  header = header_bytes (table_of s)

  pub at_most : length (table_of s).queue ≤ max_records
  at_most = queue_fits_lem s (omega arith) h f

  length_of_header : length header ≡ header_size
  length_of_header = length_header (table_of s) at_most

  fits : length header ≤ length s
  fits = omega (arith, length_of_header)

  header_is : header ≡ part s 0 header_size
  header_is = header_back s (omega arith) h f

  front_back : splice s 0 header ≡ s
  front_back = rw header_is (splice_part s 0 header_size (omega arith))

  pushed : (r : EndedPending) (n : ℕ) → n ≡ length (table_of s).queue → n < max_records
      → splice (splice s (record_at n) (record_bytes r)) record_count_at ((n + 1) ∷ []) ≡ requeued ((table_of s).queue ++ (r ∷ [])) s
  pushed r n m i =
      let v : List ℕ = record_bytes r in
      let w : length v ≡ record_size = length_record r in
      let g : length (splice header (record_at n) v) ≡ header_size = length_splice header (record_at n) v (omega (arith, length_of_header)) ∙ length_of_header in
      ap (λ (x : List ℕ). splice (splice x (record_at n) v) record_count_at ((n + 1) ∷ [])) (sym front_back)
      ∙ ap (λ (x : List ℕ). splice x record_count_at ((n + 1) ∷ [])) (splice_front s header (record_at n) v (omega (arith, length_of_header)) fits)
      ∙ splice_front s (splice header (record_at n) v) record_count_at ((n + 1) ∷ []) (omega arith) (omega arith)
      ∙ ap (splice s 0)
      (ap (λ (x : List ℕ). splice (splice x (record_at n) v) record_count_at ((n + 1) ∷ [])) (header_parts (table_of s))
      ∙ parts_pushed (table_of s).settings (table_of s).queue r n m i ∙ sym (header_parts (with_queue ((table_of s).queue ++ (r ∷ [])) (table_of s))))

  -- the record of an ended pending, put behind the others and counted
  pub pushed_record : (e : ended.EndedPending) (n at to : ℕ) {v : List ℕ} → n ≡ length (table_of s).queue → n < max_records → at ≡ record_at n → to - at ≡ record_size
      → v ≡ joined record_bytes (records_of (Some e))
      → set (put_mid at (to - at) s v) record_count_at (n + 1) ≡ requeued ((table_of s).queue ++ records_of (Some e)) s
  pushed_record e n at to {v} m i j k ev =
      let r : EndedPending = record { key = num e.key; ending = endings.ending_of e.ending } in
      let p : put_mid at (to - at) s v ≡ splice s (record_at n) (record_bytes r) =
      put_mid_splice s at (to - at) (ev ∙ one_joined r) (length_record r ∙ sym k) ∙ ap (λ (x : ℕ). splice s x (record_bytes r)) j in
      let w : length (splice s (record_at n) (record_bytes r)) ≡ length s = length_splice s (record_at n) (record_bytes r) (omega (arith, length_record r)) in
      rw p (set_splice (splice s (record_at n) (record_bytes r)) record_count_at (n + 1) (omega arith) ∙ pushed r n m i)

  pub pushed_nothing : s ≡ requeued ((table_of s).queue ++ []) s
  pushed_nothing = sym front_back ∙ ap (λ (q : List EndedPending). requeued q s) (sym (append-nil (table_of s).queue))

  dropped : (n : ℕ) → n + 1 ≡ length (table_of s).queue → n < max_records
      → splice (splice (splice s records_at (part s (records_at + record_size) (n * record_size))) (record_at n) (zeros record_size)) record_count_at (n ∷ [])
      ≡ requeued (drop 1 (table_of s).queue) s
  dropped n m i =
      let p : List ℕ = part header (records_at + record_size) (n * record_size) in
      let e : part s (records_at + record_size) (n * record_size) ≡ p =
      sym (ap (λ (x : List ℕ). part x (records_at + record_size) (n * record_size)) header_is ∙ part_part s 0 header_size (records_at + record_size) (n * record_size) (omega arith)) in
      let w : length p ≡ n * record_size = length_part header (records_at + record_size) (n * record_size) (omega (arith, length_of_header)) in
      let a : List ℕ = splice header records_at p in
      let g : length a ≡ header_size = length_splice header records_at p (omega (arith, length_of_header)) ∙ length_of_header in
      let b : List ℕ = splice a (record_at n) (zeros record_size) in
      let k : length b ≡ header_size = length_splice a (record_at n) (zeros record_size) (omega arith) ∙ g in
      rw e
      (ap (λ (x : List ℕ). splice (splice (splice x records_at p) (record_at n) (zeros record_size)) record_count_at (n ∷ [])) (sym front_back)
      ∙ ap (λ (x : List ℕ). splice (splice x (record_at n) (zeros record_size)) record_count_at (n ∷ [])) (splice_front s header records_at p (omega (arith, length_of_header)) fits)
      ∙ ap (λ (x : List ℕ). splice x record_count_at (n ∷ [])) (splice_front s a (record_at n) (zeros record_size) (omega arith) (omega arith))
      ∙ splice_front s b record_count_at (n ∷ []) (omega arith) (omega arith)
      ∙ ap (splice s 0)
      (ap (λ (x : List ℕ). splice (splice (splice x records_at (part x (records_at + record_size) (n * record_size))) (record_at n) (zeros record_size)) record_count_at (n ∷ [])) (header_parts (table_of s))
      ∙ parts_dropped (table_of s).settings (table_of s).queue n m i (zeros record_size) (blank_is record_size) ∙ sym (header_parts (with_queue (drop 1 (table_of s).queue) (table_of s)))))

  -- the records behind the first moved down, the place that they leave zero, and one less counted
  pub dropped_first : (n at to : ℕ) (d z : List ℕ) → n + 1 ≡ length (table_of s).queue → n < max_records → at ≡ record_at n → to ≡ at + record_size
      → put_mid records_at (to - records_at) s d ≡ splice s records_at (part s (records_at + record_size) (to - records_at - record_size))
      → z ≡ zeros (length (take (to - at) (drop at (put_mid records_at (to - records_at) s d))))
      → set (put_mid at (to - at) (put_mid records_at (to - records_at) s d) z) record_count_at n ≡ requeued (drop 1 (table_of s).queue) s
  dropped_first n at to d z m i j k e f =
      let p : List ℕ = part s (records_at + record_size) (n * record_size) in
      let a : List ℕ = splice s records_at p in
      let w : length p ≡ n * record_size = length_part s (records_at + record_size) (n * record_size) (omega arith) in
      let x : length a ≡ length s = length_splice s records_at p (omega arith) in
      let c : to - records_at - record_size ≡ n * record_size = omega arith in
      let e0 : put_mid records_at (to - records_at) s d ≡ a = e ∙ ap (λ (y : ℕ). splice s records_at (part s (records_at + record_size) y)) c in
      let b : List ℕ = splice a (record_at n) (zeros record_size) in
      let g : length (take (to - at) (drop at a)) ≡ record_size = simp (length-take, length-drop) (omega arith) in
      let h : z ≡ zeros record_size = rw e0 at f ∙ ap zeros g in
      let e1 : put_mid at (to - at) a z ≡ b = put_mid_splice a at (to - at) h (length-replicate {A = ℕ} record_size 0 ∙ omega arith) ∙ ap (λ (y : ℕ). splice a y (zeros record_size)) j in
      let y : length b ≡ length a = length_splice a (record_at n) (zeros record_size) (omega arith) in
      rw (e0, e1) (set_splice b record_count_at n (omega arith) ∙ dropped n m i)

  -- the oldest record
  pub oldest : 0 < length (table_of s).queue → take 1 (table_of s).queue ≡ record_in (part s records_at record_size) ∷ []
  unfolding table_of
  oldest i =
      let k : ℕ = get_or s record_count_at 0 in
      let d : EndedPending = record_in [] in
      let g : ℕ → EndedPending = λ j. record_in (record_part s j) in
      take-suc (tabulate k g) 0 d i ∙ ap (λ (x : EndedPending). x ∷ []) (get_d_tabulate k g 0 d (rw length_tabulate at i))

  pub oldest_formed : 0 < length (table_of s).queue → record_formed (part s records_at record_size) ≡ true
  oldest_formed i = (checked_header s f).records 0 (rw (length_queue s (omega arith) h f) at i)

  -- an empty queue
  pub none_left : length (table_of s).queue ≡ 0 → (take 1 (table_of s).queue ≡ []) × (s ≡ requeued (drop 1 (table_of s).queue) s)
  none_left e =
      let d : (table_of s).queue ≡ [] = no_records (table_of s).queue e in
      (rw d, sym front_back ∙ ap (λ (q : List EndedPending). requeued q s) (rw d))
    where
      no_records : (q : List EndedPending) → length q ≡ 0 → q ≡ []
      no_records [] i = refl
      no_records (r ∷ q) i = absurd (never i)
        where
          never : length (r ∷ q) ≡ 0 → ⊥
          never o = omega arith
