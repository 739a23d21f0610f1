-- What is read of a bucket's bytes, place by place, is what is stored of the bucket that they are.
use mathlib.Core.Path.{◌≡◌, refl, sym, ap, ◌∙◌}
use mathlib.Core.Bool.{Bool, true, false}
use mathlib.Core.List.{List, [], ◌∷◌, ◌++◌, map, append_assoc}
use Prim.Native.Nat.{ℕ, suc, ◌+◌, ◌-◌, ◌≤◌, ◌<◌}
use native.Mathlib.Omega.{arith}
use Rattle.std.specs.Prelude.{Option}
use lib.ListN.{length, get_or, set, replicate, length-append}
use lib.Seq.{set-append_seam}
use lib.Dec.{eqb, leb}
use borrow.Author.Tests.{eqb-true, le-leb}
use Rattle.model.specs.Base.{tabulate}
use Rattle.model.specs.Bytes.{part, Bytes}
use Rattle.model.specs.Bucket.{BucketSettings, max_nodes_per_bucket, nodes}
use Rattle.model.specs.Sizes.{key_size, value_size, node_size, pending_at, bucket_size}
use Rattle.model.specs.Layout.{value_in, node_in, place_in, nodes_in, pending_in, bucket_in, settings_in, bucket_part, table_of}
use Rattle.model.specs.Formed as formed
use Rattle.model.specs.Fits.{All}
use Rattle.laws.proofs.Tests.{split, and_left, and_right}
use Rattle.laws.proofs.Lists.{length_tabulate, map_tabulate, tabulate_one_more, tabulate_ext, conj_gives, conj_if}
use Rattle.laws.proofs.NodeFormed.{flag_back}
use Rattle.laws.proofs.BucketFormed.{Checked, checked, checked_if}
use Rattle.laws.proofs.BucketBack.{nodes_in_lem, count_in, first_in, pending_of_lem, bucket_good}
use Rattle.node.specs.declared.Node.{Node}
use Rattle.node.specs.Node.{stored_value, stored_node, zero_node}
use Rattle.node.proofs.Stored.{stored_value_of}
use Rattle.places.specs.Places.{padded}
use Rattle.storage.specs.Read.{read_value, read_node}
use Rattle.storage.proofs.Bytes.{value_of_read, codes_read, codes_value}
use Rattle.bucket.specs.declared.PendingNode.{PendingNode}
use Rattle.bucket.specs.declared.KBucket.{KBucket}
use Rattle.bucket.specs.Bucket.{stored_pending, Becomes}
use Rattle.bucket.proofs.Stored.{same_parts}
use Rattle.bucket.proofs.Sound.{becomes}
use Rattle.bucket.specs.declared.settings.Settings.{Settings}
use Rattle.bucket.specs.Settings.{settings_of, stored_settings}
use Rattle.buckets.specs.Read.{read_places, read_pending, sound_bytes}

-- the places, filled one after the other

padded_next : (xs : List Node) (x : Node) → length xs < max_nodes_per_bucket → set (padded xs) (length xs) x ≡ padded (xs ++ (x ∷ []))
padded_next xs x h =
    let k : ℕ = max_nodes_per_bucket - length (xs ++ (x ∷ [])) in
    let e : max_nodes_per_bucket - length xs ≡ suc k = simp length-append (omega arith) in
    ap (λ (n : ℕ). set (xs ++ replicate n zero_node) (length xs) x) e
    ∙ set-append_seam xs zero_node (replicate k zero_node) x
    ∙ sym (append_assoc xs (x ∷ []) (replicate k zero_node))

pub places_none : (bs : List ℕ) → replicate max_nodes_per_bucket zero_node ≡ padded (read_places bs 0)
unfolding read_places tabulate
places_none bs = refl

pub places_next : (bs : List ℕ) (i : ℕ) (ns : List Node) → i < max_nodes_per_bucket → ns ≡ padded (read_places bs i)
    → set ns i (read_node (place_in bs i)) ≡ padded (read_places bs (i + 1))
unfolding read_places
places_next bs i ns l e =
    let f : ℕ → Node = λ j. read_node (place_in bs j) in
    let n : length (tabulate i f) ≡ i = length_tabulate i f in
    ap (λ (xs : List Node). set xs i (f i)) e
    ∙ ap (λ (k : ℕ). set (padded (tabulate i f)) k (f i)) (sym n)
    ∙ padded_next (tabulate i f) (f i) (omega arith)
    ∙ ap padded (sym (tabulate_one_more i f))

-- the pending

-- a node that is read is what is stored of the node that its bytes are
pub stored_read : (bs : List ℕ) → formed.node_codes bs ≡ true → stored_node (node_in bs) ≡ read_node bs
unfolding read_node node_in
stored_read bs h =
    let v : List ℕ = part bs (key_size + 2) value_size in
    let c = codes_read bs ∙ h in
    let e : stored_value (value_in v) ≡ read_value v = ap stored_value (sym (value_of_read v)) ∙ stored_value_of (read_value v) (codes_value (read_node bs) c) in
    rw (
      e,
      flag_back (get_or bs key_size 0) (and_left (leb (get_or bs key_size 0) 1) _ c),
      flag_back (get_or bs (key_size + 1) 0) (and_left (leb (get_or bs (key_size + 1) 0) 1) _ (and_right (leb (get_or bs key_size 0) 1) _ c)),
    )

-- what question 2 asks of a pending's bytes
module _ (bs : List ℕ) (p : ℕ → Bool) (h : formed.pending_formed p bs ≡ true) where
  abbrev flag : ℕ
  flag = get_or bs pending_at 0

  abbrev waiting : List ℕ
  waiting = part bs (pending_at + 1) node_size

  abbrev absent : Bool
  absent = formed.not_held bs (get_or bs 0 0) (formed.key_in waiting)

  asked : eqb flag 0 ≡ false → All (λ (x : Bool). x ≡ true) (eqb flag 1 ∷ p (formed.key_in waiting) ∷ absent ∷ formed.node_codes waiting ∷ [])
  unfolding formed.pending_formed
  asked e = conj_gives (eqb flag 1) (p (formed.key_in waiting) ∷ absent ∷ formed.node_codes waiting ∷ []) (rw e at h)

  pending_any_index : formed.pending_formed (λ k. true) bs ≡ true
  unfolding formed.pending_formed
  pending_any_index =
      split (eqb flag 0)
      (λ e. rw e (rw e at h))
      (λ e. let t = asked e in rw e (conj_if (eqb flag 1) (true ∷ absent ∷ formed.node_codes waiting ∷ []) (t.0, (refl, (t.1.1.0, (t.1.1.1.0, tt))))))

  stored_pending_lem : stored_pending (pending_in bs) ≡ read_pending bs
  unfolding read_pending
  stored_pending_lem =
      split (eqb flag 1)
      (λ e.
      let z : eqb flag 0 ≡ false = ap (λ (x : ℕ). eqb x 0) (eqb-true flag 1 e) in
      rw (e, stored_read waiting (asked z).1.1.1.0))
      (λ e. rw e)

-- what passes question 2 passes it less the index
any_index : (p : ℕ → Bool) (m : ℕ) (bs : List ℕ) → formed.bucket_formed p m bs ≡ true → sound_bytes m bs ≡ true
any_index p m bs h =
    let c = checked p m bs h in
    checked_if (λ k. true) m bs
    (record {
      at_most = c.at_most;
      different = c.different;
      of_the_index = λ j l. refl;
      states = c.states;
      first = c.first;
      incoming_within = c.incoming_within;
      pending = pending_any_index bs p c.pending;
      codes = c.codes;
      unused = c.unused;
    })

pub count_few : (bs : List ℕ) (m : ℕ) → sound_bytes m bs ≡ true → get_or bs 0 0 ≤ max_nodes_per_bucket
count_few bs m c = (checked (λ k. true) m bs c).at_most

same_filter : (s : Settings) → leb s.filter 1 ≡ true → s ≡ stored_settings (settings_of s)
same_filter s h = ap (λ (f : ℕ). record { pending_timeout = s.pending_timeout; max_incoming = s.max_incoming; filter = f }) (sym (flag_back s.filter h))

-- the bucket
module _ (bs : List ℕ) (l : length bs ≡ bucket_size) (h : Bytes bs) (s : Settings) (c : sound_bytes s.max_incoming bs ≡ true) where
  passed : Checked (λ k. true) s.max_incoming bs
  passed = checked (λ k. true) s.max_incoming bs c

  places_of : map stored_node (nodes (bucket_in bs)) ≡ read_places bs (get_or bs 0 0)
  unfolding nodes_in read_places
  places_of =
      ap (map stored_node) (nodes_in_lem bs)
      ∙ map_tabulate stored_node (get_or bs 0 0) (λ j. node_in (place_in bs j))
      ∙ tabulate_ext (get_or bs 0 0) (λ j. stored_node (node_in (place_in bs j))) (λ j. read_node (place_in bs j)) (λ j i. stored_read (place_in bs j) (passed.codes j i))

  pub loaded : (s.max_incoming ≤ max_nodes_per_bucket) × (s.filter ≤ 1) → (ns : List Node) (k j : ℕ) (q : Option PendingNode)
      → ns ≡ padded (read_places bs k) → k ≡ get_or bs 0 0 → j ≡ get_or bs 1 0 → q ≡ read_pending bs
      → Becomes (settings_of s) (bucket_in bs)
      (record {
        nodes = ns;
        count = k;
        first_connected_pos = j;
        pending = q;
        settings = s;
      })
  loaded r ns k j q e₁ e₂ e₃ e₄ =
      becomes (settings_of s) (bucket_in bs) _
      (same_parts (e₁ ∙ ap (λ (i : ℕ). padded (read_places bs i)) e₂ ∙ ap padded (sym places_of)) (e₂ ∙ sym (count_in bs)) (e₃ ∙ sym (first_in bs passed.first))
      (e₄ ∙ sym (ap stored_pending (pending_of_lem bs) ∙ stored_pending_lem bs (λ k. true) passed.pending)) (same_filter s (le-leb s.filter 1 r.1)))
      (bucket_good bs (λ k. true) s.max_incoming c).formed r.0

-- bucket i of the storage, whose bytes are bs, under its settings
module _ (s : List ℕ) (i : ℕ) (bs : List ℕ) (o : bs ≡ bucket_part s i) (r : Settings) (e : settings_of r ≡ (table_of s).settings.bucket) where
  pub bucket_sound : formed.bucket_formed_at s i ≡ true → sound_bytes r.max_incoming bs ≡ true
  unfolding table_of settings_in
  bucket_sound h = rw (o, ap (λ (b : BucketSettings). b.max_incoming) e) (any_index _ _ (bucket_part s i) h)

  pub table_becomes : (b : KBucket) → Becomes (settings_of r) (bucket_in bs) b → Becomes (table_of s).settings.bucket ((table_of s).buckets i) b
  unfolding table_of
  table_becomes b h = rw (e, o) at h
