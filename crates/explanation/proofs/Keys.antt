-- Keys put one behind the other, as far as there is room, of nodes that pass a test.
use mathlib.Core.Path.{◌≡◌, refl, ap, ◌∙◌}
use mathlib.Core.Bool.{Bool}
use mathlib.Core.List.{List, [], ◌∷◌, ◌++◌, map, map-append, append-nil}
use Prim.Native.Nat.{ℕ, ◌+◌, ◌*◌, ◌-◌, ◌≤◌, ◌<◌}
use borrow.Rule.Slice.PartMut.{put_mid}
use native.Mathlib.Numerals.{add-one}
use native.Mathlib.Omega.{arith}
use lib.ListN.{length, get_or, take, drop, length-take, length-drop, length-map}
use lib.Seq.{take-nil, take-suc, take_all}
use Rattle.model.specs.Base.{select, joined, tabulate}
use Rattle.model.specs.Node as model
use Rattle.model.specs.Bucket.{nodes}
use Rattle.model.specs.Value.{Value}
use Rattle.model.specs.Filter.{counted}
use Rattle.model.specs.Table.{held_nodes}
use Rattle.model.specs.Explain.{space, key_text, keys_text, keys_of, filter_keys}
use Rattle.laws.proofs.All.{all_any}
use Rattle.laws.proofs.Lists.{joined_append, length_joined, tabulate_one_more}
use Rattle.laws.proofs.KeepLists.{select_append}
use Rattle.laws.proofs.Parts.{length_splice}
use Rattle.laws.proofs.Join.{take_append}
use Rattle.node.specs.declared.Node.{Node}
use Rattle.node.specs.Node.{node_of}
use Rattle.places.proofs.Model.{map_take}
use Rattle.bucket.specs.declared.KBucket.{KBucket}
use Rattle.bucket.proofs.Sound.{nodes_of}
use Rattle.bucket.specs.Bucket.{bucket_of, held_of}
use Rattle.well_formed.specs.Tests.{node_at}
use Rattle.explanation.specs.Put.{Put, PutKeys, key_room, spaced_key_size}
use Rattle.explanation.proofs.Text.{put_none, put_within, put_then, length_key_text}

-- the text of keys

pub length_keys_text : (ks : List ℕ) → length (keys_text ks) ≡ length ks * spaced_key_size
unfolding keys_text
length_keys_text ks =
    length_joined (λ (k : ℕ). space ∷ key_text k) spaced_key_size ks (all_any (λ (k : ℕ). length (space ∷ key_text k) ≡ spaced_key_size) ks (λ k. omega (arith, length_key_text k)))

keys_text_append : (xs ys : List ℕ) → keys_text (xs ++ ys) ≡ keys_text xs ++ keys_text ys
unfolding keys_text
keys_text_append xs ys = joined_append (λ (k : ℕ). space ∷ key_text k) xs ys

pub keys_text_none : keys_text [] ≡ []
unfolding keys_text joined
keys_text_none = refl

pub keys_text_one : (k : ℕ) → keys_text (k ∷ []) ≡ space ∷ key_text k
unfolding keys_text joined
keys_text_one k = append-nil (space ∷ key_text k)

-- keys, as many as there is room for

pub keys_full : (ks o : List ℕ) → length o < spaced_key_size → PutKeys ks o o 0
keys_full ks o h = let e : key_room o ≡ 0 = omega arith in record { put = rw (e, keys_text_none) (put_none o) }

pub keys_none : (o : List ℕ) → PutKeys [] o o 0
keys_none o = record { put = rw (take-nil, keys_text_none) (put_none o) }

pub keys_one : {k m : ℕ} {o u : List ℕ} → spaced_key_size ≤ length o → Put (keys_text (k ∷ [])) o u m → PutKeys (k ∷ []) o u m
keys_one {k} {m} {o} h p = let l : length (k ∷ []) ≤ key_room o = omega arith in record { put = rw (take_all (key_room o) (k ∷ []) l) p }

-- the keys fit
length_keys : (ks o : List ℕ) → length (keys_text (take (key_room o) ks)) ≤ length o
length_keys ks o = omega (arith, length_keys_text (take (key_room o) ks), length-take (key_room o) ks)

pub keys_then : {xs ys o t v : List ℕ} {n m : ℕ} → PutKeys xs o t n → PutKeys ys (take (length t - n) (drop n t)) v m → PutKeys (xs ++ ys) o (put_mid n (length t - n) t v) (n + m)
keys_then {xs} {ys} {o} {t} {v} {n} {m} p q =
    let l : length t ≡ length o = ap length p.put.output ∙ length_splice o 0 (keys_text (take (key_room o) xs)) (omega (arith, length_keys xs o)) in
    let r : key_room (take (length t - n) (drop n t)) ≡ key_room o - length xs =
    simp (length-take, length-drop) (omega (arith, p.put.next, length_keys_text (take (key_room o) xs), length-take (key_room o) xs)) in
    record { put = rw (take_append (key_room o) xs ys, keys_text_append, ← r) (put_then p.put q.put) }

-- keys of the nodes that pass a test

module _ (p : model.Node → Bool) where
  -- of two lists, one behind the other
  keys_more : {o t v : List ℕ} {n m : ℕ} (ns ms : List model.Node) → PutKeys (keys_of (select p ns)) o t n → PutKeys (keys_of (select p ms)) (take (length t - n) (drop n t)) v m
      → PutKeys (keys_of (select p (ns ++ ms))) o (put_mid n (length t - n) t v) (n + m)
  keys_more ns ms a b = rw (select_append p ns ms, map-append) (keys_then a b)

  -- one node more
  pub held_next : {o t v : List ℕ} {n m : ℕ} (ns : List Node) (d : Node) (j : ℕ) → j < length ns → PutKeys (keys_of (select p (map node_of (take j ns)))) o t n
      → PutKeys (keys_of (select p (node_of (get_or ns j d) ∷ []))) (take (length t - n) (drop n t)) v m
      → PutKeys (keys_of (select p (map node_of (take (j + 1) ns)))) o (put_mid n (length t - n) t v) (n + m)
  held_next ns d j l a b = rw (add-one, take-suc ns j d l, map-append node_of) (keys_more (map node_of (take j ns)) (node_of (get_or ns j d) ∷ []) a b)

  -- one place more of a bucket in the storage
  pub stored_next : {o t v : List ℕ} {n m : ℕ} (bs : List ℕ) (j : ℕ) {x : model.Node} → x ≡ node_at bs j → PutKeys (keys_of (select p (tabulate j (node_at bs)))) o t n
      → PutKeys (keys_of (select p (x ∷ []))) (take (length t - n) (drop n t)) v m
      → PutKeys (keys_of (select p (tabulate (j + 1) (node_at bs)))) o (put_mid n (length t - n) t v) (n + m)
  stored_next bs j {x} e a b = rw (tabulate_one_more, ← e) (keys_more (tabulate j (node_at bs)) (x ∷ []) a b)

  -- one bucket more
  pub bucket_next : {o t v : List ℕ} {n m : ℕ} (bs : ℕ → _) (i : ℕ) → PutKeys (keys_of (select p (held_nodes i bs))) o t n
      → PutKeys (keys_of (select p (nodes (bs i)))) (take (length t - n) (drop n t)) v m
      → PutKeys (keys_of (select p (held_nodes (i + 1) bs))) o (put_mid n (length t - n) t v) (n + m)
  unfolding held_nodes
  bucket_next bs i a b = rw add-one (keys_more (held_nodes i bs) (nodes (bs i)) a b)

-- the nodes of a bucket, place by place

pub held_few : (b : KBucket) → b.count ≤ 16 → length (nodes (bucket_of b)) ≤ 16
held_few b h = rw (nodes_of, length-map (held_of b) node_of, length-take) (omega arith)

-- a filter's keys behind its words
pub filter_put : {a o t u : List ℕ} {n m : ℕ} (k limit : ℕ) (v : Value) (ns : List model.Node) → k ≡ limit * spaced_key_size → length a + k ≤ length o → Put a o t n
    → PutKeys (keys_of (counted v ns)) (take k (drop n t)) u m → Put (a ++ keys_text (filter_keys limit v ns)) o (put_mid n k t u) (n + m)
unfolding filter_keys
filter_put {a} {o} {t} {u} {n} {m} k limit v ns e h p q =
    let l : length t ≡ length o = ap length p.output ∙ length_splice o 0 a (omega arith) in
    let r : key_room (take k (drop n t)) ≡ limit = simp (length-take, length-drop) (omega (arith, p.next)) in
    let ks : List ℕ = keys_of (counted v ns) in
    put_within k p (rw (map_take (λ (x : model.Node). x.key) limit (counted v ns), ← r) q.put) (omega (arith, p.next))
    (rw (map_take (λ (x : model.Node). x.key) limit (counted v ns)) (omega (arith, length_keys_text (take limit ks), length-take limit ks)))
