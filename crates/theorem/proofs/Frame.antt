-- A change at the keys of one index, or at a key of none, leaves the other buckets in agreement.
use Prim.Native.Nat.{ℕ}
use mathlib.Core.Path.{◌≡◌, refl, sym, ap, ◌∙◌}
use mathlib.Core.Bool.{Bool, true, false, cond, ◌&&◌, ◌||◌, beq}
use mathlib.Core.List.{List, [], ◌∷◌, ◌++◌, append-nil}
use mathlib.Core.Option.{Option, none, some}
use Rattle.model.specs.Base.{same}
use Rattle.model.specs.Node.{Node, PendingNode}
use Rattle.model.specs.Bucket.{Bucket}
use Rattle.model.specs.Formed.{is_at}
use Rattle.laws.proofs.Tests.{same_self, same_true, same_false, same_not, clash, cases, split}
use Rattle.table_log.specs.Log.{Log, node_of, collect, group, without}
use Rattle.theorem.proofs.Fold.{mem, depart, place}
use Rattle.theorem.proofs.Keys.{mem_without_other}
use Rattle.theorem.proofs.Groups.{collect_other, collect_skip}
use Rattle.theorem.proofs.Agree.{chosen, PendingAgrees, Agree, Only}

-- the keys of other indices
abbrev pub others : (ℕ → Option ℕ) → ℕ → List ℕ → List ℕ
others ix i [] = []
others ix i (k ∷ ks) = cond (is_at (ix k) i) (others ix i ks) (k ∷ others ix i ks)

pub record Frame (ix : ℕ → Option ℕ) (i : ℕ) (l l' : Log) : Type 0 where
  pub kept_nodes : (x : ℕ) → is_at (ix x) i ≡ false → node_of l' x ≡ node_of l x
  pub kept_held : others ix i l'.held ≡ others ix i l.held

pub Frame_refl : (ix : ℕ → Option ℕ) (i : ℕ) (l : Log) → Frame ix i l l
Frame_refl ix i l = record { kept_nodes = λ x e. refl; kept_held = refl }

pub Frame_trans : (ix : ℕ → Option ℕ) (i : ℕ) (l m n : Log) → Frame ix i l m → Frame ix i m n → Frame ix i l n
Frame_trans ix i l m n f g = record { kept_nodes = λ x e. g.kept_nodes x e ∙ f.kept_nodes x e; kept_held = g.kept_held ∙ f.kept_held }

pub others_without : (ix : ℕ → Option ℕ) (i k : ℕ) (xs : List ℕ) → ix k ≡ some i → others ix i (without k xs) ≡ others ix i xs
others_without ix i k [] h = refl
others_without ix i k (x ∷ xs) h =
    split (same x k)
    (λ e. rw e (others_without ix i k xs h ∙ rw (same_true x k e, h, same_self i)))
    (λ e. rw e (split (is_at (ix x) i) (λ q. rw q (others_without ix i k xs h)) (λ q. rw q (ap (λ (ys : List ℕ). x ∷ ys) (others_without ix i k xs h)))))

pub others_append : (ix : ℕ → Option ℕ) (i : ℕ) (xs ys : List ℕ) → others ix i (xs ++ ys) ≡ others ix i xs ++ others ix i ys
others_append ix i [] ys = refl
others_append ix i (x ∷ xs) ys = split (is_at (ix x) i) (λ q. rw q (others_append ix i xs ys)) (λ q. rw q (ap (λ (zs : List ℕ). x ∷ zs) (others_append ix i xs ys)))

not_here : (ix : ℕ → Option ℕ) (i k x : ℕ) → ix k ≡ some i → is_at (ix x) i ≡ false → same x k ≡ false
not_here ix i k x h e = same_not x k (λ p. clash (rw (p, h) (same_self i)) e)

pub Frame_only : (ix : ℕ → Option ℕ) (i k : ℕ) (l l' : Log) → ix k ≡ some i → Only k l l' → Frame ix i l l'
Frame_only ix i k l l' h o = record {
  kept_nodes = λ x e. o.same_nodes x (not_here ix i k x h e);
  kept_held = sym (others_without ix i k l'.held h) ∙ ap (others ix i) o.same_held ∙ others_without ix i k l.held h;
}

pub Frame_depart : (ix : ℕ → Option ℕ) (i k : ℕ) (l : Log) → ix k ≡ some i → Frame ix i l (depart k l)
Frame_depart ix i k l h = record { kept_nodes = λ x e. refl; kept_held = others_without ix i k l.held h }

pub Frame_place : (ix : ℕ → Option ℕ) (i k : ℕ) (l : Log) → ix k ≡ some i → Frame ix i l (place k l)
Frame_place ix i k l h = record {
  kept_nodes = λ x e. refl;
  kept_held = others_append ix i (without k l.held) (k ∷ []) ∙ rw (h, same_self i) (append-nil _ ∙ others_without ix i k l.held h);
}

-- a group of another index
collect_others : (ix : ℕ → Option ℕ) (i : ℕ) (p : ℕ → Bool) (f : ℕ → Node) → ((x : ℕ) → is_at (ix x) i ≡ true → p x ≡ false) → (xs : List ℕ)
    → collect p f (others ix i xs) ≡ collect p f xs
collect_others ix i p f h [] = refl
collect_others ix i p f h (x ∷ xs) =
    split (is_at (ix x) i)
    (λ q. rw (q, h x q) (collect_others ix i p f h xs))
    (λ q. rw q (split (p x) (λ e. rw e (ap (λ (ns : List Node). f x ∷ ns) (collect_others ix i p f h xs))) (λ e. rw e (collect_others ix i p f h xs))))

collect_kept : (ix : ℕ → Option ℕ) (i : ℕ) (p p' : ℕ → Bool) (f f' : ℕ → Node) → ((x : ℕ) → is_at (ix x) i ≡ false → p' x ≡ p x)
    → ((x : ℕ) → is_at (ix x) i ≡ false → f' x ≡ f x) → (xs : List ℕ) → collect p' f' (others ix i xs) ≡ collect p f (others ix i xs)
collect_kept ix i p p' f f' hp hf [] = refl
collect_kept ix i p p' f f' hp hf (x ∷ xs) =
    cases (λ (ys : List ℕ). collect p' f' ys ≡ collect p f ys) (is_at (ix x) i) (λ e. collect_kept ix i p p' f f' hp hf xs)
    (λ e. rw (hp x e, hf x e, collect_kept ix i p p' f f' hp hf xs))

-- a key of one index is not of another
is_at_other : (o : Option ℕ) (i j : ℕ) → same j i ≡ false → is_at o i ≡ true → is_at o j ≡ false
is_at_other none i j h e = refl
is_at_other (some x) i j h e = same_not x j (λ p. same_false j i h (sym p ∙ same_true x i e))

mem_others : (ix : ℕ → Option ℕ) (i k : ℕ) (xs : List ℕ) → is_at (ix k) i ≡ false → mem k (others ix i xs) ≡ mem k xs
mem_others ix i k [] h = refl
mem_others ix i k (x ∷ xs) h =
    cases (λ (ys : List ℕ). mem k ys ≡ (same x k || mem k xs)) (is_at (ix x) i)
    (λ e. rw (same_not x k (λ p. clash e (ap (λ (y : ℕ). is_at (ix y) i) p ∙ h))) (mem_others ix i k xs h))
    (λ e. ap (λ (t : Bool). same x k || t) (mem_others ix i k xs h))

group_frame : (ix : ℕ → Option ℕ) (i j : ℕ) (u : Bool) (l l' : Log) → same j i ≡ false → Frame ix i l l' → group ix l j u ≡ group ix l' j u
unfolding group
group_frame ix i j u l l' h f =
    sym (collect_others ix i (chosen ix j u (node_of l)) (node_of l) (λ x e. rw (is_at_other (ix x) i j h e)) l.held)
    ∙ sym (collect_kept ix i (chosen ix j u (node_of l)) (chosen ix j u (node_of l')) (node_of l) (node_of l')
    (λ x e. ap (λ (n : Node). is_at (ix x) j && beq n.connected u) (f.kept_nodes x e)) f.kept_nodes l.held)
    ∙ ap (collect (chosen ix j u (node_of l')) (node_of l')) (sym f.kept_held)
    ∙ collect_others ix i (chosen ix j u (node_of l')) (node_of l') (λ x e. rw (is_at_other (ix x) i j h e)) l'.held

pending_frame : (ix : ℕ → Option ℕ) (i j : ℕ) (l l' : Log) → same j i ≡ false → Frame ix i l l' → (p : Option PendingNode) → PendingAgrees ix l j p → PendingAgrees ix l' j p
pending_frame ix i j l l' h f none w = tt
pending_frame ix i j l l' h f (some p) w =
    let e : is_at (ix p.node.key) i ≡ false = rw w.0 h in (
      w.0,
      sym (mem_others ix i p.node.key l'.held e) ∙ ap (mem p.node.key) f.kept_held ∙ mem_others ix i p.node.key l.held e ∙ w.1,
      w.2 ∙ sym (f.kept_nodes p.node.key e),
    )

pub agree_frame : (ix : ℕ → Option ℕ) (i j : ℕ) (l l' : Log) (b : Bucket) → same j i ≡ false → Frame ix i l l' → Agree ix l j b → Agree ix l' j b
agree_frame ix i j l l' b h f a = record {
  disc = a.disc ∙ group_frame ix i j false l l' h f;
  conn = a.conn ∙ group_frame ix i j true l l' h f;
  pend = pending_frame ix i j l l' h f b.pending a.pend;
  room = a.room;
}

-- a change at a key of no index, or of another one
group_skip : (ix : ℕ → Option ℕ) (j : ℕ) (u : Bool) (k : ℕ) (l l' : Log) → is_at (ix k) j ≡ false → Only k l l' → group ix l j u ≡ group ix l' j u
unfolding group
group_skip ix j u k l l' h o =
    sym (collect_skip (chosen ix j u (node_of l)) (node_of l) k l.held (rw h))
    ∙ sym (collect_other (chosen ix j u (node_of l)) (chosen ix j u (node_of l')) (node_of l) (node_of l') k l.held
    (λ x e. ap (λ (n : Node). is_at (ix x) j && beq n.connected u) (o.same_nodes x e)) o.same_nodes)
    ∙ ap (collect (chosen ix j u (node_of l')) (node_of l')) (sym o.same_held)
    ∙ collect_skip (chosen ix j u (node_of l')) (node_of l') k l'.held (rw h)

pending_skip : (ix : ℕ → Option ℕ) (j k : ℕ) (l l' : Log) → is_at (ix k) j ≡ false → Only k l l' → (p : Option PendingNode) → PendingAgrees ix l j p → PendingAgrees ix l' j p
pending_skip ix j k l l' h o none w = tt
pending_skip ix j k l l' h o (some p) w =
    let e : same p.node.key k ≡ false = same_not p.node.key k (λ q. clash (ap (λ (x : ℕ). is_at (ix x) j) (sym q) ∙ rw w.0 (same_self j)) h) in (
      w.0,
      sym (mem_without_other k p.node.key l'.held e) ∙ ap (mem p.node.key) o.same_held ∙ mem_without_other k p.node.key l.held e ∙ w.1,
      w.2 ∙ sym (o.same_nodes p.node.key e),
    )

pub agree_skip : (ix : ℕ → Option ℕ) (j k : ℕ) (l l' : Log) (b : Bucket) → is_at (ix k) j ≡ false → Only k l l' → Agree ix l j b → Agree ix l' j b
agree_skip ix j k l l' b h o a = record {
  disc = a.disc ∙ group_skip ix j false k l l' h o;
  conn = a.conn ∙ group_skip ix j true k l l' h o;
  pend = pending_skip ix j k l l' h o b.pending a.pend;
  room = a.room;
}
