-- One call of the code: beside each constructor of `Call` its entry point, by the contract that the code is proved to meet.
use Rattle.std.specs.Prelude.{ℕ, List, []}
use contract.Lifetimes.{Lfts}
use Rattle.std.specs.Borrow.{Bor, MutBor}
use Rattle.model.specs.Table.{Answer}
use Rattle.model.specs.Call.{Listing, Call, KeyCall}
use Rattle.node.specs.declared.NodeStatus.{NodeStatus}
use Rattle.node.specs.Node.{argument_of}
use Rattle.on_key.specs.Answers.{update_answer}
use Rattle.session.specs.declared.Hours.{Hours}
use Rattle.session.specs.Hours.{hours_of}
use Rattle.table.specs.Calls.{remove_answer, take_answer, new_answer}
use Rattle.update.specs.Calls.{insert_or_update_answer}
use Rattle.entry.specs.Kind.{entry_answer, insert_answer}
use Rattle.items.specs.declared.Predicate.{Predicate}
use Rattle.items.specs.Shape.{predicate_of}
use Rattle.items.specs.Lists.{list_answer}
use Rattle.loaded.specs.Answer.{read_answer}
use Rattle.table.proofs.new.Reads as New
use Rattle.table.proofs.update_node_status.Reads as UpdateNodeStatus
use Rattle.update.proofs.update_node.Reads as UpdateNode
use Rattle.update.proofs.insert_or_update.Reads as InsertOrUpdate
use Rattle.table.proofs.remove.Reads as Remove
use Rattle.entry.proofs.entry.Reads as Entry
use Rattle.entry.proofs.present_update.Reads as PresentUpdate
use Rattle.entry.proofs.pending_update.Reads as PendingUpdate
use Rattle.entry.proofs.absent_insert.Reads as AbsentInsert
use Rattle.listing.proofs.iter.Reads as Iter
use Rattle.distances.proofs.nodes_by_distances.Reads as NodesByDistances
use Rattle.listing.proofs.closest_keys.Reads as ClosestKeys
use Rattle.listing.proofs.closest_values.Reads as ClosestValues
use Rattle.listing.proofs.closest_values_predicate.Reads as ClosestValuesPredicate
use Rattle.table.proofs.take_applied_pending.Reads as TakeAppliedPending
use Rattle.loaded.proofs.read.Reads as Read

-- parameters in their order
abbrev pub ◌&◌ : {A B : Type 0} → A → B → A × B
a & b = (a, b)

infixr 20 ◌&◌
-- a slice that is lent to be read, at a call's entry or exit, and one that is lent to be changed; `now` is what it holds then
abbrev pub Slice : Type 0
Slice = Bor (List ℕ)

abbrev pub Lent : Type 0
Lent = MutBor (List ℕ)

-- A call that was carried out: a is what it answered, s and s' the storage before and after, out' the output after, empty where the call has
-- none. Its entry point's contract (`Post`) holds of what it was given, in the order of its parameters, of what it answered, and of what is
-- left of what it was given: the storage s', and behind it the others. Every call of the code is such a run: specs/EntryPoints.
pub data Ran : (c : Call) (s : List ℕ) (a : Answer) (s' out' : List ℕ) → Type 0 where
  new : (κs : Lfts 2) (s : Lent) (key : Slice) (s' : Lent) (timeout m tf bf : ℕ) (a : _) (others : _)
      → New.Post κs (s & key & timeout & m & tf & bf & tt) a (s' & others)
      → Ran (Call.new key.now timeout m tf bf) s.now (new_answer a) s'.now []
  update_node_status : (κs : Lfts 2) (s : Lent) (key : Slice) (s' : Lent) (state direction time : ℕ) (a : _) (others : _)
      → UpdateNodeStatus.Post κs (s & key & state & direction & time & tt) a (s' & others)
      → Ran (Call.on_key key.now (KeyCall.update_node_status state direction time)) s.now (update_answer a) s'.now []
  update_node : (κs : Lfts 2) (s : Lent) (key : Slice) (s' : Lent) (value : _) (state time : ℕ) (a : _) (others : _)
      → UpdateNode.Post κs (s & key & value & state & time & tt) a (s' & others)
      → Ran (Call.on_key key.now (KeyCall.update_node (argument_of value) state time)) s.now (update_answer a) s'.now []
  insert_or_update : (κs : Lfts 3) (s : Lent) (key : Slice) (s' : Lent) (value : _) (status : NodeStatus) (time : ℕ) (hours : Hours) (a : _) (others : _)
      → InsertOrUpdate.Post κs (s & key & value & status & time & hours & tt) a (s' & others)
      → Ran (Call.on_key key.now (KeyCall.insert_or_update (argument_of value) status.state status.direction time (hours_of hours))) s.now (insert_or_update_answer a) s'.now []
  remove : (κs : Lfts 2) (s : Lent) (key : Slice) (s' : Lent) (time : ℕ) (a : _) (others : _)
      → Remove.Post κs (s & key & time & tt) a (s' & others)
      → Ran (Call.on_key key.now (KeyCall.remove time)) s.now (remove_answer a) s'.now []
  entry : (κs : Lfts 2) (s : Lent) (key : Slice) (s' : Lent) (time : ℕ) (a : _) (others : _)
      → Entry.Post κs (s & key & time & tt) a (s' & others)
      → Ran (Call.on_key key.now (KeyCall.entry time)) s.now (entry_answer a) s'.now []
  present_update : (κs : Lfts 2) (s : Lent) (key : Slice) (s' : Lent) (state direction : ℕ) (a : _) (others : _)
      → PresentUpdate.Post κs (s & key & state & direction & tt) a (s' & others)
      → Ran (Call.on_key key.now (KeyCall.present_update state direction)) s.now (update_answer a) s'.now []
  pending_update : (κs : Lfts 2) (s : Lent) (key : Slice) (s' : Lent) (status : NodeStatus) (a : _) (others : _)
      → PendingUpdate.Post κs (s & key & status & tt) a (s' & others)
      → Ran (Call.on_key key.now (KeyCall.pending_update status.state status.direction)) s.now (update_answer a) s'.now []
  absent_insert : (κs : Lfts 3) (s : Lent) (key : Slice) (s' : Lent) (value : _) (status : NodeStatus) (time : ℕ) (hours : Hours) (a : _) (others : _)
      → AbsentInsert.Post κs (s & key & value & status & time & hours & tt) a (s' & others)
      → Ran (Call.on_key key.now (KeyCall.absent_insert (argument_of value) status.state status.direction time (hours_of hours))) s.now (insert_answer a) s'.now []
  iter : (κs : Lfts 2) (s out s' out' : Lent) (n time n' time' : ℕ) (a : _)
      → Iter.Post κs (s & n & time & out & tt) a (s' & n' & time' & out' & tt)
      → Ran (Call.list Listing.iter n time out.now) s.now (list_answer a) s'.now out'.now
  nodes_by_distances : (κs : Lfts 3) (s : Lent) (distances : Slice) (out s' : Lent) (distances' : Slice) (out' : Lent) (n time n' time' : ℕ) (a : _)
      → NodesByDistances.Post κs (s & distances & n & time & out & tt) a (s' & distances' & n' & time' & out' & tt)
      → Ran (Call.list (Listing.nodes_by_distances distances.now) n time out.now) s.now (list_answer a) s'.now out'.now
  closest_keys : (κs : Lfts 3) (s : Lent) (target : Slice) (out s' : Lent) (target' : Slice) (out' : Lent) (n time n' time' : ℕ) (a : _)
      → ClosestKeys.Post κs (s & target & n & time & out & tt) a (s' & target' & n' & time' & out' & tt)
      → Ran (Call.list (Listing.closest_keys target.now) n time out.now) s.now (list_answer a) s'.now out'.now
  closest_values : (κs : Lfts 3) (s : Lent) (target : Slice) (out s' : Lent) (target' : Slice) (out' : Lent) (n time n' time' : ℕ) (a : _)
      → ClosestValues.Post κs (s & target & n & time & out & tt) a (s' & target' & n' & time' & out' & tt)
      → Ran (Call.list (Listing.closest_values target.now) n time out.now) s.now (list_answer a) s'.now out'.now
  closest_values_predicate : (κs : Lfts 3) (s : Lent) (target : Slice) (out s' : Lent) (target' : Slice) (out' : Lent) (p : Predicate) (n time : ℕ) (p' : Predicate) (n' time' : ℕ) (a : _)
      → ClosestValuesPredicate.Post κs (s & target & p & n & time & out & tt) a (s' & target' & p' & n' & time' & out' & tt)
      → Ran (Call.list (Listing.closest_values_predicate target.now (predicate_of p)) n time out.now) s.now (list_answer a) s'.now out'.now
  take_applied_pending : (κs : Lfts 1) (s s' : Lent) (a : _) (others : _)
      → TakeAppliedPending.Post κs (s & tt) a (s' & others)
      → Ran Call.take_applied_pending s.now (take_answer a) s'.now []
  read : (κs : Lfts 2) (s : Lent) (bytes : Slice) (s' : Lent) (a : _) (others : _)
      → Read.Post κs (s & bytes & tt) a (s' & others)
      → Ran (Call.read bytes.now) s.now (read_answer a) s'.now []
