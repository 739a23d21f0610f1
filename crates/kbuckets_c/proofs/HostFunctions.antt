-- Every call of one of the table's exports returns, and the contract that `Called` (claims/specs/Exports) takes holds of what it was given,
-- returned and left: claims/specs/HostFunctions says it of the library's functions, and this of the functions of the same names here, which C
-- calls.
use Rattle.kbuckets_c.proofs.kbuckets_new.Kinds as NewKinds
use Rattle.kbuckets.proofs.kbuckets_new.Reads as New
use Rattle.kbuckets_c.proofs.kbuckets_new.Symbol as NewSymbol
use Rattle.kbuckets_c.proofs.kbuckets_new.Met as NewMet
use Rattle.kbuckets_c.proofs.kbuckets_update_node_status.Kinds as UpdateNodeStatusKinds
use Rattle.kbuckets.proofs.kbuckets_update_node_status.Reads as UpdateNodeStatus
use Rattle.kbuckets_c.proofs.kbuckets_update_node_status.Symbol as UpdateNodeStatusSymbol
use Rattle.kbuckets_c.proofs.kbuckets_update_node_status.Met as UpdateNodeStatusMet
use Rattle.kbuckets_c.proofs.kbuckets_update_node.Kinds as UpdateNodeKinds
use Rattle.kbuckets.proofs.kbuckets_update_node.Reads as UpdateNode
use Rattle.kbuckets_c.proofs.kbuckets_update_node.Symbol as UpdateNodeSymbol
use Rattle.kbuckets_c.proofs.kbuckets_update_node.Met as UpdateNodeMet
use Rattle.kbuckets_c.proofs.kbuckets_insert_or_update.Kinds as InsertOrUpdateKinds
use Rattle.kbuckets.proofs.kbuckets_insert_or_update.Reads as InsertOrUpdate
use Rattle.kbuckets_c.proofs.kbuckets_insert_or_update.Symbol as InsertOrUpdateSymbol
use Rattle.kbuckets_c.proofs.kbuckets_insert_or_update.Met as InsertOrUpdateMet
use Rattle.kbuckets_c.proofs.kbuckets_remove.Kinds as RemoveKinds
use Rattle.kbuckets.proofs.kbuckets_remove.Reads as Remove
use Rattle.kbuckets_c.proofs.kbuckets_remove.Symbol as RemoveSymbol
use Rattle.kbuckets_c.proofs.kbuckets_remove.Met as RemoveMet
use Rattle.kbuckets_c.proofs.kbuckets_entry.Kinds as EntryKinds
use Rattle.kbuckets.proofs.kbuckets_entry.Reads as Entry
use Rattle.kbuckets_c.proofs.kbuckets_entry.Symbol as EntrySymbol
use Rattle.kbuckets_c.proofs.kbuckets_entry.Met as EntryMet
use Rattle.kbuckets_c.proofs.kbuckets_present_update.Kinds as PresentUpdateKinds
use Rattle.kbuckets.proofs.kbuckets_present_update.Reads as PresentUpdate
use Rattle.kbuckets_c.proofs.kbuckets_present_update.Symbol as PresentUpdateSymbol
use Rattle.kbuckets_c.proofs.kbuckets_present_update.Met as PresentUpdateMet
use Rattle.kbuckets_c.proofs.kbuckets_pending_update.Kinds as PendingUpdateKinds
use Rattle.kbuckets.proofs.kbuckets_pending_update.Reads as PendingUpdate
use Rattle.kbuckets_c.proofs.kbuckets_pending_update.Symbol as PendingUpdateSymbol
use Rattle.kbuckets_c.proofs.kbuckets_pending_update.Met as PendingUpdateMet
use Rattle.kbuckets_c.proofs.kbuckets_absent_insert.Kinds as AbsentInsertKinds
use Rattle.kbuckets.proofs.kbuckets_absent_insert.Reads as AbsentInsert
use Rattle.kbuckets_c.proofs.kbuckets_absent_insert.Symbol as AbsentInsertSymbol
use Rattle.kbuckets_c.proofs.kbuckets_absent_insert.Met as AbsentInsertMet
use Rattle.kbuckets_c.proofs.kbuckets_iter.Kinds as IterKinds
use Rattle.kbuckets.proofs.kbuckets_iter.Reads as Iter
use Rattle.kbuckets_c.proofs.kbuckets_iter.Symbol as IterSymbol
use Rattle.kbuckets_c.proofs.kbuckets_iter.Met as IterMet
use Rattle.kbuckets_c.proofs.kbuckets_nodes_by_distances.Kinds as NodesByDistancesKinds
use Rattle.kbuckets.proofs.kbuckets_nodes_by_distances.Reads as NodesByDistances
use Rattle.kbuckets_c.proofs.kbuckets_nodes_by_distances.Symbol as NodesByDistancesSymbol
use Rattle.kbuckets_c.proofs.kbuckets_nodes_by_distances.Met as NodesByDistancesMet
use Rattle.kbuckets_c.proofs.kbuckets_closest_keys.Kinds as ClosestKeysKinds
use Rattle.kbuckets.proofs.kbuckets_closest_keys.Reads as ClosestKeys
use Rattle.kbuckets_c.proofs.kbuckets_closest_keys.Symbol as ClosestKeysSymbol
use Rattle.kbuckets_c.proofs.kbuckets_closest_keys.Met as ClosestKeysMet
use Rattle.kbuckets_c.proofs.kbuckets_closest_values.Kinds as ClosestValuesKinds
use Rattle.kbuckets.proofs.kbuckets_closest_values.Reads as ClosestValues
use Rattle.kbuckets_c.proofs.kbuckets_closest_values.Symbol as ClosestValuesSymbol
use Rattle.kbuckets_c.proofs.kbuckets_closest_values.Met as ClosestValuesMet
use Rattle.kbuckets_c.proofs.kbuckets_closest_values_predicate.Kinds as ClosestValuesPredicateKinds
use Rattle.kbuckets.proofs.kbuckets_closest_values_predicate.Reads as ClosestValuesPredicate
use Rattle.kbuckets_c.proofs.kbuckets_closest_values_predicate.Symbol as ClosestValuesPredicateSymbol
use Rattle.kbuckets_c.proofs.kbuckets_closest_values_predicate.Met as ClosestValuesPredicateMet
use Rattle.kbuckets_c.proofs.kbuckets_take_applied_pending.Kinds as TakeAppliedPendingKinds
use Rattle.kbuckets.proofs.kbuckets_take_applied_pending.Reads as TakeAppliedPending
use Rattle.kbuckets_c.proofs.kbuckets_take_applied_pending.Symbol as TakeAppliedPendingSymbol
use Rattle.kbuckets_c.proofs.kbuckets_take_applied_pending.Met as TakeAppliedPendingMet
use Rattle.kbuckets_c.proofs.kbuckets_read.Kinds as ReadKinds
use Rattle.kbuckets.proofs.kbuckets_read.Reads as Read
use Rattle.kbuckets_c.proofs.kbuckets_read.Symbol as ReadSymbol
use Rattle.kbuckets_c.proofs.kbuckets_read.Met as ReadMet
use Rattle.kbuckets_c.proofs.kbuckets_write.Kinds as WriteKinds
use Rattle.kbuckets.proofs.kbuckets_write.Reads as Write
use Rattle.kbuckets_c.proofs.kbuckets_write.Symbol as WriteSymbol
use Rattle.kbuckets_c.proofs.kbuckets_write.Met as WriteMet
use Rattle.claims.specs.Returns.{Returns}
use Rattle.claims.proofs.Returns.{plain}

pub record HostFunctions : Type 2 where
  pub new : Returns 2 NewKinds.ps NewKinds.r New.Post NewSymbol.code NewSymbol.name
  pub update_node_status : Returns 2 UpdateNodeStatusKinds.ps UpdateNodeStatusKinds.r UpdateNodeStatus.Post UpdateNodeStatusSymbol.code UpdateNodeStatusSymbol.name
  pub update_node : Returns 2 UpdateNodeKinds.ps UpdateNodeKinds.r UpdateNode.Post UpdateNodeSymbol.code UpdateNodeSymbol.name
  pub insert_or_update : Returns 5 InsertOrUpdateKinds.ps InsertOrUpdateKinds.r InsertOrUpdate.Post InsertOrUpdateSymbol.code InsertOrUpdateSymbol.name
  pub remove : Returns 2 RemoveKinds.ps RemoveKinds.r Remove.Post RemoveSymbol.code RemoveSymbol.name
  pub entry : Returns 2 EntryKinds.ps EntryKinds.r Entry.Post EntrySymbol.code EntrySymbol.name
  pub present_update : Returns 2 PresentUpdateKinds.ps PresentUpdateKinds.r PresentUpdate.Post PresentUpdateSymbol.code PresentUpdateSymbol.name
  pub pending_update : Returns 2 PendingUpdateKinds.ps PendingUpdateKinds.r PendingUpdate.Post PendingUpdateSymbol.code PendingUpdateSymbol.name
  pub absent_insert : Returns 5 AbsentInsertKinds.ps AbsentInsertKinds.r AbsentInsert.Post AbsentInsertSymbol.code AbsentInsertSymbol.name
  pub iter : Returns 2 IterKinds.ps IterKinds.r Iter.Post IterSymbol.code IterSymbol.name
  pub nodes_by_distances : Returns 3 NodesByDistancesKinds.ps NodesByDistancesKinds.r NodesByDistances.Post NodesByDistancesSymbol.code NodesByDistancesSymbol.name
  pub closest_keys : Returns 3 ClosestKeysKinds.ps ClosestKeysKinds.r ClosestKeys.Post ClosestKeysSymbol.code ClosestKeysSymbol.name
  pub closest_values : Returns 3 ClosestValuesKinds.ps ClosestValuesKinds.r ClosestValues.Post ClosestValuesSymbol.code ClosestValuesSymbol.name
  pub closest_values_predicate : Returns 3 ClosestValuesPredicateKinds.ps ClosestValuesPredicateKinds.r ClosestValuesPredicate.Post ClosestValuesPredicateSymbol.code ClosestValuesPredicateSymbol.name
  pub take_applied_pending : Returns 2 TakeAppliedPendingKinds.ps TakeAppliedPendingKinds.r TakeAppliedPending.Post TakeAppliedPendingSymbol.code TakeAppliedPendingSymbol.name
  pub read : Returns 2 ReadKinds.ps ReadKinds.r Read.Post ReadSymbol.code ReadSymbol.name
  pub write : Returns 2 WriteKinds.ps WriteKinds.r Write.Post WriteSymbol.code WriteSymbol.name

pub host_functions : HostFunctions
host_functions =
    record {
      new = plain 2 NewKinds.ps NewKinds.r New.Post NewSymbol.code NewSymbol.name (λ M. NewMet.met);
      update_node_status = plain 2 UpdateNodeStatusKinds.ps UpdateNodeStatusKinds.r UpdateNodeStatus.Post UpdateNodeStatusSymbol.code UpdateNodeStatusSymbol.name (λ M. UpdateNodeStatusMet.met);
      update_node = plain 2 UpdateNodeKinds.ps UpdateNodeKinds.r UpdateNode.Post UpdateNodeSymbol.code UpdateNodeSymbol.name (λ M. UpdateNodeMet.met);
      insert_or_update = plain 5 InsertOrUpdateKinds.ps InsertOrUpdateKinds.r InsertOrUpdate.Post InsertOrUpdateSymbol.code InsertOrUpdateSymbol.name (λ M. InsertOrUpdateMet.met);
      remove = plain 2 RemoveKinds.ps RemoveKinds.r Remove.Post RemoveSymbol.code RemoveSymbol.name (λ M. RemoveMet.met);
      entry = plain 2 EntryKinds.ps EntryKinds.r Entry.Post EntrySymbol.code EntrySymbol.name (λ M. EntryMet.met);
      present_update = plain 2 PresentUpdateKinds.ps PresentUpdateKinds.r PresentUpdate.Post PresentUpdateSymbol.code PresentUpdateSymbol.name (λ M. PresentUpdateMet.met);
      pending_update = plain 2 PendingUpdateKinds.ps PendingUpdateKinds.r PendingUpdate.Post PendingUpdateSymbol.code PendingUpdateSymbol.name (λ M. PendingUpdateMet.met);
      absent_insert = plain 5 AbsentInsertKinds.ps AbsentInsertKinds.r AbsentInsert.Post AbsentInsertSymbol.code AbsentInsertSymbol.name (λ M. AbsentInsertMet.met);
      iter = plain 2 IterKinds.ps IterKinds.r Iter.Post IterSymbol.code IterSymbol.name (λ M. IterMet.met);
      nodes_by_distances = plain 3 NodesByDistancesKinds.ps NodesByDistancesKinds.r NodesByDistances.Post NodesByDistancesSymbol.code NodesByDistancesSymbol.name (λ M. NodesByDistancesMet.met);
      closest_keys = plain 3 ClosestKeysKinds.ps ClosestKeysKinds.r ClosestKeys.Post ClosestKeysSymbol.code ClosestKeysSymbol.name (λ M. ClosestKeysMet.met);
      closest_values = plain 3 ClosestValuesKinds.ps ClosestValuesKinds.r ClosestValues.Post ClosestValuesSymbol.code ClosestValuesSymbol.name (λ M. ClosestValuesMet.met);
      closest_values_predicate = plain 3 ClosestValuesPredicateKinds.ps ClosestValuesPredicateKinds.r ClosestValuesPredicate.Post ClosestValuesPredicateSymbol.code ClosestValuesPredicateSymbol.name (λ M. ClosestValuesPredicateMet.met);
      take_applied_pending = plain 2 TakeAppliedPendingKinds.ps TakeAppliedPendingKinds.r TakeAppliedPending.Post TakeAppliedPendingSymbol.code TakeAppliedPendingSymbol.name (λ M. TakeAppliedPendingMet.met);
      read = plain 2 ReadKinds.ps ReadKinds.r Read.Post ReadSymbol.code ReadSymbol.name (λ M. ReadMet.met);
      write = plain 2 WriteKinds.ps WriteKinds.r Write.Post WriteSymbol.code WriteSymbol.name (λ M. WriteMet.met);
    }
