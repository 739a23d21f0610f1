-- Every call of an entry point returns, and its contract holds of what it was given, answered and left: what `Ran` (specs/Ran) takes.
use Rattle.table.proofs.new.Kinds as NewKinds
use Rattle.table.proofs.new.Reads as New
use Rattle.table.proofs.new.Symbol as NewSymbol
use Rattle.table.proofs.update_node_status.Kinds as UpdateNodeStatusKinds
use Rattle.table.proofs.update_node_status.Reads as UpdateNodeStatus
use Rattle.table.proofs.update_node_status.Symbol as UpdateNodeStatusSymbol
use Rattle.update.proofs.update_node.Kinds as UpdateNodeKinds
use Rattle.update.proofs.update_node.Reads as UpdateNode
use Rattle.update.proofs.update_node.Symbol as UpdateNodeSymbol
use Rattle.update.proofs.insert_or_update.Kinds as InsertOrUpdateKinds
use Rattle.update.proofs.insert_or_update.Reads as InsertOrUpdate
use Rattle.update.proofs.insert_or_update.Symbol as InsertOrUpdateSymbol
use Rattle.table.proofs.remove.Kinds as RemoveKinds
use Rattle.table.proofs.remove.Reads as Remove
use Rattle.table.proofs.remove.Symbol as RemoveSymbol
use Rattle.entry.proofs.entry.Kinds as EntryKinds
use Rattle.entry.proofs.entry.Reads as Entry
use Rattle.entry.proofs.entry.Symbol as EntrySymbol
use Rattle.entry.proofs.present_update.Kinds as PresentUpdateKinds
use Rattle.entry.proofs.present_update.Reads as PresentUpdate
use Rattle.entry.proofs.present_update.Symbol as PresentUpdateSymbol
use Rattle.entry.proofs.pending_update.Kinds as PendingUpdateKinds
use Rattle.entry.proofs.pending_update.Reads as PendingUpdate
use Rattle.entry.proofs.pending_update.Symbol as PendingUpdateSymbol
use Rattle.entry.proofs.absent_insert.Kinds as AbsentInsertKinds
use Rattle.entry.proofs.absent_insert.Reads as AbsentInsert
use Rattle.entry.proofs.absent_insert.Symbol as AbsentInsertSymbol
use Rattle.listing.proofs.iter.Kinds as IterKinds
use Rattle.listing.proofs.iter.Reads as Iter
use Rattle.listing.proofs.iter.Symbol as IterSymbol
use Rattle.distances.proofs.nodes_by_distances.Kinds as NodesByDistancesKinds
use Rattle.distances.proofs.nodes_by_distances.Reads as NodesByDistances
use Rattle.distances.proofs.nodes_by_distances.Symbol as NodesByDistancesSymbol
use Rattle.listing.proofs.closest_keys.Kinds as ClosestKeysKinds
use Rattle.listing.proofs.closest_keys.Reads as ClosestKeys
use Rattle.listing.proofs.closest_keys.Symbol as ClosestKeysSymbol
use Rattle.listing.proofs.closest_values.Kinds as ClosestValuesKinds
use Rattle.listing.proofs.closest_values.Reads as ClosestValues
use Rattle.listing.proofs.closest_values.Symbol as ClosestValuesSymbol
use Rattle.listing.proofs.closest_values_predicate.Kinds as ClosestValuesPredicateKinds
use Rattle.listing.proofs.closest_values_predicate.Reads as ClosestValuesPredicate
use Rattle.listing.proofs.closest_values_predicate.Symbol as ClosestValuesPredicateSymbol
use Rattle.table.proofs.take_applied_pending.Kinds as TakeAppliedPendingKinds
use Rattle.table.proofs.take_applied_pending.Reads as TakeAppliedPending
use Rattle.table.proofs.take_applied_pending.Symbol as TakeAppliedPendingSymbol
use Rattle.loaded.proofs.read.Kinds as ReadKinds
use Rattle.loaded.proofs.read.Reads as Read
use Rattle.loaded.proofs.read.Symbol as ReadSymbol
use Rattle.saved.proofs.write.Kinds as WriteKinds
use Rattle.saved.proofs.write.Reads as Write
use Rattle.saved.proofs.write.Symbol as WriteSymbol
use Rattle.claims.specs.Returns.{Returns}

pub record EntryPoints : Type 2 where
  pub new : Returns 2 NewKinds.ps NewKinds.r New.Post NewSymbol.code NewSymbol.name
  pub update_node_status : Returns 2 UpdateNodeStatusKinds.ps UpdateNodeStatusKinds.r UpdateNodeStatus.Post UpdateNodeStatusSymbol.code UpdateNodeStatusSymbol.name
  pub update_node : Returns 2 UpdateNodeKinds.ps UpdateNodeKinds.r UpdateNode.Post UpdateNodeSymbol.code UpdateNodeSymbol.name
  pub insert_or_update : Returns 3 InsertOrUpdateKinds.ps InsertOrUpdateKinds.r InsertOrUpdate.Post InsertOrUpdateSymbol.code InsertOrUpdateSymbol.name
  pub remove : Returns 2 RemoveKinds.ps RemoveKinds.r Remove.Post RemoveSymbol.code RemoveSymbol.name
  pub entry : Returns 2 EntryKinds.ps EntryKinds.r Entry.Post EntrySymbol.code EntrySymbol.name
  pub present_update : Returns 2 PresentUpdateKinds.ps PresentUpdateKinds.r PresentUpdate.Post PresentUpdateSymbol.code PresentUpdateSymbol.name
  pub pending_update : Returns 2 PendingUpdateKinds.ps PendingUpdateKinds.r PendingUpdate.Post PendingUpdateSymbol.code PendingUpdateSymbol.name
  pub absent_insert : Returns 3 AbsentInsertKinds.ps AbsentInsertKinds.r AbsentInsert.Post AbsentInsertSymbol.code AbsentInsertSymbol.name
  pub iter : Returns 2 IterKinds.ps IterKinds.r Iter.Post IterSymbol.code IterSymbol.name
  pub nodes_by_distances : Returns 3 NodesByDistancesKinds.ps NodesByDistancesKinds.r NodesByDistances.Post NodesByDistancesSymbol.code NodesByDistancesSymbol.name
  pub closest_keys : Returns 3 ClosestKeysKinds.ps ClosestKeysKinds.r ClosestKeys.Post ClosestKeysSymbol.code ClosestKeysSymbol.name
  pub closest_values : Returns 3 ClosestValuesKinds.ps ClosestValuesKinds.r ClosestValues.Post ClosestValuesSymbol.code ClosestValuesSymbol.name
  pub closest_values_predicate : Returns 3 ClosestValuesPredicateKinds.ps ClosestValuesPredicateKinds.r ClosestValuesPredicate.Post ClosestValuesPredicateSymbol.code ClosestValuesPredicateSymbol.name
  pub take_applied_pending : Returns 1 TakeAppliedPendingKinds.ps TakeAppliedPendingKinds.r TakeAppliedPending.Post TakeAppliedPendingSymbol.code TakeAppliedPendingSymbol.name
  pub read : Returns 2 ReadKinds.ps ReadKinds.r Read.Post ReadSymbol.code ReadSymbol.name
  pub write : Returns 2 WriteKinds.ps WriteKinds.r Write.Post WriteSymbol.code WriteSymbol.name
