-- The code of each entry point meets its contract, and the contract requires nothing: every call returns so (specs/EntryPoints).
use Rattle.table.proofs.new.Kinds as NewKinds
use Rattle.table.proofs.new.Reads as New
use Rattle.table.proofs.new.Symbol as NewSymbol
use Rattle.table.proofs.new.Met as NewMet
use Rattle.table.proofs.update_node_status.Kinds as UpdateNodeStatusKinds
use Rattle.table.proofs.update_node_status.Reads as UpdateNodeStatus
use Rattle.table.proofs.update_node_status.Symbol as UpdateNodeStatusSymbol
use Rattle.table.proofs.update_node_status.Met as UpdateNodeStatusMet
use Rattle.update.proofs.update_node.Kinds as UpdateNodeKinds
use Rattle.update.proofs.update_node.Reads as UpdateNode
use Rattle.update.proofs.update_node.Symbol as UpdateNodeSymbol
use Rattle.update.proofs.update_node.Met as UpdateNodeMet
use Rattle.update.proofs.insert_or_update.Kinds as InsertOrUpdateKinds
use Rattle.update.proofs.insert_or_update.Reads as InsertOrUpdate
use Rattle.update.proofs.insert_or_update.Symbol as InsertOrUpdateSymbol
use Rattle.update.proofs.insert_or_update.Met as InsertOrUpdateMet
use Rattle.table.proofs.remove.Kinds as RemoveKinds
use Rattle.table.proofs.remove.Reads as Remove
use Rattle.table.proofs.remove.Symbol as RemoveSymbol
use Rattle.table.proofs.remove.Met as RemoveMet
use Rattle.entry.proofs.entry.Kinds as EntryKinds
use Rattle.entry.proofs.entry.Symbol as EntrySymbol
use Rattle.entry.proofs.entry.Met as EntryMet
use Rattle.entry.proofs.present_update.Kinds as PresentUpdateKinds
use Rattle.entry.proofs.present_update.Reads as PresentUpdate
use Rattle.entry.proofs.present_update.Symbol as PresentUpdateSymbol
use Rattle.entry.proofs.present_update.Met as PresentUpdateMet
use Rattle.entry.proofs.pending_update.Kinds as PendingUpdateKinds
use Rattle.entry.proofs.pending_update.Reads as PendingUpdate
use Rattle.entry.proofs.pending_update.Symbol as PendingUpdateSymbol
use Rattle.entry.proofs.pending_update.Met as PendingUpdateMet
use Rattle.entry.proofs.absent_insert.Kinds as AbsentInsertKinds
use Rattle.entry.proofs.absent_insert.Reads as AbsentInsert
use Rattle.entry.proofs.absent_insert.Symbol as AbsentInsertSymbol
use Rattle.entry.proofs.absent_insert.Met as AbsentInsertMet
use Rattle.listing.proofs.iter.Kinds as IterKinds
use Rattle.listing.proofs.iter.Reads as Iter
use Rattle.listing.proofs.iter.Symbol as IterSymbol
use Rattle.listing.proofs.iter.Met as IterMet
use Rattle.distances.proofs.nodes_by_distances.Kinds as NodesByDistancesKinds
use Rattle.distances.proofs.nodes_by_distances.Reads as NodesByDistances
use Rattle.distances.proofs.nodes_by_distances.Symbol as NodesByDistancesSymbol
use Rattle.distances.proofs.nodes_by_distances.Met as NodesByDistancesMet
use Rattle.listing.proofs.closest_keys.Kinds as ClosestKeysKinds
use Rattle.listing.proofs.closest_keys.Reads as ClosestKeys
use Rattle.listing.proofs.closest_keys.Symbol as ClosestKeysSymbol
use Rattle.listing.proofs.closest_keys.Met as ClosestKeysMet
use Rattle.listing.proofs.closest_values.Kinds as ClosestValuesKinds
use Rattle.listing.proofs.closest_values.Reads as ClosestValues
use Rattle.listing.proofs.closest_values.Symbol as ClosestValuesSymbol
use Rattle.listing.proofs.closest_values.Met as ClosestValuesMet
use Rattle.listing.proofs.closest_values_predicate.Kinds as ClosestValuesPredicateKinds
use Rattle.listing.proofs.closest_values_predicate.Reads as ClosestValuesPredicate
use Rattle.listing.proofs.closest_values_predicate.Symbol as ClosestValuesPredicateSymbol
use Rattle.listing.proofs.closest_values_predicate.Met as ClosestValuesPredicateMet
use Rattle.table.proofs.take_applied_pending.Kinds as TakeAppliedPendingKinds
use Rattle.table.proofs.take_applied_pending.Reads as TakeAppliedPending
use Rattle.table.proofs.take_applied_pending.Symbol as TakeAppliedPendingSymbol
use Rattle.table.proofs.take_applied_pending.Met as TakeAppliedPendingMet
use Rattle.loaded.proofs.read.Kinds as ReadKinds
use Rattle.loaded.proofs.read.Reads as Read
use Rattle.loaded.proofs.read.Symbol as ReadSymbol
use Rattle.loaded.proofs.read.Met as ReadMet
use Rattle.saved.proofs.write.Kinds as WriteKinds
use Rattle.saved.proofs.write.Reads as Write
use Rattle.saved.proofs.write.Symbol as WriteSymbol
use Rattle.saved.proofs.write.Met as WriteMet
use mathlib.Core.Path.{◌≡◌}
use mathlib.Core.Bool.{true}
use Rattle.model.specs.Call.{Call, KeyCall}
use Rattle.model.specs.StepBytes.{step_bytes}
use Rattle.on_key.specs.Answers.{Answers}
use Rattle.entry.specs.Kind.{entry_answer, entry_codes}
use Rattle.claims.specs.EntryPoints.{EntryPoints}
use Rattle.claims.proofs.Returns.{plain, paired}

pub entry_points : EntryPoints
entry_points =
    record {
      new = plain 2 NewKinds.ps NewKinds.r New.Post NewSymbol.code NewSymbol.name (λ M. NewMet.met);
      update_node_status = plain 2 UpdateNodeStatusKinds.ps UpdateNodeStatusKinds.r UpdateNodeStatus.Post UpdateNodeStatusSymbol.code UpdateNodeStatusSymbol.name (λ M. UpdateNodeStatusMet.met);
      update_node = plain 2 UpdateNodeKinds.ps UpdateNodeKinds.r UpdateNode.Post UpdateNodeSymbol.code UpdateNodeSymbol.name (λ M. UpdateNodeMet.met);
      insert_or_update = plain 3 InsertOrUpdateKinds.ps InsertOrUpdateKinds.r InsertOrUpdate.Post InsertOrUpdateSymbol.code InsertOrUpdateSymbol.name (λ M. InsertOrUpdateMet.met);
      remove = plain 2 RemoveKinds.ps RemoveKinds.r Remove.Post RemoveSymbol.code RemoveSymbol.name (λ M. RemoveMet.met);
      entry =
          paired 2 EntryKinds.ps EntryKinds.r
          (λ κs a b e. Answers (entry_answer b) e.0.now (step_bytes (Call.on_key a.1.0.now (KeyCall.entry a.1.1.0)) a.0.now))
          (λ κs a b e. entry_codes b ≡ true) EntrySymbol.code EntrySymbol.name (λ M. EntryMet.met);
      present_update = plain 2 PresentUpdateKinds.ps PresentUpdateKinds.r PresentUpdate.Post PresentUpdateSymbol.code PresentUpdateSymbol.name (λ M. PresentUpdateMet.met);
      pending_update = plain 2 PendingUpdateKinds.ps PendingUpdateKinds.r PendingUpdate.Post PendingUpdateSymbol.code PendingUpdateSymbol.name (λ M. PendingUpdateMet.met);
      absent_insert = plain 3 AbsentInsertKinds.ps AbsentInsertKinds.r AbsentInsert.Post AbsentInsertSymbol.code AbsentInsertSymbol.name (λ M. AbsentInsertMet.met);
      iter = plain 2 IterKinds.ps IterKinds.r Iter.Post IterSymbol.code IterSymbol.name (λ M. IterMet.met);
      nodes_by_distances = plain 3 NodesByDistancesKinds.ps NodesByDistancesKinds.r NodesByDistances.Post NodesByDistancesSymbol.code NodesByDistancesSymbol.name (λ M. NodesByDistancesMet.met);
      closest_keys = plain 3 ClosestKeysKinds.ps ClosestKeysKinds.r ClosestKeys.Post ClosestKeysSymbol.code ClosestKeysSymbol.name (λ M. ClosestKeysMet.met);
      closest_values = plain 3 ClosestValuesKinds.ps ClosestValuesKinds.r ClosestValues.Post ClosestValuesSymbol.code ClosestValuesSymbol.name (λ M. ClosestValuesMet.met);
      closest_values_predicate = plain 3 ClosestValuesPredicateKinds.ps ClosestValuesPredicateKinds.r ClosestValuesPredicate.Post ClosestValuesPredicateSymbol.code ClosestValuesPredicateSymbol.name (λ M. ClosestValuesPredicateMet.met);
      take_applied_pending = plain 1 TakeAppliedPendingKinds.ps TakeAppliedPendingKinds.r TakeAppliedPending.Post TakeAppliedPendingSymbol.code TakeAppliedPendingSymbol.name (λ M. TakeAppliedPendingMet.met);
      read = plain 2 ReadKinds.ps ReadKinds.r Read.Post ReadSymbol.code ReadSymbol.name (λ M. ReadMet.met);
      write = plain 2 WriteKinds.ps WriteKinds.r Write.Post WriteSymbol.code WriteSymbol.name (λ M. WriteMet.met);
    }
