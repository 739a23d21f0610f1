use Rattle.std.proofs.Common.{Bool, ◌&&◌, length, ◌≡◌, ◌∙◌, ap}
use mathlib.Core.Option.{some}
use lib.Dec.{leb}
use Rattle.model.specs.Value.{Value}
use Rattle.model.specs.Node.{Node, connected_incoming}
use Rattle.model.specs.Filter.{ip_filter_fails, max_nodes_per_subnet_bucket}
use Rattle.model.specs.Result.{UpdateResult}
use Rattle.model.specs.Bucket.{Bucket, BucketSettings, get, fails_bucket_filter, is_max_incoming, incoming_nodes, take_out}
use Rattle.model.specs.Table.{insert_updates}
use Rattle.model.specs.Layout.{bucket_in}
use Rattle.node.specs.Node.{node_of}
use Rattle.bucket.specs.Settings.{settings_of}
use Rattle.bucket.specs.Calls.{update_result_of}
use Rattle.bucket_update.specs.Again.{value_result}
use Rattle.held.specs.Held.{others}
use Rattle.held.proofs.Steps.{get_old, key_old, fails_left, max_left}
use Rattle.held_update.proofs.Laws.{old_refused, held_many, new_refused, held_put}
use Rattle.held_update.proofs.update_held.Goals as goal
use Rattle.held_update.proofs.update_held.Goals.{After-fails_filter, then-fails_filter-via-then-fails_filter, then-fails_filter-via-else-fails_filter+then-is_max_incoming}

module _ (c : After-fails_filter) where
  abbrev b : Bucket
  b = bucket_in c.args.bucket.now

  abbrev settings : BucketSettings
  settings = settings_of c.args.settings

  abbrev left : Bucket
  left = take_out (node_of c.args.node.node).key b

  abbrev m : Node
  m = node_of c.node_at.result.node

  abbrev n : Node
  n = node_of c.args.node.node

  is_held : get n.key b ≡ some m
  is_held = get_old c.requires.quiet c.args.pos c.requires.held c.node_at.ensures n.key c.requires.node

  same_key : m.key ≡ n.key
  same_key = key_old c.requires.quiet c.args.pos c.requires.held c.node_at.ensures n.key c.requires.node

  -- the tests, with the node of the key taken out
  filter : (v : Value) {r : Bool} → r ≡ (settings.filter && ip_filter_fails max_nodes_per_subnet_bucket v (others c.args.bucket.now c.args.pos)) → fails_bucket_filter settings v left ≡ r
  filter = fails_left c.requires.quiet settings n.key c.args.pos c.requires.node c.requires.held

  maximum : {r : Bool} → r ≡ (connected_incoming n && leb settings.max_incoming (length (incoming_nodes (others c.args.bucket.now c.args.pos)))) → is_max_incoming settings n left ≡ r
  maximum = max_left c.requires.quiet settings n.key c.args.pos c.requires.node c.requires.held n

pub returns-then-fails_filter : goal.returns-then-fails_filter
returns-then-fails_filter c =
    let w = (goal.at.returns-then-fails_filter c).After-fails_filter in
    λ time.
    elim c.then-fails_filter.branch [
      | then-fails_filter-via-then-fails_filter x ↦
          old_refused (settings w) (b w) (n w) time c.requires.quiet.pending (m w) (is_held w) (same_key w) (filter w (m w).value (rw c.nodes.ensures at c.fails_filter.ensures) ∙ x.if-fails_filter.true) (c.take_out.ensures (n w).key c.requires.node)
      | then-fails_filter-via-else-fails_filter+then-is_max_incoming x ↦
          held_many (settings w) (b w) (n w) time c.requires.quiet.pending (m w) (is_held w) (same_key w) (filter w (m w).value (rw c.nodes.ensures at c.fails_filter.ensures) ∙ x.if-fails_filter.false)
          (maximum w (rw c.nodes.ensures at x.is_max_incoming.ensures) ∙ x.if-is_max_incoming.true)
          (c.take_out.ensures (n w).key c.requires.node)
    ]

pub returns-then-fails_filter-2 : goal.returns-then-fails_filter-2
returns-then-fails_filter-2 c =
    let w = (goal.at.returns-then-fails_filter-2 c).After-fails_filter in
    λ time.
    new_refused (settings w) (b w) (n w) time c.requires.quiet.pending (m w) (is_held w) (same_key w) (filter w (m w).value (rw c.nodes.ensures at c.fails_filter.ensures) ∙ c.if-fails_filter.false)
    (maximum w (rw c.nodes.ensures at c.is_max_incoming.ensures) ∙ c.if-is_max_incoming.false)
    (filter w (n w).value (rw c.nodes.ensures at c.fails_filter-2.ensures) ∙ c.if-fails_filter-2.true)
    (c.take_out-then-fails_filter-2.ensures (n w).key c.requires.node)

pub returns : goal.returns
returns c =
    let w = (goal.at.returns c).After-fails_filter in
    λ time.
    held_put (settings w) (b w) (n w) time c.requires.quiet.pending (m w) (is_held w) (same_key w) (filter w (m w).value (rw c.nodes.ensures at c.fails_filter.ensures) ∙ c.if-fails_filter.false)
    (maximum w (rw c.nodes.ensures at c.is_max_incoming.ensures) ∙ c.if-is_max_incoming.false)
    (filter w (n w).value (rw c.nodes.ensures at c.fails_filter-2.ensures) ∙ c.if-fails_filter-2.false)
    (c.insert_updates.ensures
    ∙ ap (λ (r : UpdateResult). insert_updates r (update_result_of c.status_result-of_status.result)) c.value_result-of_value.ensures
    ∙ ap (insert_updates (value_result (m w).value (n w).value)) c.status_result-of_status.ensures)
    c.replace.ensures
