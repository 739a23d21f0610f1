-- The listing of a shape: its order, what it finds, and what the visit of its buckets answers and leaves.
use Rattle.std.specs.Prelude.{ℕ, ◌*◌, ◌≡◌, Bool, cond, ◌&&◌, List, [], map, length, take, leb}
use Rattle.model.specs.Base.{joined, tabulate}
use Rattle.model.specs.Key.{distance}
use Rattle.model.specs.Node.{Node}
use Rattle.model.specs.Bucket.{num_entries}
use Rattle.model.specs.Table.{Table, Answer, num_buckets, max_records}
use Rattle.model.specs.Visit.{visits}
use Rattle.model.specs.Call.{Listing}
use Rattle.model.specs.Question.{max_count}
use Rattle.model.specs.Layout.{table_of}
use Rattle.model.specs.Formed.{buckets_formed}
use Rattle.model.specs.StepBytes.{BytesOutcome, written}
use Rattle.key.specs.Key.{num}
use Rattle.visit.specs.Passes.{visited_by, visit_all, applied_in}
use Rattle.items.specs.declared.Form.{Form}
use Rattle.items.specs.declared.Shape.{Shape}
use Rattle.items.specs.Shape.{predicate_of, item_by, size_by, shown_by}

-- the closest listing of a form
abbrev pub closest_listing : Form → List ℕ → Listing
closest_listing Form.Key target = Listing.closest_keys target
closest_listing Form.ClosestValue target = Listing.closest_values target
closest_listing (Form.PredicateValue p) target = Listing.closest_values_predicate target (predicate_of p)

-- the order of the buckets
unfoldable pub visit_order_by : Shape → Table → List ℕ
visit_order_by Shape.Nodes t = tabulate num_buckets (λ i. i)
visit_order_by (Shape.Closest x f) t = visits (distance t.settings.local_key (num x))

-- 01, question 6, with an output of len bytes
abbrev pub room_by : Shape → ℕ → ℕ → Bool
room_by x n len = leb n max_count && leb (n * size_by x) len

-- the nodes that bucket i holds as it stands
abbrev pub count_in : Table → ℕ → ℕ
count_in t i = num_entries (t.buckets i)

-- the first n nodes of the buckets, as the shape shows them
unfoldable pub first_nodes : ℕ → Shape → Table → List ℕ → List Node
first_nodes n x t is = take n (joined (λ i. shown_by x (t.buckets i)) is)

-- the items of the nodes are written, and no other byte
pub record Put (x : Shape) (ns : List Node) (r : ℕ) (before after : List ℕ) : Type 0 where
  pub count : r ≡ length ns
  pub output : after ≡ written (map (item_by x) ns) before

-- refused with the question's number: storage and output stay
abbrev pub refused_with : ℕ → List ℕ → List ℕ → BytesOutcome
refused_with q out s = record { answer = Answer.Refused q; storage = s; output = out; records = [] }

-- the visit of the buckets: question 2 of each (02, slip 7), question 8, then the storage with their due pendings applied and the items of
-- the nodes found in it
unfoldable pub visit_outcome : Shape → ℕ → ℕ → List ℕ → List ℕ → List ℕ → BytesOutcome
visit_outcome x n now is out s =
    let r = visit_all now n is (table_of s) in
    let ns = first_nodes n x r.0 is in
    let js = visited_by now n is (table_of s) in
    cond (buckets_formed s js)
    (cond (leb (length r.0.queue) max_records)
    (record { answer = Answer.Found (length ns); storage = applied_in s now js; output = written (map (item_by x) ns) out; records = r.1 })
    (refused_with 8 out s))
    (refused_with 2 out s)

-- the listing from question 6 on
unfoldable pub list_outcome : Shape → ℕ → ℕ → List ℕ → List ℕ → BytesOutcome
list_outcome x n now out s = cond (room_by x n (length out)) (visit_outcome x n now (visit_order_by x (table_of s)) out s) (refused_with 6 out s)
