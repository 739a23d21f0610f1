-- What a listing gives of a bucket, by the shape that the code is handed.
use Rattle.std.specs.Prelude.{ℕ, ◌+◌, Bool, true, List, map, leb}
use Rattle.model.specs.Base.{joined}
use Rattle.model.specs.Node.{Node}
use Rattle.model.specs.Bucket.{Bucket, nodes}
use Rattle.model.specs.Sizes.{key_size, value_size, node_size}
use Rattle.model.specs.Sort.{sort_by}
use Rattle.model.specs.Call.{PredicateArgument, matches}
use Rattle.model.specs.Listing.{Item, distance_to}
use Rattle.model.specs.Layout.{item_bytes}
use Rattle.key.specs.Key.{num}
use Rattle.items.specs.declared.Predicate.{Predicate}
use Rattle.items.specs.declared.Form.{Form}
use Rattle.items.specs.declared.Shape.{Shape}

-- the predicate, with what it compares
abbrev pub predicate_of : Predicate → PredicateArgument
predicate_of p = record { predicate = p.predicate; a = p.a; b = p.b; c = p.c; slot = p.slot }

-- 01, question 4: a predicate is 0 to 3
abbrev pub form_codes : Form → Bool
form_codes Form.Key = true
form_codes Form.ClosestValue = true
form_codes (Form.PredicateValue p) = leb p.predicate 3

-- what a closest listing gives of a node
unfoldable pub closest_item : Form → Node → Item
closest_item Form.Key n = Item.Key n.key
closest_item Form.ClosestValue n = Item.ClosestValue n.key n.value
closest_item (Form.PredicateValue p) n = Item.PredicateValue n.key (matches (predicate_of p) n.value) n.value

-- how many bytes it takes
unfoldable pub closest_size : Form → ℕ
closest_size Form.Key = key_size
closest_size Form.ClosestValue = key_size + value_size
closest_size (Form.PredicateValue p) = key_size + 1 + value_size

-- the bytes of what is given of some nodes
abbrev pub closest_items : Form → List Node → List ℕ
closest_items f ns = joined item_bytes (map (closest_item f) ns)

-- the same of any listing

unfoldable pub item_by : Shape → Node → Item
item_by Shape.Nodes n = Item.Entry n
item_by (Shape.Closest x f) n = closest_item f n

abbrev pub items_by : Shape → List Node → List ℕ
items_by x ns = joined item_bytes (map (item_by x) ns)

unfoldable pub size_by : Shape → ℕ
size_by Shape.Nodes = node_size
size_by (Shape.Closest x f) = closest_size f

-- the nodes of a bucket, in stored order or nearest to the target first
unfoldable pub shown_by : Shape → Bucket → List Node
shown_by Shape.Nodes b = nodes b
shown_by (Shape.Closest x f) b = sort_by (distance_to (num x)) (nodes b)
