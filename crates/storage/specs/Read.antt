-- The declared value and node whose bytes these are, with each code as it stands.
use Rattle.std.specs.Prelude.{ℕ, ◌+◌, List, get_or}
use Rattle.model.specs.Bytes.{number, part}
use Rattle.model.specs.Sizes.{key_size, slot_size, value_size}
use Rattle.node.specs.declared.Value.{Value}
use Rattle.node.specs.declared.Node.{Node}
use Rattle.key.specs.Key.{key_of}

unfoldable pub read_value : List ℕ → Value
read_value bs =
    record {
      flag = get_or bs 0 0;
      a = get_or bs 1 0;
      b = get_or bs 2 0;
      c = get_or bs 3 0;
      d = get_or bs 4 0;
      slot = number (part bs 5 slot_size);
    }

unfoldable pub read_node : List ℕ → Node
read_node bs =
    record {
      key = key_of (number (part bs 0 key_size));
      value = read_value (part bs (key_size + 2) value_size);
      status = record { state = get_or bs key_size 0; direction = get_or bs (key_size + 1) 0 };
    }
