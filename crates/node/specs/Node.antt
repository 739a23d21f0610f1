-- The model's value and node that a declared one stands for, the codes of question 4, and the declared form of a model's node.
use Rattle.std.specs.Prelude.{ℕ, Bool, cond, ◌&&◌, eqb, leb}
use Rattle.std.specs.Prelude as std
use Rattle.std.specs.Option.{unwrap_or}
use Rattle.std.proofs.Math.Option.{Option, none, some}
use Rattle.model.specs.Value as model-value
use Rattle.model.specs.Node as model
use Rattle.model.specs.Call.{ValueArgument}
use Rattle.model.specs.Call as call
use Rattle.model.specs.Question.{value_in_range}
use Rattle.model.specs.Layout.{flag_byte}
use Rattle.key.specs.Key.{num, key_of}
use Rattle.node.specs.declared.Value.{Value}
use Rattle.node.specs.declared.NodeStatus.{NodeStatus}
use Rattle.node.specs.declared.Node.{Node}

-- as the argument of a call
abbrev pub argument_of : Value → ValueArgument
argument_of v = record { flag = v.flag; a = v.a; b = v.b; c = v.c; d = v.d; slot = v.slot }

abbrev pub value_of : Value → model-value.Value
value_of v = call.value_of (argument_of v)

abbrev pub node_of : Node → model.Node
node_of n =
    record {
      key = num n.key;
      value = value_of n.value;
      connected = eqb n.status.state 1;
      incoming = eqb n.status.direction 1;
    }

-- 01, question 4: address flag 0 or 1, octets zero at 0
abbrev pub value_codes : Value → Bool
value_codes v = value_in_range (argument_of v)

-- 01, question 4: state and direction 0 or 1
abbrev pub status_codes : NodeStatus → Bool
status_codes s = leb s.state 1 && leb s.direction 1

-- 01, question 4, of a node
abbrev pub node_codes : Node → Bool
node_codes n = leb n.status.state 1 && (leb n.status.direction 1 && value_codes n.value)

-- what an unused place holds
abbrev pub zero_node : Node
zero_node =
    record {
      key = record { w0 = 0; w1 = 0; w2 = 0; w3 = 0 };
      value = record { flag = 0; a = 0; b = 0; c = 0; d = 0; slot = 0 };
      status = record { state = 0; direction = 0 };
    }

abbrev pub is_zero : Node → Bool
is_zero n =
    (eqb n.key.w0 0 && (eqb n.key.w1 0 && (eqb n.key.w2 0 && eqb n.key.w3 0)))
    && ((eqb n.value.flag 0
    && (eqb n.value.a 0
    && (eqb n.value.b 0 && (eqb n.value.c 0 && (eqb n.value.d 0 && eqb n.value.slot 0)))))
    && (eqb n.status.state 0 && eqb n.status.direction 0))

-- the node with another status; where no direction is given, the old one stays
abbrev pub restated : ℕ → std.Option ℕ → Node → Node
restated state direction n =
    record { key = n.key; value = n.value; status = record { state = state; direction = unwrap_or direction n.status.direction } }

abbrev pub revalued : Value → Node → Node
revalued v n = record { key = n.key; value = v; status = n.status }

abbrev pub stored_address : ℕ → Option model-value.Address → Value
stored_address slot none = record { flag = 0; a = 0; b = 0; c = 0; d = 0; slot = slot }
stored_address slot (some x) = record { flag = 1; a = x.a; b = x.b; c = x.c; d = x.d; slot = slot }

abbrev pub stored_value : model-value.Value → Value
stored_value v = stored_address v.slot v.address

-- the declared node that stands for a model's node
abbrev pub stored_node : model.Node → Node
stored_node n =
    record {
      key = key_of n.key;
      value = stored_value n.value;
      status = record { state = flag_byte n.connected; direction = flag_byte n.incoming };
    }
