-- What each call is asked (01, "The gatekeeper's questions"). Where a call lacks what a question is about, the test holds. Questions
-- 1 and 2 are asked of the storage's bytes, in StepBytes.
use Rattle.std.specs.Prelude.{ℕ, ◌+◌, ◌-◌, ◌*◌, ◌^◌, Bool, true, false, cond, not, ◌&&◌, ◌||◌, List, [], ◌∷◌, length, eqb, leb}
use Rattle.std.proofs.Math.Option.{Option, none, some}
use Rattle.model.specs.Base.{every}
use Rattle.model.specs.Bytes.{number}
use Rattle.model.specs.Bucket.{max_nodes_per_bucket}
use Rattle.model.specs.Table.{Table, EntryKind, kind_in, index_in}
use Rattle.model.specs.Sizes.{key_size, value_size, node_size}
use Rattle.model.specs.Session.{Session, hours_fit, admits}
use Rattle.model.specs.Call.{ValueArgument, Listing, Call, KeyCall}
use Rattle.model.specs.Listing.{most}

-- the number of the first question that fails
abbrev pub first_failed : List (ℕ × Bool) → Option ℕ
first_failed [] = none
first_failed (q ∷ qs) = cond q.1 (first_failed qs) (some q.0)

-- the questions, with room in a lent output asked in 6's turn
abbrev pub with_room : Bool → List (ℕ × Bool) → List (ℕ × Bool)
with_room room [] = []
with_room room (q ∷ qs) = (q.0, cond (eqb q.0 6) (q.1 && room) q.1) ∷ with_room room qs

-- 3: the target of a listing
abbrev pub targets : Listing → List (List ℕ)
targets Listing.iter = []
targets (Listing.nodes_by_distances ds) = []
targets (Listing.closest_keys x) = x ∷ []
targets (Listing.closest_values x) = x ∷ []
targets (Listing.closest_values_predicate x p) = x ∷ []

-- 4: address flag 0 or 1, octets zero at 0
abbrev pub value_in_range : ValueArgument → Bool
value_in_range v = eqb v.flag 1 || (eqb v.flag 0 && (eqb v.a 0 && (eqb v.b 0 && (eqb v.c 0 && eqb v.d 0))))

-- 4: predicate 0 to 3
abbrev pub listing_codes : Listing → Bool
listing_codes Listing.iter = true
listing_codes (Listing.nodes_by_distances ds) = true
listing_codes (Listing.closest_keys x) = true
listing_codes (Listing.closest_values x) = true
listing_codes (Listing.closest_values_predicate x p) = leb p.predicate 3

-- 6: the bytes that a listing writes of one node
abbrev pub entry_size : Listing → ℕ
entry_size Listing.iter = node_size
entry_size (Listing.nodes_by_distances ds) = node_size
entry_size (Listing.closest_keys x) = key_size
entry_size (Listing.closest_values x) = key_size + value_size
entry_size (Listing.closest_values_predicate x p) = key_size + 1 + value_size

-- 6: n is at most 4,096
abbrev pub max_count : ℕ
max_count = 4096

-- 7: the kinds that the entry actions need
abbrev pub any_kind : EntryKind → Bool
any_kind k = true

abbrev pub is_present : EntryKind → Bool
is_present (EntryKind.Present u d) = true
is_present (EntryKind.Pending u d) = false
is_present EntryKind.Absent = false
is_present EntryKind.SelfEntry = false

abbrev pub is_pending : EntryKind → Bool
is_pending (EntryKind.Present u d) = false
is_pending (EntryKind.Pending u d) = true
is_pending EntryKind.Absent = false
is_pending EntryKind.SelfEntry = false

abbrev pub is_absent : EntryKind → Bool
is_absent (EntryKind.Present u d) = false
is_absent (EntryKind.Pending u d) = false
is_absent EntryKind.Absent = true
is_absent EntryKind.SelfEntry = false

abbrev pub kind_of_key : List ℕ → Table → EntryKind
kind_of_key k t = kind_in t (number k) (index_in t (number k))

-- what the questions look at in a call
pub record Arguments : Type 0 where
  -- 2: it is handed a table
  pub table : Bool
  -- 3: the keys
  pub keys : List (List ℕ)
  -- 4: each code is in range
  pub codes : Bool
  -- 5: the time, if it is given one
  pub now : Option ℕ
  -- 6: the count is at most 4,096 and the output has room
  pub room : Bool
  -- 7: the key is of the kind that it needs
  pub kind : Table → Bool
  -- 10 and 11: the session hours, if it is given them
  pub hours : Option Session
  -- 11: the key is the local one, or is held or pending
  pub known : Table → Bool
  -- the lent output; empty where there is none
  pub output : List ℕ

-- the same in a call on one key
pub record KeyArguments : Type 0 where
  pub codes : Bool
  pub now : Option ℕ
  pub kind : EntryKind → Bool
  pub hours : Option Session

-- 01, question 4: state and direction 0 or 1, 2 for "not given" where the Rust has Option
abbrev pub key_arguments : KeyCall → KeyArguments
key_arguments (KeyCall.update_node_status st dr now) = record { codes = leb st 1 && leb dr 2; now = some now; kind = any_kind; hours = none }
key_arguments (KeyCall.update_node v st now) = record { codes = value_in_range v && leb st 2; now = some now; kind = any_kind; hours = none }
key_arguments (KeyCall.insert_or_update v st dr now hs) = record { codes = value_in_range v && (leb st 1 && leb dr 1); now = some now; kind = any_kind; hours = some hs }
key_arguments (KeyCall.remove now) = record { codes = true; now = some now; kind = any_kind; hours = none }
key_arguments (KeyCall.entry now) = record { codes = true; now = some now; kind = any_kind; hours = none }
key_arguments (KeyCall.present_update st dr) = record { codes = leb st 1 && leb dr 2; now = none; kind = is_present; hours = none }
key_arguments (KeyCall.pending_update st dr) = record { codes = leb st 1 && leb dr 1; now = none; kind = is_pending; hours = none }
key_arguments (KeyCall.absent_insert v st dr now hs) = record { codes = value_in_range v && (leb st 1 && leb dr 1); now = some now; kind = is_absent; hours = some hs }

abbrev pub on_one_key : List ℕ → KeyArguments → Arguments
on_one_key k a =
    record {
      table = true;
      keys = k ∷ [];
      codes = a.codes;
      now = a.now;
      room = true;
      kind = λ t. a.kind (kind_of_key k t);
      hours = a.hours;
      known = λ t. not (is_absent (kind_of_key k t));
      output = [];
    }

-- a call that is asked of the storage alone before 8
abbrev pub on_storage : Arguments
on_storage =
    record { table = true; keys = []; codes = true; now = none; room = true; kind = λ t. true; hours = none; known = λ t. true; output = [] }

-- 01, question 4: filters 0 or 1; max_incoming 0 to 16
abbrev pub arguments : Call → Arguments
arguments (Call.new k timeout m tf bf) =
    record {
      table = false;
      keys = k ∷ [];
      codes = leb m max_nodes_per_bucket && (leb tf 1 && leb bf 1);
      now = none;
      room = true;
      kind = λ t. true;
      hours = none;
      known = λ t. true;
      output = [];
    }
arguments (Call.on_key k c) = on_one_key k (key_arguments c)
arguments (Call.list l n now out) =
    record {
      table = true;
      keys = targets l;
      codes = listing_codes l;
      now = some now;
      room = leb n max_count && leb (most l n * entry_size l) (length out);
      kind = λ t. true;
      hours = none;
      known = λ t. true;
      output = out;
    }
arguments Call.take_applied_pending = on_storage
-- 02, slip 6: codes in the bytes read are left to 9
arguments (Call.read bs) = on_storage

-- 3: is every key 32 bytes?
unfoldable pub keys_fit : Call → Bool
keys_fit c = every (λ k. eqb (length k) key_size) (arguments c).keys

-- 4: is each code in range?
unfoldable pub codes_in_range : Call → Bool
codes_in_range c = (arguments c).codes

abbrev pub deadline_fits : ℕ → Option ℕ → Bool
deadline_fits timeout none = true
deadline_fits timeout (some now) = leb (now + timeout) (2 ^ 64 - 1)

-- 5: is now + timeout at most 2 ^ 64 - 1?
unfoldable pub clock_fits : Call → Table → Bool
clock_fits c t = deadline_fits t.settings.bucket.pending_timeout (arguments c).now

-- 6: is n at most 4,096, with outputs for n entries (for one, in nodes_by_distances at 0)?
unfoldable pub output_fits : Call → Bool
output_fits c = (arguments c).room

-- 7: is the key now of the kind the entry action needs?
unfoldable pub kind_fits : Call → Table → Bool
kind_fits c t = (arguments c).kind t

abbrev pub in_range : Option Session → Bool
in_range none = true
in_range (some x) = hours_fit x

-- 10 (02, slip 8): are date, minute, windows and lists what 02 says?
abbrev pub hours_in_range : Call → Bool
hours_in_range c = in_range (arguments c).hours

abbrev pub admits_in : Option Session → (known : Bool) → Bool
admits_in none known = true
admits_in (some x) known = admits x known

-- 11 (02, slip 8): is the key known as stored, nothing applied, or is it open?
abbrev pub admitted : Call → Table → Bool
admitted c t = admits_in (arguments c).hours ((arguments c).known t)
