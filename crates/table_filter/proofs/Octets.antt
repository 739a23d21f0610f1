-- The address flag and the first three octets of a value, with which its bytes begin: a value with others does not count.
use mathlib.Core.Path.{◌≡◌, refl, sym, ◌∙◌}
use mathlib.Core.Bool.{true, false}
use mathlib.Core.List.{List}
use Prim.Native.Nat.{ℕ, ◌/◌}
use native.Mathlib.Omega.{arith}
use lib.ListN.{length, get_or}
use borrow.Author.Tests.{eqb-true}
use Rattle.model.specs.Bytes.{number, part, Bytes}
use Rattle.model.specs.Filter.{counts}
use Rattle.model.specs.Sizes.{value_size}
use Rattle.laws.proofs.Tests.{split}
use Rattle.node.specs.declared.Value as declared
use Rattle.node.specs.Node.{value_of}
use Rattle.node.proofs.Tests.{and_both, counts_is}
use Rattle.words.proofs.Words.{number_8}
use Rattle.storage.specs.Read.{read_value}
use Rattle.table_filter.specs.Counted.{net_of}

module _ (s : List ℕ) (v : declared.Value) where
  net_shared : length s ≡ value_size → Bytes s → counts (value_of v) (value_of (read_value s)) ≡ true → number (part s 0 8) / 4294967296 ≡ net_of v
  unfolding read_value
  net_shared l y e =
      let both = and_both _ _ (and_both _ _ (counts_is v (read_value s) _ refl ∙ e)).0 in
      let flags = and_both _ _ both.0 in
      let octets = and_both _ _ both.1 in
      let more = and_both _ _ octets.1 in
      let f : v.flag ≡ get_or s 0 0 = eqb-true _ _ flags.0 ∙ sym (eqb-true _ _ flags.1) in
      let a : v.a ≡ get_or s 1 0 = eqb-true _ _ octets.0 in
      let b : v.b ≡ get_or s 2 0 = eqb-true _ _ more.0 in
      let c : v.c ≡ get_or s 3 0 = eqb-true _ _ more.1 in
      rw (number_8 s 0 (omega arith), f, a, b, c) (omega (arith, y 4, y 5, y 6, y 7))

  pub net_differs : length s ≡ value_size → Bytes s → (number (part s 0 8) / 4294967296 ≡ net_of v → ⊥) → counts (value_of v) (value_of (read_value s)) ≡ false
  net_differs l y h = split (counts (value_of v) (value_of (read_value s))) (λ e. absurd (h (net_shared l y e))) (λ e. e)
