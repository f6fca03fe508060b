-- A gathered set stands for the test that it was gathered by: one node more, and a full set of one is a full set of the other.
use mathlib.Core.Path.{◌≡◌, refl, ap, sym, ◌∙◌}
use mathlib.Core.Bool.{Bool, true, false, ◌||◌}
use mathlib.Core.List.{List, [], ◌∷◌}
use Prim.Native.Nat.{ℕ, zero, suc, ◌^◌, ◌≤◌, ◌<◌}
use native.Mathlib.Nat.{zero-div}
use native.Mathlib.Omega.{arith}
use borrow.Author.Tests.{ne_eqb, ltb-false}
use lib.Bits.{bit_or}
use lib.Dec.{eqb, ltb}
use lib.ListN.{length, get_or}
use lib.Seq.{take_all}
use Rattle.rules.specs.Tests.{pick, any, any_below, all_in, bit}
use Rattle.rules.specs.Words.{Room}
use Rattle.rules.specs.Steps.{full}
use Rattle.rules.proofs.Nodes.{mark_bit}
use Rattle.rules.proofs.Codec.{or_no}
use Rattle.rules.proofs.Scan.{take_below}
use Rattle.sets.specs.Sets.{joined, Gathered}

in_same : (n q : ℕ) (p r : ℕ → Bool) → ((a : ℕ) → a < n → p a ≡ r a) → all_in n q p ≡ all_in n q r
in_same zero q p r f = refl
in_same (suc n) q p r f = rw (f n (omega arith), in_same n q p r (λ a l. f a (omega arith)))

full_same : (ρ : Room) (sets : List ℕ) (p r : ℕ → Bool) → ((a : ℕ) → a < ρ.nodes → p a ≡ r a) → full ρ sets p ≡ full ρ sets r
full_same ρ [] p r f = refl
full_same ρ (q ∷ sets) p r f = rw (in_same ρ.nodes q p r f, full_same ρ sets p r f)

-- a list has a full set of the gathered nodes just where it has one of those that pass
pub full_gathered : (ρ : Room) (sets : List ℕ) (set : ℕ) (p : ℕ → Bool) → ρ.nodes ≤ 8 → Gathered set p → full ρ sets (bit set) ≡ full ρ sets p
full_gathered ρ sets set p h g = full_same ρ sets (bit set) p (λ a l. g a (omega arith))

-- which nodes are of a set with one node more
pub joined-bit : (set n a : ℕ) → a < 8 → bit (joined set n) a ≡ bit set a || eqb a n
unfolding joined
joined-bit set n a h = go (ltb n 8) refl
  where
    go : (b : Bool) → ltb n 8 ≡ b → bit (pick b (bit_or set (2 ^ n)) set) a ≡ bit set a || eqb a n
    go true e = mark_bit set n a
    go false e = rw (ne_eqb a n (λ z. omega (arith, ltb-false n 8 e))) (sym (or_no (bit set a)))

-- some element of a list passes: some number below its length has one
pub any_items : (p : ℕ → Bool) (l : List ℕ) → any p l ≡ any_below (λ k. p (get_or l k 0)) (length l)
any_items p l = ap (any p) (sym (take_all (length l) l (omega arith))) ∙ take_below p l (length l) (omega arith)

-- the empty set, and one node more
pub gathered_none : (p : ℕ → Bool) → ((a : ℕ) → p a ≡ false) → Gathered 0 p
gathered_none p f a h = rw (zero-div, f a)
