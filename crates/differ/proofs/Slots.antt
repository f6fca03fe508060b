-- The table of slots: a probe that ends at an empty slot passed every equal message.
use mathlib.Core.Path.{◌≡◌, refl, ap, sym, ◌∙◌}
use mathlib.Core.Bool.{Bool, true, false, not, false≢true}
use mathlib.Core.Logic.{⊎_elim}
use mathlib.Core.List.{List}
use Prim.Native.Nat.{ℕ, zero, suc, ◌+◌, ◌-◌, ◌≤◌, ◌<◌}
use native.Mathlib.Numerals.{add-one}
use native.Mathlib.Decide.{ℕ_discrete}
use native.Mathlib.Omega.{arith}
use borrow.Author.Tests.{ltb-true, ltb-false}
use lib.Dec.{ltb}
use lib.ListN.{get_or, set, length-set, replicate, length-replicate}
use lib.Seq.{get_or-set_same, get_or-set_other}
use Rattle.rules.specs.Tests.{eqs}
use Rattle.rules.specs.Lent.{window}
use Rattle.rules.proofs.Codec.{order}
use Rattle.rules.proofs.Scan.{eqs_means}
use Rattle.rules.proofs.Each.{each_all, each_stop}
use Rattle.differ.specs.Differ.{new_message, mix, slot_of, Stands, Table, Probed}

-- ---- where bytes are looked for

pub mix-low : (l : List ℕ) → mix l < 2039
unfolding mix
mix-low l = omega arith

-- ---- a table

empty-slot : (n i : ℕ) → get_or {A = ℕ} (replicate n 0) i 0 ≡ 0
empty-slot zero i = refl
empty-slot (suc n) zero = refl
empty-slot (suc n) (suc i) = empty-slot n i

pub table_none : (s : List ℕ) → Table s (replicate 3073 0) 0
table_none s = record {
  long = length-replicate {A = ℕ} 3073 0;
  low = λ t. omega (arith, empty-slot 3073 t);
  held = λ j e l. absurd (omega arith);
}

module _ (s slots : List ℕ) (k r : ℕ) (t : Table s slots k) (p : Probed s slots k (slot_of s k) r) where
  met : r < 3072 → (j : ℕ) → window 40 j s ≡ window 40 k s → Stands s slots j r → eqs (window 40 j s) (window 40 k s) ≡ false
  met h j w f =
      let o : slot_of s j ≡ slot_of s k = ap mix w in
      let q = p.passed (omega arith) f.0 (omega (arith, f.1)) f.2 in
      let e : get_or slots f.0 0 - 1 ≡ j = omega (arith, f.3) in
      rw e at q.1

  -- a message that ends at an empty slot is new
  pub probed_new : r < 3072 → new_message s k ≡ true
  probed_new h = each_all (λ j. not (eqs (window 40 j s) (window 40 k s))) k (λ j l. go j l (eqs (window 40 j s) (window 40 k s)) refl)
    where
      go : (j : ℕ) → j < k → (b : Bool) → eqs (window 40 j s) (window 40 k s) ≡ b → not b ≡ true
      go j l true e =
          let w = eqs_means (window 40 j s) (window 40 k s) (rw e tt) in
          let o : slot_of s j ≡ slot_of s k = ap mix w in
          ap not (sym e ∙ met h j w (t.held j r l (omega (arith, p.from)) h (p.empty h)))
      go j l false e = refl

  -- with the message in the slot where its probe ended
  abbrev more : List ℕ
  more = set slots r (k + 1)

  module _ (h : r ≤ 3072) where
    here : get_or more r 0 ≡ k + 1
    here = get_or-set_same slots r (k + 1) 0 (omega (arith, t.long))

    -- an empty slot was empty
    was : (e : ℕ) → get_or more e 0 ≡ 0 → (¬ (e ≡ r)) × (get_or slots e 0 ≡ 0)
    was e z = go (ℕ_discrete e r)
      where
        go : Dec (e ≡ r) → (¬ (e ≡ r)) × (get_or slots e 0 ≡ 0)
        go (yes d) = absurd (omega (arith, here, ap (λ (i : ℕ). get_or more i 0) d))
        go (no d) = (d, sym (get_or-set_other slots r e (k + 1) 0 d) ∙ z)

    low : (x : ℕ) → Dec (x ≡ r) → get_or more x 0 ≤ k + 1
    low x (yes d) = omega (arith, here, ap (λ (i : ℕ). get_or more i 0) d)
    low x (no d) = rw (get_or-set_other slots r x (k + 1) 0 d) (omega (arith, t.low x))

    -- earlier messages stand where they stood
    stood : (j e : ℕ) → e < 3072 → Stands s slots j e → Stands s more j e
    stood j e b f = (f.0, f.1, f.2, get_or-set_other slots r f.0 (k + 1) 0 other ∙ f.3)
      where
        other : ¬ (f.0 ≡ r)
        other d = omega (arith, f.2, f.3, p.empty (omega (arith, f.2)), ap (λ (i : ℕ). get_or slots i 0) d)

    -- the new one before any empty slot
    stands : (e : ℕ) → slot_of s k ≤ e → ¬ (e ≡ r) → get_or slots e 0 ≡ 0 → Stands s more k e
    stands e a d z = ⊎_elim
        (λ (l : e < r). absurd (omega (arith, (p.passed h e a l).0)))
        (λ (l : r < e). (r, p.from, l, here ∙ add-one k)) (order e r d)

    held : (j e : ℕ) → j < k + 1 → slot_of s j ≤ e → e < 3072 → get_or more e 0 ≡ 0 → Dec (j ≡ k) → Stands s more j e
    held j e l a b z (yes d) = rw d (stands e (rw d at a) (was e z).0 (was e z).1)
    held j e l a b z (no d) = stood j e b (t.held j e (omega arith) a b (was e z).1)

    pub table_more : Table s more (k + 1)
    table_more = record { long = length-set slots r (k + 1) ∙ t.long; low = λ x. low x (ℕ_discrete x r); held = λ j e l a b z. held j e l a b z (ℕ_discrete j k) }

-- ---- a probe

-- a slot's message is equal
pub equal_there : (s : List ℕ) (k v : ℕ) → 1 ≤ v → v ≤ k → eqs (window 40 (v - 1) s) (window 40 k s) ≡ true → new_message s k ≡ false
equal_there s k v a b e = each_stop (λ j. not (eqs (window 40 j s) (window 40 k s))) (v - 1) k (omega arith) (ap not e)

-- a message that is new found no equal
pub ended : (r : ℕ) (b : Bool) → (3072 < r → b ≡ false) → b ≡ true → r ≤ 3072
ended r b f e = go (ltb 3072 r) refl
  where
    go : (c : Bool) → ltb 3072 r ≡ c → r ≤ 3072
    go true d = absurd (false≢true (sym (f (ltb-true 3072 r d)) ∙ e))
    go false d = ltb-false 3072 r d
