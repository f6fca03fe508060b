-- The number that a call replies: a refusal's is 1 to 19.
use Rattle.std.proofs.Common.{◌≡◌, Bool, true, false, List, [], ◌∷◌, ℕ, ◌≤◌, T, arith}
use lib.Dec.{leb, leb→le}
use Rattle.rules.specs.Tests.{pick, all, first}
use Rattle.rules.specs.Lent.{Memory}
use Rattle.rules.specs.Steps.{Call, scan, c1a, c1b, c1c, c2av, c2b, hear, foreign, ask, book}
use Rattle.rules.specs.Replies.{tests, reply}
use Rattle.rules.proofs.Sound.{and_l, and_r}

first-most : (l : List (Bool × ℕ)) (k : ℕ) → T (all (λ (x : Bool × ℕ). leb x.1 k) l) → first l ≤ k
first-most [] k t = omega arith
first-most (x ∷ l) k t =
    let rest = all (λ (x : Bool × ℕ). leb x.1 k) l in
    go (leb→le x.1 k (and_l (leb x.1 k) rest t)) (first-most l k (and_r (leb x.1 k) rest t)) x.0
  where
    go : x.1 ≤ k → first l ≤ k → (b : Bool) → pick b (first l) x.1 ≤ k
    go p q true = q
    go p q false = p

-- no call replies a number past 19
most : (m : Memory) (c : Call) → T (all (λ (x : Bool × ℕ). leb x.1 19) (tests m c))
most m (scan a b) = tt
most m (c1a r b) = tt
most m (c1b r n b) = tt
most m (c1c r b v) = tt
most m (c2av r n b v) = tt
most m (c2b r n b v) = tt
most m (hear n k) = tt
most m (foreign p) = tt
most m (ask r) = tt
most m (book p q) = tt

-- a reply that is not 0 names a refusal
pub named : (m : Memory) (c : Call) (k : ℕ) → reply m c ≡ k → ¬ (k ≡ 0) → (1 ≤ k) × (k ≤ 19)
unfolding reply
named m c k e n = let l = first-most (tests m c) 19 (most m c) in (positive k n, omega arith)
  where
    positive : (k : ℕ) → ¬ (k ≡ 0) → 1 ≤ k
    positive k n = omega arith
