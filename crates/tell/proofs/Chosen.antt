-- A row's outcome, by its votes: a tube that fills a quorum with its votes is chosen, and two searches tell one from two.
use mathlib.Core.Path.{◌≡◌, sym, ◌∙◌}
use mathlib.Core.Bool.{Bool, true}
use mathlib.Core.List.{List}
use Rattle.std.specs.Prelude.{None}
use Prim.Native.Nat.{ℕ, ◌+◌, ◌≤◌, ◌<◌}
use native.Mathlib.Decide.{ℕ_discrete, dec_lt}
use native.Mathlib.Omega.{arith}
use lib.Dec.{leb, leb→le, le→leb}
use lib.ListN.{get_or}
use Rattle.rules.specs.Tests.{any}
use Rattle.rules.specs.Words.{Room, State}
use Rattle.rules.specs.Lent.{memory, read, room_of, board_of}
use Rattle.rules.specs.Steps.{is2b, chosen}
use Rattle.rules.specs.Book.{chosen_in, unchosen, agreed, split, outcome}
use Rattle.rules.specs.Laws.{Chosen}
use Rattle.rules.specs.declared.House.{House}
use Rattle.rules.proofs.Sound.{and_l, and_r, and_two}
use Rattle.rules.proofs.Scan.{below_same, holds}
use Rattle.rules.proofs.Outcome.{none_chosen, one-chosen, two-chosen}
use Rattle.sets.proofs.Full.{full_gathered}
use Rattle.tell.specs.Votes.{Countable, slot, Counted}
use Rattle.tell.specs.Chosen.{filled, carried, First, Next}

-- the votes tell whether a tube is chosen
pub carried-chosen : (h : House) (s cells heard votes : List ℕ) (row v : ℕ) → Countable h s → Counted (board_of s h.count) row votes → 1 ≤ v → v ≤ 64
    → carried h.nodes (room_of h).quorums votes v ≡ chosen_in (room_of h) (read (memory h s cells heard)) row v
unfolding carried chosen_in Counted
carried-chosen h s cells heard votes row v c f l k =
    below_same (λ b. filled h.nodes (room_of h).quorums (get_or votes (slot b v) 0)) (λ b. chosen (room_of h) (read (memory h s cells heard)) row b v) 16
    (λ b m. full_gathered (room_of h) (room_of h).quorums (get_or votes (slot b v) 0) (λ a. any (is2b row b v a) (board_of s h.count)) c.nodes
    (λ a n. f b v a m l k n))

-- ---- the outcome by two searches

module _ (h : House) (s cells heard votes : List ℕ) (row : ℕ) (c : Countable h s) (f : Counted (board_of s h.count) row votes) where
  abbrev ρ : Room
  ρ = room_of h

  abbrev σ : State
  σ = read (memory h s cells heard)

  abbrev p : ℕ → Bool
  p = carried h.nodes ρ.quorums votes

  -- a chosen tube is one that the searches find, and the other way round
  found : (w : ℕ) → Chosen ρ σ row w → (1 ≤ w) × (w ≤ 64) × (p w ≡ true)
  found w z =
      let l = leb→le 1 w (and_l (leb 1 w) (leb w 64) z.0) in
      let k = leb→le w 64 (and_r (leb 1 w) (leb w 64) z.0) in
      (l, k, carried-chosen h s cells heard votes row w c f l k ∙ holds (chosen_in ρ σ row w) z.1)

  is_chosen : (w : ℕ) → 1 ≤ w → w ≤ 64 → p w ≡ true → Chosen ρ σ row w
  is_chosen w l k e = (and_two (leb 1 w) (leb w 64) (le→leb 1 w l) (le→leb w 64 k), rw (sym (carried-chosen h s cells heard votes row w c f l k) ∙ e) tt)

  -- what a search passed over is not chosen
  over : (start v w : ℕ) → First p start v → start ≤ w → w < v → Chosen ρ σ row w → ⊥
  over start v w n a b z = let e : ◌≡◌ {A = ℕ} 0 1 = cc ((found w z).2, n.none w a b) in omega arith

  missed : (start w : ℕ) → Next p start None → start ≤ w → Chosen ρ σ row w → ⊥
  missed start w n a z = let e : ◌≡◌ {A = ℕ} 0 1 = cc ((found w z).2, n w a (found w z).1) in omega arith

  pub is_unchosen : Next p 1 None → outcome ρ σ row ≡ unchosen
  is_unchosen n = (none_chosen ρ σ row).1 (λ w z. missed 1 w n (found w z).0 z)

  module _ (v : ℕ) (n : First p 1 v) where
    first : Chosen ρ σ row v
    first = is_chosen v n.low n.high n.here

    pub is_agreed_row : Next p (v + 1) None → outcome ρ σ row ≡ agreed v
    is_agreed_row m = (one-chosen ρ σ row v).1 (first, λ x z. only x z (ℕ_discrete x v) (dec_lt x v))
      where
        only : (x : ℕ) → Chosen ρ σ row x → Dec (x ≡ v) → Dec (x < v) → x ≡ v
        only x z (yes e) d = e
        only x z (no e) (yes d) = absurd (over 1 v x n (found x z).0 d z)
        only x z (no e) (no d) = absurd (missed (v + 1) x m (omega arith) z)

    pub is_split_row : (w : ℕ) → First p (v + 1) w → outcome ρ σ row ≡ split
    is_split_row w m = (two-chosen ρ σ row).1 (v, w, first, is_chosen w (omega (arith, m.low)) m.high m.here, λ e. omega (arith, m.low))
