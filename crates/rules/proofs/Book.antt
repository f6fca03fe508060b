-- The book is what one clerk writes, and only grows; how far it reaches, how long it is, what stands in it, why it stops.
use mathlib.Core.Path.{◌≡◌, refl, sym, ap, ◌∙◌}
use mathlib.Core.Bool.{Bool, true, false, not, ◌||◌, or-false, or_comm}
use mathlib.Core.Logic.{◌↔◌}
use mathlib.Core.List.Memᴰ
use mathlib.Core.List.{List, [], ◌∷◌, ◌++◌, map, Memᴰ}
use Prim.Native.Nat.{ℕ, zero, suc, ◌+◌, ◌-◌, ◌≤◌, ◌<◌}
use native.Mathlib.Nat.{add-zero, zero-add}
use native.Mathlib.Decide.{ℕ_discrete}
use native.Mathlib.Omega.{arith}
use borrow.Author.Tests.{eqb-true, eqb-false, ne_eqb}
use lib.Dec.{T, eqb, leb, leb→le}
use lib.ListN.{length, length-map}
use Rattle.rules.specs.Tests.{pick, any, up_to}
use Rattle.rules.specs.Words.{Room, State}
use Rattle.rules.specs.Book.{Outcome, unchosen, agreed, split, outcome, tube_of, is_agreed, leading, reach, row_tube, void, entry, book_of, stands, waiting_of, stopped, clerk}
use Rattle.rules.specs.Laws.{OneClerk, Grows, Reaches, BookLength, EntrySmall, BookSmall, WaitingClimbs, WaitingScanned, WaitingLength, StopsEnded, StopsUnchosen, StopsSplit}
use Rattle.rules.proofs.Sound.{and_r}
use Rattle.rules.proofs.Lists.{failed, any_same, any_next, map-append, map_same, onwards, up_more, up_onwards, length_up, up_out, keep_out, length-keep, climbs-keep, climbs_up, leading_le, leading_pass, leading_stop, leading-most}
use Rattle.rules.proofs.Outcome.{one-chosen}
use Rattle.rules.proofs.Scan.{holds, turn}

-- ---- the rows of the book

abbrev passes : Room → State → ℕ → Bool
passes ρ s r = is_agreed (outcome ρ s r)

alone : (o : Outcome) → T (is_agreed o) → o ≡ agreed (tube_of o)
alone unchosen t = absurd t
alone (agreed v) t = refl
alone split t = absurd t

pub reaches : Reaches
unfolding reach
reaches ρ s = leading_le (passes ρ s) ρ.rows

pub row_agreed : (ρ : Room) (s : State) (r : ℕ) → 1 ≤ r → r ≤ reach ρ s → outcome ρ s r ≡ agreed (row_tube ρ s r)
unfolding reach row_tube
row_agreed ρ s r h k = alone (outcome ρ s r) (leading_pass (passes ρ s) ρ.rows r h k)

pub next_open : (ρ : Room) (s : State) → reach ρ s < ρ.rows → ¬ (T (is_agreed (outcome ρ s (suc (reach ρ s)))))
unfolding reach
next_open ρ s h = leading_stop (passes ρ s) ρ.rows h

-- ---- entries

-- the tube v stands in one of the rows 1 to k
abbrev pub before : Room → State → ℕ → ℕ → Bool
before ρ s k v = any (λ q. eqb (row_tube ρ s q) v) (up_to k)

pub before_more : (ρ : Room) (s : State) (k v : ℕ) → before ρ s (suc k) v ≡ before ρ s k v || eqb (row_tube ρ s (suc k)) v
before_more ρ s k v = any_next (λ q. eqb (row_tube ρ s q) v) k

pub entry_next : (ρ : Room) (s : State) (k : ℕ) → entry ρ s (suc k) ≡ pick (before ρ s k (row_tube ρ s (suc k))) 0 (row_tube ρ s (suc k))
unfolding entry void
entry_next ρ s k = let e : suc k - 1 ≡ k = omega arith in rw e

-- a bound of the agreed tubes bounds every entry
pub entry-most : (ρ : Room) (s : State) (k : ℕ) → ((r v : ℕ) → outcome ρ s r ≡ agreed v → v ≤ k) → (r : ℕ) → entry ρ s r ≤ k
unfolding entry row_tube
entry-most ρ s k h r = go (void ρ s r) (outcome ρ s r) refl
  where
    go : (b : Bool) (o : Outcome) → outcome ρ s r ≡ o → pick b 0 (tube_of o) ≤ k
    go true o e = omega arith
    go false unchosen e = omega arith
    go false (agreed v) e = h r v e
    go false split e = omega arith

pub entry_small : EntrySmall
entry_small ρ s r = entry-most ρ s 64 (λ q v e. leb→le v 64 (and_r (leb 1 v) (leb v 64) ((one-chosen ρ s q v).0 e).0.0)) r

pub book_row : (ρ : Room) (s : State) (x : ℕ) → Memᴰ x (book_of ρ s) → (r : ℕ) × (1 ≤ r) × (r ≤ reach ρ s) × (entry ρ s r ≡ x)
unfolding book_of
book_row ρ s x m =
    let z = Memᴰ.of_map (entry ρ s) (up_to (reach ρ s)) m in
    let h = up_out (reach ρ s) z.0 z.1 in
    (z.0, h.0, h.1, z.2)

pub book_small : BookSmall
book_small ρ s x m = let z = book_row ρ s x m in omega (arith, entry_small ρ s z.0, z.3)

pub book_length : BookLength
unfolding book_of
book_length ρ s = length-map (up_to (reach ρ s)) (entry ρ s) ∙ length_up (reach ρ s)

-- ---- one clerk

-- the tubes in the clerk's hand are those of the rows 1 to k
abbrev Hand : Room → State → List ℕ → ℕ → Type 0
Hand ρ s written k = (v : ℕ) → any (eqb v) written ≡ before ρ s k v

hand_void : (ρ : Room) (s : State) (written : List ℕ) (k : ℕ) → Hand ρ s written k → before ρ s k (row_tube ρ s (suc k)) ≡ true → Hand ρ s written (suc k)
hand_void ρ s written k h e v = h v ∙ go (ℕ_discrete (row_tube ρ s (suc k)) v) ∙ sym (before_more ρ s k v)
  where
    go : Dec (row_tube ρ s (suc k) ≡ v) → before ρ s k v ≡ before ρ s k v || eqb (row_tube ρ s (suc k)) v
    go (yes d) = let b : before ρ s k v ≡ true = rw d at e in rw b
    go (no d) = rw (ne_eqb (row_tube ρ s (suc k)) v d) (sym (or-false (before ρ s k v)))

hand_more : (ρ : Room) (s : State) (written : List ℕ) (k : ℕ) → Hand ρ s written k → Hand ρ s (row_tube ρ s (suc k) ∷ written) (suc k)
hand_more ρ s written k h v = rw (h v, before_more, turn v (row_tube ρ s (suc k))) (or_comm (eqb (row_tube ρ s (suc k)) v) (before ρ s k v))

-- from row k + 1 on, where m more rows of n pass
onward : (ρ : Room) (s : State) (n k m : ℕ) (written : List ℕ) → m ≤ n → ((r : ℕ) → k < r → r ≤ k + m → T (passes ρ s r))
    → (m < n → ¬ (T (passes ρ s (suc (k + m))))) → Hand ρ s written k → clerk ρ s written (suc k) n ≡ map (entry ρ s) (onwards k m)
unfolding clerk
onward ρ s zero k zero written h f g w = refl
onward ρ s zero k (suc m) written h f g w = absurd (omega arith)
onward ρ s (suc n) k zero written h f g w =
    let c : ¬ (T (passes ρ s (suc (k + 0)))) = g (omega arith) in
    let d : ¬ (T (passes ρ s (suc k))) = rw add-zero at c in
    rw (failed (passes ρ s (suc k)) d)
onward ρ s (suc n) k (suc m) written h f g w =
    rw (holds (passes ρ s (suc k)) (f (suc k) (omega arith) (omega arith)), entry_next ρ s k, w (row_tube ρ s (suc k)))
    (go (before ρ s k (row_tube ρ s (suc k))) refl
    (λ written'. onward ρ s n (suc k) m written' (omega arith) (λ r a b. f r (omega arith) (omega arith))
    (λ l. let e : suc k + m ≡ k + suc m = omega arith in rw e (g (omega arith)))))
  where
    v : ℕ
    v = row_tube ρ s (suc k)

    go : (b : Bool) → before ρ s k v ≡ b → ((written' : List ℕ) → Hand ρ s written' (suc k) → clerk ρ s written' (suc (suc k)) n ≡ map (entry ρ s) (onwards (suc k) m))
        → pick b (0 ∷ clerk ρ s written (suc (suc k)) n) (v ∷ clerk ρ s (v ∷ written) (suc (suc k)) n) ≡ pick b 0 v ∷ map (entry ρ s) (onwards (suc k) m)
    go true e r = ap (λ (l : List ℕ). 0 ∷ l) (r written (hand_void ρ s written k w e))
    go false e r = ap (λ (l : List ℕ). v ∷ l) (r (v ∷ written) (hand_more ρ s written k w))

pub one-clerk : OneClerk
unfolding book_of reach
one-clerk ρ s =
    let m = leading (passes ρ s) ρ.rows in
    ap (map (entry ρ s)) (up_onwards m)
    ∙ sym (onward ρ s ρ.rows 0 m [] (leading_le (passes ρ s) ρ.rows)
    (λ r a b. leading_pass (passes ρ s) ρ.rows r (omega arith) (rw zero-add at b))
    (λ l. rw zero-add (leading_stop (passes ρ s) ρ.rows l))
    (λ v. refl))

-- ---- the book grows

module _ (ρ : Room) (s s' : State) (stay : (r v : ℕ) → outcome ρ s r ≡ agreed v → outcome ρ s' r ≡ agreed v) where
  kept : (r : ℕ) → 1 ≤ r → r ≤ reach ρ s → outcome ρ s' r ≡ agreed (row_tube ρ s r)
  kept r h k = stay r (row_tube ρ s r) (row_agreed ρ s r h k)

  tube_kept : (r : ℕ) → 1 ≤ r → r ≤ reach ρ s → row_tube ρ s' r ≡ row_tube ρ s r
  unfolding row_tube
  tube_kept r h k = ap tube_of (kept r h k)

  pub reach_grows : reach ρ s ≤ reach ρ s'
  unfolding reach
  reach_grows = leading-most (passes ρ s') ρ.rows (leading (passes ρ s) ρ.rows) (leading_le (passes ρ s) ρ.rows) (λ r h k. rw (kept r h k) tt)

  entry_kept : (r : ℕ) → 1 ≤ r → r ≤ reach ρ s → entry ρ s' r ≡ entry ρ s r
  unfolding entry void
  entry_kept r h k =
      let e = tube_kept r h k in
      let a : any (λ q. eqb (row_tube ρ s' q) (row_tube ρ s r)) (up_to (r - 1)) ≡ any (λ q. eqb (row_tube ρ s q) (row_tube ρ s r)) (up_to (r - 1))
      = any_same (λ q. eqb (row_tube ρ s' q) (row_tube ρ s r)) (λ q. eqb (row_tube ρ s q) (row_tube ρ s r)) (up_to (r - 1))
      (λ q m. let b = up_out (r - 1) q m in ap (λ (x : ℕ). eqb x (row_tube ρ s r)) (tube_kept q b.0 (omega (arith, b.1)))) in
      rw (e, a)

pub grows : Grows
unfolding book_of
grows ρ s s' h =
    let m = reach ρ s in
    let d = reach ρ s' - reach ρ s in
    let e : reach ρ s' ≡ m + d = omega (arith, reach_grows ρ s s' h) in (
      map (entry ρ s') (onwards m d),
      ap (λ (n : ℕ). map (entry ρ s') (up_to n)) e
          ∙ ap (map (entry ρ s')) (up_more m d)
          ∙ map-append (entry ρ s') (up_to m) (onwards m d)
          ∙ ap (λ (l : List ℕ). l ++ map (entry ρ s') (onwards m d))
          (map_same (entry ρ s') (entry ρ s) (up_to m) (λ r o. let b = up_out m r o in entry_kept ρ s s' h r b.0 b.1)),
    )

-- ---- the waiting tubes

pub waiting_climbs : WaitingClimbs
unfolding waiting_of
waiting_climbs ρ s = climbs-keep (λ t. not (stands ρ s t)) 0 (up_to (length s.intake)) (climbs_up (length s.intake))

pub waiting_scanned : WaitingScanned
unfolding waiting_of
waiting_scanned ρ s t m = up_out (length s.intake) t (keep_out (λ t. not (stands ρ s t)) (up_to (length s.intake)) t m).0

pub waiting_length : WaitingLength
unfolding waiting_of
waiting_length ρ s = omega (arith, length-keep (λ t. not (stands ρ s t)) (up_to (length s.intake)), length_up (length s.intake))

-- ---- why the book stopped

data Stop (ρ : Room) (s : State) : Type 0 where
  ended : stopped ρ s ≡ 0 → reach ρ s ≡ ρ.rows → Stop ρ s
  at_unchosen : stopped ρ s ≡ 1 → reach ρ s < ρ.rows → outcome ρ s (suc (reach ρ s)) ≡ unchosen → Stop ρ s
  at_split : stopped ρ s ≡ 2 → reach ρ s < ρ.rows → outcome ρ s (suc (reach ρ s)) ≡ split → Stop ρ s

stop : (ρ : Room) (s : State) → Stop ρ s
unfolding stopped
stop ρ s = go (eqb (reach ρ s) ρ.rows) (outcome ρ s (suc (reach ρ s))) refl refl (reaches ρ s)
  where
    go : (b : Bool) (o : Outcome) → eqb (reach ρ s) ρ.rows ≡ b → outcome ρ s (suc (reach ρ s)) ≡ o → reach ρ s ≤ ρ.rows → Stop ρ s
    go true o e d h = ended (rw e) (eqb-true (reach ρ s) ρ.rows e)
    go false unchosen e d h = let n = eqb-false (reach ρ s) ρ.rows e in at_unchosen (rw (e, d)) (omega arith) d
    go false (agreed v) e d h = let n = eqb-false (reach ρ s) ρ.rows e in absurd (next_open ρ s (omega arith) (rw d tt))
    go false split e d h = let n = eqb-false (reach ρ s) ρ.rows e in at_split (rw (e, d)) (omega arith) d

pub stops_ended : StopsEnded
stops_ended ρ s = go (stop ρ s)
  where
    go : Stop ρ s → (stopped ρ s ≡ 0) ↔ (reach ρ s ≡ ρ.rows)
    go (ended k e) = (λ d. e, λ d. k)
    go (at_unchosen k l e) = (λ d. absurd (omega arith), λ d. absurd (omega arith))
    go (at_split k l e) = (λ d. absurd (omega arith), λ d. absurd (omega arith))

pub stops_unchosen : StopsUnchosen
stops_unchosen ρ s = go (stop ρ s)
  where
    go : Stop ρ s → (stopped ρ s ≡ 1) ↔ ((reach ρ s < ρ.rows) × (outcome ρ s (suc (reach ρ s)) ≡ unchosen))
    go (ended k e) = (λ d. absurd (omega arith), λ d. absurd (omega (arith, d.0)))
    go (at_unchosen k l e) = (λ d. (l, e), λ d. k)
    go (at_split k l e) = (λ d. absurd (omega arith), λ d. let z : ◌≡◌ {A = ℕ} 0 1 = cc d.1 in absurd (omega arith))

pub stops_split : StopsSplit
stops_split ρ s = go (stop ρ s)
  where
    go : Stop ρ s → (stopped ρ s ≡ 2) ↔ ((reach ρ s < ρ.rows) × (outcome ρ s (suc (reach ρ s)) ≡ split))
    go (ended k e) = (λ d. absurd (omega arith), λ d. absurd (omega (arith, d.0)))
    go (at_unchosen k l e) = (λ d. absurd (omega arith), λ d. let z : ◌≡◌ {A = ℕ} 0 1 = cc d.1 in absurd (omega arith))
    go (at_split k l e) = (λ d. (l, e), λ d. k)
