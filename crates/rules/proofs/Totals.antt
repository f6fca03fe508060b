-- The tubes entered and the tubes waiting are the tubes scanned, since every chosen tube is on intake.
use mathlib.Core.Path.{◌≡◌, refl, sym, ◌∙◌}
use mathlib.Core.Bool.{Bool, true, false, not, ◌&&◌}
use mathlib.Core.Logic.{◌⊎◌, inl, inr}
use mathlib.Core.List.Memᴰ
use mathlib.Core.List.{List, [], ◌∷◌, ◌++◌, Memᴰ}
use Prim.Native.Nat.{ℕ, zero, suc, ◌+◌, ◌≤◌, ◌<◌}
use native.Mathlib.Nat.{zero-add}
use native.Mathlib.Decide.{ℕ_discrete}
use native.Mathlib.Omega.{arith}
use borrow.Author.Tests.{eq-eqb, ne_eqb}
use lib.Dec.{T, eqb, leb→le, ltb→lt}
use lib.ListN.{length}
use Rattle.rules.specs.Tests.{any, all, bit, all_in, one, count, first}
use Rattle.rules.specs.Words.{m2b, Room, State}
use Rattle.rules.specs.Lent.{tables, share, scanned}
use Rattle.rules.specs.Steps.{is2b, chosen}
use Rattle.rules.specs.Book.{book_of, waiting_of}
use Rattle.rules.specs.Laws.{occurs, entered, Voids, ChosenScanned, FromForm, Totals}
use Rattle.rules.proofs.Overlap.{pigeon}
use Rattle.rules.proofs.Sound.{and_l, any_sound, all_sound, in_sound, same_msg_equal, clear}
use Rattle.rules.proofs.Outcome.{in_some_ballot, one-chosen}
use Rattle.rules.proofs.Book.{entry-most, book_row, waiting_scanned}
use Rattle.rules.proofs.OneLine.{occurs-append, one_line}

-- ---- how many numbers of a list are not 0

pub entered-append : (l m : List ℕ) → entered (l ++ m) ≡ entered l + entered m
entered-append [] m = sym (zero-add (entered m))
entered-append (x ∷ l) m = omega (arith, entered-append l m)

entered_all : (l : List ℕ) → ((x : ℕ) → Memᴰ x l → 1 ≤ x) → entered l ≡ length l
entered_all [] h = refl
entered_all (x ∷ l) h =
    let e : eqb x 0 ≡ false = ne_eqb x 0 (λ d. omega (arith, h x (Memᴰ.head refl))) in
    rw e (omega (arith, entered_all l (λ y m. h y (Memᴰ.tail m))))

entered-zeros : (l : List ℕ) → entered l + occurs 0 l ≡ length l
entered-zeros [] = refl
entered-zeros (x ∷ l) = go (eqb x 0) (entered-zeros l)
  where
    go : (b : Bool) → entered l + occurs 0 l ≡ length l → one (not b) + entered l + (one b + occurs 0 l) ≡ suc (length l)
    go true h = omega arith
    go false h = omega arith

pub zeros : Voids
zeros l = omega (arith, entered-zeros l)

sum_to : (ℕ → ℕ) → ℕ → ℕ
sum_to f zero = 0
sum_to f (suc k) = f (suc k) + sum_to f k

sum-add : (f g : ℕ → ℕ) (k : ℕ) → sum_to (λ t. f t + g t) k ≡ sum_to f k + sum_to g k
unfolding sum_to
sum-add f g zero = refl
sum-add f g (suc k) = omega (arith, sum-add f g k)

sum_same : (c : ℕ) (f : ℕ → ℕ) (k : ℕ) → ((t : ℕ) → 1 ≤ t → t ≤ k → f t ≡ c) → sum_to f k ≡ sum_to (λ t. c) k
unfolding sum_to
sum_same c f zero h = refl
sum_same c f (suc k) h = omega (arith, h (suc k) (omega arith) (omega arith), sum_same c f k (λ t a b. h t a (omega arith)))

sum_none : (k : ℕ) → sum_to (λ t. 0) k ≡ 0
unfolding sum_to
sum_none zero = refl
sum_none (suc k) = omega (arith, sum_none k)

sum_ones : (k : ℕ) → sum_to (λ t. 1) k ≡ k
unfolding sum_to
sum_ones zero = refl
sum_ones (suc k) = omega (arith, sum_ones k)

-- a number up to k that is not 0 is one of those from 1 to k
sum_hit : (x k : ℕ) → x ≤ k → sum_to (λ t. one (eqb x t)) k ≡ one (not (eqb x 0))
unfolding sum_to
sum_hit x zero h = let e : x ≡ 0 = omega arith in rw e
sum_hit x (suc k) h = go (λ l. sum_hit x k l) (ℕ_discrete x (suc k))
  where
    miss : suc k ≡ x → sum_to (λ t. one (eqb x t)) k ≡ 0
    miss e = sum_same 0 (λ t. one (eqb x t)) k (λ t a b. rw (ne_eqb x t (λ d. omega arith))) ∙ sum_none k

    go : (x ≤ k → sum_to (λ t. one (eqb x t)) k ≡ one (not (eqb x 0))) → Dec (x ≡ suc k) → one (eqb x (suc k)) + sum_to (λ t. one (eqb x t)) k ≡ one (not (eqb x 0))
    go r (yes e) = rw (miss (sym e), eq-eqb x (suc k) e, ne_eqb x 0 (λ d. omega arith))
    go r (no e) = rw (ne_eqb x (suc k) e, r (omega arith), zero-add)

entered-sum : (k : ℕ) (l : List ℕ) → ((x : ℕ) → Memᴰ x l → x ≤ k) → entered l ≡ sum_to (λ t. occurs t l) k
entered-sum k [] h = sym (sum_none k)
entered-sum k (x ∷ l) h =
    omega (arith, sum-add (λ t. one (eqb x t)) (λ t. occurs t l) k, sum_hit x k (h x (Memᴰ.head refl)), entered-sum k l (λ y m. h y (Memᴰ.tail m)))

-- a list of numbers up to k that has each from 1 to k once has k numbers that are not 0
pub each_once : (k : ℕ) (l : List ℕ) → ((x : ℕ) → Memᴰ x l → x ≤ k) → ((t : ℕ) → 1 ≤ t → t ≤ k → occurs t l ≡ 1) → entered l ≡ k
each_once k l h f = entered-sum k l h ∙ sum_same 1 (λ t. occurs t l) k f ∙ sum_ones k

-- ---- totals

pub totals : Totals
totals ρ s h =
    let e = entered_all (waiting_of ρ s) (λ x m. (waiting_scanned ρ s x m).0) in
    let a = each_once (length s.intake) (book_of ρ s ++ waiting_of ρ s) (λ x m. low x (Memᴰ.append_cases (book_of ρ s) m))
    (λ t l k. occurs-append t (book_of ρ s) (waiting_of ρ s) ∙ one_line ρ s t l k) in
    omega (arith, entered-append (book_of ρ s) (waiting_of ρ s))
  where
    low : (x : ℕ) → Memᴰ x (book_of ρ s) ⊎ Memᴰ x (waiting_of ρ s) → x ≤ length s.intake
    low x (inl m) = let z = book_row ρ s x m in omega (arith, entry-most ρ s (length s.intake) h z.0, z.3)
    low x (inr m) = (waiting_scanned ρ s x m).1

-- ---- chosen tubes are on intake

count_none : (n : ℕ) → count (λ k. false) n ≡ 0
unfolding count
count_none zero = refl
count_none (suc n) = omega (arith, count_none n)

-- a quorum of a room whose tables pass has a node
pub some_node : (ρ : Room) (q : ℕ) → first (tables ρ) ≡ 0 → Memᴰ q ρ.quorums → (a : ℕ) × (a < ρ.nodes) × T (bit q a)
some_node ρ q e m =
    let c = clear (tables ρ) tt e in
    let w = all_sound (share ρ q) ρ.quorums (all_sound (λ p. all (share ρ p) ρ.quorums) ρ.quorums c.1.0 q m) q m in
    let l = ltb→lt ρ.faulty (count (λ n. bit q n && bit q n) ρ.nodes) w in
    let z = pigeon (λ n. bit q n && bit q n) (λ k. false) ρ.nodes (omega (arith, count_none ρ.nodes)) in
    let t : T (bit q z.0 && bit q z.0) = rw z.2 tt in
    (z.0, z.1, and_l (bit q z.0) (bit q z.0) t)

voted : (ρ : Room) (s : State) (r b v : ℕ) → first (tables ρ) ≡ 0 → T (chosen ρ s r b v) → (a : ℕ) × Memᴰ (m2b r b a v) s.board
voted ρ s r b v e t =
    let q = any_sound (λ q. all_in ρ.nodes q (λ a. any (is2b r b v a) s.board)) ρ.quorums t in
    let a = some_node ρ q.0 e q.1 in
    let x = any_sound (is2b r b v a.0) s.board (in_sound ρ.nodes q.0 (λ a. any (is2b r b v a) s.board) q.2 a.0 a.1 a.2) in
    (a.0, rw (same_msg_equal x.0 (m2b r b a.0 v) x.2) at x.1)

pub chosen-scanned : ChosenScanned
unfolding scanned
chosen-scanned ρ s e f r v t =
    let z = (in_some_ballot ρ s r v).0 t in
    let x = voted ρ s r z.0 v e z.2 in
    leb→le v (length s.intake) (all_sound (scanned (length s.intake)) s.board f (m2b r z.0 x.0 v) x.1)

pub from_form : FromForm
from_form ρ s e f r v d = chosen-scanned ρ s e f r v ((one-chosen ρ s r v).0 d).0.1
